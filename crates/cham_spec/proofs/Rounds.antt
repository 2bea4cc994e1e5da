-- Four rounds at a time, each of which overwrites the word that leaves the state, with the round keys of four places in a row: over the width w.
use mathlib.Core.Path.{◌≡◌, sym, ap, ap₂, ◌∙◌}
use mathlib.Core.List.{List}
use Prim.Native.Nat.{ℕ, suc, ◌+◌, ◌*◌, ◌/◌, ◌%◌, ◌<◌}
use native.Mathlib.Nat.{mod-add-mod, mod-eq_of_lt}
use native.Mathlib.Omega.{arith}
use lib.ListN.{get_or}
use Rattle.cham_spec.specs.Cham.{State, state, round_keys, turned, new_word, round, rounds, state_of, bytes_of}

pub same-state : {s t : State} → s.s0 ≡ t.s0 → s.s1 ≡ t.s1 → s.s2 ≡ t.s2 → s.s3 ≡ t.s3 → s ≡ t
same-state {s} {t} a b c d = ap₂ (λ (x y : ℕ). state x y s.s2 s.s3) a b ∙ ap₂ (state t.s0 t.s1) c d

module _ (w : ℕ) (keys : List ℕ) (s : State) where
  -- how many round keys there are, 2k/w
  abbrev many : ℕ
  many = 2 * 128 / w

  -- one round, by its parity and the place of its round key
  step : (i j p at a b c d : ℕ) → j ≡ suc i → i % 2 ≡ p → i % many ≡ at → rounds w keys s i ≡ state a b c d
      → rounds w keys s j ≡ state b c d (new_word w p a b (get_or keys at 0) i)
  unfolding rounds
  step i j p at a b c d n e k h =
      ap (rounds w keys s) n ∙ ap (round w (get_or keys (i % many) 0) i) h
      ∙ ap₂ (λ (q m : ℕ). state b c d (new_word w q a b (get_or keys m 0) i)) e k

  -- the places of the next round keys, up to the last
  later : (i at k : ℕ) → i % many ≡ at → at + k < many → (i + k) % many ≡ at + k
  later i at k e h = sym (mod-add-mod i many k) ∙ ap (λ (n : ℕ). (n + k) % many) e ∙ mod-eq_of_lt h

  pub four : (i j at a b c d e f g h : ℕ) → i % 2 ≡ 0 → i % many ≡ at → at + 3 < many → j ≡ i + 4 → rounds w keys s i ≡ state a b c d
      → e ≡ turned w 1 8 a b (get_or keys at 0) i
      → f ≡ turned w 8 1 b c (get_or keys (at + 1) 0) (i + 1)
      → g ≡ turned w 1 8 c d (get_or keys (at + 2) 0) (i + 2)
      → h ≡ turned w 8 1 d e (get_or keys (at + 3) 0) (i + 3)
      → rounds w keys s j ≡ state e f g h
  four i j at a b c d e f g h m k l n z p q r t =
      let z1 : rounds w keys s (i + 1) ≡ state b c d e
      = step i (i + 1) 0 at a b c d (omega arith) m k z ∙ ap (state b c d) (sym p) in
      let z2 : rounds w keys s (i + 2) ≡ state c d e f
      = step (i + 1) (i + 2) 1 (at + 1) b c d e (omega arith) (omega arith) (later i at 1 k (omega (arith, l))) z1 ∙ ap (state c d e) (sym q) in
      let z3 : rounds w keys s (i + 3) ≡ state d e f g
      = step (i + 2) (i + 3) 0 (at + 2) c d e f (omega arith) (omega arith) (later i at 2 k (omega (arith, l))) z2 ∙ ap (state d e f) (sym r) in
      step (i + 3) j 1 (at + 3) d e f g (omega arith) (omega arith) (later i at 3 k l) z3 ∙ ap (state e f g) (sym t)

-- after the last round, the nth, the state's bytes are the image
pub done : (w : ℕ) (key block keys r : List ℕ) (i n : ℕ) {s t : State} → keys ≡ round_keys w key → s ≡ state_of w block → i ≡ n
    → rounds w keys s i ≡ t → r ≡ bytes_of w t → r ≡ bytes_of w (rounds w (round_keys w key) (state_of w block) n)
done w key block keys r i n {s} p q m e h =
    h ∙ ap (bytes_of w) (sym e ∙ ap (rounds w keys s) m ∙ ap₂ (λ (l : List ℕ) (x : State). rounds w l x n) p q)
