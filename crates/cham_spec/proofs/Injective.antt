-- Each round can be undone: XOR, addition and rotation cancel on the word that leaves the state, and the others only move.
-- So under every key no two blocks share an image. All of it is over the width w, a multiple of 8.
use mathlib.Core.Path.{◌≡◌, sym, ap, ap₂, ◌∙◌, subst}
use mathlib.Core.List.{List, ◌++◌}
use Prim.Native.Nat.{ℕ, zero, suc, ◌+◌, ◌*◌, ◌/◌, ◌%◌, ◌^◌, ◌≤◌, ◌<◌}
use native.Mathlib.Omega.{arith}
use lib.Pow.{pow_mono}
use lib.ListN.{length, get_or, take, length-append}
use lib.Seq.{take_all, take-add}
use Rattle.block.specs.Words.{rotl, xor}
use Rattle.block.specs.Bytes.{AllBytes, bytes, word}
use Rattle.block.proofs.XorLaws.{below, cancel_r}
use Rattle.block.proofs.Rotate.{rotl_lt, rotl_inj}
use Rattle.block.proofs.Add.{add_lt, add_cancel_r}
use Rattle.block.proofs.Lists.{all_append, append_inj}
use Rattle.block.proofs.Bytes.{length-bytes, all_bytes, bytes_inj, reach, word_lt, unpack}
use Rattle.cham_spec.specs.Cham.{State, round_keys, turned, new_word, round, rounds, state_of, bytes_of, cham}
use Rattle.cham_spec.proofs.Rounds.{same-state}

-- every word is below m
record Small (m : ℕ) (s : State) : Type 0 where
  s0 : s.s0 < m
  s1 : s.s1 < m
  s2 : s.s2 < m
  s3 : s.s3 < m

-- ---- the rounds, on words of w bits

module _ (w : ℕ) (wide : 8 ≤ w) where
  turned-inj : (p q a c b r i : ℕ) → q ≤ w → a < 2 ^ w → c < 2 ^ w → i < 2 ^ w → turned w p q a b r i ≡ turned w p q c b r i → a ≡ c
  turned-inj p q a c b r i hq ha hc hi e =
      let t = xor (rotl w p b) r in
      cancel_r i (add_cancel_r w t (below w ha hi) (below w hc hi) (rotl_inj w q hq (add_lt w (xor a i) t) (add_lt w (xor c i) t) e))

  word-inj : (odd a c b r i : ℕ) → a < 2 ^ w → c < 2 ^ w → i < 2 ^ w → new_word w odd a b r i ≡ new_word w odd c b r i → a ≡ c
  word-inj zero a c b r i ha hc hi e = turned-inj 1 8 a c b r i wide ha hc hi e
  word-inj (suc odd) a c b r i ha hc hi e = turned-inj 8 1 a c b r i (omega arith) ha hc hi e

  word_small : (odd a b r i : ℕ) → new_word w odd a b r i < 2 ^ w
  word_small zero a b r i = rotl_lt w 8 wide (add_lt w (xor a i) (xor (rotl w 1 b) r))
  word_small (suc odd) a b r i = rotl_lt w 1 (omega arith) (add_lt w (xor a i) (xor (rotl w 8 b) r))

  round_inj : (r i : ℕ) (s t : State) → Small (2 ^ w) s → Small (2 ^ w) t → i < 2 ^ w → round w r i s ≡ round w r i t → s ≡ t
  round_inj r i s t hs ht hi e =
      let p : s.s1 ≡ t.s1 = ap (λ (q : State). q.s0) e in
      let y : new_word w (i % 2) s.s0 s.s1 r i ≡ new_word w (i % 2) t.s0 t.s1 r i = ap (λ (q : State). q.s3) e in
      same-state
      (word-inj (i % 2) s.s0 t.s0 t.s1 r i hs.s0 ht.s0 hi (ap (λ (b : ℕ). new_word w (i % 2) s.s0 b r i) (sym p) ∙ y))
      p (ap (λ (q : State). q.s1) e) (ap (λ (q : State). q.s2) e)

  module _ (keys : List ℕ) where
    rounds-small : (s : State) → Small (2 ^ w) s → (i : ℕ) → Small (2 ^ w) (rounds w keys s i)
    unfolding rounds
    rounds-small s h zero = h
    rounds-small s h (suc i) =
        let g : Small (2 ^ w) (rounds w keys s i) = rounds-small s h i in
        record { s0 = g.s1; s1 = g.s2; s2 = g.s3; s3 = word_small (i % 2) (rounds w keys s i).s0 (rounds w keys s i).s1 (get_or keys (i % (2 * 128 / w)) 0) i }

    rounds-inj : (s t : State) → Small (2 ^ w) s → Small (2 ^ w) t → (i : ℕ) → i ≤ 2 ^ w → rounds w keys s i ≡ rounds w keys t i → s ≡ t
    unfolding rounds
    rounds-inj s t hs ht zero h e = e
    rounds-inj s t hs ht (suc i) h e =
        rounds-inj s t hs ht i (omega arith)
        (round_inj (get_or keys (i % (2 * 128 / w)) 0) i (rounds w keys s i) (rounds w keys t i) (rounds-small s hs i) (rounds-small t ht i) h e)

-- ---- words and bytes

module _ (w : ℕ) where
  -- the bytes of the first three words
  abbrev three : State → List ℕ
  three s = bytes (w / 8) s.s0 ++ bytes (w / 8) s.s1 ++ bytes (w / 8) s.s2

  length_two : (a b : ℕ) → length (bytes (w / 8) a ++ bytes (w / 8) b) ≡ 2 * (w / 8)
  length_two a b = length-append (bytes (w / 8) a) (bytes (w / 8) b) ∙ omega (arith, length-bytes (w / 8) a, length-bytes (w / 8) b)

  length_three : (s : State) → length (three s) ≡ 3 * (w / 8)
  length_three s =
      length-append (bytes (w / 8) s.s0 ++ bytes (w / 8) s.s1) (bytes (w / 8) s.s2)
      ∙ omega (arith, length_two s.s0 s.s1, length-bytes (w / 8) s.s2)

  length-state : (s : State) → length (bytes_of w s) ≡ 4 * (w / 8)
  length-state s = length-append (three s) (bytes (w / 8) s.s3) ∙ omega (arith, length_three s, length-bytes (w / 8) s.s3)

  all-state : (s : State) → AllBytes (bytes_of w s)
  all-state s =
      let b = all_bytes (w / 8) in
      all_append (three s) (bytes (w / 8) s.s3)
      (all_append (bytes (w / 8) s.s0 ++ bytes (w / 8) s.s1) (bytes (w / 8) s.s2)
      (all_append (bytes (w / 8) s.s0) (bytes (w / 8) s.s1) (b s.s0) (b s.s1)) (b s.s2)) (b s.s3)

  -- a state is known by its bytes
  bytes_tell : (s t : State) → Small (256 ^ (w / 8)) s → Small (256 ^ (w / 8)) t → bytes_of w s ≡ bytes_of w t → s ≡ t
  bytes_tell s t hs ht e =
      let n : (a b : ℕ) → length (bytes (w / 8) a) ≡ length (bytes (w / 8) b) = λ a b. length-bytes (w / 8) a ∙ sym (length-bytes (w / 8) b) in
      let p = append_inj (three s) (bytes (w / 8) s.s3) (three t) (bytes (w / 8) t.s3) (length_three s ∙ sym (length_three t)) e in
      let q = append_inj (bytes (w / 8) s.s0 ++ bytes (w / 8) s.s1) (bytes (w / 8) s.s2) (bytes (w / 8) t.s0 ++ bytes (w / 8) t.s1) (bytes (w / 8) t.s2)
      (length_two s.s0 s.s1 ∙ sym (length_two t.s0 t.s1)) p.0 in
      let r = append_inj (bytes (w / 8) s.s0) (bytes (w / 8) s.s1) (bytes (w / 8) t.s0) (bytes (w / 8) t.s1) (n s.s0 t.s0) q.0 in
      same-state (bytes_inj (w / 8) hs.s0 ht.s0 r.0) (bytes_inj (w / 8) hs.s1 ht.s1 r.1)
      (bytes_inj (w / 8) hs.s2 ht.s2 q.1) (bytes_inj (w / 8) hs.s3 ht.s3 p.1)

  state_small : (l : List ℕ) → AllBytes l → Small (256 ^ (w / 8)) (state_of w l)
  state_small l h =
      record { s0 = word_lt (w / 8) l 0 h; s1 = word_lt (w / 8) l (w / 8) h; s2 = word_lt (w / 8) l (2 * (w / 8)) h; s3 = word_lt (w / 8) l (3 * (w / 8)) h }

  -- and a block by its words
  whole : (l : List ℕ) → length l ≡ 4 * (w / 8) → AllBytes l → bytes_of w (state_of w l) ≡ l
  whole l e h =
      let n = w / 8 in
      let more : (k j : ℕ) (p : List ℕ) → j ≡ k + n → k + n ≤ length l → p ≡ take k l → p ++ bytes n (word n l k) ≡ take j l
      = λ k j p q g t. ap₂ (λ (x y : List ℕ). x ++ y) t (unpack n l k h g) ∙ sym (take-add k n l) ∙ ap (λ (i : ℕ). take i l) (sym q) in
      more (3 * n) (4 * n) _ (omega arith) (omega arith)
      (more (2 * n) (3 * n) _ (omega arith) (omega arith)
      (more n (2 * n) _ (omega arith) (omega arith) (unpack n l 0 h (omega arith))))
      ∙ take_all (4 * n) l (omega arith)

-- ---- the theorems

-- the image of a block is a block
pub image : (w : ℕ) (key block : List ℕ) → (length (cham w key block) ≡ 4 * (w / 8)) × AllBytes (cham w key block)
unfolding cham
image w key block = (length-state w _, all-state w _)

-- after n rounds no two blocks have the same words
blocks_tell : (w : ℕ) → 8 ≤ w → w % 8 ≡ 0 → (keys l m : List ℕ) → length l ≡ 4 * (w / 8) → length m ≡ 4 * (w / 8) → AllBytes l → AllBytes m
    → (n : ℕ) → bytes_of w (rounds w keys (state_of w l) n) ≡ bytes_of w (rounds w keys (state_of w m) n) → n ≤ 2 ^ w → l ≡ m
blocks_tell w wide whole-bytes keys l m nl nm hl hm n e r =
    let z : 8 * (w / 8) ≡ w = omega arith in
    let b : 256 ^ (w / 8) ≡ 2 ^ w = reach (w / 8) ∙ ap (λ (n : ℕ). 2 ^ n) z in
    let up : (s : State) → Small (256 ^ (w / 8)) s → Small (2 ^ w) s = λ s. subst (λ (n : ℕ). Small n s) b in
    let down : (s : State) → Small (2 ^ w) s → Small (256 ^ (w / 8)) s = λ s. subst (λ (n : ℕ). Small n s) (sym b) in
    let sl : Small (2 ^ w) (state_of w l) = up (state_of w l) (state_small w l hl) in
    let sm : Small (2 ^ w) (state_of w m) = up (state_of w m) (state_small w m hm) in
    let rl : State = rounds w keys (state_of w l) n in
    let rm : State = rounds w keys (state_of w m) n in
    sym (whole w l nl hl)
    ∙ ap (bytes_of w) (rounds-inj w wide keys (state_of w l) (state_of w m) sl sm n r
    (bytes_tell w rl rm (down rl (rounds-small w wide keys (state_of w l) sl n)) (down rm (rounds-small w wide keys (state_of w m) sm n)) e))
    ∙ whole w m nm hm

-- under every key no two blocks share an image
pub injective : (w : ℕ) → 8 ≤ w → w % 8 ≡ 0 → (key l m : List ℕ) → length l ≡ 4 * (w / 8) → length m ≡ 4 * (w / 8) → AllBytes l → AllBytes m
    → cham w key l ≡ cham w key m → l ≡ m
unfolding cham
injective w wide whole-bytes key l m nl nm hl hm e =
    blocks_tell w wide whole-bytes (round_keys w key) l m nl nm hl hm _ e (omega (arith, pow_mono wide))
