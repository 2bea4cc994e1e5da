-- The count of blocks (`Counted`): none changes nothing, blocks after blocks add up, and what `block_walk` and `block_step` say
-- of the code's state gives it.
use mathlib.Core.Path.{◌≡◌, refl, sym, ap, ◌∙◌}
use mathlib.Core.Bool.{Bool, cond}
use Prim.Native.Nat.{ℕ, zero, suc, ◌+◌, ◌-◌, ◌^◌, ◌%◌, ◌<◌}
use native.Mathlib.Nat.{mod-add-mod, mod-eq_of_lt}
use native.Mathlib.Omega.{arith}
use native.Mathlib.Decide.{dec_le}
use mathlib.Core.List.{List}
use lib.ListN.{length, drop, replicate}
use lib.Dec.{ltb}
use borrow.Author.Tests.{lt-ltb, le-ltb}
use Rattle.block.specs.Blocks.{wide}
use Rattle.block.specs.Words.{add}
use Rattle.cipher.specs.Cipher.{size_of, cipher_of}
use Rattle.cipher.proofs.Lawful.{lawful}
use Rattle.mode.proofs.Chain.{some}
use Rattle.block_state.specs.declared.State.{State}
use Rattle.block_state.specs.Two.{two_of, Clean, one_more_of}
use Rattle.block_state.proofs.Outcomes.{Small, state_told}
use Rattle.block_walk.specs.declared.Progress.{Progress}
use Rattle.block_walk.specs.Progress.{wholes, Passed}
use Rattle.block_walk.proofs.Front.{short-blocks, turn-blocks}
use Rattle.block_walk.specs.Counted.{unused, Counted}

-- no block
pub counted_none : (suite : ℕ) (s : State) → s.calls < 2 ^ 64 → Counted suite 0 s s
counted_none suite s h =
    let e : s.calls + 0 ≡ s.calls = omega arith in
    record { beside = refl; made = sym (ap (λ (x : ℕ). x % 2 ^ 64) e ∙ mod-eq_of_lt h) }

-- k blocks after j
unused_then : (suite j k : ℕ) (x y z : List ℕ) → y ≡ unused suite j x → z ≡ unused suite k y → z ≡ unused suite (j + k) x
unused_then suite j zero x y z e f =
    let q : j ≡ j + 0 = omega arith in
    f ∙ e ∙ ap (λ (i : ℕ). unused suite i x) q
unused_then suite j (suc k) x y z e f =
    let q : suc (j + k) ≡ j + suc k = omega arith in
    f ∙ ap (λ (i : ℕ). unused suite i x) q

pub counted_then : (suite j k : ℕ) (s t r : State) → Counted suite j s t → Counted suite k t r → Counted suite (j + k) s r
counted_then suite j k s t r a b =
    let e : s.calls + j + k ≡ s.calls + (j + k) = omega arith in
    record {
      beside = unused_then suite j k _ _ _ a.beside b.beside;
      made = b.made ∙ ap (λ (x : ℕ). add 64 x k) a.made ∙ mod-add-mod (s.calls + j) (2 ^ 64) k ∙ ap (λ (x : ℕ). x % 2 ^ 64) e;
    }

-- one block
pub counted-one : (suite : ℕ) (s r : State) → Clean suite r.y → r.calls ≡ one_more_of s.calls → Counted suite 1 s r
counted-one suite s r clean made = record { beside = clean; made = made }

-- the whole blocks of l
unused-whole : (suite : ℕ) (l x : List ℕ)
    → cond (ltb (length l) (size_of suite)) x (replicate (16 - size_of suite) 0) ≡ unused suite (length (wholes (size_of suite) l)) x
unused-whole suite l x =
    let n = size_of suite in
    let pos : 0 < n = some (cipher_of suite) (lawful suite) in
    let z : List ℕ = replicate (16 - n) 0 in
    elim (dec_le n (length l)) [
      | yes p ↦
          let q : n ≡ 0 + n = omega arith in
          ap (λ (b : Bool). cond b x z) (le-ltb (length l) n p) ∙ ap (λ (i : ℕ). unused suite i x) (sym (ap length (turn-blocks n pos l 0 n q p)))
      | no p ↦
          let h : length l < n = omega arith in
          ap (λ (b : Bool). cond b x z) (lt-ltb (length l) n h) ∙ ap (λ (i : ℕ). unused suite i x) (sym (ap length (short-blocks n pos l h)))
    ]

pub counted_passed : (suite : ℕ) (d : Bool) (m : ℕ) (s : State) (l : List ℕ) (r : Progress) → Passed suite d m s l r
    → Counted suite (length (wholes (size_of suite) l)) s r.s
counted_passed suite d m s l r h =
    record { beside = h.beside ∙ unused-whole suite l (drop (size_of suite) (wide s.y)); made = h.made }

-- the two states, the bytes beside them and the count tell the code's state
pub counted_told : (suite k : ℕ) (s r q : State) → Small r → Small q → two_of suite r ≡ two_of suite q → Counted suite k s r → Counted suite k s q → r ≡ q
counted_told suite k s r q a b e h j = state_told suite r q a b e (h.beside ∙ sym j.beside) (h.made ∙ sym j.made)
