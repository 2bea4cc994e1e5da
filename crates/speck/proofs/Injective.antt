-- Each round can be undone: XOR, addition and rotation cancel, word by word. So under every key no two blocks share an image.
use mathlib.Core.Path.{◌≡◌, sym, ap, ap₂, ◌∙◌}
use mathlib.Core.List.{List, ◌++◌}
use Prim.Native.Nat.{ℕ, zero, suc, ◌^◌, ◌≤◌, ◌<◌}
use native.Mathlib.Omega.{arith}
use lib.ListN.{length, length-append}
use Rattle.block.specs.Words.{rotl, rotr, add, xor}
use Rattle.block.specs.Bytes.{AllBytes, bytes}
use Rattle.block.proofs.XorLaws.{below, cancel_r}
use Rattle.block.proofs.Rotate.{rotl_lt, rotl_inj}
use Rattle.block.proofs.Add.{add_lt, add_cancel_r}
use Rattle.block.proofs.Lists.{all_append, two-takes, append_inj}
use Rattle.block.proofs.Bytes.{length-bytes, all_bytes, bytes_inj, word_lt, unpack}
use Rattle.speck.specs.Speck.{State, upper, lower, round, start, schedule, rounds, state_of, bytes_of, speck}
use Rattle.speck.proofs.Parts.{same-state}

-- both words are below 2 ^ 32
record Small (x : State) : Type 0 where
  hi : x.x1 < 2 ^ 32
  lo : x.x0 < 2 ^ 32

state_small : (l : List ℕ) → AllBytes l → Small (state_of l)
state_small l h = record { hi = word_lt 4 l 4 h; lo = word_lt 4 l 0 h }

round_small : (x : State) (r : ℕ) → Small x → r < 2 ^ 32 → Small (round x r)
round_small x r s h =
    let u : upper x.x1 x.x0 r < 2 ^ 32 = below 32 (add_lt 32 _ _) h in
    record { hi = u; lo = below 32 (rotl_lt 32 3 (omega arith) s.lo) u }

round_inj : (x y : State) (r : ℕ) → Small x → Small y → round x r ≡ round y r → x ≡ y
round_inj x y r sx sy e =
    let u : upper x.x1 x.x0 r ≡ upper y.x1 y.x0 r = ap (λ (q : State). q.x1) e in
    let v : lower x.x1 x.x0 r ≡ lower y.x1 y.x0 r = ap (λ (q : State). q.x0) e in
    let lo : x.x0 ≡ y.x0
    = rotl_inj 32 3 (omega arith) sx.lo sy.lo (cancel_r (upper y.x1 y.x0 r) (ap (xor (rotl 32 3 x.x0)) (sym u) ∙ v)) in
    let s : add 32 (rotr 32 8 x.x1) y.x0 ≡ add 32 (rotr 32 8 y.x1) y.x0
    = ap (add 32 (rotr 32 8 x.x1)) (sym lo) ∙ cancel_r r u in
    same-state
    (rotl_inj 32 24 (omega arith) sx.hi sy.hi
    (add_cancel_r 32 y.x0 (rotl_lt 32 24 (omega arith) sx.hi) (rotl_lt 32 24 (omega arith) sy.hi) s)) lo

module _ (key : List ℕ) (hk : AllBytes key) where
  key-small : (i : ℕ) → i ≤ 27 → (schedule (start key) i).r < 2 ^ 32
  unfolding schedule
  key-small zero h = word_lt 4 key 0 hk
  key-small (suc i) h =
      below 32 (rotl_lt 32 3 (omega arith) (key-small i (omega arith))) (below 32 (add_lt 32 _ _) (omega arith))

  rounds-small : (x : State) → Small x → (i : ℕ) → i ≤ 27 → Small (rounds (start key) x i)
  unfolding rounds
  rounds-small x s zero h = s
  rounds-small x s (suc i) h =
      round_small (rounds (start key) x i) (schedule (start key) i).r (rounds-small x s i (omega arith)) (key-small i (omega arith))

  rounds-inj : (x y : State) → Small x → Small y → (i : ℕ) → i ≤ 27 → rounds (start key) x i ≡ rounds (start key) y i → x ≡ y
  unfolding rounds
  rounds-inj x y sx sy zero h e = e
  rounds-inj x y sx sy (suc i) h e =
      rounds-inj x y sx sy i (omega arith)
      (round_inj (rounds (start key) x i) (rounds (start key) y i) (schedule (start key) i).r
      (rounds-small x sx i (omega arith)) (rounds-small y sy i (omega arith)) e)

-- a state is known by its bytes
bytes_tell : (x y : State) → Small x → Small y → bytes_of x ≡ bytes_of y → x ≡ y
bytes_tell x y sx sy e =
    let p = append_inj (bytes 4 x.x0) (bytes 4 x.x1) (bytes 4 y.x0) (bytes 4 y.x1) (length-bytes 4 x.x0 ∙ sym (length-bytes 4 y.x0)) e in
    same-state (bytes_inj 4 sx.hi sy.hi p.1) (bytes_inj 4 sx.lo sy.lo p.0)

-- and a block by its words
whole : (l : List ℕ) → length l ≡ 8 → AllBytes l → bytes_of (state_of l) ≡ l
whole l n h =
    ap₂ (λ (p q : List ℕ). p ++ q) (unpack 4 l 0 h (omega arith)) (unpack 4 l 4 h (omega arith)) ∙ two-takes 4 l n

-- the image of a block is a block
pub image : (key block : List ℕ) → (length (speck key block) ≡ 8) × AllBytes (speck key block)
unfolding speck
image key block =
    let x : State = rounds (start key) (state_of block) 27 in
    let p : List ℕ = bytes 4 x.x0 in
    let q : List ℕ = bytes 4 x.x1 in (
      length-append p q ∙ omega (arith, length-bytes 4 x.x0, length-bytes 4 x.x1),
      all_append p q (all_bytes 4 x.x0) (all_bytes 4 x.x1),
    )

-- under every key of bytes no two blocks of eight bytes share an image
pub injective : (key l m : List ℕ) → AllBytes key → length l ≡ 8 → length m ≡ 8 → AllBytes l → AllBytes m
    → speck key l ≡ speck key m → l ≡ m
unfolding speck
injective key l m hk nl nm hl hm e =
    let sl : Small (state_of l) = state_small l hl in
    let sm : Small (state_of m) = state_small m hm in
    sym (whole l nl hl)
    ∙ ap bytes_of (rounds-inj key hk (state_of l) (state_of m) sl sm 27 (omega arith)
    (bytes_tell (rounds (start key) (state_of l) 27) (rounds (start key) (state_of m) 27)
    (rounds-small key hk (state_of l) sl 27 (omega arith)) (rounds-small key hk (state_of m) sm 27 (omega arith)) e))
    ∙ whole m nm hm
