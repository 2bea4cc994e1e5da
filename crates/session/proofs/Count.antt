-- How many bytes a call writes: a message part as many as the whole blocks of the held bytes and its own, the end what is held.
use mathlib.Core.Path.{◌≡◌, sym, ap, ap₂, ◌∙◌}
use mathlib.Core.Bool.{false}
use Prim.Native.Nat.{ℕ, zero, suc, ◌+◌, ◌*◌, ◌/◌, ◌%◌, ◌≤◌, ◌<◌, min}
use native.Mathlib.Nat.{le_refl, mod-lt}
use native.Mathlib.Omega.{arith}
use native.Mathlib.Decide.{dec_le}
use mathlib.Core.List.{List, [], ◌∷◌, ◌++◌}
use lib.ListN.{length, take, drop, length-append, length-take, length-drop}
use lib.Seq.{length-take-le}
use Rattle.block.proofs.Lists.{nil_of}
use Rattle.cipher.specs.Cipher.{Cipher, Lawful, cipher_of}
use Rattle.cipher.proofs.Lawful.{lawful}
use Rattle.cipher.proofs.Suites.{size_most}
use Rattle.mode.specs.Blocks.{blocks}
use Rattle.mode.proofs.Blocks.{blocks-nil, blocks_more}
use Rattle.mode.proofs.Chain.{some, length-masked}
use Rattle.mode.specs.Walk.{States, chain_of, mark_of, whole, turned, hidden, covered}
use Rattle.session.specs.Value.{Value, held_of, begun, first_mark, blocks_out, part_out, end_out}
use Rattle.mode.proofs.Cut.{length_whole}
use Rattle.mode.proofs.Walk.{hidden-chain}

module _ (κ : Cipher) (L : Lawful κ) (short : ℕ) where
  hidden-long : (m : ℕ) (s : States) (b : List ℕ) → length b ≤ κ.size → length (hidden κ m s b) ≡ length b
  hidden-long m s b h = ap length (sym (hidden-chain κ m s b [])) ∙ length-masked κ L (chain_of κ.version s (m ∷ [])) b h

  none-long : (m : ℕ) (s : States) (l : List ℕ) → length l ≡ 0 → length (covered κ false m short s (blocks κ.size l)) ≡ length l
  unfolding covered
  none-long m s l e = ap (λ (x : List ℕ). length (covered κ false m short s (blocks κ.size x))) (nil_of l e)
      ∙ ap (λ (bs : List (List ℕ)). length (covered κ false m short s bs)) (blocks-nil κ.size (some κ L)) ∙ sym e

  covered-long : (f : ℕ) (m : ℕ) (s : States) (l : List ℕ) → length l ≤ f → length (covered κ false m short s (blocks κ.size l)) ≡ length l
  unfolding covered
  covered-long zero m s l h = none-long m s l (omega arith)
  covered-long (suc f) m s l h =
      elim (dec_le 1 (length l)) [
        | yes p ↦
            let n = κ.size in
            let b : List ℕ = take n l in
            let lb : length b ≡ min n (length l) = length-take n l in
            let ih = covered-long f 0 (turned κ (mark_of κ m short b) s b) (drop n l) (omega (arith, length-drop n l, some κ L)) in
            ap (λ (bs : List (List ℕ)). length (covered κ false m short s bs)) (blocks_more n (some κ L) l p)
            ∙ length-append (hidden κ (mark_of κ m short b) s b) _
            ∙ ap₂ (λ (x y : ℕ). x + y) (hidden-long (mark_of κ m short b) s b (omega arith)) ih
            ∙ omega (arith, length-drop n l)
        | no p ↦ none-long m s l (omega arith)
      ]

module _ (v : Value) (held : length v.held ≡ 16) where
  abbrev κ : Cipher
  κ = cipher_of v.suite

  held-long : length (held_of κ v v.text_total) ≡ v.text_total % κ.size
  held-long =
      let h : v.text_total % κ.size < κ.size = mod-lt v.text_total (some κ (lawful v.suite)) in
      length-take-le (v.text_total % κ.size) v.held (omega (arith, size_most v.suite, h))

  pub part_count : (p : List ℕ) → length (part_out κ v p) ≡ (v.text_total % κ.size + length p) / κ.size * κ.size
  unfolding part_out blocks_out
  part_count p =
      let l : List ℕ = held_of κ v v.text_total ++ p in
      covered-long κ (lawful v.suite) 0x40 (length (whole κ.size l)) (first_mark κ 0x20 v.text_total) (begun κ v) (whole κ.size l)
      (le_refl (length (whole κ.size l)))
      ∙ length_whole κ.size (some κ (lawful v.suite)) l
      ∙ ap (λ (k : ℕ). k / κ.size * κ.size) (length-append (held_of κ v v.text_total) p ∙ ap (λ (k : ℕ). k + length p) held-long)

  pub end-count : length (end_out κ v) ≡ v.text_total % κ.size
  unfolding end_out blocks_out
  end-count =
      let l : List ℕ = held_of κ v v.text_total in
      covered-long κ (lawful v.suite) 0x40 (length l) (first_mark κ 0x20 v.text_total) (begun κ v) l (le_refl (length l)) ∙ held-long
