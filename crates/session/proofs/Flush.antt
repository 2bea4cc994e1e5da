-- The states as the message goes on, by the three cases of the code: it has begun; nothing is held; a short block is held.
use mathlib.Core.Path.{◌≡◌, sym, ap, ap₂, ◌∙◌, subst}
use mathlib.Core.Bool.{Bool, false, cond}
use Prim.Native.Nat.{ℕ, ◌-◌, ◌%◌, ◌≤◌, ◌<◌}
use native.Mathlib.Nat.{mod-lt, sub-zero}
use native.Mathlib.Omega.{arith}
use mathlib.Core.List.{List}
use lib.ListN.{length, take, drop}
use lib.Seq.{length-take-le}
use borrow.Author.Tests.{eq-eqb, ne_eqb}
use Rattle.block.specs.Words.{xor}
use Rattle.cipher.specs.Cipher.{Cipher}
use Rattle.mode.specs.Blocks.{blocks}
use Rattle.mode.specs.Walk.{States, turned, walked}
use Rattle.session.specs.Value.{Value, states, held_of, first_mark, begun}
use Rattle.block_walk.proofs.Front.{walk_none, walk-short}

module _ (κ : Cipher) (v : Value) where
  abbrev flushed : States
  flushed = walked κ false (first_mark κ 0x08 v.ad_total) 0x10 (states κ v) (blocks κ.size (held_of κ v v.ad_total))

  pub begun-on : (v.text_total ≡ 0 → ⊥) → begun κ v ≡ states κ v
  unfolding begun
  begun-on h = ap (λ (t : Bool). cond t flushed (states κ v)) (ne_eqb v.text_total 0 h)

  begun_first : v.text_total ≡ 0 → begun κ v ≡ flushed
  unfolding begun
  begun_first e = ap (λ (t : Bool). cond t flushed (states κ v)) (eq-eqb v.text_total 0 e)

  module _ (n : ℕ) (en : n ≡ κ.size) (pos : 0 < n) where
    pub begun-none : v.text_total ≡ 0 → v.ad_total % n ≡ 0 → begun κ v ≡ states κ v
    begun-none e z =
        let p : 0 < κ.size = omega arith in
        let z' : v.ad_total % κ.size ≡ 0 = subst (λ (k : ℕ). v.ad_total % k ≡ 0) en z in
        begun_first e ∙ walk_none κ p false 0x10 (first_mark κ 0x08 v.ad_total) (states κ v) (held_of κ v v.ad_total)
        (ap (λ (k : ℕ). length (take k v.held)) z')

    -- the short block as the code lends it, under the mark m that the code found
    pub begun-short : n ≤ 16 → length v.held ≡ 16 → v.text_total ≡ 0 → (v.ad_total % n ≡ 0 → ⊥) → (m : ℕ) → m ≡ first_mark κ 0x08 v.ad_total
        → turned κ (xor m 0x10) (states κ v) (take (v.ad_total % n - 0) (drop 0 v.held)) ≡ begun κ v
    begun-short most lh e h m em =
        let p : 0 < κ.size = omega arith in
        let j : ℕ = v.ad_total % κ.size in
        let ej : v.ad_total % n ≡ j = ap (λ (k : ℕ). v.ad_total % k) en in
        let lj : j < κ.size = mod-lt v.ad_total p in
        let lx : length (take j v.held) ≡ j = length-take-le j v.held (omega arith) in
        let h' : j ≡ 0 → ⊥ = λ q. h (ej ∙ q) in
        let pj : 0 < j = omega arith in
        ap₂ (λ (a : ℕ) (b : List ℕ). turned κ (xor a 0x10) (states κ v) b) em (ap (λ (k : ℕ). take k v.held) (sub-zero (v.ad_total % n) ∙ ej))
        ∙ sym (walk-short κ p false 0x10 (first_mark κ 0x08 v.ad_total) (states κ v) (take j v.held) (omega arith) (omega arith))
        ∙ sym (begun_first e)
