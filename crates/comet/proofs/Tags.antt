-- The comparison of a computed tag with a given one of the suite's length: it is that of the definition's tag.
use lib.ListN.{length, take, drop, replicate}
use mathlib.Core.Bool.{Bool}
use mathlib.Core.List.{List}
use mathlib.Core.Path.{◌≡◌, sym, ap, ◌∙◌}
use Prim.Native.Nat.{ℕ, ◌-◌}
use Rattle.block.specs.declared.Block.{Block}
use Rattle.block.specs.Blocks.{wide}
use Rattle.block.specs.Bytes.{same_bytes}
use Rattle.cipher.specs.Cipher.{size_of, cipher_of}
use Rattle.mode.specs.Mode.{tag_out}
use Rattle.comet.specs.Core.{IsTag}
use Rattle.comet.specs.declared.header.Header.{Header}

module _ {d : Bool} {h : Header} {text : List ℕ} {computed : Block} (made : IsTag d h text computed) (given : List ℕ)
    (long : length given ≡ size_of h.suite) where
  pub compared : same_bytes (take (length given) (wide computed)) given
      ≡ same_bytes (tag_out (cipher_of h.suite) d h.key.now h.nonce.now h.ad.now text) given
  compared = ap (λ (l : List ℕ). same_bytes l given) (ap (λ (n : ℕ). take n (wide computed)) long ∙ made.is)

  -- no byte of the computed tag lies after those that are compared
  pub nothing_after : drop (length given) (wide computed) ≡ replicate (16 - length given) 0
  nothing_after = ap (λ (n : ℕ). drop n (wide computed)) long ∙ made.clean ∙ sym (ap (λ (n : ℕ). replicate (16 - n) 0) long)
