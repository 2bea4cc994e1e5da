-- By citation: each cipher's own laws, the contract of `aes_plain::sbox_table`, and the field's inverse.
use Rattle.aes_spec.proofs.Inverse.{inverse_is, inverse-only}
use Rattle.cipher.proofs.Lawful.{lawful}
use Rattle.promises.specs.Ciphers.{Ciphers}

pub ciphers : Ciphers
ciphers =
    record {
      all-lawful = λ suite h. lawful suite;
      sbox-rule = λ κs a x. x.ensures;
      inverse-rule = λ x h. (inverse_is x h, λ y i. inverse-only x y h i);
    }
