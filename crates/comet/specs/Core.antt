-- What the functions under `seal`, `unseal` and `verify` promise, once every length is right.
use Rattle.std.specs.Prelude.{◌≡◌, Bool, ℕ, List, length, take}
use Rattle.block.specs.declared.Block.{Block}
use Rattle.block.specs.Blocks.{wide}
use Rattle.cipher.specs.Cipher.{size_of, cipher_of}
use Rattle.mode.specs.Mode.{text_out, tag_out, calls}
use Rattle.block_state.specs.Two.{Clean}
use Rattle.block_state.specs.declared.tag.TagAndCalls.{TagAndCalls}
use Rattle.comet.specs.declared.header.Header.{Header}

-- the tag of a text, in as many bytes as the suite's block has, and zeros after it
pub record IsTag (opening : Bool) (h : Header) (text : List ℕ) (tag : Block) : Type 0 where
  pub is : take (size_of h.suite) (wide tag) ≡ tag_out (cipher_of h.suite) opening h.key.now h.nonce.now h.ad.now text
  pub clean : Clean h.suite tag

-- a text that was sealed or opened in place, its tag, and the number of cipher calls
pub record Crypts (opening : Bool) (h : Header) (before after : List ℕ) (done : TagAndCalls) : Type 0 where
  pub text : after ≡ text_out (cipher_of h.suite) opening h.key.now h.nonce.now h.ad.now before
  pub tag : IsTag opening h before done.tag
  pub calls : done.calls ≡ length (calls (cipher_of h.suite) opening h.key.now h.nonce.now h.ad.now before)
