-- The S-box's bytes, borrowed: a shift by 8 k drops k rows, and the borrowed table is the S-box.
use mathlib.Core.Path.{ap, ◌∙◌}
use Prim.Native.Nat.{◌*◌, ◌/◌, ◌%◌, ◌^◌}
use Rattle.aes_spec.specs.Sbox.{sub_byte}
use Rattle.aes_plain.proofs.Column.{row_is}
use borrow.Author.Rules.{rules}
use Rattle.aes_plain.proofs.TableSubBytes.sub_byte.Goals as goal

pub returns : goal.returns
returns c =
    c.args.self.rule.entry (c.args.x / 2 ^ (8 * c.args.k) % 256) (search rules) ∙ ap sub_byte (row_is c.args.k c.args.x c.requires)
