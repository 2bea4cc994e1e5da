-- The tag's own bytes are compared with zeros.
use lib.ListN.{length, replicate}
use mathlib.Core.Bool.{not}
use mathlib.Core.List.{List}
use mathlib.Core.Path.{◌≡◌, ap, ap₂, ◌∙◌}
use Prim.Native.Nat.{ℕ, ◌+◌}
use Rattle.block.specs.Bytes.{same_bytes}
use Rattle.cipher.specs.Cipher.{size_of}
use Rattle.shift_format.specs.declared.row.Row.{Row}
use Rattle.shift_format.specs.Format.{tag_of}
use Rattle.shift_format.proofs.Rows.{stretch-length}
use Rattle.shift_draft.specs.Answers.{tag_set}
use Rattle.shift_piece.proofs.Lending.{body_fits}
use Rattle.shift_writer.proofs.tags.tag_zero.Goals as goal

pub tag_of-requires : goal.tag_of-requires
tag_of-requires c = rw c.row_of.ensures c.requires.body-in

pub returns : goal.returns
unfolding tag_set
returns c =
    let f = c.args.file.now in
    let e : c.tag_of.result.now ≡ tag_of f c.row_of.result = c.tag_of.ensures.bytes in
    let l : length c.tag_of.result.now ≡ size_of c.row_of.result.suite = ap length e
    ∙ stretch-length f (c.row_of.result.ad_at + c.row_of.result.ad_len + c.row_of.result.text_len) (size_of c.row_of.result.suite) (body_fits f c.args.index c.row_of.result c.requires c.row_of.ensures) in
    ap not (c.all_zero.ensures ∙ ap₂ (λ (x : List ℕ) (k : ℕ). same_bytes x (replicate k 0)) e l)
    ∙ ap (λ (q : Row). not (same_bytes (tag_of f q) (replicate (size_of q.suite) 0))) c.row_of.ensures
