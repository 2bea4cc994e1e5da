-- Two bytes at the front.
use mathlib.Core.List.{List, ◌++◌}
use mathlib.Core.Path.{◌≡◌, ap, ◌∙◌}
use Prim.Native.Nat.{ℕ}
use lib.ListN.{drop}
use Rattle.block.specs.Bytes.{bytes}
use Rattle.block.proofs.LeBytes.{low_first}
use Rattle.shift_draft.specs.Put.{put}
use Rattle.shift_draft.specs.Files.{in_edition}
use Rattle.shift_writer.proofs.rows.put_edition.Goals as goal

pub returns : goal.returns
unfolding in_edition put bytes
returns c = ap (λ (x : List ℕ). x ++ drop 2 c.args.out.now) (c.copy_from_slice.ensures.after ∙ c.to_le_bytes.ensures ∙ low_first 2 c.args.edition)
