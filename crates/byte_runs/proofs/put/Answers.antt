-- `byte_runs::put` meets its contract: a full block by whole words, a short one byte by byte.
use mathlib.Core.Path.{ap, ◌∙◌}
use mathlib.Core.Logic.{inl, inr}
use lib.ListN.{length, take}
use Rattle.byte_runs.proofs.put.Goals as goal

pub put_whole-requires : goal.put_whole-requires
put_whole-requires c = inl c.if-out-eq16.true

pub returns-then-out-eq16 : goal.returns-then-out-eq16
returns-then-out-eq16 c = c.put_whole.ensures

pub put_whole-requires-then-out-eq8 : goal.put_whole-requires-then-out-eq8
put_whole-requires-then-out-eq8 c = inr c.if-out-eq8.true

pub returns-then-out-eq8 : goal.returns-then-out-eq8
returns-then-out-eq8 c = c.put_whole-then-out-eq8.ensures

pub returns : goal.returns
returns c =
    c.put_bytes.ensures ∙ ap (take (length c.args.out.now)) c.bytes_of.ensures
