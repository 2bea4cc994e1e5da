-- Each turn puts the piece of row i.
use mathlib.Core.List.{List}
use mathlib.Core.Path.{◌≡◌, refl, ap, ◌∙◌}
use native.Mathlib.Numerals.{add-one}
use Rattle.shift_draft.specs.Put.{put, put_all}
use Rattle.shift_draft.specs.Files.{piece_start, sealed_piece}
use Rattle.shift_writer.proofs.rows.seal_rows.Goals as goal

pub loop-i-init : goal.loop-i-init
unfolding put_all
loop-i-init c = refl

pub seal_entry-requires : goal.seal_entry-requires
seal_entry-requires c = (
  record {
    entry = c.requires.0.entries _ c.loop-i-test.true;
    ring_long = c.requires.0.ring_long;
    out-long = c.loop-i.auto.out ∙ c.requires.0.out-long;
  },
  c.requires.1.still _ c.loop-i-test.true,
)

pub loop-i-preserved : goal.loop-i-preserved
unfolding put_all
loop-i-preserved c =
    let f = c.args.file.now in
    let ring = c.args.ring.now in
    rw add-one (c.seal_entry.ensures ∙ ap (λ (l : List _). put l (piece_start f c.loop-i.i) (sealed_piece f ring c.loop-i.i)) c.loop-i.invariant)
