-- The tests in the order of the definition, on rows, stations, nonces and bodies that lie in their files.
use mathlib.Core.Path.{◌≡◌, ap, ap₂, ◌∙◌}
use mathlib.Core.Bool.{Bool, ◌&&◌}
use lib.Dec.{eqb}
use Rattle.block.specs.Bytes.{same_bytes}
use Rattle.shift_format.specs.Format.{nonce_at, station_of}
use Rattle.shift_same.proofs.Chain.{asked, not-asked, asked-entry, not-asked-entry}
use Rattle.shift_same.proofs.same_entry.Goals.{then-same_fields, else-same_fields, then-station_of, else-station_of}
use Rattle.shift_same.proofs.same_entry.Goals as goal

pub returns-then-same : goal.returns-then-same
unfolding nonce_at
returns-then-same c =
    let f = c.args.first.now in
    let g = c.args.second.now in
    let i = c.args.i in
    let j = c.args.j in
    let nonce = same_bytes (nonce_at c.row_size_of-first_size.result f i) (nonce_at c.row_size_of-second_size.result g j) in
    let fields : c.if-same_fields.value ≡ c.same_fields.result && eqb (station_of f i) (station_of g j) =
    elim c.if-same_fields.branch [
      | then-same_fields v ↦ asked _ _ _ v.if-same_fields.true (v.value-is ∙ ap₂ eqb v.station_of.ensures v.station_of-then-same_fields.ensures)
      | else-same_fields v ↦ not-asked _ _ _ v.if-same_fields.false v.value-is
    ] in
    let nonces : c.if-station_of.value ≡ c.if-same_fields.value && nonce =
    elim c.if-station_of.branch [
      | then-station_of v ↦ asked _ _ _ v.if-station_of.true
          (v.value-is ∙ v.same.ensures ∙ ap₂ same_bytes v.nonce_block.ensures v.nonce_block-then-station_of.ensures)
      | else-station_of v ↦ not-asked _ _ _ v.if-station_of.false v.value-is
    ] in
    asked-entry f g i j _ _ _ _ _ _ _ c.row_size_of-first_size.ensures c.row_size_of-second_size.ensures c.row_at-first_row.ensures
    c.row_at-second_row.ensures c.same_fields.ensures (nonces ∙ ap (λ (b : Bool). b && nonce) fields) c.if-same.true
    (c.same_bytes.ensures ∙ ap₂ same_bytes c.body_of.ensures c.body_of-then-same.ensures)

pub returns-else-same : goal.returns-else-same
unfolding nonce_at
returns-else-same c =
    let f = c.args.first.now in
    let g = c.args.second.now in
    let i = c.args.i in
    let j = c.args.j in
    let nonce = same_bytes (nonce_at c.row_size_of-first_size.result f i) (nonce_at c.row_size_of-second_size.result g j) in
    let fields : c.if-same_fields.value ≡ c.same_fields.result && eqb (station_of f i) (station_of g j) =
    elim c.if-same_fields.branch [
      | then-same_fields v ↦ asked _ _ _ v.if-same_fields.true (v.value-is ∙ ap₂ eqb v.station_of.ensures v.station_of-then-same_fields.ensures)
      | else-same_fields v ↦ not-asked _ _ _ v.if-same_fields.false v.value-is
    ] in
    let nonces : c.if-station_of.value ≡ c.if-same_fields.value && nonce =
    elim c.if-station_of.branch [
      | then-station_of v ↦ asked _ _ _ v.if-station_of.true
          (v.value-is ∙ v.same.ensures ∙ ap₂ same_bytes v.nonce_block.ensures v.nonce_block-then-station_of.ensures)
      | else-station_of v ↦ not-asked _ _ _ v.if-station_of.false v.value-is
    ] in
    not-asked-entry f g i j _ _ _ _ _ _ c.row_size_of-first_size.ensures c.row_size_of-second_size.ensures c.row_at-first_row.ensures
    c.row_at-second_row.ensures c.same_fields.ensures (nonces ∙ ap (λ (b : Bool). b && nonce) fields) c.if-same.false
