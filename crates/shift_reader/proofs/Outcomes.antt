-- One outcome for each input: what a contract says that the cursor, the step and the table's answers equal is one value.
use Rattle.std.proofs.Common.{◌≡◌, ℕ, cond, eqb, sym, refl, ap, ap₂, ◌∙◌, ne_eqb}
use Rattle.std.specs.Prelude.{Result, Ok, Err}
use Rattle.block.specs.Outcome.{OneOutcome}
use Rattle.status.specs.declared.checked.Refusal.{Refusal}
use Rattle.status.specs.Answers.{answer, refusal_answer}
use Rattle.status.proofs.Numbers.{refusal-some}
use Rattle.status.proofs.Outcomes.{refusal_of, refusal_back}
use Rattle.shift_lookup.specs.declared.answers.LookupError.{LookupError}
use Rattle.shift_lookup.specs.Answers.{lookup_error_answer}
use Rattle.shift_lookup.proofs.Lookups.{error_some}
use Rattle.shift_lookup.proofs.Outcomes.{error_of, error_back}
use Rattle.shift_reader.specs.declared.contents.HeaderFields.{HeaderFields as Header}
use Rattle.shift_reader.specs.declared.contents.RowFields.{RowFields as Fields}
use Rattle.shift_reader.specs.Contents.{HeaderFields, RowFields, header_told, row_told, error_row}
use Rattle.shift_reader.proofs.cursor.start.Kinds as start-kinds
use Rattle.shift_reader.proofs.cursor.start.Reads as start-reads
use Rattle.shift_reader.proofs.cursor.ask.Kinds as ask-kinds
use Rattle.shift_reader.proofs.cursor.ask.Reads as ask-reads
use Rattle.shift_reader.proofs.contents.header.Kinds as header-kinds
use Rattle.shift_reader.proofs.contents.header.Reads as header-reads
use Rattle.shift_reader.proofs.contents.row.Kinds as row-kinds
use Rattle.shift_reader.proofs.contents.row.Reads as row_reads

-- ---- an outcome by what it tells: its status and fields, and the row of its error

abbrev header_out : HeaderFields → ℕ → Result Header Refusal
header_out v i = cond (eqb v.status 0) (Ok (record { edition = v.edition; count = v.count })) (Err (refusal_of (answer v.status i)))

header_back : (x : Result Header Refusal) → header_out (header_told x) (error_row refusal_answer x) ≡ x
header_back (Ok x) = refl
header_back (Err e) = simp (ne_eqb _ _ (refusal-some e)) (ap Err (refusal_back e))

header-one : {x y : Result Header Refusal} → header_told x ≡ header_told y → error_row refusal_answer x ≡ error_row refusal_answer y → x ≡ y
header-one {x} {y} p q = sym (header_back x) ∙ ap₂ header_out p q ∙ header_back y

abbrev row_out : RowFields → ℕ → Result Fields LookupError
row_out v i =
    cond (eqb v.status 0)
    (Ok (record {
      job = v.job;
      station = v.station;
      suite = v.suite;
      key_number = v.key_number;
      nonce_at = v.nonce_at;
      ad_at = v.ad_at;
      ad_len = v.ad_len;
      text_at = v.text_at;
      text_len = v.text_len;
    }))
    (Err (error_of (answer v.status i)))

row_back : (x : Result Fields LookupError) → row_out (row_told x) (error_row lookup_error_answer x) ≡ x
row_back (Ok x) = refl
row_back (Err e) = simp (ne_eqb _ _ (error_some e)) (ap Err (error_back e))

row-one : {x y : Result Fields LookupError} → row_told x ≡ row_told y → error_row lookup_error_answer x ≡ error_row lookup_error_answer y → x ≡ y
row-one {x} {y} p q = sym (row_back x) ∙ ap₂ row_out p q ∙ row_back y

-- ---- the routines

pub start : OneOutcome start-kinds.ps start-kinds.r start-reads.Pre start-reads.Post
start κs a h x y = (x.ensures ∙ sym y.ensures, refl)

pub ask : OneOutcome ask-kinds.ps ask-kinds.r ask-reads.Pre ask-reads.Post
ask κs a h x y = (x.ensures ∙ sym y.ensures, refl)

pub header : OneOutcome header-kinds.ps header-kinds.r header-reads.Pre header-reads.Post
header κs a h x y = (header-one (x.ensures.0 ∙ sym y.ensures.0) (x.ensures.1 ∙ sym y.ensures.1), refl)

pub row : OneOutcome row-kinds.ps row-kinds.r row_reads.Pre row_reads.Post
row κs a h x y = (row-one (x.ensures.0 ∙ sym y.ensures.0) (x.ensures.1 ∙ sym y.ensures.1), refl)
