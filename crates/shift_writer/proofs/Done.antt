-- The code's answers as the definitions': no refusal is number 0, and at 0 every row can be written.
use Prim.Native.Nat.{ℕ, ◌≤◌}
use native.Mathlib.Omega.{arith}
use mathlib.Core.Path.{◌≡◌, sym, ap, ◌∙◌}
use mathlib.Core.List.{List}
use lib.ListN.{length}
use Rattle.std.specs.Prelude.{Result, Ok}
use Rattle.status.specs.declared.checked.Answer.{Answer}
use Rattle.shift_format.specs.Format.{count_of}
use Rattle.shift_check.specs.Check.{check_as}
use Rattle.status.proofs.Numbers.{refusal-some}
use Rattle.shift_check.proofs.Passed.{passes}
use Rattle.shift_draft.specs.Answers.{seal_answer, open_answer}
use Rattle.shift_draft.proofs.Pieces.{entry_at}
use Rattle.shift_draft.proofs.Answers.{Sealable, sealable, Openable, openable}
use Rattle.shift_draft.proofs.Rewritten.{Plain}
use Rattle.shift_writer.specs.declared.answers.WriteError.{WriteError}
use Rattle.shift_writer.specs.declared.answers.WriteError.TheVariants as write
use Rattle.shift_writer.specs.Answers.{write_answer, written_answer}
use Rattle.shift_writer.specs.Inside.{RowsIn, Writable}

pub write_some : (e : WriteError) → (write_answer e).number ≡ 0 → ⊥
write_some (write.Refused x) q = refusal-some x q
write_some (write.TagSet i) q = omega arith
write_some (write.Retired i) q = omega arith
write_some write.Ring q = omega arith
write_some write.Room q = omega arith
write_some (write.Forged i) q = omega arith

-- so the definition's answer is 0, and says what it says
pub seal_can : (draft : List ℕ) (ring out : ℕ) (x : Result Unit WriteError) {u : Unit} → written_answer x ≡ seal_answer draft ring out → x ≡ Ok u → Sealable draft ring out
seal_can draft ring out x q d = sealable draft ring out (ap (λ (y : Answer). y.number) (sym q ∙ ap written_answer d))

pub open_can : (file : List ℕ) (ring out : ℕ) (x : Result Unit WriteError) {u : Unit} → written_answer x ≡ open_answer file ring out → x ≡ Ok u → Openable file ring out
open_can file ring out x q d = openable file ring out (ap (λ (y : Answer). y.number) (sym q ∙ ap written_answer d))

module _ (e : ℕ) (f : List ℕ) (p : Plain e) (z : (check_as e f).number ≡ 0) where
  pub header-in : 8 ≤ length f
  header-in = (passes e e f z).head.long

  pub rows_in : RowsIn f (count_of f)
  rows_in = record { entries = λ i l. entry_at e f p z i l }

  pub writable : (n : ℕ) (ring out : List ℕ) → n ≡ count_of f → length ring ≡ 256 → length out ≡ length f → Writable f n ring out
  writable n ring out q r o = record { entries = λ i l. entry_at e f p z i (rw q at l); ring_long = r; out-long = o }
