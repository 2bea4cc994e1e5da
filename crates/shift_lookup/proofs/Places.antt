-- Where a job's entry lies: its places are those of the row that a lookup found, inside the file, and 0 where it refuses.
use Prim.Native.Nat.{ℕ, ◌+◌, ◌≤◌}
use native.Mathlib.Omega.{arith}
use mathlib.Core.Path.{◌≡◌, refl, ap}
use mathlib.Core.Bool.{Bool, true, false, cond}
use mathlib.Core.List.{List}
use lib.ListN.{length}
use lib.Dec.{eqb}
use borrow.Author.Tests.{eqb-true, ne_eqb}
use Rattle.status.specs.declared.checked.Answer.{Answer}
use Rattle.shift_format.specs.declared.row.Row.{Row}
use Rattle.shift_format.specs.Format.{row_of, body_end}
use Rattle.status.specs.Answers.{answer}
use Rattle.shift_lookup.specs.declared.answers.LookupError.{LookupError}
use Rattle.shift_lookup.specs.Answers.{lookup_error_answer}
use Rattle.shift_lookup.specs.Lookup.{lookup_job}
use Rattle.shift_lookup.specs.Entry.{Entry, data_start, data_length, text_start, text_length, entry_at, Lies, EntriesLie}
use Rattle.shift_lookup.proofs.Lookups.{holding, found_in, error_some}

-- an entry's six values
abbrev placed : Answer → ℕ → ℕ → ℕ → ℕ → Entry
placed x a b c d = record { number = x.number; row = x.row; ad_at = a; ad_len = b; text_at = c; text_len = d }

module _ (f : List ℕ) (x : Answer) where
  pub places-found : (i : ℕ) → x ≡ answer 0 i → placed (answer 0 i) (row_of f i).ad_at (row_of f i).ad_len ((row_of f i).ad_at + (row_of f i).ad_len)
      (row_of f i).text_len ≡ entry_at f x
  unfolding data_start data_length text_start text_length
  places-found i q = simp q

  pub places-none : (e : LookupError) → x ≡ lookup_error_answer e → placed (lookup_error_answer e) 0 0 0 0 ≡ entry_at f x
  unfolding data_start data_length text_start text_length
  places-none e q = simp (q, ne_eqb _ _ (error_some e))

-- a found row's text starts at a place of 32 bits
pub text_low : (f : List ℕ) (job i : ℕ) → lookup_job f job ≡ answer 0 i → (row_of f i).ad_at + (row_of f i).ad_len ≤ 1048576
unfolding body_end
text_low f job i q = omega (arith, (found_in f job i q).body-in, (holding f job i q).file.head.short)

-- the theorem
pub entries_lie : EntriesLie
unfolding data_start data_length text_start text_length body_end
entries_lie f job = lookup-case (eqb (lookup_job f job).number 0) refl
  where
    x : Answer
    x = lookup_job f job

    r : Row
    r = row_of f x.row

    lookup-case : (b : Bool) → eqb x.number 0 ≡ b → Lies f (placed x (cond b r.ad_at 0) (cond b r.ad_len 0) (cond b (r.ad_at + r.ad_len) 0)
        (cond b r.text_len 0))
    lookup-case true e = record { behind = refl; ends = omega (arith, (found_in f job x.row (ap (λ (m : ℕ). answer m x.row) (eqb-true _ _ e))).body-in) }
    lookup-case false e = record { behind = refl; ends = omega arith }

-- so the associated data can be returned as a part of it
pub data_in : (f : List ℕ) (job : ℕ) → data_start f (lookup_job f job) + data_length f (lookup_job f job) ≤ length f
data_in f job = omega (arith, (entries_lie f job).behind, (entries_lie f job).ends)
