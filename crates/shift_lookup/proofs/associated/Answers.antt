-- The entry tells place and length, and they lie in the file; a refusal's are 0.
use Prim.Native.Nat.{ℕ}
use mathlib.Core.Path.{sym, ap, ◌∙◌}
use Rattle.shift_lookup.specs.Entry.{Entry, entry_answer}
use Rattle.shift_lookup.proofs.Places.{data_in}
use Rattle.shift_lookup.proofs.associated.Goals as goal

abbrev start_of : Entry → ℕ
start_of x = x.ad_at

abbrev length_of : Entry → ℕ
length_of x = x.ad_len

pub stretch-requires : goal.stretch-requires
stretch-requires c =
    let e = ap entry_answer (sym c.in-Ok.is) ∙ c.entry.ensures in
    rw (ap start_of e, ap length_of e) (data_in _ _)

pub returns-in-Ok : goal.returns-in-Ok
returns-in-Ok c =
    let e = ap entry_answer (sym c.in-Ok.is) ∙ c.entry.ensures in
    rw (ap start_of e, ap length_of e) at c.stretch.ensures.0

pub returns-in-Err : goal.returns-in-Err
returns-in-Err c =
    let e = ap entry_answer (sym c.in-Err.is) ∙ c.entry.ensures in
    rw (← ap start_of e, ← ap length_of e) c.stretch-in-Err.ensures.0
