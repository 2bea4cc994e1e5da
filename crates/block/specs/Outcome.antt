-- What document 01 requires of every public routine ("What a contract here has to nail"): any two outcomes that its contract allows are equal.
use Rattle.std.specs.Prelude.{◌≡◌, List, ℕ}
use contract.Lifetimes.{Lfts}
use denote.Triple.Clauses.{Lasts, at_exit}
use denote.Triple.Walked.{Fit}
use borrow.Fn.Kinds.{ParamKind, ResultKind, In, Out, Dens, res_t, ended_of, stays}

-- an outcome of a call that its contract allows: a result, and the final contents of each `&mut` argument, of unchanged length
pub record Outcome {n : ℕ} (ps : List (ParamKind n)) (r : ResultKind n) (Post : Out n ps r) (κs : Lfts n) (a : Dens κs ps) : Type 0 where
  pub result : (res_t r κs).Denot
  pub last : Lasts (ended_of n ps r) κs a
  pub ok : r.is.Ok κs result
  pub kept : Fit (ended_of n ps r) (stays ps) κs a last
  pub ensures : Post κs a result (at_exit (ended_of n ps r) κs a last)

-- for a function given by its signature (`Kinds.ps`, `Kinds.r`) and contract (`Reads.Pre`, `Reads.Post`): each argument has one outcome
abbrev pub OneOutcome : {n : ℕ} (ps : List (ParamKind n)) (r : ResultKind n) → In n ps → Out n ps r → Type 0
OneOutcome {n} ps r Pre Post =
    (κs : Lfts n) (a : Dens κs ps) → Pre κs a → (x y : Outcome ps r Post κs a) → (x.result ≡ y.result) × (x.last ≡ y.last)
