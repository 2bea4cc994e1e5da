-- The row that is found and the number of looks fit, so what the search says passes whole.
use Prim.Native.Nat.{◌≤◌}
use native.Mathlib.Omega.{arith}
use mathlib.Core.Path.{sym, subst, ◌∙◌}
use Rattle.status.specs.declared.checked.Answer.{Answer}
use Rattle.shift_search.proofs.Promised.{ten_looks, says-low}
use Rattle.snoekeldraf.proofs.search.shift_search.Goals as goal

pub overflow_cast-looked : goal.overflow_cast-looked
overflow_cast-looked c =
    let low : c.search-search.result.looked ≤ 10 = rw c.search-search.ensures.1 (ten_looks _ _) in
    omega arith

pub say-requires : goal.say-requires
say-requires c =
    subst (λ (w : Answer). w.row ≤ 512) (sym (c.answer_of.ensures ∙ c.search-search.ensures.0)) (says-low _ _)

pub returns : goal.returns
returns c = (c.say.ensures ∙ c.answer_of.ensures ∙ c.search-search.ensures.0, c.search-search.ensures.1)
