-- `byte_runs::all_zero` meets its contract: bytes that are all 0 are a run of zeros, and a byte that is not shows a difference.
use Rattle.std.proofs.Common.{◌≡◌, ◌≢◌, refl, sym, ap, ap₂, ◌∙◌, arith, rules, ℕ, suc, ◌<◌, List, [], ◌∷◌, length, replicate, get_or, Bool, true, false}
use Rattle.std.proofs.lemmas.List.{get_or-replicate}
use Rattle.std.proofs.lemmas.Iterator.{cases_from_all, YieldsList-from_slice}
use Rattle.std.specs.Bool.{MatchBool}
use Rattle.std.specs.List.{AllWithin, HoldsAt}
use borrow.Author.Tests.{tests}
use Rattle.block.specs.Bytes.{same_bytes}
use Rattle.block.proofs.SameBytes.{same_refl, same_true}
use Rattle.block.proofs.Tests.{is_false}
use Rattle.byte_runs.proofs.all_zero.Goals as goal

zeros : (l : List ℕ) → ((i : ℕ) → i < length l → get_or l i 0 ≡ 0) → l ≡ replicate (length l) 0
zeros [] h = refl
zeros (x ∷ l) h =
    ap₂ (λ (a : ℕ) (s : List ℕ). a ∷ s) (h 0 (omega arith)) (zeros l (λ i k. h (suc i) (omega arith)))

told : (l : List ℕ) (r : Bool)
    → MatchBool r (AllWithin (λ x. x ≡ 0) l 0 (length l)) ((k : ℕ) × (k < length l) × HoldsAt (λ x. x ≢ 0) l k)
    → r ≡ same_bytes l (replicate (length l) 0)
told l true h = sym (ap (same_bytes l) (sym (zeros l (λ i k. h i 0 (omega arith) k))) ∙ same_refl l)
told l false h =
    sym (is_false _ (λ e. h.2 0 (ap (λ (s : List ℕ). get_or s h.0 0) (same_true _ _ e) ∙ get_or-replicate (length l) h.0 0 0 h.1)))

pub returns : goal.returns
returns c =
    told c.args.bytes.now c.all.result
    (cases_from_all _ _ _ (λ x. x ≡ 0) (λ x. x ≢ 0) c.all.ensures.ran (YieldsList-from_slice c.args.bytes.now cc) (λ x q k. search (rules, tests)) (λ x q k. search (rules, tests)))
