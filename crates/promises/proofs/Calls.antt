-- W12: the list of calls by citation; what is reported goes by the first number that applies.
use mathlib.Core.Path.{◌≡◌, refl, sym, ◌∙◌}
use mathlib.Core.Logic.{◌⊎◌, inl, inr, ⊎_elim}
use mathlib.Core.Bool.{Bool, true, false}
use Prim.Native.Nat.{ℕ, zero, suc, ◌<◌}
use native.Mathlib.Nat.{not-suc-le-zero, suc-ne-zero, lt_irrefl}
use native.Mathlib.Omega.{arith}
use mathlib.Core.List.{List, []}
use lib.ListN.{length}
use Rattle.cipher.specs.Cipher.{cipher_of}
use Rattle.cipher.proofs.Lawful.{lawful}
use Rattle.mode.specs.Blocks.{blocks, chop}
use Rattle.mode.proofs.Chain.{some}
use Rattle.mode.proofs.Calls.{calls_count, calls_same, calls-decide}
use Rattle.status.specs.Verdicts.{refusal}
use Rattle.comet.specs.Answers.{sealed_as, sealing, opened_as, opening}
use Rattle.comet.specs.Counted.{counted_as, calls_of}
use Rattle.status.proofs.Refuse.{refusal-most}
use Rattle.comet.proofs.Counts.{calls-all}
use Rattle.promises.specs.Calls.{SealReports, OpenReports, CallsSum, EmptyTwo, SameReport, Calls}

seal-by : (n k : ℕ) (x y o t : List ℕ) → ((sealed_as n x y o t).number ≡ 0 → counted_as n k ≡ k) × (0 < (sealed_as n x y o t).number → counted_as n k ≡ 0)
seal-by zero k x y o t = ((λ e. refl), (λ h. absurd (not-suc-le-zero h)))
seal-by (suc j) k x y o t = ((λ e. absurd (suc-ne-zero j e)), (λ h. refl))

seal_reports : SealReports
unfolding sealing calls_of
seal_reports suite key nonce ad msg out₀ tag₀ =
    seal-by (refusal false suite (length key) (length nonce) (length ad) (length msg) (length out₀) (length tag₀)) _ _ _ out₀ tag₀

-- no refusal of the opener is 8
open_by : (n k : ℕ) (b : Bool) (x o : List ℕ) → (n ≡ 8 → ⊥)
    → (((opened_as n b x o).number ≡ 0) ⊎ ((opened_as n b x o).number ≡ 8) → counted_as n k ≡ k)
    × (0 < (opened_as n b x o).number → (opened_as n b x o).number < 8 → counted_as n k ≡ 0)
open_by zero k true x o h = ((λ e. refl), (λ p q. absurd (not-suc-le-zero p)))
open_by zero k false x o h = ((λ e. refl), (λ p q. absurd (lt_irrefl 8 q)))
open_by (suc j) k b x o h = (none, (λ p q. refl))
  where
    none : (suc j ≡ 0) ⊎ (suc j ≡ 8) → 0 ≡ k
    none (inl e) = absurd (suc-ne-zero j e)
    none (inr e) = absurd (h e)

open_reports : OpenReports
unfolding opening calls_of
open_reports suite key nonce ad text tag out₀ =
    let most = refusal-most true suite (length key) (length nonce) (length ad) (length text) (length out₀) (length tag) in
    open_by (refusal true suite (length key) (length nonce) (length ad) (length text) (length out₀) (length tag)) _ _ _ out₀
    (λ e. ⊎_elim (λ h. omega (arith, e, h)) (λ h. omega (arith, e, h.0)) most)

sum : CallsSum
sum suite opening key nonce ad text = calls_count (cipher_of suite) opening key nonce ad text

empty_two : EmptyTwo
unfolding blocks chop
empty_two suite opening key nonce = calls_count (cipher_of suite) opening key nonce [] []

same-report : SameReport
same-report suite d d' key nonce ad text key' nonce' ad' text' out tag out' tag' z z' ea et =
    sym (calls-all d suite key nonce ad text out tag 0 (sym z) refl)
    ∙ calls_same (cipher_of suite) (some (cipher_of suite) (lawful suite)) d d' key nonce ad text key' nonce' ad' text' ea et
    ∙ calls-all d' suite key' nonce' ad' text' out' tag' 0 (sym z') refl

pub cipher_calls : Calls
cipher_calls = record { decide = calls-decide; seal = seal_reports; unseal = open_reports; sum = sum; empty = empty_two; same = same-report }
