-- W7, the suite that is retired: the line of 10 in the tables of sealer, opener and session is suite 4's.
use mathlib.Core.Path.{◌≡◌, refl, sym, ◌∙◌}
use mathlib.Core.Bool.{false, true≢false}
use Rattle.block.proofs.Tests.{is_false}
use Rattle.cipher.specs.Cipher.{is_suite, IsSuite, retired, seals}
use Rattle.cipher.proofs.Suites.{only-four}
use Rattle.status.specs.Verdicts.{refusal}
use Rattle.comet.specs.Answers.{sealing}
use Rattle.session.specs.Value.{start_number, starting}
use Rattle.promises.specs.Retired.{OnlyFour, SealerRefuses, StartRefuses, OpenerNever, Retired}
use Rattle.promises.proofs.Numbers.{seal-numbers, open_numbers, start-numbers}

-- suite 4 itself
has-four : IsSuite 4
unfolding is_suite
has-four = refl

shut_four : seals 4 ≡ false
unfolding seals retired is_suite
shut_four = refl

four : OnlyFour
four suite = (
  λ h. only-four suite h.0 (is_false _ h.1),
  λ e. (rw e has-four, λ s. true≢false (sym (rw e at s) ∙ shut_four)),
)

-- number 10 is the second line's

sealer : SealerRefuses
unfolding sealing refusal is_suite seals retired
sealer = (
  λ key nonce ad msg out₀ tag₀. refl,
  λ suite key nonce ad msg out₀ tag₀ e. ((seal-numbers suite key nonce ad msg out₀ tag₀).lines.1.0.0 e).1.1,
)

start : StartRefuses
unfolding starting start_number is_suite seals retired
start = (λ key nonce. refl, λ suite key nonce e. ((start-numbers suite key nonce).lines.1.0.0 e).1)

never : OpenerNever
never suite key nonce ad text tag out₀ e = true≢false ((open_numbers suite key nonce ad text tag out₀).lines.1.0.0 e).1.0

pub suite_retired : Retired
suite_retired = record { only-four = four; sealer-refuses = sealer; start-refuses = start; opener-never = never }
