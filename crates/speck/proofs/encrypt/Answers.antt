-- `speck::encrypt` meets its contract: before round i the loop holds the schedule of round i and the state after i rounds.
use mathlib.Core.Path.{◌≡◌, refl, ap, ap₂, ◌∙◌}
use native.Mathlib.Omega.{arith}
use native.Mathlib.Numerals.{add-one}
use Rattle.speck.specs.Speck.{State, Schedule, round, next, start, schedule, rounds, state_of, bytes_of, speck}
use Rattle.speck.proofs.Parts.{same-state, same-schedule}
use Rattle.speck.proofs.encrypt.Invariants.{state, keys}
use Rattle.speck.proofs.encrypt.Goals as goal

pub loop-i-init : goal.loop-i-init
unfolding schedule rounds
loop-i-init c = (refl, refl)

pub loop-i-preserved : goal.loop-i-preserved
unfolding schedule rounds
loop-i-preserved c = (
  rw add-one (same-schedule c.next-k.ensures.0 c.next-k.ensures.1 c.next-k.ensures.2 c.next-k.ensures.3 ∙ ap (λ (s : Schedule). next s c.loop-i.i) c.loop-i.invariant.0),
  rw add-one (same-state c.round-x.ensures.0 c.round-x.ensures.1 ∙ ap₂ (λ (s : Schedule) (q : State). round q s.r) c.loop-i.invariant.0 c.loop-i.invariant.1),
)

pub returns : goal.returns
unfolding speck
returns c =
    let n : c.loop-i.i ≡ 27 = omega arith in
    let p : keys c.keys_of-k.result ≡ start c.args.key = same-schedule c.keys_of-k.ensures.0 c.keys_of-k.ensures.1 c.keys_of-k.ensures.2 c.keys_of-k.ensures.3 in
    let q : state c.pair_of-x.result ≡ state_of c.args.block = same-state c.pair_of-x.ensures.0 c.pair_of-x.ensures.1 in
    c.store2_32.ensures
    ∙ ap bytes_of
    (c.loop-i.invariant.1 ∙ ap (rounds (keys c.keys_of-k.result) (state c.pair_of-x.result)) n ∙ ap₂ (λ (j : Schedule) (y : State). rounds j y 27) p q)
