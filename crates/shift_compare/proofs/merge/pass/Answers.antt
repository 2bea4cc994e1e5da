-- After each turn every list is filled as far as its file is read, and what is left of it is what the rest of the files gives.
use native.Mathlib.Omega.{arith}
use Rattle.shift_compare.proofs.Passing.{start, go_on, fits, only_few, differ_few, finish, lengths}
use Rattle.shift_compare.proofs.merge.pass.Goals as goal

pub rows-requires : goal.rows-requires
rows-requires g c = c.requires.sound.first

pub rows-requires-2 : goal.rows-requires-2
rows-requires-2 g c = c.requires.sound.second

pub loop-i-init : goal.loop-i-init
loop-i-init g c = rw (c.rows.ensures.0, c.rows-2.ensures.0) (start _ _ _ _ _ _ c.requires)

pub take_turn-turn-requires : goal.take_turn-turn-requires
take_turn-turn-requires g c = (c.loop-i.invariant.at, omega (arith, c.loop-i.invariant.sum, c.loop-i-test.true))

pub put-in_first-requires : goal.put-in_first-requires
put-in_first-requires g c =
    let t = c.take_turn-turn in
    let h = c.loop-i.invariant in
    fits _ _ _ _ _ _ _ _ _ h.room.first (rw (← c.goes_on.ensures) at t.ensures.first) h.first (only_few _ _ h.at.sound.first)

pub put-in_second-requires : goal.put-in_second-requires
put-in_second-requires g c =
    let t = c.take_turn-turn in
    let h = c.loop-i.invariant in
    fits _ _ _ _ _ _ _ _ _ h.room.second (rw (← c.goes_on-in-loop-i.ensures) at t.ensures.second) h.second (only_few _ _ h.at.sound.second)

pub put-in_both-requires : goal.put-in_both-requires
put-in_both-requires g c =
    let t = c.take_turn-turn in
    let h = c.loop-i.invariant in
    fits _ _ _ _ _ _ _ _ _ h.room.differ (rw (← c.goes_on-in-loop-i-2.ensures) at t.ensures.differ) h.differ (differ_few _ _ h.at.sound.first)

pub loop-i-smaller : goal.loop-i-smaller
loop-i-smaller g c =
    omega (arith, c.take_turn-turn.ensures.more, c.loop-i-test.true)

pub loop-i-preserved : goal.loop-i-preserved
loop-i-preserved g c =
    let t = c.take_turn-turn.result in
    let e = c.take_turn-turn.ensures in
    let h = c.loop-i.invariant in
    record {
      at = e.next;
      sum = h.sum;
      room = h.room;
      first = go_on _ c.goes_on.result _ _ _ _ _ _ t.job h.room.first (rw (← c.goes_on.ensures) at e.first) h.first _ _ c.put-in_first.ensures.0 c.put-in_first.ensures.1;
      second = go_on _ c.goes_on-in-loop-i.result _ _ _ _ _ _ t.job h.room.second (rw (← c.goes_on-in-loop-i.ensures) at e.second) h.second _ _ c.put-in_second.ensures.0 c.put-in_second.ensures.1;
      differ = go_on _ c.goes_on-in-loop-i-2.result _ _ _ _ _ _ t.job h.room.differ (rw (← c.goes_on-in-loop-i-2.ensures) at e.differ) h.differ _ _ c.put-in_both.ensures.0 c.put-in_both.ensures.1;
    }

pub shape_of-only_first : goal.shape_of-only_first
shape_of-only_first g c = (lengths _ _ _ _ _ _ _ _ _ _ _ _ _ _ _ c.loop-i.invariant).0

pub shape_of-only_second : goal.shape_of-only_second
shape_of-only_second g c = (lengths _ _ _ _ _ _ _ _ _ _ _ _ _ _ _ c.loop-i.invariant).1

pub shape_of-differ : goal.shape_of-differ
shape_of-differ g c = (lengths _ _ _ _ _ _ _ _ _ _ _ _ _ _ _ c.loop-i.invariant).2

pub returns : goal.returns
returns g c = finish _ _ _ _ _ _ _ _ _ _ _ _ _ _ _ c.loop-i.invariant c.loop-i-test.false
