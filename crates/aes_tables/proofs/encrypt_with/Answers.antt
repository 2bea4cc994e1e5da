-- `aes_tables::encrypt_with` meets its contract. The loop's invariant: k is round key i, s the state after i rounds, rc the round constant of the next turn.
use borrow.Author.Rules.{rules}
use borrow.Author.Tests.{lt-ltb, le-ltb}
use mathlib.Core.Path.{◌≡◌, refl, sym, subst}
use mathlib.Core.Bool.{true, false}
use Prim.Native.Nat.{ℕ, ◌+◌, ◌≤◌, ◌<◌}
use native.Mathlib.Omega.{arith}
use lib.ListN.{length}
use Rattle.aes_spec.specs.Cipher.{power}
use Rattle.aes_plain.proofs.Rounds.{power_lt, power-turn, rcon_is, track_none, track_end}
use Rattle.aes_tables.proofs.Turns.{track_step}
use Rattle.aes_tables.proofs.encrypt_with.Goals as goal

pub loop-i-init : goal.loop-i-init
unfolding power
loop-i-init c = (refl, track_none)

pub next_rcon-rc-requires : goal.next_rcon-rc-requires
next_rcon-rc-requires c =
    subst (λ (x : ℕ). x < 256) (sym c.loop-i.invariant.0) (power_lt c.loop-i.i)

pub loop-i-preserved : goal.loop-i-preserved
loop-i-preserved c = (
  power-turn c.loop-i.i c.loop-i.invariant.0 c.next_rcon-rc.ensures,
  track_step true c.loop-i.i (lt-ltb c.loop-i.i 9 (omega arith)) c.loop-i.invariant.1 (rcon_is c.loop-i.i c.loop-i.invariant.0) c.next_key-k.ensures.follows
      c.mix_columns.ensures c.add_round_key-s-in-loop-i.ensures,
)

pub returns : goal.returns
returns c =
    let l : length c.args.key ≡ 16 = search rules in
    let e : c.loop-i.i + 1 ≡ 10 = omega arith in
    let h : 9 ≤ c.loop-i.i = omega arith in
    track_end c.args.key c.args.block (c.loop-i.i + 1) e
    (track_step false c.loop-i.i (le-ltb c.loop-i.i 9 h) c.loop-i.invariant.1 (rcon_is c.loop-i.i c.loop-i.invariant.0) c.next_key.ensures.follows
    c.shift_rows.ensures c.add_round_key-s-2.ensures)
    l c.load-k.ensures
    c.load.ensures
    c.add_round_key-s.ensures c.store4.ensures
