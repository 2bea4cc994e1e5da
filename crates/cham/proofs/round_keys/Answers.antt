-- `cham::round_keys`, by induction on the loop: after i turns the table has the round keys of the first i words of the key.
-- Each turn is the law `one_more` of `cham_spec`, which holds for every word width.
use Rattle.std.proofs.Common.{◌≡◌, ℕ, ◌+◌, ◌/◌, ◌<◌, List, ap, ap₂, ◌∙◌, set, replicate, length-set, arith, rules}
use Rattle.std.proofs.lemmas.List.{map-set, length-replicate}
use Rattle.block.specs.Words.{xor}
use Rattle.cham_spec.specs.Cham.{placed}
use Rattle.cham_spec.proofs.Keys.{one_more, all_put}
use Rattle.cham.proofs.Sizes.{many, half, place_fits, map-replicate}
use Rattle.cham.proofs.round_keys.Goals as goal

pub loop-i-init : goal.loop-i-init
unfolding placed
loop-i-init g c = (
  length-replicate g.row.N c.small-keys.result,
  map-replicate g.W.Word.number g.row.N c.small-keys.result ∙ ap₂ (λ (n x : ℕ). replicate n x) (many c.requires) c.small-keys.ensures,
)

pub bounds-keys-j : goal.bounds-keys-j
bounds-keys-j g c =
    rw c.second_place-j.ensures (place_fits c.requires c.loop-i.i c.loop-i-test.true)

pub offset_bounds-keys-j : goal.offset_bounds-keys-j
offset_bounds-keys-j g c =
    let h : c.second_place-j.result < g.row.N = rw c.second_place-j.ensures (place_fits c.requires c.loop-i.i c.loop-i-test.true) in
    search rules

pub listed-in-loop-i : goal.listed-in-loop-i
listed-in-loop-i g c =
    let h : c.second_place-j.result < g.row.N = rw c.second_place-j.ensures (place_fits c.requires c.loop-i.i c.loop-i-test.true) in
    simp (length-set, c.loop-i.invariant.0) h

pub loop-i-preserved : goal.loop-i-preserved
loop-i-preserved g c =
    let f = g.W.Word.number in
    let a = c.mix.result in
    let b = c.mix-in-loop-i.result in
    let j = c.second_place-j.result in
    let keys = c.loop-i.keys in (
      simp (length-set, c.loop-i.invariant.0),
      map-set f (set keys c.loop-i.i a) j b
          ∙ ap (λ (l : List ℕ). set l j (f b)) (map-set f keys c.loop-i.i a)
          ∙ one_more g.W.Word.width c.args.key c.loop-i.i c.loop-i.invariant.1 c.nth-k.ensures
          (c.second_place-j.ensures ∙ ap (λ (h : ℕ). xor (c.loop-i.i + h) 1) (half c.requires)) c.mix.ensures c.mix-in-loop-i.ensures,
    )

pub returns : goal.returns
returns g c =
    let e : c.loop-i.i ≡ g.row.N / 2 = omega arith in
    all_put _ _ _ _ _ c.loop-i.invariant.1 (e ∙ half c.requires)
