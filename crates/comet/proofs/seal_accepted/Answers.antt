-- `comet::seal_accepted` meets its contract: text, tag and count are the definition's.
use lib.ListN.{length, take}
use mathlib.Core.Bool.{false}
use mathlib.Core.Path.{refl, sym, ap, ◌∙◌}
use Prim.Native.Nat.{ℕ}
use Rattle.block.specs.Blocks.{wide}
use Rattle.cipher.proofs.Suites.{full_two}
use Rattle.status.proofs.Refuse.{Passed, passed}
use Rattle.comet.proofs.Left.{sealing-done}
use Rattle.comet.proofs.Counts.{counting, calls-all}
use Rattle.comet.proofs.seal_accepted.Goals.{Start}
use Rattle.comet.proofs.seal_accepted.Goals as goal

-- every length is right
ok : (st : Start) → Passed st.args.header.suite (length st.args.header.key.now) (length st.args.header.nonce.now) (length st.args.header.ad.now)
    (length st.args.text.now) (length st.args.text.now) (length st.args.tag.now)
ok st = passed _ _ _ _ _ _ _ _ st.requires

pub crypt-done-requires : goal.crypt-done-requires
crypt-done-requires c = (ok (goal.at.crypt-done-requires c).Start).text

pub put_whole-requires : goal.put_whole-requires
put_whole-requires c = full_two (length c.args.tag.now) c.args.header.suite (ok (goal.at.put_whole-requires c).Start).tag

pub returns : goal.returns
returns c =
    let h = c.args.header in
    let text = c.args.text.now in
    let t = c.crypt-done in
    let long = (ok (goal.at.returns c).Start).tag in
    counting
    (sealing-done h.suite h.key.now h.nonce.now h.ad.now text text c.args.tag.now 0 (sym c.requires) refl _ _ t.ensures.text
    (c.put_whole.ensures ∙ ap (λ (n : ℕ). take n (wide t.result.tag)) long ∙ t.ensures.tag.is))
    (t.ensures.calls ∙ calls-all false h.suite h.key.now h.nonce.now h.ad.now text _ _ 0 (sym c.requires) refl)
