-- `comet::unseal_accepted` meets its contract: a wrong tag wipes the buffer, and otherwise the text is the definition's; the count is either way.
use lib.ListN.{length, replicate}
use mathlib.Core.Bool.{Bool, true, false}
use mathlib.Core.Path.{◌≡◌, refl, sym, ap, ◌∙◌}
use Prim.Native.Nat.{ℕ}
use Rattle.cipher.specs.Cipher.{cipher_of}
use Rattle.cipher.proofs.Suites.{full_two}
use Rattle.mode.specs.Mode.{text_out}
use Rattle.comet.specs.Answers.{Opened, opened_as, opening}
use Rattle.comet.specs.Counted.{calls_of}
use Rattle.status.proofs.Refuse.{Passed, passed}
use Rattle.comet.proofs.Left.{opening-done}
use Rattle.comet.proofs.Counts.{counting, calls-all}
use Rattle.comet.proofs.Tags.{compared, nothing_after}
use Rattle.comet.proofs.unseal_accepted.Goals.{Start, After-same-right}
use Rattle.comet.proofs.unseal_accepted.Goals as goal

-- every length is right
ok : (st : Start) → Passed st.args.header.suite (length st.args.header.key.now) (length st.args.header.nonce.now) (length st.args.header.ad.now)
    (length st.args.text.now) (length st.args.text.now) (length st.args.tag.now)
ok st = passed _ _ _ _ _ _ _ _ st.requires

module _ (d : After-same-right) where
  -- the comparison gave b
  done : (b : Bool) → d.same-right.result ≡ b
      → opened_as 0 b (text_out (cipher_of d.args.header.suite) true d.args.header.key.now d.args.header.nonce.now d.args.header.ad.now d.args.text.now)
      d.args.text.now
      ≡ opening d.args.header.suite d.args.header.key.now d.args.header.nonce.now d.args.header.ad.now d.args.text.now d.args.tag.now d.args.text.now
  done b e =
      let h = d.args.header in
      let text = d.args.text.now in
      let given = d.args.tag.now in
      let long = (passed _ _ _ _ _ _ _ _ d.requires).tag in
      opening-done h.suite h.key.now h.nonce.now h.ad.now text given text 0 (sym d.requires) refl b
      (sym e ∙ d.same-right.ensures ∙ compared d.crypt-done.ensures.tag given long)

  -- what was counted
  count-is : d.crypt-done.result.calls
      ≡ calls_of true d.args.header.suite d.args.header.key.now d.args.header.nonce.now d.args.header.ad.now d.args.text.now (length d.args.text.now)
      (length d.args.tag.now)
  count-is =
      let h = d.args.header in
      d.crypt-done.ensures.calls ∙ calls-all true h.suite h.key.now h.nonce.now h.ad.now d.args.text.now _ _ 0 (sym d.requires) refl

pub crypt-done-requires : goal.crypt-done-requires
crypt-done-requires c = (ok (goal.at.crypt-done-requires c).Start).text

pub same-right-requires : goal.same-right-requires
same-right-requires c =
    let long = (ok (goal.at.same-right-requires c).Start).tag in
    (full_two _ c.args.header.suite long, nothing_after c.crypt-done.ensures.tag c.args.tag.now long)

pub returns-then-not-right : goal.returns-then-not-right
returns-then-not-right c =
    let d = (goal.at.returns-then-not-right c).After-same-right in
    let e = c.wipe.ensures ∙ ap (λ (n : ℕ). replicate n 0) c.crypt-done.auto.text in
    let path : ◌≡◌ {A = Opened} (record { number = 8; out = _ }) (record { number = 8; out = _ }) = λ i. record { number = 8; out = e i } in
    counting (path ∙ done d false c.if-not-right.true) (count-is d)

pub returns : goal.returns
returns c =
    let d = (goal.at.returns c).After-same-right in
    let path : ◌≡◌ {A = Opened} (record { number = 0; out = _ }) (record { number = 0; out = _ }) = λ i. record {
      number = 0;
      out = c.crypt-done.ensures.text i;
    } in
    counting (path ∙ done d true c.if-not-right.false) (count-is d)
