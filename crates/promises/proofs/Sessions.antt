-- W2: what a run gives are the specification's outputs for the joined texts, so they are the sealer's, and the opener takes them.
use mathlib.Core.Path.{◌≡◌, refl, sym, ap₂, ◌∙◌}
use mathlib.Core.Bool.{true, not, cond}
use Prim.Native.Nat.{ℕ, zero, suc, ◌+◌, ◌-◌, ◌≤◌}
use mathlib.Core.List.{List, [], ◌∷◌}
use lib.ListN.{length, drop}
use lib.Seq.{drop-append_seam}
use lib.Dec.{eqb, ltb}
use borrow.Author.Tests.{le-leb}
use Rattle.block.specs.Bytes.{AllBytes}
use Rattle.cipher.specs.Cipher.{Seals, cipher_of, size_of, limit}
use Rattle.cipher.proofs.Suites.{seals-has}
use Rattle.comet.specs.Answers.{opening}
use Rattle.session.specs.Value.{Value, Given, sound, answered, gave, starting, data_number, data_in, data_part, text_number, text_done, part_out, text_part, end_number}
use Rattle.session.specs.Value.{end_out, end_done, ending}
use Rattle.session.specs.Calls.{SessionCall, AllInBytes, Run, run_of, Next}
use Rattle.session.proofs.Parts.{done-number}
use Rattle.session.proofs.Whatever.{starts, refused_shut, goes, finished, whatever, facts}
use Rattle.promises.specs.Input.{Input}
use Rattle.promises.specs.Sessions.{AsOneCall, OpensWhole, NextNumbers, RunNumbers, Keeps, EmptyPart, Untouched, Sessions}
use Rattle.promises.proofs.Tables.{tells_eq, tells_lt, tells_not, table}
use Rattle.promises.proofs.Numbers.{tells_tag_size, answered-number, tells_over}
use Rattle.promises.proofs.Demand2.{sealing_is, round_trip}

-- the joined texts are an input of the sealer
input : (suite : ℕ) (key nonce : List ℕ) (cs : List SessionCall) (out₀ tag₀ : List ℕ) → AllBytes key → AllBytes nonce → AllInBytes cs
    → (starting suite key nonce).number ≡ 0 → (ending (run_of suite key nonce cs).now out₀ tag₀).number ≡ 0
    → let r : Run = run_of suite key nonce cs in Input suite key nonce r.ad r.msg
input suite key nonce cs out₀ tag₀ hk hv hc e0 e1 =
    let f = facts suite key nonce e0 in
    let s = (finished suite key nonce cs out₀ tag₀ hk hv hc e0 e1).1 in
    record {
      texts = record {
        suite-is = seals-has suite f.0;
        key-bytes = hk;
        key-length = f.1;
        nonce_bytes = hv;
        nonce_length = f.2;
        ad-bytes = s.data_bytes;
        text-bytes = s.text_bytes;
      };
      ad-most = s.data_small;
      text-most = s.text_small;
    }

pub as_one_call : AsOneCall
as_one_call suite key nonce cs out₀ tag₀ hk hv hc e0 e1 out₁ tag₁ lo lt =
    let r = run_of suite key nonce cs in
    let w = (finished suite key nonce cs out₀ tag₀ hk hv hc e0 e1).0 in
    sealing_is suite key nonce r.ad r.msg out₁ tag₁ (input suite key nonce cs out₀ tag₀ hk hv hc e0 e1) (facts suite key nonce e0).0 lo lt
    ∙ sym (ap₂ (λ (o t : List ℕ). record { number = 0; out = o; tag = t }) w.0 w.1)

pub opens_whole : OpensWhole
opens_whole suite key nonce cs out₀ tag₀ hk hv hc e0 e1 out₁ lo =
    let r = run_of suite key nonce cs in
    let w = (finished suite key nonce cs out₀ tag₀ hk hv hc e0 e1).0 in
    ap₂ (λ (c t : List ℕ). opening suite key nonce r.ad c t out₁) w.0 w.1
    ∙ round_trip suite key nonce r.ad r.msg out₁ (input suite key nonce cs out₀ tag₀ hk hv hc e0 e1) lo

-- ---- the numbers of a run

-- the totals of a session that goes on are within the limits, so 9 is gone
goes_on : (suite a m : ℕ) → Seals suite → a ≤ limit → m ≤ limit → sound suite a m ≡ true
goes_on suite a m h la lm = simp (h, le-leb a limit la, le-leb m limit lm)

-- so are the three numbers, once the totals are the joined lengths
module _ (suite : ℕ) (r : Run) (n : Next suite r) where
  abbrev v : Value
  v = r.now

  abbrev a : ℕ
  a = length r.ad

  abbrev m : ℕ
  m = length r.msg

  on : sound suite a m ≡ true
  on = goes_on suite a m n.seals n.data-most n.text-most

  data-said : (l : ℕ) → data_number v.suite v.ad_total v.text_total l ≡ cond (not (eqb m 0)) 9 (cond (ltb (limit - a) l) 4 0)
  unfolding data_number
  data-said l = simp (n.suite-is, n.ad-total-is, n.text-total-is, on)

  text-said : (l o : ℕ) → text_number v.suite v.ad_total v.text_total l o ≡ cond (ltb (limit - m) l) 5 (cond (ltb o (l + (size_of suite - 1))) 6 0)
  unfolding text_number
  text-said l o = simp (n.suite-is, n.ad-total-is, n.text-total-is, on)

  end-said : (o t : ℕ) → end_number v.suite v.ad_total v.text_total o t ≡ cond (ltb o (size_of suite)) 6 (cond (not (eqb t (size_of suite))) 7 0)
  unfolding end_number
  end-said o t = simp (n.suite-is, n.ad-total-is, n.text-total-is, on)

  next-numbers : NextNumbers suite r
  unfolding data_part text_part ending
  next-numbers =
      record {
        associated = λ p.
            table _ _ (
              not (eqb m 0),
              λ _. tells_not (tells_eq m 0),
              (
                ltb (limit - a) (length p),
                λ _. tells_over a (length p) n.data-most,
                tt,
              ),
            ) refl (answered-number _ _ v [] [] refl ∙ data-said (length p));
        message = λ p out.
            table _ _ (
              ltb (limit - m) (length p),
              λ _. tells_over m (length p) n.text-most,
              (
                ltb (length out) (length p + (size_of suite - 1)),
                λ _. tells_lt _ _,
                tt,
              ),
            ) refl (answered-number _ _ v out [] (done-number v p out) ∙ text-said (length p) (length out));
        finish = λ out tag.
            table _ _ (
              ltb (length out) (size_of suite),
              λ _. tells_lt _ _,
              (
                not (eqb (length tag) (size_of suite)),
                λ _. tells_not (tells_tag_size _ suite),
                tt,
              ),
            ) refl (answered-number _ _ v out tag refl ∙ end-said (length out) (length tag));
      }

pub run-numbers : RunNumbers
run-numbers suite key nonce cs hk hv hc e0 f = next-numbers suite (run_of suite key nonce cs) ((goes suite key nonce cs hk hv hc e0).0 f)

-- ---- refusals

kept : (k : ℕ) (done : Given) (v : Value) (out tag : List ℕ) → done.number ≡ 0 →
    let g : Given = answered k done v out tag in (g.number ≡ 0 → ⊥) → (g.next ≡ v) × (g.count ≡ 0) × (g.out ≡ out) × (g.tag ≡ tag)
kept zero done v out tag z h = absurd (h z)
kept (suc k) done v out tag z h = (refl, refl, refl, refl)

pub keeps : Keeps
unfolding data_part text_part ending
keeps v = (
  λ p h.
      let k = kept (data_number v.suite v.ad_total v.text_total (length p)) (gave 0 0 (data_in (cipher_of v.suite) v p) [] []) v [] [] refl h in
      (k.0, k.1),
  λ p out h.
      let k = kept (text_number v.suite v.ad_total v.text_total (length p) (length out)) (text_done v p out) v out [] (done-number v p out) h in
      (k.0, k.1, k.2),
  λ out tag h. kept (end_number v.suite v.ad_total v.text_total (length out) (length tag)) (end_done v out) v out tag refl h,
)

-- ---- what is not written

empty_answered : (k : ℕ) (v : Value) (out : List ℕ) → let g : Given = answered k (gave 0 0 v out []) v out [] in g ≡ gave g.number 0 v out []
empty_answered zero v out = refl
empty_answered (suc k) v out = refl

pub empty_part : EmptyPart
unfolding text_part
empty_part v out = empty_answered (text_number v.suite v.ad_total v.text_total 0 (length out)) v out

-- where the output's bytes after the count stay on 0, they stay on every number
past_count : (k : ℕ) (done : Given) (v : Value) (out tag : List ℕ) → drop done.count done.out ≡ drop done.count out →
    let g : Given = answered k done v out tag in drop g.count g.out ≡ drop g.count out
past_count zero done v out tag h = h
past_count (suc k) done v out tag h = refl

text_past : (v : Value) (p out : List ℕ) → drop (text_done v p out).count (text_done v p out).out ≡ drop (text_done v p out).count out
text_past v [] out = refl
text_past v (x ∷ p) out = drop-append_seam (part_out (cipher_of v.suite) v (x ∷ p)) (drop (length (part_out (cipher_of v.suite) v (x ∷ p))) out)

pub untouched : Untouched
unfolding text_part ending
untouched v = (
  λ p out. past_count (text_number v.suite v.ad_total v.text_total (length p) (length out)) (text_done v p out) v out [] (text_past v p out),
  λ out tag.
      past_count (end_number v.suite v.ad_total v.text_total (length out) (length tag)) (end_done v out) v out tag
      (drop-append_seam (end_out (cipher_of v.suite) v) (drop (length (end_out (cipher_of v.suite) v)) out)),
)

pub sessions : Sessions
sessions =
    record {
      starts = starts;
      refused_shut = refused_shut;
      goes = goes;
      numbers = run-numbers;
      whatever = whatever;
      as_one_call = as_one_call;
      opens_whole = opens_whole;
      keeps = keeps;
      empty_part = empty_part;
      untouched = untouched;
    }
