-- Whatever the cutting: every call keeps the session at the value of the bytes that have come, or leaves it over.
use mathlib.Core.Path.{◌≡◌, refl, sym, ap, ap₂, ◌∙◌, subst}
use mathlib.Core.Bool.{Bool, true, false}
use lib.Dec.{T}
use Prim.Native.Nat.{ℕ, zero, suc, ◌-◌, ◌≤◌}
use native.Mathlib.Nat.{suc-ne-zero}
use native.Mathlib.Omega.{arith}
use mathlib.Core.List.{List, [], ◌∷◌, ◌++◌, append-nil}
use lib.ListN.{length, take, drop, length-append}
use borrow.Author.Tests.{eq-eqb}
use lib.Seq.{take-append_seam}
use Rattle.block.specs.Bytes.{AllBytes}
use Rattle.block.proofs.Lists.{nil_of, all_append, all_nil}
use Rattle.cipher.proofs.Suites.{seals-has}
use Rattle.cipher.specs.Cipher.{Block, is_suite, seals, Seals, cipher_of, nonce_of, limit}
use Rattle.mode.specs.Mode.{ciphertext, tag}
use Rattle.session_blocks.specs.Written.{written}
use Rattle.session.specs.Value.{Value, Given, over, answered, gave, start_number, starting, data_number, data_part, text_number, text_done, text_part}
use Rattle.session.specs.Value.{end_number, end_done, ending, data_in, part_out, end_out, fresh}
use Rattle.session.proofs.Joined.{out_so_far, so_far}
use Rattle.session.specs.Calls.{SessionCall, associated, message, finish, InBytes, AllInBytes, Run, accepted, ended_by, step, run, run_of, joined, Starts}
use Rattle.session.specs.Calls.{Shut, RefusedShut, Next, Goes, Whatever}
use Rattle.session_ladder.proofs.Rungs.{data_passed, text-passed, start-passed, start_is}
use Rattle.session.proofs.Accepts.{next_is}
use Rattle.session.proofs.SoFar.{data-more, part_out_lem, text-more, end-out, end-tag, fresh-is, none_out}

-- what stands: a session that is over, or one at the value of what has come
pub record Stands (suite : ℕ) (key nonce : List ℕ) (v : Value) (a m o : List ℕ) : Type 0 where
  pub at : v ≡ so_far suite key nonce a m
  pub out : o ≡ out_so_far (cipher_of suite) key nonce a m
  pub data_bytes : AllBytes a
  pub text_bytes : AllBytes m
  pub data_small : length a ≤ limit
  pub text_small : length m ≤ limit

pub data Kept (suite : ℕ) (key nonce : List ℕ) (r : Run) : Type 0 where
  closed : r.now ≡ over → r.ended ≡ true → Kept suite key nonce r
  stands : Stands suite key nonce r.now r.ad r.msg r.out → r.ended ≡ false → Kept suite key nonce r

-- ---- a session that is over stays so

over_data : (p : List ℕ) → (data_part over p).next ≡ over
unfolding data_part data_number seals is_suite
over_data p = refl

over_text : (p out : List ℕ) → (text_part over p out).next ≡ over
unfolding text_part text_number seals is_suite
over_text p out = refl

over-end : (out tag : List ℕ) → (ending over out tag).next ≡ over
unfolding ending end_number seals is_suite
over-end out tag = refl

pub over_shut : Shut over
unfolding data_part data_number text_part text_number ending end_number seals is_suite
over_shut = ((λ p. refl), (λ p out. refl), (λ out tag. refl))

module _ (suite : ℕ) (key nonce : List ℕ) (hk : Block 16 key) (hv : AllBytes nonce) (lv : length nonce ≡ nonce_of suite) where
  abbrev S : Value → List ℕ → List ℕ → List ℕ → Type 0
  S = Stands suite key nonce

  abbrev value : List ℕ → List ℕ → Value
  value a m = so_far suite key nonce a m

  -- ---- associated data

  -- 0 says that no message byte has come, and that there is room under the limit
  data-told : (a m : List ℕ) (l : ℕ) → data_number suite (length a) (length m) l ≡ 0 → (m ≡ []) × (l ≤ limit - length a)
  data-told a m l e =
      let p = data_passed suite (length a) (length m) l e in
      (nil_of m p.1, p.2)

  data-zero : (a p o : List ℕ) → AllBytes p → length p ≤ limit - length a → S (value a []) a [] o → S (data_in (cipher_of suite) (value a []) p) (a ++ p) [] o
  data-zero a p o hp lp s =
      record {
        at = data-more suite key nonce hk hv lv a p s.data_bytes;
        out = s.out ∙ none_out suite key nonce hk hv lv a ∙ sym (none_out suite key nonce hk hv lv (a ++ p));
        data_bytes = all_append a p s.data_bytes hp;
        text_bytes = s.text_bytes;
        data_small = omega (arith, length-append a p, s.data_small);
        text_small = s.text_small;
      }

  -- the same, but for what is empty
  same : {v : Value} {a b m l o q : List ℕ} → a ≡ b → m ≡ l → o ≡ q → S v a m o → S v b l q
  same {v} {a} {b} {m} {l} {o} {q} e f g s =
      subst (λ (x : List ℕ). S v x l q) e (subst (λ (x : List ℕ). S v a x q) f (subst (λ (x : List ℕ). S v a m x) g s))

  abbrev DataAfter : Given → List ℕ → List ℕ → List ℕ → List ℕ → Type 0
  DataAfter g a m o p = S g.next (a ++ accepted g.number p) m o

  data-go : (k : ℕ) (a m o p : List ℕ) → AllBytes p → data_number suite (length a) (length m) (length p) ≡ k → S (value a m) a m o
      → DataAfter (answered k (gave 0 0 (data_in (cipher_of suite) (value a m) p) [] []) (value a m) [] []) a m o p
  data-go (suc k) a m o p hp e s = same (sym (append-nil a)) refl refl s
  data-go zero a m o p hp e s =
      let t = data-told a m (length p) e in
      subst (λ (x : List ℕ). S (value a x) a x o → S (data_in (cipher_of suite) (value a x) p) (a ++ p) x o) (sym t.0) (data-zero a p o hp t.1) s

  data-step : (a m o p : List ℕ) → AllBytes p → S (value a m) a m o → DataAfter (data_part (value a m) p) a m o p
  unfolding data_part so_far
  data-step a m o p hp s = data-go (data_number suite (length a) (length m) (length p)) a m o p hp refl s

  -- ---- message

  abbrev TextAfter : Given → List ℕ → List ℕ → List ℕ → List ℕ → Type 0
  TextAfter g a m o p = S g.next a (m ++ accepted g.number p) (o ++ take g.count g.out)

  -- what was written is what the count says
  front : (new out : List ℕ) → take (length new) (written new out) ≡ new
  front new out = take-append_seam new (drop (length new) out)

  -- with the value's own suite
  abbrev new_of : List ℕ → List ℕ → List ℕ → List ℕ
  new_of a m p = part_out (cipher_of suite) (value a m) p

  text-done : (a m o p out : List ℕ) → AllBytes p → length p ≤ limit - length m → S (value a m) a m o → TextAfter (text_done (value a m) p out) a m o p
  unfolding so_far
  text-done a m o [] out hp lp s = same refl (sym (append-nil m)) (sym (append-nil o)) s
  text-done a m o (x ∷ p) out hp lp s =
      let new : List ℕ = new_of a m (x ∷ p) in
      record {
        at = text-more suite key nonce hk hv lv a m x p s.data_bytes s.text_bytes;
        out = ap₂ (λ (i j : List ℕ). i ++ j) s.out (front new out) ∙ part_out_lem suite key nonce hk hv lv a m (x ∷ p) s.data_bytes s.text_bytes;
        data_bytes = s.data_bytes;
        text_bytes = all_append m (x ∷ p) s.text_bytes hp;
        data_small = s.data_small;
        text_small = omega (arith, length-append m (x ∷ p), s.text_small);
      }

  text-go : (k : ℕ) (a m o p out : List ℕ) → AllBytes p → text_number suite (length a) (length m) (length p) (length out) ≡ k → S (value a m) a m o
      → TextAfter (answered k (text_done (value a m) p out) (value a m) out []) a m o p
  text-go (suc k) a m o p out hp e s = same refl (sym (append-nil m)) (sym (append-nil o)) s
  text-go zero a m o p out hp e s = text-done a m o p out hp (text-passed suite (length a) (length m) (length p) (length out) e).1 s

  text-step : (a m o p out : List ℕ) → AllBytes p → S (value a m) a m o → TextAfter (text_part (value a m) p out) a m o p
  unfolding text_part so_far
  text-step a m o p out hp s = text-go (text_number suite (length a) (length m) (length p) (length out)) a m o p out hp refl s

  -- ---- the end

  abbrev H : Run → Type 0
  H = Kept suite key nonce

  end-go : (k : ℕ) (a m o out tag : List ℕ) (b : Bool) → b ≡ false → S (value a m) a m o
      → let g : Given = answered k (end_done (value a m) out) (value a m) out tag in H
      (record { now = g.next; ad = a; msg = m; out = o ++ take g.count g.out; ended = ended_by g.number b })
  end-go (suc k) a m o out tag b eb s = stands (same refl refl (sym (append-nil o)) s) eb
  end-go zero a m o out tag b eb s = closed refl refl

  end_step : (a m o out tag : List ℕ) (b : Bool) → b ≡ false → S (value a m) a m o
      → let g : Given = ending (value a m) out tag in H (record {
        now = g.next;
        ad = a;
        msg = m;
        out = o ++ take g.count g.out;
        ended = ended_by g.number b;
      })
  unfolding ending so_far
  end_step a m o out tag b eb s = end-go (end_number suite (length a) (length m) (length out) (length tag)) a m o out tag b eb s

  -- ---- any call

  over-step : (r : Run) (c : SessionCall) → r.now ≡ over → (step r c).now ≡ over
  unfolding step
  over-step r (associated p) e = ap (λ (v : Value). (data_part v p).next) e ∙ over_data p
  over-step r (message p out) e = ap (λ (v : Value). (text_part v p out).next) e ∙ over_text p out
  over-step r (finish out tag) e = ap (λ (v : Value). (ending v out tag).next) e ∙ over-end out tag

  over-ended : (r : Run) (c : SessionCall) → r.now ≡ over → r.ended ≡ true → (step r c).ended ≡ true
  unfolding step
  over-ended r (associated p) e t = t
  over-ended r (message p out) e t = t
  over-ended r (finish out tag) e t = ap (λ (v : Value). ended_by (ending v out tag).number r.ended) e
      ∙ ap (λ (k : ℕ). ended_by k r.ended) (over_shut.2 out tag) ∙ t

  abbrev run_at : Value → List ℕ → List ℕ → List ℕ → Bool → Run
  run_at v a m o b = record { now = v; ad = a; msg = m; out = o; ended = b }

  stands-step : (a m o : List ℕ) (b : Bool) (c : SessionCall) → InBytes c → b ≡ false → S (value a m) a m o → H (step (run_at (value a m) a m o b) c)
  unfolding step
  stands-step a m o b (associated p) h eb s = stands (data-step a m o p h s) eb
  stands-step a m o b (message p out) h eb s = stands (text-step a m o p out h s) eb
  stands-step a m o b (finish out tag) h eb s = end_step a m o out tag b eb s

  one-step : (r : Run) (c : SessionCall) → InBytes c → H r → H (step r c)
  one-step r c h (closed e t) = closed (over-step r c e) (over-ended r c e t)
  one-step r c h (stands s eb) =
      let e = s.at in
      subst (λ (v : Value). S v r.ad r.msg r.out → H (step (run_at v r.ad r.msg r.out r.ended) c)) (sym e)
      (stands-step r.ad r.msg r.out r.ended c h eb) s

  pub all-steps : (r : Run) (cs : List SessionCall) → AllInBytes cs → H r → H (run r cs)
  unfolding run
  all-steps r [] h k = k
  all-steps r (c ∷ cs) h k = all-steps (step r c) cs h.1 (one-step r c h.0 k)

  -- ---- the last call

  abbrev Last : Given → List ℕ → List ℕ → List ℕ → Type 0
  Last g a m o = (o ++ take g.count g.out ≡ ciphertext (cipher_of suite) key nonce a m) × (g.tag ≡ tag (cipher_of suite) key nonce a m)

  last-go : (k : ℕ) (a m o out tag₀ : List ℕ) → S (value a m) a m o
      → let g : Given = answered k (end_done (value a m) out) (value a m) out tag₀ in g.number ≡ 0 → Last g a m o
  unfolding so_far
  last-go (suc k) a m o out tag₀ s e = absurd (suc-ne-zero k e)
  last-go zero a m o out tag₀ s e = (
    ap₂ (λ (i j : List ℕ). i ++ j) s.out (front (end_out (cipher_of suite) (value a m)) out)
        ∙ end-out suite key nonce hk hv lv a m s.data_bytes s.text_bytes,
    end-tag suite key nonce hk hv lv a m s.data_bytes s.text_bytes,
  )

  last_step : (a m o out tag₀ : List ℕ) → S (value a m) a m o → (ending (value a m) out tag₀).number ≡ 0 → Last (ending (value a m) out tag₀) a m o
  unfolding ending so_far
  last_step a m o out tag₀ s e = last-go (end_number suite (length a) (length m) (length out) (length tag₀)) a m o out tag₀ s e

  pub last : (r : Run) (out tag₀ : List ℕ) → H r → (ending r.now out tag₀).number ≡ 0 → Last (ending r.now out tag₀) r.ad r.msg r.out
      × S r.now r.ad r.msg r.out
  last r out tag₀ (closed c t) e =
      let z : ◌≡◌ {A = ℕ} 9 0 = sym (over_shut.2 out tag₀) ∙ sym (ap (λ (v : Value). (ending v out tag₀).number) c) ∙ e in
      absurd (suc-ne-zero 8 z)
  last r out tag₀ (stands s eb) e = (
    subst (λ (v : Value). S v r.ad r.msg r.out → (ending v out tag₀).number ≡ 0 → Last (ending v out tag₀) r.ad r.msg r.out) (sym s.at)
        (last_step r.ad r.msg r.out out tag₀) s e,
    s,
  )

-- ---- the start

record Started (suite : ℕ) (key nonce : List ℕ) : Type 0 where
  still : Seals suite
  key16 : length key ≡ 16
  nonce_right : length nonce ≡ nonce_of suite
  next : (starting suite key nonce).next ≡ fresh suite key nonce

start_go : (k : ℕ) (done v : Value) → (answered k (gave 0 0 done [] []) v [] []).number ≡ 0 → (k ≡ 0) × ((answered k (gave 0 0 done [] []) v [] []).next ≡ done)
start_go zero done v e = (refl, refl)
start_go (suc k) done v e = absurd (suc-ne-zero k e)

started : (suite : ℕ) (key nonce : List ℕ) → (starting suite key nonce).number ≡ 0 → Started suite key nonce
unfolding starting
started suite key nonce e =
    let g = start_go (start_number suite (length key) (length nonce)) (fresh suite key nonce) over e in
    let n = start-passed suite (length key) (length nonce) g.0 in
    record { still = n.0; key16 = n.1; nonce_right = n.2; next = g.1 }

-- ---- what a start gives

pub starts : Starts
unfolding starting
starts suite key nonce hs hk hv =
    ap (λ (k : ℕ). (answered k (gave 0 0 (fresh suite key nonce) [] []) over [] []).number)
    (start_is suite (length key) (length nonce) true true true true (seals-has suite hs) hs (eq-eqb (length key) 16 hk)
    (eq-eqb (length nonce) (nonce_of suite) hv))

shut_go : (k : ℕ) (done : Value) → ((answered k (gave 0 0 done [] []) over [] []).number ≡ 0 → ⊥) → Shut (answered k (gave 0 0 done [] []) over [] []).next
shut_go zero done h = absurd (h refl)
shut_go (suc k) done h = over_shut

pub refused_shut : RefusedShut
unfolding starting
refused_shut suite key nonce h = shut_go (start_number suite (length key) (length nonce)) (fresh suite key nonce) h

-- ---- a whole run

module _ (suite : ℕ) (key nonce : List ℕ) (cs : List SessionCall) (hk : AllBytes key) (hv : AllBytes nonce) (hc : AllInBytes cs)
    (e0 : (starting suite key nonce).number ≡ 0) where
  abbrev all : Run
  all = run_of suite key nonce cs

  st : Started suite key nonce
  st = started suite key nonce e0

  bk : Block 16 key
  bk = record { long = st.key16; bytes = hk }

  begins : Kept suite key nonce (record { now = (starting suite key nonce).next; ad = []; msg = []; out = []; ended = false })
  begins =
      stands
      (record {
        at = st.next ∙ fresh-is suite key nonce bk hv st.nonce_right;
        out = sym (none_out suite key nonce bk hv st.nonce_right []);
        data_bytes = all_nil;
        text_bytes = all_nil;
        data_small = omega arith;
        text_small = omega arith;
      })
      refl

  kept : Kept suite key nonce all
  kept = all-steps suite key nonce bk hv st.nonce_right _ cs hc begins

  not-both : {b : Bool} → b ≡ true → b ≡ false → ⊥
  not-both p q = subst T (sym p ∙ q) tt

  going : Kept suite key nonce all → all.ended ≡ false → Next suite all
  going (closed e t) f = absurd (not-both t f)
  going (stands s eb) f =
      subst (λ (v : Value). Next suite (record { now = v; ad = all.ad; msg = all.msg; out = all.out; ended = all.ended })) (sym s.at)
      (next_is suite key nonce st.still all.ad all.msg s.data_small s.text_small all.out all.ended)

  shut : Kept suite key nonce all → all.ended ≡ true → Shut all.now
  shut (closed e t) f = subst Shut (sym e) over_shut
  shut (stands s eb) f = absurd (not-both f eb)

pub goes : Goes
goes suite key nonce cs hk hv hc e0 =
    (going suite key nonce cs hk hv hc e0 (kept suite key nonce cs hk hv hc e0), shut suite key nonce cs hk hv hc e0 (kept suite key nonce cs hk hv hc e0))

-- where the end answered 0: the outputs, and what stood before it
pub finished : (suite : ℕ) (key nonce : List ℕ) (cs : List SessionCall) (out₀ tag₀ : List ℕ) (hk : AllBytes key) (hv : AllBytes nonce) (hc : AllInBytes cs)
    (e0 : (starting suite key nonce).number ≡ 0) → (ending (run_of suite key nonce cs).now out₀ tag₀).number ≡ 0
    → let r : Run = run_of suite key nonce cs in
    let e : Given = ending r.now out₀ tag₀ in
    ((joined r e ≡ ciphertext (cipher_of suite) key nonce r.ad r.msg) × (e.tag ≡ tag (cipher_of suite) key nonce r.ad r.msg))
    × Stands suite key nonce r.now r.ad r.msg r.out
finished suite key nonce cs out₀ tag₀ hk hv hc e0 e1 =
    last suite key nonce (bk suite key nonce cs hk hv hc e0) hv (st suite key nonce cs hk hv hc e0).nonce_right (run_of suite key nonce cs) out₀ tag₀
    (kept suite key nonce cs hk hv hc e0) e1

pub whatever : Whatever
whatever suite key nonce cs out₀ tag₀ hk hv hc e0 e1 =
    let f = finished suite key nonce cs out₀ tag₀ hk hv hc e0 e1 in
    (f.0.0, f.0.1, f.1.data_small, f.1.text_small)

-- the start's facts, for what follows from the run
pub facts : (suite : ℕ) (key nonce : List ℕ) → (starting suite key nonce).number ≡ 0 → Seals suite × (length key ≡ 16) × (length nonce ≡ nonce_of suite)
facts suite key nonce e =
    let t = started suite key nonce e in
    (t.still, t.key16, t.nonce_right)
