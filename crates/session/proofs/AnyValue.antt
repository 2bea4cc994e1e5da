-- What a session's definitions say of any value: a suite over 255 is answered by 9, and a count is at most 65,551, so it fits C's number.
use mathlib.Core.Path.{◌≡◌, refl, sym}
use mathlib.Core.Bool.{false}
use Prim.Native.Nat.{ℕ, zero, suc, ◌+◌, ◌*◌, ◌/◌, ◌%◌, ◌≤◌, ◌<◌}
use native.Mathlib.Nat.{mod-lt, div-add-mod'}
use native.Mathlib.Omega.{arith}
use mathlib.Core.List.{List, [], ◌∷◌}
use lib.ListN.{length}
use lib.Dec.{lit≤}
use borrow.Author.Tests.{le-leb, lt-leb}
use Rattle.cipher.specs.Cipher.{is_suite, seals, cipher_of, limit}
use Rattle.cipher.proofs.Lawful.{lawful}
use Rattle.cipher.proofs.Suites.{size_most}
use Rattle.mode.proofs.Chain.{some}
use Rattle.session.specs.Value.{Value, sound, answered, gave, start_number, fresh, over, starting, data_number, data_in, data_part, text_number, text_done}
use Rattle.session.specs.Value.{text_part, end_number, end_done, ending}
use Rattle.session_ladder.proofs.Rungs.{data-closed, text-passed, text-is, end_is}
use Rattle.session.proofs.Refuse.{answer-kept}
use Rattle.session.proofs.Count.{part_count, end-count}

-- ---- a suite over 255

no_suite : (s : ℕ) → 255 < s → seals s ≡ false
unfolding seals is_suite
no_suite s h = simp (le-leb 1 s (omega arith), lt-leb s 6 (omega arith))

unsound : (v : Value) → 255 < v.suite → sound v.suite v.ad_total v.text_total ≡ false
unsound v h = simp (no_suite v.suite h)

nine_not : ◌≡◌ {A = ℕ} 9 0 → ⊥
nine_not e = omega (arith, e)

pub data_shut : (v : Value) (p : List ℕ) → 255 < v.suite → gave 9 0 v [] [] ≡ data_part v p
unfolding data_part
data_shut v p h = answer-kept 9 _ _ v [] [] nine_not (sym (data-closed v.suite v.ad_total v.text_total (length p) (unsound v h)))

pub text_shut : (v : Value) (p out : List ℕ) → 255 < v.suite → gave 9 0 v out [] ≡ text_part v p out
unfolding text_part
text_shut v p out h =
    answer-kept 9 _ _ v out [] nine_not (sym (text-is v.suite v.ad_total v.text_total (length p) (length out) false _ _ (unsound v h) refl refl))

pub end_shut : (v : Value) (out tag : List ℕ) → 255 < v.suite → gave 9 0 v out tag ≡ ending v out tag
unfolding ending
end_shut v out tag h =
    answer-kept 9 _ _ v out tag nine_not (sym (end_is v.suite v.ad_total v.text_total (length out) (length tag) false _ _ (unsound v h) refl refl))

-- ---- counts

none : (k : ℕ) (v w : Value) → (answered k (gave 0 0 v [] []) w [] []).count ≡ 0
none zero v w = refl
none (suc k) v w = refl

pub start_none : (suite : ℕ) (key nonce : List ℕ) → (starting suite key nonce).count ≡ 0
unfolding starting
start_none suite key nonce = none (start_number suite (length key) (length nonce)) (fresh suite key nonce) over

pub data_none : (v : Value) (p : List ℕ) → (data_part v p).count ≡ 0
unfolding data_part
data_none v p = none (data_number v.suite v.ad_total v.text_total (length p)) (data_in (cipher_of v.suite) v p) v

module _ (v : Value) (held : length v.held ≡ 16) where
  abbrev n : ℕ
  n = (cipher_of v.suite).size

  less : v.text_total % n < 16
  less =
      let h : v.text_total % n < n = mod-lt v.text_total (some (cipher_of v.suite) (lawful v.suite)) in
      omega (arith, size_most v.suite, h)

  whole-less : (x : ℕ) → x / n * n ≤ x
  whole-less x = omega (arith, div-add-mod' x n)

  done-few : (p out : List ℕ) → length p ≤ limit → (text_done v p out).count ≤ 65551
  done-few [] out h = lit≤ tt
  done-few (x ∷ p) out h = omega (arith, part_count v held (x ∷ p), whole-less (v.text_total % n + length (x ∷ p)), less, h)

  text-answered : (k : ℕ) (p out : List ℕ) → (k ≡ 0 → length p ≤ limit) → (answered k (text_done v p out) v out []).count ≤ 65551
  text-answered zero p out h = done-few p out (h refl)
  text-answered (suc k) p out h = lit≤ tt

  pub text-few : (p out : List ℕ) → (text_part v p out).count ≤ 65551
  unfolding text_part
  text-few p out =
      text-answered (text_number v.suite v.ad_total v.text_total (length p) (length out)) p out
      (λ e. omega (arith, (text-passed v.suite v.ad_total v.text_total (length p) (length out) e).1))

  end-answered : (k : ℕ) (out tag : List ℕ) → (answered k (end_done v out) v out tag).count ≤ 65551
  end-answered zero out tag = omega (arith, end-count v held, less)
  end-answered (suc k) out tag = lit≤ tt

  pub end-few : (out tag : List ℕ) → (ending v out tag).count ≤ 65551
  unfolding ending
  end-few out tag = end-answered (end_number v.suite v.ad_total v.text_total (length out) (length tag)) out tag
