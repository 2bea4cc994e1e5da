-- A session of ours takes what the rules allow: at the value of the bytes that have come, the numbers are those of the lengths
-- that have come, and so are the counts.
use mathlib.Core.Path.{◌≡◌, refl, sym, ap, ◌∙◌}
use mathlib.Core.Bool.{Bool, true, false}
use Prim.Native.Nat.{ℕ, zero, suc, ◌+◌, ◌-◌, ◌*◌, ◌/◌, ◌%◌, ◌≤◌, ◌<◌}
use native.Mathlib.Nat.{suc-ne-zero, zero-mul, div-eq_of_lt, mod-lt}
use native.Mathlib.Omega.{arith}
use mathlib.Core.List.{List, [], ◌∷◌}
use lib.ListN.{length, replicate, length-append, length-replicate}
use borrow.Author.Tests.{le-leb, le-ltb, eq-eqb, ne_eqb}
use Rattle.block.proofs.Lists.{nil_of}
use Rattle.block.specs.Blocks.{filled}
use Rattle.cipher.specs.Cipher.{Seals, size_of, cipher_of, limit}
use Rattle.cipher.proofs.Lawful.{lawful}
use Rattle.cipher.proofs.Suites.{size_most}
use Rattle.mode.specs.Walk.{rest}
use Rattle.mode.proofs.Chain.{some}
use Rattle.mode.proofs.Cut.{rest-less}
use Rattle.session.specs.Value.{Value, answered, gave, data_in, data_number, data_part, text_number, text_done, text_part, end_number, end_done, ending, sound}
use Rattle.session.specs.Calls.{Next}
use Rattle.session.proofs.Joined.{held_so_far, so_far}
use Rattle.session_ladder.proofs.Rungs.{text-is, end_is, data-begun, data-limit}
use Rattle.session.proofs.Parts.{done-number}
use Rattle.session.proofs.Count.{part_count, end-count}

filled_long : (l : List ℕ) → length l ≤ 16 → length (filled l) ≡ 16
filled_long l h = length-append l (replicate (16 - length l) 0) ∙ ap (λ (k : ℕ). length l + k) (length-replicate (16 - length l) 0) ∙ omega arith

module _ (suite : ℕ) (key nonce : List ℕ) (still : Seals suite) (a m : List ℕ) (ha : length a ≤ limit) (hm : length m ≤ limit) where
  abbrev n : ℕ
  n = size_of suite

  pos : 0 < n
  pos = some (cipher_of suite) (lawful suite)

  abbrev at : Value
  at = so_far suite key nonce a m

  goes_on : sound suite (length a) (length m) ≡ true
  goes_on = simp (still, le-leb (length a) limit ha, le-leb (length m) limit hm)

  -- ---- associated data

  data_number_lem : (l : ℕ) → m ≡ [] → length a + l ≤ limit → data_number suite (length a) (length m) l ≡ 0
  data_number_lem l e h = data-limit suite (length a) (length m) l false goes_on (eq-eqb (length m) 0 (ap length e)) (le-ltb (limit - length a) l (omega arith))

  takes-data : (p : List ℕ) → m ≡ [] → length a + length p ≤ limit → (data_part at p).number ≡ 0
  unfolding data_part so_far
  takes-data p e h = ap (λ (k : ℕ). (answered k (gave 0 0 (data_in (cipher_of suite) at p) [] []) at [] []).number) (data_number_lem (length p) e h)

  late-data : (p : List ℕ) → (m ≡ [] → ⊥) → (data_part at p).number ≡ 9
  unfolding data_part so_far
  late-data p h =
      ap (λ (k : ℕ). (answered k (gave 0 0 (data_in (cipher_of suite) at p) [] []) at [] []).number)
      (data-begun suite (length a) (length m) (length p) goes_on (ne_eqb (length m) 0 (λ e. h (nil_of m e))))

  -- ---- message

  takes-text : (p out : List ℕ) → length m + length p ≤ limit → length p + (n - 1) ≤ length out → (text_part at p out).number ≡ 0
  unfolding text_part so_far
  takes-text p out h r =
      ap (λ (k : ℕ). (answered k (text_done at p out) at out []).number)
      (text-is suite (length a) (length m) (length p) (length out) true false false goes_on (le-ltb (limit - length m) (length p) (omega arith))
      (le-ltb (length out) (length p + (n - 1)) r))
      ∙ done-number at p out

  held-16 : length at.held ≡ 16
  unfolding so_far
  held-16 = two m
    where
      less : (l : List ℕ) → length (filled (rest n l)) ≡ 16
      less l = filled_long (rest n l) (omega (arith, rest-less n pos l, size_most suite))

      two : (l : List ℕ) → length (filled (held_so_far (cipher_of suite) key nonce a l)) ≡ 16
      two [] = less a
      two (x ∷ l) = less (x ∷ l)

  abbrev given : ℕ → ℕ
  given l = (length m % n + l) / n * n

  none-given : given 0 ≡ 0
  none-given =
      let h : length m % n + 0 < n = omega (arith, mod-lt (length m) pos) in
      ap (λ (q : ℕ). q * n) (div-eq_of_lt h) ∙ zero-mul n

  done-count : (p out : List ℕ) → (text_done at p out).count ≡ given (length p)
  unfolding so_far
  done-count [] out = sym none-given
  done-count (x ∷ p) out = part_count at held-16 (x ∷ p)

  counts-text : (k : ℕ) (p out : List ℕ) → (answered k (text_done at p out) at out []).number ≡ 0
      → (answered k (text_done at p out) at out []).count ≡ given (length p)
  counts-text zero p out e = done-count p out
  counts-text (suc k) p out e = absurd (suc-ne-zero k e)

  text-counts : (p out : List ℕ) → (text_part at p out).number ≡ 0 → (text_part at p out).count ≡ given (length p)
  unfolding text_part so_far
  text-counts p out e = counts-text (text_number suite (length a) (length m) (length p) (length out)) p out e

  -- ---- the end

  takes-end : (out tag : List ℕ) → n ≤ length out → length tag ≡ n → (ending at out tag).number ≡ 0
  unfolding ending so_far
  takes-end out tag r e =
      ap (λ (k : ℕ). (answered k (end_done at out) at out tag).number)
      (end_is suite (length a) (length m) (length out) (length tag) true false true goes_on (le-ltb (length out) n r) (eq-eqb (length tag) n e))

  counts_end : (k : ℕ) (out tag : List ℕ) → (answered k (end_done at out) at out tag).number ≡ 0 → (answered k (end_done at out) at out tag).count ≡ length m % n
  unfolding so_far
  counts_end zero out tag e = end-count at held-16
  counts_end (suc k) out tag e = absurd (suc-ne-zero k e)

  end-counts : (out tag : List ℕ) → (ending at out tag).number ≡ 0 → (ending at out tag).count ≡ length m % n
  unfolding ending so_far
  end-counts out tag e = counts_end (end_number suite (length a) (length m) (length out) (length tag)) out tag e

  pub next_is : (o : List ℕ) (b : Bool) → Next suite (record { now = at; ad = a; msg = m; out = o; ended = b })
  unfolding so_far
  next_is o b =
      record {
        seals = still;
        suite-is = refl;
        ad-total-is = refl;
        text-total-is = refl;
        data-most = ha;
        text-most = hm;
        data-taken = takes-data;
        data-late = late-data;
        text-taken = takes-text;
        text-count = text-counts;
        end-taken = takes-end;
        end-count = end-counts;
      }
