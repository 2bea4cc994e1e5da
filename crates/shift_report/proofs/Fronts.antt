-- A list that is filled from the front, one entry after the other; and the cases of the report.
use Prim.Native.Nat.{ℕ, zero, suc, ◌+◌, ◌≤◌, ◌<◌}
use native.Mathlib.Omega.{arith}
use native.Mathlib.Numerals.{add-one}
use mathlib.Core.Path.{◌≡◌, refl, sym, ap, ap₂, ◌∙◌}
use mathlib.Core.Bool.{or-true}
use mathlib.Core.List.{List, [], ◌∷◌, ◌++◌}
use lib.ListN.{length, get_or, drop, set, length-append, length-drop}
use lib.Seq.{drop-cons, set_at, append_snoc}
use borrow.Author.Tests.{lt-ltb, le-ltb, ne_eqb}
use Rattle.status.specs.declared.checked.Refusal.{Refusal}
use Rattle.shift_format.specs.Format.{count_of}
use Rattle.status.specs.Answers.{answer, refusal_answer}
use Rattle.shift_check.specs.Check.{check_file}
use Rattle.status.proofs.Numbers.{refusal-some}
use Rattle.shift_report.specs.Reporting.{job_of, tag_number, each, front, entries, Report, stopped, longest, reporting}

each-length : (what : ℕ → ℕ) (n : ℕ) → length (each what n) ≡ n
unfolding each
each-length what zero = refl
each-length what (suc n) = length-append (each what n) (what n ∷ []) ∙ omega (arith, each-length what n)

-- one entry more
pub front-step : (what : ℕ → ℕ) (n v : ℕ) (l₀ l : List ℕ) → n < length l₀ → l ≡ front what n l₀ → v ≡ what n → set l n v ≡ front what (n + 1) l₀
unfolding each
front-step what n v l₀ l h q e =
    ap₂ (λ (x : List ℕ) (y : ℕ). set x n y) (q ∙ ap (λ (x : List ℕ). each what n ++ x) (drop-cons l₀ n 0 h)) e
    ∙ set_at (each what n) (get_or l₀ n 0) (drop (suc n) l₀) (what n) n (each-length what n)
    ∙ rw add-one (sym (append_snoc (each what n) (what n) (drop (suc n) l₀)))

-- none yet
pub front_none : (what : ℕ → ℕ) (l : List ℕ) → l ≡ front what 0 l
unfolding each
front_none what l = refl

pub front_length : (what : ℕ → ℕ) (n : ℕ) (l₀ l : List ℕ) → n ≤ length l₀ → l ≡ front what n l₀ → length l ≡ length l₀
front_length what n l₀ l h q =
    ap length q ∙ length-append (each what n) (drop n l₀) ∙ omega (arith, each-length what n, length-drop n l₀)

-- entries that are equal, row by row
pub each_same : (what other : ℕ → ℕ) (n : ℕ) → ((i : ℕ) → i < n → what i ≡ other i) → each what n ≡ each other n
unfolding each
each_same what other zero h = refl
each_same what other (suc n) h = ap₂ (λ (l : List ℕ) (x : ℕ). l ++ (x ∷ [])) (each_same what other n (λ i l. h i (omega arith))) (h n (omega arith))

-- ---- the cases of the report

module _ (f ring jobs numbers : List ℕ) where
  pub too_long : longest < length f → reporting f ring jobs numbers ≡ stopped (answer 20 0) jobs numbers
  unfolding reporting
  too_long l = simp (lt-ltb longest (length f) l)

  module _ (short : length f ≤ longest) where
    pub file-refused : (x : Refusal) → check_file f ≡ refusal_answer x → reporting f ring jobs numbers ≡ stopped (refusal_answer x) jobs numbers
    unfolding reporting
    file-refused x q = simp (le-ltb longest (length f) short, q, ne_eqb _ _ (refusal-some x))

    module _ (z : (check_file f).number ≡ 0) where
      pub ring-wrong : (length ring ≡ 256 → ⊥) → reporting f ring jobs numbers ≡ stopped (answer 2 0) jobs numbers
      unfolding reporting
      ring-wrong r = simp (le-ltb longest (length f) short, z, ne_eqb _ _ r)

      module _ (r : length ring ≡ 256) where
        pub jobs-short : length jobs < count_of f → reporting f ring jobs numbers ≡ stopped (answer 6 0) jobs numbers
        unfolding reporting
        jobs-short l = simp (le-ltb longest (length f) short, z, r, lt-ltb (length jobs) (count_of f) l)

        pub numbers-short : length numbers < count_of f → reporting f ring jobs numbers ≡ stopped (answer 6 0) jobs numbers
        unfolding reporting
        numbers-short l = simp (le-ltb longest (length f) short, z, r, lt-ltb (length numbers) (count_of f) l, or-true)

        pub all_said : count_of f ≤ length jobs → count_of f ≤ length numbers
            → reporting f ring jobs numbers ≡ record {
              said = entries (count_of f);
              jobs = front (job_of f) (count_of f) jobs;
              numbers = front (tag_number f ring) (count_of f) numbers;
            }
        unfolding reporting
        all_said a b = simp (le-ltb longest (length f) short, z, r, le-ltb (length jobs) (count_of f) a, le-ltb (length numbers) (count_of f) b)

        -- both lists are filled
        pub all_listed : (n : ℕ) (x y : List ℕ) → n ≡ count_of f → n ≤ length jobs → n ≤ length numbers → x ≡ front (job_of f) n jobs
            → y ≡ front (tag_number f ring) n numbers
            → ◌≡◌ {A = Report} (record { said = entries n; jobs = x; numbers = y }) (reporting f ring jobs numbers)
        all_listed n x y q a b p o = rw (p, o, q) (sym (all_said (rw q at a) (rw q at b)))
