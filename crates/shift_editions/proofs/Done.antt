-- What a move's answer says: the file passes, the stations are 0, and the output has room; and so the other way round.
use Prim.Native.Nat.{ℕ, ◌-◌, ◌≤◌, ◌<◌}
use native.Mathlib.Nat.{mul-le-mul_right}
use native.Mathlib.Omega.{arith}
use mathlib.Core.Path.{◌≡◌, refl, sym, ap, ◌∙◌}
use mathlib.Core.Bool.{Bool, true, false, not, cond, true≢false}
use mathlib.Core.List.{List}
use mathlib.Core.Logic.{⊎_elim}
use lib.ListN.{length}
use lib.Dec.{eqb, ltb}
use borrow.Author.Tests.{eq-eqb, ne_eqb, le-ltb, eqb-true, ltb-false, not-false}
use Rattle.std.specs.Prelude.{Result, Ok, Err}
use Rattle.std.specs.Result.{is_err}
use Rattle.block.proofs.Tests.{is_false}
use Rattle.status.specs.declared.checked.Answer.{Answer}
use Rattle.status.specs.declared.checked.Refusal.{Refusal}
use Rattle.shift_format.specs.Format.{edition_of, count_of, first_edition, newest, row_size, row_size_of, row_start, body_end, station_of}
use Rattle.status.specs.Answers.{answer, checked_answer}
use Rattle.shift_check.specs.Check.{head_number, and_then, check_as}
use Rattle.shift_check.proofs.Searches.{first_says, first-none}
use Rattle.status.proofs.Numbers.{refusal-some}
use Rattle.shift_format.proofs.Rows.{row_broad, row_narrow}
use Rattle.shift_check.proofs.Sound.{headed}
use Rattle.shift_check.proofs.Passed.{passes, both_zero}
use Rattle.shift_check.proofs.Bodies.{after_table}
use Rattle.shift_editions.specs.declared.answers.MoveError.{MoveError}
use Rattle.shift_editions.specs.declared.answers.MoveError.TheVariants as moved-case
use Rattle.shift_editions.specs.Files.{carried, moved}
use Rattle.shift_editions.specs.Answers.{move_answer, moved_answer, stations_from, length_answer, moved_length_of, up_answer, back_answer, FileMoved, moves, to_edition2_of}
use Rattle.shift_editions.specs.Answers.{to_edition1_of}
use Rattle.shift_editions.specs.Promised.{done}
use Rattle.shift_editions.specs.Inside.{Movable, Tabled, Source, Room}
use Rattle.shift_editions.proofs.Laid.{file-long}

-- no refusal is number 0
pub refusal_some : (e : MoveError) → (move_answer e).number ≡ 0 → ⊥
refusal_some (moved-case.Refused x) q = refusal-some x q
refusal_some (moved-case.Station i) q = omega arith
refusal_some moved-case.Room q = omega arith

pub told_zero : (x : Result Unit MoveError) (y : Answer) {u : Unit} → moved_answer x ≡ y → x ≡ Ok u → y.number ≡ 0
told_zero x y q d = ap (λ (z : Answer). z.number) (sym q ∙ ap moved_answer d)

-- a refusal leaves the output
pub refused-moves : (x y : Answer) (g out : List ℕ) → x ≡ y → (x.number ≡ 0 → ⊥) → ◌≡◌ {A = FileMoved} (record { answer = x; out = out }) (moves y g out)
refused-moves x y g out q n = rw (sym q) (simp (ne_eqb _ _ n))

-- ---- the lengths

pub lengths-pass : (new out : ℕ) → (length_answer new out).number ≡ 0 → Room new out
unfolding length_answer
lengths-pass new out z = go (ltb 1048576 new) (eqb out new) refl refl z
  where
    go : (a b : Bool) → ltb 1048576 new ≡ a → eqb out new ≡ b → (cond a (answer 20 0) (cond (not b) (answer 6 0) (answer 0 0))).number ≡ 0 → Room new out
    go true b p q h = absurd (omega arith)
    go false true p q h = record { short = ltb-false _ _ p; fits = eqb-true _ _ q }
    go false false p q h = absurd (omega arith)

pub lengths_fit : (new out : ℕ) → Room new out → length_answer new out ≡ answer 0 0
unfolding length_answer
lengths_fit new out h = simp (le-ltb _ _ h.short, eq-eqb _ _ h.fits)

-- ---- the stations

-- every station is 0
abbrev pub NoStation : List ℕ → Type 0
NoStation f = (i : ℕ) → i < count_of f → station_of f i ≡ 0

stations_none : (f : List ℕ) → (stations_from f (count_of f) 0).number ≡ 0 → NoStation f
unfolding stations_from
stations_none f z i l =
    ⊎_elim
    (λ h. absurd (let q = ap (λ (x : Answer). x.number) h.gives in omega arith))
    (λ h. eqb-true _ _ (not-false _ (h.none i (omega arith) (omega arith))))
    (first_says _ _ _ (count_of f - 0) 0 (stations_from f (count_of f) 0) refl)

none_stations : (f : List ℕ) → NoStation f → stations_from f (count_of f) 0 ≡ answer 0 0
unfolding stations_from
none_stations f h = first-none _ _ _ (count_of f) (λ j l. ap (λ (m : ℕ). not (eqb m 0)) (h j l))

-- ---- both moves

-- from edition a to b: what number 0 says
pub record Goes (a b : ℕ) (f : List ℕ) (out : ℕ) (x : Answer) : Type 0 where
  pub passed : (check_as a f).number ≡ 0
  pub room : Room (length (moved b f)) out
  pub zero : x ≡ answer 0 0

pub up_goes : (f : List ℕ) (out : ℕ) → (up_answer f out).number ≡ 0 → Goes first_edition newest f out (up_answer f out)
unfolding up_answer
up_goes f out z =
    let b = both_zero (check_as first_edition f) (length_answer (length (moved newest f)) out) z in
    let r = lengths-pass _ _ (rw b.1 at z) in
    record { passed = b.0; room = r; zero = b.1 ∙ lengths_fit _ _ r }

pub goes_up : (f : List ℕ) (out : ℕ) → (check_as first_edition f).number ≡ 0 → Room (length (moved newest f)) out → up_answer f out ≡ answer 0 0
unfolding up_answer
goes_up f out z r = simp z (lengths_fit _ _ r)

pub back_goes : (f : List ℕ) (out : ℕ) → (back_answer f out).number ≡ 0 → Goes newest first_edition f out (back_answer f out) × NoStation f
unfolding back_answer
back_goes f out z =
    let new = length_answer (length (moved first_edition f)) out in
    let b = both_zero (check_as newest f) (and_then (stations_from f (count_of f) 0) new) z in
    let s = both_zero (stations_from f (count_of f) 0) new (rw b.1 at z) in
    let r = lengths-pass _ _ (rw (b.1 ∙ s.1) at z) in
    (record { passed = b.0; room = r; zero = b.1 ∙ s.1 ∙ lengths_fit _ _ r }, stations_none f s.0)

-- a station that is not 0 stands
pub station_stands : (f : List ℕ) (out : ℕ) → (check_as newest f).number ≡ 0 → (x : Answer) → x ≡ stations_from f (count_of f) 0 → (x.number ≡ 0 → ⊥)
    → x ≡ back_answer f out
unfolding back_answer
station_stands f out z x q n = simp (z, ← q, ne_eqb _ _ n)

pub goes_back : (f : List ℕ) (out : ℕ) → (check_as newest f).number ≡ 0 → NoStation f → Room (length (moved first_edition f)) out → back_answer f out ≡ answer 0 0
unfolding back_answer
goes_back f out z n r = simp (z, none_stations f n) (lengths_fit _ _ r)

-- ---- what is left then

-- number 0: the moved file is what the output holds
pub up_is : (f out₀ : List ℕ) → up_answer f (length out₀) ≡ answer 0 0 → to_edition2_of f out₀ ≡ done (moved newest f)
unfolding to_edition2_of
up_is f out₀ q = ap (λ (x : Answer). moves x (moved newest f) out₀) q

pub back_is : (f out₀ : List ℕ) → back_answer f (length out₀) ≡ answer 0 0 → to_edition1_of f out₀ ≡ done (moved first_edition f)
unfolding to_edition1_of
back_is f out₀ q = ap (λ (x : Answer). moves x (moved first_edition f) out₀) q

-- ---- a file that passes can be moved

pub tabled : (low high : ℕ) (f : List ℕ) → head_number low high f ≡ 0 → Tabled f
tabled low high f z =
    let h = headed low high f z in
    record { long = h.long; short = h.short; few = h.few; table = h.table }

pub source : (e : ℕ) (f : List ℕ) → (check_as e f).number ≡ 0 → Source f
unfolding body_end
source e f z =
    let p = passes e e f z in
    record {
      tabled = tabled e e f p.zero;
      behind = λ i l. omega (arith, after_table (row_size_of f) f (count_of f) p.walk i (omega arith), (p.walk.rows i l).place.starts);
      within = λ i l. omega (arith, (p.walk.rows i l).place.ends);
    }

pub table_small : (e n : ℕ) → n ≤ 512 → row_start (row_size e) n < 1048576
unfolding row_start
table_small e n h = omega (arith, mul-le-mul_right n (row_narrow e))

pub length_is : (f : List ℕ) (e : ℕ) → Tabled f → length (moved e f) ≡ carried (row_size_of f) (row_size e) (count_of f) (length f)
length_is f e t = file-long (row_size_of f) (row_size e) f (count_of f) t.table (row_broad e) e

pub movable : (f : List ℕ) (e : ℕ) → Source f → length (moved e f) ≤ 1048576 → Movable (row_size_of f) (row_size e) f (count_of f)
movable f e s l = record {
  table = s.tabled.table;
  broad = row_broad e;
  narrow = row_narrow e;
  new-small = table_small e (count_of f) s.tabled.few;
  small = omega (arith, length_is f e s.tabled);
  behind = s.behind;
  within = s.within;
}

-- ---- the length that is told

-- a refused header has none
pub length_none : (f : List ℕ) (x : Result Unit Refusal) → is_err x ≡ true → checked_answer x ≡ answer (head_number first_edition newest f) 0 → 0 ≡ moved_length_of f
unfolding moved_length_of
length_none f (Ok u) e q = absurd (true≢false (sym e))
length_none f (Err x) e q =
    let n : head_number first_edition newest f ≡ 0 → ⊥ = λ z. refusal-some x (ap (λ (y : Answer). y.number) q ∙ z) in
    simp (ne_eqb (head_number first_edition newest f) 0 n)

-- and one that is not refused has number 0
pub head_passed : (x : Result Unit Refusal) (a : Answer) → is_err x ≡ false → checked_answer x ≡ a → a.number ≡ 0
head_passed (Ok u) a e q = ap (λ (y : Answer). y.number) (sym q)
head_passed (Err x) a e q = absurd (true≢false e)

-- a row of the newest edition's size is of that edition
newest_size : (e : ℕ) → row_size e ≡ row_size newest → eqb e newest ≡ true
unfolding row_size
newest_size e q = go (eqb e newest) refl q
  where
    go : (b : Bool) → eqb e newest ≡ b → ◌≡◌ {A = ℕ} (cond b 36 32) 36 → eqb e newest ≡ true
    go true p h = p
    go false p h = absurd (omega arith)

pub length_back : (f : List ℕ) → head_number first_edition newest f ≡ 0 → row_size_of f ≡ row_size newest → moved_length_of f ≡ length (moved first_edition f)
unfolding moved_length_of
length_back f z q = simp (z, newest_size (edition_of f) q)

pub length_up : (f : List ℕ) → head_number first_edition newest f ≡ 0 → (row_size_of f ≡ row_size newest → ⊥) → moved_length_of f ≡ length (moved newest f)
unfolding moved_length_of
length_up f z n = simp (z, is_false _ (λ e. n (ap row_size (eqb-true (edition_of f) newest e))))
