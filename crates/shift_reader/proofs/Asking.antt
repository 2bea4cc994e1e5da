-- Repeated calls of a reader: each gives the row at its index until there is none, and then the reader stays where it is.
use Rattle.std.proofs.Common.{◌≡◌, ℕ, zero, suc, ◌+◌, ◌<◌, ◌≤◌, Bool, true, false, cond, eqb, ◌⊎◌, List, ◌∷◌, replicate, sym, refl, ap, ◌∙◌, ap₂, inl, inr, ⊎_elim, not-suc-le-zero, add-one, arith, Bor, le-ltb, lt-ltb, eq-eqb, ne_eqb, eqb-true}
use Rattle.std.specs.Prelude.{Option, Some, None}
use mathlib.Core.Bool.{and-false}
use Rattle.status.specs.declared.checked.Answer.{Answer}
use Rattle.status.specs.declared.checked.Refusal.{Refusal}
use Rattle.shift_format.specs.Format.{first_edition, newest, count_of, row_size_of}
use Rattle.status.specs.Answers.{answer, refusal_answer}
use Rattle.shift_check.specs.Check.{head_number, check_file}
use Rattle.shift_format.specs.Inside.{RowIn}
use Rattle.status.proofs.Numbers.{refusal-some}
use Rattle.shift_format.proofs.Rows.{row_in}
use Rattle.shift_check.proofs.Sound.{headed}
use Rattle.shift_check.proofs.Passed.{passes}
use Rattle.shift_reader.specs.declared.cursor.Cursor.{Cursor}
use Rattle.shift_reader.specs.declared.cursor.Listed.{Listed}
use Rattle.shift_reader.specs.declared.cursor.Stepped.{Stepped}
use Rattle.shift_reader.specs.declared.Asked.{Asked}
use Rattle.shift_reader.specs.declared.Reader.{Reader}
use Rattle.shift_reader.specs.Reading.{rows_in, rows_laid, listed_of, ask_of, reader_of, next_of, asks, listed_from}
use Rattle.shift_reader.specs.Promised.{RowsThenEnded, EndedAtOnce, OthersEnded, OthersRows}

-- ---- how many rows there are

abbrev number_of : Answer → ℕ
number_of x = x.number

pub rows_all : (f : List ℕ) → (check_file f).number ≡ 0 → rows_in f ≡ count_of f
unfolding rows_in
rows_all f z = simp z

rows_other : (f : List ℕ) → ((check_file f).number ≡ 0 → ⊥) → rows_in f ≡ 0
unfolding rows_in
rows_other f n = simp (ne_eqb _ _ n)

pub rows_none : (f : List ℕ) (x : Refusal) → check_file f ≡ refusal_answer x → rows_in f ≡ 0
rows_none f x q = rows_other f (λ z. refusal-some x (ap number_of (sym q) ∙ z))

-- by the header alone
pub laid_all : (f : List ℕ) → head_number first_edition newest f ≡ 0 → rows_laid f ≡ count_of f
unfolding rows_laid
laid_all f z = simp z

pub laid_none : (f : List ℕ) (x : Refusal) → answer (head_number first_edition newest f) 0 ≡ refusal_answer x → rows_laid f ≡ 0
unfolding rows_laid
laid_none f x q = simp (ne_eqb (head_number first_edition newest f) 0 (λ z. refusal-some x (ap number_of (sym q) ∙ z)))

-- a file that passes has the rows that its header lays down
pub both_all : (f : List ℕ) → (check_file f).number ≡ 0 → rows_in f ≡ rows_laid f
both_all f z = rows_all f z ∙ sym (laid_all f (passes first_edition newest f z).zero)

-- a row that is laid down lies in the file
pub laid_in : (f : List ℕ) (i : ℕ) → i < rows_laid f → RowIn (row_size_of f) f i
unfolding rows_laid
laid_in f i l = lies (eqb (head_number first_edition newest f) 0) refl l
  where
    lies : (b : Bool) → eqb (head_number first_edition newest f) 0 ≡ b → i < cond b (count_of f) 0 → RowIn (row_size_of f) f i
    lies true e h = row_in (row_size_of f) f (count_of f) i (headed first_edition newest f (eqb-true _ _ e)).table h
    lies false e h = absurd (not-suc-le-zero h)

-- ---- one ask

abbrev pub moved : Cursor → Cursor
moved c = record { at = c.at + 1; end = c.end }

pub going : (c : Cursor) (f : List ℕ) → c.end ≡ rows_laid f → c.at < rows_laid f → ask_of c f ≡ record { next = moved c; entry = Some (listed_of f c.at) }
unfolding ask_of
going c f q l = simp (eq-eqb c.end (rows_laid f) q, lt-ltb c.at (rows_laid f) l)

past : (c : Cursor) (f : List ℕ) → rows_laid f ≤ c.at → ask_of c f ≡ record { next = c; entry = None }
unfolding ask_of
past c f h = simp (le-ltb c.at (rows_laid f) h, and-false)

other : (c : Cursor) (f : List ℕ) → (c.end ≡ rows_laid f → ⊥) → ask_of c f ≡ record { next = c; entry = None }
unfolding ask_of
other c f h = simp (ne_eqb c.end (rows_laid f) h)

-- ---- all of them, one after the other

-- the answer that is made of a step
abbrev pub made : Bor (List ℕ) → Stepped → Asked
made s t = record { reader = record { src = s; place = t.next }; entry = t.entry }

-- a reader that gives nothing stays where it is
stuck : (r : Reader) → ask_of r.place r.src.now ≡ record { next = r.place; entry = None } → (m : ℕ) → asks m r ≡ replicate m None
unfolding asks
stuck r e zero = refl
stuck r e (suc m) =
    let q : next_of r ≡ record { reader = r; entry = None } = ap (made r.src) e in
    ap₂ (λ (a : Option Listed) (t : List (Option Listed)). a ∷ t) (ap (λ (x : Asked). x.entry) q) (ap (λ (x : Asked). asks m x.reader) q ∙ stuck r e m)

-- k rows are left, and m calls follow them
pub others_rows : OthersRows
unfolding asks listed_from
others_rows r zero m e q = let c : 0 + m ≡ m = omega arith in rw c (stuck r (past r.place r.src.now (omega arith)) m)
others_rows r (suc k) m e q =
    let c : suc k + m ≡ suc (k + m) = omega arith in
    let l : r.place.at < rows_laid r.src.now = omega arith in
    let g : next_of r ≡ record { reader = record { src = r.src; place = moved r.place }; entry = Some (listed_of r.src.now r.place.at) } =
    ap (made r.src) (going r.place r.src.now e l) in
    rw c (ap₂ (λ (a : Option Listed) (t : List (Option Listed)). a ∷ t) (ap (λ (x : Asked). x.entry) g)
    (ap (λ (x : Asked). asks (k + m) x.reader) g ∙ rw add-one (others_rows
    (record { src = r.src; place = record { at = suc r.place.at; end = r.place.end } }) k m e (omega arith))))

pub others_ended : OthersEnded
others_ended r m h = ⊎_elim (λ l. stuck r (past r.place r.src.now l) m) (λ n. stuck r (other r.place r.src.now n) m) h

pub rows_then_ended : RowsThenEnded
rows_then_ended s m z =
    let q = both_all s.now z in
    let n = rows_all s.now z in
    others_rows (reader_of s) (count_of s.now) m q (omega (arith, q, n))

-- a reader of no rows: the header lays none down, or another number of them
none : (n : ℕ) → (n ≤ 0) ⊎ (◌≡◌ {A = ℕ} 0 n → ⊥)
none zero = inl (omega arith)
none (suc n) = inr (λ e. omega (arith, e))

pub ended_at_once : EndedAtOnce
ended_at_once s m n = let q = rows_other s.now n in others_ended (reader_of s) m (rw q (none (rows_laid s.now)))
