-- An output that is written from the front: a part after a part is one part, and when all of it is written it is those parts.
use Prim.Native.Nat.{ℕ, ◌+◌, ◌-◌, ◌≤◌, ◌<◌}
use native.Mathlib.Numerals.{add-one}
use native.Mathlib.Omega.{arith}
use mathlib.Core.Path.{◌≡◌, refl, sym, ap, ap₂, ◌∙◌}
use mathlib.Core.List.{List, [], ◌++◌, append_assoc, append-nil}
use lib.ListN.{length, take, drop, replicate, length-append, length-drop}
use lib.Seq.{take_all}
use Rattle.block.specs.Bytes.{bytes}
use Rattle.block.proofs.Bytes.{length-bytes}
use Rattle.shift_format.specs.Part.{stretch}
use Rattle.shift_format.specs.Format.{row_start, rest_start, row_at}
use Rattle.shift_format.proofs.Rows.{row_in, row_below}
use Rattle.shift_editions.specs.declared.front.Front.{Front}
use Rattle.shift_editions.specs.Inside.{Movable}
use Rattle.shift_editions.specs.Appended.{Appended}
use Rattle.shift_editions.proofs.Laid.{rows_long}
use Rattle.shift_editions.specs.Files.{carried, moved_row, moved_rows, moved_header, moved_from}

-- where row i lies in the new table, and in the old file
module _ (w v : ℕ) (f : List ℕ) (n i : ℕ) (h : Movable w v f n) (l : i < n) where
  pub new_row : (row_start v i + v ≤ row_start v n) × (row_start v i + v < 1048576)
  new_row = let b = row_below v i n l in (b, omega (arith, h.new-small))

  pub old_row : (row_start w i + w ≤ length f) × (32 ≤ w)
  old_row = let r = row_in w f n i h.table l in (r.fits, r.broad)

-- nothing more
pub none_appended : {a : Front} → Appended a a []
none_appended {a} = record { same_reference = refl; at = omega arith; long = refl; written = sym (append-nil (take a.at a.out.now)) }

-- two parts
pub both_appended : {a b c : Front} {x y : List ℕ} → Appended a b x → Appended b c y → Appended a c (x ++ y)
both_appended {a} {b} {c} {x} {y} p q =
    record {
      same_reference = q.same_reference ∙ p.same_reference;
      at = omega (arith, p.at, q.at, length-append x y);
      long = q.long ∙ p.long;
      written = q.written ∙ ap (λ (z : List ℕ). z ++ y) p.written ∙ append_assoc (take a.at a.out.now) x y;
    }

-- the row, of five parts
pub row_appended : (f : List ℕ) (w v n i : ℕ) {a b c d e g : Front}
    → Appended a b (stretch f (row_start w i) 4) → Appended b c (replicate (v - 32) 0) → Appended c d (stretch f (rest_start w i) 4)
    → Appended d e (bytes 4 (carried w v n (row_at w f i).ad_at)) → Appended e g (stretch f (rest_start w i + 8) 20)
    → Appended a g (moved_row w v f n i)
unfolding moved_row
row_appended f w v n i p q r s t = both_appended p (both_appended q (both_appended r (both_appended s t)))

-- one row more
pub rows-more : (f : List ℕ) (w v n i : ℕ) {a b c : Front} → Appended a b (moved_rows w v f n i) → Appended b c (moved_row w v f n i)
    → Appended a c (moved_rows w v f n (i + 1))
unfolding moved_rows
rows-more f w v n i p q = rw add-one (both_appended p q)

-- there is room for it
pub row_room : (f : List ℕ) (w v n i : ℕ) (a b : Front) → Movable w v f n → i < n → Appended a b (moved_rows w v f n i)
    → a.at + row_start v n ≤ length a.out.now + 8 → b.at + v ≤ length b.out.now
unfolding row_start
row_room f w v n i a b h l p room = omega (arith, p.at, p.long, rows_long w v f n h.table h.broad i (omega arith), (new_row w v f n i h l).0)

-- where the header ends, and where the rows do
pub header_end : (e n t : ℕ) {a b : Front} → Appended a b (bytes 2 e ++ (bytes 2 n ++ bytes 4 t)) → b.at ≡ a.at + 8
header_end e n t p =
    omega (arith, p.at, length-append (bytes 2 e) (bytes 2 n ++ bytes 4 t), length-append (bytes 2 n) (bytes 4 t), length-bytes 2 e, length-bytes 2 n, length-bytes 4 t)

pub rows_end : (f : List ℕ) (w v n : ℕ) {a b : Front} → Movable w v f n → Appended a b (moved_rows w v f n n) → b.at + 8 ≡ a.at + row_start v n
unfolding row_start
rows_end f w v n h p = omega (arith, p.at, rows_long w v f n h.table h.broad n (omega arith))

-- all of the file
pub all_written : (f out : List ℕ) (e w v n t : ℕ) (a b c d : Front) → a.at ≡ 0 → t ≡ carried w v n (length f) → length a.out.now ≡ t → row_start w n ≤ length f
    → Appended a b (bytes 2 e ++ (bytes 2 n ++ bytes 4 t)) → Appended b c (moved_rows w v f n n) → Appended c d (stretch f (row_start w n) (length f - row_start w n))
    → out ≡ d.out.now → length a.out.now ≤ d.at
    → out ≡ moved_from e w v f n
unfolding moved_from moved_header
all_written f out e w v n t a b c d za qt lt fits p q r g end =
    let body : stretch f (row_start w n) (length f - row_start w n) ≡ drop (row_start w n) f =
    take_all (length f - row_start w n) (drop (row_start w n) f) (omega (arith, length-drop (row_start w n) f)) in
    let s = both_appended p (both_appended q r) in
    let none : take a.at a.out.now ≡ [] = ap (λ (k : ℕ). take k a.out.now) za in
    g ∙ sym (take_all d.at d.out.now (omega (arith, s.long))) ∙ s.written
    ∙ ap₂ (λ (x y : List ℕ). x ++ y) none (rw (body, qt) refl)
