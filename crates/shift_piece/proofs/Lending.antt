-- What sealer and opener leave in a row's part of the output, and the parts of its piece put where they belong.
use Prim.Native.Nat.{ℕ, ◌+◌, ◌-◌, ◌≤◌, ◌<◌}
use native.Mathlib.Omega.{arith}
use mathlib.Core.Path.{◌≡◌, refl, sym, ap, ap₂, ◌∙◌}
use mathlib.Core.Bool.{Bool, true, false}
use mathlib.Core.List.{List, ◌++◌, append_assoc, append-nil}
use lib.ListN.{length, take, drop, replicate, length-append}
use lib.Seq.{take_at, take-take, drop_at, drop-drop, drop-length, length-take-le}
use borrow.Rule.Slice.PartMut.{put_mid, Post-is, take_put, drop_put}
use Rattle.cipher.specs.Cipher.{Seals, size_of, limit}
use Rattle.comet.specs.Answers.{Sealed, Opened, opened_as}
use Rattle.shift_format.specs.declared.row.Row.{Row}
use Rattle.shift_format.specs.Part.{stretch}
use Rattle.shift_format.specs.Format.{row_size_of, row_of, text_of, body_end}
use Rattle.shift_format.specs.Inside.{EntryIn}
use Rattle.shift_jobs.specs.Opening.{entry_sealing_as, entry_opening}
use Rattle.shift_draft.specs.Put.{put}
use Rattle.shift_draft.specs.Files.{piece_start, text_as, tag_as, piece_as, entry_out, entry_tag, sealed_piece, draft_piece}
use Rattle.shift_draft.specs.Answers.{tag_right}
use Rattle.shift_draft.proofs.Takes.{as-done, open_done}

-- a row's body lies in the file
pub body_fits : (f : List ℕ) (i : ℕ) (r : Row) → EntryIn (row_size_of f) f i → r ≡ row_of f i
    → r.ad_at + r.ad_len + r.text_len + size_of r.suite ≤ length f
unfolding body_end
body_fits f i r h q = rw q h.body-in

module _ (f ring : List ℕ) (i : ℕ) (h : EntryIn (row_size_of f) f i) (g : length ring ≡ 256) where
  -- the sealer left text and tag
  pub seal-told : (suite m : ℕ) (x y text out tag : List ℕ) → Seals suite → length text ≤ limit → length out ≡ length text → length tag ≡ size_of suite
      → ◌≡◌ {A = Sealed} (record { number = m; out = x; tag = y }) (entry_sealing_as f ring i suite text out tag)
      → (x ≡ text_as false f ring i suite text) × (y ≡ tag_as false f ring i suite text)
  seal-told suite m x y text out tag s high lo lt e =
      let p = e ∙ as-done f ring i h g suite text out tag s high lo lt in
      (ap (λ (w : Sealed). w.out) p, ap (λ (w : Sealed). w.tag) p)

  -- the opener said whether the tag is right, and left the text where it is
  pub record OpenTold (m : ℕ) (x : List ℕ) : Type 0 where
    pub done : m ≡ 0 → (true ≡ tag_right f ring i) × (x ≡ entry_out true f ring i)
    pub wrong : 0 < m → false ≡ tag_right f ring i

  pub open_told : (m : ℕ) (x o : List ℕ) → length o ≡ (row_of f i).text_len → ◌≡◌ {A = Opened} (record { number = m; out = x }) (entry_opening f ring i o)
      → OpenTold m x
  open_told m x o l e = told (tag_right f ring i) refl (e ∙ open_done f ring i h g o l)
    where
      told : (b : Bool) → tag_right f ring i ≡ b → ◌≡◌ {A = Opened} (record { number = m; out = x }) (opened_as 0 b (entry_out true f ring i) o) → OpenTold m x
      told true t p =
          record { done = λ z. (sym t, ap (λ (w : Opened). w.out) p); wrong = λ l. absurd (let z = ap (λ (w : Opened). w.number) p in omega arith) }
      told false t p = record { done = λ z. absurd (let y = ap (λ (w : Opened). w.number) p in omega arith); wrong = λ l. sym t }

-- ---- parts of a list

-- what was put there is there
pub part_is : (l x : List ℕ) (a e : ℕ) → a ≤ length l → length x ≡ e - a → stretch (put_mid a (e - a) l x) a (e - a) ≡ x
part_is l x a e h q =
    let r = drop (e - a) (drop a l) in
    ap (take (e - a)) (drop_at (take a l) (x ++ r) a (length-take-le a l h)) ∙ take_at x r (e - a) q

-- and it is the front of a longer part
pub front_is : (l x : List ℕ) (a n e : ℕ) → a + n ≤ e → a ≤ length l → length x ≡ n → take n (stretch (put_mid a (a + n - a) l x) a (e - a)) ≡ x
front_is l x a n e k h q =
    let m = put_mid a (a + n - a) l x in
    let w : n ≡ a + n - a = omega arith in
    ap (λ (j : ℕ). take j (stretch m a (e - a))) w ∙ take-take (a + n - a) (e - a) (drop a m) (omega arith) ∙ part_is l x a (a + n) h (q ∙ w)

-- a longer one over a shorter one, from the same place on
pub put-over : (out x y : List ℕ) (a b e : ℕ) → a ≤ b → b ≤ e → e ≤ length out → length x ≡ b - a → length y ≡ e - a
    → put_mid a (e - a) (put_mid a (b - a) out x) y ≡ put out a y
unfolding put
put-over out x y a b e h k l lx ly =
    let m = put_mid a (b - a) out x in
    let s1 : e ≡ b + (e - b) = omega arith in
    let s2 : b + (e - b) ≡ a + length y = omega arith in
    let d : drop e m ≡ drop (a + length y) out = ap (λ (j : ℕ). drop j m) s1 ∙ sym (drop-drop (e - b) b m)
    ∙ ap (drop (e - b)) (drop_put a b out x h (omega arith) lx) ∙ drop-drop (e - b) b out ∙ ap (λ (j : ℕ). drop j out) s2 in
    ap₂ (λ (u v : List ℕ). u ++ (y ++ v)) (take_put a (b - a) out x (omega arith)) (Post-is a e m (omega arith) ∙ d)

-- two, one after the other
pub put_two : (out x y : List ℕ) (a b e : ℕ) → a ≤ b → b ≤ e → e ≤ length out → length x ≡ b - a → length y ≡ e - b
    → put_mid b (e - b) (put_mid a (b - a) out x) y ≡ put out a (x ++ y)
unfolding put
put_two out x y a b e h k l lx ly =
    let d = drop (b - a) (drop a out) in
    let w = take a out ++ x in
    let m = take a out ++ (x ++ d) in
    let lw : length w ≡ b = length-append (take a out) x ∙ omega (arith, length-take-le a out (omega arith)) in
    let assoc : m ≡ w ++ d = sym (append_assoc (take a out) x d) in
    let s1 : a + (b - a) ≡ b = omega arith in
    let s2 : b + (e - b) ≡ e = omega arith in
    let s3 : e ≡ a + length (x ++ y) = omega (arith, length-append x y) in
    let dq : d ≡ drop b out = drop-drop (b - a) a out ∙ ap (λ (j : ℕ). drop j out) s1 in
    let t : take b m ≡ w = ap (take b) assoc ∙ take_at w d b lw in
    let r : drop (e - b) (drop b m) ≡ drop e out = ap (drop (e - b)) (ap (drop b) assoc ∙ drop_at w d b lw ∙ dq) ∙ drop-drop (e - b) b out
    ∙ ap (λ (j : ℕ). drop j out) s2 in
    ap₂ (λ (u v : List ℕ). u ++ (y ++ v)) t r
    ∙ append_assoc (take a out) x (y ++ drop e out)
    ∙ ap (λ (v : List ℕ). take a out ++ v) (sym (append_assoc x y (drop e out)))
    ∙ ap (λ (j : ℕ). take a out ++ ((x ++ y) ++ drop j out)) s3

-- and there is nothing else
pub put_both : (out x y : List ℕ) (b e : ℕ) → b ≤ e → length out ≡ e → length x ≡ b - 0 → length y ≡ e - b
    → put_mid b (e - b) (put_mid 0 (b - 0) out x) y ≡ x ++ y
unfolding put
put_both out x y b e h lo lx ly =
    let w = x ++ y in
    let lw : 0 + length w ≡ length out = omega (arith, length-append x y) in
    put_two out x y 0 b e (omega arith) h (omega arith) lx ly
    ∙ ap (λ (k : ℕ). w ++ drop k out) lw
    ∙ ap (λ (v : List ℕ). w ++ v) (drop-length out)
    ∙ append-nil w

-- ---- the piece of row i, where it starts

module _ (f ring : List ℕ) (i : ℕ) (r : Row) (q : r ≡ row_of f i) (out : List ℕ) where
  pub row-sealed : (text : List ℕ) → text ≡ text_of f r → put out (r.ad_at + r.ad_len) (piece_as f ring i r.suite text)
      ≡ put out (piece_start f i) (sealed_piece f ring i)
  unfolding piece_start sealed_piece entry_out entry_tag
  row-sealed text e =
      ap (λ (v : List ℕ). put out (r.ad_at + r.ad_len) (piece_as f ring i r.suite v)) e
      ∙ ap (λ (s : Row). put out (s.ad_at + s.ad_len) (piece_as f ring i s.suite (text_of f s))) q

  pub row_opened : (x y : List ℕ) → x ≡ entry_out true f ring i → y ≡ replicate (size_of r.suite) 0
      → put out (r.ad_at + r.ad_len) (x ++ y) ≡ put out (piece_start f i) (draft_piece f ring i)
  unfolding piece_start draft_piece
  row_opened x y ex ey = λ t. put out ((q t).ad_at + (q t).ad_len) (ex t ++ (ey ∙ ap (λ (s : Row). replicate (size_of s.suite) 0) q) t)
