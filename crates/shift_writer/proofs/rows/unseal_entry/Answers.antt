-- The text is opened into the output; if its tag is right, zeros follow it, and both are the piece of the draft.
use lib.ListN.{length, replicate}
use mathlib.Core.Bool.{false, true≢false}
use Rattle.std.specs.Result.{is_ok}
use Rattle.std.proofs.lemmas.Result.{err_from_is_err_and}
use mathlib.Core.List.{List, ◌++◌}
use mathlib.Core.Path.{◌≡◌, sym, ap, ◌∙◌}
use native.Mathlib.Omega.{arith}
use Prim.Native.Nat.{ℕ, ◌+◌, ◌-◌, ◌≤◌}
use borrow.Rule.Slice.PartMut.{put_mid, same_len_mid}
use Rattle.cipher.specs.Cipher.{size_of}
use Rattle.shift_format.specs.declared.row.Row.{Row}
use Rattle.shift_format.specs.Part.{stretch}
use Rattle.shift_format.specs.Format.{row_size_of, row_of}
use Rattle.shift_format.specs.Inside.{EntryIn}
use Rattle.shift_format.proofs.Rows.{stretch-length}
use Rattle.shift_draft.specs.Put.{put}
use Rattle.status.specs.Verdicts.{number_of}
use Rattle.status.proofs.Refuse.{error-some}
use Rattle.shift_piece.proofs.Lending.{body_fits, open_told, put_two, row_opened}
use Rattle.shift_writer.proofs.rows.unseal_entry.Goals as goal

-- the entry's piece in the output: its text from a, its tag of n bytes after it
module _ (f : List ℕ) (i : ℕ) (r : Row) (h : EntryIn (row_size_of f) f i) (q : r ≡ row_of f i) (out : List ℕ) (l : length out ≡ length f) where
  inside : (a n : ℕ) → a ≡ r.ad_at + r.ad_len → n ≡ size_of r.suite → a + r.text_len + n ≤ length out
  inside a n s k = omega (arith, body_fits f i r h q)

  text-long : (a : ℕ) → a ≡ r.ad_at + r.ad_len → length (stretch out a (a + r.text_len - a)) ≡ r.text_len
  text-long a s = stretch-length out a (a + r.text_len - a) (omega (arith, body_fits f i r h q)) ∙ omega arith

pub slice_bounds-open-end : goal.slice_bounds-open-end
slice_bounds-open-end c =
    let i = inside c.args.file.now c.args.index _ c.requires.entry c.new-lent.ensures.3 c.args.out.now c.requires.out-long _ _ c.text_start-start.ensures c.size_of-n.ensures.is in
    omega (arith, i)

pub returns-in_err-open : goal.returns-in_err-open
returns-in_err-open c =
    let f = c.args.file.now in
    let a = c.text_start-start.result in
    let r = c.new-lent.result.row in
    let long = text-long f c.args.index r c.requires.entry c.new-lent.ensures.3 c.args.out.now c.requires.out-long a c.text_start-start.ensures ∙ ap (λ (q : Row). q.text_len) c.new-lent.ensures.3 in
    let t = open_told f c.args.ring.now c.args.index c.requires.entry c.requires.ring_long _ _ (stretch c.args.out.now a (a + r.text_len - a)) long
    (rw (c.new-lent.ensures.0, c.new-lent.ensures.1, c.new-lent.ensures.2) at c.open.ensures) in
    let p = err_from_is_err_and c.from_residual.result c.from_residual.ensures.1 in
    let w : is_ok c.from_residual.result ≡ false = ap is_ok p.1 in
    record { right = w ∙ t.wrong (rw c.in_err-open.was (error-some _)); text = λ e. absurd (true≢false (sym e ∙ w)) }

pub slice_bounds-wipe-end : goal.slice_bounds-wipe-end
slice_bounds-wipe-end c =
    let a = c.text_start-start.result in
    let i = inside c.args.file.now c.args.index _ c.requires.entry c.new-lent.ensures.3 c.args.out.now c.requires.out-long _ _ c.text_start-start.ensures c.size_of-n.ensures.is in
    omega (arith, i, same_len_mid a (a + c.new-lent.result.row.text_len - a) c.args.out.now c.open.new.out c.open.auto.out)

pub returns : goal.returns
returns c =
    let f = c.args.file.now in
    let ring = c.args.ring.now in
    let out = c.args.out.now in
    let r = c.new-lent.result.row in
    let a = c.text_start-start.result in
    let b = a + r.text_len in
    let e = b + c.size_of-n.result in
    let x = c.open.new.out in
    let y = c.wipe.new.out in
    let i : e ≤ length out = inside f c.args.index r c.requires.entry c.new-lent.ensures.3 out c.requires.out-long a c.size_of-n.result c.text_start-start.ensures c.size_of-n.ensures.is in
    let lo = text-long f c.args.index r c.requires.entry c.new-lent.ensures.3 out c.requires.out-long a c.text_start-start.ensures in
    let lx : length x ≡ b - a = c.open.auto.out ∙ lo ∙ omega arith in
    let m = put_mid a (b - a) out x in
    let lm : length m ≡ length out = same_len_mid a (b - a) out x c.open.auto.out in
    let lt : length (stretch m b (e - b)) ≡ e - b = stretch-length m b (e - b) (omega (arith, lm, i)) in
    let n : e - b ≡ size_of r.suite = omega (arith, c.size_of-n.ensures.is) in
    let long = lo ∙ ap (λ (q : Row). q.text_len) c.new-lent.ensures.3 in
    let told = open_told f ring c.args.index c.requires.entry c.requires.ring_long _ _ (stretch out a (b - a)) long (rw (c.new-lent.ensures.0, c.new-lent.ensures.1, c.new-lent.ensures.2) at c.open.ensures) in
    let t = told.done (ap number_of c.in_ok-open.was) in record {
      right = t.0;
      text = λ z.
          put_two out x y a b e (omega arith) (omega arith) i lx (c.wipe.auto.out ∙ lt)
          ∙ ap (λ (k : ℕ). put out k (x ++ y)) c.text_start-start.ensures
          ∙ row_opened f ring c.args.index r c.new-lent.ensures.3 out x y t.1 (c.wipe.ensures ∙ ap (λ (k : ℕ). replicate k 0) (lt ∙ n));
    }
