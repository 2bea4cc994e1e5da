-- The draft's text is copied to its offset in the output and sealed there; the piece that this gives is the definition's.
use lib.ListN.{length, take}
use mathlib.Core.List.{List}
use mathlib.Core.Path.{◌≡◌, sym, ap, ap₂, ◌∙◌}
use native.Mathlib.Omega.{arith}
use Prim.Native.Nat.{ℕ, ◌+◌, ◌-◌, ◌≤◌}
use borrow.Rule.Slice.PartMut.{put_mid, same_len_mid}
use Rattle.cipher.specs.Cipher.{size_of}
use Rattle.shift_format.specs.declared.row.Row.{Row}
use Rattle.shift_format.specs.Part.{stretch}
use Rattle.shift_format.specs.Format.{row_size_of, row_of}
use Rattle.shift_format.specs.Inside.{EntryIn}
use Rattle.shift_format.proofs.Rows.{stretch-length}
use Rattle.shift_draft.specs.Put.{put}
use Rattle.shift_piece.proofs.Lending.{body_fits, front_is, put-over, row-sealed}
use Rattle.shift_writer.proofs.rows.seal_entry.Goals as goal

pub text_of-requires : goal.text_of-requires
text_of-requires c = rw c.new-lent.ensures.3 c.requires.0.entry.body-in

-- the offsets of an entry whose text starts at a and ends with its tag at a + r.text_len + n
module _ (f : List ℕ) (i : ℕ) (r : Row) (h : EntryIn (row_size_of f) f i) (q : r ≡ row_of f i) where
  -- the text lies in the file
  text-long : length (stretch f (r.ad_at + r.ad_len) r.text_len) ≡ r.text_len
  text-long = stretch-length f (r.ad_at + r.ad_len) r.text_len (omega (arith, body_fits f i r h q))

  -- and the piece in the output
  inside : (out : List ℕ) → length out ≡ length f → (a n : ℕ) → a ≡ r.ad_at + r.ad_len → n ≡ size_of r.suite → a + r.text_len + n ≤ length out
  inside out l a n s k = omega (arith, body_fits f i r h q)

module _ (out : List ℕ) (a len e : ℕ) (k : a + len ≤ e) (i : e ≤ length out) where
  place-long : length (stretch out a (a + len - a)) ≡ len
  place-long = stretch-length out a (a + len - a) (omega arith) ∙ omega arith

  -- the text t is in place
  piece-long : (t : List ℕ) → length t ≡ length (stretch out a (a + len - a)) → length (stretch (put_mid a (a + len - a) out t) a (e - a)) ≡ e - a
  piece-long t l =
      stretch-length (put_mid a (a + len - a) out t) a (e - a)
      (omega (arith, same_len_mid a (a + len - a) out t l))

pub slice_bounds-copy-end : goal.slice_bounds-copy-end
slice_bounds-copy-end c =
    let i = inside c.args.file.now c.args.index _ c.requires.0.entry c.new-lent.ensures.3 c.args.out.now c.requires.0.out-long _ _ c.text_start-start.ensures c.size_of-n.ensures.is in
    omega (arith, i)

pub copy-requires : goal.copy-requires
copy-requires c =
    let f = c.args.file.now in
    let r = c.new-lent.result.row in
    let i = inside f c.args.index r c.requires.0.entry c.new-lent.ensures.3 c.args.out.now c.requires.0.out-long _ _ c.text_start-start.ensures c.size_of-n.ensures.is in
    place-long c.args.out.now c.text_start-start.result r.text_len _ (omega arith) i
    ∙ sym (ap length c.text_of.ensures.bytes ∙ text-long f c.args.index r c.requires.0.entry c.new-lent.ensures.3)

pub slice_bounds-seal_into-end : goal.slice_bounds-seal_into-end
slice_bounds-seal_into-end c =
    let a = c.text_start-start.result in
    let i = inside c.args.file.now c.args.index _ c.requires.0.entry c.new-lent.ensures.3 c.args.out.now c.requires.0.out-long _ _ c.text_start-start.ensures c.size_of-n.ensures.is in
    omega (arith, i, same_len_mid a (a + c.new-lent.result.row.text_len - a) c.args.out.now c.copy.new.to c.copy.auto.to)

pub seal_into-requires : goal.seal_into-requires
seal_into-requires c =
    let i = inside c.args.file.now c.args.index _ c.requires.0.entry c.new-lent.ensures.3 c.args.out.now c.requires.0.out-long _ _ c.text_start-start.ensures c.size_of-n.ensures.is in
    rw (c.new-lent.ensures.0, c.new-lent.ensures.1, c.new-lent.ensures.2) (record {
      entry = c.requires.0.entry;
      still = rw c.new-lent.ensures.3 c.requires.1;
      ring_long = c.requires.0.ring_long;
      out-long =
          omega (
            arith,
            piece-long c.args.out.now c.text_start-start.result c.new-lent.result.row.text_len _ (omega arith) i c.copy.new.to c.copy.auto.to,
            c.size_of-n.ensures.is,
          );
    })

pub returns : goal.returns
returns c =
    let f = c.args.file.now in
    let r = c.new-lent.result.row in
    let out = c.args.out.now in
    let a = c.text_start-start.result in
    let e = a + r.text_len + c.size_of-n.result in
    let t = c.copy.new.to in
    let k = c.copy.auto.to in
    let x = c.seal_into.new.out in
    let i : e ≤ length out = inside f c.args.index r c.requires.0.entry c.new-lent.ensures.3 out c.requires.0.out-long a c.size_of-n.result c.text_start-start.ensures c.size_of-n.ensures.is in
    let lt : length t ≡ r.text_len = k ∙ place-long out a r.text_len e (omega arith) i in
    let lx : length x ≡ e - a = c.seal_into.auto.out ∙ piece-long out a r.text_len e (omega arith) i t k in
    let front = front_is out t a r.text_len e (omega arith) (omega (arith, i)) lt in
    put-over out t x a (a + r.text_len) e (omega arith) (omega arith) i (lt ∙ omega arith) lx
    ∙ ap₂ (put out) c.text_start-start.ensures (rw (c.new-lent.ensures.0, c.new-lent.ensures.1, c.new-lent.ensures.2) at c.seal_into.ensures)
    ∙ row-sealed f c.args.ring.now c.args.index r c.new-lent.ensures.3 out (take r.text_len (stretch (put_mid a (a + r.text_len - a) out t) a (e - a)))
    (front ∙ c.copy.ensures ∙ c.text_of.ensures.bytes)
