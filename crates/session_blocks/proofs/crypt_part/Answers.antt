-- `session_blocks::crypt_part`: with less than one block nothing is output and the bytes are buffered. Otherwise the buffered
-- bytes and the part are written to the start of the output, and the whole blocks are sealed there. The proof shows that those
-- bytes are the whole blocks of the joined text, and that the buffered bytes are its rest.
use borrow.Author.Rules.{rules}
use borrow.Rule.Slice.PartMut.{put_mid}
use lib.ListN.{length, take, drop, length-append}
use lib.Seq.{length-take-le}
use mathlib.Core.Bool.{false}
use mathlib.Core.List.{List, ◌++◌, append-nil}
use mathlib.Core.Path.{◌≡◌, sym, ap, ap₂, ◌∙◌, subst}
use native.Mathlib.Nat.{div-add-mod', mod-lt, le-div_iff_mul-le, mul-le-mul_right}
use native.Mathlib.Omega.{arith}
use Prim.Native.Nat.{ℕ, ◌+◌, ◌-◌, ◌*◌, ◌/◌, ◌%◌, ◌≤◌, ◌<◌}
use Rattle.block.specs.Blocks.{filled}
use Rattle.cipher.specs.Cipher.{size_of, cipher_of}
use Rattle.mode.specs.Blocks.{blocks}
use Rattle.mode.specs.Walk.{whole, rest, walked, covered}
use Rattle.mode.proofs.Cut.{length_whole, rest-less, rest-short}
use Rattle.block_state.specs.Two.{two_of}
use Rattle.block_walk.proofs.Front.{short-blocks, short-walk, short-cover}
use Rattle.block_walk.specs.Counted.{Counted}
use Rattle.session_blocks.specs.Written.{written}
use Rattle.block_walk.proofs.Count.{counted_none, counted_passed}
use Rattle.session_blocks.proofs.Hold.{lent_again, twice-written, whole_is, rest-is, whole_alone}
use Rattle.session_blocks.proofs.crypt_part.Goals as goal
use Rattle.session_blocks.proofs.crypt_part.Goals.{Else-all-n}

-- a block or more leaves a block or more, where the rest of it is taken off
blocks-some : (a k : ℕ) → 0 < k → k ≤ a → k ≤ a - a % k
blocks-some a k pos h =
    let more : 1 ≤ a / k = (le-div_iff_mul-le {k = k} {x = 1} {y = a} pos).1 (omega arith) in
    let times : 1 * k ≤ a / k * k = mul-le-mul_right k more in
    omega (arith, div-add-mod' a k, times)

-- the held bytes and the part are a block or more
module _ (d : Else-all-n) where
  abbrev suite : ℕ
  suite = d.args.suite

  abbrev k : ℕ
  k = d.size_of-n.result

  abbrev part : List ℕ
  part = d.args.part.now

  abbrev x : List ℕ
  x = take d.args.count d.args.held

  abbrev w : ℕ
  w = d.args.count + length part - (d.args.count + length part) % k

  en : k ≡ size_of suite
  en = d.size_of-n.ensures.is

  pos : 0 < size_of suite
  pos = omega (arith, en, d.size_of-n.ensures.bounds.0)

  lx : length x ≡ d.args.count
  lx =
      let lh : length d.args.held ≡ 16 = search rules in
      length-take-le d.args.count d.args.held (omega (arith, d.requires.1, d.size_of-n.ensures.bounds.1, en))

  mod-most : (d.args.count + length part) % k < k
  mod-most = mod-lt (d.args.count + length part) d.size_of-n.ensures.bounds.0

  long : length (x ++ part) ≡ d.args.count + length part
  long = length-append x part ∙ omega (arith, lx)

  w-is : w ≡ length (x ++ part) / size_of suite * size_of suite
  w-is =
      let e : w ≡ (d.args.count + length part) / k * k = omega (arith, div-add-mod' (d.args.count + length part) k) in
      e ∙ ap₂ (λ (a b : ℕ). a / b * b) (sym long) en

  -- at least one block
  w-some : k ≤ w
  w-some = blocks-some (d.args.count + length part) k d.size_of-n.ensures.bounds.0 (omega (arith, d.if-all-n.false))

  h-within : d.args.count ≤ w
  h-within = omega (arith, w-some, d.requires.1, en)

  w-within : w ≤ d.args.count + length part
  w-within = omega arith

  room : w ≤ length d.args.out.now
  room = omega (arith, w-within, d.requires.1, d.requires.2)

pub returns-then-all-n : goal.returns-then-all-n
returns-then-all-n c =
    let suite = c.args.suite in
    let n = size_of suite in
    let en : c.size_of-n.result ≡ n = c.size_of-n.ensures.is in
    let pos : 0 < n = omega (arith, c.size_of-n.ensures.bounds.0) in
    let x : List ℕ = take c.args.count c.args.held in
    let part = c.args.part.now in
    let lh : length c.args.held ≡ 16 = search rules in
    let lx : length x ≡ c.args.count = length-take-le c.args.count c.args.held (omega (arith, c.requires.1, c.size_of-n.ensures.bounds.1)) in
    let l : length (x ++ part) < n = omega (arith, length-append x part, c.if-all-n.true) in
    let k = cipher_of suite in
    let ec = sym (short-cover k pos false 0x40 c.args.mark (two_of suite c.args.start) (x ++ part) l) in record {
      text = ap (λ (w : List ℕ). written w c.args.out.now) ec;
      count = ap length ec;
      states = sym (short-walk k pos false 0x40 c.args.mark (two_of suite c.args.start) (x ++ part) l);
      held = c.joined-held.ensures ∙ ap filled (sym (rest-short n pos (x ++ part) l));
      calls = subst (λ (i : ℕ). Counted suite i c.args.start c.args.start) (sym (ap length (short-blocks n pos (x ++ part) l)))
          (counted_none suite c.args.start (omega arith));
    }

pub overflow_sub-whole : goal.overflow_sub-whole
overflow_sub-whole c = omega (arith, div-add-mod' (c.args.count + length c.args.part.now) c.size_of-n.result)

pub overflow_sub-taken : goal.overflow_sub-taken
overflow_sub-taken c = h-within (goal.at.overflow_sub-taken c).Else-all-n

pub gather-requires : goal.gather-requires
gather-requires c =
    let d = (goal.at.gather-requires c).Else-all-n in
    let e = w d - c.args.count in (
      omega (arith, c.requires.1, c.size_of-n.ensures.bounds.1, en d),
      length-take-le (w d - 0) (drop 0 c.args.out.now) (omega (arith, room d))
          ∙ omega (arith, h-within d, length-take-le (e - 0) (drop 0 (part d)) (omega (arith, w-within d))),
    )

pub filled_bytes-held-requires : goal.filled_bytes-held-requires
filled_bytes-held-requires c =
    let d = (goal.at.filled_bytes-held-requires c).Else-all-n in
    omega (
      arith,
      ap length (rest-is (size_of (suite d)) (pos d) (x d) (part d) c.args.count (w d) (lx d) (w-is d) (h-within d)),
      rest-less (size_of (suite d)) (pos d) (x d ++ part d),
      c.size_of-n.ensures.bounds.1,
      en d,
    )

pub returns : goal.returns
returns c =
    let d = (goal.at.returns c).Else-all-n in
    let n = size_of (suite d) in
    let κ = cipher_of (suite d) in
    let l = x d ++ part d in
    let S = two_of (suite d) c.args.start in
    let m = c.args.mark in
    let out = c.args.out.now in
    let y = c.gather.new.out in
    let ey : y ≡ whole n l = c.gather.ensures ∙ whole_is n (pos d) (x d) (part d) c.args.count (w d) (lx d) (w-is d) (h-within d) in
    let ly : length y ≡ w d = ap length ey ∙ length_whole n (pos d) l ∙ sym (w-is d) in
    let call = c.crypt_blocks-done in
    let o = call.new.text in
    let el : take (w d - 0) (drop 0 (put_mid 0 (w d - 0) out y)) ≡ whole n l = lent_again out y (w d) ly (room d) ∙ ey in
    let ec : o ≡ covered κ false m 0x40 S (blocks n (whole n l)) =
    call.ensures.text 0x40
    ∙ ap (λ (b : List ℕ). covered κ false m 0x40 S (blocks n (whole n b)) ++ rest n b) el
    ∙ ap₂ (λ (a b : List ℕ). covered κ false m 0x40 S (blocks n a) ++ b) (whole_alone n (pos d) l).0 (whole_alone n (pos d) l).1
    ∙ append-nil (covered κ false m 0x40 S (blocks n (whole n l))) in
    let lo : length o ≡ w d = call.auto.text ∙ ap length (lent_again out y (w d) ly (room d)) ∙ ly in record {
      text = twice-written out y (w d) ly (room d) o _ call.auto.text ec;
      count = sym lo ∙ ap length ec;
      states = call.ensures.state.two 0x40 ∙ ap (λ (b : List ℕ). walked κ false m 0x40 S (blocks n (whole n b))) el
          ∙ ap (λ (b : List ℕ). walked κ false m 0x40 S (blocks n b)) (whole_alone n (pos d) l).0;
      held = c.filled_bytes-held.ensures ∙ ap filled (rest-is n (pos d) (x d) (part d) c.args.count (w d) (lx d) (w-is d) (h-within d));
      calls = subst (λ (i : ℕ). Counted (suite d) i c.args.start call.result.s)
          (ap (λ (b : List ℕ). length (blocks n (whole n b))) el ∙ ap (λ (b : List ℕ). length (blocks n b)) (whole_alone n (pos d) l).0)
          (counted_passed (suite d) false m c.args.start _ call.result call.ensures.state);
    }
