-- Text and tag of a row: how long they are, and that what one direction makes of them the other undoes.
use Prim.Native.Nat.{ℕ, ◌+◌, ◌<◌}
use mathlib.Core.Path.{◌≡◌, sym, ap₂, ◌∙◌}
use mathlib.Core.Bool.{Bool, not}
use mathlib.Core.List.{List, ◌++◌}
use lib.ListN.{length, take}
use Rattle.block.specs.Bytes.{AllBytes}
use Rattle.cipher.specs.Cipher.{cipher_of, size_of, nonce_of}
use Rattle.cipher.proofs.Lawful.{lawful}
use Rattle.mode.specs.Mode.{text_out, tag_out}
use Rattle.mode.proofs.Demand2.{text-length, text-back, tag_back, tag-block}
use Rattle.shift_format.specs.Part.{stretch}
use Rattle.shift_format.specs.Format.{count_of, row_size_of, nonce_at, row_of, data_of, text_of, tag_of}
use Rattle.shift_check.specs.Check.{check_as}
use Rattle.shift_format.specs.Inside.{EntryIn}
use Rattle.shift_check.proofs.Passed.{passes, entry_in}
use Rattle.shift_jobs.specs.Opening.{ring_key, nonce_read}
use Rattle.shift_jobs.proofs.Entries.{text-long}
use Rattle.shift_jobs.proofs.Changed.{all_stretch, nonce_bytes, nonce_full, key_block}
use Rattle.shift_draft.specs.Files.{piece_start, piece_size, entry_out, entry_tag}
use Rattle.shift_draft.proofs.Rewritten.{Plain, two_parts}

-- two files with the same row, nonce and associated data make the same of a text
module _ (f g ring : List ℕ) (i : ℕ) (d : Bool) (t : List ℕ) (rq : row_of g i ≡ row_of f i) (nq : nonce_at (row_size_of g) g i ≡ nonce_at (row_size_of f) f i)
    (dq : data_of g (row_of f i) ≡ data_of f (row_of f i)) (tq : text_of g (row_of f i) ≡ t) where
  out-same : entry_out d g ring i ≡ text_out (cipher_of (row_of f i).suite) d (ring_key ring (row_of f i).key) (nonce_read f i) (data_of f (row_of f i)) t
  unfolding entry_out
  out-same =
      (λ j. text_out (cipher_of (rq j).suite) d (ring_key ring (rq j).key) (take (nonce_of (rq j).suite) (nq j)) (data_of g (rq j)) (text_of g (rq j)))
      ∙ ap₂ (λ (a b : List ℕ). text_out (cipher_of (row_of f i).suite) d (ring_key ring (row_of f i).key) (nonce_read f i) a b) dq tq

  pub tag_same : entry_tag d g ring i ≡ tag_out (cipher_of (row_of f i).suite) d (ring_key ring (row_of f i).key) (nonce_read f i) (data_of f (row_of f i)) t
  unfolding entry_tag
  tag_same =
      (λ j. tag_out (cipher_of (rq j).suite) d (ring_key ring (rq j).key) (take (nonce_of (rq j).suite) (nq j)) (data_of g (rq j)) (text_of g (rq j)))
      ∙ ap₂ (λ (a b : List ℕ). tag_out (cipher_of (row_of f i).suite) d (ring_key ring (row_of f i).key) (nonce_read f i) a b) dq tq

-- a row of a file that passes is one that sealer and opener take
pub entry_at : (e : ℕ) (f : List ℕ) → Plain e → (check_as e f).number ≡ 0 → (i : ℕ) → i < count_of f → EntryIn (row_size_of f) f i
entry_at e f p z i l = entry_in e e f (passes e e f z) i l

-- a row of a file of bytes, under a ring of 16 keys
module _ (f ring : List ℕ) (i : ℕ) (h : EntryIn (row_size_of f) f i) (g : length ring ≡ 256) (hf : AllBytes f) (hr : AllBytes ring) where
  pub text-all : AllBytes (text_of f (row_of f i))
  text-all = all_stretch f ((row_of f i).ad_at + (row_of f i).ad_len) (row_of f i).text_len hf

  pub out-long : (d : Bool) → length (entry_out d f ring i) ≡ (row_of f i).text_len
  unfolding entry_out
  out-long d =
      let r = row_of f i in
      text-length (cipher_of r.suite) (lawful r.suite) (ring_key ring r.key) (nonce_read f i) (data_of f r) d (text_of f r) text-all
      ∙ text-long f ring i h g

  pub tag_size_lem : (d : Bool) → length (entry_tag d f ring i) ≡ size_of (row_of f i).suite
  unfolding entry_tag
  tag_size_lem d =
      let r = row_of f i in
      (tag-block (cipher_of r.suite) (lawful r.suite) (ring_key ring r.key) (nonce_read f i) (data_of f r) d (text_of f r)
      (key_block f ring i h g hr) (nonce_bytes f i hf) (nonce_full f ring i h g) (all_stretch f r.ad_at r.ad_len hf) text-all).long

  -- text and tag as they stand
  pub own-piece : text_of f (row_of f i) ++ tag_of f (row_of f i) ≡ stretch f (piece_start f i) (piece_size f i)
  unfolding piece_start
  own-piece = sym (two_parts f (piece_start f i) (row_of f i).text_len (size_of (row_of f i).suite))

  -- a file alike but for the text, which is what direction d made
  module _ (d : Bool) (x : List ℕ) (rq : row_of x i ≡ row_of f i) (nq : nonce_at (row_size_of x) x i ≡ nonce_at (row_size_of f) f i)
      (dq : data_of x (row_of f i) ≡ data_of f (row_of f i)) (tq : text_of x (row_of f i) ≡ entry_out d f ring i) where
    pub out-back : entry_out (not d) x ring i ≡ text_of f (row_of f i)
    unfolding entry_out
    out-back =
        let r = row_of f i in
        out-same f x ring i (not d) (entry_out d f ring i) rq nq dq tq
        ∙ text-back (cipher_of r.suite) (lawful r.suite) (ring_key ring r.key) (nonce_read f i) (data_of f r) d (text_of f r) text-all

    pub mark-back : entry_tag (not d) x ring i ≡ entry_tag d f ring i
    unfolding entry_out entry_tag
    mark-back =
        let r = row_of f i in
        tag_same f x ring i (not d) (entry_out d f ring i) rq nq dq tq
        ∙ tag_back (cipher_of r.suite) (lawful r.suite) (ring_key ring r.key) (nonce_read f i) (data_of f r) d (text_of f r) text-all
