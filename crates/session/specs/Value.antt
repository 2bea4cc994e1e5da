-- A session: its value, and the status and output of each call (document 02, W2).
use Rattle.std.specs.Prelude.{ℕ, zero, suc, ◌+◌, ◌%◌, false, cond, List, [], ◌∷◌, ◌++◌, length, take, replicate, ltb, eqb}
use Rattle.block.specs.Blocks.{filled}
use Rattle.cipher.specs.Cipher.{Cipher, cipher_of}
use Rattle.mode.specs.Blocks.{blocks}
use Rattle.mode.specs.Walk.{States, whole, rest, walked, covered, tagged, origin}
use Rattle.session_blocks.specs.Written.{written}
pub use Rattle.session_ladder.specs.Numbers.{sound}
unfoldable pub use Rattle.session_ladder.specs.Numbers.{start_number, data_number, text_number, end_number}

-- Y, Z and the buffered bytes in sixteen bytes each; the bytes of associated data and of message so far. The message has begun once one of its bytes has come
pub record Value : Type 0 where
  pub suite : ℕ
  pub Y : List ℕ
  pub Z : List ℕ
  pub held : List ℕ
  pub ad_total : ℕ
  pub text_total : ℕ

-- the value of these states, held bytes and totals
abbrev pub value_of : ℕ → States → List ℕ → ℕ → ℕ → Value
value_of suite s held ad-total text-total = record { suite = suite; Y = filled s.Y; Z = s.Z; held = held; ad_total = ad-total; text_total = text-total }

-- a session that answers 9 to every call: a refused one, and one that has ended
abbrev pub over : Value
over = record { suite = 0; Y = replicate 16 0; Z = replicate 16 0; held = replicate 16 0; ad_total = 0; text_total = 0 }

module _ (κ : Cipher) where
  -- the session's two states
  abbrev pub states : Value → States
  states v = record { Y = take κ.size v.Y; Z = v.Z }

  -- the buffered bytes of a text of which t bytes have come
  abbrev pub held_of : Value → ℕ → List ℕ
  held_of v t = take (t % κ.size) v.held

  -- the mark of the next block after t bytes: `m`, the first block's, if no block was absorbed yet (fewer than a block have come), else none
  abbrev pub first_mark : ℕ → ℕ → ℕ
  first_mark m t = cond (ltb t κ.size) m 0

  -- the states after associated data p: the whole blocks of the buffered bytes and p are absorbed
  unfoldable pub data_states : Value → List ℕ → States
  data_states v p = walked κ false (first_mark 0x08 v.ad_total) 0x10 (states v) (blocks κ.size (whole κ.size (held_of v v.ad_total ++ p)))

  -- the session after associated data p
  unfoldable pub data_in : Value → List ℕ → Value
  data_in v p = value_of v.suite (data_states v p) (filled (rest κ.size (held_of v v.ad_total ++ p))) (v.ad_total + length p) v.text_total

  -- the states when the message begins or continues: if it begins, the associated data's last bytes are absorbed first, as a short block if there are any
  unfoldable pub begun : Value → States
  begun v =
      cond (eqb v.text_total 0) (walked κ false (first_mark 0x08 v.ad_total) 0x10 (states v) (blocks κ.size (held_of v v.ad_total))) (states v)

  -- the states after message blocks are absorbed, and their ciphertext
  unfoldable pub text_states : Value → List ℕ → States
  text_states v l = walked κ false (first_mark 0x20 v.text_total) 0x40 (begun v) (blocks κ.size l)

  unfoldable pub blocks_out : Value → List ℕ → List ℕ
  blocks_out v l = covered κ false (first_mark 0x20 v.text_total) 0x40 (begun v) (blocks κ.size l)

  -- the session after message bytes p, at least one
  unfoldable pub text_in : Value → List ℕ → Value
  text_in v p =
      value_of v.suite (text_states v (whole κ.size (held_of v v.text_total ++ p)))
      (filled (rest κ.size (held_of v v.text_total ++ p))) v.ad_total (v.text_total + length p)

  -- their output: the ciphertext of the blocks that they complete
  unfoldable pub part_out : Value → List ℕ → List ℕ
  part_out v p = blocks_out v (whole κ.size (held_of v v.text_total ++ p))

  -- at the end: the rest of the ciphertext, and the tag
  unfoldable pub end_out : Value → List ℕ
  end_out v = blocks_out v (held_of v v.text_total)

  unfoldable pub end_tag : Value → List ℕ
  end_tag v = tagged κ (text_states v (held_of v v.text_total))

-- the result of a call: the number, how many bytes it wrote at the output's start, the next session, and the buffers after it (none: the empty list)
pub record Given : Type 0 where
  pub number : ℕ
  pub count : ℕ
  pub next : Value
  pub out : List ℕ
  pub tag : List ℕ

abbrev pub gave : ℕ → ℕ → Value → List ℕ → List ℕ → Given
gave k n v out tag = record { number = k; count = n; next = v; out = out; tag = tag }

-- on 0 the result; on any other number session and buffers unchanged, length 0
abbrev pub answered : ℕ → Given → Value → List ℕ → List ℕ → Given
answered zero done v out tag = done
answered (suc k) done v out tag = gave (suc k) 0 v out tag

-- ---- start

-- the session after an accepted start
abbrev pub fresh : ℕ → List ℕ → List ℕ → Value
fresh suite key nonce = value_of suite (origin (cipher_of suite) key nonce) (replicate 16 0) 0 0

unfoldable pub starting : ℕ → List ℕ → List ℕ → Given
starting suite key nonce = answered (start_number suite (length key) (length nonce)) (gave 0 0 (fresh suite key nonce) [] []) over [] []

-- ---- associated data

unfoldable pub data_part : Value → List ℕ → Given
data_part v p = answered (data_number v.suite v.ad_total v.text_total (length p)) (gave 0 0 (data_in (cipher_of v.suite) v p) [] []) v [] []

-- ---- message: an empty part changes nothing

abbrev pub text_given : Value → List ℕ → List ℕ → Given
text_given v p out =
    gave 0 (length (part_out (cipher_of v.suite) v p)) (text_in (cipher_of v.suite) v p) (written (part_out (cipher_of v.suite) v p) out) []

abbrev pub text_done : Value → List ℕ → List ℕ → Given
text_done v [] out = gave 0 0 v out []
text_done v (x ∷ p) out = text_given v (x ∷ p) out

unfoldable pub text_part : Value → List ℕ → List ℕ → Given
text_part v p out = answered (text_number v.suite v.ad_total v.text_total (length p) (length out)) (text_done v p out) v out []

-- ---- end

abbrev pub end_done : Value → List ℕ → Given
end_done v out =
    let new : List ℕ = end_out (cipher_of v.suite) v in
    gave 0 (length new) over (written new out) (end_tag (cipher_of v.suite) v)

unfoldable pub ending : Value → List ℕ → List ℕ → Given
ending v out tag = answered (end_number v.suite v.ad_total v.text_total (length out) (length tag)) (end_done v out) v out tag
