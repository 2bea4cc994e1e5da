-- COMET over a block cipher, in version 1 (document 01, "Bytes, words and the two states"; source 000, algorithms 1 to 3) or
-- 2 (source 004, sections 3 and 7): the start, the chain, the ciphertext, the tag, and the cipher calls that make them. The
-- versions differ in when a mark is applied and in the doubling, so only in the block keys.
use Rattle.std.specs.Prelude.{ℕ, Bool, false, cond, List, [], ◌∷◌, ◌++◌, length, take, drop, replicate, eqb}
use Rattle.block.specs.Xors.{xors}
use Rattle.cipher.specs.Cipher.{Cipher}
use Rattle.mode.specs.Blocks.{blocks}
use Rattle.mode.specs.Words.{shuffle, pad}
use Rattle.mode.specs.Keys.{marks, keys}

-- what the chain carries: Y, and the block keys that are not used yet
pub record Chain : Type 0 where
  pub Y : List ℕ
  pub left : List (List ℕ)

-- a call of the cipher: a key, and the block that is enciphered under it
pub record CipherCall : Type 0 where
  pub key : List ℕ
  pub block : List ℕ

-- the result of processing a text's blocks: the cipher calls, the output text, and the chain after them
pub record Trail : Type 0 where
  pub made : List CipherCall
  pub out : List ℕ
  pub end : Chain

abbrev pub first_key : List (List ℕ) → List ℕ
first_key [] = []
first_key (k ∷ ks) = k

abbrev pub later_keys : List (List ℕ) → List (List ℕ)
later_keys [] = []
later_keys (k ∷ ks) = ks

module _ (κ : Cipher) where
  -- a nonce has 16 bytes if a block has 16, else 15
  unfoldable pub nonce_size : ℕ
  nonce_size = cond (eqb κ.size 16) 16 15

  -- the result of a call; the cipher is used nowhere else
  abbrev pub enciphered : CipherCall → List ℕ
  enciphered q = κ.E q.key q.block

  -- the start's call, under the key: the nonce if a block has 16 bytes, else eight zero bytes
  abbrev pub start_call : List ℕ → List ℕ → CipherCall
  start_call key nonce = record { key = key; block = cond (eqb κ.size 16) nonce (replicate 8 0) }

  -- Y at the start: the key if a block has 16 bytes, else the result of the call
  unfoldable pub start_y : List ℕ → List ℕ → List ℕ
  start_y key nonce = cond (eqb κ.size 16) key (enciphered (start_call key nonce))

  -- Z at the start: the result of the call if a block has 16 bytes, else the key, XORed with the nonce in bytes 0 to 14
  unfoldable pub start_z : List ℕ → List ℕ → List ℕ
  start_z key nonce = cond (eqb κ.size 16) (enciphered (start_call key nonce)) (xors (take 15 key) nonce ++ drop 15 key)

  -- the chain at the start: the block keys come from Z and the lengths of associated data and message
  unfoldable pub start : List ℕ → List ℕ → ℕ → ℕ → Chain
  start key nonce a m = record { Y = start_y key nonce; left = keys κ.version (start_z key nonce) (marks κ.version κ.size a m) }

  -- the next call: Y under the next block key
  abbrev pub next_call : Chain → CipherCall
  next_call c = record { key = first_key c.left; block = c.Y }

  -- X, its result
  abbrev pub image : Chain → List ℕ
  image c = enciphered (next_call c)

  -- one block: Y = X XOR padded block, and its key is used
  unfoldable pub absorbed : Chain → List ℕ → Chain
  absorbed c b = record { Y = xors (image c) (pad κ.size b); left = later_keys c.left }

  -- the output for a block of text: the block XOR as many first bytes of shuffle(X)
  unfoldable pub masked : Chain → List ℕ → List ℕ
  masked c b = xors b (shuffle κ.size (image c))

  -- the message block: when sealing the block itself, when opening the output
  unfoldable pub message : Bool → Chain → List ℕ → List ℕ
  message opening c b = cond opening (masked c b) b

  -- the blocks of a text, one call each: each message block is absorbed
  unfoldable pub trail : Bool → Chain → List (List ℕ) → Trail
  trail opening c [] = record { made = []; out = []; end = c }
  trail opening c (b ∷ bs) =
      let r : Trail = trail opening (absorbed c (message opening c b)) bs in
      record { made = next_call c ∷ r.made; out = masked c b ++ r.out; end = r.end }

  -- the chain after them, and the output text
  abbrev pub after : Bool → Chain → List (List ℕ) → Chain
  after opening c bs = (trail opening c bs).end

  abbrev pub crypted : Bool → Chain → List (List ℕ) → List ℕ
  crypted opening c bs = (trail opening c bs).out

  -- the blocks of the associated data are absorbed as a message's are when sealing, without output
  abbrev pub absorb : Chain → List (List ℕ) → Chain
  absorb c bs = after false c bs

  -- the chain between associated data and text, for a text of l bytes
  unfoldable pub after_data : List ℕ → List ℕ → List ℕ → ℕ → Chain
  after_data key nonce ad l = absorb (start key nonce (length ad) l) (blocks κ.size ad)

  -- the whole output text, and the tag: the result of the last call
  unfoldable pub text_out : Bool → List ℕ → List ℕ → List ℕ → List ℕ → List ℕ
  text_out opening key nonce ad text = crypted opening (after_data key nonce ad (length text)) (blocks κ.size text)

  unfoldable pub tag_out : Bool → List ℕ → List ℕ → List ℕ → List ℕ → List ℕ
  tag_out opening key nonce ad text = image (after opening (after_data key nonce ad (length text)) (blocks κ.size text))

  -- every call that they take, in order: the start's, those of the blocks of associated data and text, the tag's
  unfoldable pub calls : Bool → List ℕ → List ℕ → List ℕ → List ℕ → List CipherCall
  calls opening key nonce ad text =
      let r : Trail = trail false (start key nonce (length ad) (length text)) (blocks κ.size ad) in
      let t : Trail = trail opening r.end (blocks κ.size text) in
      start_call key nonce ∷ (r.made ++ (t.made ++ (next_call t.end ∷ [])))

  -- sealing: the ciphertext and the tag of a message
  abbrev pub ciphertext : List ℕ → List ℕ → List ℕ → List ℕ → List ℕ
  ciphertext key nonce ad msg = text_out false key nonce ad msg

  abbrev pub tag : List ℕ → List ℕ → List ℕ → List ℕ → List ℕ
  tag key nonce ad msg = tag_out false key nonce ad msg
