-- When a change goes undetected (document 02, W13): the kernel of shuffle XOR identity, which source 000, section 3.5, wants
-- invertible; and which altered records still have the old tag.
use Rattle.std.specs.Prelude.{◌≡◌, true, ◌⊎◌, ◌↔◌, List, [], ℕ, suc, ◌+◌, ◌-◌, ◌*◌, ◌≤◌, ◌<◌, length, get_or, replicate}
use Rattle.block.specs.Bytes.{AllBytes}
use Rattle.block.specs.Xors.{xors}
use Rattle.cipher.specs.Cipher.{Cipher, Lawful, Block}
use Rattle.mode.specs.Blocks.{blocks}
use Rattle.mode.specs.Words.{shuffle}
use Rattle.mode.specs.Mode.{enciphered, start_call, nonce_size, tag_out, calls}

-- the kernel of shuffle XOR identity has exactly two blocks, all zeros and all ones; n is 16 or 8 bytes
abbrev pub TwoBlocks : Type 0
TwoBlocks =
    (n : ℕ) (b : List ℕ) → (n ≡ 16) ⊎ (n ≡ 8) → Block n b
    → (xors (shuffle n b) b ≡ replicate n 0) ↔ ((b ≡ replicate n 0) ⊎ (b ≡ replicate n 0xff))

-- two blocks of n bytes are complements in every bit: their XOR is all ones
abbrev pub Complements : ℕ → List ℕ → List ℕ → Type 0
Complements n x x' = xors x x' ≡ replicate n 0xff

-- in bytes: each is 255 minus the other
abbrev pub ComplementBytes : Type 0
ComplementBytes =
    (n : ℕ) (x x' : List ℕ) → Block n x → Block n x'
    → Complements n x x' ↔ ((i : ℕ) → i < n → get_or x' i 0 ≡ 255 - get_or x i 0)

module _ (κ : Cipher) where
  -- the cipher's output at message block i, counted from 0, when ciphertext c with associated data ad is opened: in the list
  -- of its calls the start's comes first, then those of the associated data, then those of the message
  unfoldable pub output_at : List ℕ → List ℕ → List ℕ → List ℕ → ℕ → List ℕ
  output_at key nonce ad c i = enciphered κ (get_or (calls κ true key nonce ad c) (suc (length (blocks κ.size ad) + i)) (start_call κ key nonce))

  -- at some message block from number `first` on the outputs of two openings are complements
  abbrev pub ComplementFrom : ℕ → List ℕ → List ℕ → List ℕ → List ℕ → List ℕ → List ℕ → Type 0
  ComplementFrom first key nonce ad c ad' c' =
      (i : ℕ) × (first ≤ i) × (i < length (blocks κ.size c)) × Complements κ.size (output_at key nonce ad c i) (output_at key nonce ad' c' i)

-- two texts of one length: at least one byte is changed, and every changed byte is inside block j
pub record ChangedIn (n j : ℕ) (x x' : List ℕ) : Type 0 where
  pub same_length : length x ≡ length x'
  pub changed : x ≡ x' → ⊥
  pub inside : (i : ℕ) → (get_or x i 0 ≡ get_or x' i 0 → ⊥) → (j * n ≤ i) × (i < j * n + n)

-- a record's associated data and ciphertext, changed inside one block of one of them; by the number of the first message block after the change
pub data Changed (n : ℕ) (ad ad' c c' : List ℕ) : ℕ → Type 0 where
  in-data : (j : ℕ) → ChangedIn n j ad ad' → c ≡ c' → Changed n ad ad' c c' 0
  in-text : (j : ℕ) → ad ≡ ad' → ChangedIn n j c c' → Changed n ad ad' c c' (suc j)

-- the blocks of a text from number `first` on are full
abbrev pub FullFrom : ℕ → ℕ → List ℕ → Type 0
FullFrom n first text = (i : ℕ) → first ≤ i → i < length (blocks n text) → length (get_or (blocks n text) i []) ≡ n

-- opening gives the tag t; the record is changed in one block, and every message block after the change is full: opening gives
-- t again exactly if at some message block after the change the outputs of the two openings are complements
abbrev pub SlipsThrough : Type 0
SlipsThrough =
    (κ : Cipher) → Lawful κ → (key nonce ad ad' c c' t : List ℕ) (first : ℕ)
    → Block 16 key → AllBytes nonce → length nonce ≡ nonce_size κ → AllBytes ad → AllBytes ad' → AllBytes c → AllBytes c'
    → tag_out κ true key nonce ad c ≡ t
    → Changed κ.size ad ad' c c' first → FullFrom κ.size first c
    → (tag_out κ true key nonce ad' c' ≡ t) ↔ ComplementFrom κ first key nonce ad c ad' c'
