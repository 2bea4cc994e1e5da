-- Where rows lie: a table that lies in the file has each of its rows there, and a row its nonce.
use Prim.Native.Nat.{ℕ, ◌+◌, ◌-◌, ◌≤◌, ◌<◌}
use native.Mathlib.Nat.{mul-suc, mul-le-mul_left, mul-le-mul_right}
use native.Mathlib.Omega.{arith}
use mathlib.Core.Path.{◌≡◌, refl, sym, ap, ◌∙◌}
use mathlib.Core.Bool.{Bool, true, false, cond}
use mathlib.Core.List.{List}
use lib.ListN.{length, take, drop, length-take, length-drop}
use lib.Seq.{take-take}
use lib.Dec.{eqb, lit≤}
use Rattle.block.specs.Bytes.{value, word}
use Rattle.cipher.specs.Cipher.{nonce_of}
use Rattle.cipher.proofs.Suites.{nonce_most}
use Rattle.shift_format.specs.Part.{stretch}
use Rattle.shift_format.specs.Format.{newest, row_size, row_start, rest_start, station_at, nonce_start, nonce_at}
use Rattle.shift_format.specs.Inside.{RowIn, TableIn}

pub stretch-length : (f : List ℕ) (at len : ℕ) → at + len ≤ length f → length (stretch f at len) ≡ len
stretch-length f at len h = simp (length-take, length-drop) (omega arith)

-- a row ends where a later one starts, or before
pub row_below : (w i j : ℕ) → i < j → row_start w i + w ≤ row_start w j
unfolding row_start
row_below w i j h = omega (arith, mul-suc w i, mul-le-mul_left w h)

-- the header is in front of every row
pub row-late : (w i : ℕ) → 8 ≤ row_start w i
unfolding row_start
row-late w i = omega arith

pub row_in : (w : ℕ) (f : List ℕ) (n i : ℕ) → TableIn w f n → i < n → RowIn w f i
row_in w f n i t h = record { broad = t.broad; fits = omega (arith, row_below w i n h, t.fits) }

pub nonce_length : (w : ℕ) (f : List ℕ) (i : ℕ) → RowIn w f i → length (nonce_at w f i) ≡ 16
unfolding nonce_at nonce_start rest_start
nonce_length w f i h = stretch-length f (nonce_start w i) 16 (omega (arith, h.broad, h.fits))

-- of these the suite reads as many as its nonce has
pub read_length : (w : ℕ) (f : List ℕ) (i s : ℕ) → RowIn w f i → length (take (nonce_of s) (nonce_at w f i)) ≡ nonce_of s
read_length w f i s h = length-take (nonce_of s) (nonce_at w f i) ∙ omega (arith, nonce_length w f i h, nonce_most s)

-- and they are the file's own bytes from the nonce's start on
pub read-bytes : (w : ℕ) (f : List ℕ) (i s : ℕ) → stretch f (nonce_start w i) (nonce_of s) ≡ take (nonce_of s) (nonce_at w f i)
unfolding nonce_at
read-bytes w f i s = sym (take-take (nonce_of s) 16 (drop (nonce_start w i) f) (nonce_most s))

-- a row holds what the format puts into it, in every edition, and at most a station beside
wide : (b : Bool) → (32 ≤ cond b 36 32) × (cond b 36 32 ≤ 36)
wide true = (lit≤ tt, lit≤ tt)
wide false = (lit≤ tt, lit≤ tt)

pub row_broad : (e : ℕ) → 32 ≤ row_size e
unfolding row_size
row_broad e = (wide (eqb e newest)).0

pub row_narrow : (e : ℕ) → row_size e ≤ 36
unfolding row_size
row_narrow e = (wide (eqb e newest)).1

-- the size is one of two
pub row_other : (e : ℕ) → (row_size e ≡ 32 → ⊥) → row_size e ≡ 36
unfolding row_size
row_other e = two (eqb e newest)
  where
    two : (b : Bool) → (◌≡◌ {A = ℕ} (cond b 36 32) 32 → ⊥) → ◌≡◌ {A = ℕ} (cond b 36 32) 36
    two true h = refl
    two false h = absurd (h refl)

-- a row of 32 bytes has no station, which is 0; in one of 36 it has four bytes
pub station_none : (f : List ℕ) (i w : ℕ) → w ≡ 32 → 0 ≡ station_at w f i
unfolding station_at value
station_none f i w q = rw q refl

pub station_four : (f : List ℕ) (i w : ℕ) → w ≡ 36 → word 4 f (row_start w i + 4) ≡ station_at w f i
unfolding station_at
station_four f i w q = let m : 4 ≡ w - 32 = omega arith in ap (λ (k : ℕ). word k f (row_start w i + 4)) m

-- as many rows as 22 lets through are counted without wrapping
pub rows_small : (e n : ℕ) → n ≤ 512 → row_start (row_size e) n < 0x1_0000_0000_0000_0000
unfolding row_start
rows_small e n h = omega (arith, mul-le-mul_right n (row_narrow e))
