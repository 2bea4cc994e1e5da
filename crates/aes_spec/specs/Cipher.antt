-- AES-128 by FIPS 197: the cipher and its key expansion, on lists of bytes in the document's order.
use Rattle.std.specs.Prelude.{List, [], ◌∷◌, ◌++◌, ℕ, zero, suc, ◌+◌, ◌-◌, ◌*◌, ◌/◌, ◌%◌, eqb, get_or, cond}
use Rattle.block.specs.Bytes.{part}
use Rattle.block.specs.Xors.{xors}
use Rattle.aes_spec.specs.Field.{◌⊕◌, ◌•◌, xtime}
use Rattle.aes_spec.specs.Sbox.{sub_byte}

-- f i, f (i + 1), .., n of them
abbrev pub from : ℕ → ℕ → (ℕ → ℕ) → List ℕ
from i zero f = []
from i (suc n) f = f i ∷ from (suc i) n f

-- section 3.4: byte r + 4 c of the input is in row r and column c of the state
abbrev pub cell : List ℕ → ℕ → ℕ → ℕ
cell s r c = get_or s (r + 4 * c) 0

-- the state with f r c in row r and column c
abbrev pub grid : (ℕ → ℕ → ℕ) → List ℕ
grid f = from 0 16 (λ i. f (i % 4) (i / 4))

-- section 5.1.1: the S-box at every byte
unfoldable pub sub_bytes : List ℕ → List ℕ
sub_bytes s = grid (λ r c. sub_byte (cell s r c))

-- section 5.1.2: row r is shifted left by r columns
unfoldable pub shift_rows : List ℕ → List ℕ
shift_rows s = grid (λ r c. cell s r ((c + r) % 4))

-- section 5.1.3: a byte of the new column, from the byte in its row and the three below it (row 0 follows row 3)
abbrev pub mixed : ℕ → ℕ → ℕ → ℕ → ℕ
mixed a b c d = 0x02 • a ⊕ 0x03 • b ⊕ c ⊕ d

unfoldable pub mix_columns : List ℕ → List ℕ
mix_columns s = grid (λ r c. mixed (cell s r c) (cell s ((r + 1) % 4) c) (cell s ((r + 2) % 4) c) (cell s ((r + 3) % 4) c))

-- section 5.1.4
unfoldable pub add_round_key : List ℕ → List ℕ → List ℕ
add_round_key s k = xors s k

-- section 5.2, on words of four bytes: the S-box at every byte
abbrev pub sub_word : List ℕ → List ℕ
sub_word t = from 0 4 (λ r. sub_byte (get_or t r 0))

-- the bytes a1, a2, a3, a0
abbrev pub rot_word : List ℕ → List ℕ
rot_word t = from 0 4 (λ r. get_or t ((r + 1) % 4) 0)

-- x^i
unfoldable pub power : ℕ → ℕ
power zero = 1
power (suc i) = xtime (power i)

-- Rcon[i]: x^(i-1), 00, 00, 00
abbrev pub rcon : ℕ → List ℕ
rcon i = power (i - 1) ∷ 0 ∷ 0 ∷ 0 ∷ []

-- what w[i-4] is XORed with to give w[i], where t is w[i-1]
abbrev pub temp : ℕ → List ℕ → List ℕ
temp i t = cond (eqb (i % 4) 0) (xors (sub_word (rot_word t)) (rcon (i / 4))) t

-- KeyExpansion: w[i], first the four words of the key
unfoldable pub w : List ℕ → ℕ → List ℕ
w key zero = part 4 key 0
w key (suc zero) = part 4 key 4
w key (suc (suc zero)) = part 4 key 8
w key (suc (suc (suc zero))) = part 4 key 12
w key (suc (suc (suc (suc i)))) = xors (w key i) (temp (i + 4) (w key (suc (suc (suc i)))))

-- the words of round n, w[4n] to w[4n+3]
unfoldable pub round_key : List ℕ → ℕ → List ℕ
round_key key n = w key (4 * n) ++ w key (4 * n + 1) ++ w key (4 * n + 2) ++ w key (4 * n + 3)

-- section 5.1: the state after n of the rounds that mix columns
unfoldable pub state : List ℕ → List ℕ → ℕ → List ℕ
state key block zero = add_round_key block (round_key key 0)
state key block (suc n) = add_round_key (mix_columns (shift_rows (sub_bytes (state key block n)))) (round_key key (suc n))

-- section 5.1: ten rounds, the last without mix_columns
unfoldable pub cipher : List ℕ → List ℕ → List ℕ
cipher key block = add_round_key (shift_rows (sub_bytes (state key block 9))) (round_key key 10)
