-- The engine's turns are the rounds of the definition: after i turns it holds round key i and the state after i rounds.
use mathlib.Core.Path.{◌≡◌, refl, sym, ap, ap₂, ◌∙◌, subst}
use mathlib.Core.List.{List, [], ◌∷◌}
use Prim.Native.Nat.{ℕ, zero, suc, ◌+◌, ◌-◌, ◌*◌, ◌/◌, ◌%◌, ◌<◌}
use native.Mathlib.Numerals.{add-one}
use native.Mathlib.Omega.{arith}
use lib.Dec.{T, ltb, eqb, eqb→eq}
use lib.ListN.{length}
use mathlib.Core.Bool.{Bool, cond}
use Rattle.block.specs.Words.{xor}
use Rattle.block.specs.Bytes.{bytes}
use Rattle.block.proofs.Table.{below, at_below}
use Rattle.aes_spec.specs.Field.{xtime}
use Rattle.aes_spec.specs.Cipher.{sub_bytes, shift_rows, mix_columns, add_round_key, power, rcon, round_key, state, cipher}
use Rattle.aes_spec.proofs.Field.{xtime-byte}
use Rattle.aes_spec.proofs.Schedule.{first_key}
use Rattle.aes_plain.specs.Columns.{Follows}

-- ---- the round constants as numbers

doubles : ℕ → Bool
doubles x = eqb (xor (x * 2 % 0x100000000) (x / 128 * 0x11b)) (xtime x)

all_doubled : T (below doubles 256)
unfolding doubles xtime xor
all_doubled = tt

pub next_is : (x : ℕ) → x < 256 → xor (x * 2 % 0x100000000) (x / 128 * 0x11b) ≡ xtime x
unfolding doubles
next_is x h = eqb→eq _ _ (at_below doubles 256 all_doubled x h)

pub power_lt : (i : ℕ) → power i < 256
unfolding power
power_lt zero = omega arith
power_lt (suc i) = xtime-byte (power i)

pub power-turn : {rc r : ℕ} (i : ℕ) → rc ≡ power i → r ≡ xtime rc → r ≡ power (i + 1)
unfolding power
power-turn i e p = p ∙ ap xtime e ∙ sym (ap power (add-one i))

-- the round constant of the turn after i
pub rcon_is : {rc : ℕ} (i : ℕ) → rc ≡ power i → bytes 4 rc ≡ rcon (i + 1)
unfolding bytes
rcon_is {rc} i e =
    let h : rc < 256 = subst (λ (x : ℕ). x < 256) (sym e) (power_lt i) in
    let a : rc % 256 ≡ rc = omega arith in
    let b : rc / 256 ≡ 0 = omega arith in
    let g : i ≡ i + 1 - 1 = omega arith in
    ap₂ (λ (x y : ℕ). x ∷ bytes 3 y) a b ∙ ap (λ (x : ℕ). x ∷ 0 ∷ 0 ∷ 0 ∷ []) (e ∙ ap power g)

-- the state after i turns: the tenth mixes no columns
pub rounds : List ℕ → List ℕ → ℕ → List ℕ
rounds key block zero = state key block 0
rounds key block (suc i) =
    add_round_key (cond (ltb i 9) (mix_columns (shift_rows (sub_bytes (rounds key block i)))) (shift_rows (sub_bytes (rounds key block i)))) (round_key key (suc i))

ten_rounds : (key block : List ℕ) → rounds key block 10 ≡ cipher key block
unfolding rounds state cipher
ten_rounds key block = refl

-- the round key k and the state s, i turns after k₀ and s₀
pub record Tracks (k₀ s₀ k s : List ℕ) (i : ℕ) : Type 0 where
  pub known : (key block : List ℕ) → k₀ ≡ round_key key 0 → s₀ ≡ rounds key block 0 → (k ≡ round_key key i) × (s ≡ rounds key block i)

pub track_none : {k s : List ℕ} → Tracks k s k s 0
track_none = record { known = λ key block p q. (p, q) }

pub track_turn : {k₀ s₀ k s k' s' rc : List ℕ} (i : ℕ) → Tracks k₀ s₀ k s i → rc ≡ rcon (i + 1) → Follows k rc k'
    → s' ≡ add_round_key (cond (ltb i 9) (mix_columns (shift_rows (sub_bytes s))) (shift_rows (sub_bytes s))) k' → Tracks k₀ s₀ k' s' (i + 1)
unfolding rounds
track_turn i tracks er ek es =
    record {
      known = λ key block p q.
          let u = tracks.known key block p q in
          let e = ek key i u.0 er in (
            e,
            es ∙ ap₂ (λ (x y : List ℕ). add_round_key (cond (ltb i 9) (mix_columns (shift_rows (sub_bytes x))) (shift_rows (sub_bytes x))) y) u.1 e
                ∙ rw add-one refl,
          );
    }

pub track_end : {k₀ b s₀ k s r : List ℕ} (key block : List ℕ) (i : ℕ) → i ≡ 10 → Tracks k₀ s₀ k s i → length key ≡ 16 → k₀ ≡ key → b ≡ block
    → s₀ ≡ add_round_key b k₀ → r ≡ s → r ≡ cipher key block
unfolding rounds state
track_end key block i n tracks l ek eb es e =
    let f = ek ∙ sym (first_key key l) in
    e ∙ (tracks.known key block f (es ∙ ap₂ add_round_key eb f)).1 ∙ ap (rounds key block) n ∙ ten_rounds key block
