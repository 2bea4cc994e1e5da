-- A turn of the engine by columns is a round, whether it mixes columns or, as the last, does not.
use mathlib.Core.Path.{◌≡◌, sym, ap, ◌∙◌}
use mathlib.Core.Bool.{Bool, cond}
use mathlib.Core.List.{List}
use Prim.Native.Nat.{ℕ, ◌+◌}
use lib.Dec.{ltb}
use Rattle.aes_spec.specs.Cipher.{sub_bytes, shift_rows, mix_columns, add_round_key, rcon}
use Rattle.aes_plain.specs.Columns.{Follows}
use Rattle.aes_plain.proofs.Rounds.{Tracks, track_turn}

pub track_step : (mixing : Bool) {k₀ s₀ k s k' u s' rc : List ℕ} (i : ℕ) → ltb i 9 ≡ mixing → Tracks k₀ s₀ k s i → rc ≡ rcon (i + 1) → Follows k rc k'
    → u ≡ cond mixing (mix_columns (shift_rows (sub_bytes s))) (shift_rows (sub_bytes s)) → s' ≡ add_round_key u k' → Tracks k₀ s₀ k' s' (i + 1)
track_step mixing {s = s} {k' = k'} i m tracks er ek eu es =
    track_turn i tracks er ek
    (es ∙ ap (λ (x : List ℕ). add_round_key x k') (eu ∙ ap (λ (b : Bool). cond b (mix_columns (shift_rows (sub_bytes s))) (shift_rows (sub_bytes s))) (sym m)))
