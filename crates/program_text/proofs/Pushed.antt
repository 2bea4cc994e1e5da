-- A text with bytes after it, as far as they fit: the bytes that the buffer holds then.
use Rattle.std.proofs.Common.{ℕ, List, ◌≡◌, ◌≤◌, ◌+◌, ◌-◌, ◌++◌, length, take, min, sym, ap, ◌∙◌}
use native.Mathlib.Omega.{arith}
use borrow.Rule.Slice.PartMut.{put_mid}
use Rattle.std.proofs.lemmas.Slice.{take-put_mid}
use Rattle.std.proofs.lemmas.List.{take_min, length-take-le, length-take}
use Rattle.std.proofs.Math.Nat.{min_comm}
use Rattle.std.proofs.Math.Seq.{take-append-add}

pub pushed : (n len k e : ℕ) (bytes src part : List ℕ) → length bytes ≡ n → len ≤ n → e ≡ len + min (length src) (n - len)
    → part ≡ take (min (length src) (n - len)) src → take e (put_mid len k bytes part) ≡ take n (take len bytes ++ src)
pushed n len k e bytes src part whole fits at is =
    let short : part ≡ take (n - len) src = is ∙ ap (λ m. take m src) (min_comm (length src) (n - len)) ∙ take_min (n - len) src in
    let size : length part ≡ min (n - len) (length src) = ap length short ∙ length-take (n - len) src in
    let start : length (take len bytes) ≡ len = length-take-le len bytes (omega arith) in
    let room : n ≡ length (take len bytes) + (n - len) = omega arith in
    take-put_mid len k bytes part e (at ∙ ap (λ m. len + m) (min_comm (length src) (n - len) ∙ sym size)) (omega arith)
    ∙ ap (λ p. take len bytes ++ p) short
    ∙ sym (take-append-add (take len bytes) src (n - len))
    ∙ sym (ap (λ m. take m (take len bytes ++ src)) room)
