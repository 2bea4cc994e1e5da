-- The mode's work on bytes, done on two numbers of 64 bits: shuffle, padding and mask.
use mathlib.Core.Path.{◌≡◌, refl, sym, ap, ap₂, ◌∙◌}
use Prim.Native.Nat.{ℕ, suc, ◌+◌, ◌-◌, ◌*◌, ◌/◌, ◌%◌, ◌^◌, ◌≤◌, ◌<◌}
use native.Mathlib.Nat.{le_of_eq, mod-lt, mod-eq_of_lt, mul-one, pow-le-pow_right}
use native.Mathlib.Omega.{arith}
use mathlib.Core.List.{List, ◌∷◌, ◌++◌, append_assoc}
use lib.ListN.{length, take, drop, replicate, length-append, replicate-append-replicate}
use lib.Seq.{take_at, take_all, take-append-le, take-append-add, drop-append-add, drop_at, length-take-le}
use Rattle.block.specs.Words.{rotr}
use Rattle.block.specs.Bytes.{value, bytes, word}
use Rattle.block.specs.Xors.{xors}
use Rattle.block.proofs.Lists.{part-take, take-replicate, drop-replicate}
use Rattle.block.proofs.Bytes.{length-bytes, value_low, bytes-join, bytes_mod, bytes-split, bytes-zeros, reach}
use Rattle.block.proofs.Xors.{take-xors, xors-take}
use Rattle.mode.specs.Words.{Four, four, four_of, bytes_of, shuffle_words, shuffle, pad}
use Rattle.mode.proofs.Words.{pad_short, pad_full}

-- ---- the shuffle, over the number w of bytes in a word

-- four words given by their bytes
four-lists : (w : ℕ) (P Q R S : List ℕ) → length P ≡ w → length Q ≡ w → length R ≡ w → length S ≡ w
    → four_of w ((P ++ Q) ++ (R ++ S)) ≡ four (value S) (value R) (value Q) (value P)
four-lists w P Q R S lp lq lr ls =
    let x : List ℕ = (P ++ Q) ++ (R ++ S) in
    let lpq : length (P ++ Q) ≡ w + w = length-append P Q ∙ omega arith in
    let lrs : length (R ++ S) ≡ w + w = length-append R S ∙ omega arith in
    let lx : length x ≡ w + w + (w + w) = length-append (P ++ Q) (R ++ S) ∙ omega arith in
    let lpqr : length ((P ++ Q) ++ R) ≡ 3 * w = length-append (P ++ Q) R ∙ omega arith in
    let e0 : word w x 0 ≡ value P = ap value (part-take w x 0 (omega arith) ∙ ap (take w) (append_assoc P Q (R ++ S)) ∙ take_at P (Q ++ (R ++ S)) w lp) in
    let e1 : word w x w ≡ value Q = ap value (part-take w x w (omega arith)
    ∙ ap (take w) (ap (drop w) (append_assoc P Q (R ++ S)) ∙ drop_at P (Q ++ (R ++ S)) w lp) ∙ take_at Q (R ++ S) w lq) in
    let e2 : word w x (2 * w) ≡ value R = ap value (part-take w x (2 * w) (omega arith) ∙ ap (take w) (drop_at (P ++ Q) (R ++ S) (2 * w) (lpq ∙ omega arith))
    ∙ take_at R S w lr) in
    let e3 : word w x (3 * w) ≡ value S = ap value (part-take w x (3 * w) (omega arith)
    ∙ ap (take w) (ap (drop (3 * w)) (sym (append_assoc (P ++ Q) R S)) ∙ drop_at ((P ++ Q) ++ R) S (3 * w) lpqr) ∙ take_all w S (le_of_eq ls)) in
    λ i. four (e3 i) (e2 i) (e1 i) (e0 i)

-- the low bytes of a number, as a number and back
again : (w x : ℕ) → bytes w (value (bytes w x)) ≡ bytes w x
again w x = ap (bytes w) (value_low w x) ∙ bytes_mod w x

-- the upper of two words first, then the lower one rotated
abbrev pub turned_half : ℕ → ℕ → ℕ
turned_half w q = q / 256 ^ w + 256 ^ w * rotr (8 * w) 1 (q % 256 ^ w)

-- of two numbers of two words each
pub shuffle_halves : (w n p q : ℕ) → n / 4 ≡ w → q / 256 ^ w < 256 ^ w
    → bytes (w + w) (turned_half w q) ++ bytes (w + w) p ≡ shuffle n (bytes (w + w) p ++ bytes (w + w) q)
unfolding shuffle
shuffle_halves w n p q e h =
    let p1 = p / 256 ^ w in
    let q1 = q / 256 ^ w in
    let P : List ℕ = bytes w p in
    let Q : List ℕ = bytes w p1 in
    let R : List ℕ = bytes w q in
    let S : List ℕ = bytes w q1 in
    let out : Four → List ℕ = λ x. bytes_of w (shuffle_words (8 * w) x) in
    ap₂ (λ (x y : List ℕ). x ++ y) (bytes-join w w q1 (rotr (8 * w) 1 (q % 256 ^ w)) h) (bytes-split w w p)
    ∙ sym (λ i. (again w q1 i ++ bytes w (rotr (8 * w) 1 (value_low w q i))) ++ (again w p i ++ again w p1 i))
    ∙ sym (ap out (ap₂ (λ (x y : List ℕ). four_of w (x ++ y)) (bytes-split w w p) (bytes-split w w q)
    ∙ four-lists w P Q R S (length-bytes w p) (length-bytes w p1) (length-bytes w q) (length-bytes w q1)))
    ∙ ap (λ (k : ℕ). bytes_of k (shuffle_words (8 * k) (four_of k (bytes (w + w) p ++ bytes (w + w) q)))) (sym e)

pub shuffle_16 : (a b : ℕ) → b < 2 ^ 64 → bytes 8 (turned_half 4 b) ++ bytes 8 a ≡ shuffle 16 (bytes 8 a ++ bytes 8 b)
shuffle_16 a b h = shuffle_halves 4 16 a b refl (omega arith)

pub shuffle_8 : (a : ℕ) → a < 2 ^ 64 → bytes 8 (turned_half 2 (a / 0x1_0000_0000) + 0x1_0000_0000 * (a % 0x1_0000_0000)) ≡ shuffle 8 (bytes 8 a)
shuffle_8 a k =
    let h = a / 0x1_0000_0000 in
    bytes-join 4 4 (turned_half 2 h) (a % 0x1_0000_0000) (omega arith)
    ∙ ap (λ (l : List ℕ). bytes 4 (turned_half 2 h) ++ l) (bytes_mod 4 a)
    ∙ shuffle_halves 2 8 a h refl (omega arith)
    ∙ ap (shuffle 8) (sym (bytes-split 4 4 a))

low_fits : (h t : ℕ) → h < 0x1_0000_0000 → t < 0x1_0000 → h / 0x1_0000 + 0x1_0000 * t < 0x1_0000_0000
low_fits h t p q = omega arith

high_fits : (x y : ℕ) → x < 0x1_0000_0000 → y < 0x1_0000_0000 → x + 0x1_0000_0000 * y < 2 ^ 64
high_fits x y p q = omega arith

pub half_fits : (b t : ℕ) → b < 2 ^ 64 → t < 0x1_0000_0000 → b / 0x1_0000_0000 + 0x1_0000_0000 * t < 2 ^ 64
half_fits b t h k = high_fits (b / 0x1_0000_0000) t (omega arith) k

pub quarter_fits : (a : ℕ) → a < 2 ^ 64 → a / 0x1_0000_0000 / 0x1_0000 + 0x1_0000_0000 * (a % 0x1_0000_0000) < 2 ^ 64
quarter_fits a h = high_fits (a / 0x1_0000_0000 / 0x1_0000) (a % 0x1_0000_0000) (omega arith) (omega arith)

-- the halves added first, and the rotated word last
pub last_added : (a t : ℕ) → a / 0x1_0000_0000 / 0x1_0000 + 0x1_0000_0000 * (a % 0x1_0000_0000) + 0x1_0000 * t
    ≡ a / 0x1_0000_0000 / 0x1_0000 + 0x1_0000 * t + 0x1_0000_0000 * (a % 0x1_0000_0000)
last_added a t = omega arith

pub join_fits : (a t : ℕ) → a < 2 ^ 64 → t < 0x1_0000 → a / 0x1_0000_0000 / 0x1_0000 + 0x1_0000_0000 * (a % 0x1_0000_0000) + 0x1_0000 * t < 2 ^ 64
join_fits a t h k =
    let p : a / 0x1_0000_0000 / 0x1_0000 + 0x1_0000 * t < 0x1_0000_0000 = low_fits (a / 0x1_0000_0000) t (omega arith) k in
    rw (last_added a t) (high_fits (a / 0x1_0000_0000 / 0x1_0000 + 0x1_0000 * t) (a % 0x1_0000_0000) p (omega arith))

-- ---- padding

-- the first n of b, 01 and some zeros
short_zeros : (n j : ℕ) (b : List ℕ) → length b < n → n ≤ length b + suc j → take n (b ++ (1 ∷ replicate j 0)) ≡ b ++ (1 ∷ replicate (n - suc (length b)) 0)
short_zeros n j b h k =
    let e : n ≡ length b + suc (n - suc (length b)) = omega arith in
    ap (λ (x : ℕ). take x (b ++ (1 ∷ replicate j 0))) e
    ∙ take-append-add b (1 ∷ replicate j 0) (suc (n - suc (length b)))
    ∙ ap (λ (r : List ℕ). b ++ (1 ∷ r)) (take-replicate (n - suc (length b)) j 0 (omega arith))

-- the first k bytes of a number, and 1 after them
pub pad-low : (n k x q : ℕ) → k < n → q ≡ 256 ^ k → bytes n (x % q + q) ≡ pad n (take k (bytes n x))
unfolding bytes
pad-low n k x q h e =
    let j = n - suc k in
    let en : n ≡ k + suc j = omega arith in
    let low : List ℕ = bytes k x in
    let cut : take k (bytes n x) ≡ low =
    ap (λ (i : ℕ). take k (bytes i x)) en ∙ ap (take k) (bytes-split k (suc j) x) ∙ take_at low (bytes (suc j) (x / 256 ^ k)) k (length-bytes k x) in
    let one : x % q + q ≡ x % 256 ^ k + 256 ^ k * 1 = ap (λ (v : ℕ). x % v + v) e ∙ ap (λ (v : ℕ). x % 256 ^ k + v) (sym (mul-one (256 ^ k))) in
    ap₂ bytes en one
    ∙ bytes-join k (suc j) (x % 256 ^ k) 1 (mod-lt x (omega (arith, pow-le-pow_right {n = 256} (omega arith) {i = 0} {j = k} (omega arith))))
    ∙ ap₂ (λ (a b : List ℕ). a ++ (1 ∷ b)) (bytes_mod k x) (bytes-zeros j)
    ∙ sym (ap (pad n) cut ∙ pad_short n low (omega (arith, length-bytes k x)) ∙ ap (λ (i : ℕ). low ++ (1 ∷ replicate (n - suc i) 0)) (length-bytes k x))

-- where the 1 stands
pub place-low : (k : ℕ) → k < 8 → 256 ^ k ≤ 2 ^ 56
place-low k h = pow-le-pow_right {n = 256} (omega arith) {i = k} {j = 7} (omega arith)

pub place_is : (k : ℕ) → k < 8 → (1 * 2 ^ (8 * k)) % 2 ^ 64 ≡ 256 ^ k
place_is k h = mod-eq_of_lt (omega (arith, place-low k h, reach k)) ∙ omega (arith, reach k)

-- padding that ends in the first of two words, and in the second
pub pad_first : (k a b r : ℕ) → k < 8 → bytes 8 r ≡ pad 8 (take k (bytes 8 a)) → bytes 8 r ++ bytes 8 0 ≡ pad 16 (take k (bytes 8 a ++ bytes 8 b))
pad_first k a b r h e =
    let low : List ℕ = take k (bytes 8 a) in
    let l : length low ≡ k = length-take-le k (bytes 8 a) (omega (arith, length-bytes 8 a)) in
    let z : 16 - suc (length low) ≡ 8 - suc (length low) + 8 = omega arith in
    ap₂ (λ (x y : List ℕ). x ++ y) (e ∙ pad_short 8 low (omega arith)) (bytes-zeros 8)
    ∙ append_assoc low (1 ∷ replicate (8 - suc (length low)) 0) (replicate 8 0)
    ∙ ap (λ (x : List ℕ). low ++ (1 ∷ x)) (replicate-append-replicate (8 - suc (length low)) 8 0 ∙ ap (λ (i : ℕ). replicate i 0) (sym z))
    ∙ sym (ap (pad 16) (take-append-le k (bytes 8 a) (bytes 8 b) (omega (arith, length-bytes 8 a))) ∙ pad_short 16 low (omega arith))

pub pad_second : (k a b r : ℕ) → 8 ≤ k → k < 16 → bytes 8 r ≡ pad 8 (take (k - 8) (bytes 8 b))
    → bytes 8 a ++ bytes 8 r ≡ pad 16 (take k (bytes 8 a ++ bytes 8 b))
pad_second k a b r h g e =
    let front : List ℕ = bytes 8 a in
    let lf : length front ≡ 8 = length-bytes 8 a in
    let low : List ℕ = take (k - 8) (bytes 8 b) in
    let l : length low ≡ k - 8 = length-take-le (k - 8) (bytes 8 b) (omega (arith, length-bytes 8 b)) in
    let all : length (front ++ low) ≡ k = length-append front low ∙ omega arith in
    let ek : k ≡ length front + (k - 8) = omega arith in
    let z : 8 - suc (length low) ≡ 16 - suc (length (front ++ low)) = omega arith in
    ap (λ (x : List ℕ). front ++ x) (e ∙ pad_short 8 low (omega arith) ∙ ap (λ (i : ℕ). low ++ (1 ∷ replicate i 0)) z)
    ∙ sym (append_assoc front low (1 ∷ replicate (16 - suc (length (front ++ low))) 0))
    ∙ sym (ap (pad 16) (ap (λ (i : ℕ). take i (front ++ bytes 8 b)) ek ∙ take-append-add front (bytes 8 b) (k - 8)) ∙ pad_short 16 (front ++ low) (omega arith))

-- the padding to n is the front of the padding to 16
pub pad_cut : (n : ℕ) (b : List ℕ) → length b < n → n ≤ 16 → take n (pad 16 b) ≡ pad n b
pad_cut n b h k = ap (take n) (pad_short 16 b (omega arith)) ∙ short_zeros n (16 - suc (length b)) b h (omega arith) ∙ sym (pad_short n b h)

pub pad-kept : (n : ℕ) (b r : List ℕ) → length b ≡ n → r ≡ b ++ replicate (16 - length b) 0 → take n r ≡ pad n b
pad-kept n b r e q = ap (take n) q ∙ take_at b (replicate (16 - length b) 0) n e ∙ sym (pad_full n b e)

-- ---- zeros after a block

pub zeros-kept : (n : ℕ) (b r : List ℕ) → length b ≡ n → r ≡ b ++ replicate (16 - length b) 0 → drop n r ≡ replicate (16 - n) 0
zeros-kept n b r e q = ap (drop n) q ∙ drop_at b (replicate (16 - length b) 0) n e ∙ ap (λ (k : ℕ). replicate (16 - k) 0) e

pub zeros_cut : (n : ℕ) (b : List ℕ) → length b < n → n ≤ 16 → drop n (pad 16 b) ≡ replicate (16 - n) 0
zeros_cut n b h k =
    let j = n - suc (length b) in
    let e : n ≡ length b + suc j = omega arith in
    let z : 16 - suc (length b) - j ≡ 16 - n = omega arith in
    ap₂ drop e (pad_short 16 b (omega arith))
    ∙ drop-append-add b (1 ∷ replicate (16 - suc (length b)) 0) (suc j)
    ∙ drop-replicate j (16 - suc (length b)) 0
    ∙ ap (λ (i : ℕ). replicate i 0) z

-- ---- the mask: zeros after the block do not matter

pub mask_is : (b z h : List ℕ) (k : ℕ) → k ≡ length b → take k (xors (b ++ z) h) ≡ xors b h
mask_is b z h k e =
    take-xors k (b ++ z) h
    ∙ ap (λ (x : List ℕ). xors x (take k h)) (take_at b z k (sym e))
    ∙ xors-take b h k (le_of_eq (sym e))
