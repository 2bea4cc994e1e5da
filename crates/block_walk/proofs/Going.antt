-- The loops over whole blocks, in both directions. The invariant says that the result for what is left is the result for the
-- whole text: `Going` of the state, and `Placed` of a text that is written in place as well. It holds at the start, a turn keeps
-- it, and at the end it is the contract. The four loops cite these laws, each for its direction.
use mathlib.Core.Path.{◌≡◌, refl, sym, ap, ap₂, ◌∙◌, subst}
use mathlib.Core.Bool.{Bool, true, false, cond}
use Prim.Native.Nat.{ℕ, suc, ◌+◌, ◌-◌, ◌^◌, ◌%◌, ◌≤◌, ◌<◌}
use native.Mathlib.Nat.{mod-add-mod, mod-eq_of_lt, mod-lt}
use native.Mathlib.Omega.{arith}
use mathlib.Core.List.{List, ◌++◌, append-nil}
use lib.ListN.{length, take, drop, replicate, length-drop, take-append-drop}
use lib.Dec.{ltb}
use borrow.Author.Tests.{lt-ltb, le-ltb}
use borrow.Rule.Slice.PartMut.{post_of, put_mid, same_len_mid, drop_put}
use Rattle.block.specs.Blocks.{wide}
use Rattle.block.specs.Words.{add}
use Rattle.cipher.specs.Cipher.{size_of, cipher_of}
use Rattle.mode.specs.Walk.{whole, rest, turned, hidden, message_of, walked, covered}
use Rattle.mode.proofs.Cut.{whole-short}
use Rattle.block_state.specs.declared.State.{State}
use Rattle.block_state.specs.Two.{two_of, Holds, one_more_of}
use Rattle.block_walk.specs.Progress.{wholes, Passed}
use Rattle.block_walk.proofs.Front.{short-blocks, short-walk, short-cover, block-long, turn-blocks, turn-long, turn-walk, turn-cover, behind, drop-later}

-- n is the block size, as `cipher::size_of` ensures it
abbrev pub Size : ℕ → ℕ → Type 0
Size suite n = (n ≡ size_of suite) × ((0 < n) × (n ≤ 16))

size_pos : (suite : ℕ) {n : ℕ} → Size suite n → 0 < size_of suite
size_pos suite size = omega (arith, size.0, size.1.0)

-- the block that a turn borrows is a full one
pub full_block : (suite : ℕ) {n : ℕ} → Size suite n → (l : List ℕ) (i : ℕ) → i + n ≤ length l → length (take (i + n - i) (drop i l)) ≡ size_of suite
full_block suite {n} size l i h = block-long n size.1.0 l i (i + n) refl h ∙ size.0

-- at i, with the state t and the mark k: every field of `Passed`, over what is left of l, is the whole's
pub record Going (suite : ℕ) (d : Bool) (m : ℕ) (s : State) (l : List ℕ) (t : State) (k i : ℕ) : Type 0 where
  pub within : i ≤ length l
  pub two : (short : ℕ) → walked (cipher_of suite) d k short (two_of suite t) (wholes (size_of suite) (drop i l))
      ≡ walked (cipher_of suite) d m short (two_of suite s) (wholes (size_of suite) l)
  pub beside : cond (ltb (length (drop i l)) (size_of suite)) (drop (size_of suite) (wide t.y)) (replicate (16 - size_of suite) 0)
      ≡ cond (ltb (length l) (size_of suite)) (drop (size_of suite) (wide s.y)) (replicate (16 - size_of suite) 0)
  pub fits : t.calls < 2 ^ 64
  pub made : add 64 t.calls (length (wholes (size_of suite) (drop i l))) ≡ add 64 s.calls (length (wholes (size_of suite) l))
  pub next : cond (ltb (length (drop i l)) (size_of suite)) k 0 ≡ cond (ltb (length l) (size_of suite)) m 0
  pub gone : i + length (whole (size_of suite) (drop i l)) ≡ length (whole (size_of suite) l)

module _ {suite : ℕ} {d : Bool} {m : ℕ} {s : State} {l : List ℕ} where
  pub at-start : s.calls < 2 ^ 64 → Going suite d m s l s m 0
  at-start fits = record { within = omega arith; two = λ short. refl; beside = refl; fits = fits; made = refl; next = refl; gone = omega arith }

  module _ {n : ℕ} (size : Size suite n) {t : State} {k i : ℕ} (g : Going suite d m s l t k i) where
    pos : 0 < size_of suite
    pos = size_pos suite size

    cond_same : {A : Type 0} (b : Bool) (x : A) → cond b x x ≡ x
    cond_same true x = refl
    cond_same false x = refl

    -- the block from i on is absorbed
    pub turn : {r : State} → i + n ≤ length l
        → Holds suite r (turned (cipher_of suite) k (two_of suite t) (message_of (cipher_of suite) d k (two_of suite t) (take (i + n - i) (drop i l))))
        (one_more_of t.calls)
        → Going suite d m s l r 0 (i + n)
    turn {r} h holds =
        let e : ℕ = i + n in
        let q : e ≡ i + size_of suite = ap (λ (x : ℕ). i + x) size.0 in
        let z : List ℕ = replicate (16 - size_of suite) 0 in
        let full : ltb (length (drop i l)) (size_of suite) ≡ false = le-ltb (length (drop i l)) (size_of suite) (omega (arith, q, length-drop i l)) in
        let w : ℕ = length (wholes (size_of suite) (drop e l)) in
        let ew : suc w ≡ length (wholes (size_of suite) (drop i l)) = sym (ap length (turn-blocks (size_of suite) pos l i e q h)) in
        let one_more : t.calls + 1 + w ≡ t.calls + length (wholes (size_of suite) (drop i l)) = omega (arith, ew) in
        record {
          within = h;
          two = λ short. turn-walk (cipher_of suite) pos d short l i e q h k (two_of suite t) (two_of suite r) holds.two ∙ g.two short;
          beside =
              ap (λ (x : List ℕ). cond (ltb (length (drop e l)) (size_of suite)) x z) holds.clean ∙ cond_same (ltb (length (drop e l)) (size_of suite)) z
              ∙ sym (ap (λ (b : Bool). cond b (drop (size_of suite) (wide t.y)) z) full) ∙ g.beside;
          fits = subst (λ (x : ℕ). x < 2 ^ 64) (sym holds.made) (mod-lt (t.calls + 1) (omega arith));
          made =
              ap (λ (x : ℕ). add 64 x w) holds.made ∙ mod-add-mod (t.calls + 1) (2 ^ 64) w
              ∙ ap (λ (x : ℕ). x % 2 ^ 64) one_more ∙ g.made;
          next = cond_same (ltb (length (drop e l)) (size_of suite)) 0 ∙ sym (ap (λ (b : Bool). cond b k 0) full) ∙ g.next;
          gone = omega (arith, size.0, turn-long (size_of suite) pos l i e q h, g.gone);
        }

    -- less than a block is left
    pub done : length l < i + n → Passed suite d m s l (record { s = t; mark = k; at = i })
    done lt =
        let left : length (drop i l) < size_of suite = omega (arith, size.0, length-drop i l, g.within) in
        let short-left : ltb (length (drop i l)) (size_of suite) ≡ true = lt-ltb (length (drop i l)) (size_of suite) left in
        let none : length (wholes (size_of suite) (drop i l)) ≡ 0 = ap length (short-blocks (size_of suite) pos (drop i l) left) in
        let all : t.calls + length (wholes (size_of suite) (drop i l)) ≡ t.calls = omega (arith, none) in
        record {
          two = λ short. sym (short-walk (cipher_of suite) pos d short k (two_of suite t) (drop i l) left) ∙ g.two short;
          beside = sym (ap (λ (b : Bool). cond b (drop (size_of suite) (wide t.y)) (replicate (16 - size_of suite) 0)) short-left) ∙ g.beside;
          made = sym (ap (λ (x : ℕ). x % 2 ^ 64) all ∙ mod-eq_of_lt g.fits) ∙ g.made;
          next = sym (ap (λ (b : Bool). cond b k 0) short-left) ∙ g.next;
          gone = omega (arith, g.gone, ap length (whole-short (size_of suite) pos (drop i l) left));
        }

-- at i of a text that is written in place: the output stands before i, and the input from i on
pub record Placed (suite : ℕ) (d : Bool) (m : ℕ) (s : State) (l : List ℕ) (t : State) (k i : ℕ) (text : List ℕ) : Type 0 where
  pub going : Going suite d m s l t k i
  pub long : length text ≡ length l
  pub new : (short : ℕ) → take i text ++ covered (cipher_of suite) d k short (two_of suite t) (wholes (size_of suite) (drop i l))
      ≡ covered (cipher_of suite) d m short (two_of suite s) (wholes (size_of suite) l)
  pub old : drop i text ≡ drop i l

module _ {suite : ℕ} {d : Bool} {m : ℕ} {s : State} {l : List ℕ} where
  pub placed-start : s.calls < 2 ^ 64 → Placed suite d m s l s m 0 l
  placed-start fits = record { going = at-start fits; long = refl; new = λ short. refl; old = refl }

  module _ {n : ℕ} (size : Size suite n) {t : State} {k i : ℕ} {text : List ℕ} (w : Placed suite d m s l t k i text) where
    -- the block from i on, which was borrowed, has come back as x
    pub placed-turn : {r : State} {x : List ℕ} → i + n ≤ length l → length x ≡ length (take (i + n - i) (drop i text))
        → (x ≡ hidden (cipher_of suite) k (two_of suite t) (take (i + n - i) (drop i text)))
        × Holds suite r (turned (cipher_of suite) k (two_of suite t) (message_of (cipher_of suite) d k (two_of suite t) (take (i + n - i) (drop i text))))
        (one_more_of t.calls)
        → Placed suite d m s l r 0 (i + n) (put_mid i (i + n - i) text x)
    placed-turn {r} {x} h lx made =
        let e : ℕ = i + n in
        let q : e ≡ i + size_of suite = ap (λ (y : ℕ). i + y) size.0 in
        let pos : 0 < size_of suite = size_pos suite size in
        let came : take (e - i) (drop i text) ≡ take (e - i) (drop i l) = ap (take (e - i)) w.old in
        let le : length x ≡ e - i = lx ∙ ap length came ∙ block-long (size_of suite) pos l i e q h ∙ omega (arith, q) in
        let holds : Holds suite r (turned (cipher_of suite) k (two_of suite t) (message_of (cipher_of suite) d k (two_of suite t) (take (e - i) (drop i l))))
        (one_more_of t.calls) =
        subst (λ (b : List ℕ). Holds suite r (turned (cipher_of suite) k (two_of suite t) (message_of (cipher_of suite) d k (two_of suite t) b))
        (one_more_of t.calls)) came made.1 in
        record {
          going = turn size w.going h holds;
          long = same_len_mid i (e - i) text x lx ∙ w.long;
          new = λ short.
              turn-cover (cipher_of suite) pos d short l i e q h k (two_of suite t) (two_of suite r) holds.two text x (post_of i (e - i) text) _
              (omega (arith, w.long)) le
              (made.0 ∙ ap (hidden (cipher_of suite) k (two_of suite t)) came) (w.new short);
          old = drop_put i e text x (omega arith) (omega (arith, w.long)) le ∙ drop-later i e text l (omega arith) w.old;
        }

    -- less than a block is left
    pub placed-done : length l < i + n
        → ((short : ℕ) → text ≡ covered (cipher_of suite) d m short (two_of suite s) (wholes (size_of suite) l) ++ rest (size_of suite) l)
        × Passed suite d m s l (record { s = t; mark = k; at = i })
    placed-done lt =
        let pos : 0 < size_of suite = size_pos suite size in
        let left : length (drop i l) < size_of suite = omega (arith, size.0, length-drop i l, w.going.within) in
        let passed = done size w.going lt in
        let gone : (short : ℕ) → take i text ≡ covered (cipher_of suite) d m short (two_of suite s) (wholes (size_of suite) l) =
        λ short. sym (append-nil (take i text))
        ∙ ap (λ (r : List ℕ). take i text ++ r) (sym (short-cover (cipher_of suite) pos d short k (two_of suite t) (drop i l) left)) ∙ w.new short in (
          λ short. sym (take-append-drop i text)
              ∙ ap₂ (λ (a b : List ℕ). a ++ b) (gone short) (w.old ∙ behind (size_of suite) pos l i passed.gone),
          passed,
        )
