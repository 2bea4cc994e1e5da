-- One turn of the code is one step of the walk: where X and Z for a block are held, what is XORed with X is the walk's, and
-- the bytes that the suite does not use stay zero.
use mathlib.Core.Path.{◌≡◌, refl, sym, ap, ap₂, ◌∙◌}
use Prim.Native.Nat.{ℕ, ◌-◌, ◌≤◌, ◌<◌}
use native.Mathlib.Omega.{arith}
use native.Mathlib.Nat.{le_of_eq}
use mathlib.Core.Bool.{Bool, true, false, cond}
use mathlib.Core.List.{List, ◌++◌}
use lib.ListN.{length, take, drop, replicate}
use lib.Seq.{take_at, length-take-le}
use Rattle.block.specs.Xors.{xors}
use Rattle.block.specs.declared.Block.{Block}
use Rattle.block.specs.Blocks.{wide}
use Rattle.block.proofs.Blocks.{length-wide}
use Rattle.block.proofs.Xors.{take-xors, drop-xors, xors-take, xors-zeros}
use Rattle.cipher.specs.Cipher.{size_of, cipher_of}
use Rattle.cipher.proofs.Suites.{size_most}
use Rattle.mode.specs.Words.{shuffle, pad}
use Rattle.mode.specs.Walk.{States, turned, hidden, message_of}
use Rattle.mode.proofs.Words.{pad_full}
use Rattle.block_state.specs.declared.State.{State}
use Rattle.block_state.specs.Two.{two_of, Clean, Holds, one_more_of, imaged}
use Rattle.block_state.proofs.Clean.{states_path}
use Rattle.block_step.proofs.Words.{pad-kept, pad_cut, zeros-kept, zeros_cut, mask_is}

-- the XOR of two clean blocks is clean
pub clean-xor : (suite : ℕ) (x y r : Block) → Clean suite x → Clean suite y → wide r ≡ xors (wide x) (wide y) → Clean suite r
clean-xor suite x y r cx cy e =
    ap (drop (size_of suite)) e
    ∙ drop-xors (size_of suite) (wide x) (wide y) (length-wide x.a x.b ∙ sym (length-wide y.a y.b))
    ∙ ap₂ xors cx cy
    ∙ xors-zeros (16 - size_of suite)

-- ---- one block

-- p is v padded, and zeros after
pub record Goes (suite : ℕ) (v : List ℕ) (p : Block) : Type 0 where
  pub front : take (size_of suite) (wide p) ≡ pad (size_of suite) v
  pub clean : Clean suite p

pub full_goes : (suite : ℕ) (b : List ℕ) (p : Block) → length b ≡ size_of suite → wide p ≡ b ++ replicate (16 - length b) 0 → Goes suite b p
full_goes suite b p e q = record { front = pad-kept (size_of suite) b (wide p) e q; clean = zeros-kept (size_of suite) b (wide p) e q }

pub short_goes : (suite : ℕ) (b : List ℕ) (p : Block) → length b < size_of suite → wide p ≡ pad 16 b → Goes suite b p
short_goes suite b p h q =
    record {
      front = ap (take (size_of suite)) q ∙ pad_cut (size_of suite) b h (size_most suite);
      clean = ap (drop (size_of suite)) q ∙ zeros_cut (size_of suite) b h (size_most suite);
    }

module _ (suite m : ℕ) (s t : State) (h : Holds suite t (imaged suite m (two_of suite s)) (one_more_of s.calls)) where
  -- the output for b, by the shuffle x of X
  pub mask-out : (b x : List ℕ) → length b ≤ size_of suite → take (size_of suite) x ≡ shuffle (size_of suite) (take (size_of suite) (wide t.y))
      → xors b x ≡ hidden (cipher_of suite) m (two_of suite s) b
  unfolding hidden
  mask-out b x l e = sym (xors-take b x (size_of suite) l) ∙ ap (xors b) (e ∙ ap (λ (w : States). shuffle (size_of suite) w.Y) h.two)

  -- the state r after v were absorbed as p
  pub put_in : (v : List ℕ) (p : Block) (r : State) → Goes suite v p → wide r.y ≡ xors (wide t.y) (wide p) → (wide r.z ≡ wide t.z)
      × (r.calls ≡ t.calls)
      → Holds suite r (turned (cipher_of suite) m (two_of suite s) v) (one_more_of s.calls)
  unfolding turned
  put_in v p r g ey e =
      record {
        two =
            states_path
            (ap (take (size_of suite)) ey ∙ take-xors (size_of suite) (wide t.y) (wide p) ∙ ap₂ xors (ap (λ (w : States). w.Y) h.two) g.front)
            (e.0 ∙ ap (λ (w : States). w.Z) h.two);
        clean = clean-xor suite t.y p r.y h.clean g.clean ey;
        made = e.1 ∙ h.made;
      }

-- ---- a block of text

-- what is left of zeros after b
pub cut_in : (b : List ℕ) (p : Block) → wide p ≡ b ++ replicate (16 - length b) 0 → take (length b) (wide p) ≡ b
cut_in b p e = ap (take (length b)) e ∙ take_at b (replicate (16 - length b) 0) (length b) refl

-- the first bytes of p, padded as q
pub cut_goes : (suite : ℕ) (v : List ℕ) (k : ℕ) (p q : Block) → take k (wide p) ≡ v → k < size_of suite → wide q ≡ pad 16 (take k (wide p)) → Goes suite v q
cut_goes suite v k p q e h eq =
    let l : length v ≡ k = sym (ap length e) ∙ length-take-le k (wide p) (omega (arith, length-wide p.a p.b, size_most suite)) in
    short_goes suite v q (omega arith) (eq ∙ ap (pad 16) e)

-- b came in as p, and c is p XOR the shuffle x of X
module _ (suite m : ℕ) (s t : State) (h : Holds suite t (imaged suite m (two_of suite s)) (one_more_of s.calls)) (b : List ℕ) (p x c : Block)
    (ep : wide p ≡ b ++ replicate (16 - length b) 0)
    (ex : (take (size_of suite) (wide x) ≡ shuffle (size_of suite) (take (size_of suite) (wide t.y))) × Clean suite x)
    (ec : wide c ≡ xors (wide p) (wide x)) where
  -- its first bytes are output for b
  pub goes-out : length b ≤ size_of suite → take (length b) (wide c) ≡ hidden (cipher_of suite) m (two_of suite s) b
  goes-out l =
      ap (take (length b)) (ec ∙ ap (λ (v : List ℕ). xors v (wide x)) ep)
      ∙ mask_is b (replicate (16 - length b) 0) (wide x) (length b) refl
      ∙ mask-out suite m s t h b (wide x) l ex.0

  -- and where b is full all of it is absorbed for what was output
  pub out-goes : length b ≡ size_of suite → Goes suite (hidden (cipher_of suite) m (two_of suite s) b) c
  out-goes e =
      let v : List ℕ = hidden (cipher_of suite) m (two_of suite s) b in
      let is : take (size_of suite) (wide c) ≡ v = ap (λ (k : ℕ). take k (wide c)) (sym e) ∙ goes-out (le_of_eq e) in
      let l : length v ≡ size_of suite = sym (ap length is) ∙ length-take-le (size_of suite) (wide c)
      (omega (arith, length-wide c.a c.b, size_most suite)) in
      record {
        front = is ∙ sym (pad_full (size_of suite) v l);
        clean = clean-xor suite p x c (full_goes suite b p e ep).clean ex.1 ec;
      }

  -- the block that is absorbed: c where a ciphertext is opened, else p
  full-in : (opening : Bool) → length b ≡ size_of suite → Goes suite (message_of (cipher_of suite) opening m (two_of suite s) b) (cond opening c p)
  full-in true e = out-goes e
  full-in false e = full_goes suite b p e ep

  -- the turn of a full block in either direction: the output, and the state r after the message was absorbed
  pub full-turn : (opening : Bool) (r : State) → length b ≡ size_of suite
      → wide r.y ≡ xors (wide t.y) (wide (cond opening c p)) → (wide r.z ≡ wide t.z) × (r.calls ≡ t.calls)
      → (take (length b) (wide c) ≡ hidden (cipher_of suite) m (two_of suite s) b)
      × Holds suite r (turned (cipher_of suite) m (two_of suite s) (message_of (cipher_of suite) opening m (two_of suite s) b)) (one_more_of s.calls)
  full-turn opening r e ey ez = (goes-out (le_of_eq e), put_in suite m s t h _ (cond opening c p) r (full-in opening e) ey ez)
