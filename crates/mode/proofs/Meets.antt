-- Two openings with the same keys whose Ys differ: a full block brings them together exactly if their cipher outputs are
-- complements, and once together they stay so.
use mathlib.Core.Path.{◌≡◌, sym, ap, ap₂, ◌∙◌}
use mathlib.Core.Logic.{◌⊎◌, ◌↔◌, inl, inr}
use mathlib.Core.Bool.{true}
use mathlib.Core.List.{List, [], ◌∷◌, ◌++◌}
use Prim.Native.Nat.{ℕ, zero, suc, ◌-◌, ◌≤◌, ◌<◌}
use native.Mathlib.Nat.{not-suc-le-zero, le_of_suc-le-suc}
use native.Mathlib.Omega.{arith}
use lib.ListN.{length, get_or, replicate, length-replicate, get_or-replicate}
use lib.Seq.{ext_get_or}
use Rattle.block.specs.Words.{xor}
use Rattle.block.specs.Bytes.{AllBytes}
use Rattle.block.specs.Xors.{xors}
use Rattle.block.proofs.XorLaws.{twice, ones}
use Rattle.block.proofs.Xors.{length-xors, get_or-xors, xors_assoc, xors_comm, xors_middle, xors_inj, xors-zero}
use Rattle.cipher.specs.Cipher.{Cipher, Lawful, Block}
use Rattle.mode.specs.Words.{shuffle}
use Rattle.mode.specs.Mode.{CipherCall, Chain, enciphered, image, absorbed, masked, message, trail, after}
use Rattle.mode.specs.Slips.{Complements, ComplementBytes}
use Rattle.mode.proofs.Blocks.{AllBlocks, none, more}
use Rattle.mode.proofs.Words.{pad_full, shuffle_block}
use Rattle.mode.proofs.Shuffle.{shuffle-xor, two_blocks}
use Rattle.mode.proofs.Chain.{xors_block, Good, image-block, length-masked, good-message}
use Rattle.mode.proofs.Demand3.{image-told, absorbed-left}

-- ---- complements, in bytes

pub complement_bytes : ComplementBytes
complement_bytes n x x' hx hx' =
    let l : length x ≡ n = hx.long in
    let l' : length x' ≡ n = hx'.long in
    let lx : length (xors x x') ≡ length x = length-xors x x' (omega arith) in
    let at : (i : ℕ) → i < n → get_or (xors x x') i 0 ≡ xor (get_or x i 0) (get_or x' i 0) = λ i h. get_or-xors x x' i (omega arith) (omega arith) in
    let full : (i : ℕ) → i < n → ◌≡◌ {A = ℕ} (get_or (replicate n 0xff) i 0) 0xff = λ i h. get_or-replicate n i 0xff 0 h in
    let over : (i : ℕ) → xor (get_or x i 0) 0xff ≡ 255 - get_or x i 0 = λ i. ones (get_or x i 0) (hx.bytes i) in (
      λ e i h. sym (twice (get_or x i 0) (get_or x' i 0)) ∙ ap (xor (get_or x i 0)) (sym (at i h) ∙ ap (λ (y : List ℕ). get_or y i 0) e ∙ full i h) ∙ over i,
      λ q. ext_get_or 0 (xors x x') (replicate n 0xff) (lx ∙ l ∙ sym (length-replicate {A = ℕ} n 0xff))
          (λ i h. let k : i < n = omega arith in
          at i k ∙ ap (xor (get_or x i 0)) (q i k ∙ sym (over i)) ∙ twice (get_or x i 0) 0xff ∙ sym (full i k)),
    )

-- ---- a full block b that is opened: the Ys that the outputs x and x' give are equal exactly if x and x' are equal or complements

module _ (n : ℕ) (sizes : (n ≡ 16) ⊎ (n ≡ 8)) (b x x' : List ℕ) (hb : Block n b) (hx : Block n x) (hx' : Block n x') where
  -- shuffle XOR identity
  both : List ℕ → List ℕ
  both z = xors (shuffle n z) z

  both-block : (z : List ℕ) → Block n z → Block n (both z)
  unfolding both
  both-block z hz = xors_block n (shuffle n z) z (shuffle_block n z sizes) hz

  both-xor : both (xors x x') ≡ xors (both x) (both x')
  unfolding both
  both-xor = ap (λ (s : List ℕ). xors s (xors x x')) (shuffle-xor n sizes x x' hx hx') ∙ xors_middle (shuffle n x) (shuffle n x') x x'

  -- it takes x and x' to the same
  both-same : (both x ≡ both x') ↔ ((x ≡ x') ⊎ Complements n x x')
  unfolding both
  both-same =
      let z = xors-zero n (both x) (both x') (both-block x hx).long (both-block x' hx').long in
      let t = two_blocks n (xors x x') sizes (xors_block n x x' hx hx') in
      let e = xors-zero n x x' hx.long hx'.long in (
        λ s. elim (t.0 (both-xor ∙ z.1 s)) [ inl q ↦ inl (e.0 q) | inr o ↦ inr o ],
        λ w. z.0 (sym both-xor ∙ t.1 (elim w [ inl q ↦ inl (e.1 q) | inr o ↦ inr o ])),
      )

  -- and Y is that with the block
  regroup : (z : List ℕ) → xors z (xors b (shuffle n z)) ≡ xors b (both z)
  unfolding both
  regroup z = xors_comm z (xors b (shuffle n z)) ∙ xors_assoc b (shuffle n z) z

  y-same : (xors x (xors b (shuffle n x)) ≡ xors x' (xors b (shuffle n x'))) ↔ ((x ≡ x') ⊎ Complements n x x')
  y-same =
      let lb : length b ≡ n = hb.long in
      let l : length (both x) ≡ n = (both-block x hx).long in
      let l' : length (both x') ≡ n = (both-block x' hx').long in (
        λ e. both-same.0 (xors_inj b (both x) (both x') (omega arith) (omega arith) (sym (regroup x) ∙ e ∙ regroup x')),
        λ w. regroup x ∙ ap (xors b) (both-same.1 w) ∙ sym (regroup x'),
      )

module _ (κ : Cipher) (L : Lawful κ) where
  -- the chain after a block is opened
  abbrev next : Chain → List ℕ → Chain
  next c b = absorbed κ c (message κ true c b)

  next-Y : (c : Chain) (b : List ℕ) → length b ≡ κ.size → (next c b).Y ≡ xors (image κ c) (xors b (shuffle κ.size (image κ c)))
  unfolding absorbed message masked
  next-Y c b e = ap (xors (image κ c)) (pad_full κ.size (xors b (shuffle κ.size (image κ c))) (length-masked κ L c b (omega arith) ∙ e))

  pub same-chain : (c c' : Chain) → c.Y ≡ c'.Y → c.left ≡ c'.left → c ≡ c'
  same-chain c c' p q = ap₂ (λ (y : List ℕ) (l : List (List ℕ)). record { Y = y; left = l }) p q

  -- one full block
  next-same : (f : ℕ) (c c' : Chain) (b : List ℕ) → Good κ (suc f) c → Good κ (suc f) c' → c.left ≡ c'.left → AllBytes b → length b ≡ κ.size
      → ((next c b).Y ≡ (next c' b).Y) ↔ ((c.Y ≡ c'.Y) ⊎ Complements κ.size (image κ c) (image κ c'))
  next-same f c c' b g g' el hb full =
      let y = y-same κ.size L.sizes b (image κ c) (image κ c') (record { long = full; bytes = hb }) (image-block κ L (suc f) c g)
      (image-block κ L (suc f) c' g') in (
        λ e. elim (y.0 (sym (next-Y c b full) ∙ e ∙ next-Y c' b full)) [ inl q ↦ inl (image-told κ L (suc f) c c' g g' el q) | inr o ↦ inr o ],
        λ w. next-Y c b full ∙ y.1 (elim w [ inl q ↦ inl (ap (image κ) (same-chain c c' q el)) | inr o ↦ inr o ]) ∙ sym (next-Y c' b full),
      )

  -- ---- any number of blocks

  -- blocks that are all full
  abbrev pub Full : List (List ℕ) → Type 0
  Full bs = (i : ℕ) → i < length bs → length (get_or bs i []) ≡ κ.size

  -- d stands after the end of every list of calls
  module _ (d : CipherCall) where
    -- the output at block i, by the list of calls
    abbrev pub output_of : Chain → List (List ℕ) → ℕ → List ℕ
    output_of c bs i = enciphered κ (get_or (trail κ true c bs).made i d)

    -- at some block from number f on the outputs are complements
    abbrev pub Complemented : ℕ → Chain → Chain → List (List ℕ) → List (List ℕ) → Type 0
    Complemented f c c' bs bs' = (i : ℕ) × (f ≤ i) × (i < length bs) × Complements κ.size (output_of c bs i) (output_of c' bs' i)

    -- equal tags exactly then
    abbrev pub Meets : ℕ → Chain → Chain → List (List ℕ) → List (List ℕ) → Type 0
    Meets f c c' bs bs' = (image κ (after κ true c bs) ≡ image κ (after κ true c' bs')) ↔ Complemented f c c' bs bs'

    -- a block in front, which is not counted
    in-front : (f : ℕ) (c c' : Chain) (b b' : List ℕ) (bs bs' : List (List ℕ)) → Meets f (next c b) (next c' b') bs bs' → Meets (suc f) c c' (b ∷ bs) (b' ∷ bs')
    unfolding trail
    in-front f c c' b b' bs bs' m = (
      λ e. let s = m.0 e in (suc s.0, omega (arith, s.1), omega (arith, s.2), s.3),
      λ s. m.1 (back s),
    )
      where
        back : Complemented (suc f) c c' (b ∷ bs) (b' ∷ bs') → Complemented f (next c b) (next c' b') bs bs'
        back (zero, h, l, o) = absurd (not-suc-le-zero h)
        back (suc i, h, l, o) = (i, le_of_suc-le-suc h, le_of_suc-le-suc l, o)

    -- before the changed block there are others
    pub changed-at : (c : Chain) (P Q : List (List ℕ)) (b b' : List ℕ) → Meets 0 (next (after κ true c P) b) (next (after κ true c P) b') Q Q
        → Meets (suc (length P)) c c (P ++ (b ∷ Q)) (P ++ (b' ∷ Q))
    unfolding trail
    changed-at c [] Q b b' m = in-front 0 c c b b' Q Q m
    changed-at c (p ∷ P) Q b b' m = in-front (suc (length P)) c c p p (P ++ (b ∷ Q)) (P ++ (b' ∷ Q)) (changed-at (next c p) P Q b b' m)

    -- equal tags come from equal Ys or from complements at some block
    tags-same : (c c' : Chain) {bs : List (List ℕ)} → AllBlocks κ.size bs → Full bs → Good κ (length bs) c → Good κ (length bs) c' → c.left ≡ c'.left
        → (image κ (after κ true c bs) ≡ image κ (after κ true c' bs)) ↔ ((c.Y ≡ c'.Y) ⊎ Complemented 0 c c' bs bs)
    unfolding trail
    tags-same c c' none hf g g' el = (
      λ e. inl (image-told κ L 0 c c' g g' el e),
      λ w. elim w [ inl y ↦ ap (image κ) (same-chain c c' y el) | inr s ↦ absurd (not-suc-le-zero s.2) ],
    )
    tags-same c c' (more {b = b} {bs = bs} hb lb hbs) hf g g' el =
        let n = next-same (length bs) c c' b g g' el hb (hf 0 (omega arith)) in
        let r = tags-same (next c b) (next c' b) hbs (λ i h. hf (suc i) (omega arith)) (good-message κ L true (length bs) c b g hb lb)
        (good-message κ L true (length bs) c' b g' hb lb)
        (absorbed-left κ L c c' (message κ true c b) (message κ true c' b) el) in (
          λ e. elim (r.0 e) [
            | inl y ↦ elim (n.0 y) [ inl q ↦ inl q | inr o ↦ inr (0, omega arith, omega arith, o) ]
            | inr s ↦ inr (suc s.0, omega arith, omega (arith, s.2), s.3)
          ],
          λ w. r.1 (back n w),
        )
      where
        back : (((next c b).Y ≡ (next c' b).Y) ↔ ((c.Y ≡ c'.Y) ⊎ Complements κ.size (image κ c) (image κ c')))
            → (c.Y ≡ c'.Y) ⊎ Complemented 0 c c' (b ∷ bs) (b ∷ bs)
            → ((next c b).Y ≡ (next c' b).Y) ⊎ Complemented 0 (next c b) (next c' b) bs bs
        back n (inl y) = inl (n.1 (inl y))
        back n (inr (zero, z, h, o)) = inl (n.1 (inr o))
        back n (inr (suc i, z, h, o)) = inr (i, omega arith, le_of_suc-le-suc h, o)

    -- so where the Ys differ
    pub meets : (c c' : Chain) {bs : List (List ℕ)} → AllBlocks κ.size bs → Full bs → Good κ (length bs) c → Good κ (length bs) c' → c.left ≡ c'.left
        → (c.Y ≡ c'.Y → ⊥) → Meets 0 c c' bs bs
    meets c c' hbs hf g g' el ne =
        let s = tags-same c c' hbs hf g g' el in
        (λ e. elim (s.0 e) [ inl y ↦ absurd (ne y) | inr o ↦ o ], λ o. s.1 (inr o))
