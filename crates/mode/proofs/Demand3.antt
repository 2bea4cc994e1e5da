-- A change inside one block changes the tag: the block keys do not know the contents, so after the block two chains differ in
-- Y alone, and no later block under equal keys brings them together.
use mathlib.Core.Path.{◌≡◌, refl, sym, ap, ap₂, ◌∙◌, subst}
use mathlib.Core.Bool.{Bool, true, false}
use Prim.Native.Nat.{ℕ, suc, ◌+◌, ◌-◌, ◌*◌, ◌≤◌, ◌<◌, min}
use native.Mathlib.Nat.{le_refl}
use native.Mathlib.Omega.{arith}
use native.Mathlib.Decide.{dec_le}
use lib.Dec.{eqb}
use borrow.Author.Tests.{eqb-true, eqb-false}
use mathlib.Core.List.{List, [], ◌∷◌, ◌++◌, append_assoc, append-nil}
use lib.ListN.{length, get_or, take, drop, length-append, length-drop, length-take, take-append-drop}
use lib.Seq.{drop-drop, take_all, ext_get_or, get_or-take, get_or-drop}
use Rattle.block.specs.Bytes.{AllBytes}
use Rattle.block.proofs.Lists.{all_take, all_drop}
use Rattle.block.proofs.Xors.{xors_comm, xors_inj}
use Rattle.cipher.specs.Cipher.{Cipher, Lawful, Block}
use Rattle.mode.specs.Blocks.{blocks}
use Rattle.mode.specs.Words.{pad}
use Rattle.mode.specs.Mode.{Chain, first_key, later_keys, image, nonce_size, start, absorbed, message, trail, absorb, after_data, tag_out, tag}
use Rattle.mode.proofs.Blocks.{AllBlocks, none, more, all_blocks, blocks-split}
use Rattle.mode.proofs.Words.{pad_block, pad-front}
use Rattle.mode.proofs.Keys.{enough_first}
use Rattle.mode.proofs.Chain.{Good, good-absorbed, good-after, image-block, some}
use Rattle.mode.proofs.Start.{good-start-blocks}

module _ (κ : Cipher) (L : Lawful κ) where
  -- two chains with the same keys: what differs in Y still differs after the cipher,
  pub image-told : (f : ℕ) (c c' : Chain) → Good κ f c → Good κ f c' → c.left ≡ c'.left → image κ c ≡ image κ c' → c.Y ≡ c'.Y
  image-told f c c' g g' el e =
      L.one-to-one (first_key c.left) c.Y c'.Y (enough_first f c.left g.enough) g.y g'.y
      (e ∙ ap (λ (ks : List (List ℕ)). κ.E (first_key ks) c'.Y) (sym el))

  -- after an equal block,
  absorbed-told : (f : ℕ) (c c' : Chain) (b : List ℕ) → Good κ (suc f) c → Good κ (suc f) c' → AllBytes b → length b ≤ κ.size → c.left ≡ c'.left
      → (absorbed κ c b).Y ≡ (absorbed κ c' b).Y → c.Y ≡ c'.Y
  unfolding absorbed
  absorbed-told f c c' b g g' hb lb el e =
      let p = pad κ.size b in
      let lp : length p ≡ κ.size = (pad_block κ.size b lb hb).long in
      let lx : length (image κ c) ≡ κ.size = (image-block κ L (suc f) c g).long in
      let lx' : length (image κ c') ≡ κ.size = (image-block κ L (suc f) c' g').long in
      image-told (suc f) c c' g g' el
      (xors_inj p (image κ c) (image κ c') (omega arith) (omega arith) (xors_comm p (image κ c) ∙ e ∙ xors_comm (image κ c') p))

  pub absorbed-left : (c c' : Chain) (b b' : List ℕ) → c.left ≡ c'.left → (absorbed κ c b).left ≡ (absorbed κ c' b').left
  unfolding absorbed
  absorbed-left c c' b b' e = ap later_keys e

  -- and after any number of equal blocks
  blocks-told : (c c' : Chain) {bs : List (List ℕ)} → AllBlocks κ.size bs → Good κ (length bs) c → Good κ (length bs) c' → c.left ≡ c'.left
      → image κ (absorb κ c bs) ≡ image κ (absorb κ c' bs) → c.Y ≡ c'.Y
  unfolding trail message
  blocks-told c c' none g g' el e = image-told 0 c c' g g' el e
  blocks-told c c' (more {b = b} {bs = bs} hb lb hbs) g g' el e =
      absorbed-told (length bs) c c' b g g' hb lb el
      (blocks-told (absorbed κ c b) (absorbed κ c' b) hbs (good-absorbed κ L (length bs) c b g hb lb) (good-absorbed κ L (length bs) c' b g' hb lb)
      (absorbed-left c c' b b el) e)

  -- two blocks of one length put different Ys
  pub block-told : (f : ℕ) (c : Chain) (b b' : List ℕ) → Good κ (suc f) c → AllBytes b → AllBytes b' → length b ≡ length b' → length b ≤ κ.size
      → (absorbed κ c b).Y ≡ (absorbed κ c b').Y → b ≡ b'
  unfolding absorbed
  block-told f c b b' g hb hb' l h e =
      let n = κ.size in
      let p : Block n (pad n b) = pad_block n b h hb in
      let p' : Block n (pad n b') = pad_block n b' (omega arith) hb' in
      let lx : length (image κ c) ≡ n = (image-block κ L (suc f) c g).long in
      let same : pad n b ≡ pad n b' = xors_inj (image κ c) (pad n b) (pad n b') (omega (arith, p.long)) (omega (arith, p'.long)) e in
      sym (pad-front n b h) ∙ ap₂ take l same ∙ pad-front n b' (omega arith)

  absorb-append : (c : Chain) (xs bs : List (List ℕ)) → absorb κ c (xs ++ bs) ≡ absorb κ (absorb κ c xs) bs
  unfolding trail message
  absorb-append c [] bs = refl
  absorb-append c (b ∷ xs) bs = absorb-append (absorbed κ c b) xs bs

  -- one block of another content, before and after it the same blocks
  one_block : (c : Chain) {pre post : List (List ℕ)} (b b' : List ℕ) → AllBlocks κ.size pre → AllBlocks κ.size post → AllBytes b → AllBytes b'
      → length b ≡ length b' → length b ≤ κ.size → Good κ (length pre + suc (length post)) c
      → image κ (absorb κ c (pre ++ (b ∷ post))) ≡ image κ (absorb κ c (pre ++ (b' ∷ post))) → b ≡ b'
  unfolding trail message
  one_block c {pre} {post} b b' hpre hpost hb hb' l h g e =
      let u = absorb κ c pre in
      let gu : Good κ (suc (length post)) u = good-after κ L false (suc (length post)) c hpre g in
      block-told (length post) u b b' gu hb hb' l h
      (blocks-told (absorbed κ u b) (absorbed κ u b') hpost (good-absorbed κ L (length post) u b gu hb h)
      (good-absorbed κ L (length post) u b' gu hb' (omega arith)) (absorbed-left u u b b' refl)
      (sym (ap (image κ) (absorb-append c pre (b ∷ post))) ∙ e ∙ ap (image κ) (absorb-append c pre (b' ∷ post))))

  -- the tag is what the cipher makes of all blocks, those of the associated data first
  tag-chain : (key nonce a m : List ℕ) → tag κ key nonce a m ≡ image κ (absorb κ (start κ key nonce (length a) (length m))
      (blocks κ.size a ++ blocks κ.size m))
  unfolding tag_out after_data
  tag-chain key nonce a m = sym (ap (image κ) (absorb-append (start κ key nonce (length a) (length m)) (blocks κ.size a) (blocks κ.size m)))

-- ---- lists that differ only inside block j

module _ (n j : ℕ) (x y : List ℕ) (l : length x ≡ length y)
    (inside : (i : ℕ) → (get_or x i 0 ≡ get_or y i 0 → ⊥) → (j * n ≤ i) × (i < j * n + n)) where
  same_at : (i : ℕ) → ((j * n ≤ i) × (i < j * n + n) → ⊥) → get_or x i 0 ≡ get_or y i 0
  same_at i out = go (eqb (get_or x i 0) (get_or y i 0)) refl
    where
      go : (t : Bool) → eqb (get_or x i 0) (get_or y i 0) ≡ t → get_or x i 0 ≡ get_or y i 0
      go true e = eqb-true (get_or x i 0) (get_or y i 0) e
      go false e = absurd (out (inside i (eqb-false (get_or x i 0) (get_or y i 0) e)))

  pub same-before : take (j * n) x ≡ take (j * n) y
  same-before =
      ext_get_or 0 (take (j * n) x) (take (j * n) y)
      (length-take (j * n) x ∙ ap (min (j * n)) l ∙ sym (length-take (j * n) y))
      (λ i h. let hi : i < j * n = omega (arith, length-take (j * n) x) in
      get_or-take (j * n) x i 0 hi ∙ same_at i (λ w. omega (arith, w.0)) ∙ sym (get_or-take (j * n) y i 0 hi))

  pub same_behind : drop (j * n + n) x ≡ drop (j * n + n) y
  same_behind =
      ext_get_or 0 (drop (j * n + n) x) (drop (j * n + n) y)
      (length-drop (j * n + n) x ∙ ap (λ (k : ℕ). k - (j * n + n)) l ∙ sym (length-drop (j * n + n) y))
      (λ i h. get_or-drop (j * n + n) x i 0 ∙ same_at (j * n + n + i) (λ w. omega (arith, w.1)) ∙ sym (get_or-drop (j * n + n) y i 0))

-- a list is what stands before, in and after block j
pub parts : (n j : ℕ) (x : List ℕ) → take (j * n) x ++ (take n (drop (j * n) x) ++ drop (j * n + n) x) ≡ x
parts n j x =
    ap (λ (y : List ℕ). take (j * n) x ++ (take n (drop (j * n) x) ++ y)) (sym (drop-drop n (j * n) x))
    ∙ ap (λ (y : List ℕ). take (j * n) x ++ y) (take-append-drop n (drop (j * n) x))
    ∙ take-append-drop (j * n) x

both_blocks : (n : ℕ) {xs ys : List (List ℕ)} → AllBlocks n xs → AllBlocks n ys → AllBlocks n (xs ++ ys)
both_blocks n none hy = hy
both_blocks n (more hb lb hx) hy = more hb lb (both_blocks n hx hy)

-- the block list of a text between other blocks, taken apart at block j
around : (fr P Q bk : List (List ℕ)) (b : List ℕ) → fr ++ ((P ++ (b ∷ Q)) ++ bk) ≡ (fr ++ P) ++ (b ∷ (Q ++ bk))
around fr P Q bk b = ap (λ (r : List (List ℕ)). fr ++ r) (append_assoc P (b ∷ Q) bk) ∙ sym (append_assoc fr P (b ∷ (Q ++ bk)))

around_long : (fr P Q bk : List (List ℕ)) (b : List ℕ) → length (fr ++ ((P ++ (b ∷ Q)) ++ bk)) ≡ length (fr ++ P) + suc (length (Q ++ bk))
around_long fr P Q bk b = ap length (around fr P Q bk b) ∙ length-append (fr ++ P) (b ∷ (Q ++ bk))

module _ (κ : Cipher) (L : Lawful κ) (j : ℕ) (x y : List ℕ) (hx : AllBytes x) (hy : AllBytes y) (l : length x ≡ length y)
    (before : take (j * κ.size) x ≡ take (j * κ.size) y) (behind : drop (j * κ.size + κ.size) x ≡ drop (j * κ.size + κ.size) y) where
  -- a text that differs only inside block j, between blocks that do not differ
  text-told : (c : Chain) {fr bk : List (List ℕ)} → AllBlocks κ.size fr → AllBlocks κ.size bk
      → Good κ (length (fr ++ (blocks κ.size x ++ bk))) c
      → image κ (absorb κ c (fr ++ (blocks κ.size x ++ bk))) ≡ image κ (absorb κ c (fr ++ (blocks κ.size y ++ bk))) → x ≡ y
  text-told c {fr} {bk} hf hb g e =
      let n = κ.size in
      let pos : 0 < n = some κ L in
      elim (dec_le (length x) (j * n)) [
        | yes short ↦ sym (take_all (j * n) x short) ∙ before ∙ take_all (j * n) y (omega arith)
        | no long ↦
            let P = blocks n (take (j * n) x) in
            let Q = blocks n (drop (j * n + n) x) in
            let b = take n (drop (j * n) x) in
            let b' = take n (drop (j * n) y) in
            let lb : length b ≡ min n (length x - j * n) = length-take n (drop (j * n) x) ∙ ap (min n) (length-drop (j * n) x) in
            let lb' : length b' ≡ min n (length y - j * n) = length-take n (drop (j * n) y) ∙ ap (min n) (length-drop (j * n) y) in
            let ex : blocks n x ≡ P ++ (b ∷ Q) = blocks-split n pos j x (omega arith) in
            let ey : blocks n y ≡ P ++ (b' ∷ Q) =
            blocks-split n pos j y (omega arith) ∙ ap₂ (λ (u v : List ℕ). blocks n u ++ (b' ∷ blocks n v)) (sym before) (sym behind) in
            let hP : AllBlocks n P = all_blocks (length (take (j * n) x)) n pos (take (j * n) x) (le_refl (length (take (j * n) x))) (all_take (j * n) x hx) in
            let hQ : AllBlocks n Q = all_blocks (length (drop (j * n + n) x)) n pos (drop (j * n + n) x) (le_refl (length (drop (j * n + n) x)))
            (all_drop (j * n + n) x hx) in
            let gx : Good κ (length (fr ++ P) + suc (length (Q ++ bk))) c =
            subst (λ (f : ℕ). Good κ f c) (ap (λ (r : List (List ℕ)). length (fr ++ (r ++ bk))) ex ∙ around_long fr P Q bk b) g in
            let same : b ≡ b' =
            one_block κ L c {pre = fr ++ P} {post = Q ++ bk} b b' (both_blocks n hf hP) (both_blocks n hQ hb)
            (all_take n (drop (j * n) x) (all_drop (j * n) x hx)) (all_take n (drop (j * n) y) (all_drop (j * n) y hy))
            (lb ∙ ap (λ (k : ℕ). min n (k - j * n)) l ∙ sym lb') (omega arith) gx
            (sym (ap (λ (r : List (List ℕ)). image κ (absorb κ c r)) (ap (λ (r : List (List ℕ)). fr ++ (r ++ bk)) ex ∙ around fr P Q bk b))
            ∙ e
            ∙ ap (λ (r : List (List ℕ)). image κ (absorb κ c r)) (ap (λ (r : List (List ℕ)). fr ++ (r ++ bk)) ey ∙ around fr P Q bk b')) in
            sym (parts n j x) ∙ ap₂ (λ (u v : List ℕ). u ++ v) before (ap₂ (λ (u v : List ℕ). u ++ v) same behind) ∙ parts n j y
      ]

  module _ (key nonce other : List ℕ) (hk : Block 16 key) (hv : AllBytes nonce) (lv : length nonce ≡ nonce_size κ) (ho : AllBytes other) where
    other-blocks : AllBlocks κ.size (blocks κ.size other)
    other-blocks = all_blocks (length other) κ.size (some κ L) other (le_refl (length other)) ho

    -- messages of one length that differ only inside block j: equal tags only if they are equal
    pub message-told : tag κ key nonce other x ≡ tag κ key nonce other y → x ≡ y
    message-told e =
        let n = κ.size in
        let c = start κ key nonce (length other) (length x) in
        let end : (t : List ℕ) → blocks n other ++ blocks n t ≡ blocks n other ++ (blocks n t ++ []) = λ t. ap (λ (r : List (List ℕ)). blocks n other ++ r)
        (sym (append-nil (blocks n t))) in
        text-told c other-blocks none
        (subst (λ (f : ℕ). Good κ f c) (sym (ap length (sym (end x)) ∙ length-append (blocks n other) (blocks n x)))
        (good-start-blocks κ L key nonce hk hv lv other x))
        (ap (λ (r : List (List ℕ)). image κ (absorb κ c r)) (sym (end x))
        ∙ sym (tag-chain κ L key nonce other x) ∙ e ∙ tag-chain κ L key nonce other y
        ∙ ap₂ (λ (k : ℕ) (r : List (List ℕ)). image κ (absorb κ (start κ key nonce (length other) k) r)) (sym l) (end y))

    -- associated data of one length that differ only inside block j: equal tags only if they are equal
    pub data-told : tag κ key nonce x other ≡ tag κ key nonce y other → x ≡ y
    data-told e =
        let n = κ.size in
        let c = start κ key nonce (length x) (length other) in
        text-told c {fr = []} none other-blocks
        (subst (λ (f : ℕ). Good κ f c) (sym (length-append (blocks n x) (blocks n other))) (good-start-blocks κ L key nonce hk hv lv x other))
        (sym (tag-chain κ L key nonce x other) ∙ e ∙ tag-chain κ L key nonce y other
        ∙ ap (λ (k : ℕ). image κ (absorb κ (start κ key nonce k (length other)) (blocks n y ++ blocks n other))) (sym l))
