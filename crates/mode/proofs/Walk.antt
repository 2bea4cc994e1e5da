-- The walk is the chain: the same states, the same text, the same tag, in both directions; and a walk goes on where an earlier one stopped.
use mathlib.Core.Path.{◌≡◌, refl, sym, ap, ap₂, ◌∙◌, subst}
use mathlib.Core.Bool.{Bool, false, cond}
use Prim.Native.Nat.{ℕ, ◌+◌, ◌-◌, ◌≤◌, ◌<◌, min}
use native.Mathlib.Nat.{le_refl, div-add-mod', mod-lt}
use native.Mathlib.Omega.{arith}
use native.Mathlib.Decide.{dec_le}
use mathlib.Core.List.{List, [], ◌∷◌, ◌++◌, append_assoc, append-nil}
use lib.ListN.{length, take, drop, drop_of_length-le}
use lib.Dec.{ltb}
use borrow.Author.Tests.{lt-ltb, le-ltb}
use Rattle.block.specs.Bytes.{AllBytes}
use Rattle.block.proofs.XorLaws.{below, zero_r}
use Rattle.block.specs.Words.{xor}
use Rattle.block.specs.Xors.{xors}
use Rattle.cipher.specs.Cipher.{Cipher, Lawful, Block}
use Rattle.mode.specs.Blocks.{blocks, lengths}
use Rattle.mode.specs.Words.{shuffle, pad}
use Rattle.mode.specs.Keys.{short_mark, text_marks, placed, marks, keys}
use Rattle.mode.specs.Mode.{Chain, first_key, later_keys, start, image, absorbed, masked, message, trail, after, crypted, absorb, after_data, text_out}
use Rattle.mode.specs.Mode.{tag_out}
use Rattle.mode.specs.Walk.{States, chain_of, whole, block_key, block_z, mark_of, image_of, turned, hidden, message_of, walked, covered, tagged, origin}
use Rattle.mode.specs.Walk.{data_done}
use Rattle.mode.proofs.Blocks.{sizes, blocks-sizes, blocks-nil, blocks_more, blocks-turn, AllBlocks, none, more}
use Rattle.mode.proofs.Words.{pad_block}
use Rattle.mode.proofs.Keys.{short_lt}
use Rattle.mode.proofs.Versions.{block_step, tag_step, key_block, kept_block}
use Rattle.mode.proofs.Chain.{xors_block, length-message, all-message}
use Rattle.mode.proofs.Cut.{length_whole, whole-short}

-- ---- marks

-- the mark of a full block, and of a short one
pub mark_full : (n first short k : ℕ) → k ≡ n → xor first (short_mark n short k) ≡ first
mark_full n first short k e = ap (λ (t : Bool). xor first (cond t short 0)) (le-ltb k n (omega arith)) ∙ zero_r first

pub mark_short : (n first short k : ℕ) → k < n → xor first (short_mark n short k) ≡ xor first short
mark_short n first short k h = ap (λ (t : Bool). xor first (cond t short 0)) (lt-ltb k n h)

-- the first block's mark after some blocks
abbrev pub later : ℕ → List (List ℕ) → ℕ
later first [] = first
later first (b ∷ bs) = 0

pub later_first : (n m : ℕ) (pos : 0 < n) (l : List ℕ) → later m (blocks n (whole n l)) ≡ cond (ltb (length l) n) m 0
later_first n m pos l =
    elim (dec_le n (length l)) [
      | yes h ↦
          let lw : 0 < length (whole n l) = omega (arith, length_whole n pos l, div-add-mod' (length l) n, mod-lt (length l) pos) in
          ap (later m) (blocks_more n pos (whole n l) lw) ∙ sym (ap (λ (t : Bool). cond t m 0) (le-ltb (length l) n h))
      | no h ↦
          ap (λ (x : List ℕ). later m (blocks n x)) (whole-short n pos l (omega arith)) ∙ ap (later m) (blocks-nil n pos)
          ∙ sym (ap (λ (t : Bool). cond t m 0) (lt-ltb (length l) n (omega arith)))
    ]

module _ (κ : Cipher) where
  -- ---- the walk is the chain

  -- the chain's next key and the keys after it
  step_left : (m : ℕ) (s : States) (ms : List ℕ) → (chain_of κ.version s (m ∷ ms)).left
      ≡ block_key κ.version m s.Z ∷ keys κ.version (block_z κ.version m s.Z) (placed κ.version ms)
  step_left m s ms = block_step κ.version m s.Z ms

  pub turned-chain : (m : ℕ) (s : States) (b : List ℕ) (ms : List ℕ) → absorbed κ (chain_of κ.version s (m ∷ ms)) b ≡ chain_of κ.version (turned κ m s b) ms
  unfolding absorbed turned
  turned-chain m s b ms = ap (λ (l : List (List ℕ)). record { Y = xors (κ.E (first_key l) s.Y) (pad κ.size b); left = later_keys l }) (step_left m s ms)

  pub hidden-chain : (m : ℕ) (s : States) (b : List ℕ) (ms : List ℕ) → masked κ (chain_of κ.version s (m ∷ ms)) b ≡ hidden κ m s b
  unfolding masked hidden
  hidden-chain m s b ms = ap (λ (l : List (List ℕ)). xors b (shuffle κ.size (κ.E (first_key l) s.Y))) (step_left m s ms)

  pub message-chain : (d : Bool) (m : ℕ) (s : States) (b : List ℕ) (ms : List ℕ) → message κ d (chain_of κ.version s (m ∷ ms)) b ≡ message_of κ d m s b
  unfolding message
  message-chain d m s b ms = ap (λ (o : List ℕ). cond d o b) (hidden-chain m s b ms)

  step-chain : (d : Bool) (m : ℕ) (s : States) (b : List ℕ) (ms : List ℕ)
      → absorbed κ (chain_of κ.version s (m ∷ ms)) (message κ d (chain_of κ.version s (m ∷ ms)) b)
      ≡ chain_of κ.version (turned κ m s (message_of κ d m s b)) ms
  step-chain d m s b ms = ap (absorbed κ (chain_of κ.version s (m ∷ ms))) (message-chain d m s b ms) ∙ turned-chain m s (message_of κ d m s b) ms

  abbrev marks_of : ℕ → ℕ → List (List ℕ) → List ℕ → List ℕ
  marks_of first short bs ms = text_marks κ.size first short (sizes bs) ++ ms

  pub after-walk : (d : Bool) (first short : ℕ) (s : States) (bs : List (List ℕ)) (ms : List ℕ)
      → after κ d (chain_of κ.version s (marks_of first short bs ms)) bs ≡ chain_of κ.version (walked κ d first short s bs) ms
  unfolding trail walked text_marks
  after-walk d first short s [] ms = refl
  after-walk d first short s (b ∷ bs) ms =
      let m = mark_of κ first short b in
      ap (λ (c : Chain). after κ d c bs) (step-chain d m s b (marks_of 0 short bs ms))
      ∙ after-walk d 0 short (turned κ m s (message_of κ d m s b)) bs ms

  pub crypted-walk : (d : Bool) (first short : ℕ) (s : States) (bs : List (List ℕ)) (ms : List ℕ)
      → crypted κ d (chain_of κ.version s (marks_of first short bs ms)) bs ≡ covered κ d first short s bs
  unfolding trail covered text_marks
  crypted-walk d first short s [] ms = refl
  crypted-walk d first short s (b ∷ bs) ms =
      let m = mark_of κ first short b in
      let ms' = marks_of 0 short bs ms in
      ap₂ (λ (x : List ℕ) (c : Chain). x ++ crypted κ d c bs) (hidden-chain m s b ms') (step-chain d m s b ms')
      ∙ ap (λ (x : List ℕ). hidden κ m s b ++ x) (crypted-walk d 0 short (turned κ m s (message_of κ d m s b)) bs ms)

  -- ---- the whole of it

  module _ (pos : 0 < κ.size) (key nonce a t : List ℕ) where
    marks-walk : (first short : ℕ) (l ms : List ℕ) → text_marks κ.size first short (lengths κ.size (length l)) ++ ms
        ≡ marks_of first short (blocks κ.size l) ms
    marks-walk first short l ms =
        ap (λ (ks : List ℕ). text_marks κ.size first short ks ++ ms) (sym (blocks-sizes κ.size pos (length l) l (le_refl (length l))))

    data-walk : after_data κ key nonce a (length t) ≡ chain_of κ.version (data_done κ key nonce a) (marks_of 0x20 0x40 (blocks κ.size t) [])
    unfolding after_data start marks
    data-walk =
        let s = origin κ key nonce in
        let ms : List ℕ = marks_of 0x20 0x40 (blocks κ.size t) [] in
        let q : text_marks κ.size 0x20 0x40 (lengths κ.size (length t)) ≡ ms = sym (append-nil _) ∙ marks-walk 0x20 0x40 t [] in
        ap (λ (x : List ℕ). absorb κ (chain_of κ.version s (text_marks κ.size 0x08 0x10 (lengths κ.size (length a)) ++ x)) (blocks κ.size a)) q
        ∙ ap (λ (x : List ℕ). absorb κ (chain_of κ.version s x) (blocks κ.size a)) (marks-walk 0x08 0x10 a ms)
        ∙ after-walk false 0x08 0x10 s (blocks κ.size a) ms

    pub text-walk : (d : Bool) → text_out κ d key nonce a t ≡ covered κ d 0x20 0x40 (data_done κ key nonce a) (blocks κ.size t)
    unfolding text_out
    text-walk d = ap (λ (c : Chain). crypted κ d c (blocks κ.size t)) data-walk ∙ crypted-walk d 0x20 0x40 (data_done κ key nonce a) (blocks κ.size t) []

    pub tag-walk : (d : Bool) → tag_out κ d key nonce a t ≡ tagged κ (walked κ d 0x20 0x40 (data_done κ key nonce a) (blocks κ.size t))
    unfolding tag_out tagged
    tag-walk d =
        let w = walked κ d 0x20 0x40 (data_done κ key nonce a) (blocks κ.size t) in
        ap (λ (c : Chain). image κ (after κ d c (blocks κ.size t))) data-walk
        ∙ ap (image κ) (after-walk d 0x20 0x40 (data_done κ key nonce a) (blocks κ.size t) [])
        ∙ ap (λ (l : List (List ℕ)). κ.E (first_key l) w.Y) (tag_step κ.version w.Z)

  -- ---- a walk goes on

  pub walked-append : (d : Bool) (first short : ℕ) (s : States) (xs ys : List (List ℕ))
      → walked κ d first short s (xs ++ ys) ≡ walked κ d (later first xs) short (walked κ d first short s xs) ys
  unfolding walked
  walked-append d first short s [] ys = refl
  walked-append d first short s (b ∷ []) ys = refl
  walked-append d first short s (b ∷ (x ∷ xs)) ys =
      let m = mark_of κ first short b in
      walked-append d 0 short (turned κ m s (message_of κ d m s b)) (x ∷ xs) ys

  pub covered-append : (d : Bool) (first short : ℕ) (s : States) (xs ys : List (List ℕ))
      → covered κ d first short s (xs ++ ys) ≡ covered κ d first short s xs ++ covered κ d (later first xs) short (walked κ d first short s xs) ys
  unfolding walked covered
  covered-append d first short s [] ys = refl
  covered-append d first short s (b ∷ []) ys =
      let m = mark_of κ first short b in
      ap (λ (x : List ℕ). x ++ covered κ d 0 short (turned κ m s (message_of κ d m s b)) ys) (sym (append-nil (hidden κ m s b)))
  covered-append d first short s (b ∷ (x ∷ xs)) ys =
      let m = mark_of κ first short b in
      ap (λ (r : List ℕ). hidden κ m s b ++ r) (covered-append d 0 short (turned κ m s (message_of κ d m s b)) (x ∷ xs) ys)
      ∙ sym (append_assoc (hidden κ m s b) _ _)

  -- what a loop over the blocks does in a turn: the block from i to e of l, full or short, under its mark k; r is the walk's next states
  module _ (pos : 0 < κ.size) (d : Bool) (first short : ℕ) (s : States) (l : List ℕ) (i e : ℕ) (h : i < length l) (q : e ≡ min (i + κ.size) (length l)) where
    abbrev block : List ℕ
    block = take (e - i) (drop i l)

    module _ (k : ℕ) (ek : mark_of κ first short block ≡ k) (r : States) (er : r ≡ turned κ k s (message_of κ d k s block)) where
      next : r ≡ turned κ (mark_of κ first short block) s (message_of κ d (mark_of κ first short block) s block)
      next = er ∙ ap (λ (m : ℕ). turned κ m s (message_of κ d m s block)) (sym ek)

      pub walked-turn : walked κ d 0 short r (blocks κ.size (drop e l)) ≡ walked κ d first short s (blocks κ.size (drop i l))
      unfolding walked
      walked-turn =
          ap (λ (w : States). walked κ d 0 short w (blocks κ.size (drop e l))) next
          ∙ sym (ap (walked κ d first short s) (blocks-turn κ.size pos l i e h q))

      pub covered-turn : (x : List ℕ) → x ≡ hidden κ k s block → x ++ covered κ d 0 short r (blocks κ.size (drop e l))
          ≡ covered κ d first short s (blocks κ.size (drop i l))
      unfolding covered
      covered-turn x ex =
          ap₂ (λ (y : List ℕ) (w : States). y ++ covered κ d 0 short w (blocks κ.size (drop e l))) (ex ∙ ap (λ (m : ℕ). hidden κ m s block) (sym ek)) next
          ∙ sym (ap (covered κ d first short s) (blocks-turn κ.size pos l i e h q))

  -- after the last block nothing is left
  module _ (pos : 0 < κ.size) (d : Bool) (first short : ℕ) (s : States) (l : List ℕ) (e : ℕ) (h : length l ≤ e) where
    nil : blocks κ.size (drop e l) ≡ []
    nil = ap (blocks κ.size) (drop_of_length-le l {i = e} h) ∙ blocks-nil κ.size pos

    pub walked-done : walked κ d first short s (blocks κ.size (drop e l)) ≡ s
    unfolding walked
    walked-done = ap (walked κ d first short s) nil

    pub covered-done : covered κ d first short s (blocks κ.size (drop e l)) ≡ []
    unfolding covered
    covered-done = ap (covered κ d first short s) nil

  -- ---- states are blocks

  pub record Fine (s : States) : Type 0 where
    pub y : Block κ.size s.Y
    pub z : Block 16 s.Z

  module _ (L : Lawful κ) where
    turned-fine : (m : ℕ) (s : States) (b : List ℕ) → m < 256 → AllBytes b → length b ≤ κ.size → Fine s → Fine (turned κ m s b)
    unfolding turned
    turned-fine m s b hm hb lb g =
        let v = κ.version in
        let hk = key_block v m s.Z hm g.z in
        record {
          y = xors_block κ.size (image_of κ m s) (pad κ.size b) (L.image (block_key v m s.Z) s.Y hk g.y) (pad_block κ.size b lb hb);
          z = kept_block v m s.Z hm g.z;
        }

    step-fine : (d : Bool) (m : ℕ) (s : States) (b : List ℕ) → m < 256 → AllBytes b → length b ≤ κ.size → Fine s → Fine (turned κ m s (message_of κ d m s b))
    step-fine d m s b hm hb lb g =
        let c = chain_of κ.version s (m ∷ []) in
        subst (λ (v : List ℕ). Fine (turned κ m s v)) (message-chain d m s b [])
        (turned-fine m s (message κ d c b) hm (all-message κ L d c b hb) (omega (arith, length-message κ L d c b lb)) g)

    pub walked-fine : (d : Bool) (first short : ℕ) (s : States) {bs : List (List ℕ)} → first < 256 → short < 256 → AllBlocks κ.size bs → Fine s
        → Fine (walked κ d first short s bs)
    unfolding walked
    walked-fine d first short s hf hs none g = g
    walked-fine d first short s hf hs (more {b = b} hb lb hbs) g =
        let m = mark_of κ first short b in
        walked-fine d 0 short (turned κ m s (message_of κ d m s b)) (omega arith) hs hbs
        (step-fine d m s b (below 8 hf (short_lt κ.size short (length b) hs)) hb lb g)
