-- When a change slips through: up to the change and in their keys two openings agree, right after it they differ in Y, and the blocks that follow are the same.
use mathlib.Core.Path.{◌≡◌, refl, sym, ap, ap₂, ◌∙◌, subst}
use mathlib.Core.Logic.{◌↔◌}
use mathlib.Core.Bool.{true, false}
use mathlib.Core.List.{List, [], ◌∷◌, ◌++◌}
use Prim.Native.Nat.{ℕ, suc, ◌+◌, ◌-◌, ◌*◌, ◌≤◌, ◌<◌, min}
use native.Mathlib.Nat.{le_refl, suc-ne-zero, suc_inj}
use native.Mathlib.Omega.{arith}
use native.Mathlib.Decide.{dec_le}
use lib.ListN.{length, get_or, take, drop, length-append, length-drop, length-take, get_or-append}
use lib.Seq.{take_all, get_or-append-add}
use Rattle.block.specs.Bytes.{AllBytes}
use Rattle.block.specs.Xors.{xors}
use Rattle.block.proofs.Lists.{all_take, all_drop}
use Rattle.block.proofs.Xors.{xors_comm, xors_inj}
use Rattle.cipher.specs.Cipher.{Cipher, Lawful, Block}
use Rattle.mode.specs.Blocks.{blocks}
use Rattle.mode.specs.Words.{shuffle}
use Rattle.mode.specs.Mode.{CipherCall, Chain, Trail, enciphered, start_call, next_call, image, nonce_size, start, absorbed, masked, message, trail, after}
use Rattle.mode.specs.Mode.{absorb, after_data, tag_out, calls}
use Rattle.mode.specs.Slips.{output_at, ComplementFrom, ChangedIn, in-data, in-text, FullFrom, SlipsThrough}
use Rattle.mode.proofs.Blocks.{AllBlocks, all_blocks, blocks-split, as_many, first-blocks}
use Rattle.mode.proofs.Words.{shuffle_block}
use Rattle.mode.proofs.Chain.{Good, good-after, good-message, length-message, all-message, some}
use Rattle.mode.proofs.Start.{good-data}
use Rattle.mode.proofs.Demand3.{absorbed-left, block-told, same-before, same_behind, parts, data-told}
use Rattle.mode.proofs.Calls.{made_count}
use Rattle.mode.proofs.Meets.{same-chain, Full, output_of, Meets, changed-at, meets}

module _ (κ : Cipher) (L : Lawful κ) where
  -- ---- the same keys

  -- as many blocks leave the same
  absorb-left : (c c' : Chain) (bs bs' : List (List ℕ)) → length bs ≡ length bs' → c.left ≡ c'.left → (absorb κ c bs).left ≡ (absorb κ c' bs').left
  unfolding trail message
  absorb-left c c' [] [] l e = e
  absorb-left c c' [] (b ∷ bs') l e = absurd (suc-ne-zero (length bs') (sym l))
  absorb-left c c' (b ∷ bs) [] l e = absurd (suc-ne-zero (length bs) l)
  absorb-left c c' (b ∷ bs) (b' ∷ bs') l e = absorb-left (absorbed κ c b) (absorbed κ c' b') bs bs' (suc_inj l) (absorbed-left κ L c c' b b' e)

  data-left : (key nonce ad ad' : List ℕ) (l : ℕ) → length ad ≡ length ad' → (after_data κ key nonce ad l).left ≡ (after_data κ key nonce ad' l).left
  unfolding after_data
  data-left key nonce ad ad' l e =
      let n = κ.size in
      absorb-left (start κ key nonce (length ad) l) (start κ key nonce (length ad') l) (blocks n ad) (blocks n ad')
      (as_many n (some κ L) ad ad' e) (ap (λ (k : ℕ). (start κ key nonce k l).left) e)

  -- ---- another Y

  -- a chain takes different blocks of ciphertext in as different messages
  opened-told : (c : Chain) (b b' : List ℕ) → length b ≤ κ.size → length b' ≤ κ.size → message κ true c b ≡ message κ true c b' → b ≡ b'
  unfolding message masked
  opened-told c b b' h h' e =
      let s = shuffle κ.size (image κ c) in
      let ls : length s ≡ κ.size = (shuffle_block κ.size (image κ c) L.sizes).long in
      xors_inj s b b' (omega arith) (omega arith) (xors_comm s b ∙ e ∙ xors_comm b' s)

  module _ (d : CipherCall) where
    -- of one block, between equal ones
    block-meets : (A : Chain) {P Q : List (List ℕ)} (b b' : List ℕ) → AllBlocks κ.size P → AllBlocks κ.size Q → AllBytes b → AllBytes b'
        → length b ≡ length b' → length b ≤ κ.size → (b ≡ b' → ⊥) → Good κ (length P + suc (length Q)) A → Full κ L Q
        → Meets κ L d (suc (length P)) A A (P ++ (b ∷ Q)) (P ++ (b' ∷ Q))
    block-meets A {P} {Q} b b' hP hQ hb hb' l lb ne g full =
        let u = after κ true A P in
        let m = message κ true u b in
        let m' = message κ true u b' in
        let gu : Good κ (suc (length Q)) u = good-after κ L true (suc (length Q)) A hP g in
        let lm : length m ≡ length b = length-message κ L true u b lb in
        let lm' : length m' ≡ length b' = length-message κ L true u b' (omega arith) in
        changed-at κ L d A P Q b b'
        (meets κ L d (absorbed κ u m) (absorbed κ u m') hQ full
        (good-message κ L true (length Q) u b gu hb lb) (good-message κ L true (length Q) u b' gu hb' (omega arith))
        (absorbed-left κ L u u m m' refl)
        (λ e. ne (opened-told u b b' lb (omega arith)
        (block-told κ L (length Q) u m m' gu (all-message κ L true u b hb) (all-message κ L true u b' hb') (lm ∙ l ∙ sym lm') (omega arith) e))))

    module _ (key nonce : List ℕ) (hk : Block 16 key) (hv : AllBytes nonce) (lv : length nonce ≡ nonce_size κ) where
      -- a block of the associated data is changed
      data-meets : (ad ad' c : List ℕ) (j : ℕ) → AllBytes ad → AllBytes ad' → AllBytes c → ChangedIn κ.size j ad ad' → FullFrom κ.size 0 c
          → Meets κ L d 0 (after_data κ key nonce ad (length c)) (after_data κ key nonce ad' (length c)) (blocks κ.size c) (blocks κ.size c)
      unfolding tag_out
      data-meets ad ad' c j ha ha' hc ch full =
          let n = κ.size in
          let l : length ad ≡ length ad' = ch.same_length in
          let u = after_data κ key nonce ad (length c) in
          let u' = after_data κ key nonce ad' (length c) in
          let el : u.left ≡ u'.left = data-left key nonce ad ad' (length c) l in
          meets κ L d u u' (all_blocks (length c) n (some κ L) c (le_refl (length c)) hc) (λ i h. full i (omega arith) h)
          (good-data κ L key nonce hk hv lv ad c ha) (good-data κ L key nonce hk hv lv ad' c ha') el
          (λ e. ch.changed
          (data-told κ L j ad ad' ha ha' l (same-before n j ad ad' l ch.inside) (same_behind n j ad ad' l ch.inside) key nonce c hk hv lv hc
          (ap (λ (v : Chain). image κ (after κ false v (blocks n c))) (same-chain κ L u u' e el))))

      -- a block of the ciphertext is changed
      text-meets : (ad c c' : List ℕ) (j : ℕ) → AllBytes ad → AllBytes c → AllBytes c' → ChangedIn κ.size j c c' → FullFrom κ.size (suc j) c
          → Meets κ L d (suc j) (after_data κ key nonce ad (length c)) (after_data κ key nonce ad (length c')) (blocks κ.size c) (blocks κ.size c')
      text-meets ad c c' j ha hc hc' ch full =
          let n = κ.size in
          let pos : 0 < n = some κ L in
          let l : length c ≡ length c' = ch.same_length in
          let k = j * n in
          let before : take k c ≡ take k c' = same-before n j c c' l ch.inside in
          let behind : drop (k + n) c ≡ drop (k + n) c' = same_behind n j c c' l ch.inside in
          elim (dec_le (length c) k) [
            | yes h ↦ absurd (ch.changed (sym (take_all k c h) ∙ before ∙ take_all k c' (omega arith)))
            | no h ↦
                let p = take k c in
                let r = drop (k + n) c in
                let P = blocks n p in
                let Q = blocks n r in
                let b = take n (drop k c) in
                let b' = take n (drop k c') in
                let A : ℕ → Chain = after_data κ key nonce ad in
                let ec : blocks n c ≡ P ++ (b ∷ Q) = blocks-split n pos j c (omega arith) in
                let ec' : blocks n c' ≡ P ++ (b' ∷ Q) =
                blocks-split n pos j c' (omega arith) ∙ ap₂ (λ (x y : List ℕ). blocks n x ++ (b' ∷ blocks n y)) (sym before) (sym behind) in
                let lP : length P ≡ j = first-blocks n pos j c (omega arith) in
                let count : length (blocks n c) ≡ length P + suc (length Q) = ap length ec ∙ length-append P (b ∷ Q) in
                let lb : length b ≡ min n (length c - k) = length-take n (drop k c) ∙ ap (min n) (length-drop k c) in
                let lb' : length b' ≡ min n (length c' - k) = length-take n (drop k c') ∙ ap (min n) (length-drop k c') in
                let later : Full κ L Q = λ i hi.
                sym (ap length (ap (λ (bs : List (List ℕ)). get_or bs (length P + suc i) []) ec ∙ get_or-append-add P (b ∷ Q) (suc i) []))
                ∙ full (length P + suc i) (omega arith) (omega arith) in
                let s : Meets κ L d (suc (length P)) (A (length c)) (A (length c)) (P ++ (b ∷ Q)) (P ++ (b' ∷ Q)) =
                block-meets (A (length c)) b b'
                (all_blocks (length p) n pos p (le_refl (length p)) (all_take k c hc))
                (all_blocks (length r) n pos r (le_refl (length r)) (all_drop (k + n) c hc))
                (all_take n (drop k c) (all_drop k c hc)) (all_take n (drop k c') (all_drop k c' hc'))
                (lb ∙ ap (λ (m : ℕ). min n (m - k)) l ∙ sym lb') (omega arith)
                (λ e. ch.changed (sym (parts n j c) ∙ ap₂ (λ (x y : List ℕ). x ++ y) before (ap₂ (λ (x y : List ℕ). x ++ y) e behind) ∙ parts n j c'))
                (subst (λ (m : ℕ). Good κ m (A (length c))) count (good-data κ L key nonce hk hv lv ad c ha)) later in
                let s1 : Meets κ L d (suc j) (A (length c)) (A (length c)) (P ++ (b ∷ Q)) (P ++ (b' ∷ Q)) =
                subst (λ (m : ℕ). Meets κ L d (suc m) (A (length c)) (A (length c)) (P ++ (b ∷ Q)) (P ++ (b' ∷ Q))) lP s in
                let s2 : Meets κ L d (suc j) (A (length c)) (A (length c')) (P ++ (b ∷ Q)) (P ++ (b' ∷ Q)) =
                subst (λ (m : ℕ). Meets κ L d (suc j) (A (length c)) (A m) (P ++ (b ∷ Q)) (P ++ (b' ∷ Q))) l s1 in
                let s3 : Meets κ L d (suc j) (A (length c)) (A (length c')) (blocks n c) (P ++ (b' ∷ Q)) =
                subst (λ (bs : List (List ℕ)). Meets κ L d (suc j) (A (length c)) (A (length c')) bs (P ++ (b' ∷ Q))) (sym ec) s2 in
                subst (λ (bs : List (List ℕ)). Meets κ L d (suc j) (A (length c)) (A (length c')) (blocks n c) bs) (sym ec') s3
          ]

  -- ---- from chains to records

  module _ (key nonce : List ℕ) where
    abbrev d₀ : CipherCall
    d₀ = start_call κ key nonce

    -- the message's calls stand in the list after the start's and those of the associated data
    output-is : (ad c : List ℕ) (i : ℕ) → i < length (blocks κ.size c)
        → output_at κ key nonce ad c i ≡ output_of κ L d₀ (after_data κ key nonce ad (length c)) (blocks κ.size c) i
    unfolding output_at calls after_data
    output-is ad c i h =
        let n = κ.size in
        let s = start κ key nonce (length ad) (length c) in
        let r : Trail = trail κ false s (blocks n ad) in
        let t : Trail = trail κ true r.end (blocks n c) in
        let l : List CipherCall = next_call κ t.end ∷ [] in
        ap (enciphered κ)
        (ap (λ (k : ℕ). get_or (r.made ++ (t.made ++ l)) (k + i) d₀) (sym (made_count κ false s (blocks n ad)))
        ∙ get_or-append-add r.made (t.made ++ l) i d₀
        ∙ get_or-append t.made l d₀ i (omega (arith, made_count κ true r.end (blocks n c))))

    told : (first : ℕ) (ad c ad' c' t : List ℕ) → length c ≡ length c' → tag_out κ true key nonce ad c ≡ t
        → Meets κ L d₀ first (after_data κ key nonce ad (length c)) (after_data κ key nonce ad' (length c')) (blocks κ.size c) (blocks κ.size c')
        → (tag_out κ true key nonce ad' c' ≡ t) ↔ ComplementFrom κ first key nonce ad c ad' c'
    unfolding tag_out
    told first ad c ad' c' t l acc m =
        let n = κ.size in
        let both : (i : ℕ) → i < length (blocks n c)
        → xors (output_at κ key nonce ad c i) (output_at κ key nonce ad' c' i)
        ≡ xors (output_of κ L d₀ (after_data κ key nonce ad (length c)) (blocks n c) i) (output_of κ L d₀ (after_data κ key nonce ad' (length c')) (blocks n c') i)
        = λ i h. ap₂ xors (output-is ad c i h) (output-is ad' c' i (omega (arith, as_many n (some κ L) c c' l))) in (
          λ e. let s = m.0 (acc ∙ sym e) in (s.0, s.1, s.2, both s.0 s.2 ∙ s.3),
          λ s. sym (m.1 (s.0, s.1, s.2, sym (both s.0 s.2) ∙ s.3)) ∙ acc,
        )

pub slips_through : SlipsThrough
slips_through κ L key nonce ad ad' c c' t first hk hv lv ha ha' hc hc' acc (in-data j ch ec) full =
    subst (λ (x : List ℕ). (tag_out κ true key nonce ad' x ≡ t) ↔ ComplementFrom κ 0 key nonce ad c ad' x) ec
    (told κ L key nonce 0 ad c ad' c t refl acc (data-meets κ L (start_call κ key nonce) key nonce hk hv lv ad ad' c j ha ha' hc ch full))
slips_through κ L key nonce ad ad' c c' t first hk hv lv ha ha' hc hc' acc (in-text j ea ch) full =
    subst (λ (x : List ℕ). (tag_out κ true key nonce x c' ≡ t) ↔ ComplementFrom κ (suc j) key nonce ad c x c') ea
    (told κ L key nonce (suc j) ad c ad c' t ch.same_length acc (text-meets κ L (start_call κ key nonce) key nonce hk hv lv ad c c' j ha hc hc' ch full))
