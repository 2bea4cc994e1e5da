-- The calls of the cipher: the lengths alone tell how many, and what comes out depends on the cipher through them alone.
use mathlib.Core.Path.{◌≡◌, refl, sym, ap, ap₂, ◌∙◌}
use mathlib.Core.Bool.{Bool, false, cond}
use Prim.Native.Nat.{ℕ, suc, ◌+◌, ◌<◌}
use native.Mathlib.Omega.{arith}
use mathlib.Core.List.{List, [], ◌∷◌, ◌++◌}
use lib.ListN.{length, take, drop, length-append}
use lib.Dec.{eqb}
use Rattle.block.specs.Xors.{xors}
use Rattle.cipher.specs.Cipher.{Cipher}
use Rattle.mode.specs.Blocks.{blocks}
use Rattle.mode.specs.Words.{shuffle, pad}
use Rattle.mode.specs.Keys.{marks, keys}
use Rattle.mode.specs.Mode.{CipherCall, Chain, Trail, later_keys, enciphered, start_call, next_call, image, start_y, start_z, start, absorbed, masked, message}
use Rattle.mode.specs.Mode.{trail, after_data, text_out, tag_out, calls}
use Rattle.mode.specs.Calls.{Agree, none, more, other}
use Rattle.mode.proofs.Blocks.{as_many}

-- ---- how many

pub made_count : (κ : Cipher) (d : Bool) (c : Chain) (bs : List (List ℕ)) → length (trail κ d c bs).made ≡ length bs
unfolding trail
made_count κ d c [] = refl
made_count κ d c (b ∷ bs) = ap suc (made_count κ d (absorbed κ c (message κ d c b)) bs)

-- one for each block of the two texts, the start's and the tag's
pub calls_count : (κ : Cipher) (d : Bool) (key nonce ad text : List ℕ)
    → length (calls κ d key nonce ad text) ≡ length (blocks κ.size ad) + length (blocks κ.size text) + 2
unfolding calls
calls_count κ d key nonce ad text =
    let r : Trail = trail κ false (start κ key nonce (length ad) (length text)) (blocks κ.size ad) in
    let t : Trail = trail κ d r.end (blocks κ.size text) in
    let l : List CipherCall = next_call κ t.end ∷ [] in
    omega (
      arith,
      length-append r.made (t.made ++ l),
      length-append t.made l,
      made_count κ false (start κ key nonce (length ad) (length text)) (blocks κ.size ad),
      made_count κ d r.end (blocks κ.size text),
    )

-- so equal lengths take equally many, whichever way the text goes
pub calls_same : (κ : Cipher) → 0 < κ.size → (d d' : Bool) (key nonce ad text key' nonce' ad' text' : List ℕ)
    → length ad ≡ length ad' → length text ≡ length text' → length (calls κ d key nonce ad text) ≡ length (calls κ d' key' nonce' ad' text')
calls_same κ pos d d' key nonce ad text key' nonce' ad' text' ea et =
    let n = κ.size in
    calls_count κ d key nonce ad text
    ∙ ap₂ (λ (x y : ℕ). x + y + 2) (as_many n pos ad ad' ea) (as_many n pos text text' et)
    ∙ sym (calls_count κ d' key' nonce' ad' text')

-- ---- and nothing else is checked of the cipher

module _ (κ : Cipher) (E' : List ℕ → List ℕ → List ℕ) where
  abbrev κ' : Cipher
  κ' = other κ E'

  split : (xs : List CipherCall) {ys : List CipherCall} → Agree κ κ' (xs ++ ys) → Agree κ κ' xs × Agree κ κ' ys
  split [] h = (none, h)
  split (x ∷ xs) (more e h) = (more e (split xs h).0, (split xs h).1)

  first_of_lem : {q : CipherCall} {qs : List CipherCall} → Agree κ κ' (q ∷ qs) → enciphered κ q ≡ enciphered κ' q
  first_of_lem (more e h) = e

  same-trail : (d : Bool) (c : Chain) (bs : List (List ℕ)) → Agree κ κ' (trail κ d c bs).made → trail κ d c bs ≡ trail κ' d c bs
  unfolding trail absorbed masked message
  same-trail d c [] h = refl
  same-trail d c (b ∷ bs) (more e h) =
      let n = κ.size in
      let o : List ℕ → List ℕ = λ x. xors b (shuffle n x) in
      let next : List ℕ → Chain = λ x. record { Y = xors x (pad n (cond d (o x) b)); left = later_keys c.left } in
      let join : List ℕ → Trail → Trail = λ x r. record { made = next_call κ c ∷ r.made; out = o x ++ r.out; end = r.end } in
      ap (join (image κ c)) (same-trail d (next (image κ c)) bs h) ∙ ap (λ (x : List ℕ). join x (trail κ' d (next x) bs)) e

  same_start : (key nonce : List ℕ) (a m : ℕ) → enciphered κ (start_call κ key nonce) ≡ enciphered κ' (start_call κ key nonce)
      → start κ key nonce a m ≡ start κ' key nonce a m
  unfolding start start_y start_z
  same_start key nonce a m e =
      let t = eqb κ.size 16 in
      let v = κ.version in
      ap {B = Chain} (λ (x : List ℕ). record { Y = cond t key x; left = keys v (cond t x (xors (take 15 key) nonce ++ drop 15 key)) (marks v κ.size a m) }) e

  -- a cipher that gives the same for the calls of the list gives the same text and tag
  pub calls-decide : (d : Bool) (key nonce ad text : List ℕ) → Agree κ κ' (calls κ d key nonce ad text)
      → (text_out κ d key nonce ad text ≡ text_out κ' d key nonce ad text) × (tag_out κ d key nonce ad text ≡ tag_out κ' d key nonce ad text)
  unfolding calls after_data text_out tag_out
  calls-decide d key nonce ad text (more e h) =
      let n = κ.size in
      let s = start κ key nonce (length ad) (length text) in
      let r : Trail = trail κ false s (blocks n ad) in
      let t : Trail = trail κ d r.end (blocks n text) in
      let h' = split r.made h in
      let h'' = split t.made h'.1 in
      let er : r ≡ trail κ' false (start κ' key nonce (length ad) (length text)) (blocks n ad) =
      same-trail false s (blocks n ad) h'.0 ∙ ap (λ (c : Chain). trail κ' false c (blocks n ad)) (same_start key nonce (length ad) (length text) e) in
      let et : t ≡ trail κ' d (trail κ' false (start κ' key nonce (length ad) (length text)) (blocks n ad)).end (blocks n text) =
      same-trail d r.end (blocks n text) h''.0 ∙ ap (λ (x : Trail). trail κ' d x.end (blocks n text)) er in
      (ap (λ (x : Trail). x.out) et, first_of_lem h''.1 ∙ ap (λ (x : Trail). image κ' x.end) et)
