-- A session and its nine words know each other: each word of 64 bits is read back from its eight bytes, so words that are not
-- written over stand for the same session.
use mathlib.Core.Path.{◌≡◌, refl, sym, ap, ◌∙◌}
use Prim.Native.Nat.{ℕ, ◌^◌, ◌<◌}
use native.Mathlib.Omega.{arith}
use mathlib.Core.List.{List, [], ◌∷◌, ◌++◌}
use lib.ListN.{length, get_or, take, drop, replicate}
use lib.Seq.{take_all}
use Rattle.block.specs.Bytes.{value, bytes}
use Rattle.block.specs.Blocks.{wide}
use Rattle.block.specs.declared.Block.{Block}
use Rattle.block.proofs.Bytes.{value-bytes}
use Rattle.block.proofs.Lists.{part-take}
use Rattle.block.proofs.Blocks.{first_eight, last_eight}
use Rattle.session.specs.declared.Session.{Session}
use Rattle.session.specs.declared.Step.{Step}
use Rattle.session.specs.Value.{Given, over, gave}
use Rattle.session.specs.Structs.{as_value, number_of, count_of, gives}
use Rattle.session_words.specs.Words.{Nine, of_words, words_of, after, in_words}

-- ---- two words side by side

low : (a b : ℕ) → a < 2 ^ 64 → value (take 8 (bytes 8 a ++ bytes 8 b)) ≡ a
low a b h = ap value (first_eight a b) ∙ value-bytes 8 a h

high : (a b : ℕ) → b < 2 ^ 64 → value (drop 8 (bytes 8 a ++ bytes 8 b)) ≡ b
high a b h = ap value (last_eight a b) ∙ value-bytes 8 b h

-- ---- nine words

nine : (w : List ℕ) → length w ≡ 9
    → get_or w 0 0 ∷ get_or w 1 0 ∷ get_or w 2 0 ∷ get_or w 3 0 ∷ get_or w 4 0 ∷ get_or w 5 0 ∷ get_or w 6 0 ∷ get_or w 7 0 ∷ get_or w 8 0 ∷ [] ≡ w
nine w l = part-take 9 w 0 (omega arith) ∙ take_all 9 w (omega arith)

-- the words of the session that nine words stand for are those words
pub kept : (w : List ℕ) → Nine w → words_of (of_words w) ≡ w
kept w h =
    let y0 = low (get_or w 1 0) (get_or w 2 0) (h.small 1) in
    let y1 = high (get_or w 1 0) (get_or w 2 0) (h.small 2) in
    let z0 = low (get_or w 3 0) (get_or w 4 0) (h.small 3) in
    let z1 = high (get_or w 3 0) (get_or w 4 0) (h.small 4) in
    let h0 = low (get_or w 5 0) (get_or w 6 0) (h.small 5) in
    let h1 = high (get_or w 5 0) (get_or w 6 0) (h.small 6) in
    (λ i. get_or w 0 0 ∷ y0 i ∷ y1 i ∷ z0 i ∷ z1 i ∷ h0 i ∷ h1 i ∷ get_or w 7 0 ∷ get_or w 8 0 ∷ []) ∙ nine w h.long

-- nine zeros and the session that is over
pub dead : of_words (replicate 9 0) ≡ over
unfolding bytes
dead = refl

pub dead_words : words_of over ≡ replicate 9 0
unfolding value
dead_words = refl

-- ---- the code's session

-- its numbers, and the two that hold the held bytes, are of 64 bits
pub record Small (s : Session) (h : Block) : Type 0 where
  pub ya : s.y.a < 2 ^ 64
  pub yb : s.y.b < 2 ^ 64
  pub za : s.z.a < 2 ^ 64
  pub zb : s.z.b < 2 ^ 64
  pub ha : h.a < 2 ^ 64
  pub hb : h.b < 2 ^ 64

module _ (s : Session) (h : Block) (p : Small s h) (e : wide h ≡ s.held) where
  abbrev its : List ℕ
  its = s.suite ∷ s.y.a ∷ s.y.b ∷ s.z.a ∷ s.z.b ∷ h.a ∷ h.b ∷ s.ad_total ∷ s.text_total ∷ []

  pub its-words : its ≡ words_of (as_value s)
  its-words =
      let y0 = low s.y.a s.y.b p.ya in
      let y1 = high s.y.a s.y.b p.yb in
      let z0 = low s.z.a s.z.b p.za in
      let z1 = high s.z.a s.z.b p.zb in
      let h0 : value (take 8 s.held) ≡ h.a = ap (λ (l : List ℕ). value (take 8 l)) (sym e) ∙ low h.a h.b p.ha in
      let h1 : value (drop 8 s.held) ≡ h.b = ap (λ (l : List ℕ). value (drop 8 l)) (sym e) ∙ high h.a h.b p.hb in
      sym (λ i. s.suite ∷ y0 i ∷ y1 i ∷ z0 i ∷ z1 i ∷ h0 i ∷ h1 i ∷ s.ad_total ∷ s.text_total ∷ [])

  pub its-session : of_words its ≡ as_value s
  its-session = λ i. record { suite = s.suite; Y = wide s.y; Z = wide s.z; held = e i; ad_total = s.ad_total; text_total = s.text_total }

-- ---- a call

-- the library's step, its session as words
pub handed : (r : Step) (m n : ℕ) (words out tag : List ℕ) (g : Given) → m ≡ number_of r.outcome → n ≡ count_of r.outcome
    → words ≡ words_of (as_value r.next) → of_words words ≡ as_value r.next → gives r out tag ≡ g → after m n words out tag ≡ in_words g
handed r m n words out tag g d c p q e =
    (λ i. record { given = record { number = d i; count = c i; next = q i; out = out; tag = tag }; words = p i })
    ∙ ap in_words e

-- a first word that is no byte: the words stay
pub stays : (w out tag : List ℕ) (g : Given) → Nine w → gave 9 0 (of_words w) out tag ≡ g → after 9 0 w out tag ≡ in_words g
stays w out tag g h e =
    (λ i. record { given = gave 9 0 (of_words w) out tag; words = sym (kept w h) i })
    ∙ ap in_words e
