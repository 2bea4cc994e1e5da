-- Demand 3 by citation: equal tags would make the two inputs equal.
use mathlib.Core.Path.{sym, ap, ◌∙◌}
use mathlib.Core.Logic.{inl, inr}
use Prim.Native.Nat.{ℕ}
use mathlib.Core.List.{List, []}
use Rattle.block.proofs.Lists.{all_nil}
use Rattle.cipher.specs.Cipher.{Block, cipher_of, size_of}
use Rattle.cipher.proofs.Lawful.{lawful}
use Rattle.mode.specs.Mode.{tag}
use Rattle.mode.proofs.Demand2.{empty_tag}
use Rattle.mode.proofs.Demand3.{same-before, same_behind, message-told, data-told}
use Rattle.mode.proofs.LastBlock.{last-told}
use Rattle.promises.specs.Input.{Texts}
use Rattle.promises.specs.Demand3.{OneBlock, LastBlock, EmptyMessage}
use Rattle.promises.proofs.Answers.{nonce-right, opened-tag, refuses}

pub key_block : (suite : ℕ) (key nonce ad text : List ℕ) → Texts suite key nonce ad text → Block 16 key
key_block suite key nonce ad text i = record { long = i.key-length; bytes = i.key-bytes }

pub one_block : OneBlock
one_block suite key nonce ad ad' msg msg' j i i' (inl (ea, ch)) e =
    let n = size_of suite in
    let l = ch.same_length in
    ch.changed (message-told (cipher_of suite) (lawful suite) j msg msg' i.text-bytes i'.text-bytes l
    (same-before n j msg msg' l ch.inside) (same_behind n j msg msg' l ch.inside)
    key nonce ad (key_block suite key nonce ad msg i) i.nonce_bytes (nonce-right suite key nonce ad msg i) i.ad-bytes
    (e ∙ ap (λ (a : List ℕ). tag (cipher_of suite) key nonce a msg') (sym ea)))
one_block suite key nonce ad ad' msg msg' j i i' (inr (em, ch)) e =
    let n = size_of suite in
    let l = ch.same_length in
    ch.changed (data-told (cipher_of suite) (lawful suite) j ad ad' i.ad-bytes i'.ad-bytes l
    (same-before n j ad ad' l ch.inside) (same_behind n j ad ad' l ch.inside)
    key nonce msg (key_block suite key nonce ad msg i) i.nonce_bytes (nonce-right suite key nonce ad msg i) i.text-bytes
    (e ∙ ap (tag (cipher_of suite) key nonce ad') (sym em)))

pub last_block : LastBlock
last_block suite key nonce ad c c' t out₀ out₁ j i i' lo lo' lt e ch inside last =
    let n = size_of suite in
    let l = ch.same_length in
    refuses suite key nonce ad c' t out₁ i' lo' lt
    (λ q. ch.changed (last-told (cipher_of suite) (lawful suite) j key nonce ad c c' i.texts.text-bytes i'.texts.text-bytes l inside last
    (same-before n j c c' l ch.inside)
    (key_block suite key nonce ad c i.texts) i.texts.nonce_bytes (nonce-right suite key nonce ad c i.texts) i.texts.ad-bytes
    (opened-tag suite key nonce ad c t out₀ i lo lt e ∙ sym q)))

pub empty_message : EmptyMessage
empty_message suite key nonce ad ad' t out₀ out₁ j i i' lo lo' lt e ch =
    let n = size_of suite in
    let l = ch.same_length in
    refuses suite key nonce ad' [] t out₁ i' lo' lt
    (λ q. ch.changed (data-told (cipher_of suite) (lawful suite) j ad ad' i.texts.ad-bytes i'.texts.ad-bytes l
    (same-before n j ad ad' l ch.inside) (same_behind n j ad ad' l ch.inside)
    key nonce [] (key_block suite key nonce ad [] i.texts) i.texts.nonce_bytes (nonce-right suite key nonce ad [] i.texts) all_nil
    (sym (empty_tag (cipher_of suite) key nonce ad) ∙ opened-tag suite key nonce ad [] t out₀ i lo lt e ∙ sym q ∙ empty_tag (cipher_of suite) key nonce ad')))
