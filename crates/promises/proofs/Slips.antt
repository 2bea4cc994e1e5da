-- W13 by citation: the opener accepts exactly the right tag.
use mathlib.Core.Path.{ap}
use Rattle.cipher.specs.Cipher.{cipher_of}
use Rattle.cipher.proofs.Lawful.{lawful}
use Rattle.mode.proofs.Shuffle.{two_blocks}
use Rattle.mode.proofs.Meets.{complement_bytes}
use Rattle.mode.proofs.Slips as mode
use Rattle.mode.proofs.Toy.{toy-holds}
use Rattle.comet.specs.Answers.{Opened}
use Rattle.promises.specs.Slips.{SlipsPastOpener, Slips}
use Rattle.promises.proofs.Answers.{nonce-right, opens, opened-tag}
use Rattle.promises.proofs.Demand3.{key_block}

pub slips_through : SlipsPastOpener
slips_through suite key nonce ad ad' c c' t out₀ out₁ first i i' lo lo' lt acc ch full =
    let x = i.texts in
    let x' = i'.texts in
    let s = mode.slips_through (cipher_of suite) (lawful suite) key nonce ad ad' c c' t first
    (key_block suite key nonce ad c x) x.nonce_bytes (nonce-right suite key nonce ad c x) x.ad-bytes x'.ad-bytes x.text-bytes x'.text-bytes
    (opened-tag suite key nonce ad c t out₀ i lo lt acc) ch full in (
      λ e. s.0 (opened-tag suite key nonce ad' c' t out₁ i' lo' lt e),
      λ w. ap (λ (r : Opened). r.number) (opens suite key nonce ad' c' t out₁ i' lo' lt (s.1 w)),
    )

pub slips : Slips
slips = record { two_blocks = two_blocks; complement_bytes = complement_bytes; slips_through = slips_through; toy = toy-holds }
