-- `block_state::start`, by cases on the block size. With 16 bytes Y is the key and Z the encryption of the nonce; with 8
-- bytes Y is the encryption of zeros and Z the key XOR the nonce. Key and nonce are read in whole words, whose bytes are the
-- definition's.
use Rattle.std.proofs.Common.{◌≡◌, ℕ, ◌++◌, length, take, replicate, sym, refl, ap, ◌∙◌, ap₂, arith, take_all}
use Rattle.block.specs.Bytes.{bytes}
use Rattle.block.specs.Xors.{xors}
use Rattle.block.proofs.Blocks.{first_eight}
use Rattle.cipher.specs.Cipher.{size_of, cipher_of}
use Rattle.cipher.proofs.Suites.{size_other, nonce_wide, nonce_narrow}
use Rattle.mode.proofs.Start.{start_y_wide, start_y_narrow, start_z_wide, start_z_narrow}
use Rattle.block_state.proofs.Clean.{states_path, nonce_on_key, clean_16}
use Rattle.block_state.proofs.start.Goals.{Then-size-eq16, Else-size-eq16}
use Rattle.block_state.proofs.start.Goals as goal

wide_is : (c : Then-size-eq16) → size_of c.args.engine.now.suite ≡ 16
wide_is c = sym c.size.ensures.is ∙ c.if-size-eq16.true

narrow-is : (c : Else-size-eq16) → size_of c.args.engine.now.suite ≡ 8
narrow-is c = size_other c.args.engine.now.suite (λ e. c.if-size-eq16.false (c.size.ensures.is ∙ e))

pub sixteen-nonce_block-requires : goal.sixteen-nonce_block-requires
sixteen-nonce_block-requires c =
    c.requires.1 ∙ nonce_wide c.args.engine.now.suite (wide_is c)

pub encipher16-z-requires : goal.encipher16-z-requires
encipher16-z-requires c =
    wide_is (goal.at.encipher16-z-requires c).Then-size-eq16

pub returns-then-size-eq16 : goal.returns-then-size-eq16
returns-then-size-eq16 c =
    let κ = cipher_of c.args.engine.now.suite in
    let key = c.args.key.now in
    let v = c.args.nonce.now in
    let en : size_of c.args.engine.now.suite ≡ 16 = wide_is (goal.at.returns-then-size-eq16 c).Then-size-eq16 in
    let lk : length key ≡ 16 = c.requires.0 in
    record {
      two =
          states_path
          (ap (take (size_of c.args.engine.now.suite)) c.sixteen-key_block.ensures ∙ take_all (size_of c.args.engine.now.suite) key (omega arith) ∙ sym (start_y_wide κ key v en))
          (c.encipher16-z.ensures ∙ ap₂ κ.E c.sixteen-key_block.ensures c.sixteen-nonce_block.ensures ∙ sym (start_z_wide κ key v en));
      clean = clean_16 c.args.engine.now.suite c.sixteen-key_block.result en;
      made = refl;
    }

pub fifteen-nonce_block-requires : goal.fifteen-nonce_block-requires
fifteen-nonce_block-requires c =
    c.requires.1 ∙ nonce_narrow c.args.engine.now.suite (narrow-is c)

-- a block of zeros is eight zeros, where a block has eight bytes
zeros-is : (n : ℕ) → n ≡ 8 → take n (bytes 8 0 ++ bytes 8 0) ≡ replicate 8 0
unfolding bytes
zeros-is n e = ap (λ (m : ℕ). take m (bytes 8 0 ++ bytes 8 0)) e ∙ first_eight 0 0

pub returns : goal.returns
returns c =
    let κ = cipher_of c.args.engine.now.suite in
    let key = c.args.key.now in
    let v = c.args.nonce.now in
    let en : size_of c.args.engine.now.suite ≡ 8 = narrow-is (goal.at.returns c).Else-size-eq16 in
    let lk : length key ≡ 16 = c.requires.0 in
    let lv : length v ≡ 15 = c.requires.1 ∙ nonce_narrow c.args.engine.now.suite en in
    record {
      two =
          states_path
          (c.encipher-y.ensures.image ∙ ap₂ κ.E c.sixteen-key_block.ensures (zeros-is (size_of c.args.engine.now.suite) en) ∙ sym (start_y_narrow κ key v en))
          (c.xor-z.ensures ∙ ap₂ xors c.sixteen-key_block.ensures c.fifteen-nonce_block.ensures ∙ nonce_on_key key v lk lv ∙ sym (start_z_narrow κ key v en));
      clean = c.encipher-y.ensures.rest;
      made = refl;
    }
