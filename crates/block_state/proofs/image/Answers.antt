-- `block_state::image` meets its contract: the image fills the front of the block, and zeros the rest.
use Rattle.std.proofs.Common.{◌≡◌, ℕ, List, ◌++◌, replicate, sym, ap, ◌∙◌}
use Rattle.block.specs.Bytes.{bytes}
use Rattle.block.specs.Blocks.{wide}
use Rattle.block.proofs.Blocks.{length-wide, first_eight}
use Rattle.cipher.specs.Cipher.{size_of, engine_of}
use Rattle.cipher.proofs.Suites.{size_other}
use Rattle.cipher.proofs.Paths.{whole, half}
use Rattle.block_state.proofs.image.Goals as goal

narrow-is : (suite n : ℕ) → n ≡ size_of suite → (n ≡ 16 → ⊥) → size_of suite ≡ 8
narrow-is suite n e apart = size_other suite (λ q. apart (e ∙ q))

pub encipher16-requires : goal.encipher16-requires
encipher16-requires c = sym c.requires ∙ c.if-n-eq16.true

pub returns-then-n-eq16 : goal.returns-then-n-eq16
returns-then-n-eq16 c =
    let r = c.encipher16.result in
    let p = whole c.args.engine.now.suite (wide c.args.key) (wide c.args.block) (wide r) (length-wide r.a r.b)
    (sym c.requires ∙ c.if-n-eq16.true) (length-wide c.args.block.a c.args.block.b) c.encipher16.ensures in
    record { image = p.0; rest = p.1 }

pub encipher8-requires : goal.encipher8-requires
encipher8-requires c = (c.args.engine.now.known, narrow-is c.args.engine.now.suite c.args.n c.requires c.if-n-eq16.false)

pub returns : goal.returns
unfolding bytes
returns c =
    let s = c.args.engine.now.suite in
    let p = half s (wide c.args.key) (wide c.args.block) (bytes 8 c.encipher8.result ++ bytes 8 0) (length-wide c.encipher8.result 0)
    (narrow-is s c.args.n c.requires c.if-n-eq16.false)
    (ap (λ (l : List ℕ). l ++ replicate 8 0) (c.encipher8.ensures ∙ ap (engine_of s (wide c.args.key)) (sym (first_eight c.args.block.a c.args.block.b)))) in
    record { image = p.0; rest = p.1 }
