-- `cipher::Engine::encipher` meets its contract: the image fills the front of the block, and zeros the rest.
use mathlib.Core.Path.{◌≡◌, sym, ap, ◌∙◌}
use mathlib.Core.List.{List, ◌++◌}
use Prim.Native.Nat.{ℕ, ◌-◌}
use native.Mathlib.Omega.{arith}
use lib.ListN.{take, drop, replicate}
use Rattle.block.specs.Bytes.{bytes}
use Rattle.block.specs.declared.Block.{Block}
use Rattle.block.specs.Blocks.{wide}
use Rattle.block.proofs.Blocks.{length-wide, first_eight}
use Rattle.cipher.specs.Cipher.{size_of, engine_of}
use Rattle.cipher.proofs.Suites.{size_other, Engine, engine_4}
use Rattle.cipher.proofs.Paths.{whole, half}
use Rattle.cipher.proofs.Engine.encipher.Goals as goal

-- a number whose bytes are the image fills the front
narrow : (suite r : ℕ) (key block : Block) → size_of suite ≡ 8 → bytes 8 r ≡ engine_of suite (wide key) (bytes 8 block.a)
    → (take (size_of suite) (bytes 8 r ++ bytes 8 0) ≡ engine_of suite (wide key) (take (size_of suite) (wide block)))
    × (drop (size_of suite) (bytes 8 r ++ bytes 8 0) ≡ replicate (16 - size_of suite) 0)
unfolding bytes
narrow suite r key block n q =
    half suite (wide key) (wide block) (bytes 8 r ++ bytes 8 0) (length-wide r 0)
    n
    (ap (λ (l : List ℕ). l ++ replicate 8 0) (q ∙ ap (engine_of suite (wide key)) (sym (first_eight block.a block.b))))

pub returns-then-size-eq16 : goal.returns-then-size-eq16
returns-then-size-eq16 c =
    let r = c.encipher16.result in
    let p = whole c.args.self.now.suite (wide c.args.key) (wide c.args.block) (wide r) (length-wide r.a r.b)
    (sym c.size.ensures.is ∙ c.if-size-eq16.true) (length-wide c.args.block.a c.args.block.b) c.encipher16.ensures in
    record { image = p.0; rest = p.1 }

pub encipher8-requires : goal.encipher8-requires
encipher8-requires c = (c.args.self.now.known, size_other c.args.self.now.suite (λ e. c.if-size-eq16.false (c.size.ensures.is ∙ e)))

pub returns-then-self-ne-RETIRED : goal.returns-then-self-ne-RETIRED
returns-then-self-ne-RETIRED c =
    let p = narrow c.args.self.now.suite c.encipher8.result c.args.key c.args.block
    (size_other c.args.self.now.suite (λ e. c.if-size-eq16.false (c.size.ensures.is ∙ e))) c.encipher8.ensures in
    record { image = p.0; rest = p.1 }

pub returns : goal.returns
returns c =
    let p = narrow c.args.self.now.suite c.by_cham64.result c.args.key c.args.block
    (size_other c.args.self.now.suite (λ e. c.if-size-eq16.false (c.size.ensures.is ∙ e)))
    (c.by_cham64.ensures
    ∙ sym (ap (λ (e : Engine). e (wide c.args.key) (bytes 8 c.args.block.a)) (engine_4 c.args.self.now.suite (omega (arith, c.if-self-ne-RETIRED.false))))) in
    record { image = p.0; rest = p.1 }
