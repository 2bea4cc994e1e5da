-- Four words of 32 bits are stored: two words side by side are one number.
use Rattle.std.proofs.Common.{ℕ, ◌^◌, ◌<◌, List, ◌++◌, sym, ap, ◌∙◌, ap₂, append_assoc, arith}
use Rattle.block.specs.Bytes.{bytes}
use Rattle.block.proofs.Bytes.{bytes-join}
use Rattle.word.proofs.U32Word.store4.Goals as goal

pub returns : goal.returns
returns c =
    let hx : c.args.word0 < 256 ^ 4 = omega arith in
    let hz : c.args.word2 < 256 ^ 4 = omega arith in
    c.bytes_of.ensures
    ∙ ap₂ (λ (p q : List ℕ). p ++ q)
    (ap (bytes 8) c.join32.ensures ∙ bytes-join 4 4 c.args.word0 c.args.word1 hx) (ap (bytes 8) c.join32-2.ensures ∙ bytes-join 4 4 c.args.word2 c.args.word3 hz)
    ∙ sym (append_assoc (bytes 4 c.args.word0 ++ bytes 4 c.args.word1) (bytes 4 c.args.word2) (bytes 4 c.args.word3))
