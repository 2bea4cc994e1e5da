-- Four words of 16 bits are stored: two words side by side are one number, twice.
use Rattle.std.proofs.Common.{ℕ, ◌^◌, ◌<◌, List, ◌++◌, sym, ap, ◌∙◌, ap₂, append_assoc, arith}
use Rattle.block.specs.Bytes.{bytes}
use Rattle.block.proofs.Bytes.{bytes-join}
use Rattle.word.proofs.U16Word.store4.Goals as goal

pub returns : goal.returns
returns c =
    let hx : c.args.word0 < 256 ^ 2 = omega arith in
    let hz : c.args.word2 < 256 ^ 2 = omega arith in
    let h : c.join16.result < 256 ^ 4 = omega arith in
    c.bytes8.ensures ∙ ap (bytes 8) c.join32.ensures ∙ bytes-join 4 4 c.join16.result c.join16-2.result h
    ∙ ap₂ (λ (p q : List ℕ). p ++ q)
    (ap (bytes 4) c.join16.ensures ∙ bytes-join 2 2 c.args.word0 c.args.word1 hx) (ap (bytes 4) c.join16-2.ensures ∙ bytes-join 2 2 c.args.word2 c.args.word3 hz)
    ∙ sym (append_assoc (bytes 2 c.args.word0 ++ bytes 2 c.args.word1) (bytes 2 c.args.word2) (bytes 2 c.args.word3))
