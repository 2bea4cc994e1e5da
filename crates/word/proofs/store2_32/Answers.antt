-- `word::store2_32` meets its contract: two words side by side are one number.
use Rattle.std.proofs.Common.{◌^◌, ◌<◌, ap, ◌∙◌, arith}
use Rattle.block.specs.Bytes.{bytes}
use Rattle.block.proofs.Bytes.{bytes-join}
use Rattle.word.proofs.store2_32.Goals as goal

pub returns : goal.returns
returns c =
    let h : c.args.low < 256 ^ 4 = omega arith in
    c.bytes8.ensures ∙ ap (bytes 8) c.join32.ensures ∙ bytes-join 4 4 c.args.low c.args.high h
