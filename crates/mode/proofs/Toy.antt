-- The identity's tags and outputs, by computation.
use mathlib.Core.Path.{refl}
use mathlib.Core.Logic.{inr}
use Rattle.block.specs.Words.{xor}
use Rattle.block.specs.Bytes.{value, bytes}
use Rattle.cipher.specs.Cipher.{Lawful}
use Rattle.mode.specs.Blocks.{chop, blocks, chop_lengths, lengths}
use Rattle.mode.specs.Words.{double_by, shuffle, pad}
use Rattle.mode.specs.Keys.{text_marks, marks, marked, on_low, next_key, keys}
use Rattle.mode.specs.Mode.{start_y, start_z, start, absorbed, masked, message, trail, after_data, tag_out, calls}
use Rattle.mode.specs.Slips.{output_at}
use Rattle.mode.specs.Toy.{toy, Toy}

toy_lawful : Lawful toy
toy_lawful = record { sizes = inr refl; image = λ k b hk hb. hb; one-to-one = λ k b b' hk hb hb' e. e }

pub toy-holds : Toy
unfolding xor value bytes chop blocks chop_lengths lengths double_by shuffle pad text_marks marks marked
    on_low next_key keys start_y start_z start absorbed masked message trail after_data tag_out calls output_at
toy-holds =
    record {
      lawful = toy_lawful;
      data-complements = refl;
      data-slips = refl;
      short-complements = refl;
      short-before = refl;
      short-caught = refl;
      text-complements = refl;
      text-slips = refl;
      text-short-complements = refl;
      text-short-before = refl;
      text-short-caught = refl;
    }
