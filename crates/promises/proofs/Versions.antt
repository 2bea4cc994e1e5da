-- W9: version 1 by citation, version 2 by computation.
use mathlib.Core.Path.{refl}
use lib.Dec.{lit<}
use Rattle.block.specs.Words.{xor}
use Rattle.block.specs.Bytes.{value, bytes}
use Rattle.aes_spec.specs.Cipher.{cipher}
use Rattle.cham_spec.specs.Cham.{cham}
use Rattle.speck.specs.Speck.{speck}
use Rattle.cipher.specs.Cipher.{facts_of, size_of, engine_of, version_of}
use Rattle.mode.specs.Blocks.{chop_lengths, lengths}
use Rattle.mode.specs.Words.{double_by}
use Rattle.mode.specs.Keys.{text_marks, late, marks, on_low}
use Rattle.mode.proofs.VersionOne.{kept-bytes}
use Rattle.promises.specs.Versions.{VersionOne, VersionTwo, ValuesTwo}

pub version_one-kept : VersionOne
unfolding facts_of size_of engine_of version_of
version_one-kept = record {
  suite1 = kept-bytes 16 cipher (lit< tt);
  suite2 = kept-bytes 16 (cham 32) (lit< tt);
  suite3 = kept-bytes 8 speck (lit< tt);
  suite4 = kept-bytes 8 (cham 16) (lit< tt);
}

pub version_two-facts : VersionTwo
unfolding facts_of
version_two-facts = record { five = refl; six = refl }

pub values_two : ValuesTwo
unfolding xor value bytes chop_lengths lengths double_by text_marks late marks on_low
values_two = refl
