-- The starred values, computed by computation.
use mathlib.Core.Path.{refl}
use Rattle.block.specs.Words.{xor}
use Rattle.aes_spec.specs.Field.{xtime, multiples, ◌•◌, find, inverse}
use Rattle.aes_spec.specs.Sbox.{affine, sub_byte}
use Rattle.cipher.specs.Cipher.{facts_of, size_of, version_of}
use Rattle.mode.specs.Blocks.{chop_lengths, lengths}
use Rattle.mode.specs.Words.{double_by, pad}
use Rattle.mode.specs.Keys.{text_marks, marks}
use Rattle.block.specs.Bytes.{value}
use Rattle.shift_format.specs.Format.{row_size, row_start}
use Rattle.shift_check.specs.Search.{first_of}
use Rattle.shift_check.specs.Check.{body_start, end_answer, rows_from, head_number, check_between}
use Rattle.promises.specs.Values.{StarredValues}

pub starred_values : StarredValues
unfolding xor xtime multiples ◌•◌ find inverse affine sub_byte facts_of size_of version_of chop_lengths lengths
    double_by pad text_marks marks value row_size row_start first_of body_start end_answer rows_from head_number check_between
starred_values = refl
