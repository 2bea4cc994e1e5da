-- `aes_plain::rot_word` meets its contract: row 0 comes in at the top.
use Rattle.aes_plain.proofs.Column.{turned}
use Rattle.aes_plain.proofs.rot_word.Goals as goal

pub returns : goal.returns
returns c = turned c.args.column c.ranges.column.fits
