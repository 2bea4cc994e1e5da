-- `session_words::words_of` meets its contract: each word is read back from its eight bytes.
use native.Mathlib.Omega.{arith}
use Rattle.session_words.proofs.Words.{Small, its-words, its-session}
use Rattle.session_words.proofs.words_of.Goals as goal

pub returns : goal.returns
returns c =
    let p : Small c.args.state c.block_of-buffered.result = record { ya = omega arith; yb = omega arith; za = omega arith; zb = omega arith; ha = omega arith; hb = omega arith } in
    record { words = its-words c.args.state c.block_of-buffered.result p c.block_of-buffered.ensures; session = its-session c.args.state c.block_of-buffered.result p c.block_of-buffered.ensures }
