-- W4: a writer for shift files. Each statement, with the definitions that it uses, is in `shift_draft/specs/Promised.antt`.
use Rattle.shift_draft.specs.Promised.{SealedBack, UnsealedBack, Sealing, Unsealing, SealerTakes, OpenerTakes, SealNumbers, UnsealNumbers, TextAltered}
use Rattle.shift_draft.specs.Promised.{DataAltered}

pub record Writer : Type 0 where
  -- if no entry has suite 4: sealing then unsealing a valid draft gives the draft; unsealing then sealing a genuine file gives the file
  pub sealed-back : SealedBack
  pub unsealed-back : UnsealedBack
  -- every outcome, and when it is given: the checks, 33, 10, 2, 6, 8, 0
  pub sealing : Sealing
  pub unsealing : Unsealing
  -- no other number is given
  pub sealer_takes : SealerTakes
  pub opener_takes : OpenerTakes
  pub seal-numbers : SealNumbers
  pub unseal-numbers : UnsealNumbers
  -- a genuine file, altered inside one block: 8 with that row, and an output of zeros
  pub text_altered : TextAltered
  pub data_altered : DataAltered
