-- `aes_plain::round`: the code calls SubBytes with ShiftRows, then MixColumns except in the last round, then AddRoundKey. Each
-- callee ensures its step on the state's bytes, so the composition is FIPS 197's round.
use Rattle.aes_plain.proofs.round.Goals as goal

pub returns-then-mixing : goal.returns-then-mixing
returns-then-mixing g c = rw c.if-mixing.true (cc)

pub returns : goal.returns
returns g c = rw c.if-mixing.false (cc)
