-- Both engines give the same block for every key and block (document 02, W1).
use Rattle.std.specs.Prelude.{◌≡◌}
use contract.Lifetimes.{Lfts}
use borrow.Fn.Kinds.{Out, Dens}
use Rattle.block.specs.Outcome.{Outcome}
use Rattle.aes_plain.proofs.encrypt.Kinds as plain-kinds
use Rattle.aes_plain.proofs.encrypt.Reads as plain-reads

-- for any key and block: `aes_plain::encrypt` and a function of the same signature with the contract Post give the same block
abbrev pub SameBlock : Out 0 plain-kinds.ps plain-kinds.r → Type 0
SameBlock Post =
    (κs : Lfts 0) (a : Dens κs plain-kinds.ps)
    → (x : Outcome plain-kinds.ps plain-kinds.r plain-reads.Post κs a) (y : Outcome plain-kinds.ps plain-kinds.r Post κs a)
    → x.result ≡ y.result
