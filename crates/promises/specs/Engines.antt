-- Document 02, W1: a second engine of AES, by columns from four tables.
use contract.Lifetimes.{Lfts}
use borrow.Fn.Kinds.{Dens}
use Rattle.block.specs.Outcome.{Outcome}
use Rattle.aes_tables.specs.Tables.{IsTables}
use Rattle.aes_tables.specs.Engines.{SameBlock}
use Rattle.aes_tables.proofs.tables.Kinds as tables-kinds
use Rattle.aes_tables.proofs.tables.Reads as tables-reads
use Rattle.aes_tables.proofs.encrypt.Reads as columns-reads

-- "both give the same block for every key and block": the results of `aes_plain::encrypt` and `aes_tables::encrypt` are equal
abbrev pub BothEngines : Type 0
BothEngines = SameBlock columns-reads.Post

-- "the rule of the tables (S-box, then the column's multiples) is shown once over the whole table": for whatever `aes_tables::tables` may return
abbrev pub TablesRule : Type 0
TablesRule = (κs : Lfts 0) (a : Dens κs tables-kinds.ps) (x : Outcome tables-kinds.ps tables-kinds.r tables-reads.Post κs a) → IsTables x.result
