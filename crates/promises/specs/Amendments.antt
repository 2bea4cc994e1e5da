-- Document 02, W11: amendments.
use Rattle.shift_amend.specs.Promised.{InOrder, AmendmentWins, MissingExactly, PartOfHolder, NoRows}

pub record Amendments : Type 0 where
  -- the amendment's refusal comes first, then the day's, whatever the amendment has
  pub order : InOrder
  -- the amendment's entry is the current one if it has the job, else the day's
  pub wins : AmendmentWins
  -- 32, file 0 and row 0, exactly if neither has the job
  pub missing : MissingExactly
  -- the part is what the one-file call gives on the file that holds the entry; on a refusal the amendment's first zero bytes
  pub part : PartOfHolder
  -- with an amendment of no rows it is the one-file lookup
  pub empty : NoRows
