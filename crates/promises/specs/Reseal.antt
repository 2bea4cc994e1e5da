-- Document 02, W7: the reseal pass. Each statement, with the definitions that it uses, is in `shift_reseal/specs/Promised.antt`.
use Rattle.shift_reseal.specs.Promised.{Renewing, NothingRetired, ResealedTwice, ClashOfCheck, Resealing, ResealNumbers}

pub record Reseal : Type 0 where
  -- on 0 the output passes the check and has no suite 4 row, each resealed entry opens under suite 3 to what it opened to
  -- before, and every other byte is unchanged
  pub renewing : Renewing
  -- a file without suite 4 comes back byte for byte; resealing twice is resealing once
  pub nothing-retired : NothingRetired
  pub twice : ResealedTwice
  -- 29 is what the check itself says of the file with the new suites
  pub clash : ClashOfCheck
  -- every outcome, and when it is given: the checks, 29, 2, 6, 8, 0; no other number is given
  pub resealing : Resealing
  pub numbers : ResealNumbers
