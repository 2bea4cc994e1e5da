-- Document 02, W5: the nonce check.
use Rattle.shift_jobs.specs.Nonces.{NoncesOnce, UnreadByte}

pub record NonceCheck : Type 0 where
  -- on a file or draft that passes, no two rows of one suite and one key number are opened under the same nonce
  pub once : NoncesOnce
  -- 34's test is that the 16th byte of a 15-byte nonce is not 0
  pub unread : UnreadByte
