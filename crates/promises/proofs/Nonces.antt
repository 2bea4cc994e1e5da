-- W5 by citation.
use Rattle.shift_jobs.proofs.Nonces.{nonces_once, unread_byte}
use Rattle.promises.specs.Nonces.{NonceCheck}

pub nonce_check : NonceCheck
nonce_check = record { once = nonces_once; unread = unread_byte }
