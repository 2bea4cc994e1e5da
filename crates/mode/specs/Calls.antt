-- When two ciphers are the same for a list of calls.
use Rattle.std.specs.Prelude.{◌≡◌, List, [], ◌∷◌, ℕ}
use Rattle.cipher.specs.Cipher.{Cipher}
use Rattle.mode.specs.Mode.{CipherCall, enciphered}

-- they give the same for each
pub data Agree (κ κ' : Cipher) : List CipherCall → Type 0 where
  none : Agree κ κ' []
  more : {q : CipherCall} {qs : List CipherCall} → enciphered κ q ≡ enciphered κ' q → Agree κ κ' qs → Agree κ κ' (q ∷ qs)

-- κ with another map instead of E
abbrev pub other : Cipher → (List ℕ → List ℕ → List ℕ) → Cipher
other κ E' = record { size = κ.size; E = E'; version = κ.version }
