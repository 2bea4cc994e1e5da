-- W7 (document 02): suite 4 is retired. It no longer seals, and opens as before. The writer's statuses are in
-- `shift_draft/specs/Promised.antt` (`SealCases`); demand 2 for it is in `Demand2.antt`.
use Rattle.std.specs.Prelude.{◌≡◌, ◌↔◌, List, [], ℕ}
use Rattle.cipher.specs.Cipher.{IsSuite, Seals}
use Rattle.comet.specs.Answers.{sealing, opening}
use Rattle.session.specs.Value.{over, gave, starting}

-- it exists, and it is the only suite that does not seal
abbrev pub OnlyFour : Type 0
OnlyFour = (suite : ℕ) → (IsSuite suite × (Seals suite → ⊥)) ↔ (suite ≡ 4)

-- the sealer answers 10 for it, whatever buffers it borrows, and writes nothing; and for no other
abbrev pub SealerRefuses : Type 0
SealerRefuses =
    ((key nonce ad msg out₀ tag₀ : List ℕ) → sealing 4 key nonce ad msg out₀ tag₀ ≡ record { number = 10; out = out₀; tag = tag₀ })
    × ((suite : ℕ) (key nonce ad msg out₀ tag₀ : List ℕ) → (sealing suite key nonce ad msg out₀ tag₀).number ≡ 10 → suite ≡ 4)

-- so does a session's start, and returns a session that is over
abbrev pub StartRefuses : Type 0
StartRefuses =
    ((key nonce : List ℕ) → starting 4 key nonce ≡ gave 10 0 over [] [])
    × ((suite : ℕ) (key nonce : List ℕ) → (starting suite key nonce).number ≡ 10 → suite ≡ 4)

-- the opener never answers 10
abbrev pub OpenerNever : Type 0
OpenerNever = (suite : ℕ) (key nonce ad text tag out₀ : List ℕ) → (opening suite key nonce ad text tag out₀).number ≡ 10 → ⊥

pub record Retired : Type 0 where
  pub only-four : OnlyFour
  pub sealer-refuses : SealerRefuses
  pub start-refuses : StartRefuses
  pub opener-never : OpenerNever
