-- What `shift_amended` returns: the current entry's associated data as an offset into the file that holds it, since C has no slices (document 02, W11).
use Rattle.std.specs.Prelude.{ℕ, List}
use Rattle.shift_amend.specs.Amending.{amended_entry}

-- number, file and row, and where in that file the associated data starts and how long it is
pub record Placed : Type 0 where
  pub number : ℕ
  pub file : ℕ
  pub row : ℕ
  pub at : ℕ
  pub len : ℕ

-- the part that `current` returns; on a refusal 0 and 0, the amendment's first zero bytes
abbrev pub placing : List ℕ → List ℕ → ℕ → Placed
placing a d job =
    let x = amended_entry a d job in record { number = x.entry.number; file = x.file; row = x.entry.row; at = x.entry.ad_at; len = x.entry.ad_len }
