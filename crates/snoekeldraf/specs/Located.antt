-- What `shift_associated` returns: the associated data as an offset into the file, since C has no slices (document 01, "The shift file").
use Rattle.std.specs.Prelude.{ℕ, List}
use Rattle.shift_lookup.specs.Lookup.{lookup_job}
use Rattle.shift_lookup.specs.Entry.{data_start, data_length}

-- the lookup's number, and where the associated data starts and how long it is
pub record Located : Type 0 where
  pub number : ℕ
  pub at : ℕ
  pub len : ℕ

-- the part that `associated` returns, the file's first zero bytes if the lookup refuses
abbrev pub locating : List ℕ → ℕ → Located
locating f job = record {
  number = (lookup_job f job).number;
  at = data_start f (lookup_job f job);
  len = data_length f (lookup_job f job);
}
