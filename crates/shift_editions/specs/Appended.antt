-- What writing from the front means: a part more is written, and what stood before it is kept.
use Rattle.std.specs.Prelude.{ℕ, ◌+◌, ◌≡◌, List, ◌++◌, length, take}
use Rattle.shift_editions.specs.declared.front.Front.{Front}

pub record Appended (old new : Front) (part : List ℕ) : Type 0 where
  -- the same output, and not another of the same bytes
  pub same_reference : new.out.ghost_name ≡ old.out.ghost_name
  pub at : new.at ≡ old.at + length part
  pub long : length new.out.now ≡ length old.out.now
  pub written : take new.at new.out.now ≡ take old.at old.out.now ++ part
