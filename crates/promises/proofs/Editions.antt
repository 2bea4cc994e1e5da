-- W10 by citation; a file and its moved file have equal rows, which is all that compare requires.
use mathlib.Core.Path.{◌≡◌, sym}
use mathlib.Core.List.{List}
use Prim.Native.Nat.{ℕ, ◌<◌}
use lib.ListN.{length}
use lib.Dec.{lit≤}
use Rattle.shift_format.specs.Format.{count_of, first_edition, newest}
use Rattle.shift_check.specs.Check.{check_file}
use Rattle.shift_check.proofs.Kept.{wider}
use Rattle.shift_compare.proofs.Promised.{equal_rows}
use Rattle.shift_editions.specs.Answers.{to_edition2_of, to_edition1_of}
use Rattle.shift_editions.specs.Promised.{RowKept}
use Rattle.shift_editions.proofs.Done.{up_goes, back_goes}
use Rattle.shift_editions.proofs.Promised.{there_and_back, back_and_there, up_passes, back_passes, back_short, length_told, up_rises, back_falls}
use Rattle.shift_editions.proofs.Reading.{up_keeps, back_keeps, up_reads, back_reads}
use Rattle.promises.specs.Editions.{Equal, UpEqual, BackEqual, Editions}

equal_of : (f g : List ℕ) → (check_file f).number ≡ 0 → (check_file g).number ≡ 0 → count_of f ≡ count_of g → ((i : ℕ) → i < count_of f → RowKept f g i) → Equal f g
equal_of f g p q c kept x y z =
    equal_rows f g x y z p q c
    (λ i l.
    let k = kept i l in (
      sym k.job,
      record {
        suite = sym k.suite;
        key = sym k.key;
        ad-len = sym k.ad-len;
        nonce = sym k.nonce;
        body = sym k.body;
        station = sym k.station;
      },
    ))

up_equal : UpEqual
unfolding to_edition2_of
up_equal f out₀ z =
    equal_of f (to_edition2_of f out₀).out (wider first_edition f (lit≤ tt) (lit≤ tt) (up_goes f (length out₀) z).passed)
    (wider newest _ (lit≤ tt) (lit≤ tt) (up_passes f out₀ z))
    (sym (up_rises f out₀ z).count) (up_keeps f out₀ z)

back_equal : BackEqual
unfolding to_edition1_of
back_equal f out₀ z =
    equal_of f (to_edition1_of f out₀).out (wider newest f (lit≤ tt) (lit≤ tt) (back_goes f (length out₀) z).0.passed)
    (wider first_edition _ (lit≤ tt) (lit≤ tt) (back_passes f out₀ z))
    (back_falls f out₀ z).count (back_keeps f out₀ z)

pub editions : Editions
editions = record {
  there_and_back = there_and_back;
  back_and_there = back_and_there;
  up_passes = up_passes;
  back_passes = back_passes;
  up_rises = up_rises;
  back_falls = back_falls;
  up_keeps = up_keeps;
  back_keeps = back_keeps;
  back_short = back_short;
  length_told = length_told;
  up_reads = up_reads;
  back_reads = back_reads;
  up_equal = up_equal;
  back_equal = back_equal;
}
