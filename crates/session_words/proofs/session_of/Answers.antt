-- `session_words::session_of` meets its contract: the held bytes are the two words' bytes.
use mathlib.Core.Path.{ap}
use mathlib.Core.List.{List, ◌++◌}
use Prim.Native.Nat.{ℕ}
use lib.ListN.{get_or}
use Rattle.block.specs.Bytes.{bytes}
use Rattle.session_words.proofs.session_of.Goals as goal

pub returns : goal.returns
returns c =
    ap (λ (h : List ℕ). record {
      suite = get_or c.args.words 0 0;
      Y = bytes 8 (get_or c.args.words 1 0) ++ bytes 8 (get_or c.args.words 2 0);
      Z = bytes 8 (get_or c.args.words 3 0) ++ bytes 8 (get_or c.args.words 4 0);
      held = h;
      ad_total = get_or c.args.words 7 0;
      text_total = get_or c.args.words 8 0;
    }) c.bytes_of-held.ensures
