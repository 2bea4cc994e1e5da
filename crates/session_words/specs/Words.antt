-- A session as nine words of 64 bits, which C holds and passes by pointer: the suite; Y, Z and the held bytes in two words
-- each, low bytes first; the two totals.
use Rattle.std.specs.Prelude.{◌≡◌, ℕ, ◌^◌, ◌<◌, List, [], ◌∷◌, ◌++◌, length, get_or, take, drop}
use Rattle.block.specs.Bytes.{value, bytes}
use Rattle.session.specs.Value.{Value, Given, gave}

-- the value that nine words stand for
abbrev pub of_words : List ℕ → Value
of_words w =
    record {
      suite = get_or w 0 0;
      Y = bytes 8 (get_or w 1 0) ++ bytes 8 (get_or w 2 0);
      Z = bytes 8 (get_or w 3 0) ++ bytes 8 (get_or w 4 0);
      held = bytes 8 (get_or w 5 0) ++ bytes 8 (get_or w 6 0);
      ad_total = get_or w 7 0;
      text_total = get_or w 8 0;
    }

-- any nine words of 64 bits, which is all that is known of the C array
pub record Nine (w : List ℕ) : Type 0 where
  pub long : length w ≡ 9
  pub small : (i : ℕ) → get_or w i 0 < 2 ^ 64

-- the nine words of a value
abbrev pub words_of : Value → List ℕ
words_of v =
    v.suite
    ∷ value (take 8 v.Y)
    ∷ value (drop 8 v.Y)
    ∷ value (take 8 v.Z)
    ∷ value (drop 8 v.Z)
    ∷ value (take 8 v.held)
    ∷ value (drop 8 v.held)
    ∷ v.ad_total
    ∷ v.text_total
    ∷ []

-- what a call gives, and the words that it leaves
pub record InWords : Type 0 where
  pub given : Given
  pub words : List ℕ

-- number, count, words, output and tag as C has them after a call: the next session is the one that the words stand for
abbrev pub after : ℕ → ℕ → List ℕ → List ℕ → List ℕ → InWords
after number count words out tag = record { given = gave number count (of_words words) out tag; words = words }

-- what a definition gives: the words are the next session's own
abbrev pub in_words : Given → InWords
in_words g = record { given = g; words = words_of g.next }
