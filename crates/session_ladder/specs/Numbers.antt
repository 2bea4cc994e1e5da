-- The number of each call of a session, from the suite, the totals and the lengths (document 02, W2).
use Rattle.std.specs.Prelude.{ℕ, ◌+◌, ◌-◌, ◌≤◌, Bool, cond, not, ◌&&◌, leb, ltb, eqb, Ok, Err}
use Rattle.std.specs.declared.result.Result.{Result}
use Rattle.cipher.specs.Cipher.{IsSuite, seals, size_of, limit}
use Rattle.status.specs.Verdicts.{under_key}
use Rattle.status.specs.Verdicts as verdicts
use Rattle.session_ladder.specs.declared.SessionError.{SessionError}
use Rattle.session_ladder.specs.declared.SessionError.TheVariants.{Record, Over}

-- the number of each refusal
abbrev pub error_number : SessionError → ℕ
error_number (Record e) = verdicts.error_number e
error_number Over = 9

-- the number of each outcome
abbrev pub number_of : {A : Type 0} → Result A SessionError → ℕ
number_of (Ok x) = 0
number_of (Err e) = error_number e

-- a session in progress, by its suite and its totals: a suite that seals, and totals within the limit. No run of ours gives any other value
abbrev pub sound : ℕ → ℕ → ℕ → Bool
sound suite ad-total text-total = seals suite && (leb ad-total limit && leb text-total limit)

-- what a session in progress fulfils, as facts that the proofs use
pub record Sound (suite ad-total text-total : ℕ) : Type 0 where
  pub known : IsSuite suite
  pub data-most : ad-total ≤ limit
  pub text-most : text-total ≤ limit

-- ---- start

-- 1, 10, 2, 3, from the suite and the lengths of key and nonce
unfoldable pub start_number : ℕ → ℕ → ℕ → ℕ
start_number suite key nonce = under_key (seals suite) suite key nonce 0

-- ---- associated data

-- 9 (not in progress, or the message has begun), 4, for a part of l bytes
unfoldable pub data_number : ℕ → ℕ → ℕ → ℕ → ℕ
data_number suite ad-total text-total l = cond (not (sound suite ad-total text-total && eqb text-total 0)) 9 (cond (ltb (limit - ad-total) l) 4 0)

-- ---- message

-- 9 (not in progress), 5, 6, for a part of l bytes and an output of o bytes
unfoldable pub text_number : ℕ → ℕ → ℕ → ℕ → ℕ → ℕ
text_number suite ad-total text-total l o =
    cond (not (sound suite ad-total text-total)) 9 (cond (ltb (limit - text-total) l) 5 (cond (ltb o (l + (size_of suite - 1))) 6 0))

-- ---- end

-- 9 (not in progress), 6, 7, for an output of o bytes and a tag buffer of t bytes
unfoldable pub end_number : ℕ → ℕ → ℕ → ℕ → ℕ → ℕ
end_number suite ad-total text-total o t = cond (not (sound suite ad-total text-total)) 9 (cond (ltb o (size_of suite)) 6 (cond (not (eqb t (size_of suite))) 7 0))
