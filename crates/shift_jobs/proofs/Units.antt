-- The unit of an entry with an empty message cannot be altered: the check still passes if the new byte is a unit, and then the tag is another (demand 3).
use Prim.Native.Nat.{ℕ, ◌+◌, ◌≤◌, ◌<◌}
use native.Mathlib.Omega.{arith}
use mathlib.Core.Path.{◌≡◌, refl, sym, ap, ◌∙◌}
use mathlib.Core.Bool.{Bool, true, false, not, cond}
use mathlib.Core.List.{List, []}
use mathlib.Core.Logic.{⊎_elim}
use lib.ListN.{length, get_or, set}
use lib.Seq.{get_or-set_same, get_or-set_other}
use lib.Dec.{eqb}
use borrow.Author.Tests.{eq-eqb, eqb-true}
use Rattle.block.specs.Bytes.{AllBytes}
use Rattle.block.proofs.Lists.{all_set}
use Rattle.cipher.specs.Cipher.{size_of}
use Rattle.cipher.proofs.Suites.{sizes_two}
use Rattle.comet.specs.Answers.{Opened, opened_as}
use Rattle.comet.proofs.Left.{tag_right}
use Rattle.shift_format.specs.declared.row.Row.{Row}
use Rattle.status.specs.declared.checked.Answer.{Answer}
use Rattle.shift_format.specs.Format.{edition_of, count_of, first_edition, newest, row_size, row_size_of, row_at, nonce_at, row_of, data_of, tag_of, body_end, unit_of}
use Rattle.shift_format.specs.Format.{is_unit}
use Rattle.status.specs.Answers.{answer}
use Rattle.shift_check.specs.Check.{check_file}
use Rattle.shift_format.specs.Inside.{EntryIn}
use Rattle.shift_check.proofs.Passed.{Passes}
use Rattle.shift_format.proofs.Rows.{row_broad}
use Rattle.shift_check.proofs.Alike.{AgreeTable, stretch-same, row_same, nonce-same, count_same}
use Rattle.shift_check.proofs.Kept.{body-table, body-edition}
use Rattle.shift_check.proofs.Units.{unit-long, unit-outside, unit-check}
use Rattle.shift_lookup.specs.Lookup.{lookup_job}
use Rattle.shift_jobs.specs.Opening.{JobOpened, left, row_opening, job_opening, entry_opening}
use Rattle.shift_jobs.specs.Promised.{UnitRefused}
use Rattle.shift_lookup.proofs.Lookups.{holding, found_in}
use Rattle.shift_lookup.proofs.Finding.{finds}
use Rattle.shift_jobs.proofs.Entries.{entry_right, entry_text, entry-opened}
use Rattle.shift_jobs.proofs.Changed.{stretch_at, data-wrong}
use Rattle.shift_jobs.proofs.Jobs.{opens}

module _ (f ring : List ℕ) (job i v : ℕ) (found : lookup_job f job ≡ answer 0 i) where
  -- the file with v for the unit of the entry that was found
  abbrev pub other_unit : List ℕ
  other_unit = set f ((row_of f i).ad_at + 4) v

  within : i < count_of f
  within = (holding f job i found).within

  passed : Passes first_edition newest f
  passed = (holding f job i found).file

  same-long : length other_unit ≡ length f
  same-long = unit-long first_edition newest f passed i v within

  same-table : AgreeTable other_unit f same-long (row_size_of f) (count_of f)
  same-table = body-table f other_unit same-long first_edition newest passed i within (unit-outside first_edition newest f passed i v within)

  same-row-size : row_size_of other_unit ≡ row_size_of f
  same-row-size = ap row_size (body-edition f other_unit same-long first_edition newest passed i within (unit-outside first_edition newest f passed i v within))

  row_is : row_of other_unit i ≡ row_of f i
  row_is =
      ap (λ (w : ℕ). row_at w other_unit i) same-row-size ∙ row_same other_unit f same-long (row_size_of f) (count_of f) (row_broad (edition_of f)) same-table i within

  nonce-is : nonce_at (row_size_of other_unit) other_unit i ≡ nonce_at (row_size_of f) f i
  nonce-is =
      ap (λ (w : ℕ). nonce_at w other_unit i) same-row-size ∙ nonce-same other_unit f same-long (row_size_of f) (count_of f)
      (row_broad (edition_of f)) same-table i within

  -- the check passes where the new byte is a unit, and else refuses the row with 30
  check-is : (b : Bool) → is_unit v ≡ b → check_file other_unit ≡ cond (not b) (answer 30 i) (answer 0 0)
  check-is b e = rw e at (unit-check first_edition newest f passed i v within)

  lookup-is : (b : Bool) → is_unit v ≡ b → lookup_job other_unit job ≡ cond b (answer 0 i) (answer 30 i)
  unfolding lookup_job
  lookup-is true e =
      ((finds other_unit job (ap (λ (x : Answer). x.number) (check-is true e))).found i).1
      (record {
        within = rw (count_same other_unit f same-long (row_size_of f) (count_of f) (row_broad (edition_of f)) same-table) within;
        right = ap (λ (r : Row). r.job) row_is ∙ (holding f job i found).right;
      })
  lookup-is false e = simp (check-is false e)

  -- the tag's bytes lie after the unit
  tag_is : tag_of other_unit (row_of f i) ≡ tag_of f (row_of f i)
  tag_is =
      let r = row_of f i in
      let a = (passed.walk.rows i within).size.ad-low in
      stretch-same other_unit f same-long (r.ad_at + r.ad_len + r.text_len) (size_of r.suite)
      (λ k l m. get_or-set_other f (r.ad_at + 4) k v 0 (λ q. omega arith))

  module _ (hf : AllBytes f) (hr : AllBytes ring) (hv : v < 256) (other : unit_of f (row_of f i) ≡ v → ⊥) (g : length ring ≡ 256)
      (empty : (row_of f i).text_len ≡ 0) where
    data-differs : data_of f (row_of f i) ≡ data_of other_unit (row_of f i) → ⊥
    unfolding body_end
    data-differs q =
        let r = row_of f i in
        let s = passed.walk.rows i within in
        let l : 4 < r.ad_len = omega (arith, s.size.ad-low) in
        other (sym (stretch_at f r.ad_at r.ad_len 4 l) ∙ ap (λ (x : List ℕ). get_or x 4 0) q ∙ stretch_at other_unit r.ad_at r.ad_len 4 l
        ∙ get_or-set_same f (r.ad_at + 4) v 0 (omega (arith, s.place.ends)))

    -- the unit lies in the first block
    other-wrong : entry_right f ring i ≡ true → entry_right other_unit ring i ≡ false
    other-wrong e =
        let r = row_of f i in
        let big : 8 ≤ size_of r.suite = ⊎_elim (λ q. omega arith) (λ q. omega arith) (sizes_two r.suite) in
        data-wrong f other_unit ring i (found_in f job i found) g hf (all_set f (r.ad_at + 4) v hf hv) hr same-long row_is nonce-is tag_is e 0 empty
        data-differs
        (λ k o. get_or-set_other f (r.ad_at + 4) k v 0 (λ q. ⊎_elim (λ a. omega arith) (λ a. omega arith) o))

    -- the opener's answer, where the output has no byte
    opened-is : (x : List ℕ) → (row_of x i).text_len ≡ 0 → EntryIn (row_size_of x) x i
        → entry_opening x ring i [] ≡ opened_as 0 (entry_right x ring i) (entry_text x ring i) []
    opened-is x z h = rw (eq-eqb _ _ (sym z)) at (entry-opened x ring i h g [])

  -- what the accepted opening says
  ring_long : (job_opening f ring job []).answer.number ≡ 0 → length ring ≡ 256
  unfolding job_opening row_opening
  ring_long z = ring-case (eqb (length ring) 256) refl (simp found at z)
    where
      rest : JobOpened
      rest =
          cond (not (eqb 0 (row_of f i).text_len)) (left (answer 6 0) []) (left (answer (entry_opening f ring i []).number 0) (entry_opening f ring i []).out)

      ring-case : (b : Bool) → eqb (length ring) 256 ≡ b → (cond (not b) (left (answer 2 0) []) rest).answer.number ≡ 0 → length ring ≡ 256
      ring-case true e z = eqb-true _ _ e
      ring-case false e z = absurd (omega arith)

pub unit_refused : UnitRefused
unfolding job_opening
unit_refused f ring job i v hf hr hv found empty other accepted = unit-case (is_unit v) refl
  where
    unit-case : (b : Bool) → is_unit v ≡ b → job_opening (set f ((row_of f i).ad_at + 4) v) ring job [] ≡ cond b (left (answer 8 0) []) (left (answer 30 i) [])
    unit-case true e =
        let x = set f ((row_of f i).ad_at + 4) v in
        let g = ring_long f ring job i v found accepted in
        let q = lookup-is f ring job i v found true e in
        let is = opened-is f ring job i v found hf hr hv other g empty in
        let handed : Opened → JobOpened = λ y. left (answer y.number 0) y.out in
        let right = tag_right (entry_right f ring i) (entry_text f ring i) []
        (sym (ap (λ (y : Opened). y.number) (is f empty (found_in f job i found)))
        ∙ sym (ap (λ (y : JobOpened). y.answer.number) (opens f ring job i [] found g)) ∙ accepted) in
        let wrong = other-wrong f ring job i v found hf hr hv other g empty right in
        opens x ring job i [] q g
        ∙ ap handed (is x (ap (λ (r : Row). r.text_len) (row_is f ring job i v found) ∙ empty) (found_in x job i q))
        ∙ ap (λ (b : Bool). handed (opened_as 0 b (entry_text x ring i) [])) wrong
    unit-case false e = simp (lookup-is f ring job i v found false e)
