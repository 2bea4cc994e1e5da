-- The C functions by citation: each contract says what number and outputs equal. Of a session's words: a refusal leaves the
-- value, and words of 64 bits are read back from it.
use mathlib.Core.Path.{◌≡◌, refl, sym, ap, subst, ◌∙◌}
use Prim.Native.Nat.{ℕ, zero, suc, ◌<◌}
use native.Mathlib.Nat.{suc-ne-zero}
use mathlib.Core.List.{List, []}
use lib.ListN.{length, get_or, replicate}
use Rattle.cipher.specs.Cipher.{cipher_of}
use Rattle.session.specs.Value.{Value, Given, answered, gave, over, fresh, start_number, starting, data_number, data_in, data_part, text_number, text_done, text_part}
use Rattle.session.specs.Value.{end_number, end_done, ending}
use Rattle.session.specs.Calls.{Shut}
use Rattle.session.proofs.Parts.{done-number}
use Rattle.session.proofs.Whatever.{over_shut}
use Rattle.session.proofs.AnyValue.{data_shut, text_shut, end_shut}
use Rattle.shift_format.specs.Format.{first_edition, newest}
use Rattle.shift_check.proofs.Passed.{passes}
use Rattle.shift_reader.specs.Contents.{HeaderFields}
use Rattle.shift_reader.proofs.ByRow.{header-given, row-given, row-past}
use Rattle.snoekeldraf.specs.Fields.{InFields, in_fields}
use Rattle.session_words.specs.Words.{Nine, of_words, words_of, after, in_words}
use Rattle.session_words.proofs.Words.{kept, dead, dead_words}
use Rattle.snoekeldraf.proofs.Outcomes as one
use Rattle.promises.specs.CInterface.{CInterface, CRoutines, CRows, CSessions}

pub c_interface : CInterface
c_interface = record {
  comet_seal = record { asks_nothing = λ κs a. tt; one-outcome = one.comet_seal };
  comet_open = record { asks_nothing = λ κs a. tt; one-outcome = one.comet_open };
  comet_seal_in_place = record { asks_nothing = λ κs a. tt; one-outcome = one.comet_seal_in_place };
  comet_open_in_place = record { asks_nothing = λ κs a. tt; one-outcome = one.comet_open_in_place };
  comet_verify = record { asks_nothing = λ κs a. tt; one-outcome = one.comet_verify };
  comet_seal_counted = record { asks_nothing = λ κs a. tt; one-outcome = one.comet_seal_counted };
  comet_open_counted = record { asks_nothing = λ κs a. tt; one-outcome = one.comet_open_counted };
  comet_session_start = record { asks_nothing = λ κs a. tt; one-outcome = one.comet_session_start };
  comet_session_data = record { asks_nothing = λ κs a. tt; one-outcome = one.comet_session_data };
  comet_session_part = record { asks_nothing = λ κs a. tt; one-outcome = one.comet_session_part };
  comet_session_end = record { asks_nothing = λ κs a. tt; one-outcome = one.comet_session_end };
  comet_session_wipe = record { asks_nothing = λ κs a. tt; one-outcome = one.comet_session_wipe };
  shift_check = record { asks_nothing = λ κs a. tt; one-outcome = one.shift_check };
  shift_lookup = record { asks_nothing = λ κs a. tt; one-outcome = one.shift_lookup };
  shift_associated = record { asks_nothing = λ κs a. tt; one-outcome = one.shift_associated };
  shift_entry = record { asks_nothing = λ κs a. tt; one-outcome = one.shift_entry };
  shift_open_job = record { asks_nothing = λ κs a. tt; one-outcome = one.shift_open_job };
  shift_verified = record { asks_nothing = λ κs a. tt; one-outcome = one.shift_verified };
  shift_search = record { asks_nothing = λ κs a. tt; one-outcome = one.shift_search };
  shift_seal_file = record { asks_nothing = λ κs a. tt; one-outcome = one.shift_seal_file };
  shift_unseal_file = record { asks_nothing = λ κs a. tt; one-outcome = one.shift_unseal_file };
  shift_reseal = record { asks_nothing = λ κs a. tt; one-outcome = one.shift_reseal };
  shift_amended = record { asks_nothing = λ κs a. tt; one-outcome = one.shift_amended };
  shift_open_amended = record { asks_nothing = λ κs a. tt; one-outcome = one.shift_open_amended };
  shift_moved_length = record { asks_nothing = λ κs a. tt; one-outcome = one.shift_moved_length };
  shift_to_edition2 = record { asks_nothing = λ κs a. tt; one-outcome = one.shift_to_edition2 };
  shift_to_edition1 = record { asks_nothing = λ κs a. tt; one-outcome = one.shift_to_edition1 };
  shift_compare = record { asks_nothing = λ κs a. tt; one-outcome = one.shift_compare };
  shift_report = record { asks_nothing = λ κs a. tt; one-outcome = one.shift_report };
  shift_rows = record { asks_nothing = λ κs a. tt; one-outcome = one.shift_rows };
  shift_row = record { asks_nothing = λ κs a. tt; one-outcome = one.shift_row };
}

pub c_routines : CRoutines
c_routines = record {
  comet_seal = λ κs suite key nonce ad msg out tag x. x.ensures;
  comet_open = λ κs suite key nonce ad text tag out x. x.ensures;
  comet_seal_in_place = λ κs suite key nonce ad text tag x. x.ensures;
  comet_open_in_place = λ κs suite key nonce ad text tag x. x.ensures;
  comet_verify = λ κs suite key nonce ad text tag x. x.ensures;
  comet_seal_counted = λ κs suite key nonce ad msg out tag calls x. x.ensures;
  comet_open_counted = λ κs suite key nonce ad text tag out calls x. x.ensures;
  comet_session_start = λ κs state suite key nonce x. x.ensures;
  comet_session_data = λ κs state part x. x.ensures;
  comet_session_part = λ κs state part out count x. x.ensures;
  comet_session_end = λ κs state out tag count x. x.ensures;
  comet_session_wipe = λ κs state x. x.ensures;
  shift_check = λ κs file row x. x.ensures;
  shift_lookup = λ κs file job row x. x.ensures;
  shift_associated = λ κs file job at len x. x.ensures;
  shift_entry = λ κs file job row ad-at ad-len text_at text-len x. x.ensures;
  shift_open_job = λ κs file ring job out row x. x.ensures;
  shift_verified = λ κs file ring job row at len x. x.ensures;
  shift_search = λ κs file job row looked x. x.ensures;
  shift_seal_file = λ κs draft ring out row x. x.ensures;
  shift_unseal_file = λ κs file ring out row x. x.ensures;
  shift_reseal = λ κs file ring out row x. x.ensures;
  shift_amended = λ κs amendment day job file row at len x. x.ensures;
  shift_open_amended = λ κs amendment day ring job out file row x. x.ensures;
  shift_moved_length = λ κs file x. x.ensures;
  shift_to_edition2 = λ κs file out row x. x.ensures;
  shift_to_edition1 = λ κs file out row x. x.ensures;
  shift_compare = λ κs f g first second differ n-first n-second n-differ file row x. x.ensures;
  shift_report = λ κs file ring jobs numbers count row x. x.ensures;
  shift_rows = λ κs file edition count x. x.ensures;
  shift_row = λ κs file row fields x. x.ensures;
}

-- ---- a file's rows

pub c_rows : CRows
c_rows = record {
  counted = λ κs file edition count x z.
      let e = x.ensures ∙ header-given file.now z in
      (ap (λ (h : HeaderFields). h.status) e, ap (λ (h : HeaderFields). h.edition) e, ap (λ (h : HeaderFields). h.count) e);
  given = λ κs file i fields x z l.
      let e = x.ensures ∙ ap in_fields (row-given file.now i z l) in
      (ap (λ (w : InFields). w.status) e, ap (λ (w : InFields). w.fields) e);
  past = λ κs file i fields x z h.
      let e = x.ensures ∙ ap in_fields (row-past file.now i (passes first_edition newest file.now z).zero h) in
      (ap (λ (w : InFields). w.status) e, ap (λ (w : InFields). w.fields) e);
}

-- ---- a session's words

-- a suite over 255 is answered by 9
no_suite : (w : List ℕ) → 255 < get_or w 0 0 → Shut (of_words w)
no_suite w h = (
  λ p. sym (ap (λ (g : Given). g.number) (data_shut (of_words w) p h)),
  λ p out. sym (ap (λ (g : Given). g.number) (text_shut (of_words w) p out h)),
  λ out tag. sym (ap (λ (g : Given). g.number) (end_shut (of_words w) out tag h)),
)

-- a refusal leaves the session that came
refused_words : (k : ℕ) (done : Given) (w out tag : List ℕ) → Nine w → done.number ≡ 0 →
    let g : Given = answered k done (of_words w) out tag in (g.number ≡ 0 → ⊥) → in_words g ≡ after g.number 0 w out tag
refused_words zero done w out tag n z h = absurd (h z)
refused_words (suc k) done w out tag n z h = ap (λ (l : List ℕ). record { given = gave (suc k) 0 (of_words w) out tag; words = l }) (kept w n)

data_refused : (w p : List ℕ) → Nine w → ((data_part (of_words w) p).number ≡ 0 → ⊥)
    → in_words (data_part (of_words w) p) ≡ after (data_part (of_words w) p).number 0 w [] []
unfolding data_part
data_refused w p n h =
    let v = of_words w in
    refused_words (data_number v.suite v.ad_total v.text_total (length p)) (gave 0 0 (data_in (cipher_of v.suite) v p) [] []) w [] [] n refl h

part-refused : (w p out : List ℕ) → Nine w → ((text_part (of_words w) p out).number ≡ 0 → ⊥)
    → in_words (text_part (of_words w) p out) ≡ after (text_part (of_words w) p out).number 0 w out []
unfolding text_part
part-refused w p out n h =
    let v = of_words w in
    refused_words (text_number v.suite v.ad_total v.text_total (length p) (length out)) (text_done v p out) w out [] n (done-number v p out) h

end_refused : (w out tag : List ℕ) → Nine w → ((ending (of_words w) out tag).number ≡ 0 → ⊥)
    → in_words (ending (of_words w) out tag) ≡ after (ending (of_words w) out tag).number 0 w out tag
unfolding ending
end_refused w out tag n h =
    let v = of_words w in
    refused_words (end_number v.suite v.ad_total v.text_total (length out) (length tag)) (end_done v out) w out tag n refl h

-- a refused start and an accepted end give the session that is over
start-over : (k : ℕ) (done : Given) → done.number ≡ 0 → ((answered k done over [] []).number ≡ 0 → ⊥) → (answered k done over [] []).next ≡ over
start-over zero done z h = absurd (h z)
start-over (suc k) done z h = refl

end-over : (k : ℕ) (v : Value) (o t out tag : List ℕ) (n : ℕ) → (answered k (gave 0 n over o t) v out tag).number ≡ 0
    → (answered k (gave 0 n over o t) v out tag).next ≡ over
end-over zero v o t out tag n e = refl
end-over (suc k) v o t out tag n e = absurd (suc-ne-zero k e)

start-refused : (suite : ℕ) (key nonce : List ℕ) → ((starting suite key nonce).number ≡ 0 → ⊥) → (in_words (starting suite key nonce)).words ≡ replicate 9 0
unfolding starting
start-refused suite key nonce h =
    ap words_of (start-over (start_number suite (length key) (length nonce)) (gave 0 0 (fresh suite key nonce) [] []) refl h) ∙ dead_words

ended : (w out tag : List ℕ) → (ending (of_words w) out tag).number ≡ 0 → (in_words (ending (of_words w) out tag)).words ≡ replicate 9 0
unfolding ending
ended w out tag e =
    let v = of_words w in
    ap words_of (end-over (end_number v.suite v.ad_total v.text_total (length out) (length tag)) v _ _ out tag _ e) ∙ dead_words

pub c_sessions : CSessions
c_sessions =
    record {
      own = kept;
      dead = subst Shut (sym dead) over_shut;
      no_suite = no_suite;
      start-refused = start-refused;
      ended = ended;
      data_refused = data_refused;
      part-refused = part-refused;
      end_refused = end_refused;
    }
