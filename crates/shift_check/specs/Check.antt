-- The full check (document 01, "The shift file", numbers 20 to 31; document 02, W5: 29 and 34, W10: the editions). Rows are w bytes long.
use Rattle.std.specs.Prelude.{ℕ, ◌-◌, List, Bool, ◌||◌, ◌&&◌, not, cond, length, ltb, leb, eqb}
use Rattle.block.specs.Bytes.{same_bytes}
use Rattle.block.specs.Blocks.{filled}
use Rattle.cipher.specs.Cipher.{is_suite, limit}
use Rattle.shift_format.specs.declared.row.Row.{Row}
use Rattle.status.specs.declared.checked.Answer.{Answer}
use Rattle.shift_check.specs.Search.{any_below, first_of}
use Rattle.shift_format.specs.Format.{edition_of, count_of, total_of, first_edition, newest, row_size_of, row_start, row_at, nonce_at, nonce_read_at, body_end, data_job}
use Rattle.shift_format.specs.Format.{unit_of, is_unit}
use Rattle.status.specs.Answers.{answer}

-- 25: job number not above the row before (row 0: any)
unfoldable pub not_above : ℕ → List ℕ → ℕ → Bool
not_above w f i = not (eqb i 0) && leb (row_at w f i).job (row_at w f (i - 1)).job

-- x is outside low to high
abbrev pub outside : ℕ → ℕ → ℕ → Bool
outside low high x = ltb x low || ltb high x

-- 26: no such suite, or key number over 15
unfoldable pub bad_suite : Row → Bool
bad_suite r = not (is_suite r.suite) || ltb 15 r.key

-- 27: associated data length outside 5 to 1,024, or message over the limit of 65,536
unfoldable pub bad_length : Row → Bool
bad_length r = outside 5 1024 r.ad_len || ltb limit r.text_len

-- the offset at which the body of row i of n has to start: after the table (row 0), or at the previous body's end
unfoldable pub body_start : ℕ → List ℕ → ℕ → ℕ → ℕ
body_start w f n i = cond (eqb i 0) (row_start w n) (body_end (row_at w f (i - 1)))

-- 28: the offset is not that one, or the body ends past the file
unfoldable pub misplaced : ℕ → List ℕ → ℕ → ℕ → Bool
misplaced w f n i = not (eqb (row_at w f i).ad_at (body_start w f n i)) || ltb (length f) (body_end (row_at w f i))

-- 34: a nonce byte that the suite does not read is not 0: the nonce is not the bytes that are read, padded with zeros
unfoldable pub unread_set : ℕ → List ℕ → ℕ → Bool
unread_set w f i = not (same_bytes (nonce_at w f i) (filled (nonce_read_at w f i)))

-- two rows clash: suite, key number and the nonce bytes that the suite reads are all equal
unfoldable pub clash : ℕ → List ℕ → ℕ → ℕ → Bool
clash w f i j =
    eqb (row_at w f i).suite (row_at w f j).suite
    && (eqb (row_at w f i).key (row_at w f j).key && same_bytes (nonce_read_at w f i) (nonce_read_at w f j))

-- 29: the row clashes with an earlier one
unfoldable pub nonce_seen : ℕ → List ℕ → ℕ → Bool
nonce_seen w f i = any_below (clash w f i) i

-- 30: associated data has another job number, or unit not 1 or 2
unfoldable pub bad_data : List ℕ → Row → Bool
bad_data f r = not (eqb (data_job f r) r.job) || not (is_unit (unit_of f r))

-- the first of 28, 34, 29, 30 that applies to row i of n, else 0
unfoldable pub body_number : ℕ → List ℕ → ℕ → ℕ → ℕ
body_number w f n i =
    cond (misplaced w f n i) 28
    (cond (unread_set w f i) 34
    (cond (nonce_seen w f i) 29
    (cond (bad_data f (row_at w f i)) 30
    0)))

-- the first of 25, 26, 27, 28, 34, 29, 30 that applies to row i of n, else 0
unfoldable pub row_number : ℕ → List ℕ → ℕ → ℕ → ℕ
row_number w f n i =
    cond (not_above w f i) 25
    (cond (bad_suite (row_at w f i)) 26
    (cond (bad_length (row_at w f i)) 27
    (body_number w f n i)))

-- 31: the end of the last body (8 if n = 0) is not the file's end
unfoldable pub end_answer : ℕ → List ℕ → ℕ → Answer
end_answer w f n = cond (eqb (body_start w f n n) (length f)) (answer 0 0) (answer 31 0)

-- the rows of n from row i on: the first that has a fault, with its number; then 31
unfoldable pub rows_from : ℕ → List ℕ → ℕ → ℕ → Answer
rows_from w f n i =
    first_of (λ j. not (eqb (row_number w f n j) 0)) (λ j. answer (row_number w f n j) j) (end_answer w f n) i (n - i)

-- the first of 20 to 24 that applies, else 0; the editions from low to high are accepted
unfoldable pub head_number : ℕ → ℕ → List ℕ → ℕ
head_number low high f =
    cond (ltb (length f) 8 || ltb 1048576 (length f)) 20
    (cond (outside low high (edition_of f)) 21
    (cond (ltb 512 (count_of f)) 22
    (cond (not (eqb (total_of f) (length f))) 23
    (cond (ltb (length f) (row_start (row_size_of f) (count_of f))) 24
    0))))

-- the next answer after number 0; any other number is final
abbrev pub and_then : Answer → Answer → Answer
and_then x next = cond (eqb x.number 0) next x

-- 20 to 24 first, then each row from row 0 with its numbers in order, then 31
unfoldable pub check_between : ℕ → ℕ → List ℕ → Answer
check_between low high f = and_then (answer (head_number low high f) 0) (rows_from (row_size_of f) f (count_of f) 0)

-- the full check that accepts one edition
abbrev pub check_as : ℕ → List ℕ → Answer
check_as e f = check_between e e f

-- the full check of a shift file, of edition 1 or 2
abbrev pub check_file : List ℕ → Answer
check_file f = check_between first_edition newest f

-- whether the check refuses the file: its number is not 0
abbrev pub refused : List ℕ → Bool
refused f = not (eqb (check_file f).number 0)
