-- A plan's lines behind a board's line are read back as that board and the plan's slices. The one idea: a line has no line feed in it, so the board's
-- line stands for itself, and the lines behind it are the records that were written, each in its place. Assumes nothing.
--   BoardLine     a line that spells a board's record
--   board-line    the first line of a text that describes a set is one
--   bytes-length, form-size   a line has two digits for each byte, and a record the bytes of its form
--   board-digits  it has as many digits as the record's bytes ask
--   handed-back   such a line, ended by a line feed, and a plan's lines behind it, hand over the board and the plan's slices
use mathlib.Core.Bool.{Bool, true, false, cond, ◌&&◌}
use mathlib.Core.List.{List, [], ◌∷◌, ◌++◌, map}
use mathlib.Core.Path.{◌≡◌, refl, ap}
use Prim.Native.Nat.{ℕ, suc, ◌+◌, ◌*◌, ◌≤◌, ◌<◌}
use native.Mathlib.Omega.{arith}
use borrow.Author.Tests.{lt-ltb, le-ltb, le-leb, eq-eqb, eqb-true}
use lib.Dec.{eqb, ltb}
use lib.ListN.{length, get_or}
use Rattle.std.specs.Prelude.{Option, None, Some}
use Rattle.rows.specs.Lists.{All}
use Rattle.rows.proofs.Never.{never}
use Rattle.model.specs.Limits.{text_most}
use Rattle.model.specs.Refusal.{Answer, given, refused, and_then}
use Rattle.model.specs.Split.{Ticks}
use Rattle.model.specs.declared.Kind.{Kind}
use Rattle.model.specs.declared.Kind.TheVariants.{First, Second}
use Rattle.model.specs.declared.Board.{Board}
use Rattle.model.specs.declared.Job.{Job}
use Rattle.model.specs.declared.Slice.{Slice}
use Rattle.text.specs.Hex.{lines_of, joined, byte_of, at_front, pairs_of, nibble_of, bytes_of, digits_of}
use Rattle.text.specs.Output.{count_record, share_record, share_records, slice_record, plan_records, plan_text}
use Rattle.text.specs.Records.{Form, board_form, job_form, size_of, is_a, field, board_in}
use Rattle.text.proofs.RoundTrip.{IsRecord, lines-back, bytes_back, in_bytes-back}
use Rattle.reader.specs.Input.{Input, entry_job, job_in, entry_of as input_entry, record_says as input_says, bytes_say as input_bytes, as_board as input_board, jobs_from, input_from, input_of}
use Rattle.reader.specs.declared.Entry.{Entry as InputEntry}
use Rattle.reader.specs.declared.Entry.TheVariants.{OfBoard}
use Rattle.kernel.specs.Handed.{Entry, of-board, of-counts, of-share, of-slice, entry_of, form_says, Counts, slices_from, counts_from, handed_from, handed_of}
use Rattle.clampfern.specs.Listed.{line_at}

-- ---- a line has no line feed in it
abbrev Unfed : List ℕ → Type 0
Unfed line = All (λ (b : ℕ). eqb b 10 ≡ false) line

lines-unfed : (text : List ℕ) → All Unfed (lines_of text)
unfolding lines_of
lines-unfed [] = tt
lines-unfed (b ∷ bs) = go (eqb b 10) refl (lines-unfed bs)
  where
    into : (ls : List (List ℕ)) → eqb b 10 ≡ false → All Unfed ls → All Unfed (joined b ls)
    into [] e are = ((e, tt), tt)
    into (l ∷ ls) e are = ((e, are.0), are.1)

    go : (t : Bool) → eqb b 10 ≡ t → All Unfed (lines_of bs) → All Unfed (cond t ([] ∷ lines_of bs) (joined b (lines_of bs)))
    go true e are = (tt, are)
    go false e are = into (lines_of bs) e are

line_first : (line rest : List ℕ) → Unfed line → lines_of (line ++ (10 ∷ rest)) ≡ line ∷ lines_of rest
unfolding lines_of
line_first [] rest unfed = refl
line_first (b ∷ bs) rest unfed = rw (unfed.0, line_first bs rest unfed.1)

-- ---- the board's line of a text
pub record BoardLine (line : List ℕ) (board : Board) : Type 0 where
  pub unfed : Unfed line
  pub bytes : List ℕ
  pub spelled : bytes_of line ≡ Some bytes
  pub form : is_a board_form bytes ≡ true
  pub says : board_in bytes ≡ board

-- What a text's other lines give after an entry of the first.
abbrev after_first : List (List ℕ) → InputEntry → Answer Input
after_first ls e = and_then (input_board 1 e) (λ (b : Board). and_then (jobs_from 2 0 ls) (λ (js : List Job). given (record { board = b; jobs = js })))

first-board : (ls : List (List ℕ)) (b : Board) (input : Input) → after_first ls (OfBoard b) ≡ given input → b ≡ input.board
first-board ls b input e = go (jobs_from 2 0 ls) e
  where
    go : (x : Answer (List Job)) → and_then x (λ (js : List Job). given (record { board = b; jobs = js })) ≡ given input → b ≡ input.board
    go (given js) e = let same : ◌≡◌ {A = Input} (record { board = b; jobs = js }) input = cc in ap (λ (i : Input). i.board) same
    go (refused number place) e = never (cc)

lines-board : (ls : List (List ℕ)) (input : Input) → All Unfed ls → input_from ls ≡ given input → BoardLine (get_or ls 0 []) input.board
unfolding input_from input_entry
lines-board [] input unfed e = never (cc)
lines-board (line ∷ ls) input unfed e = spelled (bytes_of line) refl e
  where
    not-board : (u : Bool) (m : Option Job) → and_then (input_says 1 (cond u (entry_job m) None)) (after_first ls) ≡ given input → BoardLine line input.board
    not-board true None e = never (cc)
    not-board true (Some j) e = never (cc)
    not-board false m e = never (cc)

    formed : (r : List ℕ) → bytes_of line ≡ Some r → (t : Bool) → is_a board_form r ≡ t
        → and_then (input_says 1 (cond t (Some (OfBoard (board_in r))) (cond (is_a job_form r) (entry_job (job_in (field job_form 0 r) (field job_form 1 r) (field job_form 2 r))) None)))
        (after_first ls) ≡ given input → BoardLine line input.board
    formed r is true form e = record { unfed = unfed.0; bytes = r; spelled = is; form = form; says = first-board ls (board_in r) input e }
    formed r is false form e = not-board (is_a job_form r) (job_in (field job_form 0 r) (field job_form 1 r) (field job_form 2 r)) e

    spelled : (m : Option (List ℕ)) → bytes_of line ≡ m → and_then (input_bytes 1 m) (after_first ls) ≡ given input → BoardLine line input.board
    spelled None is e = never (cc)
    spelled (Some r) is e = formed r is (is_a board_form r) refl e

pub board-line : (text : List ℕ) (input : Input) → input_of text ≡ given input → BoardLine (line_at text 1) input.board
unfolding input_of
board-line text input is = go (ltb text_most (length text)) is
  where
    go : (t : Bool) → cond t (refused 8 0) (input_from (lines_of text)) ≡ given input → BoardLine (line_at text 1) input.board
    go true e = never (cc)
    go false e = lines-board (lines_of text) input (lines-unfed text) e

-- Two digits for each byte.
pairs-length : (line r : List ℕ) → pairs_of line ≡ Some r → length line ≡ 2 * length r
unfolding pairs_of
pairs-length [] r e = let same : [] ≡ r = cc in omega (arith, ap length same)
pairs-length (h ∷ []) r e = never (cc)
pairs-length (h ∷ l ∷ rest) r e = go (byte_of (nibble_of h) (nibble_of l)) (pairs_of rest) (pairs-length rest) e
  where
    go : (b : Option ℕ) (m : Option (List ℕ)) → ((q : List ℕ) → m ≡ Some q → length rest ≡ 2 * length q) → at_front b m ≡ Some r
        → suc (suc (length rest)) ≡ 2 * length r
    go None m deep e = never (cc)
    go (Some b) None deep e = never (cc)
    go (Some b) (Some bs) deep e = let same : b ∷ bs ≡ r = cc in omega (arith, ap length same, deep bs refl)

pub bytes-length : (line r : List ℕ) → bytes_of line ≡ Some r → length line ≡ 2 * length r
unfolding bytes_of
bytes-length [] r e = never (cc)
bytes-length (b ∷ bs) r e = pairs-length (b ∷ bs) r e

pub form-size : (f : Form) (r : List ℕ) → is_a f r ≡ true → length r ≡ size_of f
form-size f r is = go (eqb (get_or r 0 0) f.tag) is
  where
    go : (t : Bool) → t && eqb (length r) (size_of f) ≡ true → length r ≡ size_of f
    go true e = eqb-true _ _ e
    go false e = never (cc)

pub board-digits : {line : List ℕ} {board : Board} → BoardLine line board → length line ≡ 2 * size_of board_form
board-digits {line} b = omega (arith, bytes-length line b.bytes b.spelled, form-size board_form b.bytes b.form)

-- ---- the records of a plan
form-back : (i : ℕ) (r : List ℕ) (e : Entry) → IsRecord r → entry_of r ≡ Some e → form_says i (digits_of r) ≡ given e
form-back i r e is says = rw (bytes_back r is, says)

counts-entry : (jobs slices : ℕ) → entry_of (count_record jobs slices) ≡ Some (of-counts jobs slices)
unfolding entry_of
counts-entry jobs slices = rw (in_bytes-back 0 jobs, in_bytes-back 0 slices)

share-entry : (job : ℕ) (s : Ticks) → entry_of (share_record job s) ≡ Some (of-share job)
unfolding entry_of
share-entry job s = rw (in_bytes-back 0 job)

slice-entry : (job : ℕ) (kind : Kind) (core start ticks : ℕ)
    → let s : Slice = record { job = job; kind = kind; core = core; start = start; length = ticks } in entry_of (slice_record s) ≡ Some (of-slice s)
unfolding entry_of
slice-entry job First core start ticks =
    rw (in_bytes-back 0 1, in_bytes-back 0 job, in_bytes-back 0 core, in_bytes-back 1 start, in_bytes-back 1 ticks)
slice-entry job Second core start ticks =
    rw (in_bytes-back 0 2, in_bytes-back 0 job, in_bytes-back 0 core, in_bytes-back 1 start, in_bytes-back 1 ticks)

module _ (c : Counts) where
  slices-taken : (i : ℕ) (rows : List Slice) → c.jobs + 3 ≤ i → i + length rows ≡ c.jobs + c.slices + 3 → All IsRecord (map slice_record rows)
      → All (λ (s : Slice). s.job < c.jobs) rows → slices_from c i (map digits_of (map slice_record rows)) ≡ given rows
  unfolding slices_from
  slices-taken i [] from to are jobs = rw (le-ltb i (c.jobs + c.slices + 3) (omega arith))
  slices-taken i (s ∷ rows) from to are jobs =
      rw (
        form-back i (slice_record s) (of-slice s) are.0 (slice-entry s.job s.kind s.core s.start s.length),
        lt-ltb s.job c.jobs jobs.0,
        le-leb (c.jobs + 3) i from,
        lt-ltb i (c.jobs + c.slices + 3) (omega arith),
        slices-taken (i + 1) rows (omega arith) (omega arith) are.1 jobs.1,
      )

  -- The share of a job stands at its line, and hands nothing over.
  module _ (rows : List Slice) (all : length rows ≡ c.slices) (jobs : All (λ (s : Slice). s.job < c.jobs) rows) where
    shares-passed : (i job : ℕ) (ss : List Ticks) → i ≡ job + 3 → job + length ss ≡ c.jobs → All IsRecord (share_records job ss ++ map slice_record rows)
        → slices_from c i (map digits_of (share_records job ss ++ map slice_record rows)) ≡ given rows
    unfolding slices_from share_records
    shares-passed i job [] at left are = slices-taken i rows (omega arith) (omega arith) are jobs
    shares-passed i job (s ∷ ss) at left are =
        rw (
          form-back i (share_record job s) (of-share job) are.0 (share-entry job s),
          lt-ltb job c.jobs (omega arith),
          eq-eqb i (job + 3) at,
          shares-passed (i + 1) (job + 1) ss (omega arith) (omega arith) are.1,
        )

-- ---- both together
module _ (line : List ℕ) (board : Board) (first : BoardLine line board) (ss : List Ticks) (rows : List Slice) (are : All IsRecord (plan_records ss rows))
    (jobs : All (λ (s : Slice). s.job < length ss) rows) where
  board-form : form_says 1 line ≡ given (of-board board)
  unfolding entry_of
  board-form = rw (first.spelled, first.form, first.says)

  counts-back : counts_from board (map digits_of (plan_records ss rows)) ≡ given (record { board = board; jobs = length ss; rows = rows })
  unfolding counts_from
  counts-back =
      let c : Counts = record { jobs = length ss; slices = length rows } in
      rw (
        form-back 2 (count_record (length ss) (length rows)) (of-counts (length ss) (length rows)) are.0 (counts-entry (length ss) (length rows)),
        shares-passed c rows refl jobs 3 0 ss refl (omega arith) are.1,
      )

  pub handed-back : length (line ++ (10 ∷ plan_text ss rows)) ≤ text_most
      → handed_of (line ++ (10 ∷ plan_text ss rows)) ≡ given (record { board = board; jobs = length ss; rows = rows })
  unfolding handed_of handed_from
  handed-back fits =
      rw (
        le-ltb text_most (length (line ++ (10 ∷ plan_text ss rows))) fits,
        line_first line (plan_text ss rows) first.unfed,
        lines-back (plan_records ss rows),
        board-form,
        counts-back,
      )
