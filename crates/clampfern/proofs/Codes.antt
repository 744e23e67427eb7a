-- Which numbers the answers of the tick handler get. One idea: a job is a byte and a refusal's number is at most 13, so the three kinds of answer
-- have numbers apart from each other. Assumes nothing.
--   Coded        an answer whose job is a byte, or whose refusal is one of the list
--   rows-coded, asked-coded, tick-coded   what rows name is one, and every answer on a table, and on lines
--   job-code, idle_code-only, refusal-code   the number tells the answer, but for a refusal's place
use mathlib.Core.Bool.{Bool, true, false, cond, ◌&&◌, ◌||◌}
use mathlib.Core.List.{List, [], ◌∷◌}
use mathlib.Core.Path.{◌≡◌, refl, ap}
use Prim.Native.Nat.{ℕ, zero, suc, ◌+◌, ◌≤◌, ◌<◌}
use native.Mathlib.Omega.{arith}
use lib.Dec.{eqb, leb, ltb}
use lib.ListN.{length}
use Rattle.std.specs.Prelude.{Option, None, Some}
use Rattle.rows.specs.Lists.{All, lowest}
use Rattle.rows.specs.Upto.{upto, at}
use Rattle.model.specs.Limits.{window_most, cores_most, text_most}
use Rattle.model.specs.Packed.{slice_in}
use Rattle.model.specs.Refusal.{Answer, given, refused, and_then}
use Rattle.model.specs.declared.Board.{Board}
use Rattle.model.specs.declared.Slice.{Slice}
use Rattle.legal.specs.Legal.{outside, on_board}
use Rattle.handler.specs.Check.{is_bad, collision_of, check_of}
use Rattle.handler.specs.Running.{is_beyond, is_at, running_in, asked_of}
use Rattle.text.specs.Hex.{bytes_of, lines_of}
use Rattle.kernel.specs.Handed.{Entry, of-board, of-counts, of-share, of-slice, entry_of, record_says, bytes_say, form_says, has_job, as_board, Counts, as_counts, in_place, slices_from, counts_from, handed_from, handed_of, column_of, tick_of}
use Rattle.clampfern.specs.Tick.{idle_code, refusal_base, code_of}

-- ---- the refusals of lines and of a table
data Listed {A : Type 0} : Answer A → Type 0 where
  gives : (a : A) → Listed (given a)
  refuses : (number place : ℕ) → 1 ≤ number → number ≤ 13 → Listed (refused number place)

listed_then : {A B : Type 0} {x : Answer A} {f : A → Answer B} → Listed x → ((a : A) → Listed (f a)) → Listed (and_then x f)
listed_then (gives a) then = then a
listed_then (refuses number place above most) then = refuses number place above most

listed-cond : {A : Type 0} (t : Bool) {x y : Answer A} → Listed x → Listed y → Listed (cond t x y)
listed-cond true first second = first
listed-cond false first second = second

-- 8, 9 and 10.
nine : {A : Type 0} (i : ℕ) → Listed {A = A} (refused 9 i)
nine i = refuses 9 i (omega arith) (omega arith)

ten : {A : Type 0} (i : ℕ) → Listed {A = A} (refused 10 i)
ten i = refuses 10 i (omega arith) (omega arith)

form-listed : (i : ℕ) (line : List ℕ) → Listed (form_says i line)
form-listed i line = spelled (bytes_of line)
  where
    said : (m : Option Entry) → Listed (record_says i m)
    said None = nine i
    said (Some e) = gives e

    spelled : (m : Option (List ℕ)) → Listed (bytes_say i m)
    spelled None = refuses 8 i (omega arith) (omega arith)
    spelled (Some r) = said (entry_of r)

board-listed : (i : ℕ) (e : Entry) → Listed (as_board i e)
board-listed i (of-board b) = gives b
board-listed i (of-counts jobs slices) = ten i
board-listed i (of-share job) = ten i
board-listed i (of-slice s) = ten i

count-listed : (i : ℕ) (e : Entry) → Listed (as_counts i e)
count-listed i (of-board b) = ten i
count-listed i (of-counts jobs slices) = gives _
count-listed i (of-share job) = ten i
count-listed i (of-slice s) = ten i

place-listed : (c : Counts) (i : ℕ) (e : Entry) → Listed (in_place c i e)
place-listed c i (of-board b) = ten i
place-listed c i (of-counts jobs slices) = ten i
place-listed c i (of-share job) = listed-cond (eqb i (job + 3)) (gives []) (ten i)
place-listed c i (of-slice s) = listed-cond (leb (c.jobs + 3) i && ltb i (c.jobs + c.slices + 3)) (gives (s ∷ [])) (ten i)

slices-listed : (c : Counts) (i : ℕ) (lines : List (List ℕ)) → Listed (slices_from c i lines)
unfolding slices_from
slices-listed c i [] = listed-cond (ltb i (c.jobs + c.slices + 3)) (ten i) (gives [])
slices-listed c i (line ∷ lines) =
    listed_then (listed_then (form-listed i line) (λ e. listed-cond (has_job c.jobs e) (gives e) (nine i)))
    (λ e. listed_then (place-listed c i e) (λ here. listed_then (slices-listed c (i + 1) lines) (λ rows. gives _)))

counts-listed : (b : Board) (lines : List (List ℕ)) → Listed (counts_from b lines)
unfolding counts_from
counts-listed b [] = ten 2
counts-listed b (line ∷ lines) =
    listed_then (form-listed 2 line) (λ e. listed_then (count-listed 2 e) (λ c. listed_then (slices-listed c 3 lines) (λ rows. gives _)))

lines-listed : (lines : List (List ℕ)) → Listed (handed_from lines)
unfolding handed_from
lines-listed [] = ten 1
lines-listed (line ∷ lines) = listed_then (form-listed 1 line) (λ e. listed_then (board-listed 1 e) (λ b. counts-listed b lines))

handed-listed : (text : List ℕ) → Listed (handed_of text)
unfolding handed_of
handed-listed text = listed-cond (ltb text_most (length text)) (refuses 8 0 (omega arith) (omega arith)) (lines-listed (lines_of text))

-- 1, 2, 12 and 13.
check-listed : (board : Board) (xs : List ℕ) → Listed (check_of board xs)
unfolding check_of on_board
check-listed board xs =
    listed-cond (outside window_most board.window) (refuses 1 0 (omega arith) (omega arith))
    (listed-cond (outside cores_most board.first || outside cores_most board.second) (refuses 2 0 (omega arith) (omega arith))
    (listed-cond (ltb (lowest (is_bad board) xs) (length xs)) (refuses 12 _ (omega arith) (omega arith))
    (listed-cond (ltb (collision_of xs) (length xs)) (refuses 13 _ (omega arith) (omega arith)) (gives tt))))

-- ---- the answers
pub data Coded : Answer (Option ℕ) → Type 0 where
  no-job : Coded (given None)
  job : (j : ℕ) → j < idle_code → Coded (given (Some j))
  refusal : (number place : ℕ) → 1 ≤ number → number ≤ 13 → Coded (refused number place)

coded-then : {A : Type 0} {x : Answer A} {f : A → Answer (Option ℕ)} → Listed x → ((a : A) → Coded (f a)) → Coded (and_then x f)
coded-then (gives a) then = then a
coded-then (refuses number place above most) then = refusal number place above most

coded-cond : (t : Bool) {x y : Answer (Option ℕ)} → Coded x → Coded y → Coded (cond t x y)
coded-cond true first second = first
coded-cond false first second = second

pub rows-coded : (tick kind core : ℕ) (rows : List Slice) → All (λ (s : Slice). s.job < idle_code) rows
    → Coded (given (running_in tick kind core rows))
unfolding running_in
rows-coded tick kind core [] bytes = no-job
rows-coded tick kind core (s ∷ rows) bytes = go (is_at tick kind core s) (rows-coded tick kind core rows bytes.1)
  where
    go : (t : Bool) → Coded (given (running_in tick kind core rows)) → Coded (given (cond t (Some s.job) (running_in tick kind core rows)))
    go true rest = job s.job bytes.0
    go false rest = rest

slices-byte : (n : ℕ) (f : ℕ → ℕ) → All (λ (s : Slice). s.job < idle_code) (upto n (λ i. slice_in (f i)))
unfolding slice_in
slices-byte zero f = tt
slices-byte (suc n) f = (omega arith, slices-byte n (λ i. f (suc i)))

pub asked-coded : (board : Board) (xs : List ℕ) (tick kind core : ℕ) → Coded (asked_of board xs tick kind core)
asked-coded board xs tick kind core =
    coded-then (check-listed board xs)
    (λ _. coded-cond (is_beyond board tick kind core) (refusal 11 0 (omega arith) (omega arith))
    (rows-coded tick kind core _ (slices-byte (length xs) (at xs))))

pub tick-coded : (lines : List ℕ) (tick kind core : ℕ) → Coded (tick_of lines tick kind core)
tick-coded lines tick kind core = coded-then (handed-listed lines) (λ h. asked-coded h.board (column_of h) tick kind core)

-- ---- the number tells the answer
pub job-code : {a : Answer (Option ℕ)} → Coded a → (j : ℕ) → j < idle_code → code_of a ≡ j → a ≡ given (Some j)
job-code no-job j below is = absurd (omega arith)
job-code (job k small) j below is = ap (λ (n : ℕ). given (Some n)) is
job-code (refusal number place above most) j below is = absurd (omega arith)

pub idle_code-only : {a : Answer (Option ℕ)} → Coded a → code_of a ≡ idle_code → a ≡ given None
idle_code-only no-job is = refl
idle_code-only (job k small) is = absurd (omega arith)
idle_code-only (refusal number place above most) is = absurd (omega arith)

pub refusal-code : {a : Answer (Option ℕ)} → Coded a → (number : ℕ) → code_of a ≡ refusal_base + number
    → (1 ≤ number) × (number ≤ 13) × ((place : ℕ) × (a ≡ refused number place))
refusal-code no-job number is = absurd (omega arith)
refusal-code (job k small) number is = absurd (omega arith)
refusal-code (refusal n place above most) number is =
    let same : n ≡ number = omega arith in
    (omega arith, omega arith, (place, ap (λ (k : ℕ). refused k place) same))
