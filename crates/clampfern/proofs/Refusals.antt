-- Every refusal of a text is listed, with its cause: line by line, as the text is read. The one idea: what is left of the lines is a drop of the
-- text's lines, so that the line in hand is known by its number. Assumes nothing.
--   text-listed   a text that describes no set has a listed refusal
--   set-few       a text that describes a set has at most 64 jobs in it
use mathlib.Core.Path.{◌≡◌, refl, ap, subst}
use mathlib.Core.Bool.{Bool, true, false, cond}
use mathlib.Core.List.{List, [], ◌∷◌}
use Prim.Native.Nat.{ℕ, ◌+◌, ◌-◌, ◌≤◌, ◌<◌}
use native.Mathlib.Numerals.{add-one}
use native.Mathlib.Omega.{arith}
use borrow.Author.Count.{below_more}
use borrow.Author.Tests.{ltb-true, ltb-false}
use lib.Dec.{ltb}
use lib.ListN.{length, drop, length-drop}
use lib.Seq.{drop-cons}
use Rattle.std.specs.Prelude.{Option, None, Some}
use Rattle.rows.proofs.Never.{never}
use Rattle.model.specs.Limits.{jobs_most, text_most}
use Rattle.model.specs.Refusal.{Answer, given, refused, and_then}
use Rattle.model.specs.declared.Board.{Board}
use Rattle.model.specs.declared.Job.{Job}
use Rattle.text.specs.Hex.{lines_of, bytes_of}
use Rattle.reader.specs.Input.{Input, entry_of, record_says, bytes_say, line_says, as_board, as_job, jobs_from, input_from, input_of}
use Rattle.reader.specs.declared.Entry.{Entry}
use Rattle.reader.specs.declared.Entry.TheVariants.{OfBoard, OfJob}
use Rattle.reader.proofs.Lines.{lines_of-first}
use Rattle.clampfern.specs.Listed.{line_at, last_line, Good, board, job, Reached, TextListed, over, digits, unknown, job-first, board-later, empty, many}

no_lines : (text : List ℕ) → lines_of text ≡ [] → text ≡ []
no_lines [] e = refl
no_lines (b ∷ bs) e = let first = lines_of-first b bs in never (cc)

-- A job is taken where fewer than 64 were.
job-few : (i n : ℕ) (e : Entry) (j : Job) → as_job i n e ≡ given j → n < jobs_most
job-few i n (OfBoard b) j e = never (cc)
job-few i n (OfJob x) j e = go (ltb n jobs_most) refl e
  where
    go : (t : Bool) → ltb n jobs_most ≡ t → cond t (given x) (refused 3 jobs_most) ≡ given j → n < jobs_most
    go true h e = ltb-true n jobs_most h
    go false h e = never (cc)

module _ (text : List ℕ) where
  abbrev Told : {A : Type 0} → Answer A → Type 0
  Told (given x) = Unit {0}
  Told (refused number place) = TextListed text number place

  in-turn : {A B : Type 0} (x : Answer A) (f : A → Answer B) → Told x → ((a : A) → x ≡ given a → Told (f a)) → Told (and_then x f)
  in-turn (given a) f first then = then a refl
  in-turn (refused number place) f first then = first

  line-told : (i : ℕ) → Reached text i → Told (line_says i (line_at text i))
  line-told i at = bytes-told (bytes_of (line_at text i)) refl
    where
      record-told : (r : List ℕ) → bytes_of (line_at text i) ≡ Some r → (m : Option Entry) → entry_of r ≡ m → Told (record_says i m)
      record-told r is None e = unknown i r at is e
      record-told r is (Some x) e = tt

      bytes-told : (m : Option (List ℕ)) → bytes_of (line_at text i) ≡ m → Told (bytes_say i m)
      bytes-told None is = digits i at is
      bytes-told (Some r) is = record-told r is (entry_of r) refl

  -- n jobs were read before line i.
  module _ (short : length text ≤ text_most) where
    job-told : (i n : ℕ) → i ≡ n + 2 → n ≤ jobs_most → Reached text i → (e : Entry) → line_says i (line_at text i) ≡ given e → Told (as_job i n e)
    job-told i n is few at (OfBoard b) says = board-later i b at (omega arith) says
    job-told i n is few at (OfJob j) says = go (ltb n jobs_most) refl
      where
        go : (t : Bool) → ltb n jobs_most ≡ t → Told (cond t (given j) (refused 3 jobs_most))
        go true h = tt
        go false h =
            let last : i ≡ last_line = omega (arith, ltb-false n jobs_most h) in
            many j (subst (λ (k : ℕ). Reached text k) last at) (subst (λ (k : ℕ). line_says k (line_at text k) ≡ given (OfJob j)) last says)

    job_good : (i n : ℕ) → i ≡ n + 2 → (e : Entry) → line_says i (line_at text i) ≡ given e → (j : Job) → as_job i n e ≡ given j → Good text i
    job_good i n is (OfBoard b) says j e = never (cc)
    job_good i n is (OfJob x) says j e = job i x (omega arith) says

    -- The lines from line i on, which come after a board and n jobs.
    jobs-told : (i n : ℕ) (lines : List (List ℕ)) → i ≡ n + 2 → n ≤ jobs_most → drop (n + 1) (lines_of text) ≡ lines
        → ((k : ℕ) → k < i → 1 ≤ k → Good text k) → Told (jobs_from i n lines)
    unfolding jobs_from
    jobs-told i n [] is few left before = tt
    jobs-told i n (line ∷ lines) is few left before =
        let there : n + 1 < length (lines_of text) = omega (arith, ap length left, length-drop (n + 1) (lines_of text)) in
        let cut = drop-cons (lines_of text) (n + 1) [] there in
        let place : n + 1 ≡ i - 1 = omega arith in
        let here : line ≡ line_at text i = cc in
        let rest : drop (n + 1 + 1) (lines_of text) ≡ lines = rw (add-one (n + 1)) (cc) in
        let at : Reached text i =
        record { short = short; some = omega arith; most = omega arith; there = omega arith; before = before } in
        in-turn (line_says i line) _ (rw here (line-told i at))
        (λ e says. in-turn (as_job i n e) _ (job-told i n is few at e (rw here at says))
        (λ j given_is.
        let good : Good text i = job_good i n is e (rw here at says) j given_is in
        let one : n < jobs_most = job-few i n e j given_is in
        in-turn (jobs_from (i + 1) (n + 1) lines) _
        (jobs-told (i + 1) (n + 1) lines (omega arith) (omega arith) rest (below_more (λ (k : ℕ). 1 ≤ k → Good text k) i before (λ _. good)))
        (λ js _. tt)))

    board-told : Reached text 1 → (e : Entry) → line_says 1 (line_at text 1) ≡ given e → Told (as_board 1 e)
    board-told at (OfBoard b) says = tt
    board-told at (OfJob j) says = job-first j at says

    board-good : (e : Entry) → line_says 1 (line_at text 1) ≡ given e → (b : Board) → as_board 1 e ≡ given b → Good text 1
    board-good (OfBoard x) says b e = board x says
    board-good (OfJob j) says b e = never (cc)

    lines-told : (lines : List (List ℕ)) → lines_of text ≡ lines → Told (input_from lines)
    unfolding input_from
    lines-told [] is = empty (no_lines text is)
    lines-told (line ∷ lines) is =
        let here : line ≡ line_at text 1 = rw is in
        let at : Reached text 1 =
        record { short = short; some = omega arith; most = omega arith; there = omega (arith, ap length is); before = λ k l s. absurd (omega arith) } in
        in-turn (line_says 1 line) _ (rw here (line-told 1 at))
        (λ e says. in-turn (as_board 1 e) _ (board-told at e (rw here at says))
        (λ b given_is. in-turn (jobs_from 2 0 lines) _
        (jobs-told 2 0 lines refl (omega arith) (rw is)
        (below_more (λ (k : ℕ). 1 ≤ k → Good text k) 1 (λ k l s. absurd (omega arith)) (λ _. board-good e (rw here at says) b given_is)))
        (λ js _. tt)))

  text-told : Told (input_of text)
  unfolding input_of
  text-told = go (ltb text_most (length text)) refl
    where
      go : (t : Bool) → ltb text_most (length text) ≡ t → Told (cond t (refused 8 0) (input_from (lines_of text)))
      go true h = over (ltb-true text_most (length text) h)
      go false h = lines-told (ltb-false text_most (length text) h) (lines_of text) refl

  pub text-listed : (number place : ℕ) → input_of text ≡ refused number place → TextListed text number place
  text-listed number place is = rw is at text-told

-- The set that a text describes has at most 64 jobs: one more is refused as it is read.
abbrev Within : ℕ → Answer (List Job) → Type 0
Within n (given js) = n + length js ≤ jobs_most
Within n (refused number place) = Unit {0}

pub after : {A B : Type 0} (Q : Answer B → Type 0) → ((number place : ℕ) → Q (refused number place)) → (x : Answer A) (f : A → Answer B)
    → ((a : A) → x ≡ given a → Q (f a)) → Q (and_then x f)
after Q none_told (given a) f then = then a refl
after Q none_told (refused number place) f then = none_told number place

jobs-within : (i n : ℕ) (lines : List (List ℕ)) → n ≤ jobs_most → Within n (jobs_from i n lines)
unfolding jobs_from
jobs-within i n [] few = omega arith
jobs-within i n (line ∷ lines) few =
    after (Within n) (λ _ _. tt) (line_says i line) _ (λ e _. after (Within n) (λ _ _. tt) (as_job i n e) _
    (λ j is.
    let one : n < jobs_most = job-few i n e j is in
    let more = jobs-within (i + 1) (n + 1) lines (omega arith) in
    after (Within n) (λ _ _. tt) (jobs_from (i + 1) (n + 1) lines) _ (λ js all. let all-few = rw all at more in omega arith)))

abbrev FewIn : Answer Input → Type 0
FewIn (given input) = length input.jobs ≤ jobs_most
FewIn (refused number place) = Unit {0}

lines-few : (lines : List (List ℕ)) → FewIn (input_from lines)
unfolding input_from
lines-few [] = tt
lines-few (line ∷ lines) =
    after FewIn (λ _ _. tt) (line_says 1 line) _ (λ e _. after FewIn (λ _ _. tt) (as_board 1 e) _
    (λ b _. let all = jobs-within 2 0 lines (omega arith) in
    after FewIn (λ _ _. tt) (jobs_from 2 0 lines) _ (λ js is. let all-few = rw is at all in omega arith)))

text-few : (text : List ℕ) → FewIn (input_of text)
unfolding input_of
text-few text = go (ltb text_most (length text))
  where
    go : (t : Bool) → FewIn (cond t (refused 8 0) (input_from (lines_of text)))
    go true = tt
    go false = lines-few (lines_of text)

pub set-few : (text : List ℕ) (input : Input) → input_of text ≡ given input → length input.jobs ≤ jobs_most
set-few text input is = rw is at (text-few text)
