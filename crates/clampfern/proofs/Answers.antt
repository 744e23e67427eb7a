-- What the answer to a text says, for every text: its plan, or its refusal, which is listed. Assumes nothing.
--   answer_of       the plan of the set that a text describes, or the first refusal
--   answer-said     the bytes of the answer say it
--   answer-listed   each refusal is listed, with its cause, and its number and place are small
--   entry-cases     the C entry either leaves bytes that are too few as they were, or puts the answer in front; writes-put: so does a writer
use mathlib.Core.Path.{◌≡◌, refl}
use mathlib.Core.Bool.{Bool, true, false, cond}
use mathlib.Core.List.{List, ◌++◌}
use mathlib.Core.Logic.{◌⊎◌, inl, inr, ⊎_elim}
use Prim.Native.Nat.{ℕ, ◌≤◌, ◌<◌}
use native.Mathlib.Omega.{arith}
use borrow.Author.Tests.{ltb-true, ltb-false}
use lib.Dec.{ltb}
use lib.ListN.{length, drop}
use Rattle.std.specs.Prelude.{Some, Ok}
use Rattle.rows.proofs.Never.{never}
use Rattle.model.specs.Limits.{jobs_most, slices_most}
use Rattle.model.specs.Refusal.{Answer, given, refused, says_refusal, and_then}
use Rattle.model.specs.declared.Refusal.{Refusal}
use Rattle.columns.specs.Plan.{Plan}
use Rattle.planner.proofs.Causes.{plan-listed}
use Rattle.planner.proofs.Demands.{listed_small}
use Rattle.planner.proofs.PlanMoves.{plan-never-7}
use Rattle.text.specs.Output.{Writes}
use Rattle.reader.specs.Input.{Input, input_of}
use Rattle.clampfern.specs.Answer.{planned, lines_for, answer_text, Entered}
use Rattle.clampfern.specs.Listed.{last_line, TextListed, over, digits, unknown, job-first, board-later, empty, many, of-set}
use Rattle.clampfern.specs.Said.{said_of}
use Rattle.clampfern.proofs.Refusals.{text-listed, set-few}
use Rattle.clampfern.proofs.Says.{plan-said, refusal-said}

-- The numbers are 1 to 10 without 7, and 14 to 16. No place is above the last line that is read.
pub record SmallRefusal (number place : ℕ) : Type 0 where
  pub some : 1 ≤ number
  pub most : number ≤ 16
  pub never-7 : number ≡ 7 → ⊥
  pub never-11-to-13 : (number ≤ 10) ⊎ (14 ≤ number)
  pub place-most : place ≤ last_line

listed-so : {number place : ℕ} → 1 ≤ number → number ≤ 10 → (number ≡ 7 → ⊥) → place ≤ last_line → SmallRefusal number place
listed-so a b c d = record { some = a; most = omega arith; never-7 = c; never-11-to-13 = inl b; place-most = d }

pub text-listed-small : {text : List ℕ} {number place : ℕ} → TextListed text number place → SmallRefusal number place
text-listed-small (over cause) = listed-so (omega arith) (omega arith) (λ e. omega arith) (omega arith)
text-listed-small (digits i at cause) = listed-so (omega arith) (omega arith) (λ e. omega arith) (omega (arith, at.most))
text-listed-small (unknown i r at is cause) = listed-so (omega arith) (omega arith) (λ e. omega arith) (omega (arith, at.most))
text-listed-small (job-first j at cause) = listed-so (omega arith) (omega arith) (λ e. omega arith) (omega arith)
text-listed-small (board-later i b at later cause) = listed-so (omega arith) (omega arith) (λ e. omega arith) (omega (arith, at.most))
text-listed-small (empty cause) = listed-so (omega arith) (omega arith) (λ e. omega arith) (omega arith)
text-listed-small (many j at cause) = listed-so (omega arith) (omega arith) (λ e. omega arith) (omega arith)
text-listed-small (of-set input is few not-space listed) =
    let small = listed_small listed in
    record {
      some = small.0;
      most = small.2;
      never-7 = not-space;
      never-11-to-13 = ⊎_elim (λ low. inl (omega arith)) inr small.1;
      place-most = omega (arith, small.3);
    }

module _ (text : List ℕ) where
  abbrev pub answer_of : Answer Plan
  answer_of = and_then (input_of text) planned

  pub answer-listed : (number place : ℕ) → answer_of ≡ refused number place → TextListed text number place
  answer-listed number place is = go (input_of text) refl is
    where
      go : (x : Answer Input) → input_of text ≡ x → and_then x planned ≡ refused number place → TextListed text number place
      go (given input) set e =
          let few = set-few text input set in
          of-set input set few (plan-never-7 input.board (length input.jobs) input.jobs few number place e)
          (plan-listed input.board input.jobs jobs_most slices_most number place e)
      go (refused m q) none_read e =
          let a : m ≡ number = cc in
          let b : q ≡ place = cc in
          rw (a, b) at (text-listed text m q none_read)

  pub answer-said : said_of (answer_text text) ≡ Some answer_of
  answer-said = read (input_of text) refl
    where
      refusal : (number place : ℕ) → answer_of ≡ refused number place → said_of (lines_for (refused number place)) ≡ Some (refused number place)
      refusal number place is =
          let small = text-listed-small (answer-listed number place is) in
          refusal-said number place (omega arith) (omega arith)

      set-planned : (input : Input) → input_of text ≡ given input → (y : Answer Plan) → planned input ≡ y → said_of (lines_for y) ≡ Some y
      set-planned input set (given p) is = plan-said input.board input.jobs jobs_most slices_most is
      set-planned input set (refused number place) is = refusal number place (rw set is)

      read : (x : Answer Input) → input_of text ≡ x → said_of (lines_for (and_then x planned)) ≡ Some (and_then x planned)
      read (given input) set = set-planned input set (planned input) refl
      read (refused number place) is = refusal number place (rw is)

pub record Short (asked before after : List ℕ) (count : ℕ) : Type 0 where
  pub few : length before < length (answer_text asked)
  pub zero : count ≡ 0
  pub same : after ≡ before

pub record Put (asked before after : List ℕ) (count : ℕ) : Type 0 where
  pub enough : length (answer_text asked) ≤ length before
  pub all : count ≡ length (answer_text asked)
  pub front : after ≡ answer_text asked ++ drop (length (answer_text asked)) before

pub entry-cases : {asked before after : List ℕ} {count : ℕ} → Entered asked before after count
    → Short asked before after count ⊎ Put asked before after count
entry-cases {asked} {before} {after} {count} p = go (ltb (length before) (length (answer_text asked))) refl p.count p.text
  where
    go : (t : Bool) → ltb (length before) (length (answer_text asked)) ≡ t → count ≡ cond t 0 (length (answer_text asked))
        → after ≡ cond t before (answer_text asked ++ drop (length (answer_text asked)) before)
        → Short asked before after count ⊎ Put asked before after count
    go true t is now = inl (record { few = ltb-true _ _ t; zero = is; same = now })
    go false t is now = inr (record { enough = ltb-false _ _ t; all = is; front = now })

pub writes-put : {short : Refusal} {before after : List ℕ} (lines : List ℕ) {count : ℕ} → Writes short before after lines (Ok count)
    → (count ≡ length lines) × (after ≡ lines ++ drop (length lines) before)
writes-put {short} {before} {after} lines {count} w = go (ltb (length before) (length lines)) w.says w.text
  where
    go : (t : Bool) → given count ≡ cond t (says_refusal short) (given (length lines)) → after ≡ cond t before (lines ++ drop (length lines) before)
        → (count ≡ length lines) × (after ≡ lines ++ drop (length lines) before)
    go true says now = never (cc)
    go false says now = (cc, now)
