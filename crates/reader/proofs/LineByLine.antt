-- The turns of the reader's loop over the lines of jobs. The idea: what the lines from here on give, put behind the jobs so far, is what all lines
-- give. Assumes nothing.
use mathlib.Core.List.{List, [], ◌∷◌, ◌++◌, map, append_assoc, append-nil}
use mathlib.Core.Path.{◌≡◌, refl, sym, ◌∙◌, ap}
use Prim.Native.Nat.{ℕ, suc, ◌+◌, ◌-◌, ◌≤◌, ◌<◌}
use native.Mathlib.Omega.{arith}
use lib.ListN.{length, drop, set, replicate, length-append, length-map, drop_of_length-le}
use Rattle.std.proofs.lemmas.Bool.Decides.{nat_tests}
use Rattle.std.proofs.lemmas.List.{map-append}
use lib.Seq.{set_at}
use Rattle.rows.proofs.Never.{never}
use Rattle.model.specs.Columns.{cost_on, costs}
use Rattle.model.specs.Limits.{jobs_most}
use Rattle.model.specs.Refusal.{Answer, given, refused, and_then}
use Rattle.model.specs.declared.Job.{Job}
use Rattle.model.specs.declared.Kind.{Kind}
use Rattle.model.specs.declared.Kind.TheVariants.{First, Second}
use Rattle.text.specs.Hex.{lines_of}
use Rattle.reader.specs.Input.{line_says, as_job, jobs_from}
use Rattle.reader.specs.declared.Entry.{Entry}
use Rattle.reader.specs.declared.Entry.TheVariants.{OfBoard, OfJob}
use Rattle.reader.proofs.Answers.{onto, onto-none, onto-more, and_then-assoc}

-- The job of line i, where n were read.
abbrev job_says : (i n : ℕ) → List ℕ → Answer Job
job_says i n line = and_then (line_says i line) (as_job i n)

jobs_from-line : (i n : ℕ) (line : List ℕ) (lines : List (List ℕ))
    → jobs_from i n (line ∷ lines) ≡ and_then (job_says i n line) (λ (j : Job). and_then (jobs_from (i + 1) (n + 1) lines) (λ (js : List Job). given (j ∷ js)))
unfolding jobs_from
jobs_from-line i n line lines = and_then-assoc (line_says i line) (as_job i n) _

-- A line that holds a job is not one too many.
job_says-few : (i n : ℕ) (a : Answer Entry) (j : Job) → given j ≡ and_then a (as_job i n) → n < jobs_most
job_says-few i n (given (OfBoard b)) j e = never (cc)
job_says-few i n (given (OfJob k)) j e = grind (arith, nat_tests)
job_says-few i n (refused k p) j e = never (cc)

-- The column of a kind with one job more.
costs-more : (k : Kind) (js : List Job) (j : Job) (n : ℕ) {c : List ℕ} {x : ℕ} → length js ≡ n → n < jobs_most → c ≡ costs k js → x ≡ cost_on k j → set c n x ≡ costs k (js ++ (j ∷ []))
costs-more k js j n size few e f =
    let left : jobs_most - length js ≡ suc (jobs_most - (length js + 1)) = omega arith in
    rw (e, f, length-append js (j ∷ []), map-append (cost_on k) js (j ∷ []), left, set_at (map (cost_on k) js) 0 (replicate (jobs_most - (length js + 1)) 0) (cost_on k j) n (length-map js (cost_on k) ∙ size), append_assoc)

-- What holds at every turn: n jobs were read from the lines before `at`, and their costs are in the columns.
pub record Turn (text : List ℕ) (from : ℕ) (c1 c2 : List ℕ) (n at : ℕ) : Type 0 where
  pub jobs : List Job
  pub count : length jobs ≡ n
  pub few : n ≤ jobs_most
  pub first : c1 ≡ costs First jobs
  pub second : c2 ≡ costs Second jobs
  pub all : onto jobs (jobs_from (n + 2) n (lines_of (drop at text))) ≡ jobs_from 2 0 (lines_of (drop from text))

pub turn-first : (text : List ℕ) (from : ℕ) → Turn text from (replicate jobs_most 0) (replicate jobs_most 0) 0 from
turn-first text from = record { jobs = []; count = refl; few = omega arith; first = refl; second = refl; all = onto-none _ }

module _ (text : List ℕ) (from : ℕ) (c1 c2 : List ℕ) (n at : ℕ) (turn : Turn text from c1 c2 n at) where
  -- Behind the last line.
  pub turn_last : length text ≤ at → given turn.jobs ≡ jobs_from 2 0 (lines_of (drop from text))
  unfolding lines_of jobs_from
  turn_last out = ap given (sym (append-nil turn.jobs)) ∙ (rw (drop_of_length-le text out) at turn.all)

  -- The line here.
  module _ (line : List ℕ) where
    -- It holds a job: there is room for it.
    turn-few : {j : Job} → given j ≡ job_says (n + 2) n line → n < jobs_most
    turn-few h = job_says-few (n + 2) n (line_says (n + 2) line) _ h

    -- With the lines behind it.
    module _ (end : ℕ) (lines : lines_of (drop at text) ≡ line ∷ lines_of (drop (end + 1) text)) where
      first-line : jobs_from (n + 2) n (lines_of (drop at text))
          ≡ and_then (job_says (n + 2) n line)
          (λ (j : Job). and_then (jobs_from (n + 2 + 1) (n + 1) (lines_of (drop (end + 1) text))) (λ (js : List Job). given (j ∷ js)))
      first-line = rw lines (jobs_from-line (n + 2) n line (lines_of (drop (end + 1) text)))

      -- A line that is refused decides.
      pub turn-refused : {k p : ℕ} → refused k p ≡ job_says (n + 2) n line → refused k p ≡ jobs_from 2 0 (lines_of (drop from text))
      turn-refused h = rw (first-line, ← h) at turn.all

      -- A job more.
      pub turn_more : {j : Job} → given j ≡ job_says (n + 2) n line → {a b : ℕ} → a ≡ cost_on First j → b ≡ cost_on Second j
          → Turn text from (set c1 n a) (set c2 n b) (n + 1) (end + 1)
      turn_more {j} h first second =
          let few : n < jobs_most = turn-few h in
          let next : n + 1 + 2 ≡ n + 2 + 1 = omega arith in
          let all = sym (onto-more turn.jobs (j ∷ []) (jobs_from (n + 2 + 1) (n + 1) (lines_of (drop (end + 1) text)))) ∙ (rw (first-line, ← h) at turn.all) in
          record {
            jobs = turn.jobs ++ (j ∷ []);
            count = length-append turn.jobs (j ∷ []) ∙ ap (λ (m : ℕ). m + 1) turn.count;
            few = omega arith;
            first = costs-more First turn.jobs j n turn.count few turn.first first;
            second = costs-more Second turn.jobs j n turn.count few turn.second second;
            all = rw next all;
          }
