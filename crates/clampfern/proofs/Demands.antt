-- The three demands, in their own words, of the bytes that `clampfern_plan` answers, whatever the text. Read this page first if you call from C.
-- Each theorem starts from the promise in the contract, `Entered`, and from nothing else: the call is given the text `asked` and lent bytes that
-- hold `before`; it answers `count`, and the bytes then hold `after`. The first part says which of them are the answer. The demands are then
-- stated of bytes that are the answer to a text, so that they hold of every call that gives such bytes, as `plan_text` and `answer`.
-- What bytes say is `said_of` (specs/Said.antt), a reader by the rules of the format: what is neither a plan nor a refusal says nothing.
-- The other words are those of the model, as on the planner's page: DoneBy (one job's work), Runs (a tick of a slice), SameCore, ticks_in, Split.
-- Assumes nothing.
use mathlib.Core.Bool.{true, false≢true}
use mathlib.Core.List.{List}
use mathlib.Core.Logic.Iff
use mathlib.Core.Logic.{◌↔◌, ⊎_elim}
use mathlib.Core.Path.{◌≡◌, refl, sym, ap, ◌∙◌}
use Prim.Native.Nat.{ℕ, ◌+◌, ◌-◌, ◌*◌, ◌≤◌, ◌<◌}
use native.Mathlib.Omega.{arith}
use lib.ListN.{length, take, drop, get_or}
use lib.Seq.{take-append_seam, drop-append_seam}
use Rattle.std.specs.Prelude.{Option, None, Some, Ok}
use Rattle.rows.proofs.Lists.{all-at, pairs-at}
use Rattle.model.specs.Board.{room_of}
use Rattle.model.specs.Empty.{no_job, no_slice}
use Rattle.model.specs.Limits.{jobs_most, slices_most}
use Rattle.model.specs.Movers.{movers, unevens}
use Rattle.model.specs.Refusal.{Answer, given, refused, and_then, room_refusal}
use Rattle.model.specs.Split.{Ticks, share, ticks_on, DoneBy, Split}
use Rattle.model.specs.Timetable.{Runs, SameCore, Inside, ticks_in}
use Rattle.model.specs.declared.Kind.{Kind}
use Rattle.model.specs.declared.Kind.TheVariants.{First, Second}
use Rattle.model.specs.declared.Board.{Board}
use Rattle.model.specs.declared.Job.{Job}
use Rattle.model.specs.declared.Refusal.TheVariants.{TooShort}
use Rattle.model.specs.declared.Slice.{Slice}
use Rattle.model.proofs.Splits.{all-done-length, all-done-at}
use Rattle.legal.specs.Lawful.{Lawful}
use Rattle.legal.specs.Legal.{legal_of}
use Rattle.legal.proofs.Lawful.{legal-lawful}
use Rattle.split.specs.Causes.{BothOver, StillOver, OtherOver, RoomCause}
use Rattle.split.specs.Promise.{stretched_on}
use Rattle.split.specs.Shares.{shares_of}
use Rattle.split.proofs.Causes.{six, fourteen, fifteen, sixteen}
use Rattle.split.proofs.Demands.{room-only as only, exactly}
use Rattle.slices.specs.Table.{table_of}
use Rattle.columns.specs.Plan.{Plan}
use Rattle.planner.specs.Listed.{room}
use Rattle.planner.specs.Promise.{GoodPlan}
use Rattle.planner.proofs.Causes.{plan-listed, listed-plan, listed-cause}
use Rattle.planner.proofs.Lent.{plan-room}
use Rattle.planner.proofs.PlanKept.{plan-shares, plan-kept}
use Rattle.text.specs.Output.{answer_most, Writes}
use Rattle.reader.specs.Input.{Input, input_of}
use Rattle.clampfern.specs.Answer.{planned, answer_text, Entered, Answered}
use Rattle.clampfern.specs.Listed.{TextListed, over, digits, unknown, job-first, board-later, empty, many, of-set}
use Rattle.clampfern.specs.Said.{said_of, room_said}
use Rattle.clampfern.specs.declared.AnswerLines.{AnswerLines}
use Rattle.clampfern.proofs.Answers.{SmallRefusal, text-listed-small, answer_of, answer-said, answer-listed, entry-cases, writes-put}
use Rattle.clampfern.proofs.Causes.{listed_answer}
use Rattle.clampfern.proofs.Size.{answer-size}

-- ==== The call from C.
module _ {asked before after : List ℕ} {count : ℕ} (p : Entered asked before after count) where
  -- The count is 0 exactly where the lent bytes are fewer than the answer, which is how this call tells refusal 7. Whatever fits is answered.
  pub zero-exactly-short : (count ≡ 0) ↔ (length before < length (answer_text asked))
  zero-exactly-short = ⊎_elim (λ short. (λ _. short.few, λ _. short.zero))
      (λ put. (λ zero. absurd (omega (arith, (answer-size asked).0, put.all)), λ few. absurd (omega (arith, put.enough)))) (entry-cases p)

  -- Lent bytes of the most that an answer has are always enough.
  pub most-always-enough : answer_most ≤ length before → 0 < count
  most-always-enough enough = ⊎_elim (λ short. absurd (omega (arith, short.few, (answer-size asked).1)))
      (λ put. omega (arith, put.all, (answer-size asked).0)) (entry-cases p)

  -- No byte past the count has changed: where it is 0, no byte at all.
  pub rest-unchanged : drop count after ≡ drop count before
  rest-unchanged = ⊎_elim (λ short. rw short.same)
      (λ put. rw (put.front, put.all) (drop-append_seam (answer_text asked) _)) (entry-cases p)

  -- Where it is above 0, that many bytes are the answer.
  pub entry-answer : 0 < count → take count after ≡ answer_text asked
  entry-answer above = ⊎_elim (λ short. absurd (omega (arith, short.zero)))
      (λ put. rw (put.front, put.all) (take-append_seam (answer_text asked) _)) (entry-cases p)

-- The same of `plan_text`, which gives a count only where the lines fit.
pub text-answer : (asked : List ℕ) {before after : List ℕ} {count : ℕ} → Writes TooShort before after (answer_text asked) (Ok count)
    → take count after ≡ answer_text asked
text-answer asked w = let put = writes-put (answer_text asked) w in rw (put.1, put.0) (take-append_seam (answer_text asked) _)

-- And of `answer`, which lends nothing and gives the bytes by value.
pub value-answer : {asked : List ℕ} {r : AnswerLines} → Answered asked r → take r.size r.bytes ≡ answer_text asked
value-answer {asked} a = rw (a.bytes, a.size) (take-append_seam (answer_text asked) _)

-- ==== Demand 1. Any input at all is planned or refused by number and place. Nothing is left to the caller to check, every call ends, a
-- refusal changes nothing that was lent but the bytes of its line.
-- That nothing is left to check and that every call ends is what a contract with no `requires` is.

-- A text describes a set: a board, and its jobs in order (input_of, in the text's specs).
abbrev pub Describes : List ℕ → Board → List Job → Type 0
Describes asked board js = input_of asked ≡ given (record { board = board; jobs = js })

-- What bytes may say to a text: a plan with a share for each job of the set that the text describes, or a refusal by number and place, with its
-- cause; never nothing.
abbrev pub PlannedOrRefused : List ℕ → Option (Answer Plan) → Type 0
PlannedOrRefused asked None = ⊥
PlannedOrRefused asked (Some (given p)) = (board : Board) × (js : List Job) × Describes asked board js × (length p.shares ≡ length js)
PlannedOrRefused asked (Some (refused number place)) = TextListed asked number place

module _ (asked : List ℕ) {bytes : List ℕ} (answer : bytes ≡ answer_text asked) where
  said : said_of bytes ≡ Some (answer_of asked)
  said = rw answer (answer-said asked)

  -- Any text at all is planned or refused by number and place, and says so.
  pub any-text-answered : PlannedOrRefused asked (said_of bytes)
  any-text-answered = rw said (go (input_of asked) refl)
    where
      of : (input : Input) → input_of asked ≡ given input → (y : Answer Plan) → planned input ≡ y → PlannedOrRefused asked (Some y)
      of input set (given p) is = (
        input.board,
        input.jobs,
        set,
        all-done-length input.board.window 1 input.jobs p.shares
            (plan-kept input.board (length input.jobs) input.jobs jobs_most slices_most is).whole.done,
      )
      of input set (refused number place) is = answer-listed asked number place (rw set is)

      go : (x : Answer Input) → input_of asked ≡ x → PlannedOrRefused asked (Some (and_then x planned))
      go (given input) set = of input set (planned input) refl
      go (refused number place) is = answer-listed asked number place (rw is)

  -- A refusal is given exactly when its line of the list applies: to the text, or to the set that it describes.
  pub refused-exactly : {number place : ℕ} → (said_of bytes ≡ Some (refused number place)) ↔ TextListed asked number place
  refused-exactly = (λ says. rw says at any-text-answered, λ listed. said ∙ rw (listed_answer asked listed))

  -- The numbers of a refusal are 1 to 10 without 7, which a count of 0 stands for, and 14 to 16. No place is above the last line that is read, 66.
  pub refusal-small : {number place : ℕ} → said_of bytes ≡ Some (refused number place) → SmallRefusal number place
  refusal-small says = text-listed-small (refused-exactly.0 says)

  module _ {board : Board} {js : List Job} (describes : Describes asked board js) where
    -- Plan or refusal, the bytes say what the rules give for the set that the text describes (plan_of, in the specs of columns).
    pub said-of-rules : said_of bytes ≡ Some (planned (record { board = board; jobs = js }))
    said-of-rules = rw describes at said

    told : {x : Answer Plan} → said_of bytes ≡ Some x → planned (record { board = board; jobs = js }) ≡ x
    told says = let same = sym said-of-rules ∙ says in cc

    -- ==== Demand 2. Split and slices are those of the rules. In every accepted plan each job gets its whole work, no core runs two jobs at
    -- once, no job is in two places at once.
    module _ {p : Plan} (says : said_of bytes ≡ Some (given p)) where
      -- The split is that of the rules (Hetero-Split: split's specs), and so are the slices, row by row (Hetero-Wrap: slices' specs).
      pub split-of-rules : shares_of board (length js) js ≡ given p.shares
      split-of-rules = (plan-shares board (length js) js jobs_most slices_most (told says)).0

      pub slices-of-rules : p.slices ≡ table_of board.window p.shares
      slices-of-rules = (plan-shares board (length js) js jobs_most slices_most (told says)).1

      kept : GoodPlan board js p.shares p.slices
      kept = plan-kept board (length js) js jobs_most slices_most (told says)

      shares-all : length p.shares ≡ length js
      shares-all = all-done-length board.window 1 js p.shares kept.whole.done

      -- Row i of the slices, and the share of job j.
      abbrev row : ℕ → Slice
      row i = get_or p.slices i no_slice

      abbrev share_of : ℕ → Ticks
      share_of j = get_or p.shares j (share 0 0)

      -- Each job gets its whole work: its share, in whole ticks, does it,
      pub job-whole : (j : ℕ) → j < length js → DoneBy board.window 1 (get_or js j no_job) (share_of j)
      job-whole j l = all-done-at board.window 1 no_job (share 0 0) js p.shares j l kept.whole.done

      -- the lengths of its slices on each kind add up to the share,
      pub job-served : (kind : Kind) (j : ℕ) → j < length js → ticks_in kind j p.slices ≡ ticks_on kind (share_of j)
      job-served kind j l = kept.timetable.served kind j (omega (arith, shares-all))

      -- and each slice is of a job of the set, inside the window, and on a core that the board has.
      pub slice_inside : (i : ℕ) → i < length p.slices → Inside board (length js) (row i)
      slice_inside i l = rw shares-all at (all-at (Inside board (length p.shares)) no_slice p.slices i l kept.timetable.inside)

      -- No core runs two jobs at once: no tick is in two rows of one core.
      pub core-one-job : (i k tick : ℕ) → i < k → k < length p.slices → SameCore (row i) (row k) → Runs (row i) tick → Runs (row k) tick → ⊥
      core-one-job i k tick l m same = pairs-at _ no_slice p.slices i k l m kept.timetable.cores same tick

      -- No job is in two places at once: no tick is in two rows of one job.
      pub job-one-place : (i k tick : ℕ) → i < k → k < length p.slices → (row i).job ≡ (row k).job → Runs (row i) tick → Runs (row k) tick → ⊥
      job-one-place i k tick l m same = pairs-at _ no_slice p.slices i k l m kept.timetable.jobs same tick

      -- At most m1 + m2 jobs move, at most one of them is not even, and there are at most n + 2·(m1 + m2) − 2 slices.
      pub movers-few : movers p.shares ≤ board.first + board.second
      movers-few = kept.few-movers

      pub one-uneven : unevens board.window p.shares ≤ 1
      one-uneven = kept.one-uneven

      pub slices-few : length p.slices + 2 ≤ length js + 2 * (board.first + board.second)
      slices-few = kept.few

    -- ==== Demand 3. A legal set is refused for room only if no split exists, even in fractions of ticks, on a board with one tick fewer
    -- per window for each stretched job on the kind where it fits. With no stretched job, exactly when no split exists at all.
    -- The room of a kind, with one tick fewer for each stretched job that fits there.
    abbrev less : Kind → ℕ
    less kind = room_of board kind - stretched_on board js kind

    for-room : room_said (said_of bytes) ≡ room_refusal (shares_of board (length js) js)
    for-room = rw said-of-rules (plan-room board (length js) js jobs_most slices_most)

    -- Refused for room only if no split exists on the smaller board.
    pub room-only : room_said (said_of bytes) ≡ true → Split board.window (less First) (less Second) js → ⊥
    room-only = rw for-room (only board (length js) js)

    -- With no stretched job, exactly when no split exists at all.
    pub room-exactly : legal_of board (length js) js ≡ given tt
        → stretched_on board js First ≡ 0 → stretched_on board js Second ≡ 0
        → (room_said (said_of bytes) ≡ true)
        ↔ (Split board.window (room_of board First) (room_of board Second) js → ⊥)
    room-exactly = rw for-room (exactly board (length js) js)

    -- ==== Which kind was short. A refusal for room is one of four, and each of a legal set is given exactly for its cause (split's
    -- specs/Causes.antt). At most one of these causes applies (`room-once` on the page of the split).
    module _ (legal : legal_of board (length js) js ≡ given tt) where
      law : Lawful board (length js) js
      law = legal-lawful board (length js) js legal

      caused : {number place : ℕ} → (number ≡ 7 → ⊥) → (said_of bytes ≡ Some (refused number place)) ↔ RoomCause board js number place
      caused not-space = (
        λ says. listed-cause board js jobs_most slices_most law not-space (plan-listed board js jobs_most slices_most _ _ (told says)),
        λ cause. said-of-rules ∙ ap Some (listed-plan board js jobs_most slices_most (room law cause)),
      )

      -- 6: both kinds are over at home.
      pub by-six : (said_of bytes ≡ Some (refused 6 0)) ↔ BothOver board js
      by-six = Iff.trans (caused (λ e. omega arith)) (six board js)

      -- 14: the first kind alone is over at home, and so it is with all its movable jobs at their far ends. 15: the same of the second.
      pub by-fourteen : (said_of bytes ≡ Some (refused 14 0)) ↔ StillOver board js First
      by-fourteen = Iff.trans (caused (λ e. omega arith)) (fourteen board js)

      pub by-fifteen : (said_of bytes ≡ Some (refused 15 0)) ↔ StillOver board js Second
      by-fifteen = Iff.trans (caused (λ e. omega arith)) (fifteen board js)

      -- 16: one kind alone is over at home, and is not with all its movable jobs at their far ends, but the other is over where the steps
      -- stopped. The one is then exactly full (`sixteen-full` on the page of the split).
      pub by-sixteen : (said_of bytes ≡ Some (refused 16 0)) ↔ ((kind : Kind) × OtherOver board js kind)
      by-sixteen = Iff.trans (caused (λ e. omega arith)) (sixteen board js)

  -- Only a text that describes a set is refused for room.
  pub room-described : room_said (said_of bytes) ≡ true → (board : Board) × (js : List Job) × Describes asked board js
  room-described e = go (answer_of asked) refl (rw said at e)
    where
      -- No refusal of a line has such a number.
      of-set-only : {number place : ℕ} → TextListed asked number place → room_refusal {A = Plan} (refused number place) ≡ true
          → (board : Board) × (js : List Job) × Describes asked board js
      of-set-only (over cause) e = absurd (false≢true e)
      of-set-only (digits i at cause) e = absurd (false≢true e)
      of-set-only (unknown i r at is cause) e = absurd (false≢true e)
      of-set-only (job-first j at cause) e = absurd (false≢true e)
      of-set-only (board-later i b at later cause) e = absurd (false≢true e)
      of-set-only (empty cause) e = absurd (false≢true e)
      of-set-only (many j at cause) e = absurd (false≢true e)
      of-set-only (of-set input is few not-space listed) e = (input.board, input.jobs, is)

      go : (x : Answer Plan) → answer_of asked ≡ x → room_refusal x ≡ true → (board : Board) × (js : List Job) × Describes asked board js
      go (given p) is e = absurd (false≢true e)
      go (refused number place) is e = of-set-only (answer-listed asked number place is) e

-- So every call from C with bytes enough gives a plan or a refusal, and the theorems above hold of what it says.
pub entry-answered : {asked before after : List ℕ} {count : ℕ} → Entered asked before after count → 0 < count
    → PlannedOrRefused asked (said_of (take count after))
entry-answered {asked} p above = any-text-answered asked (entry-answer p above)
