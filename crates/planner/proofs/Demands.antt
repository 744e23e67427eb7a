-- The three demands, in their own words, of every call of `plan`: whatever the board, the jobs and the lent tables, and whatever the call
-- answers. Read this page first. Each theorem starts from the promise in `plan`'s contract, `Promised`, and from nothing else: the call is
-- given the jobs js and tables that hold ss and ls, it answers r, and the tables then hold ss' and ls'.
-- The words are those of the model: DoneBy (one job's work), Runs (a tick of a slice), SameCore, ticks_in, Split. Assumes nothing.
use mathlib.Core.Bool.{true}
use mathlib.Core.List.{List, map}
use mathlib.Core.Logic.Iff
use mathlib.Core.Logic.{◌↔◌, ◌⊎◌, inl, inr, ⊎_elim}
use mathlib.Core.Path.{◌≡◌, refl, sym, ap, ◌∙◌}
use Prim.Native.Nat.{ℕ, ◌+◌, ◌-◌, ◌*◌, ◌≤◌, ◌<◌}
use native.Mathlib.Omega.{arith}
use lib.ListN.{length, take, drop, get_or, length-take, length-map, get_or-map}
use lib.Seq.{get_or-take}
use Rattle.std.specs.Prelude.{Result, Ok, Err}
use Rattle.rows.proofs.Lists.{all-at}
use Rattle.model.specs.Board.{room_of}
use Rattle.model.specs.Empty.{no_job, no_share, no_slice}
use Rattle.model.specs.Limits.{jobs_most}
use Rattle.model.specs.Movers.{movers, unevens}
use Rattle.model.specs.Refusal.{Answer, given, refused, number_of, place_of, says, room_refusal}
use Rattle.model.specs.ShareRow.{ticks_of_row}
use Rattle.model.specs.Split.{Ticks, share, ticks_on, DoneBy, Split}
use Rattle.model.specs.Timetable.{Runs, SameCore, Inside, ticks_in}
use Rattle.model.specs.declared.Kind.{Kind}
use Rattle.model.specs.declared.Kind.TheVariants.{First, Second}
use Rattle.model.specs.declared.Board.{Board}
use Rattle.model.specs.declared.Job.{Job}
use Rattle.model.specs.declared.Refusal.{Refusal}
use Rattle.model.specs.declared.Share.{Share}
use Rattle.model.specs.declared.Slice.{Slice}
use Rattle.model.proofs.Splits.{all-done-at}
use Rattle.legal.specs.Lawful.{Lawful}
use Rattle.legal.specs.Legal.{legal_of}
use Rattle.legal.proofs.Lawful.{legal-lawful}
use Rattle.split.specs.Causes.{BothOver, StillOver, OtherOver, RoomCause}
use Rattle.split.specs.Promise.{stretched_on, SmallerSplit}
use Rattle.split.specs.Shares.{shares_of}
use Rattle.split.proofs.Causes.{six, fourteen, fifteen, sixteen, cause-numbered}
use Rattle.split.proofs.Demands.{cause-room}
use Rattle.columns.specs.Plan.{plan_of, counts_in}
use Rattle.columns.specs.Promise.{Columned}
use Rattle.columns.specs.declared.Counts.{Counts}
use Rattle.planner.specs.Listed.{BadCost, TooLong, LowestOf, ShortTables, Listed, window, cores, many, cost, long, room, space}
use Rattle.planner.specs.Promise.{Promised}
use Rattle.planner.proofs.Causes.{plan-listed, listed-plan, listed-cause, short-tables, lawful-left}
use Rattle.planner.proofs.FromPromise.{plan-there, rows-pair, refusal-by-rules}
use Rattle.planner.proofs.Lent.{counts-room, plan-room, room-alike}

-- ==== Demand 1. Any input at all is planned or refused by number and place. Nothing is left to the caller to check, every call ends, a
-- refusal changes no entry of the lent tables.
-- That nothing is left to check and that every call ends is what the contract of `plan` is: it has no `requires`, and a proof of it is a
-- proof that the call ends.

-- A plan with a share for each job, or a refusal by number and place, with its cause, as `Listed` says it.
abbrev pub PlannedOrRefused : Board → List Job → (m k : ℕ) → Answer Counts → Type 0
PlannedOrRefused board js m k (given counts) = counts.jobs ≡ length js
PlannedOrRefused board js m k (refused number place) = Listed board js m k number place

-- The numbers are 1 to 7 and 14 to 16, and no place is above the most jobs of a set.
pub listed_small : {board : Board} {js : List Job} {m k number place : ℕ} → Listed board js m k number place
    → (1 ≤ number) × ((number ≤ 7) ⊎ (14 ≤ number)) × (number ≤ 16) × (place ≤ jobs_most)
listed_small (window cause) = (omega arith, inl (omega arith), omega arith, omega arith)
listed_small (cores short cause) = (omega arith, inl (omega arith), omega arith, omega arith)
listed_small (many sound cause) = (omega arith, inl (omega arith), omega arith, omega arith)
listed_small (cost job lowest sound few) = (omega arith, inl (omega arith), omega arith, omega (arith, lowest.there))
listed_small (long job lowest sound few costs) = (omega arith, inl (omega arith), omega arith, omega (arith, lowest.there))
listed_small (room law cause) =
    let its = cause-numbered cause in
    (⊎_elim (λ six. omega arith) (λ more. omega arith) its.0, ⊎_elim (λ six. inl (omega arith)) inr its.0, its.1, omega (arith, its.2))
listed_small (space ss law is cause) = (omega arith, inl (omega arith), omega arith, omega arith)

module _ {board : Board} {js : List Job} {ss ss' : List Share} {ls ls' : List Slice} where
  -- Any input at all is planned or refused by number and place.
  pub any-input-answered : (r : Result Counts Refusal) → Promised board js ss ls r ss' ls' → PlannedOrRefused board js (length ss) (length ls) (says r)
  any-input-answered (Ok c) p = (plan-there p).all
  any-input-answered (Err refusal) p =
      plan-listed board js (length ss) (length ls) (number_of refusal) (place_of refusal) (refusal-by-rules p)

  module _ {r : Result Counts Refusal} (p : Promised board js ss ls r ss' ls') where
    -- A refusal is given exactly when its line of the table applies, and no line above it.
    pub refused-exactly : {number place : ℕ} → (says r ≡ refused number place) ↔ Listed board js (length ss) (length ls) number place
    refused-exactly = (
      λ e. rw e at (any-input-answered r p),
      λ listed. p.answer ∙ ap counts_in (listed-plan board js (length ss) (length ls) listed),
    )

    -- So the place of refusal 4 is the lowest job with a cost outside the limits, and that of refusal 5 the lowest that is too long.
    pub lowest-cost : {job : ℕ} → says r ≡ refused 4 job → LowestOf BadCost js job
    lowest-cost e = of_four (refused-exactly.0 e)
      where
        of_four : {m k job : ℕ} → Listed board js m k 4 job → LowestOf BadCost js job
        of_four (cost job lowest sound few) = lowest
        of_four (room law cause) = elim cause [ ]

    pub lowest-long : {job : ℕ} → says r ≡ refused 5 job → LowestOf (TooLong board.window) js job
    lowest-long e = of-five (refused-exactly.0 e)
      where
        of-five : {m k job : ℕ} → Listed board js m k 5 job → LowestOf (TooLong board.window) js job
        of-five (long job lowest sound few costs) = lowest
        of-five (room law cause) = elim cause [ ]

    -- Tables with a row for each job and for the most slices of the set are never refused.
    pub space-only : says r ≡ refused 7 0 → ShortTables board js (length ss) (length ls)
    space-only e = of-seven (refused-exactly.0 e)
      where
        of-seven : {m k : ℕ} → Listed board js m k 7 0 → ShortTables board js m k
        of-seven {m} {k} (space shares law is cause) = short-tables board js m k shares law is cause
        of-seven (room law cause) = elim cause [ ]

  -- A refusal changes no entry of the lent tables.
  pub refusal-changes-nothing : {refusal : Refusal} → Promised board js ss ls (Err refusal) ss' ls' → (ss' ≡ ss) × (ls' ≡ ls)
  refusal-changes-nothing p = p.demand1

  -- ==== Demand 2. Every accepted plan is the one of Hetero-Split and Hetero-Wrap as SPEC states them. In it each job gets its whole work,
  -- no core runs two jobs at once, no job is in two places at once.
  module _ {c : Counts} (p : Promised board js ss ls (Ok c) ss' ls') where
    -- There is a share for each job, and as many rows as are counted are in the tables.
    pub rows-there : (c.jobs ≡ length js) × (c.jobs ≤ length ss') × (c.slices ≤ length ls')
    rows-there = (
      (plan-there p).all,
      omega (arith, (plan-there p).share-rows, length-take c.jobs ss'),
      omega (arith, (plan-there p).slice_rows, length-take c.slices ls'),
    )

    -- The rows that are counted are those of the rules, one by one: `plan_of` is the steps of the split, and the table of their shares.
    pub rows-by-rules : plan_of board (length js) js (length ss) (length ls) ≡ given (record { shares = map ticks_of_row (take c.jobs ss'); slices = take c.slices ls' })
    rows-by-rules = (plan-there p).by-rules

    -- The rows past them stay as they were.
    pub rows-past : (drop c.jobs ss' ≡ drop c.jobs ss) × (drop c.slices ls' ≡ drop c.slices ls)
    rows-past = ((plan-there p).shares-past, (plan-there p).slices-past)

    -- At most m1 + m2 jobs move, at most one of them is not even, and there are at most n + 2·(m1 + m2) − 2 slices.
    pub movers-few : movers (map ticks_of_row (take c.jobs ss')) ≤ board.first + board.second
    movers-few = p.demand2.few-movers

    pub one-uneven : unevens board.window (map ticks_of_row (take c.jobs ss')) ≤ 1
    one-uneven = p.demand2.one-uneven

    pub slices-few : c.slices + 2 ≤ length js + 2 * (board.first + board.second)
    slices-few = omega (arith, p.demand2.few, (plan-there p).slice_rows)

    -- Row i of the table of slices, and the share of job j.
    abbrev row : ℕ → Slice
    row i = get_or ls' i no_slice

    abbrev share_of : ℕ → Ticks
    share_of j = ticks_of_row (get_or ss' j no_share)

    share-at : (j : ℕ) → j < length js → get_or (map ticks_of_row (take c.jobs ss')) j (share 0 0) ≡ share_of j
    share-at j l = get_or-map ticks_of_row (take c.jobs ss') j no_share ∙ ap ticks_of_row (get_or-take c.jobs ss' j no_share (omega (arith, (plan-there p).all)))

    -- Each job gets its whole work: its share, in whole ticks, does it,
    pub job-whole : (j : ℕ) → j < length js → DoneBy board.window 1 (get_or js j no_job) (share_of j)
    job-whole j l =
        rw (share-at j l) at (all-done-at board.window 1 no_job (share 0 0) js (map ticks_of_row (take c.jobs ss')) j l p.demand2.whole.done)

    -- the lengths of its slices on each kind add up to the share,
    pub job-served : (kind : Kind) (j : ℕ) → j < length js → ticks_in kind j (take c.slices ls') ≡ ticks_on kind (share_of j)
    job-served kind j l =
        rw (share-at j l) at
        (p.demand2.timetable.served kind j (omega (arith, (plan-there p).all, (plan-there p).share-rows, length-map (take c.jobs ss') ticks_of_row)))

    -- and each slice is of a job of the set, inside the window, and on a core that the board has.
    pub slice_inside : (i : ℕ) → i < c.slices → Inside board (length js) (row i)
    slice_inside i l =
        rw (get_or-take c.slices ls' i no_slice l, length-map (take c.jobs ss') ticks_of_row, (plan-there p).share-rows, (plan-there p).all) at
        (all-at (Inside board (length (map ticks_of_row (take c.jobs ss')))) no_slice (take c.slices ls') i (omega (arith, (plan-there p).slice_rows))
        p.demand2.timetable.inside)

    -- No core runs two jobs at once: no tick is in two rows of one core.
    pub core-one-job : (i k tick : ℕ) → i < k → k < c.slices → SameCore (row i) (row k) → Runs (row i) tick → Runs (row k) tick → ⊥
    core-one-job i k tick l m same = rows-pair p _ p.demand2.timetable.cores i k l m same tick

    -- No job is in two places at once: no tick is in two rows of one job.
    pub job-one-place : (i k tick : ℕ) → i < k → k < c.slices → (row i).job ≡ (row k).job → Runs (row i) tick → Runs (row k) tick → ⊥
    job-one-place i k tick l m same = rows-pair p _ p.demand2.timetable.jobs i k l m same tick

  -- ==== Demand 3. A legal set is refused for room only if no split exists, even in fractions of ticks, on a board with one tick fewer
  -- per window for each stretched job on the kind where it fits. With no stretched job, exactly when no split exists at all.
  module _ {r : Result Counts Refusal} (p : Promised board js ss ls r ss' ls') where
    -- The room of a kind, with one tick fewer for each stretched job that fits there.
    abbrev less : Kind → ℕ
    less kind = room_of board kind - stretched_on board js kind

    shares-refused : room_refusal (says r) ≡ true → room_refusal (shares_of board (length js) js) ≡ true
    shares-refused e =
        let plan = plan_of board (length js) js (length ss) (length ls) in
        sym (counts-room plan ∙ plan-room board (length js) js (length ss) (length ls)) ∙ (rw p.answer at e)

    -- Refused for room only if no split exists on the smaller board: of any set, for one that is not legal has another refusal.
    pub room-only : room_refusal (says r) ≡ true → Split board.window (less First) (less Second) js → ⊥
    room-only = p.demand3.only

    -- With no stretched job, exactly when no split exists at all.
    pub room-exactly : legal_of board (length js) js ≡ given tt → stretched_on board js First ≡ 0 → stretched_on board js Second ≡ 0
        → (room_refusal (says r) ≡ true) ↔ (Split board.window (room_of board First) (room_of board Second) js → ⊥)
    room-exactly = p.demand3.exactly

    -- ==== Which kind was short. A refusal for room is one of four, and each of a legal set is given exactly for its cause (split's
    -- specs/Causes.antt). At most one of these causes applies (`room-once` on the page of the split).
    module _ (legal : legal_of board (length js) js ≡ given tt) where
      law : Lawful board (length js) js
      law = legal-lawful board (length js) js legal

      caused : {number place : ℕ} → (number ≡ 7 → ⊥) → (says r ≡ refused number place) ↔ RoomCause board js number place
      caused not-space =
          (λ e. listed-cause board js (length ss) (length ls) law not-space ((refused-exactly p).0 e), λ cause. (refused-exactly p).1 (room law cause))

      -- 6: both kinds are over at home.
      pub by-six : (says r ≡ refused 6 0) ↔ BothOver board js
      by-six = Iff.trans (caused (λ e. omega arith)) (six board js)

      -- 14: the first kind alone is over at home, and so it is with all its movable jobs at their far ends. 15: the same of the second.
      pub by-fourteen : (says r ≡ refused 14 0) ↔ StillOver board js First
      by-fourteen = Iff.trans (caused (λ e. omega arith)) (fourteen board js)

      pub by-fifteen : (says r ≡ refused 15 0) ↔ StillOver board js Second
      by-fifteen = Iff.trans (caused (λ e. omega arith)) (fifteen board js)

      -- 16: one kind alone is over at home, and is not with all its movable jobs at their far ends, but the other is over where the steps
      -- stopped. The one is then exactly full (`sixteen-full` on the page of the split).
      pub by-sixteen : (says r ≡ refused 16 0) ↔ ((kind : Kind) × OtherOver board js kind)
      by-sixteen = Iff.trans (caused (λ e. omega arith)) (sixteen board js)

    -- Which of them refuses a set does not depend on the lent tables: with others, or as columns, it is refused alike.
    pub room-any-tables : {ts ts' : List Share} {ms ms' : List Slice} {q : Result Counts Refusal} → Promised board js ts ms q ts' ms'
        → room_refusal (says r) ≡ true → says q ≡ says r
    room-any-tables other e = rw (other.answer, p.answer) (room-alike (shares_of board (length js) js) _ _ (shares-refused e))

    pub room-any-columns : {s1 s2 rows s1' s2' rows' : List ℕ} {q : Result Counts Refusal} → Columned board (length js) js s1 s2 rows q s1' s2' rows'
        → room_refusal (says r) ≡ true → says q ≡ says r
    room-any-columns other e = rw (other.says, p.answer) (room-alike (shares_of board (length js) js) _ _ (shares-refused e))

  -- Demands 1 and 3 together: a lawful set that has a split on the smaller board is planned, in tables that are long enough.
  pub split-planned : (r : Result Counts Refusal) → Promised board js ss ls r ss' ls' → Lawful board (length js) js → SmallerSplit board js
      → (ShortTables board js (length ss) (length ls) → ⊥) → (c : Counts) × (r ≡ Ok c)
  split-planned (Ok c) p _ _ _ = (c, refl)
  split-planned (Err refusal) p law split enough =
      absurd (⊎_elim (λ cause. room-only p (cause-room cause) split) enough
      (lawful-left board js (length ss) (length ls) law (any-input-answered (Err refusal) p)))
