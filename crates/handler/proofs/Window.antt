-- The tick handler over a whole window, when its table came from the planner. Read this page first. Each theorem starts from two promises and from
-- nothing else: that of the planning call, which answered with a plan of so many jobs and slices, and that of the handler, of each of its calls.
-- Of the planner its specs and its public laws are cited, of its code nothing. At the end: the position, from the promise of the call that moves it.
-- The words: `said tick kind core` is what `job_at` answered when it was asked for that tick, kind and core; `sum_below` adds up over the numbers
-- below another; `kind_number` is the number of a kind. Assumes nothing.
use mathlib.Core.Bool.{cond}
use mathlib.Core.List.{List, map}
use mathlib.Core.Path.{◌≡◌, refl, sym, ap, ◌∙◌}
use Prim.Native.Nat.{ℕ, ◌+◌, ◌*◌, ◌<◌}
use native.Mathlib.Omega.{arith}
use lib.Dec.{eqb}
use lib.ListN.{length, take, get_or}
use Rattle.std.specs.Prelude.{Option, None, Some, Result, Ok, Err}
use Rattle.rows.specs.Numbered.{sum_below}
use Rattle.rows.specs.Upto.{at}
use Rattle.rows.proofs.Never.{never}
use Rattle.rows.proofs.Numbered.{below-same}
use Rattle.model.specs.Board.{on, cores_of}
use Rattle.model.specs.Columns.{jobs_in}
use Rattle.model.specs.Empty.{no_share}
use Rattle.model.specs.Limits.{window_most}
use Rattle.model.specs.Packed.{kind_number, pack_of}
use Rattle.model.specs.Refusal.{given, says}
use Rattle.model.specs.ShareRow.{ticks_of_row}
use Rattle.model.specs.Split.{Ticks, share, ticks_on}
use Rattle.model.specs.declared.Kind.{Kind}
use Rattle.model.specs.declared.Board.{Board}
use Rattle.model.specs.declared.Job.{Job}
use Rattle.model.specs.declared.Refusal.{Refusal}
use Rattle.model.specs.declared.Share.{Share}
use Rattle.model.specs.declared.Slice.{Slice}
use Rattle.legal.proofs.CheckByCheck.{Within}
use Rattle.columns.specs.Promise.{Columned}
use Rattle.planner.specs.Promise.{Promised}
use Rattle.handler.specs.Check.{check_of}
use Rattle.handler.specs.Position.{MovesOn}
use Rattle.handler.specs.Running.{asked_of}
use Rattle.handler.proofs.AtTick.{running, resting}
use Rattle.handler.proofs.FromPlanner.{columns-counts, columns-tabled, columns-share, lent-counts, lent-tabled, lent-share}
use Rattle.handler.proofs.Round.{round-passes, round-back, round-moved, refused-kept}
use Rattle.handler.proofs.Tabled.{Tabled, table-passes, asked-rows, asked-window, asked-idle, asked-job, asked-place}

-- 1 where an answer names a job, else 0.
abbrev pub names : ℕ → Result (Option ℕ) Refusal → ℕ
names job (Ok (Some other)) = cond (eqb other job) 1 0
names job (Ok None) = 0
names job (Err refusal) = 0

-- 1 where an answer is that nothing runs, else 0.
abbrev pub is_idle : Result (Option ℕ) Refusal → ℕ
is_idle (Ok (Some job)) = 0
is_idle (Ok None) = 1
is_idle (Err refusal) = 0

-- At how many ticks of the window and cores of a kind a job is named, and at how many none is.
abbrev pub times_named : Board → ((tick kind core : ℕ) → Result (Option ℕ) Refusal) → Kind → ℕ → ℕ
times_named board said kind job =
    sum_below board.window (λ (tick : ℕ). sum_below (cores_of board kind) (λ (core : ℕ). names job (said tick (kind_number kind) core)))

abbrev pub times_idle : Board → ((tick kind core : ℕ) → Result (Option ℕ) Refusal) → Kind → ℕ
times_idle board said kind =
    sum_below board.window (λ (tick : ℕ). sum_below (cores_of board kind) (λ (core : ℕ). is_idle (said tick (kind_number kind) core)))

-- What `job_at` promises of each call, by the table that it is given.
abbrev pub Answered : Board → List ℕ → ((tick kind core : ℕ) → Result (Option ℕ) Refusal) → Type 0
Answered board table said = (tick kind core : ℕ) → says (said tick kind core) ≡ asked_of board table tick kind core

names-running : (job : ℕ) (named : Result (Option ℕ) Refusal) → names job named ≡ running job (says named)
names-running job (Ok (Some other)) = refl
names-running job (Ok None) = refl
names-running job (Err refusal) = refl

idle-resting : (named : Result (Option ℕ) Refusal) → is_idle named ≡ resting (says named)
idle-resting (Ok (Some job)) = refl
idle-resting (Ok None) = refl
idle-resting (Err refusal) = refl

-- What is the same of both calls: a table that holds a timetable of shares.
module _ {board : Board} {ss : List Ticks} {rows : List Slice} {table : List ℕ} (t : Tabled board ss rows table)
    (said : (tick kind core : ℕ) → Result (Option ℕ) Refusal) (answers : Answered board table said) where
  named-window : (kind : Kind) (job : ℕ) → job < length ss → times_named board said kind job ≡ ticks_on kind (get_or ss job (share 0 0))
  named-window kind job l =
      below-same _ _ board.window (λ tick _.
      below-same _ _ (cores_of board kind) (λ core _. names-running job (said tick _ core) ∙ ap (running job) (answers tick _ core))) ∙
      asked-window t kind job l

  idle-window : (kind : Kind)
      → times_idle board said kind + sum_below (length ss) (λ (job : ℕ). ticks_on kind (get_or ss job (share 0 0)))
      ≡ cores_of board kind * board.window
  idle-window kind =
      omega (
        arith,
        below-same _ _ board.window (λ tick _.
            below-same _ _ (cores_of board kind) (λ core _. idle-resting (said tick _ core) ∙ ap resting (answers tick (kind_number kind) core))),
        asked-idle t kind,
      )

  not-refused : (kind : Kind) (tick core : ℕ) → tick < board.window → core < cores_of board kind → (refusal : Refusal)
      → said tick (kind_number kind) core ≡ Err refusal → ⊥
  not-refused kind tick core before there refusal e =
      let answer = sym (answers tick (kind_number kind) core) ∙ ap says e in
      let rows-say = asked-rows t kind tick core before there in
      never (cc)

  heard : (tick kind core job : ℕ) → said tick kind core ≡ Ok (Some job) → asked_of board table tick kind core ≡ given (Some job)
  heard tick kind core job e = sym (answers tick kind core) ∙ ap says e

  named-job : (tick kind core job : ℕ) → said tick kind core ≡ Ok (Some job) → job < length ss
  named-job tick kind core job e = asked-job t tick kind core job (heard tick kind core job e)

  named-place : (tick job kind core kind' core' : ℕ) → said tick kind core ≡ Ok (Some job) → said tick kind' core' ≡ Ok (Some job)
      → (kind ≡ kind') × (core ≡ core')
  named-place tick job kind core kind' core' e f =
      asked-place t tick job kind core kind' core' (heard tick kind core job e) (heard tick kind' core' job f)

-- ==== The table of a call of `columns::plan_columns`: two columns of costs, of n jobs, and what its columns held before it and hold after it, with
-- a prime. It answered that it planned so many jobs and slices; the slices at the front of its column are the handler's table.
module _ {board : Board} {n : ℕ} (costs1 costs2 : List ℕ) {s1 s2 rows s1' s2' rows' : List ℕ} {jobs slices : ℕ}
    (planned : Columned board n (jobs_in n costs1 costs2) s1 s2 rows (Ok (record { jobs = jobs; slices = slices })) s1' s2' rows') where
  -- The table passes every check, so that neither 12 nor 13 is ever given for it.
  pub table_runs : check_of board (take slices rows') ≡ given tt
  table_runs = table-passes (columns-tabled costs1 costs2 planned)

  module _ (said : (tick kind core : ℕ) → Result (Option ℕ) Refusal) (answers : Answered board (take slices rows') said) where
    -- Over one whole window each job is named on each kind for exactly its share.
    pub over-a-window : (kind : Kind) (job : ℕ) → job < jobs → times_named board said kind job ≡ on kind (at s1' job) (at s2' job)
    over-a-window kind job l =
        named-window (columns-tabled costs1 costs2 planned) said answers kind job (omega (arith, columns-counts costs1 costs2 planned)) ∙
        columns-share costs1 costs2 planned kind job l

    -- At all other ticks the cores of a kind are idle: with the shares of all jobs that is every tick of every core.
    pub idle-over-a-window : (kind : Kind)
        → times_idle board said kind + sum_below jobs (λ (job : ℕ). on kind (at s1' job) (at s2' job)) ≡ cores_of board kind * board.window
    idle-over-a-window kind =
        omega (
          arith,
          rw (← (columns-counts costs1 costs2 planned).0) at (idle-window (columns-tabled costs1 costs2 planned) said answers kind),
          below-same _ _ jobs (columns-share costs1 costs2 planned kind),
        )

    -- No core of the board is refused at a tick of the window.
    pub never-refused : (kind : Kind) (tick core : ℕ) → tick < board.window → core < cores_of board kind → (refusal : Refusal)
        → said tick (kind_number kind) core ≡ Err refusal → ⊥
    never-refused = not-refused (columns-tabled costs1 costs2 planned) said answers

    -- A job that is named is one of those that were planned.
    pub only-jobs : (tick kind core job : ℕ) → said tick kind core ≡ Ok (Some job) → job < jobs
    only-jobs tick kind core job e =
        omega (arith, named-job (columns-tabled costs1 costs2 planned) said answers tick kind core job e, columns-counts costs1 costs2 planned)

    -- At one tick no job is named on two cores, be they of one kind or of both.
    pub one_place : (tick job kind core kind' core' : ℕ) → said tick kind core ≡ Ok (Some job) → said tick kind' core' ≡ Ok (Some job)
        → (kind ≡ kind') × (core ≡ core')
    one_place = named-place (columns-tabled costs1 costs2 planned) said answers

-- ==== The same of a call of `planner::plan`, over lent tables of records: the jobs js, and what its tables held before it and hold after it. The
-- handler's table is the column of the numbers of its slices.
module _ {board : Board} {js : List Job} {ss ss' : List Share} {ls ls' : List Slice} {jobs slices : ℕ}
    (planned : Promised board js ss ls (Ok (record { jobs = jobs; slices = slices })) ss' ls') where
  pub lent-table-runs : check_of board (map pack_of (take slices ls')) ≡ given tt
  lent-table-runs = table-passes (lent-tabled planned)

  module _ (said : (tick kind core : ℕ) → Result (Option ℕ) Refusal) (answers : Answered board (map pack_of (take slices ls')) said) where
    pub lent-over-a-window : (kind : Kind) (job : ℕ) → job < jobs
        → times_named board said kind job ≡ ticks_on kind (ticks_of_row (get_or ss' job no_share))
    lent-over-a-window kind job l =
        named-window (lent-tabled planned) said answers kind job (omega (arith, lent-counts planned)) ∙ lent-share planned kind job l

    pub lent-idle-over-a-window : (kind : Kind)
        → times_idle board said kind + sum_below jobs (λ (job : ℕ). ticks_on kind (ticks_of_row (get_or ss' job no_share)))
        ≡ cores_of board kind * board.window
    lent-idle-over-a-window kind =
        omega (
          arith,
          rw (lent-counts planned) at (idle-window (lent-tabled planned) said answers kind),
          below-same _ _ jobs (lent-share planned kind),
        )

    pub lent-never-refused : (kind : Kind) (tick core : ℕ) → tick < board.window → core < cores_of board kind → (refusal : Refusal)
        → said tick (kind_number kind) core ≡ Err refusal → ⊥
    lent-never-refused = not-refused (lent-tabled planned) said answers

    pub lent-only-jobs : (tick kind core job : ℕ) → said tick kind core ≡ Ok (Some job) → job < jobs
    lent-only-jobs tick kind core job e = omega (arith, named-job (lent-tabled planned) said answers tick kind core job e, lent-counts planned)

    pub lent-one-place : (tick job kind core kind' core' : ℕ) → said tick kind core ≡ Ok (Some job) → said tick kind' core' ≡ Ok (Some job)
        → (kind ≡ kind') × (core ≡ core')
    lent-one-place = named-place (lent-tabled planned) said answers

-- ==== The position, which is moved on again and again from 0: p i is where it stands after i calls of `move_on`, and r i is what call i answered.
module _ (window : ℕ) (legal : Within window_most window) (p : ℕ → ℕ) (r : ℕ → Result (Unit {0}) Refusal) (start : p 0 ≡ 0)
    (moves : (i : ℕ) → MovesOn window (p i) (r i) (p (i + 1))) where
  -- It passes each tick of the window once, in order,
  pub passes-each : (i : ℕ) → i < window → p i ≡ i
  passes-each = round-passes window legal p r start moves

  -- comes back to 0 after as many moves as the window has ticks,
  pub comes_back : p window ≡ 0
  comes_back = round-back window legal p r start moves

  -- and none of these moves is refused.
  pub always-moved : (i : ℕ) → i < window → r i ≡ Ok tt
  always-moved = round-moved window legal p r start moves

-- A move that is refused leaves the position where it was.
pub refused-stays : (window tick after : ℕ) (refusal : Refusal) → MovesOn window tick (Err refusal) after → after ≡ tick
refused-stays = refused-kept
