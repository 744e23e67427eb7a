-- The numbers of the handler's answers where its table holds a timetable. One idea: within the window and the board the answer is what the rows
-- name, and a row is never beyond them. Assumes nothing.
--   table-within   within them the answer is what the rows name
--   code-most      so its number is no refusal's
--   code-beyond, code-only-beyond   beyond them it is that of refusal 11, and never of another
--   code-names, code-none   a job is named exactly where a row of it is there, and none exactly where no row is
--   code-window    over a window a job is named for its share
--   code-place     at a tick a job is named on one core
use mathlib.Core.Bool.{cond}
use mathlib.Core.List.{List}
use mathlib.Core.Logic.{◌↔◌, ◌⊎◌}
use mathlib.Core.Path.{◌≡◌, refl, sym, ap, ◌∙◌}
use Prim.Native.Nat.{ℕ, ◌+◌, ◌≤◌, ◌<◌}
use native.Mathlib.Omega.{arith}
use borrow.Author.Tests.{lt-leb, ne_eqb}
use lib.Dec.{eqb}
use lib.ListN.{length, get_or}
use Rattle.std.specs.Prelude.{Option, None, Some}
use Rattle.rows.specs.Numbered.{sum_below}
use Rattle.rows.proofs.Lists.{all_map, all-at}
use Rattle.rows.proofs.Never.{never}
use Rattle.rows.proofs.Numbered.{below-same}
use Rattle.rows.proofs.Tells.{most-tells, or-tells, by-test}
use Rattle.model.specs.Board.{cores_of}
use Rattle.model.specs.Empty.{no_slice}
use Rattle.model.specs.Packed.{kind_number}
use Rattle.model.specs.Refusal.{Answer, given, refused}
use Rattle.model.specs.Split.{Ticks, share, ticks_on}
use Rattle.model.specs.Terms.{Narrow}
use Rattle.model.specs.Timetable.{Inside}
use Rattle.model.specs.declared.Kind.{Kind}
use Rattle.model.specs.declared.Board.{Board}
use Rattle.model.specs.declared.Slice.{Slice}
use Rattle.handler.specs.Running.{cores_in, is_beyond, running_in, asked_of}
use Rattle.handler.proofs.AtTick.{running, HasRow, runs-exactly, idle-exactly}
use Rattle.handler.proofs.OneRow.{table-back}
use Rattle.handler.proofs.Tabled.{Tabled, cores-in, table-passes, asked-window, asked-place}
use Rattle.handler.proofs.Tests.{IsThere}
use Rattle.clampfern.specs.Tick.{idle_code, refusal_base, code_of}
use Rattle.clampfern.proofs.Codes.{Coded, no-job, job, refusal, rows-coded, asked-coded, job-code, idle_code-only}

-- A number that tells a job, as 1 or 0.
code-running : (j : ℕ) → j < idle_code → (a : Answer (Option ℕ)) → cond (eqb (code_of a) j) 1 0 ≡ running j a
code-running j byte (given None) = rw (ne_eqb idle_code j (λ e. omega arith))
code-running j byte (given (Some other)) = refl
code-running j byte (refused number place) = rw (ne_eqb (refusal_base + number) j (λ e. omega arith))

module _ {board : Board} {ss : List Ticks} {rows : List Slice} {table : List ℕ} (t : Tabled board ss rows table) where
  module _ (tick kind core : ℕ) where
    -- The tick is not in the window, or the board lacks the kind or the core.
    abbrev Outside : Type 0
    Outside = (board.window ≤ tick) ⊎ (cores_in board kind ≤ core)

    abbrev asked : Answer (Option ℕ)
    asked = asked_of board table tick kind core

    abbrev named : Option ℕ
    named = running_in tick kind core rows

    asked_is : asked ≡ cond (is_beyond board tick kind core) (refused 11 0) (given named)
    asked_is = rw (table-passes t, t.is, table-back rows t.narrow)

    ways : (Says : Answer (Option ℕ) → Type 0) → (Outside → Says (refused 11 0)) → ((Outside → ⊥) → Says (given named)) → Says asked
    ways Says stops goes =
        rw asked_is
        (by-test Says (refused 11 0) (given named) (or-tells (most-tells board.window tick) (most-tells (cores_in board kind) core)) stops goes)

    named-most : code_of (given named) ≤ idle_code
    named-most =
        go (rows-coded tick kind core rows (all_map Narrow (λ (s : Slice). s.job < idle_code) (λ s n. n.job) rows t.narrow)) refl
      where
        go : {a : Answer (Option ℕ)} → Coded a → a ≡ given named → code_of a ≤ idle_code
        go no-job is = omega arith
        go (job j byte) is = omega arith
        go (refusal number place above most) is = never (cc)

    row_within : (i : ℕ) → i < length rows → IsThere tick kind core (get_or rows i no_slice) → (tick < board.window) × (core < cores_in board kind)
    row_within i l there =
        let inside = all-at (Inside board (length ss)) no_slice rows i l t.timetable.inside in
        (omega (arith, there.1.1.1, inside.ends), rw (← there.0, cores-in board (get_or rows i no_slice).kind, ← there.1.0) inside.core)

    pub table-within : tick < board.window → core < cores_in board kind → asked ≡ given named
    table-within early there = rw (asked_is, lt-leb board.window tick early, lt-leb (cores_in board kind) core there)

    pub code-most : tick < board.window → core < cores_in board kind → code_of asked ≤ idle_code
    code-most early there = rw (table-within early there) named-most

    pub code-beyond : (code_of asked ≡ refusal_base + 11) ↔ Outside
    code-beyond = (
      ways (λ (a : Answer (Option ℕ)). code_of a ≡ refusal_base + 11 → Outside) (λ out _. out) (λ within is. absurd (omega (arith, named-most))),
      λ out. ways (λ (a : Answer (Option ℕ)). code_of a ≡ refusal_base + 11) (λ _. refl) (λ within. absurd (within out)),
    )

    pub code-only-beyond : (number : ℕ) → code_of asked ≡ refusal_base + number → number ≡ 11
    code-only-beyond number =
        ways (λ (a : Answer (Option ℕ)). code_of a ≡ refusal_base + number → number ≡ 11) (λ out is. omega arith)
        (λ within is. absurd (omega (arith, named-most)))

    pub code-names : (j : ℕ) → j < idle_code → (code_of asked ≡ j) ↔ HasRow tick kind core j rows
    code-names j byte = (λ is. of_row (job-code (asked-coded board table tick kind core) j byte is), back)
      where
        of_row : asked ≡ given (Some j) → HasRow tick kind core j rows
        of_row =
            ways (λ (a : Answer (Option ℕ)). a ≡ given (Some j) → HasRow tick kind core j rows) (λ out e. never (cc))
            (λ within e. (runs-exactly tick kind core rows t.timetable.cores).0 (cc))

        back : HasRow tick kind core j rows → code_of asked ≡ j
        back row =
            let within = row_within row.0 row.1 row.2 in
            ap code_of (table-within within.0 within.1) ∙
            ap (λ (r : Option ℕ). code_of (given r)) ((runs-exactly tick kind core rows t.timetable.cores).1 row)

    pub code-none : tick < board.window → core < cores_in board kind
        → (code_of asked ≡ idle_code) ↔ ((i : ℕ) → i < length rows → IsThere tick kind core (get_or rows i no_slice) → ⊥)
    code-none early there = (
      λ is. (idle-exactly tick kind core rows t.timetable.cores).0
          (let nothing = sym (table-within early there) ∙ idle_code-only (asked-coded board table tick kind core) is in cc),
      λ none. ap code_of (table-within early there) ∙ ap (λ (r : Option ℕ). code_of (given r)) ((idle-exactly tick kind core rows t.timetable.cores).1 none),
    )

  pub code-window : (kind : Kind) (j : ℕ) → j < length ss → j < idle_code
      → sum_below board.window (λ (tick : ℕ). sum_below (cores_of board kind) (λ (core : ℕ). cond (eqb (code_of (asked tick (kind_number kind) core)) j) 1 0))
      ≡ ticks_on kind (get_or ss j (share 0 0))
  code-window kind j l byte =
      below-same _ _ board.window (λ tick _. below-same _ _ (cores_of board kind) (λ core _. code-running j byte (asked tick (kind_number kind) core))) ∙
      asked-window t kind j l

  pub code-place : (tick kind core kind' core' : ℕ) → code_of (asked tick kind core) < idle_code → code_of (asked tick kind core) ≡ code_of (asked tick kind' core')
      → (kind ≡ kind') × (core ≡ core')
  code-place tick kind core kind' core' byte same =
      asked-place t tick (code_of (asked tick kind core)) kind core kind' core' (job-code (asked-coded board table tick kind core) _ byte refl)
      (job-code (asked-coded board table tick kind' core') _ byte (sym same))
