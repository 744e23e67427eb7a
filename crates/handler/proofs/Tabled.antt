-- What the handler answers where its table holds a timetable, whoever made it. One idea: the table passes its checks and is read back as the rows,
-- so that an answer is what the rows say. Assumes nothing.
--   Tabled         a table that holds a timetable of shares, on a board that passes its checks
--   cores-in       the cores of a kind by its number
--   table-passes   it passes its checks
--   asked-rows     within the window and the board, the answer is what the rows say
--   asked-window   over a window a job runs on a kind for its share
--   asked-idle     and the cores of a kind rest at all other ticks
--   asked-job      a job that is answered has a share
--   asked-place    and at a tick it is answered on one core
use mathlib.Core.Path.{◌≡◌, refl, sym, ap, ◌∙◌}
use mathlib.Core.Bool.{false}
use mathlib.Core.List.{List, map}
use Prim.Native.Nat.{ℕ, ◌+◌, ◌*◌, ◌<◌}
use native.Mathlib.Omega.{arith}
use borrow.Author.Tests.{lt-leb}
use lib.ListN.{length, get_or}
use Rattle.std.specs.Prelude.{Option, Some}
use Rattle.rows.specs.Lists.{All}
use Rattle.rows.specs.Numbered.{sum_below}
use Rattle.rows.proofs.Lists.{all-at, pairs-at}
use Rattle.rows.proofs.Numbered.{below-same}
use Rattle.model.specs.Board.{cores_of}
use Rattle.model.specs.Empty.{no_slice}
use Rattle.model.specs.Packed.{kind_number, pack_of}
use Rattle.model.specs.Refusal.{Answer, given}
use Rattle.model.specs.Split.{Ticks, share, ticks_on}
use Rattle.model.specs.Terms.{Narrow}
use Rattle.model.specs.Timetable.{Runs, Inside, Timetable}
use Rattle.model.specs.declared.Board.{Board}
use Rattle.model.specs.declared.Kind.{Kind}
use Rattle.model.specs.declared.Kind.TheVariants.{First, Second}
use Rattle.model.specs.declared.Slice.{Slice}
use Rattle.legal.proofs.CheckByCheck.{Passed}
use Rattle.handler.specs.Check.{check_of}
use Rattle.handler.specs.Running.{cores_in, is_beyond, running_in, asked_of}
use Rattle.handler.proofs.AtTick.{running, resting, one-or-none, HasRow, runs-exactly}
use Rattle.handler.proofs.Counting.{rows-window, parts-window}
use Rattle.handler.proofs.OneRow.{table-back, table-checked}

pub record Tabled (board : Board) (ss : List Ticks) (rows : List Slice) (table : List ℕ) : Type 0 where
  pub passed : Passed board
  pub timetable : Timetable board ss rows
  pub narrow : All Narrow rows
  pub is : table ≡ map pack_of rows

pub cores-in : (board : Board) (kind : Kind) → cores_in board (kind_number kind) ≡ cores_of board kind
cores-in board First = refl
cores-in board Second = refl

module _ {board : Board} {ss : List Ticks} {rows : List Slice} {table : List ℕ} (t : Tabled board ss rows table) where
  pub table-passes : check_of board table ≡ given tt
  table-passes = rw t.is (table-checked board ss rows t.passed t.timetable t.narrow)

  pub asked-rows : (kind : Kind) (tick core : ℕ) → tick < board.window → core < cores_of board kind
      → asked_of board table tick (kind_number kind) core ≡ given (running_in tick (kind_number kind) core rows)
  asked-rows kind tick core before there =
      let inside : is_beyond board tick (kind_number kind) core ≡ false =
      rw (cores-in board kind, lt-leb board.window tick before, lt-leb (cores_of board kind) core there) in
      rw (table-passes, inside, t.is, table-back rows t.narrow)

  pub asked-window : (kind : Kind) (job : ℕ) → job < length ss
      → sum_below board.window
      (λ (tick : ℕ). sum_below (cores_of board kind) (λ (core : ℕ). running job (asked_of board table tick (kind_number kind) core)))
      ≡ ticks_on kind (get_or ss job (share 0 0))
  asked-window kind job l =
      below-same _ _ board.window (λ tick before.
      below-same _ _ (cores_of board kind) (λ core there. ap (running job) (asked-rows kind tick core before there))) ∙
      rows-window board kind job (length ss) rows t.timetable.inside t.timetable.cores ∙
      t.timetable.served kind job l

  -- A job that is answered has a row there, whatever tick, kind and core are asked for.
  asked-row : (tick kind core job : ℕ) → asked_of board table tick kind core ≡ given (Some job) → HasRow tick kind core job rows
  asked-row tick kind core job e =
      (runs-exactly tick kind core rows t.timetable.cores).0
      (let says = rw (table-passes, t.is, table-back rows t.narrow) at e in grind arith)

  pub asked-job : (tick kind core job : ℕ) → asked_of board table tick kind core ≡ given (Some job) → job < length ss
  asked-job tick kind core job e =
      let row = asked-row tick kind core job e in
      rw row.3 at (all-at (Inside board (length ss)) no_slice rows row.0 row.1 t.timetable.inside).job

  pub asked-idle : (kind : Kind)
      → sum_below board.window
      (λ (tick : ℕ). sum_below (cores_of board kind) (λ (core : ℕ). resting (asked_of board table tick (kind_number kind) core)))
      + sum_below (length ss) (λ (job : ℕ). ticks_on kind (get_or ss job (share 0 0)))
      ≡ cores_of board kind * board.window
  asked-idle kind =
      omega (
        arith,
        parts-window board.window (cores_of board kind) (length ss) (λ tick core. resting (answer tick core))
            (λ job tick core. running job (answer tick core)) one,
        below-same _ _ (length ss) (asked-window kind),
      )
    where
      answer : (tick core : ℕ) → Answer (Option ℕ)
      answer tick core = asked_of board table tick (kind_number kind) core

      one : (tick core : ℕ) → tick < board.window → core < cores_of board kind
          → resting (answer tick core) + sum_below (length ss) (λ (job : ℕ). running job (answer tick core)) ≡ 1
      one tick core before there =
          let rows-say = asked-rows kind tick core before there in
          rw rows-say (one-or-none (length ss) (running_in tick (kind_number kind) core rows)
          (λ job e. asked-job tick (kind_number kind) core job (rows-say ∙ ap given e)))

  -- Two rows of one job that run at one tick are one row.
  module _ (tick job kind core kind' core' : ℕ) (one : HasRow tick kind core job rows) (two : HasRow tick kind' core' job rows) where
    abbrev at : ℕ → Slice
    at i = get_or rows i no_slice

    apart : (i k : ℕ) → i < k → k < length rows → (at i).job ≡ job → (at k).job ≡ job → Runs (at i) tick → Runs (at k) tick → ⊥
    apart i k l m e f = pairs-at _ no_slice rows i k l m t.timetable.jobs (e ∙ sym f) tick

    same_row : one.0 ≡ two.0
    same_row =
        let before = λ (l : one.0 < two.0). apart one.0 two.0 l two.1 one.3 two.3 one.2.1.1 two.2.1.1 in
        let behind = λ (l : two.0 < one.0). apart two.0 one.0 l one.1 two.3 one.3 two.2.1.1 one.2.1.1 in
        omega (arith, before, behind)

    rows-place : (kind ≡ kind') × (core ≡ core')
    rows-place =
        let here = rw same_row at one.2 in
        (sym here.0 ∙ two.2.0, sym here.1.0 ∙ two.2.1.0)

  pub asked-place : (tick job kind core kind' core' : ℕ) → asked_of board table tick kind core ≡ given (Some job)
      → asked_of board table tick kind' core' ≡ given (Some job) → (kind ≡ kind') × (core ≡ core')
  asked-place tick job kind core kind' core' e f =
      rows-place tick job kind core kind' core' (asked-row tick kind core job e) (asked-row tick kind' core' job f)
