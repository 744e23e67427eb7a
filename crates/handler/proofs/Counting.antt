-- How often rows have a job run on a kind over a window: for the lengths of its rows there. One idea: what runs is a sum over the rows (AtTick), and
-- sums change places: over the cores a row counts at its own, over the ticks it counts its length. Assumes nothing.
--   rows-window   the count of all rows
--   parts-window  where a core runs one job or rests, what they count together is every tick of every core
use mathlib.Core.Path.{◌≡◌, refl, ◌∙◌}
use mathlib.Core.Bool.{Bool, true, false, cond, ◌&&◌}
use mathlib.Core.List.{List}
use Prim.Native.Nat.{ℕ, ◌+◌, ◌*◌, ◌<◌}
use native.Mathlib.Omega.{arith}
use lib.Dec.{eqb, leb, ltb}
use Rattle.rows.specs.Lists.{All, Pairs}
use Rattle.rows.specs.Numbered.{sum_below}
use Rattle.rows.proofs.Lists.{sum-each}
use Rattle.rows.proofs.Numbered.{below-add, below-same, below-sum, below-swap, below-fixed, below-once, below-between, below-zeros}
use Rattle.rows.proofs.Tells.{equal-tells, and-tells, fact}
use Rattle.model.specs.Board.{cores_of, same_kind}
use Rattle.model.specs.Packed.{kind_number}
use Rattle.model.specs.Refusal.{given}
use Rattle.model.specs.Timetable.{Inside, is_of, ticks_in}
use Rattle.model.specs.declared.Board.{Board}
use Rattle.model.specs.declared.Kind.{Kind}
use Rattle.model.specs.declared.Kind.TheVariants.{First, Second}
use Rattle.model.specs.declared.Slice.{Slice}
use Rattle.handler.specs.Running.{running_in}
use Rattle.handler.proofs.AtTick.{running, counts, first-sum}
use Rattle.handler.proofs.Tests.{kinds-tell, Clear}

pub parts-window : (w cores jobs : ℕ) (rests : (tick core : ℕ) → ℕ) (ran : (job tick core : ℕ) → ℕ)
    → ((tick core : ℕ) → tick < w → core < cores → rests tick core + sum_below jobs (λ (job : ℕ). ran job tick core) ≡ 1)
    → sum_below w (λ (tick : ℕ). sum_below cores (rests tick))
    + sum_below jobs (λ (job : ℕ). sum_below w (λ (tick : ℕ). sum_below cores (ran job tick)))
    ≡ cores * w
parts-window w cores jobs rests ran one =
    omega (
      arith,
      below-add (λ (tick : ℕ). sum_below cores (rests tick)) (λ (tick : ℕ). sum_below jobs (λ (job : ℕ). sum_below cores (ran job tick))) w,
      below-same _ _ w at_tick,
      below-swap (λ (tick job : ℕ). sum_below cores (ran job tick)) w jobs,
      below-fixed w cores,
    )
  where
    at_tick : (tick : ℕ) → tick < w → sum_below cores (rests tick) + sum_below jobs (λ (job : ℕ). sum_below cores (ran job tick)) ≡ cores
    at_tick tick before =
        omega (
          arith,
          below-add (rests tick) (λ (core : ℕ). sum_below jobs (λ (job : ℕ). ran job tick core)) cores,
          below-same _ _ cores (λ core there. one tick core before there),
          below-swap (λ (core job : ℕ). ran job tick core) cores jobs,
          below-fixed cores 1,
        )

same_number : (k l : Kind) → eqb (kind_number l) (kind_number k) ≡ same_kind k l
same_number First First = refl
same_number First Second = refl
same_number Second First = refl
same_number Second Second = refl

-- The four tests of a row in another order: its kind and its job, which do not change, then its core, then its ticks.
bits : (kind core tick job : Bool)
    → ◌≡◌ {A = ℕ} (cond (kind && (core && tick)) (cond job 1 0) 0) (cond (kind && job) (cond core (cond tick 1 0) 0) 0)
bits false core tick job = refl
bits true false tick true = refl
bits true false tick false = refl
bits true true tick true = refl
bits true true true false = refl
bits true true false false = refl

module _ (board : Board) (kind : Kind) (job jobs : ℕ) where
  abbrev w : ℕ
  w = board.window

  abbrev cores : ℕ
  cores = cores_of board kind

  abbrev during : Slice → ℕ → Bool
  during s tick = leb s.start tick && ltb tick (s.start + s.length)

  abbrev counted : Slice → (tick core : ℕ) → ℕ
  counted s tick core = counts tick (kind_number kind) core job s

  abbrev sorted : Bool → Slice → (tick core : ℕ) → ℕ
  sorted of s tick core = cond of (cond (eqb s.core core) (cond (during s tick) 1 0) 0) 0

  counted-sorted : (s : Slice) (tick core : ℕ) → counted s tick core ≡ sorted (is_of kind job s) s tick core
  counted-sorted s tick core =
      rw (same_number kind s.kind) (bits (same_kind kind s.kind) (eqb s.core core) (during s tick) (eqb s.job job))

  row-window : (s : Slice) → Inside board jobs s
      → sum_below w (λ (tick : ℕ). sum_below cores (λ (core : ℕ). counted s tick core)) ≡ cond (is_of kind job s) s.length 0
  row-window s inside = below-same _ _ w (λ tick _. below-same _ _ cores (λ core _. counted-sorted s tick core)) ∙ go (is_of kind job s) refl
    where
      go : (of : Bool) → is_of kind job s ≡ of
          → sum_below w (λ (tick : ℕ). sum_below cores (λ (core : ℕ). sorted of s tick core)) ≡ cond of s.length 0
      go true e =
          let same = (fact (and-tells (kinds-tell kind s.kind) (equal-tells s.job job)) e).0 in
          below-same _ _ w (λ tick _. below-once s.core cores (cond (during s tick) 1 0) (rw same inside.core)) ∙
          below-between w s.start s.length inside.ends
      go false e = below-same _ _ w (λ tick _. below-zeros cores) ∙ below-zeros w

  pub rows-window : (rows : List Slice) → All (Inside board jobs) rows → Pairs Clear rows
      → sum_below w (λ (tick : ℕ). sum_below cores (λ (core : ℕ). running job (given (running_in tick (kind_number kind) core rows))))
      ≡ ticks_in kind job rows
  rows-window rows inside clear =
      below-same _ _ w (λ tick _.
      below-same _ _ cores (λ core _. first-sum tick (kind_number kind) core job rows clear) ∙
      below-sum (λ (core : ℕ) (s : Slice). counted s tick core) cores rows) ∙
      below-sum (λ (tick : ℕ) (s : Slice). sum_below cores (λ (core : ℕ). counted s tick core)) w rows ∙
      sum-each (Inside board jobs) _ _ row-window rows inside
