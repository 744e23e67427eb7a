-- What runs at a tick on a core, by rows that are clear of each other: the job of the row that is there. One idea: one row at most is there, so the
-- first is the only one. Assumes nothing.
--   HasRow            a row of a job is there
--   runs-exactly      a job runs exactly where it has a row there
--   idle-exactly      nothing runs exactly where no row is there
--   running, resting  1 where an answer is that a job runs, or that nothing does, else 0
--   one-or-none       a core runs one of the jobs or rests
--   first-sum         whether a job runs, as 1 or 0, is a sum over the rows
use mathlib.Core.Path.{◌≡◌, refl, ◌∙◌, ap}
use mathlib.Core.Bool.{Bool, true, false, cond}
use mathlib.Core.List.{List, [], ◌∷◌}
use mathlib.Core.Logic.{◌↔◌}
use Prim.Native.Nat.{ℕ, zero, suc, ◌+◌, ◌<◌}
use native.Mathlib.Omega.{arith}
use lib.Dec.{eqb}
use lib.ListN.{length, get_or}
use Rattle.std.specs.Prelude.{Option, None, Some}
use Rattle.rows.specs.Lists.{All, Pairs, sum_of}
use Rattle.rows.specs.Numbered.{sum_below}
use Rattle.rows.proofs.Lists.{all-at}
use Rattle.rows.proofs.Never.{never}
use Rattle.rows.proofs.Numbered.{below-once, below-zeros}
use Rattle.rows.proofs.Tells.{told, fact}
use Rattle.model.specs.Empty.{no_slice}
use Rattle.model.specs.Refusal.{Answer, given, refused}
use Rattle.model.specs.declared.Slice.{Slice}
use Rattle.handler.specs.Running.{is_at, running_in}
use Rattle.handler.proofs.OneRow.{clear-once}
use Rattle.handler.proofs.Tests.{Clear, IsThere, at-tells}

abbrev pub running : ℕ → Answer (Option ℕ) → ℕ
running job (given None) = 0
running job (given (Some other)) = cond (eqb other job) 1 0
running job (refused number place) = 0

abbrev pub resting : Answer (Option ℕ) → ℕ
resting (given None) = 1
resting (given (Some job)) = 0
resting (refused number place) = 0

pub one-or-none : (jobs : ℕ) (x : Option ℕ) → ((job : ℕ) → x ≡ Some job → job < jobs)
    → resting (given x) + sum_below jobs (λ (job : ℕ). running job (given x)) ≡ 1
one-or-none jobs None below = omega (arith, below-zeros jobs)
one-or-none jobs (Some job) below = omega (arith, below-once job jobs 1 (below job refl))

module _ (tick kind core : ℕ) where
  abbrev running_at : List Slice → Option ℕ
  running_at = running_in tick kind core

  abbrev here : Slice → Bool
  here = is_at tick kind core

  abbrev pub HasRow : ℕ → List Slice → Type 0
  HasRow job rows = (i : ℕ) × (i < length rows) × IsThere tick kind core (get_or rows i no_slice) × ((get_or rows i no_slice).job ≡ job)

  running-row : (job : ℕ) (rows : List Slice) → running_at rows ≡ Some job → HasRow job rows
  unfolding running_in
  running-row job [] e = never (cc)
  running-row job (s ∷ rows) e = go (here s) refl e (running-row job rows)
    where
      go : (t : Bool) → here s ≡ t → cond t (Some s.job) (running_at rows) ≡ Some job → (running_at rows ≡ Some job → HasRow job rows)
          → HasRow job (s ∷ rows)
      go true is e more = (0, omega arith, fact (at-tells tick kind core s) is, cc)
      go false is e more = let row = more e in (suc row.0, omega (arith, row.1), row.2, row.3)

  row-running : (rows : List Slice) → Pairs Clear rows → (i : ℕ) → i < length rows → here (get_or rows i no_slice) ≡ true
      → running_at rows ≡ Some (get_or rows i no_slice).job
  unfolding running_in
  row-running [] clear i l is = absurd (omega arith)
  row-running (s ∷ rows) clear zero l is = rw is
  row-running (s ∷ rows) clear (suc i) l is =
      let later = row-running rows clear.1 i (omega arith) is in
      let once = λ (too : here s ≡ true). clear-once tick kind core s (get_or rows i no_slice) (all-at (Clear s) no_slice rows i (omega arith) clear.0) too is in
      grind (arith, once)

  module _ (rows : List Slice) (clear : Pairs Clear rows) where
    there-running : (i : ℕ) → i < length rows → IsThere tick kind core (get_or rows i no_slice) → running_at rows ≡ Some (get_or rows i no_slice).job
    there-running i l there = row-running rows clear i l (told (at-tells tick kind core (get_or rows i no_slice)) there)

    pub runs-exactly : {job : ℕ} → (running_at rows ≡ Some job) ↔ HasRow job rows
    runs-exactly {job} = (running-row job rows, λ row. there-running row.0 row.1 row.2 ∙ ap Some row.3)

    pub idle-exactly : (running_at rows ≡ None) ↔ ((i : ℕ) → i < length rows → IsThere tick kind core (get_or rows i no_slice) → ⊥)
    idle-exactly = (λ e i l there. let runs-there = there-running i l there in never (cc), λ none. go none (running_at rows) refl)
      where
        go : ((i : ℕ) → i < length rows → IsThere tick kind core (get_or rows i no_slice) → ⊥) → (x : Option ℕ) → running_at rows ≡ x → x ≡ None
        go none None e = refl
        go none (Some job) e = let row = running-row job rows e in absurd (none row.0 row.1 row.2)

  -- ---- as a sum
  abbrev pub counts : ℕ → Slice → ℕ
  counts job s = cond (here s) (cond (eqb s.job job) 1 0) 0

  -- Where one row is there, those that are clear of it count nothing.
  counts-none : (job : ℕ) (s : Slice) → here s ≡ true → (rows : List Slice) → All (Clear s) rows → sum_of (counts job) rows ≡ 0
  counts-none job s is [] clear = refl
  counts-none job s is (t ∷ rows) clear =
      let none = counts-none job s is rows clear.1 in
      let once = clear-once tick kind core s t clear.0 is in
      grind (arith, once)

  pub first-sum : (job : ℕ) (rows : List Slice) → Pairs Clear rows → running job (given (running_at rows)) ≡ sum_of (counts job) rows
  unfolding running_in
  first-sum job [] clear = refl
  first-sum job (s ∷ rows) clear =
      let later = first-sum job rows clear.1 in
      let none = λ (is : here s ≡ true). counts-none job s is rows clear.0 in
      grind (arith, none)
