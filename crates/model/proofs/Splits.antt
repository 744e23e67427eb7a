-- Shares that do the jobs: as many as the jobs, and each does its own. Assumes nothing.
use mathlib.Core.Path.{◌≡◌, refl}
use mathlib.Core.List.{List, [], ◌∷◌}
use Prim.Native.Nat.{ℕ, zero, suc, ◌<◌}
use native.Mathlib.Omega.{arith}
use lib.ListN.{length, get_or}
use Rattle.model.specs.Split.{Ticks, DoneBy, AllDone}
use Rattle.model.specs.declared.Job.{Job}

pub all-done-length : (w n : ℕ) (js : List Job) (ss : List Ticks) → AllDone w n js ss → length ss ≡ length js
all-done-length w n [] [] d = refl
all-done-length w n [] (s ∷ ss) d = absurd d
all-done-length w n (j ∷ js) [] d = absurd d
all-done-length w n (j ∷ js) (s ∷ ss) d = omega (arith, all-done-length w n js ss d.1)

pub all-done-at : (w n : ℕ) (a : Job) (b : Ticks) (js : List Job) (ss : List Ticks) (j : ℕ) → j < length js → AllDone w n js ss → DoneBy w n (get_or js j a) (get_or ss j b)
all-done-at w n a b [] ss j l d = absurd (omega arith)
all-done-at w n a b (x ∷ js) [] j l d = absurd d
all-done-at w n a b (x ∷ js) (s ∷ ss) zero l d = d.0
all-done-at w n a b (x ∷ js) (s ∷ ss) (suc j) l d = all-done-at w n a b js ss j (omega arith) d.1
