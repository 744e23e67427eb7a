-- What two different constructors prove that are said to be one: anything, by `never (cc)`. Assumes nothing.
use mathlib.Core.Path.{◌≡◌}
use Prim.Native.Nat.{ℕ}
use native.Mathlib.Omega.{arith}

pub never : {A : Type 0} → ◌≡◌ {A = ℕ} 0 1 → A
never z = absurd (omega arith)
