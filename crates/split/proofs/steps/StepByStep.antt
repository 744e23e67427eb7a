-- The steps, one by one: where they end, and what one that moves a row does.
-- The next row is one of the rows and can be moved (Leads), so that a step can be taken, and the row put in stays. Assumes nothing.
use mathlib.Core.Path.{◌≡◌, refl, sym, ◌∙◌}
use mathlib.Core.Bool.{Bool, true, false, false≢true, cond}
use mathlib.Core.List.{List, [], ◌∷◌}
use Prim.Native.Nat.{ℕ, zero, suc, ◌≤◌, ◌<◌}
use native.Mathlib.Omega.{arith}
use borrow.Author.Tests.{le-leb, lt-leb}
use lib.Dec.{leb}
use lib.ListN.{length, get_or, set, length-set}
use Rattle.split.specs.Steps.{here_sum, next_of, moved_of, step_of, steps_of}
use Rattle.split.specs.Columns.{sum_most, no_row, Movable, Ready, Asks}
use Rattle.split.specs.Rows.{Row, Nobody, At}
use Rattle.split.proofs.steps.NextRow.{Leads, next-law}
use Rattle.split.proofs.steps.RowSums.{set-each}

pub steps-within : (n w room : ℕ) (rs : List Row) → here_sum rs ≤ room → steps_of n w room rs ≡ rs
unfolding steps_of
steps-within zero w room rs h = refl
steps-within (suc n) w room rs h = rw (le-leb _ _ h)

pub steps-last : (n w room : ℕ) (rs : List Row) → n ≡ 0 → steps_of n w room rs ≡ rs
unfolding steps_of
steps-last n w room rs e = rw e

pub steps-nobody : (n w room : ℕ) (rs : List Row) → next_of rs ≡ Nobody → steps_of n w room rs ≡ rs
unfolding steps_of step_of
steps-nobody zero w room rs e = refl
steps-nobody (suc n) w room rs e = rw e (either (leb (here_sum rs) room) _ (steps-nobody n w room rs e))
  where
    either : (t : Bool) (x : List Row) → x ≡ rs → cond t rs x ≡ rs
    either true x p = refl
    either false x p = p

pub here-among : (rs : List Row) (i : ℕ) → (get_or rs i no_row).here ≤ here_sum rs
here-among [] i = omega arith
here-among (r ∷ rs) zero = omega arith
here-among (r ∷ rs) (suc i) = omega (arith, here-among rs i)

-- A row that cannot be moved is put in.
pub ready-set : (w : ℕ) (rs : List Row) (i : ℕ) (v : Row) → i < length rs → v.movable ≡ false → Ready w rs → Ready w (set rs i v)
ready-set w rs i v within still ready k l =
    set-each (λ (m : ℕ) (x : Row). x.movable ≡ true → Movable w x) rs i v within ready (λ can. absurd (false≢true (sym still ∙ can))) k
    (simp length-set at l)

-- A turn that moves row i, r, of rows whose ticks here are s.
pub record Turn (w room s : ℕ) (rs : List Row) (i : ℕ) (r : Row) : Type 0 where
  pub within : i < length rs
  pub is : get_or rs i no_row ≡ r
  pub movable : r.movable ≡ true
  pub asks : Asks w room s r
  pub ready : (v : Row) → v.movable ≡ false → Ready w (set rs i v)
  pub moves : (left m : ℕ) → left ≡ suc m → steps_of m w room (set rs i (moved_of w room s r)) ≡ steps_of left w room rs

pub turn-law : (w room : ℕ) (rs : List Row) (i : ℕ) (r : Row) (s : ℕ) → Ready w rs → s ≡ here_sum rs → s ≤ sum_most → room < s → next_of rs ≡ At i r
    → Turn w room s rs i r
unfolding steps_of step_of
turn-law w room rs i r s ready sum small over next = record {
  within = leads.within;
  is = leads.is;
  movable = leads.movable;
  asks = record {
    row = rw leads.is at (ready i leads.within (rw leads.is leads.movable));
    among = omega (arith, rw leads.is at (here-among rs i));
    over = over;
    small = small;
  };
  ready = λ v still. ready-set w rs i v leads.within still ready;
  moves = λ left m e. rw (e, lt-leb _ _ (rw sum at over), next, ← sum);
}
  where
    leads : Leads rs i r
    leads = rw next at (next-law w rs ready)
