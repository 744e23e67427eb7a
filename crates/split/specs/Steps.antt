-- The steps: docs/SPEC.md, "The steps". They speak of rows and never of a kind.
--   here_sum, there_sum   the ticks of all rows on the kind that is looked from, and on the other
--   ahead                 near/far of a row is greater than another's, by cross products
--   better                the row to be moved first: the one found so far, or a row of a given number
--   next_from             the one found so far, or a row of a list that is numbered from a given number
--   next_of               the row to be moved next: the movable one of greatest near/far, of equal ones the lowest
--   put                   a row that was moved, with its ticks here and there
--   moved_of              one step: where a row goes
--   step_of               the rows after a step, where some row comes next
--   steps_of              the steps, until the ticks here are within the room or no row can be moved
-- Assumes nothing.
use Rattle.std.specs.Prelude.{Bool, false, cond, List, [], ◌∷◌, ℕ, zero, suc, ◌+◌, ◌-◌, ◌*◌, leb, ltb, set}
use Rattle.rows.specs.Lists.{sum_of}
use Rattle.split.specs.Home.{ceil, keep_of, give_of}
use Rattle.split.specs.Rows.{Row, Next, Nobody, At}

abbrev pub here_sum : List Row → ℕ
here_sum rs = sum_of (λ (r : Row). r.here) rs

abbrev pub there_sum : List Row → ℕ
there_sum rs = sum_of (λ (r : Row). r.there) rs

abbrev pub ahead : Row → Row → Bool
ahead r s = ltb (s.near * r.far) (r.near * s.far)

-- A row takes the place only with a greater ratio, so ties stay with the lower number.
unfoldable pub better : Next → ℕ → Row → Next
better Nobody i r = cond r.movable (At i r) Nobody
better (At k s) i r = cond r.movable (cond (ahead r s) (At i r) (At k s)) (At k s)

unfoldable pub next_from : Next → ℕ → List Row → Next
next_from x i [] = x
next_from x i (r ∷ rs) = next_from (better x i r) (i + 1) rs

abbrev pub next_of : List Row → Next
next_of rs = next_from Nobody 0 rs

-- It is not moved again.
abbrev pub put : Row → ℕ → ℕ → Row
put r here there = record { near = r.near; far = r.far; here = here; there = there; movable = false }

-- s is the ticks of all rows here. The rule asks whether the room that the others leave is more than what the row keeps at its far end. The
-- others may take more than the room, so what they take is added on the other side, and nothing is below zero.
unfoldable pub moved_of : (w room s : ℕ) → Row → Row
moved_of w room s r =
    let others : ℕ = s - r.here in
    let keep : ℕ = keep_of w r.near r.far in
    let rest : ℕ = room - others in
    cond (leb room (others + keep)) (put r keep (give_of w r.near r.far))
    (put r rest (ceil (r.far * (r.near - rest)) r.near))

unfoldable pub step_of : (w room : ℕ) → List Row → Next → List Row
step_of w room rs Nobody = rs
step_of w room rs (At i r) = set rs i (moved_of w room (here_sum rs) r)

-- At most as many steps as the first number says. Where no row comes next, the steps that are left change nothing.
unfoldable pub steps_of : ℕ → (w room : ℕ) → List Row → List Row
steps_of zero w room rs = rs
steps_of (suc n) w room rs =
    let more : List Row = steps_of n w room (step_of w room rs (next_of rs)) in
    cond (leb (here_sum rs) room) rs more
