-- The table of slices of given shares: docs/SPEC.md, "The slices". Its code is columns/src/packing.rt, which has `requires` and is private to that
-- crate: placing is not public yet.
-- On each kind the shares stand one behind the other, as runs of positions: position p is tick p % W of core p / W on the first kind,
-- and tick W − 1 − p % W on the second, which is packed backward. A run that passes the edge of a core is cut there.
--   Piece         a job and its ticks on a kind
--   even_mover    a mover that uses the whole window
--   other_mover   a mover that does not
--   alone         a share on this kind only
--   chosen        the jobs, numbered from i, of which a test holds, with their ticks on a kind
--   pieces_of     what stands on a kind, in order: the even movers, the mover that is not even, and those that are on this kind only
--   slice_of      the slice of a job at a place of a core, counted in the kind's direction
--   cut_of        the one or two slices of a run that begins at a position
--   packed        the slices of pieces, one behind the other
--   table_of      all slices of the first kind, then those of the second
-- Assumes nothing.
use Rattle.std.specs.Prelude.{Bool, cond, not, ◌&&◌, List, [], ◌∷◌, ◌++◌, ℕ, ◌+◌, ◌-◌, ◌/◌, ◌%◌, leb, ltb}
use Rattle.model.specs.Board.{on}
use Rattle.model.specs.Movers.{is_mover, is_even}
use Rattle.model.specs.Split.{Ticks, ticks_on}
use Rattle.model.specs.declared.Kind.{Kind}
use Rattle.model.specs.declared.Kind.TheVariants.{First, Second}
use Rattle.model.specs.declared.Slice.{Slice}

pub record Piece : Type 0 where
  pub job : ℕ
  pub ticks : ℕ

abbrev pub even_mover : ℕ → Ticks → Bool
even_mover w s = is_mover s && is_even w s

abbrev pub other_mover : ℕ → Ticks → Bool
other_mover w s = is_mover s && not (is_even w s)

abbrev pub alone : Kind → Ticks → Bool
alone k s = ltb 0 (ticks_on k s) && not (is_mover s)

unfoldable pub chosen : (Ticks → Bool) → Kind → ℕ → List Ticks → List Piece
chosen test k i [] = []
chosen test k i (s ∷ ss) =
    let more : List Piece = chosen test k (i + 1) ss in
    cond (test s) (record { job = i; ticks = ticks_on k s } ∷ more) more

unfoldable pub pieces_of : Kind → ℕ → List Ticks → List Piece
pieces_of k w ss = chosen (even_mover w) k 0 ss ++ (chosen (other_mover w) k 0 ss ++ chosen (alone k) k 0 ss)

-- The length begins at a core's place `at`, counted forward on the first kind and backward on the second.
abbrev pub slice_of : Kind → (w job core at length : ℕ) → Slice
slice_of k w job core at length =
    record { job = job; kind = k; core = core; start = on k at (w - (at + length)); length = length }

-- The run begins at position o. It is cut only where it goes past the edge: to end there is no reason to.
unfoldable pub cut_of : Kind → (w o : ℕ) → Piece → List Slice
cut_of k w o p =
    let at : ℕ = o % w in
    let core : ℕ = o / w in
    cond (leb (at + p.ticks) w) (slice_of k w p.job core at p.ticks ∷ [])
    (slice_of k w p.job core at (w - at) ∷ slice_of k w p.job (core + 1) 0 (p.ticks - (w - at)) ∷ [])

unfoldable pub packed : Kind → (w o : ℕ) → List Piece → List Slice
packed k w o [] = []
packed k w o (p ∷ ps) = cut_of k w o p ++ packed k w (o + p.ticks) ps

unfoldable pub table_of : ℕ → List Ticks → List Slice
table_of w ss = packed First w 0 (pieces_of First w ss) ++ packed Second w 0 (pieces_of Second w ss)
