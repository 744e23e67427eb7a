-- Internal: no public promise cites this. What the code that places the slices asks and promises, src/packing.rt, over the table of crate
-- slices, specs/Table.antt.
--   class_of     the jobs that a pass places
--   share_on     the share of a job by its ticks on a kind and on the other
--   shares_on    the shares of two columns, of which one is of a kind and one of the other
--   Filling      a table that is being filled: its column, how many rows there are so far, and the position on the kind where the next run begins
--   filling_of   the same, by the row, the core and the place there where the code puts the next slice
--   begun        where the code begins a kind, with so many rows before it
--   written      a column after numbers are written one behind the other from a row on
--   placed       a table that is being filled after one more piece
--   filled       the same after several
--   passed       the same after a pass over shares, whose jobs are numbered from i
--   Sized        two such columns of one length, of shares of a legal size: not too many, and each job's two within the window
--   Asks         what has to be known where the code begins, by the table that it ends with: it has the rows and the cores
--   Stands       the code stands where a table that is being filled is
--   Rowed        the rows of such a table are there, and are counted
--   TableAsks    what the whole asks: a window within its limits, shares that the most cores have room for, and no more slices than the most
--   Tabled       a column that has the definition's rows, with the other rows as they were
-- Assumes nothing.
use Rattle.std.specs.Prelude.{Bool, List, [], ◌∷◌, ◌++◌, map, ◌≡◌, ℕ, ◌+◌, ◌*◌, ◌≤◌, ◌<◌, length, drop, set}
use Rattle.rows.specs.Upto.{upto, at}
use Rattle.rows.specs.Lists.{All}
use Rattle.model.specs.Board.{on}
use Rattle.model.specs.Limits.{window_most, cores_most, jobs_most, slices_most}
use Rattle.model.specs.Packed.{pack_of}
use Rattle.model.specs.Split.{Ticks, share, ticks_of}
use Rattle.model.specs.declared.Kind.{Kind}
use Rattle.model.specs.declared.Kind.TheVariants.{First, Second}
use Rattle.model.specs.declared.Slice.{Slice}
use Rattle.slices.specs.Table.{Piece, even_mover, other_mover, alone, chosen, cut_of, table_of}
use Rattle.columns.specs.declared.packing.Class.{Class}
use Rattle.columns.specs.declared.packing.Class.TheVariants.{Even, Other, Alone}
use Rattle.columns.specs.declared.packing.Spot.{Spot}

abbrev pub class_of : Class → Kind → ℕ → Ticks → Bool
class_of Even k w s = even_mover w s
class_of Other k w s = other_mover w s
class_of Alone k w s = alone k s

abbrev pub share_on : Kind → (mine other : ℕ) → Ticks
share_on k mine other = share (on k mine other) (on k other mine)

abbrev pub shares_on : Kind → (mine other : List ℕ) → List Ticks
shares_on k mine other = upto (length mine) (λ i. share_on k (at mine i) (at other i))

pub record Filling : Type 0 where
  pub rows : List ℕ
  pub count : ℕ
  pub at : ℕ

abbrev pub filling_of : ℕ → List ℕ → Spot → Filling
filling_of w column p = record { rows = column; count = p.count; at = p.core * w + p.at }

abbrev pub begun : ℕ → Spot
begun count = record { count = count; core = 0; at = 0 }

unfoldable pub written : List ℕ → ℕ → List ℕ → List ℕ
written rows i [] = rows
written rows i (x ∷ xs) = written (set rows i x) (i + 1) xs

unfoldable pub placed : Kind → ℕ → Filling → Piece → Filling
placed k w t p =
    let slices : List Slice = cut_of k w t.at p in
    record { rows = written t.rows t.count (map pack_of slices); count = t.count + length slices; at = t.at + p.ticks }

unfoldable pub filled : Kind → ℕ → Filling → List Piece → Filling
filled k w t [] = t
filled k w t (p ∷ ps) = filled k w (placed k w t p) ps

abbrev pub passed : Class → Kind → ℕ → Filling → ℕ → List Ticks → Filling
passed class k w t i ss = filled k w t (chosen (class_of class k w) k i ss)

pub record Sized (k : Kind) (w : ℕ) (mine other : List ℕ) : Type 0 where
  pub same : length other ≡ length mine
  pub few : length mine ≤ jobs_most
  pub each : All (λ (s : Ticks). s.first + s.second ≤ w) (shares_on k mine other)

pub record Asks (w : ℕ) (column : List ℕ) (p : Spot) (end : Filling) : Type 0 where
  pub short : w ≤ window_most
  pub inside : p.at < w
  pub lent : slices_most ≤ length column
  pub rows : end.count ≤ slices_most
  pub ends : end.at ≤ cores_most * w

pub record Stands (w : ℕ) (t : Filling) (column : List ℕ) (p : Spot) : Type 0 where
  pub is : filling_of w column p ≡ t
  pub inside : p.at < w

pub record Rowed (t : Filling) (column : List ℕ) (r : ℕ) : Type 0 where
  pub rows : column ≡ t.rows
  pub count : r ≡ t.count

pub record TableAsks (w : ℕ) (ss : List Ticks) : Type 0 where
  pub some : 1 ≤ w
  pub short : w ≤ window_most
  pub few : length ss ≤ jobs_most
  pub each : All (λ (s : Ticks). s.first + s.second ≤ w) ss
  pub within1 : ticks_of First ss ≤ cores_most * w
  pub within2 : ticks_of Second ss ≤ cores_most * w
  pub rows : length (table_of w ss) ≤ slices_most

pub record Tabled (w : ℕ) (ss : List Ticks) (before after : List ℕ) (r : ℕ) : Type 0 where
  pub count : r ≡ length (table_of w ss)
  pub slices : after ≡ map pack_of (table_of w ss) ++ drop r before
