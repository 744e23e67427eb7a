-- The rows of a table that is filled: they are the slices of the definition, one behind the other, and the rest is as it was.
-- One idea: to write one list of rows and then another behind it is to write both. Assumes nothing.
--   seen           the shares of two columns, by a kind's ticks and the other's
--   kind           the table after a kind, from a row on
--   sized          what each kind asks of the columns
--   first-asks     what is asked before the first kind
--   second-asks    and before the second
--   table_filled   both kinds give the table
use mathlib.Core.Path.{◌≡◌, refl, sym, ap, ◌∙◌}
use mathlib.Core.List.{List, [], ◌∷◌, ◌++◌, map, map-append, append_assoc}
use Prim.Native.Nat.{ℕ, suc, ◌+◌, ◌*◌, ◌≤◌}
use native.Mathlib.Omega.{arith}
use lib.ListN.{length, drop, set, length-append, length-map}
use lib.Seq.{set_at}
use Rattle.rows.specs.Upto.{at}
use Rattle.rows.proofs.Upto.{upto-length}
use Rattle.model.specs.Board.{on}
use Rattle.model.specs.Columns.{shares_in}
use Rattle.model.specs.Limits.{cores_most, jobs_most, slices_most}
use Rattle.model.specs.Packed.{pack_of}
use Rattle.model.specs.Split.{Ticks, share, ticks_of}
use Rattle.model.specs.declared.Kind.{Kind}
use Rattle.model.specs.declared.Kind.TheVariants.{First, Second}
use Rattle.model.specs.declared.Slice.{Slice}
use Rattle.slices.specs.Table.{Piece, cut_of, packed, pieces_of, table_of}
use Rattle.slices.proofs.Packs.{total}
use Rattle.slices.proofs.Pieces.{pieces-total}
use Rattle.columns.specs.Packing.{shares_on, Filling, filling_of, begun, written, placed, filled, Sized, Asks, Rowed, TableAsks, Tabled}

written-append : (rows : List ℕ) (i : ℕ) (xs ys : List ℕ) → written rows i (xs ++ ys) ≡ written (written rows i xs) (i + length xs) ys
unfolding written
written-append rows i [] ys = let e : i + 0 ≡ i = omega arith in rw e
written-append rows i (x ∷ xs) ys =
    let e : i + suc (length xs) ≡ i + 1 + length xs = omega arith in
    rw e (written-append (set rows i x) (i + 1) xs ys)

-- Rows that follow those that are done.
written-done : (done rest xs : List ℕ) → length xs ≤ length rest
    → written (done ++ rest) (length done) xs ≡ done ++ (xs ++ drop (length xs) rest)
unfolding written
written-done done rest [] h = refl
written-done done [] (x ∷ xs) h = absurd (omega arith)
written-done done (y ∷ rest) (x ∷ xs) h =
    rw (set_at done y rest x (length done) refl)
    (simp (append_assoc, length-append) at (written-done (done ++ x ∷ []) rest xs (omega arith)))

filled-packed : (k : Kind) (w : ℕ) (t : Filling) (ps : List Piece) → filled k w t ps
    ≡ record { rows = written t.rows t.count (map pack_of (packed k w t.at ps)); count = t.count + length (packed k w t.at ps); at = t.at + total ps }
unfolding filled placed packed written
filled-packed k w t [] =
    let e : t.count + 0 ≡ t.count = omega arith in
    let f : t.at + 0 ≡ t.at = omega arith in
    rw (e, f)
filled-packed k w t (p ∷ ps) =
    let cut : List Slice = cut_of k w t.at p in
    let more : List Slice = packed k w (t.at + p.ticks) ps in
    let e : t.count + (length cut + length more) ≡ t.count + length cut + length more = omega arith in
    let f : t.at + (p.ticks + total ps) ≡ t.at + p.ticks + total ps = omega arith in
    rw (length-append cut more, e, f, map-append pack_of cut more, written-append t.rows t.count (map pack_of cut) (map pack_of more), length-map cut pack_of)
    (filled-packed k w (placed k w t p) ps)

-- The two kinds, one behind the other.
module _ (w : ℕ) (a b : List ℕ) (same : length b ≡ length a) (asks : TableAsks w (shares_in (length a) a b)) where
  abbrev ss : List Ticks
  ss = shares_in (length a) a b

  pub seen : (k : Kind) → shares_on k (on k a b) (on k b a) ≡ ss
  seen First = refl
  seen Second = ap (λ (n : ℕ). shares_in n a b) same

  pub sized : (k : Kind) → Sized k w (on k a b) (on k b a)
  sized k = record { same = lengths k; few = few k; each = rw (seen k) asks.each }
    where
      lengths : (k : Kind) → length (on k b a) ≡ length (on k a b)
      lengths First = same
      lengths Second = sym same

      few : (k : Kind) → length (on k a b) ≤ jobs_most
      few First = omega (arith, asks.few, upto-length (length a) (λ i. share (at a i) (at b i)))
      few Second = omega (arith, same, asks.few, upto-length (length a) (λ i. share (at a i) (at b i)))

  abbrev slices : Kind → List Slice
  slices k = packed k w 0 (pieces_of k w ss)

  abbrev pub kind : Kind → List ℕ → ℕ → Filling
  kind k column count = filled k w (filling_of w column (begun count)) (pieces_of k w (shares_on k (on k a b) (on k b a)))

  kind-packed : (k : Kind) (column : List ℕ) (count : ℕ)
      → kind k column count ≡ record { rows = written column count (map pack_of (slices k)); count = count + length (slices k); at = ticks_of k ss }
  kind-packed k column count =
      let start : 0 * w + 0 ≡ 0 = omega arith in
      let none : 0 + total (pieces_of k w ss) ≡ ticks_of k ss = omega (arith, pieces-total k w ss) in
      rw (seen k, start) (rw none at (filled-packed k w (record { rows = column; count = count; at = 0 }) (pieces_of k w ss)))

  table-length : length (slices First) + length (slices Second) ≤ slices_most
  unfolding table_of
  table-length = rw length-append at asks.rows

  kind-asks : (k : Kind) (column : List ℕ) (count : ℕ) → ticks_of k ss ≤ cores_most * w → slices_most ≤ length column
      → count + length (slices k) ≤ slices_most → Asks w column (begun count) (kind k column count)
  kind-asks k column count ends lent rows =
      rw (kind-packed k column count) (record { short = asks.short; inside = asks.some; lent = lent; rows = rows; ends = ends })

  module _ (before : List ℕ) (lent : slices_most ≤ length before) where
    pub first-asks : Asks w before (begun 0) (kind First before 0)
    first-asks = kind-asks First before 0 asks.within1 lent (omega (arith, table-length))

    module _ (column : List ℕ) (count : ℕ) (one : Rowed (kind First before 0) column count) where
      count-one : count ≡ length (slices First)
      count-one = omega (arith, one.count ∙ ap (λ (t : Filling). t.count) (kind-packed First before 0))

      pub second-asks : length column ≡ length before → Asks w column (begun count) (kind Second column count)
      second-asks same = kind-asks Second column count asks.within2 (omega arith) (omega (arith, table-length, count-one))

      pub table_filled : (after : List ℕ) (r : ℕ) → Rowed (kind Second column count) after r → Tabled w ss before after r
      unfolding table_of
      table_filled after r two =
          let xs = map pack_of (slices First) in
          let ys = map pack_of (slices Second) in
          let number : r ≡ length (slices First ++ slices Second) =
          rw length-append (omega (arith, count-one, two.count ∙ ap (λ (t : Filling). t.count) (kind-packed Second column count))) in
          let next : count ≡ 0 + length xs = omega (arith, count-one, length-map (slices First) pack_of) in
          let many : r ≡ length (xs ++ ys) = number ∙ sym (length-map (slices First ++ slices Second) pack_of) ∙ ap length (map-append pack_of (slices First) (slices Second)) in
          record {
            count = number;
            slices = two.rows ∙ ap (λ (t : Filling). t.rows) (kind-packed Second column count)
                ∙ rw (one.rows ∙ ap (λ (t : Filling). t.rows) (kind-packed First before 0), next, map-append pack_of (slices First) (slices Second), many)
                (sym (written-append before 0 xs ys) ∙ written-done [] before (xs ++ ys) (omega (arith, many, number, asks.rows)));
          }
