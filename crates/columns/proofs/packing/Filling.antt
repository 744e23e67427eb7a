-- A table that is being filled with the slices of pieces. One idea: what is done, with the pieces that are left, fills it as all pieces do,
-- and more pieces only add rows and move the position on; so every step of the way has the room that the whole has. Assumes nothing.
--   run                                     a table after one run, from where the code stands
--   run_core, run_row, run_rows, run_next   the run has its core and its rows
--   run_short, run_whole, run_cut           it ends before the edge of its core, exactly on it, or behind it on the next
--   runs                                    these seven, for the check of `put_run`
--   after                                   a table after one job of a pass
--   job-in, job-out                         the pass places the job, or not
--   filled-append                           several pieces, and then several more
--   asks-part, asks_rest, stands-rest       the first pieces have the room that all have, and the others fill what is left
--   left, Passing                           what the jobs from i on give, and where the code stands at job i
--   share-within                            a job of a pass has its ticks within the window
--   pass-asks, pass_on, pass-ends           a pass goes on from job to job, and ends with the table of all
use mathlib.Core.Path.{◌≡◌, refl, sym, ◌∙◌}
use mathlib.Core.Bool.{Bool, true, false, cond, and_comm}
use mathlib.Core.List.{List, [], ◌∷◌, ◌++◌}
use Prim.Native.Nat.{ℕ, ◌+◌, ◌-◌, ◌*◌, ◌%◌, ◌≤◌, ◌<◌}
use native.Mathlib.Nat.{add_comm, add-mul, le_of_mul-le-mul_right}
use native.Mathlib.Omega.{arith}
use borrow.Author.Tests.{le-leb, lt-leb}
use lib.Arith.{digits_div, digits_mod}
use lib.Dec.{leb, ltb}
use lib.ListN.{length, drop, set, length-set}
use Rattle.rows.specs.Upto.{upto, at}
use Rattle.rows.proofs.Upto.{upto-length, upto-at, upto_left, upto-none}
use Rattle.rows.proofs.Lists.{all-at}
use Rattle.model.specs.Limits.{cores_most, slices_most}
use Rattle.model.specs.Packed.{pack_of}
use Rattle.model.specs.Split.{Ticks, share, ticks_on}
use Rattle.model.specs.declared.Kind.{Kind}
use Rattle.model.specs.declared.Kind.TheVariants.{First, Second}
use Rattle.model.specs.declared.Slice.{Slice}
use Rattle.slices.specs.Table.{Piece, chosen, cut_of, slice_of}
use Rattle.columns.specs.Packing.{class_of, share_on, shares_on, Filling, filling_of, written, placed, filled, passed, Sized, Asks, Stands}
use Rattle.columns.specs.declared.packing.Class.{Class}
use Rattle.columns.specs.declared.packing.Class.TheVariants.{Even, Other, Alone}
use Rattle.columns.specs.declared.packing.Spot.{Spot}

-- ---- one run, by the core and the place there where it begins
cut-some : (k : Kind) (w o : ℕ) (p : Piece) → 1 ≤ length (cut_of k w o p)
unfolding cut_of
cut-some k w o p = go (leb (o % w + p.ticks) w) _ _ _
  where
    go : (t : Bool) (x y z : Slice) → 1 ≤ length (cond t (x ∷ []) (y ∷ z ∷ []))
    go true x y z = omega arith
    go false x y z = omega arith

module _ (k : Kind) (w job ticks : ℕ) (column : List ℕ) (p : Spot) where
  abbrev piece : Piece
  piece = record { job = job; ticks = ticks }

  abbrev pub run : Filling
  run = placed k w (filling_of w column p) piece

  module _ (asks : Asks w column p run) where
    run-cut : cut_of k w (p.core * w + p.at) piece
        ≡ cond (leb (p.at + ticks) w) (slice_of k w job p.core p.at ticks ∷ [])
        (slice_of k w job p.core p.at (w - p.at) ∷ slice_of k w job (p.core + 1) 0 (ticks - (w - p.at)) ∷ [])
    unfolding cut_of
    run-cut = rw (digits_div p.core asks.inside, digits_mod p.core asks.inside)

    pub run_core : p.core ≤ cores_most
    unfolding placed
    run_core = le_of_mul-le-mul_right {k = w} (omega (arith, asks.ends)) (omega (arith, asks.inside))

    pub run_row : p.count + 1 ≤ slices_most
    unfolding placed
    run_row = omega (arith, asks.rows, cut-some k w (p.core * w + p.at) piece)

    pub run_rows : w < p.at + ticks → p.count + 2 ≤ slices_most
    unfolding placed
    run_rows over = rw (run-cut, lt-leb _ _ over) at asks.rows

    pub run_next : w < p.at + ticks → (x : ℕ) → p.count + 1 < length (set column p.count x)
    run_next over x = rw length-set (omega (arith, asks.lent, run_rows over))

    -- The run ends before the edge of its core, exactly on it, or behind it on the next.
    pub run_short : (x : ℕ) → p.at + ticks < w → x ≡ pack_of (slice_of k w job p.core p.at ticks)
        → Stands w run (set column p.count x) (record { count = p.count + 1; core = p.core; at = p.at + ticks })
    unfolding placed written
    run_short x short is =
        let ends : p.core * w + (p.at + ticks) ≡ p.core * w + p.at + ticks = omega arith in
        record { is = rw (run-cut, le-leb (p.at + ticks) w (omega arith), ends, is) refl; inside = short }

    pub run_whole : (x : ℕ) → p.at + ticks ≡ w → x ≡ pack_of (slice_of k w job p.core p.at ticks)
        → Stands w run (set column p.count x) (record { count = p.count + 1; core = p.core + 1; at = 0 })
    unfolding placed written
    run_whole x whole is =
        let ends : (p.core + 1) * w + 0 ≡ p.core * w + p.at + ticks = omega (arith, add-mul p.core 1 w) in
        record { is = rw (run-cut, le-leb (p.at + ticks) w (omega arith), ends, is) refl; inside = omega (arith, asks.inside) }

    pub run_cut : (x y : ℕ) → w < p.at + ticks → ticks ≤ w → x ≡ pack_of (slice_of k w job p.core p.at (w - p.at))
        → y ≡ pack_of (slice_of k w job (p.core + 1) 0 (ticks - (w - p.at)))
        → Stands w run (set (set column p.count x) (p.count + 1) y) (record { count = p.count + 2; core = p.core + 1; at = ticks - (w - p.at) })
    unfolding placed written
    run_cut x y over few is is2 =
        let ends : (p.core + 1) * w + (ticks - (w - p.at)) ≡ p.core * w + p.at + ticks = omega (arith, asks.inside, add-mul p.core 1 w) in
        record { is = rw (run-cut, lt-leb _ _ over, ends, is, is2) refl; inside = omega (arith, asks.inside) }

-- What `put_run` needs of its run.
pub ruleset runs = (run_core, run_row, run_rows, run_next, run_short, run_whole, run_cut)

-- ---- one job of a pass, by its ticks on the kind and on the other
class-on : (class : Class) (k : Kind) (w a b : ℕ) → class_of class First w (share a b) ≡ class_of class k w (share_on k a b)
class-on class First w a b = refl
class-on Even Second w a b = rw (and_comm (ltb 0 a) (ltb 0 b), add_comm a b)
class-on Other Second w a b = rw (and_comm (ltb 0 a) (ltb 0 b), add_comm a b)
class-on Alone Second w a b = rw (and_comm (ltb 0 a) (ltb 0 b))

mine-on : (k : Kind) (a b : ℕ) → ticks_on k (share_on k a b) ≡ a
mine-on First a b = refl
mine-on Second a b = refl

both-on : (k : Kind) (a b : ℕ) → (share_on k a b).first + (share_on k a b).second ≡ a + b
both-on First a b = refl
both-on Second a b = add_comm b a

module _ (class : Class) (k : Kind) (w job a b : ℕ) (t : Filling) where
  -- The table after the job.
  abbrev pub after : Filling
  after = passed class k w t job (share_on k a b ∷ [])

  pub job-in : class_of class First w (share a b) ≡ true → after ≡ placed k w t (record { job = job; ticks = a })
  unfolding chosen filled
  job-in e = rw (sym (class-on class k w a b) ∙ e, mine-on k a b)

  pub job-out : class_of class First w (share a b) ≡ false → after ≡ t
  unfolding chosen filled
  job-out e = rw (sym (class-on class k w a b) ∙ e)

-- ---- several pieces
filled-grows : (k : Kind) (w : ℕ) (t : Filling) (ps : List Piece)
    → (t.count ≤ (filled k w t ps).count) × (t.at ≤ (filled k w t ps).at)
unfolding filled placed
filled-grows k w t [] = (omega arith, omega arith)
filled-grows k w t (p ∷ ps) =
    let more = filled-grows k w (placed k w t p) ps in
    (omega arith, omega arith)

pub filled-append : (k : Kind) (w : ℕ) (t : Filling) (ps qs : List Piece)
    → filled k w t (ps ++ qs) ≡ filled k w (filled k w t ps) qs
unfolding filled
filled-append k w t [] qs = refl
filled-append k w t (p ∷ ps) qs = filled-append k w (placed k w t p) ps qs

-- Where all pieces have room the first ones have.
pub asks-part : (k : Kind) {w : ℕ} {column : List ℕ} {p : Spot} (t : Filling) (ps qs : List Piece)
    → Asks w column p (filled k w t (ps ++ qs)) → Asks w column p (filled k w t ps)
asks-part k {w} t ps qs h =
    let all = rw (filled-append k w t ps qs) at h in
    let more = filled-grows k w (filled k w t ps) qs in
    record { short = h.short; inside = h.inside; lent = h.lent; rows = omega arith; ends = omega arith }

-- What is asked at one place is asked at the next.
asks-on : {w : ℕ} {column column2 : List ℕ} {p q : Spot} {end : Filling}
    → Asks w column p end → length column2 ≡ length column → q.at < w → Asks w column2 q end
asks-on h same inside =
    record { short = h.short; inside = inside; lent = omega (arith, h.lent); rows = h.rows; ends = h.ends }

module _ (k : Kind) {w : ℕ} (t : Filling) (ps qs : List Piece) {column : List ℕ} {p : Spot} (stands : Stands w (filled k w t ps) column p) where
  rest : filled k w (filling_of w column p) qs ≡ filled k w t (ps ++ qs)
  rest = rw (filled-append k w t ps qs, stands.is)

  pub asks_rest : {before : List ℕ} {q : Spot} → Asks w before q (filled k w t (ps ++ qs)) → length column ≡ length before
      → Asks w column p (filled k w (filling_of w column p) qs)
  asks_rest h same = rw rest (asks-on h same stands.inside)

  pub stands-rest : {column2 : List ℕ} {q : Spot} → Stands w (filled k w (filling_of w column p) qs) column2 q → Stands w (filled k w t (ps ++ qs)) column2 q
  stands-rest h = rw rest at h

-- ---- a pass over the jobs
chosen-cons : (test : Ticks → Bool) (k : Kind) (i : ℕ) (s : Ticks) (ss : List Ticks)
    → chosen test k i (s ∷ ss) ≡ chosen test k i (s ∷ []) ++ chosen test k (i + 1) ss
unfolding chosen
chosen-cons test k i s ss = go (test s)
  where
    go : (t : Bool) → cond t (record { job = i; ticks = ticks_on k s } ∷ chosen test k (i + 1) ss) (chosen test k (i + 1) ss)
        ≡ cond t (record { job = i; ticks = ticks_on k s } ∷ []) [] ++ chosen test k (i + 1) ss
    go true = refl
    go false = refl

module _ (class : Class) (k : Kind) (w : ℕ) (mine other : List ℕ) where
  -- The table that the pieces of the jobs from i on give.
  abbrev pub left : Filling → ℕ → Filling
  left t i = passed class k w t i (drop i (shares_on k mine other))

  -- The code stands at job i, and what is left leads to the end.
  pub record Passing (end : Filling) (column : List ℕ) (p : Spot) (i : ℕ) : Type 0 where
    pub asks : Asks w column p end
    pub is : left (filling_of w column p) i ≡ end

  module _ (i : ℕ) (below : i < length mine) where
    pub share-within : Sized k w mine other → at mine i + at other i ≤ w
    share-within sized =
        let f : ℕ → Ticks = λ j. share_on k (at mine j) (at other j) in
        let n : ℕ = length mine in
        let each =
        all-at (λ (s : Ticks). s.first + s.second ≤ w) (f i) (upto n f) i (rw (upto-length n f) below) sized.each in
        rw (upto-at n f (f i) i below, both-on k (at mine i) (at other i)) at each

    module _ {end : Filling} {column : List ℕ} {p : Spot} (passing : Passing end column p i) where
      abbrev this : List Piece
      this = chosen (class_of class k w) k i (share_on k (at mine i) (at other i) ∷ [])

      abbrev those : List Piece
      those = chosen (class_of class k w) k (i + 1) (drop (i + 1) (shares_on k mine other))

      parts : filled k w (filling_of w column p) (this ++ those) ≡ end
      parts = rw (upto_left (length mine) (λ j. share_on k (at mine j) (at other j)) i below, chosen-cons) at passing.is

      pub pass-asks : Asks w column p (after class k w i (at mine i) (at other i) (filling_of w column p))
      pass-asks = asks-part k (filling_of w column p) this those (rw parts passing.asks)

      pub pass_on : (column2 : List ℕ) (q : Spot) → length column2 ≡ length column
          → Stands w (after class k w i (at mine i) (at other i) (filling_of w column p)) column2 q → Passing end column2 q (i + 1)
      pass_on column2 q same stands =
          record {
            asks = asks-on passing.asks same stands.inside;
            is = rest k (filling_of w column p) this those stands ∙ parts;
          }

  pub pass-ends : {end : Filling} {column : List ℕ} {p : Spot} → Passing end column p (length mine) → Stands w end column p
  unfolding chosen filled
  pass-ends passing =
      record { is = rw (upto-none (length mine) (λ j. share_on k (at mine j) (at other j))) at passing.is; inside = passing.asks.inside }
