-- The slices of pieces that stand one behind the other on a kind: where each stands, in which order, how long and how many they are.
-- One idea: a piece is known by the position at which it begins, and what holds of every piece there holds of the slices of its run.
-- Assumes nothing.
use mathlib.Core.Path.{◌≡◌}
use mathlib.Core.Bool.{cond}
use mathlib.Core.List.{List, [], ◌∷◌, ◌++◌}
use Prim.Native.Nat.{ℕ, ◌+◌, ◌*◌, ◌≤◌, ◌<◌}
use native.Mathlib.Nat.{lt_of_mul-lt-mul_right}
use native.Mathlib.Omega.{arith}
use lib.Dec.{eqb}
use lib.ListN.{length, length-append}
use Rattle.rows.specs.Lists.{All, Pairs, sum_of}
use Rattle.rows.proofs.Lists.{all_map, all_append, pairs-append, sum-append}
use Rattle.model.specs.Board.{same_kind}
use Rattle.model.specs.Timetable.{is_of, ticks_in}
use Rattle.model.specs.declared.Kind.{Kind}
use Rattle.model.specs.declared.Slice.{Slice}
use Rattle.slices.specs.Table.{Piece, cut_of, packed}
use Rattle.slices.proofs.Cuts.{Cut, edges, cut_all, cut-ticks, cut-length, edges_most, edges_none}

-- A fact of every piece and the position at which it begins.
abbrev pub AllAt : (ℕ → Piece → Type 0) → ℕ → List Piece → Type 0
AllAt P o [] = Unit {0}
AllAt P o (p ∷ ps) = P o p × AllAt P (o + p.ticks) ps

abbrev pub total : List Piece → ℕ
total ps = sum_of (λ (p : Piece). p.ticks) ps

-- The ticks that pieces give to a job.
abbrev pub ticks_for : ℕ → List Piece → ℕ
ticks_for job ps = sum_of (λ (p : Piece). cond (eqb p.job job) p.ticks 0) ps

-- How many edges of a core the runs of pieces pass.
abbrev pub cuts : (w o : ℕ) → List Piece → ℕ
cuts w o [] = 0
cuts w o (p ∷ ps) = edges w o p + cuts w (o + p.ticks) ps

pub at-append : (P : ℕ → Piece → Type 0) (o e : ℕ) (xs ys : List Piece) → e ≡ o + total xs → AllAt P o xs → AllAt P e ys
    → AllAt P o (xs ++ ys)
at-append P o e [] ys eq h k = let q : e ≡ o = omega arith in rw q at k
at-append P o e (x ∷ xs) ys eq h k = (h.0, at-append P (o + x.ticks) e xs ys (omega arith) h.1 k)

-- What two lists have, one behind the other, the second has from where it begins.
pub at-behind : (P : ℕ → Piece → Type 0) (o e : ℕ) (xs ys : List Piece) → e ≡ o + total xs → AllAt P o (xs ++ ys) → AllAt P e ys
at-behind P o e [] ys eq h = let q : o ≡ e = omega arith in rw q at h
at-behind P o e (x ∷ xs) ys eq h = at-behind P (o + x.ticks) e xs ys (omega arith) h.1

module _ (k : Kind) (w : ℕ) (wide : 1 ≤ w) where
  pub packed-ticks : (kind : Kind) (job o : ℕ) (ps : List Piece)
      → ticks_in kind job (packed k w o ps) ≡ cond (same_kind kind k) (ticks_for job ps) 0
  unfolding packed
  packed-ticks kind job o [] = grind arith
  packed-ticks kind job o (p ∷ ps) =
      rw (sum-append (λ (s : Slice). cond (is_of kind job s) s.length 0) (cut_of k w o p) (packed k w (o + p.ticks) ps))
      (rw (cut-ticks k w o p wide kind job, packed-ticks kind job (o + p.ticks) ps) (grind arith))

  pub packed-length : (o : ℕ) (ps : List Piece) → length (packed k w o ps) ≡ length ps + cuts w o ps
  unfolding packed
  packed-length o [] = omega arith
  packed-length o (p ∷ ps) =
      rw (length-append (cut_of k w o p) (packed k w (o + p.ticks) ps))
      (omega (arith, cut-length k w o p wide, packed-length (o + p.ticks) ps))

  module _ (P : ℕ → Piece → Type 0) (sized : (o : ℕ) (p : Piece) → P o p → (0 < p.ticks) × (p.ticks ≤ w)) where
    pub packed_all : (Q : Slice → Type 0) (a e : ℕ)
        → ((o : ℕ) (p : Piece) (s : Slice) → a ≤ o → o + p.ticks ≤ e → P o p → Cut k w p.job o (o + p.ticks) s → Q s)
        → (o : ℕ) (ps : List Piece) → a ≤ o → o + total ps ≤ e → AllAt P o ps → All Q (packed k w o ps)
    unfolding packed
    packed_all Q a e f o [] low high h = tt
    packed_all Q a e f o (p ∷ ps) low high h =
        all_append Q (cut_of k w o p) (packed k w (o + p.ticks) ps)
        (all_map (Cut k w p.job o (o + p.ticks)) Q (λ s. f o p s low (omega arith) h.0) (cut_of k w o p)
        (cut_all k w o p wide (sized o p h.0).0 (sized o p h.0).1).0)
        (packed_all Q a e f (o + p.ticks) ps (omega arith) (omega arith) h.1)

    -- What the slices of a run have between them, and those of two runs, every two slices have.
    pub packed-pairs : (R : Slice → Slice → Type 0) → ((o : ℕ) (p : Piece) → P o p → Pairs R (cut_of k w o p))
        → ((o e : ℕ) (p q : Piece) (s t : Slice) → o + p.ticks ≤ e → P o p → P e q → Cut k w p.job o (o + p.ticks) s
        → Cut k w q.job e (e + q.ticks) t → R s t)
        → (o : ℕ) (ps : List Piece) → AllAt P o ps → Pairs R (packed k w o ps)
    unfolding packed
    packed-pairs R one two o [] h = tt
    packed-pairs R one two o (p ∷ ps) h =
        let end : ℕ = o + p.ticks in
        let later : Slice → Type 0 = λ t. (s : Slice) → Cut k w p.job o end s → R s t in
        pairs-append (Cut k w p.job o end) later R (λ s t c f. f s c)
        (cut_of k w o p) (packed k w end ps) (cut_all k w o p wide (sized o p h.0).0 (sized o p h.0).1).0
        (packed_all later end (end + total ps) (λ e q t low high g d s c. two o e p q s t low h.0 g c d) end ps
        (omega arith) (omega arith) h.1)
        (one o p h.0) (packed-pairs R one two end ps h.1)

    -- An edge is passed by one run at most; c counts the cores that are begun.
    pub cuts-few : (m c o : ℕ) (ps : List Piece) → AllAt P o ps → o ≤ c * w → c * w ≤ o + w → c ≤ m → o + total ps ≤ m * w
        → cuts w o ps + c ≤ m
    cuts-few m c o [] h low high begun within = omega arith
    cuts-few m c o (p ∷ ps) h low high begun within =
        let more : (d : ℕ) → o + p.ticks ≤ d * w → d * w ≤ o + p.ticks + w → d ≤ m → cuts w (o + p.ticks) ps + d ≤ m =
        λ d l u b. cuts-few m d (o + p.ticks) ps h.1 l u b (omega arith) in
        let size = sized o p h.0 in
        let one = edges_most w o p wide in
        let none = edges_none w o p wide c high in
        grind (arith, more c, more (c + 1), lt_of_mul-lt-mul_right)
