-- The slices of one run. A slice stands at the positions that begin at `from`, as many as it is long; those of a run stand one behind the
-- other inside it, and their lengths add up to it. One idea: o is o / W · W + o % W, and nothing else is used of the two. Assumes nothing.
use mathlib.Core.Path.{◌≡◌, refl}
use mathlib.Core.Bool.{Bool, true, false, cond, ◌&&◌}
use Prim.Native.Nat.{ℕ, ◌+◌, ◌-◌, ◌*◌, ◌/◌, ◌%◌, ◌≤◌, ◌<◌}
use native.Mathlib.Nat.{div-add-mod', mod-lt, lt_of_mul-lt-mul_right, mul-le-mul_right}
use native.Mathlib.Omega.{arith}
use borrow.Author.Tests.{leb-true, leb-false}
use lib.Dec.{leb, eqb}
use lib.ListN.{length}
use Rattle.std.proofs.lemmas.Bool.Decides.{nat_tests}
use Rattle.rows.specs.Lists.{All, Pairs}
use Rattle.model.specs.Board.{on, same_kind}
use Rattle.model.specs.Timetable.{ticks_in}
use Rattle.model.specs.declared.Kind.{Kind}
use Rattle.model.specs.declared.Kind.TheVariants.{First, Second}
use Rattle.model.specs.declared.Slice.{Slice}
use Rattle.slices.specs.Table.{Piece, slice_of, cut_of}

-- The position at which a slice begins, in the kind's direction.
abbrev pub from : ℕ → Slice → ℕ
from w s = s.core * w + on s.kind s.start (w - (s.start + s.length))

-- A slice of job j on kind k that stands at positions from a to b.
pub record Cut (k : Kind) (w j a b : ℕ) (s : Slice) : Type 0 where
  pub kind : s.kind ≡ k
  pub job : s.job ≡ j
  pub some : 0 < s.length
  pub ends : s.start + s.length ≤ w
  pub low : a ≤ from w s
  pub high : from w s + s.length ≤ b

-- Of two slices on one kind the first stands before the second.
abbrev pub Before : ℕ → Slice → Slice → Type 0
Before w s t = s.kind ≡ t.kind → from w s + s.length ≤ from w t

-- How many edges of a core a run passes.
abbrev pub edges : (w o : ℕ) → Piece → ℕ
edges w o p = cond (leb (o % w + p.ticks) w) 0 1

slice_cut : (k : Kind) (w j core at len a b : ℕ) → at + len ≤ w → 0 < len → a ≤ core * w + at → core * w + at + len ≤ b
    → Cut k w j a b (slice_of k w j core at len)
slice_cut First w j core at len a b fits some low high =
    record { kind = refl; job = refl; some = some; ends = fits; low = low; high = high }
slice_cut Second w j core at len a b fits some low high =
    record { kind = refl; job = refl; some = some; ends = omega arith; low = omega arith; high = omega arith }

cut-wide : {k : Kind} {w j a b : ℕ} {s : Slice} (c d : ℕ) → c ≤ a → b ≤ d → Cut k w j a b s → Cut k w j c d s
cut-wide c d low high cut =
    record { kind = cut.kind; job = cut.job; some = cut.some; ends = cut.ends; low = omega arith; high = omega arith }

module _ (k : Kind) (w o : ℕ) (p : Piece) (wide : 1 ≤ w) where
  pub cut_all : 0 < p.ticks → p.ticks ≤ w → All (Cut k w p.job o (o + p.ticks)) (cut_of k w o p) × Pairs (Before w) (cut_of k w o p)
  unfolding cut_of
  cut_all some short = go (leb (o % w + p.ticks) w) refl (div-add-mod' o w) (mod-lt o {m = w} wide)
    where
      go : (t : Bool) → leb (o % w + p.ticks) w ≡ t → o / w * w + o % w ≡ o → o % w < w
          → All (Cut k w p.job o (o + p.ticks)) (cut_of k w o p) × Pairs (Before w) (cut_of k w o p)
      go true t e l =
          let fits : o % w + p.ticks ≤ w = leb-true _ _ t in
          rw t ((slice_cut k w p.job (o / w) (o % w) p.ticks o (o + p.ticks) fits some (omega arith) (omega arith), tt), (tt, tt))
      go false t e l =
          let over : w < o % w + p.ticks = leb-false _ _ t in
          let edge : ℕ = (o / w + 1) * w in
          let first = slice_cut k w p.job (o / w) (o % w) (w - o % w) o edge (omega arith) (omega arith) (omega arith) (omega arith) in
          let second = slice_cut k w p.job (o / w + 1) 0 (p.ticks - (w - o % w)) edge (o + p.ticks) (omega arith) (omega arith) (omega arith) (omega arith) in
          rw t (
            (cut-wide o (o + p.ticks) (omega arith) (omega arith) first, (cut-wide o (o + p.ticks) (omega arith) (omega arith) second, tt)),
            (((λ same. omega (arith, first.high, second.low)), tt), (tt, tt)),
          )

  -- The lengths of the slices of a run add up to it.
  pub cut-ticks : (kind : Kind) (job : ℕ) → ticks_in kind job (cut_of k w o p) ≡ cond (same_kind kind k && eqb p.job job) p.ticks 0
  unfolding cut_of
  cut-ticks kind job = let rest = mod-lt o {m = w} wide in grind (arith, nat_tests)

  pub cut-length : length (cut_of k w o p) ≡ 1 + edges w o p
  unfolding cut_of
  cut-length = grind (arith, nat_tests)

-- A run passes one edge at most, and none where it is empty, or where an edge stands at its end or behind it.
module _ (w o : ℕ) (p : Piece) (wide : 1 ≤ w) where
  pub edges_most : edges w o p ≤ 1
  edges_most = grind (arith, nat_tests)

  pub edges-empty : p.ticks ≡ 0 → edges w o p ≡ 0
  edges-empty none = let rest = mod-lt o {m = w} wide in grind (arith, nat_tests)

  pub edges_none : (c : ℕ) → c * w ≤ o + w → o + p.ticks ≤ c * w → edges w o p ≡ 0
  edges_none c near fits =
      let whole : o / w * w + o % w ≡ o = div-add-mod' o w in
      let rest : o % w < w = mod-lt o {m = w} wide in
      grind (arith, nat_tests, lt_of_mul-lt-mul_right, mul-le-mul_right)
