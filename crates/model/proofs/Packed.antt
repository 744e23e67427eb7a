-- A slice whose fields have their bytes is the slice of its number: each field is one of the number's digits, of one byte or two;
-- and the slices inside a board that keeps its limits are such. Assumes nothing.
use mathlib.Core.Path.{◌≡◌, refl}
use mathlib.Core.List.{List}
use Prim.Native.Nat.{ℕ, ◌+◌, ◌*◌, ◌/◌, ◌%◌, ◌≤◌, ◌<◌}
use native.Mathlib.Omega.{arith}
use Rattle.rows.specs.Lists.{All}
use Rattle.rows.proofs.Lists.{all_map}
use Rattle.model.specs.Board.{cores_of}
use Rattle.model.specs.Limits.{window_most, cores_most, jobs_most}
use Rattle.model.specs.Packed.{kind_number, pack_of, kind_of, slice_in}
use Rattle.model.specs.Terms.{Narrow}
use Rattle.model.specs.Timetable.{Inside}
use Rattle.model.specs.declared.Board.{Board}
use Rattle.model.specs.declared.Kind.{Kind}
use Rattle.model.specs.declared.Kind.TheVariants.{First, Second}
use Rattle.model.specs.declared.Slice.{Slice}

module _ (s : Slice) (n : Narrow s) (k : ℕ) (k-fits : k < 256) where
  abbrev number : ℕ
  number = s.job + 256 * k + 65536 * s.core + 16777216 * s.start + 1099511627776 * s.length

  digits : (kind_of k ≡ s.kind) → slice_in number ≡ s
  unfolding slice_in
  digits e =
      let job : number % 256 ≡ s.job = omega (arith, n.job) in
      let above-job : number / 256 ≡ k + 256 * s.core + 65536 * s.start + 4294967296 * s.length = omega (arith, n.job) in
      let kind : number / 256 % 256 ≡ k = rw above-job (omega arith) in
      let above-kind : number / 65536 ≡ s.core + 256 * s.start + 16777216 * s.length = omega (arith, n.job) in
      let core : number / 65536 % 256 ≡ s.core = rw above-kind (omega (arith, n.core)) in
      let above-core : number / 16777216 ≡ s.start + 65536 * s.length = omega (arith, n.job, n.core) in
      let start : number / 16777216 % 65536 ≡ s.start = rw above-core (omega (arith, n.start)) in
      let above-start : number / 1099511627776 ≡ s.length = omega (arith, n.job, n.core, n.start) in
      let length : number / 1099511627776 % 65536 ≡ s.length = rw above-start (omega (arith, n.length)) in
      rw (job, kind, core, start, length, e)

pub packed-back : (s : Slice) → Narrow s → slice_in (pack_of s) ≡ s
unfolding pack_of
packed-back s n = go s.kind refl
  where
    go : (k : Kind) → s.kind ≡ k → slice_in (s.job + 256 * kind_number k + 65536 * s.core + 16777216 * s.start + 1099511627776 * s.length) ≡ s
    go First e = digits s n 1 (omega arith) (rw e)
    go Second e = digits s n 2 (omega arith) (rw e)

module _ (board : Board) (short : board.window ≤ window_most) (few1 : board.first ≤ cores_most) (few2 : board.second ≤ cores_most) where
  cores-few : (k : Kind) → cores_of board k ≤ cores_most
  cores-few First = few1
  cores-few Second = few2

  pub inside-narrow : (jobs : ℕ) → jobs ≤ jobs_most → (rows : List Slice) → All (Inside board jobs) rows → All Narrow rows
  inside-narrow jobs few rows inside =
      all_map (Inside board jobs) Narrow
      (λ s i.
      record {
        job = omega (arith, i.job);
        core = omega (arith, i.core, cores-few s.kind);
        start = omega (arith, i.ends, i.some);
        length = omega (arith, i.ends);
      })
      rows inside
