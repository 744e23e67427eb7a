-- The rows of one job: what they are in the table, and that a job's moves are told by them alone. One idea: a test that holds of rows of one job
-- only passes over all others, so a scan or a count of the table is one of those rows. Assumes nothing.
use mathlib.Core.Path.{◌≡◌, refl, sym, ap, ◌∙◌}
use mathlib.Core.Bool.{Bool, true, cond, and-eq-true_iff}
use mathlib.Core.List.{List, [], ◌∷◌, ◌++◌, append-nil}
use Prim.Native.Nat.{ℕ, ◌+◌, ◌<◌}
use native.Mathlib.Omega.{arith}
use lib.Dec.{eqb, ltb}
use lib.ListN.{length}
use Rattle.std.specs.Prelude.{Option, count_by, filter}
use Rattle.std.proofs.lemmas.Bool.Decides.{nat_tests}
use Rattle.std.proofs.lemmas.List.Elements.{filter-append, filter_agree}
use Rattle.std.proofs.lemmas.List.Recursion.{is_sum_by}
use Rattle.std.proofs.lemmas.List.Sums.{length-filter}
use Rattle.model.specs.Split.{Ticks, ticks_on}
use Rattle.model.specs.declared.Kind.{Kind}
use Rattle.model.specs.declared.Kind.TheVariants.{First, Second}
use Rattle.model.specs.declared.Slice.{Slice}
use Rattle.slices.specs.JobSlices.{slices_for}
use Rattle.slices.specs.Moves.{same_job, is_before, before_of, is_outer, is_inner, counted, moves_of}
use Rattle.slices.specs.Table.{Piece, pieces_of, cut_of, packed, table_of}
use Rattle.slices.proofs.Packs.{AllAt, ticks_for}
use Rattle.slices.proofs.Pieces.{share_at, pieces-for}
use Rattle.slices.proofs.Places.{offset, piece_at, Placed, pieces-placed}

module _ (j : ℕ) where
  abbrev of_job : Slice → Bool
  of_job s = eqb s.job j

  abbrev pub rows_of : List Slice → List Slice
  rows_of rows = filter of_job rows

  pub rows-length : (rows : List Slice) → slices_for j rows ≡ length (rows_of rows)
  rows-length rows = is_sum_by (slices_for j) (λ (s : Slice). cond (of_job s) 1 0) refl (λ s ss. refl) rows ∙ sym (length-filter of_job rows)

  -- ---- the job's moves
  -- A test that holds of rows of the job only.
  module _ (test : Slice → Bool) (only : (s : Slice) → test s ≡ true → of_job s ≡ true) where
    rows-filter : (rows : List Slice) → filter test rows ≡ filter test (rows_of rows)
    rows-filter [] = refl
    rows-filter (s ∷ rows) = grind (arith, rows-filter rows, only s)

  rows_before : (rows : List Slice) (s : Slice) → s.job ≡ j → before_of rows s ≡ before_of (rows_of rows) s
  rows_before rows s e =
      let same : (r : Slice) → same_job s r ≡ true → eqb r.job j ≡ true = λ r h. rw e at h in
      let earlier : (r : Slice) → is_before s r ≡ true → eqb r.job j ≡ true =
      λ r h. same r ((and-eq-true_iff (same_job s r) (ltb r.start s.start)).0 h).0 in
      rw (rows-filter (is_before s) earlier rows, rows-filter (same_job s) same rows)

  counted_same : (test : Option Slice → Slice → Bool) (rows : List Slice) (s : Slice) → counted test rows j s ≡ counted test (rows_of rows) j s
  counted_same test rows s = let same = rows_before rows s in grind (arith, nat_tests)

  rows-counted : (test : Option Slice → Slice → Bool) (rows : List Slice)
      → count_by (counted test rows j) rows ≡ count_by (counted test (rows_of rows) j) (rows_of rows)
  rows-counted test rows =
      let here : Slice → Bool = counted test rows j in
      let own : Slice → Bool = counted test (rows_of rows) j in
      let rest = rows-filter here (λ s h. ((and-eq-true_iff (of_job s) (test (before_of rows s) s)).0 h).0) rows in
      sym (length-filter here rows) ∙ ap length (rest ∙ filter_agree here own (counted_same test rows) (rows_of rows)) ∙ length-filter own (rows_of rows)

  pub rows-moves : (rows : List Slice) → moves_of rows j ≡ moves_of (rows_of rows) j
  rows-moves rows = rw (rows-counted is_outer rows, rows-counted is_inner rows)

  -- ---- the job's rows in the table
  rows_cut : (k : Kind) (w o : ℕ) (p : Piece) → rows_of (cut_of k w o p) ≡ cond (eqb p.job j) (cut_of k w o p) []
  unfolding cut_of
  rows_cut k w o p = grind (arith, nat_tests)

  module _ (k : Kind) (w : ℕ) (ss : List Ticks) where
    rows_none : (o : ℕ) (ps : List Piece) → AllAt (Placed k w ss) o ps → ticks_for j ps ≡ 0 → rows_of (packed k w o ps) ≡ []
    unfolding packed
    rows_none o [] h e = refl
    rows_none o (p ∷ ps) h e =
        rw (filter-append of_job (cut_of k w o p) (packed k w (o + p.ticks) ps), rows_cut k w o p)
        (grind (arith, nat_tests, h.0.some, rows_none (o + p.ticks) ps h.1))

    -- The job has one piece: what is left behind it has no ticks for the job.
    rows-some : (o : ℕ) (ps : List Piece) → AllAt (Placed k w ss) o ps → 0 < ticks_on k (share_at ss j)
        → ticks_for j ps ≡ ticks_on k (share_at ss j) → rows_of (packed k w o ps) ≡ cut_of k w (offset k w ss j) (piece_at k ss j)
    unfolding packed cut_of
    rows-some o [] h some e = absurd (omega arith)
    rows-some o (p ∷ ps) h some e =
        rw (filter-append of_job (cut_of k w o p) (packed k w (o + p.ticks) ps), rows_cut k w o p)
        (grind (arith, nat_tests, h.0.at, h.0.ticks, append-nil, rows_none (o + p.ticks) ps h.1, rows-some (o + p.ticks) ps h.1 some))

    -- The slices of the job on a kind: those of its run, where it has ticks there.
    abbrev pub run_of : List Slice
    run_of = cond (ltb 0 (ticks_on k (share_at ss j))) (cut_of k w (offset k w ss j) (piece_at k ss j)) []

    rows-kind : j < length ss → rows_of (packed k w 0 (pieces_of k w ss)) ≡ run_of
    rows-kind h =
        let all = pieces-placed k w ss in
        let for = pieces-for k w ss j h in
        grind (arith, nat_tests, rows_none 0 (pieces_of k w ss) all, rows-some 0 (pieces_of k w ss) all)

  pub rows-table : (w : ℕ) (ss : List Ticks) → j < length ss → rows_of (table_of w ss) ≡ run_of First w ss ++ run_of Second w ss
  unfolding table_of
  rows-table w ss h =
      filter-append of_job (packed First w 0 (pieces_of First w ss)) (packed Second w 0 (pieces_of Second w ss)) ∙ rw (rows-kind First w ss h, rows-kind Second w ss h)
