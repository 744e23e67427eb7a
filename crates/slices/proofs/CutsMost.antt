-- A bound on cuts, the edges of cores that the runs of a job pass: a mover counts 2 and its cuts, any other job its cuts twice, and together they
-- come to 3·(m1 + m2) − 2 at the most. One idea: the movers stand first on each kind and begin as many cores as their ticks need. Behind them only
-- the edges of the cores that are left can be passed, and on both kinds together they begin at least as many cores as they are. Assumes nothing.
use mathlib.Core.Path.{◌≡◌, refl, sym, ap}
use mathlib.Core.Bool.{Bool, cond}
use mathlib.Core.List.{List, [], ◌∷◌}
use Prim.Native.Nat.{ℕ, ◌+◌, ◌-◌, ◌*◌, ◌/◌, ◌≤◌, ◌<◌}
use native.Mathlib.Nat.{div-mul-le_self, lt-div-mul-add, lt_of_mul-lt-mul_right}
use native.Mathlib.Omega.{arith}
use lib.ListN.{length}
use Rattle.rows.specs.Lists.{sum_of}
use Rattle.rows.specs.Numbered.{sum_below}
use Rattle.rows.proofs.Lists.{sum-append}
use Rattle.rows.proofs.Numbered.{below-add, below-same, below-list}
use Rattle.model.specs.Board.{cores_of}
use Rattle.model.specs.Movers.{is_mover, movers}
use Rattle.model.specs.Split.{Ticks, share, ticks_on}
use Rattle.model.specs.declared.Board.{Board}
use Rattle.model.specs.declared.Kind.{Kind}
use Rattle.model.specs.declared.Kind.TheVariants.{First, Second}
use Rattle.model.proofs.RoomLaws.{room_most}
use Rattle.model.proofs.Movers.{ticks_of_movers, movers-reach}
use Rattle.slices.specs.Fits.{Fits}
use Rattle.slices.specs.Table.{Piece, even_mover, other_mover, alone, chosen, pieces_of}
use Rattle.slices.proofs.Cuts.{edges, edges-empty}
use Rattle.slices.proofs.Packs.{AllAt, total, cuts, cuts-few}
use Rattle.slices.proofs.Pieces.{share_at, chosen-below, chosen-total, alone-whole, tests-whole, alone-parts}
use Rattle.slices.proofs.Places.{offset, piece_at, cut_at, cuts_of, Placed, pieces-placed, alone-placed}
use Rattle.slices.proofs.Timetabled.{sized}
use Rattle.slices.proofs.Counts.{fits-movers, kind-cuts}

-- ---- the cuts of a kind, job by job
module _ (k : Kind) (w : ℕ) (ss : List Ticks) where
  -- The cuts of a piece, from where its job begins, and those of a job if a test holds of its share.
  abbrev cuts_in : Piece → ℕ
  cuts_in p = edges w (offset k w ss p.job) p

  abbrev cut_if : (Ticks → Bool) → ℕ → ℕ
  cut_if test j = cond (test (share_at ss j)) (cut_at k w ss j) 0

  placed-cuts : (o : ℕ) (ps : List Piece) → AllAt (Placed k w ss) o ps → cuts w o ps ≡ sum_of cuts_in ps
  placed-cuts o [] h = refl
  placed-cuts o (p ∷ ps) h = omega (arith, ap (λ (a : ℕ). edges w a p) h.0.at, placed-cuts (o + p.ticks) ps h.1)

  cut-none : 1 ≤ w → (j : ℕ) → ticks_on k (share_at ss j) ≡ 0 → cut_at k w ss j ≡ 0
  cut-none wide j = edges-empty w (offset k w ss j) (piece_at k ss j) wide

  jobs-cuts : 1 ≤ w → sum_below (length ss) (cut_at k w ss) ≡ cuts w 0 (pieces_of k w ss)
  unfolding pieces_of
  jobs-cuts wide =
      rw (placed-cuts 0 (pieces_of k w ss) (pieces-placed k w ss))
      (simp (sum-append, chosen-below)
      (omega (
        arith,
        below-same (cut_at k w ss) (λ (j : ℕ). cut_if (even_mover w) j + (cut_if (other_mover w) j + cut_if (alone k) j)) (length ss)
            (λ j l. sym (tests-whole k w (share_at ss j) (cut_at k w ss j) (cut-none wide j))),
        below-add (cut_if (even_mover w)) (λ (j : ℕ). cut_if (other_mover w) j + cut_if (alone k) j) (length ss),
        below-add (cut_if (other_mover w)) (cut_if (alone k)) (length ss),
      )))

  alone-cuts : sum_below (length ss) (cut_if (alone k)) ≡ cuts w (ticks_of_movers k ss) (chosen (alone k) k 0 ss)
  alone-cuts = rw (placed-cuts (ticks_of_movers k ss) (chosen (alone k) k 0 ss) (alone-placed k w ss)) (sym (chosen-below (alone k) k cuts_in ss))

-- ---- the bound
-- The cores that are begun where a positions of m cores are taken: a / w, rounded up.
begun : (w a m : ℕ) → 1 ≤ w → a ≤ m * w → (c : ℕ) × (a ≤ c * w) × (c * w ≤ a + w) × (c ≤ m)
begun w a m wide within =
    let c : ℕ = (a + (w - 1)) / w in
    let low : a + (w - 1) < c * w + w = lt-div-mul-add wide in
    let high : c * w ≤ a + (w - 1) = div-mul-le_self (a + (w - 1)) w in
    let most : c < m + 1 = lt_of_mul-lt-mul_right w (omega arith) in
    (c, omega arith, omega arith, omega arith)

module _ (board : Board) (ss : List Ticks) where
  abbrev w : ℕ
  w = board.window

  -- The cuts behind the movers of a kind.
  abbrev behind : Kind → ℕ
  behind k = cuts w (ticks_of_movers k ss) (chosen (alone k) k 0 ss)

  -- What a job counts on a kind: a mover 1 and its cuts, any other job its cuts twice.
  abbrev count_on : Kind → ℕ → ℕ
  count_on k j = cond (is_mover (share_at ss j)) 1 0 + (cut_at k w ss j + cut_if k w ss (alone k) j)

  module _ (fits : Fits board ss) where
    -- The cuts behind the movers, and the cores that the movers begin, are at most the cores of the kind.
    behind-few : (k : Kind) → (c : ℕ) × (ticks_of_movers k ss ≤ c * w) × (behind k + c ≤ cores_of board k)
    behind-few k =
        let within : ticks_of_movers k ss + total (chosen (alone k) k 0 ss) ≤ cores_of board k * w =
        omega (arith, chosen-total (alone k) k 0 ss, alone-parts k ss, fits.within k, room_most board k) in
        let c = begun w (ticks_of_movers k ss) (cores_of board k) fits.some (omega arith) in (
          c.0,
          c.1,
          cuts-few k w fits.some (Placed k w ss) (sized board ss fits k) (cores_of board k) c.0 (ticks_of_movers k ss)
              (chosen (alone k) k 0 ss) (alone-placed k w ss) c.1 c.2 c.3 within,
        )

    -- Those of both kinds, and the movers, are at most all cores.
    behind-movers : behind First + behind Second + movers ss ≤ board.first + board.second
    behind-movers =
        let one = behind-few First in
        let two = behind-few Second in
        let reach : movers ss < one.0 + two.0 + 1 =
        lt_of_mul-lt-mul_right w (omega (arith, movers-reach w ss fits.some fits.one-uneven, one.1, two.1)) in
        omega (arith, one.2, two.2)

    -- All jobs together count the movers, all cuts, and those behind the movers once more.
    kind-count : (k : Kind) → sum_below (length ss) (count_on k) ≡ movers ss + (cuts w 0 (pieces_of k w ss) + behind k)
    kind-count k =
        omega (
          arith,
          below-add (λ (j : ℕ). cond (is_mover (share_at ss j)) 1 0) (λ (j : ℕ). cut_at k w ss j + cut_if k w ss (alone k) j) (length ss),
          below-add (cut_at k w ss) (cut_if k w ss (alone k)) (length ss),
          below-list (λ (s : Ticks). cond (is_mover s) 1 0) (share 0 0) ss,
          jobs-cuts k w ss fits.some,
          alone-cuts k w ss,
        )

    both-count : (j : ℕ) → cond (is_mover (share_at ss j)) (2 + cuts_of w ss j) (2 * cuts_of w ss j) ≡ count_on First j + count_on Second j
    both-count j =
        let whole : (k : Kind) → cut_if k w ss is_mover j + cut_if k w ss (alone k) j ≡ cut_at k w ss j =
        λ k. alone-whole k (share_at ss j) (cut_at k w ss j) (cut-none k w ss fits.some j) in
        grind (arith, whole First, whole Second)

    pub cuts-most : 1 ≤ board.first → 1 ≤ board.second
        → sum_below (length ss) (λ (j : ℕ). cond (is_mover (share_at ss j)) (2 + cuts_of w ss j) (2 * cuts_of w ss j)) + 2
        ≤ 3 * (board.first + board.second)
    cuts-most some1 some2 =
        omega (
          arith,
          below-same (λ (j : ℕ). cond (is_mover (share_at ss j)) (2 + cuts_of w ss j) (2 * cuts_of w ss j))
              (λ (j : ℕ). count_on First j + count_on Second j) (length ss) (λ j l. both-count j),
          below-add (count_on First) (count_on Second) (length ss),
          kind-count First,
          kind-count Second,
          kind-cuts board ss fits First some1,
          kind-cuts board ss fits Second some2,
          behind-movers,
          fits-movers board ss fits,
        )
