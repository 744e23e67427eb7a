-- The table of slices is a timetable. One idea: a slice that runs at a tick stands there at a position, tick x of core c at c · W + x on the
-- first kind and at c · W + (W − 1 − x) on the second, and a job's positions on a kind are one run of its ticks. Two positions of one kind
-- at one tick are W or more apart, which no run of a job is; and those of a mover on its two kinds would add up, with one, to whole
-- windows, which lies strictly between two neighbours. Assumes nothing.
use mathlib.Core.Path.{◌≡◌, refl, sym}
use mathlib.Core.Bool.{cond}
use mathlib.Core.List.{List}
use Prim.Native.Nat.{ℕ, ◌+◌, ◌-◌, ◌*◌, ◌≤◌, ◌<◌}
use native.Mathlib.Nat.{lt_of_mul-lt-mul_right, mul-le-mul_right}
use native.Mathlib.Omega.{arith}
use lib.ListN.{length, get_or}
use Rattle.rows.specs.Lists.{All, Pairs}
use Rattle.rows.proofs.Never.{never}
use Rattle.rows.proofs.Lists.{all_map, all_append, all-at, pairs-append, pairs-map, sum-append}
use Rattle.model.specs.Board.{on, room_of, same_kind}
use Rattle.model.specs.Split.{Ticks, share, ticks_on}
use Rattle.model.specs.Timetable.{Runs, Apart, SameCore, Inside, is_of, ticks_in, Timetable}
use Rattle.model.specs.declared.Board.{Board}
use Rattle.model.specs.declared.Kind.{Kind}
use Rattle.model.specs.declared.Kind.TheVariants.{First, Second}
use Rattle.model.specs.declared.Slice.{Slice}
use Rattle.model.proofs.RoomLaws.{room_most}
use Rattle.model.proofs.Movers.{some-mover}
use Rattle.slices.specs.Fits.{Fits}
use Rattle.slices.specs.Table.{Piece, pieces_of, cut_of, packed, table_of}
use Rattle.slices.proofs.Cuts.{from, Cut, Before, cut_all}
use Rattle.slices.proofs.Packs.{ticks_for, packed_all, packed-pairs, packed-ticks}
use Rattle.slices.proofs.Pieces.{share_at, pieces-for, pieces-total}
use Rattle.slices.proofs.Places.{offset, Placed, pieces-placed, offset-whole}

-- The slices of a kind.
abbrev pub rows_on : Kind → ℕ → List Ticks → List Slice
rows_on k w ss = packed k w 0 (pieces_of k w ss)

kinds-same-not : (s t : Slice) → s.kind ≡ First → t.kind ≡ Second → s.kind ≡ t.kind → ⊥
kinds-same-not s t e f same = never (cc)

-- The place of a tick on a core, in the kind's direction.
abbrev place : Kind → ℕ → ℕ → ℕ
place k w tick = on k tick (w - (tick + 1))

-- A slice that runs at a tick has its position there between its ends.
run_at : (k : Kind) (w start len tick : ℕ) → start + len ≤ w → start ≤ tick → tick < start + len
    → (on k start (w - (start + len)) ≤ place k w tick) × (place k w tick < on k start (w - (start + len)) + len)
run_at First w start len tick ends low high = omega arith
run_at Second w start len tick ends low high = omega arith

-- Of two slices of one kind that run at one tick, the later is on a higher core.
core-rises : (w : ℕ) (s t : Slice) (tick : ℕ) → s.start + s.length ≤ w → t.start + t.length ≤ w → Before w s t → s.kind ≡ t.kind
    → Runs s tick → Runs t tick → s.core < t.core
core-rises w s t tick ends1 ends2 before same r1 r2 =
    let e : place s.kind w tick ≡ place t.kind w tick = rw same in
    lt_of_mul-lt-mul_right w
    (omega (
      arith,
      before same,
      run_at s.kind w s.start s.length tick ends1 r1.0 r1.1,
      run_at t.kind w t.start t.length tick ends2 r2.0 r2.1,
    ))

-- Two runs that begin at whole windows in all, and are a window long at most in all, share no tick.
runs-apart : (w n c d x a b t1 t2 : ℕ) → x < w → a + b ≡ n * w → t1 + t2 ≤ w
    → (a ≤ c * w + x) × (c * w + x < a + t1) → (b ≤ d * w + (w - (x + 1))) × (d * w + (w - (x + 1)) < b + t2) → ⊥
runs-apart w n c d x a b t1 t2 inside whole most run1 run2 =
    let low : n < c + d + 1 = lt_of_mul-lt-mul_right w (omega arith) in
    let high : c + d + 1 < n + 1 = lt_of_mul-lt-mul_right w (omega arith) in
    omega arith

module _ (board : Board) (ss : List Ticks) where
  abbrev w : ℕ
  w = board.window

  -- A slice inside the board that stands in the run of its job.
  record Row (s : Slice) : Type 0 where
    inside : Inside board (length ss) s
    low : offset s.kind w ss s.job ≤ from w s
    high : from w s + s.length ≤ offset s.kind w ss s.job + ticks_on s.kind (share_at ss s.job)

  placed_row : (k : Kind) (o : ℕ) (p : Piece) (s : Slice) → o + p.ticks ≤ room_of board k → Placed k w ss o p
      → Cut k w p.job o (o + p.ticks) s → Row s
  placed_row k o p s within h cut =
      let at : offset s.kind w ss s.job ≡ o = rw (cut.kind, cut.job) (sym h.at) in
      let ticks : ticks_on s.kind (share_at ss s.job) ≡ p.ticks = rw (cut.kind, cut.job) (sym h.ticks) in
      record {
        inside = record {
          some = cut.some;
          ends = cut.ends;
          core = rw cut.kind (lt_of_mul-lt-mul_right w (omega (arith, cut.high, cut.some, room_most board k)));
          job = rw cut.job h.job;
        };
        low = omega (arith, cut.low);
        high = omega (arith, cut.high);
      }

  row-run : (k : Kind) (j tick : ℕ) (s : Slice) → s.kind ≡ k → s.job ≡ j → Row s → Runs s tick
      → (offset k w ss j ≤ s.core * w + place k w tick)
      × (s.core * w + place k w tick < offset k w ss j + ticks_on k (share_at ss j))
  row-run k j tick s kind job row runs =
      rw (sym kind, sym job)
      (omega (
        arith,
        row.low,
        row.high,
        run_at s.kind w s.start s.length tick row.inside.ends runs.0 runs.1,
      ))

  row-ticks : (k : Kind) (j : ℕ) (s : Slice) → s.kind ≡ k → s.job ≡ j → Row s → 0 < ticks_on k (share_at ss j)
  row-ticks k j s kind job row = rw (sym kind, sym job) (omega (arith, row.low, row.high, row.inside.some))

  module _ (fits : Fits board ss) where
    pub both-short : (j : ℕ) → j < length ss → ticks_on First (share_at ss j) + ticks_on Second (share_at ss j) ≤ w
    both-short j h = all-at (λ (s : Ticks). s.first + s.second ≤ w) (share 0 0) ss j h fits.each

    short : (k : Kind) (j : ℕ) → j < length ss → ticks_on k (share_at ss j) ≤ w
    short First j h = omega (arith, both-short j h)
    short Second j h = omega (arith, both-short j h)

    pub sized : (k : Kind) (o : ℕ) (p : Piece) → Placed k w ss o p → (0 < p.ticks) × (p.ticks ≤ w)
    sized k o p h = (h.some, omega (arith, h.ticks, short k p.job h.job))

    -- What every two slices of a kind have, by their runs.
    kind-pairs : (k : Kind) (R : Slice → Slice → Type 0) → ((o : ℕ) (p : Piece) → Placed k w ss o p → Pairs R (cut_of k w o p))
        → ((o e : ℕ) (p q : Piece) (s t : Slice) → o + p.ticks ≤ e → Placed k w ss o p → Placed k w ss e q
        → Cut k w p.job o (o + p.ticks) s → Cut k w q.job e (e + q.ticks) t → R s t)
        → Pairs R (rows_on k w ss)
    kind-pairs k R one two =
        packed-pairs k w fits.some (Placed k w ss) (sized k) R one two 0 (pieces_of k w ss) (pieces-placed k w ss)

    kind-before : (k : Kind) → Pairs (Before w) (rows_on k w ss)
    kind-before k =
        kind-pairs k (Before w) (λ o p h. (cut_all k w o p fits.some (sized k o p h).0 (sized k o p h).1).1)
        (λ o e p q s t later h g c d same. omega (arith, c.high, d.low))

    one-kind : (s t : Slice) → Row s → Row t → Before w s t → s.kind ≡ t.kind → s.job ≡ t.job → Apart s t
    one-kind s t r1 r2 before kind job tick runs1 runs2 =
        let up = core-rises w s t tick r1.inside.ends r2.inside.ends before kind runs1 runs2 in
        omega (
          arith,
          mul-le-mul_right w up,
          row-run t.kind t.job tick s kind job r1 runs1,
          row-run t.kind t.job tick t refl refl r2 runs2,
          short t.kind t.job r2.inside.job,
        )

    two-kinds : (s t : Slice) → Row s → Row t → s.kind ≡ First → t.kind ≡ Second → s.job ≡ t.job → Apart s t
    two-kinds s t r1 r2 first second job tick runs1 runs2 =
        let mover = some-mover (share_at ss t.job) (row-ticks First t.job s first job r1) (row-ticks Second t.job t second refl r2) in
        let whole = offset-whole w ss t.job fits.one-uneven r2.inside.job mover in
        runs-apart w whole.0 s.core t.core tick _ _ _ _ (omega (arith, runs1.1, r1.inside.ends)) whole.1
        (both-short t.job r2.inside.job) (row-run First t.job tick s first job r1 runs1)
        (row-run Second t.job tick t second refl r2 runs2)

    apart : (s t : Slice) → Row s → Row t → Before w s t → s.job ≡ t.job → Apart s t
    apart s t r1 r2 before job = go s.kind t.kind refl refl
      where
        go : (k l : Kind) → s.kind ≡ k → t.kind ≡ l → Apart s t
        go First First e f = one-kind s t r1 r2 before (cc) job
        go First Second e f = two-kinds s t r1 r2 e f job
        go Second First e f = λ tick runs1 runs2. two-kinds t s r2 r1 f e (sym job) tick runs2 runs1
        go Second Second e f = one-kind s t r1 r2 before (cc) job

    -- ---- the table
    kind-all : (k : Kind) (Q : Slice → Type 0)
        → ((o : ℕ) (p : Piece) (s : Slice) → o + p.ticks ≤ room_of board k → Placed k w ss o p
        → Cut k w p.job o (o + p.ticks) s → Q s)
        → All Q (rows_on k w ss)
    kind-all k Q f =
        packed_all k w fits.some (Placed k w ss) (sized k) Q 0 (room_of board k)
        (λ o p s low high h cut. f o p s high h cut) 0 (pieces_of k w ss) (omega arith)
        (omega (arith, pieces-total k w ss, fits.within k)) (pieces-placed k w ss)

    table-rows : All Row (table_of w ss)
    unfolding table_of
    table-rows =
        all_append Row (rows_on First w ss) (rows_on Second w ss)
        (kind-all First Row (placed_row First)) (kind-all Second Row (placed_row Second))

    -- What every two slices of a kind have, and those of two kinds, every two rows have.
    table-pairs : (R : Slice → Slice → Type 0) → ((s t : Slice) → s.kind ≡ First → t.kind ≡ Second → R s t)
        → ((k : Kind) → Pairs R (rows_on k w ss)) → Pairs R (table_of w ss)
    unfolding table_of
    table-pairs R two one =
        pairs-append (λ (s : Slice). s.kind ≡ First) (λ (s : Slice). s.kind ≡ Second) R two (rows_on First w ss) (rows_on Second w ss)
        (kind-all First (λ (s : Slice). s.kind ≡ First) (λ o p s high h cut. cut.kind))
        (kind-all Second (λ (s : Slice). s.kind ≡ Second) (λ o p s high h cut. cut.kind)) (one First) (one Second)

    table_before : Pairs (Before w) (table_of w ss)
    table_before = table-pairs (Before w) (λ s t e f same. absurd (kinds-same-not s t e f same)) kind-before

    table-served : (kind : Kind) (job : ℕ) → job < length ss
        → ticks_in kind job (table_of w ss) ≡ ticks_on kind (get_or ss job (share 0 0))
    unfolding table_of
    table-served kind job h =
        omega (
          arith,
          sum-append (λ (s : Slice). cond (is_of kind job s) s.length 0) (rows_on First w ss) (rows_on Second w ss),
          packed-ticks First w fits.some kind job 0 (pieces_of First w ss),
          packed-ticks Second w fits.some kind job 0 (pieces_of Second w ss),
          go kind,
        )
      where
        go : (kind : Kind) → cond (same_kind kind First) (ticks_for job (pieces_of First w ss)) 0
            + cond (same_kind kind Second) (ticks_for job (pieces_of Second w ss)) 0 ≡ ticks_on kind (share_at ss job)
        go First = omega (arith, pieces-for First w ss job h)
        go Second = omega (arith, pieces-for Second w ss job h)

    pub table-timetable : Timetable board ss (table_of board.window ss)
    table-timetable =
        record {
          inside = all_map Row (Inside board (length ss)) (λ s row. row.inside) (table_of w ss) table-rows;
          cores =
              pairs-map Row (Before w) (λ (s t : Slice). SameCore s t → Apart s t)
              (λ s t r1 r2 before same tick runs1 runs2.
              omega (arith, same.1, core-rises w s t tick r1.inside.ends r2.inside.ends before same.0 runs1 runs2))
              (table_of w ss) table-rows table_before;
          jobs = pairs-map Row (Before w) (λ (s t : Slice). s.job ≡ t.job → Apart s t) apart (table_of w ss) table-rows table_before;
          served = table-served;
        }
