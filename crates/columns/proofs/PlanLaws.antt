-- The laws of plans: what an answer counts, and what is known of the shares that are given.
-- Assumes nothing.
--   counts-are        the counts of an accepted plan are those of the definition's
--   shares-lawful     shares are given of lawful sets alone
--   shares-accepted   and they are accepted by the split's promise
--   accepted-fits     accepted shares fit the board, so that their table is a timetable
--   accepted-few      and they have at most n + 2·(m1 + m2) − 2 slices
--   shares-fit        so the shares that are given fit
--   table-asks        what the code asks before it places them
use mathlib.Core.Path.{◌≡◌, refl, ap}
use mathlib.Core.List.{List, [], ◌∷◌}
use Prim.Native.Nat.{ℕ, ◌+◌, ◌*◌, ◌≤◌}
use native.Mathlib.Nat.{mul-le-mul_right}
use native.Mathlib.Omega.{arith}
use lib.ListN.{length}
use Rattle.rows.specs.Lists.{All}
use Rattle.rows.proofs.Never.{never}
use Rattle.model.specs.Board.{room_of}
use Rattle.model.specs.Refusal.{Answer, given, refused, and_then}
use Rattle.model.specs.Split.{Ticks, AllDone, ticks_of}
use Rattle.model.specs.declared.Kind.{Kind}
use Rattle.model.specs.declared.Kind.TheVariants.{First, Second}
use Rattle.model.specs.declared.Board.{Board}
use Rattle.model.specs.declared.Job.{Job}
use Rattle.model.specs.declared.Job.TheVariants.{Both, OnlyFirst, OnlySecond}
use Rattle.model.proofs.RoomLaws.{room_most}
use Rattle.model.proofs.Splits.{all-done-length}
use Rattle.legal.specs.Lawful.{Lawful}
use Rattle.legal.specs.Legal.{legal_of}
use Rattle.legal.proofs.Lawful.{legal-lawful}
use Rattle.split.specs.Promise.{Accepted}
use Rattle.split.specs.Shares.{split_of, shares_of}
use Rattle.split.proofs.Demands.{demands}
use Rattle.slices.specs.Fits.{Fits}
use Rattle.slices.specs.Table.{table_of}
use Rattle.slices.proofs.Counts.{table-few}
use Rattle.columns.specs.Packing.{TableAsks}
use Rattle.columns.specs.Plan.{Plan, shares_given, slices_given, counts_in}
use Rattle.columns.specs.declared.Counts.{Counts}

-- ---- what an answer counts
pub counts-are : (c : Counts) (x : Answer Plan) → given c ≡ counts_in x → (c.jobs ≡ length (shares_given x)) × (c.slices ≡ length (slices_given x))
counts-are c (given p) says =
    let same : c ≡ record { jobs = length p.shares; slices = length p.slices } = cc in
    (ap (λ (d : Counts). d.jobs) same, ap (λ (d : Counts). d.slices) same)
counts-are c (refused number place) says = never (cc)

-- ---- accepted shares
abbrev Each : ℕ → List Ticks → Type 0
Each w ss = All (λ (s : Ticks). s.first + s.second ≤ w) ss

done-each : (w : ℕ) (js : List Job) (ss : List Ticks) → AllDone w 1 js ss → Each w ss
done-each w [] [] d = tt
done-each w [] (s ∷ ss) d = absurd d
done-each w (j ∷ js) [] d = absurd d
done-each w (Both c1 c2 ∷ js) (s ∷ ss) d = (omega arith, done-each w js ss d.1)
done-each w (OnlyFirst c1 ∷ js) (s ∷ ss) d = (omega arith, done-each w js ss d.1)
done-each w (OnlySecond c2 ∷ js) (s ∷ ss) d = (omega arith, done-each w js ss d.1)

module _ (board : Board) (n : ℕ) (js : List Job) where
  pub shares-lawful : {ss : List Ticks} → shares_of board n js ≡ given ss → Lawful board n js
  shares-lawful {ss} e = go (legal_of board n js) refl e
    where
      go : (x : Answer (Unit {0})) → legal_of board n js ≡ x
          → and_then x (λ _. split_of board.window (room_of board First) (room_of board Second) js) ≡ given ss → Lawful board n js
      go (given _) legal e = legal-lawful board n js legal
      go (refused number place) legal e = never (cc)

  pub shares-accepted : {ss : List Ticks} → shares_of board n js ≡ given ss → Accepted board js ss
  shares-accepted e = rw e at (demands board n js)

  module _ (ss : List Ticks) (law : Lawful board n js) (ok : Accepted board js ss) where
    pub accepted-fits : Fits board ss
    accepted-fits =
        record {
          some = law.window-some;
          each = done-each board.window js ss ok.whole.done;
          within = within;
          one-uneven = ok.one-uneven;
        }
      where
        within : (k : Kind) → ticks_of k ss ≤ room_of board k
        within First = ok.whole.within1
        within Second = ok.whole.within2

    pub accepted-few : length (table_of board.window ss) + 2 ≤ length js + 2 * (board.first + board.second)
    accepted-few =
        omega (arith, table-few board ss accepted-fits law.first_some law.second-some, all-done-length board.window 1 js ss ok.whole.done)

  pub shares-fit : {ss : List Ticks} → shares_of board n js ≡ given ss → Fits board ss
  shares-fit {ss} e = accepted-fits ss (shares-lawful e) (shares-accepted e)

  pub table-asks : {ss : List Ticks} → length js ≡ n → shares_of board n js ≡ given ss → TableAsks board.window ss
  table-asks {ss} size e =
      let law = shares-lawful e in
      let ok = shares-accepted e in
      record {
        some = law.window-some;
        short = law.window-most;
        few = omega (arith, law.few, all-done-length board.window 1 js ss ok.whole.done);
        each = done-each board.window js ss ok.whole.done;
        within1 = omega (arith, ok.whole.within1, mul-le-mul_right board.window law.first-most, room_most board First);
        within2 = omega (arith, ok.whole.within2, mul-le-mul_right board.window law.second-most, room_most board Second);
        rows = omega (arith, law.few, accepted-few ss law ok, law.first-most, law.second-most);
      }
