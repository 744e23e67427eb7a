-- Each refusal for room has its cause, and each cause its refusal.
--   refused-for-room                  the split of a lawful set is refused exactly so, and in no other way
--   six, fourteen, fifteen, sixteen   the same number by number: what `RoomCause` says of one
--   stopped-full                      where a set is refused by 16, the kind that was over is exactly full
--   cause-once                        a set is refused for room by one number at most
--   cause-numbered                    the numbers are 6 and 14 to 16, and the place is 0
--   shares-never-7                    no set is refused by 7, which is for lent tables
-- Assumes nothing.
use mathlib.Core.Path.{◌≡◌, refl, sym, ◌∙◌}
use mathlib.Core.List.{List}
use mathlib.Core.Logic.{◌↔◌, ◌⊎◌, inl, inr, ⊎_elim}
use Prim.Native.Nat.{ℕ, ◌≤◌, ◌<◌}
use native.Mathlib.Omega.{arith}
use borrow.Author.Tests.{le-leb, lt-leb}
use Rattle.model.specs.Board.{room_of}
use Rattle.model.specs.Refusal.{Answer, given, refused}
use Rattle.model.specs.Terms.{other}
use Rattle.model.specs.declared.Kind.{Kind}
use Rattle.model.specs.declared.Kind.TheVariants.{First, Second}
use Rattle.model.specs.declared.Board.{Board}
use Rattle.model.specs.declared.Job.{Job}
use Rattle.legal.specs.Lawful.{Lawful}
use Rattle.legal.specs.Legal.{legal_of}
use Rattle.legal.proofs.Lawful.{legal-lawful, lawful-legal, legal-or}
use Rattle.split.specs.Causes.{stopped_on, BothOver, OneOver, StillOver, OtherOver, RoomCause, both-over, first-over, second-over, other-over}
use Rattle.split.specs.Shares.{home_rows, still_over, other_over, settled, split_of, shares_of}
use Rattle.split.specs.Steps.{here_sum}
use Rattle.split.proofs.Answers.{split-both, split-first, split-second}
use Rattle.split.proofs.Demands.{homes-stop, split-caused}
use Rattle.split.proofs.steps.FarEnds.{Stops, above, filled}

pub cause-numbered : {board : Board} {js : List Job} {number place : ℕ} → RoomCause board js number place
    → ((number ≡ 6) ⊎ (14 ≤ number)) × (number ≤ 16) × (place ≡ 0)
cause-numbered (both-over cause) = (inl refl, omega arith, refl)
cause-numbered (first-over cause) = (inr (omega arith), omega arith, refl)
cause-numbered (second-over cause) = (inr (omega arith), omega arith, refl)
cause-numbered (other-over k cause) = (inr (omega arith), omega arith, refl)

module _ (board : Board) (js : List Job) where
  pub six : RoomCause board js 6 0 ↔ BothOver board js
  six = (of, both-over)
    where
      of : RoomCause board js 6 0 → BothOver board js
      of (both-over cause) = cause

  pub fourteen : RoomCause board js 14 0 ↔ StillOver board js First
  fourteen = (of, first-over)
    where
      of : RoomCause board js 14 0 → StillOver board js First
      of (first-over cause) = cause

  pub fifteen : RoomCause board js 15 0 ↔ StillOver board js Second
  fifteen = (of, second-over)
    where
      of : RoomCause board js 15 0 → StillOver board js Second
      of (second-over cause) = cause

  pub sixteen : RoomCause board js 16 0 ↔ ((k : Kind) × OtherOver board js k)
  sixteen = (of, λ x. other-over x.0 x.1)
    where
      of : RoomCause board js 16 0 → (k : Kind) × OtherOver board js k
      of (other-over k cause) = (k, cause)

module _ (board : Board) (n : ℕ) (js : List Job) (law : Lawful board n js) where
  -- The steps from a kind that is over at home decide.
  by-steps : (k : Kind) → OneOver board js k → split_of board.window (room_of board First) (room_of board Second) js
      ≡ settled k (room_of board k) (room_of board (other k)) (stopped_on board js k)
  by-steps First home = sym (split-first board.window (room_of board First) (room_of board Second) js home.over home.within)
  by-steps Second home = sym (split-second board.window (room_of board First) (room_of board Second) js home.within home.over)

  stops : (k : Kind) → OneOver board js k → Stops board.window (room_of board k) (home_rows k js) (stopped_on board js k)
  stops k home = homes-stop k board.window (room_of board k) js law.jobs (omega (arith, home.over))

  stopped-above : (k : Kind) → StillOver board js k → room_of board k < here_sum (stopped_on board js k)
  stopped-above k cause = go (stops k cause.home)
    where
      go : Stops board.window (room_of board k) (home_rows k js) (stopped_on board js k) → room_of board k < here_sum (stopped_on board js k)
      go (above h far) = h
      go (filled h far) = absurd (omega (arith, cause.far))

  pub stopped-full : (k : Kind) → OtherOver board js k → here_sum (stopped_on board js k) ≡ room_of board k
  stopped-full k cause = go (stops k cause.home)
    where
      go : Stops board.window (room_of board k) (home_rows k js) (stopped_on board js k) → here_sum (stopped_on board js k) ≡ room_of board k
      go (above h far) = absurd (omega (arith, cause.far))
      go (filled h far) = h

  settled-still : (k : Kind) → StillOver board js k → settled k (room_of board k) (room_of board (other k)) (stopped_on board js k) ≡ still_over k
  unfolding settled
  settled-still k cause = rw (lt-leb _ _ (stopped-above k cause))

  settled-other : (k : Kind) → OtherOver board js k → settled k (room_of board k) (room_of board (other k)) (stopped_on board js k) ≡ other_over
  unfolding settled
  settled-other k cause =
      let within : here_sum (stopped_on board js k) ≤ room_of board k = omega (arith, stopped-full k cause) in
      rw (le-leb _ _ within, lt-leb _ _ cause.stopped)

  cause-refused : {number place : ℕ} → RoomCause board js number place
      → split_of board.window (room_of board First) (room_of board Second) js ≡ refused number place
  cause-refused (both-over cause) = sym (split-both board.window (room_of board First) (room_of board Second) js cause.first cause.second)
  cause-refused (first-over cause) = by-steps First cause.home ∙ settled-still First cause
  cause-refused (second-over cause) = by-steps Second cause.home ∙ settled-still Second cause
  cause-refused (other-over k cause) = by-steps k cause.home ∙ settled-other k cause

  pub refused-for-room : {number place : ℕ} → (shares_of board n js ≡ refused number place) ↔ RoomCause board js number place
  refused-for-room = rw (lawful-legal board n js law) (split-caused board n js law, cause-refused)

  pub cause-once : {number place number' place' : ℕ} → RoomCause board js number place → RoomCause board js number' place'
      → (number ≡ number') × (place ≡ place')
  cause-once cause cause' = let same = sym (cause-refused cause) ∙ cause-refused cause' in (cc, cc)

pub shares-never-7 : (board : Board) (n : ℕ) (js : List Job) {number place : ℕ} → shares_of board n js ≡ refused number place → number ≡ 7 → ⊥
shares-never-7 board n js {number} {place} e seven = go (legal_of board n js) refl
  where
    go : (x : Answer (Unit {0})) → legal_of board n js ≡ x → ⊥
    go (given tt) legal =
        ⊎_elim (λ six. omega arith) (λ more. omega arith) (cause-numbered ((refused-for-room board n js (legal-lawful board n js legal)).0 e)).0
    go (refused m q) legal =
        let same : m ≡ number = let is = rw legal at e in cc in
        omega (arith, legal-or board n js m q legal)
