-- The demands of every call of `split`, in their own words, as planner/proofs/Demands.antt has them for the planning call: the shares' half of
-- demand 2, job by job, and demand 3. Each theorem starts from the promise in `split`'s contract, `Promised`, and from nothing else: the call is
-- given a board and the n jobs js, and answers r. The words are those of the model: DoneBy, ticks_of, Split. Assumes nothing.
use mathlib.Core.List.{List}
use mathlib.Core.Bool.{true}
use mathlib.Core.Logic.Iff
use mathlib.Core.Logic.{◌↔◌}
use mathlib.Core.Path.{◌≡◌}
use Prim.Native.Nat.{ℕ, ◌+◌, ◌-◌, ◌≤◌, ◌<◌}
use lib.ListN.{length, get_or}
use Rattle.std.specs.Prelude.{Result}
use Rattle.model.specs.Board.{room_of}
use Rattle.model.specs.Empty.{no_job}
use Rattle.model.specs.Movers.{movers, unevens}
use Rattle.model.specs.Refusal.{given, refused, room_refusal}
use Rattle.model.specs.Split.{Ticks, share, DoneBy, ticks_of, Split}
use Rattle.model.specs.declared.Kind.{Kind}
use Rattle.model.specs.declared.Kind.TheVariants.{First, Second}
use Rattle.model.specs.declared.Board.{Board}
use Rattle.model.specs.declared.Job.{Job}
use Rattle.model.specs.declared.Refusal.{Refusal}
use Rattle.model.proofs.Splits.{all-done-length, all-done-at}
use Rattle.legal.specs.Lawful.{Lawful}
use Rattle.legal.specs.Legal.{legal_of}
use Rattle.legal.proofs.Lawful.{legal-lawful}
use Rattle.split.specs.Causes.{stopped_on, BothOver, StillOver, OtherOver, RoomCause}
use Rattle.split.specs.Promise.{stretched_on, Accepted, Promised}
use Rattle.split.specs.Shares.{says_shared}
use Rattle.split.specs.Steps.{here_sum}
use Rattle.split.specs.declared.Shares.{Shares}
use Rattle.split.proofs.Causes.{refused-for-room, six, fourteen, fifteen, sixteen, stopped-full, cause-once}
use Rattle.split.proofs.Demands.{room-only as only}

module _ {board : Board} {n : ℕ} {js : List Job} {r : Result Shares Refusal} (p : Promised board n js r) where
  -- ==== Demand 2, as far as it is of shares: in every answer that gives shares ss, each job gets its whole work.
  module _ {ss : List Ticks} (says : says_shared r ≡ given ss) where
    accepted : Accepted board js ss
    accepted = rw says at p.demands

    -- Job j, and its share. What is read past the end of the set is never asked for.
    abbrev job_at : ℕ → Job
    job_at j = get_or js j no_job

    abbrev share_at : ℕ → Ticks
    share_at j = get_or ss j (share 0 0)

    -- There is a share for each job,
    pub each_shared : length ss ≡ length js
    each_shared = all-done-length board.window 1 js ss accepted.whole.done

    -- which does its whole work in whole ticks,
    pub job-whole : (j : ℕ) → j < length js → DoneBy board.window 1 (job_at j) (share_at j)
    job-whole j l = all-done-at board.window 1 no_job (share 0 0) js ss j l accepted.whole.done

    -- and all shares together are within each kind's room.
    pub kind-within : (kind : Kind) → ticks_of kind ss ≤ room_of board kind
    kind-within First = accepted.whole.within1
    kind-within Second = accepted.whole.within2

    -- At most one mover is not even, and movers are no more than cores: what lets the shares be placed.
    pub uneven-once : unevens board.window ss ≤ 1
    uneven-once = accepted.one-uneven

    pub movers-placed : movers ss ≤ board.first + board.second
    movers-placed = accepted.few-movers

  -- ==== Demand 3. A legal set is refused for room only if no split exists, even in fractions of ticks, on a board with one tick fewer
  -- per window for each stretched job on the kind where it fits. With no stretched job, exactly when no split exists at all.
  -- The room of a kind, with one tick fewer for each stretched job that fits there.
  abbrev less : Kind → ℕ
  less kind = room_of board kind - stretched_on board js kind

  -- Refused for room only if no split exists on the smaller board: of any set, for one that is not legal has another refusal.
  pub room-only : room_refusal (says_shared r) ≡ true → Split board.window (less First) (less Second) js → ⊥
  room-only = rw p.answers.says (only board n js)

  -- With no stretched job, exactly when no split exists at all.
  pub room-exactly : legal_of board n js ≡ given tt → stretched_on board js First ≡ 0 → stretched_on board js Second ≡ 0
      → (room_refusal (says_shared r) ≡ true) ↔ (Split board.window (room_of board First) (room_of board Second) js → ⊥)
  room-exactly = p.exactly

  -- ==== Which kind was short. A refusal for room is one of four, and each of a legal set is given exactly for its cause (specs/Causes.antt).
  module _ (legal : legal_of board n js ≡ given tt) where
    law : Lawful board n js
    law = legal-lawful board n js legal

    caused : {number place : ℕ} → (says_shared r ≡ refused number place) ↔ RoomCause board js number place
    caused = rw p.answers.says (refused-for-room board n js law)

    -- 6: both kinds are over at home.
    pub by-six : (says_shared r ≡ refused 6 0) ↔ BothOver board js
    by-six = Iff.trans caused (six board js)

    -- 14: the first kind alone is over at home, and so it is with all its movable jobs at their far ends. 15: the same of the second.
    pub by-fourteen : (says_shared r ≡ refused 14 0) ↔ StillOver board js First
    by-fourteen = Iff.trans caused (fourteen board js)

    pub by-fifteen : (says_shared r ≡ refused 15 0) ↔ StillOver board js Second
    by-fifteen = Iff.trans caused (fifteen board js)

    -- 16: one kind alone is over at home, and is not with all its movable jobs at their far ends, but the other is over where the steps stopped.
    pub by-sixteen : (says_shared r ≡ refused 16 0) ↔ ((kind : Kind) × OtherOver board js kind)
    by-sixteen = Iff.trans caused (sixteen board js)

    -- The one is then exactly full.
    pub sixteen-full : (kind : Kind) → OtherOver board js kind → here_sum (stopped_on board js kind) ≡ room_of board kind
    sixteen-full = stopped-full board n js law

    -- No other number refuses a legal set for room, and at most one of the four does.
    pub room-one-cause : {number place : ℕ} → says_shared r ≡ refused number place → RoomCause board js number place
    room-one-cause = caused.0

    pub room-once : {number place number' place' : ℕ} → RoomCause board js number place → RoomCause board js number' place'
        → (number ≡ number') × (place ≡ place')
    room-once = cause-once board n js law
