-- Both sides of the lines of the split's promise, as model/proofs/BothSides.antt has them for the model: examples exactly at a limit, and
-- such as are wrong by one there and nowhere else. The lines that are held, in this order:
--   stretched_at   a cost of W and one more, on either kind, on both and on neither; a job on one kind
--   smaller        one tick fewer for each stretched job, on its home
--   Accepted       rooms exactly full, each kind by its own; no uneven mover, one, and two; as many movers as cores. That few-movers cannot fail by
--                  itself is movers-few of the model, so no example is wrong in it alone
--   Demands        a refusal for room with the slack, where the smaller board has a split and where it just has none
--   Exactly        a refusal where there is a split, and shares where there is none
--   RoomCause      for each of its numbers the tick that makes the difference; the kinds
-- Assumes nothing.
use mathlib.Core.Bool.{false≢true}
use mathlib.Core.List.{List, [], ◌∷◌, map}
use mathlib.Core.Path.{◌≡◌, refl}
use Prim.Native.Nat.{ℕ}
use native.Mathlib.Omega.{arith}
use Rattle.rows.specs.Lists.{lowest}
use Rattle.model.specs.Board.{room_of}
use Rattle.model.specs.Refusal.{given, refused}
use Rattle.model.specs.Split.{share}
use Rattle.model.specs.declared.Kind.TheVariants.{First, Second}
use Rattle.model.specs.declared.Job.{Job}
use Rattle.model.proofs.BothSides.{board, B, F, S, two-shares}
use Rattle.legal.specs.Legal.{on_board, legal_of}
use Rattle.split.specs.Causes.{RoomCause, both-over, first-over, second-over, other-over}
use Rattle.split.specs.Home.{at_home, stretched_at, keep_of, give_of}
use Rattle.split.specs.Promise.{smaller, Accepted, Demands, Exactly}
use Rattle.split.specs.Steps.{better, next_from, moved_of, step_of, steps_of}

-- ==== stretched_at, in a window of 10
abbrev limits : List Job
limits = B 10 10 ∷ B 10 11 ∷ B 11 10 ∷ B 11 11 ∷ F 10 ∷ F 11 ∷ S 10 ∷ S 11 ∷ []

pub stretched-first : map (stretched_at First 10) limits ≡ 0 ∷ 1 ∷ 0 ∷ 0 ∷ 0 ∷ 0 ∷ 0 ∷ 0 ∷ []
unfolding stretched_at
stretched-first = refl

pub stretched-second : map (stretched_at Second 10) limits ≡ 0 ∷ 0 ∷ 1 ∷ 0 ∷ 0 ∷ 0 ∷ 0 ∷ 0 ∷ []
unfolding stretched_at
stretched-second = refl

-- ==== smaller: two stretched jobs at home on the first kind, and one on the second
abbrev three : List Job
three = B 10 11 ∷ B 11 10 ∷ B 6 16 ∷ B 10 10 ∷ []

pub smaller-are : smaller (board 2 3) three First ∷ smaller (board 2 3) three Second ∷ [] ≡ 18 ∷ 29 ∷ []
unfolding stretched_at room_of
smaller-are = refl

-- ==== Accepted: B(2,3) has its whole work with 2 ticks on the first kind, or 3 on the second, or 1 and 2
abbrev two : List Job
two = B 2 3 ∷ B 2 3 ∷ []

pub accepted-no-uneven : Accepted (board 1 1) two (share 2 0 ∷ share 0 3 ∷ [])
unfolding room_of
accepted-no-uneven = search arith

-- Two movers, as many as cores, and both kinds exactly full.
pub accepted-one-uneven : Accepted (board 1 1) two (share 4 6 ∷ share 6 3 ∷ []) × Accepted (board 1 1) two (share 4 6 ∷ share 6 4 ∷ [])
unfolding room_of
accepted-one-uneven = search arith

pub accepted-two-unevens-not : Accepted (board 1 1) two (share 1 2 ∷ share 1 2 ∷ []) → ⊥
accepted-two-unevens-not a = omega arith

pub accepted-short-not : Accepted (board 1 1) two (share 2 0 ∷ share 1 1 ∷ []) → ⊥
accepted-short-not a = omega arith

pub accepted-rooms : Accepted (board 2 1) (F 10 ∷ F 10 ∷ []) (share 10 0 ∷ share 10 0 ∷ [])
    × Accepted (board 1 2) (S 10 ∷ S 10 ∷ []) (share 0 10 ∷ share 0 10 ∷ [])
unfolding room_of
accepted-rooms = search arith

pub accepted-first-not : Accepted (board 2 3) (F 10 ∷ F 10 ∷ F 1 ∷ []) (share 10 0 ∷ share 10 0 ∷ share 1 0 ∷ []) → ⊥
unfolding room_of
accepted-first-not a = omega arith

pub accepted-second-not : Accepted (board 3 2) (S 10 ∷ S 10 ∷ S 1 ∷ []) (share 0 10 ∷ share 0 10 ∷ share 0 1 ∷ []) → ⊥
unfolding room_of
accepted-second-not a = omega arith

-- ==== Demands and Exactly
-- A stretched job needs 3.6 ticks at home, where the smaller board has 9: with 6 for the other job there is no split, with 5 there is.
pub demands-first : Demands (board 1 1) (B 6 16 ∷ F 6 ∷ []) (refused 14 0)
unfolding stretched_at room_of
demands-first room s = omega (arith, two-shares s)

pub demands-first-not : Demands (board 1 1) (B 6 16 ∷ F 5 ∷ []) (refused 14 0) → ⊥
unfolding stretched_at room_of
demands-first-not d =
    d refl (record { whole = 1; some = omega arith; shares = share 4 6 ∷ share 5 0 ∷ []; done = omega arith; within1 = omega arith; within2 = omega arith })

pub demands-second : Demands (board 1 1) (B 16 6 ∷ S 6 ∷ []) (refused 15 0)
unfolding stretched_at room_of
demands-second room s = omega (arith, two-shares s)

pub demands-second-not : Demands (board 1 1) (B 16 6 ∷ S 5 ∷ []) (refused 15 0) → ⊥
unfolding stretched_at room_of
demands-second-not d =
    d refl (record { whole = 1; some = omega arith; shares = share 6 4 ∷ share 0 5 ∷ []; done = omega arith; within1 = omega arith; within2 = omega arith })

-- Shares that are given are accepted ones.
pub demands-given-not : Demands (board 1 1) (F 10 ∷ []) (given (share 9 0 ∷ [])) → ⊥
demands-given-not d = omega arith

-- With no stretched job: both kinds exactly full, and the first over by one tick.
pub exactly-refused-not : Exactly (board 1 1) 2 (F 10 ∷ S 10 ∷ []) (refused 16 0) → ⊥
unfolding lowest legal_of on_board stretched_at room_of
exactly-refused-not e =
    (e refl refl refl).0 refl
    (record { whole = 1; some = omega arith; shares = share 10 0 ∷ share 0 10 ∷ []; done = omega arith; within1 = omega arith; within2 = omega arith })

pub exactly-given-not : Exactly (board 1 1) 2 (F 10 ∷ F 1 ∷ []) (given (share 10 0 ∷ share 1 0 ∷ [])) → ⊥
unfolding lowest legal_of on_board stretched_at room_of
exactly-given-not e =
    let is = (e refl refl refl).1 (λ s. omega (arith, two-shares s)) in
    absurd (false≢true is)

-- ==== RoomCause
-- 6: both kinds over by a tick, and one of them exactly full.
pub both-over-six : RoomCause (board 1 1) (F 10 ∷ F 1 ∷ S 10 ∷ S 1 ∷ []) 6 0
unfolding at_home room_of
both-over-six = both-over (search arith)

pub one-full-not-six : RoomCause (board 1 1) (F 10 ∷ F 1 ∷ S 10 ∷ []) 6 0 → ⊥
unfolding at_home room_of
one-full-not-six (both-over cause) = omega (arith, cause.second)

-- 14: a stretched job keeps 4 ticks of its 6, beside 7 and beside 6. 15: the same on the second kind.
pub still-over-first : RoomCause (board 1 1) (B 6 16 ∷ F 7 ∷ []) 14 0
unfolding at_home keep_of room_of
still-over-first = first-over (search arith)

pub still-over-first-not : RoomCause (board 1 1) (B 6 16 ∷ F 6 ∷ []) 14 0 → ⊥
unfolding at_home keep_of room_of
still-over-first-not (first-over cause) = omega (arith, cause.far)

pub still-over-second : RoomCause (board 1 1) (B 16 6 ∷ S 7 ∷ []) 15 0
unfolding at_home keep_of room_of
still-over-second = second-over (search arith)

pub still-over-second-not : RoomCause (board 1 1) (B 6 16 ∷ F 7 ∷ []) 15 0 → ⊥
unfolding at_home room_of
still-over-second-not (second-over cause) = omega (arith, cause.home.over)

-- 16: the second kind has to take 6 of B(6,16), beside 5 and beside 4; and it is not for a kind that is still over.
abbrev taken : ℕ → List Job
taken a = B 6 16 ∷ F 6 ∷ S a ∷ []

pub other-over-first : RoomCause (board 1 1) (taken 5) 16 0
unfolding at_home keep_of give_of better next_from moved_of step_of steps_of room_of
other-over-first = other-over First (search arith)

pub other-over-first-not : RoomCause (board 1 1) (taken 4) 16 0 → ⊥
unfolding at_home keep_of give_of better next_from moved_of step_of steps_of room_of
other-over-first-not (other-over First cause) = omega (arith, cause.stopped)
other-over-first-not (other-over Second cause) = omega (arith, cause.home.over)

pub still-over-not-sixteen : RoomCause (board 1 1) (B 6 16 ∷ F 7 ∷ S 10 ∷ []) 16 0 → ⊥
unfolding at_home keep_of room_of
still-over-not-sixteen (other-over First cause) = omega (arith, cause.far)
still-over-not-sixteen (other-over Second cause) = omega (arith, cause.home.over)
