-- The split of a set, and the starting balance: docs/SPEC.md, "The steps" and "Where the split starts".
--   share_of, shares_seen   the share of a row that a kind sees, and the shares of all
--   home_rows, home_ticks   all jobs at home, seen from a kind, and their ticks on it
--   both_over               refused: both kinds are over at home
--   still_over              refused: the kind that was over is so with its movable jobs at their far ends too
--   other_over              refused: that kind is within its room, and the other is not
--   settled                 the answer where the steps from a kind are over
--   relieved                the answer where a kind is over at home, and the other is not
--   by_over                 the answer, by whether the first kind is over at home and whether the second is
--   split_of                the split of a legal set over two rooms, or a refusal for room
--   shares_of               the same of any set: checks 1 to 5 come first
--   balance_on              what a kind has left before any job is moved
--   balance_of              the starting balance of each kind, of any legal set
--   says_shared             what the code's answer says, as an answer by number and place: its columns are shares
--   Padded                  columns with zeros in every row that they do not count
--   Answers                 an answer of the code that says so, in such columns
-- Assumes nothing.
use Rattle.std.specs.Prelude.{◌≡◌, Bool, true, false, cond, List, map, ℕ, ◌-◌, ◌≤◌, leb, ltb, ℤ, pos, ◌-ℤ◌, length, drop, replicate, Result, Ok, Err, IfOk}
use Rattle.model.specs.Board.{on, room_of}
use Rattle.model.specs.Columns.{shares_in}
use Rattle.model.specs.Refusal.{Answer, given, says_refusal, and_then}
use Rattle.model.specs.Split.{Ticks, share}
use Rattle.model.specs.Limits.{jobs_most}
use Rattle.model.specs.declared.Kind.{Kind}
use Rattle.model.specs.declared.Kind.TheVariants.{First, Second}
use Rattle.model.specs.declared.Board.{Board}
use Rattle.model.specs.declared.Job.{Job}
use Rattle.model.specs.declared.Refusal.{Refusal}
use Rattle.model.specs.declared.Refusal.TheVariants.{BothOver, FirstOver, SecondOver, OtherOver}
use Rattle.legal.specs.Legal.{legal_of}
use Rattle.split.specs.Home.{at_home}
use Rattle.split.specs.Steps.{here_sum, there_sum, steps_of}
use Rattle.split.specs.Rows.{Row}
use Rattle.split.specs.declared.Shares.{Shares}
use Rattle.split.specs.declared.balance.Balance.{Balance}

abbrev pub share_of : Kind → Row → Ticks
share_of k r = share (on k r.here r.there) (on k r.there r.here)

abbrev pub shares_seen : Kind → List Row → List Ticks
shares_seen k rs = map (share_of k) rs

abbrev pub home_rows : Kind → List Job → List Row
home_rows k js = map (at_home k) js

abbrev pub home_ticks : Kind → List Job → ℕ
home_ticks k js = here_sum (home_rows k js)

-- The refusals for room: 6; 14 or 15, by the kind that was over; 16.
abbrev pub both_over : {A : Type 0} → Answer A
both_over = says_refusal BothOver

abbrev pub still_over : {A : Type 0} → Kind → Answer A
still_over k = says_refusal (on k FirstOver SecondOver)

abbrev pub other_over : {A : Type 0} → Answer A
other_over = says_refusal OtherOver

-- The steps took jobs from kind k until it was within its room, or none could be moved. If it is not, refuse; then refuse if the other is over.
unfoldable pub settled : Kind → (room away : ℕ) → List Row → Answer (List Ticks)
settled k room away rs =
    cond (leb (here_sum rs) room) (cond (leb (there_sum rs) away) (given (shares_seen k rs)) other_over) (still_over k)

abbrev pub relieved : Kind → (w room away : ℕ) → List Job → Answer (List Ticks)
relieved k w room away js = settled k room away (steps_of (length js) w room (home_rows k js))

unfoldable pub by_over : Bool → Bool → (w room1 room2 : ℕ) → List Job → Answer (List Ticks)
by_over true true w room1 room2 js = both_over
by_over true false w room1 room2 js = relieved First w room1 room2 js
by_over false true w room1 room2 js = relieved Second w room2 room1 js
by_over false false w room1 room2 js = given (shares_seen First (home_rows First js))

abbrev pub split_of : (w room1 room2 : ℕ) → List Job → Answer (List Ticks)
split_of w room1 room2 js =
    by_over (ltb room1 (home_ticks First js)) (ltb room2 (home_ticks Second js)) w room1 room2 js

abbrev pub shares_of : Board → ℕ → List Job → Answer (List Ticks)
shares_of board n js =
    and_then (legal_of board n js) (λ (_ : Unit {0}). split_of board.window (room_of board First) (room_of board Second) js)

-- A signed number: a kind that is over shows by how much.
abbrev pub balance_on : Board → List Job → Kind → ℤ
balance_on board js k = pos (room_of board k) -ℤ pos (home_ticks k js)

abbrev pub balance_of : Board → ℕ → List Job → Answer Balance
balance_of board n js =
    and_then (legal_of board n js) (λ (_ : Unit {0}). given (record { first = balance_on board js First; second = balance_on board js Second }))

abbrev pub says_shared : Result Shares Refusal → Answer (List Ticks)
says_shared (Ok s) = given (shares_in s.count s.first s.second)
says_shared (Err r) = says_refusal r

pub record Padded (s : Shares) : Type 0 where
  pub few : s.count ≤ jobs_most
  pub rest1 : drop s.count s.first ≡ replicate (jobs_most - s.count) 0
  pub rest2 : drop s.count s.second ≡ replicate (jobs_most - s.count) 0

-- A refusal has no columns.
pub record Answers (answer : Answer (List Ticks)) (r : Result Shares Refusal) : Type 0 where
  pub says : says_shared r ≡ answer
  pub rest : IfOk r Padded
