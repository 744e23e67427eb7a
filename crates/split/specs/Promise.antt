-- What the split promises beyond its steps: the shares' half of demand 2, and demand 3 (docs/SPEC.md, "What is promised of every set"), over
-- what a split is.
--   stretched_on   how many stretched jobs have their home on a kind
--   smaller        the room of a kind, with one tick fewer for each of them
--   SplitOn        a split of the jobs on the whole board
--   SmallerSplit   a split of the jobs on the board with the smaller rooms
--   Accepted       the shares are a split in whole ticks, at most one mover is not even, and movers are no more than cores
--   Demands        of shares, that they are accepted; of a refusal for room, that the smaller board has no split
--   Exactly        with no stretched job, a legal set is refused for room exactly when no split exists at all
--   Promised       the whole promise of the split: the answer, the demands, and when exactly a refusal is for room
-- Assumes nothing.
use Rattle.std.specs.Prelude.{◌≡◌, true, List, ◌↔◌, ℕ, ◌+◌, ◌-◌, ◌≤◌, Result}
use Rattle.rows.specs.Lists.{sum_of}
use Rattle.model.specs.Board.{room_of}
use Rattle.model.specs.Movers.{movers, unevens}
use Rattle.model.specs.Refusal.{Answer, given, refused, room_refusal}
use Rattle.model.specs.Split.{Ticks, Split, WholeSplit}
use Rattle.model.specs.declared.Kind.{Kind}
use Rattle.model.specs.declared.Kind.TheVariants.{First, Second}
use Rattle.model.specs.declared.Board.{Board}
use Rattle.model.specs.declared.Job.{Job}
use Rattle.model.specs.declared.Refusal.{Refusal}
use Rattle.legal.specs.Legal.{legal_of}
use Rattle.split.specs.Home.{stretched_at}
use Rattle.split.specs.Shares.{shares_of, says_shared, Answers}
use Rattle.split.specs.declared.Shares.{Shares}

abbrev pub stretched_on : Board → List Job → Kind → ℕ
stretched_on board js k = sum_of (stretched_at k board.window) js

-- Where there are more such jobs than ticks the room is 0. That allows more than a room below 0 would, so that it has no split says more.
abbrev pub smaller : Board → List Job → Kind → ℕ
smaller board js k = room_of board k - stretched_on board js k

abbrev pub SplitOn : Board → List Job → Type 0
SplitOn board js = Split board.window (room_of board First) (room_of board Second) js

abbrev pub SmallerSplit : Board → List Job → Type 0
SmallerSplit board js = Split board.window (smaller board js First) (smaller board js Second) js

pub record Accepted (board : Board) (js : List Job) (ss : List Ticks) : Type 0 where
  pub whole : WholeSplit board.window (room_of board First) (room_of board Second) js ss
  pub one-uneven : unevens board.window ss ≤ 1
  pub few-movers : movers ss ≤ board.first + board.second

abbrev pub Demands : Board → List Job → Answer (List Ticks) → Type 0
Demands board js (given ss) = Accepted board js ss
Demands board js (refused number place) = room_refusal {A = List Ticks} (refused number place) ≡ true → SmallerSplit board js → ⊥

abbrev pub Exactly : Board → ℕ → List Job → Answer (List Ticks) → Type 0
Exactly board n js answer =
    legal_of board n js ≡ given tt → stretched_on board js First ≡ 0 → stretched_on board js Second ≡ 0
    → (room_refusal answer ≡ true) ↔ (SplitOn board js → ⊥)

pub record Promised (board : Board) (n : ℕ) (js : List Job) (r : Result Shares Refusal) : Type 0 where
  pub answers : Answers (shares_of board n js) r
  pub demands : Demands board js (says_shared r)
  pub exactly : Exactly board n js (says_shared r)
