-- Every refusal of the planning call has a cause, and every cause its refusal: the definition of the plan refuses a set exactly as it is
-- listed. The checks come first, by the ways through them (legal/proofs/CheckByCheck.antt), then the steps, then the lent tables. Assumes nothing.
--   plan-listed    a refusal of the plan is listed, with its place and its cause
--   listed-plan    what is listed is the refusal of the plan
--   listed-cause   a refusal of a lawful set other than 7 is one for room
--   short-tables, lawful-left   tables that are refused may be too short, and a lawful set is refused for room or for such tables
use mathlib.Core.Path.{◌≡◌, refl, ap}
use mathlib.Core.Bool.{◌||◌}
use mathlib.Core.List.{List}
use mathlib.Core.Logic.{◌⊎◌, inl, inr, ⊎_elim}
use Prim.Native.Nat.{ℕ, ◌<◌}
use native.Mathlib.Omega.{arith}
use lib.Dec.{ltb}
use lib.ListN.{length}
use Rattle.rows.proofs.Lists.{all_map}
use Rattle.rows.proofs.Lowest.{none-lowest, lowest-none, lowest-is, lowest-of}
use Rattle.rows.proofs.Tells.{Tells, less-tells, or-tells, and-tells, told, untold, no-fact, by-test}
use Rattle.model.specs.Empty.{no_job}
use Rattle.model.specs.Limits.{cost_most}
use Rattle.model.specs.Refusal.{Answer, given, refused, and_then}
use Rattle.model.specs.Split.{Ticks}
use Rattle.model.specs.declared.Board.{Board}
use Rattle.model.specs.declared.Job.{Job}
use Rattle.model.specs.declared.Job.TheVariants.{Both, OnlyFirst, OnlySecond}
use Rattle.model.proofs.Splits.{all-done-length}
use Rattle.legal.specs.Lawful.{Lawful}
use Rattle.legal.specs.Legal.{bad_cost, too_long, legal_of}
use Rattle.legal.proofs.CheckByCheck.{outside-tells, is_within, not-out, Passed, Ran, window-out, cores-out, jobs-many, cost-bad, job-long, all-passed, legal-ran, ran-legal}
use Rattle.legal.proofs.Lawful.{legal-lawful, lawful-legal}
use Rattle.split.specs.Causes.{RoomCause}
use Rattle.split.specs.Promise.{Accepted}
use Rattle.split.proofs.Causes.{refused-for-room}
use Rattle.split.proofs.Demands.{split-caused}
use Rattle.slices.specs.Table.{table_of}
use Rattle.columns.specs.Plan.{Plan, plan_from, fitted, plan_of}
use Rattle.columns.proofs.PlanLaws.{shares-accepted, accepted-few}
use Rattle.planner.specs.Listed.{BadCost, TooLong, Sound, steps_on, ShortTables, Listed, window, cores, many, cost, long, room, space}

-- ---- what the checks of one job tell
cost-tells : (j : Job) → Tells (BadCost j) (bad_cost j)
cost-tells (Both c1 c2) = or-tells (outside-tells cost_most c1.0) (outside-tells cost_most c2.0)
cost-tells (OnlyFirst c1) = outside-tells cost_most c1.0
cost-tells (OnlySecond c2) = outside-tells cost_most c2.0

long-tells : (w : ℕ) (j : Job) → Tells (TooLong w j) (too_long w j)
long-tells w (Both c1 c2) = and-tells (less-tells w c1.0) (less-tells w c2.0)
long-tells w (OnlyFirst c1) = less-tells w c1.0
long-tells w (OnlySecond c2) = less-tells w c2.0

-- ---- how a set that passes the checks goes on: the steps may find no room, and a lent table may be too short
data Went (board : Board) (js : List Job) (m k : ℕ) : Answer Plan → Type 0 where
  no_room : {number place : ℕ} → RoomCause board js number place → Went board js m k (refused number place)
  no-space : (ss : List Ticks) → steps_on board js ≡ given ss → (m < length js) ⊎ (k < length (table_of board.window ss))
      → Went board js m k (refused 7 0)
  planned : (p : Plan) → Went board js m k (given p)

module _ (board : Board) (js : List Job) where
  steps-accepted : (ss : List Ticks) → Lawful board (length js) js → steps_on board js ≡ given ss → Accepted board js ss
  steps-accepted ss law is = shares-accepted board (length js) js (rw (lawful-legal board (length js) js law) is)

  shares-all : (ss : List Ticks) → Lawful board (length js) js → steps_on board js ≡ given ss → length ss ≡ length js
  shares-all ss law is = all-done-length board.window 1 js ss (steps-accepted ss law is).whole.done

  space-tells : (m k : ℕ) (ss : List Ticks)
      → Tells ((m < length ss) ⊎ (k < length (table_of board.window ss))) (ltb m (length ss) || ltb k (length (table_of board.window ss)))
  space-tells m k ss = or-tells (less-tells m (length ss)) (less-tells k (length (table_of board.window ss)))

  plan-went : (m k : ℕ) → Lawful board (length js) js → Went board js m k (plan_of board (length js) js m k)
  plan-went m k law = rw (lawful-legal board (length js) js law) (go (steps_on board js) refl)
    where
      go : (x : Answer (List Ticks)) → steps_on board js ≡ x
          → Went board js m k (and_then x (λ (ss : List Ticks). fitted m k (record { shares = ss; slices = table_of board.window ss })))
      go (given ss) is =
          by-test (Went board js m k) _ _ (space-tells m k ss) (λ short. no-space ss is (rw (shares-all ss law is) at short)) (λ _. planned _)
      go (refused number place) is = no_room (split-caused board (length js) js law is)

-- ---- a refusal has its cause
passed-sound : {board : Board} → Passed board → Sound board
passed-sound p = record { window = not-out p.window; first = not-out p.first; second = not-out p.second }

module _ (board : Board) (js : List Job) (m k : ℕ) where
  abbrev ListedIn : {A : Type 0} → Answer A → Type 0
  ListedIn (given x) = Unit {0}
  ListedIn (refused number place) = Listed board js m k number place

  ran-listed : {answer : Answer (Unit {0})} → Ran board (length js) js answer → ListedIn answer
  ran-listed (window-out off) = window off
  ran-listed (cores-out inside off) = cores (not-out inside) off
  ran-listed (jobs-many p over) = many (passed-sound p) over
  ran-listed (cost-bad job p few is there) = cost job (lowest-of no_job bad_cost BadCost cost-tells js job is there) (passed-sound p) few
  ran-listed (job-long job p few costs is there) =
      long job (lowest-of no_job (too_long board.window) (TooLong board.window) (long-tells board.window) js job is there) (passed-sound p) few
      (all_map _ _ (λ j e. no-fact (cost-tells j) e) js (lowest-none bad_cost js costs))
  ran-listed (all-passed _ _ _ _) = tt

  went-listed : {answer : Answer Plan} → Lawful board (length js) js → Went board js m k answer → ListedIn answer
  went-listed law (no_room cause) = room law cause
  went-listed law (no-space ss is cause) = space ss law is cause
  went-listed law (planned p) = tt

  listed_in : ListedIn (plan_of board (length js) js m k)
  listed_in = go (legal_of board (length js) js) refl (ran-listed (legal-ran board (length js) js))
    where
      go : (x : Answer (Unit {0})) → legal_of board (length js) js ≡ x → ListedIn x → ListedIn (plan_of board (length js) js m k)
      go (given _) legal listed = let law = legal-lawful board (length js) js legal in went-listed law (plan-went board js m k law)
      go (refused number place) legal listed = rw legal listed

  pub plan-listed : (number place : ℕ) → plan_of board (length js) js m k ≡ refused number place → Listed board js m k number place
  plan-listed number place is = rw is at listed_in

-- ---- and back: a set that has the cause of a line, and none of the lines above it, is refused by it
sound-passed : {board : Board} → Sound board → Passed board
sound-passed s = record { window = is_within s.window; first = is_within s.first; second = is_within s.second }

module _ (board : Board) (js : List Job) (m k : ℕ) where
  ran-refused : {number place : ℕ} → Ran board (length js) js (refused number place) → plan_of board (length js) js m k ≡ refused number place
  ran-refused way = rw (← ran-legal board (length js) js way)

  pub listed-plan : {number place : ℕ} → Listed board js m k number place → plan_of board (length js) js m k ≡ refused number place
  listed-plan (window cause) = ran-refused (window-out cause)
  listed-plan (cores short cause) = ran-refused (cores-out (is_within short) cause)
  listed-plan (many sound cause) = ran-refused (jobs-many (sound-passed sound) cause)
  listed-plan (cost job low sound few) =
      ran-refused (cost-bad job (sound-passed sound) few (lowest-is no_job bad_cost BadCost cost-tells js job low) low.there)
  listed-plan (long job low sound few costs) =
      ran-refused (job-long job (sound-passed sound) few
      (omega (arith, none-lowest bad_cost js (all_map _ _ (λ j good. untold (cost-tells j) good) js costs)))
      (lowest-is no_job (too_long board.window) (TooLong board.window) (long-tells board.window) js job low) low.there)
  listed-plan (room law cause) =
      ap (λ (x : Answer (List Ticks)). and_then x (λ (ss : List Ticks). fitted m k (plan_from board ss)))
      ((refused-for-room board (length js) js law).1 cause)
  listed-plan (space ss law is cause) =
      rw (lawful-legal board (length js) js law, is, told (space-tells board js m k ss) (rw (shares-all board js ss law is) cause))

  -- So a lawful set that is refused has no room, or no space.
  lawful-went : {number place : ℕ} → Lawful board (length js) js → Listed board js m k number place → Went board js m k (refused number place)
  lawful-went law listed = rw (listed-plan listed) at (plan-went board js m k law)

  pub listed-cause : {number place : ℕ} → Lawful board (length js) js → (number ≡ 7 → ⊥) → Listed board js m k number place
      → RoomCause board js number place
  listed-cause law not-space listed = go (lawful-went law listed) not-space
    where
      go : {number place : ℕ} → Went board js m k (refused number place) → (number ≡ 7 → ⊥) → RoomCause board js number place
      go (no_room cause) not-space = cause
      go (no-space ss is cause) not-space = absurd (not-space refl)

  -- Tables that are refused may be too short: a plan has few slices.
  pub short-tables : (ss : List Ticks) → Lawful board (length js) js → steps_on board js ≡ given ss
      → (m < length js) ⊎ (k < length (table_of board.window ss)) → ShortTables board js m k
  short-tables ss law is =
      ⊎_elim inl (λ l. inr (omega (arith, accepted-few board (length js) js ss law (steps-accepted board js ss law is))))

  pub lawful-left : {number place : ℕ} → Lawful board (length js) js → Listed board js m k number place
      → RoomCause board js number place ⊎ ShortTables board js m k
  lawful-left law listed = go (lawful-went law listed)
    where
      go : {number place : ℕ} → Went board js m k (refused number place) → RoomCause board js number place ⊎ ShortTables board js m k
      go (no_room cause) = inl cause
      go (no-space ss is cause) = inr (short-tables ss law is cause)
