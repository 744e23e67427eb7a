-- Internal: no public promise cites this. The contracts of the private functions do.
-- Columns of numbers, as the code lends them, and the rows and shares that they are.
--   OfRows      columns of as many rows, which are no more than a set may have jobs
--   no_row      a row of zeros, which no job has: what a list of rows has past its end
--   word_most   the greatest number of 32 bits, which a row's ticks have
--   sum_most    what the ticks of all rows come to at most
--   Summed      two sums are the ticks of all rows here and there, and small
--   Movable     what holds of a row that can be moved
--   Ready       each row that can be moved is movable: what the steps are given
--   Asks        what one step is given
--   row_at      the row of four numbers: it can be moved where its near cost is above 0
--   row_in      the row of a number in four columns
--   rows_in     the rows of four columns
--   bare        a row without the near cost that it no longer needs: what a column keeps of it
--   mark_of     the near cost that is left of a job at home: 0 where it cannot be moved
--   marks_in    the same of all jobs of two columns
--   marked      the rows of three columns, with the near costs that are left of jobs at home
--   next_at     the number of the row that comes next
--   Found       the one found is the next of all rows with these costs, whatever their ticks
--   gone_to     where one step takes a row at home, by its costs
--   end_of      the ticks of a row here and there, as the code passes them
--   far_end_of  the far end of a job, as the code passes it
--   Advanced    a step on one row: what is stored, and the sums after it
--   Stepped     the steps on all rows: the rows and the sums after them
--   home_at     a job of two columns of costs at home, seen from a kind
--   GoneHome    all jobs at home: what is stored, and the sums
--   says_ended  what the code's answer to a legal set says, with its two columns, as an answer by number and place
--   ended_of    the code's answer where the steps from a kind are over, by whether each kind is within its room
-- Assumes nothing.
use Rattle.std.specs.Prelude.{Bool, true, false, cond, List, map, ◌≡◌, ℕ, ◌+◌, ◌*◌, ◌≤◌, ◌<◌, ltb, eqb, length, get_or, set, Option, None, Some, Result, Ok, Err}
use Rattle.rows.specs.Lists.{All}
use Rattle.rows.specs.Upto.{upto, at}
use Rattle.model.specs.Board.{on}
use Rattle.model.specs.Columns.{job_at, jobs_in, shares_in}
use Rattle.model.specs.Limits.{jobs_most}
use Rattle.model.specs.Refusal.{Answer, given, says_refusal}
use Rattle.model.specs.Split.{Ticks}
use Rattle.model.specs.declared.Kind.{Kind}
use Rattle.model.specs.declared.Kind.TheVariants.{First}
use Rattle.model.specs.declared.Refusal.{Refusal}
use Rattle.model.specs.declared.Refusal.TheVariants.{FirstOver, SecondOver, OtherOver}
use Rattle.split.specs.Home.{both_row, at_home, keep_of, give_of}
use Rattle.split.specs.Rows.{Row, Next, Nobody, At}
use Rattle.split.specs.Shares.{home_rows}
use Rattle.split.specs.Steps.{here_sum, there_sum, next_of, moved_of, steps_of}
use Rattle.split.specs.declared.Ends.{Ends}
use Rattle.split.specs.declared.Sums.{Sums}

abbrev pub OfRows : ℕ → List (List ℕ) → Type 0
OfRows n columns = (n ≤ jobs_most) × All (λ (column : List ℕ). length column ≡ n) columns

-- ---- rows, as the steps are given them
abbrev pub no_row : Row
no_row = record { near = 0; far = 0; here = 0; there = 0; movable = false }

abbrev pub word_most : ℕ
word_most = 4294967295

abbrev pub sum_most : ℕ
sum_most = jobs_most * word_most

pub record Summed (rs : List Row) (r : Sums) : Type 0 where
  pub here : r.here ≡ here_sum rs
  pub there : r.there ≡ there_sum rs
  pub small-here : r.here ≤ sum_most
  pub small-there : r.there ≤ sum_most

-- It is at home, with a cost that fits the window there and is not above its cost on the other kind.
pub record Movable (w : ℕ) (r : Row) : Type 0 where
  pub some : 0 < r.near
  pub least : r.near ≤ r.far
  pub fits : r.near ≤ w
  pub whole : r.here ≡ r.near
  pub bare : r.there ≡ 0

abbrev pub Ready : ℕ → List Row → Type 0
Ready w rs = (i : ℕ) → i < length rs → (get_or rs i no_row).movable ≡ true → Movable w (get_or rs i no_row)

-- A step is taken where the ticks of all rows here are above the room.
pub record Asks (w room all : ℕ) (r : Row) : Type 0 where
  pub row : Movable w r
  pub among : r.here ≤ all
  pub over : room < all
  pub small : all ≤ sum_most

-- ---- the rows of columns
abbrev pub row_at : (near far here there : ℕ) → Row
row_at a b h t = record { near = a; far = b; here = h; there = t; movable = ltb 0 a }

abbrev pub row_in : (near far here there : List ℕ) → ℕ → Row
row_in near far here there i = row_at (at near i) (at far i) (at here i) (at there i)

abbrev pub rows_in : ℕ → (near far here there : List ℕ) → List Row
rows_in n near far here there = upto n (row_in near far here there)

abbrev pub bare : Row → Row
bare r = record { near = cond r.movable r.near 0; far = r.far; here = r.here; there = r.there; movable = r.movable }

abbrev pub mark_of : (far here : ℕ) → ℕ
mark_of b h = cond (eqb b 0) 0 h

abbrev pub marks_in : ℕ → (far here : List ℕ) → List ℕ
marks_in n far here = upto n (λ i. mark_of (at far i) (at here i))

abbrev pub marked : (far here there : List ℕ) → List Row
marked far here there = rows_in (length far) (marks_in (length far) far here) far here there

-- ---- the row that comes next
abbrev pub next_at : Next → Option ℕ
next_at Nobody = None
next_at (At i r) = Some i

pub record Found (near far : List ℕ) (r : Option ℕ) : Type 0 where
  pub is : (here there : List ℕ) → r ≡ next_at (next_of (rows_in (length far) near far here there))

-- ---- a step
abbrev pub gone_to : (w room all near far : ℕ) → Row
gone_to w room all a b = moved_of w room all (both_row true a b)

abbrev pub end_of : Row → Ends
end_of r = record { keep = r.here; give = r.there }

abbrev pub far_end_of : (w n f : ℕ) → Ends
far_end_of w n f = record { keep = keep_of w n f; give = give_of w n f }

-- Row i, at home with its cost, goes where the step's rule says.
pub record Advanced (w room : ℕ) (sums : Sums) (far i : ℕ) (near here there near' here' there' : List ℕ) (r : Sums) : Type 0 where
  pub set-near : near' ≡ set near i 0
  pub set_here : here' ≡ set here i (gone_to w room sums.here (at near i) far).here
  pub set_there : there' ≡ set there i (gone_to w room sums.here (at near i) far).there
  pub sum-here : r.here + at near i ≡ sums.here + (gone_to w room sums.here (at near i) far).here
  pub sum-there : r.there ≡ sums.there + (gone_to w room sums.here (at near i) far).there
  pub small : (gone_to w room sums.here (at near i) far).there ≤ word_most

-- ---- the steps
pub record Stepped (w room : ℕ) (near far here there near' here' there' : List ℕ) (r : Sums) : Type 0 where
  pub rows : rows_in (length far) near' far here' there' ≡ map bare (steps_of (length far) w room (rows_in (length far) near far here there))
  pub sum-here : r.here ≡ here_sum (rows_in (length far) near' far here' there')
  pub sum-there : r.there ≡ there_sum (rows_in (length far) near' far here' there')

-- ---- going home, and the answer
abbrev pub home_at : Kind → (c1 c2 : List ℕ) → ℕ → Row
home_at k c1 c2 i = at_home k (job_at (at c1 i) (at c2 i))

-- Each column has the jobs' ticks at home.
pub record GoneHome (c1 c2 s1 s2 : List ℕ) (r : Sums) : Type 0 where
  pub first : s1 ≡ upto (length c1) (λ i. (home_at First c1 c2 i).here)
  pub second : s2 ≡ upto (length c1) (λ i. (home_at First c1 c2 i).there)
  pub sums : Summed (home_rows First (jobs_in (length c1) c1 c2)) r

-- A refusal says nothing of the columns.
abbrev pub says_ended : Result (Unit {0}) Refusal → ℕ → (s1 s2 : List ℕ) → Answer (List Ticks)
says_ended (Ok tt) n s1 s2 = given (shares_in n s1 s2)
says_ended (Err r) n s1 s2 = says_refusal r

abbrev pub ended_of : Kind → (within within-there : Bool) → Result (Unit {0}) Refusal
ended_of k s t = cond s (cond t (Ok tt) (Err OtherOver)) (Err (on k FirstOver SecondOver))
