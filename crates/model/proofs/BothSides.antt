-- Both sides of every line that the model draws. A definition that statements cite is held by its readers alone: made weaker by a slip, it
-- would let every theorem over it pass, or leave only a proof script to object. So each clause has here an example exactly at its limit, and one
-- that is wrong by one in this clause and in no other, and is refuted; its name ends in `-not`. A slip in the clause makes one of the two false.
-- The window is 10, and 2 where a tick is halved. The lines that are held, in this order:
--   Limits                                the numbers of docs/SPEC.md
--   room_refusal                          each of its four numbers, and those beside them
--   cores_of, room_of                     each kind by its own count
--   Inside                                some, ends, core, job
--   Runs, Apart                           the first tick, the last, and the one behind it
--   SameCore                              the kind and the number
--   Timetable                             served, inside, cores, jobs; the first job and the last
--   DoneBy                                work, window, the other kind; in whole ticks and in fifths
--   AllDone                               a share for each job
--   WholeSplit, Split                     rooms exactly full, some, what fractions add
--   is_mover, is_even, movers, unevens    what counts, and what does not
--   cost_on, jobs_in, seen                each way to be a job, and what is written as 0 and 0
--   pack_of, slice_in                     each byte at its limit
-- Assumes nothing.
use mathlib.Core.Bool.{true, false}
use mathlib.Core.List.{List, [], ◌∷◌, map}
use mathlib.Core.Path.{◌≡◌, refl}
use Prim.Native.Nat.{ℕ, zero, suc, ◌+◌, ◌*◌, ◌<◌}
use native.Mathlib.Omega.{arith}
use lib.ListN.{get_or}
use Rattle.rows.proofs.Never.{never}
use Rattle.model.specs.Limits.{window_most, cores_most, jobs_most, cost_most, slices_most, text_most}
use Rattle.model.specs.Board.{cores_of, room_of}
use Rattle.model.specs.Columns.{job_at, jobs_in, cost_on, job_first, job_second, job_both}
use Rattle.model.specs.Terms.{seen}
use Rattle.model.specs.Packed.{pack_of, slice_in}
use Rattle.model.specs.Refusal.{refused, room_refusal}
use Rattle.model.specs.Movers.{is_mover, is_even, movers, unevens}
use Rattle.model.specs.Split.{Ticks, share, ticks_on, DoneBy, AllDone, ticks_of, Split, WholeSplit}
use Rattle.model.specs.Timetable.{Runs, Apart, SameCore, Inside, ticks_in, Timetable}
use Rattle.model.specs.declared.Kind.{Kind}
use Rattle.model.specs.declared.Kind.TheVariants.{First, Second}
use Rattle.model.specs.declared.Board.{Board}
use Rattle.model.specs.declared.Job.{Job}
use Rattle.model.specs.declared.Slice.{Slice}

abbrev pub board : ℕ → ℕ → Board
board first second = record { window = 10; first = first; second = second }

abbrev pub row : ℕ → Kind → (core start length : ℕ) → Slice
row job kind core start length = record { job = job; kind = kind; core = core; start = start; length = length }

-- Jobs, as the worked sets write them: on both kinds, on the first alone, on the second alone.
abbrev pub B : ℕ → ℕ → Job
B = job_both

abbrev pub F : ℕ → Job
F = job_first

abbrev pub S : ℕ → Job
S = job_second

-- ==== The numbers
pub limits-are : window_most ∷ cores_most ∷ jobs_most ∷ cost_most ∷ slices_most ∷ text_most ∷ [] ≡ 65535 ∷ 8 ∷ 64 ∷ 1000000 ∷ 94 ∷ 4096 ∷ []
limits-are = refl

pub slices-most : jobs_most + 2 * (cores_most + cores_most) ≡ slices_most + 2
slices-most = refl

-- Each number of a refusal for room, and those beside them.
pub room-numbers : map (λ (number : ℕ). room_refusal {A = ℕ} (refused number 0)) (5 ∷ 6 ∷ 7 ∷ 13 ∷ 14 ∷ 15 ∷ 16 ∷ 17 ∷ [])
    ≡ false ∷ true ∷ false ∷ false ∷ true ∷ true ∷ true ∷ false ∷ []
room-numbers = refl

pub cores-are : cores_of (board 2 3) First ∷ cores_of (board 2 3) Second ∷ [] ≡ 2 ∷ 3 ∷ []
cores-are = refl

pub rooms-are : room_of (board 2 3) First ∷ room_of (board 2 3) Second ∷ [] ≡ 20 ∷ 30 ∷ []
unfolding room_of
rooms-are = refl

-- ==== Inside: on a board with two cores of the first kind and one of the second, with three jobs
abbrev In : Slice → Type 0
In = Inside (board 2 1) 3

pub inside-limits : In (row 2 First 1 0 10)
inside-limits = record { some = omega arith; ends = omega arith; core = omega arith; job = omega arith }

pub inside-shortest : In (row 0 Second 0 9 1)
inside-shortest = record { some = omega arith; ends = omega arith; core = omega arith; job = omega arith }

pub inside-empty-not : In (row 0 First 0 9 0) → ⊥
inside-empty-not s = omega arith

pub inside-past-not : In (row 0 First 0 1 10) → ⊥
inside-past-not s = omega arith

pub inside-core-not : In (row 0 First 2 0 10) → ⊥
inside-core-not s = omega arith

pub inside-core-second-not : In (row 0 Second 1 0 10) → ⊥
inside-core-second-not s = omega arith

pub inside-job-not : In (row 3 First 0 0 10) → ⊥
inside-job-not s = omega arith

-- ==== Runs, Apart, SameCore
abbrev early : Slice
early = row 0 First 0 0 4

abbrev late : Slice
late = row 0 Second 0 4 6

pub runs-first : Runs late 4
runs-first = omega arith

pub runs_last : Runs late 9
runs_last = omega arith

pub runs-before-not : Runs late 3 → ⊥
runs-before-not r = omega arith

pub runs-behind-not : Runs late 10 → ⊥
runs-behind-not r = omega arith

pub apart-touching : Apart early late
apart-touching tick a b = omega arith

pub apart-by-one-not : Apart early (row 0 Second 0 3 6) → ⊥
apart-by-one-not apart = apart 3 (omega arith) (omega arith)

pub same-core : SameCore early (row 1 First 0 5 1)
same-core = search

pub same-core-number-not : SameCore early (row 0 First 1 0 4) → ⊥
same-core-number-not same = omega arith

-- Cores of different kinds are different cores, whatever their numbers.
pub kinds-differ : {A : Type 0} {a b : ℕ} → (First ≡ Second) × (a ≡ b) → A
kinds-differ e = never (cc)

pub same-core-kind-not : SameCore early (row 0 Second 0 0 4) → ⊥
same-core-kind-not same = kinds-differ same

-- ==== Timetable: two even movers that fill a board with one core of each kind, edge to edge
abbrev rows : List Slice
rows = row 0 First 0 0 4 ∷ row 1 First 0 4 6 ∷ row 0 Second 0 4 6 ∷ row 1 Second 0 0 4 ∷ []

abbrev Full : Board → List Ticks → Type 0
Full b ss = Timetable b ss rows

-- A tick too few or too many, for each of the two jobs, on each kind.
pub served-few-first-0-not : Full (board 1 1) (share 5 6 ∷ share 6 4 ∷ []) → ⊥
served-few-first-0-not t = omega (arith, t.served First 0 (omega arith))

pub served-many-first-0-not : Full (board 1 1) (share 3 6 ∷ share 6 4 ∷ []) → ⊥
served-many-first-0-not t = omega (arith, t.served First 0 (omega arith))

pub served-few-second-0-not : Full (board 1 1) (share 4 7 ∷ share 6 4 ∷ []) → ⊥
served-few-second-0-not t = omega (arith, t.served Second 0 (omega arith))

pub served-many-second-0-not : Full (board 1 1) (share 4 5 ∷ share 6 4 ∷ []) → ⊥
served-many-second-0-not t = omega (arith, t.served Second 0 (omega arith))

pub served-few-first-1-not : Full (board 1 1) (share 4 6 ∷ share 7 4 ∷ []) → ⊥
served-few-first-1-not t = omega (arith, t.served First 1 (omega arith))

pub served-many-first-1-not : Full (board 1 1) (share 4 6 ∷ share 5 4 ∷ []) → ⊥
served-many-first-1-not t = omega (arith, t.served First 1 (omega arith))

pub served-few-second-1-not : Full (board 1 1) (share 4 6 ∷ share 6 5 ∷ []) → ⊥
served-few-second-1-not t = omega (arith, t.served Second 1 (omega arith))

pub served-many-second-1-not : Full (board 1 1) (share 4 6 ∷ share 6 3 ∷ []) → ⊥
served-many-second-1-not t = omega (arith, t.served Second 1 (omega arith))

-- A row of a job that has no share, one on a core that the board does not have, and one that ends past the window.
pub rows-of-no-job-not : Full (board 1 1) (share 4 6 ∷ []) → ⊥
rows-of-no-job-not t = omega arith

pub rows-of-no-core-not : Full (board 1 0) (share 4 6 ∷ share 6 4 ∷ []) → ⊥
rows-of-no-core-not t = omega arith

pub rows-past-the-window-not : Full (record { window = 9; first = 1; second = 1 }) (share 4 6 ∷ share 6 4 ∷ []) → ⊥
rows-past-the-window-not t = omega arith

-- The first and the last row have tick 4 in common and nothing else is wrong: two jobs on one core, a job on two cores of a kind, and a
-- job on two kinds.
abbrev Meeting : (s t : Ticks) (job : ℕ) → Kind → (core : ℕ) → Type 0
Meeting s t job kind core = Timetable (board 2 1) (s ∷ t ∷ []) (row 0 First 0 0 5 ∷ row 1 Second 0 9 1 ∷ row job kind core 4 4 ∷ [])

pub runs-five : Runs (row 0 First 0 0 5) 4
runs-five = omega arith

pub runs-four : Runs (row 0 First 0 4 4) 4
runs-four = omega arith

pub core-twice-not : Meeting (share 5 0) (share 4 1) 1 First 0 → ⊥
core-twice-not t = search (t.cores.0.1.0, runs-five, runs-four, arith)

pub job-on-two-cores-not : Meeting (share 9 0) (share 0 1) 0 First 1 → ⊥
job-on-two-cores-not t = search (t.jobs.0.1.0, runs-five, runs-four, arith)

pub job-on-two-kinds-not : Meeting (share 5 4) (share 0 1) 0 Second 0 → ⊥
job-on-two-kinds-not t = search (t.jobs.0.1.0, runs-five, runs-four, arith)

-- What is so of the first and of the last of two jobs, on either kind, is so of both.
two-jobs : (P : Kind → ℕ → Type 0) → P First 0 → P First 1 → P Second 0 → P Second 1 → (kind : Kind) (job : ℕ) → job < 2 → P kind job
two-jobs P a b c d First zero l = a
two-jobs P a b c d First (suc zero) l = b
two-jobs P a b c d Second zero l = c
two-jobs P a b c d Second (suc zero) l = d
two-jobs P a b c d kind (suc (suc job)) l = absurd (omega arith)

pub table-full : Full (board 1 1) (share 4 6 ∷ share 6 4 ∷ [])
table-full =
    record {
      inside = search arith;
      cores = ((search arith, (kinds-differ, (kinds-differ, tt))), ((kinds-differ, (kinds-differ, tt)), ((search arith, tt), (tt, tt))));
      jobs = search arith;
      served =
          λ kind job l. two-jobs (λ (k : Kind) (j : ℕ). ticks_in k j rows ≡ ticks_on k (get_or (share 4 6 ∷ share 6 4 ∷ []) j (share 0 0)))
          refl refl refl refl kind job (omega arith);
    }

-- ==== DoneBy: in whole ticks, and in fifths. B(2,3) has 6 parts of work, of which a tick on the first kind does 3, on the second 2.
pub both-enough : DoneBy 10 1 (B 2 3) (share 2 0) × DoneBy 10 1 (B 2 3) (share 0 3) × DoneBy 10 1 (B 2 3) (share 1 2)
both-enough = omega arith

pub both-short-not : DoneBy 10 1 (B 2 3) (share 1 1) → ⊥
both-short-not d = omega arith

pub both-window : DoneBy 10 1 (B 2 3) (share 4 6)
both-window = omega arith

pub both-long-not : DoneBy 10 1 (B 2 3) (share 4 7) → ⊥
both-long-not d = omega arith

pub both-fifths : DoneBy 10 5 (B 2 3) (share 4 9) × DoneBy 10 5 (B 6 16) (share 18 32)
both-fifths = omega arith

pub both-fifths-short-not : DoneBy 10 5 (B 2 3) (share 5 7) → ⊥
both-fifths-short-not d = omega arith

pub both-fifths-long-not : DoneBy 10 5 (B 6 16) (share 19 32) → ⊥
both-fifths-long-not d = omega arith

-- A job on one kind.
pub first-enough : DoneBy 10 1 (F 7) (share 7 0)
first-enough = omega arith

pub first-short-not : DoneBy 10 1 (F 7) (share 6 0) → ⊥
first-short-not d = omega arith

pub first-window : DoneBy 10 1 (F 7) (share 10 0)
first-window = omega arith

pub first-long-not : DoneBy 10 1 (F 7) (share 11 0) → ⊥
first-long-not d = omega arith

pub first-on-second-not : DoneBy 10 1 (F 7) (share 7 1) → ⊥
first-on-second-not d = omega arith

pub first-fifths : DoneBy 10 5 (F 7) (share 35 0) × DoneBy 10 5 (F 7) (share 50 0)
first-fifths = omega arith

pub first-fifths-not : (DoneBy 10 5 (F 7) (share 34 0) → ⊥) × (DoneBy 10 5 (F 7) (share 51 0) → ⊥) × (DoneBy 10 5 (F 7) (share 35 1) → ⊥)
first-fifths-not = (λ d. omega arith, λ d. omega arith, λ d. omega arith)

pub second-enough : DoneBy 10 1 (S 7) (share 0 7)
second-enough = omega arith

pub second-short-not : DoneBy 10 1 (S 7) (share 0 6) → ⊥
second-short-not d = omega arith

pub second-window : DoneBy 10 1 (S 7) (share 0 10)
second-window = omega arith

pub second-long-not : DoneBy 10 1 (S 7) (share 0 11) → ⊥
second-long-not d = omega arith

pub second-on-first-not : DoneBy 10 1 (S 7) (share 1 7) → ⊥
second-on-first-not d = omega arith

pub second-fifths : DoneBy 10 5 (S 7) (share 0 35) × DoneBy 10 5 (S 7) (share 0 50)
second-fifths = omega arith

pub second-fifths-not : (DoneBy 10 5 (S 7) (share 0 34) → ⊥) × (DoneBy 10 5 (S 7) (share 0 51) → ⊥) × (DoneBy 10 5 (S 7) (share 1 35) → ⊥)
second-fifths-not = (λ d. omega arith, λ d. omega arith, λ d. omega arith)

-- ==== AllDone
pub done-each : AllDone 10 1 (F 7 ∷ S 7 ∷ []) (share 7 0 ∷ share 0 7 ∷ [])
done-each = omega arith

pub done-last-short-not : AllDone 10 1 (F 7 ∷ S 7 ∷ []) (share 7 0 ∷ share 0 6 ∷ []) → ⊥
done-last-short-not d = omega arith

pub done-few-not : AllDone 10 1 (F 7 ∷ S 7 ∷ []) (share 7 0 ∷ []) → ⊥
done-few-not d = omega arith

pub done-many-not : AllDone 10 1 (F 7 ∷ S 7 ∷ []) (share 7 0 ∷ share 0 7 ∷ share 0 0 ∷ []) → ⊥
done-many-not d = omega arith

-- ==== WholeSplit and Split: a room that is exactly full, and one tick less
abbrev two : List Job
two = F 10 ∷ S 10 ∷ []

abbrev theirs : List Ticks
theirs = share 10 0 ∷ share 0 10 ∷ []

pub whole-full : WholeSplit 10 10 10 two theirs
whole-full = record { done = omega arith; within1 = omega arith; within2 = omega arith }

pub whole-first-not : WholeSplit 10 9 10 two theirs → ⊥
whole-first-not s = omega arith

pub whole-second-not : WholeSplit 10 10 9 two theirs → ⊥
whole-second-not s = omega arith

pub whole-does-not : WholeSplit 10 10 10 two (share 10 0 ∷ share 0 9 ∷ []) → ⊥
whole-does-not s = omega arith

pub split-full : Split 10 10 10 two
split-full = record { whole = 1; some = omega arith; shares = theirs; done = omega arith; within1 = omega arith; within2 = omega arith }

-- The one share of a set of one job.
one-share : {w room1 room2 : ℕ} {j : Job} (s : Split w room1 room2 (j ∷ []))
    → (t : Ticks) × DoneBy w s.whole j t × (ticks_of First s.shares ≡ t.first) × (ticks_of Second s.shares ≡ t.second)
one-share {w} {j = j} s = go s.shares s.done
  where
    go : (ss : List Ticks) → AllDone w s.whole (j ∷ []) ss
        → (t : Ticks) × DoneBy w s.whole j t × (ticks_of First ss ≡ t.first) × (ticks_of Second ss ≡ t.second)
    go [] d = absurd d
    go (t ∷ []) d = (t, d.0, omega arith, omega arith)
    go (t ∷ u ∷ ss) d = absurd d.1

-- The two shares of a set of two jobs, for the crates above.
pub two-shares : {w room1 room2 : ℕ} {i j : Job} (s : Split w room1 room2 (i ∷ j ∷ []))
    → (a : Ticks) × (b : Ticks) × DoneBy w s.whole i a × DoneBy w s.whole j b × (ticks_of First s.shares ≡ a.first + b.first)
    × (ticks_of Second s.shares ≡ a.second + b.second)
two-shares {w} {i = i} {j = j} s = go s.shares s.done
  where
    go : (ss : List Ticks) → AllDone w s.whole (i ∷ j ∷ []) ss
        → (a : Ticks) × (b : Ticks) × DoneBy w s.whole i a × DoneBy w s.whole j b × (ticks_of First ss ≡ a.first + b.first)
        × (ticks_of Second ss ≡ a.second + b.second)
    go [] d = absurd d
    go (a ∷ []) d = absurd d.1
    go (a ∷ b ∷ []) d = (a, b, d.0, d.1.0, omega arith, omega arith)
    go (a ∷ b ∷ c ∷ ss) d = absurd d.1.1

-- With no parts to a tick, the empty share would do any work.
pub split-of-nothing-not : Split 10 10 10 (F 11 ∷ []) → ⊥
split-of-nothing-not s = omega (arith, one-share s)

pub split-first-not : Split 10 9 10 (F 10 ∷ []) → ⊥
split-first-not s = omega (arith, one-share s)

pub split-second-not : Split 10 10 9 (S 10 ∷ []) → ⊥
split-second-not s = omega (arith, one-share s)

-- In fractions there are splits that whole ticks do not have: two jobs with half a tick each on the first kind, in a window of 2.
abbrev halves : List Job
halves = B 1 3 ∷ B 1 3 ∷ []

pub split-halves : Split 2 1 3 halves
split-halves =
    record { whole = 2; some = omega arith; shares = share 1 3 ∷ share 1 3 ∷ []; done = omega arith; within1 = omega arith; within2 = omega arith }

pub whole-halves-not : (ss : List Ticks) → WholeSplit 2 1 3 halves ss → ⊥
whole-halves-not [] s = s.done
whole-halves-not (a ∷ []) s = s.done.1
whole-halves-not (a ∷ b ∷ []) s = omega arith
whole-halves-not (a ∷ b ∷ c ∷ ss) s = s.done.1.1

-- ==== Movers
pub movers-are : map is_mover (share 1 1 ∷ share 0 1 ∷ share 1 0 ∷ share 0 0 ∷ []) ≡ true ∷ false ∷ false ∷ false ∷ []
movers-are = refl

pub even-window : is_even 10 (share 4 6) ≡ true
even-window = refl

pub even-less-not : is_even 10 (share 4 5) ≡ false
even-less-not = refl

pub even-more-not : is_even 10 (share 4 7) ≡ false
even-more-not = refl

pub movers-counted : movers (share 4 6 ∷ share 1 1 ∷ share 0 10 ∷ share 9 0 ∷ share 0 0 ∷ share 1 9 ∷ []) ≡ 3
movers-counted = refl

pub unevens-counted : unevens 10 (share 4 6 ∷ share 4 5 ∷ share 0 10 ∷ share 9 0 ∷ share 4 7 ∷ share 0 0 ∷ []) ≡ 2
unevens-counted = refl

-- ==== Columns
abbrev jobs-in-columns : List Job
jobs-in-columns = B 6 9 ∷ F 5 ∷ S 7 ∷ B 0 9 ∷ B 6 0 ∷ S 0 ∷ []

pub costs-first : map (cost_on First) jobs-in-columns ≡ 6 ∷ 5 ∷ 0 ∷ 0 ∷ 0 ∷ 0 ∷ []
costs-first = refl

pub costs-second : map (cost_on Second) jobs-in-columns ≡ 9 ∷ 0 ∷ 7 ∷ 0 ∷ 0 ∷ 0 ∷ []
costs-second = refl

-- The first three are themselves; the others cost nothing, as refusal 4 wants it.
pub jobs-seen : map seen jobs-in-columns ≡ B 6 9 ∷ F 5 ∷ S 7 ∷ F 0 ∷ F 0 ∷ F 0 ∷ []
unfolding job_at
jobs-seen = refl

pub jobs-read : jobs_in 2 (6 ∷ 0 ∷ 3 ∷ []) (9 ∷ 7 ∷ 3 ∷ []) ≡ B 6 9 ∷ S 7 ∷ []
unfolding job_at
jobs-read = refl

-- ==== Slices as numbers
abbrev wide : Kind → Slice
wide k = record { job = 255; kind = k; core = 255; start = 65535; length = 65535 }

pub packed-300 : pack_of (record { job = 1; kind = Second; core = 2; start = 3; length = 300 }) ≡ 329853538796033
unfolding pack_of
packed-300 = refl

pub packed-widest : slice_in (pack_of (wide First)) ≡ wide First
unfolding pack_of slice_in
packed-widest = refl

pub packed-widest-second : slice_in (pack_of (wide Second)) ≡ wide Second
unfolding pack_of slice_in
packed-widest-second = refl

-- One tick more than two bytes say is lost, which is why `Narrow` is asked.
pub packed-wider-not : (slice_in (pack_of (record { job = 0; kind = First; core = 0; start = 0; length = 65536 }))).length ≡ 0
unfolding pack_of slice_in
packed-wider-not = refl
