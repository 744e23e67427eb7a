-- What the tick handler's C entries answer on the planner's lines, from text to text. Read this page after the page of demands (Demands.antt).
-- A caller hands `clampfern_tick` the board's line as it stood in the text `asked`, a line feed, and then the `bytes` that answered the text. Each
-- theorem starts from promises in contracts and from nothing else: that the bytes are the answer to the text, and that the number which a call
-- gives is the code of the handler's answer (code_of, in specs/Tick.antt), as `said` has it for every tick, kind and core.
-- The other words are those of the model and of the handler: Runs (a tick of a slice), IsThere (a slice on a core of a kind that runs at a tick;
-- kinds are given as numbers, 1 and 2), running_in (what the rows of a table name), tick_of (the handler's answer on lines, in kernel's specs).
-- Assumes nothing.
use mathlib.Core.Bool.{false, cond}
use mathlib.Core.List.{List, ◌∷◌, ◌++◌, map}
use mathlib.Core.Logic.{◌↔◌, ◌⊎◌, inl, inr, ⊎_elim}
use mathlib.Core.Path.{◌≡◌, refl, sym, ap, ◌∙◌}
use Prim.Native.Nat.{ℕ, ◌+◌, ◌≤◌, ◌<◌}
use native.Mathlib.Omega.{arith}
use lib.Dec.{eqb}
use lib.ListN.{length, take, drop, get_or, length-append}
use lib.Seq.{take-append_seam, drop-append_seam}
use Rattle.std.specs.Prelude.{Some, Option, None}
use Rattle.rows.specs.Numbered.{sum_below}
use Rattle.rows.proofs.Lists.{all_map}
use Rattle.rows.proofs.Numbered.{below-same}
use Rattle.model.specs.Board.{cores_of}
use Rattle.model.specs.Empty.{no_slice}
use Rattle.model.specs.Limits.{jobs_most, slices_most, text_most}
use Rattle.model.specs.Packed.{kind_number, pack_of, slices_in}
use Rattle.model.specs.Refusal.{Answer, given, refused}
use Rattle.model.specs.Split.{Ticks, share, ticks_on}
use Rattle.model.specs.Timetable.{Inside}
use Rattle.model.specs.declared.Kind.{Kind}
use Rattle.model.specs.declared.Board.{Board}
use Rattle.model.specs.declared.Job.{Job}
use Rattle.model.specs.declared.Slice.{Slice}
use Rattle.model.proofs.Splits.{all-done-length}
use Rattle.columns.specs.Plan.{Plan, plan_of}
use Rattle.columns.proofs.PlanLaws.{shares-lawful}
use Rattle.planner.specs.Promise.{GoodPlan}
use Rattle.planner.proofs.PlanKept.{plan-shares, plan-kept}
use Rattle.text.specs.Output.{plan_text}
use Rattle.handler.specs.Running.{cores_in, running_in, asked_of}
use Rattle.handler.proofs.Tabled.{Tabled}
use Rattle.handler.proofs.Tests.{IsThere}
use Rattle.packed.specs.Packed.{packed_most, is_packed, packed_asked}
use Rattle.packed.proofs.Same.{packed-size, pack-then-ask}
use Rattle.kernel.specs.Handed.{handed_of, column_of, tick_of}
use Rattle.clampfern.specs.Answer.{answer_text}
use Rattle.clampfern.specs.Listed.{line_at}
use Rattle.clampfern.specs.Said.{said_of}
use Rattle.clampfern.specs.Tick.{idle_code, refusal_base, code_of, bytes_for, PackedBytes}
use Rattle.clampfern.proofs.Bounds.{small, narrow}
use Rattle.clampfern.proofs.Codes.{Coded, no-job, job, refusal, tick-coded, job-code, idle_code-only, refusal-code}
use Rattle.clampfern.proofs.Demands.{Describes, said-of-rules}
use Rattle.clampfern.proofs.HandedBack.{board-line, board-digits, handed-back}
use Rattle.clampfern.proofs.TableCodes.{table-within, code-most, code-beyond, code-only-beyond, code-names, code-none, code-window, code-place}
use Rattle.clampfern.proofs.Packing.{Refuses, Way, stays, put, pack-way, bytes_most}
use Rattle.clampfern.proofs.ReadBack.{plan-records}
use Rattle.clampfern.proofs.Size.{answer-size}

-- ==== The numbers. On any lines at all, and for every tick, kind and core, the number tells the answer: below 256 it is the job, 256 says that no
-- job runs, and 513 to 525 are the refusals, 512 above their numbers. So no two answers share a number, but for the place of a refusal.
module _ (lines : List ℕ) (tick kind core : ℕ) {code : ℕ} (said : code ≡ code_of (tick_of lines tick kind core)) where
  pub job-exactly : (j : ℕ) → j < idle_code → (code ≡ j) ↔ (tick_of lines tick kind core ≡ given (Some j))
  job-exactly j byte = (λ is. job-code (tick-coded lines tick kind core) j byte (sym said ∙ is), λ is. said ∙ ap code_of is)

  pub idle-exactly : (code ≡ idle_code) ↔ (tick_of lines tick kind core ≡ given None)
  idle-exactly = (λ is. idle_code-only (tick-coded lines tick kind core) (sym said ∙ is), λ is. said ∙ ap code_of is)

  pub refused-exactly : (number : ℕ) → (code ≡ refusal_base + number) ↔ ((place : ℕ) × (tick_of lines tick kind core ≡ refused number place))
  refused-exactly number =
      (λ is. (refusal-code (tick-coded lines tick kind core) number (sym said ∙ is)).2, λ is. said ∙ ap code_of is.1)

  -- No other number is answered.
  pub code-kinds : (code < idle_code) ⊎ ((code ≡ idle_code) ⊎ ((refusal_base + 1 ≤ code) × (code ≤ refusal_base + 13)))
  code-kinds = rw said (go (tick-coded lines tick kind core))
    where
      go : {a : Answer (Option ℕ)} → Coded a
          → (code_of a < idle_code) ⊎ ((code_of a ≡ idle_code) ⊎ ((refusal_base + 1 ≤ code_of a) × (code_of a ≤ refusal_base + 13)))
      go no-job = inr (inl refl)
      go (job j byte) = inl byte
      go (refusal number place above most) = inr (inr (omega arith, omega arith))

-- ==== On the planner's lines: a text `asked` that describes a set, and bytes that are its answer and say a plan.
module _ (asked : List ℕ) {bytes : List ℕ} (answer : bytes ≡ answer_text asked) {board : Board} {js : List Job} (describes : Describes asked board js)
    {p : Plan} (says : said_of bytes ≡ Some (given p)) where
  -- What is handed over: the board's line of the text, in small letters or capitals, ended by a line feed, and the answer.
  abbrev handed : List ℕ
  handed = line_at asked 1 ++ (10 ∷ bytes)

  -- Row i of the plan's slices, and the share of job j.
  abbrev row : ℕ → Slice
  row i = get_or p.slices i no_slice

  abbrev share_of : ℕ → Ticks
  share_of j = get_or p.shares j (share 0 0)

  told : plan_of board (length js) js jobs_most slices_most ≡ given p
  told = let same = sym (said-of-rules asked answer describes) ∙ says in cc

  kept : GoodPlan board js p.shares p.slices
  kept = plan-kept board (length js) js jobs_most slices_most told

  shares-all : length p.shares ≡ length js
  shares-all = all-done-length board.window 1 js p.shares kept.whole.done

  -- It fits a text: the board's line has 10 digits, and an answer 2,437 bytes at the most, so that 1,648 of the 4,096 are left for longer ones.
  pub handed-fits : length handed ≤ text_most
  handed-fits =
      let line = board-digits (board-line asked _ describes) in
      rw answer (omega (arith, length-append (line_at asked 1) (10 ∷ answer_text asked), (answer-size asked).1))

  -- It is read as the board of the text, as many jobs as the set has, and the plan's slices in their order.
  pub handed-read : handed_of handed ≡ given (record { board = board; jobs = length js; rows = p.slices })
  handed-read =
      let bytes-are : bytes ≡ plan_text p.shares p.slices = answer ∙ rw (describes, told) in
      let records = plan-records board js jobs_most slices_most told in
      let of-set = all_map (Inside board (length p.shares)) (λ (s : Slice). s.job < length p.shares) (λ s h. h.job) p.slices
      kept.timetable.inside in
      rw (bytes-are, ← shares-all)
      (handed-back (line_at asked 1) board (board-line asked _ describes) p.shares p.slices records of-set (rw bytes-are at handed-fits))

  abbrev table : List ℕ
  table = map pack_of p.slices

  tabled : Tabled board p.shares p.slices table
  tabled =
      let law = shares-lawful board (length js) js (plan-shares board (length js) js jobs_most slices_most told).0 in
      record {
        passed =
            record {
              window = (law.window-some, law.window-most);
              first = (law.first_some, law.first-most);
              second = (law.second-some, law.second-most);
            };
        timetable = kept.timetable;
        narrow = narrow board js jobs_most slices_most told;
        is = refl;
      }

  handed-asked : (tick kind core : ℕ) → tick_of handed tick kind core ≡ asked_of board table tick kind core
  handed-asked tick kind core = rw handed-read

  -- For a tick of the window and a core of the board no call is refused: the answer is what the plan's rows name.
  pub ticks-never-refused : (tick kind core : ℕ) → tick < board.window → core < cores_in board kind
      → tick_of handed tick kind core ≡ given (running_in tick kind core p.slices)
  ticks-never-refused tick kind core early there = handed-asked tick kind core ∙ table-within tabled tick kind core early there

  -- The number of a call, whatever it asks for.
  module _ (tick kind core : ℕ) {code : ℕ} (said : code ≡ code_of (tick_of handed tick kind core)) where
    code_is : code ≡ code_of (asked_of board table tick kind core)
    code_is = said ∙ ap code_of (handed-asked tick kind core)

    -- So such a call gives a job's number, or the one for none.
    pub ticks-name : tick < board.window → core < cores_in board kind → code ≤ idle_code
    ticks-name early there = rw code_is (code-most tabled tick kind core early there)

    -- Every other call is refused by 11; and no call by another number: never by 8, 9 or 10, by 1 or 2, or by 12 or 13.
    pub beyond-exactly : (code ≡ refusal_base + 11) ↔ ((board.window ≤ tick) ⊎ (cores_in board kind ≤ core))
    beyond-exactly = rw code_is (code-beyond tabled tick kind core)

    pub only-beyond : (number : ℕ) → code ≡ refusal_base + number → number ≡ 11
    only-beyond = rw code_is (code-only-beyond tabled tick kind core)

    -- A job is named exactly where a row of the plan is the job's, on that core of that kind, and runs at that tick,
    pub ticks-name-the-plan : (j : ℕ) → j < idle_code
        → (code ≡ j) ↔ ((i : ℕ) × (i < length p.slices) × IsThere tick kind core (row i) × ((row i).job ≡ j))
    ticks-name-the-plan = rw code_is (code-names tabled tick kind core)

    -- and none exactly where no row of it is there.
    pub none-of-the-plan : tick < board.window → core < cores_in board kind
        → (code ≡ idle_code) ↔ ((i : ℕ) → i < length p.slices → IsThere tick kind core (row i) → ⊥)
    none-of-the-plan = rw code_is (code-none tabled tick kind core)

  -- All the calls of a tick, and of a window.
  module _ {code : (tick kind core : ℕ) → ℕ} (said : (tick kind core : ℕ) → code tick kind core ≡ code_of (tick_of handed tick kind core)) where
    codes-are : (tick kind core : ℕ) → code tick kind core ≡ code_of (asked_of board table tick kind core)
    codes-are tick kind core = said tick kind core ∙ ap code_of (handed-asked tick kind core)

    -- At one tick no job is named on two cores, of one kind or of both.
    pub one_place : (tick kind core kind' core' : ℕ) → code tick kind core < idle_code → code tick kind core ≡ code tick kind' core'
        → (kind ≡ kind') × (core ≡ core')
    one_place tick kind core kind' core' =
        rw (codes-are tick kind core, codes-are tick kind' core') (code-place tabled tick kind core kind' core')

    -- Over a whole window each job of the set is named on each kind for exactly its share: the calls for every tick and every core of the kind, of
    -- which so many give its number.
    pub over-a-window : (kind : Kind) (j : ℕ) → j < length js
        → sum_below board.window (λ (tick : ℕ). sum_below (cores_of board kind) (λ (core : ℕ). cond (eqb (code tick (kind_number kind) core) j) 1 0))
        ≡ ticks_on kind (share_of j)
    over-a-window kind j l =
        let few = (small board js jobs_most slices_most told).few-jobs in
        below-same _ _ board.window (λ tick _. below-same _ _ (cores_of board kind) (λ core _. rw (codes-are tick (kind_number kind) core))) ∙
        code-window tabled kind j (omega (arith, shares-all)) (omega (arith, shares-all))

-- ==== Packed bytes. `clampfern_pack` is given any lines at all and lent bytes that hold `before`; it answers `count`, and the bytes then hold
-- `after`.
module _ {lines before after : List ℕ} {count : ℕ} (packed : PackedBytes lines before after count) where
  -- What it wrote answers what the lines answer, for every tick, kind and core.
  pub packed-same : 0 < count → (tick kind core : ℕ) {code code' : ℕ} → code ≡ code_of (tick_of lines tick kind core)
      → code' ≡ code_of (packed_asked (take count after) tick kind core) → code' ≡ code
  packed-same above tick kind core said packed_said = packed_said ∙ ap code_of (go (pack-way packed)) ∙ sym said
    where
      go : Way lines before after count → packed_asked (take count after) tick kind core ≡ tick_of lines tick kind core
      go (stays zero same why) = absurd (omega arith)
      go (put h is good enough all now) =
          let bytes : take count after ≡ bytes_for (given h) = rw (now, all) (take-append_seam (bytes_for (given h)) _) in
          ap (λ (table : List ℕ). packed_asked table tick kind core) bytes ∙ pack-then-ask h.board (column_of h) good tick kind core ∙ rw is

  -- No byte past the count has changed: where it is 0, no byte at all.
  pub packed-rest : drop count after ≡ drop count before
  packed-rest = go (pack-way packed)
    where
      go : Way lines before after count → drop count after ≡ drop count before
      go (stays zero same why) = rw same
      go (put h is good enough all now) = rw (now, all) (drop-append_seam (bytes_for (given h)) _)

  -- Where it is 0 it has refused: then `clampfern_tick` tells the number on the same lines, whatever it is asked; or the lent bytes are fewer than
  -- those of the table, which is how this call tells refusal 7.
  pub packed-refused : count ≡ 0 → ((number : ℕ) × ((tick kind core : ℕ) → code_of (tick_of lines tick kind core) ≡ refusal_base + number))
      ⊎ (length before < length (bytes_for (handed_of lines)))
  packed-refused zero = go (pack-way packed)
    where
      go : Way lines before after count → Refuses lines before
      go (stays zero same why) = why
      go (put h is good enough all now) = absurd (omega (arith, packed-size h.board (slices_in (length (column_of h)) (column_of h))))

  -- Lent bytes of the most that packed bytes have, 2,045, are never too few: then a number is told.
  pub packed-enough : packed_most ≤ length before → count ≡ 0
      → (number : ℕ) × ((tick kind core : ℕ) → code_of (tick_of lines tick kind core) ≡ refusal_base + number)
  packed-enough enough zero = ⊎_elim (λ told. told) (λ few. absurd (omega (arith, bytes_most lines))) (packed-refused zero)

-- On bytes of any other form `clampfern_packed_tick` tells refusal 9, which is 521.
pub not-packed : (table : List ℕ) (tick kind core : ℕ) {code : ℕ} → code ≡ code_of (packed_asked table tick kind core) → is_packed table ≡ false
    → code ≡ refusal_base + 9
not-packed table tick kind core said other = said ∙ rw other
