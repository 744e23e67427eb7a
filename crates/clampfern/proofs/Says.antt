-- What is written says what was answered: the lines of a plan say its shares and its rows, and the line of a refusal says its number and its
-- place. The records are bytes by the bounds of an accepted plan (ReadBack), so every field is read back. Assumes nothing.
--   plan-said      the lines of an accepted plan
--   refusal-said   the line of a refusal, whose number and place are bytes
use mathlib.Core.Path.{◌≡◌, refl, ◌∙◌}
use mathlib.Core.List.{List, [], ◌∷◌, ◌++◌, map}
use Prim.Native.Nat.{ℕ, ◌+◌, ◌<◌}
use native.Mathlib.Omega.{arith}
use borrow.Author.Tests.{eq-eqb}
use lib.ListN.{length, length-append, length-map}
use lib.Seq.{take_at, drop_at}
use Rattle.std.specs.Prelude.{Some}
use Rattle.model.specs.Refusal.{given, refused}
use Rattle.model.specs.Split.{Ticks}
use Rattle.model.specs.declared.Kind.{Kind}
use Rattle.model.specs.declared.Kind.TheVariants.{First, Second}
use Rattle.model.specs.declared.Board.{Board}
use Rattle.model.specs.declared.Job.{Job}
use Rattle.model.specs.declared.Slice.{Slice}
use Rattle.columns.specs.Plan.{Plan, plan_of}
use Rattle.text.specs.Hex.{lines_of, bytes_of}
use Rattle.text.specs.Output.{share_record, share_records, slice_record, plan_records, plan_text, refused_text, refused_records}
use Rattle.text.proofs.RoundTrip.{read_back, in_bytes-back}
use Rattle.clampfern.specs.Said.{all_read, share_read, shares_read, slice_read, plan_read, records_say, said_of}
use Rattle.clampfern.proofs.ReadBack.{plan-back}

all_read-some : {A : Type 0} (xs : List A) → all_read (map (λ (x : A). Some x) xs) ≡ Some xs
unfolding all_read
all_read-some [] = refl
all_read-some (x ∷ xs) = rw (all_read-some xs)

-- Bytes whose lines are records say what the records say.
said-records : (text : List ℕ) (rs : List (List ℕ)) → map bytes_of (lines_of text) ≡ map (λ (r : List ℕ). Some r) rs → said_of text ≡ records_say rs
unfolding said_of
said-records text rs back = rw (back, all_read-some rs)

-- ---- the shares and the slices
share-said : (job : ℕ) (s : Ticks) → share_read job (share_record job s) ≡ Some s
unfolding share_read
share-said job s = rw (in_bytes-back 0 job, eq-eqb job job refl, in_bytes-back 1 s.first, in_bytes-back 1 s.second)

shares-said : (job : ℕ) (ss : List Ticks) → shares_read job (share_records job ss) ≡ map (λ (s : Ticks). Some s) ss
unfolding shares_read share_records
shares-said job [] = refl
shares-said job (s ∷ ss) = rw (share-said job s, shares-said (job + 1) ss)

shares-length : (job : ℕ) (ss : List Ticks) → length (share_records job ss) ≡ length ss
unfolding share_records
shares-length job [] = refl
shares-length job (s ∷ ss) = rw (shares-length (job + 1) ss)

slice-said : (job : ℕ) (kind : Kind) (core start ticks : ℕ)
    → let s : Slice = record { job = job; kind = kind; core = core; start = start; length = ticks } in slice_read (slice_record s) ≡ Some s
unfolding slice_read
slice-said job First core start ticks =
    rw (in_bytes-back 0 1, in_bytes-back 0 job, in_bytes-back 0 core, in_bytes-back 1 start, in_bytes-back 1 ticks)
slice-said job Second core start ticks =
    rw (in_bytes-back 0 2, in_bytes-back 0 job, in_bytes-back 0 core, in_bytes-back 1 start, in_bytes-back 1 ticks)

slices-said : (rows : List Slice) → map slice_read (map slice_record rows) ≡ map (λ (s : Slice). Some s) rows
slices-said [] = refl
slices-said (s ∷ rows) = rw (slice-said s.job s.kind s.core s.start s.length, slices-said rows)

-- ---- the two kinds of answer
module _ (board : Board) (js : List Job) (m k : ℕ) {p : Plan} (is : plan_of board (length js) js m k ≡ given p) where
  pub plan-said : said_of (plan_text p.shares p.slices) ≡ Some (given p)
  unfolding records_say plan_read
  plan-said =
      let ss : List Ticks = p.shares in
      let rows : List Slice = p.slices in
      let rs : List (List ℕ) = share_records 0 ss ++ map slice_record rows in
      let size : length rs ≡ length ss + length rows = simp (length-append, shares-length, length-map) in
      said-records (plan_text ss rows) (plan_records ss rows) (plan-back board js m k is) ∙
      rw (
        in_bytes-back 0 (length ss),
        in_bytes-back 0 (length rows),
        eq-eqb (length rs) (length ss + length rows) size,
        take_at (share_records 0 ss) (map slice_record rows) (length ss) (shares-length 0 ss),
        drop_at (share_records 0 ss) (map slice_record rows) (length ss) (shares-length 0 ss),
        shares-said 0 ss,
        slices-said rows,
        all_read-some ss,
        all_read-some rows,
      )

pub refusal-said : (number place : ℕ) → number < 256 → place < 256 → said_of (refused_text number place) ≡ Some (refused number place)
unfolding records_say
refusal-said number place small small' =
    said-records (refused_text number place) (refused_records number place) (read_back (refused_records number place) (omega arith, tt)) ∙
    rw (in_bytes-back 0 number, in_bytes-back 0 place)
