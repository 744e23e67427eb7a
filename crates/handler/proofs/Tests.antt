-- What the tests of rows tell. One idea: each is a comparison of numbers or several joined, so that it tells a fact that is joined the same way;
-- and a number is read back from the slice that it is read as exactly where nothing of it is lost. Assumes nothing.
--   Row, Placed, Good             a number that is that of the slice which is read from it; a slice that is placed on the board; a row that is both
--   Shares, Clear                 two slices on one core that both run at some tick; two that do not
--   Crosses                       each starts before the other ends: the same of slices with lengths above 0 (crosses-shares, shares-crosses)
--   IsThere                       a slice that is on a core and runs at a tick
--   row-tells, placed-tells, good-tells, kinds-tell, crosses-tell, collides-tells, at-tells   what the tests tell
use mathlib.Core.Path.{◌≡◌, refl}
use mathlib.Core.Bool.{Bool, true, false, ◌&&◌}
use mathlib.Core.Logic.{◌⊎◌, inl, inr, ⊎_elim}
use Prim.Native.Nat.{ℕ, ◌+◌, ◌*◌, ◌/◌, ◌%◌, ◌≤◌, ◌<◌}
use native.Mathlib.Omega.{arith}
use borrow.Author.Tests.{leb-true, leb-false}
use lib.Dec.{leb}
use lib.ListN.{length}
use Rattle.std.proofs.lemmas.Bool.Decides.{nat_tests}
use Rattle.rows.proofs.Never.{never}
use Rattle.rows.proofs.Tells.{Tells, holds, fails, less-tells, most-tells, equal-tells, or-tells, and-tells, alike-tells}
use Rattle.model.specs.Board.{cores_of, same_kind}
use Rattle.model.specs.Packed.{kind_number, pack_of, kind_of, slice_in}
use Rattle.model.specs.Timetable.{Runs, Apart, SameCore}
use Rattle.model.specs.declared.Board.{Board}
use Rattle.model.specs.declared.Kind.{Kind}
use Rattle.model.specs.declared.Kind.TheVariants.{First, Second}
use Rattle.model.specs.declared.Slice.{Slice}
use Rattle.handler.specs.Check.{is_row, is_inside, collides}
use Rattle.handler.specs.Running.{is_at}

-- ---- a row by itself
abbrev pub Row : ℕ → Type 0
Row x = pack_of (slice_in x) ≡ x

abbrev pub Placed : Board → Slice → Type 0
Placed board s = (0 < s.length) × ((s.start + s.length ≤ board.window) × (s.core < cores_of board s.kind))

abbrev pub Good : Board → ℕ → Type 0
Good board x = Row x × Placed board (slice_in x)

-- The kind that a byte is read as has that byte for its number exactly where the byte is 1 or 2.
kind-back : (byte : ℕ) → (byte ≡ 1) ⊎ (byte ≡ 2) → kind_number (kind_of byte) ≡ byte
kind-back byte e = grind (arith, nat_tests)

kind-some : (kind : Kind) → (kind_number kind ≡ 1) ⊎ (kind_number kind ≡ 2)
kind-some First = inl refl
kind-some Second = inr refl

-- A number of seven bytes is the sum of its digits, and such a sum has seven bytes, of which the second is the kind's.
digits : (x kind : ℕ) → x < 72057594037927936 → kind ≡ x / 256 % 256
    → x % 256 + 256 * kind + 65536 * (x / 65536 % 256) + 16777216 * (x / 16777216 % 65536) + 1099511627776 * (x / 1099511627776 % 65536) ≡ x
digits x kind small is =
    let job : x ≡ x % 256 + 256 * (x / 256) = omega arith in
    let byte : x / 256 ≡ kind + 256 * (x / 65536) = omega arith in
    let core : x / 65536 ≡ x / 65536 % 256 + 256 * (x / 16777216) = omega arith in
    let start : x / 16777216 ≡ x / 16777216 % 65536 + 65536 * (x / 1099511627776) = omega arith in
    let length : x / 1099511627776 % 65536 ≡ x / 1099511627776 = omega arith in
    omega arith

undigits : (x job kind core start length : ℕ) → job < 256 → kind < 256 → core < 256 → start < 65536 → length < 65536
    → job + 256 * kind + 65536 * core + 16777216 * start + 1099511627776 * length ≡ x → (x < 72057594037927936) × (x / 256 % 256 ≡ kind)
undigits x job kind core start length j k c s l e =
    let above : x / 256 ≡ kind + 256 * core + 65536 * start + 4294967296 * length = omega arith in
    (omega arith, rw above (omega arith))

abbrev RowTest : ℕ → Type 0
RowTest x = (x < 72057594037927936) × ((x / 256 % 256 ≡ 1) ⊎ (x / 256 % 256 ≡ 2))

test-row : (x : ℕ) → RowTest x → Row x
unfolding pack_of slice_in
test-row x p = digits x _ p.0 (kind-back (x / 256 % 256) p.1)

row-test : (x : ℕ) → Row x → RowTest x
unfolding pack_of slice_in
row-test x e =
    let kind = kind-some (kind_of (x / 256 % 256)) in
    let parts = undigits x (x % 256) (kind_number (kind_of (x / 256 % 256))) _ _ _ (omega arith) (⊎_elim (λ e. omega arith) (λ e. omega arith) kind)
    (omega arith) (omega arith) (omega arith) e in
    (parts.0, rw (← parts.1) at kind)

pub row-tells : (x : ℕ) → Tells (Row x) (is_row x)
unfolding is_row
row-tells x =
    alike-tells (test-row x) (row-test x)
    (and-tells (less-tells x 72057594037927936) (or-tells (equal-tells (x / 256 % 256) 1) (equal-tells (x / 256 % 256) 2)))

pub placed-tells : (board : Board) (s : Slice) → Tells (Placed board s) (is_inside board s)
placed-tells board s =
    and-tells (less-tells 0 s.length)
    (and-tells (most-tells (s.start + s.length) board.window) (less-tells s.core (cores_of board s.kind)))

pub good-tells : (board : Board) (x : ℕ) → Tells (Good board x) (is_row x && is_inside board (slice_in x))
good-tells board x = and-tells (row-tells x) (placed-tells board (slice_in x))

-- ---- two rows
pub kinds-tell : (k l : Kind) → Tells (k ≡ l) (same_kind k l)
kinds-tell First First = holds refl
kinds-tell First Second = fails (λ e. never (cc))
kinds-tell Second First = fails (λ e. never (cc))
kinds-tell Second Second = holds refl

abbrev pub Shares : Slice → Slice → Type 0
Shares s t = SameCore s t × ((tick : ℕ) × Runs s tick × Runs t tick)

abbrev pub Clear : Slice → Slice → Type 0
Clear s t = SameCore s t → Apart s t

-- Each starts before the other ends. Of slices with lengths above 0 that is a tick at which both run: where the later of the two starts.
abbrev pub Crosses : Slice → Slice → Type 0
Crosses s t = (s.kind ≡ t.kind) × ((s.core ≡ t.core) × ((s.start < t.start + t.length) × (t.start < s.start + s.length)))

pub crosses-tell : (s t : Slice) → Tells (Crosses s t) (collides s t)
crosses-tell s t =
    and-tells (kinds-tell s.kind t.kind)
    (and-tells (equal-tells s.core t.core)
    (and-tells (less-tells s.start (t.start + t.length)) (less-tells t.start (s.start + s.length))))

pub crosses-shares : (s t : Slice) → 0 < s.length → 0 < t.length → Crosses s t → Shares s t
crosses-shares s t some1 some2 c = ((c.0, c.1.0), go (leb s.start t.start) refl)
  where
    go : (later : Bool) → leb s.start t.start ≡ later → (tick : ℕ) × Runs s tick × Runs t tick
    go true e = (t.start, (leb-true s.start t.start e, c.1.1.1), omega arith)
    go false e = (s.start, omega arith, omega (arith, leb-false s.start t.start e, c.1.1.0))

pub shares-crosses : (s t : Slice) → Shares s t → Crosses s t
shares-crosses s t h = (h.0.0, (h.0.1, (omega (arith, h.1.1, h.1.2), omega (arith, h.1.1, h.1.2))))

pub collides-tells : (s t : Slice) → 0 < s.length → 0 < t.length → Tells (Shares s t) (collides s t)
collides-tells s t some1 some2 = alike-tells (crosses-shares s t some1 some2) (shares-crosses s t) (crosses-tell s t)

-- ---- a row at a tick of a core
abbrev pub IsThere : (tick kind core : ℕ) → Slice → Type 0
IsThere tick kind core s = (kind_number s.kind ≡ kind) × ((s.core ≡ core) × Runs s tick)

pub at-tells : (tick kind core : ℕ) (s : Slice) → Tells (IsThere tick kind core s) (is_at tick kind core s)
at-tells tick kind core s =
    and-tells (equal-tells (kind_number s.kind) kind)
    (and-tells (equal-tells s.core core) (and-tells (most-tells s.start tick) (less-tells tick (s.start + s.length))))
