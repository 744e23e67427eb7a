-- What is read into lent columns. The one idea: a refusal has no jobs, so that columns it leaves as they were have all of them at their front.
-- Assumes nothing.
--   gives-refused   a set that is refused, and gives-short: columns that are too short for some set
--   gives_set       costs that were copied from columns of the set's
--   gives_as        an outcome of an answer by another name
use mathlib.Core.Bool.{true, false}
use mathlib.Core.List.{List, ◌++◌, map}
use mathlib.Core.Path.{◌≡◌, refl, sym, subst, ◌∙◌}
use Prim.Native.Nat.{ℕ, ◌≤◌}
use native.Mathlib.Omega.{arith}
use lib.ListN.{length, take, drop, length-map}
use lib.Seq.{take-append_seam}
use Rattle.std.specs.Prelude.{Result, Ok, Err}
use Rattle.rows.specs.Lists.{front}
use Rattle.model.specs.Columns.{cost_on, costs}
use Rattle.model.specs.Limits.{jobs_most}
use Rattle.model.specs.Refusal.{Answer, given, says_refusal}
use Rattle.model.specs.declared.Board.{Board}
use Rattle.model.specs.declared.Job.{Job}
use Rattle.model.specs.declared.Kind.{Kind}
use Rattle.model.specs.declared.Kind.TheVariants.{First, Second}
use Rattle.model.specs.declared.Refusal.{Refusal}
use Rattle.model.specs.declared.Refusal.TheVariants.{TooShort}
use Rattle.reader.specs.Input.{Input, short}
use Rattle.reader.specs.Reader.{GivesIn}
use Rattle.reader.specs.declared.Head.{Head}

pub gives_as : {a b : Answer Input} {c1 c2 c1' c2' : List ℕ} {r : Result Head Refusal} → GivesIn a c1 c2 r c1' c2' → b ≡ a → GivesIn b c1 c2 r c1' c2'
gives_as {c1 = c1} {c2} {c1'} {c2'} {r} g e = subst (λ (x : Answer Input). GivesIn x c1 c2 r c1' c2') (sym e) g

pub gives-refused : {a : Answer Input} {c1 c2 : List ℕ} {r : Refusal} → a ≡ says_refusal r → GivesIn a c1 c2 (Err r) c1 c2
gives-refused {c1 = c1} {c2} {r} e =
    let none : GivesIn (says_refusal r) c1 c2 (Err r) c1 c2 = record { says = refl; few = omega arith; first = refl; second = refl } in
    gives_as none e

-- A set of n jobs, of which two columns have the costs at their front.
module _ (board : Board) (js : List Job) {n : ℕ} (size : length js ≡ n) (few : n ≤ jobs_most) (c1 c2 : List ℕ) where
  abbrev set : Answer Input
  set = given (record { board = board; jobs = js })

  pub gives-short : short (length c1) (length c2) ≡ true → GivesIn set c1 c2 (Err TooShort) c1 c2
  gives-short e = rw e (record { says = refl; few = omega arith; first = refl; second = refl })

  copied : (k : Kind) (c : List ℕ) {c' cs : List ℕ} → cs ≡ costs k js → c' ≡ take n cs ++ drop n c → c' ≡ front (map (cost_on k) js) c
  copied k c is put = put ∙ rw (is, ← size, ← length-map js (cost_on k), take-append_seam)

  pub gives_set : short (length c1) (length c2) ≡ false → {a b c1' c2' : List ℕ} → a ≡ costs First js → b ≡ costs Second js
      → c1' ≡ take n a ++ drop n c1 → c2' ≡ take n b ++ drop n c2 → GivesIn set c1 c2 (Ok (record { board = board; jobs = n })) c1' c2'
  gives_set e first second put1 put2 =
      rw e (record { says = rw size; few = omega arith; first = copied First c1 first put1; second = copied Second c2 second put2 })
