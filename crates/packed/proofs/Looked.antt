-- A walk over the rows of packed bytes from the first to the last. One idea: the answer so far is what the rows so far say. Assumes nothing.
--   all_more              each row up to there is a slice's, as each so far is and the one that was taken
--   job_here, job_before  the job of the first row that is there: of one before, or else of the row that was taken
use mathlib.Core.Bool.{true, false}
use mathlib.Core.List.{List}
use mathlib.Core.Path.{◌≡◌, refl}
use Prim.Native.Nat.{ℕ}
use native.Mathlib.Omega.{arith}
use lib.ListN.{length}
use Rattle.std.specs.Prelude.{Option, Some}
use Rattle.std.specs.List.{list_all, push}
use Rattle.std.specs.Option.{option_or}
use Rattle.std.proofs.lemmas.List.Folds.{find-append, list_all-append}
use Rattle.rows.specs.Upto.{at}
use Rattle.packed.specs.Packed.{is_slice}
use Rattle.packed.specs.Asking.{is_there, job_of}
use Rattle.packed.proofs.Bytes.{job-is}

module _ (front next : List (List ℕ)) (row : List ℕ) (taken : next ≡ push front row) where
  pub all_more : list_all is_slice front ≡ true → true ≡ is_slice row → list_all is_slice next ≡ true
  all_more all is = rw (taken, list_all-append, all, ← is) refl

  module _ (tick kind core : ℕ) (answer : Option ℕ) (say : answer ≡ job_of tick kind core front) where
    pub job_here : true ≡ is_there tick kind core row → length row ≡ 8 → option_or answer (Some (at row 1)) ≡ job_of tick kind core next
    job_here is long = let job = job-is row long in rw (taken, find-append, ← is, say) (grind arith)

    pub job_before : false ≡ is_there tick kind core row → answer ≡ job_of tick kind core next
    job_before is = rw (taken, find-append, ← is, say) (grind arith)
