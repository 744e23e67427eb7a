-- `legal::check` meets its contract: what `lowest_failing` says of each of the two checks on jobs. Assumes nothing.
use native.Mathlib.Omega.{arith}
use Rattle.std.proofs.Common.{rules}
use Rattle.std.proofs.lemmas.Bool.Decides.{nat_tests}
use Rattle.rows.proofs.Lowest.{position-found, position-none}
use Rattle.model.specs.Columns.{jobs_in}
use Rattle.legal.specs.Legal.{on_board, bad_cost, too_long, legal_of}
use Rattle.legal.proofs.check.Goals as goal

pub returns-in-Some : goal.returns-in-Some
unfolding legal_of on_board
returns-in-Some c =
    let a = c.args in
    let js = jobs_in a.n a.first.now a.second.now in
    let bad = position-found bad_cost js c.in-Some.bad (c.in-Some.ensures.lowest bad_cost (λ job failed gave. search rules)) in
    grind (arith, nat_tests)

pub returns-in-Some-lowest_failing : goal.returns-in-Some-lowest_failing
unfolding legal_of on_board
returns-in-Some-lowest_failing c =
    let a = c.args in
    let js = jobs_in a.n a.first.now a.second.now in
    let long_of = too_long a.board.window in
    let some = c.in-Some-lowest_failing in
    let costs = position-none bad_cost js (c.in_default.ensures.lowest bad_cost (λ job failed gave. search rules)) in
    let long = position-found long_of js some.long (some.ensures.lowest long_of (λ job failed gave. search rules)) in
    grind (arith, nat_tests)

pub returns : goal.returns
unfolding legal_of on_board
returns c =
    let a = c.args in
    let js = jobs_in a.n a.first.now a.second.now in
    let long_of = too_long a.board.window in
    let costs = position-none bad_cost js (c.in_default.ensures.lowest bad_cost (λ job failed gave. search rules)) in
    let fit = position-none long_of js (c.in_default-lowest_failing.ensures.lowest long_of (λ job failed gave. search rules)) in
    grind (arith, nat_tests)
