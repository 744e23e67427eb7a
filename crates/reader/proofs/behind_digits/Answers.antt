-- `reader::behind_digits` meets its contract: the digits are the bytes that it counts. Assumes nothing.
use Rattle.std.proofs.Common.{rules, tests, ◌≡◌, length, is_some}
use Rattle.std.proofs.lemmas.Iterator.{YieldsList-from_slice}
use Rattle.std.proofs.lemmas.Iterator.Consumers.{YieldsList-at, count_from_yields_List}
use Rattle.std.proofs.lemmas.Iterator.Search.{YieldsList-from_take_while}
use Rattle.std.specs.List.{take_while}
use Rattle.text.specs.Hex.{nibble_of}
use Rattle.reader.proofs.Digits.{digits-count, slice-rest}
use Rattle.reader.proofs.behind_digits.Goals as goal

pub returns : goal.returns
returns c =
    let e : c.count-digits.result ≡ length (take_while (λ b. is_some (nibble_of b)) c.args.text.now) =
    count_from_yields_List _ _ c.count-digits.ensures.ran
    (YieldsList-from_take_while _ (λ b. is_some (nibble_of b)) (YieldsList-at c.take_while.ensures.source (YieldsList-from_slice c.args.text.now cc))
    c.take_while.ensures.closure c.take_while.ensures.done (λ x b q k. search (rules, tests))) in
    rw (e, digits-count) (slice-rest _ c.args.text.now)
