-- The rows of a table of shares that a caller lends, and the ticks that they say.
--   row_of         the row of a job's ticks
--   ticks_of_row   the ticks that a row says
-- Assumes nothing.
use Rattle.model.specs.Split.{Ticks, share}
use Rattle.model.specs.declared.Share.{Share}

abbrev pub row_of : Ticks → Share
row_of t = record { first = record { 0 = t.first }; second = record { 0 = t.second } }

abbrev pub ticks_of_row : Share → Ticks
ticks_of_row s = share s.first.0 s.second.0
