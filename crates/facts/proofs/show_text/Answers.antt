-- `facts::show_text` meets its contract: a set that was read has 64 jobs at most, by what the reader promises. Assumes nothing.
use Rattle.std.proofs.Common.{◌≡◌, ◌≤◌, length, ap}
use Rattle.rows.proofs.Never.{never}
use Rattle.model.specs.Limits.{jobs_most}
use Rattle.model.specs.Refusal.{Answer, given, refused}
use Rattle.reader.specs.Input.{Input, input_of, head_of, in_columns, jobs_given}
use Rattle.reader.specs.declared.Head.{Head}
use Rattle.facts.proofs.show_text.Goals as goal

few-read : (set : Answer Input) (h : Head) → given h ≡ head_of (in_columns set jobs_most jobs_most) → length (jobs_given set) ≤ jobs_most → h.jobs ≤ jobs_most
few-read (given i) h says few =
    let headed : ◌≡◌ {A = Head} h (record { board = i.board; jobs = length i.jobs }) = cc in
    rw (ap (λ (h : Head). h.jobs) headed) few
few-read (refused n p) h says few = never (cc)

pub invariant_of-show : goal.invariant_of-show
invariant_of-show c =
    record { within = few-read (input_of c.args.text.now) c.in-Ok.field-0 (rw c.in-Ok.is at c.read.ensures.says) c.read.ensures.few }
