-- What `split` needs: an answer that says what the definition does promises all. Assumes nothing.
use mathlib.Core.Path.{◌≡◌, sym}
use mathlib.Core.List.{List}
use Prim.Native.Nat.{ℕ, ◌≤◌}
use Rattle.std.specs.Prelude.{Result, Ok, Err, IsErrAnd}
use Rattle.rows.specs.Lists.{All}
use Rattle.model.specs.Board.{room_of}
use Rattle.model.specs.Limits.{window_most, jobs_most}
use Rattle.model.specs.Refusal.{given, says_refusal}
use Rattle.model.specs.declared.Kind.TheVariants.{First, Second}
use Rattle.model.specs.declared.Board.{Board}
use Rattle.model.specs.declared.Job.{Job}
use Rattle.model.specs.declared.Refusal.{Refusal}
use Rattle.legal.specs.Lawful.{LegalJob}
use Rattle.legal.specs.Legal.{legal_of}
use Rattle.legal.proofs.Lawful.{legal-lawful}
use Rattle.split.specs.Shares.{split_of, shares_of, Answers}
use Rattle.split.specs.Promise.{Promised}
use Rattle.split.specs.declared.Shares.{Shares}
use Rattle.split.proofs.Demands.{demands, exactly}

promised : (board : Board) (n : ℕ) (js : List Job) (r : Result Shares Refusal) → Answers (shares_of board n js) r → Promised board n js r
promised board n js r answers =
    record {
      answers = answers;
      demands = rw answers.says (demands board n js);
      exactly = rw answers.says (exactly board n js);
    }

pub promised_refusal : (board : Board) (n : ℕ) (js : List Job) (r : Result Shares Refusal) (e : Refusal) → IsErrAnd r (λ (x : Refusal). x ≡ e)
    → says_refusal e ≡ legal_of board n js → Promised board n js r
promised_refusal board n js (Err r) e is by = promised board n js (Err r) record { says = rw (is, ← by); rest = tt }
promised_refusal board n js (Ok s) e is by = absurd is

pub promised_shares : (board : Board) (n : ℕ) (js : List Job) (r : Result Shares Refusal) → given tt ≡ legal_of board n js
    → Answers (split_of board.window (room_of board First) (room_of board Second) js) r → Promised board n js r
promised_shares board n js r e answers = promised board n js r (rw (← e) answers)

pub asked_of_legal : (board : Board) (n : ℕ) (js : List Job) → given tt ≡ legal_of board n js
    → (board.window ≤ window_most) × (n ≤ jobs_most) × All (LegalJob board.window) js
asked_of_legal board n js e = let lawful = legal-lawful board n js (sym e) in (lawful.window-most, lawful.few, lawful.jobs)
