-- Names that are chosen by their beginning.
use Rattle.std.proofs.Common.{ℕ, false, ◌≡◌, List, Result, Ok, Err, MatchResult, IfOk, refl, subst, sym}
use Rattle.command_lines.specs.declared.Call.TheVariants.{RegisteredNames}
use Rattle.command_lines.specs.declared.Reply.{Reply}
use Rattle.node_seats.specs.declared.fault.SeatFault.{SeatFault}
use Rattle.console.specs.Chosen.{chosen_text}
use Rattle.console.specs.Consoles.{Answering, ChoosesNames}
use Rattle.console.specs.declared.orders.Order.TheVariants.{Call}

-- the line of an answer is printed, or there is no memory for it
pub names_said : {S A F : Type 0} (answers : Answering S) (bytes_of : A → List ℕ) (prefix : ℕ) (s t : S) (outcome : Result Reply SeatFault)
    (r : Result A F) → answers s (Call RegisteredNames) false outcome t → IfOk r (λ line. bytes_of line ≡ chosen_text prefix outcome)
    → MatchResult r (λ line. ChoosesNames answers prefix s (bytes_of line) t) (λ _. (text : List ℕ) × ChoosesNames answers prefix s text t)
names_said answers bytes_of prefix s t outcome (Ok line) asked says = (outcome, asked, says)
names_said answers bytes_of prefix s t outcome (Err _) asked says = (chosen_text prefix outcome, (outcome, asked, refl))

-- so it is with whatever is answered by a text
pub said_or_not : {A F : Type 0} (bytes_of : A → List ℕ) (Says : List ℕ → Type 0) (text : List ℕ) (r : Result A F) → Says text
    → IfOk r (λ line. bytes_of line ≡ text) → MatchResult r (λ line. Says (bytes_of line)) (λ _. (said : List ℕ) × Says said)
said_or_not bytes_of Says text (Ok line) says is = subst Says (sym is) says
said_or_not bytes_of Says text (Err _) says is = (text, says)
