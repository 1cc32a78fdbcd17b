use Rattle.std.proofs.Common.{ℕ, true, ◌≡◌, List, Option, Result, Ok, Err, MatchResult, subst}
use Rattle.std.specs.Io.Buffered.{reader_remaining}
use Rattle.text_lines.specs.declared.faults.StreamFault.{StreamFault}
use Rattle.node_seats.specs.Knowing.{Known, nothing_known}
use Rattle.console.specs.declared.ends.ConsoleEnd.{ConsoleEnd}
use Rattle.console.specs.Consoles.{EndsBy, Stops}
use Rattle.term.specs.declared.limits.TheConstants.{STAYING_LINES}
use Rattle.console.specs.Lent.{LentAnswers, LentStands}
use Rattle.console.proofs.staying.serve_staying.Goals as goal

-- what is known at the end there is
module _ (input rest old new : Option (List ℕ)) (k l m : Known) (is : m ≡ k) where
  known_then : (r : Result ConsoleEnd StreamFault)
      → MatchResult r (EndsBy LentAnswers LentStands true STAYING_LINES input rest old new m l)
      (Stops LentAnswers LentStands true STAYING_LINES input rest old new m l)
      → MatchResult r (λ how. (t : Known) × EndsBy LentAnswers LentStands true STAYING_LINES input rest old new k t how)
      (λ fault. (t : Known) × Stops LentAnswers LentStands true STAYING_LINES input rest old new k t fault)
  known_then (Ok how) ends = (l, subst (λ (x : Known). EndsBy LentAnswers LentStands true STAYING_LINES input rest old new x l how) is ends)
  known_then (Err fault) stops = (l, subst (λ (x : Known). Stops LentAnswers LentStands true STAYING_LINES input rest old new x l fault) is stops)

pub returns : goal.returns
returns g c =
    known_then (reader_remaining g.R.Read.remaining c.args.reader.now) (reader_remaining g.R.Read.remaining c.answer_lines.new.reader)
    (g.W.Write.contents c.args.writer.now) (g.W.Write.contents c.answer_lines.new.writer) (nothing_known c.args.node)
    c.answer_lines.new.attendant.known c.new-known.result c.new-known.ensures c.answer_lines.result c.answer_lines.ensures
