use Rattle.letter_lines.proofs.ExactKinds.{Exact}
use Rattle.letter_lines.proofs.Readings.{one_reading, always_read}
use Rattle.letter_lines.proofs.Written.{one_text}
use Rattle.letter_lines.proofs.laws.parts_are_exact.Goals as goal

pub returns : goal.returns
returns c =
    let own : Exact = record {
      names = c.names_are_exact.ensures;
      rules = c.rules_are_exact.ensures;
      pids = c.pids_are_exact.ensures;
    } in
    record { one_reading = one_reading own; always_read = always_read own; one_text = one_text }
