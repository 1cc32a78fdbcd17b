use Rattle.std.proofs.lemmas.Result.{IfOk-weaker}
use Rattle.letter_lines.proofs.Printed.{put_reads, remove_reads, strike_reads}
use Rattle.letter_lines.proofs.printing.change_line.Goals as goal

pub returns-in-Put : goal.returns-in-Put
returns-in-Put c =
    IfOk-weaker c.pair_line.result _ _ (λ line h. rw c.in-Put.is (put_reads _ _ h)) c.pair_line.ensures

pub returns-in-Remove : goal.returns-in-Remove
returns-in-Remove c =
    IfOk-weaker c.name_line.result _ _ (λ line h. rw c.in-Remove.is (remove_reads _ _ h)) c.name_line.ensures

pub returns-in-StrikeOwner : goal.returns-in-StrikeOwner
returns-in-StrikeOwner c =
    IfOk-weaker c.process_line.result _ _ (λ line h. rw c.in-StrikeOwner.is (strike_reads _ _ h)) c.process_line.ensures
