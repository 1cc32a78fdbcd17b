-- Clients' locks behind every list of events: they exclude each other, and what comes next is answered so.
use Rattle.leftovers.proofs.HeadlineClients.{exclusion}
use Rattle.lock_answers.proofs.Living.{answers_the_living}
use Rattle.lock_answers.proofs.RetriesUsed.{uses_all_retries, uses_no_more}
use Rattle.lock_answers.proofs.FailsReasoned.{fails_for_a_reason}
use Rattle.lock_answers.proofs.Held.{is_held_somewhere}
use Rattle.lock_answers.proofs.GivenBack.{given_back}
use Rattle.lock_answers.proofs.QuietCalls.{quiet_calls_are_told, quiet_calls_are_answered}
use Rattle.lock_answers.proofs.Waiting.{reads_the_seen}
use Rattle.lock_answers.specs.ClientLocks.{ClientLocks}
use Rattle.leftovers.specs.Worlds.{OfNodes}

pub client_locks : OfNodes ClientLocks
client_locks o es = record {
  exclusion = exclusion o es;
  reads = reads_the_seen o es;
  answers = λ e accepted. record {
    living = answers_the_living o es e accepted;
    spent = uses_all_retries o es e accepted;
    within = uses_no_more o es e accepted;
    reason = fails_for_a_reason o es e accepted;
    held = is_held_somewhere o es e accepted;
    deleted = given_back o es e accepted;
  };
  quiet = quiet_calls_are_told o es;
  answered = quiet_calls_are_answered o es;
}
