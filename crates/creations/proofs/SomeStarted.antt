-- What holds of all worlds of nodes holds of those of which some nodes never start.
use Rattle.std.specs.Prelude.{filter}
use Rattle.protocol_model.specs.World.{run}
use Rattle.lock_answers.proofs.Theorem.{agreement as agreement_of_nodes}
use Rattle.lock_answers.proofs.HeadlineClients.{exclusion as exclusion_of_nodes}
use Rattle.lock_answers.proofs.ClientLocks.{client_locks as locks_of_nodes}
use Rattle.lock_answers.specs.Worlds.{Agrees, Excludes}
use Rattle.lock_answers.specs.ClientLocks.{ClientLocks}
use Rattle.lock_answers.specs.Leftovers.{NothingIsLeft}
use Rattle.creations.specs.SomeStarted.{is_of_started, OfStarted}
use Rattle.creations.proofs.LeftOfStarted
use Rattle.creations.proofs.QuietStarted

-- what doesn't ask which nodes run is said of the same events and the same world
pub agreement : OfStarted Agrees
agreement o started es M = agreement_of_nodes o (filter (is_of_started o started) es)

pub exclusion : OfStarted Excludes
exclusion o started es M = exclusion_of_nodes o (filter (is_of_started o started) es)

-- what is said of quiet worlds holds of the world in which all that never start were told of those that have left: for the others that is the
-- same
pub client_locks : OfStarted ClientLocks
client_locks o started es M = record {
  exclusion = exclusion o started es M;
  reads = record {
    refused = (locks_of_nodes o (filter (is_of_started o started) es)).reads.refused;
    waits = QuietStarted.waits o started M es;
    gone = (locks_of_nodes o (filter (is_of_started o started) es)).reads.gone;
  };
  answers = (locks_of_nodes o (filter (is_of_started o started) es)).answers;
  quiet = λ p r z target ds c x a. QuietStarted.told o started M es p r z target ds c x a;
  answered = λ p r z target ds c q. QuietStarted.answered o started M es p r z target ds c q;
}

pub nothing_is_left : OfStarted NothingIsLeft
nothing_is_left o started es M = LeftOfStarted.nothing o started M es
