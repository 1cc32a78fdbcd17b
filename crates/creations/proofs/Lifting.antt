-- What holds of all worlds of nodes holds of worlds of names.
use Rattle.std.proofs.Common.{sym, subst}
use Rattle.lock_answers.proofs.Theorem.{agreement as agreement_of_nodes}
use Rattle.lock_answers.proofs.HeadlineClients.{exclusion as exclusion_of_nodes}
use Rattle.lock_answers.proofs.ClientLocks.{client_locks as client_locks_of_nodes}
use Rattle.lock_answers.specs.Worlds.{of_nodes, Law, OfNodes, Agrees, Excludes}
use Rattle.lock_answers.specs.ClientLocks.{ClientLocks}
use Rattle.creations.specs.NodeNames.{opening_of}
use Rattle.creations.specs.NamedWorld.{as_events}
use Rattle.creations.specs.WorldsOfNames.{OfNames, OfTheirNodes}
use Rattle.creations.specs.Lifted.{AnswersStayAtTheirNode}
use Rattle.creations.proofs.NamedRuns.{named_runs_are_runs}
use Rattle.creations.proofs.QuietNames as Quiet

-- a world of names is a world of nodes
pub of_their_nodes : (L : Law) → OfNodes L → OfTheirNodes L
of_their_nodes L law o es = subst (L (of_nodes (opening_of o)) (as_events o es)) (sym (named_runs_are_runs o es))
    (law (opening_of o) (as_events o es))

pub agreement : OfNames Agrees
agreement = of_their_nodes Agrees agreement_of_nodes

pub exclusion : OfNames Excludes
exclusion = of_their_nodes Excludes exclusion_of_nodes

pub client_locks_of_their_nodes : OfTheirNodes ClientLocks
client_locks_of_their_nodes = of_their_nodes ClientLocks client_locks_of_nodes

pub client_locks : OfNames ClientLocks
client_locks o es = record {
  exclusion = exclusion o es;
  reads = record {
    refused = (client_locks_of_their_nodes o es).reads.refused;
    waits = Quiet.waits o es;
    gone = (client_locks_of_their_nodes o es).reads.gone;
  };
  answers = (client_locks_of_their_nodes o es).answers;
  quiet = λ p r z target ds c. Quiet.told o es p r z target ds c;
  answered = λ p r z target ds c. Quiet.answered o es p r z target ds c;
}

pub answers_stay_at_their_node : AnswersStayAtTheirNode
answers_stay_at_their_node o es = (agreement o es).answered
