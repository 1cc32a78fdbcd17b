use Rattle.node_threads.proofs.Waiting.{letters_give_way, tasks_come_up}
use Rattle.node_threads.proofs.fairness.nobody_starves.Goals as goal

pub returns-clause-letters : goal.returns-clause-letters
returns-clause-letters c = letters_give_way

pub returns-clause-tasks : goal.returns-clause-tasks
returns-clause-tasks c = tasks_come_up
