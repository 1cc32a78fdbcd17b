-- The words for which tasks are refused.
use Rattle.std.specs.Prelude.{ℕ, List, codes}
use Rattle.node_log.specs.NodeEventsWords.{step_word}
use Rattle.node_loop.specs.declared.replies.TaskFault.{TaskFault}
use Rattle.node_loop.specs.declared.replies.TaskFault.TheVariants.{NoSuchNode, NodeLeft, Step}

-- the word for which a task is refused
abbrev pub task_word : TaskFault → List ℕ
task_word NoSuchNode = codes "no_such_node"
task_word NodeLeft = codes "node_left"
task_word (Step f) = step_word f
