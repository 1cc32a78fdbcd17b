-- What the steps of a node's end leave.
use Rattle.std.specs.Prelude.{ℕ, Bool, false, ◌&&◌, List, [], map}
use Rattle.std.specs.List.{list_all}
use Rattle.protocol_model.specs.World.{Opening, in_world}
use Rattle.node_threads.specs.declared.ruled_end.Traffic.{Traffic}
use Rattle.node_threads.specs.Givers.{receivers}
use Rattle.node_threads.specs.Wires.{unused}

-- this node is of the world, and so are those
abbrev pub are_inside : Opening → ℕ → List ℕ → Bool
are_inside o node nodes = in_world o node && list_all (in_world o) nodes

-- it is the end of a node of the world, and its lines lead to such
abbrev pub leads_inside : Opening → Traffic → Bool
leads_inside o s = are_inside o s.node (receivers s.lines)

-- what no step changes: whose end it is, its inbox as it was at first, and its lines as they were before anything was put on them
abbrev pub fixed : Traffic → Traffic
fixed s = record s {
  lines = map unused s.lines;
  letters = [];
  tasks = [];
  waiting = [];
  in_a_row = 0;
  has_passed = false;
  looks = 0;
  in_vain = false;
}
