-- How each rule changes the numbers of held locks.
use Rattle.std.proofs.Common.{ℕ, Bool, ◌==◌, ◌+◌, ◌-◌, List, [], ◌∷◌}
use Rattle.std.specs.Prelude.{◌&&◌, if◌then◌else◌}
use Rattle.registry_model.specs.Process.{is_process}
use Rattle.protocol_model.specs.Letter.{is_id}
use Rattle.protocol_model.specs.Round.{asked}
use Rattle.protocol_model.specs.Node.{targets}
use Rattle.protocol_model.specs.World.{Opening, World}
use Rattle.moves.proofs.Rules.{Rule, WinsLock, DeletesLock, DeletesNothing, Exits, Kills, Leaves, effect}
use Rattle.client_locks.proofs.Clients.{Numbers}

-- one more, where this is so, and one less
abbrev pub plus_if : Bool → ℕ → ℕ
plus_if b k = if b then k + 1 else k

abbrev pub less_if : Bool → ℕ → ℕ
less_if b k = if b then k - 1 else k

-- none, where this is so
abbrev pub none_if : Bool → ℕ → ℕ
none_if b k = if b then 0 else k

-- a lock that is won counts at each node that was asked, and one that is deleted counts less where it is deleted
abbrev pub num_by : ℕ → Rule → World → Numbers → Numbers
num_by a (WinsLock c r) w num p id x = plus_if (is_process c.holder p && (is_id c.id id && asked r x)) (num p id x)
num_by a (DeletesLock c) w num p id x = less_if (is_process c.holder p &&
    (is_id c.id id && targets (w.node a).replica.members c.target x)) (num p id x)
num_by a (DeletesNothing c) w num p id x = less_if (is_process c.holder p &&
    (is_id c.id id && targets (w.node a).replica.members c.target x)) (num p id x)
num_by a (Exits q) w num p id x = none_if (is_process q p) (num p id x)
num_by a (Kills f l q receivers) w num p id x = none_if (is_process q p) (num p id x)
num_by a Leaves w num p id x = none_if (p.node == a) (num p id x)
num_by a _ w num p id x = num p id x

-- the numbers after a chain of rules
abbrev pub nums_by : Opening → ℕ → List Rule → World → Numbers → Numbers
nums_by o a [] w num = num
nums_by o a (r ∷ rs) w num = nums_by o a rs (effect o a r w) (num_by a r w num)
