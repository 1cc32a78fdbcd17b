-- The settlement of a join: the names of a lone node against those of the cluster.
use Rattle.std.specs.Prelude.{nat_lt, Option, Some, None, List, [], ◌∷◌, ◌++◌, map, filter, fold, if◌then◌else◌}
use Rattle.std.specs.List.{list_any}
use Rattle.registry_model.specs.Process.{Text, Process, is_process}
use Rattle.registry_model.specs.Table.{Rule, Exit, Notify, NotifyAll, Pair, Table, entry, put_all, remove_all}

-- what a process is sent that loses a name and doesn't die: the name, and who else lost it, where both did
pub record Notice : Type 0 where
  pub name : Text
  pub other : Option Process

-- a notice, and who is sent it
pub record Noted : Type 0 where
  pub process : Process
  pub notice : Notice

-- p is sent a notice of x
abbrev pub note : Process → Text → Option Process → Noted
note p x other = record { process = p; notice = record { name = x; other = other } }

-- what p is sent, in order
abbrev pub notices_to : Process → List Noted → List Notice
notices_to p notices = map (λ n. n.notice) (filter (λ n. is_process n.process p) notices)

-- what becomes of processes by a settlement: which die, each once, and which are sent notices
pub record Fate : Type 0 where
  pub kills : List Process
  pub notices : List Noted

-- what the cluster writes, first the pairs, then the names that nobody has, and what becomes of processes
pub record Settled : Type 0 where
  pub puts : Table
  pub removes : List Text
  pub fate : Fate

-- the table with what is settled
abbrev pub with_settled : Settled → Table → Table
with_settled settled t = remove_all settled.removes (put_all settled.puts t)

-- nothing is settled yet
abbrev pub unsettled : Settled
unsettled = record { puts = []; removes = []; fate = record { kills = []; notices = [] } }

-- the joiner's process has its name
abbrev pub with_put : Pair → Settled → Settled
with_put pair settled = record settled { puts = settled.puts ++ pair ∷ [] }

-- nobody has the name
abbrev pub with_remove : Text → Settled → Settled
with_remove x settled = record settled { removes = settled.removes ++ x ∷ [] }

-- p dies
abbrev pub doomed : Process → Fate → Fate
doomed p fate = if list_any (is_process p) fate.kills then fate else record fate { kills = fate.kills ++ p ∷ [] }

-- p dies by the settlement
abbrev pub with_kill : Process → Settled → Settled
with_kill p settled = record settled { fate = doomed p settled.fate }

-- these are sent
abbrev pub with_notices : List Noted → Settled → Settled
with_notices notices settled =
    record settled { fate = record settled.fate { notices = settled.fate.notices ++ notices } }

-- a name of the joiner that q, another process, has in the cluster under this rule. On one node q counts as the one on the
-- lesser node
abbrev pub clash : Rule → Pair → Process → Settled → Settled
clash Exit pair q settled =
    if nat_lt pair.owner.node q.node then with_kill q (with_put pair settled) else with_kill pair.owner settled
clash Notify pair q settled =
    if nat_lt pair.owner.node q.node
    then with_notices (note q pair.name None ∷ []) (with_put pair settled)
    else with_notices (note pair.owner pair.name None ∷ []) settled
clash NotifyAll pair q settled =
    with_notices (note q pair.name (Some pair.owner) ∷ note pair.owner pair.name (Some q) ∷ [])
    (with_remove pair.name settled)

-- one name of the joiner, under which this stands in the cluster, or nothing: the rule of what stands there decides. One
-- process keeps its name, and the cluster's rule
abbrev pub settle_one : Pair → Option Pair → Settled → Settled
settle_one pair None settled = with_put pair settled
settle_one pair (Some own) settled =
    if is_process pair.owner own.owner then settled else clash own.rule pair own.owner settled

-- the joiner's names, rising, against the cluster's table
abbrev pub settle : Table → Table → Settled
settle table pairs =
    fold (λ settled pair. settle_one pair (entry pair.name table) settled) unsettled pairs
