-- Entries, histories, and how things stand after a history: the registry, and the operations that hold.
-- In all these definitions h is a history, e and f are entries, s is how things stand, r a registry, p and q processes, a to d, j,
-- m and n nodes (j a joiner, m its contact, d one that left), k the number of a call, x and y names.
use Rattle.std.specs.Prelude.{ℕ, Bool, false, ◌||◌, ◌==◌, Option, Some, None, is_none, List, fold, if◌then◌else◌}
use Rattle.registry_model.specs.Process.{Process, is_process, Nodes, at, with_node}
use Rattle.registry_model.specs.Table.{changed, StrikeOwner}
use Rattle.registry_model.specs.Call.{NameCall, Look, Reply, Joined, is_grant, change_of}
use Rattle.registry_model.specs.Settlement.{settle}
use Rattle.registry_model.specs.Registry.{Registry, opening, with_table, view, with_joiner}

-- number: that of the call at its node. A history is a list of entries, the oldest first
pub data Entry : Type 0 where
  Name : (node : ℕ) → (number : ℕ) → (call : NameCall) → (reply : Reply) → Entry
  Strike : (process : Process) → Entry
  Join : (joiner : ℕ) → (number : ℕ) → (contact : ℕ) → (reply : Reply) → Entry
  Done : (node : ℕ) → Entry
  Exit : (process : Process) → Entry
  Left : (node : ℕ) → Entry
  Told : (node : ℕ) → (departed : ℕ) → Entry
  Read : (node : ℕ) → (look : Look) → (reply : Reply) → Entry

-- the registry after one entry more, legal or not
abbrev pub effect : Entry → Registry → Registry
effect (Name n k call reply) r = if is_grant reply then with_table n (changed (change_of call)) r else r
effect (Strike p) r = with_table p.node (changed (StrikeOwner p)) r
effect (Join j k m Joined) r = with_joiner j m (settle (view r m) (r.lone j)) r
effect (Join j k m _) r = r
effect (Done n) r = r
effect (Exit p) r = record r { dead = λ q. is_process q p || r.dead q }
effect (Left d) r = record r { left = with_node d r.left }
effect (Told n d) r = record r { told = at r.told n (with_node d (r.told n)) }
effect (Read n look reply) r = r

-- the registry after a history
abbrev pub registry_of : Nodes → List Entry → Registry
registry_of cluster h = fold (λ r e. effect e r) (opening cluster) h

-- the node that this entry grants an operation, which holds from then on; a join is an operation of the contact
abbrev pub granted_to : Entry → Option ℕ
granted_to (Name n k call reply) = if is_grant reply then Some n else None
granted_to (Strike p) = Some p.node
granted_to (Join j k m Joined) = Some m
granted_to _ = None

-- an operation that holds: its node, its entry, and the registry of the history without that entry
pub record Hold : Type 0 where
  pub node : ℕ
  pub entry : Entry
  pub old : Registry

-- how things stand after a history: the registry, and the operations that hold, of which a group has at most one
pub record Standing : Type 0 where
  pub registry : Registry
  pub held : Option Hold  -- in the cluster
  pub lone_held : ℕ → Option Hold  -- at each lone node

-- the operation that holds in the group of n
abbrev pub hold_at : Standing → ℕ → Option Hold
hold_at s n = if s.registry.joined n then s.held else s.lone_held n

-- no operation holds in the group of n
abbrev pub is_free : Standing → ℕ → Bool
is_free s n = is_none (hold_at s n)

-- what holds is an operation of node n
abbrev pub is_hold_of : ℕ → Option Hold → Bool
is_hold_of n None = false
is_hold_of n (Some hold) = hold.node == n

-- an operation of n itself holds
abbrev pub is_holding : Standing → ℕ → Bool
is_holding s n = is_hold_of n (hold_at s n)

-- the registry without the operation that holds, or r where none does
abbrev pub old_or : Registry → Option Hold → Registry
old_or r None = r
old_or r (Some hold) = hold.old

-- the registry without the operation that holds in the group of n
abbrev pub old : Standing → ℕ → Registry
old s n = old_or s.registry (hold_at s n)

-- from now on this holds in the group of n
abbrev pub set_hold : ℕ → Option Hold → Standing → Standing
set_hold n hold s = if s.registry.joined n then record s { held = hold } else record s { lone_held = at s.lone_held n hold }

-- a later entry has its effect on the registry without the operation that holds, too
abbrev pub with_effect_on : Entry → Option Hold → Option Hold
with_effect_on e None = None
with_effect_on e (Some hold) = Some (record hold { old = effect e hold.old })

-- the entry has its effect: on the registry, and without each operation that holds
abbrev pub with_effect : Entry → Standing → Standing
with_effect e s = record {
  registry = effect e s.registry;
  held = with_effect_on e s.held;
  lone_held = λ n. with_effect_on e (s.lone_held n);
}

-- the operation of this node, if there is one, holds from its entry on; before: the registry before that entry
abbrev pub begin_hold : Entry → Registry → Option ℕ → Standing → Standing
begin_hold e before None s = s
begin_hold e before (Some n) s = set_hold n (Some (record { node = n; entry = e; old = before })) s

-- how things stand after one entry more
abbrev pub after : Standing → Entry → Standing
after s (Done n) = if is_holding s n then set_hold n None s else s
after s e = begin_hold e s.registry (granted_to e) (with_effect e s)

-- before the first entry
abbrev pub nothing_yet : Nodes → Standing
nothing_yet cluster = record { registry = opening cluster; held = None; lone_held = λ n. None }

-- how things stand after a history
abbrev pub standing_of : Nodes → List Entry → Standing
standing_of cluster h = fold after (nothing_yet cluster) h
