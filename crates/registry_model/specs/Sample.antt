-- One history in which most kinds of entry stand: legal histories exist.
use Rattle.std.specs.Prelude.{ℕ, nat_lt, false, ◌≡◌, IsTrue, None, List, [], ◌∷◌, ◌++◌}
use Rattle.registry_model.specs.Process.{Text, Process, Nodes}
use Rattle.registry_model.specs.Table.{Rule, Pair, get}
use Rattle.registry_model.specs.Call.{Register, ReRegister, Unregister, Whereis, Yes, No, Ok, UnknownNode, Pid, Undefined, Joined, NotMember, ContactLeft}
use Rattle.registry_model.specs.Registry.{view}
use Rattle.registry_model.specs.History.{Entry, Name, Strike, Join, Done, Exit, Left, Told, Read, registry_of, standing_of, is_free, nothing_yet}
use Rattle.registry_model.specs.Legal.{IsLegal, all_legal}

-- nodes 0 and 1 are the cluster, all others are lone
abbrev pub two_nodes : Nodes
two_nodes c = nat_lt c 2

-- a process of each node
abbrev pub process_at : ℕ → Process
process_at n = record { node = n; serial = 1 }

-- a name and the process of that node
abbrev pub named : Text → ℕ → Pair
named x n = record { name = x; owner = process_at n; rule = Rule.Exit }

-- Node 0 gives the name 7 to a process of node 1, and node 2, which is lone, to one of its own; node 2 joins, and its
-- process dies. The other process exits and is struck; node 1 leaves; what is then free is given again
abbrev pub sample : List Entry
sample =
    Name 0 1 (Register (named 7 1)) Yes ∷ Name 2 1 (Register (named 7 2)) Yes ∷ Done 2 ∷ Done 0
    ∷ Name 1 1 (Register (named 8 1)) No ∷ Join 2 2 5 NotMember ∷ Join 2 3 0 Joined
    ∷ Read 2 (Whereis 7) (Pid (process_at 2)) ∷ Read 2 (Whereis 7) (Pid (process_at 1)) ∷ Done 0
    ∷ Exit (process_at 1) ∷ Strike (process_at 1) ∷ Read 0 (Whereis 7) Undefined ∷ Done 1
    ∷ Name 2 4 (ReRegister (named 7 1)) Yes ∷ Done 2 ∷ Left 1 ∷ Told 0 1
    ∷ Name 0 2 (Register (named 9 1)) UnknownNode ∷ Name 0 3 (Register (named 7 0)) Yes ∷ Done 0
    ∷ Told 3 1 ∷ Join 3 1 1 ContactLeft ∷ Name 2 5 (Unregister 7) Ok ∷ []

-- The sample is legal, comes to what it has to, and would not be legal with one operation more in the holder's group
pub record SampleHolds (history : List Entry) : Type 0 where
  pub legal : IsLegal two_nodes history
  pub given_up : get 7 (view (registry_of two_nodes history) 2) ≡ None
  pub killed : IsTrue ((registry_of two_nodes history).dead (process_at 2))
  pub held : is_free (standing_of two_nodes history) 0 ≡ false
  pub refused : all_legal (nothing_yet two_nodes) (history ++ Name 0 4 (Unregister 9) Ok ∷ []) ≡ false
