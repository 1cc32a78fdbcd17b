-- The history of a world, as the protocol has it.
use Rattle.std.specs.Prelude.{ℕ, Bool, false, fold, map, List, [], ◌∷◌, ◌++◌}
use Rattle.registry_model.specs.History.{Entry as AnyEntry}
use Rattle.term.specs.NodeSets.{with_node}
use Rattle.transaction.specs.Ops.{name_call_of}
use Rattle.node_events.specs.Seen.{look_of, reply_of, is_list}
use Rattle.world_history.specs.declared.entry.HistoryEntry.{HistoryEntry}
use Rattle.world_history.specs.declared.entry.HistoryEntry.TheVariants.{Name, Strike, Join, Done, Exit, Left, Told, Read, Restart}

-- an entry, behind these departures: a node that starts is told of all of them, and else it is one entry
abbrev pub made_by : HistoryEntry → List ℕ → List AnyEntry
made_by (Name a k c r) left = AnyEntry.Name a k (name_call_of c) (reply_of r) ∷ []
made_by (Strike p) left = AnyEntry.Strike p ∷ []
made_by (Join j k m r) left = AnyEntry.Join j k m (reply_of r) ∷ []
made_by (Done a) left = AnyEntry.Done a ∷ []
made_by (Exit p) left = AnyEntry.Exit p ∷ []
made_by (Left a) left = AnyEntry.Left a ∷ []
made_by (Told a d) left = AnyEntry.Told a d ∷ []
made_by (Read a l r) left = AnyEntry.Read a (look_of l) (reply_of r) ∷ []
made_by (Restart a) left = map (AnyEntry.Told a) left

-- those that had left, and who left by this entry, rising
abbrev pub left_with : List ℕ → AnyEntry → List ℕ
left_with left (AnyEntry.Left a) = with_node left a
left_with left _ = left

-- who left by these entries, rising
abbrev pub left_in : List AnyEntry → List ℕ
left_in es = fold left_with [] es

-- the entries that these are, each behind those before it
abbrev pub entries_of : List HistoryEntry → List AnyEntry
entries_of es = fold (λ before e. before ++ made_by e (left_in before)) [] es

-- its reply is a list
abbrev pub has_list : HistoryEntry → Bool
has_list (Name a k c r) = is_list r
has_list (Join j k m r) = is_list r
has_list (Read a l r) = is_list r
has_list _ = false
