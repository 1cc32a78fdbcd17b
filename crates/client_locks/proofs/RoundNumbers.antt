-- How often a process holds a lock at a node, by the nodes that its open call's own round asks.
use Rattle.std.specs.Prelude.{ℕ, Bool, false, ◌&&◌, ◌==◌, ◌+◌, ◌-◌, Option, Some, None, is_none, List, [], ◌∷◌, if◌then◌else◌}
use Rattle.std.specs.List.{list_any}
use Rattle.registry_model.specs.Process.{Process}
use Rattle.registry_model.specs.Call.{True, is_reply}
use Rattle.protocol_model.specs.Round.{asked}
use Rattle.protocol_model.specs.Letter.{Id, is_id}
use Rattle.protocol_model.specs.Node.{LockPhase, LockCall, call_of}
use Rattle.protocol_model.specs.Event.{Answer}
use Rattle.protocol_model.specs.ClientLocks.{gives, is_no_more}
use Rattle.protocol_model.specs.World.{Opening, World, WorldEvent, opening_world, refusal, happens, answers}

-- the call is a `set_lock` of this id whose present try asks c
abbrev pub is_tried : Id → ℕ → LockCall → Bool
is_tried id c k = is_id k.id id && (elim k.phase [ LockPhase.Asking r ↦ asked r c | _ ↦ false ])

-- the answer is `true` to this call
abbrev pub is_true_to_call : LockCall → Answer → Bool
is_true_to_call k s = (s.node == k.holder.node) && (s.number == k.number) && is_reply s.reply True

-- these answers give the call a lock of this id at c
abbrev pub is_won_by_round : Id → ℕ → List Answer → Option LockCall → Bool
is_won_by_round id c given None = false
is_won_by_round id c given (Some k) = is_tried id c k && list_any (is_true_to_call k) given

-- the event answers `true` to p's `set_lock` of this id, whose last try asked c
abbrev pub takes : Opening → World → WorldEvent → Process → Id → ℕ → Bool
takes o w e p id c = is_won_by_round id c (answers o w e) (call_of p (w.node p.node).calls)

-- what an accepted event makes of a number k: one more, one less, or none for good
abbrev pub next_round_count : Opening → World → WorldEvent → Process → Id → ℕ → ℕ → ℕ
next_round_count o w e p id c k =
    if is_no_more (happens o w e) p
    then 0
    else (if takes o w e p id c then k + 1 else (if gives w e p id c then k - 1 else k))

-- a refused event changes no number
abbrev pub round_count_after : Opening → World → WorldEvent → Process → Id → ℕ → ℕ → ℕ
round_count_after o w e p id c k = if is_none (refusal o w e) then next_round_count o w e p id c k else k

-- the number after these events, where it was k before them
abbrev pub round_count_from : Opening → World → List WorldEvent → Process → Id → ℕ → ℕ → ℕ
round_count_from o w [] p id c k = k
round_count_from o w (e ∷ es) p id c k = round_count_from o (happens o w e) es p id c (round_count_after o w e p id c k)

-- how often p holds the lock at c. It is a function of the opening and the events alone: they determine the answers
abbrev pub round_count : Opening → List WorldEvent → Process → Id → ℕ → ℕ
round_count o es p id c = round_count_from o (opening_world o) es p id c 0
