-- How a round ends.
use Rattle.std.specs.Prelude.{ℕ, Bool, not, ◌≡◌, ◌&&◌, List, if◌then◌else◌}
use Rattle.std.specs.List.{filter, list_any, list_all}
use Rattle.protocol_model.specs.Links.{is_nil}
use Rattle.protocol_model.specs.Round as protocol
use Rattle.protocol_model.specs.Round.{has_granted, is_refused, granted}
use Rattle.term.specs.NodeSets.{set_of}
use Rattle.boss_order.specs.Boss.{boss_of}
use Rattle.locker.specs.declared.ending.Ending.{Ending}
use Rattle.locker.specs.declared.ending.Ending.TheVariants.{Held as IsHeld, GiveBack}
use Rattle.locker.specs.RoundState.{RoundState, seen}

-- the nodes that granted and haven't gone down, rising
abbrev pub granted_by : RoundState → List ℕ
granted_by h = filter (granted (seen h)) h.nodes

-- each of these members was asked, the boss granted, nobody refused, and some node that granted hasn't gone down
abbrev pub is_won : List ℕ → RoundState → Bool
is_won members h =
    list_all (set_of h.nodes) members && has_granted ((seen h).mark (boss_of h.nodes))
    && not (list_any (λ c. is_refused ((seen h).mark c)) h.nodes) && not (is_nil (granted_by h))

-- how it ends, by the members as they are now
abbrev pub end_of : List ℕ → RoundState → Ending
end_of members h = if is_won members h then IsHeld else GiveBack (granted_by h)

-- an ending is one of the protocol
abbrev pub EndsAs : Ending → protocol.Ending → Type 0
EndsAs IsHeld protocol.Held = Unit {0}
EndsAs (GiveBack nodes) (protocol.GiveBack s) = (c : ℕ) → set_of nodes c ≡ s c
EndsAs _ _ = ⊥
