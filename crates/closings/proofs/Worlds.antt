-- What an event does to a world, by parts.
use Rattle.std.proofs.Common.{Bool, true, false, ◌≡◌, Option, Some, None, [], refl, ap}
use Rattle.std.specs.Prelude.{if◌then◌else◌, not, ◌||◌, is_none}
use Rattle.protocol_model.specs.Links.{closed_out}
use Rattle.protocol_model.specs.Event.{Event, Refusal, first_cause}
use Rattle.protocol_model.specs.World.{Opening, in_world, World, WorldEvent, At, Deliver, place, other, local_causes, refusal, turn_of, letter_taken, leaver_closed_out, accepted, happens, answers}
use Rattle.closings.specs.Alone.{is_leave}

-- a leave closes links out, and leaves the nodes as they are
pub leaver_node : (e : WorldEvent) (w : World) → (leaver_closed_out e w).node ≡ w.node
leaver_node (At a (Event.Calling c)) w = refl
leaver_node (At a Event.Retry) w = refl
leaver_node (At a (Event.Exiting p)) w = refl
leaver_node (At a Event.Leave) w = refl
leaver_node (Deliver f t) w = refl

pub leaver_links : (e : WorldEvent) (w : World)
    → (leaver_closed_out e w).links ≡ (if is_leave e then closed_out (place e) w.links else w.links)
leaver_links (At a (Event.Calling c)) w = refl
leaver_links (At a Event.Retry) w = refl
leaver_links (At a (Event.Exiting p)) w = refl
leaver_links (At a Event.Leave) w = refl
leaver_links (Deliver f t) w = refl

-- a letter that is taken leaves nodes and closed links as they are
pub taken_node : (e : WorldEvent) (w : World) → (letter_taken e w).node ≡ w.node
taken_node (At a e) w = refl
taken_node (Deliver f t) w = refl

pub taken_closed : (e : WorldEvent) (w : World) → (letter_taken e w).links.closed ≡ w.links.closed
taken_closed (At a e) w = refl
taken_closed (Deliver f t) w = refl

-- an event between nodes of the world, at a running one, is refused only by the node or the link
pub accepted_by : (o : Opening) (w : World) (e : WorldEvent) → in_world o (place e) ≡ true → in_world o (other e) ≡ true
    → w.links.closed (place e) ≡ false → first_cause (local_causes w e) ≡ None → refusal o w e ≡ None
accepted_by o w e here there up none =
    go (in_world o (place e)) (in_world o (other e)) (w.links.closed (place e)) here there up
  where
    go : (b c d : Bool) → b ≡ true → c ≡ true → d ≡ false
        → (if not b || not c then Some Refusal.NoSuchNode else (if d then Some Refusal.NodeLeft else first_cause (local_causes w e)))
        ≡ None
    go true true false p q r = none
    go true true true p q r = cc
    go true false d p q r = cc
    go false c d p q r = cc

-- an accepted event is answered what its turn answers
pub answers_by : (o : Opening) (w : World) (e : WorldEvent) → refusal o w e ≡ None → answers o w e ≡ (turn_of o w e).answers
answers_by o w e none =
    ap (λ (r : Option Refusal). if is_none r then (turn_of o w e).answers else []) none

-- and it happens
pub happens_by : (o : Opening) (w : World) (e : WorldEvent) → refusal o w e ≡ None → happens o w e ≡ accepted o w e
happens_by o w e none = ap (λ (r : Option Refusal). if is_none r then accepted o w e else w) none
