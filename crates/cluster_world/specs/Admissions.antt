-- Events that are admitted, with what was found of each.
use Rattle.std.specs.Prelude.{ℕ, ◌≡◌, ◌<◌, ◌+◌, Some, List}
use Rattle.link.specs.declared.link_place.LinkPlace.{LinkPlace}
use Rattle.link.specs.MeshState.{place}
use Rattle.term.specs.Nodes.{name_of, creation_of, last_creation}
use Rattle.world_events.specs.declared.events.WorldEvent.{WorldEvent}
use Rattle.world_events.specs.declared.events.WorldEvent.TheVariants as event
use Rattle.cluster_world.specs.declared.admission.Admission.{Admission}
use Rattle.cluster_world.specs.declared.admission.Admission.TheVariants.{Own, Deliver, Restart}
use Rattle.cluster_world.specs.declared.admission.Comeback.{Comeback}
use Rattle.cluster_world.specs.declared.admission.Delivery.{Delivery}
use Rattle.cluster_world.specs.WorldState.{WorldState, nodes_of}
use Rattle.cluster_world.specs.Links.{IsBetween, IsFirstSender}
use Rattle.cluster_world.specs.Mail.{links_of}
use Rattle.cluster_world.specs.Steps.{IsAdmitted}

-- the event itself
abbrev pub delivered_by : Delivery → WorldEvent
delivered_by d = event.Deliver (name_of d.sender) (name_of d.receiver)

abbrev pub event_by : Admission → WorldEvent
event_by (Own p a e) = event.At a.now e.now
event_by (Deliver d) = delivered_by d
event_by (Restart b) = event.Restart (name_of b.older)

-- where it is played
abbrev pub place_by : Admission → ℕ
place_by (Own p a e) = p
place_by (Deliver d) = d.link.receiver
place_by (Restart b) = b.place

-- the oldest letter on the link is the sender's, and the receiver may read it
pub record IsReady (d : Delivery) (h : WorldState) : Type 0 where
  pub link : IsBetween d.link (name_of d.sender) d.receiver (nodes_of h)
  pub first : IsFirstSender (name_of d.sender) d.receiver (Some d.sender) (links_of h.links)
  pub admitted : IsAdmitted d.link.receiver (delivered_by d) h

-- the older node stands at its place, and the next one may start there
pub record MayStart (b : Comeback) (h : WorldState) : Type 0 where
  pub older : place b.older (nodes_of h) ≡ Some b.place
  pub further : creation_of b.older < last_creation
  pub next : b.next ≡ b.older + 1
  pub admitted : IsAdmitted b.place (event.Restart (name_of b.older)) h

-- the event is accepted, and so it is found
abbrev pub IsFound : Admission → WorldState → Type 0
IsFound (Own p a e) h = IsAdmitted p (event.At a.now e.now) h
IsFound (Deliver d) h = IsReady d h
IsFound (Restart b) h = MayStart b h
