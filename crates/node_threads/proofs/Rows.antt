-- The nodes that run, and the seats at them.
use Rattle.std.proofs.Common.{ℕ, true, false, ◌==◌, ◌≡◌, Option, Some, None, List, [], map, get_or, set, sym, ap, subst, ◌∙◌, arith}
use Rattle.std.specs.Prelude.{option_map, Result, Ok, Err, OnOk}
use Rattle.std.specs.List.{position}
use Rattle.std.proofs.lemmas.List.{get_or-map, length-map, set-get_or}
use Rattle.term.specs.NodeSets.{set_of}
use Rattle.term.proofs.NodePlaces.{place-Some}
use Rattle.link.specs.MeshState.{place}
use Rattle.replay.proofs.Listed.{known_place, no_place}
use Rattle.node_seats.specs.declared.caller.Caller.{Caller}
use Rattle.node_seats.specs.declared.place.Place.{Place}
use Rattle.node_seats.specs.Addresses.{Inbox}
use Rattle.node_seats.specs.Callers.{place_of, inbox_of, nodes_of, asked_by, seen_of}
use Rattle.node_seats.specs.Readers.{unseen}
use Rattle.node_seats.specs.Seats.{sitting, new_seat, first_at}
use Rattle.node_seats.proofs.Choosing.{find_mapped, first_becomes}
use Rattle.node_threads.specs.Clusters.{Crewed, nodes_in, next_seats}
use Rattle.node_threads.specs.Seating.{next_place}
use Rattle.node_threads.specs.Wires.{Wired, name_of, inboxes, inbox_to, IsCrew}
use Rattle.node_threads.proofs.Places.{place_mapped}

-- those that run are the nodes of the cluster
module _ (c : ℕ) (row running : List Wired) (inside crew : Crewed) (p : Option ℕ) (first : p ≡ position (λ w. name_of w == c) row) (same : row ≡ running) (is : IsCrew inside.cluster inside.lone running) (view : inside ≡ crew) where
  found : p ≡ place c (map name_of row)
  found = first ∙ place_mapped name_of c row

  crew_is : set_of (nodes_in crew) c ≡ set_of (map name_of row) c
  crew_is = ap (λ (k : Crewed). set_of (nodes_in k) c) (sym view)
      ∙ ap (λ (ns : List ℕ). set_of ns c) (sym (ap (map name_of) same ∙ is.names))

  pub crew_known : (i : ℕ) → p ≡ Some i → set_of (nodes_in crew) c ≡ true
  crew_known i at = crew_is ∙ known_place (map name_of row) c i (sym found ∙ at)

  pub crew_unknown : p ≡ None → set_of (nodes_in crew) c ≡ false
  crew_unknown at = crew_is ∙ no_place (map name_of row) c (sym found ∙ at)

  pub stands : (i : ℕ) (d : Wired) → p ≡ Some i → name_of (get_or running i d) ≡ c
  stands i d at =
      let here = place-Some c (map name_of row) i (sym found ∙ at) in
      ap (λ (ws : List Wired). name_of (get_or ws i d)) (sym same)
      ∙ sym (get_or-map name_of row i d 0 (omega (arith, here.0, length-map row name_of))) ∙ here.1

-- what was read at a place may be written there
pub crew_kept : (cluster lone : List ℕ) (ws : List Wired) (i : ℕ) (m n : Wired) → m ≡ get_or ws i m → n ≡ m → IsCrew cluster lone ws
    → IsCrew cluster lone (set ws i n)
crew_kept cluster lone ws i m n read is crew =
    subst (IsCrew cluster lone) (sym (ap (set ws i) (is ∙ read) ∙ set-get_or ws i m)) crew

-- the seat that a caller becomes which asked for nothing and read nothing yet
pub new_sitting : (caller : Caller) (place : Place) (nodes : List ℕ) (inbox : Inbox) → place_of caller ≡ place → inbox_of caller ≡ inbox
    → nodes_of caller ≡ nodes → asked_by caller ≡ [] → seen_of caller ≡ unseen inbox.book → sitting caller [] ≡ new_seat place nodes inbox
new_sitting caller place nodes inbox at into world asked seen = λ j. record {
  seat = (at j).seat;
  slot = (at j).slot;
  node = (into j).node;
  room = (into j).room;
  nodes = world j;
  asked = asked j;
  seen = seen j;
  granted = None;
  entries = [];
}

-- the node was found among those that run
module _ (n : ℕ) (inside crew : Crewed) (i : ℕ) (at : position (λ w. name_of w == n) inside.crew ≡ Some i) (view : inside ≡ crew) (m : Wired) (is : m ≡ get_or inside.crew i m) where
  there : inbox_to n inside.crew ≡ Some m.inbox
  there = first_becomes (λ (w : Wired). w.inbox) (λ inbox. inbox.node == n) inside.crew i m at is

  -- its inbox
  pub inbox_is : inbox_to n crew.crew ≡ Some m.inbox
  inbox_is = ap (λ (k : Crewed). inbox_to n k.crew) (sym view) ∙ there

  -- what its caller becomes is the next seat there
  pub seat_is : (caller : Caller) → place_of caller ≡ next_place inside.seating → inbox_of caller ≡ m.inbox
      → nodes_of caller ≡ inside.world → asked_by caller ≡ [] → seen_of caller ≡ unseen m.inbox.book → first_at n (next_seats crew) ≡ Some (sitting caller [])
  seat_is caller place inbox nodes asked seen = ap (λ (k : Crewed). first_at n (next_seats k)) (sym view)
      ∙ find_mapped (new_seat (next_place inside.seating) inside.world) (λ s. s.node == n) (inboxes inside.crew)
      ∙ ap (option_map (new_seat (next_place inside.seating) inside.world)) there
      ∙ ap Some (sym (new_sitting caller (next_place inside.seating) inside.world m.inbox place inbox nodes asked seen))

-- where it succeeded, so does what follows of that
pub on_ok : {A E : Type 0} (r : Result A E) (P Q : Type 0) → (P → Q) → OnOk r P → OnOk r Q
on_ok (Ok a) P Q f h = f h
on_ok (Err e) P Q f h = h
