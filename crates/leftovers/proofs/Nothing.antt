-- Nothing is left over.
use Rattle.leftovers.proofs.Deaths.{deaths_are_known}
use Rattle.leftovers.proofs.LocksTold.{held_locks_stand, locks_are_as_told, no_empty_grants, nobody_keeps_the_global_lock, dead_holders_hold_nothing, free_locks_are_granted}
use Rattle.leftovers.proofs.Names.{departures_are_told, no_name_on_a_departed_node, dead_owners_own_nothing}
use Rattle.leftovers.proofs.Carried.{deaths_are_carried_out, known_dead_own_nothing}
use Rattle.leftovers.proofs.WhenFree.{deaths_are_carried_out_when_free}
use Rattle.headline.specs.Worlds.{OfNodes}
use Rattle.leftovers.specs.Leftovers.{NothingIsLeft}

pub nothing_is_left : OfNodes NothingIsLeft
nothing_is_left o es = record {
  stand = held_locks_stand o es;
  locks = locks_are_as_told o es;
  grants = no_empty_grants o es;
  global = nobody_keeps_the_global_lock o es;
  holders = dead_holders_hold_nothing o es;
  free = free_locks_are_granted o es;
  known = deaths_are_known o es;
  carried_out = deaths_are_carried_out o es;
  when_free = deaths_are_carried_out_when_free o es;
  departures = departures_are_told o es;
  departed = no_name_on_a_departed_node o es;
  owners = dead_owners_own_nothing o es;
  dead_owners = known_dead_own_nothing o es;
}
