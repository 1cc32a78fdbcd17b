-- A leave that was asked of a node in the name of its cluster.
use Rattle.std.proofs.Common.{ℕ, ◌≡◌, ◌∙◌, ap, subst}
use Rattle.std.specs.Prelude.{Result, Ok, Err, OnOk}
use Rattle.node_loop.specs.declared.LocalEvent.TheVariants.{Leave}
use Rattle.node_loop.specs.declared.replies.Effect.TheVariants.{Left}
use Rattle.node_seats.specs.declared.caller.Caller.{Caller}
use Rattle.node_seats.specs.declared.fault.SeatFault.{SeatFault}
use Rattle.node_seats.specs.Addresses.{Inbox}
use Rattle.node_seats.specs.Callers.{name_of, inbox_of, ticket_of, seen_of, task_for, Puts}
use Rattle.node_seats.specs.Replies.{IsToldTo, HasLeft}
use Rattle.node_threads.specs.Clusters.{LeftAsAsked}

pub left_as_asked : (inbox : Inbox) (caller behind : Caller) (r : Result (Unit {0}) SeatFault) → inbox_of caller ≡ inbox
    → inbox_of behind ≡ inbox_of caller → OnOk r (Puts (task_for caller Leave) caller behind) → OnOk r (IsToldTo (name_of caller) (ticket_of caller) (Ok Left) (seen_of behind))
    → OnOk r (HasLeft (name_of caller)) → OnOk r (LeftAsAsked inbox)
left_as_asked inbox caller behind (Ok u) of same put told left = record {
  caller = caller;
  behind = behind;
  of = of;
  still = same ∙ of;
  put = put;
  told = subst (λ (n : ℕ). IsToldTo n (ticket_of caller) (Ok Left) (seen_of behind)) (ap (λ (i : Inbox). i.node) of) told;
  left = subst HasLeft (ap (λ (i : Inbox). i.node) of) left;
}
left_as_asked inbox caller behind (Err fault) of same put told left = tt
