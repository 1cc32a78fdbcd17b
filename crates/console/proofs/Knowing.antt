-- A seat that answers is the same seat still, and knows of no fewer moments of its node.
use Rattle.std.proofs.Common.{ℕ, Bool, ◌≡◌, Option, Result, Ok, Err, refl, sym, ap, subst, ◌∙◌, inl, inr, arith}
use Rattle.command_lines.specs.declared.Reply.{Reply}
use Rattle.command_lines.specs.declared.LocalEvent.{LocalEvent}
use Rattle.command_lines.specs.declared.LocalEvent.TheVariants as event
use base.Growing.{prefix_trans}
use Rattle.registry_model.specs.Process.{Process, Text}
use Rattle.node_seats.specs.declared.fault.SeatFault.{SeatFault}
use Rattle.node_seats.specs.declared.fault.SeatFault.TheVariants as fault
use Rattle.node_seats.specs.Readers.{Seen, Reads}
use Rattle.node_seats.specs.Callers.{Learns}
use Rattle.node_seats.specs.Seats.{Sitting, IsRefused, IsToldFault, LooksUp, Looked, Unanswered}
use Rattle.console.specs.declared.orders.Order.{Order}
use Rattle.console.specs.declared.orders.Order.TheVariants.{Call, Whereis, Exit, Leave, Wait}
use Rattle.console.specs.Seats.{GoesOn, SeatAnswers}

pub goes_nowhere : (s : Sitting) → GoesOn s s
goes_nowhere s = record { node = refl; learns = inl refl }

learns_on : (s t u : Seen) → Learns s t → Learns t u → Learns s u
learns_on s t u (inl e) M = subst (λ (x : Seen). Learns x u) e M
learns_on s t u (inr L) (inl e) = subst (λ (x : Seen). Learns s x) (sym e) (inr L)
learns_on s t u (inr L) (inr M) = inr (record {
  book = M.book ∙ L.book;
  later = prefix_trans s.known.log t.known.log u.known.log L.later M.later;
  rises = omega (arith, L.rises, M.rises);
})

pub goes_further : (s t u : Sitting) → GoesOn s t → GoesOn t u → GoesOn s u
goes_further s t u G H = record { node = H.node ∙ G.node; learns = learns_on s.seen t.seen u.seen G.learns H.learns }

stays : (s t : Sitting) → t ≡ s → GoesOn s t
stays s t e = record { node = ap (λ (x : Sitting). x.node) e; learns = inl (ap (λ (x : Sitting). x.seen) e) }

learns_more : (node : ℕ) (s t : Seen) → Reads node s t → Learns s t
learns_more node s t R = inr (record { book = R.book; later = R.later; rises = R.rises })

looked : (r : Result (Option Process) SeatFault) (node : ℕ) (x : Text) (s t : Seen) → Looked r node x s t → Learns s t
looked (Ok owner) node x s t h = learns_more node s t h.0
looked (Err fault.NodeLeft) node x s t h = learns_more node s t h.0
looked (Err fault.Closed) node x s t h = inl h
looked (Err fault.NoSuchNode) node x s t h = absurd h
looked (Err fault.SeatsSpent) node x s t h = absurd h
looked (Err (fault.Step why)) node x s t h = absurd h
looked (Err fault.Memory) node x s t h = absurd h

looks : (x : Text) (r : Result (Option Process) SeatFault) (s t : Sitting) → LooksUp x r s t → GoesOn s t
looks x r s t L = record {
  node = ap (λ (y : Sitting). y.node) L.kept;
  learns = looked r s.node x s.seen t.seen L.finds;
}

told_fault : (s : Sitting) (f : SeatFault) (t : Sitting) → IsToldFault s f t → Learns s.seen t.seen
told_fault s (fault.Step why) t h = h.learns
told_fault s fault.NoSuchNode t h = h
told_fault s fault.NodeLeft t h = h
told_fault s fault.Closed t h = h
told_fault s fault.SeatsSpent t h = h
told_fault s fault.Memory t h = h

refused : (f : SeatFault) (e : LocalEvent) (s t : Sitting) → IsRefused f e s t → GoesOn s t
refused f e s t R = record { node = ap (λ (y : Sitting). y.node) R.kept; learns = told_fault s f t R.told }

-- a list for whose copy there was no memory was told all the same
uncopied : (e : LocalEvent) (s t : Sitting) → Unanswered fault.Memory e s t → GoesOn s t
uncopied e s t (inl h) = stays s t h.0
uncopied (event.Call call) s t (inr K) = record { node = ap (λ (y : Sitting). y.node) K.kept; learns = K.told.learns }
uncopied (event.Exit p) s t (inr K) = absurd K
uncopied event.Leave s t (inr K) = absurd K
uncopied event.Retry s t (inr K) = absurd K

unanswered : (f : SeatFault) (e : LocalEvent) (s t : Sitting) → Unanswered f e s t → GoesOn s t
unanswered fault.Memory e s t h = uncopied e s t h
unanswered fault.SeatsSpent e s t h = absurd h
unanswered (fault.Step why) e s t h = refused (fault.Step why) e s t h
unanswered fault.NoSuchNode e s t h = refused fault.NoSuchNode e s t h
unanswered fault.NodeLeft e s t h = refused fault.NodeLeft e s t h
unanswered fault.Closed e s t h = refused fault.Closed e s t h

pub answers_on : (s : Sitting) (o : Order) (linked : Bool) (r : Result Reply SeatFault) (t : Sitting) → SeatAnswers s o linked r t → GoesOn s t
answers_on s (Call c) linked (Ok r) t A = record { node = ap (λ (y : Sitting). y.node) A.kept; learns = A.told.learns }
answers_on s (Call c) linked (Err f) t h = unanswered f (event.Call c) s t h
answers_on s (Whereis x) linked (Ok r) t h = looks x (Ok h.0) s t h.2
answers_on s (Whereis x) linked (Err f) t h = looks x (Err f) s t h
answers_on s (Exit p) linked (Ok r) t h = record { node = ap (λ (y : Sitting). y.node) h.1.kept; learns = h.1.told.learns }
answers_on s (Exit p) linked (Err f) t h = unanswered f (event.Exit p) s t h
answers_on s Leave linked (Ok r) t h = record { node = ap (λ (y : Sitting). y.node) h.1.kept; learns = h.1.told.learns }
answers_on s Leave linked (Err f) t h = unanswered f event.Leave s t h
answers_on s (Wait a) linked (Ok r) t h = absurd h
answers_on s (Wait a) linked (Err f) t h = stays s t h.1
