-- What the seats of consoles knew is of the books of their nodes.
use Rattle.std.proofs.Common.{ℕ, Bool, true, false, ◌==◌, ◌≡◌, Option, Some, None, Result, Ok, Err, List, [], ◌∷◌, cond, refl, sym, ap, subst, ◌∙◌, inl, inr, arith}
use Rattle.std.specs.Prelude.{All, IfOk, option_map}
use Rattle.std.specs.List.{find}
use Rattle.std.proofs.lemmas.Bool.Decides.{nat_tests}
use Rattle.std.proofs.lemmas.List.Elements.{All-cons, All-nil}
use Rattle.node_threads.specs.declared.Transcript.{Transcript}
use Rattle.node_threads.specs.Addresses.{Inbox}
use Rattle.node_threads.specs.Clusters.{Crewed, next_seats}
use Rattle.node_threads.specs.Seating.{next_place}
use Rattle.node_threads.specs.Seats.{Sitting, new_seat, first_at}
use Rattle.node_threads.specs.Wires.{Wired, IsCrew, inboxes, inbox_to}
use Rattle.node_threads.proofs.Choosing.{find_mapped}
use Rattle.console.specs.Callers.{Learns}
use Rattle.console.specs.Seats.{GoesOn}
use Rattle.server.specs.declared.served.Start.{Start}
use Rattle.server.specs.declared.served.Left.{Left}
use Rattle.server.specs.declared.served.Left.TheVariants.{Served, Unserved}
use Rattle.server.specs.declared.served.Witness.{Witness}
use Rattle.server.specs.Attending.{Place, Attends}
use Rattle.server.specs.Covering.{IsOfCrew}
use Rattle.server.specs.Served.{IsServed, AllLeave, Seats, SeatsAll, witnesses_in}
use Rattle.server.proofs.Doors.{seats_keep}

-- a seat that goes on has the book that it had
book_kept : (s t : Sitting) → Learns s.seen t.seen → t.seen.known.book ≡ s.seen.known.book
book_kept s t (inl e) = ap (λ x. x.known.book) e
book_kept s t (inr more) = more.book

pub of_some : {X : Type 0} {a b : X} → Some a ≡ Some b → a ≡ b
of_some e = cc

-- an inbox that was found for a node is that node's
pub inbox_of_node : (n : ℕ) (xs : List Inbox) (x : Inbox) → find (λ inbox. inbox.node == n) xs ≡ Some x → x.node ≡ n
inbox_of_node n [] x e = absurd (cc e)
inbox_of_node n (y ∷ ys) x e = go (y.node == n) refl e (inbox_of_node n ys x)
  where
    go : (b : Bool) → (y.node == n) ≡ b → cond b (Some y) (find (λ inbox. inbox.node == n) ys) ≡ Some x
        → (find (λ inbox. inbox.node == n) ys ≡ Some x → x.node ≡ n) → x.node ≡ n
    go true is f rest = subst (λ (z : Inbox). z.node ≡ n) (of_some f) (grind (arith, nat_tests))
    go false is f rest = rest f

-- a seat that a cluster gave out is at an inbox of its crew
module _ (c : Crewed) (node : ℕ) (seat : Sitting) (at : first_at node (next_seats c) ≡ Some seat) where
  abbrev new : Inbox → Sitting
  new = new_seat (next_place c.seating) c.world

  by_inbox : (o : Option Inbox) → inbox_to node c.crew ≡ o → option_map new o ≡ Some seat
      → (inbox : Inbox) × (inbox_to node c.crew ≡ Some inbox) × (new inbox ≡ seat)
  by_inbox None is e = absurd (cc e)
  by_inbox (Some inbox) is e = (inbox, is, cc e)

  its_inbox : (inbox : Inbox) × (inbox_to node c.crew ≡ Some inbox) × (new inbox ≡ seat)
  its_inbox = by_inbox (inbox_to node c.crew) refl (sym (find_mapped new (λ s. s.node == node) (inboxes c.crew)) ∙ at)

  seat_of_crew : (w : Witness) (last : Sitting) → w.node ≡ last.node → w.token.book ≡ last.seen.known.book → GoesOn seat last
      → IsOfCrew c.crew w
  seat_of_crew w last named book own = record {
    inbox = its_inbox.0;
    at = subst (λ (n : ℕ). inbox_to n c.crew ≡ Some its_inbox.0) (sym whose) its_inbox.1;
    book = book ∙ book_kept seat last own.learns ∙ sym (ap (λ (s : Sitting). s.seen.known.book) its_inbox.2);
  }
    where
      whose : w.node ≡ node
      whose = named ∙ own.node ∙ sym (ap (λ (s : Sitting). s.node) its_inbox.2)
          ∙ inbox_of_node node (inboxes c.crew) its_inbox.0 its_inbox.1

-- so is the seat of a console that was served
module _ (nodes : List ℕ) (input rest old new : Option (List ℕ)) (c d : Crewed) (transcript : Transcript) (w : Witness) where
  attended_of_crew : (p : Place) → Seats c p d → Attends nodes input rest old new p (Served transcript w) → IsOfCrew c.crew w
  attended_of_crew (Ok free) seats (inl a) = seat_of_crew c a.node a.sits.seat
      (subst (λ (f : List Sitting). first_at a.node f ≡ Some a.sits.seat) seats.0 a.sits.at)
      w a.sits.leaves.last a.sits.leaves.kept.1 a.sits.leaves.kept.2 a.sits.leaves.own
  attended_of_crew (Err fault) seats (inl a) = absurd a.sits
  attended_of_crew p seats (inr a) = absurd (served a.back)
    where
      served : Served transcript w ≡ Unserved p → ⊥
      served e = cc

-- and those of all consoles that were
all_of_crew : (nodes : List ℕ) (c d : Crewed) (ss : List Start) (ls : List Left) → SeatsAll nodes c ss d → AllLeave ss ls
    → All (IsOfCrew d.crew) (witnesses_in ls)
all_of_crew nodes c d [] [] S L = All-nil (IsOfCrew d.crew)
all_of_crew nodes c d [] (l ∷ ls) S L = absurd L
all_of_crew nodes c d (s ∷ ss) [] S L = absurd L
all_of_crew nodes c d (s ∷ ss) (Unserved p ∷ ls) S L = all_of_crew nodes S.1 d ss ls S.3 L.1
all_of_crew nodes c d (s ∷ ss) (Served transcript w ∷ ls) S L = All-cons (IsOfCrew d.crew) w (witnesses_in ls)
    (subst (λ (k : List Wired). IsOfCrew k w) (sym (ap (λ (k : Crewed). k.crew) (seats_keep nodes c d (s ∷ ss) S)))
    (attended_of_crew s.nodes L.0.input L.0.rest L.0.old L.0.new c S.1 transcript w s.place S.2 L.0.attends))
    (all_of_crew nodes S.1 d ss ls S.3 L.1)

pub witnessed : {V F : Type 0} (items : V → List Left) (nodes : List ℕ) (consoles : ℕ) (c d : Crewed) (served : Result V F)
    → IfOk served (λ v. IsServed nodes consoles c d (items v)) → IfOk served (λ v. All (IsOfCrew d.crew) (witnesses_in (items v)))
witnessed items nodes consoles c d (Ok v) is = all_of_crew nodes c d is.starts (items v) is.seated is.left
witnessed items nodes consoles c d (Err fault) is = tt

-- the crew of a cluster is the same behind its consoles
pub crew_served : {V F : Type 0} (items : V → List Left) (nodes cluster lone : List ℕ) (consoles : ℕ) (c d : Crewed) (served : Result V F)
    → IfOk served (λ v. IsServed nodes consoles c d (items v)) → IsCrew cluster lone c.crew → IfOk served (λ v. IsCrew cluster lone d.crew)
crew_served items nodes cluster lone consoles c d (Ok v) is crew =
    subst (IsCrew cluster lone) (sym (ap (λ (x : Crewed). x.crew) (seats_keep nodes c d is.starts is.seated))) crew
crew_served items nodes cluster lone consoles c d (Err fault) is crew = tt
