-- A delivery in a log names nodes, and a world plays it by their names: it is one event of the world.
use Rattle.std.proofs.Common.{ℕ, ◌≡◌, None, List, [], ◌∷◌, ◌++◌, map, ap, subst, ◌∙◌}
use Rattle.protocol_model.specs.NamedEvents.{NamedEvent, Deliver as DeliverByName}
use Rattle.term.specs.Nodes.{name_of, text_in}
use Rattle.term.proofs.Numbers.{text_in-first_node}
use Rattle.cluster_world.specs.WorldState.{WorldState}
use Rattle.cluster_world.specs.NamedWorld.{as_events, named_refusal, happens_named, named_answers}
use Rattle.cluster_world.specs.Agreeing.{Agrees, AgreesAfter, Adds}
use Rattle.cluster_world.specs.Locks.{LocksAfter}
use Rattle.cluster_world.specs.Playing.{Played, RefusedWith}
use Rattle.cluster_world.specs.Refusals.{refusal_of}
use Rattle.cluster_world.specs.Seen.{names_of, opening_of, seen, named}
use Rattle.cluster_world.specs.declared.Refusal.{Refusal}
use Rattle.node_log.specs.NodeEventsSeen.{answer_of}
use Rattle.node_log.specs.declared.Answer.{Answer}
use Rattle.node_log.specs.declared.WorldEvent.{WorldEvent}
use Rattle.node_log.specs.declared.WorldEvent.TheVariants.{Deliver}
use Rattle.node_log.specs.Events.{named_event}
use Rattle.replay.specs.Moves.{LocksBehind}

-- a node has the text of its name
text_of : (n x : ℕ) → x ≡ name_of n → text_in x ≡ text_in n
text_of n x e = ap text_in e ∙ text_in-first_node (text_in n)

pub same_delivery : (f t x y : ℕ) → x ≡ name_of f → y ≡ name_of t → named_event (Deliver x y) ≡ named_event (Deliver f t)
same_delivery f t x y e g = ap (λ (a : ℕ). DeliverByName a (text_in y)) (text_of f x e)
    ∙ ap (λ (b : ℕ). DeliverByName (text_in f) b) (text_of t y g)

-- what is said of one event of a world is said of the other that is the same there
module _ (d e : WorldEvent) (same : named_event d ≡ named_event e) (old new : WorldState) where
  pub agrees_same : (given : List Answer) → Agrees (d ∷ []) given old new → Agrees (e ∷ []) given old new
  agrees_same given A before run = subst (λ (x : NamedEvent). AgreesAfter (before ++ x ∷ []) new
      × Adds (names_of old) before (x ∷ []) given) same (A before run)

  pub locks_same : LocksBehind d old new → LocksBehind e old new
  locks_same L before run = subst (λ (x : NamedEvent). LocksAfter (opening_of new) (as_events (names_of new) (before ++ x ∷ [])) (seen new))
      same (L before run)

  pub played_same : (given now : List Answer) → Played d old new given now → Played e old new given now
  played_same given now P = record {
    names = P.names;
    cluster = P.cluster;
    accepted = subst (λ (x : NamedEvent). named_refusal (names_of old) (named old) x ≡ None) same P.accepted;
    happens = subst (λ (x : NamedEvent). named new ≡ happens_named (names_of old) (named old) x) same P.happens;
    answers = subst (λ (x : NamedEvent). map answer_of now ≡ map answer_of given ++ named_answers (names_of old) (named old) x) same P.answers;
  }

  pub refused_same : (r : Refusal) → RefusedWith r d old → RefusedWith r e old
  refused_same r R = subst (λ (x : NamedEvent). named_refusal (names_of old) (named old) x ≡ refusal_of r) same R
