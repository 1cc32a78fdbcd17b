-- What lines print by names.
use Rattle.std.proofs.Common.{ℕ, Bool, true, false, ◌≡◌, ◌*◌, List, [], ◌∷◌, refl, ap, ◌∙◌}
use Rattle.std.specs.Prelude.{not, if◌then◌else◌}
use Rattle.registry_model.specs.Process.{nodes_of}
use Rattle.registry_model.proofs.NodeLists.{are_nodes_below}
use Rattle.protocol_model.specs.Event.{Event, NoSuchNode, NodeLeft}
use Rattle.protocol_model.specs.World.{left}
use Rattle.creations.specs.NodeNames.{NamedOpening, span, is_name}
use Rattle.creations.specs.NamedWorld.{NamedWorld, NamedEvent, At, AtNode, Deliver, Restart, Plain, present_node, after_events}
use Rattle.creations.specs.NamedScript.{NamedOutput, Error, TableIs, MembersAre, okay_event, okay, outputs_of, shown_at}
use Rattle.named_events.specs.Printing.{BeginsAtNode, Exits, Leaves, Calls, Retries, Begins, ByName, ByNode, Delivers, Starts, node_at, Looks, PrintsByName, PrintingByName}

module _ (o : NamedOpening) (w : NamedWorld) where
  begins_at_node : (e : Event) → BeginsAtNode e (okay_event o e)
  begins_at_node (Event.Calling c) = Calls c
  begins_at_node Event.Retry = Retries
  begins_at_node (Event.Exiting p) = Exits p
  begins_at_node Event.Leave = Leaves

  begins : (e : NamedEvent) → Begins o w e (okay o w e)
  begins (At x e) = ByName x e (okay_event o e) (begins_at_node e)
  begins (AtNode n e) = ByNode n e (okay_event o e) (begins_at_node e)
  begins (Deliver x y) = Delivers x y
  begins (Restart x) = Starts x

  -- what a look prints, by what is tested
  abbrev by_tests : NamedOutput → Bool → Bool → List NamedOutput
  by_tests shown b c = (if not b then Error (Plain NoSuchNode) else (if c then Error (Plain NodeLeft) else shown)) ∷ []

  looks : (x : ℕ) (shown : NamedOutput) → Looks o w x (shown_at o w x shown ∷ []) (shown ∷ [])
  looks x shown = record {
    unknown = λ e. ap (λ (b : Bool). by_tests shown b (left w.world (present_node o w x))) e;
    gone = λ e f. by true true e f;
    there = λ e f. by true false e f;
  }
    where
      by : (b c : Bool) → is_name o x ≡ b → left w.world (present_node o w x) ≡ c → shown_at o w x shown ∷ [] ≡ by_tests shown b c
      by b c e f = ap (λ (d : Bool). by_tests shown d (left w.world (present_node o w x))) e ∙ ap (by_tests shown b) f

  prints : PrintsByName o w
  prints = record {
    accepted = λ e es r. (okay o w e, begins e, ap (outputs_of o w e) r);
    refused = λ e es why r. ap (outputs_of o w e) r;
    table = λ x es. looks x (TableIs (node_at o w x).replica.table);
    members = λ x es. (
      nodes_of (o.bound * span o) (node_at o w x).replica.members,
      are_nodes_below (o.bound * span o) (node_at o w x).replica.members,
      looks x (MembersAre (nodes_of (o.bound * span o) (node_at o w x).replica.members)),
    );
    nothing = λ most. refl;
    lines = λ most l ls. refl;
    plays = λ most e. refl;
    looks = λ most x. (refl, refl);
  }

pub printing_is_by_name : PrintingByName
printing_is_by_name o es = prints o (after_events o es)
