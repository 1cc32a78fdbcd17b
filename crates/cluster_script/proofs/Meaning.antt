-- What a name means in a line: the node of it at present.
use Rattle.std.proofs.Common.{ℕ, Bool, true, false, List, [], ◌∷◌, ◌+◌, ◌≡◌, Option, Some, None, refl, sym, ap, subst, ◌∙◌, append-nil, Result, Ok, Err, inl, inr}
use Rattle.std.specs.Prelude.{not, ◌||◌, is_none, option_map, map, if◌then◌else◌}
use Rattle.std.specs.List.{list_all}
use Rattle.std.specs.Io.KnownBytes.{Appends}
use Rattle.std.proofs.lemmas.Bool.{eq-eqb}
use Rattle.registry_model.specs.Process.{at}
use Rattle.protocol_model.specs.Event.{Event as AnyEvent, NoSuchNode, NodeLeft, cause, first_cause}
use Rattle.protocol_model.specs.NamedEvents.{At, AtNode, Restart, NamedRefusal, Plain, StillRunning, NamedLine, Play, Settle, Started}
use Rattle.protocol_model.specs.World.{WorldEvent as PlainEvent, in_world, other, left, refusal, local_causes}
use Rattle.term.specs.Nodes.{text_in}
use Rattle.cluster_world.specs.NodeNames.{NamedOpening, is_name, node_of, opening_of}
use Rattle.cluster_world.specs.NamedWorld.{NamedWorld, present_node, has_started, next_node, named_refusal, accepted_named, happens_named, untold_or_spent, first_untold}
use Rattle.cluster_world.specs.NamedScript.{outputs_of}
use Rattle.cluster_world.specs.WorldState.{WorldState}
use Rattle.cluster_world.specs.Playing.{Played}
use Rattle.cluster_world.specs.Seen.{names_of, named}
use Rattle.command_lines.specs.declared.Answer.{Answer}
use Rattle.command_lines.specs.declared.WorldEvent.{WorldEvent}
use Rattle.command_lines.specs.declared.WorldEvent.TheVariants as event
use Rattle.command_lines.specs.declared.faults.LineFault.{LineFault}
use Rattle.command_lines.specs.Grammar.{ScriptLine, Scripted, Finish}
use Rattle.command_lines.specs.Printing.{Shown, Shows, is_fine, output_line, shown_text}
use Rattle.text_lines.specs.declared.faults.WriteFault.{WriteFault}
use Rattle.text_lines.specs.Writing.{AppendsPart, Writes}
use Rattle.cluster_script.specs.Script.{Outcome, Plays, Fails, Breaks, Finishes, shown}
use Rattle.cluster_script.specs.Played.{ComesOf, PlaysOrStops, PlaysAsked, WritesOkay, node_at, okay_text}
use Rattle.cluster_script.proofs.Nodes.{stranger}

module _ (o : NamedOpening) (w : NamedWorld) (x : ℕ) (e : AnyEvent) where
  -- an event at the present node of a name comes to what it comes to at that node
  happens_there : happens_named o w (At x e) ≡ happens_named o w (AtNode (present_node o w x) e)
  happens_there = go (is_none (named_refusal o w (AtNode (present_node o w x) e)))
    where
      go : (b : Bool) → (if b then accepted_named o w (At x e) else w)
          ≡ (if b then accepted_named o w (AtNode (present_node o w x) e) else w)
      go true = refl
      go false = refl

  -- and prints the same
  shown_there : shown o w (Plays (Play (At x e))) ≡ shown o w (Plays (Play (AtNode (present_node o w x) e)))
  shown_there = go (named_refusal o w (AtNode (present_node o w x) e))
    where
      go : (r : Option NamedRefusal) → map Shows (outputs_of o w (At x e) r)
          ≡ map Shows (outputs_of o w (AtNode (present_node o w x) e) r)
      go None = refl
      go (Some r) = refl

-- so it is played where it is played at that node
module _ (old new : WorldState) (x : ℕ) (e : AnyEvent) (a b : Option (List ℕ)) where
  abbrev by_node : NamedLine
  by_node = Play (AtNode (node_at old x) e)

  abbrev by_name : NamedLine
  by_name = Play (At (text_in x) e)

  plays_there : (r : Result Bool WriteFault) → PlaysOrStops old new (Plays by_node) a b r → PlaysOrStops old new (Plays by_name) a b r
  plays_there (Err f) p =
      subst (λ (ss : List Shown). AppendsPart a b (shown_text ss)) (sym (shown_there (names_of old) (named old) (text_in x) e)) p
  plays_there (Ok fine) p = record {
    opening = p.opening;
    world = p.world ∙ sym (happens_there (names_of old) (named old) (text_in x) e);
    wrote = subst (λ (ss : List Shown). Appends a b (shown_text ss)) (sym (shown_there (names_of old) (named old) (text_in x) e))
        p.wrote;
    fine_is = p.fine_is
        ∙ ap (λ (ss : List Shown). list_all is_fine ss) (sym (shown_there (names_of old) (named old) (text_in x) e));
  }

  asked_there : (r : Result Bool WriteFault) → PlaysAsked (Ok (Scripted by_node)) old new a b r → PlaysAsked (Ok (Scripted by_name)) old new a b r
  asked_there r p = go p.0 p.1 p.2
    where
      go : (y : Outcome) → ComesOf (Ok (Scripted by_node)) y → PlaysOrStops old new y a b r → PlaysAsked (Ok (Scripted by_name)) old new a b r
      go (Plays l) c q =
          let same : l ≡ by_node = cc in
          (Plays by_name, refl, plays_there r (subst (λ (m : NamedLine). PlaysOrStops old new (Plays m) a b r) same q))
      go (Fails f) c q = elim c [
        | inl n ↦ absurd (ok_err f n)
        | inr m ↦ (Fails f, inr m, q)
      ]
        where
          ok_err : (f : LineFault) → ◌≡◌ {A = Result ScriptLine LineFault} (Ok (Scripted by_node)) (Err f) → ⊥
          ok_err f z = cc
      go (Breaks k) c q = absurd (play_settle c.0)
        where
          play_settle : ◌≡◌ {A = Result ScriptLine LineFault} (Ok (Scripted by_node)) (Ok (Scripted Settle)) → ⊥
          play_settle z = cc
      go (Finishes k) c q = absurd (play_finish c)
        where
          play_finish : ◌≡◌ {A = Result ScriptLine LineFault} (Ok (Scripted by_node)) (Ok Finish) → ⊥
          play_finish z = cc

  pub PlaysAsked-named : (n : ℕ) → n ≡ node_at old x → (r : Result Bool WriteFault)
      → PlaysAsked (Ok (Scripted (Play (AtNode n e)))) old new a b r
      → PlaysAsked (Ok (Scripted (Play (At (text_in x) e)))) old new a b r
  PlaysAsked-named n same r p =
      asked_there r (subst (λ (m : ℕ). PlaysAsked (Ok (Scripted (Play (AtNode m e)))) old new a b r) same p)

-- where there is no such name, there is no such node
pub nobody : (h : WorldState) (x : ℕ) (e : AnyEvent) → is_name (names_of h) x ≡ false
    → named_refusal (names_of h) (named h) (At x e) ≡ Some (Plain NoSuchNode)
nobody h x e k = go (has_started (names_of h) (named h) n) (has_started (names_of h) (named h) (other (PlainEvent.At n e)))
  where
    n : ℕ
    n = present_node (names_of h) (named h) x

    none : refusal (opening_of (names_of h)) (named h).world (PlainEvent.At n e) ≡ Some NoSuchNode
    none = ap (λ (b : Bool). first_cause
        (cause (not b || not (in_world (opening_of (names_of h)) (other (PlainEvent.At n e)))) NoSuchNode
        ∷ cause (left (named h).world n) NodeLeft ∷ local_causes (named h).world (PlainEvent.At n e))) (stranger h x k)

    go : (s t : Bool)
        → (if s then (if t then option_map Plain (refusal (opening_of (names_of h)) (named h).world (PlainEvent.At n e))
        else Some (Plain NoSuchNode)) else Some (Plain NoSuchNode)) ≡ Some (Plain NoSuchNode)
    go false t = refl
    go true false = refl
    go true true = ap (option_map Plain) none

-- A name came back: it is one of the world, whose node at present is the one that has started
module _ (was h : WorldState) (x : ℕ) (given : List Answer) (p : Played (event.Restart x) was h [] given) where
  came_known : is_name (names_of h) (text_in x) ≡ true
  came_known = ap (λ (o : NamedOpening). is_name o (text_in x)) p.names ∙ go (is_name (names_of was) (text_in x)) p.accepted
    where
      some_none : (r : NamedRefusal) → Some r ≡ None → ⊥
      some_none r z = cc

      go : (b : Bool) → (if not b then Some (Plain NoSuchNode)
          else (if left (named was).world (present_node (names_of was) (named was) (text_in x))
          then untold_or_spent (names_of was) (named was) (text_in x)
          (first_untold (names_of was) (named was) (present_node (names_of was) (named was) (text_in x)))
          else Some StillRunning)) ≡ None → b ≡ true
      go true e = refl
      go false e = absurd (some_none (Plain NoSuchNode) e)

  came_back : node_at h x ≡ next_node (names_of was) (named was) (text_in x)
  came_back =
      ap (λ (o : NamedOpening). node_of o (text_in x) ((named h).present (text_in x))) p.names
      ∙ ap (λ (w : NamedWorld). node_of (names_of was) (text_in x) (w.present (text_in x))) (p.happens ∙ accepted)
      ∙ ap (node_of (names_of was) (text_in x)) there
    where
      accepted : happens_named (names_of was) (named was) (Restart (text_in x))
          ≡ accepted_named (names_of was) (named was) (Restart (text_in x))
      accepted = ap (λ (r : Option NamedRefusal). if is_none r
          then accepted_named (names_of was) (named was) (Restart (text_in x)) else named was) p.accepted

      there : at (named was).present (text_in x) ((named was).present (text_in x) + 1) (text_in x)
          ≡ (named was).present (text_in x) + 1
      there = ap (λ (b : Bool). if b then (named was).present (text_in x) + 1 else (named was).present (text_in x))
          (eq-eqb (text_in x) (text_in x) refl)

  -- what is printed for it
  came_text : output_line (Started (node_at h x)) ≡ okay_text was (event.Restart x)
  came_text = ap (λ (n : ℕ). output_line (Started n)) came_back
      ∙ sym (append-nil (output_line (Started (next_node (names_of was) (named was) (text_in x)))))

-- so the line of that node is what is printed
pub WritesOkay-started : {A E : Type 0} (h : WorldState) (a b : Option (List ℕ)) (r : Result A E) (e : WorldEvent) (x : ℕ)
    → e ≡ event.Restart x
    → (is_name (names_of h) (text_in x) ≡ true → Writes a b r (output_line (Started (node_at h x)))) → WritesOkay h a b r e
WritesOkay-started {A = A} {E = E} h a b (Ok v) e x is w = λ was given p.
    let q : Played (event.Restart x) was h [] given = subst (λ (d : WorldEvent). Played d was h [] given) is p in
    subst (λ (d : WorldEvent). Appends a b (okay_text was d)) (sym is)
    (subst (λ (t : List ℕ). Appends a b t) (came_text was h x given q) (w (came_known was h x given q)))
WritesOkay-started {A = A} {E = E} h a b (Err f) e x is w = λ was given p.
    let q : Played (event.Restart x) was h [] given = subst (λ (d : WorldEvent). Played d was h [] given) is p in
    subst (λ (d : WorldEvent). AppendsPart a b (okay_text was d)) (sym is)
    (subst (λ (t : List ℕ). AppendsPart a b t) (came_text was h x given q) (w (came_known was h x given q)))
