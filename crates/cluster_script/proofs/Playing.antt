-- Events that are played.
use Rattle.std.proofs.Common.{ℕ, Bool, true, false, List, [], ◌∷◌, ◌++◌, ◌≡◌, Option, Some, None, refl, sym, ap, subst, ◌∙◌, append-nil, append_assoc, Result, Ok, Err, map, inr}
use Rattle.std.specs.Prelude.{is_none, if◌then◌else◌, IfOk}
use Rattle.std.specs.List.{list_all}
use Rattle.std.specs.Io.KnownBytes.{Appends}
use Rattle.protocol_model.specs.Event.{Event as AnyEvent, Answer as AnyAnswer}
use Rattle.protocol_model.specs.NamedEvents.{NamedEvent, At, AtNode, Deliver, Restart, NamedRefusal, Play, NamedOutput, Said, Error}
use Rattle.cluster_world.specs.NodeNames.{NamedOpening}
use Rattle.cluster_world.specs.NamedWorld.{NamedWorld, named_refusal, happens_named, accepted_named, named_answers}
use Rattle.cluster_world.specs.NamedScript.{outputs_of, okay}
use Rattle.cluster_world.specs.WorldState.{WorldState}
use Rattle.cluster_world.specs.Playing.{Played}
use Rattle.cluster_world.specs.Seen.{names_of, named}
use Rattle.command_lines.specs.Events.{named_event}
use Rattle.command_lines.specs.NodeEventsSeen.{answer_of}
use Rattle.command_lines.specs.declared.Answer.{Answer}
use Rattle.command_lines.specs.declared.WorldEvent.{WorldEvent}
use Rattle.command_lines.specs.declared.faults.LineFault.{LineFault}
use Rattle.command_lines.specs.declared.faults.LineFault.TheVariants.{Memory}
use Rattle.text_lines.specs.declared.faults.WriteFault.{WriteFault}
use Rattle.text_lines.specs.Writing.{AppendsPart, Writes}
use Rattle.command_lines.specs.Grammar.{ScriptLine, Scripted}
use Rattle.command_lines.specs.Printing.{answers_text, output_line, shown_text, error_line, word_of, word_for, refusal_word, is_fine, Shown, Shows}
use Rattle.cluster_script.specs.Script.{Plays, Fails, shown}
use Rattle.cluster_script.specs.Played.{PlaysLine, PlaysAsked, okay_text, shown_on}

-- the outputs of answers
pub Said-text : (given : List AnyAnswer) → shown_text (map Shows (map Said given)) ≡ answers_text given
Said-text [] = refl
Said-text (s ∷ given) = ap (λ (t : List ℕ). output_line (Said s) ++ t) (Said-text given)

-- they are no refusals
pub Said-fine : (given : List AnyAnswer) → list_all is_fine (map Shows (map Said given)) ≡ true
Said-fine [] = refl
Said-fine (s ∷ given) = Said-fine given

-- what stands before answers is printed before them
pub behind-text : (front : List NamedOutput) (given : List AnyAnswer) → shown_text (map Shows (front ++ map Said given))
    ≡ shown_text (map Shows front) ++ answers_text given
behind-text [] given = Said-text given
behind-text (x ∷ front) given = ap (λ (t : List ℕ). output_line x ++ t) (behind-text front given)
    ∙ sym (append_assoc (output_line x) (shown_text (map Shows front)) (answers_text given))

-- the outputs of an accepted event are no refusals
pub okay-fine : (o : NamedOpening) (w : NamedWorld) (e : NamedEvent) (given : List AnyAnswer)
    → list_all is_fine (map Shows (okay o w e ++ map Said given)) ≡ true
okay-fine o w (At x e) given = own e
  where
    own : (e : AnyEvent) → list_all is_fine (map Shows (okay o w (At x e) ++ map Said given)) ≡ true
    own (AnyEvent.Calling c) = Said-fine given
    own AnyEvent.Retry = Said-fine given
    own (AnyEvent.Exiting p) = Said-fine given
    own AnyEvent.Leave = Said-fine given
okay-fine o w (AtNode n e) given = own e
  where
    own : (e : AnyEvent) → list_all is_fine (map Shows (okay o w (AtNode n e) ++ map Said given)) ≡ true
    own (AnyEvent.Calling c) = Said-fine given
    own AnyEvent.Retry = Said-fine given
    own (AnyEvent.Exiting p) = Said-fine given
    own AnyEvent.Leave = Said-fine given
okay-fine o w (Deliver f t) given = Said-fine given
okay-fine o w (Restart x) given = Said-fine given

module _ (h : WorldState) (e : NamedEvent) where
  -- what is printed for an accepted event
  pub shown-accepted : named_refusal (names_of h) (named h) e ≡ None
      → shown (names_of h) (named h) (Plays (Play e))
      ≡ map Shows (okay (names_of h) (named h) e
      ++ map Said (named_answers (names_of h) (named h) e))
  shown-accepted r =
      ap (λ (x : Option NamedRefusal). map Shows (outputs_of (names_of h) (named h) e x)) r

  -- what is printed for a refused event
  pub shown-refused : (r : NamedRefusal) → named_refusal (names_of h) (named h) e ≡ Some r
      → shown (names_of h) (named h) (Plays (Play e)) ≡ Shows (Error r) ∷ []
  shown-refused r q = ap (λ (x : Option NamedRefusal). map Shows
      (outputs_of (names_of h) (named h) e x)) q

  -- a refused event changes nothing
  pub happens-refused : (r : NamedRefusal) → named_refusal (names_of h) (named h) e ≡ Some r
      → happens_named (names_of h) (named h) e ≡ named h
  happens-refused r q =
      ap (λ (x : Option NamedRefusal). if is_none x then accepted_named (names_of h) (named h) e else named h) q

-- the text of an accepted event
pub text-accepted : (old new : WorldState) (e : WorldEvent) (given : List Answer) → Played e old new [] given
    → okay_text old e ++ answers_text (map answer_of given) ≡ shown_on old (Plays (Play (named_event e)))
text-accepted old new e given p =
    ap (λ (ss : List AnyAnswer). okay_text old e ++ answers_text ss) p.answers
    ∙ sym (behind-text (okay (names_of old) (named old) (named_event e))
    (named_answers (names_of old) (named old) (named_event e)))
    ∙ ap shown_text (sym (shown-accepted old (named_event e) p.accepted))

-- an accepted event is played
pub play-accepted : (old new : WorldState) (e : WorldEvent) (given : List Answer) (a b : Option (List ℕ))
    → Played e old new [] given
    → Appends a b (okay_text old e ++ answers_text (map answer_of given))
    → PlaysLine old new (Plays (Play (named_event e))) a b true
play-accepted old new e given a b p w = record {
  opening = p.names;
  world = p.happens;
  wrote = subst (λ (t : List ℕ). Appends a b t) (text-accepted old new e given p) w;
  fine_is = sym (ap (λ (s : List Shown). list_all is_fine s) (shown-accepted old (named_event e) p.accepted)
      ∙ okay-fine (names_of old) (named old) (named_event e) (named_answers (names_of old) (named old) (named_event e)));
}

-- the text of a refused event
pub text-refused : (old : WorldState) (e : NamedEvent) (r : NamedRefusal) → named_refusal (names_of old) (named old) e
    ≡ Some r
    → error_line (refusal_word r) ≡ shown_on old (Plays (Play e))
text-refused old e r q = sym (append-nil (error_line (refusal_word r))) ∙ ap shown_text (sym (shown-refused old e r q))

-- a refused event changes nothing
pub play-refused : (old new : WorldState) (e : NamedEvent) (r : NamedRefusal) (a b : Option (List ℕ))
    → named_refusal (names_of old) (named old) e ≡ Some r
    → names_of new ≡ names_of old → named new ≡ named old → Appends a b (error_line (refusal_word r))
    → PlaysLine old new (Plays (Play e)) a b false
play-refused old new e r a b q o n w = record {
  opening = o;
  world = n ∙ sym (happens-refused old e r q);
  wrote = subst (λ (t : List ℕ). Appends a b t) (text-refused old e r q) w;
  fine_is = sym (ap (λ (s : List Shown). list_all is_fine s) (shown-refused old e r q));
}

-- the text of a line that isn't played
pub text-fault : (h : WorldState) (f : LineFault) → error_line (word_of f) ≡ shown_on h (Fails f)
text-fault h f = sym (append-nil (error_line (word_of f)))

-- a line that isn't played changes nothing
pub play-fault : (old new : WorldState) (f : LineFault) (a b : Option (List ℕ)) → names_of new ≡ names_of old
    → named new ≡ named old → Appends a b (error_line (word_of f)) → PlaysLine old new (Fails f) a b false
play-fault old new f a b o n w = record {
  opening = o;
  world = n;
  wrote = subst (λ (t : List ℕ). Appends a b t) (text-fault old f) w;
  fine_is = refl;
}

-- memory is refused for a line, whatever it asks for
pub refused-memory : (asked : Result ScriptLine LineFault) (old new : WorldState) (a b : Option (List ℕ))
    (r : Result Bool WriteFault)
    → names_of new ≡ names_of old → named new ≡ named old → Writes a b r (error_line (word_of Memory))
    → IfOk r (λ fine. fine ≡ false) → PlaysAsked asked old new a b r
refused-memory asked old new a b (Ok fine) o n w e = (
  Fails Memory,
  inr refl,
  subst (λ (b2 : Bool). PlaysLine old new (Fails Memory) a b b2) (sym e)
      (play-fault old new Memory a b o n w),
)
refused-memory asked old new a b (Err f) o n w e =
    (Fails Memory, inr refl, subst (λ (t : List ℕ). AppendsPart a b t) (text-fault old Memory) w)

-- an event for which there is a refusal: memory is refused where the protocol has none
module _ (old new : WorldState) (e : NamedEvent) (o : names_of new ≡ names_of old) (n : named new ≡ named old) where
  pub event-refused : (r : Option NamedRefusal) → named_refusal (names_of old) (named old) e ≡ r
      → (a b : Option (List ℕ)) → Appends a b (error_line (word_for r))
      → PlaysAsked (Ok (Scripted (Play e))) old new a b (Ok false)
  event-refused None q a b w = (Fails Memory, inr refl, play-fault old new Memory a b o n w)
  event-refused (Some r) q a b w = (Plays (Play e), refl, play-refused old new e r a b q o n w)

  pub event-unwritten : (r : Option NamedRefusal) → named_refusal (names_of old) (named old) e ≡ r
      → (a b : Option (List ℕ)) → AppendsPart a b (error_line (word_for r)) → (f : WriteFault)
      → PlaysAsked (Ok (Scripted (Play e))) old new a b (Err f)
  event-unwritten None q a b w f =
      (Fails Memory, inr refl, subst (λ (t : List ℕ). AppendsPart a b t) (text-fault old Memory) w)
  event-unwritten (Some r) q a b w f =
      (Plays (Play e), refl, subst (λ (t : List ℕ). AppendsPart a b t) (text-refused old e r q) w)
