-- The headline, where events are played in pieces.
use Rattle.std.proofs.Common.{◌≡◌, List, [], ◌∷◌, ◌++◌, map, refl, sym, ap, ◌∙◌, subst}
use Rattle.std.proofs.lemmas.List.{append-nil}
use Rattle.std.proofs.lemmas.List.Sums.{fold-append}
use Rattle.protocol_model.proofs.Courses.{answers-append, course_answers}
use Rattle.protocol_model.specs.Course.{answers_of}
use Rattle.protocol_model.specs.Event.{Answer as AnyAnswer}
use Rattle.protocol_model.specs.World.{Opening, World, WorldEvent as AnyWorldEvent, opening_world, all_answers}
use Rattle.getting_through.specs.NodeNames.{NamedOpening, opening_of as all_creations}
use Rattle.getting_through.specs.NamedWorld.{NamedWorld, NamedEvent, opening_named, plain_accepted, plain_events, happens_named, named_answers, run_named, after_events, as_events}
use Rattle.getting_through.specs.Lifted.{events_played}
use Rattle.getting_through.proofs.NamedRuns.{happens-plain, named_runs_are_runs, plain_events-append}
use Rattle.getting_through.proofs.Lifting.{agreement}
use Rattle.node_core.specs.declared.Answer.{Answer}
use Rattle.node_core.specs.NodeEventsSeen.{answer_of}
use Rattle.world_events.specs.declared.events.WorldEvent.{WorldEvent}
use Rattle.world_events.specs.Events.{named_event}
use Rattle.cluster_world.specs.WorldState.{WorldState}
use Rattle.cluster_world.specs.Seen.{names_of, opening_of, named}
use Rattle.cluster_world.specs.Playing.{Keeps, Played, events_of, answers_to_all}
use Rattle.cluster_world.specs.Agreeing.{HeadlineAfter, IsRunOf, AgreesAfter, Agrees}

-- what is answered to events is what is answered to what they are in the world
pub answers_are : (o : NamedOpening) (w : NamedWorld) (es : List NamedEvent)
    → all_answers (all_creations o) w.world (plain_events o w es) ≡ answers_to_all o w es
answers_are o w [] = refl
answers_are o w (e ∷ es) =
    answers-append (all_creations o) w.world (plain_accepted o w e) (plain_events o (happens_named o w e) es)
    ∙ ap (λ (v : World). named_answers o w e ++ all_answers (all_creations o) v (plain_events o (happens_named o w e) es))
    (sym (happens-plain o w e))
    ∙ ap (λ (l : List AnyAnswer). named_answers o w e ++ l) (answers_are o (happens_named o w e) es)

-- the headline holds behind the events that made a world
pub agreed : (es : List NamedEvent) (h : WorldState) → IsRunOf es h → AgreesAfter es h
agreed es h is = record {
  is_run = is;
  headline = subst (λ (w : NamedWorld). HeadlineAfter (opening_of h) (as_events (names_of h) es) w.world) (sym is)
      (agreement (names_of h) es);
}

-- what was run behind them agrees
pub agrees : (es : List WorldEvent) (given : List Answer) (old new : WorldState) → Keeps old new
    → named new ≡ run_named (names_of old) (named old) (events_of es)
    → map answer_of given ≡ answers_to_all (names_of old) (named old) (events_of es) → Agrees es given old new
agrees es given old new K world said before is = (
  agreed (before ++ now) new (world ∙ ap (λ (w : NamedWorld). run_named o w now) is
      ∙ sym (fold-append (happens_named o) (opening_named o) before now)
      ∙ ap (λ (p : NamedOpening). after_events p (before ++ now)) (sym K.names)),
  course_answers O (opening_world O) (as_events o (before ++ now))
      ∙ ap (all_answers O (opening_world O)) (plain_events-append o (opening_named o) before now)
      ∙ answers-append O (opening_world O) (as_events o before) later
      ∙ ap (λ (w : World). all_answers O (opening_world O) (as_events o before) ++ all_answers O w later)
      (sym (named_runs_are_runs o before))
      ∙ ap (λ (l : List AnyAnswer). all_answers O (opening_world O) (as_events o before) ++ l)
      (answers_are o (after_events o before) now)
      ∙ ap (λ (l : List AnyAnswer). l ++ answers_to_all o (after_events o before) now)
      (sym (course_answers O (opening_world O) (as_events o before)))
      ∙ ap (λ (l : List AnyAnswer). answers_of (events_played o before) ++ l)
      (ap (λ (w : NamedWorld). answers_to_all o w now) (sym is) ∙ sym said),
)
  where
    o : NamedOpening
    o = names_of old

    O : Opening
    O = all_creations o

    now : List NamedEvent
    now = events_of es

    later : List AnyWorldEvent
    later = plain_events o (after_events o before) now

-- an event that was played
pub agrees_played : (e : WorldEvent) (old new : WorldState) (now : List Answer) → Played e old new [] now
    → Agrees (e ∷ []) now old new
agrees_played e old new now P = agrees (e ∷ []) now old new (record { names = P.names; cluster = P.cluster }) P.happens
    (P.answers ∙ sym (append-nil (named_answers (names_of old) (named old) (named_event e))))

-- nothing was played
pub agrees_unchanged : (old new : WorldState) → Keeps old new → named new ≡ named old → Agrees [] [] old new
agrees_unchanged old new K same = agrees [] [] old new K same refl
