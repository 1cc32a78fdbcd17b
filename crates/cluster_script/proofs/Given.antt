-- What is answered in the events of a world of named nodes, in pieces.
use Rattle.std.proofs.Common.{List, [], ◌∷◌, ◌++◌, ◌≡◌, sym, ap, ◌∙◌, append-nil, append_assoc}
use Rattle.protocol_model.specs.Event.{Answer}
use Rattle.protocol_model.specs.World.{World, all_answers}
use Rattle.protocol_model.proofs.Courses.{answers-append}
use Rattle.cluster_world.specs.NodeNames.{NamedOpening, opening_of}
use Rattle.cluster_world.specs.NamedWorld.{NamedWorld, NamedEvent, plain_accepted, plain_events, happens_named, named_answers, run_named}
use Rattle.cluster_world.proofs.NamedRuns.{happens-plain}
use Rattle.cluster_script.specs.Script.{given_in}

module _ (o : NamedOpening) where
  -- what the first event is answered, and then what the others are
  pub given-next : (w : NamedWorld) (e : NamedEvent) (es : List NamedEvent)
      → given_in o w (e ∷ es) ≡ named_answers o w e ++ given_in o (happens_named o w e) es
  given-next w e es =
      answers-append (opening_of o) w.world (plain_accepted o w e) (plain_events o (happens_named o w e) es)
      ∙ ap (λ (v : World). named_answers o w e ++ all_answers (opening_of o) v (plain_events o (happens_named o w e) es))
      (sym (happens-plain o w e))

  -- and one event behind others
  pub given-push : (w : NamedWorld) (es : List NamedEvent) (e : NamedEvent)
      → given_in o w (es ++ e ∷ []) ≡ given_in o w es ++ named_answers o (run_named o w es) e
  given-push w [] e = given-next w e [] ∙ append-nil (named_answers o w e)
  given-push w (d ∷ es) e =
      given-next w d (es ++ e ∷ [])
      ∙ ap (λ (l : List Answer). named_answers o w d ++ l) (given-push (happens_named o w d) es e)
      ∙ sym (append_assoc (named_answers o w d) (given_in o (happens_named o w d) es)
      (named_answers o (run_named o w (d ∷ es)) e))
      ∙ ap (λ (l : List Answer). l ++ named_answers o (run_named o w (d ∷ es)) e) (sym (given-next w d es))
