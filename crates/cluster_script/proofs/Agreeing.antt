-- The headline holds behind the lines of a script, and nothing is left over there.
use Rattle.std.proofs.Common.{◌≡◌, List, [], ◌∷◌, refl, sym, ◌∙◌, subst}
use Rattle.std.proofs.lemmas.List.Sums.{fold-append}
use Rattle.cluster_world.specs.NodeNames.{NamedOpening, opening_of}
use Rattle.cluster_world.specs.NamedWorld.{NamedWorld, NamedEvent, opening_named, happens_named, run_named, as_events}
use Rattle.cluster_world.specs.Agreeing.{HeadlineAfter}
use Rattle.cluster_world.proofs.Lifting.{agreement}
use Rattle.cluster_world.proofs.LeftOfNames.{nothing_is_left}
use Rattle.cluster_script.specs.Script.{Outcome, behind, behind_all, events_by, events_by_all, LinesAgree, LinesLeaveNothing}
use Rattle.cluster_world.specs.LeftoversOfWorlds.{NothingIsLeft}
use Rattle.cluster_world.specs.WorldsOfNames.{of_names}

module _ (o : NamedOpening) where
  -- the world behind lines is what their events make
  behind_all_run : (w : NamedWorld) (outcomes : List Outcome) → behind_all o w outcomes ≡ run_named o w (events_by_all o w outcomes)
  behind_all_run w [] = refl
  behind_all_run w (x ∷ outcomes) =
      behind_all_run (behind o w x) outcomes
      ∙ sym (fold-append (happens_named o) w (events_by o w x) (events_by_all o (behind o w x) outcomes))

  -- the events of lines, played on a world as it opens
  abbrev events : List Outcome → List NamedEvent
  events outcomes = events_by_all o (opening_named o) outcomes

  -- the headline holds behind them
  pub lines_agree : (outcomes : List Outcome) → LinesAgree o outcomes
  lines_agree outcomes = subst (λ (w : NamedWorld). HeadlineAfter (opening_of o) (as_events o (events outcomes)) w.world)
      (sym (behind_all_run (opening_named o) outcomes)) (agreement o (events outcomes))

  -- nothing is left over there
  pub lines_leave_nothing : (outcomes : List Outcome) → LinesLeaveNothing o outcomes
  lines_leave_nothing outcomes = subst (λ (w : NamedWorld). NothingIsLeft (of_names o) (events outcomes) w)
      (sym (behind_all_run (opening_named o) outcomes)) (nothing_is_left o (events outcomes))
