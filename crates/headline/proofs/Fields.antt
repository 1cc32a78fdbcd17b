-- Each field of the headline, from the families and the story of the events.
use mathlib.Core.Logic.{◌⊎◌}
use Rattle.std.proofs.Common.{ℕ, ◌≡◌, Some, None, List, [], ◌∷◌, ◌++◌, ap, ◌∙◌, subst}
use Rattle.std.specs.Prelude.{option_map, IsTrue, Contains, if◌then◌else◌}
use Rattle.registry_model.specs.Call.{Yes}
use Rattle.registry_model.specs.History.{Standing, standing_of, is_free, is_holding, old}
use Rattle.registry_model.specs.Legal.{IsLegal}
use Rattle.protocol_model.specs.Event.{Event, Answer, HoldsLock}
use Rattle.protocol_model.specs.World.{Opening, in_cluster, World, At}
use Rattle.protocol_model.specs.Course.{Played, seen}
use Rattle.protocol_model.specs.Headline.{standing, Shows, IsRunning, GroupShows}
use Rattle.moves.proofs.Invariants.{standing_at}
use Rattle.replicas.proofs.States
use Rattle.headline.proofs.Together.{Whole, replicas}
use Rattle.headline.proofs.Story.{Written}

module _ (o : Opening) (ps : List Played) (w : World) (W : Whole o w) (S : Written o ps w) where
  -- the history of the world is that of the events
  pub past_now : standing_at o w ≡ standing o ps
  past_now = ap (standing_of (in_cluster o)) S.history

  pub legal : IsLegal (in_cluster o) w.history
  legal = (replicas o w W.kept).legal

  pub free : (a : ℕ) → IsRunning o (standing o ps) a → IsTrue (is_free (standing o ps) a)
      → Shows (standing o ps).registry a (seen o w)
  free = subst (λ (t : Standing). (a : ℕ) → IsRunning o t a → IsTrue (is_free t a) → Shows t.registry a (seen o w))
      past_now
      (States.free o w (replicas o w W.kept))

  pub held : (a : ℕ) → IsRunning o (standing o ps) a → Shows (standing o ps).registry a (seen o w)
      ⊎ Shows (old (standing o ps) a) a (seen o w)
  held = subst (λ (t : Standing). (a : ℕ) → IsRunning o t a → Shows t.registry a (seen o w)
      ⊎ Shows (old t a) a (seen o w)) past_now
      (States.held o w (replicas o w W.kept))

  pub written : (before : List Played) (p : Played) (s : Answer) → ps ≡ before ++ p ∷ [] → Contains p.answers s
      → s.reply ≡ Yes
      → GroupShows o (standing o ps) s.node (seen o w)
  written before p s e c y = S.shown before p e s c y

  pub leave : (a : ℕ) → IsRunning o (standing o ps) a
      → (seen o w).refusal (At a Event.Leave) ≡ (if is_holding (standing o ps) a then Some HoldsLock else None)
  leave = subst (λ (t : Standing). (a : ℕ) → IsRunning o t a
      → (seen o w).refusal (At a Event.Leave) ≡ (if is_holding t a then Some HoldsLock else None)) past_now
      (States.leave o w (replicas o w W.kept))

  pub holder : (seen o w).holder ≡ option_map (λ h. h.node) (standing o ps).held
  holder = States.holder_is o w (replicas o w W.kept) ∙ ap (λ (t : Standing). option_map (λ h. h.node) t.held) past_now
