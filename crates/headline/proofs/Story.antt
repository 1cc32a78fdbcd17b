-- Of every course: what the accounts of its calls and answers rest on, and that `yes` is answered when all is written.
use Rattle.std.proofs.Common.{false, ◌≡◌, Option, None, List, [], ◌∷◌, ◌++◌, refl, ap, subst}
use Rattle.std.specs.List.{list_any}
use Rattle.std.specs.Prelude.{is_none, Contains, if◌then◌else◌}
use Rattle.registry_model.specs.Call.{Yes}
use Rattle.registry_model.specs.History.{Standing, standing_of}
use Rattle.protocol_model.specs.Event.{Answer, Refusal}
use Rattle.protocol_model.specs.World.{Opening, in_cluster, World, WorldEvent, opening_world, refusal, turn_of, accepted, run}
use Rattle.protocol_model.specs.Course.{Played, played, entries_of, course, seen}
use Rattle.protocol_model.specs.Headline.{standing, GroupShows}
use Rattle.moves.proofs.Rules.{Walked}
use Rattle.fitting.proofs.Chains.{Ground}
use Rattle.headline.proofs.Together.{Whole, replicas, owners, course_keeps, rule_whole, event_walks}
use Rattle.headline.proofs.Courses.{history_push, last_step, no_last_step}
use Rattle.headline.proofs.Turns.{begins}
use Rattle.headline.proofs.Steps.{event_written, event_begins}

-- what the accounts of calls and answers rest on
pub ground : (o : Opening) → Ground o (Whole o)
ground o = record {
  keeps = λ a w r W m. rule_whole o a w r W m;
  proper = λ w W. W.kept.proper;
  replicas = λ w W. replicas o w W.kept;
  owners = λ w W. owners o w W.kept;
  joins = λ w W. W.kept.joins;
  walks = λ w e W r. event_walks o w e W r;
}

-- the history is what the events added, and where the last step answers `yes` nothing begins to hold in it, and the
-- whole group shows the registry
pub record Written (o : Opening) (ps : List Played) (w : World) : Type 0 where
  pub history : w.history ≡ entries_of ps
  pub calm : (before : List Played) (p : Played) → ps ≡ before ++ p ∷ [] → (s : Answer) → Contains p.answers s
      → s.reply ≡ Yes
      → list_any begins p.entries ≡ false
  pub shown : (before : List Played) (p : Played) → ps ≡ before ++ p ∷ [] → (s : Answer) → Contains p.answers s
      → s.reply ≡ Yes
      → GroupShows o (standing o ps) s.node (seen o w)

module _ (o : Opening) where
  -- nothing was answered yet
  written_opens : Written o [] (opening_world o)
  written_opens = record {
    history = refl;
    calm = λ before p e. no_last_step before p e;
    shown = λ before p e. no_last_step before p e;
  }

  -- each accepted event
  written_keeps : (ps : List Played) (w : World) (e : WorldEvent) → Written o ps w → Whole o w
      → Whole o (accepted o w e)
      → refusal o w e ≡ None → Walked o w e → Written o (ps ++ played o w e ∷ []) (accepted o w e)
  written_keeps ps w e S W V r H = record {
    history = history;
    calm = last_step (λ before q. (s : Answer) → Contains q.answers s → s.reply ≡ Yes
        → list_any begins q.entries ≡ false) ps p
        (λ s c y. event_begins o w e W V H s (subst (λ (ss : List Answer). Contains ss s) given c) y);
    shown = last_step (λ before q. (s : Answer) → Contains q.answers s → s.reply ≡ Yes
        → GroupShows o (standing o (ps ++ p ∷ [])) s.node (seen o (accepted o w e))) ps p last;
  }
    where
      p : Played
      p = played o w e

      history : (accepted o w e).history ≡ entries_of (ps ++ p ∷ [])
      history = history_push o ps w e S.history

      given : p.answers ≡ (turn_of o w e).answers
      given = ap (λ (x : Option Refusal). if is_none x then (turn_of o w e).answers else []) r

      last : (s : Answer) → Contains p.answers s → s.reply ≡ Yes
          → GroupShows o (standing o (ps ++ p ∷ [])) s.node (seen o (accepted o w e))
      last s c y = subst (λ (t : Standing). GroupShows o t s.node (seen o (accepted o w e)))
          (ap (standing_of (in_cluster o)) history)
          (event_written o w e W V H s (subst (λ (ss : List Answer). Contains ss s) given c) y)

  -- so it stands after every list of events
  pub written : (es : List WorldEvent) → Written o (course o (opening_world o) es) (run o (opening_world o) es)
  written es = course_keeps o (Written o) written_keeps written_opens es
