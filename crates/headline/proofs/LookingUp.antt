-- A look-up is answered from the table that its node shows.
use Rattle.std.proofs.Common.{ℕ, Bool, true, false, ◌≡◌, None, [], ◌∷◌, refl, sym, ap, ◌∙◌}
use Rattle.std.specs.Prelude.{not, ◌||◌, filter}
use Rattle.registry_model.specs.Call.{Look, seen_in}
use Rattle.registry_model.specs.History.{Standing}
use Rattle.protocol_model.specs.Event.{Call, Event, NoSuchNode, NodeLeft, NoSuchProcess, cause, first_cause, look_causes}
use Rattle.protocol_model.specs.World.{Opening, in_world, World, left, At, refusal, answers}
use Rattle.protocol_model.specs.Answers.{answer_to, is_unnumbered}
use Rattle.protocol_model.specs.Refusals.{MayLookUp, OfName, OfNames, OfNotices}
use Rattle.moves.proofs.Invariants.{IsUp, standing_at}
use Rattle.fitting.proofs.Rests.{Rested, looked-answers}
use Rattle.fitting.proofs.Replies.{answers_given}
use Rattle.fitting.proofs.Theorem
use Rattle.headline.specs.Clauses.{events, world, so_far, LookUpsReadTheTable}
use Rattle.headline.proofs.NextSerial.{spawned}
use Rattle.headline.proofs.Refusals.{seen_issued}
use Rattle.headline.proofs.Together.{Whole, whole_opens, replicas, run_whole}
use Rattle.headline.proofs.Story.{ground, written}
use Rattle.headline.proofs.Fields.{past_now}

-- a running node takes a look-up that nothing speaks against
takes_look_up : (o : Opening) (w : World) (a : ℕ) (look : Look) → IsUp o w a
    → first_cause (look_causes a (w.node a) look) ≡ None
    → refusal o w (At a (Event.Calling (Call.LookUp look))) ≡ None
takes_look_up o w a look up none = go (in_world o a) (left w a) up.0 up.1
  where
    go : (b c : Bool) → b ≡ true → c ≡ false → first_cause
        (cause (not b || not b) NoSuchNode ∷ cause c NodeLeft ∷ look_causes a (w.node a) look) ≡ None
    go true false e f = none
    go true true e f = cc
    go false c e f = cc

-- it answers it from what it shows
reads : (o : Opening) (w : World) (a : ℕ) (look : Look) → Rested w → IsUp o w a
    → first_cause (look_causes a (w.node a) look) ≡ None → answers o w (At a (Event.Calling (Call.LookUp look)))
    ≡ answer_to a 0 (seen_in (w.node a).replica look) ∷ []
reads o w a look rested up none = answers_given o w (At a (Event.Calling (Call.LookUp look)))
    (takes_look_up o w a look up none)
    ∙ looked-answers o.bound a look (seen_in (w.node a).replica look) (w.node a) (rested a up.1)

-- so it is at each node that runs by the history
pub look_ups_read_the_table : LookUpsReadTheTable
look_ups_read_the_table o es a look run may = ap (filter is_unnumbered)
    (reads o (world o es) a look (Theorem.kept_run o (Whole o) (ground o) (whole_opens o) es).apart.rested
    (run.0, sym ((replicas o (world o es) W.kept).departed a) ∙ left) (takes look may))
  where
    W : Whole o (world o es)
    W = run_whole o es

    same : standing_at o (world o es) ≡ so_far o es
    same = past_now o (events o es) (world o es) W (written o es)

    left : (standing_at o (world o es)).registry.left a ≡ false
    left = ap (λ (t : Standing). t.registry.left a) same ∙ run.1

    takes : (look : Look) → MayLookUp (events o es) a look → first_cause (look_causes a ((world o es).node a) look) ≡ None
    takes look (OfName x) = refl
    takes look OfNames = refl
    takes look (OfNotices p I) = ap (λ (b : Bool). first_cause (cause (not b) NoSuchProcess ∷ []))
        (seen_issued o (events o es) (world o es)
        (λ d. ap (λ (t : Standing). t.registry.left d) (sym same) ∙ (replicas o (world o es) W.kept).departed d)
        (spawned o es) a p I)
