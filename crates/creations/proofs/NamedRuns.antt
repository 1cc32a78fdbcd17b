-- A run of named nodes is a run of a world.
use Rattle.std.proofs.Common.{ℕ, Bool, true, false, ◌≡◌, List, [], ◌∷◌, ◌++◌, refl, sym, ap, ◌∙◌}
use Rattle.std.specs.Prelude.{is_none, if◌then◌else◌}
use Rattle.std.proofs.lemmas.List.{append-nil, append_assoc}
use Rattle.std.proofs.lemmas.List.Sums.{fold-append}
use Rattle.registry_model.specs.Process.{Process}
use Rattle.protocol_model.specs.Letter.{Id}
use Rattle.protocol_model.specs.ClientLocks.{Tally, tally_after, tally_from}
use Rattle.protocol_model.specs.World.{Opening, World, WorldEvent, happens, run}
use Rattle.protocol_model.proofs.Courses.{run-append}
use Rattle.creations.specs.NodeNames.{NamedOpening, opening_of}
use Rattle.creations.specs.NamedWorld.{NamedWorld, NamedEvent, named_refusal, plain, plain_accepted, accepted_named, happens_named, run_named, plain_events, opening_named, NamedRunsAreRuns, after_events, as_events}

-- an event is its events in the world
pub happens-plain : (o : NamedOpening) (w : NamedWorld) (e : NamedEvent) →
    (happens_named o w e).world ≡ run (opening_of o) w.world (plain_accepted o w e)
happens-plain o w e = go (is_none (named_refusal o w e))
  where
    go : (b : Bool) → (if b then accepted_named o w e else w).world
        ≡ run (opening_of o) w.world (if b then plain o w e else [])
    go true = refl
    go false = refl

-- and so are all
pub run-plain : (o : NamedOpening) (w : NamedWorld) (es : List NamedEvent) →
    (run_named o w es).world ≡ run (opening_of o) w.world (plain_events o w es)
run-plain o w [] = refl
run-plain o w (e ∷ es) =
    run-plain o (happens_named o w e) es
    ∙ ap (λ (v : World). run (opening_of o) v (plain_events o (happens_named o w e) es)) (happens-plain o w e)
    ∙ sym (run-append (opening_of o) w.world (plain_accepted o w e) (plain_events o (happens_named o w e) es))

pub named_runs_are_runs : NamedRunsAreRuns
named_runs_are_runs o es = run-plain o (opening_named o) es

-- what two lists of events of named nodes are in the world
pub plain_events-append : (o : NamedOpening) (w : NamedWorld) (es fs : List NamedEvent) →
    plain_events o w (es ++ fs) ≡ plain_events o w es ++ plain_events o (run_named o w es) fs
plain_events-append o w [] fs = refl
plain_events-append o w (e ∷ es) fs =
    ap (λ (xs : List WorldEvent). plain_accepted o w e ++ xs) (plain_events-append o (happens_named o w e) es fs)
    ∙ sym (append_assoc (plain_accepted o w e) (plain_events o (happens_named o w e) es)
    (plain_events o (run_named o (happens_named o w e) es) fs))

-- one event more
pub after_events-push : (o : NamedOpening) (es : List NamedEvent) (e : NamedEvent) →
    after_events o (es ++ e ∷ []) ≡ happens_named o (after_events o es) e
after_events-push o es e = fold-append (happens_named o) (opening_named o) es (e ∷ [])

pub as_events-push : (o : NamedOpening) (es : List NamedEvent) (e : NamedEvent) →
    as_events o (es ++ e ∷ []) ≡ as_events o es ++ plain_accepted o (after_events o es) e
as_events-push o es e = plain_events-append o (opening_named o) es (e ∷ [])
    ∙ ap (λ (xs : List WorldEvent). as_events o es ++ xs) (append-nil (plain_accepted o (after_events o es) e))

-- how a process's locks are counted over two lists
pub tally-append : (o : Opening) (p : Process) (id : Id) (c : ℕ) (w : World) (xs ys : List WorldEvent) (t : Tally)
    → tally_from o w (xs ++ ys) p id c t ≡ tally_from o (run o w xs) ys p id c (tally_from o w xs p id c t)
tally-append o p id c w [] ys t = refl
tally-append o p id c w (x ∷ xs) ys t = tally-append o p id c (happens o w x) xs ys (tally_after o w x p id c t)
