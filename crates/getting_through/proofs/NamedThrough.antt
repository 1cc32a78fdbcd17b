-- Whoever retries, someone gets through in worlds of names: someone does in the world in which all nodes that haven't started were told
-- of all that have left, and what is entered and answered there is entered and answered here.
use Rattle.std.proofs.Common.{ℕ, Bool, true, false, ◌≡◌, ◌<◌, ◌≤◌, ◌+◌, Option, Some, None, List, [], ◌∷◌, ◌++◌, refl, sym, ap, subst, ◌∙◌, inl, inr, arith}
use Rattle.std.specs.Prelude.{Contains, is_none, if◌then◌else◌}
use Rattle.std.proofs.lemmas.List.{append-nil}
use Rattle.std.proofs.lemmas.List.Sums.{fold-append}
use Rattle.std.specs.List.{list_all}
use Rattle.registry_model.specs.Process.{Nodes}
use Rattle.registry_model.specs.Call.{Joined, reply_to}
use Rattle.registry_model.specs.History.{Entry}
use Rattle.protocol_model.specs.Node.{Node, Op, Current}
use Rattle.protocol_model.specs.Event.{Event, Answer, Refusal}
use Rattle.protocol_model.specs.Turn.{Turn}
use Rattle.protocol_model.specs.World.{Opening, World, WorldEvent, At, place, other, opening_world, refusal, accepted, happens, run, all_answers}
use Rattle.protocol_model.specs.Course.{played, entries_of, answers_of, course}
use Rattle.protocol_model.specs.Answers.{answer_to}
use Rattle.protocol_model.specs.Quiet.{Runs}
use Rattle.protocol_model.proofs.Courses.{answers-append, course_answers}
use Rattle.no_dead_end.proofs.Courses.{entries_of-append}
use Rattle.no_dead_end.specs.NodeNames.{NamedOpening}
use Rattle.no_dead_end.specs.NamedWorld.{NamedWorld, NamedEvent, happens_named, run_named, plain_events, opening_named, after_events, as_events}
use Rattle.no_dead_end.specs.Restarts.{IsUp}
use Rattle.no_dead_end.specs.Lifted.{events_played}
use Rattle.no_dead_end.proofs.Alike.{Alike, AreWithin, same_refusal, same_turn, run_alike}
use Rattle.no_dead_end.proofs.Apart.{Apart, accepted_apart}
use Rattle.no_dead_end.proofs.CaughtUp.{unanswered}
use Rattle.no_dead_end.proofs.LeftOfNames
use Rattle.no_dead_end.proofs.NamedRuns.{named_runs_are_runs, plain_events-append}
use Rattle.no_dead_end.proofs.Standing.{least_started}
use Rattle.getting_through.specs.Pending.{pending}
use Rattle.getting_through.specs.GettingThrough.{reply_now, End, SomeoneGetsThrough, IsStorm}
use Rattle.getting_through.proofs.Laws.{someone_gets_through}
use Rattle.getting_through.proofs.NamedStorms.{O, E, F, w, u, S, s, alike, told_world, P, fit, all, X, Y, kinds, plain_is, storm, fewer}
use Rattle.getting_through.proofs.NamedStorms
use Rattle.no_dead_end.specs.Worlds.{of_nodes}
use Rattle.no_dead_end.specs.Clauses.{world}
use Rattle.no_dead_end.specs.WorldsOfNames.{of_names, OfNames, is_named_delivery_or_retry}
use Rattle.getting_through.specs.GettingFree.{Storms, Calm, Storm, StormsAreFew}

-- Worlds that are alike at the nodes of a set enter the same, too
module _ (o : Opening) (S : Nodes) (least : S 0 ≡ true) where
  happens_apart : (v : World) → Apart o S v → (e : WorldEvent) → S (place e) ≡ true → S (other e) ≡ true → Apart o S (happens o v e)
  happens_apart v B e i j = go (refusal o v e) refl
    where
      go : (r : Option Refusal) → refusal o v e ≡ r → Apart o S (if is_none r then accepted o v e else v)
      go None q = accepted_apart o S v least B e i j q
      go (Some x) q = B

  same_entries : (es : List WorldEvent) → AreWithin o S es → (v u : World) → Apart o S v → Alike o S v u
      → entries_of (course o u es) ≡ entries_of (course o v es)
  same_entries [] W v u B A = refl
  same_entries (e ∷ es) W v u B A =
      entries_of-append (if is_none (refusal o u e) then played o u e ∷ [] else []) (course o (happens o u e) es)
      ∙ ap (λ (l : List Entry). l ++ entries_of (course o (happens o u e) es)) first
      ∙ ap (λ (l : List Entry). entries_of (if is_none (refusal o v e) then played o v e ∷ [] else []) ++ l)
      (same_entries es W.1 (happens o v e) (happens o u e) (happens_apart v B e W.0.1 W.0.2)
      (run_alike o S (e ∷ []) least (W.0, tt) v u B A).1)
      ∙ sym (entries_of-append (if is_none (refusal o v e) then played o v e ∷ [] else []) (course o (happens o v e) es))
    where
      by : (b : Bool) → entries_of (if b then played o u e ∷ [] else []) ≡ entries_of (if b then played o v e ∷ [] else [])
      by true = ap (λ (t : Turn). t.entries ++ []) (same_turn o S v u A e W.0.1)
      by false = refl

      first : entries_of (if is_none (refusal o u e) then played o u e ∷ [] else [])
          ≡ entries_of (if is_none (refusal o v e) then played o v e ∷ [] else [])
      first = ap (λ (r : Option Refusal). entries_of (if is_none r then played o u e ∷ [] else [])) (same_refusal o S v u A e W.0.1)
          ∙ by (is_none (refusal o v e))

-- What is answered behind deliveries and retries is answered there
module _ (o : NamedOpening) (es fs : List NamedEvent) (k : list_all is_named_delivery_or_retry fs ≡ true) where
  abbrev v : World
  v = run (O o) (opening_world (O o)) (E o es)

  -- the events that tell them answer nothing
  told_silently : all_answers (O o) v (F o es) ≡ []
  told_silently = ap (λ (z : World). all_answers (O o) z (F o es)) (sym (named_runs_are_runs o es))
      ∙ unanswered (O o) (LeftOfNames.gone o es) (LeftOfNames.distinct_gone o es) (LeftOfNames.late o es)
      (LeftOfNames.distinct_late o es) (w o es).world (LeftOfNames.ready o es)

  same_before : all_answers (O o) (opening_world (O o)) (E o es ++ F o es) ≡ all_answers (O o) (opening_world (O o)) (E o es)
  same_before = answers-append (O o) (opening_world (O o)) (E o es) (F o es)
      ∙ ap (λ (l : List Answer). all_answers (O o) (opening_world (O o)) (E o es) ++ l) told_silently
      ∙ append-nil (all_answers (O o) (opening_world (O o)) (E o es))

  same_behind : all_answers (O o) (world (O o) (E o es ++ F o es)) (P o es fs k) ≡ all_answers (O o) v (P o es fs k)
  same_behind = ap (λ (z : World). all_answers (O o) z (P o es fs k)) (told_world o es) ∙ (NamedStorms.behind o es fs k).0
      ∙ ap (λ (z : World). all_answers (O o) z (P o es fs k)) (named_runs_are_runs o es)

  same_answers : answers_of (course (O o) (opening_world (O o)) ((E o es ++ F o es) ++ P o es fs k))
      ≡ answers_of (events_played o (es ++ fs))
  same_answers = course_answers (O o) (opening_world (O o)) ((E o es ++ F o es) ++ P o es fs k)
      ∙ answers-append (O o) (opening_world (O o)) (E o es ++ F o es) (P o es fs k)
      ∙ ap (λ (l : List Answer). l ++ all_answers (O o) (world (O o) (E o es ++ F o es)) (P o es fs k)) same_before
      ∙ ap (λ (l : List Answer). all_answers (O o) (opening_world (O o)) (E o es) ++ l) same_behind
      ∙ sym (answers-append (O o) (opening_world (O o)) (E o es) (P o es fs k))
      ∙ ap (all_answers (O o) (opening_world (O o))) (sym (plain_events-append o (opening_named o) es fs))
      ∙ sym (course_answers (O o) (opening_world (O o)) (as_events o (es ++ fs)))

  same_entered : entries_of (course (O o) (u o es) (P o es fs k)) ≡ entries_of (course (O o) (w o es).world (plain_events o (w o es) fs))
  same_entered = same_entries (O o) (S o es) (least_started o (w o es) (s o es)) (P o es fs k) (fit o es fs k).0.0 (w o es).world
      (u o es) (s o es).apart (alike o es)

  -- so an operation that ends there ends here
  pub ended : (c : ℕ) (x : Op) → IsUp o (w o es) c → End (of_nodes (O o)) (E o es ++ F o es) (u o es) c x (P o es fs k)
      → End (of_names o) es (w o es) c x fs
  ended c (Op.Name n call) up i = subst (λ (z : Node). Contains (answers_of (events_played o (es ++ fs)))
      (answer_to c n (reply_to z.replica.members z.replica.table call))) ((alike o es).node c up.started)
      (subst (λ (l : List Answer). Contains l (answer_to c n (reply_now (u o es) c call))) same_answers i)
  ended c (Op.Strike p) up i = subst (λ (l : List Entry). Contains l (Entry.Strike p)) same_entered i
  ended c (Op.Admission j pairs) up (inl gone) = inl (sym (LeftOfNames.left_same o es j) ∙ gone)
  ended c (Op.Admission j pairs) up (inr i) = inr (i.0, subst (λ (l : List Entry). Contains l (Entry.Join j i.0 c Joined)) same_entered i.1)
  ended c (Op.Join n m) up i = absurd i

module _ (o : NamedOpening) (es : List NamedEvent) (n : ℕ) (op : Op) (xs ys : List NamedEvent) (up : IsUp o (w o es) n)
    (waits : ((w o es).world.node n).current ≡ Current.Waiting op) (T : IsStorm (of_names o) (w o es) n xs ys) where
  abbrev fs : List WorldEvent
  fs = X o es n xs ys T ++ At n Event.Retry ∷ Y o es n xs ys T

  -- someone gets through there
  there : (c : ℕ) × (x : Op) × Runs (O o) (u o es) c × (((u o es).node c).current ≡ Current.Waiting x)
      × End (of_nodes (O o)) (E o es ++ F o es) (u o es) c x fs
      × (pending (of_nodes (O o)) (run (O o) (u o es) fs) < pending (of_nodes (O o)) (u o es))
  there = subst (SomeoneGetsThrough (of_nodes (O o)) (E o es ++ F o es)) (told_world o es) (someone_gets_through (O o) (E o es ++ F o es)) n op
      (X o es n xs ys T) (Y o es n xs ys T) (up.inside, LeftOfNames.left_same o es n ∙ up.stays)
      (ap (λ (z : Node). z.current) ((alike o es).node n up.started) ∙ waits) (storm o es n xs ys T)

  -- who does has started, since others have nothing
  is_up : IsUp o (w o es) there.0
  is_up = go (S o es there.0) refl
    where
      go : (b : Bool) → S o es there.0 ≡ b → IsUp o (w o es) there.0
      go true e = record { inside = there.2.0; started = e; stays = sym (LeftOfNames.left_same o es there.0) ∙ there.2.1 }
      go false e = cc (
        ap (λ (z : Node). z.current) ((LeftOfNames.caught o es).fresh there.0 (LeftOfNames.is_late o es there.0 e there.2.0)),
        there.3,
      )

  pub through : (c : ℕ) × (x : Op) × IsUp o (w o es) c × (((w o es).world.node c).current ≡ Current.Waiting x)
      × End (of_names o) es (w o es) c x (all o es n xs ys T)
      × (pending (of_names o) (run_named o (w o es) (all o es n xs ys T)) < pending (of_names o) (w o es))
  through = (
    there.0,
    there.1,
    is_up,
    sym (ap (λ (z : Node). z.current) ((alike o es).node there.0 is_up.started)) ∙ there.3,
    ended o es (all o es n xs ys T) (kinds o es n xs ys T) there.0 there.1 is_up
        (subst (λ (l : List WorldEvent). End (of_nodes (O o)) (E o es ++ F o es) (u o es) there.0 there.1 l) (sym (plain_is o es n xs ys T))
        there.4),
    fewer o es n xs ys T op up waits,
  )

pub named_someone_gets_through : OfNames SomeoneGetsThrough
named_someone_gets_through o es n op xs ys up waits T = through o es n op xs ys up waits T

-- so such storms are few
module _ (o : NamedOpening) where
  abbrev Lowers : List NamedEvent → NamedWorld → Type 0
  Lowers es v = (n : ℕ) (op : Op) (xs ys : List NamedEvent) → IsUp o v n → (v.world.node n).current ≡ Current.Waiting op
      → IsStorm (of_names o) v n xs ys
      → pending (of_names o) (run_named o v (xs ++ NamedEvent.AtNode n Event.Retry ∷ ys)) < pending (of_names o) v

  lowers_at : (es : List NamedEvent) (v : NamedWorld) → v ≡ after_events o es → Lowers es v
  lowers_at es v e = subst (Lowers es) (sym e) (λ n op xs ys up waits T. fewer o es n xs ys T op up waits)

  few_storms : (es : List NamedEvent) (v : NamedWorld) (k : ℕ) → v ≡ after_events o es → Storms (of_names o) v k → k ≤ pending (of_names o) v
  few_storms es v k e (Calm x) = omega arith
  few_storms es v k e (Storm x j n op xs ys up waits T more) =
      let less : pending (of_names o) (run_named o v (xs ++ NamedEvent.AtNode n Event.Retry ∷ ys)) < pending (of_names o) v =
      lowers_at es v e n op xs ys up waits T in
      let rest : j ≤ pending (of_names o) (run_named o v (xs ++ NamedEvent.AtNode n Event.Retry ∷ ys)) =
      few_storms (es ++ (xs ++ NamedEvent.AtNode n Event.Retry ∷ ys)) (run_named o v (xs ++ NamedEvent.AtNode n Event.Retry ∷ ys)) j
      (ap (λ (z : NamedWorld). run_named o z (xs ++ NamedEvent.AtNode n Event.Retry ∷ ys)) e
      ∙ sym (fold-append (happens_named o) (opening_named o) es (xs ++ NamedEvent.AtNode n Event.Retry ∷ ys))) more in
      omega (arith, less, rest)

pub named_storms_are_few : OfNames StormsAreFew
named_storms_are_few o es k S = few_storms o es (after_events o es) k refl S
