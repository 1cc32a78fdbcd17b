-- A world of names is finished: each retry of a refused registrar, with the deliveries behind it, lowers what is pending, so in the end
-- none is left.
use Rattle.std.proofs.Common.{ℕ, zero, suc, Bool, true, false, ◌≡◌, ◌<◌, ◌≤◌, ◌+◌, Option, Some, None, List, [], ◌∷◌, ◌++◌, refl, sym, ap, subst, ◌∙◌, arith}
use Rattle.std.specs.Prelude.{Contains, ◌&&◌, filter, length}
use Rattle.std.specs.List.{list_all}
use Rattle.std.proofs.lemmas.List.{append-nil, length-append}
use Rattle.std.proofs.lemmas.List.Elements.{filter-append}
use Rattle.std.proofs.lemmas.List.Folds.{list_all-append}
use Rattle.std.proofs.lemmas.List.Sums.{fold-append}
use Rattle.protocol_model.specs.Node.{Op, Current}
use Rattle.protocol_model.specs.Event.{Event, is_waiting}
use Rattle.protocol_model.specs.World.{At, refusal}
use Rattle.no_dead_end.specs.NodeNames.{NamedOpening, opening_of}
use Rattle.no_dead_end.specs.NamedWorld.{NamedWorld, NamedEvent, running_nodes, happens_named, run_named, opening_named, after_events}
use Rattle.no_dead_end.specs.NamedScript.{next_named, named_deliveries_left}
use Rattle.no_dead_end.specs.Restarts.{IsUp}
use Rattle.no_dead_end.specs.Lifted.{events_played}
use Rattle.no_dead_end.proofs.Always.{always}
use Rattle.no_dead_end.proofs.Lists.{find_none, find_least}
use Rattle.no_dead_end.proofs.Running.{runs_listed, listed_runs, running_rise}
use Rattle.no_dead_end.specs.Settling.{IsFirstByName, SettlesByName}
use Rattle.no_dead_end.proofs.Settling.{settling_delivers_the_first}
use Rattle.no_dead_end.specs.Answering.{NameCallsAreAnswered}
use Rattle.no_dead_end.specs.NamedNoDeadEnd.{AlwaysNamed, named_work}
use Rattle.no_dead_end.proofs.CallsAnswered.{rest_is_free}
use Rattle.no_dead_end.proofs.NamedDeliveries.{named_settles}
use Rattle.no_dead_end.proofs.NamedQuiet.{quiet_names_rest, settled_names_answer}
use Rattle.getting_through.specs.NamedFinishing.{retried, settling, settled_names, first_refused, finishing, is_named_retry, named_retries, NamedRetriesLower, FinishingEnds}
use Rattle.getting_through.proofs.Freeing.{may_retry}
use Rattle.getting_through.proofs.NamedStorms.{stays, fewer}
use Rattle.no_dead_end.specs.Worlds.{IsQuiet, IsSettled}
use Rattle.no_dead_end.specs.WorldsOfNames.{of_names, OfNames, is_named_delivery_or_retry}
use Rattle.no_dead_end.specs.QuietWorlds.{QuietWorldsRest}
use Rattle.getting_through.specs.Pending.{pending}
use Rattle.getting_through.specs.GettingThrough.{IsStorm}
use Rattle.getting_through.specs.GettingFree.{LeadsOn, RegistrarsGetFree}

-- retries of two lists
retries_append : (xs ys : List NamedEvent) → named_retries (xs ++ ys) ≡ named_retries xs + named_retries ys
retries_append xs ys = ap length (filter-append is_named_retry xs ys)
    ∙ length-append (filter is_named_retry xs) (filter is_named_retry ys)

is_waiting_op : (c : Current) → is_waiting c ≡ true → (op : Op) × (c ≡ Current.Waiting op)
is_waiting_op (Current.Waiting op) e = (op, refl)
is_waiting_op Current.Free e = cc e
is_waiting_op (Current.Joining k m) e = cc e
is_waiting_op (Current.Asking op r) e = cc e
is_waiting_op (Current.Writing op s awaited reply) e = cc e

module _ (o : NamedOpening) where
  -- Deliveries, without a retry
  abbrev Deliveries : List NamedEvent → Type 0
  Deliveries fs = (list_all is_named_delivery_or_retry fs ≡ true) × (named_retries fs ≡ 0)

  pub left_deliver : (most : ℕ) (es : List NamedEvent) → Deliveries (named_deliveries_left o most (after_events o es))
  left_deliver zero es = (refl, refl)
  left_deliver (suc most) es = go (next_named o (after_events o es)) refl (λ d. left_deliver most (es ++ d ∷ []))
    where
      go : (x : Option NamedEvent) → next_named o (after_events o es) ≡ x
          → ((d : NamedEvent) → Deliveries (named_deliveries_left o most (after_events o (es ++ d ∷ []))))
          → Deliveries (elim x [ None ↦ [] | Some e ↦ e ∷ named_deliveries_left o most (happens_named o (after_events o es) e) ])
      go None e more = (refl, refl)
      go (Some d) e more =
          let F : IsFirstByName o (after_events o es) d = (settling_delivers_the_first o es).some d e in
          subst (λ (x : NamedEvent). Deliveries (x ∷ named_deliveries_left o most (happens_named o (after_events o es) d)))
          (sym F.delivery)
          (subst (λ (v : NamedWorld). Deliveries (named_deliveries_left o most v))
          (fold-append (happens_named o) (opening_named o) es (d ∷ [])) (more d))

  module _ (es : List NamedEvent) where
    abbrev w : NamedWorld
    w = after_events o es

    pub quiet_names : next_named o w ≡ None → IsQuiet (of_names o) w
    quiet_names e = L.quiet.0 (L.none.0 e)
      where
        L : SettlesByName o es w
        L = settling_delivers_the_first o es

    -- the first refused node is one, and where there is none no running node was refused
    pub refused_found : (n : ℕ) → first_refused o w ≡ Some n
        → IsUp o w n × (op : Op) × ((w.world.node n).current ≡ Current.Waiting op)
    refused_found n e =
        let f : Contains (running_nodes o w) n × (is_waiting (w.world.node n).current ≡ true)
        × ((c : ℕ) → Contains (running_nodes o w) c → c < n → is_waiting (w.world.node c).current ≡ false) =
        find_least (λ c. is_waiting (w.world.node c).current) (running_nodes o w) n (running_rise o w (always o es)) e in
        let h : (op : Op) × ((w.world.node n).current ≡ Current.Waiting op) = is_waiting_op (w.world.node n).current f.1 in
        (listed_runs o w (always o es) n f.0, h.0, h.1)

    pub none_refused : first_refused o w ≡ None → (c : ℕ) (op : Op) → IsUp o w c → (w.world.node c).current ≡ Current.Waiting op → ⊥
    none_refused e c op up h =
        let f : is_waiting (w.world.node c).current ≡ false =
        find_none (λ c. is_waiting (w.world.node c).current) (running_nodes o w) e c (runs_listed o w (always o es) c up) in
        let g : is_waiting (w.world.node c).current ≡ true = ap is_waiting h in cc (f, g)

    pub is_finished : next_named o w ≡ None → first_refused o w ≡ None → IsSettled (of_names o) w
    is_finished q e = record { quiet = quiet_names q; retried = λ c op up h. none_refused e c op up h }

    -- A refused registrar is retried in a quiet world, and letters are delivered until none waits
    module _ (n : ℕ) (op : Op) (most : ℕ) (h : IsQuiet (of_names o) w) (up : IsUp o w n)
        (e : (w.world.node n).current ≡ Current.Waiting op) (l : named_work o (retried o w n) ≤ most) where
      abbrev retry : NamedEvent
      retry = NamedEvent.AtNode n Event.Retry

      abbrev ds : List NamedEvent
      ds = named_deliveries_left o most (retried o w n)

      allowed : refusal (opening_of o) w.world (At n Event.Retry) ≡ None
      allowed = may_retry (opening_of o) w.world n op (up.inside, up.stays) e

      at_retry : after_events o (es ++ retry ∷ []) ≡ retried o w n
      at_retry = fold-append (happens_named o) (opening_named o) es (retry ∷ [])

      at_last : after_events o (es ++ retry ∷ ds) ≡ run_named o w (retry ∷ ds)
      at_last = fold-append (happens_named o) (opening_named o) es (retry ∷ ds)

      nothing_left : next_named o (run_named o (retried o w n) ds) ≡ None
      nothing_left = subst (λ (v : NamedWorld). named_work o v ≤ most
          → next_named o (run_named o v (named_deliveries_left o most v)) ≡ None) at_retry
          (named_settles o most (es ++ retry ∷ [])) l

      storm : IsStorm (of_names o) w n [] ds
      storm = record {
        before = h;
        first = refl;
        accepted = rw (up.started, allowed) refl;
        later = subst (λ (v : NamedWorld). list_all is_named_delivery_or_retry (named_deliveries_left o most v) ≡ true) at_retry
            (left_deliver most (es ++ retry ∷ [])).0;
        behind = subst (λ (v : NamedWorld). IsQuiet (of_names o) v) at_last
            (quiet_after (es ++ retry ∷ ds) (ap (next_named o) at_last ∙ nothing_left));
      }
        where
          quiet_after : (fs : List NamedEvent) → next_named o (after_events o fs) ≡ None → IsQuiet (of_names o) (after_events o fs)
          quiet_after fs q = let L : SettlesByName o fs (after_events o fs) = settling_delivers_the_first o fs in L.quiet.0 (L.none.0 q)

      pub lower : pending (of_names o) (run_named o (retried o w n) ds) < pending (of_names o) w
      lower = fewer o es n [] ds storm op up e

    -- the first refused node, where no letter waits
    pub retry_lowers : (n most : ℕ) → next_named o w ≡ None → first_refused o w ≡ Some n → named_work o (retried o w n) ≤ most
        → pending (of_names o) (run_named o (retried o w n) (named_deliveries_left o most (retried o w n))) < pending (of_names o) w
    retry_lowers n most q e l =
        let f : IsUp o w n × (op : Op) × ((w.world.node n).current ≡ Current.Waiting op) = refused_found n e in
        lower n f.1 most (quiet_names q) f.0 f.2 l

  -- Events behind which no letter waits and no registrar is refused
  record Ends (v : NamedWorld) (fs : List NamedEvent) : Type 0 where
    kinds : list_all is_named_delivery_or_retry fs ≡ true
    quiet : next_named o (run_named o v fs) ≡ None
    free : first_refused o (run_named o v fs) ≡ None
    few : named_retries fs ≤ pending (of_names o) (settled_names o v)

  module _ (es : List NamedEvent) where
    abbrev v : NamedWorld
    v = after_events o es

    abbrev es1 : List NamedEvent
    es1 = es ++ settling o v

    delivered : Deliveries (settling o v)
    delivered = left_deliver (named_work o v) es

    at_settled : after_events o es1 ≡ settled_names o v
    at_settled = fold-append (happens_named o) (opening_named o) es (settling o v)

    settled_quiet : next_named o (settled_names o v) ≡ None
    settled_quiet = named_settles o (named_work o v) es (omega arith)

    -- a retry of the first refused node
    abbrev next : ℕ → NamedWorld
    next n = retried o (settled_names o v) n

    abbrev es2 : ℕ → List NamedEvent
    es2 n = es1 ++ NamedEvent.AtNode n Event.Retry ∷ []

    at_next : (n : ℕ) → after_events o (es2 n) ≡ next n
    at_next n = fold-append (happens_named o) (opening_named o) es1 (NamedEvent.AtNode n Event.Retry ∷ [])
        ∙ ap (λ (z : NamedWorld). retried o z n) at_settled

    lowered : (n : ℕ) → first_refused o (settled_names o v) ≡ Some n
        → pending (of_names o) (settled_names o (next n)) < pending (of_names o) (settled_names o v)
    lowered n e = subst (λ (z : NamedWorld). next_named o z ≡ None → first_refused o z ≡ Some n
        → pending (of_names o) (settled_names o (retried o z n)) < pending (of_names o) z) at_settled
        (λ q f. retry_lowers es1 n (named_work o (retried o (after_events o es1) n)) q f (omega arith)) settled_quiet e

    none_left : first_refused o (settled_names o v) ≡ None → Ends v (settling o v)
    none_left e = record {
      kinds = delivered.0;
      quiet = settled_quiet;
      free = e;
      few = let z : named_retries (settling o v) ≡ 0 = delivered.1 in omega (arith, z);
    }

    one_more : (n : ℕ) → first_refused o (settled_names o v) ≡ Some n → (fs : List NamedEvent) → Ends (next n) fs
        → Ends v (settling o v ++ NamedEvent.AtNode n Event.Retry ∷ fs)
    one_more n e fs R = record {
      kinds = list_all-append is_named_delivery_or_retry (settling o v) (NamedEvent.AtNode n Event.Retry ∷ fs)
          ∙ ap (λ (b : Bool). b && list_all is_named_delivery_or_retry fs) delivered.0 ∙ R.kinds;
      quiet = ap (next_named o) same ∙ R.quiet;
      free = ap (first_refused o) same ∙ R.free;
      few =
          let all : named_retries (settling o v ++ NamedEvent.AtNode n Event.Retry ∷ fs)
          ≡ named_retries (settling o v) + named_retries (NamedEvent.AtNode n Event.Retry ∷ fs) =
          retries_append (settling o v) (NamedEvent.AtNode n Event.Retry ∷ fs) in
          let one : named_retries (NamedEvent.AtNode n Event.Retry ∷ fs) ≡ suc (named_retries fs) = refl in
          let none : named_retries (settling o v) ≡ 0 = delivered.1 in
          let rest : named_retries fs ≤ pending (of_names o) (settled_names o (next n)) = R.few in
          let less : pending (of_names o) (settled_names o (next n)) < pending (of_names o) (settled_names o v) = lowered n e in
          omega (arith, all, one, none, rest, less);
    }
      where
        same : run_named o v (settling o v ++ NamedEvent.AtNode n Event.Retry ∷ fs) ≡ run_named o (next n) fs
        same = fold-append (happens_named o) v (settling o v) (NamedEvent.AtNode n Event.Retry ∷ fs)

  -- so in the end all are free
  ends : (most : ℕ) (es : List NamedEvent) → pending (of_names o) (settled_names o (after_events o es)) ≤ most
      → Ends (after_events o es) (finishing o most (after_events o es))
  ends zero es l = go (first_refused o (settled_names o (v es))) refl
    where
      go : (x : Option ℕ) → first_refused o (settled_names o (v es)) ≡ x → Ends (v es) (settling o (v es))
      go None e = none_left es e
      go (Some n) e =
          let less : pending (of_names o) (settled_names o (next es n)) < pending (of_names o) (settled_names o (v es)) = lowered es n e in
          absurd (omega (arith, less, l))
  ends (suc most) es l = go (first_refused o (settled_names o (v es))) refl (λ n j. ends most (es2 es n) j)
    where
      go : (x : Option ℕ) → first_refused o (settled_names o (v es)) ≡ x
          → ((n : ℕ) → pending (of_names o) (settled_names o (after_events o (es2 es n))) ≤ most
          → Ends (after_events o (es2 es n)) (finishing o most (after_events o (es2 es n))))
          → Ends (v es) (settling o (v es) ++ elim x [
            | None ↦ []
            | Some n ↦ NamedEvent.AtNode n Event.Retry ∷ finishing o most (next es n)
          ])
      go None e more = subst (Ends (v es)) (sym (append-nil (settling o (v es)))) (none_left es e)
      go (Some n) e more =
          let less : pending (of_names o) (settled_names o (next es n)) < pending (of_names o) (settled_names o (v es)) = lowered es n e in
          one_more es n e (finishing o most (next es n))
          (subst (λ (z : NamedWorld). pending (of_names o) (settled_names o z) ≤ most → Ends z (finishing o most z)) (at_next es n)
          (more n) (omega (arith, less, l)))

  module _ (es : List NamedEvent) (most : ℕ) (l : pending (of_names o) (after_events o es) ≤ most) where
    abbrev fs : List NamedEvent
    fs = finishing o most (after_events o es)

    fewer_settled : pending (of_names o) (settled_names o (after_events o es)) ≤ pending (of_names o) (after_events o es)
    fewer_settled = stays o es (settling o (after_events o es)) (delivered es).0

    E : Ends (after_events o es) fs
    E = ends most es (let h : pending (of_names o) (settled_names o (after_events o es)) ≤ pending (of_names o) (after_events o es) =
        fewer_settled in omega (arith, h, l))

    abbrev end : NamedWorld
    end = run_named o (after_events o es) fs

    at_end : after_events o (es ++ fs) ≡ end
    at_end = fold-append (happens_named o) (opening_named o) es fs

    settled : IsSettled (of_names o) (after_events o (es ++ fs))
    settled = is_finished (es ++ fs) (ap (next_named o) at_end ∙ E.quiet) (ap (first_refused o) at_end ∙ E.free)

    settled_end : IsSettled (of_names o) end
    settled_end = subst (IsSettled (of_names o)) at_end settled

    -- who runs is free then
    rests : (c : ℕ) → IsUp o end c → ((end.world.node c).current ≡ Current.Free) × ((end.world.node c).queue ≡ [])
    rests c up = rest_is_free (IsUp o end) end.world c settled_end.retried up
        ((subst (λ (z : NamedWorld). QuietWorldsRest (of_names o) (es ++ fs) z) at_end (quiet_names_rest o (es ++ fs))
        settled_end.quiet).registrars c up)

    leads : LeadsOn (of_names o) es (after_events o es) fs
    leads = record {
      kinds = E.kinds;
      settled = settled_end;
      free = λ c up. (rests c up).0;
      idle = λ c up. (rests c up).1;
      answered = subst (λ (z : NamedWorld). NameCallsAreAnswered (IsUp o z) (events_played o (es ++ fs))) at_end
          (settled_names_answer o (es ++ fs) settled);
    }

pub named_retries_lower : AlwaysNamed NamedRetriesLower
named_retries_lower o es n op most h up e l = lower o es n op most h up e l

pub finishing_ends : AlwaysNamed FinishingEnds
finishing_ends o es most l = record {
  leads = leads o es most l;
  quiet = (E o es most l).quiet;
  free = (E o es most l).free;
  few =
      let few : named_retries (finishing o most (after_events o es)) ≤ pending (of_names o) (settled_names o (after_events o es)) =
      (E o es most l).few in
      let less : pending (of_names o) (settled_names o (after_events o es)) ≤ pending (of_names o) (after_events o es) =
      fewer_settled o es most l in
      omega (arith, few, less);
}

pub names_get_free : OfNames RegistrarsGetFree
names_get_free o es = (
  finishing o (pending (of_names o) (after_events o es)) (after_events o es),
  leads o es (pending (of_names o) (after_events o es)) (omega arith),
)
