-- In a step that answers `joined`, the joiner shows the registry, with its admission.
use Rattle.std.proofs.Common.{ℕ, Bool, true, false, ◌≡◌, ◌==◌, ◌+◌, Option, Some, None, List, [], ◌∷◌, ◌++◌, refl, sym, ap, ◌∙◌, subst, arith, inl, inr}
use Rattle.std.specs.Prelude.{◌&&◌, not, if◌then◌else◌, drop, Contains}
use Rattle.std.specs.List.{list_any}
use Rattle.std.proofs.lemmas.Bool.{ne_eqb, eq-eqb, and_from}
use Rattle.std.proofs.lemmas.List.Elements.{Contains-append_cases, All-from_recursion, All-contains}
use Rattle.registry_model.specs.Process.{Nodes}
use Rattle.registry_model.specs.Table.{Table}
use Rattle.registry_model.specs.Registry.{replica_of}
use Rattle.registry_model.specs.Call.{Joined}
use Rattle.registry_model.specs.History.{Entry, hold_at, standing_of}
use Rattle.registry_model.specs.Settlement.{Fate}
use Rattle.registry_model.proofs.Lists.{Contains-nil}
use Rattle.registry_model.proofs.Updates.{at_same}
use Rattle.protocol_model.specs.Letter.{Letter}
use Rattle.protocol_model.specs.Turn.{sent_to}
use Rattle.protocol_model.specs.Event.{Event, Answer}
use Rattle.protocol_model.specs.Answers.{answer_to}
use Rattle.protocol_model.specs.World.{Opening, in_cluster, World, WorldEvent, At, Deliver, left, place, refusal, turn_of, accepted, apply, opening_world, join_number}
use Rattle.protocol_model.specs.Course.{Played, played, entries_of, seen}
use Rattle.protocol_model.specs.Headline.{standing, Shows}
use Rattle.moves.proofs.Rules
use Rattle.moves.proofs.Rules.{Rule, Taken, Walked}
use Rattle.moves.proofs.Indices.{neither}
use Rattle.moves.proofs.Invariants.{IsUp, standing_at, Replicas}
use Rattle.walk.proofs.Events.{Accepted, accepted_of}
use Rattle.fitting.proofs.Made.{answered, answers_made}
use Rattle.fitting.proofs.Pasts.{Admitted, admitted_holds}
use Rattle.replicas.proofs.Mail.{carries, is_applied}
use Rattle.replicas.proofs.Scenes.{is_mine, mine, scene_of, before, is_late, doing_of, awaits_node, one_if, count_of}
use Rattle.replicas.proofs.BaseLetters.{list_any-none}
use Rattle.fitting.proofs.Admissions.{on_rule, IsOfWelcome, of_welcome, welcome_holds}
use Rattle.fitting.proofs.Replies.{answers_given}
use Rattle.headline.specs.Clauses.{JoinedIsWelcomed}
use Rattle.headline.proofs.Together.{Whole, replicas, course_keeps, event_makes}
use Rattle.headline.proofs.Courses.{history_push, last_step, no_last_step}
use Rattle.headline.proofs.Steps.{answers_here}

-- where no letter of a list carries an operation out, none does when the oldest is taken
none_dropped : (ls : List Letter) → list_any carries (mine ls) ≡ false → list_any carries (mine (drop 1 ls)) ≡ false
none_dropped [] e = e
none_dropped (l ∷ ls) e = go (is_mine l) e
  where
    go : (b : Bool) → list_any carries (if b then l ∷ mine ls else mine ls) ≡ false → list_any carries (mine ls) ≡ false
    go true e = (neither (carries l) (list_any carries (mine ls)) e).1
    go false e = e

module _ (o : Opening) (a : ℕ) where
  -- node a was welcomed by f: its admission holds, and f has no letter on its way to it that carries an operation out
  record Entered (w : World) : Type 0 where
    call : ℕ
    contact : ℕ
    apart : contact ≡ a → ⊥
    admission : Admitted (standing_at o w) a call contact
    none : list_any carries (mine (w.links.queue contact a)) ≡ false

  -- so it shows the registry, if it runs
  shown : (w : World) → Whole o w → Entered w → IsUp o w a
      → (w.node a).replica ≡ replica_of (standing_at o w).registry a
  shown w W E up = W.kept.known.kept.facts a up
      ∙ ap (λ (b : Bool). replica_of (if b then before o (scene_of o w) a else (standing_at o w).registry) a) late
    where
      A : Admitted (standing_at o w) a E.call E.contact
      A = E.admission

      holds : hold_at (standing_at o w) a ≡ Some A.hold
      holds = ap (λ (b : Bool). if b then (standing_at o w).held else (standing_at o w).lone_held a) A.inside ∙ A.held

      late : is_late o (scene_of o w) a (hold_at (standing_at o w) a) ≡ false
      late = ap (is_late o (scene_of o w) a) holds
          ∙ ap (λ (x : ℕ). list_any carries (mine (w.links.queue x a))) A.node ∙ E.none

  -- a posts nothing on the link from another node
  none_posted : (v : World) (f : ℕ) (new : List Letter) → (f == a) ≡ false
      → list_any carries (mine (v.links.queue f a)) ≡ false
      → list_any carries (mine (if f == a && not (v.links.closed a) then v.links.queue f a ++ new
      else v.links.queue f a)) ≡ false
  none_posted v f new ne h = ap (λ (b : Bool). list_any carries (mine
      (if b && not (v.links.closed a) then v.links.queue f a ++ new else v.links.queue f a))) ne ∙ h

  -- so where no letter on that link carries an operation out, none does behind a rule of a
  none_keeps : (w : World) (r : Rule) (f : ℕ) → (f == a) ≡ false
      → list_any carries (mine (w.links.queue f a)) ≡ false
      → list_any carries (mine ((Rules.effect o a r w).links.queue f a)) ≡ false
  none_keeps w r f ne e = go r
    where
      by : (b : Bool) → list_any carries (mine (if b then drop 1 (w.links.queue f a) else w.links.queue f a)) ≡ false
      by true = none_dropped (w.links.queue f a) e
      by false = e

      taken : (t : Option Taken) → list_any carries (mine ((Rules.without_letter o a t w).links.queue f a)) ≡ false
      taken None = e
      taken (Some t) = by (f == t.sender && (a == a))

      go : (r : Rule) → list_any carries (mine ((Rules.effect o a r w).links.queue f a)) ≡ false
      go Rules.Leaves = ap (λ (ls : List Letter). list_any carries (mine ls))
          (at_same ((apply a (Rules.turn_by o a w Rules.Leaves) w).links.queue f) a [])
      go r = none_posted (Rules.without_letter o a (Rules.takes o a r) w) f
          (sent_to a (Rules.turn_by o a w r).sends) ne (taken (Rules.takes o a r))

  -- and who was welcomed stays so in its step
  entered_keeps : (w : World) (r : Rule) → Whole o (Rules.effect o a r w) → Entered w → Entered (Rules.effect o a r w)
  entered_keeps w r V E = record {
    call = E.call;
    contact = E.contact;
    apart = E.apart;
    admission = on_rule o a w r (replicas o (Rules.effect o a r w) V.kept) E.call E.contact E.apart E.admission;
    none = none_keeps w r E.contact (ne_eqb E.contact a E.apart) E.none;
  }

  -- a reads the welcome
  module _ (w : World) (f k : ℕ) (members : Nodes) (pairs : Table) (told : Nodes) (fate : Fate) (W : Whole o w)
      (V : Whole o (Rules.effect o a (Rules.IsWelcomed f k members pairs told fate) w))
      (M : Rules.May o a w (Rules.IsWelcomed f k members pairs told fate)) where
    -- the rule
    abbrev reads : Rule
    reads = Rules.IsWelcomed f k members pairs told fate

    R : Replicas o w
    R = replicas o w W.kept

    -- its admission holds
    holds : (f ≡ a → ⊥) × Admitted (standing_at o w) a k f
    holds = welcome_holds o a w f k members pairs told fate W.kept.joins.gate R W.kept.joins.gates M

    -- f awaits a once, so it is the only letter that carries an operation out
    last : list_any carries (mine M.front.1.0) ≡ false
    last = list_any-none carries (mine M.front.1.0)
        (only (awaits_node (doing_of (w.node f).current) a)
        (subst (λ (ls : List Letter). count_of carries (mine ls) + count_of is_applied (mine (w.links.queue a f))
        ≡ one_if (awaits_node (doing_of (w.node f).current) a)) M.front.1.1
        (W.kept.known.kept.sessions f a
        (R.writers f (sym (R.holds f) ∙ admitted_holds (standing_at o w) a k f holds.1)) (M.inside, M.running))))
      where
        only : (b : Bool) → count_of carries (mine (Letter.Welcome members pairs told fate ∷ M.front.1.0))
            + count_of is_applied (mine (w.links.queue a f)) ≡ one_if b → count_of carries (mine M.front.1.0) ≡ 0
        only true e = omega (arith, e)
        only false e = absurd (omega (arith, e))

    -- so a was welcomed by f
    entered_opens : Entered (Rules.effect o a reads w)
    entered_opens = record {
      call = k;
      contact = f;
      apart = holds.0;
      admission = on_rule o a w reads (replicas o (Rules.effect o a reads w) V.kept) k f holds.0 holds.1;
      none = none_posted (Rules.without_letter o a (Rules.takes o a reads) w) f
          (sent_to a (Rules.turn_by o a w reads).sends) (ne_eqb f a holds.0) taken;
    }
      where
        taken : list_any carries (mine (if f == f && (a == a) then drop 1 (w.links.queue f a) else w.links.queue f a))
            ≡ false
        taken = ap (λ (b : Bool). list_any carries (mine (if b then drop 1 (w.links.queue f a) else w.links.queue f a)))
            (and_from _ _ (eq-eqb f f refl) (eq-eqb a a refl))
            ∙ ap (λ (ls : List Letter). list_any carries (mine (drop 1 ls))) M.front.1.1 ∙ last

module _ (o : Opening) (w : World) (e : WorldEvent) (W : Whole o w) (V : Whole o (accepted o w e))
    (is : refusal o w e ≡ None) (H : Walked o w e) where
  -- an event that answers `joined` leaves its node so
  event_enters : (s : Answer) → Contains (turn_of o w e).answers s → s.reply ≡ Joined
      → Entered o (place e) (accepted o w e)
  event_enters = event_makes o K (place e) step w e refl W H (λ s c. absurd (Contains-nil s c))
    where
      a : ℕ
      a = place e

      K : List Entry → List Answer → World → Type 0
      K es ss x = (s : Answer) → Contains ss s → s.reply ≡ Joined → Entered o a x

      step : (x : World) (r : Rule) (es : List Entry) (ss : List Answer) → K es ss x → Whole o x
          → Whole o (Rules.effect o a r x) → Rules.May o a x r
          → K (es ++ (Rules.turn_by o a x r).entries) (ss ++ (Rules.turn_by o a x r).answers) (Rules.effect o a r x)
      step x r es ss k X Y m s c y = elim (Contains-append_cases ss (Rules.turn_by o a x r).answers s c) [
        | inl d ↦ entered_keeps o a x r Y (k s d y)
        | inr d ↦ here (of_its (subst (λ (l : List Answer). Contains l s)
            (answers_made o a (join_number x) r (x.node a)) d) y)
      ]
        where
          of_its : Contains (answered a r (x.node a)) s → IsOfWelcome a r s
          of_its = All-contains (IsOfWelcome a r) (answered a r (x.node a)) s
              (All-from_recursion (IsOfWelcome a r) (answered a r (x.node a))
              (of_welcome o a x r (replicas o x X.kept) m))

          here : (f : ℕ) × (k : ℕ) × (members : Nodes) × (pairs : Table) × (told : Nodes) × (fate : Fate)
              × (r ≡ Rules.IsWelcomed f k members pairs told fate) × (s ≡ answer_to a k Joined)
              → Entered o a (Rules.effect o a r x)
          here h = subst (λ (q : Rule). Entered o a (Rules.effect o a q x)) (sym h.6)
              (entered_opens o a x h.0 h.1 h.2 h.3 h.4 h.5 X
              (subst (λ (q : Rule). Whole o (Rules.effect o a q x)) h.6 Y) (subst (Rules.May o a x) h.6 m))

  -- which is still there, so it shows the registry, with the admission
  event_welcomed : (s : Answer) → Contains (turn_of o w e).answers s → s.reply ≡ Joined
      → Shows (standing_at o (accepted o w e)).registry s.node (seen o (accepted o w e))
  event_welcomed s c y = subst (λ (a : ℕ). Shows (standing_at o (accepted o w e)).registry a (seen o (accepted o w e)))
      (sym (answers_here o w e W V H s c))
      (shown o (place e) (accepted o w e) V (event_enters s c y) (A.place_inside, runs e A.running c))
    where
      A : Accepted o w e
      A = accepted_of o w e is

      runs : (e : WorldEvent) → left w (place e) ≡ false → Contains (turn_of o w e).answers s
          → left (accepted o w e) (place e) ≡ false
      runs (At a Event.Leave) h c = absurd (Contains-nil s c)
      runs (At a (Event.Calling x)) h c = h
      runs (At a Event.Retry) h c = h
      runs (At a (Event.Exiting p)) h c = h
      runs (Deliver f t) h c = h

module _ (o : Opening) where
  -- the history is what the events added, and where the last of them answers `joined` its node shows the registry
  record Welcomed (ps : List Played) (w : World) : Type 0 where
    history : w.history ≡ entries_of ps
    shows : (before : List Played) (p : Played) (s : Answer) → ps ≡ before ++ p ∷ [] → Contains p.answers s
        → s.reply ≡ Joined → Shows (standing o ps).registry s.node (seen o w)

  -- nothing was answered yet
  welcomed_opens : Welcomed [] (opening_world o)
  welcomed_opens = record { history = refl; shows = λ before p s e c y. no_last_step before p e }

  -- each accepted event
  welcomed_keeps : (ps : List Played) (w : World) (e : WorldEvent) → Welcomed ps w → Whole o w → Whole o (accepted o w e)
      → refusal o w e ≡ None → Walked o w e → Welcomed (ps ++ played o w e ∷ []) (accepted o w e)
  welcomed_keeps ps w e S W V is H = record {
    history = history_push o ps w e S.history;
    shows = λ before p s i. last_step (λ before q. Contains q.answers s → s.reply ≡ Joined
        → Shows (standing o (ps ++ played o w e ∷ [])).registry s.node (seen o (accepted o w e))) ps (played o w e)
        (last s) before p i;
  }
    where
      last : (s : Answer) → Contains (played o w e).answers s → s.reply ≡ Joined
          → Shows (standing o (ps ++ played o w e ∷ [])).registry s.node (seen o (accepted o w e))
      last s c y = subst (λ (h : List Entry). Shows (standing_of (in_cluster o) h).registry s.node
          (seen o (accepted o w e))) (history_push o ps w e S.history)
          (event_welcomed o w e W V is H s (subst (λ (ss : List Answer). Contains ss s) (answers_given o w e is) c) y)

-- In a step that answers `joined`, the joiner shows the registry
pub joined_is_welcomed : JoinedIsWelcomed
joined_is_welcomed o es before p s e c y =
    (course_keeps o (Welcomed o) (welcomed_keeps o) (welcomed_opens o) es).shows before p s e c y
