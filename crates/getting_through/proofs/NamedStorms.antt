-- Deliveries and retries by names are those of the world in which all nodes that haven't started were told of all that have left: there as
-- much is pending as here, so none of them raises it, and where a refused registrar is retried less is pending behind them.
use Rattle.std.proofs.Common.{ℕ, Bool, true, false, ◌≡◌, ◌<◌, ◌≤◌, ◌+◌, Option, Some, None, List, [], ◌∷◌, ◌++◌, refl, sym, ap, subst, ◌∙◌, arith}
use Rattle.std.specs.Prelude.{Contains, is_none, not, ◌&&◌, if◌then◌else◌}
use Rattle.std.specs.List.{list_all}
use Rattle.std.proofs.lemmas.List.Sums.{fold-append}
use Rattle.std.proofs.lemmas.List.Folds.{list_all-append}
use Rattle.registry_model.specs.Process.{Nodes}
use Rattle.protocol_model.specs.Node.{Node, Op, Current}
use Rattle.protocol_model.specs.Event.{Event, NoSuchNode}
use Rattle.protocol_model.specs.World.{Opening, in_world, World, left, WorldEvent, At, opening_world, refusal, run, all_answers}
use Rattle.protocol_model.proofs.Courses.{run-append}
use Rattle.no_dead_end.proofs.Indices.{both, not_true}
use Rattle.no_dead_end.specs.NodeNames.{NamedOpening, opening_of}
use Rattle.no_dead_end.specs.NamedWorld.{NamedWorld, NamedEvent, NamedRefusal, Plain, present_node, has_started, sender_to, named_refusal, plain_refusal, plain, plain_accepted, plain_events, accepted_named, happens_named, run_named, opening_named, after_events}
use Rattle.no_dead_end.specs.Restarts.{IsUp}
use Rattle.no_dead_end.proofs.Alike.{Alike, AreWithin, same_refusal, within-append, run_alike}
use Rattle.no_dead_end.proofs.Always.{always, happens_keeps}
use Rattle.no_dead_end.proofs.LeftOfNames
use Rattle.no_dead_end.proofs.QuietNames
use Rattle.no_dead_end.proofs.NamedRuns.{run-plain, named_runs_are_runs, plain_events-append}
use Rattle.no_dead_end.proofs.Standing.{Sound, present_started, least_started, unrefused}
use Rattle.no_dead_end.specs.Weights.{sum_below, when, of_link, of_node, of_place}
use Rattle.no_dead_end.proofs.Sums.{sum-same, sum-le, sum-zero}
use Rattle.no_dead_end.proofs.NamedDeliveries.{counts_up}
use Rattle.getting_through.specs.Pending.{pending, pending_weights}
use Rattle.getting_through.specs.GettingThrough.{IsStorm}
use Rattle.getting_through.proofs.PendingParts.{plain as plain_pending, node_is}
use Rattle.getting_through.proofs.Freeing.{pending_never_rises, lowers}
use Rattle.no_dead_end.specs.Worlds.{of_nodes, IsQuiet, running, is_delivery_or_retry}
use Rattle.no_dead_end.specs.Clauses.{world}
use Rattle.no_dead_end.specs.WorldsOfNames.{of_names, OfNames, is_named_delivery_or_retry, up}
use Rattle.getting_through.specs.GettingFree.{PendingStays}

module _ (o : NamedOpening) where
  abbrev pub O : Opening
  O = opening_of o

  -- no name comes back by these
  pub one_started : (w : NamedWorld) (e : NamedEvent) → is_named_delivery_or_retry e ≡ true
      → has_started o (happens_named o w e) ≡ has_started o w
  one_started w (NamedEvent.Deliver x y) k = go (named_refusal o w (NamedEvent.Deliver x y))
    where
      go : (r : Option NamedRefusal)
          → has_started o (if is_none r then accepted_named o w (NamedEvent.Deliver x y) else w) ≡ has_started o w
      go None = refl
      go (Some r) = refl
  one_started w (NamedEvent.AtNode n Event.Retry) k = go (named_refusal o w (NamedEvent.AtNode n Event.Retry))
    where
      go : (r : Option NamedRefusal)
          → has_started o (if is_none r then accepted_named o w (NamedEvent.AtNode n Event.Retry) else w) ≡ has_started o w
      go None = refl
      go (Some r) = refl
  one_started w (NamedEvent.AtNode n (Event.Calling c)) k = cc k
  one_started w (NamedEvent.AtNode n (Event.Exiting p)) k = cc k
  one_started w (NamedEvent.AtNode n Event.Leave) k = cc k
  one_started w (NamedEvent.At x e) k = cc k
  one_started w (NamedEvent.Restart x) k = cc k

  -- in the world they are deliveries and retries of nodes that have started
  abbrev pub Fit : NamedWorld → List WorldEvent → Type 0
  Fit w fs = AreWithin O (has_started o w) fs × (list_all is_delivery_or_retry fs ≡ true)

  one_fits : (w : NamedWorld) → Sound o w → (e : NamedEvent) → is_named_delivery_or_retry e ≡ true → Fit w (plain_accepted o w e)
  one_fits w s (NamedEvent.Deliver x y) k = go (named_refusal o w (NamedEvent.Deliver x y)) refl
    where
      d : WorldEvent
      d = WorldEvent.Deliver (sender_to o w x y) (present_node o w y)

      go : (r : Option NamedRefusal) → named_refusal o w (NamedEvent.Deliver x y) ≡ r → Fit w (if is_none r then d ∷ [] else [])
      go None q = (((tt, present_started o w s y, (unrefused o w s d q).0), tt), refl)
      go (Some r) q = (tt, refl)
  one_fits w s (NamedEvent.AtNode n Event.Retry) k = go (named_refusal o w (NamedEvent.AtNode n Event.Retry)) refl
    where
      e : WorldEvent
      e = At n Event.Retry

      by : (b : Bool) → has_started o w n ≡ b → (if b then plain_refusal o w e else Some (Plain NoSuchNode)) ≡ None
          → Fit w (e ∷ [])
      by true j q = (((tt, j, (unrefused o w s e q).0), tt), refl)
      by false j q = absurd (cc q)

      go : (r : Option NamedRefusal) → named_refusal o w (NamedEvent.AtNode n Event.Retry) ≡ r
          → Fit w (if is_none r then e ∷ [] else [])
      go None q = by (has_started o w n) refl q
      go (Some r) q = (tt, refl)
  one_fits w s (NamedEvent.AtNode n (Event.Calling c)) k = cc k
  one_fits w s (NamedEvent.AtNode n (Event.Exiting p)) k = cc k
  one_fits w s (NamedEvent.AtNode n Event.Leave) k = cc k
  one_fits w s (NamedEvent.At x e) k = cc k
  one_fits w s (NamedEvent.Restart x) k = cc k

  pub all_fit : (es : List NamedEvent) (w : NamedWorld) → Sound o w → list_all is_named_delivery_or_retry es ≡ true
      → Fit w (plain_events o w es) × (has_started o (run_named o w es) ≡ has_started o w)
  all_fit [] w s k = ((tt, refl), refl)
  all_fit (e ∷ es) w s k =
      let p : (is_named_delivery_or_retry e ≡ true) × (list_all is_named_delivery_or_retry es ≡ true) =
      both (is_named_delivery_or_retry e) (list_all is_named_delivery_or_retry es) k in
      let one : Fit w (plain_accepted o w e) = one_fits w s e p.0 in
      let more : Fit (happens_named o w e) (plain_events o (happens_named o w e) es)
      × (has_started o (run_named o (happens_named o w e) es) ≡ has_started o (happens_named o w e)) =
      all_fit es (happens_named o w e) (happens_keeps o w e s) p.1 in (
        (
          within-append O (has_started o w) (plain_accepted o w e) (plain_events o (happens_named o w e) es) one.0
              (subst (λ (S : Nodes). AreWithin O S (plain_events o (happens_named o w e) es)) (one_started w e p.0) more.0.0),
          list_all-append is_delivery_or_retry (plain_accepted o w e) (plain_events o (happens_named o w e) es)
              ∙ ap (λ (b : Bool). b && list_all is_delivery_or_retry (plain_events o (happens_named o w e) es)) one.1 ∙ more.0.1,
        ),
        more.1 ∙ one_started w e p.0,
      )

-- What is pending at a node goes by the node and the letters to it alone
module _ (o : Opening) (c : ℕ) where
  place_same : (s t : Nodes) (v z : World) → z.node c ≡ v.node c → ((f : ℕ) → z.links.queue f c ≡ v.links.queue f c)
      → of_place o.bound pending_weights s v c ≡ of_place o.bound pending_weights t z c
  place_same s t v z e q = ap (λ (k : ℕ). k + sum_below o.bound (λ f. of_link pending_weights f c (v.links.queue f c))) nodes
      ∙ ap (λ (k : ℕ). of_node o.bound pending_weights t c (z.node c) + k) links
    where
      nodes : of_node o.bound pending_weights s c (v.node c) ≡ of_node o.bound pending_weights t c (z.node c)
      nodes = node_is o s c (v.node c) ∙ ap (plain_pending o s c) (sym e) ∙ sym (node_is o t c (z.node c))

      links : sum_below o.bound (λ f. of_link pending_weights f c (v.links.queue f c))
          ≡ sum_below o.bound (λ f. of_link pending_weights f c (z.links.queue f c))
      links = sum-same o.bound (λ f. of_link pending_weights f c (v.links.queue f c))
          (λ f. of_link pending_weights f c (z.links.queue f c)) (λ f l. ap (of_link pending_weights f c) (sym (q f)))

  -- nothing is at a node that has nothing
  place_none : (s : Nodes) (v : World) → plain_pending o s c (v.node c) ≡ 0 → ((f : ℕ) → v.links.queue f c ≡ [])
      → of_place o.bound pending_weights s v c ≡ 0
  place_none s v e q =
      let nodes : of_node o.bound pending_weights s c (v.node c) ≡ 0 = node_is o s c (v.node c) ∙ e in
      let links : sum_below o.bound (λ f. of_link pending_weights f c (v.links.queue f c)) ≡ 0 =
      sum-same o.bound (λ f. of_link pending_weights f c (v.links.queue f c)) (λ f. 0)
      (λ f l. ap (of_link pending_weights f c) (q f)) ∙ sum-zero o.bound in omega (arith, nodes, links)

module _ (o : NamedOpening) where
  -- who is up counts
  up_counts : (w : NamedWorld) (c : ℕ) → IsUp o w c → up o w c ≡ true
  up_counts w c u = rw (u.inside, u.started, u.stays) refl

  -- in a world that is alike at those that have started no less is pending
  no_less : (x : NamedWorld) (y : World) → Alike (O o) (has_started o x) x.world y → pending (of_names o) x ≤ pending (of_nodes (O o)) y
  no_less x y A = sum-le (O o).bound (λ c. when (up o x c) (of_place (O o).bound pending_weights (up o x) x.world c))
      (λ c. when (running (O o) y c) (of_place (O o).bound pending_weights (running (O o) y) y c)) (λ c l. go c (up o x c) refl)
    where
      go : (c : ℕ) (t : Bool) → up o x c ≡ t → when t (of_place (O o).bound pending_weights (up o x) x.world c)
          ≤ when (running (O o) y c) (of_place (O o).bound pending_weights (running (O o) y) y c)
      go c false e = omega arith
      go c true e =
          let u : IsUp o x c = counts_up o x c e in
          let r : running (O o) y c ≡ true = rw (u.inside, ap (λ (l : Nodes). l c) A.departures ∙ u.stays) refl in
          let h : of_place (O o).bound pending_weights (up o x) x.world c
          ≡ of_place (O o).bound pending_weights (running (O o) y) y c =
          place_same (O o) c (up o x) (running (O o) y) x.world y (A.node c u.started) (λ f. A.queue f c u.started) in
          subst (λ (b : Bool). of_place (O o).bound pending_weights (up o x) x.world c
          ≤ when b (of_place (O o).bound pending_weights (running (O o) y) y c)) (sym r) (omega (arith, h))

module _ (o : NamedOpening) (es : List NamedEvent) where
  abbrev pub E : List WorldEvent
  E = LeftOfNames.E o es

  abbrev pub F : List WorldEvent
  F = LeftOfNames.F o es

  abbrev pub w : NamedWorld
  w = LeftOfNames.w o es

  abbrev pub u : World
  u = LeftOfNames.u o es

  abbrev late : List ℕ
  late = LeftOfNames.late o es

  abbrev pub S : Nodes
  S = has_started o w

  pub s : Sound o w
  s = LeftOfNames.s o es

  -- the world as it was and the one in which all were told are alike
  pub alike : Alike (O o) S w.world u
  alike = QuietNames.alike o es

  pub told_world : world (O o) (E ++ F) ≡ u
  told_world = run-append (O o) (opening_world (O o)) E F
      ∙ ap (λ (v : World). run (O o) v F) (sym (named_runs_are_runs o es))

  -- nor is more pending there, since nodes that haven't started have nothing
  no_more : pending (of_nodes (O o)) u ≤ pending (of_names o) w
  no_more = sum-le (O o).bound (λ c. when (running (O o) u c) (of_place (O o).bound pending_weights (running (O o) u) u c))
      (λ c. when (up o w c) (of_place (O o).bound pending_weights (up o w) w.world c))
      (λ c l. go c (running (O o) u c) refl (S c) refl)
    where
      go : (c : ℕ) (t : Bool) → running (O o) u c ≡ t → (b : Bool) → S c ≡ b
          → when t (of_place (O o).bound pending_weights (running (O o) u) u c)
          ≤ when (up o w c) (of_place (O o).bound pending_weights (up o w) w.world c)
      go c false e b f = omega arith
      go c true e b f = here b f (both (in_world (O o) c) (not (left u c)) e)
        where
          here : (d : Bool) → S c ≡ d → (in_world (O o) c ≡ true) × (not (left u c) ≡ true)
              → of_place (O o).bound pending_weights (running (O o) u) u c
              ≤ when (up o w c) (of_place (O o).bound pending_weights (up o w) w.world c)
          here true g p =
              let r : up o w c ≡ true =
              up_counts o w c (record {
                inside = p.0;
                started = g;
                stays = sym (LeftOfNames.left_same o es c) ∙ not_true (left u c) p.1;
              }) in
              let h : of_place (O o).bound pending_weights (up o w) w.world c
              ≡ of_place (O o).bound pending_weights (running (O o) u) u c =
              place_same (O o) c (up o w) (running (O o) u) w.world u (alike.node c g) (λ f. alike.queue f c g) in
              subst (λ (d : Bool). of_place (O o).bound pending_weights (running (O o) u) u c
              ≤ when d (of_place (O o).bound pending_weights (up o w) w.world c)) (sym r) (omega (arith, h))
          here false g p =
              let i : Contains late c = LeftOfNames.is_late o es c g p.0 in
              let h : of_place (O o).bound pending_weights (running (O o) u) u c ≡ 0 =
              place_none (O o) c (running (O o) u) u
              (ap (plain_pending (O o) (running (O o) u) c) ((LeftOfNames.caught o es).fresh c i))
              (λ f. (LeftOfNames.caught o es).emptied f c i) in omega (arith, h)

  -- behind deliveries and retries
  module _ (fs : List NamedEvent) (k : list_all is_named_delivery_or_retry fs ≡ true) where
    abbrev pub x : NamedWorld
    x = run_named o w fs

    abbrev pub P : List WorldEvent
    P = plain_events o w fs

    abbrev pub y : World
    y = run (O o) u P

    pub fit : Fit o w P × (has_started o x ≡ S)
    fit = all_fit o fs w s k

    pub behind : (all_answers (O o) u P ≡ all_answers (O o) w.world P) × Alike (O o) S (run (O o) w.world P) y
    behind = run_alike (O o) S P (least_started o w s) fit.0.0 w.world u s.apart alike

    pub B : Alike (O o) S x.world y
    B = subst (λ (v : World). Alike (O o) S v y) (sym (run-plain o w fs)) behind.1

    pub reached : y ≡ world (O o) ((E ++ F) ++ P)
    reached = sym (run-append (O o) (opening_world (O o)) (E ++ F) P
        ∙ ap (λ (v : World). run (O o) v P) (run-append (O o) (opening_world (O o)) E F
        ∙ ap (λ (v : World). run (O o) v F) (sym (named_runs_are_runs o es))))

    pub quiet_there : IsQuiet (of_names o) x → IsQuiet (of_nodes (O o)) y
    quiet_there h f c i r = go (S c) refl
      where
        go : (b : Bool) → S c ≡ b → y.links.queue f c ≡ []
        go true e =
            let up : IsUp o x c = record {
              inside = r.0;
              started = ap (λ (z : Nodes). z c) fit.1 ∙ e;
              stays = sym (ap (λ (l : Nodes). l c) B.departures) ∙ r.1;
            } in B.queue f c e ∙ h f c i up
        go false e = B.late f c e

    no_less_there : pending (of_names o) x ≤ pending (of_nodes (O o)) y
    no_less_there = no_less o x y (subst (λ (z : Nodes). Alike (O o) z x.world y) (sym fit.1) B)

    -- no more is pending than was
    pub stays : pending (of_names o) x ≤ pending (of_names o) w
    stays =
        let there : pending (of_nodes (O o)) y ≤ pending (of_nodes (O o)) u =
        subst (λ (v : World). pending (of_nodes (O o)) (run (O o) v P) ≤ pending (of_nodes (O o)) v) told_world
        (pending_never_rises (O o) (E ++ F) P fit.0.1) in
        let before : pending (of_nodes (O o)) u ≤ pending (of_names o) w = no_more in
        let after : pending (of_names o) x ≤ pending (of_nodes (O o)) y = no_less_there in omega (arith, there, before, after)

    -- a sound world
    at_events : after_events o (es ++ fs) ≡ x
    at_events = fold-append (happens_named o) (opening_named o) es fs

    pub sound : Sound o x
    sound = subst (Sound o) at_events (always o (es ++ fs))

  -- From a quiet world letters are delivered and nodes retried, n among them, until no letter waits
  module _ (n : ℕ) (xs ys : List NamedEvent) (T : IsStorm (of_names o) w n xs ys) where
    abbrev pub retry : NamedEvent
    retry = NamedEvent.AtNode n Event.Retry

    abbrev pub all : List NamedEvent
    all = xs ++ retry ∷ ys

    abbrev pub X : List WorldEvent
    X = P xs T.first

    abbrev pub after : NamedWorld
    after = happens_named o (x xs T.first) retry

    abbrev pub Y : List WorldEvent
    Y = plain_events o after ys

    pub kinds : list_all is_named_delivery_or_retry all ≡ true
    kinds = list_all-append is_named_delivery_or_retry xs (retry ∷ ys)
        ∙ ap (λ (b : Bool). b && list_all is_named_delivery_or_retry ys) T.first ∙ T.later

    pub plain_is : P all kinds ≡ X ++ At n Event.Retry ∷ Y
    plain_is = plain_events-append o w xs (retry ∷ ys)
        ∙ ap (λ (r : Option NamedRefusal). X ++ ((if is_none r then plain o (x xs T.first) retry else []) ++ Y)) T.accepted

    there : y all kinds ≡ run (O o) u (X ++ At n Event.Retry ∷ Y)
    there = ap (run (O o) u) plain_is

    -- it is accepted there
    allowed : (has_started o (x xs T.first) n ≡ true) × (refusal (O o) (x xs T.first).world (At n Event.Retry) ≡ None)
    allowed = by (has_started o (x xs T.first) n) refl T.accepted
      where
        by : (b : Bool) → has_started o (x xs T.first) n ≡ b
            → (if b then plain_refusal o (x xs T.first) (At n Event.Retry) else Some (Plain NoSuchNode)) ≡ None
            → (has_started o (x xs T.first) n ≡ true) × (refusal (O o) (x xs T.first).world (At n Event.Retry) ≡ None)
        by true j q = (j, (unrefused o (x xs T.first) (sound xs T.first) (At n Event.Retry) q).1)
        by false j q = absurd (cc q)

    pub storm : IsStorm (of_nodes (O o)) u n X Y
    storm = record {
      before = LeftOfNames.quiet o es T.before;
      first = (fit xs T.first).0.1;
      accepted = same_refusal (O o) S (x xs T.first).world (y xs T.first) (B xs T.first) (At n Event.Retry)
          (sym (ap (λ (z : Nodes). z n) (fit xs T.first).1) ∙ allowed.0) ∙ allowed.1;
      later = (all_fit o ys after (happens_keeps o (x xs T.first) retry (sound xs T.first)) T.later).0.1;
      behind = subst (IsQuiet (of_nodes (O o))) there (quiet_there all kinds T.behind);
    }

    -- where its registrar was refused less is pending behind them
    pub fewer : (op : Op) → IsUp o w n → (w.world.node n).current ≡ Current.Waiting op
        → pending (of_names o) (run_named o w all) < pending (of_names o) w
    fewer op up e =
        let less : pending (of_nodes (O o)) (run (O o) u (X ++ At n Event.Retry ∷ Y)) < pending (of_nodes (O o)) u =
        lowers (O o) (E ++ F) u (sym told_world) n op X Y (up.inside, LeftOfNames.left_same o es n ∙ up.stays)
        (ap (λ (v : Node). v.current) (alike.node n up.started) ∙ e) storm in
        let same : pending (of_nodes (O o)) (y all kinds) ≡ pending (of_nodes (O o)) (run (O o) u (X ++ At n Event.Retry ∷ Y)) =
        ap (pending (of_nodes (O o))) there in
        let before : pending (of_nodes (O o)) u ≤ pending (of_names o) w = no_more in
        let behind : pending (of_names o) (run_named o w all) ≤ pending (of_nodes (O o)) (y all kinds) = no_less_there all kinds in
        omega (arith, less, same, before, behind)

pub named_pending_never_rises : OfNames PendingStays
named_pending_never_rises o es fs k = stays o es fs k
