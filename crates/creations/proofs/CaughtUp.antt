-- All nodes that haven't started can be told of all that have left: then no `Down` waits for them, and of all others nothing has changed.
use Rattle.std.proofs.Common.{ℕ, Bool, true, false, ◌≡◌, ◌+◌, ◌-◌, List, [], ◌∷◌, ◌++◌, map, refl, sym, ap, subst, ◌∙◌, inl, inr}
use Rattle.std.specs.Prelude.{◌⊎◌, Contains, Option, Some, None, is_none, ◌&&◌, ◌||◌, if◌then◌else◌, flat_map, fold}
use Rattle.std.specs.List.{list_any, list_all}
use Rattle.std.proofs.lemmas.Bool.{cases_eq}
use Rattle.std.proofs.lemmas.List.Sums.{fold-append}
use Rattle.std.proofs.lemmas.List.Folds.{list_all-append}
use Rattle.registry_model.specs.Process.{Process, Nodes, nobody, with_node}
use Rattle.registry_model.specs.Registry.{Registry, opening}
use Rattle.registry_model.specs.History.{Entry, Told, effect, registry_of}
use Rattle.registry_model.proofs.Lists.{Contains-cases, Contains-front, Contains-behind, Contains-nil}
use Rattle.registry_model.proofs.Updates.{at_same, at_other}
use Rattle.protocol_model.specs.Letter.{Id, is_id}
use Rattle.protocol_model.specs.Watch.{Watch, is_dead}
use Rattle.protocol_model.specs.Node.{Node}
use Rattle.protocol_model.specs.Event.{Answer}
use Rattle.protocol_model.specs.World.{Opening, in_cluster, World, left, WorldEvent, Deliver, refusal, accepted, happens, answers, run, all_answers}
use Rattle.protocol_model.specs.ClientLocks.{Try, is_true_to, is_won, gives, is_no_more, Tally, last_try, tallied, tally_after, tally_from}
use Rattle.protocol_model.specs.Fit.{is_delivery}
use Rattle.creations.specs.Restarts.{fresh_node}
use Rattle.protocol_model.proofs.Courses.{run-append, answers-append}
use Rattle.creations.proofs.NamedRuns.{tally-append}
use Rattle.creations.proofs.Telling.{told_all, AreDistinct, Tells, Waits, IsFresh, behind, deliveries_to, tells, happens-told, answers-told, answers_none, fresh_behind, waits_behind}

-- the deaths of the registry aren't changed by notices
notices_dead : (n : ℕ) (ds : List ℕ) (r : Registry) → (fold (λ x e. effect e x) r (map (Told n) ds)).dead ≡ r.dead
notices_dead n [] r = refl
notices_dead n (d ∷ ds) r = notices_dead n ds (effect (Told n d) r)

module _ (o : Opening) (ds : List ℕ) (distinct : AreDistinct ds) where
  -- each of these nodes is told of all of ds
  abbrev pub all_downs : List ℕ → List WorldEvent
  all_downs ns = flat_map (λ n. deliveries_to o n ds) ns

  abbrev deaths : World → Process → Bool
  deaths w = (registry_of (in_cluster o) w.history).dead

  -- those of ns have nothing, and the `Down`s of ds wait for them and nothing else
  pub record Ready (ns : List ℕ) (v : World) : Type 0 where
    pub fresh : (n : ℕ) → Contains ns n → IsFresh o n v nobody
    pub waits : (n d : ℕ) → Contains ns n → Contains ds d → Waits o n v d
    pub nothing : (n f : ℕ) → Contains ns n → (Contains ds f → ⊥) → v.links.queue f n ≡ []

  -- from v to u these were told, and nothing else happened
  pub record CaughtUp (ns : List ℕ) (v u : World) : Type 0 where
    pub others : (a : ℕ) → (Contains ns a → ⊥) → u.node a ≡ v.node a
    pub fresh : (n : ℕ) → Contains ns n → u.node n ≡ fresh_node (told_all nobody ds) n
    pub watch : (a : ℕ) → (u.node a).watch ≡ (v.node a).watch
    pub emptied : (f n : ℕ) → Contains ns n → u.links.queue f n ≡ []
    pub elsewhere : (f t : ℕ) → (Contains ns t → ⊥) → u.links.queue f t ≡ v.links.queue f t
    pub departures : left u ≡ left v
    pub dead : deaths u ≡ deaths v

  module _ (n : ℕ) (ns : List ℕ) (new : Contains ns n → ⊥) (v : World) (R : Ready (n ∷ ns) v) where
    abbrev u : World
    u = run o v (deliveries_to o n ds)

    first : Tells n nobody ds v u
    first = tells o n ds v nobody (R.fresh n (Contains-front n ns)) distinct (λ d i. R.waits n d (Contains-front n ns) i)

    other : (a : ℕ) → Contains ns a → a ≡ n → ⊥
    other a i same = new (subst (λ (x : ℕ). Contains ns x) same i)

    ready_next : Ready ns u
    ready_next = record {
      fresh = λ a i. let old : IsFresh o a v nobody = R.fresh a (Contains-behind n ns a i) in record {
        inside = old.inside;
        stays = ap (λ (s : Nodes). s a) first.departures ∙ old.stays;
        node = first.others a (other a i) ∙ old.node;
      };
      waits = λ a d i j. let old : Waits o a v d = R.waits a d (Contains-behind n ns a i) j in record {
        inside = old.inside;
        other = old.other;
        letter = first.elsewhere d a (other a i) ∙ old.letter;
      };
      nothing = λ a f i no_down. first.elsewhere f a (other a i) ∙ R.nothing a f (Contains-behind n ns a i) no_down;
    }

    same_watch : (a : ℕ) → (u.node a).watch ≡ (v.node a).watch
    same_watch a = elim (cases_eq a n) [
      | inl same ↦ subst (λ (x : ℕ). (u.node x).watch ≡ (v.node x).watch) (sym same)
          (ap (λ (b : Node). b.watch) first.node ∙ sym (ap (λ (b : Node). b.watch) (R.fresh n (Contains-front n ns)).node))
      | inr ne ↦ ap (λ (b : Node). b.watch) (first.others a ne)
    ]

    same_deaths : deaths u ≡ deaths v
    same_deaths = ap (λ (h : List Entry). (registry_of (in_cluster o) h).dead) first.history
        ∙ ap (λ (r : Registry). r.dead) (fold-append (λ (r : Registry) (e : Entry). effect e r) (opening (in_cluster o)) v.history
        (map (Told n) ds))
        ∙ notices_dead n ds (registry_of (in_cluster o) v.history)

    -- for n itself
    emptied_here : (f : ℕ) → ((Contains ds f) ⊎ (Contains ds f → ⊥)) → u.links.queue f n ≡ []
    emptied_here f (inl i) = first.emptied f i
    emptied_here f (inr no_down) = first.waiting f no_down ∙ R.nothing n f (Contains-front n ns) no_down

  -- a node is in a list or not
  pub is_listed : (xs : List ℕ) (c : ℕ) → (Contains xs c) ⊎ (Contains xs c → ⊥)
  is_listed [] c = inr (λ i. Contains-nil c i)
  is_listed (x ∷ xs) c = go (cases_eq x c) (is_listed xs c)
    where
      go : ((x ≡ c) ⊎ (x ≡ c → ⊥)) → ((Contains xs c) ⊎ (Contains xs c → ⊥)) → (Contains (x ∷ xs) c) ⊎ (Contains (x ∷ xs) c → ⊥)
      go (inl same) more = inl (subst (λ (y : ℕ). Contains (x ∷ xs) y) same (Contains-front x xs))
      go (inr ne) (inl i) = inl (Contains-behind x xs c i)
      go (inr ne) (inr none) = inr (λ i. elim (Contains-cases x xs c i) [ inl same ↦ ne same | inr j ↦ none j ])

  pub catch_up : (ns : List ℕ) → AreDistinct ns → (v : World) → Ready ns v → CaughtUp ns v (run o v (all_downs ns))
  catch_up [] D v R = record {
    others = λ a i. refl;
    fresh = λ n i. absurd (Contains-nil n i);
    watch = λ a. refl;
    emptied = λ f n i. absurd (Contains-nil n i);
    elsewhere = λ f t i. refl;
    departures = refl;
    dead = refl;
  }
  catch_up (n ∷ ns) D v R = subst (CaughtUp (n ∷ ns) v) (sym (run-append o v (deliveries_to o n ds) (all_downs ns)))
      (joined (catch_up ns D.1 (u n ns D.0 v R) (ready_next n ns D.0 v R)))
    where
      last : World
      last = run o (u n ns D.0 v R) (all_downs ns)

      joined : CaughtUp ns (u n ns D.0 v R) last → CaughtUp (n ∷ ns) v last
      joined c = record {
        others = λ a out. c.others a (λ i. out (Contains-behind n ns a i))
            ∙ (first n ns D.0 v R).others a (λ same. out (subst (λ (x : ℕ). Contains (n ∷ ns) x) (sym same) (Contains-front n ns)));
        fresh = λ a i. elim (Contains-cases n ns a i) [
          | inl same ↦ subst (λ (x : ℕ). last.node x ≡ fresh_node (told_all nobody ds) x) same
              (c.others n D.0 ∙ (first n ns D.0 v R).node)
          | inr more ↦ c.fresh a more
        ];
        watch = λ a. c.watch a ∙ same_watch n ns D.0 v R a;
        emptied = λ f a i. elim (Contains-cases n ns a i) [
          | inl same ↦ subst (λ (x : ℕ). last.links.queue f x ≡ []) same
              (c.elsewhere f n D.0 ∙ emptied_here n ns D.0 v R f (is_listed ds f))
          | inr more ↦ c.emptied f a more
        ];
        elsewhere = λ f t out. c.elsewhere f t (λ i. out (Contains-behind n ns t i))
            ∙ (first n ns D.0 v R).elsewhere f t
            (λ same. out (subst (λ (x : ℕ). Contains (n ∷ ns) x) (sym same) (Contains-front n ns)));
        departures = c.departures ∙ (first n ns D.0 v R).departures;
        dead = c.dead ∙ same_deaths n ns D.0 v R;
      }

  -- nothing is answered
  pub unanswered : (ns : List ℕ) → AreDistinct ns → (v : World) → Ready ns v → all_answers o v (all_downs ns) ≡ []
  unanswered [] D v R = refl
  unanswered (n ∷ ns) D v R = answers-append o v (deliveries_to o n ds) (all_downs ns)
      ∙ ap (λ (xs : List Answer). xs ++ all_answers o (u n ns D.0 v R) (all_downs ns))
      (answers_none o n ds v nobody (R.fresh n (Contains-front n ns)) distinct (λ d i. R.waits n d (Contains-front n ns) i))
      ∙ unanswered ns D.1 (u n ns D.0 v R) (ready_next n ns D.0 v R)

  -- and these are deliveries
  pub are_deliveries : (ns : List ℕ) → list_all is_delivery (all_downs ns) ≡ true
  are_deliveries [] = refl
  are_deliveries (n ∷ ns) = list_all-append is_delivery (deliveries_to o n ds) (all_downs ns)
      ∙ ap (λ (b : Bool). b && list_all is_delivery (all_downs ns)) (one ds) ∙ are_deliveries ns
    where
      one : (xs : List ℕ) → list_all is_delivery (deliveries_to o n xs) ≡ true
      one [] = refl
      one (x ∷ xs) = one xs

  -- How often a process holds a lock
  module _ (p : Process) (id : Id) (c : ℕ) where
    -- who is no more holds nothing
    abbrev pub IsSpent : World → Tally → Type 0
    IsSpent v t = is_no_more v p ≡ true → t.number ≡ 0

    pub spent_next : (v : World) (e : WorldEvent) (t : Tally) → IsSpent v t
        → IsSpent (happens o v e) (tally_after o v e p id c t)
    spent_next v e t z q = go (is_none (refusal o v e)) refl
      where
        go : (b : Bool) → is_none (refusal o v e) ≡ b → (if b then tallied o v e p id c t else t).number ≡ 0
        go true k = ap (λ (b : Bool). if b then 0 else (if is_won p id c (answers o v e) (last_try v e p t.last)
            then t.number + 1 else (if gives v e p id c then t.number - 1 else t.number))) q
        go false k = z (sym (ap (λ (b : Bool). is_no_more (if b then accepted o v e else v) p) k) ∙ q)

    pub spent_all : (es : List WorldEvent) (v : World) (t : Tally) → IsSpent v t
        → IsSpent (run o v es) (tally_from o v es p id c t)
    spent_all [] v t z = z
    spent_all (e ∷ es) v t z = spent_all es (happens o v e) (tally_after o v e p id c t) (spent_next v e t z)

    -- nothing is won where nothing is answered
    won_nothing : (last : Option Try) → is_won p id c [] last ≡ false
    won_nothing None = refl
    won_nothing (Some t) = go (is_id t.id id) (t.asks c)
      where
        go : (b d : Bool) → (b && d && list_any (is_true_to p t) []) ≡ false
        go true true = refl
        go true false = refl
        go false d = refl

    -- the count stays
    kept_number : (b won : Bool) (k : ℕ) → won ≡ false → (b ≡ true → k ≡ 0)
        → (if b then 0 else (if won then k + 1 else (if false then k - 1 else k))) ≡ k
    kept_number true won k e z = sym (z refl)
    kept_number false false k e z = refl
    kept_number false true k e z = absurd (cc e)

    module _ (n : ℕ) where
      same_gone : (v : World) (T : Nodes) (d : ℕ) → IsFresh o n v T → Waits o n v d
          → is_no_more (happens o v (Deliver d n)) p ≡ is_no_more v p
      same_gone v T d F W = ap (λ (x : World). is_no_more x p) (happens-told o n v T d F W)
          ∙ ap (λ (x : Watch). left v p.node || is_dead x p.serial) (elim (cases_eq p.node n) [
            | inl same ↦ subst (λ (y : ℕ). ((behind o n v T d).node y).watch ≡ (v.node y).watch) (sym same)
                (ap (λ (b : Node). b.watch) (at_same v.node n (fresh_node (with_node d T) n))
                ∙ sym (ap (λ (b : Node). b.watch) F.node))
            | inr ne ↦ ap (λ (b : Node). b.watch) (at_other v.node n (fresh_node (with_node d T) n) p.node ne)
          ])

      one_count : (v : World) (T : Nodes) (d : ℕ) (t : Tally) → IsFresh o n v T → Waits o n v d → IsSpent v t
          → (tally_after o v (Deliver d n) p id c t).number ≡ t.number
      one_count v T d t F W z = go (is_none (refusal o v (Deliver d n)))
        where
          go : (b : Bool) → (if b then tallied o v (Deliver d n) p id c t else t).number ≡ t.number
          go true = kept_number (is_no_more (happens o v (Deliver d n)) p)
              (is_won p id c (answers o v (Deliver d n)) t.last) t.number
              (ap (λ (given : List Answer). is_won p id c given t.last) (answers-told o n v T d F W) ∙ won_nothing t.last)
              (λ q. z (sym (same_gone v T d F W) ∙ q))
          go false = refl

      node_count : (xs : List ℕ) (v : World) (T : Nodes) (t : Tally) → IsFresh o n v T → AreDistinct xs
          → ((f : ℕ) → Contains xs f → Waits o n v f) → IsSpent v t
          → (tally_from o v (deliveries_to o n xs) p id c t).number ≡ t.number
      node_count [] v T t F D W z = refl
      node_count (d ∷ xs) v T t F D W z =
          subst (λ (x : World). (tally_from o x (deliveries_to o n xs) p id c t1).number ≡ t1.number)
          (sym same) (node_count xs (behind o n v T d) (with_node d T) t1 (fresh_behind o n v T d F) D.1
          (waits_behind o n v T d xs D.0 W) (subst (λ (x : World). IsSpent x t1) same (spent_next v (Deliver d n) t z)))
          ∙ one_count v T d t F (W d (Contains-front d xs)) z
        where
          t1 : Tally
          t1 = tally_after o v (Deliver d n) p id c t

          same : happens o v (Deliver d n) ≡ behind o n v T d
          same = happens-told o n v T d F (W d (Contains-front d xs))

    pub counts_kept : (ns : List ℕ) → AreDistinct ns → (v : World) (t : Tally) → Ready ns v → IsSpent v t
        → (tally_from o v (all_downs ns) p id c t).number ≡ t.number
    counts_kept [] D v t R z = refl
    counts_kept (n ∷ ns) D v t R z =
        ap (λ (x : Tally). x.number) (tally-append o p id c v (deliveries_to o n ds) (all_downs ns) t)
        ∙ counts_kept ns D.1 (u n ns D.0 v R) (tally_from o v (deliveries_to o n ds) p id c t) (ready_next n ns D.0 v R)
        (spent_all (deliveries_to o n ds) v t z)
        ∙ node_count n ds v nobody t (R.fresh n (Contains-front n ns)) distinct
        (λ d i. R.waits n d (Contains-front n ns) i) z
