-- What a restart that is accepted makes of the world, and that all that holds of the nodes of all names holds behind it.
use mathlib.Core.Logic.{inl, inr}
use Rattle.std.proofs.Common.{ℕ, Bool, true, false, ◌==◌, ◌≡◌, ◌<◌, ◌≤◌, ◌+◌, List, [], ◌∷◌, map, refl, sym, ap, subst, ◌∙◌, arith}
use Rattle.std.specs.Prelude.{◌⊎◌, Contains, Option, Some, None, fold, not, ◌&&◌, nat_lt, if◌then◌else◌, All}
use Rattle.std.proofs.lemmas.Bool.{cases_eq, eqb-true, eq-eqb, not-false, ltb-true, lt-ltb, false_from_ne_true}
use Rattle.std.proofs.lemmas.List.Elements.{All-nil, All-weaker, All-map}
use Rattle.std.proofs.lemmas.List.Sums.{fold-append}
use Rattle.registry_model.specs.Process.{Nodes, nobody}
use Rattle.registry_model.specs.Registry.{Registry, opening}
use Rattle.registry_model.specs.History.{Entry, Told, effect, registry_of}
use Rattle.registry_model.proofs.Updates.{by_test}
use Rattle.protocol_model.specs.Letter.{Letter}
use Rattle.protocol_model.specs.Node.{Node}
use Rattle.protocol_model.specs.Event.{NoSuchNode}
use Rattle.protocol_model.specs.Turn.{begun}
use Rattle.protocol_model.specs.Course.{Played, course}
use Rattle.protocol_model.specs.World.{in_world, in_cluster, World, left, run, all_answers}
use Rattle.creations.specs.NodeNames.{NamedOpening, is_name, node_of, name_of, creation_of, opening_of, HasNumber}
use Rattle.creations.specs.NamedWorld.{NamedWorld, Plain, StillRunning, CreationsSpent, Restart, present_node, has_started, running_nodes, next_node, first_untold, untold_or_spent, named_refusal, plain, accepted_named}
use Rattle.creations.specs.Restarts.{fresh_node, who_left, IsUp, IsReplaced, restarted, StartsAnew}
use Rattle.creations.proofs.Numbers.{name-node, creation-node, node-number, inside-name}
use Rattle.creations.proofs.Inside.{IsOwnedIn, IsGrantIn, IsCallIn, IsLetterIn, IsSentIn, IsEntryIn, IsInside}
use Rattle.creations.proofs.Apart.{Apart}
use Rattle.creations.proofs.Recorded.{RegistryIn, entries_recorded, wider_recorded, restart_is_its_notices}
use Rattle.creations.proofs.Catching
use Rattle.creations.proofs.Running.{runs_listed}
use Rattle.creations.proofs.Wider
use Rattle.creations.proofs.Telling.{Tells, Waits, IsFresh, deliveries_to, tells, answers_none, played_all}
use Rattle.creations.proofs.Lists.{find_none, pairs_rise}
use Rattle.creations.proofs.Standing.{Sound, started_from, started_to}

-- why a restart may be
pub record MayRestart (o : NamedOpening) (w : NamedWorld) (x : ℕ) : Type 0 where
  pub known : is_name o x ≡ true
  pub gone : left w.world (present_node o w x) ≡ true
  pub told : first_untold o w (present_node o w x) ≡ None
  pub further : w.present x < o.last

pub may_restart : (o : NamedOpening) (w : NamedWorld) (x : ℕ) → named_refusal o w (Restart x) ≡ None → MayRestart o w x
may_restart o w x r = go (is_name o x) (left w.world (present_node o w x)) (first_untold o w (present_node o w x)) refl refl refl r
  where
    by : (b : Bool) → nat_lt (w.present x) o.last ≡ b → (if b then None else Some CreationsSpent) ≡ None → b ≡ true
    by true e q = refl
    by false e q = absurd (cc q)

    go : (b c : Bool) (u : Option ℕ) → is_name o x ≡ b → left w.world (present_node o w x) ≡ c
        → first_untold o w (present_node o w x) ≡ u
        → (if not b then Some (Plain NoSuchNode) else (if c then untold_or_spent o w x u else Some StillRunning)) ≡ None
        → MayRestart o w x
    go true true None e f g q = record {
      known = e;
      gone = f;
      told = g;
      further = ltb-true (w.present x) o.last (by (nat_lt (w.present x) o.last) refl q);
    }
    go true true (Some m) e f g q = absurd (cc q)
    go true false u e f g q = absurd (cc q)
    go false c u e f g q = absurd (cc q)

module _ (o : NamedOpening) (w : NamedWorld) (s : Sound o w) (x : ℕ) (m : MayRestart o w x) where
  -- the node that starts
  abbrev n : ℕ
  n = next_node o w x

  abbrev S : Nodes
  S = has_started o w

  next_creation : HasNumber o (w.present x + 1)
  next_creation = let l : w.present x < o.last = m.further in record { first = omega arith; last = omega arith }

  name-n : name_of o n ≡ x
  name-n = name-node o x (w.present x + 1) next_creation

  creation-n : creation_of o n ≡ w.present x + 1
  creation-n = creation-node o x (w.present x + 1) next_creation

  unstarted : S n ≡ false
  unstarted =
      let c : creation_of o n ≡ w.present x + 1 = creation-n in
      let p : w.present (name_of o n) ≡ w.present x = ap w.present name-n in
      ap not (lt-ltb (w.present (name_of o n)) (creation_of o n) (omega (arith, c, p)))

  inside-n : in_world (opening_of o) n ≡ true
  inside-n = inside-name o n ∙ ap (is_name o) name-n ∙ m.known

  abbrev downs : (d : ℕ) → w.world.links.queue d n ≡ (if left w.world d then Letter.Down ∷ [] else [])
  downs = Catching.downs o w s n unstarted inside-n

  abbrev listed : (d : ℕ) → left w.world d ≡ true → Contains (who_left o w) d
  listed = Catching.listed o w s

  abbrev has_left : (d : ℕ) → Contains (who_left o w) d → left w.world d ≡ true
  has_left = Catching.has_left o w s

  abbrev fresh : IsFresh (opening_of o) n w.world nobody
  fresh = Catching.fresh o w s n unstarted inside-n

  abbrev waits : (d : ℕ) → Contains (who_left o w) d → Waits (opening_of o) n w.world d
  waits = Catching.waits o w s n unstarted inside-n

  -- the world behind it
  abbrev v : World
  v = run (opening_of o) w.world (plain o w (Restart x))

  told : Tells n nobody (who_left o w) w.world v
  told = subst (λ (ds : List ℕ). Tells n nobody (who_left o w) w.world (run (opening_of o) w.world (deliveries_to (opening_of o) n ds)))
      (sym (Catching.who_waits o w s n unstarted inside-n))
      (tells (opening_of o) n (who_left o w) w.world nobody fresh (Catching.distinct o w s) waits)

  unanswered : all_answers (opening_of o) w.world (plain o w (Restart x)) ≡ []
  unanswered = ap (λ (ds : List ℕ). all_answers (opening_of o) w.world (deliveries_to (opening_of o) n ds))
      (Catching.who_waits o w s n unstarted inside-n)
      ∙ answers_none (opening_of o) n (who_left o w) w.world nobody fresh (Catching.distinct o w s) waits

  pub notices_played : map (λ (p : Played). p.event) (course (opening_of o) w.world (plain o w (Restart x))) ≡ plain o w (Restart x)
  notices_played = subst (λ (ds : List ℕ). map (λ (p : Played). p.event) (course (opening_of o) w.world (deliveries_to (opening_of o) n ds))
      ≡ deliveries_to (opening_of o) n ds) (sym (Catching.who_waits o w s n unstarted inside-n))
      (played_all (opening_of o) n (who_left o w) w.world nobody fresh (Catching.distinct o w s) waits)

  node-n : v.node n ≡ fresh_node (left w.world) n
  node-n = told.node ∙ ap (λ (t : Nodes). fresh_node t n) (Catching.told_are o w s)

  here : (f : ℕ) → v.links.queue f n ≡ []
  here f = go (left w.world f) refl
    where
      go : (b : Bool) → left w.world f ≡ b → v.links.queue f n ≡ []
      go true e = told.emptied f (listed f e)
      go false e = told.waiting f (λ i. cc (has_left f i, e)) ∙ downs f
          ∙ ap (λ (b : Bool). if b then Letter.Down ∷ [] else []) e

  -- what is so behind it
  abbrev later : NamedWorld
  later = accepted_named o w (Restart x)

  abbrev T : Nodes
  T = has_started o later

  pub starts_later : (c : ℕ) → S c ≡ true → T c ≡ true
  starts_later c e = started_from o later c (by_test x
      (λ y t. creation_of o c ≤ w.present y → creation_of o c ≤ (if t then w.present x + 1 else w.present y))
      (λ l. omega arith) (λ y ne l. l) (name_of o c) (started_to o w c e))

  started_n : T n ≡ true
  started_n = started_from o later n (subst
      (λ (y : ℕ). creation_of o n ≤ (if y == x then w.present x + 1 else w.present y)) (sym name-n)
      (subst (λ (b : Bool). creation_of o n ≤ (if b then w.present x + 1 else w.present x))
      (sym (eq-eqb x x refl)) (let c : creation_of o n ≡ w.present x + 1 = creation-n in omega arith)))

  -- a node of x of the next creation is the one that starts
  is_next : (c : ℕ) → name_of o c ≡ x → creation_of o c ≡ w.present x + 1 → c ≡ n
  is_next c e f = sym (node-number o c) ∙ ap (λ (y : ℕ). node_of o y (creation_of o c)) e ∙ ap (node_of o x) f

  is_before : (c : ℕ) → name_of o c ≡ x → creation_of o c ≡ w.present x → c ≡ present_node o w x
  is_before c e f = sym (node-number o c) ∙ ap (λ (y : ℕ). node_of o y (creation_of o c)) e ∙ ap (node_of o x) f

  started_before : (c : ℕ) → T c ≡ true → (S c ≡ true) ⊎ (c ≡ n)
  started_before c e = by_test x
      (λ y t. name_of o c ≡ y → creation_of o c ≤ (if t then w.present x + 1 else w.present y) → (S c ≡ true) ⊎ (c ≡ n))
      (λ q l. elim (cases_eq (creation_of o c) (w.present x + 1)) [
        | inl same ↦ inr (is_next c q same)
        | inr other ↦ inl (started_from o w c (subst (λ (y : ℕ). creation_of o c ≤ w.present y) (sym q) (omega (arith, other, l))))
      ])
      (λ y ne q l. inl (started_from o w c (subst (λ (z : ℕ). creation_of o c ≤ w.present z) (sym q) l)))
      (name_of o c) refl (started_to o later c e)

  not_before : (c : ℕ) → T c ≡ false → S c ≡ false
  not_before c e = false_from_ne_true (S c) (λ q. cc (starts_later c q, e))

  not_next : (c : ℕ) → T c ≡ false → c ≡ n → ⊥
  not_next c e same = cc (e, ap T same, started_n)

  old_is_other : (c : ℕ) → S c ≡ true → c ≡ n → ⊥
  old_is_other c e same = cc (e, ap S same, unstarted)

  fresh_inside : IsInside T (begun (fresh_node (left w.world) n))
  fresh_inside = record {
    members = λ c e. ap T (eqb-true c n e) ∙ started_n;
    told = λ c e. starts_later c (Catching.left_started o w s c e);
    disjoint = λ c e. ap (left w.world) (eqb-true c n e) ∙ s.apart.stays n unstarted;
    table = All-nil (IsOwnedIn T);
    grants = All-nil (IsGrantIn T);
    queue = tt;
    current = tt;
    called = All-nil (IsCallIn T);
    sent = All-nil (IsSentIn T);
    entered = All-nil (IsEntryIn T);
  }

  inside_later : (c : ℕ) → (S c ≡ true) ⊎ (c ≡ n) → IsInside T (begun (v.node c))
  inside_later c (inl e) =
      let a : Node = w.world.node c in
      subst (λ (b : Node). IsInside T (begun b)) (sym (told.others c (old_is_other c e)))
      (Wider.knows S T starts_later a.replica a.locks a.queue a.current a.calls [] [] (s.apart.inside c e))
  inside_later c (inr same) = subst (λ (b : Node). IsInside T (begun b)) (sym (ap v.node same ∙ node-n)) fresh_inside

  mail_later : (f t : ℕ) → (S f ≡ true) ⊎ (f ≡ n) → (S t ≡ true) ⊎ (t ≡ n) → All (IsLetterIn T) (v.links.queue f t)
  mail_later f t i (inr same) = subst (λ (y : ℕ). All (IsLetterIn T) (v.links.queue f y)) (sym same)
      (subst (λ (ls : List Letter). All (IsLetterIn T) ls) (sym (here f)) (All-nil (IsLetterIn T)))
  mail_later f t (inr from) (inl e) = subst (λ (ls : List Letter). All (IsLetterIn T) ls)
      (sym (told.elsewhere f t (old_is_other t e) ∙ ap (λ (y : ℕ). w.world.links.queue y t) from ∙ s.apart.silent n t unstarted))
      (All-nil (IsLetterIn T))
  mail_later f t (inl d) (inl e) = subst (λ (ls : List Letter). All (IsLetterIn T) ls)
      (sym (told.elsewhere f t (old_is_other t e)))
      (All-weaker (IsLetterIn S) (IsLetterIn T) (Wider.letter S T starts_later) (w.world.links.queue f t) (s.apart.mail f t d e))

  left_later : (d : ℕ) → left v d ≡ left w.world d
  left_later d = ap (λ (t : Nodes). t d) told.departures

  apart_later : Apart (opening_of o) T v
  apart_later = record {
    node = λ c e. told.others c (not_next c e) ∙ s.apart.node c (not_before c e);
    silent = λ c t e. elim (cases_eq t n) [
      | inl same ↦ ap (v.links.queue c) same ∙ here c
      | inr ne ↦ told.elsewhere c t ne ∙ s.apart.silent c t (not_before c e)
    ];
    stays = λ c e. left_later c ∙ s.apart.stays c (not_before c e);
    told = λ f c e. told.elsewhere f c (not_next c e) ∙ s.apart.told f c (not_before c e)
        ∙ ap (λ (b : Bool). if b && in_world (opening_of o) c then Letter.Down ∷ [] else []) (sym (left_later f));
    inside = λ c e. inside_later c (started_before c e);
    mail = λ f t p q. mail_later f t (started_before f p) (started_before t q);
  }

  -- who is replaced now was before, or is the node that comes back
  replaced_before : (d : ℕ) → IsReplaced o later d → IsReplaced o w d ⊎ (d ≡ present_node o w x)
  replaced_before d l = by_test x
      (λ y t. name_of o d ≡ y → creation_of o d < (if t then w.present x + 1 else w.present y)
      → IsReplaced o w d ⊎ (d ≡ present_node o w x))
      (λ q k. elim (cases_eq (creation_of o d) (w.present x)) [
        | inl same ↦ inr (is_before d q same)
        | inr other ↦ inl (subst (λ (y : ℕ). creation_of o d < w.present y) (sym q) (omega (arith, other, k)))
      ])
      (λ y ne q k. inl (subst (λ (z : ℕ). creation_of o d < w.present z) (sym q) k))
      (name_of o d) refl l

  replaced_left : (d : ℕ) → IsReplaced o later d → left w.world d ≡ true
  replaced_left d l = elim (replaced_before d l) [
    | inl old ↦ s.older_left d old
    | inr same ↦ ap (left w.world) same ∙ m.gone
  ]

  -- each running node was told of the one that comes back
  pub told_of_gone : (c : ℕ) → IsUp o w c → (w.world.node c).replica.told (present_node o w x) ≡ true
  told_of_gone c up = not-false ((w.world.node c).replica.told (present_node o w x))
      (find_none (λ y. not ((w.world.node y).replica.told (present_node o w x))) (running_nodes o w) m.told c (runs_listed o w s c up))

  up_before : (c : ℕ) → S c ≡ true → IsUp o later c → IsUp o w c
  up_before c e up = record { inside = up.inside; started = e; stays = sym (left_later c) ∙ up.stays }

  older_told_later : (c d : ℕ) → IsUp o later c → IsReplaced o later d → (v.node c).replica.told d ≡ true
  older_told_later c d up l = elim (started_before c up.started) [
    | inr same ↦ ap (λ (a : Node). a.replica.told d) (ap v.node same ∙ node-n) ∙ replaced_left d l
    | inl e ↦ ap (λ (a : Node). a.replica.told d) (told.others c (old_is_other c e)) ∙ elim (replaced_before d l) [
      | inl old ↦ s.older_told c d (up_before c e up) old
      | inr same ↦ ap (w.world.node c).replica.told same ∙ told_of_gone c (up_before c e up)
    ]
  ]

  abbrev registry : Registry
  registry = registry_of (in_cluster (opening_of o)) w.world.history

  history-later : registry_of (in_cluster (opening_of o)) v.history
      ≡ fold (λ r e. effect e r) registry (map (Told n) (who_left o w))
  history-later = ap (registry_of (in_cluster (opening_of o))) told.history
      ∙ fold-append (λ (r : Registry) (e : Entry). effect e r) (opening (in_cluster (opening_of o))) w.world.history
      (map (Told n) (who_left o w))

  recorded_later : RegistryIn T (left v) (registry_of (in_cluster (opening_of o)) v.history)
  recorded_later = subst (λ (l : Nodes). RegistryIn T l (registry_of (in_cluster (opening_of o)) v.history)) (sym told.departures)
      (subst (RegistryIn T (left w.world)) (sym history-later)
      (entries_recorded T (left w.world) (map (Told n) (who_left o w)) registry
      (All-map (IsEntryIn T) (Told n) (who_left o w) (λ k d l. started_n))
      (wider_recorded S T (left w.world) starts_later not_before registry s.recorded)))

  -- it is the registry's own restart of the new node
  is_restarted : registry_of (in_cluster (opening_of o)) v.history ≡ restarted n registry
  is_restarted = history-later ∙ restart_is_its_notices n (who_left o w) registry
      (λ d. ((λ e. listed d (sym (s.recorded.left d) ∙ e)), (λ i. s.recorded.left d ∙ has_left d i)))
      (λ d. s.recorded.untold n d unstarted)

  pub sound_later : Sound o later
  sound_later = record {
    present = by_test x (λ y t. HasNumber o (if t then w.present x + 1 else w.present y)) next_creation (λ y ne. s.present y);
    most = by_test x (λ y t. 1 ≤ o.last → (if t then w.present x + 1 else w.present y) ≤ o.last)
        (λ some. let l : w.present x < o.last = m.further in omega arith) (λ y ne. s.most y);
    apart = apart_later;
    older_left = λ d l. left_later d ∙ replaced_left d l;
    older_told = older_told_later;
    inside = λ d e. s.inside d (sym (left_later d) ∙ e);
    recorded = recorded_later;
  }

  pub starts_anew : StartsAnew o w x later (all_answers (opening_of o) w.world (plain o w (Restart x)))
  starts_anew = record {
    present = refl;
    node = node-n;
    others = told.others;
    here = here;
    elsewhere = told.elsewhere;
    departures = told.departures;
    unanswered = unanswered;
    history = told.history;
    departed = λ d. (listed d, has_left d);
    rising = pairs_rise (who_left o w) (Catching.they_rise o w s);
    registry = is_restarted;
    gone = s.recorded.left (present_node o w x) ∙ m.gone;
  }
