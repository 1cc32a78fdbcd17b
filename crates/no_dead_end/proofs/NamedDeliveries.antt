-- Deliveries by names end, too, by a work in which at most one node of each name counts.
use Rattle.std.proofs.Common.{ℕ, zero, suc, Bool, true, false, ◌≡◌, ◌<◌, ◌≤◌, Option, Some, None, List, [], ◌∷◌, ◌++◌, refl, sym, ap, subst, ◌∙◌, inl, inr, arith}
use Rattle.std.specs.Prelude.{length, not, ◌&&◌, nat_lt, is_none, map, flat_map, find, if◌then◌else◌}
use Rattle.std.specs.List.{list_all}
use Rattle.std.proofs.lemmas.List.Folds.{list_all-append}
use Rattle.std.proofs.lemmas.List.Sums.{fold-append}
use Rattle.std.proofs.lemmas.Bool.{and_parts, ltb-true, cases_lt}
use Rattle.registry_model.specs.Process.{Nodes, nodes_of}
use Rattle.protocol_model.specs.World.{Opening, in_world, World, left, WorldEvent, refusal, accepted, happens}
use Rattle.walk.proofs.Runs.{happens-accepted}
use Rattle.walk.proofs.Walk.{walked_in_order}
use Rattle.named_events.proofs.Grounds.{Both, wide}
use Rattle.no_dead_end.proofs.Sums.{no_more}
use Rattle.named_events.proofs.Indices.{both, not_true}
use Rattle.named_events.specs.NodeNames.{NamedOpening, is_name, name_of, opening_of}
use Rattle.named_events.specs.NamedWorld.{NamedWorld, NamedEvent, NamedRefusal, present_node, has_started, sender_to, named_refusal, accepted_named, happens_named, run_named, opening_named, after_events, as_events}
use Rattle.named_events.specs.NamedScript.{named_deliveries, next_named, named_deliveries_left, settled}
use Rattle.named_events.specs.Restarts.{IsUp as IsUpNamed}
use Rattle.named_events.proofs.Numbers.{inside-name}
use Rattle.named_events.proofs.NamedRuns.{named_runs_are_runs}
use Rattle.named_events.proofs.Standing.{Sound, present_started, unrefused}
use Rattle.named_events.proofs.Always.{always, nodes_always_stand}
use Rattle.no_dead_end.specs.NamedNoDeadEnd.{names_size, named_work, AlwaysNamed, NamedDeliveriesLower, NamedWorkIsBounded, LimitsAreWork}
use Rattle.no_dead_end.proofs.Bounded.{bounded, joins_most}
use Rattle.no_dead_end.proofs.RuleWork.{Ready}
use Rattle.no_dead_end.proofs.DeliveryWork.{counted, delivery_work}
use Rattle.no_dead_end.proofs.AdmitsJoined.{AdmitsJoined, keeps, known, Along, along_begins, along_keeps, along_ready}
use Rattle.named_events.specs.Worlds.{running}
use Rattle.named_events.specs.WorldsOfNames.{is_named_delivery, up}

-- where fewer count a node is as ready
narrower : (o : Opening) (s up : Nodes) (w : World) (a : ℕ) → ((c : ℕ) → up c ≡ true → s c ≡ true) → up a ≡ true → Ready o s w a
    → Ready o up w a
narrower o s up w a sub here R = record {
  counts = here;
  some = R.some;
  ordered = R.ordered;
  gone = λ op r e x h. R.gone op r e x (sub x h);
  first = R.first;
  call_gone = λ c r f e x h. R.call_gone c r f e x (sub x h);
  call_first = R.call_first;
  low = R.low;
  apart = R.apart;
  foreign = R.foreign;
  brought = R.brought;
  alone = R.alone;
  admitted = R.admitted;
  welcomed = R.welcomed;
  struck = R.struck;
}

-- who counts is up
pub counts_up : (o : NamedOpening) (w : NamedWorld) (c : ℕ) → up o w c ≡ true → IsUpNamed o w c
counts_up o w c h =
    let p : ((in_world (opening_of o) c && has_started o w c) ≡ true) × (not (left w.world c) ≡ true) =
    both (in_world (opening_of o) c && has_started o w c) (not (left w.world c)) h in
    let q : (in_world (opening_of o) c ≡ true) × (has_started o w c ≡ true) =
    both (in_world (opening_of o) c) (has_started o w c) p.0 in
    record { inside = q.0; started = q.1; stays = not_true (left w.world c) p.1 }

module _ (o : NamedOpening) (es : List NamedEvent) where
  abbrev w : NamedWorld
  w = after_events o es

  abbrev O : Opening
  O = opening_of o

  pub begun : Both O (AdmitsJoined O) (keeps O) w.world
  begun = subst (Both O (AdmitsJoined O) (keeps O)) (sym (named_runs_are_runs o es)) (known O (as_events o es))

  -- it is the present node of its name, so there are no more than names
  pub few : length (nodes_of O.bound (up o w)) ≤ names_size o
  few = no_more O.bound o.bound (up o w) (is_name o) (name_of o) (present_node o w) (λ c h.
      let i : is_name o (name_of o c) ≡ true = sym (inside-name o c) ∙ (counts_up o w c h).inside in (
        ltb-true (name_of o c) o.bound (and_parts (nat_lt (name_of o c) o.bound) (o.names (name_of o c)) i).0,
        i,
        (nodes_always_stand o es).is_present c (counts_up o w c h),
      ))

  ready : (a : ℕ) → has_started o w a ≡ true → (x : World) → Along O w.world x → in_world O a ≡ true → left x a ≡ false
      → Ready O (up o w) x a
  ready a started x A i l = narrower O (running O w.world) (up o w) x a
      (λ c h. let u : IsUpNamed o w c = counts_up o w c h in rw (u.inside, u.stays) refl)
      (rw (i, started, sym (ap (λ (s : Nodes). s a) A.stays) ∙ l) refl) (along_ready O a w.world x A i l)

  -- a delivery by names lowers the work
  pub named_lowers : (x y : ℕ) → named_refusal o w (NamedEvent.Deliver x y) ≡ None
      → named_work o (happens_named o w (NamedEvent.Deliver x y)) < named_work o w
  named_lowers x y q =
      let h : counted O (names_size o) (up o w) few t (accepted O w.world d) < counted O (names_size o) (up o w) few t w.world =
      delivery_work O (names_size o) (up o w) few t (Along O w.world) (ready t (present_started o w s y)) (along_keeps O t w.world)
      f
      w.world (along_begins O w.world begun)
      (walked_in_order O w.world d begun.base.ordered (wide O w.world begun.base) r) r in
      let one : named_work o (happens_named o w (NamedEvent.Deliver x y)) ≡ as_world (happens O w.world d) =
      ap (λ (z : Option NamedRefusal). named_work o (if is_none z then accepted_named o w (NamedEvent.Deliver x y) else w)) q in
      let two : as_world (happens O w.world d) ≡ as_world (accepted O w.world d) = ap as_world (happens-accepted O w.world d r) in
      omega (arith, h, one, two)
    where
      f : ℕ
      f = sender_to o w x y

      t : ℕ
      t = present_node o w y

      d : WorldEvent
      d = WorldEvent.Deliver f t

      s : Sound o w
      s = always o es

      r : refusal O w.world d ≡ None
      r = (unrefused o w s d q).1

      as_world : World → ℕ
      as_world v = named_work o (record { world = v; present = w.present })

-- what is found passes, and is as all are
found_so : {X : Type 0} (p q : X → Bool) (xs : List X) (x : X) → list_all q xs ≡ true → find p xs ≡ Some x
    → (p x ≡ true) × (q x ≡ true)
found_so p q [] x h e = cc e
found_so {X} p q (y ∷ xs) x h e =
    let parts : (q y ≡ true) × (list_all q xs ≡ true) = both (q y) (list_all q xs) h in
    go (p y) refl e parts.0 (λ k. found_so p q xs x parts.1 k)
  where
    go : (b : Bool) → p y ≡ b → (if b then Some y else find p xs) ≡ Some x → q y ≡ true
        → (find p xs ≡ Some x → (p x ≡ true) × (q x ≡ true)) → (p x ≡ true) × (q x ≡ true)
    go true i k l more = let same : y ≡ x = cc k in (subst (λ (z : X). p z ≡ true) same i, subst (λ (z : X). q z ≡ true) same l)
    go false i k l more = more k

all_deliveries : (fs ts : List ℕ) → list_all is_named_delivery (flat_map (λ f. map (λ t. NamedEvent.Deliver f t) ts) fs) ≡ true
all_deliveries [] ts = refl
all_deliveries (f ∷ fs) ts = list_all-append is_named_delivery (map (λ t. NamedEvent.Deliver f t) ts)
    (flat_map (λ g. map (λ t. NamedEvent.Deliver g t) ts) fs)
    ∙ ap (λ (b : Bool). b && list_all is_named_delivery (flat_map (λ g. map (λ t. NamedEvent.Deliver g t) ts) fs)) (row ts)
    ∙ all_deliveries fs ts
  where
    row : (xs : List ℕ) → list_all is_named_delivery (map (λ t. NamedEvent.Deliver f t) xs) ≡ true
    row [] = refl
    row (x ∷ xs) = row xs

module _ (o : NamedOpening) where
  -- what is delivered next is accepted, and lowers the work
  next_lowers : (es : List NamedEvent) (e : NamedEvent) → next_named o (after_events o es) ≡ Some e
      → named_work o (happens_named o (after_events o es) e) < named_work o (after_events o es)
  next_lowers es e k =
      let p : (is_none (named_refusal o (after_events o es) e) ≡ true) × (is_named_delivery e ≡ true) =
      found_so (λ x. is_none (named_refusal o (after_events o es) x)) is_named_delivery (named_deliveries o) e
      (all_deliveries (nodes_of o.bound o.names) (nodes_of o.bound o.names)) k in
      go e p.1 (unrefused_at (named_refusal o (after_events o es) e) p.0)
    where
      unrefused_at : (r : Option NamedRefusal) → is_none r ≡ true → r ≡ None
      unrefused_at None h = refl
      unrefused_at (Some r) h = cc h

      go : (x : NamedEvent) → is_named_delivery x ≡ true → named_refusal o (after_events o es) x ≡ None
          → named_work o (happens_named o (after_events o es) x) < named_work o (after_events o es)
      go (NamedEvent.Deliver f t) d q = named_lowers o es f t q
      go (NamedEvent.At n x) d q = cc d
      go (NamedEvent.AtNode n x) d q = cc d
      go (NamedEvent.Restart x) d q = cc d

  -- so a `settle` of as many deliveries as there is work leaves nothing to deliver
  pub named_settles : (most : ℕ) (es : List NamedEvent) → named_work o (after_events o es) ≤ most
      → next_named o (run_named o (after_events o es) (named_deliveries_left o most (after_events o es))) ≡ None
  named_settles zero es l = go (next_named o (after_events o es)) refl
    where
      go : (x : Option NamedEvent) → next_named o (after_events o es) ≡ x → next_named o (after_events o es) ≡ None
      go None e = e
      go (Some d) e = let h : _ = next_lowers es d e in absurd (omega (arith, h, l))
  named_settles (suc most) es l = go (next_named o (after_events o es)) refl (λ d k. named_settles most (es ++ d ∷ []) k)
    where
      behind : (d : NamedEvent) → after_events o (es ++ d ∷ []) ≡ happens_named o (after_events o es) d
      behind d = fold-append (happens_named o) (opening_named o) es (d ∷ [])

      go : (x : Option NamedEvent) → next_named o (after_events o es) ≡ x
          → ((d : NamedEvent) → named_work o (after_events o (es ++ d ∷ [])) ≤ most
          → next_named o (run_named o (after_events o (es ++ d ∷ []))
          (named_deliveries_left o most (after_events o (es ++ d ∷ [])))) ≡ None)
          → next_named o (run_named o (after_events o es)
          (elim x [ None ↦ [] | Some e ↦ e ∷ named_deliveries_left o most (happens_named o (after_events o es) e) ])) ≡ None
      go None e more = e
      go (Some d) e more =
          let h : named_work o (happens_named o (after_events o es) d) < named_work o (after_events o es) = next_lowers es d e in
          subst (λ (v : NamedWorld). next_named o (run_named o v (named_deliveries_left o most v)) ≡ None) (behind d)
          (more d (subst (λ (v : NamedWorld). named_work o v ≤ most) (sym (behind d)) (omega (arith, h, l))))

pub deliveries_by_names_lower : AlwaysNamed NamedDeliveriesLower
deliveries_by_names_lower o es = record { lowers = named_lowers o es; settles = λ most l. named_settles o most es l }

pub work_of_names_is_bounded : AlwaysNamed NamedWorkIsBounded
work_of_names_is_bounded o es = bounded (opening_of o) (names_size o) (up o (after_events o es)) (few o es)
    (after_events o es).world
    (λ c. joins_most (opening_of o) (after_events o es).world (begun o es).base c)

-- a `settle` that ends by its limit had more work
pub limits_are_work : AlwaysNamed LimitsAreWork
limits_are_work o es limit e = elim (cases_lt limit (named_work o (after_events o es))) [
  | inl less ↦ less
  | inr le ↦ absurd (cc (ap (settled o) (named_settles o limit es le), e))
]
