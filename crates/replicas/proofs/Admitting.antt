-- The rule by which a joined node admits a lone one.
use Rattle.std.proofs.Common.{ℕ, Bool, true, false, ◌==◌, ◌≡◌, Option, Some, None, List, [], ◌∷◌, ◌++◌, refl, sym, ap, ◌∙◌, subst}
use Rattle.std.specs.Prelude.{if◌then◌else◌, not, ◌&&◌, ◌||◌, nat_lt, is_none}
use Rattle.std.specs.List.{list_any}
use Rattle.std.proofs.Math.Path.{ap₂}
use Rattle.std.proofs.lemmas.Bool.{eq-eqb, ne_eqb, and_from, or_right}
use Rattle.registry_model.specs.Process.{Process, is_process, Nodes, nodes_of, at}
use Rattle.registry_model.specs.Table.{Table}
use Rattle.registry_model.specs.Settlement.{notices_to, Settled, with_settled, settle}
use Rattle.registry_model.specs.Call.{Joined}
use Rattle.registry_model.specs.Registry.{Registry, in_group, view, process_of, Replica, replica_of, with_joiner}
use Rattle.registry_model.specs.History.{Entry, Join, Hold, Standing, hold_at}
use Rattle.registry_model.specs.Legal.{is_legal}
use Rattle.protocol_model.specs.Round.{Round}
use Rattle.protocol_model.specs.Letter.{Letter}
use Rattle.protocol_model.specs.Node.{Op, Current}
use Rattle.protocol_model.specs.Reading.{admitted, welcomed}
use Rattle.protocol_model.specs.Turn.{sent_to}
use Rattle.protocol_model.specs.World.{Opening, in_world, in_cluster, World, join_number}
use Rattle.registry_model.proofs.Updates.{by_test, at_other}
use Rattle.moves.proofs.Sends.{sent_to-append, sent_to-one, sent_to-all, to_each}
use Rattle.moves.proofs.Rules.{Admits, IsHeld, May, turn_by, effect}
use Rattle.moves.proofs.Invariants.{IsUp, IsProperCurrent, Proper, Exclusive, JoinsKnown}
use Rattle.replicas.proofs.Admissions.{replica_of-admitted, replica_of-welcomed, replica_of-apart}
use Rattle.replicas.proofs.Histories.{IsLegal-append}
use Rattle.registry_model.proofs.Groups.{in_group-itself}
use Rattle.replicas.proofs.Scenes.{doing_of, is_busy, struck_by, struck_of, mine, AllDead, Scene, scene_of, Kept}
use Rattle.replicas.proofs.BaseLetters.{mine-append}
use Rattle.replicas.proofs.Steps.{scene_of-effect}
use Rattle.replicas.proofs.Begins.{IsWrittenTo, Beginning, Kept-begun}
use Rattle.replicas.proofs.Carrying.{holder_busy}
use Rattle.replicas.proofs.Bridge.{standing, sound, groups}
use Rattle.replicas.proofs.Known.{Known}
use Rattle.registry_model.proofs.HistoryParts.{registry-after}
use Rattle.replicas.proofs.Deciding.{hold_at-begun, stepped-begun, may_decide_now, shown, free_now, is_member, no_member, group_below}
use Rattle.registry_model.proofs.Lists.{is_process-same}
use Rattle.registry_model.proofs.Deaths.{dead_stays}
use Rattle.registry_model.proofs.OwnerNodes.{IsGood-standing_of}
use Rattle.registry_model.proofs.Untold.{untold-join}
use Rattle.replicas.proofs.Beside.{same_settlement}

-- all that die by a settlement are dead
all_dead : (q : Registry) (all ps : List Process)
    → ((p : Process) → list_any (is_process p) all ≡ true → q.dead p ≡ true)
    → ((p : Process) → list_any (is_process p) ps ≡ true → list_any (is_process p) all ≡ true) → AllDead q ps
all_dead q all [] dead among = tt
all_dead q all (p ∷ ps) dead among = (
  dead p (among p (ap (λ (b : Bool). b || list_any (is_process p) ps) (is_process-same p))),
  all_dead q all ps dead (λ x h. among x (or_right (is_process x p) (list_any (is_process x) ps) h)),
)

module _ (o : Opening) (w : World) (P : Proper o w) (X : Exclusive o w) (J : JoinsKnown o w) (I : Known o w) (a j : ℕ)
    (pairs : Table) (r : Round) (m : May o a w (Admits j pairs r)) where
  abbrev s : Standing
  s = standing o w P X J I

  abbrev S : Scene
  S = scene_of o w

  up : IsUp o w a
  up = (m.inside, m.running)

  held : IsHeld o.bound (w.node a) (Op.Admission j pairs) r
  held = m.tested.0

  abbrev v : Replica
  v = (w.node a).replica

  is_shown : v ≡ replica_of s.registry a
  is_shown = shown o w P X J I a up (Op.Admission j pairs) r held

  asked_for : (s.registry.joined j ≡ false) × (s.registry.lone j ≡ pairs) × (v.joined ≡ true)
      × ((k : ℕ) × ((w.node j).current ≡ Current.Joining k a))
  asked_for = J.admission a j pairs r up held.current

  lone : s.registry.joined j ≡ false
  lone = asked_for.0

  member : s.registry.joined a ≡ true
  member = sym (ap (λ (x : Replica). x.joined) is_shown) ∙ asked_for.2

  free_group : hold_at s a ≡ None
  free_group = free_now o w P X J I a up (Op.Admission j pairs) r held

  -- the joiner waits, so nothing holds at it
  free_joiner : hold_at s j ≡ None
  free_joiner = go (hold_at s j) refl
    where
      go : (h : Option Hold) → hold_at s j ≡ h → h ≡ None
      go None e = refl
      go (Some h) e =
          let busy : is_busy (doing_of (w.node j).current) ≡ true =
          ap (λ (x : ℕ). is_busy (doing_of (w.node x).current)) (sym ((groups o w P X J I).lone j h e lone).0)
          ∙ holder_busy o S I.kept (groups o w P X J I) j h e in
          let idle : is_busy (doing_of (w.node j).current) ≡ false =
          ap (λ (c : Current). is_busy (doing_of c)) asked_for.3.1 in
          cc (busy, idle)

  abbrev e : Entry
  e = Join j (join_number w j) a Joined

  -- the settlement by what the node has, and by the registry
  abbrev st : Settled
  st = settle v.table pairs

  abbrev st_now : Settled
  st_now = settle (view s.registry a) (s.registry.lone j)

  same_settled : st ≡ st_now
  same_settled = ap₂ settle (ap (λ (x : Replica). x.table) is_shown) (sym asked_for.1)

  abbrev q : Registry
  q = with_joiner j a st_now s.registry

  abbrev group : Nodes
  group c = in_group q a c

  abbrev admit_letter : Letter
  admit_letter = Letter.Admit j st

  abbrev welcome_letter : Letter
  welcome_letter = Letter.Welcome (at v.members j true) (with_settled st v.table) v.told st.fate

  abbrev new : ℕ → List Letter
  new c = (if nat_lt c o.bound && v.members c then admit_letter ∷ [] else []) ++
      (if j == c then welcome_letter ∷ [] else [])

  abbrev awaited : Nodes
  awaited = at v.members j true

  joined_now : (c : ℕ) → in_group q a c ≡ at s.registry.joined j true c
  joined_now c = ap (λ (b : Bool). if b then at s.registry.joined j true c else c == a) (go (a == j))
    where
      go : (b : Bool) → (if b then true else s.registry.joined a) ≡ true
      go true = refl
      go false = member

  in_old_group : (c : ℕ) → in_group s.registry a c ≡ s.registry.joined c
  in_old_group c = ap (λ (b : Bool). if b then s.registry.joined c else c == a) member

  killed : AllDead q st.fate.kills
  killed = subst (λ (x : Settled). AllDead q x.fate.kills) (sym same_settled)
      (all_dead q st_now.fate.kills st_now.fate.kills (λ p h. or_right (s.registry.dead p)
      (list_any (is_process p) st_now.fate.kills) h) (λ p h. h))

  written : (c : ℕ) → w.links.closed c ≡ false → at s.registry.joined j true c ≡ true
      → IsWrittenTo s.registry q c (new c) × (awaited c ≡ true)
  written c = by_test j (λ c t. w.links.closed c ≡ false → (if t then true else s.registry.joined c) ≡ true
      → IsWrittenTo s.registry q c (new c) × ((if t then true else v.members c) ≡ true))
      (λ g k. (
        record {
          letter = welcome_letter;
          alone = ap (λ (b : Bool). (if nat_lt j o.bound && b then admit_letter ∷ [] else []) ++
              (if j == j then welcome_letter ∷ [] else []))
              (no_member o w P X J I a up (Op.Admission j pairs) r held j (in_old_group j ∙ lone))
              ∙ none (nat_lt j o.bound) ∙ ap (λ (b : Bool). if b then welcome_letter ∷ [] else []) (eq-eqb j j refl);
          carries = refl;
          kills = killed;
          leads = ap (λ (x : Settled). welcomed j (at v.members j true) (with_settled x v.table) v.told x.fate
              (replica_of s.registry j)) same_settled
              ∙ ap (λ (x : Replica). welcomed j (at x.members j true) (with_settled st_now x.table) x.told st_now.fate
              (replica_of s.registry j)) is_shown
              ∙ sym (replica_of-welcomed s.registry j a st_now (sound o w P X J I).rises member);
        },
        refl,
      ))
      (λ c ne g k.
      let is : v.members c ≡ true = is_member o w P X J I a up (Op.Admission j pairs) r held c g
      (in_old_group c ∙ k) in
      let below : nat_lt c o.bound ≡ true = group_below o w P X J I a up (Op.Admission j pairs) r held c
      (I.kept.joined_inside c k) in (
        record {
          letter = admit_letter;
          alone = ap (λ (b : Bool). (if b then admit_letter ∷ [] else []) ++
              (if j == c then welcome_letter ∷ [] else [])) (and_from _ _ below is)
              ∙ ap (λ (b : Bool). admit_letter ∷ (if b then welcome_letter ∷ [] else []))
              (ne_eqb j c (λ i. ne (sym i)));
          carries = refl;
          kills = killed;
          leads = ap (λ (x : Settled). admitted c j x (replica_of s.registry c)) same_settled
              ∙ sym (replica_of-admitted s.registry j a st_now (sound o w P X J I).rises c k ne);
        },
        is,
      )) c
    where
      none : (b : Bool) → (if b && false then admit_letter ∷ [] else []) ++
          (if j == j then welcome_letter ∷ [] else []) ≡ (if j == j then welcome_letter ∷ [] else [])
      none true = refl
      none false = refl

  -- a node that isn't joined then is another, and lone
  left_out : (c : ℕ) → at s.registry.joined j true c ≡ false → (c ≡ j → ⊥) × (s.registry.joined c ≡ false)
  left_out c = by_test j (λ c t. (if t then true else s.registry.joined c) ≡ false
      → (c ≡ j → ⊥) × (s.registry.joined c ≡ false)) (λ k. cc) (λ c ne k. (ne, k)) c

  spared : (c : ℕ) → at s.registry.joined j true c ≡ false → (new c ≡ []) × (awaited c ≡ false)
  spared c k =
      let x : (c ≡ j → ⊥) × (s.registry.joined c ≡ false) = left_out c k in
      let is : v.members c ≡ false = no_member o w P X J I a up (Op.Admission j pairs) r held c
      (in_old_group c ∙ x.1) in (
        ap₂ (λ (b d : Bool). (if nat_lt c o.bound && b then admit_letter ∷ [] else []) ++
            (if d then welcome_letter ∷ [] else [])) is (ne_eqb j c (λ i. x.0 (sym i))) ∙ none (nat_lt c o.bound),
        at_other v.members j true c x.0 ∙ is,
      )
    where
      none : (b : Bool) → (if b && false then admit_letter ∷ [] else []) ++ [] ≡ []
      none true = refl
      none false = refl

  -- and its processes are told nothing
  untold : (c : ℕ) → s.registry.joined c ≡ false → (c ≡ j → ⊥) → (serial : ℕ)
      → notices_to (process_of c serial) st_now.fate.notices ≡ []
  untold c k ne serial =
      untold-join s.registry (IsGood-standing_of (in_cluster o) w.history I.legal) j a c member lone k ne serial

  Beginning-admission : Beginning o S a q group e new (Op.Admission j pairs) awaited None
  Beginning-admission = record {
    runs = up;
    idle = ap doing_of held.current;
    left = λ d. refl;
    joined = λ c. by_test j (λ c t. (if t then true else s.registry.joined c) ≡ true → in_world o c ≡ true)
        (λ k. subst (IsProperCurrent o w) held.current (P.currents a)) (λ c ne k. I.kept.joined_inside c k) c;
    dead = dead_stays s.registry e;
    entry = (join_number w j, refl);
    own = in_group-itself q a;
    free = λ c g. by_test j (λ c t. (if t then true else s.registry.joined c) ≡ true → hold_at s c ≡ None)
        (λ k. free_joiner) (λ c ne k. (groups o w P X J I).alike a c (in_old_group c ∙ k) ∙ free_group) c
        (sym (joined_now c) ∙ g);
    written = λ c g k. written c g (sym (joined_now c) ∙ k);
    spared = λ c g k. spared c (sym (joined_now c) ∙ k);
    apart = λ c k.
        let x : (c ≡ j → ⊥) × (s.registry.joined c ≡ false) = left_out c (sym (joined_now c) ∙ k) in
        replica_of-apart s.registry j a st_now (sound o w P X J I).rises c x.1 x.0 (untold c x.1 x.0);
    apart_before = λ c h k hk.
        let x : (c ≡ j → ⊥) × (s.registry.joined c ≡ false) = left_out c (sym (joined_now c) ∙ k) in
        replica_of-apart h.old j a (settle (view h.old a) (h.old.lone j)) ((groups o w P X J I).within c h hk).rises c
        ((groups o w P X J I).lone c h hk x.1).1 x.0
        (λ serial. ap (λ (st : Settled). notices_to (process_of c serial) st.fate.notices)
        (same_settlement c h.old s.registry ((groups o w P X J I).beside c h hk x.1) j a (λ i. x.0 (sym i)) member)
        ∙ untold c x.1 x.0 serial);
  }

  mine-new : (y : ℕ) → mine (sent_to y (turn_by o a w (Admits j pairs r)).sends) ≡ new y
  mine-new y = ap mine (sent_to-append y (to_each (nodes_of o.bound v.members) admit_letter)
      (record { to = j; letter = welcome_letter } ∷ [])
      ∙ ap₂ (λ (xs ys : List Letter). xs ++ ys) (sent_to-all o.bound v.members admit_letter y)
      (sent_to-one y j welcome_letter))
      ∙ mine-append (if nat_lt y o.bound && v.members y then admit_letter ∷ [] else [])
      (if j == y then welcome_letter ∷ [] else [])
      ∙ go (nat_lt y o.bound && v.members y) (j == y)
    where
      go : (b d : Bool) → mine (if b then admit_letter ∷ [] else []) ++ mine (if d then welcome_letter ∷ [] else [])
          ≡ (if b then admit_letter ∷ [] else []) ++ (if d then welcome_letter ∷ [] else [])
      go true true = refl
      go true false = refl
      go false true = refl
      go false false = refl

  legal_join : is_legal s e ≡ true
  legal_join = and_from _ _ (and_from _ _ (and_from _ _ (and_from _ _ (ap not lone) (ap is_none free_joiner)) member)
      (may_decide_now o w P X J I a up free_group))
      (ap not (sym (ap (λ (x : Replica). x.told j) is_shown) ∙ m.tested.1))

  -- a granted join
  pub Known-admitted : Known o (effect o a (Admits j pairs r) w)
  Known-admitted = record {
    legal = IsLegal-append (in_cluster o) w.history e I.legal legal_join;
    kept = subst (Kept o) (sym (scene_of-effect o a w (Admits j pairs r) refl
        ∙ stepped-begun o a w (turn_by o a w (Admits j pairs r)) q group e new (Op.Admission j pairs) awaited None
        (registry-after s e)
        (hold_at-begun s a e refl (λ c k. at_other s.registry.joined j true c
        (left_out c (sym (joined_now c) ∙ k)).0))
        refl refl (sym (ap (λ (c : Current). struck_by c ++ struck_of (w.node a).queue) held.current)) refl mine-new))
        (Kept-begun o S a q group e new (Op.Admission j pairs) awaited None I.kept Beginning-admission);
  }
