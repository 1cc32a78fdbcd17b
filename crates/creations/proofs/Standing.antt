-- What holds of the nodes of all names, at the opening and behind each event but a restart.
use mathlib.Core.Logic.{inl, inr}
use Rattle.std.proofs.Common.{ℕ, Bool, true, false, ◌==◌, ◌≡◌, ◌<◌, ◌≤◌, [], refl, sym, ap, subst, ◌∙◌, arith}
use Rattle.std.specs.Prelude.{Option, Some, None, option_map, is_none, not, ◌&&◌, ◌||◌, nat_lt, if◌then◌else◌, All}
use Rattle.std.proofs.Math.Path.{fun_ext}
use Rattle.std.proofs.lemmas.Bool.{eqb-true, ne_eqb, and_parts, not-true, not-false, ltb-true, ltb-false, le-ltb, cases_lt}
use Rattle.std.proofs.lemmas.List.Elements.{All-nil}
use Rattle.registry_model.specs.Process.{Nodes, nobody}
use Rattle.registry_model.specs.Table.{without}
use Rattle.registry_model.specs.History.{registry_of}
use Rattle.protocol_model.specs.Watch.{nobody_yet}
use Rattle.protocol_model.specs.Node.{Node, Current, opening_node}
use Rattle.protocol_model.specs.Event.{Refusal, NoSuchNode}
use Rattle.protocol_model.specs.Turn.{begun}
use Rattle.protocol_model.specs.World.{in_world, in_cluster, World, left, WorldEvent, place, other, refusal, accepted, happens}
use Rattle.creations.specs.NodeNames.{NamedOpening, node_of, name_of, creation_of, opening_of, HasNumber}
use Rattle.creations.specs.NamedWorld.{NamedWorld, Plain, opening_named, present_node, has_started, plain_refusal}
use Rattle.creations.specs.Restarts.{fresh_node, IsUp, IsReplaced}
use Rattle.creations.proofs.Numbers.{name-node, creation-node, node-number, is_creation}
use Rattle.creations.proofs.Inside.{IsOwnedIn, IsGrantIn, IsCallIn, IsLetterIn, IsSentIn, IsEntryIn, IsInside}
use Rattle.creations.proofs.Apart.{Apart, accepted_apart, unrefused_by}
use Rattle.creations.proofs.Recorded.{RegistryIn, opening_recorded, accepted_recorded}
use Rattle.creations.proofs.Growing.{left_grows, left_by, told_grows}

-- a node that opens lone has nothing
pub opening_fresh : (cluster : Nodes) (n : ℕ) → cluster n ≡ false → opening_node cluster n ≡ fresh_node nobody n
opening_fresh cluster n e = ap lone_or e ∙ ap with_members (fun_ext (λ c. plain (c == n)))
  where
    lone_or : Bool → Node
    lone_or b = record {
      replica = record {
        table = without nobody (if b then [] else []);
        members = λ c. (if b then cluster c else c == n) && not false;
        told = nobody;
        joined = b;
        notices = λ serial. [];
      };
      locks = [];
      watch = nobody_yet;
      queue = [];
      current = Current.Free;
      calls = [];
      last_call = 0;
    }

    with_members : Nodes → Node
    with_members s = let v : Node = fresh_node nobody n in record v { replica = record v.replica { members = s } }

    plain : (b : Bool) → (b && true) ≡ b
    plain true = refl
    plain false = refl

module _ (o : NamedOpening) where
  module _ (w : NamedWorld) where
    -- who has started
    pub started_from : (n : ℕ) → creation_of o n ≤ w.present (name_of o n) → has_started o w n ≡ true
    started_from n l = ap not (le-ltb (w.present (name_of o n)) (creation_of o n) l)

    pub started_to : (n : ℕ) → has_started o w n ≡ true → creation_of o n ≤ w.present (name_of o n)
    started_to n e = ltb-false (w.present (name_of o n)) (creation_of o n)
        (not-true (nat_lt (w.present (name_of o n)) (creation_of o n)) e)

    pub unstarted_to : (n : ℕ) → has_started o w n ≡ false → w.present (name_of o n) < creation_of o n
    unstarted_to n e = ltb-true (w.present (name_of o n)) (creation_of o n)
        (not-false (nat_lt (w.present (name_of o n)) (creation_of o n)) e)

    -- What holds
    pub record Sound : Type 0 where
      pub present : (x : ℕ) → HasNumber o (w.present x)
      pub most : (x : ℕ) → 1 ≤ o.last → w.present x ≤ o.last
      pub apart : Apart (opening_of o) (has_started o w) w.world
      pub older_left : (d : ℕ) → IsReplaced o w d → left w.world d ≡ true
      pub older_told : (c d : ℕ) → IsUp o w c → IsReplaced o w d → (w.world.node c).replica.told d ≡ true
      pub inside : (d : ℕ) → left w.world d ≡ true → in_world (opening_of o) d ≡ true
      pub recorded : RegistryIn (has_started o w) (left w.world) (registry_of (in_cluster (opening_of o)) w.world.history)

    -- the present node of a name has started
    pub present_started : Sound → (x : ℕ) → has_started o w (present_node o w x) ≡ true
    present_started s x =
        let c : creation_of o (present_node o w x) ≡ w.present x = creation-node o x (w.present x) (s.present x) in
        let y : name_of o (present_node o w x) ≡ x = name-node o x (w.present x) (s.present x) in
        started_from (present_node o w x) (subst (λ (z : ℕ). creation_of o (present_node o w x) ≤ w.present z) (sym y) (omega (arith, c)))

    -- the least of all nodes has
    pub least_started : Sound → has_started o w 0 ≡ true
    least_started s =
        let e : node_of o 0 1 ≡ 0 = omega arith in
        let one : HasNumber o 1 = record { first = omega arith; last = omega arith } in
        let c : creation_of o 0 ≡ 1 = ap (creation_of o) (sym e) ∙ creation-node o 0 1 one in
        let p : 1 ≤ w.present (name_of o 0) = (s.present (name_of o 0)).first in
        started_from 0 (omega (arith, c, p))

  -- a node at the opening knows of first nodes alone
  opens_inside : (n : ℕ) → has_started o (opening_named o) n ≡ true
      → IsInside (has_started o (opening_named o)) (begun (opening_node (in_cluster (opening_of o)) n))
  opens_inside n started = record {
    members = λ c e. go (in_cluster (opening_of o) n) c (and_parts _ true e).0;
    told = λ c e. cc;
    disjoint = λ c e. refl;
    table = by (in_cluster (opening_of o) n);
    grants = All-nil (IsGrantIn (has_started o (opening_named o)));
    queue = tt;
    current = tt;
    called = All-nil (IsCallIn (has_started o (opening_named o)));
    sent = All-nil (IsSentIn (has_started o (opening_named o)));
    entered = All-nil (IsEntryIn (has_started o (opening_named o)));
  }
    where
      first_node : (c : ℕ) → in_cluster (opening_of o) c ≡ true → has_started o (opening_named o) c ≡ true
      first_node c e =
          let k : creation_of o c ≡ 1 = eqb-true (creation_of o c) 1 (and_parts (o.cluster (name_of o c)) (creation_of o c == 1)
          (and_parts (in_world (opening_of o) c) (o.cluster (name_of o c) && (creation_of o c == 1)) e).1).1 in
          started_from (opening_named o) c (omega (arith, k))

      go : (b : Bool) (c : ℕ) → (if b then in_cluster (opening_of o) c else c == n) ≡ true
          → has_started o (opening_named o) c ≡ true
      go true c e = first_node c e
      go false c e = ap (has_started o (opening_named o)) (eqb-true c n e) ∙ started

      by : (b : Bool) → All (IsOwnedIn (has_started o (opening_named o))) (without nobody (if b then [] else []))
      by true = All-nil (IsOwnedIn (has_started o (opening_named o)))
      by false = All-nil (IsOwnedIn (has_started o (opening_named o)))

  pub sound_opens : Sound (opening_named o)
  sound_opens = record {
    present = λ x. record { first = omega arith; last = omega arith };
    most = λ x l. l;
    apart = record {
      node = λ n e. refl;
      silent = λ n t e. refl;
      stays = λ n e. refl;
      told = λ f n e. refl;
      inside = opens_inside;
      mail = λ f t p q. All-nil (IsLetterIn (has_started o (opening_named o)));
    };
    older_left = λ d l. let k : 1 ≤ creation_of o d = (is_creation o d).first in absurd (omega arith);
    older_told = λ c d up l. let k : 1 ≤ creation_of o d = (is_creation o d).first in absurd (omega arith);
    inside = λ d e. cc;
    recorded = opening_recorded (has_started o (opening_named o)) (in_cluster (opening_of o));
  }

  module _ (w : NamedWorld) (s : Sound w) where
    -- an event of the world at nodes that have started
    pub accepted_sound : (e : WorldEvent) → has_started o w (place e) ≡ true → has_started o w (other e) ≡ true
        → refusal (opening_of o) w.world e ≡ None → Sound (record { world = accepted (opening_of o) w.world e; present = w.present })
    accepted_sound e i j r = record {
      present = s.present;
      most = s.most;
      apart = accepted_apart (opening_of o) (has_started o w) w.world (least_started w s) s.apart e i j r;
      older_left = λ d l. left_grows (opening_of o) w.world e d (s.older_left d l);
      older_told = λ c d up l. told_grows (opening_of o) w.world e c d (s.older_told c d (before c up) l);
      inside = λ d q. elim (left_by (opening_of o) w.world e d q) [
        | inl old ↦ s.inside d old
        | inr same ↦ ap (in_world (opening_of o)) same ∙ is_inside (in_world (opening_of o) (place e))
            (in_world (opening_of o) (other e)) (unrefused_by (opening_of o) w.world e r).0
      ];
      recorded = accepted_recorded (opening_of o) (has_started o w) w.world (least_started w s) s.apart e i j r s.recorded;
    }
      where
        is_inside : (b c : Bool) → (not b || not c) ≡ false → b ≡ true
        is_inside true c q = refl
        is_inside false c q = cc

        ran : (c : ℕ) (b : Bool) → left w.world c ≡ b → left (accepted (opening_of o) w.world e) c ≡ false → b ≡ false
        ran c true k q = cc (left_grows (opening_of o) w.world e c k, q)
        ran c false k q = refl

        before : (c : ℕ) → IsUp o (record { world = accepted (opening_of o) w.world e; present = w.present }) c → IsUp o w c
        before c up = record {
          inside = up.inside;
          started = up.started;
          stays = ran c (left w.world c) refl up.stays;
        }

    pub happens_sound : (e : WorldEvent) → has_started o w (place e) ≡ true → has_started o w (other e) ≡ true
        → refusal (opening_of o) w.world e ≡ None → Sound (record { world = happens (opening_of o) w.world e; present = w.present })
    happens_sound e i j r = subst (λ (v : World). Sound (record { world = v; present = w.present }))
        (sym (ap (λ (x : Option Refusal). if is_none x then accepted (opening_of o) w.world e else w.world) r))
        (accepted_sound e i j r)

    -- an event that isn't refused is of nodes that have started
    pub unrefused : (e : WorldEvent) → plain_refusal o w e ≡ None
        → (has_started o w (other e) ≡ true) × (refusal (opening_of o) w.world e ≡ None)
    unrefused e r = go (has_started o w (other e)) (refusal (opening_of o) w.world e) r
      where
        go : (b : Bool) (x : Option Refusal) → (if b then option_map Plain x else Some (Plain NoSuchNode)) ≡ None
            → (b ≡ true) × (x ≡ None)
        go true None q = (refl, refl)
        go true (Some y) q = absurd (cc q)
        go false x q = absurd (cc q)

    -- who hasn't started opened lone
    pub unstarted_lone : (n : ℕ) → has_started o w n ≡ false → in_cluster (opening_of o) n ≡ false
    unstarted_lone n e =
        let l : w.present (name_of o n) < creation_of o n = unstarted_to w n e in
        let p : 1 ≤ w.present (name_of o n) = (s.present (name_of o n)).first in
        go (in_world (opening_of o) n) (o.cluster (name_of o n)) (creation_of o n == 1)
        (ne_eqb (creation_of o n) 1 (λ q. omega (arith, q, l, p)))
      where
        go : (b c d : Bool) → d ≡ false → (b && (c && d)) ≡ false
        go true true d q = q
        go true false d q = refl
        go false c d q = refl

    -- who runs is the present node of its name
    pub up_present : (c : ℕ) → IsUp o w c → c ≡ present_node o w (name_of o c)
    up_present c up = sym (node-number o c) ∙ ap (node_of o (name_of o c)) (elim (cases_lt (creation_of o c) (w.present (name_of o c))) [
      | inl less ↦ cc (s.older_left c less, up.stays)
      | inr more ↦ let l : creation_of o c ≤ w.present (name_of o c) = started_to w c up.started in omega arith
    ])
