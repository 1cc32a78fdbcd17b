-- Every legal history is sound.
use mathlib.Core.Logic.{◌⊎◌}
use Rattle.std.proofs.Common.{ℕ, Bool, true, false, ◌≡◌, Option, Some, None, List, refl, sym, subst, ap, ◌∙◌, inl, inr}
use Rattle.std.specs.Prelude.{if◌then◌else◌, is_none}
use Rattle.registry_model.specs.Process.{Nodes, at}
use Rattle.registry_model.specs.Table.{StrikeOwner, changed}
use Rattle.registry_model.specs.Call.{Joined, NotMember, ContactLeft, is_grant, change_of}
use Rattle.registry_model.specs.Registry.{Registry, with_table}
use Rattle.registry_model.specs.History.{Entry, Name, Strike, Join, Done, Exit, Left, Told, Read, effect, Hold, Standing, hold_at, is_holding, set_hold, with_effect, after, standing_of}
use Rattle.registry_model.specs.Legal.{is_legal, IsLegal}
use Rattle.registry_model.proofs.HistoryParts.{registry-after, legal_keeps}
use Rattle.registry_model.proofs.Holding.{with_effect_on-some}
use Rattle.registry_model.proofs.Legality.{JoinIsLegal, join_is_legal}
use Rattle.registry_model.proofs.Rising.{Rises, Rises-effect}
use Rattle.registry_model.proofs.Deaths.{IsJoinOf, joined-effect, joined_stays}
use Rattle.registry_model.proofs.OwnerNodes.{IsGood, IsGood-standing_of}
use Rattle.registry_model.proofs.Updates.{by_test}
use Rattle.replicas.proofs.Beside.{IsAlikeBut, alike-lone, alike-effect}
use Rattle.replicas.proofs.Histories.{after-denied, after-granted, after-read, after-not_member, after-contact_left}
use Rattle.replicas.proofs.Soundness.{are_on-own, Within-behind, Within-begun, WithinCluster, WithinLone, Grouped, Sound, the_hold, behind}

-- a free group holds nothing
pub none_of : (o : Option Hold) → is_none o ≡ true → o ≡ None
none_of None e = refl
none_of (Some h) e = cc

-- what holds at a lone node
pub hold_at-lone : (s : Standing) (n : ℕ) → s.registry.joined n ≡ false → hold_at s n ≡ s.lone_held n
hold_at-lone s n j = ap (λ (b : Bool). if b then s.held else s.lone_held n) j

-- and at a joined one
pub hold_at-joined : (s : Standing) (n : ℕ) → s.registry.joined n ≡ true → hold_at s n ≡ s.held
hold_at-joined s n j = ap (λ (b : Bool). if b then s.held else s.lone_held n) j

-- an entry that has no node join in whose group something holds, and lets a node join by a joined one alone
Grouped-with_effect : (s : Standing) (e : Entry) → Grouped s
    → ((n : ℕ) (h : Hold) → s.lone_held n ≡ Some h → IsJoinOf n e → ⊥)
    → ((j k m : ℕ) → e ≡ Join j k m Joined → s.registry.joined m ≡ true)
    → Grouped (with_effect e s)
Grouped-with_effect s e G apart by = record {
  cluster = λ g k.
      let x : (h : Hold) × (s.held ≡ Some h) × (behind e h ≡ g) = with_effect_on-some e s.held g k in
      let C : WithinCluster s.registry x.0 = G.cluster x.0 x.1 in
      subst (WithinCluster (effect e s.registry)) x.2 (record {
        within = Within-behind s.registry e x.0 C.within;
        node = joined_stays s.registry e x.0.node C.node;
        before = joined_stays x.0.old e x.0.node C.before;
      });
  alone = λ n g k.
      let x : (h : Hold) × (s.lone_held n ≡ Some h) × (behind e h ≡ g) = with_effect_on-some e (s.lone_held n) g k in
      let L : WithinLone s.registry n x.0 = G.alone n x.0 x.1 in
      subst (WithinLone (effect e s.registry) n) x.2 (record {
        within = Within-behind s.registry e x.0 L.within;
        node = L.node;
        lone = still n s.registry (joined-effect s.registry e n) (apart n x.0 x.1) ∙ L.lone;
        before = still n x.0.old (joined-effect x.0.old e n) (apart n x.0 x.1) ∙ L.before;
        alike = alike-effect n x.0.old s.registry L.alike e (λ j k m i. (
          λ same. apart n x.0 x.1 (k, m, i ∙ ap (λ (y : ℕ). Join y k m Joined) same),
          by j k m i,
        ));
      });
}
  where
    still : (n : ℕ) (r : Registry) → IsJoinOf n e ⊎ ((effect e r).joined n ≡ r.joined n) → (IsJoinOf n e → ⊥)
        → (effect e r).joined n ≡ r.joined n
    still n r (inl i) apart = absurd (apart i)
    still n r (inr same) apart = same

-- a hold begins
Grouped-begun : (s : Standing) (a : ℕ) (e : Entry) → Grouped s → Rises s.registry
    → ((n : ℕ) (h : Hold) → s.lone_held n ≡ Some h → IsJoinOf n e → ⊥) → (IsJoinOf a e → ⊥)
    → ((j k m : ℕ) → e ≡ Join j k m Joined → s.registry.joined m ≡ true)
    → (s.registry.joined a ≡ false → IsAlikeBut a s.registry (effect e s.registry))
    → Grouped (set_hold a (Some (record { node = a; entry = e; old = s.registry })) (with_effect e s))
Grouped-begun s a e G R apart stays by alike = go ((effect e s.registry).joined a) refl
  where
    new : Hold
    new = record { node = a; entry = e; old = s.registry }

    P : Grouped (with_effect e s)
    P = Grouped-with_effect s e G apart by

    same : (effect e s.registry).joined a ≡ s.registry.joined a
    same = elim (joined-effect s.registry e a) [ inl i ↦ absurd (stays i) | inr k ↦ k ]

    go : (b : Bool) → (effect e s.registry).joined a ≡ b
        → Grouped (if b then record (with_effect e s) { held = Some new } else record (with_effect e s)
        { lone_held = at (with_effect e s).lone_held a (Some new) })
    go true j = record {
      cluster = λ h k. subst (WithinCluster (effect e s.registry)) (ap (the_hold h) k)
          (record { within = Within-begun s.registry e a R; node = j; before = sym same ∙ j });
      alone = P.alone;
    }
    go false j = record {
      cluster = P.cluster;
      alone = λ n h. by_test a (λ n b. (if b then Some new else (with_effect e s).lone_held n) ≡ Some h
          → WithinLone (effect e s.registry) n h)
          (λ k. subst (WithinLone (effect e s.registry) a) (ap (the_hold h) k)
          (record {
            within = Within-begun s.registry e a R;
            node = refl;
            lone = j;
            before = sym same ∙ j;
            alike = alike (sym same ∙ j);
          }))
          (λ n ne k. P.alone n h k) n;
    }

-- a hold ends
Grouped-done : (a : ℕ) (s : Standing) → Grouped s → Grouped (set_hold a None s)
Grouped-done a s G = go (s.registry.joined a)
  where
    go : (b : Bool) → Grouped (if b then record s { held = None } else record s { lone_held = at s.lone_held a None })
    go true = record { cluster = λ h e. cc; alone = G.alone }
    go false = record {
      cluster = G.cluster;
      alone = λ n h. by_test a (λ n b. (if b then None else s.lone_held n) ≡ Some h → WithinLone s.registry n h)
          (λ e. cc) (λ n ne e. G.alone n h e) n;
    }

-- each legal entry
Grouped-after : (s : Standing) (e : Entry) → Rises s.registry → Grouped s → is_legal s e ≡ true → Grouped (after s e)
Grouped-after s (Name n k call reply) R G l = go (is_grant reply) refl
  where
    go : (b : Bool) → is_grant reply ≡ b → Grouped (after s (Name n k call reply))
    go true g = subst Grouped (sym (after-granted s n k call reply g))
        (Grouped-begun s n (Name n k call reply) G R (λ x h e i. absurd (cc i.2)) (λ i. absurd (cc i.2))
        (λ j c m i. absurd cc) (λ k. subst (λ (b : Bool). IsAlikeBut n s.registry
        (if b then with_table n (changed (change_of call)) s.registry else s.registry)) (sym g)
        (alike-lone n (changed (change_of call)) s.registry k)))
    go false g = subst Grouped (sym (after-denied s n k call reply g)) G
Grouped-after s (Strike p) R G l = Grouped-begun s p.node (Strike p) G R (λ x h e i. absurd (cc i.2))
    (λ i. absurd (cc i.2)) (λ j k m i. absurd cc) (alike-lone p.node (changed (StrikeOwner p)) s.registry)
Grouped-after s (Join j k m Joined) R G l =
    Grouped-begun s m (Join j k m Joined) G R (λ n h e i. idle n h e (same n i)) (λ i. contact (same m i))
    (λ i c n e. subst (λ (x : ℕ). s.registry.joined x ≡ true) (contact_of i c n e) L.contact)
    (λ i. absurd (cc (L.contact, i)))
  where
    L : JoinIsLegal s j m
    L = join_is_legal s j m l

    same : (n : ℕ) → IsJoinOf n (Join j k m Joined) → j ≡ n
    same n i = let e : Join j k m Joined ≡ Join n i.0 i.1 Joined = i.2 in cc

    contact_of : (i c n : ℕ) → Join j k m Joined ≡ Join i c n Joined → m ≡ n
    contact_of i c n e = cc

    idle : (n : ℕ) (h : Hold) → s.lone_held n ≡ Some h → j ≡ n → ⊥
    idle n h e i = let none : s.lone_held j ≡ None = sym (hold_at-lone s j L.lone) ∙ none_of (hold_at s j) L.free in
        absurd (cc (none, ap s.lone_held i, e))

    contact : j ≡ m → ⊥
    contact i = absurd (cc (L.lone, ap s.registry.joined i, L.contact))
Grouped-after s (Join j k m NotMember) R G l = subst Grouped (sym (after-not_member s j k m)) G
Grouped-after s (Join j k m ContactLeft) R G l = subst Grouped (sym (after-contact_left s j k m)) G
Grouped-after s (Join j k m _) R G l = cc
Grouped-after s (Done n) R G l = go (is_holding s n)
  where
    go : (b : Bool) → Grouped (if b then set_hold n None s else s)
    go true = Grouped-done n s G
    go false = G
Grouped-after s (Exit p) R G l = Grouped-with_effect s (Exit p) G (λ x h e i. absurd (cc i.2)) (λ j k m i. absurd cc)
Grouped-after s (Left d) R G l = Grouped-with_effect s (Left d) G (λ x h e i. absurd (cc i.2)) (λ j k m i. absurd cc)
Grouped-after s (Told n d) R G l = Grouped-with_effect s (Told n d) G (λ x h e i. absurd (cc i.2)) (λ j k m i. absurd cc)
Grouped-after s (Read n look reply) R G l = subst Grouped (sym (after-read s n look reply)) G

-- every legal history comes to a sound standing
pub Sound-standing_of : (cluster : Nodes) (h : List Entry) → IsLegal cluster h → Sound (standing_of cluster h)
Sound-standing_of cluster h l = record {
  rises = good.rises;
  own = λ n j. are_on-own n ((standing_of cluster h).registry.lone n) (good.rises.lone n) (good.owners.own n j);
  cluster = grouped.1.cluster;
  alone = grouped.1.alone;
}
  where
    good : IsGood (standing_of cluster h).registry
    good = IsGood-standing_of cluster h l

    grouped : Rises (standing_of cluster h).registry × Grouped (standing_of cluster h)
    grouped = legal_keeps cluster (λ s. Rises s.registry × Grouped s)
        (record { table = refl; lone = λ n. refl }, record { cluster = λ h e. cc; alone = λ n h e. cc })
        (λ s e l g. (
          subst Rises (sym (registry-after s e))
              (Rises-effect s.registry e g.0),
          Grouped-after s e g.0 g.1 l,
        )) h l
