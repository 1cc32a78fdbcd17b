-- The rules that enter what changes nothing: look-ups, refused name calls, and joins that end without one.
use Rattle.std.proofs.Common.{ℕ, Bool, true, false, ◌≡◌, Option, Some, None, List, [], ◌∷◌, ◌++◌, refl, sym, ap, ◌∙◌, subst}
use Rattle.std.specs.Prelude.{if◌then◌else◌, not, ◌&&◌}
use Rattle.std.proofs.lemmas.Bool.{and_from, or_left, or_right}
use Rattle.registry_model.specs.Process.{nodes_of}
use Rattle.registry_model.specs.Table.{Table}
use Rattle.registry_model.specs.Call.{NameCall, Look, NotMember, ContactLeft, is_reply, reply_to, seen_in}
use Rattle.registry_model.specs.Registry.{Registry, Replica, replica_of}
use Rattle.registry_model.specs.History.{Entry, Name, Join, Read, Hold, Standing, hold_at, old_or, old}
use Rattle.registry_model.specs.Legal.{IsLegal, is_legal, all_legal}
use Rattle.protocol_model.specs.Round.{Round, asked}
use Rattle.protocol_model.specs.Letter.{Global, Letter}
use Rattle.protocol_model.specs.Node.{Node, Op, Current}
use Rattle.protocol_model.specs.Registrar.{registrar}
use Rattle.protocol_model.specs.World.{Opening, in_cluster, World, join_number}
use Rattle.moves.proofs.Rules.{Rule, LooksUp, Denies, SkipsJoin, RefusesJoin, LosesContact, FrontTaken, takes, May, turn_by, effect}
use Rattle.moves.proofs.Invariants.{IsUp, Proper, Exclusive, JoinsKnown}
use Rattle.replicas.proofs.Histories.{IsLegal-more, after-denied, after-read, after-not_member, after-contact_left}
use Rattle.replicas.proofs.Scenes.{doing_of, struck_by, struck_of, Scene, scene_of, is_late, before, Kept}
use Rattle.replicas.proofs.BaseLetters.{silent-each}
use Rattle.replicas.proofs.Steps.{is_leaving, is_foreign, QuietTurn, scene_of-quiet, effect-history}
use Rattle.replicas.proofs.Calm.{is_calm, calm_turn, calm_stays, calm_foreign}
use Rattle.replicas.proofs.Bridge.{standing, groups}
use Rattle.replicas.proofs.Known.{Known}
use Rattle.replicas.proofs.Granting.{is_reply-same, legal_reply}

module _ (o : Opening) (w : World) (P : Proper o w) (X : Exclusive o w) (J : JoinsKnown o w) (I : Known o w)
    (a : ℕ) where
  abbrev s : Standing
  s = standing o w P X J I

  abbrev S : Scene
  S = scene_of o w

  abbrev v : Node
  v = w.node a

  -- a rule that the scene doesn't show
  pub Known-quiet : (r : Rule) → is_leaving o a w r ≡ false → is_foreign o a w (takes o a r) ≡ true
      → FrontTaken o a w (takes o a r)
      → QuietTurn o a w (turn_by o a w r) → Known o (effect o a r w)
  Known-quiet r stays foreign front q = record {
    legal = subst (IsLegal (in_cluster o)) (sym (effect-history o a w r))
        (IsLegal-more (in_cluster o) w.history (turn_by o a w r).entries I.legal q.legal);
    kept = subst (Kept o) (sym (scene_of-quiet o a w r stays foreign front q)) I.kept;
  }

  one_legal : (e : Entry) → is_legal s e ≡ true → all_legal s (e ∷ []) ≡ true
  one_legal e l = and_from _ _ l refl

  -- what the node shows is of the registry, or of the registry without what holds
  pub shown_either : IsUp o w a → (Q : Replica → Type 0)
      → ((r : Registry) → v.replica ≡ replica_of r a → r ≡ old s a → Q v.replica)
      → (v.replica ≡ replica_of s.registry a → Q v.replica) → Q v.replica
  shown_either up Q late now = go (is_late o S a (hold_at s a)) (I.kept.facts a up)
    where
      go : (b : Bool) → v.replica ≡ replica_of (if b then before o S a else s.registry) a → Q v.replica
      go true f = late (before o S a) f refl
      go false f = now f

  -- a look-up sees one of them
  pub legal_read : IsUp o w a → (look : Look) → is_legal s (Read a look (seen_in v.replica look)) ≡ true
  legal_read up look = shown_either up (λ x. is_legal s (Read a look (seen_in x look)) ≡ true)
      (λ r f i. or_right (is_reply (seen_in v.replica look) (seen_in (replica_of s.registry a) look))
      (is_reply (seen_in v.replica look) (seen_in (replica_of (old s a) a) look))
      (ap (λ (x : Replica). is_reply (seen_in v.replica look) (seen_in x look))
      (sym (f ∙ ap (λ (r : Registry). replica_of r a) i)) ∙ is_reply-same (seen_in v.replica look)))
      (λ f. or_left (is_reply (seen_in v.replica look) (seen_in (replica_of s.registry a) look))
      (is_reply (seen_in v.replica look) (seen_in (replica_of (old s a) a) look))
      (ap (λ (x : Replica). is_reply (seen_in v.replica look) (seen_in x look)) (sym f)
      ∙ is_reply-same (seen_in v.replica look)))

  -- who is told to have left is told so by the registry
  pub told_now : IsUp o w a → (d : ℕ) → v.replica.told d ≡ true → s.registry.told a d ≡ true
  told_now up d = shown_either up (λ x. x.told d ≡ true → s.registry.told a d ≡ true)
      (λ r f i t. more (hold_at s a) refl (sym
      (ap (λ (x : Replica). x.told d) (f ∙ ap (λ (r : Registry). replica_of r a) i)) ∙ t))
      (λ f t. sym (ap (λ (x : Replica). x.told d) f) ∙ t)
    where
      more : (h : Option Hold) → hold_at s a ≡ h → (old_or s.registry h).told a d ≡ true → s.registry.told a d ≡ true
      more None e t = t
      more (Some h) e t = ((groups o w P X J I).within a h e).told a d t

  -- a lone node wasn't joined before what holds either
  pub not_joined_before : IsUp o w a → v.replica.joined ≡ false → (old s a).joined a ≡ false
  not_joined_before up = shown_either up (λ x. x.joined ≡ false → (old s a).joined a ≡ false)
      (λ r f i j. sym (ap (λ (x : Replica). x.joined) (f ∙ ap (λ (r : Registry). replica_of r a) i)) ∙ j)
      (λ f j. earlier (hold_at s a) refl (sym (ap (λ (x : Replica). x.joined) f) ∙ j))
    where
      earlier : (h : Option Hold) → hold_at s a ≡ h → s.registry.joined a ≡ false
          → (old_or s.registry h).joined a ≡ false
      earlier None e j = j
      earlier (Some h) e j = ((groups o w P X J I).lone a h e j).1

  -- a look-up
  pub Known-looked : (look : Look) → May o a w (LooksUp look) → Known o (effect o a (LooksUp look) w)
  Known-looked look m = Known-quiet (LooksUp look) refl refl tt (record {
    legal = one_legal (Read a look (seen_in v.replica look)) (legal_read (m.inside, m.running) look);
    standing = after-read s a look (seen_in v.replica look);
    silent = refl;
    replica = refl;
    doing = refl;
    struck = refl;
    dead = refl;
  })

  -- a refused name call
  pub Known-denied : (k : ℕ) (call : NameCall) (r : Round) → May o a w (Denies k call r)
      → Known o (effect o a (Denies k call r) w)
  Known-denied k call r m = Known-quiet (Denies k call r) refl refl tt (record {
    legal = one_legal (Name a k call (reply_to v.replica.members v.replica.table call))
        (legal_reply o w P X J I a (m.inside, m.running) (Op.Name k call) r m.tested.0 k call);
    standing = after-denied s a k call (reply_to v.replica.members v.replica.table call) m.tested.1;
    silent = silent-each (nodes_of o.bound (λ c. asked r c && not (v.replica.told c)))
        (Letter.GiveBack (Global a) (registrar a) false) refl;
    replica = refl;
    doing = sym (ap doing_of m.tested.0.current);
    struck = sym (ap (λ (c : Current). struck_by c ++ struck_of v.queue) m.tested.0.current);
    dead = refl;
  })

  -- a join whose contact is told to have left before it begins
  pub Known-skipped : (k c : ℕ) (ops : List Op) → May o a w (SkipsJoin k c ops)
      → Known o (effect o a (SkipsJoin k c ops) w)
  Known-skipped k c ops m = Known-quiet (SkipsJoin k c ops) refl refl tt (record {
    legal = one_legal (Join a k c ContactLeft) (told_now (m.inside, m.running) c m.tested.2);
    standing = after-contact_left s a k c;
    silent = refl;
    replica = refl;
    doing = refl;
    struck = sym (ap (λ (q : List Op). struck_by v.current ++ struck_of q) m.tested.1);
    dead = refl;
  })

  -- a join whose contact leaves while it waits
  pub Known-lost : (k c : ℕ) → May o a w (LosesContact k c) → Known o (effect o a (LosesContact k c) w)
  Known-lost k c m = Known-quiet (LosesContact k c) refl refl tt (record {
    legal = one_legal (Join a k c ContactLeft) (told_now (m.inside, m.running) c m.tested.0);
    standing = after-contact_left s a k c;
    silent = refl;
    replica = refl;
    doing = sym (ap doing_of m.tested.1);
    struck = sym (ap (λ (x : Current). struck_by x ++ struck_of v.queue) m.tested.1);
    dead = refl;
  })

  -- a join that is asked of a node that isn't joined
  pub Known-refused : (f : ℕ) (pairs : Table) → May o a w (RefusesJoin f pairs)
      → Known o (effect o a (RefusesJoin f pairs) w)
  Known-refused f pairs m = Known-quiet (RefusesJoin f pairs) refl refl m.front (record {
    legal = one_legal (Join f (join_number w f) a NotMember)
        (ap not (not_joined_before (m.inside, m.running) m.tested.1));
    standing = after-not_member s f (join_number w f) a;
    silent = refl;
    replica = refl;
    doing = refl;
    struck = refl;
    dead = refl;
  })

  -- all rules that the scene doesn't show
  pub Known-calm : (r : Rule) → is_calm r ≡ true → May o a w r → Known o (effect o a r w)
  Known-calm r e m = Known-quiet r (calm_stays o a w r e) (calm_foreign o a w r e) m.front (calm_turn o a w r e m)
