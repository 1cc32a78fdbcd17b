-- Entries that come while an operation may hold: exits, departures, and notices of them. And what changes no registry:
-- who is dead at home, and who is to be struck.
use Rattle.std.proofs.Common.{ℕ, Bool, true, false, ◌==◌, ◌≡◌, ◌+◌, Option, Some, None, List, [], ◌∷◌, ◌++◌, refl, sym, ap, ◌∙◌, subst}
use Rattle.std.specs.Prelude.{if◌then◌else◌, ◌||◌, nat_lt}
use Rattle.std.specs.List.{list_any}
use Rattle.std.proofs.lemmas.List.Folds.{list_any-append}
use Rattle.std.proofs.lemmas.Bool.{eq-eqb, eqb-true, or_left, or_right}
use Rattle.registry_model.specs.Process.{Process, Nodes, at}
use Rattle.registry_model.specs.Table.{Table, is_rising, owns}
use Rattle.registry_model.specs.Registry.{Registry, Replica, replica_of}
use Rattle.registry_model.specs.History.{Entry, effect, Hold, old_or, with_effect_on}
use Rattle.protocol_model.specs.Letter.{Letter}
use Rattle.protocol_model.specs.Watch.{lesser, least_owner}
use Rattle.protocol_model.specs.World.{Opening}
use Rattle.registry_model.proofs.Updates.{by_test}
use Rattle.moves.proofs.Rules.{kills_in}
use Rattle.moves.proofs.Invariants.{Each}
use Rattle.registry_model.proofs.Deaths.{dead_stays}
use Rattle.registry_model.proofs.Rising.{is_rising-view}
use Rattle.replicas.proofs.Mail.{carries, is_applied, carried}
use Rattle.replicas.proofs.Histories.{is_hold_of-with_effect_on}
use Rattle.replicas.proofs.Soundness.{behind}
use Rattle.replicas.proofs.Groups.{Groups}
use Rattle.replicas.proofs.Scenes.{Doing, Nothing, Carries, is_busy, Scene, count_of, AllDead, Runs, is_late, before, IsHeldBy, Leads, AreStruck, Kept}
use Rattle.replicas.proofs.BaseLetters.{Each-map}
use Rattle.replicas.proofs.Sending.{AllDead-more, AreStruck-more}
use Rattle.replicas.proofs.Carrying.{holder_busy}

module _ (o : Opening) (S : Scene) (e : Entry) (turns : ℕ → Replica → Replica) (gone : Nodes) (dead : ℕ → List ℕ)
    (mail : ℕ → ℕ → List Letter) where
  -- what an entry does that leaves open who is joined: it turns what each node shows
  pub record Passes : Type 0 where
    pub joined : (effect e S.registry).joined ≡ S.registry.joined
    pub shows : (r : Registry) (c : ℕ) → replica_of (effect e r) c ≡ turns c (replica_of r c)
    pub commutes : (c : ℕ) (l : Letter) (v : Replica) → is_rising v.table ≡ true
        → carried c l (turns c v) ≡ turns c (carried c l v)
    pub left : (d : ℕ) → (effect e S.registry).left d ≡ gone d
    pub all_dead : (a s : ℕ) → list_any (λ d. d == s) (dead a) ≡ true
        → (effect e S.registry).dead (record { node = a; serial = s }) ≡ true
    pub stays : (c : ℕ) → gone c ≡ false → S.gone c ≡ false
    pub busy : (x : ℕ) → is_busy (S.doing x) ≡ true → gone x ≡ false
    pub same_mail : (x y : ℕ) → gone y ≡ false → mail x y ≡ S.mail x y

  -- the scene after it
  abbrev pub passed_scene : Scene
  passed_scene = record {
    registry = effect e S.registry;
    hold = λ c. with_effect_on e (S.hold c);
    gone = gone;
    replica = λ c. turns c (S.replica c);
    doing = S.doing;
    struck = S.struck;
    dead = dead;
    mail = mail;
  }

  module _ (K : Kept o S) (G : Groups S.registry S.hold) (P : Passes) where
    abbrev T : Scene
    T = passed_scene

    still_held : (x : ℕ) (d : Doing) → IsHeldBy o S x d → IsHeldBy o T x d
    still_held x Nothing h = tt
    still_held x (Carries op awaited reply) h = (behind e h.0, ap (with_effect_on e) h.1, h.2, h.3)

    facts : (c : ℕ) → Runs o T c → T.replica c
        ≡ replica_of (if is_late o T c (T.hold c) then before o T c else T.registry) c
    facts c up = go (S.hold c) (K.facts c (up.0, P.stays c up.1))
      where
        go : (h : Option Hold) → S.replica c ≡ replica_of
            (if is_late o S c h then old_or S.registry h else S.registry) c
            → turns c (S.replica c) ≡ replica_of (if is_late o T c (with_effect_on e h) then old_or
            (effect e S.registry)
            (with_effect_on e h) else effect e S.registry) c
        go None f = ap (turns c) f ∙ sym (P.shows S.registry c)
        go (Some h) f = each (list_any carries (S.mail h.node c)) f
            ∙ ap (λ (ls : List Letter). replica_of
            (if list_any carries ls then effect e h.old else effect e S.registry) c) (sym (P.same_mail h.node c up.1))
          where
            each : (b : Bool) → S.replica c ≡ replica_of (if b then h.old else S.registry) c
                → turns c (S.replica c) ≡ replica_of (if b then effect e h.old else effect e S.registry) c
            each true f = ap (turns c) f ∙ sym (P.shows h.old c)
            each false f = ap (turns c) f ∙ sym (P.shows S.registry c)

    notes : (x y : ℕ) → gone y ≡ false → Each (Leads o T x y) (mail x y)
    notes x y g = subst (Each (Leads o T x y)) (sym (P.same_mail x y g))
        (Each-map (Leads o S x y) (Leads o T x y) (S.mail x y) (λ l n k.
        let z : (h : Hold) × (S.hold y ≡ Some h) × (h.node ≡ x) × Runs o S x
        × (carried y l (replica_of (before o S y) y) ≡ replica_of S.registry y) = n k in
        let stays : is_busy (S.doing x) ≡ true =
        ap (λ (q : ℕ). is_busy (S.doing q)) (sym z.2) ∙ holder_busy o S K G y z.0 z.1 in (
          behind e z.0,
          ap (with_effect_on e) z.1,
          z.2,
          (z.3.0, P.busy x stays),
          ap (λ (q : Option Hold). carried y l (replica_of (old_or (effect e S.registry) (with_effect_on e q)) y)) z.1
              ∙ ap (carried y l) (P.shows z.0.old y)
              ∙ P.commutes y l (replica_of z.0.old y) (is_rising-view z.0.old (G.within y z.0 z.1).rises y)
              ∙ ap (turns y) (ap (λ (q : Option Hold). carried y l (replica_of (old_or S.registry q) y)) (sym z.1)
              ∙ z.4)
              ∙ sym (P.shows S.registry y),
        )) (K.notes x y (P.stays y g)))

    -- the replicas are still those of the registry
    pub Kept-passed : Kept o passed_scene
    Kept-passed = record {
      departed = P.left;
      joined_inside = λ c j. K.joined_inside c (sym (ap (λ (f : Nodes). f c) P.joined) ∙ j);
      holds = λ x. is_hold_of-with_effect_on x e (S.hold x) ∙ K.holds x;
      writers = λ x k. ((K.writers x k).0, P.busy x k);
      written = λ x. still_held x (S.doing x) (K.written x);
      facts = facts;
      notes = notes;
      kills = λ x y g. subst (Each (λ l. AllDead (effect e S.registry) (kills_in l))) (sym (P.same_mail x y g))
          (Each-map (λ l. AllDead S.registry (kills_in l)) (λ l. AllDead (effect e S.registry) (kills_in l))
          (S.mail x y)
          (λ l h. AllDead-more S.registry (effect e S.registry) (dead_stays S.registry e) (kills_in l) h)
          (K.kills x y (P.stays y g)));
      dead = P.all_dead;
      struck = λ x. AreStruck-more o S T (dead_stays S.registry e) x (S.struck x) (K.struck x);
      sessions = λ h c uh uc. ap (λ (ls : List Letter). count_of carries ls + count_of is_applied (mail c h))
          (P.same_mail h c uc.1)
          ∙ ap (λ (ls : List Letter). count_of carries (S.mail h c) + count_of is_applied ls) (P.same_mail c h uh.1)
          ∙ K.sessions h c (uh.0, P.stays h uh.1) (uc.0, P.stays c uc.1);
    }

module _ (o : Opening) (S : Scene) (K : Kept o S) (a : ℕ) where
  -- others are dead at home, all of them dead
  pub Kept-dead : (ds : List ℕ) → ((s : ℕ) → list_any (λ d. d == s) ds ≡ true
      → S.registry.dead (record { node = a; serial = s }) ≡ true)
      → Kept o (record S { dead = at S.dead a ds })
  Kept-dead ds all = record {
    departed = K.departed;
    joined_inside = K.joined_inside;
    holds = K.holds;
    writers = K.writers;
    written = K.written;
    facts = K.facts;
    notes = K.notes;
    kills = K.kills;
    struck = K.struck;
    sessions = K.sessions;
    dead = λ x s. by_test a (λ x t. list_any (λ d. d == s) (if t then ds else S.dead x) ≡ true
        → S.registry.dead (record { node = x; serial = s }) ≡ true)
        (all s) (λ x ne h. K.dead x s h) x;
  }

  -- others are to be struck, all of them dead
  pub Kept-struck : (ps : List Process) → AreStruck o S a ps → Kept o (record S { struck = at S.struck a ps })
  Kept-struck ps all = record {
    departed = K.departed;
    joined_inside = K.joined_inside;
    holds = K.holds;
    writers = K.writers;
    written = K.written;
    facts = K.facts;
    notes = K.notes;
    kills = K.kills;
    dead = K.dead;
    sessions = K.sessions;
    struck = λ x. by_test a (λ x t. AreStruck o S x (if t then ps else S.struck x)) all (λ x ne. K.struck x) x;
  }

-- who is among these and one more
pub list_any-either : (s t : ℕ) (ds : List ℕ) (P : Type 0) → (list_any (λ d. d == s) ds ≡ true → P) → (t ≡ s → P)
    → list_any (λ d. d == s) (ds ++ t ∷ []) ≡ true → P
list_any-either s t ds P old new e = go (list_any (λ d. d == s) ds) (t == s) refl refl
    (sym (list_any-append (λ d. d == s) ds (t ∷ [])) ∙ e)
  where
    go : (b c : Bool) → list_any (λ d. d == s) ds ≡ b → (t == s) ≡ c → (b || (c || false)) ≡ true → P
    go true c k i h = old k
    go false true k i h = new (eqb-true t s i)
    go false false k i h = cc

-- the process whose strike is owed is dead
pub owed_dead : (a : ℕ) (t : Table) (ss : List ℕ) (k : ℕ) → least_owner a t ss ≡ Some k
    → list_any (λ d. d == k) ss ≡ true
owed_dead a t [] k e = cc
owed_dead a t (s ∷ ss) k e = go (owns (record { node = a; serial = s }) t) (least_owner a t ss) refl
    (owed_dead a t ss k) e
  where
    go : (b : Bool) (r : Option ℕ) → least_owner a t ss ≡ r
        → (least_owner a t ss ≡ Some k → list_any (λ d. d == k) ss ≡ true)
        → (if b then Some (lesser s r) else r) ≡ Some k → ((s == k) || list_any (λ d. d == k) ss) ≡ true
    go false r i h j = or_right (s == k) (list_any (λ d. d == k) ss) (h (i ∙ j))
    go true None i h j = or_left (s == k) (list_any (λ d. d == k) ss) (eq-eqb s k (value j))
      where
        value : Some s ≡ Some k → s ≡ k
        value j = cc
    go true (Some t) i h j = less (nat_lt t s) j
      where
        less : (b : Bool) → Some (if b then t else s) ≡ Some k → ((s == k) || list_any (λ d. d == k) ss) ≡ true
        less true j = or_right (s == k) (list_any (λ d. d == k) ss) (h (i ∙ j))
        less false j = or_left (s == k) (list_any (λ d. d == k) ss) (eq-eqb s k cc)
