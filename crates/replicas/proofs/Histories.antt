-- What a history comes to with one entry more: the registry, what holds, and the registry without what holds.
use Rattle.std.proofs.Common.{ℕ, Bool, true, false, ◌==◌, ◌≡◌, Option, Some, None, List, [], ◌∷◌, ◌++◌, refl, sym, ap, ◌∙◌}
use Rattle.std.specs.Prelude.{if◌then◌else◌, fold}
use Rattle.std.proofs.Math.Path.{fun_ext}
use Rattle.std.proofs.lemmas.Bool.{and_parts, and_from}
use Rattle.registry_model.specs.Process.{Nodes, at}
use Rattle.registry_model.specs.Registry.{Registry, in_group, with_table}
use Rattle.registry_model.specs.Call.{NameCall, Look, Reply, NotMember, ContactLeft, is_grant, change_of}
use Rattle.registry_model.specs.Table.{changed}
use Rattle.registry_model.specs.History.{Entry, Name, Join, Read, effect, Hold, Standing, hold_at, is_hold_of, set_hold, with_effect_on, with_effect, begin_hold, after, nothing_yet, standing_of}
use Rattle.registry_model.proofs.HistoryParts.{registry-set_hold}
use Rattle.registry_model.proofs.Holding.{hold_at-set_hold, hold_at-group}
use Rattle.registry_model.specs.Legal.{is_legal, all_legal, IsLegal}

all_legal-append : (s : Standing) (h es : List Entry) → all_legal s h ≡ true → all_legal (fold after s h) es ≡ true
    → all_legal s (h ++ es) ≡ true
all_legal-append s [] es l k = k
all_legal-append s (x ∷ h) es l k =
    let parts : (is_legal s x ≡ true) × (all_legal (after s x) h ≡ true) =
    and_parts (is_legal s x) (all_legal (after s x) h) l in
    and_from _ _ parts.0 (all_legal-append (after s x) h es parts.1 k)

-- a legal history with legal entries more is legal
pub IsLegal-more : (cluster : Nodes) (h es : List Entry) → IsLegal cluster h → all_legal (standing_of cluster h) es
    ≡ true
    → IsLegal cluster (h ++ es)
IsLegal-more cluster h es l k = all_legal-append (nothing_yet cluster) h es l k

-- the same with one entry
pub IsLegal-append : (cluster : Nodes) (h : List Entry) (e : Entry) → IsLegal cluster h
    → is_legal (standing_of cluster h) e ≡ true → IsLegal cluster (h ++ e ∷ [])
IsLegal-append cluster h e l k = IsLegal-more cluster h (e ∷ []) l (and_from _ _ k refl)

-- an operation is one of node n, whatever came after it
pub is_hold_of-with_effect_on : (n : ℕ) (e : Entry) (h : Option Hold) → is_hold_of n (with_effect_on e h)
    ≡ is_hold_of n h
is_hold_of-with_effect_on n e None = refl
is_hold_of-with_effect_on n e (Some h) = refl

-- what holds at a node stays, where the entry leaves open who is joined
pub hold_at-with_effect : (e : Entry) (s : Standing) (c : ℕ) → (effect e s.registry).joined c ≡ s.registry.joined c
    → hold_at (with_effect e s) c ≡ with_effect_on e (hold_at s c)
hold_at-with_effect e s c j = ap (λ (b : Bool). if b then with_effect_on e s.held else with_effect_on e (s.lone_held c))
    j
    ∙ go (s.registry.joined c)
  where
    go : (b : Bool) → (if b then with_effect_on e s.held else with_effect_on e (s.lone_held c))
        ≡ with_effect_on e (if b then s.held else s.lone_held c)
    go true = refl
    go false = refl

-- in its own group it is what holds
pub hold_at-with : (a : ℕ) (h : Option Hold) (s : Standing) (c : ℕ) → in_group s.registry a c ≡ true
    → hold_at (set_hold a h s) c ≡ h
hold_at-with a h s c g = hold_at-group (set_hold a h s) a c
    (ap (λ (r : Registry). in_group r a c) (registry-set_hold a h s) ∙ g) ∙ hold_at-set_hold a h s

-- and what holds in another stays
pub hold_at-without : (a : ℕ) (h : Option Hold) (s : Standing) (c : ℕ) → in_group s.registry a c ≡ false
    → hold_at (set_hold a h s) c ≡ hold_at s c
hold_at-without a h s c g = go (s.registry.joined a) g
  where
    go : (b : Bool) → (if b then s.registry.joined c else c == a) ≡ false
        → hold_at (if b then record s { held = h } else record s { lone_held = at s.lone_held a h }) c ≡ hold_at s c
    go true g = ap (λ (b : Bool). if b then h else s.lone_held c) g
        ∙ sym (ap (λ (b : Bool). if b then s.held else s.lone_held c) g)
    go false g = ap (λ (h : Option Hold). if s.registry.joined c then s.held else h)
        (ap (λ (b : Bool). if b then h else s.lone_held c) g)

-- an entry that changes nothing and holds nothing leaves all as it was
pub same_past : (e : Entry) (s : Standing) → ((r : Registry) → effect e r ≡ r) → with_effect e s ≡ s
same_past e s same = go (effect e s.registry) (same s.registry) (with_effect_on e s.held) (past_same s.held)
    (λ n. with_effect_on e (s.lone_held n)) (fun_ext (λ n. past_same (s.lone_held n)))
  where
    past_same : (h : Option Hold) → with_effect_on e h ≡ h
    past_same None = refl
    past_same (Some h) = ap (λ (r : Registry). Some (record h { old = r })) (same h.old)

    go : (r : Registry) → r ≡ s.registry → (h : Option Hold) → h ≡ s.held → (hs : ℕ → Option Hold) → hs ≡ s.lone_held
        → ◌≡◌ {A = Standing} (record { registry = r; held = h; lone_held = hs }) s
    go r e h f hs g = ap (λ (r : Registry). let t : Standing = record { registry = r; held = h; lone_held = hs } in t) e
        ∙ ap (λ (h : Option Hold). let t : Standing = record { registry = s.registry; held = h; lone_held = hs } in t) f
        ∙ ap (λ (hs : ℕ → Option Hold). let t : Standing =
        record { registry = s.registry; held = s.held; lone_held = hs } in t) g

-- a refused name call
pub after-denied : (s : Standing) (n k : ℕ) (call : NameCall) (reply : Reply) → is_grant reply ≡ false
    → after s (Name n k call reply) ≡ s
after-denied s n k call reply f = ap (λ (h : Option ℕ). begin_hold (Name n k call reply) s.registry h
    (with_effect (Name n k call reply) s))
    (ap (λ (b : Bool). if b then Some n else None) f)
    ∙ same_past (Name n k call reply) s (λ r. ap
    (λ (b : Bool). if b then with_table n (changed (change_of call)) r else r) f)

-- a look-up
pub after-read : (s : Standing) (n : ℕ) (look : Look) (reply : Reply) → after s (Read n look reply) ≡ s
after-read s n look reply = same_past (Read n look reply) s (λ r. refl)

-- a refused join
pub after-not_member : (s : Standing) (j k m : ℕ) → after s (Join j k m NotMember) ≡ s
after-not_member s j k m = same_past (Join j k m NotMember) s (λ r. refl)

-- a join that ends because its contact has left
pub after-contact_left : (s : Standing) (j k m : ℕ) → after s (Join j k m ContactLeft) ≡ s
after-contact_left s j k m = same_past (Join j k m ContactLeft) s (λ r. refl)

-- a granted name call
pub after-granted : (s : Standing) (n k : ℕ) (call : NameCall) (reply : Reply) → is_grant reply ≡ true
    → after s (Name n k call reply) ≡ set_hold n
    (Some (record { node = n; entry = Name n k call reply; old = s.registry })) (with_effect (Name n k call reply) s)
after-granted s n k call reply t = ap (λ (h : Option ℕ). begin_hold (Name n k call reply) s.registry h
    (with_effect (Name n k call reply) s))
    (ap (λ (b : Bool). if b then Some n else None) t)
