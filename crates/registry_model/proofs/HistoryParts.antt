-- Histories: parts of them, and what they come to.
use Rattle.std.proofs.Common.{ℕ, Bool, true, false, ◌≡◌, Option, Some, None, List, [], ◌∷◌, ◌++◌, refl, ap, ◌∙◌}
use Rattle.std.specs.Prelude.{if◌then◌else◌, fold}
use Rattle.std.proofs.lemmas.List.Sums.{fold-append}
use Rattle.std.proofs.lemmas.Bool.{and_parts, and_from}
use Rattle.registry_model.specs.Process.{Nodes, at}
use Rattle.registry_model.specs.Registry.{Registry, opening}
use Rattle.registry_model.specs.History.{Entry, Name, Strike, Join, Done, Exit, Left, Told, Read, effect, registry_of, granted_to, Hold, Standing, is_holding, set_hold, begin_hold, with_effect, after, nothing_yet, standing_of}
use Rattle.registry_model.specs.Legal.{is_legal, all_legal, IsLegal}

-- the registry after two parts of a history
pub registry_of-append : (cluster : Nodes) (h later : List Entry) →
    registry_of cluster (h ++ later) ≡ fold (λ r e. effect e r) (registry_of cluster h) later
registry_of-append cluster h later = fold-append (λ r e. effect e r) (opening cluster) h later

-- the registry after one entry more
pub registry_of-push : (cluster : Nodes) (h : List Entry) (e : Entry) →
    registry_of cluster (h ++ e ∷ []) ≡ effect e (registry_of cluster h)
registry_of-push cluster h e = registry_of-append cluster h (e ∷ [])

-- what two parts of a history come to
pub standing_of-append : (cluster : Nodes) (h later : List Entry) →
    standing_of cluster (h ++ later) ≡ fold after (standing_of cluster h) later
standing_of-append cluster h later = fold-append after (nothing_yet cluster) h later

-- what one entry more comes to
pub standing_of-push : (cluster : Nodes) (h : List Entry) (e : Entry) →
    standing_of cluster (h ++ e ∷ []) ≡ after (standing_of cluster h) e
standing_of-push cluster h e = standing_of-append cluster h (e ∷ [])

-- an operation that begins or ends to hold leaves the registry
pub registry-set_hold : (n : ℕ) (o : Option Hold) (s : Standing) → (set_hold n o s).registry ≡ s.registry
registry-set_hold n o s = go (s.registry.joined n)
  where
    go : (b : Bool) → (if b then record s { held = o } else record s { lone_held = at s.lone_held n o }).registry
        ≡ s.registry
    go true = refl
    go false = refl

-- the same, where an entry may begin one
pub registry-begin_hold : (e : Entry) (before : Registry) (o : Option ℕ) (s : Standing) →
    (begin_hold e before o s).registry ≡ s.registry
registry-begin_hold e before None s = refl
registry-begin_hold e before (Some n) s = registry-set_hold n (Some (record { node = n; entry = e; old = before })) s

-- the registry after one entry more, beside what holds
pub registry-after : (s : Standing) (e : Entry) → (after s e).registry ≡ effect e s.registry
registry-after s (Done n) = go (is_holding s n)
  where
    go : (b : Bool) → (if b then set_hold n None s else s).registry ≡ s.registry
    go true = registry-set_hold n None s
    go false = refl
registry-after s (Name n k call reply) =
    registry-begin_hold (Name n k call reply) s.registry (granted_to (Name n k call reply))
    (with_effect (Name n k call reply) s)
registry-after s (Strike p) = registry-begin_hold (Strike p) s.registry (granted_to (Strike p))
    (with_effect (Strike p) s)
registry-after s (Join j k m reply) =
    registry-begin_hold (Join j k m reply) s.registry (granted_to (Join j k m reply)) (with_effect (Join j k m reply) s)
registry-after s (Exit p) = refl
registry-after s (Left d) = refl
registry-after s (Told n d) = refl
registry-after s (Read n look reply) = refl

-- what a history comes to has its registry
pub registry-standing_of : (cluster : Nodes) (h : List Entry) → (standing_of cluster h).registry ≡ registry_of cluster h
registry-standing_of cluster h = go (nothing_yet cluster) h
  where
    go : (s : Standing) (h : List Entry) → (fold after s h).registry ≡ fold (λ r e. effect e r) s.registry h
    go s [] = refl
    go s (e ∷ h) = go (after s e) h ∙ ap (λ (r : Registry). fold (λ r e. effect e r) r h) (registry-after s e)

-- both parts of a legal history are legal, the second behind the first
pub all_legal-append : (s : Standing) (h later : List Entry) → all_legal s (h ++ later) ≡ true →
    (all_legal s h ≡ true) × (all_legal (fold after s h) later ≡ true)
all_legal-append s [] later l = (refl, l)
all_legal-append s (e ∷ h) later l =
    let parts : (is_legal s e ≡ true) × (all_legal (after s e) (h ++ later) ≡ true) =
    and_parts (is_legal s e) (all_legal (after s e) (h ++ later)) l in
    let rest : (all_legal (after s e) h ≡ true) × (all_legal (fold after (after s e) h) later ≡ true) =
    all_legal-append (after s e) h later parts.1 in
    (and_from (is_legal s e) (all_legal (after s e) h) parts.0 rest.0, rest.1)

-- an entry of a legal history is legal behind those before it
pub is_legal-at : (cluster : Nodes) (before later : List Entry) (e : Entry) → IsLegal cluster (before ++ e ∷ later) →
    is_legal (standing_of cluster before) e ≡ true
is_legal-at cluster before later e l =
    let rest : (all_legal (nothing_yet cluster) before ≡ true)
    × (all_legal (standing_of cluster before) (e ∷ later) ≡ true) =
    all_legal-append (nothing_yet cluster) before (e ∷ later) l in
    (and_parts (is_legal (standing_of cluster before) e) (all_legal (after (standing_of cluster before) e) later)
    rest.1).0

-- the front of a legal history is legal
pub IsLegal-front : (cluster : Nodes) (h later : List Entry) → IsLegal cluster (h ++ later) → IsLegal cluster h
IsLegal-front cluster h later l = (all_legal-append (nothing_yet cluster) h later l).0

-- what each entry keeps holds of each registry
pub registry_keeps : (cluster : Nodes) (P : Registry → Type 0) → P (opening cluster) →
    ((r : Registry) (e : Entry) → P r → P (effect e r)) → (h : List Entry) → P (registry_of cluster h)
registry_keeps cluster P first more h = go (opening cluster) h first
  where
    go : (r : Registry) (h : List Entry) → P r → P (fold (λ r e. effect e r) r h)
    go r [] p = p
    go r (e ∷ h) p = go (effect e r) h (more r e p)

-- what each legal entry keeps holds of what each legal history comes to
pub legal_keeps : (cluster : Nodes) (P : Standing → Type 0) → P (nothing_yet cluster) →
    ((s : Standing) (e : Entry) → is_legal s e ≡ true → P s → P (after s e)) → (h : List Entry) → IsLegal cluster h →
    P (standing_of cluster h)
legal_keeps cluster P first more h l = go (nothing_yet cluster) h l first
  where
    go : (s : Standing) (h : List Entry) → all_legal s h ≡ true → P s → P (fold after s h)
    go s [] l p = p
    go s (e ∷ h) l p =
        let parts : (is_legal s e ≡ true) × (all_legal (after s e) h ≡ true) =
        and_parts (is_legal s e) (all_legal (after s e) h) l in
        go (after s e) h parts.1 (more s e parts.0 p)
