-- A node that is welcomed keeps its members: it was lone, and it is a member of its new group.
use Rattle.std.proofs.Common.{ℕ, Bool, true, false, ◌==◌, ◌≡◌, refl, sym, subst, ap, ◌∙◌}
use Rattle.std.specs.Prelude.{◌&&◌, ◌||◌, not, if◌then◌else◌}
use Rattle.std.proofs.lemmas.Bool.{eqb-true}
use Rattle.registry_model.specs.Registry.{Registry, Replica, replica_of}
use Rattle.registry_model.specs.History.{old}
use Rattle.protocol_model.specs.Letter.{Letter}
use Rattle.protocol_model.specs.Reading.{welcomed}
use Rattle.protocol_model.specs.World.{Opening, World, left}
use Rattle.moves.proofs.Indices.{both}
use Rattle.moves.proofs.Invariants
use Rattle.moves.proofs.Invariants.{IsUp, Each, Proper, Replicas}
use Rattle.walk.proofs.Receiving.{WelcomeWidens}
use Rattle.walk.proofs.Joins.{JoinsOnce, joining_lone}

-- a lone node that runs has no member but itself
abbrev pub LoneAlone : Opening → World → Type 0
LoneAlone o w = (a c : ℕ) → IsUp o w a → (w.node a).replica.joined ≡ false → (w.node a).replica.members c ≡ true → c ≡ a

-- it is so where the replicas are those of the registry
pub lone_alone : (o : Opening) (w : World) → Replicas o w → LoneAlone o w
lone_alone o w h a c up lone member =
    let fact : (w.node a).replica ≡ replica_of
    (if Invariants.is_pending o w a then old (Invariants.standing_at o w) a else (Invariants.standing_at o w).registry)
    a =
    h.facts a up in
    alone (if Invariants.is_pending o w a then old (Invariants.standing_at o w) a else
    (Invariants.standing_at o w).registry)
    (ap (λ (v : Replica). v.joined) (sym fact) ∙ lone) (ap (λ (v : Replica). v.members c) (sym fact) ∙ member)
  where
    alone : (r : Registry) → r.joined a ≡ false → (replica_of r a).members c ≡ true → c ≡ a
    alone r e m =
        eqb-true c a
        (both (c == a) (not (r.told a c))
        (ap (λ (t : Bool). (if t then r.joined c else c == a) && not (r.told a c)) (sym e) ∙ m)).0

-- a node that is welcomed keeps its members
pub welcome_widens : (o : Opening) (w : World) → JoinsOnce w → Proper o w → LoneAlone o w → WelcomeWidens o w
welcome_widens o w once proper lone f a k members pairs told fate rest inside running untold waits front c member =
    subst (λ (x : ℕ). (welcomed a members pairs told fate (w.node a).replica).members x ≡ true)
    (sym (lone a c (inside, running) (joining_lone w once a k f waits) member)) own
  where
    letter : Invariants.IsProper o w f a (Letter.Welcome members pairs told fate)
    letter = (subst (Each (Invariants.IsProper o w f a)) front (proper.letters f a running)).0

    stays : (t : Bool) → (t ≡ true → left w a ≡ true) → t ≡ false
    stays true h = absurd (no (sym (h refl) ∙ running))
      where
        no : true ≡ false → ⊥
        no q = cc
    stays false h = refl

    all : (m s t : Bool) → m ≡ true → s ≡ false → t ≡ false → (m && not (s || t)) ≡ true
    all m s t p q r = rw (p, q, r) refl

    own : (members a && not ((w.node a).replica.told a || told a)) ≡ true
    own = all (members a) ((w.node a).replica.told a) (told a) letter.0
        (stays ((w.node a).replica.told a) (proper.told_left a a running)) (stays (told a) (letter.2 a))

-- so it is in every world of which the departures and the replicas are known
pub widened : (o : Opening) (F : World → Type 0) → ((w : World) → F w → Proper o w) → ((w : World) → F w → Replicas o w)
    → (w : World) → F w → JoinsOnce w → WelcomeWidens o w
widened o F proper replicas w f once = welcome_widens o w once (proper w f) (lone_alone o w (replicas w f))
