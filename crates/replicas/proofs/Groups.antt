-- Groups: which nodes an operation that holds concerns, now and before its entry.
use Rattle.std.proofs.Common.{ℕ, Bool, true, false, ◌==◌, ◌≡◌, Option, Some, refl, sym, ap, ◌∙◌}
use Rattle.std.specs.Prelude.{if◌then◌else◌}
use Rattle.std.proofs.lemmas.Bool.{eq-eqb, ne_eqb}
use Rattle.registry_model.specs.Registry.{Registry, in_group}
use Rattle.registry_model.specs.History.{Hold, Standing, hold_at}
use Rattle.registry_model.proofs.Groups.{in_group-itself}
use Rattle.registry_model.proofs.Holding.{hold_at-group}
use Rattle.replicas.proofs.Beside.{IsAlikeBut}
use Rattle.replicas.proofs.Soundness.{Within, WithinCluster, WithinLone, Sound}
use Rattle.replicas.proofs.Legality.{hold_at-lone, hold_at-joined}

-- what of the groups the registry and what holds say
pub record Groups (r : Registry) (hold : ℕ → Option Hold) : Type 0 where
  pub alike : (a c : ℕ) → in_group r a c ≡ true → hold c ≡ hold a
  pub within : (c : ℕ) (h : Hold) → hold c ≡ Some h → Within r h
  pub joined : (c : ℕ) (h : Hold) → hold c ≡ Some h → r.joined c ≡ true
      → (r.joined h.node ≡ true) × (h.old.joined h.node ≡ true)
  pub lone : (c : ℕ) (h : Hold) → hold c ≡ Some h → r.joined c ≡ false → (h.node ≡ c) × (h.old.joined c ≡ false)
  -- what holds at a lone node concerns its own names alone
  pub beside : (c : ℕ) (h : Hold) → hold c ≡ Some h → r.joined c ≡ false → IsAlikeBut c h.old r

-- so it stands of every legal history
pub Groups-sound : (s : Standing) → Sound s → Groups s.registry (hold_at s)
Groups-sound s S = record {
  alike = λ a c g. hold_at-group s a c g;
  within = λ c h e. within c h e (s.registry.joined c) refl;
  joined = λ c h e j. let C : WithinCluster s.registry h = S.cluster h (sym (hold_at-joined s c j) ∙ e) in
      (C.node, C.before);
  lone = λ c h e j. let L : WithinLone s.registry c h = S.alone c h (sym (hold_at-lone s c j) ∙ e) in
      (L.node, L.before);
  beside = λ c h e j. (S.alone c h (sym (hold_at-lone s c j) ∙ e)).alike;
}
  where
    within : (c : ℕ) (h : Hold) → hold_at s c ≡ Some h → (b : Bool) → s.registry.joined c ≡ b → Within s.registry h
    within c h e true j = (S.cluster h (sym (hold_at-joined s c j) ∙ e)).within
    within c h e false j = (S.alone c h (sym (hold_at-lone s c j) ∙ e)).within

-- so who is of another group is another node
pub apart_other : (r : Registry) (a c : ℕ) → in_group r a c ≡ false → c ≡ a → ⊥
apart_other r a c g e = cc (in_group-itself r a, ap (in_group r a) (sym e), g)

module _ (r : Registry) (hold : ℕ → Option Hold) (G : Groups r hold) where
  -- the node of what holds is of that group
  pub holder_in_group : (c : ℕ) (h : Hold) → hold c ≡ Some h → in_group r c h.node ≡ true
  holder_in_group c h e = go (r.joined c) refl
    where
      go : (b : Bool) → r.joined c ≡ b → (if b then r.joined h.node else h.node == c) ≡ true
      go true j = (G.joined c h e j).0
      go false j = eq-eqb h.node c (G.lone c h e j).0

  -- and it holds there
  pub hold-holder : (c : ℕ) (h : Hold) → hold c ≡ Some h → hold h.node ≡ Some h
  hold-holder c h e = G.alike c h.node (holder_in_group c h e) ∙ e

  -- groups that are apart were apart before
  pub apart_before : (a c : ℕ) (h : Hold) → hold c ≡ Some h → in_group r a c ≡ false → in_group h.old a c ≡ false
  apart_before a c h e g = go (h.old.joined a) refl
    where
      other : (b : Bool) → r.joined c ≡ b → r.joined a ≡ true → h.old.joined c ≡ false
      other true j k = cc (g, ap (λ (b : Bool). if b then r.joined c else c == a) k, j)
      other false j k = (G.lone c h e j).1

      go : (b : Bool) → h.old.joined a ≡ b → (if b then h.old.joined c else c == a) ≡ false
      go true j = other (r.joined c) refl ((G.within c h e).grows a j)
      go false j = ne_eqb c a (apart_other r a c g)
