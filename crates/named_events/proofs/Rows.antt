-- The first delivery from name to name that passes a test, by senders, then receivers.
use mathlib.Core.Logic.{◌⊎◌, inl, inr}
use Rattle.std.proofs.Common.{ℕ, Bool, true, false, ◌≡◌, ◌<◌, ◌≤◌, Option, Some, None, List, [], ◌∷◌, refl, sym, ap, subst, ◌∙◌, arith, map}
use Rattle.std.specs.Prelude.{Contains, find, flat_map, if◌then◌else◌}
use Rattle.std.specs.Option.{option_or}
use Rattle.std.proofs.lemmas.List.Folds.{find-append}
use Rattle.registry_model.proofs.Lists.{Contains-cases, Contains-front, Contains-behind, Contains-nil}
use Rattle.creations.specs.NamedWorld.{NamedEvent, Deliver}
use Rattle.creations.proofs.Lists.{Rise}

module _ (p : NamedEvent → Bool) where
  -- what is found among the deliveries of one sender
  abbrev FromOne : ℕ → List ℕ → Option NamedEvent → Type 0
  FromOne f ts None = (t : ℕ) → Contains ts t → p (Deliver f t) ≡ false
  FromOne f ts (Some e) = (t : ℕ) × (e ≡ Deliver f t) × Contains ts t × (p (Deliver f t) ≡ true)
      × ((u : ℕ) → Contains ts u → p (Deliver f u) ≡ true → t ≤ u)

  from_one : (f : ℕ) (ts : List ℕ) → Rise ts → FromOne f ts (find p (map (λ t. Deliver f t) ts))
  from_one f [] R = λ t i. absurd (Contains-nil t i)
  from_one f (t ∷ ts) R = go (p (Deliver f t)) refl (find p (map (λ t. Deliver f t) ts)) (from_one f ts R.1)
    where
      go : (b : Bool) → p (Deliver f t) ≡ b → (x : Option NamedEvent) → FromOne f ts x
          → FromOne f (t ∷ ts) (if b then Some (Deliver f t) else x)
      go true e x F = (
        t,
        refl,
        Contains-front t ts,
        e,
        λ u i h. elim (Contains-cases t ts u i) [
          | inl same ↦ omega (arith, same)
          | inr more ↦ let l : t < u = R.0 u more in omega arith
        ],
      )
      go false e None F = λ u i. elim (Contains-cases t ts u i) [
        | inl same ↦ ap (λ (y : ℕ). p (Deliver f y)) (sym same) ∙ e
        | inr more ↦ F u more
      ]
      go false e (Some d) F = (
        F.0,
        F.1,
        Contains-behind t ts F.0 F.2,
        F.3,
        λ u i h. elim (Contains-cases t ts u i) [
          | inl same ↦ absurd (cc (e, ap (λ (y : ℕ). p (Deliver f y)) same, h))
          | inr more ↦ F.4 u more h
        ],
      )

  -- what is found among those of all senders
  abbrev pub FromAll : List ℕ → List ℕ → Option NamedEvent → Type 0
  FromAll fs ts None = (f t : ℕ) → Contains fs f → Contains ts t → p (Deliver f t) ≡ false
  FromAll fs ts (Some e) = (f : ℕ) × (t : ℕ) × (e ≡ Deliver f t) × Contains fs f × Contains ts t × (p (Deliver f t) ≡ true)
      × ((g u : ℕ) → Contains fs g → Contains ts u → p (Deliver g u) ≡ true → (f < g) ⊎ ((f ≡ g) × (t ≤ u)))

  pub from_all : (fs ts : List ℕ) → Rise fs → Rise ts
      → FromAll fs ts (find p (flat_map (λ f. map (λ t. Deliver f t) ts) fs))
  from_all [] ts R S = λ f t i j. absurd (Contains-nil f i)
  from_all (f ∷ fs) ts R S =
      subst (FromAll (f ∷ fs) ts)
      (sym (find-append p (map (λ t. Deliver f t) ts) (flat_map (λ g. map (λ t. Deliver g t) ts) fs)))
      (go (find p (map (λ t. Deliver f t) ts)) (from_one f ts S) (find p (flat_map (λ g. map (λ t. Deliver g t) ts) fs))
      (from_all fs ts R.1 S))
    where
      go : (x : Option NamedEvent) → FromOne f ts x → (y : Option NamedEvent) → FromAll fs ts y
          → FromAll (f ∷ fs) ts (option_or x y)
      go (Some e) F y G = (
        f,
        F.0,
        F.1,
        Contains-front f fs,
        F.2,
        F.3,
        λ g u i j h. elim (Contains-cases f fs g i) [
          | inl same ↦ inr (same, F.4 u j (ap (λ (y : ℕ). p (Deliver y u)) same ∙ h))
          | inr more ↦ inl (R.0 g more)
        ],
      )
      go None F None G = λ g u i j. elim (Contains-cases f fs g i) [
        | inl same ↦ ap (λ (y : ℕ). p (Deliver y u)) (sym same) ∙ F u j
        | inr more ↦ G g u more j
      ]
      go None F (Some d) G = (
        G.0,
        G.1,
        G.2,
        Contains-behind f fs G.0 G.3,
        G.4,
        G.5,
        λ g u i j h. elim (Contains-cases f fs g i) [
          | inl same ↦ absurd (cc (F u j, ap (λ (y : ℕ). p (Deliver y u)) same, h))
          | inr more ↦ G.6 g u more j h
        ],
      )
