-- The pairs of a table, and who has a name.
use Rattle.std.proofs.Common.{Bool, true, false, ◌≡◌, Option, Some, None, [], ◌∷◌, refl, sym, subst, ap, ◌∙◌, inl, inr}
use Rattle.std.specs.Prelude.{◌⊎◌, ◌||◌, Contains}
use Rattle.std.proofs.lemmas.Bool.{cases_eq, false_from_ne_true}
use Rattle.registry_model.specs.Process.{Text, Process, is_process}
use Rattle.registry_model.specs.Table.{Pair, Table, is_below, is_rising, get, entry, owns}
use Rattle.registry_model.specs.SharedLaws.{HasAName}
use Rattle.registry_model.proofs.Lists.{Contains-cases, Contains-front, Contains-behind, Contains-nil, is_process-true, is_process-eq}
use Rattle.registry_model.proofs.Tables.{is_rising-parts, entry-below, entry-front, entry-behind, get_from_entry}

-- what stands under a name stands in the table
pub Contains-entry : (t : Table) (y : Text) (e : Pair) → entry y t ≡ Some e → Contains t e
Contains-entry [] y e h = absurd cc
Contains-entry (d ∷ t) y e h = go (cases_eq d.name y) (Contains-entry t y e)
  where
    go : (d.name ≡ y) ⊎ (d.name ≡ y → ⊥) → (entry y t ≡ Some e → Contains t e) → Contains (d ∷ t) e
    go (inl i) later =
        let k : ◌≡◌ {A = Option Pair} (Some d) (Some e) = sym (entry-front d t)
        ∙ ap (λ (x : Text). entry x (d ∷ t)) i ∙ h in
        let o : d ≡ e = cc in
        subst (λ (f : Pair). Contains (d ∷ t) f) o (Contains-front d t)
    go (inr ne) later = Contains-behind d t e (later (sym (entry-behind d t y ne) ∙ h))

-- a pair of a rising table stands under its name
pub entry-Contains : (t : Table) → is_rising t ≡ true → (e : Pair) → Contains t e → entry e.name t ≡ Some e
entry-Contains [] r e c = absurd (Contains-nil e c)
entry-Contains (d ∷ t) r e c = go (Contains-cases d t e c) (entry-Contains t tail.1 e)
  where
    tail : (is_below d.name t ≡ true) × (is_rising t ≡ true)
    tail = is_rising-parts d t r

    go : (d ≡ e) ⊎ Contains t e → (Contains t e → entry e.name t ≡ Some e) → entry e.name (d ∷ t) ≡ Some e
    go (inl i) later = subst (λ (f : Pair). entry f.name (d ∷ t) ≡ Some f) i (entry-front d t)
    go (inr k) later = go2 (cases_eq d.name e.name) (later k)
      where
        go2 : (d.name ≡ e.name) ⊎ (d.name ≡ e.name → ⊥) → entry e.name t ≡ Some e → entry e.name (d ∷ t) ≡ Some e
        go2 (inl i) h =
            let n : entry e.name t ≡ None =
            entry-below e.name t tail.1 (subst (λ (z : Text). is_below z t ≡ true) i tail.0) in
            absurd cc
        go2 (inr ne) h = entry-behind d t e.name ne ∙ h

-- so its owner has that name
pub get-Contains : (t : Table) → is_rising t ≡ true → (e : Pair) → Contains t e → get e.name t ≡ Some e.owner
get-Contains t r e c = get_from_entry e.name t e (entry-Contains t r e c)

-- who owns a name is found by the test
pub owns-from_pair : (p : Process) (t : Table) (e : Pair) → Contains t e → e.owner ≡ p → owns p t ≡ true
owns-from_pair p [] e c i = absurd (Contains-nil e c)
owns-from_pair p (d ∷ t) e c i = go (Contains-cases d t e c) (owns-from_pair p t e) (is_process d.owner p) refl
  where
    go : (d ≡ e) ⊎ Contains t e → (Contains t e → e.owner ≡ p → owns p t ≡ true) → (b : Bool) →
        is_process d.owner p ≡ b → (b || owns p t) ≡ true
    go c later true k = refl
    go (inl j) later false k = let h : is_process d.owner p ≡ true =
        is_process-eq d.owner p (ap (λ (f : Pair). f.owner) j ∙ i) in cc
    go (inr c) later false k = later c i

-- and the test finds nobody else
pub owns-true : (p : Process) (t : Table) → owns p t ≡ true → HasAName p t
owns-true p [] h = absurd cc
owns-true p (d ∷ t) h = go (is_process d.owner p) refl h (owns-true p t)
  where
    go : (b : Bool) → is_process d.owner p ≡ b → (b || owns p t) ≡ true → (owns p t ≡ true → HasAName p t) →
        HasAName p (d ∷ t)
    go true k h later = (d, Contains-front d t, is_process-true d.owner p k)
    go false k h later = let (e, c, i) : HasAName p t = later h in (e, Contains-behind d t e c, i)

-- who has no name isn't found
pub owns-false : (p : Process) (t : Table) → (HasAName p t → ⊥) → owns p t ≡ false
owns-false p t no_name = false_from_ne_true (owns p t) (λ h. no_name (owns-true p t h))
