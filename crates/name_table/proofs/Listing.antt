-- Writes of the index: a name more or less for a process. And the owners, as names are forgotten one by one.
use Rattle.std.proofs.Common.{Bool, true, false, ◌==◌, ◌≡◌, ◌<◌, Option, Some, None, List, [], ◌∷◌, length, refl, sym, subst, ap, ◌∙◌, arith, nat_cmp, BTreeSet}
use Rattle.std.specs.Prelude.{if◌then◌else◌, not, ◌&&◌, ◌||◌}
use Rattle.std.specs.BTreeMap.{is_at}
use Rattle.std.specs.BTreeSet.{contains}
use Rattle.std.specs.List.{list_any}
use Rattle.std.specs.Map.{set_value}
use Rattle.std.proofs.Math.Path.{ap₂}
use Rattle.std.proofs.lemmas.Bool.{eqb-true}
use Rattle.std.proofs.lemmas.Map.Steps.{set_value_same}
use Rattle.registry_model.specs.Process.{Text, Process, is_process}
use Rattle.name_table.specs.declared.change.Registration.{Registration}
use Rattle.name_table.specs.Index.{Owners, Owned, standing, names_of, is_among, HaveNames, Lists, Unlists, Gains, Loses}
use Rattle.name_table.proofs.Agreement.{Writes, some_from_contains, lists_by, unlists_by, have_names}
use Rattle.name_table.proofs.NameSets.{is_at-name, gained}

-- a set without keys has no name
pub contains-empty : (names : BTreeSet Text) (y : Text) → names.keys ≡ [] → contains nat_cmp names y ≡ false
contains-empty names y e = ap (λ (ks : List Text). list_any (is_at (nat_cmp y)) ks) e

-- a write tells of any index that is the one before it
pub writes_to : (old between new : Owned) (p : Process) (names : Option (BTreeSet Text)) → between ≡ old →
    Writes p names between new → Writes p names old new
writes_to old between new p names e w = subst (λ (owned : Owned). Writes p names owned new) e w

-- the same names written back change nothing
pub written_back : (old new : Owned) (p : Process) (before later : BTreeSet Text) → Some before ≡ names_of p old →
    new ≡ set_value (is_process p) old later → later ≡ before → new ≡ old
written_back old new p before later k e i = e ∙ set_value_same (is_process p) old later (sym k ∙ ap Some (sym i))

-- a name more for a process that has names
pub lists_more : (old new : Owned) (p : Process) (x : Text) (before later : BTreeSet Text) →
    Some before ≡ names_of p old → Writes p (Some later) old new → Gains x before later → Lists p x old new
lists_more old new p x before later k w u = lists_by old new p x later w
    (λ y. u y ∙ ap (λ (o : Option (BTreeSet Text)). (x == y) || is_among y o) k)

-- a first name
pub lists_first : (old new : Owned) (p : Process) (x : Text) (later : BTreeSet Text) →
    None ≡ names_of p old → later.keys ≡ x ∷ [] → Writes p (Some later) old new → Lists p x old new
lists_first old new p x later k e w = lists_by old new p x later w
    (λ y. ap (λ (ks : List Text). list_any (is_at (nat_cmp y)) ks) e
    ∙ ap (λ (b : Bool). b || false) (is_at-name y x) ∙ ap (λ (o : Option (BTreeSet Text)). (x == y) || is_among y o) k)

-- after a write with a name in it each process has names
pub have_names-listed : (old new : Owned) (p : Process) (x : Text) (before later : BTreeSet Text) →
    Writes p (Some later) old new → Gains x before later → HaveNames old → HaveNames new
have_names-listed old new p x before later w u = have_names old new p (Some later) w
    (λ kept i. some_from_contains kept x
    (let e : kept ≡ later = cc in ap (λ (names : BTreeSet Text). contains nat_cmp names x) e ∙ gained x before later u))

-- also where it is the first
pub have_names-first : (old new : Owned) (p : Process) (x : Text) (later : BTreeSet Text) → Writes p (Some later) old new →
    later.keys ≡ x ∷ [] → HaveNames old → HaveNames new
have_names-first old new p x later w e = have_names old new p (Some later) w
    (λ kept i. let s : kept ≡ later = cc in
    subst (λ (ks : List Text). 0 < length ks) (sym (ap (λ (names : BTreeSet Text). names.keys) s ∙ e)) (omega arith))

-- of two writes of one process the later one stays
pub writes_over : (old between new : Owned) (p : Process) (first last : Option (BTreeSet Text)) →
    Writes p first old between → Writes p last between new → Writes p last old new
writes_over old between new p first last f l q =
    l q ∙ ap (λ (o : Option (BTreeSet Text)). if is_process p q then last else o) (f q) ∙ go (is_process p q)
  where
    go : (b : Bool) → (if b then last else (if b then first else names_of q old)) ≡ (if b then last else names_of q old)
    go true = refl
    go false = refl

-- a name less for a process that has others
pub unlists_one : (old new : Owned) (p : Process) (x : Text) (before later : BTreeSet Text) →
    Some before ≡ names_of p old → Writes p (Some later) old new → Loses x before later → Unlists p x old new
unlists_one old new p x before later k w u = unlists_by old new p x (Some later) w
    (λ y. u y ∙ ap (λ (o : Option (BTreeSet Text)). not (x == y) && is_among y o) k)

-- the last name less
pub unlists_last : (old new : Owned) (p : Process) (x : Text) (before later : BTreeSet Text) →
    Some before ≡ names_of p old → later.keys ≡ [] → Writes p None old new → Loses x before later → Unlists p x old new
unlists_last old new p x before later k e w u = unlists_by old new p x None w
    (λ y. sym (contains-empty later y e) ∙ u y ∙ ap (λ (o : Option (BTreeSet Text)). not (x == y) && is_among y o) k)

-- a set that is found not to be empty has keys, under whatever name
pub some_left : (names : BTreeSet Text) (r : Bool) → (length names.keys ≡ 0 → r ≡ true) → r ≡ false →
    (kept : BTreeSet Text) → Some names ≡ Some kept → 0 < length kept.keys
some_left names r h e kept i =
    let same : names ≡ kept = cc in subst (λ (s : BTreeSet Text). 0 < length s.keys) same (go names.keys h)
  where
    go : (ks : List Text) → (length ks ≡ 0 → r ≡ true) → 0 < length ks
    go [] h = absurd (let t = h refl in cc)
    go (k ∷ ks) h = omega arith

-- one of the names is done, and nothing stands under it: what is to stand nowhere in the end stays the same
pub forget_one : (names later : BTreeSet Text) (old new : Owners) (x : Text) → contains nat_cmp names x ≡ true →
    Loses x names later → ((y : Text) → standing y new ≡ (if x == y then None else standing y old)) → (y : Text) →
    (if contains nat_cmp later y then None else standing y new)
    ≡ (if contains nat_cmp names y then None else standing y old)
forget_one names later old new x h u w y =
    ap₂ (λ (b : Bool) (o : Option Registration). if b then None else o)
    (u y) (w y) ∙ go (x == y) refl
  where
    go : (b : Bool) → (x == y) ≡ b →
        (if not b && contains nat_cmp names y then None else (if b then None else standing y old))
        ≡ (if contains nat_cmp names y then None else standing y old)
    go true i = ap (λ (b : Bool). if b then None else standing y old)
        (sym (ap (λ (z : Text). contains nat_cmp names z) (sym (eqb-true x y i)) ∙ h))
    go false i = refl
