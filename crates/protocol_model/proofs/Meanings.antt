-- Ids, targets, free locks and openings, in words.
use Rattle.std.proofs.Common.{ℕ, Bool, true, false, ◌==◌, ◌≡◌, ◌<◌, Some, None, List, [], ◌∷◌, refl, sym, ap, ◌∙◌, subst, inl, inr}
use Rattle.std.specs.Prelude.{◌↔◌, ◌&&◌, not, Contains, Option, find, is_none, nat_lt, if◌then◌else◌}
use Rattle.std.specs.List.{list_any, list_all}
use Rattle.std.proofs.Math.Bool.{and-true}
use Rattle.std.proofs.lemmas.Bool.{eqb-true, eq-eqb, and_parts, and_from, ltb-true, lt-ltb}
use Rattle.registry_model.specs.Process.{Nodes, nobody}
use Rattle.registry_model.specs.Table.{without}
use Rattle.registry_model.proofs.Lists.{Contains-cases, Contains-front, Contains-behind, Contains-nil}
use Rattle.protocol_model.specs.Letter.{Id, is_id, is_resource}
use Rattle.protocol_model.specs.LockTable.{Grant, Locks, count, last_count, is_in_the_way, refused_by, is_free_for}
use Rattle.protocol_model.specs.World.{Opening, in_cluster, opening_world}
use Rattle.protocol_model.specs.SharedLaws.{ComparesIds, HasName, LacksName, AsksMembers, GrantsTheFree, OpensEmpty}
use Rattle.protocol_model.proofs.Finding.{found_any, any_found, some_fails, fails_all, none_passes, none_found_in}
use Rattle.protocol_model.proofs.Ids.{is_id_self, is_id_same}

pub compares_ids : ComparesIds
compares_ids = record {
  same = λ i j. (is_id_same i j, λ e. subst (λ (k : Id). is_id i k ≡ true) e (is_id_self i));
  resources = λ r s x y. (eqb-true r s, eq-eqb r s);
  global = λ a b. refl;
  global_alone = λ a r x. (refl, refl);
}

-- a node is found in a list exactly where it has it
found : (nodes : List ℕ) (c : ℕ) → (list_any (λ m. m == c) nodes ≡ true) ↔ Contains nodes c
found nodes c = (
  λ e.
      let one : (m : ℕ) × Contains nodes m × ((m == c) ≡ true) = any_found (λ m. m == c) nodes e in
      subst (λ (m : ℕ). Contains nodes m) (eqb-true one.0 c one.2) one.1,
  λ h. found_any (λ m. m == c) nodes c h (eq-eqb c c refl),
)

-- a node has one of the names exactly where it is found among their nodes
found_named : (names : List (List ℕ)) (c : ℕ) → (list_any (λ nodes. list_any (λ m. m == c) nodes) names ≡ true) ↔ HasName names c
found_named names c = (
  λ e.
      let one : (nodes : List ℕ) × Contains names nodes × (list_any (λ m. m == c) nodes ≡ true) =
      any_found (λ nodes. list_any (λ m. m == c) nodes) names e in
      (one.0, one.1, (found one.0 c).0 one.2),
  λ h. found_any (λ nodes. list_any (λ m. m == c) nodes) names h.0 h.1 ((found h.0 c).1 h.2),
)

-- a name that no member has
missed : (members : Nodes) (names : List (List ℕ)) → (list_all (λ nodes. list_any members nodes) names ≡ false) ↔ LacksName members names
missed members names = (
  λ e.
      let one : (nodes : List ℕ) × Contains names nodes × (list_any members nodes ≡ false) =
      some_fails (λ nodes. list_any members nodes) names e in
      (one.0, one.1, λ c h. none_passes members one.0 c one.2 h),
  λ h. fails_all (λ nodes. list_any members nodes) names h.0 h.1 (none_found_in members h.0 h.2),
)

pub asks_members : AsksMembers
asks_members = record {
  all = λ members c. refl;
  named = λ members names c.
      let has : Bool = list_any (λ nodes. list_any (λ m. m == c) nodes) names in (
        λ e.
            let parts : (members c ≡ true) × (has ≡ true) = and_parts (members c) has e in
            (parts.0, (found_named names c).0 parts.1),
        λ h. and_from (members c) has h.0 ((found_named names c).1 h.1),
      );
  misses = λ v names. missed v.replica.members names;
  misses_none = λ v. refl;
}

-- nothing is in the way where each grant of the resource is of the id
abbrev AllOfId : Id → Locks → Type 0
AllOfId id t = (g : Grant) → Contains t g → is_resource g.id id ≡ true → g.id ≡ id

-- a grant that isn't in the way is of another resource, or of the id
not_in_the_way : (id : Id) (g : Grant) → is_in_the_way id g ≡ false → is_resource g.id id ≡ true → g.id ≡ id
not_in_the_way id g e r = go (is_id g.id id) refl (ap (λ (b : Bool). b && not (is_id g.id id)) (sym r) ∙ e)
  where
    go : (b : Bool) → is_id g.id id ≡ b → not b ≡ false → g.id ≡ id
    go true h k = is_id_same g.id id h
    go false h k = cc

of_id : (id : Id) (g : Grant) → (is_resource g.id id ≡ true → g.id ≡ id) → is_in_the_way id g ≡ false
of_id id g all = go (is_resource g.id id) refl
  where
    go : (b : Bool) → is_resource g.id id ≡ b → (b && not (is_id g.id id)) ≡ false
    go true e = ap not (subst (λ (i : Id). is_id i id ≡ true) (sym (all e)) (is_id_self id))
    go false e = refl

none_found : (id : Id) (t : Locks) → (find (is_in_the_way id) t ≡ None) ↔ AllOfId id t
none_found id [] = (λ e g c. absurd (Contains-nil g c), λ all. refl)
none_found id (g ∷ t) = (there (none_found id t).0 (is_in_the_way id g) refl, back (none_found id t).1)
  where
    rest : Option Grant
    rest = find (is_in_the_way id) t

    there : (rest ≡ None → AllOfId id t) → (b : Bool) → is_in_the_way id g ≡ b → (if b then Some g else rest) ≡ None
        → AllOfId id (g ∷ t)
    there by true e h k c = cc
    there by false e h k c = elim (Contains-cases g t k c) [
      | inl same ↦ subst (λ (x : Grant). is_resource x.id id ≡ true → x.id ≡ id) same (not_in_the_way id g e)
      | inr behind ↦ by h k behind
    ]

    back : (AllOfId id t → rest ≡ None) → AllOfId id (g ∷ t) → find (is_in_the_way id) (g ∷ t) ≡ None
    back by all = ap (λ (b : Bool). if b then Some g else rest) (of_id id g (all g (Contains-front g t)))
        ∙ by (λ k c. all k (Contains-behind g t k c))

pub grants_the_free : GrantsTheFree
grants_the_free id p t = (there (find (is_in_the_way id) t) refl, back)
  where
    there : (x : Option Grant) → find (is_in_the_way id) t ≡ x → is_none (refused_by id p t x) ≡ true
        → AllOfId id t × (count id p t < last_count)
    there (Some g) e h = cc
    there None e h = ((none_found id t).0 e, few (nat_lt (count id p t) last_count) refl h)
      where
        few : (b : Bool) → nat_lt (count id p t) last_count ≡ b → is_none (if b then None else Some id) ≡ true
            → count id p t < last_count
        few true k i = ltb-true (count id p t) last_count k
        few false k i = cc

    back : AllOfId id t × (count id p t < last_count) → is_free_for id p t ≡ true
    back h = ap (λ (x : Option Grant). is_none (refused_by id p t x)) ((none_found id t).1 h.0)
        ∙ ap (λ (b : Bool). is_none (if b then None else Some id)) (lt-ltb (count id p t) last_count h.1)

pub opens_empty : (o : Opening) → OpensEmpty o (opening_world o)
opens_empty o = record {
  idle = λ a. record {
    table = no_names (in_cluster o a);
    told = λ d. refl;
    locks = refl;
    serial = refl;
    dead = λ s. refl;
    queue = refl;
    current = refl;
    calls = refl;
    last_call = refl;
  };
  joined = λ a. refl;
  cluster = λ a c e. together (in_cluster o a) a c e;
  alone = λ a c e. apart (in_cluster o a) a c e;
  history = refl;
  links = λ f t. refl;
  left = λ a. refl;
}
  where
    no_names : (b : Bool) → without nobody (if b then [] else []) ≡ []
    no_names true = refl
    no_names false = refl

    together : (b : Bool) (a c : ℕ) → b ≡ true → ((if b then in_cluster o c else c == a) && true) ≡ in_cluster o c
    together true a c e = and-true (in_cluster o c)
    together false a c e = cc

    apart : (b : Bool) (a c : ℕ) → b ≡ false → (((if b then in_cluster o c else c == a) && true) ≡ true) ↔ (c ≡ a)
    apart true a c e = cc
    apart false a c e = (
      λ h. eqb-true c a (sym (and-true (c == a)) ∙ h),
      λ h. and-true (c == a) ∙ eq-eqb c a h,
    )
