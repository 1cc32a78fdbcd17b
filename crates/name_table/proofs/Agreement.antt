-- The index agrees with the owners: what one write of it lists, and that the changes of both keep the agreement.
use Rattle.std.proofs.Common.{Bool, true, false, ◌==◌, ◌≡◌, ◌<◌, Option, Some, None, List, [], ◌∷◌, length, refl, sym, ap, ◌∙◌, arith, nat_cmp, BTreeSet}
use Rattle.std.specs.Prelude.{if◌then◌else◌, not, ◌&&◌, ◌||◌}
use Rattle.std.specs.BTreeMap.{is_at}
use Rattle.std.specs.BTreeSet.{contains}
use Rattle.std.specs.List.{list_any}
use Rattle.std.proofs.lemmas.Bool.{eqb-true}
use Rattle.registry_model.specs.Process.{Text, Process, is_process}
use Rattle.registry_model.proofs.Lists.{is_process-true}
use Rattle.name_table.specs.Index.{Owners, Owned, standing, owner_under, owner_of, names_of, is_owner, is_among, is_listed, HaveNames, Agrees, Lists, Unlists, Forgets}

-- a set that has a name isn't empty
pub some_from_contains : (names : BTreeSet Text) (x : Text) → contains nat_cmp names x ≡ true → 0 < length names.keys
some_from_contains names x h = go names.keys h
  where
    go : (keys : List Text) → list_any (is_at (nat_cmp x)) keys ≡ true → 0 < length keys
    go [] h = cc
    go (y ∷ ys) h = omega arith

-- one process has these names now, or none
abbrev pub Writes : Process → Option (BTreeSet Text) → Owned → Owned → Type 0
Writes p names old new = (q : Process) → names_of q new ≡ (if is_process p q then names else names_of q old)

-- what is listed after a write
listed : (old new : Owned) (p : Process) (names : Option (BTreeSet Text)) → Writes p names old new →
    (y : Text) (q : Process) → is_listed y q new ≡ (if is_process p q then is_among y names else is_listed y q old)
listed old new p names h y q = ap (is_among y) (h q) ∙ go (is_process p q)
  where
    go : (b : Bool) → is_among y (if b then names else names_of q old)
        ≡ (if b then is_among y names else is_listed y q old)
    go true = refl
    go false = refl

-- a name more
pub lists_by : (old new : Owned) (p : Process) (x : Text) (names : BTreeSet Text) → Writes p (Some names) old new →
    ((y : Text) → contains nat_cmp names y ≡ ((x == y) || is_listed y p old)) → Lists p x old new
lists_by old new p x names h k y q = listed old new p (Some names) h y q ∙ go (is_process p q) refl
  where
    go : (b : Bool) → is_process p q ≡ b →
        (if b then contains nat_cmp names y else is_listed y q old) ≡ ((b && (x == y)) || is_listed y q old)
    go true i = k y ∙ ap (λ (r : Process). (x == y) || is_listed y r old) (is_process-true p q i)
    go false i = refl

-- a name less, where the names of the process are these
pub unlists_by : (old new : Owned) (p : Process) (x : Text) (names : Option (BTreeSet Text)) → Writes p names old new →
    ((y : Text) → is_among y names ≡ (not (x == y) && is_listed y p old)) → Unlists p x old new
unlists_by old new p x names h k y q = listed old new p names h y q ∙ go (is_process p q) refl
  where
    go : (b : Bool) → is_process p q ≡ b →
        (if b then is_among y names else is_listed y q old) ≡ (not (b && (x == y)) && is_listed y q old)
    go true i = k y ∙ ap (λ (r : Process). not (x == y) && is_listed y r old) (is_process-true p q i)
    go false i = refl

-- after a write each process has names, where the one written has some
pub have_names : (old new : Owned) (p : Process) (names : Option (BTreeSet Text)) → Writes p names old new →
    ((kept : BTreeSet Text) → names ≡ Some kept → 0 < length kept.keys) → HaveNames old → HaveNames new
have_names old new p names h some had q kept k = go (is_process p q) (sym (h q) ∙ k)
  where
    go : (b : Bool) → (if b then names else names_of q old) ≡ Some kept → 0 < length kept.keys
    go true i = some kept i
    go false i = had q kept i

-- p is the one that owns
owners_are : (p q r : Process) → is_process r p ≡ true → is_process r q ≡ is_process p q
owners_are p q r i = ap (λ (s : Process). is_process s q) (is_process-true r p i)

-- a put for a name that nobody had, or the same process
pub agrees-put : (owners after : Owners) (owned later : Owned) (x : Text) (p : Process) → Agrees owners owned →
    ((y : Text) → owner_of y after ≡ (if x == y then Some p else owner_of y owners)) →
    Lists p x owned later → HaveNames later →
    ((q : Process) → is_owner q (owner_of x owners) ≡ true → is_process p q ≡ true) → Agrees after later
agrees-put owners after owned later x p a h l n free = record {
  same = λ y q. l y q ∙ ap (λ (b : Bool). (is_process p q && (x == y)) || b) (a.same y q) ∙ go y q (x == y) refl
      ∙ ap (is_owner q) (sym (h y));
  named = n;
}
  where
    go : (y : Text) (q : Process) (b : Bool) → (x == y) ≡ b →
        ((is_process p q && b) || is_owner q (owner_of y owners))
        ≡ is_owner q (if b then Some p else owner_of y owners)
    go y q true i = at (is_process p q) refl
      where
        free_at : is_owner q (owner_of y owners) ≡ true → is_process p q ≡ true
        free_at k = free q (ap (λ (z : Text). is_owner q (owner_of z owners)) (eqb-true x y i) ∙ k)

        last : (c : Bool) → is_owner q (owner_of y owners) ≡ c → is_process p q ≡ false → c ≡ false
        last true e k = absurd (let m = free_at e in cc)
        last false e k = refl

        at : (b : Bool) → is_process p q ≡ b → ((b && true) || is_owner q (owner_of y owners)) ≡ b
        at true k = refl
        at false k = last (is_owner q (owner_of y owners)) refl k
    go y q false i = at (is_process p q)
      where
        at : (b : Bool) → ((b && false) || is_owner q (owner_of y owners)) ≡ is_owner q (owner_of y owners)
        at true = refl
        at false = refl

-- a put for a name that another had
pub agrees-put_over : (owners after : Owners) (owned between later : Owned) (x : Text) (p o : Process) →
    Agrees owners owned → ((y : Text) → owner_of y after ≡ (if x == y then Some p else owner_of y owners)) →
    Lists p x owned between → Unlists o x between later → HaveNames later → owner_of x owners ≡ Some o →
    is_process o p ≡ false → Agrees after later
agrees-put_over owners after owned between later x p o a h l u n had other = record {
  same = λ y q. u y q ∙ ap (λ (b : Bool). not (is_process o q && (x == y)) && b)
      (l y q ∙ ap (λ (b : Bool). (is_process p q && (x == y)) || b) (a.same y q)) ∙ go y q (x == y) refl
      ∙ ap (is_owner q) (sym (h y));
  named = n;
}
  where
    go : (y : Text) (q : Process) (b : Bool) → (x == y) ≡ b →
        (not (is_process o q && b) && ((is_process p q && b) || is_owner q (owner_of y owners)))
        ≡ is_owner q (if b then Some p else owner_of y owners)
    go y q true i = rw (ap (is_owner q) (ap (λ (z : Text). owner_of z owners) (sym (eqb-true x y i)) ∙ had))
        (at (is_process o q) (is_process p q) refl refl)
      where
        at : (b c : Bool) → is_process o q ≡ b → is_process p q ≡ c → (not (b && true) && ((c && true) || b)) ≡ c
        at true true j k = absurd (let e = ap (λ (r : Process). is_process o r) (is_process-true p q k) in cc)
        at true false j k = refl
        at false true j k = refl
        at false false j k = refl
    go y q false i = at (is_process o q) (is_process p q)
      where
        at : (b c : Bool) → (not (b && false) && ((c && false) || is_owner q (owner_of y owners)))
            ≡ is_owner q (owner_of y owners)
        at true true = refl
        at true false = refl
        at false true = refl
        at false false = refl

-- what a process owns is what is listed under it: so its names forgotten are those struck
pub struck : (owners after : Owners) (owned : Owned) (p : Process) (names : BTreeSet Text) → Agrees owners owned →
    names_of p owned ≡ Some names → Forgets names owners after → (y : Text) →
    standing y after ≡ (if is_owner p (owner_of y owners) then None else standing y owners)
struck owners after owned p names a k f y =
    f y ∙ ap (λ (b : Bool). if b then None else standing y owners) (ap (is_among y) (sym k) ∙ a.same y p)

-- who has no names is struck already
pub struck_none : (owners : Owners) (owned : Owned) (p : Process) → Agrees owners owned → names_of p owned ≡ None →
    (y : Text) → standing y owners ≡ (if is_owner p (owner_of y owners) then None else standing y owners)
struck_none owners owned p a k y =
    ap (λ (b : Bool). if b then None else standing y owners) (ap (is_among y) (sym k) ∙ a.same y p)

-- a process struck
pub agrees-strike : (owners after : Owners) (owned later : Owned) (p : Process) → Agrees owners owned →
    Writes p None owned later →
    ((y : Text) → standing y after ≡ (if is_owner p (owner_of y owners) then None else standing y owners)) →
    Agrees after later
agrees-strike owners after owned later p a w h = record {
  same = λ y q. listed owned later p None w y q ∙ ap (λ (b : Bool). if is_process p q then false else b) (a.same y q)
      ∙ go q (owner_of y owners) ∙ ap (is_owner q) (left y (is_owner p (owner_of y owners)) ∙ sym (ap owner_under (h y)));
  named = have_names owned later p None w (λ kept i. cc) a.named;
}
  where
    left : (y : Text) (b : Bool) →
        (if b then None else owner_of y owners) ≡ owner_under (if b then None else standing y owners)
    left y true = refl
    left y false = refl

    go : (q : Process) (o : Option Process) → (if is_process p q then false else is_owner q o)
        ≡ is_owner q (if is_owner p o then None else o)
    go q None = at (is_process p q)
      where
        at : (b : Bool) → (if b then false else false) ≡ false
        at true = refl
        at false = refl
    go q (Some r) = at (is_process r p) refl
      where
        same : (b : Bool) → (if b then false else b) ≡ false
        same true = refl
        same false = refl

        other : (b : Bool) → is_process p q ≡ b → is_process r p ≡ false →
            (if b then false else is_process r q) ≡ is_process r q
        other true i k = sym (ap (λ (s : Process). is_process r s) (sym (is_process-true p q i)) ∙ k)
        other false i k = refl

        at : (b : Bool) → is_process r p ≡ b → (if is_process p q then false else is_process r q)
            ≡ is_owner q (if b then None else Some r)
        at true i = rw (owners_are p q r i) (same (is_process p q))
        at false i = other (is_process p q) refl i
