-- What is so of a grant that is kept in place and the others beside it, by what is so of the others.
use Rattle.std.proofs.Common.{ℕ, Bool, true, false, ◌==◌, ◌≡◌, Option, Some, None, List, [], ◌∷◌, ◌++◌, is_some, refl, sym, ap, subst, ◌∙◌, inl, inr, arith}
use Rattle.std.specs.Prelude.{All, if◌then◌else◌}
use Rattle.std.specs.Map.{set_value}
use Rattle.std.proofs.lemmas.Bool.{eqb-true}
use Rattle.std.proofs.lemmas.List.Elements.{All-cons, All-contains, All-head, All-push, All-tail, Contains-append_right}
use Rattle.std.proofs.lemmas.List.Sorted.{All-permutation, IsPermutation-cons, IsPermutation-middle, IsPermutation-refl, IsPermutation-to_front, IsPermutation-trans}
use Rattle.std.proofs.lemmas.Map.Views.{Contains-from_lookup}
use Rattle.registry_model.specs.Process.{Text}
use Rattle.lock_table.specs.declared.grant.Key.{Key}
use Rattle.lock_table.specs.declared.grant.Held.{Held}
use Rattle.lock_table.specs.declared.grant.KeptGrant.{KeptGrant}
use Rattle.lock_table.specs.Filed.{Entry, held_at, is_key}
use Rattle.lock_table.specs.Grants.{and_others, is_in_place, Gains, Gone, HasUnder, IsHeld, IsNoneOn, IsOpenTo, Loses, Recounts}
use Rattle.lock_table.proofs.Keys.{exact, is_key_self}

-- nothing is filed under a key whose resource has no grant
pub none_at : (r : Text) (k : Key) (es : List Entry) → (k.resource == r) ≡ true → IsNoneOn r es → held_at es k ≡ None
none_at r k es on none = go (held_at es k) refl
  where
    go : (o : Option Held) → held_at es k ≡ o → held_at es k ≡ None
    go None e = e
    go (Some v) e =
        let off = All-contains (λ (x : Entry). (x.0.resource == r) ≡ false) es (k, v) none
        (Contains-from_lookup exact k v es e) in
        absurd (cc (on, off))

-- The grant that is kept in place
module _ (g : KeptGrant) (es : List Entry) where
  abbrev Grants : List Entry
  Grants = (g.key, g.held) ∷ es

  pub held_in_place : (k : Key) → is_key k g.key ≡ true → Some g.held ≡ held_at Grants k
  held_in_place k own = rw own refl

  -- so something is filed under its key
  is_held : IsHeld g.key Grants
  is_held = (g.held, sym (held_in_place g.key (is_key_self g.key)))

  pub has_in_place : (r : Text) → (g.key.resource == r) ≡ true → HasUnder r Grants g.held.requester
  has_in_place r on = ((g.key, g.held), (0, omega arith, refl), eqb-true g.key.resource r on, refl)

  pub open_in_place : (r q : Text) → (g.key.resource == r) ≡ true → (g.held.requester == q) ≡ true → IsOpenTo r Grants q
  open_in_place r q on own =
      inr (subst (HasUnder r Grants) (eqb-true g.held.requester q own) (has_in_place r on))

  has_beside : (r q : Text) → HasUnder r es q → HasUnder r Grants q
  has_beside r q h = (h.0, Contains-append_right ((g.key, g.held) ∷ []) es h.0 h.1, h.2, h.3)

  pub open_beside : (r q : Text) → (g.key.resource == r) ≡ false → IsOpenTo r es q → IsOpenTo r Grants q
  open_beside r q off (inl none) =
      inl (All-cons (λ (e : Entry). (e.0.resource == r) ≡ false) (g.key, g.held) es off none)
  open_beside r q off (inr h) = inr (has_beside r q h)

-- The others, whatever is kept in place
module _ (kept : Option KeptGrant) (es : List Entry) where
  -- what is so of all is so of the others
  pub All-others : (P : Entry → Type 0) → All P (and_others kept es) → All P es
  All-others P = go kept
    where
      go : (o : Option KeptGrant) → All P (and_others o es) → All P es
      go None h = h
      go (Some g) h = All-tail P (g.key, g.held) es h

  -- what is kept in place is another key's
  pub held_others : (k : Key) → is_in_place k kept ≡ false → held_at (and_others kept es) k ≡ held_at es k
  held_others k = go kept
    where
      go : (o : Option KeptGrant) → is_in_place k o ≡ false → held_at (and_others o es) k ≡ held_at es k
      go None other = refl
      go (Some g) other = rw other refl

  pub has_others : (r q : Text) → HasUnder r es q → HasUnder r (and_others kept es) q
  has_others r q h = go kept
    where
      go : (o : Option KeptGrant) → HasUnder r (and_others o es) q
      go None = h
      go (Some g) = has_beside g es r q h

  pub loses_others : (k : Key) (fs : List Entry) → is_in_place k kept ≡ false → Loses k es fs
      → Loses k (and_others kept es) (and_others kept fs)
  loses_others k fs other loses = go kept (held_others k other)
    where
      behind : (g : KeptGrant) → Gone k es fs → Gone k ((g.key, g.held) ∷ es) ((g.key, g.held) ∷ fs)
      behind g gone = (
        gone.0,
        gone.1,
        IsPermutation-trans ((g.key, g.held) ∷ es) ((g.key, g.held) ∷ gone.0 ∷ fs) (gone.0 ∷ (g.key, g.held) ∷ fs)
            (IsPermutation-cons (g.key, g.held) es (gone.0 ∷ fs) gone.2)
            (IsPermutation-middle ((g.key, g.held) ∷ []) gone.0 fs),
      )

      go : (o : Option KeptGrant) → held_at (and_others o es) k ≡ held_at es k
          → Loses k (and_others o es) (and_others o fs)
      go None same = loses
      go (Some g) same = (
        λ none. ap (λ (l : List Entry). (g.key, g.held) ∷ l) (loses.0 (sym same ∙ none)),
        λ v found. behind g (loses.1 v (sym same ∙ found)),
      )

  -- what is kept is filed under its key
  pub kept_held : (g : KeptGrant) → kept ≡ Some g → (k : Key) → k ≡ g.key → IsHeld k (and_others kept es)
  kept_held g at k same =
      subst (λ (o : Option KeptGrant). IsHeld k (and_others o es)) (sym at)
      (subst (λ (q : Key). IsHeld q (and_others (Some g) es)) (sym same) (is_held g es))

  pub loses_kept : (k : Key) → is_in_place k kept ≡ true → Loses k (and_others kept es) es
  loses_kept k = go kept
    where
      go : (o : Option KeptGrant) → is_in_place k o ≡ true → Loses k (and_others o es) es
      go None own = absurd (cc own)
      go (Some g) own = (
        λ none. absurd (cc (none, held_in_place g es k own)),
        λ v found. ((g.key, g.held), own, IsPermutation-refl ((g.key, g.held) ∷ es)),
      )

  pub gains_others : (e : Entry) (fs : List Entry) → Gains e es fs → Gains e (and_others kept es) (and_others kept fs)
  gains_others e fs gains = go kept
    where
      go : (o : Option KeptGrant) → Gains e (and_others o es) (and_others o fs)
      go None = gains
      go (Some g) = IsPermutation-cons (g.key, g.held) (es ++ e ∷ []) fs gains

  -- a first grant that is kept in place
  pub gains_in_place : (e : Entry) → is_some kept ≡ false → Gains e (and_others kept es) (e ∷ es)
  gains_in_place e = go kept
    where
      go : (o : Option KeptGrant) → is_some o ≡ false → Gains e (and_others o es) (e ∷ es)
      go None none = IsPermutation-to_front es e
      go (Some g) none = absurd (cc none)

-- Where no grant is on a resource
module _ (r : Text) (k : Key) where
  abbrev IsOff : Entry → Type 0
  IsOff e = (e.0.resource == r) ≡ false

  none_written : (w : Held) (es : List Entry) → IsNoneOn r es → IsNoneOn r (set_value (is_key k) es w)
  none_written w [] none = none
  none_written w (e ∷ es) none =
      go (is_key k e.0) (All-head IsOff e es none) (All-tail IsOff e es none)
      (none_written w es (All-tail IsOff e es none))
    where
      go : (b : Bool) → IsOff e → IsNoneOn r es → IsNoneOn r (set_value (is_key k) es w)
          → IsNoneOn r (if b then (e.0, w) ∷ es else e ∷ set_value (is_key k) es w)
      go true off rest written = All-cons IsOff (e.0, w) es off rest
      go false off rest written = All-cons IsOff e (set_value (is_key k) es w) off written

  pub none_recounted : (c : ℕ) (es fs : List Entry) → Recounts k c es fs → IsNoneOn r es → IsNoneOn r fs
  none_recounted c es fs recounts none = go (held_at es k) refl
    where
      go : (o : Option Held) → held_at es k ≡ o → IsNoneOn r fs
      go None e = subst (IsNoneOn r) (sym (recounts.0 e)) none
      go (Some v) e = subst (IsNoneOn r) (sym (recounts.1 v e)) (none_written (record v { count = c }) es none)

  pub none_lost : (es fs : List Entry) → Loses k es fs → IsNoneOn r es → IsNoneOn r fs
  none_lost es fs loses none = go (held_at es k) refl
    where
      go : (o : Option Held) → held_at es k ≡ o → IsNoneOn r fs
      go None e = subst (IsNoneOn r) (sym (loses.0 e)) none
      go (Some v) e =
          let gone = loses.1 v e in
          All-tail IsOff gone.0 fs (All-permutation IsOff es (gone.0 ∷ fs) gone.2 none)

  pub none_gained : (v : Held) (es fs : List Entry) → Gains (k, v) es fs → (k.resource == r) ≡ false → IsNoneOn r es
      → IsNoneOn r fs
  none_gained v es fs gains off none =
      All-permutation IsOff (es ++ (k, v) ∷ []) fs gains (All-push IsOff es (k, v) none off)
