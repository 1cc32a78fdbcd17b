-- What a lock table says to one that asks, and what it has then.
use Rattle.std.proofs.Common.{ℕ, Bool, true, false, ◌==◌, ◌≡◌, ◌<◌, ◌≤◌, ◌+◌, Option, Some, None, List, [], ◌∷◌, ◌++◌, get_or, refl, sym, ap, subst, ◌∙◌, inl, inr, arith}
use Rattle.std.specs.Prelude.{◌&&◌, not, if◌then◌else◌, find, All, Contains}
use Rattle.std.proofs.lemmas.Bool.{eqb-true, eq-eqb, lt-ltb}
use Rattle.std.proofs.lemmas.List.Elements.{All-contains, All-from_recursion, All-head, All-tail, Contains-append_right}
use Rattle.std.proofs.lemmas.Map.{none_passes_from_lookup}
use Rattle.std.proofs.lemmas.Map.Views.{Contains-from_lookup}
use Rattle.registry_model.specs.Process.{Process, Text}
use Rattle.protocol_model.specs.Letter.{Id, Global, Client, is_resource}
use Rattle.protocol_model.specs.LockTable.{Grant, Locks, count, is_grant_of, is_in_the_way, last_count, refused_for}
use Rattle.protocol_model.proofs.Ids.{is_resource_swap}
use Rattle.term.specs.declared.lock_id.LockId.{LockId}
use Rattle.lock_table.specs.Filed.{Entry, IsFiled, first_grant, grant_of, held_at, is_key, listed}
use Rattle.lock_table.specs.Grants.{HasUnder, IsFreeFor, IsOpenTo, Recounts}
use Rattle.lock_table.specs.Ids.{id_of, requester_of}
use Rattle.lock_table.specs.Sound.{IsSound}
use Rattle.lock_table.specs.Verdicts.{verdict_of, asked, IsFirstGrant}
use Rattle.lock_table.specs.declared.grant.Key.{Key}
use Rattle.lock_table.specs.declared.grant.Held.{Held}
use Rattle.lock_table.specs.Index.{is_under}
use Rattle.lock_table.specs.declared.verdict.Verdict.TheVariants.{Refuse}
use Rattle.lock_table.proofs.Facts.{both}
use Rattle.lock_table.proofs.Filing.{key_of, found_under, is_in_the_way-entry, never-absent, counted-held}
use Rattle.lock_table.proofs.Holders.{one_requester}
use Rattle.lock_table.proofs.Ids.{is_resource-id_of, requester_of-id_of}
use Rattle.lock_table.proofs.Keys.{exact}
use Rattle.lock_table.proofs.Listed.{All-listed, listed-all}
use Rattle.lock_table.proofs.Places.{All-find_none, count-absent, grant-absent}
use Rattle.lock_table.proofs.Removal.{is_under-entry}
use Rattle.lock_table.proofs.Steps.{count_range, filed-written, grant-more}

find-none : {X : Type 0} (p : X → Bool) (xs : List X) → All (λ x. p x ≡ false) xs → find p xs ≡ None
find-none p [] h = refl
find-none p (x ∷ xs) h =
    rw (All-head (λ y. p y ≡ false) x xs h) (find-none p xs (All-tail (λ y. p y ≡ false) x xs h))

find-some : {X : Type 0} (p : X → Bool) (xs : List X) (y : X) → find p xs ≡ Some y → Contains xs y × (p y ≡ true)
find-some p [] y e = absurd (cc e)
find-some p (x ∷ xs) y e = go (p x) refl e (find-some p xs y)
  where
    go : (b : Bool) → p x ≡ b → (if b then Some x else find p xs) ≡ Some y
        → (find p xs ≡ Some y → Contains xs y × (p y ≡ true))
        → Contains (x ∷ xs) y × (p y ≡ true)
    go true i f rest =
        let same : x ≡ y = cc f in
        (subst (Contains (x ∷ xs)) same (0, omega arith, refl), subst (λ z. p z ≡ true) same i)
    go false i f rest = (Contains-append_right (x ∷ []) xs y (rest f).0, (rest f).1)

is_resource_trans : (i j k : Id) → is_resource i j ≡ true → is_resource j k ≡ true → is_resource i k ≡ true
is_resource_trans (Global a) (Global b) (Global d) e f = refl
is_resource_trans (Client r q) (Client s z) (Client u w) e f =
    eq-eqb r u (eqb-true r s e ∙ eqb-true s u f)
is_resource_trans (Global a) (Global b) (Client u w) e f = cc
is_resource_trans (Global a) (Client s z) k e f = cc
is_resource_trans (Client r q) (Global b) k e f = cc
is_resource_trans (Client r q) (Client s z) (Global d) e f = cc

-- a grant is in the way, so all that are in the way are its requester's
refused_under : (id : Id) (p : Process) (t : Locks) (g : Grant) → IsSound t → Contains t g
    → is_in_the_way id g ≡ true
    → (verdict_of (refused_for id p t) ≡ Refuse (requester_of g.id)) × (asked id p t ≡ t)
refused_under id p t g s at way = go (find (is_in_the_way id) t) refl
  where
    go : (o : Option Grant) → find (is_in_the_way id) t ≡ o
        → (verdict_of (refused_for id p t) ≡ Refuse (requester_of g.id)) × (asked id p t ≡ t)
    go None e =
        absurd (cc (
          way,
          All-contains (λ (h : Grant). is_in_the_way id h ≡ false) t g
              (All-find_none (is_in_the_way id) t e) at,
        ))
    go (Some h) e =
        let f = find-some (is_in_the_way id) t h e in
        let same = one_requester t h g s f.0 at
        (is_resource_trans h.id id g.id (both _ _ f.1).0 (is_resource_swap g.id id (both _ _ way).0)) in
        (rw e (ap Refuse same), rw e refl)

-- What is filed, and one that asks
module _ (n : ℕ) (m : List Entry) (filed : IsFiled n m) (lock : LockId) (p : Process) where
  abbrev Table : Locks
  Table = listed n m

  listed-entry : (e : Entry) → Contains m e → Contains Table (grant_of e)
  listed-entry e at =
      All-contains (λ (x : Entry). Contains Table (grant_of x)) m e (listed-all n m filed.below) at

  -- another requester has the resource
  pub refused_other : (r : Text) → HasUnder lock.resource m r × ((r == lock.requester) ≡ false)
      → (Refuse r ≡ verdict_of (refused_for (id_of lock) p Table)) × (Table ≡ asked (id_of lock) p Table)
  refused_other r found =
      let h = found.0 in
      let e = h.0 in
      let way : is_in_the_way (id_of lock) (grant_of e) ≡ true = is_in_the_way-entry lock e
      ∙ rw (eq-eqb e.0.resource lock.resource h.2, h.3, found.1) refl in
      let said = refused_under (id_of lock) p Table (grant_of e) filed.sound (listed-entry e h.1) way in (
        sym (said.0 ∙ ap Refuse (requester_of-id_of (record { resource = e.0.resource; requester = e.1.requester })
            ∙ h.3)),
        sym said.1,
      )

  -- none has
  no_other : IsOpenTo lock.resource m lock.requester → IsFreeFor lock.resource lock.requester m
  no_other (inl none) i d l = rw (none i d l) refl
  no_other (inr h) i d l = go (e.0.resource == lock.resource) refl
    where
      e : Entry
      e = get_or m i d

      go : (b : Bool) → (e.0.resource == lock.resource) ≡ b → (b && not (e.1.requester == lock.requester)) ≡ false
      go false on = refl
      go true on =
          let same = one_requester Table (grant_of e) (grant_of h.0) filed.sound
          (listed-all n m filed.below i d l) (listed-entry h.0 h.1)
          (is_resource-id_of (record { resource = e.0.resource; requester = e.1.requester })
          (record { resource = h.0.0.resource; requester = h.0.1.requester })
          ∙ eq-eqb e.0.resource h.0.0.resource (eqb-true e.0.resource lock.resource on ∙ sym h.2)) in
          let own = sym (requester_of-id_of (record { resource = e.0.resource; requester = e.1.requester })) ∙ same
          ∙ requester_of-id_of (record { resource = h.0.0.resource; requester = h.0.1.requester }) ∙ h.3 in
          rw (eq-eqb e.1.requester lock.requester own) refl

  module _ (may : IsOpenTo lock.resource m lock.requester) (k : Key) (under : k ≡ key_of lock p) where
    none_other : IsFreeFor lock.resource lock.requester m
    none_other = no_other may

    clear : find (is_in_the_way (id_of lock)) Table ≡ None
    clear = find-none (is_in_the_way (id_of lock)) Table
        (All-listed (λ g. is_in_the_way (id_of lock) g ≡ false) n m
        (λ i d l. is_in_the_way-entry lock (get_or m i d) ∙ none_other i d l))

    free : count (id_of lock) p Table < last_count → refused_for (id_of lock) p Table ≡ None
    free room = rw (clear, lt-ltb (count (id_of lock) p Table) last_count room) refl

    module _ (v : Held) (found : Some v ≡ held_at m k) where
      at : held_at m (key_of lock p) ≡ Some v
      at = found_under m lock p k (Some v) under found

      pub own : v.requester ≡ lock.requester
      own =
          let clear_here = All-contains (λ (e : Entry). ((e.0.resource == lock.resource)
          && not (e.1.requester == lock.requester)) ≡ false) m (key_of lock p, v) none_other
          (Contains-from_lookup exact (key_of lock p) v m at) in
          eqb-true v.requester lock.requester
          (go (lock.resource == lock.resource) (v.requester == lock.requester) (eq-eqb _ _ refl) clear_here)
        where
          go : (a b : Bool) → a ≡ true → (a && not b) ≡ false → b ≡ true
          go true true i h = refl
          go true false i h = cc
          go false b i h = cc

      held : count (id_of lock) p Table ≡ v.count
      held = counted-held n m filed lock p v at own

      pub at_most : v.count ≤ last_count
      at_most = (count_range n m filed lock p k under v found own).1

      pub verdict-full : v.count ≡ last_count → Refuse lock.requester ≡ verdict_of (refused_for (id_of lock) p Table)
      verdict-full full = rw (clear, held ∙ full) (ap Refuse (sym (requester_of-id_of lock)))

      pub asked-full : v.count ≡ last_count → Table ≡ asked (id_of lock) p Table
      asked-full full = rw (clear, held ∙ full) refl

      pub free-held : v.count < last_count → refused_for (id_of lock) p Table ≡ None
      free-held room = free (omega (arith, room, held))

      pub filed-more : v.count < last_count → (es : List Entry) → Recounts k (v.count + 1) m es → IsFiled n es
      filed-more room es recounts =
          filed-written n m filed lock p k under v found own (v.count + 1) es (omega arith) (omega (arith, room)) recounts

      pub asked-more : v.count < last_count → (es : List Entry) → Recounts k (v.count + 1) m es
          → listed n es ≡ asked (id_of lock) p Table
      asked-more room es recounts =
          grant-more n m filed lock p k under v found own es recounts ∙ rw (free-held room) refl

    module _ (absent : None ≡ held_at m k) where
      none : All (λ g. is_grant_of (id_of lock) p g ≡ false) Table
      none = never-absent n m filed lock p (found_under m lock p k None under absent)

      unheld : count (id_of lock) p Table ≡ 0
      unheld = count-absent (id_of lock) p Table none

      pub free-first : refused_for (id_of lock) p Table ≡ None
      free-first = free (omega (arith, unheld))

      pub is_first : IsFirstGrant (id_of lock) p Table
      is_first = (rw free-first refl, unheld)

      -- what filing the first grant requires
      pub absent_under : All (λ g. is_under k g ≡ false) Table
      absent_under =
          All-listed (λ g. is_under k g ≡ false) n m
          (λ i d l. is_under-entry k (get_or m i d)
          ∙ All-from_recursion (λ (e : Entry). is_key k e.0 ≡ false) m
          (none_passes_from_lookup (is_key k) m (sym absent)) i d l)

      pub clear_first : All (λ g. is_in_the_way (first_grant k lock.requester).id g ≡ false) Table
      clear_first =
          subst (λ (q : Key). All (λ g. is_in_the_way (first_grant q lock.requester).id g ≡ false) Table) (sym under)
          (All-find_none (is_in_the_way (id_of lock)) Table clear)

      pub asked-first : asked (id_of lock) p Table ≡ Table ++ first_grant k lock.requester ∷ []
      asked-first =
          rw free-first (grant-absent (id_of lock) p Table none)
          ∙ ap (λ (q : Key). Table ++ first_grant q lock.requester ∷ []) (sym under)
