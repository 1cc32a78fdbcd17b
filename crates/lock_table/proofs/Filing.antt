-- What is filed under a key tells of the list of the grants, and what a change there makes of the list.
use Rattle.std.proofs.Common.{ℕ, Bool, true, false, ◌==◌, ◌≡◌, ◌<◌, ◌≤◌, Option, Some, None, List, [], ◌∷◌, get_or, refl, sym, ap, ◌∙◌, subst, arith}
use Rattle.std.specs.Prelude.{if◌then◌else◌, ◌&&◌, not, filter, map, All, Contains}
use Rattle.std.specs.List.{IsDistinct}
use Rattle.std.specs.Map.{keys_of, set_value}
use Rattle.std.proofs.lemmas.Bool.{eq-eqb}
use Rattle.std.proofs.lemmas.List.Elements.{All-contains, All-map, All-nil, All-weaker}
use Rattle.std.proofs.lemmas.Map.{NonePasses, keys-set_value}
use Rattle.std.proofs.lemmas.Map.Entries.{none_past_head}
use Rattle.std.proofs.lemmas.Map.Keys.{IsDistinct-from_apart, IsDistinct-tail}
use Rattle.std.proofs.lemmas.Map.Views.{Contains-from_lookup}
use Rattle.registry_model.specs.Process.{Process, is_process}
use Rattle.protocol_model.specs.LockTable.{Grant, Locks, count, is_grant_of, is_in_the_way, last_count}
use Rattle.term.specs.declared.lock_id.LockId.{LockId}
use Rattle.lock_table.specs.Filed.{Entry, IsFiled, grant_of, held_at, is_key, listed, numbers_of}
use Rattle.lock_table.specs.Ids.{id_of}
use Rattle.lock_table.specs.Sound.{IsSound}
use Rattle.lock_table.specs.declared.grant.Key.{Key}
use Rattle.lock_table.specs.declared.grant.Held.{Held}
use Rattle.lock_table.proofs.Changes.{recount, sound-recount}
use Rattle.lock_table.proofs.Holders.{counted}
use Rattle.lock_table.proofs.Ids.{is_id-id_of, is_resource-id_of}
use Rattle.lock_table.proofs.Keys.{All-held, exact, key_laws}
use Rattle.lock_table.proofs.Listed.{All-listed, listed-all, listed-map, listed-filter}

-- nothing is filed
pub filed-none : IsFiled 0 []
filed-none = record {
  once = IsDistinct-from_apart is_key [] (λ i j d l w. absurd (omega (arith, w)));
  numbered_once = IsDistinct-from_apart (λ a b. a == b) [] (λ i j d l w. absurd (omega (arith, w)));
  below = All-nil (λ (e : Entry). e.1.number < 0);
  sound = record {
    one_requester = λ i j d l w. absurd (omega (arith, w));
    listed_once = λ i j d l w. absurd (omega (arith, w));
    counted = All-nil (λ (g : Grant). (1 ≤ g.count) × (g.count ≤ last_count));
  };
}

-- A value is set under a key
module _ (q : Key) where
  abbrev put : Held → Entry → Entry
  put w e = if is_key q e.0 then (e.0, w) else e

  map-put_none : (w : Held) (es : List Entry) → NonePasses (is_key q) es → map (put w) es ≡ es
  map-put_none w [] h = refl
  map-put_none w (e ∷ es) h = rw (h.0) (ap (λ (fs : List Entry). e ∷ fs) (map-put_none w es h.1))

  none_past : (e : Entry) (es : List Entry) → IsDistinct is_key (keys_of (e ∷ es))
      → is_key q e.0 ≡ true → NonePasses (is_key q) es
  none_past e es s i =
      none_past_head key_laws q e es s i

  set_value-map : (w : Held) (es : List Entry) → IsDistinct is_key (keys_of es)
      → set_value (is_key q) es w ≡ map (put w) es
  set_value-map w [] s = refl
  set_value-map w (e ∷ es) s =
      go (is_key q e.0) refl (set_value-map w es (IsDistinct-tail is_key e.0 (keys_of es) s))
    where
      go : (b : Bool) → is_key q e.0 ≡ b → set_value (is_key q) es w ≡ map (put w) es
          → (if b then (e.0, w) ∷ es else e ∷ set_value (is_key q) es w)
          ≡ (if b then (e.0, w) else e) ∷ map (put w) es
      go true i r = ap (λ (fs : List Entry). (e.0, w) ∷ fs) (sym (map-put_none w es (none_past e es s i)))
      go false i r = ap (λ (fs : List Entry). e ∷ fs) r

  -- of the same number
  numbers-set_value : (v w : Held) → w.number ≡ v.number → (es : List Entry) → held_at es q ≡ Some v
      → numbers_of (set_value (is_key q) es w) ≡ numbers_of es
  numbers-set_value v w same [] found = refl
  numbers-set_value v w same (e ∷ es) found = go (is_key q e.0) found (numbers-set_value v w same es)
    where
      go : (b : Bool) → (if b then Some e.1 else held_at es q) ≡ Some v
          → (held_at es q ≡ Some v → numbers_of (set_value (is_key q) es w) ≡ numbers_of es)
          → numbers_of (if b then (e.0, w) ∷ es else e ∷ set_value (is_key q) es w) ≡ e.1.number ∷ numbers_of es
      go true f rest = let here : e.1 ≡ v = cc f in cc (here, same)
      go false f rest = ap (λ (ns : List ℕ). e.1.number ∷ ns) (rest f)

-- what is filed of an id and a holder
abbrev pub key_of : LockId → Process → Key
key_of lock p = record { resource = lock.resource; holder = p }

-- what was found at a key that is this one
pub found_under : (m : List Entry) (lock : LockId) (p : Process) (k : Key) (o : Option Held)
    → k ≡ key_of lock p → o ≡ held_at m k → held_at m (key_of lock p) ≡ o
found_under m lock p k o same e = ap (held_at m) (sym same) ∙ sym e

swapped : (a b c : Bool) → ((a && b) && c) ≡ ((a && c) && b)
swapped true true true = refl
swapped true true false = refl
swapped true false true = refl
swapped true false false = refl
swapped false b c = refl

pub is_grant_of-entry : (lock : LockId) (p : Process) (e : Entry)
    → is_grant_of (id_of lock) p (grant_of e)
    ≡ (is_key (key_of lock p) e.0 && (e.1.requester == lock.requester))
is_grant_of-entry lock p e =
    rw (is_id-id_of (record { resource = e.0.resource; requester = e.1.requester }) lock, key_laws.symm (key_of lock p) e.0)
    (swapped (e.0.resource == lock.resource) (e.1.requester == lock.requester) (is_process e.0.holder p))

pub is_in_the_way-entry : (lock : LockId) (e : Entry)
    → is_in_the_way (id_of lock) (grant_of e)
    ≡ ((e.0.resource == lock.resource) && not (e.1.requester == lock.requester))
is_in_the_way-entry lock e =
    rw (
      is_resource-id_of (record { resource = e.0.resource; requester = e.1.requester }) lock,
      is_id-id_of (record { resource = e.0.resource; requester = e.1.requester }) lock,
    ) (go (e.0.resource == lock.resource) (e.1.requester == lock.requester))
  where
    go : (a b : Bool) → (a && not (a && b)) ≡ (a && not b)
    go true b = refl
    go false b = refl

module _ (n : ℕ) (m : List Entry) (filed : IsFiled n m)
    (lock : LockId) (p : Process) where
  abbrev Key_ : Key
  Key_ = key_of lock p

  abbrev Table : Locks
  Table = listed n m

  found_at : All (λ (e : Entry). is_key Key_ e.0 ≡ true → held_at m Key_ ≡ Some e.1) m
  found_at =
      All-weaker (λ (e : Entry). held_at m e.0 ≡ Some e.1)
      (λ (e : Entry). is_key Key_ e.0 ≡ true → held_at m Key_ ≡ Some e.1)
      (λ e f i. subst (λ (k : Key). held_at m k ≡ Some e.1) (sym (exact Key_ e.0 i)) f) m
      (All-held m filed.once)

  -- nothing is filed of the holder in the requester's name
  never : ((v : Held) → held_at m Key_ ≡ Some v → (v.requester == lock.requester) ≡ false)
      → All (λ g. is_grant_of (id_of lock) p g ≡ false) Table
  never none = All-listed (λ g. is_grant_of (id_of lock) p g ≡ false) n m (λ i d l.
      is_grant_of-entry lock p (get_or m i d)
      ∙ go (is_key Key_ (get_or m i d).0) refl (get_or m i d) (found_at i d l))
    where
      go : (b : Bool) → b ≡ b → (e : Entry) → (b ≡ true → held_at m Key_ ≡ Some e.1)
          → (b && (e.1.requester == lock.requester)) ≡ false
      go true r e f = none e.1 (f refl)
      go false r e f = refl

  pub never-other : (v : Held) → held_at m Key_ ≡ Some v → (v.requester == lock.requester) ≡ false
      → All (λ g. is_grant_of (id_of lock) p g ≡ false) Table
  never-other v found other = never (λ w f. cc (f, found, other))

  pub never-absent : held_at m Key_ ≡ None → All (λ g. is_grant_of (id_of lock) p g ≡ false) Table
  never-absent absent = never (λ w f. absurd (cc (f, absent)))

  -- a value is filed there in the requester's name
  module _ (v : Held) (found : held_at m Key_ ≡ Some v) (own : v.requester ≡ lock.requester) where
    value : All (λ (e : Entry). is_key Key_ e.0 ≡ true → e.1 ≡ v) m
    value i d l at = cc (found_at i d l at, found)

    hits : All (λ (e : Entry). is_grant_of (id_of lock) p (grant_of e) ≡ is_key Key_ e.0) m
    hits i d l =
        is_grant_of-entry lock p (get_or m i d)
        ∙ go (is_key Key_ (get_or m i d).0) (get_or m i d) (value i d l)
      where
        go : (b : Bool) → (e : Entry) → (b ≡ true → e.1 ≡ v) → (b && (e.1.requester == lock.requester)) ≡ b
        go true e f = eq-eqb e.1.requester lock.requester (ap (λ (h : Held). h.requester) (f refl) ∙ own)
        go false e f = refl

    pub listed-held : Contains Table (grant_of (Key_, v))
    listed-held =
        All-contains (λ (e : Entry). Contains Table (grant_of e)) m (Key_, v)
        (listed-all n m filed.below) (Contains-from_lookup exact Key_ v m found)

    pub counted-held : count (id_of lock) p Table ≡ v.count
    counted-held =
        subst (λ (r : ℕ). count (id_of (record lock { requester = r })) p Table ≡ v.count) own
        (counted Table (grant_of (Key_, v)) filed.sound listed-held)

    pub count_in : (1 ≤ v.count) × (v.count ≤ last_count)
    count_in =
        All-contains (λ (g : Grant). (1 ≤ g.count) × (g.count ≤ last_count)) Table (grant_of (Key_, v))
        filed.sound.counted listed-held

    pub listed-recount : (c : ℕ)
        → listed n (set_value (is_key Key_) m (record v { count = c }))
        ≡ map (recount (id_of lock) p c) Table
    listed-recount c =
        ap (listed n) (set_value-map Key_ (record v { count = c }) m filed.once)
        ∙ listed-map (put Key_ (record v { count = c })) (recount (id_of lock) p c) n m
        (λ i d l. rw (hits i d l)
        (go (is_key Key_ (get_or m i d).0) (get_or m i d) (value i d l)))
      where
        go : (b : Bool) → (e : Entry) → (b ≡ true → e.1 ≡ v)
            → ((if b then (e.0, record v { count = c }) else e).1.number ≡ e.1.number)
            × (grant_of (if b then (e.0, record v { count = c }) else e)
            ≡ (if b then record (grant_of e) { count = c } else grant_of e))
        go true e f = (
          ap (λ (h : Held). h.number) (sym (f refl)),
          ap (λ (h : Held). grant_of (e.0, record h { count = c })) (sym (f refl)),
        )
        go false e f = (refl, refl)

    pub filed-recount : (c : ℕ) → 1 ≤ c → c ≤ last_count
        → IsFiled n (set_value (is_key Key_) m (record v { count = c }))
    filed-recount c low high = record {
      once = subst (IsDistinct is_key)
          (sym (keys-set_value (is_key Key_) m (record v { count = c }))) filed.once;
      numbered_once = subst (IsDistinct (λ a b. a == b))
          (sym (numbers-set_value Key_ v (record v { count = c }) refl m found)) filed.numbered_once;
      below = subst (All (λ (e : Entry). e.1.number < n))
          (sym (set_value-map Key_ (record v { count = c }) m filed.once))
          (All-map (λ (e : Entry). e.1.number < n) (put Key_ (record v { count = c })) m
          (λ i d l. go (is_key Key_ (get_or m i d).0) (get_or m i d) (value i d l)
          (filed.below i d l)));
      sound = subst IsSound (sym (listed-recount c))
          (sound-recount (id_of lock) p c Table (low, high) filed.sound);
    }
      where
        go : (b : Bool) → (e : Entry) → (b ≡ true → e.1 ≡ v) → e.1.number < n
            → (if b then (e.0, record v { count = c }) else e).1.number < n
        go true e f l = subst (λ (h : Held). h.number < n) (f refl) l
        go false e f l = l

    pub listed-gone :
        listed n (filter (λ e. not (is_key Key_ e.0)) m) ≡ filter (λ g. not (is_grant_of (id_of lock) p g)) Table
    listed-gone =
        listed-filter (λ e. not (is_key Key_ e.0)) (λ g. not (is_grant_of (id_of lock) p g)) n m
        (λ i d l. ap not (sym (hits i d l)))
