-- What a lock table has of the global lock, and what becomes of it.
use Rattle.std.proofs.Common.{ℕ, Bool, true, false, ◌==◌, ◌≡◌, ◌+◌, ◌-◌, Option, Some, None, List, [], ◌∷◌, refl, sym, ap, ◌∙◌}
use Rattle.std.specs.Prelude.{not, ◌&&◌, nat_lt, is_none, if◌then◌else◌, find, filter}
use Rattle.std.proofs.lemmas.Bool.{eq-eqb, ne_eqb, eqb-true}
use Rattle.registry_model.specs.Process.{Process, is_process}
use Rattle.protocol_model.specs.Letter.{Id, Global, Client, is_id}
use Rattle.protocol_model.specs.LockTable.{Grant, Locks, count, is_in_the_way, is_free_for, refused_by, last_count, grant, give_back, drop_holder, drop_node}
use Rattle.protocol_model.specs.Registrar.{registrar}
use Rattle.lock_sessions.proofs.Base.{not_both}

-- the id is of the global lock
abbrev pub is_global : Id → Bool
is_global (Global b) = true
is_global (Client r q) = false

-- the grants of the global lock
abbrev pub globals : Locks → Locks
globals t = filter (λ g. is_global g.id) t

-- whom a lock table grants the global lock to, and how often
pub data Row : Type 0 where
  Nobody : Row
  Held : (requester : ℕ) → (count : ℕ) → Row

-- such a row as grants: they are the registrar's
abbrev pub grants_of : Row → Locks
grants_of Nobody = []
grants_of (Held b k) = record { id = Global b; holder = registrar b; count = k } ∷ []

-- one grant
abbrev pub once : Option ℕ
once = Some 1

-- how often node r's registrar is granted the lock by these grants
abbrev pub share : ℕ → Locks → Option ℕ
share r [] = None
share r (g ∷ t) = if is_id g.id (Global r) then Some g.count else share r t

-- one grant more of the global lock
pub globals-grant : (r : ℕ) (p : Process) (t : Locks) → globals (grant (Global r) p t) ≡ grant (Global r) p (globals t)
globals-grant r p [] = refl
globals-grant r p (g ∷ t) = head g.id g.holder g.count (globals-grant r p t)
  where
    head : (i : Id) (h : Process) (k : ℕ) → globals (grant (Global r) p t) ≡ grant (Global r) p (globals t)
        → globals (grant (Global r) p (record { id = i; holder = h; count = k } ∷ t))
        ≡ grant (Global r) p (globals (record { id = i; holder = h; count = k } ∷ t))
    head (Client s q) h k e = e
    head (Global b) h k e = go ((b == r) && is_process h p)
      where
        go : (c : Bool) → globals
            (if c then record { id = Global b; holder = h; count = k + 1 } ∷ t else record {
              id = Global b;
              holder = h;
              count = k;
            } ∷ grant (Global r) p t)
            ≡ (if c then record { id = Global b; holder = h; count = k + 1 } ∷ globals
            t else record { id = Global b; holder = h; count = k } ∷ grant (Global r) p (globals t))
        go true = refl
        go false = ap (λ (x : Locks). record { id = Global b; holder = h; count = k } ∷ x) e

-- one grant more of another lock
pub globals-grant-client : (s q : ℕ) (p : Process) (t : Locks) → globals (grant (Client s q) p t) ≡ globals t
globals-grant-client s q p [] = refl
globals-grant-client s q p (g ∷ t) = head g.id g.holder g.count (globals-grant-client s q p t)
  where
    head : (i : Id) (h : Process) (k : ℕ) → globals (grant (Client s q) p t) ≡ globals t
        → globals (grant (Client s q) p (record { id = i; holder = h; count = k } ∷ t))
        ≡ globals (record { id = i; holder = h; count = k } ∷ t)
    head (Global b) h k e = ap (λ (x : Locks). record { id = Global b; holder = h; count = k } ∷ x) e
    head (Client z y) h k e = go (((z == s) && (y == q)) && is_process h p)
      where
        go : (c : Bool) → globals
            (if c then record { id = Client z y; holder = h; count = k + 1 } ∷ t else record {
              id = Client z y;
              holder = h;
              count = k;
            } ∷ grant (Client s q) p t) ≡ globals t
        go true = refl
        go false = e

-- one grant less of the global lock
pub globals-give_back : (r : ℕ) (p : Process) (t : Locks)
    → globals (give_back (Global r) p t) ≡ give_back (Global r) p (globals t)
globals-give_back r p [] = refl
globals-give_back r p (g ∷ t) = head g.id g.holder g.count (globals-give_back r p t)
  where
    head : (i : Id) (h : Process) (k : ℕ) → globals (give_back (Global r) p t) ≡ give_back (Global r) p (globals t)
        → globals (give_back (Global r) p (record { id = i; holder = h; count = k } ∷ t))
        ≡ give_back (Global r) p (globals (record { id = i; holder = h; count = k } ∷ t))
    head (Client s q) h k e = e
    head (Global b) h k e = go ((b == r) && is_process h p) (nat_lt 1 k)
      where
        go : (c d : Bool) → globals
            (if c then (if d then record { id = Global b; holder = h; count = k - 1 } ∷ t else t) else record {
              id =
                  Global b;
              holder = h;
              count = k;
            } ∷ give_back (Global r) p t)
            ≡ (if c then (if d then record { id = Global b; holder = h; count = k - 1 } ∷ globals t else globals
            t) else record { id = Global b; holder = h; count = k } ∷ give_back (Global r) p (globals t))
        go true true = refl
        go true false = refl
        go false d = ap (λ (x : Locks). record { id = Global b; holder = h; count = k } ∷ x) e

-- one grant less of another lock
pub globals-give_back-client : (s q : ℕ) (p : Process) (t : Locks) → globals (give_back (Client s q) p t) ≡ globals t
globals-give_back-client s q p [] = refl
globals-give_back-client s q p (g ∷ t) = head g.id g.holder g.count (globals-give_back-client s q p t)
  where
    head : (i : Id) (h : Process) (k : ℕ) → globals (give_back (Client s q) p t) ≡ globals t
        → globals (give_back (Client s q) p (record { id = i; holder = h; count = k } ∷ t))
        ≡ globals (record { id = i; holder = h; count = k } ∷ t)
    head (Global b) h k e = ap (λ (x : Locks). record { id = Global b; holder = h; count = k } ∷ x) e
    head (Client z y) h k e = go (((z == s) && (y == q)) && is_process h p) (nat_lt 1 k)
      where
        go : (c d : Bool) → globals
            (if c then (if d then record { id = Client z y; holder = h; count = k - 1 } ∷ t else t) else record {
              id =
                  Client z y;
              holder = h;
              count = k;
            } ∷ give_back (Client s q) p t) ≡ globals t
        go true true = refl
        go true false = refl
        go false d = e

-- two filters may change places
pub filter-filter : {A : Type 0} (f h : A → Bool) (xs : List A) → filter f (filter h xs) ≡ filter h (filter f xs)
filter-filter f h [] = refl
filter-filter {A} f h (x ∷ xs) = go (f x) (h x) refl refl (filter-filter f h xs)
  where
    go : (b c : Bool) → f x ≡ b → h x ≡ c → filter f (filter h xs) ≡ filter h (filter f xs)
        → filter f (if c then x ∷ filter h xs else filter h xs) ≡ filter h (if b then x ∷ filter f xs else filter f xs)
    go true true k l e = rw (k, l) (ap (λ (ys : List A). x ∷ ys) e)
    go true false k l e = rw l e
    go false true k l e = rw k e
    go false false k l e = e

-- who stands in the way of the global lock
find-globals : (r : ℕ) (t : Locks) → find (is_in_the_way (Global r)) t ≡ find (is_in_the_way (Global r)) (globals t)
find-globals r [] = refl
find-globals r (g ∷ t) = head g.id g.holder g.count (find-globals r t)
  where
    head : (i : Id) (h : Process) (k : ℕ) → find (is_in_the_way (Global r)) t
        ≡ find (is_in_the_way (Global r)) (globals t)
        → find (is_in_the_way (Global r)) (record { id = i; holder = h; count = k } ∷ t)
        ≡ find (is_in_the_way (Global r)) (globals (record { id = i; holder = h; count = k } ∷ t))
    head (Client s q) h k e = e
    head (Global b) h k e = ap
        (λ (x : Option Grant). if not (b == r) then Some (record { id = Global b; holder = h; count = k }) else x) e

-- how often somebody has the global lock is seen from its own grants
count-globals : (r : ℕ) (p : Process) (t : Locks) → count (Global r) p t ≡ count (Global r) p (globals t)
count-globals r p [] = refl
count-globals r p (g ∷ t) = head g.id g.holder g.count (count-globals r p t)
  where
    head : (i : Id) (h : Process) (k : ℕ) → count (Global r) p t ≡ count (Global r) p (globals t)
        → count (Global r) p (record { id = i; holder = h; count = k } ∷ t)
        ≡ count (Global r) p (globals (record { id = i; holder = h; count = k } ∷ t))
    head (Client s q) h k e = e
    head (Global b) h k e = ap (λ (x : ℕ). if (b == r) && is_process h p then k else x) e

-- whether the global lock is free is seen from its own grants
pub is_free_for-globals : (r : ℕ) (p : Process) (t : Locks)
    → is_free_for (Global r) p t ≡ is_free_for (Global r) p (globals t)
is_free_for-globals r p t =
    ap (λ (x : Option Grant). is_none (refused_by (Global r) p t x)) (find-globals r t)
    ∙ go (find (is_in_the_way (Global r)) (globals t))
  where
    go : (x : Option Grant) → is_none (refused_by (Global r) p t x) ≡ is_none (refused_by (Global r) p (globals t) x)
    go (Some g) = refl
    go None = ap (λ (k : ℕ). is_none (if nat_lt k last_count then None else Some (Global r))) (count-globals r p t)

-- what a lock table becomes: its row, with node f's share of it, and nobody else's changed
pub record Rowed (f : ℕ) (before after : Locks) (own : Option ℕ → Option ℕ → Type 0) : Type 0 where
  pub row : Row
  pub is : globals after ≡ grants_of row
  pub here : own (share f (globals before)) (share f (globals after))
  pub there : (r : ℕ) → (r ≡ f → ⊥) → share r (globals after) ≡ share r (globals before)

-- node f gets a grant where the lock is free for it: the first one, if it had none
pub grant-row : (f : ℕ) (row : Row) (t : Locks) → globals t ≡ grants_of row
    → is_free_for (Global f) (registrar f) t ≡ true
    → Rowed f t (grant (Global f) (registrar f) t) (λ x y. x ≡ None → y ≡ once)
grant-row f Nobody t e free = record {
  row = Held f 1;
  is = after;
  here = λ h. ap (share f) after ∙ rw (eq-eqb f f refl) refl;
  there = λ r ne. ap (share r) after ∙ rw (ne_eqb f r (λ k. ne (sym k))) (sym (ap (share r) e));
}
  where
    after : globals (grant (Global f) (registrar f) t) ≡ grants_of (Held f 1)
    after = globals-grant f (registrar f) t ∙ ap (grant (Global f) (registrar f)) e
grant-row f (Held b k) t e free = go (b == f) refl
  where
    after : globals (grant (Global f) (registrar f) t) ≡ grant (Global f) (registrar f) (grants_of (Held b k))
    after = globals-grant f (registrar f) t ∙ ap (grant (Global f) (registrar f)) e

    free_here : is_free_for (Global f) (registrar f) (grants_of (Held b k)) ≡ true
    free_here = ap (is_free_for (Global f) (registrar f)) (sym e) ∙ sym (is_free_for-globals f (registrar f) t) ∙ free

    go : (c : Bool) → (b == f) ≡ c → Rowed f t (grant (Global f) (registrar f) t) (λ x y. x ≡ None → y ≡ once)
    go true q = record {
      row = Held b (k + 1);
      is = same;
      here = λ h. absurd (clash (sym (ap (share f) e ∙ rw q refl) ∙ h));
      there = λ r ne. ap (share r) same ∙ other r ne ∙ sym (ap (share r) e);
    }
      where
        is_b : b ≡ f
        is_b = eqb-true b f q

        same : globals (grant (Global f) (registrar f) t) ≡ grants_of (Held b (k + 1))
        same = after ∙ rw q refl

        clash : Some k ≡ None → ⊥
        clash h = cc

        other : (r : ℕ) → (r ≡ f → ⊥) → share r (grants_of (Held b (k + 1))) ≡ share r (grants_of (Held b k))
        other r ne = rw (ne_eqb b r (λ h. ne (sym h ∙ is_b))) refl
    go false q = absurd (not_free (sym free_here ∙ rw q refl))
      where
        not_free : true ≡ false → ⊥
        not_free h = cc

-- node f gives one grant back: its only one, if it had one
pub give_back-row : (f : ℕ) (row : Row) (t : Locks) → globals t ≡ grants_of row
    → Rowed f t (give_back (Global f) (registrar f) t) (λ x y. x ≡ once → y ≡ None)
give_back-row f Nobody t e = record {
  row = Nobody;
  is = after;
  here = λ h. absurd (clash (sym (ap (share f) e) ∙ h));
  there = λ r ne. ap (share r) (after ∙ sym e);
}
  where
    after : globals (give_back (Global f) (registrar f) t) ≡ []
    after = globals-give_back f (registrar f) t ∙ ap (give_back (Global f) (registrar f)) e

    clash : None ≡ once → ⊥
    clash h = cc
give_back-row f (Held b k) t e = go (b == f) (nat_lt 1 k) refl refl
  where
    after : globals (give_back (Global f) (registrar f) t) ≡ give_back (Global f) (registrar f) (grants_of (Held b k))
    after = globals-give_back f (registrar f) t ∙ ap (give_back (Global f) (registrar f)) e

    go : (c d : Bool) → (b == f) ≡ c → nat_lt 1 k ≡ d → Rowed f t (give_back (Global f) (registrar f) t)
        (λ x y. x ≡ once → y ≡ None)
    go false d q l = record {
      row = Held b k;
      is = same;
      here = λ h. absurd (clash (sym (ap (share f) e ∙ rw q refl) ∙ h));
      there = λ r ne. ap (share r) (same ∙ sym e);
    }
      where
        same : globals (give_back (Global f) (registrar f) t) ≡ grants_of (Held b k)
        same = after ∙ rw q refl

        clash : None ≡ once → ⊥
        clash h = cc
    go true true q l = record {
      row = Held b (k - 1);
      is = less;
      here = λ h. absurd (clash k l (sym (ap (share f) e ∙ rw q refl) ∙ h));
      there = λ r ne. ap (share r) less ∙ rw (ne_eqb b r (λ h. ne (sym h ∙ eqb-true b f q))) refl
          ∙ sym (ap (share r) e);
    }
      where
        less : globals (give_back (Global f) (registrar f) t) ≡ grants_of (Held b (k - 1))
        less = after ∙ rw (q, l) refl

        clash : (m : ℕ) → nat_lt 1 m ≡ true → Some m ≡ once → ⊥
        clash m l h = not_both (nat_lt 1 m) l (ap (nat_lt 1) (is_one m h))
          where
            is_one : (m : ℕ) → Some m ≡ once → m ≡ 1
            is_one m h = cc
    go true false q l = record {
      row = Nobody;
      is = gone;
      here = λ h. ap (share f) gone;
      there = λ r ne. ap (share r) gone
          ∙ sym (ap (share r) e ∙ rw (ne_eqb b r (λ h. ne (sym h ∙ eqb-true b f q))) refl);
    }
      where
        gone : globals (give_back (Global f) (registrar f) t) ≡ []
        gone = after ∙ rw (q, l) refl

-- the grants of node f go
pub drop_node-row : (f : ℕ) (row : Row) (t : Locks) → globals t ≡ grants_of row
    → Rowed f t (drop_node f t) (λ x y. Unit {0})
drop_node-row f Nobody t e =
    record { row = Nobody; is = after; here = tt; there = λ r ne. ap (share r) (after ∙ sym e) }
  where
    after : globals (drop_node f t) ≡ []
    after = filter-filter (λ g. is_global g.id) (λ g. not (g.holder.node == f)) t ∙ ap (drop_node f) e
drop_node-row f (Held b k) t e = go (b == f) refl
  where
    after : globals (drop_node f t) ≡ drop_node f (grants_of (Held b k))
    after = filter-filter (λ g. is_global g.id) (λ g. not (g.holder.node == f)) t ∙ ap (drop_node f) e

    go : (c : Bool) → (b == f) ≡ c → Rowed f t (drop_node f t) (λ x y. Unit {0})
    go false q = record { row = Held b k; is = same; here = tt; there = λ r ne. ap (share r) (same ∙ sym e) }
      where
        same : globals (drop_node f t) ≡ grants_of (Held b k)
        same = after ∙ rw q refl
    go true q = record {
      row = Nobody;
      is = gone;
      here = tt;
      there = λ r ne. ap (share r) gone
          ∙ sym (ap (share r) e ∙ rw (ne_eqb b r (λ h. ne (sym h ∙ eqb-true b f q))) refl);
    }
      where
        gone : globals (drop_node f t) ≡ []
        gone = after ∙ rw q refl

-- the grants of a client's process are none of the global lock
pub drop_holder-row : (p : Process) → (p.serial == 0) ≡ false → (row : Row) (t : Locks) → globals t ≡ grants_of row
    → globals (drop_holder p t) ≡ globals t
drop_holder-row p client row t e = filter-filter (λ g. is_global g.id) (λ g. not (is_process g.holder p)) t
    ∙ ap (drop_holder p) e ∙ stays row ∙ sym e
  where
    stays : (row : Row) → drop_holder p (grants_of row) ≡ grants_of row
    stays Nobody = refl
    stays (Held b k) = go (b == p.node)
      where
        serial : (0 == p.serial) ≡ false
        serial = ne_eqb 0 p.serial (λ h. not_both (p.serial == 0) (eq-eqb p.serial 0 (sym h)) client)

        go : (c : Bool) → (if not (c && (0 == p.serial)) then grants_of (Held b k) else []) ≡ grants_of (Held b k)
        go true = rw serial refl
        go false = refl

-- two nodes don't have the lock at once
pub one_share : (row : Row) (t : Locks) → globals t ≡ grants_of row → (r s : ℕ) (k m : ℕ)
    → share r (globals t) ≡ Some k → share s (globals t) ≡ Some m → r ≡ s
one_share row t e r s k m h l = go row (ap (share r) (sym e) ∙ h) (ap (share s) (sym e) ∙ l)
  where
    is_of : (b c : ℕ) (r : ℕ) (j : ℕ) → (if b == r then Some c else None) ≡ Some j → b ≡ r
    is_of b c r j h = test (b == r) refl h
      where
        test : (d : Bool) → (b == r) ≡ d → (if d then Some c else None) ≡ Some j → b ≡ r
        test true q h = eqb-true b r q
        test false q h = cc

    go : (row : Row) → share r (grants_of row) ≡ Some k → share s (grants_of row) ≡ Some m → r ≡ s
    go Nobody h l = cc
    go (Held b c) h l = sym (is_of b c r k h) ∙ is_of b c s m l
