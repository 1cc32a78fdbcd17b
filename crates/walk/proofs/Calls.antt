-- The lock calls of one node, rising by serial: a change of one of them leaves the others as they are.
use Rattle.std.proofs.Common.{ℕ, Bool, true, false, ◌==◌, ◌≡◌, Option, Some, List, [], ◌∷◌, refl, sym, subst, ap, ◌∙◌, arith}
use Rattle.std.specs.Prelude.{not, ◌&&◌, nat_lt, if◌then◌else◌}
use Rattle.std.proofs.lemmas.Bool.{eq-eqb, eqb-true}
use Rattle.std.proofs.lemmas.Bool.Decides.{nat_tests}
use Rattle.registry_model.specs.Process.{Process, is_process}
use Rattle.protocol_model.specs.Node.{LockCall, call_of, drop_call, put_call}
use Rattle.moves.proofs.Indices.{both}
use Rattle.moves.proofs.Rules.{is_after, is_ordered}

-- all of these calls are of a greater serial
abbrev pub AllAfter : ℕ → List LockCall → Type 0
AllAfter s [] = Unit {0}
AllAfter s (c ∷ cs) = (nat_lt s c.holder.serial ≡ true) × AllAfter s cs

-- each of these calls is open among the others, as it stands
abbrev pub AllOpen : List LockCall → List LockCall → Type 0
AllOpen xs [] = Unit {0}
AllOpen xs (c ∷ cs) = (call_of c.holder xs ≡ Some c) × AllOpen xs cs

-- a call of this node's own process, which comes before ordered calls
abbrev pub OrderedParts : ℕ → LockCall → List LockCall → Type 0
OrderedParts a c cs =
    ((c.holder.node == a) ≡ true) × (nat_lt 0 c.holder.serial ≡ true) × (is_after c.holder.serial cs ≡ true)
    × (is_ordered a cs ≡ true)

-- what is known of the first of ordered calls, and of the rest
pub ordered_parts : (a : ℕ) (c : LockCall) (cs : List LockCall) → is_ordered a (c ∷ cs) ≡ true
    → OrderedParts a c cs
ordered_parts a c cs h =
    go (c.holder.node == a) (nat_lt 0 c.holder.serial) (is_after c.holder.serial cs) (is_ordered a cs) h
  where
    go : (p q r s : Bool) → (p && q && r && s) ≡ true → (p ≡ true) × (q ≡ true) × (r ≡ true) × (s ≡ true)
    go true true true true e = (refl, refl, refl, refl)
    go true true true false e = cc
    go true true false s e = cc
    go true false r s e = cc
    go false q r s e = cc

-- and back
pub ordered_of : (a : ℕ) (c : LockCall) (cs : List LockCall)
    → (c.holder.node == a) ≡ true → nat_lt 0 c.holder.serial ≡ true → is_after c.holder.serial cs ≡ true
    → is_ordered a cs ≡ true
    → is_ordered a (c ∷ cs) ≡ true
ordered_of a c cs p q r s = rw (p, q, r, s) refl

-- a lesser serial
lt_trans : (r s t : ℕ) → nat_lt r s ≡ true → nat_lt s t ≡ true → nat_lt r t ≡ true
lt_trans r s t p q = grind (arith, nat_tests)

-- what comes after a call comes after each lesser serial
all_after-less : (r s : ℕ) (cs : List LockCall) → nat_lt r s ≡ true → AllAfter s cs → AllAfter r cs
all_after-less r s [] l h = tt
all_after-less r s (c ∷ cs) l h = (lt_trans r s c.holder.serial l h.0, all_after-less r s cs l h.1)

-- all behind a call come after it
pub all_after : (a s : ℕ) (cs : List LockCall) → is_after s cs ≡ true → is_ordered a cs ≡ true → AllAfter s cs
all_after a s [] l h = tt
all_after a s (c ∷ cs) l h =
    let parts : OrderedParts a c cs = ordered_parts a c cs h in
    (l, all_after-less s c.holder.serial cs l (all_after a c.holder.serial cs parts.2 parts.3))

-- so the first of them does
is_after-of : (s : ℕ) (cs : List LockCall) → AllAfter s cs → is_after s cs ≡ true
is_after-of s [] h = refl
is_after-of s (c ∷ cs) h = h.0

-- a process is itself
pub is_process-same : (p : Process) → is_process p p ≡ true
is_process-same p = rw (eq-eqb p.node p.node refl, eq-eqb p.serial p.serial refl) refl

-- processes of different serials are two
pub is_process-less : (p q : Process) → nat_lt p.serial q.serial ≡ true → is_process p q ≡ false
is_process-less p q l = go (p.node == q.node)
  where
    differ : (p.serial == q.serial) ≡ false
    differ = grind (arith, nat_tests)

    go : (t : Bool) → (t && (p.serial == q.serial)) ≡ false
    go true = differ
    go false = refl

-- a process found to be another is that other
pub is_process-true : (p q : Process) → is_process p q ≡ true → p ≡ q
is_process-true p q h =
    let parts : ((p.node == q.node) ≡ true) × ((p.serial == q.serial) ≡ true) =
    both (p.node == q.node) (p.serial == q.serial) h in
    ap (λ (n : ℕ). record p { node = n }) (eqb-true p.node q.node parts.0)
    ∙ ap (λ (n : ℕ). record q { serial = n }) (eqb-true p.serial q.serial parts.1)

-- the call that is found is of the process that was looked for
pub call_of-holder : (p : Process) (xs : List LockCall) (c : LockCall) → call_of p xs ≡ Some c
    → is_process c.holder p ≡ true
call_of-holder p [] c e = cc
call_of-holder p (d ∷ xs) c e = go (is_process d.holder p) refl e (call_of-holder p xs c)
  where
    go : (t : Bool) → is_process d.holder p ≡ t → (if t then Some d else call_of p xs) ≡ Some c
        → (call_of p xs ≡ Some c → is_process c.holder p ≡ true)
        → is_process c.holder p ≡ true
    go true q f r = subst (λ (x : LockCall). is_process x.holder p ≡ true) (some_same f) q
      where
        some_same : Some d ≡ Some c → d ≡ c
        some_same g = cc
    go false q f r = r f

-- among ordered calls each stands for its process
pub all_open : (a : ℕ) (xs : List LockCall) → is_ordered a xs ≡ true → AllOpen xs xs
all_open a [] h = tt
all_open a (c ∷ xs) h = (
  rw (is_process-same c.holder) refl,
  later xs (all_after a c.holder.serial xs (ordered_parts a c xs h).2 (ordered_parts a c xs h).3)
      (all_open a xs (ordered_parts a c xs h).3),
)
  where
    later : (cs : List LockCall) → AllAfter c.holder.serial cs → AllOpen xs cs → AllOpen (c ∷ xs) cs
    later [] l k = tt
    later (d ∷ cs) l k = (rw (is_process-less c.holder d.holder l.0) k.0, later cs l.1 k.1)

-- Of ordered calls, all but that of q stay as they are, and the calls stay ordered
abbrev pub Only : ℕ → Process → List LockCall → List LockCall → Type 0
Only a q xs ys = is_ordered a xs ≡ true →
    (is_ordered a ys ≡ true) × ((p : Process) → is_process q p ≡ false → call_of p ys ≡ call_of p xs)

-- nothing changes
pub only_none : (a : ℕ) (q : Process) (xs : List LockCall) → Only a q xs xs
only_none a q xs h = (h, λ p ne. refl)

-- one change after another
pub only_then : (a : ℕ) (q : Process) (xs ys zs : List LockCall) → Only a q xs ys → Only a q ys zs → Only a q xs zs
only_then a q xs ys zs f g h = ((g (f h).0).0, λ p ne. (g (f h).0).1 p ne ∙ (f h).1 p ne)

-- what comes after all calls still does when one is dropped
all_after-drop : (s : ℕ) (q : Process) (xs : List LockCall) → AllAfter s xs → AllAfter s (drop_call q xs)
all_after-drop s q [] h = tt
all_after-drop s q (c ∷ xs) h = go (is_process c.holder q) (all_after-drop s q xs h.1)
  where
    go : (t : Bool) → AllAfter s (drop_call q xs) → AllAfter s (if not t then c ∷ drop_call q xs else drop_call q xs)
    go true r = r
    go false r = (h.0, r)

-- calls stay ordered when one is dropped
pub is_ordered-drop_call : (a : ℕ) (q : Process) (xs : List LockCall) → is_ordered a xs ≡ true
    → is_ordered a (drop_call q xs) ≡ true
is_ordered-drop_call a q [] h = refl
is_ordered-drop_call a q (c ∷ xs) h = go (is_process c.holder q) (is_ordered-drop_call a q xs parts.3)
  where
    parts : OrderedParts a c xs
    parts = ordered_parts a c xs h

    go : (t : Bool) → is_ordered a (drop_call q xs) ≡ true
        → is_ordered a (if not t then c ∷ drop_call q xs else drop_call q xs) ≡ true
    go true r = r
    go false r = ordered_of a c (drop_call q xs) parts.0 parts.1
        (is_after-of c.holder.serial (drop_call q xs)
        (all_after-drop c.holder.serial q xs (all_after a c.holder.serial xs parts.2 parts.3))) r

-- the others' calls are found where one is dropped
pub call_of-drop_call : (p q : Process) (xs : List LockCall) → is_process q p ≡ false
    → call_of p (drop_call q xs) ≡ call_of p xs
call_of-drop_call p q [] ne = refl
call_of-drop_call p q (c ∷ xs) ne = go (is_process c.holder q) refl (call_of-drop_call p q xs ne)
  where
    other : is_process c.holder q ≡ true → is_process c.holder p ≡ false
    other e = subst (λ (x : Process). is_process x p ≡ false) (sym (is_process-true c.holder q e)) ne

    go : (t : Bool) → is_process c.holder q ≡ t → call_of p (drop_call q xs) ≡ call_of p xs
        → call_of p (if not t then c ∷ drop_call q xs else drop_call q xs) ≡ call_of p (c ∷ xs)
    go true e r = r ∙ sym (ap (λ (b : Bool). if b then Some c else call_of p xs) (other e))
    go false e r = ap (λ (x : Option LockCall). if is_process c.holder p then Some c else x) r

-- the call of q is dropped
pub only_drop : (a : ℕ) (q : Process) (xs : List LockCall) → Only a q xs (drop_call q xs)
only_drop a q xs h = (is_ordered-drop_call a q xs h, λ p ne. call_of-drop_call p q xs ne)

-- what comes after all calls, and after one more, still does when that is put
all_after-put : (s : ℕ) (c : LockCall) (xs : List LockCall) → nat_lt s c.holder.serial ≡ true → AllAfter s xs
    → AllAfter s (put_call c xs)
all_after-put s c [] l h = (l, tt)
all_after-put s c (d ∷ xs) l h =
    go (nat_lt c.holder.serial d.holder.serial) (c.holder.serial == d.holder.serial) (all_after-put s c xs l h.1)
  where
    go : (t e : Bool) → AllAfter s (put_call c xs)
        → AllAfter s (if t then c ∷ d ∷ xs else (if e then c ∷ xs else d ∷ put_call c xs))
    go true e r = (l, h)
    go false true r = (l, h.1)
    go false false r = (h.0, r)

-- calls stay ordered when one is put
pub is_ordered-put_call : (a : ℕ) (c : LockCall) (xs : List LockCall) → (c.holder.node == a) ≡ true
    → nat_lt 0 c.holder.serial ≡ true
    → is_ordered a xs ≡ true → is_ordered a (put_call c xs) ≡ true
is_ordered-put_call a c [] p q h = ordered_of a c [] p q refl refl
is_ordered-put_call a c (d ∷ xs) p q h =
    go (nat_lt c.holder.serial d.holder.serial) (c.holder.serial == d.holder.serial) refl refl
    (is_ordered-put_call a c xs p q parts.3)
  where
    parts : OrderedParts a d xs
    parts = ordered_parts a d xs h

    greater : nat_lt c.holder.serial d.holder.serial ≡ false → (c.holder.serial == d.holder.serial) ≡ false
        → nat_lt d.holder.serial c.holder.serial ≡ true
    greater l ne = grind (arith, nat_tests)

    go : (t e : Bool) → nat_lt c.holder.serial d.holder.serial ≡ t → (c.holder.serial == d.holder.serial) ≡ e
        → is_ordered a (put_call c xs) ≡ true
        → is_ordered a (if t then c ∷ d ∷ xs else (if e then c ∷ xs else d ∷ put_call c xs)) ≡ true
    go true e l ne r = ordered_of a c (d ∷ xs) p q l h
    go false true l ne r = ordered_of a c xs p q
        (subst (λ (s : ℕ). is_after s xs ≡ true) (sym (eqb-true c.holder.serial d.holder.serial ne)) parts.2) parts.3
    go false false l ne r = ordered_of a d (put_call c xs) parts.0 parts.1
        (is_after-of d.holder.serial (put_call c xs)
        (all_after-put d.holder.serial c xs (greater l ne) (all_after a d.holder.serial xs parts.2 parts.3))) r

-- the call that is put is found
pub call_of-put_call : (c : LockCall) (xs : List LockCall) → call_of c.holder (put_call c xs) ≡ Some c
call_of-put_call c [] = rw (is_process-same c.holder) refl
call_of-put_call c (d ∷ xs) =
    go (nat_lt c.holder.serial d.holder.serial) (c.holder.serial == d.holder.serial) refl (call_of-put_call c xs)
  where
    other : (c.holder.serial == d.holder.serial) ≡ false → is_process d.holder c.holder ≡ false
    other ne = test (d.holder.node == c.holder.node)
      where
        differ : (d.holder.serial == c.holder.serial) ≡ false
        differ = grind (arith, nat_tests)

        test : (t : Bool) → (t && (d.holder.serial == c.holder.serial)) ≡ false
        test true = differ
        test false = refl

    go : (t e : Bool) → (c.holder.serial == d.holder.serial) ≡ e → call_of c.holder (put_call c xs) ≡ Some c
        → call_of c.holder (if t then c ∷ d ∷ xs else (if e then c ∷ xs else d ∷ put_call c xs)) ≡ Some c
    go true e ne r = rw (is_process-same c.holder) refl
    go false true ne r = rw (is_process-same c.holder) refl
    go false false ne r = rw (other ne) r

-- the others' calls are found where one is put
pub call_of-put_call-other : (a : ℕ) (c : LockCall) (p : Process) (xs : List LockCall) → (c.holder.node == a) ≡ true
    → is_ordered a xs ≡ true → is_process c.holder p ≡ false → call_of p (put_call c xs) ≡ call_of p xs
call_of-put_call-other a c p [] n h ne = rw ne refl
call_of-put_call-other a c p (d ∷ xs) n h ne =
    go (nat_lt c.holder.serial d.holder.serial) (c.holder.serial == d.holder.serial) refl
    (call_of-put_call-other a c p xs n parts.3 ne)
  where
    parts : OrderedParts a d xs
    parts = ordered_parts a d xs h

    same : (c.holder.serial == d.holder.serial) ≡ true → c.holder ≡ d.holder
    same e = ap (λ (k : ℕ). record c.holder { node = k })
        (eqb-true c.holder.node a n ∙ sym (eqb-true d.holder.node a parts.0))
        ∙ ap (λ (k : ℕ). record d.holder { serial = k }) (eqb-true c.holder.serial d.holder.serial e)

    go : (t e : Bool) → (c.holder.serial == d.holder.serial) ≡ e → call_of p (put_call c xs) ≡ call_of p xs
        → call_of p
        (if t then c ∷ d ∷ xs else (if e then c ∷ xs else d ∷ put_call c xs))
        ≡ (if is_process d.holder p then Some d else call_of p xs)
    go true e q r = rw ne refl
    go false true q r = rw (ne, subst (λ (x : Process). is_process x p ≡ false) (same q) ne) refl
    go false false q r = ap (λ (x : Option LockCall). if is_process d.holder p then Some d else x) r

-- a call is put
pub only_put : (a : ℕ) (c : LockCall) (xs : List LockCall) → (c.holder.node == a) ≡ true
    → nat_lt 0 c.holder.serial ≡ true
    → Only a c.holder xs (put_call c xs)
only_put a c xs n q h = (is_ordered-put_call a c xs n q h, λ p ne. call_of-put_call-other a c p xs n h ne)

-- calls after that of q are open as they were where only that changes
pub all_open-only : (a : ℕ) (q : Process) (cs xs ys : List LockCall) → is_ordered a xs ≡ true → Only a q xs ys
    → AllAfter q.serial cs
    → AllOpen xs cs → AllOpen ys cs
all_open-only a q [] xs ys h f l k = tt
all_open-only a q (c ∷ cs) xs ys h f l k =
    ((f h).1 c.holder (is_process-less q c.holder l.0) ∙ k.0, all_open-only a q cs xs ys h f l.1 k.1)

-- the found call of ordered calls is of a process of this node
pub ordered_found : (a : ℕ) (p : Process) (xs : List LockCall) (c : LockCall) → is_ordered a xs ≡ true
    → call_of p xs ≡ Some c
    → ((c.holder.node == a) ≡ true) × (nat_lt 0 c.holder.serial ≡ true)
ordered_found a p [] c h e = cc
ordered_found a p (d ∷ xs) c h e = go (is_process d.holder p) e (ordered_found a p xs c parts.3)
  where
    parts : OrderedParts a d xs
    parts = ordered_parts a d xs h

    same : Some d ≡ Some c → d ≡ c
    same f = cc

    go : (t : Bool) → (if t then Some d else call_of p xs) ≡ Some c
        → (call_of p xs ≡ Some c → ((c.holder.node == a) ≡ true) × (nat_lt 0 c.holder.serial ≡ true))
        → ((c.holder.node == a) ≡ true) × (nat_lt 0 c.holder.serial ≡ true)
    go true f r =
        subst (λ (x : LockCall). ((x.holder.node == a) ≡ true) × (nat_lt 0 x.holder.serial ≡ true)) (same f)
        (parts.0, parts.1)
    go false f r = r f
