-- A node's lock calls, of which each process has at most one: what is found after a call is put or dropped.
use Rattle.std.proofs.Common.{ℕ, Bool, true, false, ◌==◌, ◌≡◌, Option, Some, None, List, [], ◌∷◌, refl, sym, ap, ◌∙◌, subst}
use Rattle.std.specs.Prelude.{not, ◌&&◌, nat_lt, if◌then◌else◌}
use Rattle.std.proofs.lemmas.Bool.{eqb-true, eq-eqb}
use Rattle.registry_model.specs.Process.{Process, is_process}
use Rattle.protocol_model.specs.Node.{LockCall, call_of, drop_call, put_call}
use Rattle.moves.proofs.Rules.{is_ordered, is_after}
use Rattle.moves.proofs.Indices.{both}
use Rattle.client_locks.proofs.Ids.{is_process_same}

-- the call of a process is its own
pub holder_of_call : (p : Process) (cs : List LockCall) (c : LockCall) → call_of p cs ≡ Some c → c.holder ≡ p
holder_of_call p [] c e = cc
holder_of_call p (d ∷ cs) c e = go (is_process d.holder p) refl e (holder_of_call p cs c)
  where
    go : (b : Bool) → is_process d.holder p ≡ b → (if b then Some d else call_of p cs) ≡ Some c
        → (call_of p cs ≡ Some c → c.holder ≡ p) → c.holder ≡ p
    go true k h r = let same : d ≡ c = cc h in subst (λ (x : LockCall). x.holder ≡ p) same
        (is_process_same d.holder p k)
    go false k h r = r h

pub call_of-drop : (p q : Process) (cs : List LockCall) → call_of p (drop_call q cs) ≡
    (if is_process q p then None else call_of p cs)
call_of-drop p q [] = none (is_process q p)
  where
    none : (b : Bool) → call_of p [] ≡ (if b then None else call_of p [])
    none true = refl
    none false = refl
call_of-drop p q (d ∷ cs) = go (is_process d.holder q) refl (call_of-drop p q cs)
  where
    other : is_process d.holder q ≡ true → (b : Bool) → is_process q p ≡ b
        → call_of p (drop_call q cs) ≡ (if b then None else call_of p cs)
        → call_of p (drop_call q cs) ≡ (if b then None else (if is_process d.holder p then Some d else call_of p cs))
    other e true k r = r
    other e false k r =
        let ne : is_process d.holder p ≡ false = subst (λ (x : Process). is_process x p ≡ false)
        (sym (is_process_same d.holder q e)) k in
        rw ne r

    kept : is_process d.holder q ≡ false → (b : Bool) → is_process q p ≡ b
        → call_of p (drop_call q cs) ≡ (if b then None else call_of p cs)
        → (if is_process d.holder p then Some d else call_of p (drop_call q cs)) ≡
        (if b then None else (if is_process d.holder p then Some d else call_of p cs))
    kept e true k r =
        let ne : is_process d.holder p ≡ false = subst (λ (x : Process). is_process d.holder x ≡ false)
        (is_process_same q p k) e in
        rw ne r
    kept e false k r = ap (λ (o : Option LockCall). if is_process d.holder p then Some d else o) r

    go : (b : Bool) → is_process d.holder q ≡ b → call_of p (drop_call q cs) ≡
        (if is_process q p then None else call_of p cs)
        → call_of p (if not b then d ∷ drop_call q cs else drop_call q cs) ≡
        (if is_process q p then None else (if is_process d.holder p then Some d else call_of p cs))
    go true e r = other e (is_process q p) refl r
    go false e r = kept e (is_process q p) refl r

-- what is known of the calls behind the first
ordered_rest : (a : ℕ) (d : LockCall) (cs : List LockCall) → is_ordered a (d ∷ cs) ≡ true
    → (d.holder.node ≡ a) × (is_ordered a cs ≡ true)
ordered_rest a d cs e =
    let all : ((((d.holder.node == a) && nat_lt 0 d.holder.serial) && is_after d.holder.serial cs) ≡ true) ×
    (is_ordered a cs ≡ true) = both (((d.holder.node == a) && nat_lt 0 d.holder.serial) && is_after d.holder.serial
    cs) (is_ordered a cs) e in
    let more : (((d.holder.node == a) && nat_lt 0 d.holder.serial) ≡ true) ×
    (is_after d.holder.serial cs ≡ true) = both ((d.holder.node == a) && nat_lt 0 d.holder.serial)
    (is_after d.holder.serial cs) all.0 in
    let first : ((d.holder.node == a) ≡ true) × (nat_lt 0 d.holder.serial ≡ true) = both (d.holder.node == a)
    (nat_lt 0 d.holder.serial) more.0 in
    (eqb-true d.holder.node a first.0, all.1)

pub call_of-put : (a : ℕ) (p : Process) (c : LockCall) (cs : List LockCall) → c.holder.node ≡ a → is_ordered a cs ≡ true
    → call_of p (put_call c cs) ≡ (if is_process c.holder p then Some c else call_of p cs)
call_of-put a p c [] own o = refl
call_of-put a p c (d ∷ cs) own o =
    let rest : (d.holder.node ≡ a) × (is_ordered a cs ≡ true) = ordered_rest a d cs o in
    go rest.0 (nat_lt c.holder.serial d.holder.serial) (c.holder.serial == d.holder.serial) refl refl
    (call_of-put a p c cs own rest.1)
  where
    over : d.holder ≡ c.holder → (if is_process c.holder p then Some c else call_of p cs) ≡
        (if is_process c.holder p then Some c else (if is_process d.holder p then Some d else call_of p cs))
    over e = case (is_process c.holder p) refl
      where
        case : (b : Bool) → is_process c.holder p ≡ b → (if b then Some c else call_of p cs) ≡
            (if b then Some c else (if is_process d.holder p then Some d else call_of p cs))
        case true k = refl
        case false k = rw (subst (λ (x : Process). is_process x p ≡ false) (sym e) k) refl

    apart : (c.holder.serial == d.holder.serial) ≡ false → (b e : Bool) → is_process c.holder p ≡ b
        → is_process d.holder p ≡ e
        → (if e then Some d else (if b then Some c else call_of p cs)) ≡
        (if b then Some c else (if e then Some d else call_of p cs))
    apart ne true true k l =
        let same : c.holder ≡ d.holder = is_process_same c.holder p k ∙ sym (is_process_same d.holder p l) in
        absurd (cc (eq-eqb c.holder.serial d.holder.serial (ap (λ (x : Process). x.serial) same), ne))
    apart ne true false k l = refl
    apart ne false true k l = refl
    apart ne false false k l = refl

    go : d.holder.node ≡ a → (b e : Bool) → nat_lt c.holder.serial d.holder.serial ≡ b
        → (c.holder.serial == d.holder.serial) ≡ e
        → call_of p (put_call c cs) ≡ (if is_process c.holder p then Some c else call_of p cs)
        → call_of p (if b then c ∷ d ∷ cs else (if e then c ∷ cs else d ∷ put_call c cs)) ≡
        (if is_process c.holder p then Some c else (if is_process d.holder p then Some d else call_of p cs))
    go home true e k l r = refl
    go home false true k l r =
        let here : ℕ → Process = λ n. record { node = n; serial = d.holder.serial } in
        let there : ℕ → Process = λ s. record { node = c.holder.node; serial = s } in
        over (ap here (home ∙ sym own) ∙ ap there (sym (eqb-true c.holder.serial d.holder.serial l)))
    go home false false k l r =
        ap (λ (o : Option LockCall). if is_process d.holder p then Some d else o) r
        ∙ apart l (is_process c.holder p) (is_process d.holder p) refl refl

-- a call that is found is of its node
pub home_of_call : (a : ℕ) (p : Process) (cs : List LockCall) (c : LockCall) → is_ordered a cs ≡ true
    → call_of p cs ≡ Some c → c.holder.node ≡ a
home_of_call a p [] c o e = cc
home_of_call a p (d ∷ cs) c o e =
    let rest : (d.holder.node ≡ a) × (is_ordered a cs ≡ true) = ordered_rest a d cs o in
    go rest.0 (is_process d.holder p) e (home_of_call a p cs c rest.1)
  where
    go : d.holder.node ≡ a → (b : Bool) → (if b then Some d else call_of p cs) ≡ Some c
        → (call_of p cs ≡ Some c → c.holder.node ≡ a) → c.holder.node ≡ a
    go home true k r = let same : d ≡ c = cc k in subst (λ (x : LockCall). x.holder.node ≡ a) same home
    go home false k r = r k
