-- Whoever is owed a strike is a suspect.
use Rattle.std.proofs.Common.{ℕ, Bool, true, false, ◌==◌, ◌≡◌, ◌≤◌, Some, None, List, [], ◌∷◌, refl, sym, ap, ◌∙◌, subst, inl, inr, arith, nat_cmp, BTreeSet}
use Rattle.std.specs.Prelude.{◌||◌, ◌&&◌, ◌⊎◌, cond}
use Rattle.std.specs.List.{list_any}
use Rattle.std.specs.BTreeMap.{is_at}
use Rattle.std.specs.BTreeSet.{contains}
use Rattle.std.proofs.lemmas.Bool.{eq-eqb, eqb-true, and_parts}
use Rattle.std.proofs.lemmas.List.Folds.{list_any-append}
use Rattle.std.proofs.Math.Bool.{or-true}
use Rattle.registry_model.specs.Process.{Process, is_process}
use Rattle.registry_model.specs.Table.{Pair, Table, owns, put}
use Rattle.protocol_model.specs.Watch.{Watch, is_dead, with_dead, owed}
use Rattle.exit_watch.specs.WatchState.{WatchState, process_of, is_suspect, AreSuspected, AreDead, KeepsSuspects}
use Rattle.exit_watch.proofs.Sets.{any-inserted}
use Rattle.exit_watch.proofs.Owners.{least_owner-owns, least_owner-least, least_owner-none, owns-put}

-- a dead process that owns a name is owed a strike, where no suspect has a lesser serial
pub owed-first : (h : WatchState) (t : Table) (s : ℕ) → AreSuspected h t → is_dead h.watch s ≡ true →
    owns (process_of h s) t ≡ true → ((r : ℕ) → is_suspect h r ≡ true → s ≤ r) → owed h.node t h.watch ≡ Some s
owed-first h t s sus dead o least =
    let (r, e, m) = least_owner-least h.node t h.watch.dead s dead o in
    let (d, q) = least_owner-owns h.node t h.watch.dead r e in
    let i : r ≡ s = omega (arith, m, least r (sus r d q)) in
    e ∙ ap (λ (x : ℕ). Some x) i

-- with no suspect nobody is owed one
pub owed-none : (h : WatchState) (t : Table) → AreSuspected h t → ((r : ℕ) → is_suspect h r ≡ true → ⊥) →
    owed h.node t h.watch ≡ None
owed-none h t sus none = least_owner-none h.node t h.watch.dead (λ r d. go r d (owns (process_of h r) t) refl)
  where
    go : (r : ℕ) → is_dead h.watch r ≡ true → (b : Bool) → owns (process_of h r) t ≡ b → owns (process_of h r) t ≡ false
    go r d true e = absurd (none r (sus r d e))
    go r d false e = e

-- the watches differ in one process at most, which is a suspect of the later one
pub record IsNoted (h k : WatchState) (s : ℕ) : Type 0 where
  pub node : k.node ≡ h.node
  pub suspects : (q : ℕ) → is_suspect k q ≡ ((q == s) || is_suspect h q)

-- who isn't dead is no suspect
pub unsuspected : (h : WatchState) (s : ℕ) → AreDead h → is_dead h.watch s ≡ false → is_suspect h s ≡ false
unsuspected h s are alive = go (is_suspect h s) refl
  where
    go : (b : Bool) → is_suspect h s ≡ b → b ≡ false
    go true e = absurd (cc (are s e, alive))
    go false e = refl

-- it is so after an insertion
pub inserted : (h k : WatchState) (s : ℕ) (old new : BTreeSet ℕ) → h.suspects ≡ old.keys → k.suspects ≡ new.keys →
    k.node ≡ h.node →
    ((q : ℕ) → contains nat_cmp new q ≡ cond (is_at (nat_cmp s) q) true (contains nat_cmp old q)) → IsNoted h k s
inserted h k s old new a b e u = record {
  node = e;
  suspects = λ q.
      ap (λ (ds : List ℕ). list_any (λ d. d == q) ds) b ∙ any-inserted old new s u q
      ∙ ap (λ (ds : List ℕ). (q == s) || list_any (λ d. d == q) ds) (sym a);
}

module _ (h k : WatchState) (s : ℕ) (n : IsNoted h k s) where
  -- a suspect of the earlier watch is one of the later
  stays : (q : ℕ) → is_suspect h q ≡ true → is_suspect k q ≡ true
  stays q e = n.suspects q ∙ go (q == s)
    where
      go : (b : Bool) → (b || is_suspect h q) ≡ true
      go true = refl
      go false = e

  joins : is_suspect k s ≡ true
  joins = n.suspects s ∙ rw (eq-eqb s s refl) refl

  -- who is a suspect of the later watch is that process, or was one before
  cases : (q : ℕ) → is_suspect k q ≡ true → (q ≡ s) ⊎ (is_suspect h q ≡ true)
  cases q e = go (q == s) refl (sym (n.suspects q) ∙ e)
    where
      go : (b : Bool) → (q == s) ≡ b → (b || is_suspect h q) ≡ true → (q ≡ s) ⊎ (is_suspect h q ≡ true)
      go true i f = inl (eqb-true q s i)
      go false i f = inr f

  -- the process dies
  module _ (w : k.watch ≡ with_dead s h.watch) where
    dies : (q : ℕ) → is_dead k.watch q ≡ (is_dead h.watch q || ((s == q) || false))
    dies q = ap (λ (v : Watch). is_dead v q) w ∙ list_any-append (λ d. d == q) h.watch.dead (s ∷ [])

    pub died-keeps : KeepsSuspects h k
    died-keeps t sus q dead o = go (is_dead h.watch q) refl (s == q) refl (sym (dies q) ∙ dead)
      where
        go : (b : Bool) → is_dead h.watch q ≡ b → (c : Bool) → (s == q) ≡ c → (b || (c || false)) ≡ true →
            is_suspect k q ≡ true
        go true e c i f =
            stays q (sus q e (subst (λ (a : ℕ). owns (record { node = a; serial = q }) t ≡ true) n.node o))
        go false e true i f = subst (λ (r : ℕ). is_suspect k r ≡ true) (eqb-true s q i) joins
        go false e false i f = absurd cc

    pub died-dead : AreDead h → AreDead k
    died-dead was q sus = dies q ∙ (elim (cases q sus) [
      | inl i ↦ rw (eq-eqb s q (sym i)) (or-true (is_dead h.watch q))
      | inr e ↦ rw (was q e) refl
    ])

  -- the process is dead already
  module _ (w : k.watch ≡ h.watch) where
    dead_before : (q : ℕ) → is_dead k.watch q ≡ is_dead h.watch q
    dead_before q = ap (λ (v : Watch). is_dead v q) w

    owned_before : (t : Table) (q : ℕ) → owns (process_of k q) t ≡ true → owns (process_of h q) t ≡ true
    owned_before t q o = subst (λ (a : ℕ). owns (record { node = a; serial = q }) t ≡ true) n.node o

    pub noted-keeps : KeepsSuspects h k
    noted-keeps t sus q dead o = stays q (sus q (sym (dead_before q) ∙ dead) (owned_before t q o))

    pub noted-dead : is_dead h.watch s ≡ true → AreDead h → AreDead k
    noted-dead dead was q sus = dead_before q ∙ (elim (cases q sus) [
      | inl i ↦ ap (is_dead h.watch) i ∙ dead
      | inr e ↦ was q e
    ])

    pub noted-put : (p : Process) → p.serial ≡ s → (e : Pair) (t : Table) → e.owner ≡ p → AreSuspected h t →
        AreSuspected k (put e t)
    noted-put p i e t for sus q dead o = go (is_process p (process_of k q)) refl
      where
        go : (b : Bool) → is_process p (process_of k q) ≡ b → is_suspect k q ≡ true
        go true same =
            let (a, j) = and_parts (p.node == k.node) (p.serial == q) same in
            subst (λ (r : ℕ). is_suspect k r ≡ true) (sym i ∙ eqb-true p.serial q j) joins
        go false other = noted-keeps t sus q dead
            (owns-put (process_of k q) e t (ap (λ (r : Process). is_process r (process_of k q)) for ∙ other) o)

-- a put for another process than the dead of this node makes no suspect
pub put-keeps : (h : WatchState) (p : Process) → ((p.node == h.node) && is_dead h.watch p.serial) ≡ false →
    (e : Pair) (t : Table) → e.owner ≡ p → AreSuspected h t → AreSuspected h (put e t)
put-keeps h p other e t for sus q dead o = go (is_process p (process_of h q)) refl
  where
    go : (b : Bool) → is_process p (process_of h q) ≡ b → is_suspect h q ≡ true
    go true same =
        let (a, i) = and_parts (p.node == h.node) (p.serial == q) same in
        let d : is_dead h.watch p.serial ≡ true = ap (is_dead h.watch) (eqb-true p.serial q i) ∙ dead in
        absurd (cc (d, rw a at other))
    go false another = sus q dead
        (owns-put (process_of h q) e t (ap (λ (r : Process). is_process r (process_of h q)) for ∙ another) o)
