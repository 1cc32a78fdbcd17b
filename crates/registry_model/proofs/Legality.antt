-- What is known of a legal entry.
use Rattle.std.proofs.Common.{ℕ, Bool, true, false, ◌≡◌, Option, Some, None, List, refl, sym, subst, ap, ◌∙◌}
use Rattle.std.specs.Prelude.{if◌then◌else◌, not, ◌&&◌, ◌||◌, is_some}
use Rattle.std.proofs.lemmas.Bool.{and_parts, not-true}
use Rattle.std.proofs.lemmas.Slice.Eq.{bytes_eq-Decides}
use Rattle.registry_model.specs.Process.{Text, Process, Nodes}
use Rattle.registry_model.specs.Table.{Pair, Table, get, owns}
use Rattle.registry_model.specs.Call.{NameCall, Register, ReRegister, Reply, Yes, No, Ok, UnknownNode, True, False, Joined, NotMember, ContactLeft, Pid, Undefined, Names, Notices, is_reply, is_grant, reply_to}
use Rattle.registry_model.specs.Settlement.{Notice}
use Rattle.registry_model.specs.Registry.{view, members}
use Rattle.registry_model.specs.History.{Entry, Name, Strike, Join, Done, Exit, Left, Told, Read, Standing, is_free}
use Rattle.registry_model.specs.Legal.{is_legal, is_legal_name, is_legal_admission, may_decide}
use Rattle.registry_model.specs.HistoryLaws.{decided_by}
use Rattle.registry_model.proofs.Lists.{is_process-true, are_notices-true}

-- replies that pass the test are one
pub is_reply-true : (r s : Reply) → is_reply r s ≡ true → r ≡ s
is_reply-true Yes Yes e = refl
is_reply-true No No e = refl
is_reply-true Ok Ok e = refl
is_reply-true UnknownNode UnknownNode e = refl
is_reply-true True True e = refl
is_reply-true False False e = refl
is_reply-true Joined Joined e = refl
is_reply-true NotMember NotMember e = refl
is_reply-true ContactLeft ContactLeft e = refl
is_reply-true (Pid p) (Pid q) e = ap (λ (r : Process). Pid r) (is_process-true p q e)
is_reply-true Undefined Undefined e = refl
is_reply-true (Names xs) (Names ys) e = ap (λ (zs : List Text). Names zs) ((bytes_eq-Decides xs ys).0 e)
is_reply-true (Notices fs) (Notices gs) e = ap (λ (hs : List Notice). Notices hs) (are_notices-true fs gs e)
is_reply-true _ _ e = cc

-- a legal name call
pub record NameIsLegal (s : Standing) (n : ℕ) (call : NameCall) (reply : Reply) : Type 0 where
  pub free : is_free s n ≡ true
  pub running : s.registry.left n ≡ false
  pub answer : reply ≡ reply_to (members s.registry n) (view s.registry n) call

-- from the test
pub name_is_legal : (s : Standing) (n : ℕ) (call : NameCall) (reply : Reply) → is_legal_name s n call reply ≡ true →
    NameIsLegal s n call reply
name_is_legal s n call reply l =
    let a : (may_decide s n ≡ true)
    × (is_reply reply (reply_to (members s.registry n) (view s.registry n) call) ≡ true) =
    and_parts (may_decide s n) (is_reply reply (reply_to (members s.registry n) (view s.registry n) call)) l in
    let b : (is_free s n ≡ true) × (not (s.registry.left n) ≡ true) =
    and_parts (is_free s n) (not (s.registry.left n)) a.0 in
    record {
      free = b.0;
      running = not-true (s.registry.left n) b.1;
      answer = is_reply-true reply (reply_to (members s.registry n) (view s.registry n) call) a.1;
    }

-- a legal join that is granted
pub record JoinIsLegal (s : Standing) (j m : ℕ) : Type 0 where
  pub lone : s.registry.joined j ≡ false
  pub free : is_free s j ≡ true
  pub contact : s.registry.joined m ≡ true
  pub free_contact : is_free s m ≡ true
  pub running : s.registry.left m ≡ false
  pub untold : s.registry.told m j ≡ false

-- from the test
pub join_is_legal : (s : Standing) (j m : ℕ) → is_legal_admission s j m ≡ true → JoinIsLegal s j m
join_is_legal s j m l =
    let a : (not (s.registry.joined j) && is_free s j && s.registry.joined m && may_decide s m ≡ true)
    × (not (s.registry.told m j) ≡ true) = and_parts _ _ l in
    let b : (not (s.registry.joined j) && is_free s j && s.registry.joined m ≡ true) × (may_decide s m ≡ true) =
    and_parts _ _ a.0 in
    let c : (not (s.registry.joined j) && is_free s j ≡ true) × (s.registry.joined m ≡ true) = and_parts _ _ b.0 in
    let d : (not (s.registry.joined j) ≡ true) × (is_free s j ≡ true) = and_parts _ _ c.0 in
    let e : (is_free s m ≡ true) × (not (s.registry.left m) ≡ true) = and_parts _ _ b.1 in
    record {
      lone = not-true (s.registry.joined j) d.0;
      free = d.1;
      contact = c.1;
      free_contact = e.0;
      running = not-true (s.registry.left m) e.1;
      untold = not-true (s.registry.told m j) a.1;
    }

-- where an operation is decided, none holds
pub decider_is_free : (s : Standing) (f : Entry) (b : ℕ) → is_legal s f ≡ true → decided_by f ≡ Some b → is_free s b
    ≡ true
decider_is_free s (Name n k call reply) b l d = let e : n ≡ b = cc in
    subst (λ (x : ℕ). is_free s x ≡ true) e (name_is_legal s n call reply l).free
decider_is_free s (Strike p) b l d =
    let e : p.node ≡ b = cc in
    let a : (may_decide s p.node ≡ true) × (s.registry.dead p ≡ true) = and_parts _ _ l in
    subst (λ (x : ℕ). is_free s x ≡ true) e (and_parts (is_free s p.node) (not (s.registry.left p.node)) a.0).0
decider_is_free s (Join j k m Joined) b l d = let e : m ≡ b = cc in
    subst (λ (x : ℕ). is_free s x ≡ true) e (join_is_legal s j m l).free_contact
decider_is_free s (Join j k m _) b l d = absurd cc
decider_is_free s (Done n) b l d = absurd cc
decider_is_free s (Exit p) b l d = absurd cc
decider_is_free s (Left c) b l d = absurd cc
decider_is_free s (Told n c) b l d = absurd cc
decider_is_free s (Read n look reply) b l d = absurd cc

-- `register` was answered `yes`
pub record YesToRegister (members : Nodes) (table : Table) (new : Pair) : Type 0 where
  pub name : get new.name table ≡ None
  pub owner : owns new.owner table ≡ false
  pub member : members new.owner.node ≡ true

-- from the reply
pub yes_to_register : (members : Nodes) (table : Table) (new : Pair) →
    Yes ≡ reply_to members table (Register new) → YesToRegister members table new
yes_to_register members table new h =
    go (members new.owner.node) refl (get new.name table) refl (owns new.owner table) refl h
  where
    go : (m : Bool) → members new.owner.node ≡ m → (o : Option Process) → get new.name table ≡ o → (b : Bool) →
        owns new.owner table ≡ b → Yes ≡ (if not m then UnknownNode else (if is_some o || b then No else Yes)) →
        YesToRegister members table new
    go false k o g b i e = absurd cc
    go true k (Some q) g b i e = absurd cc
    go true k None g true i e = absurd cc
    go true k None g false i e = record { name = g; owner = i; member = k }

-- a granted `register` was answered `yes`
pub granted_register : (members : Nodes) (table : Table) (new : Pair) (r : Reply) →
    r ≡ reply_to members table (Register new) → is_grant r ≡ true → r ≡ Yes
granted_register members table new r e g = e
    ∙ go (members new.owner.node) (is_some (get new.name table) || owns new.owner table) (ap is_grant (sym e) ∙ g)
  where
    go : (m b : Bool) → is_grant (if not m then UnknownNode else (if b then No else Yes)) ≡ true →
        (if not m then UnknownNode else (if b then No else Yes)) ≡ Yes
    go false b h = cc
    go true true h = cc
    go true false h = refl

-- a granted `re_register` was answered `yes`, and the owner's node is a member
pub granted_re_register : (members : Nodes) (table : Table) (new : Pair) (r : Reply) →
    r ≡ reply_to members table (ReRegister new) → is_grant r ≡ true →
    (r ≡ Yes) × (members new.owner.node ≡ true)
granted_re_register members table new r e g = go (members new.owner.node) refl e
  where
    go : (m : Bool) → members new.owner.node ≡ m → r ≡ (if not m then UnknownNode else Yes) →
        (r ≡ Yes) × (members new.owner.node ≡ true)
    go false k h = let w : is_grant UnknownNode ≡ true = ap is_grant (sym h) ∙ g in absurd cc
    go true k h = (h, k)
