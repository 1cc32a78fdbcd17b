-- Each test of equality passes of a value and itself.
use Rattle.std.proofs.Common.{ℕ, Bool, true, false, ◌==◌, ◌≡◌, List, [], ◌∷◌, ◌++◌, refl, sym, subst}
use Rattle.std.specs.Prelude.{not}
use Rattle.std.proofs.lemmas.Bool.{eq-eqb, and_from}
use Rattle.registry_model.specs.Process.{Nodes}
use Rattle.registry_model.specs.Table.{Rule, Pair}
use Rattle.registry_model.specs.Call.{NameCall, Look, Whereis, RegisteredNames, NoticesOf}
use Rattle.registry_model.specs.Registry.{Replica}
use Rattle.registry_model.specs.History.{Entry}
use Rattle.registry_model.proofs.Lists.{is_process-same}
use Rattle.protocol_model.specs.Event.{Answer}
use Rattle.protocol_model.specs.Fit.{Numbered, NameAs, JoinAs, IsPrefix}
use Rattle.protocol_model.specs.Tests.{is_truth, are_nodes, is_list, is_prefix, is_rule, is_pair, is_replica, is_call, is_numbered_call, is_look, is_answer, is_entry, are_entries}
use Rattle.moves.proofs.Indices.{is_empty_from}
use Rattle.replicas.proofs.Granting.{is_reply-same}

-- what passes doesn't fail
pub not_of : (b : Bool) → b ≡ true → not b ≡ false
not_of true e = refl
not_of false e = cc

pub number : (k : ℕ) → (k == k) ≡ true
number k = eq-eqb k k refl

pub truth : (b : Bool) → is_truth b b ≡ true
truth true = refl
truth false = refl

pub truth_of : (b c : Bool) → b ≡ c → is_truth b c ≡ true
truth_of b c e = subst (λ (d : Bool). is_truth b d ≡ true) e (truth b)

-- sets that have the same nodes
pub nodes : (n : ℕ) (s t : Nodes) → ((c : ℕ) → s c ≡ t c) → are_nodes n s t ≡ true
nodes n s t h = is_empty_from n (λ c. not (is_truth (s c) (t c)))
    (λ c l. not_of (is_truth (s c) (t c)) (truth_of (s c) (t c) (h c)))

-- lists, where their items pass with themselves
pub list : {A : Type 0} (is : A → A → Bool) → ((x : A) → is x x ≡ true) → (xs : List A) → is_list is xs xs ≡ true
list is same [] = refl
list is same (x ∷ xs) = and_from (is x x) (is_list is xs xs) (same x) (list is same xs)

pub list_of : {A : Type 0} (is : A → A → Bool) → ((x : A) → is x x ≡ true) → (xs ys : List A) → xs ≡ ys →
    is_list is xs ys ≡ true
list_of {A} is same xs ys e = subst (λ (zs : List A). is_list is xs zs ≡ true) e (list is same xs)

-- a list and what begins with it
pub prefix : {A : Type 0} (is : A → A → Bool) → ((x : A) → is x x ≡ true) → (xs zs : List A) →
    is_prefix is xs (xs ++ zs) ≡ true
prefix is same [] zs = refl
prefix is same (x ∷ xs) zs = and_from (is x x) (is_prefix is xs (xs ++ zs)) (same x) (prefix is same xs zs)

pub prefix_of : {A : Type 0} (is : A → A → Bool) → ((x : A) → is x x ≡ true) → (xs ys : List A) → IsPrefix xs ys →
    is_prefix is xs ys ≡ true
prefix_of {A} is same xs ys (zs, e) =
    subst (λ (us : List A). is_prefix is xs us ≡ true) (sym e) (prefix is same xs zs)

pub rule : (r : Rule) → is_rule r r ≡ true
rule Rule.Exit = refl
rule Rule.Notify = refl
rule Rule.NotifyAll = refl

pub pair : (f : Pair) → is_pair f f ≡ true
pair f = and_from _ _ (and_from (f.name == f.name) _ (number f.name) (is_process-same f.owner)) (rule f.rule)

pub replica : (n : ℕ) (v : Replica) → is_replica n v v ≡ true
replica n v = and_from _ _ (and_from _ _ (and_from _ _ (list is_pair pair v.table)
    (nodes n v.members v.members (λ c. refl))) (nodes n v.told v.told (λ c. refl))) (truth v.joined)

pub call : (c : NameCall) → is_call c c ≡ true
call (NameCall.Register f) = pair f
call (NameCall.ReRegister f) = pair f
call (NameCall.Unregister x) = number x

pub numbered_call : (c : Numbered) → is_numbered_call c c ≡ true
numbered_call (NameAs k c) = and_from _ _ (number k) (call c)
numbered_call (JoinAs k m) = and_from _ _ (number k) (number m)

pub look : (l : Look) → is_look l l ≡ true
look (Whereis x) = number x
look RegisteredNames = refl
look (NoticesOf p) = is_process-same p

pub answer : (s : Answer) → is_answer s s ≡ true
answer s = and_from _ _ (and_from _ _ (number s.node) (number s.number)) (is_reply-same s.reply)

pub answer_of : (s t : Answer) → s ≡ t → is_answer s t ≡ true
answer_of s t e = subst (λ (u : Answer). is_answer s u ≡ true) e (answer s)

pub entry : (e : Entry) → is_entry e e ≡ true
entry (Entry.Name a k c reply) =
    and_from _ _ (and_from _ _ (and_from _ _ (number a) (number k)) (call c)) (is_reply-same reply)
entry (Entry.Strike p) = is_process-same p
entry (Entry.Join j k m reply) =
    and_from _ _ (and_from _ _ (and_from _ _ (number j) (number k)) (number m)) (is_reply-same reply)
entry (Entry.Done a) = number a
entry (Entry.Exit p) = is_process-same p
entry (Entry.Left d) = number d
entry (Entry.Told a d) = and_from _ _ (number a) (number d)
entry (Entry.Read a l reply) = and_from _ _ (and_from _ _ (number a) (look l)) (is_reply-same reply)

-- histories that are one
pub entries_of : (h i : List Entry) → h ≡ i → are_entries h i ≡ true
entries_of h i e = list_of is_entry entry h i e
