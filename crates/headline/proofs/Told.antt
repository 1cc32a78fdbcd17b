-- What passes a test of equality is one.
use Rattle.std.proofs.Common.{ℕ, Bool, true, false, ◌==◌, ◌≡◌, ◌<◌, List, [], ◌∷◌, refl, sym, ap, ◌∙◌}
use Rattle.std.specs.Prelude.{◌&&◌}
use Rattle.std.proofs.Math.Path.{ap₂}
use Rattle.std.proofs.lemmas.Bool.{eqb-true, and_parts}
use Rattle.registry_model.specs.Process.{Text, Process, is_process, Nodes}
use Rattle.registry_model.specs.Table.{Rule, Pair, Table}
use Rattle.registry_model.specs.Call.{NameCall, Look, Whereis, RegisteredNames, NoticesOf, Reply, is_reply}
use Rattle.registry_model.specs.History.{Entry}
use Rattle.registry_model.proofs.Lists.{is_process-true}
use Rattle.registry_model.proofs.Legality.{is_reply-true}
use Rattle.protocol_model.specs.Event.{Answer}
use Rattle.protocol_model.specs.Fit.{Numbered, NameAs, JoinAs, IsPrefix}
use Rattle.protocol_model.specs.Tests.{is_truth, are_nodes, is_list, is_prefix, is_rule, is_pair, is_table, is_call, is_numbered_call, is_look, is_answer, is_entry, are_entries}
use Rattle.moves.proofs.Indices.{empty_at, not_false}

pub number : (a b : ℕ) → (a == b) ≡ true → a ≡ b
number a b e = eqb-true a b e

pub truth : (b c : Bool) → is_truth b c ≡ true → b ≡ c
truth true true e = refl
truth true false e = cc
truth false true e = cc
truth false false e = refl

-- sets have the same nodes below n
pub nodes : (n : ℕ) (s t : Nodes) → are_nodes n s t ≡ true → (c : ℕ) → c < n → s c ≡ t c
nodes n s t e c l = truth (s c) (t c) (not_false (is_truth (s c) (t c)) (empty_at n _ e c l))

-- lists, where items that pass are one
pub list : {A : Type 0} (is : A → A → Bool) → ((x y : A) → is x y ≡ true → x ≡ y) → (xs ys : List A) →
    is_list is xs ys ≡ true → xs ≡ ys
list is one [] [] e = refl
list is one [] (y ∷ ys) e = cc
list is one (x ∷ xs) [] e = cc
list {A} is one (x ∷ xs) (y ∷ ys) e =
    let parts : (is x y ≡ true) × (is_list is xs ys ≡ true) = and_parts (is x y) (is_list is xs ys) e in
    ap₂ (λ (z : A) (zs : List A). z ∷ zs) (one x y parts.0) (list is one xs ys parts.1)

-- a list and what begins with it
pub prefix : {A : Type 0} (is : A → A → Bool) → ((x y : A) → is x y ≡ true → x ≡ y) → (xs ys : List A) →
    is_prefix is xs ys ≡ true → IsPrefix xs ys
prefix is one [] ys e = (ys, refl)
prefix is one (x ∷ xs) [] e = cc
prefix {A} is one (x ∷ xs) (y ∷ ys) e =
    let parts : (is x y ≡ true) × (is_prefix is xs ys ≡ true) = and_parts (is x y) (is_prefix is xs ys) e in
    let (zs, i) : IsPrefix xs ys = prefix is one xs ys parts.1 in
    let first : x ≡ y = one x y parts.0 in
    (zs, ap₂ (λ (z : A) (us : List A). z ∷ us) (sym first) i)

pub rule : (r s : Rule) → is_rule r s ≡ true → r ≡ s
rule Rule.Exit Rule.Exit e = refl
rule Rule.Notify Rule.Notify e = refl
rule Rule.NotifyAll Rule.NotifyAll e = refl
rule _ _ e = cc

pub pair : (f g : Pair) → is_pair f g ≡ true → f ≡ g
pair f g e =
    let one : ((f.name == g.name) && is_process f.owner g.owner ≡ true) × (is_rule f.rule g.rule ≡ true) =
    and_parts _ _ e in
    let two : ((f.name == g.name) ≡ true) × (is_process f.owner g.owner ≡ true) = and_parts _ _ one.0 in
    ap₂ (λ (x : Text) (p : Process). let h : Pair = record { name = x; owner = p; rule = f.rule } in
    h) (number f.name g.name two.0) (is_process-true f.owner g.owner two.1)
    ∙ ap (λ (r : Rule). let h : Pair = record { name = g.name; owner = g.owner; rule = r } in
    h) (rule f.rule g.rule one.1)

pub table : (t u : Table) → is_table t u ≡ true → t ≡ u
table t u e = list is_pair pair t u e

pub call : (c d : NameCall) → is_call c d ≡ true → c ≡ d
call (NameCall.Register f) (NameCall.Register g) e = ap NameCall.Register (pair f g e)
call (NameCall.ReRegister f) (NameCall.ReRegister g) e = ap NameCall.ReRegister (pair f g e)
call (NameCall.Unregister x) (NameCall.Unregister y) e = ap NameCall.Unregister (number x y e)
call _ _ e = cc

pub numbered_call : (c d : Numbered) → is_numbered_call c d ≡ true → c ≡ d
numbered_call (NameAs k c) (NameAs l d) e =
    let parts : ((k == l) ≡ true) × (is_call c d ≡ true) = and_parts _ _ e in
    ap₂ NameAs (number k l parts.0) (call c d parts.1)
numbered_call (JoinAs k m) (JoinAs l n) e =
    let parts : ((k == l) ≡ true) × ((m == n) ≡ true) = and_parts _ _ e in
    ap₂ JoinAs (number k l parts.0) (number m n parts.1)
numbered_call _ _ e = cc

pub look : (l k : Look) → is_look l k ≡ true → l ≡ k
look (Whereis x) (Whereis y) e = ap Whereis (number x y e)
look RegisteredNames RegisteredNames e = refl
look (NoticesOf p) (NoticesOf q) e = ap NoticesOf (is_process-true p q e)
look _ _ e = cc

-- an answer by its parts
pub answer_by : (s t : Answer) → s.node ≡ t.node → s.number ≡ t.number → s.reply ≡ t.reply → s ≡ t
answer_by s t i j r =
    ap₂ (λ (a k : ℕ). let u : Answer = record { node = a; number = k; reply = s.reply } in u) i j
    ∙ ap (λ (x : Reply). let u : Answer = record { node = t.node; number = t.number; reply = x } in u) r

pub answer : (s t : Answer) → is_answer s t ≡ true → s ≡ t
answer s t e =
    let parts : ((s.node == t.node) && (s.number == t.number) ≡ true) × (is_reply s.reply t.reply ≡ true) =
    and_parts _ _ e in
    let more : ((s.node == t.node) ≡ true) × ((s.number == t.number) ≡ true) = and_parts _ _ parts.0 in
    answer_by s t (number s.node t.node more.0) (number s.number t.number more.1)
    (is_reply-true s.reply t.reply parts.1)

pub entry : (e f : Entry) → is_entry e f ≡ true → e ≡ f
entry (Entry.Name a k c x) (Entry.Name b l d y) e =
    let one : ((a == b) && (k == l) && is_call c d ≡ true) × (is_reply x y ≡ true) = and_parts _ _ e in
    let two : ((a == b) && (k == l) ≡ true) × (is_call c d ≡ true) = and_parts _ _ one.0 in
    let three : ((a == b) ≡ true) × ((k == l) ≡ true) = and_parts _ _ two.0 in
    cc (number a b three.0, number k l three.1, call c d two.1, is_reply-true x y one.1)
entry (Entry.Strike p) (Entry.Strike q) e = ap Entry.Strike (is_process-true p q e)
entry (Entry.Join j k m x) (Entry.Join i l n y) e =
    let one : ((j == i) && (k == l) && (m == n) ≡ true) × (is_reply x y ≡ true) = and_parts _ _ e in
    let two : ((j == i) && (k == l) ≡ true) × ((m == n) ≡ true) = and_parts _ _ one.0 in
    let three : ((j == i) ≡ true) × ((k == l) ≡ true) = and_parts _ _ two.0 in
    cc (number j i three.0, number k l three.1, number m n two.1, is_reply-true x y one.1)
entry (Entry.Done a) (Entry.Done b) e = ap Entry.Done (number a b e)
entry (Entry.Exit p) (Entry.Exit q) e = ap Entry.Exit (is_process-true p q e)
entry (Entry.Left d) (Entry.Left c) e = ap Entry.Left (number d c e)
entry (Entry.Told a d) (Entry.Told b c) e =
    let parts : ((a == b) ≡ true) × ((d == c) ≡ true) = and_parts _ _ e in
    ap₂ Entry.Told (number a b parts.0) (number d c parts.1)
entry (Entry.Read a l x) (Entry.Read b k y) e =
    let one : ((a == b) && is_look l k ≡ true) × (is_reply x y ≡ true) = and_parts _ _ e in
    let two : ((a == b) ≡ true) × (is_look l k ≡ true) = and_parts _ _ one.0 in
    cc (number a b two.0, look l k two.1, is_reply-true x y one.1)
entry _ _ e = cc

-- histories that pass are one
pub entries : (h i : List Entry) → are_entries h i ≡ true → h ≡ i
entries h i e = list is_entry entry h i e
