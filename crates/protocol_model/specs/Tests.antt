-- Tests that tell whether two values are one, for the checks of rows.
use Rattle.std.specs.Prelude.{ℕ, Bool, true, false, not, ◌&&◌, ◌==◌, List, [], ◌∷◌}
use Rattle.registry_model.specs.Process.{is_process, Nodes}
use Rattle.registry_model.specs.Table.{Rule, Exit, Notify, NotifyAll, Pair, Table}
use Rattle.registry_model.specs.Call.{NameCall, Look, Whereis, RegisteredNames, NoticesOf, is_reply}
use Rattle.registry_model.specs.Registry.{Replica}
use Rattle.registry_model.specs.History.{Entry}
use Rattle.protocol_model.specs.Round.{is_empty}
use Rattle.protocol_model.specs.Event.{Answer}
use Rattle.protocol_model.specs.Fit.{Numbered, NameAs, JoinAs}

-- whether two truths are one
abbrev pub is_truth : Bool → Bool → Bool
is_truth true t = t
is_truth false t = not t

-- whether two sets are one, as far as the nodes below n
abbrev pub are_nodes : ℕ → Nodes → Nodes → Bool
are_nodes n s t = is_empty n (λ c. not (is_truth (s c) (t c)))

-- whether two lists are one, by a test of their items
abbrev pub is_list : {A : Type 0} → (A → A → Bool) → List A → List A → Bool
is_list is [] [] = true
is_list is (x ∷ xs) (y ∷ ys) = is x y && is_list is xs ys
is_list is _ _ = false

-- whether ys begins with xs, by a test of their items
abbrev pub is_prefix : {A : Type 0} → (A → A → Bool) → List A → List A → Bool
is_prefix is [] ys = true
is_prefix is (x ∷ xs) [] = false
is_prefix is (x ∷ xs) (y ∷ ys) = is x y && is_prefix is xs ys

-- whether two rules are one
abbrev pub is_rule : Rule → Rule → Bool
is_rule Exit Exit = true
is_rule Notify Notify = true
is_rule NotifyAll NotifyAll = true
is_rule _ _ = false

-- whether two pairs of a table are one
abbrev pub is_pair : Pair → Pair → Bool
is_pair f g = (f.name == g.name) && is_process f.owner g.owner && is_rule f.rule g.rule

-- whether two tables are one
abbrev pub is_table : Table → Table → Bool
is_table t u = is_list is_pair t u

-- whether two replicas are one, as far as the nodes below n; but for notices, of which there is a list for each serial: look-ups show
-- them
abbrev pub is_replica : ℕ → Replica → Replica → Bool
is_replica n v u =
    is_table v.table u.table && are_nodes n v.members u.members && are_nodes n v.told u.told
    && is_truth v.joined u.joined

-- whether two name calls are one
abbrev pub is_call : NameCall → NameCall → Bool
is_call (NameCall.Register e) (NameCall.Register f) = is_pair e f
is_call (NameCall.ReRegister e) (NameCall.ReRegister f) = is_pair e f
is_call (NameCall.Unregister x) (NameCall.Unregister y) = x == y
is_call _ _ = false

-- whether two numbered calls are one
abbrev pub is_numbered_call : Numbered → Numbered → Bool
is_numbered_call (NameAs k call) (NameAs l deed) = (k == l) && is_call call deed
is_numbered_call (JoinAs k m) (JoinAs l n) = (k == l) && (m == n)
is_numbered_call _ _ = false

-- whether two look-ups are one
abbrev pub is_look : Look → Look → Bool
is_look (Whereis x) (Whereis y) = x == y
is_look RegisteredNames RegisteredNames = true
is_look (NoticesOf p) (NoticesOf q) = is_process p q
is_look _ _ = false

-- whether two answers are one
abbrev pub is_answer : Answer → Answer → Bool
is_answer s t = (s.node == t.node) && (s.number == t.number) && is_reply s.reply t.reply

-- whether two entries are one
abbrev pub is_entry : Entry → Entry → Bool
is_entry (Entry.Name a k call reply) (Entry.Name b l deed answer) =
    (a == b) && (k == l) && is_call call deed && is_reply reply answer
is_entry (Entry.Strike p) (Entry.Strike q) = is_process p q
is_entry (Entry.Join j k m reply) (Entry.Join i l n answer) = (j == i) && (k == l) && (m == n) && is_reply reply answer
is_entry (Entry.Done a) (Entry.Done b) = a == b
is_entry (Entry.Exit p) (Entry.Exit q) = is_process p q
is_entry (Entry.Left d) (Entry.Left c) = d == c
is_entry (Entry.Told a d) (Entry.Told b c) = (a == b) && (d == c)
is_entry (Entry.Read a look reply) (Entry.Read b sight answer) = (a == b) && is_look look sight && is_reply reply answer
is_entry _ _ = false

-- whether two histories are one
abbrev pub are_entries : List Entry → List Entry → Bool
are_entries h i = is_list is_entry h i
