-- Every rule keeps the accounts.
use Rattle.std.proofs.Common.{ℕ, ◌≡◌, ◌==◌, Option, List, [], ◌∷◌, ◌++◌, refl, sym, ap, ◌∙◌, subst}
use Rattle.std.specs.Prelude.{if◌then◌else◌, filter, flat_map}
use Rattle.std.proofs.lemmas.Bool.{ne_eqb}
use Rattle.registry_model.specs.Process.{at}
use Rattle.registry_model.specs.Call.{Reply, Joined, NotMember}
use Rattle.registry_model.specs.History.{Entry}
use Rattle.protocol_model.specs.Node.{Node, Op, Current}
use Rattle.protocol_model.specs.Event.{Answer}
use Rattle.protocol_model.specs.Fit.{Numbered, decided_at}
use Rattle.protocol_model.specs.Answers.{entered_at}
use Rattle.protocol_model.specs.World.{Opening, World, join_number, number_in, opening_world}
use Rattle.join_gates.proofs.Rules
use Rattle.registry_model.proofs.Updates.{by_test}
use Rattle.join_gates.proofs.Indices.{at_pair}
use Rattle.join_gates.proofs.Invariants.{current, Proper, Replicas}
use Rattle.join_gates.proofs.Made.{entered, answered, entries_made, answers_made}
use Rattle.join_gates.proofs.Tokens.{Gate, Away, Turned, Entering, is_away, knocks, admissions}
use Rattle.join_gates.proofs.Gates.{Gates, Once}
use Rattle.join_gates.proofs.Still.{effect-node, effect-history}
use Rattle.join_gates.proofs.Shown.{LoneOwners}
use Rattle.join_gates.proofs.Moves.{knocking, waiting}
use Rattle.join_gates.proofs.Joins.{gate_by, gates_keep, gates_open}
use Rattle.fitting.proofs.Accounts.{reply_by, own as own_calls, owed_by, is_word_at, replies_to, Accounts, SettlesNode, account_settled}
use Rattle.fitting.proofs.Settling.{joins_elsewhere, settles_other, settles_join}
use Rattle.fitting.proofs.Working.{accepted_by, goes_on, settles_self}

-- the calls that each node accepted, after a rule
abbrev pub accepted_after : ℕ → Rules.Rule → World → (ℕ → List Numbered) → ℕ → List Numbered
accepted_after a r w accepted b = accepted b ++ (if b == a then accepted_by r (w.node a) else [])

-- what a rule does to each account
settles_by : (o : Opening) (a : ℕ) (w : World) (r : Rules.Rule) (gate : ℕ → ℕ → Gate)
    → Proper o w → Replicas o w → Gates o w gate → Rules.May o a w r → (b : ℕ)
    → SettlesNode b (if b == a then accepted_by r (w.node a) else []) (entered a (join_number w) r (w.node a))
    (answered a r (w.node a))
    (replies_to gate b) (replies_to (gate_by o a w r gate) b) (w.node b) (at w.node a (Rules.turn_by o a w r).node b)
settles_by o a w (Rules.RefusesJoin f pairs) gate P R G M b =
    by_test a (λ x t. SettlesNode x (if t then [] else []) (entered a (join_number w) r (w.node a)) []
    (replies_to gate x) (replies_to (at_pair gate f a Turned) x) (w.node x) (if t then w.node a else w.node x))
    (join a) (λ x ne. join x) b
  where
    r : Rules.Rule
    r = Rules.RefusesJoin f pairs

    here : (gate f a ≡ Gate.Knock pairs) × (knocks M.front.1.0 ≡ [])
    here = knocking o a w gate f pairs M.front.1.0 M.running M.front.1.1 G

    waits : (k : ℕ) × (current o w f ≡ Current.Joining k a)
    waits = (G.facts f a).fit (ap is_away here.0)

    join : (x : ℕ) → SettlesNode x [] (entered a (join_number w) r (w.node a)) [] (replies_to gate x)
        (replies_to (at_pair gate f a Turned) x) (w.node x) (w.node x)
    join = settles_join o w f a waits.0 NotMember gate Turned _ [] waits.1 (ap reply_by here.0) refl
        (ap (λ (c : Current). Entry.Join f (number_in c) a NotMember ∷ []) waits.1) refl
settles_by o a w (Rules.Admits j pairs r) gate P R G M b =
    by_test a (λ x t. SettlesNode x (if t then [] else []) (entered a (join_number w) rule (w.node a)) []
    (replies_to gate x) (replies_to (at_pair gate j a Entering) x) (w.node x)
    (if t then (Rules.turn_by o a w rule).node else w.node x))
    self (λ x ne. join x) b
  where
    rule : Rules.Rule
    rule = Rules.Admits j pairs r

    here : (gate j a ≡ Gate.Wait pairs) × (admissions j (w.node a).queue ≡ [])
    here = waiting o a w gate j pairs r M.running M.tested.0.current G

    waits : (k : ℕ) × (current o w j ≡ Current.Joining k a)
    waits = (G.facts j a).fit (ap is_away here.0)

    join : (x : ℕ) → SettlesNode x [] (entered a (join_number w) rule (w.node a)) [] (replies_to gate x)
        (replies_to (at_pair gate j a Entering) x) (w.node x) (w.node x)
    join = settles_join o w j a waits.0 Joined gate Entering _ [] waits.1 (ap reply_by here.0) refl
        (ap (λ (c : Current). Entry.Join j (number_in c) a Joined ∷ []) waits.1) refl

    apart : a ≡ j → ⊥
    apart e = cc (sym waits.1 ∙ ap (λ (x : ℕ). current o w x) (sym e) ∙ M.tested.0.current)

    self : SettlesNode a [] (entered a (join_number w) rule (w.node a)) [] (replies_to gate a)
        (replies_to (at_pair gate j a Entering) a) (w.node a) (Rules.turn_by o a w rule).node
    self = goes_on a (Entry.Join j (join_number w j) a Joined ∷ []) (replies_to gate a)
        (replies_to (at_pair gate j a Entering) a) (w.node a) (Rules.turn_by o a w rule).node
        (Current.Asking (Op.Admission j pairs) r) _ M.tested.0.current refl refl
        (joins_elsewhere j a (join_number w j) a Joined (ne_eqb j a (λ e. apart (sym e)))).0
        (joins_elsewhere j a (join_number w j) a Joined (ne_eqb j a (λ e. apart (sym e)))).1
        refl refl
settles_by o a w r gate P R G M b =
    by_test a (λ x t. SettlesNode x (if t then accepted_by r (w.node a) else [])
    (entered a (join_number w) r (w.node a)) (answered a r (w.node a))
    (replies_to gate x) (replies_to (gate_by o a w r gate) x) (w.node x)
    (if t then (Rules.turn_by o a w r).node else w.node x))
    (settles_self o a w r gate P R G M refl) (λ x ne. settles_other o a w r gate G M refl x ne) b

-- every rule keeps the accounts, with what it accepts and answers
pub accounts_keep : (o : Opening) (a : ℕ) (w : World) (r : Rules.Rule) (accepted : ℕ → List Numbered)
    (given : List Answer)
    → Proper o w → Replicas o w → Replicas o (Rules.effect o a r w) → LoneOwners o w → Once (w.node a)
    → Rules.May o a w r
    → Accounts o w accepted given
    → Accounts o (Rules.effect o a r w) (accepted_after a r w accepted) (given ++ (Rules.turn_by o a w r).answers)
accounts_keep o a w r accepted given P R R2 own O M A = record {
  gate = gate_by o a w r A.gate;
  gates = gates_keep o a w r A.gate P R R2 own O M A.gates;
  calls = λ b. (both b).0;
  answers = λ b. (both b).1;
}
  where
    es : List Entry
    es = entered a (join_number w) r (w.node a)

    row : ℕ → ℕ → Option Reply
    row b = replies_to (gate_by o a w r A.gate) b

    both : (b : ℕ)
        → (accepted_after a r w accepted b ≡ flat_map (decided_at b) (Rules.effect o a r w).history ++ own_calls
        (row b) ((Rules.effect o a r w).node b))
        × (flat_map (entered_at b) (Rules.effect o a r w).history
        ≡ filter (is_word_at b) (given ++ (Rules.turn_by o a w r).answers) ++ owed_by b (row b)
        ((Rules.effect o a r w).node b).current)
    both b =
        subst (λ (n : ℕ → Node). (accepted_after a r w accepted b
        ≡ flat_map (decided_at b) (Rules.effect o a r w).history ++ own_calls (row b) (n b))
        × (flat_map (entered_at b) (Rules.effect o a r w).history
        ≡ filter (is_word_at b) (given ++ (Rules.turn_by o a w r).answers) ++ owed_by b (row b) (n b).current))
        (sym (effect-node o a w r))
        (subst (λ (h : List Entry). (accepted_after a r w accepted b
        ≡ flat_map (decided_at b) h ++ own_calls (row b) (at w.node a (Rules.turn_by o a w r).node b))
        × (flat_map (entered_at b) h ≡ filter (is_word_at b) (given ++ (Rules.turn_by o a w r).answers) ++ owed_by b
        (row b) (at w.node a (Rules.turn_by o a w r).node b).current))
        (sym (effect-history o a w r ∙ ap (λ (x : List Entry). w.history ++ x)
        (entries_made o a (join_number w) r (w.node a))))
        (subst (λ (xs : List Answer). (accepted_after a r w accepted b
        ≡ flat_map (decided_at b) (w.history ++ es) ++ own_calls (row b)
        (at w.node a (Rules.turn_by o a w r).node b))
        × (flat_map (entered_at b) (w.history ++ es) ≡ filter (is_word_at b) (given ++ xs) ++ owed_by b (row b)
        (at w.node a (Rules.turn_by o a w r).node b).current))
        (sym (answers_made o a (join_number w) r (w.node a)))
        (account_settled b (if b == a then accepted_by r (w.node a) else []) es w.history (answered a r (w.node a)) given
        (replies_to A.gate b) (row b) (w.node b)
        (at w.node a (Rules.turn_by o a w r).node b) (accepted b) (settles_by o a w r A.gate P R A.gates M b)
        (A.calls b) (A.answers b))))

pub accounts_open : (o : Opening) → Accounts o (opening_world o) (λ a. []) []
accounts_open o = record { gate = λ j m. Away; gates = gates_open o; calls = λ a. refl; answers = λ a. refl }
