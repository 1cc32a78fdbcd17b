-- The rules that move a gate.
use Rattle.std.proofs.Common.{ℕ, Bool, true, false, ◌≡◌, ◌==◌, List, [], ◌∷◌, ◌++◌, refl, sym, ap, ◌∙◌, subst}
use Rattle.std.specs.Prelude.{◌||◌, if◌then◌else◌, fold}
use Rattle.std.proofs.lemmas.Bool.{eq-eqb, ne_eqb}
use Rattle.std.proofs.lemmas.List.{append-nil, append_assoc}
use Rattle.registry_model.specs.Process.{Nodes, nodes_of, at}
use Rattle.registry_model.specs.Table.{Table}
use Rattle.registry_model.specs.Call.{Joined}
use Rattle.registry_model.specs.Settlement.{Fate, Settled, with_settled, settle}
use Rattle.registry_model.specs.History.{Entry, Standing, is_holding, after}
use Rattle.registry_model.specs.Legal.{is_legal, all_legal}
use Rattle.protocol_model.specs.Letter.{Letter}
use Rattle.protocol_model.specs.Round.{Round}
use Rattle.protocol_model.specs.Node.{Node, Op, Current}
use Rattle.protocol_model.specs.Turn.{Turn, Send, sent_to}
use Rattle.protocol_model.specs.World.{Opening, World, left, Deliver, join_number, number_in, letter_taken}
use Rattle.moves.proofs.Rules
use Rattle.moves.proofs.Sends.{sent_to-append, to_each}
use Rattle.registry_model.proofs.Updates.{by_test, at_same}
use Rattle.moves.proofs.Indices.{at_pair, both}
use Rattle.moves.proofs.Invariants.{replica, current, standing_at, Proper, Replicas}
use Rattle.join_gates.proofs.Tokens.{Gate, Away, Knock, Wait, Turned, Entering, is_away, is_turned, are_plain, are_plain-each, plain_knocks, plain_returns, knocks, returns, knocks_of, returns_of, queued_of, admissions, admissions-append, asked_for, jobs, knocks-append, returns-append}
use Rattle.join_gates.proofs.Links.{on_links, sent_none, sent_one, taken_none, taken_one}
use Rattle.join_gates.proofs.Pasts.{Admitted, admitted_now, admitted_holds}
use Rattle.join_gates.proofs.Pairs.{self_pair, swap_pair, one_sent, none_sent, queue_here, queue_same, at_knock, at_queued, at_refusal, at_welcome, no_return, shut_gate}
use Rattle.join_gates.proofs.Gates.{Facts, Gates, moved, shut}
use Rattle.join_gates.proofs.Turns.{facts_by}
use Rattle.join_gates.proofs.Calm.{sends_plain}
use Rattle.join_gates.proofs.Still.{effect-standing, effect-legal, clears}
use Rattle.join_gates.proofs.Shown.{LoneOwners, lone_shown}

-- what is on links, by joiner and contact
abbrev pub knocks_on : World → ℕ → ℕ → List Table
knocks_on w = on_links knocks knocks-append w

abbrev pub returns_on : World → ℕ → ℕ → List Bool
returns_on w x y = on_links returns returns-append w y x

-- a lone node asks a contact to join
pub asks_join : (o : Opening) (a : ℕ) (w : World) (gate : ℕ → ℕ → Gate) (k m : ℕ) (ops : List Op)
    → Proper o w → Replicas o w → Replicas o (Rules.effect o a (Rules.AsksJoin k m ops) w) → LoneOwners o w
    → (replica o w a).joined ≡ false → Rules.May o a w (Rules.AsksJoin k m ops) → Gates o w gate
    → Gates o (Rules.effect o a (Rules.AsksJoin k m ops) w) (at_pair gate a m (Knock (replica o w a).table))
asks_join o a w gate k m ops P R R2 own lone M G =
    moved o w v gate a m (Knock table) (knocks_on w a m ++ table ∷ []) (returns_on w a m)
    (admissions a (jobs (w.node m)))
    G (λ x l. l)
    (λ x y l. sent_one knocks knocks-append w a u m (table ∷ [])
    (one_sent knocks refl m (Letter.JoinAsk table)) x y l)
    (λ l. ap (λ (t : List Table). t ++ table ∷ []) (G.knock a m l ∙ ap knocks_of away))
    (λ x y l. sent_none returns returns-append w a u (none_sent returns refl m (Letter.JoinAsk table) refl) y x
    ∙ self_pair (returns_on w) a m x y)
    (λ l. G.back a m l ∙ ap returns_of away)
    (λ x y l. queue_same w a u.node a m jobs_stay x y)
    (λ l. G.queued a m l ∙ ap queued_of away)
    (λ x y ne. facts_by o a w u gate v refl refl (λ x l. l) (effect-legal o a w r R2) x y (gate x y)
    (λ e i h. absurd (cc (sym M.tested.0 ∙ h))) (λ e. e) (λ e t h. h) (λ i. clears o a w r refl M R2 x i y)
    (λ e l. refl))
    here
  where
    r : Rules.Rule
    r = Rules.AsksJoin k m ops

    u : Turn
    u = Rules.turn_by o a w r

    v : World
    v = Rules.effect o a r w

    table : Table
    table = (replica o w a).table

    away : gate a m ≡ Away
    away = shut_gate o w a m (gate a m) (G.facts a m) (λ i h. cc (sym M.tested.0 ∙ h))

    jobs_stay : (x : ℕ) → admissions x (jobs u.node) ≡ admissions x (jobs (w.node a))
    jobs_stay x = sym (ap (λ (c : Current). admissions x (asked_for c ++ (w.node a).queue)) M.tested.0
        ∙ ap (admissions x) M.tested.1)

    shown : ((standing_at o w).registry.joined a ≡ false) × ((standing_at o w).registry.lone a ≡ table)
    shown = lone_shown o w gate a P R own G (M.inside, M.running) M.tested.0 lone

    here : Facts o v a m (Knock table)
    here = record {
      fit = λ e. (k, ap (λ (n : Node). n.current) (at_same w.node a u.node));
      host = λ e. cc;
      heard = λ e l. cc;
      tokens = λ p e. (
        ap (λ (s : Standing). s.registry.joined a) (effect-standing o a w r) ∙ shown.0,
        ap (λ (s : Standing). s.registry.lone a) (effect-standing o a w r) ∙ shown.1 ∙ cc,
      );
      entering = λ e l. cc;
    }

-- what a request to join says of its gate
pub knocking : (o : Opening) (a : ℕ) (w : World) (gate : ℕ → ℕ → Gate) (f : ℕ) (pairs : Table) (rest : List Letter)
    → left w a ≡ false → w.links.queue f a ≡ Letter.JoinAsk pairs ∷ rest → Gates o w gate
    → (gate f a ≡ Knock pairs) × (knocks rest ≡ [])
knocking o a w gate f pairs rest runs front G =
    at_knock pairs (knocks rest) (gate f a) (sym (ap knocks front) ∙ G.knock f a runs)

-- a joined node queues an admission
pub queues_join : (o : Opening) (a : ℕ) (w : World) (gate : ℕ → ℕ → Gate) (f : ℕ) (pairs : Table)
    → Replicas o (Rules.effect o a (Rules.QueuesJoin f pairs) w) → Rules.May o a w (Rules.QueuesJoin f pairs)
    → Gates o w gate
    → Gates o (Rules.effect o a (Rules.QueuesJoin f pairs) w) (at_pair gate f a (Wait pairs))
queues_join o a w gate f pairs R2 M G = moved o w v gate f a (Wait pairs) (knocks rest) (returns_on w f a)
    (admissions f (jobs u.node))
    G (λ x l. l)
    (λ x y l. sent_none knocks knocks-append (letter_taken (Deliver f a) w) a u (λ y. refl) x y
    ∙ taken_one knocks knocks-append w f a (Letter.JoinAsk pairs) rest front x y)
    (λ l. here.1)
    (λ x y l. sent_none returns returns-append (letter_taken (Deliver f a) w) a u (λ y. refl) y x
    ∙ taken_none returns returns-append w f a (Letter.JoinAsk pairs) rest front refl y x
    ∙ self_pair (returns_on w) f a x y)
    (λ l. G.back f a l ∙ ap returns_of here.0)
    (λ x y l. queue_here w a u.node f (λ x ne. with_effect x
    ∙ ap (λ (t : Bool). admissions x (jobs (w.node a)) ++ (if t then pairs ∷ [] else []))
    (ne_eqb f x (λ e. ne (sym e))) ∙ append-nil (admissions x (jobs (w.node a)))) x y)
    (λ l. with_effect f ∙ ap (λ (t : Bool). admissions f (jobs (w.node a)) ++ (if t then pairs ∷ [] else []))
    (eq-eqb f f refl)
    ∙ ap (λ (t : List Table). t ++ pairs ∷ []) (G.queued f a M.running ∙ ap queued_of here.0))
    (λ x y ne. stay x y (gate x y))
    waits
  where
    r : Rules.Rule
    r = Rules.QueuesJoin f pairs

    u : Turn
    u = Rules.turn_by o a w r

    v : World
    v = Rules.effect o a r w

    rest : List Letter
    rest = M.front.1.0

    front : w.links.queue f a ≡ Letter.JoinAsk pairs ∷ rest
    front = M.front.1.1

    here : (gate f a ≡ Knock pairs) × (knocks rest ≡ [])
    here = knocking o a w gate f pairs rest M.running front G

    with_effect : (x : ℕ) → admissions x (jobs u.node)
        ≡ admissions x (jobs (w.node a)) ++ (if f == x then pairs ∷ [] else [])
    with_effect x = ap (admissions x) (sym (append_assoc (asked_for (w.node a).current) (w.node a).queue
        (Op.Admission f pairs ∷ [])))
        ∙ admissions-append x (jobs (w.node a)) (Op.Admission f pairs ∷ [])
        ∙ ap (λ (t : List Table). admissions x (jobs (w.node a)) ++ t)
        (append-nil (if f == x then pairs ∷ [] else []))

    stay : (x y : ℕ) (g : Gate) → Facts o w x y g → Facts o v x y g
    stay x y g = facts_by o a w u gate v refl refl (λ x l. l) (effect-legal o a w r R2) x y g
        (λ e i h. h) (λ e. e) (λ e t h. h) (λ i. clears o a w r refl M R2 x i y) (λ e l. refl)

    waits : Facts o v f a (Wait pairs)
    waits =
        let F : Facts o v f a (Knock pairs) = stay f a (Knock pairs)
        (subst (λ (g : Gate). Facts o w f a g) here.0 (G.facts f a)) in
        record {
          fit = λ e. F.fit refl;
          host = λ e. ap (λ (n : Node). n.replica.joined) (at_same w.node a u.node) ∙ M.tested.1;
          heard = λ e l. cc;
          tokens = λ p e. F.tokens p e;
          entering = λ e l. cc;
        }

-- a node that isn't joined refuses
pub refuses_join : (o : Opening) (a : ℕ) (w : World) (gate : ℕ → ℕ → Gate) (f : ℕ) (pairs : Table)
    → Proper o w → Replicas o (Rules.effect o a (Rules.RefusesJoin f pairs) w)
    → Rules.May o a w (Rules.RefusesJoin f pairs) → Gates o w gate
    → Gates o (Rules.effect o a (Rules.RefusesJoin f pairs) w) (at_pair gate f a Turned)
refuses_join o a w gate f pairs P R2 M G = moved o w v gate f a Turned (knocks rest) (returns_on w f a ++ false ∷ [])
    (admissions f (jobs (w.node a)))
    G (λ x l. l)
    (λ x y l. sent_none knocks knocks-append (letter_taken (Deliver f a) w) a u
    (none_sent knocks refl f Letter.JoinRefused refl) x y
    ∙ taken_one knocks knocks-append w f a (Letter.JoinAsk pairs) rest front x y)
    (λ l. here.1)
    (λ x y l. sent_one returns returns-append (letter_taken (Deliver f a) w) a u f (false ∷ [])
    (one_sent returns refl f Letter.JoinRefused) y x l
    ∙ swap_pair (on_links returns returns-append (letter_taken (Deliver f a) w)) f a _ x y
    ∙ taken x y)
    (λ l. ap (λ (t : List Bool). t ++ false ∷ []) (G.back f a l ∙ ap returns_of here.0))
    (λ x y l. queue_same w a u.node f a (λ x. refl) x y)
    (λ l. G.queued f a M.running ∙ ap queued_of here.0)
    (λ x y ne. stay x y (gate x y))
    refused
  where
    r : Rules.Rule
    r = Rules.RefusesJoin f pairs

    u : Turn
    u = Rules.turn_by o a w r

    v : World
    v = Rules.effect o a r w

    rest : List Letter
    rest = M.front.1.0

    front : w.links.queue f a ≡ Letter.JoinAsk pairs ∷ rest
    front = M.front.1.1

    here : (gate f a ≡ Knock pairs) × (knocks rest ≡ [])
    here = knocking o a w gate f pairs rest M.running front G

    same : (x y : ℕ) → returns_on (letter_taken (Deliver f a) w) x y ≡ returns_on w x y
    same x y = taken_none returns returns-append w f a (Letter.JoinAsk pairs) rest front refl y x

    taken : (x y : ℕ) → at_pair (returns_on (letter_taken (Deliver f a) w)) f a
        (returns_on (letter_taken (Deliver f a) w) f a ++ false ∷ []) x y
        ≡ at_pair (returns_on w) f a (returns_on w f a ++ false ∷ []) x y
    taken x y = go (x == f) (y == a)
      where
        go : (s t : Bool) → (if s then (if t then returns_on
            (letter_taken (Deliver f a) w) f a ++ false ∷ [] else returns_on (letter_taken (Deliver f a) w) x y) else returns_on
            (letter_taken (Deliver f a) w) x y)
            ≡ (if s then (if t then returns_on w f a ++ false ∷ [] else returns_on w x y) else returns_on w x y)
        go true true = ap (λ (t : List Bool). t ++ false ∷ []) (same f a)
        go true false = same x y
        go false t = same x y

    stay : (x y : ℕ) (g : Gate) → Facts o w x y g → Facts o v x y g
    stay x y g = facts_by o a w u gate v refl refl (λ x l. l) (effect-legal o a w r R2) x y g
        (λ e i h. h) (λ e. e) (λ e t h. h) (λ i. clears o a w r refl M R2 x i y) (λ e l. refl)

    refused : Facts o v f a Turned
    refused =
        let F : Facts o v f a (Knock pairs) = stay f a (Knock pairs)
        (subst (λ (g : Gate). Facts o w f a g) here.0 (G.facts f a)) in
        record {
          fit = λ e. F.fit refl;
          host = λ e. cc;
          heard = λ e l. untold l ((replica o v f).told a) refl;
          tokens = λ p e. cc;
          entering = λ e l. cc;
        }
      where
        told_same : (replica o v f).told a ≡ (replica o w f).told a
        told_same = by_test a (λ x t. (if t then u.node else w.node x).replica.told a
            ≡ (w.node x).replica.told a) refl (λ x ne. refl) f

        untold : left w f ≡ false → (b : Bool) → (replica o v f).told a ≡ b → (replica o v f).told a ≡ false
        untold l false e = e
        untold l true e = absurd (cc (P.told_left f a l (sym told_same ∙ e), M.running))

-- a round is held for the admission of j: it waits here
pub waiting : (o : Opening) (a : ℕ) (w : World) (gate : ℕ → ℕ → Gate) (j : ℕ) (pairs : Table) (r : Round)
    → left w a ≡ false → current o w a ≡ Current.Asking (Op.Admission j pairs) r → Gates o w gate
    → (gate j a ≡ Wait pairs) × (admissions j (w.node a).queue ≡ [])
waiting o a w gate j pairs r runs is G = at_queued pairs (admissions j (w.node a).queue) (gate j a)
    (sym (first j ∙ ap (λ (t : Bool). (if t then pairs ∷ [] else []) ++ admissions j (w.node a).queue)
    (eq-eqb j j refl)) ∙ G.queued j a runs)
  where
    first : (x : ℕ) → admissions x (jobs (w.node a))
        ≡ (if j == x then pairs ∷ [] else []) ++ admissions x (w.node a).queue
    first x = ap (λ (c : Current). admissions x (asked_for c ++ (w.node a).queue)) is

-- the admissions of the others
others : (o : Opening) (a : ℕ) (w : World) (j : ℕ) (pairs : Table) (r : Round)
    → current o w a ≡ Current.Asking (Op.Admission j pairs) r → (x : ℕ) → (x ≡ j → ⊥)
    → admissions x (w.node a).queue ≡ admissions x (jobs (w.node a))
others o a w j pairs r is x ne = sym (ap (λ (c : Current). admissions x (asked_for c ++ (w.node a).queue)) is
    ∙ ap (λ (t : Bool). (if t then pairs ∷ [] else []) ++ admissions x (w.node a).queue)
    (ne_eqb j x (λ e. ne (sym e))))

-- the joiner is told to have left: nothing is written
pub passes : (o : Opening) (a : ℕ) (w : World) (gate : ℕ → ℕ → Gate) (j : ℕ) (pairs : Table) (r : Round)
    → Replicas o (Rules.effect o a (Rules.Passes j pairs r) w) → Rules.May o a w (Rules.Passes j pairs r)
    → Gates o w gate
    → Gates o (Rules.effect o a (Rules.Passes j pairs r) w) (at_pair gate j a Away)
passes o a w gate j pairs r R2 M G = moved o w v gate j a Away (knocks_on w j a) (returns_on w j a)
    (admissions j (w.node a).queue)
    G (λ x l. l)
    (λ x y l. sent_none knocks knocks-append w a u (plain_knocks u.sends plain) x y ∙ self_pair (knocks_on w) j a x y)
    (λ l. G.knock j a M.running ∙ ap knocks_of here.0)
    (λ x y l. sent_none returns returns-append w a u (plain_returns u.sends plain) y x
    ∙ self_pair (returns_on w) j a x y)
    (λ l. G.back j a l ∙ ap returns_of here.0)
    (λ x y l. queue_here w a u.node j (others o a w j pairs r M.tested.0.current) x y)
    (λ l. here.1)
    (λ x y ne. facts_by o a w u gate v refl refl (λ x l. l) (effect-legal o a w rule R2) x y (gate x y)
    (λ e i h. absurd (cc (sym M.tested.0.current ∙ h))) (λ e. e) (λ e t h. h)
    (λ i. clears o a w rule refl M R2 x i y) (λ e l. refl))
    (shut o v j a)
  where
    rule : Rules.Rule
    rule = Rules.Passes j pairs r

    u : Turn
    u = Rules.turn_by o a w rule

    v : World
    v = Rules.effect o a rule w

    plain : are_plain u.sends ≡ true
    plain = sends_plain o a (join_number w) rule (w.node a) refl

    here : (gate j a ≡ Wait pairs) × (admissions j (w.node a).queue ≡ [])
    here = waiting o a w gate j pairs r M.running M.tested.0.current G

-- a joiner is let in
pub admits : (o : Opening) (a : ℕ) (w : World) (gate : ℕ → ℕ → Gate) (j : ℕ) (pairs : Table) (r : Round)
    → Replicas o (Rules.effect o a (Rules.Admits j pairs r) w) → Rules.May o a w (Rules.Admits j pairs r)
    → Gates o w gate
    → Gates o (Rules.effect o a (Rules.Admits j pairs r) w) (at_pair gate j a Entering)
admits o a w gate j pairs r R2 M G = moved o w v gate j a Entering (knocks_on w j a) (returns_on w j a ++ true ∷ [])
    (admissions j (w.node a).queue)
    G (λ x l. l)
    (λ x y l. sent_none knocks knocks-append w a u no_knock x y ∙ self_pair (knocks_on w) j a x y)
    (λ l. G.knock j a M.running ∙ ap knocks_of here.0)
    (λ x y l. sent_one returns returns-append w a u j (true ∷ []) one_return y x l
    ∙ swap_pair (on_links returns returns-append w) j a _ x y)
    (λ l. ap (λ (t : List Bool). t ++ true ∷ []) (G.back j a l ∙ ap returns_of here.0))
    (λ x y l. queue_here w a u.node j (others o a w j pairs r M.tested.0.current) x y)
    (λ l. here.1)
    (λ x y ne. facts_by o a w u gate v refl refl (λ x l. l) (effect-legal o a w rule R2) x y (gate x y)
    (λ e i h. absurd (cc (sym M.tested.0.current ∙ h))) (λ e. e) (λ e t h. h)
    (λ i h. ap (λ (b : Bool). b || false) (ne_eqb x j (λ e. ne e (elsewhere x y i e h)))) (λ e l. refl))
    entering
  where
    rule : Rules.Rule
    rule = Rules.Admits j pairs r

    u : Turn
    u = Rules.turn_by o a w rule

    v : World
    v = Rules.effect o a rule w

    s : Settled
    s = settle (w.node a).replica.table pairs

    admit : Letter
    admit = Letter.Admit j s

    welcome : Letter
    welcome = Letter.Welcome (at (w.node a).replica.members j true) (with_settled s (w.node a).replica.table)
        (w.node a).replica.told s.fate

    to_members : List Send
    to_members = to_each (nodes_of o.bound (w.node a).replica.members) admit

    no_knock : (y : ℕ) → knocks (sent_to y u.sends) ≡ []
    no_knock y = ap knocks (sent_to-append y to_members (record { to = j; letter = welcome } ∷ []))
        ∙ knocks-append (sent_to y to_members) (sent_to y (record { to = j; letter = welcome } ∷ []))
        ∙ ap (λ (t : List Table). t ++ knocks (sent_to y (record { to = j; letter = welcome } ∷ [])))
        (plain_knocks to_members (are_plain-each (nodes_of o.bound (w.node a).replica.members) admit refl) y)
        ∙ none_sent knocks refl j welcome refl y

    one_return : (y : ℕ) → returns (sent_to y u.sends) ≡ (if y == j then true ∷ [] else [])
    one_return y = ap returns (sent_to-append y to_members (record { to = j; letter = welcome } ∷ []))
        ∙ returns-append (sent_to y to_members) (sent_to y (record { to = j; letter = welcome } ∷ []))
        ∙ ap (λ (t : List Bool). t ++ returns (sent_to y (record { to = j; letter = welcome } ∷ [])))
        (plain_returns to_members (are_plain-each (nodes_of o.bound (w.node a).replica.members) admit refl) y)
        ∙ one_sent returns refl j welcome y

    here : (gate j a ≡ Wait pairs) × (admissions j (w.node a).queue ≡ [])
    here = waiting o a w gate j pairs r M.running M.tested.0.current G

    waits : (k : ℕ) × (current o w j ≡ Current.Joining k a)
    waits = (G.facts j a).fit (ap is_away here.0)

    elsewhere : (x y i : ℕ) → x ≡ j → current o w x ≡ Current.Joining i y → y ≡ a
    elsewhere x y i e h = cc (sym waits.1 ∙ ap (λ (z : ℕ). (w.node z).current) (sym e) ∙ h)

    k : ℕ
    k = waits.0

    entering : Facts o v j a Entering
    entering = record {
      fit = λ e. (k, still_waits);
      host = λ e. cc;
      heard = λ e l. cc;
      tokens = λ p e. cc;
      entering = λ e l. (k, still_waits, holds);
    }
      where
        still_waits : current o v j ≡ Current.Joining k a
        still_waits = by_test a (λ x t. (w.node x).current ≡ Current.Joining k a
            → (if t then u.node else w.node x).current ≡ Current.Joining k a)
            (λ h. absurd (cc (sym M.tested.0.current ∙ h))) (λ x ne h. h) j waits.1

        numbered : join_number w j ≡ k
        numbered = ap number_in waits.1

        entry : u.entries ≡ Entry.Join j k a Joined ∷ []
        entry = ap (λ (n : ℕ). Entry.Join j n a Joined ∷ []) numbered

        behind : standing_at o v ≡ after (standing_at o w) (Entry.Join j k a Joined)
        behind = effect-standing o a w rule ∙ ap (λ (es : List Entry). fold after (standing_at o w) es) entry

        legal : is_legal (standing_at o w) (Entry.Join j k a Joined) ≡ true
        legal = (both (is_legal (standing_at o w) (Entry.Join j k a Joined)) true
            (ap (λ (es : List Entry). all_legal (standing_at o w) es) (sym entry) ∙ effect-legal o a w rule R2)).0

        holds : Admitted (standing_at o v) j k a
        holds = subst (λ (t : Standing). Admitted t j k a) (sym behind) (admitted_now (standing_at o w) j k a legal)

-- an answer to its own join reaches a node
pub ends_join : (o : Opening) (a : ℕ) (w : World) (gate : ℕ → ℕ → Gate) (f k : ℕ)
    → Replicas o (Rules.effect o a (Rules.EndsJoin f k) w) → Rules.May o a w (Rules.EndsJoin f k) → Gates o w gate
    → Gates o (Rules.effect o a (Rules.EndsJoin f k) w) (at_pair gate a f Away)
ends_join o a w gate f k R2 M G = moved o w v gate a f Away (knocks_on w a f) (returns rest)
    (admissions a (jobs (w.node f)))
    G (λ x l. l)
    (λ x y l. sent_none knocks knocks-append (letter_taken (Deliver f a) w) a u (λ y. refl) x y
    ∙ taken_none knocks knocks-append w f a Letter.JoinRefused rest front refl x y ∙ self_pair (knocks_on w) a f x y)
    (λ l. G.knock a f l ∙ ap knocks_of here.0)
    (λ x y l. sent_none returns returns-append (letter_taken (Deliver f a) w) a u (λ y. refl) y x
    ∙ taken_one returns returns-append w f a Letter.JoinRefused rest front y x
    ∙ swap_pair (on_links returns returns-append w) a f (returns rest) x y)
    (λ l. here.1)
    (λ x y l. queue_same w a u.node a f (λ x. sym
    (ap (λ (c : Current). admissions x (asked_for c ++ (w.node a).queue)) M.tested.1)) x y)
    (λ l. G.queued a f l ∙ ap queued_of here.0)
    (λ x y ne. facts_by o a w u gate v refl refl (λ x l. l) (effect-legal o a w rule R2) x y (gate x y)
    (λ e i h. absurd (ne e (cc (sym M.tested.1 ∙ h)))) (λ e. e) (λ e t h. h) (λ i. clears o a w rule refl M R2 x i y)
    (λ e l. refl))
    (shut o v a f)
  where
    rule : Rules.Rule
    rule = Rules.EndsJoin f k

    u : Turn
    u = Rules.turn_by o a w rule

    v : World
    v = Rules.effect o a rule w

    rest : List Letter
    rest = M.front.1.0

    front : w.links.queue f a ≡ Letter.JoinRefused ∷ rest
    front = M.front.1.1

    here : (gate a f ≡ Turned) × (returns rest ≡ [])
    here = at_refusal (returns rest) (gate a f) (sym (ap returns front) ∙ G.back a f M.running)

pub is_welcomed : (o : Opening) (a : ℕ) (w : World) (gate : ℕ → ℕ → Gate) (f k : ℕ) (members : Nodes) (pairs : Table)
    (told : Nodes) (fate : Fate)
    → Replicas o (Rules.effect o a (Rules.IsWelcomed f k members pairs told fate) w)
    → Rules.May o a w (Rules.IsWelcomed f k members pairs told fate) → Gates o w gate
    → Gates o (Rules.effect o a (Rules.IsWelcomed f k members pairs told fate) w) (at_pair gate a f Away)
is_welcomed o a w gate f k members pairs told fate R2 M G =
    moved o w v gate a f Away (knocks_on w a f) (returns rest) (admissions a (jobs (w.node f)))
    G (λ x l. l)
    (λ x y l. sent_none knocks knocks-append (letter_taken (Deliver f a) w) a u
    (none_sent knocks refl f Letter.Applied refl) x y
    ∙ taken_none knocks knocks-append w f a letter rest front refl x y ∙ self_pair (knocks_on w) a f x y)
    (λ l. G.knock a f l ∙ ap knocks_of here.0)
    (λ x y l. sent_none returns returns-append (letter_taken (Deliver f a) w) a u
    (none_sent returns refl f Letter.Applied refl) y x
    ∙ taken_one returns returns-append w f a letter rest front y x
    ∙ swap_pair (on_links returns returns-append w) a f (returns rest) x y)
    (λ l. here.1)
    (λ x y l. queue_same w a u.node a f (λ x. sym
    (ap (λ (c : Current). admissions x (asked_for c ++ (w.node a).queue)) M.tested.1)) x y)
    (λ l. G.queued a f l ∙ ap queued_of here.0)
    (λ x y ne. facts_by o a w u gate v refl refl (λ x l. l) (effect-legal o a w rule R2) x y (gate x y)
    (λ e i h. absurd (ne e (cc (sym M.tested.1 ∙ h)))) (λ e. refl)
    (λ e t h. absurd (ne e (waits_here x y e ((G.facts x y).fit (turned_busy (gate x y) t)))))
    (λ i. clears o a w rule refl M R2 x i y) (λ e l. refl))
    (shut o v a f)
  where
    rule : Rules.Rule
    rule = Rules.IsWelcomed f k members pairs told fate

    letter : Letter
    letter = Letter.Welcome members pairs told fate

    u : Turn
    u = Rules.turn_by o a w rule

    v : World
    v = Rules.effect o a rule w

    rest : List Letter
    rest = M.front.1.0

    front : w.links.queue f a ≡ letter ∷ rest
    front = M.front.1.1

    here : (gate a f ≡ Entering) × (returns rest ≡ [])
    here = at_welcome (returns rest) (gate a f) (sym (ap returns front) ∙ G.back a f M.running)

    turned_busy : (g : Gate) → is_turned g ≡ true → is_away g ≡ false
    turned_busy Turned e = refl
    turned_busy _ e = cc

    waits_here : (x y : ℕ) → x ≡ a → (i : ℕ) × (current o w x ≡ Current.Joining i y) → y ≡ f
    waits_here x y e h = cc (sym M.tested.1 ∙ ap (λ (z : ℕ). (w.node z).current) (sym e) ∙ h.1)

-- of a contact that a running node was told has left no answer is on its way
pub no_answer : (o : Opening) (w : World) (gate : ℕ → ℕ → Gate) (a m : ℕ) → Proper o w → Replicas o w
    → left w a ≡ false
    → (replica o w a).told m ≡ true → Gates o w gate → returns_of (gate a m) ≡ []
no_answer o w gate a m P R runs told G = no_return (gate a m)
    (λ e. cc (told, (G.facts a m).heard e runs))
    (λ e. still_there ((G.facts a m).entering e runs).2)
  where
    still_there : {k : ℕ} → Admitted (standing_at o w) a k m → ⊥
    still_there A = absurd (cc (P.told_left a m runs told, (R.writers m (sym (R.holds m) ∙ holding A)).1))
      where
        holding : {k : ℕ} → Admitted (standing_at o w) a k m → is_holding (standing_at o w) m ≡ true
        holding A = admitted_holds (standing_at o w) a _ m A

-- the contact has left
pub loses_contact : (o : Opening) (a : ℕ) (w : World) (gate : ℕ → ℕ → Gate) (k m : ℕ)
    → Proper o w → Replicas o w → Replicas o (Rules.effect o a (Rules.LosesContact k m) w)
    → Rules.May o a w (Rules.LosesContact k m) → Gates o w gate
    → Gates o (Rules.effect o a (Rules.LosesContact k m) w) (at_pair gate a m Away)
loses_contact o a w gate k m P R R2 M G = moved o w v gate a m Away (knocks_on w a m) (returns_on w a m)
    (admissions a (jobs (w.node m)))
    G (λ x l. l)
    (λ x y l. sent_none knocks knocks-append w a u (λ y. refl) x y ∙ self_pair (knocks_on w) a m x y)
    (λ l. absurd (cc (gone, l)))
    (λ x y l. sent_none returns returns-append w a u (λ y. refl) y x ∙ self_pair (returns_on w) a m x y)
    (λ l. G.back a m l ∙ no_answer o w gate a m P R l M.tested.0 G)
    (λ x y l. queue_same w a u.node a m (λ x. sym
    (ap (λ (c : Current). admissions x (asked_for c ++ (w.node a).queue)) M.tested.1)) x y)
    (λ l. absurd (cc (gone, l)))
    (λ x y ne. facts_by o a w u gate v refl refl (λ x l. l) (effect-legal o a w rule R2) x y (gate x y)
    (λ e i h. absurd (ne e (cc (sym M.tested.1 ∙ h)))) (λ e. e) (λ e t h. h) (λ i. clears o a w rule refl M R2 x i y)
    (λ e l. refl))
    (shut o v a m)
  where
    rule : Rules.Rule
    rule = Rules.LosesContact k m

    u : Turn
    u = Rules.turn_by o a w rule

    v : World
    v = Rules.effect o a rule w

    gone : left w m ≡ true
    gone = P.told_left a m M.running M.tested.0
