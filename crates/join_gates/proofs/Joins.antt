-- Every rule keeps the joins under way, and what they tell of admissions and welcomes.
use Rattle.std.proofs.Common.{ℕ, Bool, true, false, ◌≡◌, List, [], ◌∷◌, ◌++◌, refl, sym, ap, ◌∙◌, subst}
use Rattle.std.specs.Prelude.{if◌then◌else◌}
use Rattle.protocol_model.specs.Letter.{Letter}
use Rattle.protocol_model.specs.Node.{Node, Op, Current}
use Rattle.protocol_model.specs.Event.{is_joining}
use Rattle.protocol_model.specs.World.{Opening, World, opening_world}
use Rattle.moves.proofs.Rules
use Rattle.registry_model.proofs.Updates.{by_test}
use Rattle.moves.proofs.Indices.{at_pair, not_true}
use Rattle.moves.proofs.Invariants.{Each, is_welcome, replica, current, Proper, Replicas, JoinsKnown}
use Rattle.join_gates.proofs.Tokens.{Gate, Away, Knock, Wait, Turned, Entering, returns}
use Rattle.join_gates.proofs.Gates.{Facts, Gates, Once, OnceIn, has_join, has_one, Joins, shut}
use Rattle.join_gates.proofs.Calm.{quietly, tail_one, once_push}
use Rattle.join_gates.proofs.Still.{effect-node, still, not_done, finish_going}
use Rattle.join_gates.proofs.Shown.{LoneOwners, let_in}
use Rattle.join_gates.proofs.Moves.{waiting, asks_join, queues_join, refuses_join, passes, admits, ends_join, is_welcomed, loses_contact}
use Rattle.join_gates.proofs.Departs.{gate_dropped, ignores, letter_drops, is_told, leaves}

-- the gates after a rule
abbrev pub gate_by : Opening → ℕ → World → Rules.Rule → (ℕ → ℕ → Gate) → ℕ → ℕ → Gate
gate_by o a w (Rules.AsksJoin k m ops) gate = at_pair gate a m (Knock (replica o w a).table)
gate_by o a w (Rules.QueuesJoin f pairs) gate = at_pair gate f a (Wait pairs)
gate_by o a w (Rules.RefusesJoin f pairs) gate = at_pair gate f a Turned
gate_by o a w (Rules.Admits j pairs r) gate = at_pair gate j a Entering
gate_by o a w (Rules.Passes j pairs r) gate = at_pair gate j a Away
gate_by o a w (Rules.EndsJoin f k) gate = at_pair gate a f Away
gate_by o a w (Rules.IsWelcomed f k members pairs told fate) gate = at_pair gate a f Away
gate_by o a w (Rules.LosesContact k m) gate = at_pair gate a m Away
gate_by o a w (Rules.Drops f l) gate = gate_dropped a f l gate
gate_by o a w _ gate = gate

-- a node that begins a join isn't joined
pub begins_lone : (v : Node) (k m : ℕ) (ops : List Op) → v.queue ≡ Op.Join k m ∷ ops → Once v
    → v.replica.joined ≡ false
begins_lone v k m ops is O = go v.replica.joined refl
  where
    go : (b : Bool) → v.replica.joined ≡ b → b ≡ false
    go false e = refl
    go true e = absurd (cc (sym (ap has_join is) ∙ (O.joined e).1))

-- every rule keeps the gates
pub gates_keep : (o : Opening) (a : ℕ) (w : World) (r : Rules.Rule) (gate : ℕ → ℕ → Gate)
    → Proper o w → Replicas o w → Replicas o (Rules.effect o a r w) → LoneOwners o w → Once (w.node a)
    → Rules.May o a w r → Gates o w gate
    → Gates o (Rules.effect o a r w) (gate_by o a w r gate)
gates_keep o a w (Rules.AsksJoin k m ops) gate P R R2 own O M G =
    asks_join o a w gate k m ops P R R2 own (begins_lone (w.node a) k m ops M.tested.1 O) M G
gates_keep o a w (Rules.QueuesJoin f pairs) gate P R R2 own O M G = queues_join o a w gate f pairs R2 M G
gates_keep o a w (Rules.RefusesJoin f pairs) gate P R R2 own O M G = refuses_join o a w gate f pairs P R2 M G
gates_keep o a w (Rules.Admits j pairs r) gate P R R2 own O M G = admits o a w gate j pairs r R2 M G
gates_keep o a w (Rules.Passes j pairs r) gate P R R2 own O M G = passes o a w gate j pairs r R2 M G
gates_keep o a w (Rules.EndsJoin f k) gate P R R2 own O M G = ends_join o a w gate f k R2 M G
gates_keep o a w (Rules.IsWelcomed f k members pairs told fate) gate P R R2 own O M G =
    is_welcomed o a w gate f k members pairs told fate R2 M G
gates_keep o a w (Rules.LosesContact k m) gate P R R2 own O M G = loses_contact o a w gate k m P R R2 M G
gates_keep o a w (Rules.Ignores f l) gate P R R2 own O M G = ignores o a w gate f l R2 M G
gates_keep o a w (Rules.Drops f l) gate P R R2 own O M G = letter_drops o a w gate f l P R R2 M G
gates_keep o a w (Rules.IsTold f) gate P R R2 own O M G = is_told o a w gate f P R2 M G
gates_keep o a w Rules.Leaves gate P R R2 own O M G = leaves o a w gate R2 M G
gates_keep o a w (Rules.Finishes op asked awaited reply) gate P R R2 own O M G =
    still o a w (Rules.Finishes op asked awaited reply) gate refl refl refl refl refl
    (finish_going o a w op asked awaited reply gate R2 G) R2 M G
gates_keep o a w r gate P R R2 own O M G = still o a w r gate refl refl refl refl refl
    (λ j m e l. not_done o a w r refl m) R2 M G

-- the registrar is at something else, which is no join
once_work : (b : Bool) (c d : Current) (ops : List Op) → is_joining d ≡ false → OnceIn b c ops → OnceIn b d ops
once_work b c d ops e O = record {
  joined = λ h. (e, (O.joined h).1);
  waits = λ h. absurd (cc (e, h));
  queue =
      O.queue;
}

turn_once : (o : Opening) (a : ℕ) (w : World) (r : Rules.Rule) → Rules.May o a w r → Once (w.node a)
    → Once (Rules.turn_by o a w r).node
turn_once o a w (Rules.AsksJoin k m ops) M O =
    let one : has_one (Op.Join k m ∷ ops) ≡ true = ap has_one (sym M.tested.1) ∙ O.queue in
    record {
      joined = λ h. absurd (cc (sym (ap has_join M.tested.1) ∙ (O.joined h).1));
      waits = λ h. not_true (has_join ops) one;
      queue = tail_one (Op.Join k m) ops one;
    }
turn_once o a w (Rules.QueuesJoin f pairs) M O =
    once_push (w.node a).replica.joined (w.node a).current (w.node a).queue (Op.Admission f pairs) refl O
turn_once o a w (Rules.Admits j pairs r) M O =
    once_work (w.node a).replica.joined (w.node a).current _ (w.node a).queue refl O
turn_once o a w (Rules.Passes j pairs r) M O =
    once_work (w.node a).replica.joined (w.node a).current _ (w.node a).queue refl O
turn_once o a w (Rules.EndsJoin f k) M O = once_work (w.node a).replica.joined (w.node a).current _
    (w.node a).queue refl O
turn_once o a w (Rules.LosesContact k m) M O =
    once_work (w.node a).replica.joined (w.node a).current _ (w.node a).queue refl O
turn_once o a w (Rules.IsWelcomed f k members pairs told fate) M O = record {
  joined = λ h. (refl, O.waits (ap is_joining M.tested.1));
  waits = λ h. cc;
  queue = O.queue;
}
turn_once o a w (Rules.IsTold f) M O = O
turn_once o a w r M O = (quietly o a w r refl M).once O

pub once_keeps : (o : Opening) (a : ℕ) (w : World) (r : Rules.Rule) → Rules.May o a w r → ((n : ℕ) → Once (w.node n))
    → (n : ℕ) → Once ((Rules.effect o a r w).node n)
once_keeps o a w r M O n = subst (λ (f : ℕ → Node). Once (f n)) (sym (effect-node o a w r))
    (by_test a (λ x t. Once (if t then (Rules.turn_by o a w r).node else w.node x)) (turn_once o a w r M (O a))
    (λ x ne. O x) n)

-- every rule keeps the joins under way
pub joins_keeps : (o : Opening) (a : ℕ) (w : World) (r : Rules.Rule)
    → Proper o w → Replicas o w → Replicas o (Rules.effect o a r w) → LoneOwners o w → Joins o w → Rules.May o a w r
    → Joins o (Rules.effect o a r w)
joins_keeps o a w r P R R2 own J M = record {
  gate = gate_by o a w r J.gate;
  gates = gates_keep o a w r J.gate P R R2 own (J.once a) M J.gates;
  once = once_keeps o a w r M J.once;
}

pub gates_open : (o : Opening) → Gates o (opening_world o) (λ j m. Away)
gates_open o = record {
  knock = λ j m l. refl;
  back = λ j m l. refl;
  queued = λ j m l. refl;
  facts = λ j m. shut o (opening_world o) j m;
}

pub joins_opens : (o : Opening) → Joins o (opening_world o)
joins_opens o = record {
  gate = λ j m. Away;
  gates = gates_open o;
  once = λ n. record { joined = λ h. (refl, refl); waits = λ h. refl; queue = refl };
}

-- where each welcome of a link would show something, it holds for each
each_shows : (W : Type 0) (ls : List Letter) → ((b c : List Bool) → returns ls ≡ b ++ true ∷ c → W)
    → Each (λ l. is_welcome l ≡ true → W) ls
each_shows W [] x = tt
each_shows W (Letter.Welcome members pairs told fate ∷ ls) x =
    (λ e. x [] (returns ls) refl, each_shows W ls (λ b c e. x (true ∷ b) c (ap (λ (l : List Bool). true ∷ l) e)))
each_shows W (Letter.JoinRefused ∷ ls) x = (
  λ e. cc,
  each_shows W ls (λ b c e. x (false ∷ b) c (ap (λ (l : List Bool). false ∷ l) e)),
)
each_shows W (_ ∷ ls) x = (λ e. cc, each_shows W ls x)

-- what the replicas ask of the joins
pub joins_known : (o : Opening) (w : World) → Joins o w → JoinsKnown o w
joins_known o w J = record {
  admission = λ m j pairs r up is.
      let here : (J.gate j m ≡ Wait pairs) × (_ ≡ []) = waiting o m w J.gate j pairs r up.1 is J.gates in
      let F : Facts o w j m (Wait pairs) = subst (λ (g : Gate). Facts o w j m g) here.0 (J.gates.facts j m) in
      ((F.tokens pairs refl).0, (F.tokens pairs refl).1, F.host refl, F.fit refl);
  welcome = λ f n up. each_shows ((k : ℕ) × (current o w n ≡ Current.Joining k f)) (w.links.queue f n)
      (λ b c e. (J.gates.facts n f).fit (let_in (J.gate n f) b c (sym (J.gates.back n f up.1) ∙ e)));
}
