-- What a node knows of, and whom it sends to: nodes that have started alone. What it sends can be relied on. The world is here all
-- nodes that have started.
use Rattle.std.proofs.Common.{ℕ, zero, suc, Bool, true, false, ◌==◌, ◌≡◌, ◌<◌, List, [], ◌∷◌, ◌++◌, get_or, map, refl, ap, ◌∙◌, inl, inr, arith}
use Rattle.std.specs.Prelude.{◌&&◌, not, if◌then◌else◌, All}
use Rattle.std.proofs.lemmas.Bool.{cases_lt, eqb-true}
use Rattle.std.proofs.lemmas.List.Elements.{All-nil, All-append, All-push, All-map}
use Rattle.registry_model.specs.Process.{Nodes, nodes_of, with_node, without_node}
use Rattle.registry_model.specs.Table.{Change as AnyChange, is_rising}
use Rattle.registry_model.specs.Registry.{Replica}
use Rattle.registry_model.proofs.Tables.{is_rising-changed}
use Rattle.protocol_model.specs.Letter.{Letter as AnyLetter}
use Rattle.protocol_model.specs.Node.{Op as AnyOp, Current, LockCall, LockPhase, wrote, unless_told}
use Rattle.protocol_model.specs.Round as round
use Rattle.protocol_model.specs.Round.{Round, Mark, begin, greatest, asked, granted, owes, opens, answer, down, is_out, is_empty}
use Rattle.protocol_model.specs.Turn.{Turn, Send}

-- all of these nodes are of the others
abbrev pub AreOf : Nodes → Nodes → Type 0
AreOf world s = (c : ℕ) → s c ≡ true → world c ≡ true

-- What node t relies on of a letter of node a: who is admitted is of the world, a welcome is one to t, and who has left
-- is another node than t
abbrev pub IsFit : ℕ → Nodes → ℕ → AnyLetter → Type 0
IsFit a world t (AnyLetter.Admit j settled) = world j ≡ true
IsFit a world t (AnyLetter.Welcome members pairs told fate) =
    AreOf world members × AreOf world told × (members t ≡ true) × (told t ≡ false) × (is_rising pairs ≡ true)
IsFit a world t AnyLetter.Down = (t == a) ≡ false
IsFit a world t _ = Unit {0}

-- the letter goes to one of these nodes, which may rely on it
abbrev pub IsSent : ℕ → Nodes → Send → Type 0
IsSent a world s = (world s.to ≡ true) × IsFit a world s.to s.letter

abbrev pub GoTo : ℕ → Nodes → List Send → Type 0
GoTo a world ss = All (IsSent a world) ss

-- the other node of the operation, if it has one, is of the world
abbrev pub IsOpOf : Nodes → AnyOp → Type 0
IsOpOf world (AnyOp.Join k m) = world m ≡ true
IsOpOf world (AnyOp.Admission j ps) = world j ≡ true
IsOpOf world _ = Unit {0}

abbrev pub AreOpsOf : Nodes → List AnyOp → Type 0
AreOpsOf world [] = Unit {0}
AreOpsOf world (op ∷ ops) = IsOpOf world op × AreOpsOf world ops

-- whom the current operation knows of and asks is of the world
abbrev pub IsCurrentOf : Nodes → Current → Type 0
IsCurrentOf world (Current.Asking op r) = IsOpOf world op × AreOf world (asked r)
IsCurrentOf world (Current.Waiting op) = IsOpOf world op
IsCurrentOf world (Current.Writing op s awaited reply) = AreOf world s
IsCurrentOf world _ = Unit {0}

-- who is asked by a lock call, or owes it something, is of the world
abbrev pub IsPhaseOf : Nodes → LockPhase → Type 0
IsPhaseOf world (LockPhase.Asking r) = AreOf world (asked r)
IsPhaseOf world LockPhase.Waiting = Unit {0}
IsPhaseOf world (LockPhase.Deleting owing) = AreOf world owing

abbrev pub IsCallOf : Nodes → LockCall → Type 0
IsCallOf world c = IsPhaseOf world c.phase

-- whom node a knows of and sends to is of the world, and its names rise
pub record Knows (n a : ℕ) (world : Nodes) (known : Replica) (ops : List AnyOp) (cur : Current) (locks : List LockCall)
    (ss : List Send) : Type 0 where
  pub members : AreOf world known.members
  pub told : AreOf world known.told
  pub rising : is_rising known.table ≡ true
  pub boss : world (greatest n known.members) ≡ true
  pub queue : AreOpsOf world ops
  pub current : IsCurrentOf world cur
  pub calls : All (IsCallOf world) locks
  pub sends : GoTo a world ss

-- the same of a turn
abbrev pub IsWithin : ℕ → ℕ → Nodes → Turn → Type 0
IsWithin n a world u =
    Knows n a world u.node.replica u.node.queue u.node.current u.node.calls u.sends

pub ops-push : (world : Nodes) (ops : List AnyOp) (op : AnyOp) → AreOpsOf world ops → IsOpOf world op
    → AreOpsOf world (ops ++ op ∷ [])
ops-push world [] op all one = (one, tt)
ops-push world (o ∷ ops) op all one = (all.0, ops-push world ops op all.1 one)

-- of two tests the first
pub first : (b d : Bool) → (b && d) ≡ true → b ≡ true
first true d e = refl
first false d e = e

-- one node more
pub and_one_of : (world s : Nodes) (d : ℕ) → AreOf world s → world d ≡ true → AreOf world (with_node d s)
and_one_of world s d of one x = go (x == d) refl
  where
    go : (b : Bool) → (x == d) ≡ b → (if b then true else s x) ≡ true → world x ≡ true
    go true same e = ap world (eqb-true x d same) ∙ one
    go false other e = of x e

-- one node less
pub one_less_of : (world s : Nodes) (d : ℕ) → AreOf world s → AreOf world (without_node d s)
one_less_of world s d of x = go (x == d)
  where
    go : (b : Bool) → (if b then false else s x) ≡ true → world x ≡ true
    go true e = cc
    go false e = of x e

-- the greatest of a set is of the set
pub greatest-within : (n : ℕ) (s : Nodes) (a : ℕ) → a < n → s a ≡ true → s (greatest n s) ≡ true
greatest-within zero s a l e = absurd (omega arith)
greatest-within (suc n) s a l e = go (s n) refl (λ less. greatest-within n s a less e)
  where
    never : a ≡ n → s n ≡ false → ⊥
    never same here = cc (e, here, ap s same)

    go : (b : Bool) → s n ≡ b → (a < n → s (greatest n s) ≡ true) → s (if b then n else greatest n s) ≡ true
    go true here below = here
    go false here below = elim (cases_lt a n) [
      | inl less ↦ below less
      | inr more ↦ absurd (never (omega arith) here)
    ]

-- so it is of a set with a node
pub greatest-of : (n : ℕ) (s : Nodes) → is_empty n s ≡ false → s (greatest n s) ≡ true
greatest-of zero s e = cc
greatest-of (suc n) s e = go (s n) refl e (greatest-of n s)
  where
    go : (b : Bool) → s n ≡ b → (not b && is_empty n s) ≡ false → (is_empty n s ≡ false → s (greatest n s) ≡ true)
        → s (if b then n else greatest n s) ≡ true
    go true here f below = here
    go false here f below = below f

-- the nodes of a set are of it
nodes-within : (n : ℕ) (s : Nodes) → All (λ c. s c ≡ true) (nodes_of n s)
nodes-within zero s = All-nil (λ c. s c ≡ true)
nodes-within (suc n) s = go (s n) refl (nodes-within n s)
  where
    go : (b : Bool) → s n ≡ b → All (λ c. s c ≡ true) (nodes_of n s)
        → All (λ c. s c ≡ true) (nodes_of n s ++ (if b then n ∷ [] else []))
    go true here below = All-push (λ c. s c ≡ true) (nodes_of n s) n below here
    go false here below = All-append (λ c. s c ≡ true) (nodes_of n s) [] below (All-nil (λ c. s c ≡ true))

-- the boss of a new round and the rest are of its set
pub begun_of : (n : ℕ) (s : Nodes) (c : ℕ) → asked (begin n s) c ≡ true → s c ≡ true
begun_of n s c e = go (s c) (c == greatest n s) e
  where
    go : (b d : Bool) → not (is_out (if b then (if d then round.Owes else round.Later) else round.Out)) ≡ true → b
        ≡ true
    go true d f = refl
    go false d f = f

-- who has granted was asked
pub granted_of : (r : Round) (c : ℕ) → granted r c ≡ true → asked r c ≡ true
granted_of r c e = go (r.mark c) e
  where
    go : (m : Mark) → round.is_granted m ≡ true → not (is_out m) ≡ true
    go round.Granted f = refl
    go _ f = cc

-- an answer that is owed asks nobody new
pub answered_of : (r : Round) (c : ℕ) (g : Bool) → owes r c ≡ true → (x : ℕ)
    → asked (answer c g r) x ≡ true → asked r x ≡ true
answered_of r c g owed x = go (opens c g r) (owes r c)
  where
    was_asked : (m : Mark) → round.is_owes m ≡ true → not (is_out m) ≡ true
    was_asked round.Owes f = refl
    was_asked _ f = cc

    here : (x == c) ≡ true → asked r x ≡ true
    here e = ap (asked r) (eqb-true x c e) ∙ was_asked (r.mark c) owed

    too : (m : Mark) → not (is_out (round.asked_too m)) ≡ true → not (is_out m) ≡ true
    too round.Out f = f
    too _ f = refl

    at_place : (b : Bool) (m k : Mark) → (x == c) ≡ b → (not (is_out k) ≡ true → asked r x ≡ true)
        → not (is_out (if b then m else k)) ≡ true → asked r x ≡ true
    at_place true m k e more f = here e
    at_place false m k e more f = more f

    go : (b d : Bool)
        → asked (if b then round.marked c round.Granted (record r { mark = λ y. round.asked_too (r.mark y) })
        else (if d then round.marked c (if g then round.Granted else round.Refused) r else r)) x ≡ true
        → asked r x ≡ true
    go true d f = at_place (x == c) round.Granted (round.asked_too (r.mark x)) refl (too (r.mark x)) f
    go false true f = at_place (x == c) (if g then round.Granted else round.Refused) (r.mark x) refl (λ k. k) f
    go false false f = f

-- whom a round asks isn't changed by who goes down
pub down_of : (r : Round) (d x : ℕ) → asked (down d r) x ≡ true → asked r x ≡ true
down_of r d x e = go (x == d) refl e
  where
    too : (m : Mark) → not (is_out (round.mark_down m)) ≡ true → not (is_out m) ≡ true
    too round.Out f = f
    too _ f = refl

    go : (b : Bool) → (x == d) ≡ b → not (is_out (if b then round.mark_down (r.mark d) else r.mark x)) ≡ true
        → asked r x ≡ true
    go true same f = ap (asked r) (eqb-true x d same) ∙ too (r.mark d) f
    go false other f = f

module _ {n a : ℕ} {world : Nodes} {known : Replica} {ops : List AnyOp} {cur : Current} {locks : List LockCall}
    {ss : List Send} (W : Knows n a world known ops cur locks ss) where
  -- the registrar is at this
  pub works : (c : Current) → IsCurrentOf world c → Knows n a world known ops c locks ss
  works c of = record {
    members = W.members;
    told = W.told;
    rising = W.rising;
    boss = W.boss;
    queue = W.queue;
    current = of;
    calls = W.calls;
    sends = W.sends;
  }

  -- these wait
  pub queues : (more : List AnyOp) → AreOpsOf world more → Knows n a world known more cur locks ss
  queues more of = record {
    members = W.members;
    told = W.told;
    rising = W.rising;
    boss = W.boss;
    queue = of;
    current = W.current;
    calls = W.calls;
    sends = W.sends;
  }

  -- these lock calls are unanswered
  pub keeps : (cs : List LockCall) → All (IsCallOf world) cs → Knows n a world known ops cur cs ss
  keeps cs of = record {
    members = W.members;
    told = W.told;
    rising = W.rising;
    boss = W.boss;
    queue = W.queue;
    current = W.current;
    calls = of;
    sends = W.sends;
  }

  -- the replica is this
  pub shows : (more : Replica) → AreOf world more.members → AreOf world more.told → is_rising more.table ≡ true
      → world (greatest n more.members) ≡ true → Knows n a world more ops cur locks ss
  shows more members told rising boss = record {
    members = members;
    told = told;
    rising = rising;
    boss = boss;
    queue = W.queue;
    current = W.current;
    calls = W.calls;
    sends = W.sends;
  }

  -- a change is written
  pub writes_one : (c : AnyChange) → Knows n a world (wrote c known) ops cur locks ss
  writes_one c = shows (wrote c known) W.members W.told
      (is_rising-changed (unless_told known.told c) known.table W.rising) W.boss

  -- these letters are sent
  pub posts : (more : List Send) → GoTo a world more → Knows n a world known ops cur locks (ss ++ more)
  posts more go = record {
    members = W.members;
    told = W.told;
    rising = W.rising;
    boss = W.boss;
    queue = W.queue;
    current = W.current;
    calls = W.calls;
    sends = All-append (IsSent a world) ss more W.sends go;
  }

  -- one to a node
  pub sends : (c : ℕ) (l : AnyLetter) → world c ≡ true → IsFit a world c l
      → Knows n a world known ops cur locks (ss ++ record { to = c; letter = l } ∷ [])
  sends c l e fit = posts (record { to = c; letter = l } ∷ [])
      (All-push (IsSent a world) [] (record { to = c; letter = l }) (All-nil (IsSent a world)) (e, fit))

  -- one to each node of a set
  pub sends_all : (s : Nodes) (l : AnyLetter) → ((c : ℕ) → s c ≡ true → IsSent a world (record { to = c; letter = l }))
      → Knows n a world known ops cur locks (ss ++ map (λ c. record { to = c; letter = l }) (nodes_of n s))
  sends_all s l of = posts (map (λ c. record { to = c; letter = l }) (nodes_of n s))
      (All-map (IsSent a world) (λ c. record { to = c; letter = l }) (nodes_of n s)
      (λ k d m. of (get_or (nodes_of n s) k d) (nodes-within n s k d m)))
