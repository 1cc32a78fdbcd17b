-- One lock call alone in a quiet world: what is known of each world behind it, as long as letters alone are delivered.
use Rattle.std.proofs.Common.{ℕ, Bool, true, false, ◌≡◌, ◌+◌, ◌-◌, Option, Some, None, List, [], ◌∷◌, refl, sym, ap, ◌∙◌, subst}
use Rattle.std.specs.Prelude.{not, ◌&&◌, nat_lt, is_none, find, if◌then◌else◌}
use Rattle.registry_model.specs.Process.{Process, is_process, Nodes}
use Rattle.registry_model.specs.Registry.{Replica}
use Rattle.registry_model.specs.Call.{True, False}
use Rattle.registry_model.proofs.Updates.{by_test}
use Rattle.protocol_model.specs.Letter.{Id, is_id, is_resource, Letter}
use Rattle.protocol_model.specs.LockTable.{Grant, Locks, is_grant_of, count, last_count, is_in_the_way, refused_by, is_free_for, grant, give_back}
use Rattle.protocol_model.specs.Round.{Mark, Out, Later, Owes, Granted, Refused, Lost, Gone, Round, is_empty}
use Rattle.protocol_model.specs.Watch.{Watch, owed}
use Rattle.protocol_model.specs.Node.{Op, Current, Node, LockPhase, LockCall, Times, call_of}
use Rattle.protocol_model.specs.Turn.{Turn, with_queue, sent_to}
use Rattle.protocol_model.specs.Registrar.{start_queue, start_next, start_free, start}
use Rattle.protocol_model.specs.Event.{Answer}
use Rattle.protocol_model.specs.Answers.{answer_to}
use Rattle.protocol_model.specs.World.{Opening, in_world, World, left}
use Rattle.protocol_model.proofs.Ids.{is_id_self, is_id_same}
use Rattle.moves.proofs.Invariants.{Each, IsUp}
use Rattle.moves.proofs.Indices.{both}
use Rattle.moves.proofs.Rules.{Taken}
use Rattle.leftovers.proofs.Base.{popped, after_turn, each-popped, each-posted}
use Rattle.leftovers.proofs.Started.{IsStarted}
use Rattle.leftovers.proofs.Ids.{is_process_self}

-- the same of a node, but for its locks and its calls
pub record Same (v u : Node) : Type 0 where
  pub replica : v.replica ≡ u.replica
  pub watch : v.watch ≡ u.watch
  pub queue : v.queue ≡ u.queue
  pub current : v.current ≡ u.current

pub same_self : (v : Node) → Same v v
same_self v = record { replica = refl; watch = refl; queue = refl; current = refl }

-- where the registrar was at rest, nothing starts
pub starts_nothing : (n a : ℕ) (u : Turn) (v : Node) → Same u.node v → IsStarted a v → start n a u ≡ u
starts_nothing n a u v S started = go u.node.current refl
  where
    none : u.node.current ≡ Current.Free → owed a u.node.replica.table u.node.watch ≡ None
    none e = ap (λ (r : Replica). owed a r.table u.node.watch) S.replica ∙ ap (λ (x : Watch). owed a v.replica.table x) S.watch
        ∙ (started (sym S.current ∙ e)).strikes

    empty : u.node.current ≡ Current.Free → u.node.queue ≡ []
    empty e = S.queue ∙ (started (sym S.current ∙ e)).queue

    queue : (ops : List Op) → u.node.queue ≡ ops → ops ≡ [] → start_queue n a ops u ≡ u
    queue [] e h = ap (λ (ops : List Op). with_queue ops u) (sym e)
    queue (op ∷ ops) e h = cc h

    next : (s : Option ℕ) → s ≡ None → u.node.queue ≡ [] → start_next n a s u ≡ u
    next None h e = queue u.node.queue refl e
    next (Some s) h e = cc h

    go : (c : Current) → u.node.current ≡ c → start_free n a c u ≡ u
    go Current.Free e = next (owed a u.node.replica.table u.node.watch) (none e) (empty e)
    go (Current.Asking op r) e = refl
    go (Current.Waiting op) e = refl
    go (Current.Writing op s awaited reply) e = refl
    go (Current.Joining k m) e = refl

-- a grant of the id is in nobody's way who asks for it
own_way : (id : Id) (p : Process) (g : Grant) → is_grant_of id p g ≡ true → is_in_the_way id g ≡ false
own_way id p g h =
    let same : g.id ≡ id = is_id_same g.id id (both (is_id g.id id) (is_process g.holder p) h).0 in
    ap (λ (i : Id). is_resource i id && not (is_id i id)) same ∙ ap (λ (b : Bool). is_resource id id && not b) (is_id_self id)
    ∙ none (is_resource id id)
  where
    none : (b : Bool) → (b && false) ≡ false
    none true = refl
    none false = refl

-- what stands in the way stays where a grant of the id comes
pub way_granted : (id : Id) (p : Process) (t : Locks) → find (is_in_the_way id) (grant id p t) ≡ find (is_in_the_way id) t
way_granted id p [] = rw (own_way id p (record { id = id; holder = p; count = 1 }) self) refl
  where
    self : (is_id id id && is_process p p) ≡ true
    self = rw (is_id_self id) (is_process_self p)
way_granted id p (g ∷ t) = go (is_grant_of id p g) refl (way_granted id p t)
  where
    go : (b : Bool) → is_grant_of id p g ≡ b → find (is_in_the_way id) (grant id p t) ≡ find (is_in_the_way id) t
        → find (is_in_the_way id) (if b then record g { count = g.count + 1 } ∷ t else g ∷ grant id p t)
        ≡ find (is_in_the_way id) (g ∷ t)
    go true e more =
        ap (λ (b : Bool). if b then Some (record g { count = g.count + 1 }) else find (is_in_the_way id) t) (own_way id p g e)
        ∙ ap (λ (b : Bool). if b then Some g else find (is_in_the_way id) t) (sym (own_way id p g e))
    go false e more = ap (λ (x : Option Grant). if is_in_the_way id g then Some g else x) more

-- or goes
pub way_back : (id : Id) (p : Process) (t : Locks)
    → find (is_in_the_way id) (give_back id p t) ≡ find (is_in_the_way id) t
way_back id p [] = refl
way_back id p (g ∷ t) = go (is_grant_of id p g) refl (nat_lt 1 g.count) (way_back id p t)
  where
    rest : Option Grant
    rest = find (is_in_the_way id) t

    go : (b : Bool) → is_grant_of id p g ≡ b → (c : Bool)
        → find (is_in_the_way id) (give_back id p t) ≡ find (is_in_the_way id) t
        → find (is_in_the_way id)
        (if b then (if c then record g { count = g.count - 1 } ∷ t else t) else g ∷ give_back id p t)
        ≡ find (is_in_the_way id) (g ∷ t)
    go true e true more =
        ap (λ (b : Bool). if b then Some (record g { count = g.count - 1 }) else rest) (own_way id p g e)
        ∙ ap (λ (b : Bool). if b then Some g else rest) (sym (own_way id p g e))
    go true e false more = ap (λ (b : Bool). if b then Some g else rest) (sym (own_way id p g e))
    go false e c more = ap (λ (x : Option Grant). if is_in_the_way id g then Some g else x) more

-- tables with the same in the way and the same count grant alike
pub same_free : (id : Id) (p : Process) (s t : Locks) → find (is_in_the_way id) s ≡ find (is_in_the_way id) t
    → count id p s ≡ count id p t → is_free_for id p s ≡ is_free_for id p t
same_free id p s t ways counts =
    ap (λ (x : Option Grant). is_none (refused_by id p s x)) ways ∙ go (find (is_in_the_way id) t)
  where
    go : (x : Option Grant) → is_none (refused_by id p s x) ≡ is_none (refused_by id p t x)
    go (Some g) = refl
    go None = ap (λ (n : ℕ). is_none (if nat_lt n last_count then None else Some id)) counts

-- w: the quiet world; p calls for the lock id at these nodes, by its call k
module _ (o : Opening) (w : World) (p : Process) (id : Id) (k : ℕ) (asks : Nodes) where
  -- x would grant the lock in the quiet world
  abbrev pub grants : Nodes
  grants x = is_free_for id p (w.node x).locks

  -- somebody is asked, and all would grant it
  abbrev pub verdict : Bool
  verdict = not (is_empty o.bound asks) && is_empty o.bound (λ c. asks c && not (grants c))

  -- the answer that the call gets
  abbrev pub due_answer : List Answer
  due_answer = answer_to p.node k (if verdict then True else False) ∷ []

  -- the mark of x tells what x would do
  abbrev pub IsMark : ℕ → Mark → Type 0
  IsMark x Out = asks x ≡ false
  IsMark x Later = asks x ≡ true
  IsMark x Owes = asks x ≡ true
  IsMark x Granted = (asks x ≡ true) × (grants x ≡ true)
  IsMark x Refused = (asks x ≡ true) × (grants x ≡ false)
  IsMark x Lost = ⊥
  IsMark x Gone = ⊥

  -- the letter is one of the call
  abbrev pub Ours : ℕ → ℕ → Letter → Type 0
  Ours f t (Letter.SetLock i q) = (f ≡ p.node) × (i ≡ id) × (q ≡ p)
  Ours f t (Letter.LockAnswer i q g) = (t ≡ p.node) × (i ≡ id) × (q ≡ p) × (grants f ≡ g)
  Ours f t (Letter.GiveBack i q ack) = (i ≡ id) × (q ≡ p) × (ack ≡ false)
  Ours f t _ = ⊥

  -- all but the call stands as in the quiet world
  pub record Near (v : World) : Type 0 where
    pub same : (c : ℕ) → Same (v.node c) (w.node c)
    pub stay : (c : ℕ) → left v c ≡ left w c
    pub ours : (f c : ℕ) → in_world o f ≡ true → IsUp o v c → Each (Ours f c) (v.links.queue f c)
    pub ways : (c : ℕ) → find (is_in_the_way id) (v.node c).locks ≡ find (is_in_the_way id) (w.node c).locks

  -- the call asks by this round
  pub record Asking (c : LockCall) (r : Round) : Type 0 where
    pub phase : c.phase ≡ LockPhase.Asking r
    pub holder : c.holder ≡ p
    pub its_id : c.id ≡ id
    pub number : c.number ≡ k
    pub retries : c.retries ≡ Times 0
    pub marks : (x : ℕ) → IsMark x (r.mark x)

  -- what a turn of node t makes of the call, which goes on only where it is ready to
  pub data Says (Ready : Type 0) (before : List LockCall) (t : ℕ) (u : Turn) : Type 0 where
    Nothing : u.node.calls ≡ before → u.answers ≡ [] → Says Ready before t u
    GoesOn : Ready → (c : LockCall) (r : Round) → t ≡ p.node → call_of p u.node.calls ≡ Some c → Asking c r
        → u.answers ≡ [] → Says Ready before t u
    Ends : t ≡ p.node → call_of p u.node.calls ≡ None → u.answers ≡ due_answer → Says Ready before t u

  -- a turn of node t that is of the call
  pub record Step (Ready : Type 0) (v : World) (t : ℕ) (u : Turn) : Type 0 where
    pub same : Same u.node (w.node t)
    pub ways : find (is_in_the_way id) u.node.locks ≡ find (is_in_the_way id) (w.node t).locks
    pub sends : (y : ℕ) → Each (Ours t y) (sent_to y u.sends)
    pub says : Says Ready (v.node t).calls t u

  -- behind it all else stands as before
  pub near_after : (Ready : Type 0) (v : World) (t : ℕ) (u : Turn) (l : Option Taken) → Near v
      → Step Ready v t u → Near (after_turn t v u l)
  near_after Ready v t u l N S = record {
    same = λ c. by_test t (λ x b. Same (if b then u.node else v.node x) (w.node x)) S.same (λ x ne. N.same x) c;
    stay = N.stay;
    ours = λ f c inside up. each-posted (Ours f c) t (λ y. sent_to y u.sends) (popped t l v.links) f c
        (each-popped (Ours f c) t l v.links.queue f c (N.ours f c inside up))
        (λ e. subst (λ (x : ℕ). Each (Ours x c) (sent_to c u.sends)) (sym e) (S.sends c));
    ways = λ c. by_test t (λ x b. find (is_in_the_way id) (if b then u.node else v.node x).locks
        ≡ find (is_in_the_way id) (w.node x).locks) S.ways (λ x ne. N.ways x) c;
  }
