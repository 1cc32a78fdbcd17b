-- Registrars that were refused ask again: what is known of each world behind the quiet one, as long as none of their
-- operations is decided.
-- ops: what a node may ask for; c, d and t are nodes, b the boss of a group.
use mathlib.Core.Logic.{◌⊎◌}
use Rattle.std.proofs.Common.{ℕ, Bool, true, false, ◌==◌, ◌≡◌, Option, Some, None, List, [], ◌∷◌, ◌++◌, drop, refl, sym, ap, subst, ◌∙◌, inl, inr}
use Rattle.std.specs.Prelude.{not, ◌&&◌, ◌||◌, Contains, if◌then◌else◌}
use Rattle.std.specs.List.{list_all}
use Rattle.std.proofs.lemmas.Bool.{eqb-true}
use Rattle.std.proofs.lemmas.List.{append-nil, append_assoc}
use Rattle.std.proofs.lemmas.List.Elements.{Contains-append_left}
use Rattle.registry_model.specs.Process.{Nodes}
use Rattle.registry_model.specs.Call.{Joined}
use Rattle.registry_model.specs.History.{Entry}
use Rattle.registry_model.proofs.Updates.{by_test}
use Rattle.protocol_model.specs.Round.{Mark, Out, Later, Owes, Granted, Refused, Lost, Gone, Round, greatest}
use Rattle.protocol_model.specs.Letter.{Global, Letter}
use Rattle.protocol_model.specs.Node.{Node, Op, Current}
use Rattle.protocol_model.specs.Turn.{Turn, sent_to}
use Rattle.protocol_model.specs.World.{Opening, in_world, World, left}
use Rattle.no_dead_end.proofs.Indices.{both}
use Rattle.no_dead_end.proofs.Invariants.{Each, IsUp}
use Rattle.no_dead_end.proofs.Rules
use Rattle.no_dead_end.proofs.Rules.{Rule, Taken, FrontTaken, awaits}
use Rattle.no_dead_end.proofs.SendTests.{all_pass, pass_sent}
use Rattle.no_dead_end.proofs.Base.{popped_queue, popped, after_turn, each-popped, each-posted}
use Rattle.no_dead_end.proofs.LockTables.{is_global, globals, share}
use Rattle.no_dead_end.proofs.Sessions.{Request, Returns, found, found-append, request_in}
use Rattle.no_dead_end.proofs.Still.{effect-history}
use Rattle.getting_through.specs.GettingThrough.{reply_now}

-- a letter of a lock call, or of a round for the global lock, that refuses nothing and gives nothing back
abbrev pub is_simple : Letter → Bool
is_simple (Letter.SetLock id p) = true
is_simple (Letter.LockAnswer id p granted) = not (is_global id) || granted
is_simple (Letter.GiveBack id p ack) = not (is_global id)
is_simple (Letter.GivenBack p) = true
is_simple _ = false

-- a refusal of the global lock
abbrev pub is_refusal : Letter → Bool
is_refusal (Letter.LockAnswer (Global b) p granted) = not granted
is_refusal _ = false

-- rules that no call, exit or leave begins with; a node that may be retried
abbrev pub is_mild : Bool → Rule → Bool
is_mild may (Rules.CallsName call) = false
is_mild may (Rules.CallsJoin m) = false
is_mild may Rules.CallsLock = false
is_mild may Rules.Spawns = false
is_mild may (Rules.LooksUp look) = false
is_mild may (Rules.Exits p) = false
is_mild may (Rules.Retries op) = may
is_mild may Rules.Leaves = false
is_mild may r = true

-- rules by which an operation is decided, or passed over
abbrev pub is_decision : Rule → Bool
is_decision (Rules.Grants k call r) = true
is_decision (Rules.Denies k call r) = true
is_decision (Rules.Strikes p r) = true
is_decision (Rules.Admits j pairs r) = true
is_decision (Rules.Passes j pairs r) = true
is_decision r = false

-- what a letter makes of a node besides its locks, its calls and what its registrar is at
pub record Parts (v u : Node) : Type 0 where
  pub replica : v.replica ≡ u.replica
  pub watch : v.watch ≡ u.watch
  pub queue : v.queue ≡ u.queue

pub parts_self : (v : Node) → Parts v v
parts_self v = record { replica = refl; watch = refl; queue = refl }

parts_then : (x y z : Node) → Parts x y → Parts y z → Parts x z
parts_then x y z S T = record {
  replica = S.replica ∙ T.replica;
  watch = S.watch ∙ T.watch;
  queue = S.queue ∙ T.queue;
}

-- whoever sends the letter that is taken, it is no request for the global lock, nor gives it back
abbrev pub NoRequest : Opening → World → Option Taken → Type 0
NoRequest o w None = Unit {0}
NoRequest o w (Some k) = IsUp o w k.sender → request_in k.letter ≡ []

module _ (o : Opening) (w : World) (ops : ℕ → Option Op) where
  abbrev pub members : ℕ → Nodes
  members c = (w.node c).replica.members

  abbrev pub boss : ℕ → ℕ
  boss c = greatest o.bound (members c)

  -- on the link from f to t none but t's boss refuses
  abbrev pub Plain : ℕ → ℕ → Letter → Type 0
  Plain f t l = (is_simple l || is_refusal l && (f == boss t)) ≡ true

  -- a mark of c's round
  abbrev pub IsMark : ℕ → ℕ → Mark → Type 0
  IsMark c x Out = members c x ≡ false
  IsMark c x Later = members c x ≡ true
  IsMark c x Owes = members c x ≡ true
  IsMark c x Granted = members c x ≡ true
  IsMark c x Refused = x ≡ boss c
  IsMark c x Lost = ⊥
  IsMark c x Gone = ⊥

  -- at b somebody has the global lock, or asks for it
  pub data Active (b : ℕ) (v : World) : Type 0 where
    Held : (x k : ℕ) → share x (globals (v.node b).locks) ≡ Some k → Active b v
    Asked : (r : ℕ) → IsUp o w r → (found request_in (v.links.queue r b) ≡ [] → ⊥) → Active b v

  -- all but locks, calls and rounds stands as in the quiet world
  pub record Still (v : World) : Type 0 where
    pub stay : left v ≡ left w
    pub parts : (c : ℕ) → Parts (v.node c) (w.node c)
    pub letters : (f c : ℕ) → in_world o f ≡ true → IsUp o v c → Each (Plain f c) (v.links.queue f c)
    pub locks : (c : ℕ) → IsUp o v c → (d : ℕ) → (IsUp o w d → ⊥) → share d (globals (v.node c).locks) ≡ None
    pub history : v.history ≡ w.history

  -- c's round stands so
  pub record Round_at (c : ℕ) (x : Op) (r : Round) : Type 0 where
    pub up : IsUp o w c
    pub op : ops c ≡ Some x
    pub its_boss : r.boss ≡ boss c
    pub marks : (y : ℕ) → IsMark c y (r.mark y)

  -- what c's registrar is at: what it was at; or it asks; or was refused again
  pub data IsAt (c : ℕ) (v : World) : Type 0 where
    Before : (v.node c).current ≡ (w.node c).current → IsAt c v
    Asking : (x : Op) (r : Round) → (v.node c).current ≡ Current.Asking x r → Round_at c x r → Active (boss c) v → IsAt c v
    Again : (x : Op) → ops c ≡ Some x → (v.node c).current ≡ Current.Waiting x → IsAt c v

  -- these entries decide operation x of c
  abbrev pub DecidedIn : ℕ → Op → List Entry → Type 0
  DecidedIn c (Op.Name k call) es = Contains es (Entry.Name c k call (reply_now w c call))
  DecidedIn c (Op.Strike p) es = Contains es (Entry.Strike p)
  DecidedIn c (Op.Admission j pairs) es = ((w.node c).replica.told j ≡ true) ⊎ ((k : ℕ) × Contains es (Entry.Join j k c Joined))
  DecidedIn c (Op.Join k m) es = ⊥

  -- somebody's operation is decided behind the quiet world
  pub record Decided (v : World) : Type 0 where
    pub node : ℕ
    pub op : Op
    pub runs : IsUp o w node
    pub may : ops node ≡ Some op
    pub more : List Entry
    pub history : v.history ≡ w.history ++ more
    pub decided : DecidedIn node op more

  decided_more : (c : ℕ) (x : Op) (es fs : List Entry) → DecidedIn c x es → DecidedIn c x (es ++ fs)
  decided_more c (Op.Name k call) es fs h = Contains-append_left es fs _ h
  decided_more c (Op.Strike p) es fs h = Contains-append_left es fs _ h
  decided_more c (Op.Admission j pairs) es fs (inl t) = inl t
  decided_more c (Op.Admission j pairs) es fs (inr h) = inr (h.0, Contains-append_left es fs _ h.1)
  decided_more c (Op.Join k m) es fs h = h

  -- and stays so
  pub decided_on : (t : ℕ) (v : World) (r : Rule) → Decided v → Decided (Rules.effect o t r v)
  decided_on t v r D = record {
    node = D.node;
    op = D.op;
    runs = D.runs;
    may = D.may;
    more = D.more ++ (Rules.turn_by o t v r).entries;
    history = effect-history o t v r ∙ ap (λ (es : List Entry). es ++ (Rules.turn_by o t v r).entries) D.history
        ∙ append_assoc w.history D.more (Rules.turn_by o t v r).entries;
    decided = decided_more D.node D.op D.more (Rules.turn_by o t v r).entries D.decided;
  }

  -- from v to u nothing was decided, and who asked somewhere is there still; or something was, by rule r
  abbrev pub Calm : World → World → Type 0
  Calm v u = Still u × ((c : ℕ) → IsAt c u) × ((b : ℕ) → IsUp o w b → Active b v → Active b u)

  abbrev pub Goes : World → Rule → World → Type 0
  Goes v r u = Calm v u ⊎ (Decided u × (is_decision r ≡ true))

  simple_each : (f c : ℕ) (ls : List Letter) → list_all is_simple ls ≡ true → Each (Plain f c) ls
  simple_each f c [] h = tt
  simple_each f c (l ∷ ls) h = let p : (is_simple l ≡ true) × (list_all is_simple ls ≡ true) =
      both (is_simple l) (list_all is_simple ls) h in
      (ap (λ (t : Bool). t || is_refusal l && (f == boss c)) p.0, simple_each f c ls p.1)

  -- a turn of node t, which takes this letter
  pub record Turned (v : World) (t : ℕ) (u : Turn) (l : Option Taken) : Type 0 where
    pub parts : Parts u.node (v.node t)
    pub sends : (y : ℕ) → Each (Plain t y) (sent_to y u.sends)
    pub locks : (d : ℕ) → share d (globals (v.node t).locks) ≡ None → (IsUp o w d → ⊥) → share d (globals u.node.locks) ≡ None
    pub entries : u.entries ≡ []

  -- letters that all are simple
  pub simple_sends : (t : ℕ) (u : Turn) → all_pass is_simple u.sends ≡ true → (y : ℕ) → Each (Plain t y) (sent_to y u.sends)
  simple_sends t u h y = simple_each t y (sent_to y u.sends) (pass_sent is_simple y u.sends h)

  pub still_after : (v : World) (t : ℕ) (u : Turn) (l : Option Taken) → Still v → Turned v t u l → Still (after_turn t v u l)
  still_after v t u l C S = record {
    stay = C.stay;
    parts = λ c. by_test t (λ x b. Parts (if b then u.node else v.node x) (w.node x))
        (parts_then u.node (v.node t) (w.node t) S.parts (C.parts t)) (λ x nx. C.parts x) c;
    letters = λ f c inside up. each-posted (Plain f c) t (λ y. sent_to y u.sends) (popped t l v.links) f c
        (each-popped (Plain f c) t l v.links.queue f c (C.letters f c inside up))
        (λ e. subst (λ (x : ℕ). Each (Plain x c) (sent_to c u.sends)) (sym e) (S.sends c));
    locks = λ c up d out. by_test t (λ x z. IsUp o v x → share d (globals (if z then u.node else v.node x).locks) ≡ None)
        (λ k. S.locks d (C.locks t k d out) out) (λ x nx k. C.locks x k d out) c up;
    history = ap (λ (es : List Entry). v.history ++ es) S.entries ∙ append-nil v.history ∙ C.history;
  }

  -- Who asks or has the lock
  module _ (v : World) (t : ℕ) (u : Turn) (l : Option Taken) (b : ℕ) (open_link : left v b ≡ false) where
    -- a letter that is no request leaves the requests on its link
    popped_found : FrontTaken o t v l → NoRequest o w l → (r : ℕ) → IsUp o w r
        → found request_in (popped_queue t l v.links.queue r b) ≡ []
        → found request_in (v.links.queue r b) ≡ []
    popped_found = go l
      where
        go : (k : Option Taken) → FrontTaken o t v k → NoRequest o w k → (r : ℕ) → IsUp o w r
            → found request_in (popped_queue t k v.links.queue r b) ≡ [] → found request_in (v.links.queue r b) ≡ []
        go None front none r up e = e
        go (Some k) front none r up e = by (r == k.sender) (b == t) refl refl e
          where
            by : (x y : Bool) → (r == k.sender) ≡ x → (b == t) ≡ y
                → found request_in (if x && y then drop 1 (v.links.queue r b) else v.links.queue r b) ≡ []
                → found request_in (v.links.queue r b) ≡ []
            by true true i j e =
                let here : v.links.queue r b ≡ k.letter ∷ front.1.0 =
                ap (λ (z : ℕ). v.links.queue z b) (eqb-true r k.sender i) ∙ ap (v.links.queue k.sender) (eqb-true b t j)
                ∙ front.1.1 in
                ap (found request_in) here ∙ ap (λ (zs : _). zs ++ found request_in front.1.0)
                (none (subst (IsUp o w) (eqb-true r k.sender i) up))
                ∙ sym (ap (λ (ls : List Letter). found request_in (drop 1 ls)) here) ∙ e
            by true false i j e = e
            by false y i j e = e

    -- a letter more hides none
    posted_found : (r : ℕ) → found request_in ((after_turn t v u l).links.queue r b) ≡ []
        → found request_in (popped_queue t l v.links.queue r b) ≡ []
    posted_found r = by (r == t) (left v b) open_link
      where
        first_nil : {A : Type 0} (xs ys : List A) → xs ++ ys ≡ [] → xs ≡ []
        first_nil [] ys e = refl
        first_nil (x ∷ xs) ys e = cc e

        by : (x y : Bool) → y ≡ false
            → found request_in (if x && not y then popped_queue t l v.links.queue r b ++ sent_to b u.sends
            else popped_queue t l v.links.queue r b) ≡ []
            → found request_in (popped_queue t l v.links.queue r b) ≡ []
        by true false k e = first_nil (found request_in (popped_queue t l v.links.queue r b)) (found request_in (sent_to b u.sends))
            (sym (found-append request_in (popped_queue t l v.links.queue r b) (sent_to b u.sends)) ∙ e)
        by true true k e = cc k
        by false y k e = e

    -- at other nodes than t, or where what is taken is no request
    pub active_after : (b ≡ t → FrontTaken o t v l × NoRequest o w l)
        → ((x k : ℕ) → b ≡ t → share x (globals (v.node t).locks) ≡ Some k
        → (j : ℕ) × (share x (globals u.node.locks) ≡ Some j)) → Active b v → Active b (after_turn t v u l)
    active_after calm keeps (Held x k e) =
        let h : (j : ℕ) × (share x (globals ((after_turn t v u l).node b).locks) ≡ Some j) =
        by_test t (λ y z. y ≡ b → share x (globals (v.node y).locks) ≡ Some k
        → (j : ℕ) × (share x (globals (if z then u.node else v.node y).locks) ≡ Some j))
        (λ same i. keeps x k (sym same) i) (λ y ne same i. (k, i)) b refl e in
        Held x h.0 h.1
    active_after calm keeps (Asked r up some) = Asked r up (λ e. go (b == t) refl (posted_found r e))
      where
        go : (z : Bool) → (b == t) ≡ z → found request_in (popped_queue t l v.links.queue r b) ≡ [] → ⊥
        go true i e = let c : FrontTaken o t v l × NoRequest o w l = calm (eqb-true b t i) in some (popped_found c.0 c.1 r up e)
        go false i e = some (untouched l i e)
          where
            untouched : (k : Option Taken) → (b == t) ≡ false → found request_in (popped_queue t k v.links.queue r b) ≡ []
                → found request_in (v.links.queue r b) ≡ []
            untouched None j e = e
            untouched (Some k) j e = by (r == k.sender) (b == t) j e
              where
                by : (x y : Bool) → y ≡ false → found request_in (if x && y then drop 1 (v.links.queue r b) else v.links.queue r b)
                    ≡ []
                    → found request_in (v.links.queue r b) ≡ []
                by true false k e = e
                by true true k e = cc k
                by false y k e = e

-- what isn't awaited is no request
pub ignored : (a : ℕ) (v : Node) (f : ℕ) (l : Letter) → awaits a v f l ≡ false → request_in l ≡ []
ignored a v f (Letter.SetLock id p) h = cc h
ignored a v f (Letter.GiveBack id p ack) h = cc h
ignored a v f l h = refl

-- plain letters give nothing back
module _ (o : Opening) (w : World) (ops : ℕ → Option Op) (f t : ℕ) where
  pub no_returns : (ls : List Letter) → Each (Plain o w ops f t) ls → (more : List Request)
      → found request_in ls ≡ Returns ∷ more → ⊥
  no_returns [] E more e = cc e
  no_returns (l ∷ ls) E more e = go l E.0 e (λ k. no_returns ls E.1 more k)
    where
      go : (x : Letter) → Plain o w ops f t x → request_in x ++ found request_in ls ≡ Returns ∷ more
          → (found request_in ls ≡ Returns ∷ more → ⊥) → ⊥
      go (Letter.GiveBack (Global b) p ack) P k on = cc P
      go (Letter.SetLock (Global b) p) P k on = cc k
      go x P k on = on k
