-- Where a node and another stand with each other about the global lock: one of eight stages. And what else is known of
-- the lock.
use Rattle.std.proofs.Common.{ℕ, Bool, true, false, ◌==◌, ◌≡◌, Option, Some, None, List, [], ◌∷◌, ◌++◌, refl, sym, ap, ◌∙◌, subst, inl, inr, append_assoc}
use Rattle.std.specs.Prelude.{◌&&◌, nat_lt, if◌then◌else◌}
use Rattle.std.proofs.lemmas.List.{append-nil}
use Rattle.std.proofs.lemmas.Bool.{cases_eq}
use Rattle.registry_model.specs.Process.{Nodes, nodes_of, at}
use Rattle.protocol_model.specs.Round.{Mark, is_owes, is_granted, is_refused}
use Rattle.protocol_model.specs.Letter.{Global, Letter}
use Rattle.protocol_model.specs.Links.{posted}
use Rattle.protocol_model.specs.Node.{Node, Current}
use Rattle.protocol_model.specs.Turn.{Turn, sent_to}
use Rattle.protocol_model.specs.World.{Opening, World, left}
use Rattle.moves.proofs.Rules.{Taken, FrontTaken}
use Rattle.registry_model.proofs.Updates.{by_test, at_same, at_other}
use Rattle.moves.proofs.Sends.{to_each, sent_to-one, sent_to-all}
use Rattle.moves.proofs.Invariants.{IsUp}
use Rattle.lock_sessions.proofs.Base.{popped_queue, popped, after_turn, letters_from, taken_first, popped-other, posted-here, posted-other}
use Rattle.lock_sessions.proofs.LockTables.{globals, share, once}

-- a letter of a requester's registrar: it asks for the lock, or gives it back
pub data Request : Type 0 where
  Asks : Request
  Returns : Request

-- of a requester and a node that both run
pub data Stage : Type 0 where
  Free : Stage
  Returning : Stage  -- the lock is on its way back
  AskedAgain : Stage  -- and was asked for again
  Asked : Stage
  GrantComing : Stage
  RefusalComing : Stage
  HasGrant : Stage
  HasRefusal : Stage

-- isn't asked, or not yet
abbrev pub is_idle : Mark → Bool
is_idle Mark.Out = true
is_idle Mark.Later = true
is_idle _ = false

-- the marks that a stage allows at the requester
abbrev pub fits : Stage → Mark → Bool
fits Free m = is_idle m
fits Returning m = is_idle m
fits AskedAgain m = is_owes m
fits Asked m = is_owes m
fits GrantComing m = is_owes m
fits RefusalComing m = is_owes m
fits HasGrant m = is_granted m
fits HasRefusal m = is_refused m

-- the requests on their way to the node
abbrev pub requests_at : Stage → List Request
requests_at Returning = Returns ∷ []
requests_at AskedAgain = Returns ∷ Asks ∷ []
requests_at Asked = Asks ∷ []
requests_at _ = []

-- the answers on their way to the requester
abbrev pub answers_at : Stage → List Bool
answers_at GrantComing = true ∷ []
answers_at RefusalComing = false ∷ []
answers_at _ = []

-- how often the node's lock table has the requester's registrar
abbrev pub share_at : Stage → Option ℕ
share_at Returning = once
share_at AskedAgain = once
share_at GrantComing = once
share_at HasGrant = once
share_at _ = None

-- how a registrar's operation marks node x; while it writes, whom it asked has granted
abbrev pub mark_in : Current → ℕ → Mark
mark_in (Current.Asking op r) x = r.mark x
mark_in (Current.Writing op asked awaited reply) x = if asked x then Mark.Granted else Mark.Out
mark_in _ x = Mark.Out

-- what a letter is as a request for the global lock
abbrev pub request_in : Letter → List Request
request_in (Letter.SetLock (Global b) p) = Asks ∷ []
request_in (Letter.GiveBack (Global b) p ack) = Returns ∷ []
request_in _ = []

-- and as an answer to one
abbrev pub answer_in : Letter → List Bool
answer_in (Letter.LockAnswer (Global b) p granted) = granted ∷ []
answer_in _ = []

-- what letters are, in order
abbrev pub found : {A : Type 0} → (Letter → List A) → List Letter → List A
found f [] = []
found f (l ∷ ls) = f l ++ found f ls

-- the requester r and node x are at this stage
pub record Session (w : World) (r x : ℕ) (s : Stage) : Type 0 where
  pub mark : fits s (mark_in (w.node r).current x) ≡ true
  pub requests : found request_in (w.links.queue r x) ≡ requests_at s
  pub answers : found answer_in (w.links.queue x r) ≡ answers_at s
  pub share : share r (globals (w.node x).locks) ≡ share_at s

-- of letters one after another
pub found-append : {A : Type 0} (f : Letter → List A) (xs ys : List Letter)
    → found f (xs ++ ys) ≡ found f xs ++ found f ys
found-append f [] ys = refl
found-append {A} f (x ∷ xs) ys = ap (λ (zs : List A). f x ++ zs) (found-append f xs ys)
    ∙ sym (append_assoc (f x) (found f xs) (found f ys))

-- a letter to one node that is nothing of the kind
pub found-one : {A : Type 0} (f : Letter → List A) (d : ℕ) (l : Letter) → f l ≡ [] → (c : ℕ)
    → found f (sent_to c (record { to = d; letter = l } ∷ [])) ≡ []
found-one {A} f d l none c = ap (found f) (sent_to-one c d l) ∙ go (d == c)
  where
    go : (b : Bool) → found f (if b then l ∷ [] else []) ≡ []
    go true = ap (λ (zs : List A). zs ++ []) none
    go false = refl

-- letters to a set of nodes
pub found-all : {A : Type 0} (f : Letter → List A) (n : ℕ) (s : Nodes) (l : Letter) (c : ℕ) → nat_lt c n ≡ true
    → found f (sent_to c (to_each (nodes_of n s) l)) ≡ (if s c then f l else [])
found-all {A} f n s l c below = ap (found f) (sent_to-all n s l c)
    ∙ ap (λ (b : Bool). found f (if b && s c then l ∷ [] else [])) below ∙ go (s c)
  where
    go : (b : Bool) → found f (if b then l ∷ [] else []) ≡ (if b then f l else [])
    go true = append-nil (f l)
    go false = refl

-- letters to a set of nodes that are nothing of the kind
pub found-none : {A : Type 0} (f : Letter → List A) (n : ℕ) (s : Nodes) (l : Letter) → f l ≡ [] → (c : ℕ)
    → found f (sent_to c (to_each (nodes_of n s) l)) ≡ []
found-none {A} f n s l none c = ap (found f) (sent_to-all n s l c) ∙ go (nat_lt c n && s c)
  where
    go : (b : Bool) → found f (if b then l ∷ [] else []) ≡ []
    go true = ap (λ (zs : List A). zs ++ []) none
    go false = refl

-- what a taken letter is
abbrev pub taken_as : {A : Type 0} → (Letter → List A) → Option Taken → List A
taken_as f None = []
taken_as f (Some t) = f t.letter

-- nothing of the kind is taken
pub found-letters : {A : Type 0} (f : Letter → List A) (t : Option Taken) → taken_as f t ≡ [] → (x : ℕ)
    → found f (letters_from t x) ≡ []
found-letters f None none x = refl
found-letters {A} f (Some t) none x = go (x == t.sender)
  where
    go : (b : Bool) → found f (if b then t.letter ∷ [] else []) ≡ []
    go true = ap (λ (zs : List A). zs ++ []) none
    go false = refl

-- what stands before two lists may be left out
pub append-cancel : {A : Type 0} (ps xs ys : List A) → ps ++ xs ≡ ps ++ ys → xs ≡ ys
append-cancel [] xs ys e = e
append-cancel (p ∷ ps) xs ys e = append-cancel ps xs ys (tail e)
  where
    tail : p ∷ (ps ++ xs) ≡ p ∷ (ps ++ ys) → ps ++ xs ≡ ps ++ ys
    tail e = cc

module _ (o : Opening) (a : ℕ) (w : World) (up : IsUp o w a) (u : Turn) (t : Option Taken)
    (front : FrontTaken o a w t) where
  -- where the stage of node a as a requester and node x goes by the turn
  pub record AsRequester (x : ℕ) (s : Stage) : Type 0 where
    pub to : Stage
    pub mark : fits to (mark_in u.node.current x) ≡ true
    pub requests : requests_at s ++ found request_in (sent_to x u.sends) ≡ requests_at to
    pub answers : answers_at s ≡ found answer_in (letters_from t x) ++ answers_at to
    pub share : share_at s ≡ share_at to

  -- where the stage of requester r and node a goes by the turn
  pub record AsAsked (r : ℕ) (s : Stage) : Type 0 where
    pub to : Stage
    pub mark : (m : Mark) → fits s m ≡ true → fits to m ≡ true
    pub requests : requests_at s ≡ found request_in (letters_from t r) ++ requests_at to
    pub answers : answers_at s ++ found answer_in (sent_to r u.sends) ≡ answers_at to
    pub share : share r (globals u.node.locks) ≡ share_at to

  -- the letters of the turn, by receiver
  abbrev out : ℕ → List Letter
  out c = sent_to c u.sends

  -- what is taken off a link
  found-popped : {A : Type 0} (f : Letter → List A) (x : ℕ)
      → found f (w.links.queue x a) ≡ found f (letters_from t x) ++ found f (popped_queue a t w.links.queue x a)
  found-popped f x = ap (found f) (taken_first o a w t front x)
      ∙ found-append f (letters_from t x) (popped_queue a t w.links.queue x a)

  -- links off which nothing of the kind is taken
  popped_same : {A : Type 0} (f : Letter → List A) (x y : ℕ) → found f (letters_from t x) ≡ []
      → found f (popped_queue a t w.links.queue x y) ≡ found f (w.links.queue x y)
  popped_same {A} f x y none = elim (cases_eq y a) [
    | inl e ↦ subst (λ (z : ℕ). found f (popped_queue a t w.links.queue x z) ≡ found f (w.links.queue x z)) (sym e)
        (sym (found-popped f x ∙ ap (λ (zs : List A). zs ++ found f (popped_queue a t w.links.queue x a)) none))
    | inr ne ↦ ap (found f) (popped-other a t w.links.queue x y ne)
  ]

  -- links on which nothing of the kind is put
  posted_same : {A : Type 0} (f : Letter → List A) (x y : ℕ) → left w y ≡ false → found f (out y) ≡ []
      → found f ((posted a out (popped a t w.links)).queue x y) ≡ found f (popped_queue a t w.links.queue x y)
  posted_same {A} f x y run none = elim (cases_eq x a) [
    | inl e ↦ subst (λ (z : ℕ). found f ((posted a out (popped a t w.links)).queue z y)
        ≡ found f (popped_queue a t w.links.queue z y)) (sym e)
        (ap (found f) (posted-here a out (popped a t w.links) y run)
        ∙ found-append f (popped_queue a t w.links.queue a y) (out y)
        ∙ ap (λ (zs : List A). found f (popped_queue a t w.links.queue a y) ++ zs) none
        ∙ append-nil (found f (popped_queue a t w.links.queue a y)))
    | inr ne ↦ ap (found f) (posted-other a out (popped a t w.links) x y ne)
  ]

  -- what node a puts on a link
  posted_more : {A : Type 0} (f : Letter → List A) (y : ℕ) → left w y ≡ false → found f (letters_from t a) ≡ []
      → found f ((posted a out (popped a t w.links)).queue a y) ≡ found f (w.links.queue a y) ++ found f (out y)
  posted_more {A} f y run none = ap (found f) (posted-here a out (popped a t w.links) y run)
      ∙ found-append f (popped_queue a t w.links.queue a y) (out y)
      ∙ ap (λ (zs : List A). zs ++ found f (out y)) (popped_same f a y none)

  -- a turn that asks, gives back or hears an answer, and judges nobody
  pub requester_turn : ((x : ℕ) → IsUp o w x → found answer_in (sent_to x u.sends) ≡ [])
      → ((x : ℕ) → IsUp o w x → found request_in (letters_from t x) ≡ [])
      → globals u.node.locks ≡ globals (w.node a).locks
      → ((x : ℕ) → IsUp o w x → (s : Stage) → Session w a x s → AsRequester x s)
      → (r x : ℕ) → IsUp o w r → IsUp o w x → (s : Stage) → Session w r x s
      → (e : Stage) × Session (after_turn a w u t) r x e
  requester_turn silent untaken same move r x ur ux s S = elim (cases_eq r a) [
    | inl e ↦ subst (λ (z : ℕ). (e : Stage) × Session (after_turn a w u t) z x e) (sym e)
        (here (subst (λ (z : ℕ). Session w z x s) e S))
    | inr ne ↦ (
      s,
      record {
        mark = subst (λ (v : Node). fits s (mark_in v.current x) ≡ true) (sym (at_other w.node a u.node r ne)) S.mark;
        requests = ap (found request_in) (posted-other a out (popped a t w.links) r x ne)
            ∙ popped_same request_in r x (untaken r ur) ∙ S.requests;
        answers = posted_same answer_in x r ur.1 (silent r ur)
            ∙ ap (found answer_in) (popped-other a t w.links.queue x r ne) ∙ S.answers;
        share = ap (share r) (locks_same x) ∙ S.share;
      },
    )
  ]
    where
      locks_same : (x : ℕ) → globals (at w.node a u.node x).locks ≡ globals (w.node x).locks
      locks_same = by_test a (λ x b. globals (if b then u.node else w.node x).locks ≡ globals (w.node x).locks) same
          (λ x ne. refl)

      here : Session w a x s → (e : Stage) × Session (after_turn a w u t) a x e
      here S = (
        M.to,
        record {
          mark = subst (λ (v : Node). fits M.to (mark_in v.current x) ≡ true) (sym (at_same w.node a u.node)) M.mark;
          requests = posted_more request_in x ux.1 (untaken a up)
              ∙ ap (λ (zs : List Request). zs ++ found request_in (out x)) S.requests ∙ M.requests;
          answers = posted_same answer_in x a up.1 (silent a up)
              ∙ append-cancel (found answer_in (letters_from t x))
              (found answer_in (popped_queue a t w.links.queue x a)) (answers_at M.to)
              (sym (found-popped answer_in x) ∙ S.answers ∙ M.answers);
          share = ap (share a) (locks_same x) ∙ S.share ∙ M.share;
        },
      )
        where
          M : AsRequester x s
          M = move x ux s S

  -- a turn that judges, or takes back, and asks nobody
  pub asked_turn : ((x : ℕ) → IsUp o w x → found request_in (sent_to x u.sends) ≡ [])
      → ((x : ℕ) → IsUp o w x → found answer_in (letters_from t x) ≡ [])
      → u.node.current ≡ (w.node a).current
      → ((r : ℕ) → IsUp o w r → (s : Stage) → Session w r a s → AsAsked r s)
      → (r x : ℕ) → IsUp o w r → IsUp o w x → (s : Stage) → Session w r x s
      → (e : Stage) × Session (after_turn a w u t) r x e
  asked_turn silent untaken same move r x ur ux s S = elim (cases_eq x a) [
    | inl e ↦ subst (λ (z : ℕ). (e : Stage) × Session (after_turn a w u t) r z e) (sym e)
        (here (subst (λ (z : ℕ). Session w r z s) e S))
    | inr ne ↦ (
      s,
      record {
        mark = mark_same r x s S.mark;
        requests = posted_same request_in r x ux.1 (silent x ux)
            ∙ ap (found request_in) (popped-other a t w.links.queue r x ne) ∙ S.requests;
        answers = ap (found answer_in) (posted-other a out (popped a t w.links) x r ne)
            ∙ popped_same answer_in x r (untaken x ux) ∙ S.answers;
        share = subst (λ (v : Node). share r (globals v.locks) ≡ share_at s)
            (sym (at_other w.node a u.node x ne)) S.share;
      },
    )
  ]
    where
      mark_same : (r x : ℕ) (s : Stage) → fits s (mark_in (w.node r).current x) ≡ true
          → fits s (mark_in (at w.node a u.node r).current x) ≡ true
      mark_same r x s = by_test a
          (λ r b. fits s (mark_in (w.node r).current x) ≡ true
          → fits s (mark_in (if b then u.node else w.node r).current x) ≡ true)
          (λ h. subst (λ (c : Current). fits s (mark_in c x) ≡ true) (sym same) h) (λ r ne h. h) r

      here : Session w r a s → (e : Stage) × Session (after_turn a w u t) r a e
      here S = (
        M.to,
        record {
          mark = M.mark (mark_in (at w.node a u.node r).current a) (mark_same r a s S.mark);
          requests = posted_same request_in r a up.1 (silent a up)
              ∙ append-cancel (found request_in (letters_from t r))
              (found request_in (popped_queue a t w.links.queue r a)) (requests_at M.to)
              (sym (found-popped request_in r) ∙ S.requests ∙ M.requests);
          answers = answered ∙ M.answers;
          share = subst (λ (v : Node). share r (globals v.locks) ≡ share_at M.to)
              (sym (at_same w.node a u.node)) M.share;
        },
      )
        where
          M : AsAsked r s
          M = move r ur s S

          answered : found answer_in ((posted a out (popped a t w.links)).queue a r)
              ≡ answers_at s ++ found answer_in (out r)
          answered = posted_more answer_in r ur.1 (untaken a up)
              ∙ ap (λ (zs : List Bool). zs ++ found answer_in (out r)) S.answers

  -- a turn that has nothing to do with the global lock
  pub quiet_turn : ((x : ℕ) → IsUp o w x → found answer_in (sent_to x u.sends) ≡ [])
      → ((x : ℕ) → IsUp o w x → found request_in (sent_to x u.sends) ≡ [])
      → ((x : ℕ) → IsUp o w x → found request_in (letters_from t x) ≡ [])
      → ((x : ℕ) → IsUp o w x → found answer_in (letters_from t x) ≡ [])
      → globals u.node.locks ≡ globals (w.node a).locks
      → ((x : ℕ) → IsUp o w x → (s : Stage) → fits s (mark_in (w.node a).current x) ≡ true
      → fits s (mark_in u.node.current x) ≡ true)
      → (r x : ℕ) → IsUp o w r → IsUp o w x → (s : Stage) → Session w r x s
      → (e : Stage) × Session (after_turn a w u t) r x e
  quiet_turn silent asking untaken unheard same marks = requester_turn silent untaken same (λ x ux s S. record {
    to = s;
    mark = marks x ux s S.mark;
    requests = ap (λ (zs : List Request). requests_at s ++ zs) (asking x ux) ∙ append-nil (requests_at s);
    answers = sym (ap (λ (zs : List Bool). zs ++ answers_at s) (unheard x ux));
    share = refl;
  })
