-- The rules of joins, one by one.
use Rattle.std.proofs.Common.{ℕ, Bool, true, false, ◌==◌, ◌≡◌, ◌<◌, ◌≤◌, ◌+◌, Option, Some, None, List, [], ◌∷◌, ◌++◌, length, get_or, take, arith, refl, sym, ap, ◌∙◌, subst}
use Rattle.std.specs.Prelude.{not, ◌&&◌, ◌||◌, if◌then◌else◌, filter, fold}
use Rattle.std.specs.Option.{option_map}
use Rattle.std.proofs.Math.Path.{fun_ext}
use Rattle.std.proofs.lemmas.Bool.{eq-eqb, eqb-true}
use Rattle.std.specs.List.Sorted.{IsStrictlyIncreasing}
use Rattle.std.proofs.lemmas.List.{map-append}
use Rattle.std.proofs.lemmas.List.Sums.{length-filter, count_by-le-length}
use Rattle.std.proofs.lemmas.Grind.{take_at_read, fold-append}
use Rattle.registry_model.specs.Process.{Process, Nodes, with_node}
use Rattle.registry_model.specs.Table.{Table, Change, without, is_rising}
use Rattle.registry_model.specs.Call.{Joined}
use Rattle.registry_model.specs.Registry.{process_of, Replica}
use Rattle.registry_model.specs.Settlement.{Noted, Notice, notices_to, Fate, Settled, with_settled, settle}
use Rattle.registry_model.specs.History.{Entry as AnyEntry}
use Rattle.protocol_model.specs.Event.{Answer as AnyAnswer}
use Rattle.protocol_model.specs.Letter.{Letter as AnyLetter}
use Rattle.protocol_model.specs.Node.{Node, Op as AnyOp, Current, LockCall, drop_call, wrote}
use Rattle.protocol_model.specs.Watch.{Watch as AnyWatch, is_live, with_dead}
use Rattle.protocol_model.specs.Turn.{Turn, become, with_replica, at_work, send, send_all, enter, reply_with}
use Rattle.protocol_model.specs.Calling.{die, kill}
use Rattle.protocol_model.specs.Reading.{with_member, noted, admitted, joined_with, welcomed, welcome}
use Rattle.protocol_model.specs.Deciding.{admit, held}
use Rattle.protocol_model.specs.Registrar.{finish}
use Rattle.term.specs.NodeSets.{IsNodeSet, set_of, with_older, with_node as and_node}
use Rattle.term.specs.declared.limits.TheConstants.{MOST_NODES}
use Rattle.term.proofs.Older.{held as is_held}
use Rattle.term.proofs.NodeSets.{set_of-with_node}
use Rattle.term.proofs.NodeLists.{rising-with_node}
use Rattle.boss_order.proofs.Sets.{nodes_of-set_of, nodes_of-within}
use Rattle.exit_watch.specs.WatchState.{WatchState, with_killed, AreSuspected}
use Rattle.lock_calls.specs.LockCallsState.{LockCallsState, seen}
use Rattle.transaction.specs.declared.op.Op.{Op}
use Rattle.transaction.specs.Ops.{op_of}
use Rattle.transaction.specs.Work.{Work}
use Rattle.exchange.specs.Lists.{list_under}
use Rattle.exchange.specs.Bodies.{settled_in, fate_in}
use Rattle.exchange.specs.declared.bodies.Admission.{Admission}
use Rattle.exchange.specs.declared.bodies.Welcome.{Welcome}
use Rattle.node_events.specs.declared.events.Answer.{Answer}
use Rattle.node_events.specs.declared.events.Entry.TheVariants.{Joined as HasJoined}
use Rattle.node_events.specs.declared.events.Letter.{Letter}
use Rattle.node_events.specs.declared.events.Letter.TheVariants.{ReleaseOf, Applied}
use Rattle.node_events.specs.declared.events.Reply.TheVariants.{Joined as IsJoined}
use Rattle.node_core.specs.declared.node.Phase.TheVariants.{Writing}
use Rattle.node_events.specs.Made.{Made, sent, SendsAll, entered, answered}
use Rattle.node_core.specs.CoreState.{CoreState, IsWhole, AreOf, HaveLeft, bound_of}
use Rattle.node_core.specs.Joining.{Welcomes, TellsToAdmit, join_by, kill_one, put_names, remove_names, IsAdmitting, IsWelcomeTo}
use Rattle.node_events.specs.Letters.{letter_of}
use Rattle.node_core.specs.Seen.{node_of, turn_of, current_of}
use Rattle.node_events.specs.Seen.{answer_of, reply_of, unnumbered}
use Rattle.node_core.specs.Steps.{Makes, Works}
use Rattle.node_core.proofs.Bounds.{all_below, of_world}
use Rattle.node_core.proofs.Sends.{sent_is, sent_all_is}
use Rattle.node_core.proofs.Rules.{followed, entered_is}
use Rattle.node_core.proofs.Rounds.{first_passes}
use Rattle.node_core.proofs.Locking.{made_as}
use Rattle.node_core.proofs.Gone.{more_within, more_is, stands}

-- an answer more
answered_is : (h : CoreState) (t : Made) (s : Answer)
    → turn_of h (answered s t) ≡ reply_with s.node s.call (reply_of s.reply) (turn_of h t)
answered_is h t s = ap (λ (ss : List AnyAnswer). record (turn_of h t) { answers = ss })
    (map-append answer_of t.answers (s ∷ []))

-- a process that lives here dies, and every member is to release its locks
pub kills_one : (h k : CoreState) (w : WatchState) (cs : LockCallsState) (t u : Made) (p r : Process) (lived : Bool) → IsWhole k
    → k ≡ h → IsNodeSet k.members → lived ≡ true → lived ≡ is_live k.watch.node k.watch.watch p
    → w.watch ≡ with_killed k.watch.node p k.watch.watch → seen cs ≡ drop_call p (seen k.calls) → r ≡ p
    → SendsAll k.members (ReleaseOf r) t u → Makes (λ n a. kill_one n a p) h t (record k { watch = w; calls = cs }) u
kills_one h k w cs t u p r lived whole same set is_so lived_is killed dropped releasing sends =
    subst (λ (x : CoreState). Makes (λ n a. kill_one n a p) x t after u) same (record {
      name = refl;
      world = refl;
      turn = sent_all_is after t u k.members (ReleaseOf p)
          (subst (λ (x : Process). SendsAll k.members (ReleaseOf x) t u) releasing sends) set
          (of_world k.world k.members whole.members)
          ∙ ap (λ (x : Turn). send_all n (set_of k.members) (AnyLetter.ReleaseOf p) x)
          (ap (λ (x : AnyWatch). known x (seen cs)) dead ∙ ap (known (with_dead p.serial k.watch.watch)) dropped)
          ∙ ap (λ (b : Bool). if b then die n k.name p (turn_of k t) else turn_of k t) (sym live);
    })
  where
    n : ℕ
    n = bound_of k.world

    after : CoreState
    after = record k { watch = w; calls = cs }

    known : AnyWatch → List LockCall → Turn
    known x ds = record (turn_of k t) { node = record (turn_of k t).node { watch = x; calls = ds } }

    dead : w.watch ≡ with_dead p.serial k.watch.watch
    dead = killed ∙ ap (λ (b : Bool). if b then with_dead p.serial k.watch.watch else k.watch.watch)
        (sym lived_is ∙ is_so)

    live : is_live k.name k.watch.watch p ≡ true
    live = ap (λ (a : ℕ). is_live a k.watch.watch p) (sym whole.watch) ∙ sym lived_is ∙ is_so

-- one more of the changes that are written in turn
pub writes_next : {A : Type 0} (to : A → Change) (h k m : CoreState) (t : Made) (items : List A) (i : ℕ) (e d f : A)
    → i < length items → e ≡ get_or items i e → d ≡ e → f ≡ d
    → Makes (λ n a. with_replica (λ v. fold (λ replica b. wrote (to b) replica) v (take i items))) h t k t
    → Makes (λ n a. with_replica (wrote (to f))) k t m t
    → Makes (λ n a. with_replica (λ v. fold (λ replica b. wrote (to b) replica) v (take (i + 1) items))) h t m t
writes_next {A} to h k m t items i e d f l is same copied before next =
    made_as (followed before next) (ap (λ (v : Replica). become (record node { replica = v }) (turn_of h t))
    (ap (λ (g : A). wrote (to g) (write_all (take i items))) (copied ∙ same)
    ∙ sym (fold-append write node.replica (take i items) (e ∷ []))
    ∙ ap (λ (bs : List A). write_all bs) (ap (λ (b : A). take i items ++ b ∷ []) is
    ∙ sym (take_at_read items i e l).1)))
  where
    node : Node
    node = node_of h

    write : Replica → A → Replica
    write v b = wrote (to b) v

    write_all : List A → Replica
    write_all bs = fold write node.replica bs

-- the node adds notices to those of its processes
pub notes : (h h1 : CoreState) (t : Made) (lists : List (ℕ × List Notice)) (fate : Fate) (notices : List Noted) → h ≡ h1
    → ((serial : ℕ) → list_under serial lists ≡ list_under serial h.notices ++ notices_to (process_of h.name serial) notices)
    → fate.notices ≡ notices → Makes (λ n a. with_replica (noted a fate)) h1 t (record h { notices = lists }) t
notes h h1 t lists fate notices same more is =
    subst (λ (x : CoreState). Makes (λ n a. with_replica (noted a fate)) x t (record h { notices = lists }) t) same (record {
      name = refl;
      world = refl;
      turn = ap (λ (ns : ℕ → List Notice). record (turn_of h t) {
        node = record (node_of h) { replica = record (node_of h).replica { notices = ns } };
      }) (fun_ext (λ serial. more serial
          ∙ ap (λ (ns : List Noted). list_under serial h.notices ++ notices_to (process_of h.name serial) ns) (sym is)));
    })

-- h is the node, which is welcomed; told: all of whom it is told then
pub record IsTold (h : CoreState) (body : Welcome) (told : List ℕ) : Type 0 where
  pub left : HaveLeft h.world told
  pub here : with_older told h.name ≡ false
  pub are : IsWelcomeTo h.world h.name body → with_older told ≡ (λ c. with_older h.told c || with_older body.told c)

-- either: those that it or its sponsor was told of
module _ (h : CoreState) (body : Welcome) (either : List ℕ) (whole : IsWhole h)
    (both : (c : ℕ) → with_older either c
    ≡ (with_older h.world c && (with_older h.told c || with_older body.told c))) where
  -- it is told of these, where it isn't one of them
  pub told_either : with_older either h.name ≡ false → IsTold h body either
  told_either here = record {
    left = record {
      one = whole.told.one;
      started = λ c e. first_passes (with_older h.world c) (with_older h.told c || with_older body.told c)
          (sym (both c) ∙ e);
      older = λ c w out. both c ∙ rw (w, whole.told.older c w out) refl;
    };
    here = here;
    are = λ to. fun_ext (λ c. both c ∙ all (with_older h.world c) (with_older h.told c) (with_older body.told c)
        (whole.told.started c) (to.told c));
  }
    where
      all : (w g t : Bool) → (g ≡ true → w ≡ true) → (t ≡ true → w ≡ true) → (w && (g || t)) ≡ (g || t)
      all true g t p q = refl
      all false false false p q = refl
      all false true t p q = absurd (cc (p refl))
      all false false true p q = absurd (cc (q refl))

  -- where it is one of them, no welcome to it says so: it is told of nobody new
  pub told_before : (told : List ℕ) → told ≡ h.told → with_older either h.name ≡ true → IsTold h body told
  told_before told same here = subst (IsTold h body) (sym same) (record {
    left = whole.told;
    here = whole.apart h.name whole.self;
    are = λ to. absurd (never (with_older h.world h.name) (with_older h.told h.name) (with_older body.told h.name)
        (whole.apart h.name whole.self) to.here (sym (both h.name) ∙ here));
  })
    where
      never : (w g t : Bool) → g ≡ false → t ≡ false → (w && (g || t)) ≡ true → ⊥
      never true false false p q e = cc
      never false g t p q e = cc
      never w true t p q e = cc
      never w false true p q e = cc

-- rest: the members of the welcome that haven't left
module _ (h : CoreState) (body : Welcome) (told rest members : List ℕ) (table : Table) (v : WatchState) (whole : IsWhole h)
    (known : IsTold h body told)
    (stay : (c : ℕ) → set_of rest c ≡ (set_of body.members c && not (with_older told c)))
    (are : (c : ℕ) → set_of members c ≡ (set_of h.world c && (set_of rest c || (c == h.name)))) where
  -- the node once it has moved in
  abbrev moved : CoreState
  moved = record h { members = members; told = told; joined = true; table = table; watch = v }

  pub whole_moved : v.node ≡ h.watch.node → AreSuspected v table → IsWhole moved
  whole_moved node suspected = record {
    self = are h.name ∙ own (set_of h.world h.name) (set_of rest h.name) (h.name == h.name)
        (whole.members h.name whole.self) (eq-eqb h.name h.name refl);
    members = λ c e. first_passes (set_of h.world c) (set_of rest c || (c == h.name)) (sym (are c) ∙ e);
    told = known.left;
    apart = λ c e. apart c (set_of h.world c) (set_of body.members c) (with_older told c) (c == h.name) refl refl
        (ap (λ (b : Bool). set_of h.world c && (b || (c == h.name))) (sym (stay c)) ∙ sym (are c) ∙ e);
    queue = whole.queue;
    current = whole.current;
    awaited = whole.awaited;
    phase = whole.phase;
    watch = node ∙ whole.watch;
    suspected = suspected;
    calls = whole.calls;
    called = whole.called;
  }
    where
      own : (w r e : Bool) → w ≡ true → e ≡ true → (w && (r || e)) ≡ true
      own true true true p q = refl
      own true false true p q = refl
      own w r false p q = cc
      own false r e p q = cc

      apart : (c : ℕ) (w m t b : Bool) → with_older told c ≡ t → (c == h.name) ≡ b
          → (w && ((m && not t) || b)) ≡ true → t ≡ false
      apart c w m false b is same e = refl
      apart c true true true false is same e = cc
      apart c true false true false is same e = cc
      apart c false m true b is same e = cc
      apart c true m true true is same e =
          sym is ∙ ap (with_older told) (eqb-true c h.name same) ∙ known.here

  -- the body is a welcome to the node
  module _ (to : IsWelcomeTo h.world h.name body) where
    members_are : set_of members ≡ (λ c. set_of body.members c && not (with_older told c))
    members_are = fun_ext (λ c. are c ∙ ap (λ (b : Bool). set_of h.world c && (b || (c == h.name))) (stay c)
        ∙ go c (c == h.name) refl)
      where
        within : (w m t : Bool) → (m ≡ true → t ≡ false → w ≡ true) → (w && ((m && not t) || false)) ≡ (m && not t)
        within true true true p = refl
        within true true false p = refl
        within true false t p = refl
        within false false t p = refl
        within false true true p = refl
        within false true false p = absurd (cc (p refl refl))

        own : (w m t : Bool) → w ≡ true → m ≡ true → t ≡ false → (w && ((m && not t) || true)) ≡ (m && not t)
        own true true false p q r = refl
        own false m t p q r = cc
        own true false t p q r = cc
        own true true true p q r = cc

        at_name : (c : ℕ) → (c == h.name) ≡ true → (s : Nodes) (b : Bool) → s h.name ≡ b → s c ≡ b
        at_name c e s b is = ap s (eqb-true c h.name e) ∙ is

        go : (c : ℕ) (b : Bool) → (c == h.name) ≡ b
            → (set_of h.world c && ((set_of body.members c && not (with_older told c)) || b))
            ≡ (set_of body.members c && not (with_older told c))
        go c false e = within (set_of h.world c) (set_of body.members c) (with_older told c)
            (λ member here. stands h.world told c known.left (to.members c member) here)
        go c true e = own (set_of h.world c) (set_of body.members c) (with_older told c)
            (at_name c e (set_of h.world) true (whole.members h.name whole.self))
            (at_name c e (set_of body.members) true to.self)
            (at_name c e (with_older told) false known.here)

    -- the node has moved in
    pub moves_in : (h1 : CoreState) (t : Made) → h ≡ h1 → v.watch ≡ h.watch.watch
        → (is_rising body.pairs.items ≡ true → table ≡ without (with_older told) body.pairs.items)
        → Makes (λ n a. with_replica (joined_with (set_of body.members) body.pairs.items
        (λ c. with_older h1.told c || with_older body.told c))) h1 t moved t
    moves_in h1 t same watch pairs =
        subst (λ (x : CoreState). Makes (λ n a. with_replica (joined_with (set_of body.members) body.pairs.items
        (λ c. with_older x.told c || with_older body.told c))) x t moved t) same (record {
          name = refl;
          world = refl;
          turn = ap (λ (w : AnyWatch). shown w table (set_of members) (with_older told)) watch
              ∙ ap (λ (x : Table). shown h.watch.watch x (set_of members) (with_older told)) (pairs to.rising)
              ∙ ap (λ (s : Nodes). shown h.watch.watch (without (with_older told) body.pairs.items) s (with_older told))
              members_are
              ∙ ap (λ (s : Nodes). shown h.watch.watch (without s body.pairs.items)
              (λ c. set_of body.members c && not (s c)) s) (known.are to);
        })
      where
        shown : AnyWatch → Table → Nodes → Nodes → Turn
        shown w x m g = record (turn_of h t) {
          node = record (node_of h) {
            replica = record (node_of h).replica { table = x; members = m; told = g; joined = true };
            watch = w;
          };
        }

-- a node that hasn't left is a member from now on
module _ (h : CoreState) (j : ℕ) (members : List ℕ) (whole : IsWhole h) (here : with_older h.told j ≡ false)
    (are : (c : ℕ) → set_of members c ≡ (set_of h.world c && (set_of h.members c || (c == j)))) where
  pub whole_with_member : IsWhole (record h { members = members })
  whole_with_member = record {
    self = are h.name ∙ rw (whole.members h.name whole.self, whole.self) refl;
    members = more_within h.world h.members members j are;
    told = whole.told;
    apart = λ c e. apart c (set_of h.members c) (c == j) refl refl
        (second (set_of h.world c) (set_of h.members c || (c == j)) (sym (are c) ∙ e));
    queue = whole.queue;
    current = whole.current;
    awaited = whole.awaited;
    phase = whole.phase;
    watch = whole.watch;
    suspected = whole.suspected;
    calls = whole.calls;
    called = whole.called;
  }
    where
      second : (a b : Bool) → (a && b) ≡ true → b ≡ true
      second true b e = e
      second false b e = cc

      apart : (c : ℕ) (m b : Bool) → set_of h.members c ≡ m → (c == j) ≡ b → (m || b) ≡ true → with_older h.told c ≡ false
      apart c true b member same e = whole.apart c member
      apart c false true member same e = ap (with_older h.told) (eqb-true c j same) ∙ here
      apart c false false member same e = cc

  pub has_member : (h1 : CoreState) (t : Made) → h ≡ h1 → with_older h1.world j ≡ true
      → Makes (λ n a. with_replica (with_member j)) h1 t (record h { members = members }) t
  has_member h1 t same =
      subst (λ (x : CoreState). with_older x.world j ≡ true
      → Makes (λ n a. with_replica (with_member j)) x t (record h { members = members }) t) same (λ started. record {
        name = refl;
        world = refl;
        turn = ap (λ (s : Nodes). shown (record (node_of h).replica { members = s }))
            (more_is h.world h.members members j are whole.members (stands h.world h.told j whole.told started here))
            ∙ ap (λ (b : Bool). shown (if b
            then (node_of h).replica else record (node_of h).replica { members = with_node j (set_of h.members) }))
            (sym here);
      })
    where
      shown : Replica → Turn
      shown v = record (turn_of h t) { node = record (node_of h) { replica = v } }

-- the registrar may be freed before or behind the deaths
kills_at : (n a : ℕ) (ps : List Process) (x : Current) (u : Turn)
    → kill n a ps (at_work x u) ≡ at_work x (kill n a ps u)
kills_at n a [] x u = refl
kills_at n a (p ∷ ps) x u = go (is_live a u.node.watch p) (kills_at n a ps x)
  where
    go : (b : Bool) → ((v : Turn) → kill n a ps (at_work x v) ≡ at_work x (kill n a ps v))
        → kill n a ps (if b then die n a p (at_work x u) else at_work x u)
        ≡ at_work x (kill n a ps (if b then die n a p u else u))
    go true rest = rest (die n a p u)
    go false rest = rest u

-- a join that waits for f is the current one
pub joining_is : (f k : ℕ) (x : Current) → Some k ≡ join_by f x → x ≡ Current.Joining k f
joining_is f k (Current.Joining i m) e = go (m == f) refl e
  where
    go : (b : Bool) → (m == f) ≡ b → Some k ≡ (if b then Some i else None) → Current.Joining i m ≡ Current.Joining k f
    go true same is = let j : k ≡ i = cc in
        ap (λ (c : ℕ). Current.Joining i c) (eqb-true m f same) ∙ ap (λ (y : ℕ). Current.Joining y f) (sym j)
    go false same is = cc
joining_is f k Current.Free e = cc
joining_is f k (Current.Asking op r) e = cc
joining_is f k (Current.Waiting op) e = cc
joining_is f k (Current.Writing op asked awaited reply) e = cc

-- a node that moves in and then adds notices to those of its processes is welcomed
pub arrives : (h m k : CoreState) (t : Made) (members : Nodes) (pairs : Table) (told : Nodes) (fate : Fate)
    → Makes (λ n a. with_replica (joined_with members pairs (λ d. with_older h.told d || told d))) h t m t
    → Makes (λ n a. with_replica (noted a fate)) m t k t
    → Makes (λ n a. with_replica (welcomed a members pairs told fate)) h t k t
arrives h m k t members pairs told fate M N =
    let both = followed M N in record { name = both.name; world = both.world; turn = both.turn }

-- a join is granted: the registrar is free, the node moves in, those that clash die, and it is answered
pub welcomes : (h0 h m k : CoreState) (t u v x : Made) (f d k0 : ℕ) (w : Work) (body : Welcome) (s : Answer) (number : ℕ → ℕ)
    → h0 ≡ h → Some k0 ≡ join_by f (node_of h).current → w ≡ record h0.registrar { current = None; awaited = [] }
    → Makes (λ n a. with_replica (welcomed a (set_of body.members) body.pairs.items (with_older body.told) (fate_in body)))
    (record h0 { registrar = w }) t m t
    → Makes (λ n a. kill n a body.kills.items) m t k u
    → s ≡ record { node = k.name; call = k0; reply = IsJoined } → v ≡ answered s u → d ≡ f → x ≡ sent d Applied v
    → Makes (λ n a y. welcome n a number f (set_of body.members) body.pairs.items (with_older body.told) (fate_in body)
    y.node.current y) h t k x
welcomes h0 h m k t u v x f d k0 w body s number same waits free M K answer answering to sending =
    subst (λ (y : CoreState). Some k0 ≡ join_by f (node_of y).current → Makes (λ n a z. welcome n a number f
    (set_of body.members) body.pairs.items (with_older body.told) (fate_in body) z.node.current z) y t k x) same
    (λ waits0. record {
      name = both.name;
      world = both.world;
      turn = ap (turn_of k) sending ∙ sent_is k v d Applied
          ∙ ap (λ (c : ℕ). send c AnyLetter.Applied (turn_of k v)) to
          ∙ ap (send f AnyLetter.Applied) (ap (turn_of k) answering ∙ answered_is k u s
          ∙ ap (λ (y : Answer). reply_with y.node y.call (reply_of y.reply) (turn_of k u)) answer
          ∙ ap (λ (c : ℕ). reply_with c k0 Joined (turn_of k u)) both.name
          ∙ ap (reply_with a k0 Joined) (both.turn
          ∙ ap (λ (y : Work). kill n a body.kills.items (moving (turn_of (record h0 { registrar = y }) t))) free
          ∙ kills_at n a body.kills.items Current.Free (moving (turn_of h0 t))))
          ∙ ap (λ (b : Bool). if b then granted else turn_of h0 t) (sym (eq-eqb f f refl))
          ∙ ap (λ (y : Current). welcome n a number f (set_of body.members) body.pairs.items (with_older body.told)
          (fate_in body) y (turn_of h0 t)) (sym (joining_is f k0 (node_of h0).current waits0));
    }) waits
  where
    n : ℕ
    n = bound_of h0.world

    a : ℕ
    a = h0.name

    both : Makes (λ i c y. kill i c body.kills.items
        (with_replica (welcomed c (set_of body.members) body.pairs.items (with_older body.told) (fate_in body)) y))
        (record h0 { registrar = w }) t k u
    both = followed M K

    moving : Turn → Turn
    moving = with_replica (welcomed a (set_of body.members) body.pairs.items (with_older body.told) (fate_in body))

    granted : Turn
    granted = send f AnyLetter.Applied (reply_with a k0 Joined
        (at_work Current.Free (kill n a body.kills.items (moving (turn_of h0 t)))))

-- a joiner is admitted: it is a member, the names are put, others are removed, notices are added, those that clash die, and it is
-- acknowledged
pub admits : (h h1 h2 h3 h4 k : CoreState) (t u x : Made) (f d : ℕ) (body : Admission)
    → Makes (λ n a. with_replica (with_member body.joiner)) h t h1 t
    → Makes (λ n a. with_replica (put_names body.puts.items)) h1 t h2 t
    → Makes (λ n a. with_replica (remove_names body.removes.items)) h2 t h3 t
    → Makes (λ n a. with_replica (noted a (settled_in body).fate)) h3 t h4 t
    → Makes (λ n a. kill n a body.kills.items) h4 t k u → d ≡ f → x ≡ sent d Applied u
    → Makes (λ n a y. send f AnyLetter.Applied (kill n a (settled_in body).fate.kills
    (with_replica (admitted a body.joiner (settled_in body)) y))) h t k x
admits h h1 h2 h3 h4 k t u x f d body M P R N K to sending =
    let all = followed (followed (followed (followed M P) R) N) K in
    record {
      name = all.name;
      world = all.world;
      turn = ap (turn_of k) sending ∙ sent_is k u d Applied
          ∙ ap (λ (c : ℕ). send c AnyLetter.Applied (turn_of k u)) to
          ∙ ap (send f AnyLetter.Applied) all.turn;
    }

-- there is room for a node of the world beside others of it
pub room_for : (world members : List ℕ) (j : ℕ) → IsNodeSet world → IsNodeSet members → AreOf world members
    → set_of world j ≡ true → length (and_node members j) ≤ MOST_NODES
room_for world members j set rest within of =
    omega (
      arith,
      ap length is,
      length-filter (set_of all) world,
      count_by-le-length (set_of all) world,
      set.fits,
    )
  where
    all : List ℕ
    all = and_node members j

    all_within : AreOf world all
    all_within c e = go (set_of members c) (j == c) refl (sym (set_of-with_node members j c) ∙ e) (within c)
      where
        go : (s b : Bool) → (j == c) ≡ b → (s || b) ≡ true → (s ≡ true → set_of world c ≡ true) → set_of world c ≡ true
        go true b q f old = old refl
        go false true q f old = ap (set_of world) (sym (eqb-true j c q)) ∙ of
        go false false q f old = cc

    rising : IsStrictlyIncreasing all
    rising = rising-with_node members j rest.rising

    is : all ≡ filter (set_of all) world
    is = sym (nodes_of-set_of (bound_of world) all rising (all_below world all (of_world world all all_within)))
        ∙ nodes_of-within (bound_of world) (set_of all) world set.rising (all_below world world (is_held world)) all_within

-- the current operation writes, and awaits these nodes
writes : (o : Option Op) (op : AnyOp) (asked all : List ℕ) → option_map op_of o ≡ Some op
    → current_of o all (Writing asked None) ≡ Current.Writing op (set_of asked) (set_of all) None
writes None op asked all e = cc
writes (Some x) op asked all e =
    let same : op_of x ≡ op = cc in
    ap (λ (y : AnyOp). Current.Writing y (set_of asked) (set_of all) None) same

-- a joiner is sent all that a node has
pub welcomed_by : (h0 h : CoreState) (j k : ℕ) (s : Settled) (t u : Made) (m : Letter) → h0 ≡ h → letter_of m
    ≡ AnyLetter.Welcome (with_node j (set_of h0.members)) (with_settled s h0.table) (with_older h0.told) s.fate
    → k ≡ j → u ≡ sent k m t → Welcomes h j s t u
welcomed_by h0 h j k s t u m same is to sends =
    subst (λ (x : CoreState). Welcomes x j s t u) same (m, is, sends ∙ ap (λ (c : ℕ). sent c m t) to)

-- the members are told to admit it
pub admits_by : (h0 h : CoreState) (j : ℕ) (s : Settled) (t u : Made) (l : Letter) → h0 ≡ h
    → letter_of l ≡ AnyLetter.Admit j s → SendsAll h0.members l t u → TellsToAdmit h j s t u
admits_by h0 h j s t u l same is sends = subst (λ (x : CoreState). TellsToAdmit x j s t u) same (l, is, sends)

pub lets_in : (h0 h : CoreState) (t u v x : Made) (w : Work) (asked all : List ℕ) (a j j1 j2 : ℕ) (l m : Letter)
    (s : Settled) (pairs : Table)
    → h0 ≡ h → IsWhole h0 → set_of h0.world j ≡ true → IsNodeSet h0.members
    → ((c : ℕ) → set_of all c ≡ (set_of h0.world c && (set_of h0.members c || (c == j))))
    → w ≡ record h0.registrar { awaited = all } → j1 ≡ j → a ≡ h0.name → u ≡ entered (HasJoined j1 a) t
    → letter_of l ≡ AnyLetter.Admit j s → SendsAll h0.members l u v
    → letter_of m
    ≡ AnyLetter.Welcome (with_node j (set_of h0.members)) (with_settled s h0.table) (with_older h0.told) s.fate
    → j2 ≡ j → x ≡ sent j2 m v → IsAdmitting h j pairs
    → Makes (λ n b. admit n b unnumbered j pairs (set_of asked) s) h t
    (record h0 { registrar = w; phase = Writing asked None }) x
lets_in h0 h t u v x w asked all a j j1 j2 l m s pairs same whole of set are awaits joiner own entering admit_it admits
    welcoming to sends admitting =
    subst (λ (y : CoreState). IsAdmitting y j pairs → Makes (λ n b. admit n b unnumbered j pairs (set_of asked) s) y t k x)
    same (λ current. record {
      name = refl;
      world = refl;
      turn = ap (turn_of k) sends ∙ sent_is k v j2 m
          ∙ ap (λ (c : ℕ). send c (letter_of m) (turn_of k v)) to
          ∙ ap (λ (y : AnyLetter). send j y (turn_of k v)) welcoming
          ∙ ap (λ (y : Turn). send j welcome_letter y) (sent_all_is k u v h0.members l admits set
          (of_world h0.world h0.members whole.members)
          ∙ ap (λ (y : AnyLetter). send_all n (set_of h0.members) y (turn_of k u)) admit_it
          ∙ ap (send_all n (set_of h0.members) (AnyLetter.Admit j s)) (ap (turn_of k) entering
          ∙ entered_is k t (HasJoined j1 a)
          ∙ ap (λ (c : ℕ). enter (AnyEntry.Join c 0 a Joined) (turn_of k t)) joiner
          ∙ ap (λ (c : ℕ). enter (AnyEntry.Join j 0 c Joined) (turn_of k t)) own
          ∙ ap (λ (y : Work). enter (AnyEntry.Join j 0 h0.name Joined)
          (turn_of (record h0 { registrar = y; phase = Writing asked None }) t)) awaits
          ∙ ap (λ (y : Current). enter (AnyEntry.Join j 0 h0.name Joined) (at_work y (turn_of h0 t)))
          (writes h0.registrar.current (AnyOp.Admission j pairs) asked all current)
          ∙ ap (λ (ss : Nodes). enter (AnyEntry.Join j 0 h0.name Joined)
          (at_work (Current.Writing (AnyOp.Admission j pairs) (set_of asked) ss None) (turn_of h0 t)))
          (more_is h0.world h0.members all j are whole.members of)));
    }) admitting
  where
    n : ℕ
    n = bound_of h0.world

    k : CoreState
    k = record h0 { registrar = w; phase = Writing asked None }

    welcome_letter : AnyLetter
    welcome_letter =
        AnyLetter.Welcome (with_node j (set_of h0.members)) (with_settled s h0.table) (with_older h0.told) s.fate

-- j, which has not left, is let in
pub lets_pass : (h0 h k : CoreState) (t u : Made) (asked : List ℕ) (j : ℕ) (pairs : Table) (s : Settled) → h0 ≡ h
    → with_older h0.told j ≡ false → s ≡ settle h.table pairs
    → Makes (λ n a. admit n a unnumbered j pairs (set_of asked) s) h t k u
    → Makes (λ n a. held n a unnumbered (AnyOp.Admission j pairs) (set_of asked)) h t k u
lets_pass h0 h k t u asked j pairs s same here settled M = made_as M (
    ap (λ (y : Settled). admit n h.name unnumbered j pairs (set_of asked) y (turn_of h t)) settled
    ∙ ap (λ (gone : Bool). if gone
    then finish n h.name (AnyOp.Admission j pairs) (set_of asked) None (turn_of h t)
    else admit n h.name unnumbered j pairs (set_of asked) (settle h.table pairs) (turn_of h t))
    (sym here ∙ ap (λ (y : CoreState). with_older y.told j) same)
    )
  where
    n : ℕ
    n = bound_of h.world

-- the current operation is this admission, so what is decided of this is decided of it
pub decides_admission : (h k : CoreState) (t u : Made) (asked : List ℕ) (j : ℕ) (pairs : Table) → IsAdmitting h j pairs
    → Makes (λ n a. held n a unnumbered (AnyOp.Admission j pairs) (set_of asked)) h t k u
    → Works (λ op n a. held n a unnumbered op (set_of asked)) h t k u
decides_admission h k t u asked j pairs admitting M op current =
    let e : Some (op_of op) ≡ Some (AnyOp.Admission j pairs) = ap (option_map op_of) (sym current) ∙ admitting in
    let this : AnyOp.Admission j pairs ≡ op_of op = cc in
    subst (λ (x : AnyOp). Makes (λ n a. held n a unnumbered x (set_of asked)) h t k u) this M
