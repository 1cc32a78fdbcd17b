-- The rules of the registrar, one by one.
use mathlib.Core.Logic.{◌⊎◌}
use Rattle.std.proofs.Common.{ℕ, zero, suc, Bool, true, false, ◌==◌, ◌≡◌, ◌<◌, inl, inr, arith, Option, Some, None, List, [], ◌∷◌, refl, sym, ap, ◌∙◌, subst}
use Rattle.std.specs.Option.{option_map}
use Rattle.std.specs.Prelude.{not, ◌&&◌, ◌||◌, if◌then◌else◌, All, is_some}
use Rattle.std.proofs.lemmas.Bool.{cases_eq, eq-eqb}
use Rattle.std.proofs.Math.Path.{fun_ext}
use Rattle.std.proofs.lemmas.List.{map-append}
use Rattle.registry_model.specs.Process.{Nodes, at}
use Rattle.registry_model.specs.Call.{Reply as AnyReply, reply_to, is_grant, change_of as change_of_call}
use Rattle.registry_model.specs.Table.{Change as AnyChange}
use Rattle.registry_model.specs.History.{Entry as AnyEntry}
use Rattle.protocol_model.specs.Letter.{Letter as AnyLetter, Global}
use Rattle.protocol_model.specs.Node.{Op as AnyOp, Current}
use Rattle.protocol_model.specs.Turn.{Turn, at_work, send_all, enter}
use Rattle.protocol_model.specs.Registrar.{registrar, give_global, answer_op, finish, done, write, decide, await_less}
use Rattle.protocol_model.specs.Round.{is_empty}
use Rattle.term.proofs.Subsets.{set_of-filter}
use Rattle.protocol_model.specs.Deciding.{held}
use Rattle.name_table.specs.declared.change.Change.{Change}
use Rattle.name_table.specs.Changes.{change_of}
use Rattle.lock_calls.proofs.Standing.{without_is}
use Rattle.term.specs.NodeSets.{IsNodeSet, set_of, with_older, without_node}
use Rattle.transaction.specs.declared.op.NameCall.{NameCall}
use Rattle.transaction.specs.declared.op.Op.{Op}
use Rattle.transaction.specs.declared.op.Op.TheVariants.{Name as NameOp}
use Rattle.transaction.specs.Ops.{op_of, name_call_of}
use Rattle.transaction.specs.Work.{Work, is_nobody}
use Rattle.node_events.specs.declared.events.Entry.{Entry}
use Rattle.node_events.specs.declared.events.Entry.TheVariants.{Name, Done}
use Rattle.node_events.specs.declared.events.Letter.{Letter}
use Rattle.node_events.specs.declared.events.Letter.TheVariants.{Apply}
use Rattle.node_events.specs.declared.events.Reply.{Reply}
use Rattle.node_events.specs.declared.events.Reply.TheVariants.{Yes, Ok}
use Rattle.node_core.specs.declared.node.Phase.{Phase}
use Rattle.node_core.specs.declared.node.Phase.TheVariants.{Writing}
use Rattle.node_events.specs.Made.{Made, SendsAll, entered}
use Rattle.node_core.specs.CoreState.{CoreState, bound_of, AreOf, IsWithin, IsWhole}
use Rattle.node_events.specs.Letters.{letter_of}
use Rattle.node_core.specs.Seen.{turn_of, phase_of, current_of}
use Rattle.node_events.specs.Seen.{reply_of, entry_of}
use Rattle.node_core.specs.Steps.{Makes, Works}
use Rattle.node_core.proofs.Whole.{IsWorkWithin, whole_at}
use Rattle.node_core.proofs.Bounds.{all_below, of_world}
use Rattle.node_core.proofs.Sends.{sent_all_is}

-- one rule behind another
pub followed : {f g : ℕ → ℕ → Turn → Turn} {h k m : CoreState} {t u v : Made} → Makes f h t k u → Makes g k u m v
    → Makes (λ n a x. g n a (f n a x)) h t m v
followed {f} {g} {h} {k} {m} {t} {u} {v} p q = record {
  name = q.name ∙ p.name;
  world = q.world ∙ p.world;
  turn = q.turn ∙ ap (λ (w : List ℕ). g (bound_of w) k.name (turn_of k u)) p.world
      ∙ ap (λ (a : ℕ). g (bound_of h.world) a (turn_of k u)) p.name
      ∙ ap (g (bound_of h.world) h.name) p.turn;
}

-- the lock goes back to these
pub gives_global : (h : CoreState) (t u : Made) (cs : List ℕ) (l : Letter) → IsNodeSet cs → IsWithin h.world cs
    → letter_of l ≡ AnyLetter.GiveBack (Global h.name) (registrar h.name) false → SendsAll cs l t u
    → Makes (λ n a. give_global n a (set_of cs)) h t h u
gives_global h t u cs l set within is made = record {
  name = refl;
  world = refl;
  turn = sent_all_is h t u cs l made set within
      ∙ ap (λ (x : AnyLetter). send_all (bound_of h.world) (set_of cs) x (turn_of h t)) is;
}

-- an entry more
pub entered_is : (h : CoreState) (t : Made) (e : Entry) → turn_of h (entered e t) ≡ enter (entry_of e) (turn_of h t)
entered_is h t e = ap (λ (es : List AnyEntry). record (turn_of h t) { entries = es })
    (map-append entry_of t.entries (e ∷ []))

-- the phase of a current operation
pub phased : (h : CoreState) (t : Made) (op : Op) (p : Phase) → h.registrar.current ≡ Some op
    → turn_of (record h { phase = p }) t ≡ at_work (phase_of op h.registrar.awaited p) (turn_of h t)
phased h t op p is = ap (λ (o : Option Op). at_work (current_of o h.registrar.awaited p) (turn_of h t)) is

-- the end: the answer, and the lock goes back to those that were asked and haven't gone: less
pub finishes : (h0 h : CoreState) (t u v : Made) (w : Work) (asked less : List ℕ) (reply : Option AnyReply) → h0 ≡ h
    → w ≡ record h0.registrar { current = None; awaited = [] }
    → ((c : ℕ) → set_of less c ≡ (set_of asked c && not (with_older h0.told c)))
    → Works (λ op n a. answer_op n a op reply) h t h u → Makes (λ n a. give_global n a (set_of less)) h u h v
    → Works (λ op n a. finish n a op (set_of asked) reply) h t (record h0 { registrar = w }) v
finishes h0 h t u v w asked less reply same ended are =
    subst (λ (x : CoreState). Works (λ op n a. answer_op n a op reply) x t x u
    → Makes (λ n a. give_global n a (set_of less)) x u x v
    → Works (λ op n a. finish n a op (set_of asked) reply) x t (record h0 { registrar = w }) v) same
    (λ A G op is. record {
      name = refl;
      world = refl;
      turn = ap (λ (x : Work). turn_of (record h0 { registrar = x }) v) ended
          ∙ ap (at_work Current.Free) (G.turn
          ∙ ap (λ (s : Nodes). give_global (bound_of h0.world) h0.name s (turn_of h0 u)) (fun_ext are)
          ∙ ap (give_global (bound_of h0.world) h0.name (λ c. set_of asked c && not (with_older h0.told c)))
          (A op is).turn);
    })

-- done: the entry, and then the end
pub does : (h0 h k : CoreState) (t u v : Made) (a : ℕ) (asked : Nodes) (reply : Option AnyReply) → h0 ≡ h → a ≡ h0.name → u
    ≡ entered (Done a) t
    → Works (λ op n a. finish n a op asked reply) h0 u k v → Works (λ op n a. done n a op asked reply) h t k v
does h0 h k t u v a asked reply same here made W =
    subst (λ (x : CoreState). Works (λ op n a. done n a op asked reply) x t k v) same (λ op is. record {
      name = (W op is).name;
      world = (W op is).world;
      turn = (W op is).turn
          ∙ ap (finish (bound_of h0.world) h0.name (op_of op) asked reply)
          (ap (turn_of h0) made ∙ entered_is h0 t (Done a)
          ∙ ap (λ (b : ℕ). enter (AnyEntry.Done b) (turn_of h0 t)) here);
    })

-- the change goes to every member
pub writes : (h0 h : CoreState) (t u : Made) (w : Work) (asked : List ℕ) (reply : Option Reply) (change : Change) → h0 ≡ h
    → IsNodeSet h0.members → AreOf h0.world h0.members
    → w ≡ record h0.registrar { awaited = h0.members } → SendsAll h0.members (Apply change) t u
    → Works (λ op n a. write n a op (set_of asked) (option_map reply_of reply) (change_of change)) h t
    (record h0 { registrar = w; phase = Writing asked reply }) u
writes h0 h t u w asked reply change same set are awaits made =
    subst (λ (x : CoreState). Works rule x t (record h0 { registrar = w; phase = Writing asked reply }) u) same
    (subst (λ (y : Work). Works rule h0 t (record h0 { registrar = y; phase = Writing asked reply }) u) (sym awaits)
    (λ op is. record {
      name = refl;
      world = refl;
      turn = sent_all_is k t u h0.members (Apply change) made set (of_world h0.world h0.members are)
          ∙ ap (λ (x : Turn). send_all (bound_of h0.world) (set_of h0.members) (AnyLetter.Apply (change_of change)) x)
          (ap (λ (o : Option Op). at_work (current_of o h0.members (Writing asked reply)) (turn_of h0 t)) is);
    }))
  where
    rule : AnyOp → ℕ → ℕ → Turn → Turn
    rule op n a = write n a op (set_of asked) (option_map reply_of reply) (change_of change)

    k : CoreState
    k = record h0 { registrar = record h0.registrar { awaited = h0.members }; phase = Writing asked reply }

-- the only current operation is this
pub current_is : (h : CoreState) (op other : Op) → h.registrar.current ≡ Some op → h.registrar.current ≡ Some other
    → other ≡ op
current_is h op other e f = cc

-- a granted call is written; its entry has a copy of the reply
pub grants : (h0 h k : CoreState) (t u v : Made) (asked : List ℕ) (i : ℕ) (c : NameCall) (r s : Reply) (change : Change)
    → h0 ≡ h
    → h0.registrar.current ≡ Some (NameOp i c)
    → reply_of r ≡ reply_to (set_of h0.members) h0.table (name_call_of c) → is_grant (reply_of r) ≡ true
    → change_of change ≡ change_of_call (name_call_of c) → reply_of s ≡ reply_of r
    → u ≡ entered (Name h0.name i c s) t
    → Works (λ op n a. write n a op (set_of asked) (Some (reply_of r)) (change_of change)) h0 u k v
    → (number : ℕ → ℕ) → Works (λ op n a. held n a number op (set_of asked)) h t k v
grants h0 h k t u v asked i c r s change same cur reply yes_ changes copied made W number =
    subst (λ (x : CoreState). Works (λ op n a. held n a number op (set_of asked)) x t k v) same
    (λ op is. subst (λ (o : Op). Makes (λ n a. held n a number (op_of o) (set_of asked)) h0 t k v)
    (sym (current_is h0 (NameOp i c) op cur is)) (record {
      name = (W (NameOp i c) cur).name;
      world = (W (NameOp i c) cur).world;
      turn = (W (NameOp i c) cur).turn
          ∙ ap (λ (x : AnyChange). write n a call (set_of asked) (Some (reply_of r)) x (turn_of h0 u)) changes
          ∙ ap (write n a call (set_of asked) (Some (reply_of r)) (change_of_call (name_call_of c)))
          (ap (turn_of h0) made ∙ entered_is h0 t (Name h0.name i c s)
          ∙ ap (λ (x : AnyReply). enter (AnyEntry.Name h0.name i (name_call_of c) x) (turn_of h0 t)) copied)
          ∙ ap (λ (b : Bool). if b
          then write n a call (set_of asked) (Some (reply_of r)) (change_of_call (name_call_of c))
          (enter entry (turn_of h0 t))
          else finish n a call (set_of asked) (Some (reply_of r)) (enter entry (turn_of h0 t))) (sym yes_)
          ∙ ap (λ (x : AnyReply). decide n a i (name_call_of c) (set_of asked) x (turn_of h0 t)) reply;
    }))
  where
    n : ℕ
    n = bound_of h0.world

    a : ℕ
    a = h0.name

    call : AnyOp
    call = AnyOp.Name i (name_call_of c)

    entry : AnyEntry
    entry = AnyEntry.Name h0.name i (name_call_of c) (reply_of r)

-- it is `yes` or `ok` that grants
pub granted_by : (r : Reply) → (r ≡ Yes) ⊎ (r ≡ Ok) → is_grant (reply_of r) ≡ true
granted_by r (inl e) = ap (λ (x : Reply). is_grant (reply_of x)) e
granted_by r (inr e) = ap (λ (x : Reply). is_grant (reply_of x)) e

-- nobody is left below n
nobody_left : (n : ℕ) → is_empty n (set_of []) ≡ true
nobody_left zero = refl
nobody_left (suc n) = nobody_left n

-- somebody is left below n
somebody_left : (n : ℕ) (s : Nodes) (c : ℕ) → c < n → s c ≡ true → is_empty n s ≡ false
somebody_left zero s c l e = absurd (omega arith)
somebody_left (suc n) s c l e = elim (cases_eq c n) [
  | inl same ↦ ap (λ (b : Bool). not b && is_empty n s) (subst (λ (d : ℕ). s d ≡ true) same e)
  | inr ne ↦ and_no (not (s n)) (somebody_left n s c (omega arith) e)
]
  where
    and_no : (b : Bool) {t : Bool} → t ≡ false → (b && t) ≡ false
    and_no true e = e
    and_no false e = refl

-- the nodes of a list are none where the list is empty
pub nobody_is : (n : ℕ) (xs : List ℕ) → All (λ c. c < n) xs → is_empty n (set_of xs) ≡ is_nobody xs
nobody_is n [] below = nobody_left n
nobody_is n (x ∷ xs) below =
    somebody_left n (set_of (x ∷ xs)) x (below 0 0 (omega arith))
    (ap (λ (b : Bool). b || set_of xs x) (eq-eqb x x refl))

-- one node less
pub less_are : (world xs : List ℕ) (f : ℕ) → AreOf world xs → AreOf world (without_node xs f)
less_are world xs f are = λ c e. are c (passes (set_of xs c) (not (c == f))
    (sym (set_of-filter (λ m. not (m == f)) xs c) ∙ e))
  where
    passes : (a b : Bool) → (a && b) ≡ true → a ≡ true
    passes true b e = refl
    passes false b e = e

-- the same of nodes that have started
pub less_within : (world xs : List ℕ) (f : ℕ) → IsWithin world xs → IsWithin world (without_node xs f)
less_within world xs f within = λ c e. within c (passes (set_of xs c) (not (c == f))
    (sym (set_of-filter (λ m. not (m == f)) xs c) ∙ e))
  where
    passes : (a b : Bool) → (a && b) ≡ true → a ≡ true
    passes true b e = refl
    passes false b e = e

-- one node less is awaited
pub whole_less : (h : CoreState) (w : Work) (f : ℕ) → IsWhole h → w
    ≡ record h.registrar { awaited = without_node h.registrar.awaited f } → IsWhole (record h { registrar = w })
whole_less h w f whole is = whole_at h w whole (subst (IsWorkWithin h.world) (sym is) (record {
  queue = whole.queue;
  current = whole.current;
  awaited = less_within h.world h.registrar.awaited f whole.awaited;
}))

-- the end of an operation is one, wherever it stood
ends_anywhere : (n a : ℕ) (op : AnyOp) (asked : Nodes) (reply : Option AnyReply) (x : Current) (u : Turn)
    → done n a op asked reply (at_work x u) ≡ done n a op asked reply u
ends_anywhere n a (AnyOp.Name k c) asked (Some r) x u = refl
ends_anywhere n a (AnyOp.Name k c) asked None x u = refl
ends_anywhere n a (AnyOp.Strike p) asked reply x u = refl
ends_anywhere n a (AnyOp.Admission j ps) asked reply x u = refl
ends_anywhere n a (AnyOp.Join k m) asked reply x u = refl

module _ (h0 h : CoreState) (t : Made) (w : Work) (f : ℕ) (asked : List ℕ) (reply : Option Reply) (same : h0 ≡ h)
    (whole : IsWhole h0)
    (writing : h0.phase ≡ Writing asked reply) (was : set_of h0.registrar.awaited f ≡ true)
    (less : w ≡ record h0.registrar { awaited = without_node h0.registrar.awaited f }) where
  abbrev rule : ℕ → ℕ → Turn → Turn
  rule n a u = await_less n a f u.node.current u

  -- the same, of a node that is known to write, and awaits f
  at_it : (op : Op) (u : Turn) → (b : Bool) → is_nobody (without_node h0.registrar.awaited f) ≡ b
      → await_less (bound_of h0.world) h0.name f (Current.Writing (op_of op) (set_of asked)
      (set_of h0.registrar.awaited) (option_map reply_of reply)) u
      ≡ (if b
      then done (bound_of h0.world) h0.name (op_of op) (set_of asked) (option_map reply_of reply) u
      else at_work (Current.Writing (op_of op) (set_of asked) (set_of (without_node h0.registrar.awaited f))
      (option_map reply_of reply)) u)
  at_it op u b left =
      ap (λ (x : Bool). if x then inner (at (set_of h0.registrar.awaited) f false) else u) was
      ∙ ap inner (sym (without_is h0.registrar.awaited f))
      ∙ ap (λ (x : Bool). if x
      then done (bound_of h0.world) h0.name (op_of op) (set_of asked) (option_map reply_of reply) u
      else at_work (Current.Writing (op_of op) (set_of asked) (set_of (without_node h0.registrar.awaited f))
      (option_map reply_of reply)) u)
      (nobody_is (bound_of h0.world) (without_node h0.registrar.awaited f)
      (all_below h0.world (without_node h0.registrar.awaited f)
      (less_within h0.world h0.registrar.awaited f whole.awaited)) ∙ left)
    where
      inner : Nodes → Turn
      inner s = if is_empty (bound_of h0.world) s
          then done (bound_of h0.world) h0.name (op_of op) (set_of asked) (option_map reply_of reply) u
          else at_work (Current.Writing (op_of op) (set_of asked) s (option_map reply_of reply)) u

  -- the operation is done; another phase may stand there by then
  pub last_awaited : (k : CoreState) (u : Made) (p : Phase) → is_some h0.registrar.current ≡ true
      → is_nobody w.awaited ≡ true → Works (λ op n a. done n a op (set_of asked) (option_map reply_of reply))
      (record h0 { registrar = w; phase = p }) t k u
      → Makes rule h t k u
  last_awaited k u p cur left W = subst (λ (x : CoreState). Makes rule x t k u) same
      (go h0.registrar.current refl cur (subst (λ (v : Work). Works
      (λ op n a. done n a op (set_of asked) (option_map reply_of reply))
      (record h0 { registrar = v; phase = p }) t k u) less W))
    where
      go : (o : Option Op) → h0.registrar.current ≡ o → is_some o ≡ true
          → Works (λ op n a. done n a op (set_of asked) (option_map reply_of reply))
          (record h0 {
            registrar = record h0.registrar { awaited = without_node h0.registrar.awaited f };
            phase = p;
          }) t k u
          → Makes rule h0 t k u
      go None e some V = cc
      go (Some op) e some V = record {
        name = (V op e).name;
        world = (V op e).world;
        turn = (V op e).turn
            ∙ ends_anywhere (bound_of h0.world) h0.name (op_of op) (set_of asked) (option_map reply_of reply)
            (current_of h0.registrar.current (without_node h0.registrar.awaited f) p) (turn_of h0 t)
            ∙ sym (at_it op (turn_of h0 t) true (ap (λ (v : Work). is_nobody v.awaited) (sym less) ∙ left))
            ∙ ap (λ (x : Current). await_less (bound_of h0.world) h0.name f x (turn_of h0 t))
            (sym (ap (λ (x : Option Op). current_of x h0.registrar.awaited h0.phase) e
            ∙ ap (phase_of op h0.registrar.awaited) writing));
      }

  -- others are awaited still
  pub more_awaited : is_some h0.registrar.current ≡ true → is_nobody w.awaited ≡ false
      → Makes rule h t (record h0 { registrar = w }) t
  more_awaited cur left = subst (λ (x : CoreState). Makes rule x t (record h0 { registrar = w }) t) same
      (subst (λ (v : Work). Makes rule h0 t (record h0 { registrar = v }) t) (sym less)
      (go h0.registrar.current refl cur))
    where
      go : (o : Option Op) → h0.registrar.current ≡ o → is_some o ≡ true
          → Makes rule h0 t (record h0 {
            registrar = record h0.registrar
                { awaited = without_node h0.registrar.awaited f };
          }) t
      go None e some = cc
      go (Some op) e some = record {
        name = refl;
        world = refl;
        turn = ap (λ (x : Option Op). at_work (current_of x (without_node h0.registrar.awaited f) h0.phase)
            (turn_of h0 t)) e
            ∙ ap (λ (p : Phase). at_work (phase_of op (without_node h0.registrar.awaited f) p) (turn_of h0 t)) writing
            ∙ sym (at_it op (turn_of h0 t) false (ap (λ (v : Work). is_nobody v.awaited) (sym less) ∙ left))
            ∙ ap (λ (x : Current). await_less (bound_of h0.world) h0.name f x (turn_of h0 t))
            (sym (ap (λ (x : Option Op). current_of x h0.registrar.awaited h0.phase) e
            ∙ ap (phase_of op h0.registrar.awaited) writing));
      }
