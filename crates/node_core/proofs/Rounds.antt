-- The rules of the registrar's rounds, one by one.
use Rattle.std.proofs.Common.{ℕ, Bool, true, false, zero, suc, ◌==◌, ◌≡◌, ◌<◌, ◌-◌, Option, Some, None, List, [], ◌∷◌, take, length, refl, sym, ap, ◌∙◌, subst}
use Rattle.std.specs.Option.{option_map}
use Rattle.std.specs.Prelude.{not, ◌&&◌, ◌||◌, if◌then◌else◌, All, is_some}
use Rattle.std.proofs.Math.Path.{fun_ext}
use Rattle.registry_model.specs.Process.{Process, Nodes}
use Rattle.protocol_model.specs.Letter.{Letter as AnyLetter, Global}
use Rattle.protocol_model.specs.Node.{Op as AnyOp, Current}
use Rattle.protocol_model.specs.Round.{Round, begin, greatest, rest, opens, owes, answer, down, is_over, asked as asked_by, granted as granted_of, ending, Ending as AnyEnding, Held as IsHeld, GiveBack as GiveBackTo}
use Rattle.protocol_model.specs.Turn.{Turn, at_work, send, send_all}
use Rattle.protocol_model.specs.Registrar.{registrar, ask_global, ask_rest, start_queue, start_next, start_free, start, give_up}
use Rattle.protocol_model.specs.Deciding.{held, end_by, end_round, hear_answer, lose}
use Rattle.protocol_model.specs.Reading.{lose_current}
use Rattle.protocol_model.specs.Watch.{Watch as AnyWatch, owed}
use Rattle.exit_watch.specs.WatchState.{WatchState, process_of}
use Rattle.term.specs.NodeSets.{IsNodeSet, set_of, with_older}
use Rattle.boss_order.specs.Boss.{others_of}
use Rattle.term.proofs.Subsets.{set_of-filter}
use Rattle.locker.specs.declared.ending.Ending.{Ending}
use Rattle.locker.specs.declared.ending.Ending.TheVariants.{Held as Holds, GiveBack}
use Rattle.locker.specs.RoundState.{RoundState, seen}
use Rattle.locker.specs.Ends.{EndsAs, end_of, granted_by, is_won}
use Rattle.transaction.specs.declared.op.Op.{Op}
use Rattle.transaction.specs.declared.op.Op.TheVariants.{Strike as StrikeOp}
use Rattle.transaction.specs.Ops.{op_of}
use Rattle.transaction.specs.Work.{Work, started}
use Rattle.node_events.specs.declared.events.Letter.{Letter}
use Rattle.node_core.specs.declared.node.Phase.{Phase}
use Rattle.node_core.specs.declared.node.Phase.TheVariants.{Asking}
use Rattle.node_events.specs.Made.{Made, sent, SendsAll}
use Rattle.node_core.specs.CoreState.{CoreState, bound_of, AreOf, IsWithin, IsPhaseWithin}
use Rattle.node_events.specs.Letters.{letter_of}
use Rattle.node_core.specs.Seen.{node_of, turn_of, current_of, phase_of}
use Rattle.node_core.specs.Steps.{Makes, Works}
use Rattle.node_core.proofs.Bounds.{all_below, of_world}
use Rattle.node_core.proofs.Sends.{sent_is, sent_all_is}

-- the boss is asked
pub asks_global : (h0 h : CoreState) (t u : Made) (b : ℕ) (l : Letter) (r : RoundState) → h0 ≡ h
    → AreOf h0.world h0.members
    → ((n : ℕ) → All (λ c. c < n) h0.members → b ≡ greatest n (set_of h0.members))
    → letter_of l ≡ AnyLetter.SetLock (Global h0.name) (registrar h0.name)
    → ((n : ℕ) → All (λ c. c < n) h0.members → seen r ≡ begin n (set_of h0.members))
    → u ≡ sent b l t → Works (λ op n a. ask_global n a op) h t (record h0 { phase = Asking r }) u
asks_global h0 h t u b l r same are boss is begun made =
    subst (λ (x : CoreState). Works (λ op n a. ask_global n a op) x t (record h0 { phase = Asking r }) u) same
    (λ op cur. record {
      name = refl;
      world = refl;
      turn = ap (turn_of k) made ∙ sent_is k t b l
          ∙ ap (λ (c : ℕ). send c (letter_of l) (turn_of k t)) (boss n below)
          ∙ ap (λ (x : AnyLetter). send (greatest n (set_of h0.members)) x (turn_of k t)) is
          ∙ ap (λ (x : Turn). send (greatest n (set_of h0.members))
          (AnyLetter.SetLock (Global h0.name) (registrar h0.name)) x)
          (ap (λ (o : Option Op). at_work (current_of o h0.registrar.awaited (Asking r)) (turn_of h0 t)) cur
          ∙ ap (λ (x : Round). at_work (Current.Asking (op_of op) x) (turn_of h0 t)) (begun n below));
    })
  where
    k : CoreState
    k = record h0 { phase = Asking r }

    n : ℕ
    n = bound_of h0.world

    below : All (λ c. c < n) h0.members
    below = all_below h0.world h0.members (of_world h0.world h0.members are)

-- the first of these nodes are of them
within_first : (k : ℕ) (xs : List ℕ) (c : ℕ) → set_of (take k xs) c ≡ true → set_of xs c ≡ true
within_first zero xs c e = cc
within_first (suc k) [] c e = e
within_first (suc k) (x ∷ xs) c e = go (x == c) e (within_first k xs c)
  where
    go : (b : Bool) → (b || set_of (take k xs) c) ≡ true → (set_of (take k xs) c ≡ true → set_of xs c ≡ true)
        → (b || set_of xs c) ≡ true
    go true f more = refl
    go false f more = more f

-- what is of two tests passes the first
pub first_passes : (a b : Bool) → (a && b) ≡ true → a ≡ true
first_passes true b e = refl
first_passes false b e = e

-- the rest are asked, but for those that have gone: ys, of xs
pub asks_rest : (h : CoreState) (t u : Made) (r : RoundState) (f : ℕ) (g : Bool) (xs ys : List ℕ) (l : Letter) → IsNodeSet ys
    → IsWithin h.world r.nodes
    → xs ≡ others_of r.nodes → set_of xs ≡ rest (seen r)
    → ((c : ℕ) → set_of ys c ≡ (set_of xs c && not (with_older h.told c))) → opens f g (seen r) ≡ true
    → SendsAll ys l t u
    → Makes (λ n a. ask_rest n a f g (letter_of l) (seen r)) h t h u
asks_rest h t u r f g xs ys l set within others is are first made = record {
  name = refl;
  world = refl;
  turn = sent_all_is h t u ys l made set
      (λ c e. within c (within_first (length r.nodes - 1) r.nodes c
      (subst (λ (zs : List ℕ). set_of zs c ≡ true) others
      (first_passes (set_of xs c) (not (with_older h.told c)) (sym (are c) ∙ e)))))
      ∙ ap (λ (s : Nodes). send_all (bound_of h.world) s (letter_of l) (turn_of h t))
      (fun_ext are ∙ ap {B = Nodes} (λ (s : Nodes). λ x. s x && not (with_older h.told x)) is)
      ∙ ap (λ (b : Bool). if b
      then send_all (bound_of h.world) (λ x. rest (seen r) x && not (with_older h.told x)) (letter_of l) (turn_of h t)
      else turn_of h t) (sym first);
}

-- the watch was asked for an owed strike, and then the registrar began
module _ (h0 h : CoreState) (t : Made) (w : Work) (v : WatchState) (strike : Option Process) (same : h0 ≡ h)
    (watch : v.watch ≡ h0.watch.watch)
    (owes_it : strike ≡ option_map (process_of h0.watch) (owed h0.watch.node h0.table h0.watch.watch))
    (own : h0.watch.node ≡ h0.name) (begun : w ≡ started strike h0.registrar) where
  -- the serial of the strike that is owed
  abbrev owed_serial : Option ℕ
  owed_serial = owed h0.name h0.table h0.watch.watch

  -- the process that it strikes
  abbrev struck : Option ℕ → Option Process
  struck o = option_map (λ s. record { node = h0.name; serial = s }) o

  -- the registrar, where this is current and these wait
  abbrev at_ops : Option Op → List Op → Work
  at_ops cur ops = record h0.registrar { current = cur; queue = ops }

  -- the node, with this registrar, once its watch was asked
  abbrev once_asked : Work → CoreState
  once_asked x = record h0 { registrar = x; watch = record v { watch = h0.watch.watch } }

  -- the strike is the protocol's
  strike_is : strike ≡ struck owed_serial
  strike_is = owes_it ∙ ap (λ (a : ℕ). option_map (λ s. record { node = a; serial = s })
      (owed a h0.table h0.watch.watch)) own

  -- the registrar began as the protocol has it
  begun_is : w ≡ started (struck owed_serial) h0.registrar
  begun_is = begun ∙ ap (λ (o : Option Process). started o h0.registrar) strike_is

  -- the strike that is owed begins
  pub starts_strike : (k : CoreState) (u : Made) → is_some strike ≡ true → is_some h0.registrar.current ≡ false
      → Works (λ op n a. ask_global n a op) (record h0 { registrar = w; watch = v }) t k u → Makes start h t k u
  starts_strike k u some free W =
      subst (λ (x : CoreState). Makes start x t k u) same
      (go h0.registrar.current h0.registrar.queue free (ap is_some (sym strike_is) ∙ some)
      (subst (λ (x : Work). Works (λ op n a. ask_global n a op) (once_asked x) t k u) begun_is
      (subst (λ (x : AnyWatch). Works (λ op n a. ask_global n a op)
      (record h0 { registrar = w; watch = record v { watch = x } }) t k u) watch W)))
    where
      next : (o : Option ℕ) (ops : List Op) → is_some (struck o) ≡ true
          → Works (λ op n a. ask_global n a op) (once_asked (started (struck o) (at_ops None ops))) t k u
          → Makes (λ n a. start_next n a o) (record h0 { registrar = at_ops None ops }) t k u
      next (Some s) ops yes_ V =
          let M = V (StrikeOp (record { node = h0.name; serial = s })) refl in
          record { name = M.name; world = M.world; turn = M.turn }
      next None ops yes_ V = cc

      go : (cur : Option Op) (ops : List Op) → is_some cur ≡ false → is_some (struck owed_serial) ≡ true
          → Works (λ op n a. ask_global n a op) (once_asked (started (struck owed_serial) (at_ops cur ops))) t k u
          → Makes start (record h0 { registrar = at_ops cur ops }) t k u
      go None ops free_ yes_ V =
          let M = next owed_serial ops yes_ V in record { name = M.name; world = M.world; turn = M.turn }
      go (Some op) ops free_ yes_ V = cc

-- there is nothing
is_nothing : {A : Type 0} (o : Option A) → is_some o ≡ false → o ≡ None
is_nothing None e = refl
is_nothing (Some x) e = cc

-- the watch was asked for an owed strike, and there was none: a free registrar begins what waits
pub starts_waiting : (h0 h k : CoreState) (t u : Made) (v : WatchState) (strike : Option Process) → h0 ≡ h → v.watch ≡ h0.watch.watch
    → strike ≡ option_map (process_of h0.watch) (owed h0.watch.node h0.table h0.watch.watch) → h0.watch.node ≡ h0.name
    → is_some strike ≡ false → is_some h0.registrar.current ≡ false
    → Makes (λ n a x. start_queue n a x.node.queue x) (record h0 { watch = v }) t k u → Makes start h t k u
starts_waiting h0 h k t u v strike same watch owes_it own nothing free M =
    subst (λ (x : CoreState). Makes start x t k u) same (record {
      name = M.name;
      world = M.world;
      turn = M.turn
          ∙ ap (λ (x : AnyWatch). start_queue n h0.name (node_of h0).queue
          (record (turn_of h0 t) { node = record (node_of h0) { watch = x } })) watch
          ∙ ap (λ (o : Option ℕ). start_next n h0.name o (turn_of h0 t)) (sym (none owed_serial at_name))
          ∙ ap (λ (o : Option Op). start_free n h0.name (current_of o h0.registrar.awaited h0.phase) (turn_of h0 t))
          (sym (is_nothing h0.registrar.current free));
    })
  where
    n : ℕ
    n = bound_of h0.world

    owed_serial : Option ℕ
    owed_serial = owed h0.name h0.table h0.watch.watch

    at_name : is_some (option_map (process_of h0.watch) owed_serial) ≡ false
    at_name = ap (λ (a : ℕ). is_some (option_map (process_of h0.watch) (owed a h0.table h0.watch.watch))) (sym own)
        ∙ ap is_some (sym owes_it) ∙ nothing

    none : (o : Option ℕ) → is_some (option_map (process_of h0.watch) o) ≡ false → o ≡ None
    none None e = refl
    none (Some serial) e = cc

-- the end is that the lock is held
pub held_end : (x : AnyEnding) → EndsAs Holds x → x ≡ IsHeld
held_end IsHeld e = refl
held_end (GiveBackTo s) e = absurd e

-- the end is that these get it back
pub failed_end : (xs : List ℕ) (x : AnyEnding) → EndsAs (GiveBack xs) x → x ≡ GiveBackTo (set_of xs)
failed_end xs IsHeld e = absurd e
failed_end xs (GiveBackTo s) e = ap GiveBackTo (sym (fun_ext e))

-- who gets it back was asked
pub granted_within : (world members xs : List ℕ) (r : RoundState) (e : Ending) → IsWithin world r.nodes → e
    ≡ end_of members r → e ≡ GiveBack xs → IsWithin world xs
granted_within world members xs r e within value is = go (is_won members r) (sym is ∙ value)
  where
    go : (b : Bool) → GiveBack xs ≡ (if b then Holds else GiveBack (granted_by r)) → IsWithin world xs
    go true f = cc
    go false f = λ c i. within c (first_passes (set_of r.nodes c) (granted_of (seen r) c)
        (sym (set_of-filter (granted_of (seen r)) r.nodes c) ∙ subst (λ (ys : List ℕ). set_of ys c ≡ true) (same f) i))
      where
        same : GiveBack xs ≡ GiveBack (granted_by r) → xs ≡ granted_by r
        same g = cc

-- the nodes of a phase's round have started
pub round_within : (world : List ℕ) (p : Phase) (r : RoundState) → p ≡ Asking r → IsPhaseWithin world p
    → IsWithin world r.nodes
round_within world p r is within = subst (λ (q : Phase). IsPhaseWithin world q) is within

-- a phase has one round
pub one_round : (p : Phase) (r s : RoundState) → p ≡ Asking r → p ≡ Asking s → r ≡ s
one_round p r s e f = cc

module _ (h0 h : CoreState) (t : Made) (r : RoundState) (over : Bool) (same : h0 ≡ h) (asking : h0.phase ≡ Asking r)
    (phase : IsPhaseWithin h0.world h0.phase)
    (ends : (n : ℕ) → All (λ c. c < n) r.nodes → over ≡ is_over n (seen r)) where
  abbrev n0 : ℕ
  n0 = bound_of h0.world

  nodes_below : All (λ c. c < n0) r.nodes
  nodes_below = all_below h0.world r.nodes (round_within h0.world h0.phase r asking phase)

  -- a rule of this round is one of the phase's round, whichever is named
  named : (rule : RoundState → AnyOp → ℕ → ℕ → Turn → Turn) (k : CoreState) (u : Made) → Works (rule r) h0 t k u
      → (round : RoundState) → h.phase ≡ Asking round → Works (rule round) h t k u
  named rule k u W round is = subst (λ (x : CoreState). Works (rule round) x t k u) same
      (subst (λ (x : RoundState). Works (rule x) h0 t k u)
      (one_round h0.phase r round asking (ap (λ (x : CoreState). x.phase) same ∙ is)) W)

  -- the round goes on
  pub goes_on : over ≡ false → (number : ℕ → ℕ) (round : RoundState) → h.phase ≡ Asking round
      → Works (λ op n a. end_round n a number op (seen round)) h t h0 t
  goes_on not_over number = named (λ s op n a. end_round n a number op (seen s)) h0 t (λ op is. record {
    name = refl;
    world = refl;
    turn = ap (λ (b : Bool). if b
        then end_by n0 h0.name number (ending n0 (set_of h0.members) (seen r)) (op_of op) (asked_by (seen r))
        (turn_of h0 t)
        else turn_of h0 t) (sym not_over ∙ ends n0 nodes_below);
  })

  module _ (members : AreOf h0.world h0.members) (e : Ending)
      (is_end : (n : ℕ) → All (λ c. c < n) r.nodes → All (λ c. c < n) h0.members
      → EndsAs e (ending n (set_of h0.members) (seen r))) where
    end_here : EndsAs e (ending n0 (set_of h0.members) (seen r))
    end_here = is_end n0 nodes_below (all_below h0.world h0.members (of_world h0.world h0.members members))

    -- the round ends so
    ends_so : (number : ℕ → ℕ) (op : Op) (x : AnyEnding) → over ≡ true → ending n0 (set_of h0.members) (seen r) ≡ x
        → end_by n0 h0.name number x (op_of op) (asked_by (seen r)) (turn_of h0 t)
        ≡ end_round n0 h0.name number (op_of op) (seen r) (turn_of h0 t)
    ends_so number op x is_over_ f =
        ap (λ (y : AnyEnding). end_by n0 h0.name number y (op_of op) (asked_by (seen r)) (turn_of h0 t)) (sym f)
        ∙ ap (λ (b : Bool). if b
        then end_by n0 h0.name number (ending n0 (set_of h0.members) (seen r)) (op_of op) (asked_by (seen r))
        (turn_of h0 t)
        else turn_of h0 t) (sym is_over_ ∙ ends n0 nodes_below)

    -- it is held
    pub ends_held : (k : CoreState) (u : Made) (xs : List ℕ) → over ≡ true → e ≡ Holds → set_of xs ≡ asked_by (seen r)
        → (number : ℕ → ℕ) → Works (λ op n a. held n a number op (set_of xs)) h0 t k u
        → (round : RoundState) → h.phase ≡ Asking round → Works (λ op n a. end_round n a number op (seen round)) h t k u
    ends_held k u xs is_over_ is asked number W = named (λ s op n a. end_round n a number op (seen s)) k u
        (λ op cur. record {
          name = (W op cur).name;
          world = (W op cur).world;
          turn = (W op cur).turn ∙ ap (λ (s : Nodes). held n0 h0.name number (op_of op) s (turn_of h0 t)) asked
              ∙ ends_so number op IsHeld is_over_ (held_end _
              (subst (λ (x : Ending). EndsAs x (ending n0 (set_of h0.members) (seen r))) is end_here));
        })

    -- it failed
    pub ends_failed : (k : CoreState) (u : Made) (xs : List ℕ) → over ≡ true → e ≡ GiveBack xs
        → (number : ℕ → ℕ) → Works (λ op n a. give_up n a op (set_of xs)) h0 t k u
        → (round : RoundState) → h.phase ≡ Asking round → Works (λ op n a. end_round n a number op (seen round)) h t k u
    ends_failed k u xs is_over_ is number W = named (λ s op n a. end_round n a number op (seen s)) k u
        (λ op cur. record {
          name = (W op cur).name;
          world = (W op cur).world;
          turn = (W op cur).turn
              ∙ ends_so number op (GiveBackTo (set_of xs)) is_over_
              (failed_end xs _ (subst (λ (x : Ending). EndsAs x (ending n0 (set_of h0.members) (seen r))) is end_here));
        })

-- an answer that is owed is taken in
pub hears : (h h2 k : CoreState) (t u v : Made) (r r2 : RoundState) (f : ℕ) (g : Bool) (number : ℕ → ℕ) → h.phase ≡ Asking r
    → owes (seen r) f ≡ true
    → is_some h.registrar.current ≡ true → Makes (λ n a. ask_rest n a f g (AnyLetter.SetLock (Global a) (registrar a))
    (seen r)) h t h u
    → seen r2 ≡ answer f g (seen r) → h2 ≡ record h { phase = Asking r2 }
    → Works (λ op n a. end_round n a number op (seen r2)) h2 u k v
    → Makes (λ n a w. hear_answer n a number f g w.node.current w) h t k v
hears h h2 k t u v r r2 f g number asking owed busy rest answered is W =
    go h.registrar.current refl busy (subst (λ (x : CoreState). Works (λ op n a. end_round n a number op (seen r2)) x u k v)
    is W)
  where
    n : ℕ
    n = bound_of h.world

    letter : AnyLetter
    letter = AnyLetter.SetLock (Global h.name) (registrar h.name)

    go : (o : Option Op) → h.registrar.current ≡ o → is_some o ≡ true
        → Works (λ op n a. end_round n a number op (seen r2)) (record h { phase = Asking r2 }) u k v
        → Makes (λ n a w. hear_answer n a number f g w.node.current w) h t k v
    go None e some V = cc
    go (Some op) e some V = record {
      name = (V op e).name;
      world = (V op e).world;
      turn = (V op e).turn
          ∙ ap (end_round n h.name number (op_of op) (seen r2))
          (ap (λ (o : Option Op). at_work (current_of o h.registrar.awaited (Asking r2)) (turn_of h u)) e
          ∙ ap (at_work (Current.Asking (op_of op) (seen r2))) rest.turn)
          ∙ ap (λ (x : Round). end_round n h.name number (op_of op) x
          (at_work (Current.Asking (op_of op) x) (ask_rest n h.name f g letter (seen r) (turn_of h t)))) answered
          ∙ ap (λ (b : Bool). if b
          then end_round n h.name number (op_of op) (answer f g (seen r))
          (at_work (Current.Asking (op_of op) (answer f g (seen r)))
          (ask_rest n h.name f g letter (seen r) (turn_of h t)))
          else turn_of h t) (sym owed)
          ∙ ap (λ (x : Current). hear_answer n h.name number f g x (turn_of h t))
          (sym (ap (λ (x : Option Op). current_of x h.registrar.awaited h.phase) e
          ∙ ap (phase_of op h.registrar.awaited) asking));
    }

-- a node has gone down: the round is told
pub loses : (h h2 k : CoreState) (t v : Made) (r r2 : RoundState) (f : ℕ) (number : ℕ → ℕ) → h.phase ≡ Asking r
    → is_some h.registrar.current ≡ true → seen r2 ≡ down f (seen r) → h2 ≡ record h { phase = Asking r2 }
    → Works (λ op n a. end_round n a number op (seen r2)) h2 t k v
    → Makes (λ n a. lose_current n a number f) h t k v
loses h h2 k t v r r2 f number asking busy fell is W =
    go h.registrar.current refl busy (subst (λ (x : CoreState). Works (λ op n a. end_round n a number op (seen r2)) x t k v)
    is W)
  where
    n : ℕ
    n = bound_of h.world

    go : (o : Option Op) → h.registrar.current ≡ o → is_some o ≡ true
        → Works (λ op n a. end_round n a number op (seen r2)) (record h { phase = Asking r2 }) t k v
        → Makes (λ n a. lose_current n a number f) h t k v
    go None e some V = cc
    go (Some op) e some V = record {
      name = (V op e).name;
      world = (V op e).world;
      turn = (V op e).turn
          ∙ ap (end_round n h.name number (op_of op) (seen r2))
          (ap (λ (o : Option Op). at_work (current_of o h.registrar.awaited (Asking r2)) (turn_of h t)) e)
          ∙ ap (λ (x : Round). end_round n h.name number (op_of op) x
          (at_work (Current.Asking (op_of op) x) (turn_of h t))) fell
          ∙ ap (λ (x : Current). lose n h.name number f x (turn_of h t))
          (sym (ap (λ (x : Option Op). current_of x h.registrar.awaited h.phase) e
          ∙ ap (phase_of op h.registrar.awaited) asking));
    }
