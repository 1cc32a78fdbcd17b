-- The rules of departures, one by one.
use Rattle.std.proofs.Common.{ℕ, Bool, true, false, ◌==◌, ◌≡◌, Option, Some, List, [], ◌∷◌, refl, sym, ap, ◌∙◌, subst}
use Rattle.std.specs.Prelude.{not, ◌&&◌, ◌||◌, if◌then◌else◌}
use Rattle.std.proofs.Math.Path.{fun_ext}
use Rattle.std.proofs.lemmas.Bool.{eq-eqb, eqb-true}
use Rattle.registry_model.specs.Process.{Process, Nodes}
use Rattle.registry_model.specs.Table.{Table, without, owns}
use Rattle.registry_model.specs.History.{Entry as AnyEntry}
use Rattle.protocol_model.specs.Event.{Event as AnyEvent}
use Rattle.protocol_model.specs.Letter.{Letter as AnyLetter}
use Rattle.protocol_model.specs.LockTable.{Locks, drop_node}
use Rattle.protocol_model.specs.Node.{LockCall as AnyCall, call_of}
use Rattle.protocol_model.specs.Round.{Round, down}
use Rattle.protocol_model.specs.Turn.{Turn, send_all, enter}
use Rattle.protocol_model.specs.Registrar.{lose_contact}
use Rattle.protocol_model.specs.Calling.{event}
use Rattle.protocol_model.specs.Client.{go_on_lock, lose_node_in, lose_node}
use Rattle.protocol_model.specs.Reading.{told_of, lose_current, bereave}
use Rattle.term.specs.NodeSets.{IsNodeSet, set_of, with_older, without_node}
use Rattle.term.proofs.Older.{held}
use Rattle.term.proofs.Subsets.{set_of-filter}
use Rattle.exit_watch.specs.WatchState.{process_of}
use Rattle.exit_watch.proofs.Owners.{owns-filter}
use Rattle.locker.specs.RoundState.{RoundState, seen}
use Rattle.lock_calls.specs.declared.call.CallPhase.{CallPhase}
use Rattle.lock_calls.specs.declared.call.CallPhase.TheVariants.{Asking as AsksLock}
use Rattle.lock_calls.specs.declared.call.LockCall.{LockCall}
use Rattle.lock_calls.specs.Calls.{as_call, phase_of as phase_of_call}
use Rattle.lock_calls.specs.LockCallsState.{seen as calls_seen}
use Rattle.node_events.specs.declared.events.Entry.TheVariants.{Left, Told}
use Rattle.node_events.specs.declared.events.Letter.TheVariants.{Down}
use Rattle.node_events.specs.Made.{Made, SendsAll, entered}
use Rattle.node_core.specs.CoreState.{CoreState, bound_of, AreOf, IsWithin, IsWhole}
use Rattle.node_core.specs.Locking.{loss_of}
use Rattle.node_core.specs.Seen.{node_of, turn_of}
use Rattle.node_core.specs.Steps.{Makes, IsOther}
use Rattle.node_core.proofs.Sends.{sent_all_is}
use Rattle.node_core.proofs.Rules.{followed, entered_is, less_are, less_within}
use Rattle.lock_calls.proofs.Standing.{without_is}
use Rattle.node_core.proofs.Locking.{made_as}
use Rattle.node_core.proofs.Gone.{told_is, left_too}

-- the node leaves, and says so to all others
pub leaves : (h : CoreState) (t u v : Made) (a : ℕ) (others : List ℕ) → a ≡ h.name → u ≡ entered (Left a) t
    → others ≡ without_node h.world h.name → IsNodeSet others → SendsAll others Down u v
    → Makes (λ n b. event n b (set_of h.world) AnyEvent.Leave) h t h v
leaves h t u v a others own entering are set sends = record {
  name = refl;
  world = refl;
  turn = sent_all_is h u v others Down sends set (subst (λ (xs : List ℕ). IsWithin h.world xs) (sym are)
      (less_within h.world h.world h.name (held h.world)))
      ∙ ap (λ (s : Nodes). send_all n s AnyLetter.Down (turn_of h u))
      (ap set_of are ∙ fun_ext (λ c. set_of-filter (λ m. not (m == h.name)) h.world c))
      ∙ ap (λ (x : Turn). send_all n (λ c. set_of h.world c && not (c == h.name)) AnyLetter.Down x)
      (ap (turn_of h) entering ∙ entered_is h t (Left a)
      ∙ ap (λ (b : ℕ). enter (AnyEntry.Left b) (turn_of h t)) own);
}
  where
    n : ℕ
    n = bound_of h.world

-- h is the node, which is told that f has left; told: all of whom it is told then
module _ (h0 : CoreState) (f : ℕ) (members told : List ℕ) (table : Table) (locks : Locks) (whole : IsWhole h0)
    (less : members ≡ without_node h0.members f) (rest : table ≡ without (λ d. d == f) h0.table)
    (are : (c : ℕ) → with_older told c
    ≡ (with_older h0.world c && (with_older h0.told c || with_older (f ∷ []) c))) where
  -- the node once it was told
  abbrev told_node : CoreState
  told_node = record h0 { members = members; told = told; table = table; locks = locks }

  pub whole_told : IsOther h0.world h0.name f → IsWhole told_node
  whole_told other = record {
    self = ap (λ (xs : List ℕ). set_of xs h0.name) less ∙ set_of-filter (λ m. not (m == f)) h0.members h0.name
        ∙ both (set_of h0.members h0.name) (h0.name == f) whole.self refl;
    members = subst (λ (xs : List ℕ). AreOf h0.world xs) (sym less)
        (less_are h0.world h0.members f whole.members);
    told = left_too h0.world h0.told told f whole.told other.0 are;
    apart = λ c e. ap (λ (s : Nodes). s c) (told_is h0.world h0.told told f whole.told other.0 are)
        ∙ stays c (c == f) (sym (set_of-filter (λ m. not (m == f)) h0.members c)
        ∙ subst (λ (xs : List ℕ). set_of xs c ≡ true) less e);
    queue = whole.queue;
    current = whole.current;
    awaited = whole.awaited;
    phase = whole.phase;
    watch = whole.watch;
    suspected = λ s dead o. whole.suspected s dead (owns-filter (process_of h0.watch s)
        (λ pair. not (pair.owner.node == f)) h0.table
        (subst (λ (t : Table). owns (process_of h0.watch s) t ≡ true) rest o));
    calls = whole.calls;
    called = whole.called;
  }
    where
      never : (h0.name == f) ≡ true → ⊥
      never e = true_false (sym (eq-eqb f h0.name (sym (eqb-true h0.name f e))) ∙ other.1)
        where
          true_false : true ≡ false → ⊥
          true_false q = cc

      stays : (c : ℕ) (b : Bool) → (set_of h0.members c && not b) ≡ true
          → (if b then true else with_older h0.told c) ≡ false
      stays c true e = absurd (no (set_of h0.members c) e)
        where
          no : (m : Bool) → (m && false) ≡ true → ⊥
          no true q = cc
          no false q = cc
      stays c false e = whole.apart c (yes_ (set_of h0.members c) e)
        where
          yes_ : (m : Bool) → (m && true) ≡ true → m ≡ true
          yes_ true q = refl
          yes_ false q = q

      both : (s e : Bool) → s ≡ true → (h0.name == f) ≡ e → (s && not e) ≡ true
      both true true is same = absurd (never same)
      both true false is same = refl
      both false e is same = is

  -- the departure is entered, and taken in
  pub takes_in : (h : CoreState) (t u : Made) (a d : ℕ) (number : ℕ → ℕ) → h0 ≡ h → a ≡ h0.name → d ≡ f
      → locks ≡ drop_node f h0.locks → IsOther h0.world h0.name f → u ≡ entered (Told a d) t
      → Makes (λ n b. told_of n b number f) h t told_node u
  takes_in h t u a d number same own gone free other made =
      subst (λ (x : CoreState). Makes (λ n b. told_of n b number f) x t told_node u) same (record {
        name = refl;
        world = refl;
        turn = ap (turn_of told_node) (made ∙ ap (λ (b : ℕ). entered (Told b d) t) own
            ∙ ap (λ (e : ℕ). entered (Told h0.name e) t) gone)
            ∙ entered_is told_node t (Told h0.name f)
            ∙ ap (λ (s : Nodes). at_state s (with_older told) table locks) (ap set_of less ∙ without_is h0.members f)
            ∙ ap (λ (s : Nodes). at_state (without_f (set_of h0.members)) s table locks)
            (told_is h0.world h0.told told f whole.told other.0 are)
            ∙ ap (λ (x : Table). at_state (without_f (set_of h0.members)) (with_f (with_older h0.told)) x locks) rest
            ∙ ap (at_state (without_f (set_of h0.members)) (with_f (with_older h0.told))
            (without (λ c. c == f) h0.table)) free;
      })
    where
      without_f : Nodes → Nodes
      without_f s c = if c == f then false else s c

      with_f : Nodes → Nodes
      with_f s c = if c == f then true else s c

      at_state : Nodes → Nodes → Table → Locks → Turn
      at_state m g x l = record (enter (AnyEntry.Told h0.name f) (turn_of h0 t)) {
        node = record (node_of h0) {
          replica = record (node_of h0).replica { table = x; members = m; told = g };
          locks = l;
        };
      }

-- h is the node, whose process p has the call c when it is told that f has gone down
module _ (h k : CoreState) (t u : Made) (c : LockCall) (p : Process) (f : ℕ)
    (found : Some (as_call c) ≡ call_of p (calls_seen h.calls)) where
  abbrev n0 : ℕ
  n0 = bound_of h.world

  -- its round is told
  pub loses_round : (r r2 : RoundState) → c.phase ≡ AsksLock r → seen r2 ≡ down f (seen r)
      → Makes (λ n a. go_on_lock n a (as_call c) (seen r2)) h t k u
      → Makes (λ n a w. loss_of n a f (call_of p w.node.calls) w) h t k u
  loses_round r r2 asking fell M = made_as M (
      ap (λ (x : Round). go_on_lock n0 h.name (as_call c) x (turn_of h t)) fell
      ∙ ap (λ (x : CallPhase). lose_node_in n0 h.name f (phase_of_call x) (as_call c) (turn_of h t)) (sym asking)
      ∙ ap (λ (o : Option AnyCall). loss_of n0 h.name f o (turn_of h t)) found)

-- told, a join, the registrar, the lock calls
pub bereaves : (h k j l m : CoreState) (t u s v w : Made) (f : ℕ) (number : ℕ → ℕ)
    → Makes (λ n a. told_of n a number f) h t k u → Makes (λ n a x. lose_contact n a f x.node.current x) k u j s
    → Makes (λ n a. lose_current n a number f) j s l v
    → Makes (λ n a. lose_node n a f) l v m w → Makes (λ n a. bereave n a number f) h t m w
bereaves h k j l m t u s v w f number T J L C = followed (followed (followed T J) L) C
