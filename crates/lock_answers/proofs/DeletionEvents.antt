-- Each accepted event keeps what is known of a process's last deletion.
use Rattle.std.proofs.Common.{ℕ, Bool, true, false, ◌≡◌, ◌+◌, ◌≤◌, Option, Some, None, List, [], ◌∷◌, refl, sym, ap, ◌∙◌, subst, inl, inr, arith}
use mathlib.Core.Logic.{◌⊎◌}
use Rattle.std.specs.Prelude.{if◌then◌else◌}
use Rattle.std.specs.List.{list_all}
use Rattle.registry_model.specs.Process.{Process, is_process, Nodes}
use Rattle.protocol_model.specs.Letter.{Id}
use Rattle.protocol_model.specs.Round.{begin}
use Rattle.protocol_model.specs.Node.{Node, LockPhase, LockCall, call_of, targets}
use Rattle.protocol_model.specs.Client.{in_phase}
use Rattle.protocol_model.specs.ClientLocks.{is_no_more}
use Rattle.protocol_model.specs.LockAnswers.{Deletion}
use Rattle.protocol_model.specs.World.{Opening, World, left}
use Rattle.moves.proofs.Rules.{Rule, IsNew, IsRetried, May, MayAll, effect, effects, turn_by}
use Rattle.moves.proofs.Rules.Rule.{CallsLock, AsksLock, FailsLock}
use Rattle.moves.proofs.Invariants.{IsUp}
use Rattle.moves.proofs.Indices.{both}
use Rattle.walk.proofs.ChainKinds.{Aside, Again, Hearing, suits}
use Rattle.walk.proofs.Orders.{ordered_keeps}
use Rattle.leftovers.proofs.Ids.{is_process_same, is_process_self}
use Rattle.leftovers.proofs.Calls.{call_of-drop}
use Rattle.leftovers.proofs.Clients.{Numbers, lives, call_at, caller_lives, part_same}
use Rattle.leftovers.proofs.Calling.{calls_put}
use Rattle.leftovers.proofs.Numbers.{num_by, nums_by}
use Rattle.leftovers.proofs.Steps.{call_after, calls_aside, nums_same}
use Rattle.leftovers.proofs.Beginnings.{numbered, Begins, number_taken}
use Rattle.leftovers.proofs.Chains.{aside_counts_none}
use Rattle.leftovers.proofs.Numbering.{aside_hears, Numbered, last_effect, last_chain, from_self, from_retry, beginner_home}
use Rattle.leftovers.proofs.Told.{all_of_all}
use Rattle.lock_answers.proofs.Settled.{Stands, stands_keeps, node_ran, process_lived}
use Rattle.lock_answers.proofs.OpenDeletions.{Known, known_keeps, view_deleting, lives_stays}
use Rattle.lock_answers.proofs.DeletionChains.{Deletes, deletes_chain, lived_chain}

pub known_chain : (o : Opening) (a : ℕ) (rs : List Rule) (w : World) (num : Numbers) → Known o w num → MayAll o a rs w
    → Known o (effects o a rs w) (nums_by o a rs w num)
known_chain o a [] w num K m = K
known_chain o a (r ∷ rs) w num K m =
    known_chain o a rs (effect o a r w) (num_by a r w num) (known_keeps o a r w num K m.0) m.1

-- who runs behind a chain ran before it
ran_chain : (o : Opening) (a : ℕ) (rs : List Rule) (w : World) (x : ℕ) → left (effects o a rs w) x ≡ false
    → left w x ≡ false
ran_chain o a [] w x h = h
ran_chain o a (r ∷ rs) w x h = node_ran o a r w x (ran_chain o a rs (effect o a r w) x h)

-- a retry leaves an open deletion alone
module _ (o : Opening) (a : ℕ) (p : Process) (v : Node) (c : LockCall) (owing : Nodes)
    (deleting : c.phase ≡ LockPhase.Deleting owing) where
  -- what is shown of a rule
  record Left (r : Rule) (w : World) (num : Numbers) : Type 0 where
    call : call_at (effect o a r w) p ≡ Some c
    nums : (id : Id) (x : ℕ) → num_by a r w num p id x ≡ num p id x

  -- a call that is tried is another process's
  not_tried : (w : World) (num : Numbers) → Known o w num → call_at w p ≡ Some c → (d : LockCall)
      → (IsNew a (w.node a) d ⊎ IsRetried (w.node a) d)
      → d.holder.node ≡ a → is_process d.holder p ≡ false
  not_tried w num K found d begins home = go (is_process d.holder p) refl
    where
      go : (b : Bool) → is_process d.holder p ≡ b → b ≡ false
      go false e = refl
      go true e =
          let here : call_of d.holder (w.node a).calls ≡ Some c =
          ap (λ (i : ℕ). call_of d.holder (w.node i).calls) (sym home)
          ∙ ap (call_at w) (is_process_same d.holder p e) ∙ found in
          elim begins [
            | inl new ↦ cc (here, new.none)
            | inr again ↦
                let same : c ≡ again.before = cc (here, again.open_call) in
                let waits : LockPhase.Deleting owing ≡ LockPhase.Waiting = sym deleting
                ∙ ap (λ (j : LockCall). j.phase) same ∙ again.phase in
                cc waits
          ]

  left_alone : (r : Rule) (w : World) (num : Numbers) → Known o w num → suits (Again v) r ≡ true → May o a w r
      → call_at w p ≡ Some c → is_no_more (effect o a r w) p ≡ false → Left r w num
  left_alone (AsksLock d) w num K h m found up = record {
    call = call_after a None (turn_by o a w (AsksLock d)) w d.holder (Some first) home
        (calls_put a w K.ordered first home) p
        ∙ ap (λ (b : Bool). if b then Some first else call_at w p) (not_tried w num K found d m.tested.0 home)
        ∙ found;
    nums = λ id x. refl;
  }
    where
      home : d.holder.node ≡ a
      home = beginner_home o a w d K.ordered m.tested.0

      first : LockCall
      first = in_phase (LockPhase.Asking (begin o.bound (targets (w.node a).replica.members d.target))) d
  left_alone (FailsLock d) w num K h m found up = record {
    call = call_after a None (turn_by o a w (FailsLock d)) w d.holder None home
        (λ k. call_of-drop k d.holder (w.node a).calls) p
        ∙ ap (λ (b : Bool). if b then None else call_at w p) (not_tried w num K found d m.tested.0 home) ∙ found;
    nums = λ id x. refl;
  }
    where
      home : d.holder.node ≡ a
      home = beginner_home o a w d K.ordered m.tested.0
  left_alone r w num K h m found up = aside h
    where
      aside : suits Aside r ≡ true → Left r w num
      aside i = record {
        call = calls_aside o a w num r i m p up ∙ found;
        nums = λ id x. nums_same o a w num r (aside_counts_none r i) m p id x up;
      }

  retried : (rs : List Rule) (w : World) (num : Numbers) → Known o w num → list_all (suits (Again v)) rs ≡ true
      → MayAll o a rs w → call_at w p ≡ Some c → lives o (effects o a rs w) p ≡ true
      → (call_at (effects o a rs w) p ≡ Some c)
      × ((x : ℕ) → IsUp o (effects o a rs w) x → Stands w p x → Stands (effects o a rs w) p x)
  retried [] w num K h m found living = (found, λ x up S. S)
  retried (r ∷ rs) w num K h m found living =
      let parts : (suits (Again v) r ≡ true) × (list_all (suits (Again v)) rs ≡ true) = both (suits (Again v) r)
      (list_all (suits (Again v)) rs) h in
      let living1 : lives o (effect o a r w) p ≡ true = lived_chain o a rs (effect o a r w) p living in
      let one : Left r w num = left_alone r w num K parts.0 m.0 found
      (lives_stays o (effect o a r w) p living1) in
      let K1 : Known o (effect o a r w) (num_by a r w num) = known_keeps o a r w num K m.0 in
      let more : (call_at (effects o a rs (effect o a r w)) p ≡ Some c)
      × ((x : ℕ) → IsUp o (effects o a rs (effect o a r w)) x → Stands (effect o a r w) p x
      → Stands (effects o a rs (effect o a r w)) p x) =
      retried rs (effect o a r w) (num_by a r w num) K1 parts.1 m.1 one.call living in (
        more.0,
        λ x up S. more.1 x up (stands_keeps o a w num K.clients p (process_lived o a r w p living1) r m.0
            (num_by a r w num) K1.clients living1 x (up.0, ran_chain o a rs (effect o a r w) x up.1)
            (owing x) (owing x) (view_deleting c owing (call_at w p) found deleting x)
            (view_deleting c owing (call_at (effect o a r w) p) one.call deleting x) (λ id. one.nums id x) S),
      )

-- what is known of the last deletion of p, if there is one
abbrev pub Told : Opening → Process → World → Option Deletion → Type 0
Told o p w t = (d : Deletion) → t ≡ Some d → Deletes o p d.number d.nodes w

module _ (o : Opening) (w : World) (num : Numbers) (K : Known o w num) (N : Numbered o w) (p : Process) where
  -- a chain that begins no call
  pub heard : (a : ℕ) (rs : List Rule) → list_all (suits Hearing) rs ≡ true → MayAll o a rs w → (t : Option Deletion)
      → Told o p w t → Told o p (effects o a rs w) t
  heard a rs h m t T d e = deletes_chain o p d.number d.nodes a rs w num K h m (T d e)

  pub aside : (a : ℕ) (rs : List Rule) → list_all (suits Aside) rs ≡ true → MayAll o a rs w → (t : Option Deletion)
      → Told o p w t → Told o p (effects o a rs w) t
  aside a rs h m t T = heard a rs (all_of_all (suits Aside) (suits Hearing) aside_hears rs h) m t T

  -- a retry
  pub retry : (a : ℕ) (rs : List Rule) → list_all (suits (Again (w.node a))) rs ≡ true → MayAll o a rs w
      → (t : Option Deletion) → Told o p w t → Told o p (effects o a rs w) t
  retry a rs h m t T d e = record {
    own = own;
    alone = λ q c home f n.
        let F : (b : LockCall) × ((call_at w q ≡ Some b) × (b.number ≡ c.number)) = from q c f in
        D.alone q F.0 home F.1.0 (F.1.1 ∙ n);
    below = omega (arith, D.below, last_chain o a rs w p.node);
  }
    where
      D : Deletes o p d.number d.nodes w
      D = T d e

      from : (q : Process) (c : LockCall) → call_at (effects o a rs w) q ≡ Some c
          → (b : LockCall) × ((call_at w q ≡ Some b) × (b.number ≡ c.number))
      from = from_retry o a (ordered_keeps o) w rs w num h m K.ordered K.replying (from_self o a w)

      own : left (effects o a rs w) p.node ≡ false → (c : LockCall) → call_at (effects o a rs w) p ≡ Some c
          → c.number ≡ d.number → (owing : Nodes) × (c.phase ≡ LockPhase.Deleting owing)
          × ((x : ℕ) → IsUp o (effects o a rs w) x → d.nodes x ≡ true → owing x ≡ false
          → Stands (effects o a rs w) p x)
      own up c f n =
          let F : (b : LockCall) × ((call_at w p ≡ Some b) × (b.number ≡ c.number)) = from p c f in
          let before : (owing : Nodes) × (F.0.phase ≡ LockPhase.Deleting owing)
          × ((x : ℕ) → IsUp o w x → d.nodes x ≡ true → owing x ≡ false → Stands w p x) =
          D.own (ran_chain o a rs w p.node up) F.0 F.1.0 (F.1.1 ∙ n) in
          let after : (call_at (effects o a rs w) p ≡ Some F.0)
          × ((x : ℕ) → IsUp o (effects o a rs w) x → Stands w p x → Stands (effects o a rs w) p x) =
          retried o a p (w.node a) F.0 before.0 before.1 rs w num K h m F.1.0
          (caller_lives o (effects o a rs w) (nums_by o a rs w num) (known_chain o a rs w num K m).clients p c up f) in
          let same : F.0 ≡ c = cc (after.0, f) in (
            before.0,
            ap (λ (j : LockCall). j.phase) (sym same) ∙ before.1,
            λ x upx there free. after.1 x upx (before.2 x (upx.0, ran_chain o a rs w x upx.1) there free),
          )

  -- a lock call takes its number, and its call begins by the rule r
  module _ (a : ℕ) (q : Process) (r : Rule) (rest : List Rule) (next : Option LockCall)
      (m : MayAll o a (CallsLock ∷ r ∷ rest) w) (h : list_all (suits Aside) rest ≡ true)
      (B : Begins o w a q r next) where
    abbrev w1 : World
    w1 = numbered o w a

    abbrev w2 : World
    w2 = effect o a r w1

    abbrev num1 : Numbers
    num1 = num_by a CallsLock w num

    K1 : Known o w1 num1
    K1 = known_keeps o a CallsLock w num K m.0

    K2 : Known o w2 (num_by a r w1 num1)
    K2 = known_keeps o a r w1 num1 K1 m.1.0

    same_calls : (k : Process) → call_at w1 k ≡ call_at w k
    same_calls k = part_same (λ v. call_of k v.calls) w a (turn_by o a w CallsLock) refl k.node

    pub later : (k : Process) (n : ℕ) (nodes : Nodes) → Deletes o k n nodes w2
        → Deletes o k n nodes (effects o a rest w2)
    later k n nodes D = deletes_chain o k n nodes a rest w2 (num_by a r w1 num1) K2
        (all_of_all (suits Aside) (suits Hearing) aside_hears rest h) m.1.1 D

    -- the new call is none of an old number
    too_great : {X : Type 0} (k : Process) (n : ℕ) → k.node ≡ a → n ≤ (w.node k.node).last_call → (d : LockCall)
        → next ≡ Some d → d.number ≡ n → X
    too_great k n here least d e same =
        let low : n ≤ (w.node a).last_call = subst (λ (i : ℕ). n ≤ (w.node i).last_call) here least in
        absurd (omega (arith, B.number d e, same, low))

    -- an older deletion stays as it was
    pub stays : (n : ℕ) (nodes : Nodes)
        → (is_process q p ≡ false → (id : Id) (x : ℕ) → num_by a r w1 num1 p id x ≡ num1 p id x)
        → Deletes o p n nodes w → Deletes o p n nodes w2
    stays n nodes nums D = record {
      own = λ up d e i. own up d e i (is_process q p) refl (sym (B.calls p) ∙ e);
      alone = λ k c here e i. alone k c here i (is_process q k) refl (sym (B.calls k) ∙ e);
      below = omega (arith, D.below, last_effect o a w CallsLock p.node, last_effect o a w1 r p.node);
    }
      where
        own : left w2 p.node ≡ false → (d : LockCall) → call_at w2 p ≡ Some d → d.number ≡ n → (b : Bool)
            → is_process q p ≡ b → (if b then next else call_at w p) ≡ Some d
            → (owing : Nodes) × (d.phase ≡ LockPhase.Deleting owing)
            × ((x : ℕ) → IsUp o w2 x → nodes x ≡ true → owing x ≡ false → Stands w2 p x)
        own up d e i true j f = too_great p n (ap (λ (k : Process). k.node) (sym (is_process_same q p j)) ∙ B.home)
            D.below d f i
        own up d e i false j f =
            let before : (owing : Nodes) × (d.phase ≡ LockPhase.Deleting owing)
            × ((x : ℕ) → IsUp o w x → nodes x ≡ true → owing x ≡ false → Stands w p x) =
            D.own (node_ran o a CallsLock w p.node (node_ran o a r w1 p.node up)) d f i in
            let living2 : lives o w2 p ≡ true = caller_lives o w2 (num_by a r w1 num1) K2.clients p d up e in
            let living1 : lives o w1 p ≡ true = process_lived o a r w1 p living2 in
            let found1 : call_at w1 p ≡ Some d = same_calls p ∙ f in (
              before.0,
              before.1,
              λ x up2 there free.
                  let up1 : IsUp o w1 x = (up2.0, node_ran o a r w1 x up2.1) in
                  let first : Stands w1 p x = stands_keeps o a w num K.clients p (process_lived o a CallsLock w p living1)
                  CallsLock m.0 num1 K1.clients living1 x up1 (before.0 x) (before.0 x)
                  (view_deleting d before.0 (call_at w p) f before.1 x)
                  (view_deleting d before.0 (call_at w1 p) found1 before.1 x) (λ id. refl)
                  (before.2 x (up1.0, node_ran o a CallsLock w x up1.1) there free) in
                  stands_keeps o a w1 num1 K1.clients p living1 r m.1.0 (num_by a r w1 num1) K2.clients living2 x up2
                  (before.0 x) (before.0 x) (view_deleting d before.0 (call_at w1 p) found1 before.1 x)
                  (view_deleting d before.0 (call_at w2 p) e before.1 x) (λ id. nums j id x) first,
            )

        alone : (k : Process) (c : LockCall) → k.node ≡ p.node → c.number ≡ n → (b : Bool) → is_process q k ≡ b
            → (if b then next else call_at w k) ≡ Some c → k ≡ p
        alone k c here i true j f =
            let there : k.node ≡ a = ap (λ (z : Process). z.node) (sym (is_process_same q k j)) ∙ B.home in
            too_great p n (sym here ∙ there) D.below c f i
        alone k c here i false j f = D.alone k c here f i

    -- a new one owes wherever it goes
    pub begins : (nodes : Nodes) → ((d : LockCall) → next ≡ Some d → d.phase ≡ LockPhase.Deleting nodes)
        → Deletes o q ((w.node a).last_call + 1) nodes w2
    begins nodes deletes = record {
      own = λ up d e i.
          let is : next ≡ Some d = sym (ap (λ (b : Bool). if b then next else call_at w q) (is_process_self q))
          ∙ sym (B.calls q) ∙ e in
          (nodes, deletes d is, λ x up2 there free. cc (there, free));
      alone = λ k c here e i. alone k c here i (is_process q k) refl (sym (B.calls k) ∙ e);
      below = subst (λ (i : ℕ). (w.node a).last_call + 1 ≤ (w2.node i).last_call) (sym B.home) (number_taken o w a r);
    }
      where
        alone : (k : Process) (c : LockCall) → k.node ≡ q.node → c.number ≡ (w.node a).last_call + 1 → (b : Bool)
            → is_process q k ≡ b → (if b then next else call_at w k) ≡ Some c → k ≡ q
        alone k c here i true j f = sym (is_process_same q k j)
        alone k c here i false j f =
            let low : c.number ≤ (w.node a).last_call = subst (λ (z : ℕ). c.number ≤ (w.node z).last_call)
            (here ∙ B.home) (N.below k c f) in
            absurd (omega (arith, i, low))
