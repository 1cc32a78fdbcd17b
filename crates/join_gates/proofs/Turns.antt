-- A turn that moves no gate.
use Rattle.std.proofs.Common.{ℕ, Bool, true, false, ◌≡◌, Option, Some, None, List, ◌++◌, refl, sym, ap, ◌∙◌, subst}
use Rattle.std.specs.Prelude.{if◌then◌else◌, fold}
use Rattle.registry_model.specs.Process.{Nodes, at}
use Rattle.registry_model.specs.Table.{Table}
use Rattle.registry_model.specs.History.{Standing, after, standing_of}
use Rattle.registry_model.specs.Legal.{all_legal}
use Rattle.protocol_model.specs.Letter.{Letter}
use Rattle.protocol_model.specs.Links.{Links}
use Rattle.protocol_model.specs.Node.{Node, Op, Current}
use Rattle.protocol_model.specs.Event.{is_joining}
use Rattle.protocol_model.specs.Turn.{Turn}
use Rattle.protocol_model.specs.World.{Opening, World, in_cluster, left, apply}
use Rattle.moves.proofs.Rules.{Taken, FrontTaken, without_letter}
use Rattle.registry_model.proofs.Updates.{by_test}
use Rattle.moves.proofs.Invariants.{replica, current, standing_at}
use Rattle.join_gates.proofs.Tokens.{Gate, is_turned, is_entering, is_plain, are_plain, plain_knocks, plain_returns, knocks-plain, returns-plain, knocks, returns, admissions, admissions-append, asked_for, jobs, knocks-append, returns-append}
use Rattle.join_gates.proofs.Links.{sent_none, taken_none}
use Rattle.join_gates.proofs.Pasts.{Admitted, touch, have_done, standing_of-append, lone_along, admitted_along}
use Rattle.join_gates.proofs.Gates.{Facts, Gates, Once, OnceIn, gates_unmoved, kept}

-- node v becomes u, and what joins ask of it stays
pub record Quietly (v u : Node) : Type 0 where
  pub jobs : (j : ℕ) → admissions j (jobs u) ≡ admissions j (jobs v)
  pub contact : (k m : ℕ) → v.current ≡ Current.Joining k m → u.current ≡ Current.Joining k m
  pub joined : u.replica.joined ≡ v.replica.joined
  pub told : u.replica.told ≡ v.replica.told
  pub once : Once v → Once u

-- the registrar and its queue are as before
pub quiet_same : (v u : Node) → u.current ≡ v.current → u.queue ≡ v.queue → u.replica.joined ≡ v.replica.joined
    → u.replica.told ≡ v.replica.told
    → Quietly v u
quiet_same v u current queue joined told = record {
  jobs = λ j. ap (λ (c : Current). admissions j (asked_for c ++ u.queue)) current
      ∙ ap (λ (ops : List Op). admissions j (asked_for v.current ++ ops)) queue;
  contact = λ k m e. current ∙ e;
  joined = joined;
  told = told;
  once = λ O. subst (λ (b : Bool). OnceIn b u.current u.queue) (sym joined)
      (subst (λ (c : Current). OnceIn v.replica.joined c u.queue) (sym current)
      (subst (λ (ops : List Op). OnceIn v.replica.joined v.current ops) (sym queue) O));
}

-- the registrar works on, and on no join
pub quiet_work : (v u : Node) (c d : Current) → v.current ≡ c → u.current ≡ d → is_joining c ≡ false
    → is_joining d ≡ false
    → ((j : ℕ) → admissions j (asked_for d) ≡ admissions j (asked_for c))
    → u.queue ≡ v.queue → u.replica.joined ≡ v.replica.joined → u.replica.told ≡ v.replica.told → Quietly v u
quiet_work v u c d before behind no_join no_join_now same queue joined told = record {
  jobs = λ j. ap (λ (x : Current). admissions j (asked_for x ++ u.queue)) behind
      ∙ ap (λ (ops : List Op). admissions j (asked_for d ++ ops)) queue
      ∙ admissions-append j (asked_for d) v.queue ∙ ap (λ (ts : List Table). ts ++ admissions j v.queue) (same j)
      ∙ sym (admissions-append j (asked_for c) v.queue)
      ∙ ap (λ (x : Current). admissions j (asked_for x ++ v.queue)) (sym before);
  contact = λ k m e. absurd (cc (ap is_joining (sym before ∙ e), no_join));
  joined = joined;
  told = told;
  once = λ O. subst (λ (b : Bool). OnceIn b u.current u.queue) (sym joined)
      (subst (λ (x : Current). OnceIn v.replica.joined x u.queue) (sym behind)
      (subst (λ (ops : List Op). OnceIn v.replica.joined d ops) (sym queue)
      (record {
        joined = λ e. (no_join_now, (O.joined e).1);
        waits = λ e. absurd (cc (no_join_now, e));
        queue =
            O.queue;
      })));
}

-- a letter that is taken is plain
abbrev pub is_plain_taken : Option Taken → Bool
is_plain_taken None = true
is_plain_taken (Some t) = is_plain t.letter

module _ (o : Opening) (a : ℕ) (w : World) (u : Turn) (gate : ℕ → ℕ → Gate) where
  -- the facts of a gate that stays, where the node may change
  pub facts_by : (v : World) → v.node ≡ at w.node a u.node → v.history ≡ w.history ++ u.entries
      → ((x : ℕ) → left v x ≡ false → left w x ≡ false)
      → all_legal (standing_at o w) u.entries ≡ true
      → (j m : ℕ) (g : Gate)
      → (j ≡ a → (k : ℕ) → (w.node a).current ≡ Current.Joining k m → u.node.current ≡ Current.Joining k m)
      → ((w.node a).replica.joined ≡ true → u.node.replica.joined ≡ true)
      → (j ≡ a → is_turned g ≡ true → (w.node a).replica.told m ≡ false → u.node.replica.told m ≡ false)
      → ((k : ℕ) → current o w j ≡ Current.Joining k m → touch u.entries j ≡ false)
      → (is_entering g ≡ true → left v j ≡ false → have_done m u.entries ≡ false)
      → Facts o w j m g → Facts o v j m g
  facts_by v nodes history runs legal j m g contact joined told clear going F = kept o w v j m g F
      (λ k. subst (λ (f : ℕ → Node). current o w j ≡ Current.Joining k m → (f j).current ≡ Current.Joining k m)
      (sym nodes)
      (by_test a (λ x t. (x ≡ a → (w.node a).current ≡ Current.Joining k m → u.node.current ≡ Current.Joining k m)
      → (w.node x).current ≡ Current.Joining k m → (if t then u.node else w.node x).current ≡ Current.Joining k m)
      (λ h. h refl) (λ x ne h e. e) j (λ e. contact e k)))
      (subst (λ (f : ℕ → Node). (replica o w m).joined ≡ true → (f m).replica.joined ≡ true) (sym nodes)
      (by_test a (λ x t. (w.node x).replica.joined ≡ true → (if t then u.node else w.node x).replica.joined ≡ true)
      joined (λ x ne e. e) m))
      (runs j)
      (λ e l. subst (λ (f : ℕ → Node). (replica o w j).told m ≡ false → (f j).replica.told m ≡ false) (sym nodes)
      (by_test a (λ x t. (x ≡ a → (w.node a).replica.told m ≡ false → u.node.replica.told m ≡ false)
      → (w.node x).replica.told m ≡ false → (if t then u.node else w.node x).replica.told m ≡ false)
      (λ h. h refl) (λ x ne h e. e) j (λ q. told q e)))
      (λ k e lone. subst (λ (s : Standing). (s.registry.joined j ≡ false)
      × (s.registry.lone j ≡ (standing_at o w).registry.lone j)) (sym standing)
      (lone_along u.entries (standing_at o w) j (clear k e) lone))
      (λ e l k is A. subst (λ (s : Standing). Admitted s j k m) (sym standing)
      (admitted_along u.entries (standing_at o w) j k m A legal (going e l)))
    where
      standing : standing_at o v ≡ fold after (standing_at o w) u.entries
      standing = ap (standing_of (in_cluster o)) history ∙ standing_of-append (in_cluster o) w.history u.entries

  -- the same for a turn that leaves what joins ask
  pub facts_kept : (v : World) → v.node ≡ at w.node a u.node → v.history ≡ w.history ++ u.entries
      → ((x : ℕ) → left v x ≡ false → left w x ≡ false)
      → Quietly (w.node a) u.node
      → ((x k m : ℕ) → current o w x ≡ Current.Joining k m → touch u.entries x ≡ false)
      → all_legal (standing_at o w) u.entries ≡ true
      → (j m : ℕ) (g : Gate) → (is_entering g ≡ true → left v j ≡ false → have_done m u.entries ≡ false)
      → Facts o w j m g → Facts o v j m g
  facts_kept v nodes history runs Q clear legal j m g going F = facts_by v nodes history runs legal j m g
      (λ h k. Q.contact k m) (λ e. Q.joined ∙ e) (λ h t e. ap (λ (s : Nodes). s m) Q.told ∙ e)
      (λ k. clear j k m) going F

  -- before the turn a plain letter may be taken
  calm_on : (ls : Links Letter) → ls.closed ≡ w.links.closed
      → ((x y : ℕ) → knocks (ls.queue x y) ≡ knocks (w.links.queue x y))
      → ((x y : ℕ) → returns (ls.queue x y) ≡ returns (w.links.queue x y))
      → are_plain u.sends ≡ true → Quietly (w.node a) u.node
      → ((x k m : ℕ) → current o w x ≡ Current.Joining k m → touch u.entries x ≡ false)
      → all_legal (standing_at o w) u.entries ≡ true
      → ((j m : ℕ) → is_entering (gate j m) ≡ true → left w j ≡ false → have_done m u.entries ≡ false)
      → Gates o w gate → Gates o (apply a u (record w { links = ls })) gate
  calm_on ls closed K B plain Q clear legal going G = gates_unmoved o w v gate G runs
      (λ x y l. sent_none knocks knocks-append (record w { links = ls }) a u (plain_knocks u.sends plain) x y ∙ K x y)
      (λ x y l. sent_none returns returns-append (record w { links = ls }) a u (plain_returns u.sends plain) x y
      ∙ B x y)
      (λ x y l. by_test a (λ y t. admissions x (jobs (if t then u.node else w.node y))
      ≡ admissions x (jobs (w.node y))) (Q.jobs x) (λ y ne. refl) y)
      (λ x y. facts_kept v refl refl runs Q clear legal x y (gate x y) (λ e l. going x y e (runs x l)))
    where
      v : World
      v = apply a u (record w { links = ls })

      runs : (x : ℕ) → left v x ≡ false → left w x ≡ false
      runs x l = ap (λ (s : Nodes). s x) (sym closed) ∙ l

  pub calm_turn : (t : Option Taken) → FrontTaken o a w t → is_plain_taken t ≡ true → are_plain u.sends ≡ true
      → Quietly (w.node a) u.node
      → ((x k m : ℕ) → current o w x ≡ Current.Joining k m → touch u.entries x ≡ false)
      → all_legal (standing_at o w) u.entries ≡ true
      → ((j m : ℕ) → is_entering (gate j m) ≡ true → left w j ≡ false → have_done m u.entries ≡ false)
      → Gates o w gate → Gates o (apply a u (without_letter o a t w)) gate
  calm_turn None front taken plain Q clear legal going G =
      calm_on w.links refl (λ x y. refl) (λ x y. refl) plain Q clear legal going G
  calm_turn (Some t) front taken plain Q clear legal going G = calm_on (without_letter o a (Some t) w).links refl
      (taken_none knocks knocks-append w t.sender a t.letter front.1.0 front.1.1
      (knocks-plain t.letter front.1.0 taken))
      (taken_none returns returns-append w t.sender a t.letter front.1.0 front.1.1
      (returns-plain t.letter front.1.0 taken))
      plain Q clear legal going G
