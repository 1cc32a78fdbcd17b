-- What a round of the registrar comes to: nobody dies by it, or a node is let in, and who dies by that is written to.
use mathlib.Core.Logic.{◌⊎◌}
use Rattle.std.proofs.Common.{ℕ, Bool, true, false, ◌≡◌, Some, None, List, [], ◌∷◌, ◌++◌, refl, sym, ap, ◌∙◌, subst, inl, inr}
use Rattle.std.specs.Prelude.{not, ◌&&◌, nat_lt, fold, Contains, if◌then◌else◌}
use Rattle.std.specs.List.{list_any}
use Rattle.std.proofs.lemmas.Bool.{eq-eqb}
use Rattle.std.proofs.lemmas.List.{append_assoc}
use Rattle.registry_model.specs.Process.{Text, Process, is_process, Nodes, nodes_of, with_node}
use Rattle.registry_model.specs.Table.{Table, get, StrikeOwner}
use Rattle.registry_model.specs.Call.{Joined, Reply, is_grant, reply_to, change_of}
use Rattle.registry_model.specs.Settlement.{Settled, with_settled, settle}
use Rattle.registry_model.specs.Registry.{Registry, Replica, replica_of, table_of, view}
use Rattle.registry_model.specs.History.{Entry, effect, hold_at, registry_of}
use Rattle.registry_model.specs.Legal.{IsLegal}
use Rattle.registry_model.proofs.Lists.{list_any-Contains}
use Rattle.registry_model.proofs.HistoryParts.{registry-standing_of, registry_of-append, is_legal-at}
use Rattle.registry_model.proofs.Legality.{JoinIsLegal, join_is_legal}
use Rattle.registry_model.proofs.Deaths.{Kills, ByJoin, dead-cases}
use Rattle.registry_model.proofs.Rising.{is_rising-table_of, is_rising-view}
use Rattle.registry_model.proofs.Groups.{get-seen}
use Rattle.registry_model.proofs.OwnerNodes.{IsGood, IsGood-standing_of}
use Rattle.registry_model.proofs.Untold.{HasName, name_of_killed}
use Rattle.protocol_model.specs.Round.{Round, asked, is_over, Ending, Held, GiveBack, ending}
use Rattle.protocol_model.specs.Letter.{Letter}
use Rattle.protocol_model.specs.Node.{Op, Current}
use Rattle.protocol_model.specs.Turn.{Turn, at_work, enter, sent_to}
use Rattle.protocol_model.specs.Registrar.{finish, write, give_up}
use Rattle.protocol_model.specs.Deciding.{admit, held, end_by, go_on}
use Rattle.protocol_model.specs.World.{Opening, in_cluster, World, left}
use Rattle.headline.proofs.Indices.{both}
use Rattle.headline.proofs.Invariants.{IsUp, standing_at}
use Rattle.headline.proofs.Sends.{sent_to-append, sent_to-one, sent_to-all, to_each}
use Rattle.headline.proofs.States
use Rattle.headline.proofs.Legality
use Rattle.leftovers.proofs.Grounds.{Base, replicas, heard_joins}
use Rattle.leftovers.proofs.Extends.{harmless_append, is_deadly, are_harmless, has_kill, kill_more, kill_later, Adds, adds_none, adds_then, adds_same, adds_sends, adds_entry, add_finish}

-- a node was let in: its entry, and whom the letters go to by which others die
pub record Admitted (n a : ℕ) (number : ℕ → ℕ) (op : Op) (u v : Turn) : Type 0 where
  pub joiner : ℕ
  pub pairs : Table
  pub is : op ≡ Op.Admission joiner pairs
  pub more : List Entry
  pub entries : v.entries ≡ u.entries ++ Entry.Join joiner (number joiner) a Joined ∷ more
  pub harmless : are_harmless more ≡ true
  pub sent : (p : Process) (x : ℕ) → Contains (settle u.node.replica.table pairs).fate.kills p
      → ((nat_lt x n && u.node.replica.members x) ≡ true) ⊎ (x ≡ joiner) → has_kill p (sent_to x v.sends) ≡ true

abbrev pub Outcome : ℕ → ℕ → (ℕ → ℕ) → Op → Turn → Turn → Type 0
Outcome n a number op u v = Adds u v ⊎ Admitted n a number op u v

-- it stays so behind more entries and letters
pub admitted_then : (n a : ℕ) (number : ℕ → ℕ) (op : Op) (u v z : Turn) → Admitted n a number op u v → Adds v z
    → Admitted n a number op u z
admitted_then n a number op u v z f g = record {
  joiner = f.joiner;
  pairs = f.pairs;
  is = f.is;
  more = f.more ++ g.more;
  entries = g.entries ∙ ap (λ (es : List Entry). es ++ g.more) f.entries
      ∙ append_assoc u.entries (Entry.Join f.joiner (number f.joiner) a Joined ∷ f.more) g.more;
  harmless = harmless_append f.more g.more f.harmless g.harmless;
  sent = λ p x c h. g.kills p x (f.sent p x c h);
}

module _ (n a : ℕ) (number : ℕ → ℕ) where
  admit_sent : (j : ℕ) (pairs : Table) (s : Nodes) (u : Turn) (p : Process) (x : ℕ)
      → Contains (settle u.node.replica.table pairs).fate.kills p
      → ((nat_lt x n && u.node.replica.members x) ≡ true) ⊎ (x ≡ j)
      → has_kill p (sent_to x (admit n a number j pairs s (settle u.node.replica.table pairs) u).sends) ≡ true
  admit_sent j pairs s u p x c h = ap (has_kill p) (sent_to-append x (u.sends ++ to_each (nodes_of n u.node.replica.members) l)
      (record { to = j; letter = z } ∷ [])) ∙ go h
    where
      set : Settled
      set = settle u.node.replica.table pairs

      l : Letter
      l = Letter.Admit j (settle u.node.replica.table pairs)

      z : Letter
      z = Letter.Welcome (with_node j u.node.replica.members)
          (with_settled (settle u.node.replica.table pairs) u.node.replica.table) u.node.replica.told
          (settle u.node.replica.table pairs).fate

      kills : list_any (is_process p) (settle u.node.replica.table pairs).fate.kills ≡ true
      kills = list_any-Contains p (settle u.node.replica.table pairs).fate.kills c

      go : ((nat_lt x n && u.node.replica.members x) ≡ true) ⊎ (x ≡ j)
          → has_kill p (sent_to x (u.sends ++ to_each (nodes_of n u.node.replica.members) l)
          ++ sent_to x (record { to = j; letter = z } ∷ [])) ≡ true
      go (inl m) = kill_more p (sent_to x (u.sends ++ to_each (nodes_of n u.node.replica.members) l)) _
          (ap (has_kill p) (sent_to-append x u.sends (to_each (nodes_of n u.node.replica.members) l))
          ∙ kill_later p (sent_to x u.sends) (sent_to x (to_each (nodes_of n u.node.replica.members) l))
          (ap (has_kill p) (sent_to-all n u.node.replica.members l x)
          ∙ ap (λ (b : Bool). has_kill p (if b then l ∷ [] else [])) m ∙ rw kills refl))
      go (inr e) = kill_later p (sent_to x (u.sends ++ to_each (nodes_of n u.node.replica.members) l))
          (sent_to x (record { to = j; letter = z } ∷ []))
          (ap (has_kill p) (sent_to-one x j z)
          ∙ ap (λ (b : Bool). has_kill p (if b then z ∷ [] else [])) (eq-eqb j x (sym e)) ∙ rw kills refl)

  held_outcome : (op : Op) (s : Nodes) (u : Turn) → Outcome n a number op u (held n a number op s u)
  held_outcome (Op.Name k call) s u = by (reply_to u.node.replica.members u.node.replica.table call)
      (is_grant (reply_to u.node.replica.members u.node.replica.table call))
    where
      entered : (reply : Reply) → Adds u (enter (Entry.Name a k call reply) u)
      entered reply = adds_entry u (enter (Entry.Name a k call reply) u) (Entry.Name a k call reply) refl refl refl

      by : (reply : Reply) (b : Bool) → Outcome n a number (Op.Name k call) u
          (if b then write n a (Op.Name k call) s (Some reply) (change_of call) (enter (Entry.Name a k call reply) u)
          else finish n a (Op.Name k call) s (Some reply) (enter (Entry.Name a k call reply) u))
      by reply true = inl (adds_then u (enter (Entry.Name a k call reply) u)
          (write n a (Op.Name k call) s (Some reply) (change_of call) (enter (Entry.Name a k call reply) u))
          (entered reply) (adds_sends (enter (Entry.Name a k call reply) u)
          (write n a (Op.Name k call) s (Some reply) (change_of call) (enter (Entry.Name a k call reply) u)) _ refl refl))
      by reply false = inl (adds_then u (enter (Entry.Name a k call reply) u)
          (finish n a (Op.Name k call) s (Some reply) (enter (Entry.Name a k call reply) u)) (entered reply)
          (add_finish n a (Op.Name k call) s (Some reply) (enter (Entry.Name a k call reply) u)))
  held_outcome (Op.Strike p) s u = inl (adds_then u (enter (Entry.Strike p) u)
      (write n a (Op.Strike p) s None (StrikeOwner p) (enter (Entry.Strike p) u))
      (adds_entry u (enter (Entry.Strike p) u) (Entry.Strike p) refl refl refl)
      (adds_sends (enter (Entry.Strike p) u) (write n a (Op.Strike p) s None (StrikeOwner p) (enter (Entry.Strike p) u))
      _ refl refl))
  held_outcome (Op.Admission j pairs) s u = go (u.node.replica.told j)
    where
      go : (t : Bool) → Outcome n a number (Op.Admission j pairs) u (if t then finish n a (Op.Admission j pairs) s None u
          else admit n a number j pairs s (settle u.node.replica.table pairs) u)
      go true = inl (add_finish n a (Op.Admission j pairs) s None u)
      go false = inr (record {
        joiner = j;
        pairs = pairs;
        is = refl;
        more = [];
        entries = refl;
        harmless = refl;
        sent = λ p x c h. admit_sent j pairs s u p x c h;
      })
  held_outcome (Op.Join k m) s u = inl (adds_none u)

  pub go_on_outcome : (op : Op) (r : Round) (u : Turn) → Outcome n a number op u (go_on n a number op r u)
  go_on_outcome op r u = go (is_over n r)
    where
      ends : (x : Ending) → Outcome n a number op u (end_by n a number x op (asked r) (at_work (Current.Asking op r) u))
      ends Held = at_same (held_outcome op (asked r) (at_work (Current.Asking op r) u))
        where
          at_same : Outcome n a number op (at_work (Current.Asking op r) u)
              (held n a number op (asked r) (at_work (Current.Asking op r) u))
              → Outcome n a number op u (held n a number op (asked r) (at_work (Current.Asking op r) u))
          at_same (inl f) = inl (record { more = f.more; entries = f.entries; harmless = f.harmless; kills = f.kills })
          at_same (inr f) = inr (record {
            joiner = f.joiner;
            pairs = f.pairs;
            is = f.is;
            more = f.more;
            entries = f.entries;
            harmless = f.harmless;
            sent = f.sent;
          })
      ends (GiveBack granted) = inl (adds_sends u
          (give_up n a op granted (at_work (Current.Asking op r) u)) _ refl refl)

      go : (b : Bool) → Outcome n a number op u (if b then end_by n a number (ending n u.node.replica.members r) op
          (asked r) (at_work (Current.Asking op r) u) else at_work (Current.Asking op r) u)
      go true = ends (ending n u.node.replica.members r)
      go false = inl (adds_same u (at_work (Current.Asking op r) u) refl refl)

-- nobody dies by these entries
pub harmless_dead : (es : List Entry) (r : Registry) (p : Process) → are_harmless es ≡ true
    → (fold (λ r e. effect e r) r es).dead p ≡ true → r.dead p ≡ true
harmless_dead [] r p h d = d
harmless_dead (e ∷ es) r p h d =
    let parts : (not (is_deadly e) ≡ true) × (are_harmless es ≡ true) = both (not (is_deadly e)) (are_harmless es) h in
    elim (dead-cases r e p (harmless_dead es (effect e r) p parts.1 d)) [
      | inl k ↦ k
      | inr k ↦ absurd (not_deadly e k parts.0)
    ]
  where
    not_deadly : (e : Entry) → Kills r p e → not (is_deadly e) ≡ true → ⊥
    not_deadly (Entry.Exit q) k n = cc n
    not_deadly (Entry.Join j i m Joined) k n = cc n
    not_deadly _ k n = elim k [ ]

killed_by_join : (r : Registry) (p : Process) (j k m : ℕ) → Kills r p (Entry.Join j k m Joined)
    → Contains (settle (view r m) (r.lone j)).fate.kills p
killed_by_join r p j k m (ByJoin x y z c) = c

-- who dies where a node is let in: a process of a member, or of the joiner
pub admitted_dead : (o : Opening) (w : World) → Base o w → (a j k : ℕ) (pairs : Table) (r : Round) (more : List Entry)
    → IsUp o w a → (w.node a).current ≡ Current.Asking (Op.Admission j pairs) r
    → IsLegal (in_cluster o) (w.history ++ Entry.Join j k a Joined ∷ more) → are_harmless more ≡ true → (p : Process)
    → left w p.node ≡ false
    → (registry_of (in_cluster o) (w.history ++ Entry.Join j k a Joined ∷ more)).dead p ≡ true
    → ((registry_of (in_cluster o) w.history).dead p ≡ true)
    ⊎ (Contains (settle (w.node a).replica.table pairs).fate.kills p
    × (((w.node a).replica.members p.node ≡ true) ⊎ (p.node ≡ j)))
admitted_dead o w B a j k pairs r0 more up asks legal calm p running dead =
    elim (dead-cases (registry_of (in_cluster o) w.history) (Entry.Join j k a Joined) p
    (harmless_dead more (effect (Entry.Join j k a Joined) (registry_of (in_cluster o) w.history)) p calm
    (sym (ap (λ (r : Registry). r.dead p)
    (registry_of-append (in_cluster o) w.history (Entry.Join j k a Joined ∷ more))) ∙ dead))) [
      | inl h ↦ inl h
      | inr h ↦ inr (kills (killed_by_join (registry_of (in_cluster o) w.history) p j k a h))
    ]
  where
    r : Registry
    r = (standing_at o w).registry

    rule : JoinIsLegal (standing_at o w) j a
    rule = join_is_legal (standing_at o w) j a
        (is_legal-at (in_cluster o) w.history more (Entry.Join j k a Joined) legal)

    shows : (w.node a).replica ≡ replica_of (standing_at o w).registry a
    shows = States.shows_free o w (replicas o w B) a up (Legality.none_of (hold_at (standing_at o w) a) rule.free_contact)

    sent_pairs : (standing_at o w).registry.lone j ≡ pairs
    sent_pairs = ((heard_joins o w B).admission a j pairs r0 up asks).1

    same : registry_of (in_cluster o) w.history ≡ (standing_at o w).registry
    same = sym (registry-standing_of (in_cluster o) w.history)

    kills : Contains (settle (view (registry_of (in_cluster o) w.history) a)
        ((registry_of (in_cluster o) w.history).lone j)).fate.kills p
        → Contains (settle (w.node a).replica.table pairs).fate.kills p
        × (((w.node a).replica.members p.node ≡ true) ⊎ (p.node ≡ j))
    kills c = (
      subst (λ (t : Table). Contains (settle t pairs).fate.kills p) (sym (ap (λ (v : Replica). v.table) shows))
          (subst (λ (t : Table). Contains (settle (view (standing_at o w).registry a) t).fate.kills p) sent_pairs here),
      whose (name_of_killed (view (standing_at o w).registry a) ((standing_at o w).registry.lone j)
          (is_rising-view (standing_at o w).registry good.rises a) (good.rises.lone j) p here),
    )
      where
        good : IsGood (standing_at o w).registry
        good = IsGood-standing_of (in_cluster o) w.history (replicas o w B).legal

        here : Contains (settle (view (standing_at o w).registry a) ((standing_at o w).registry.lone j)).fate.kills p
        here = subst (λ (q : Registry). Contains (settle (view q a) (q.lone j)).fate.kills p) same c

        -- an owner that the contact sees is on a member
        member : (x : Text) → get x (view (standing_at o w).registry a) ≡ Some p → (w.node a).replica.members p.node ≡ true
        member x h =
            let seen : (get x (table_of (standing_at o w).registry a) ≡ Some p)
            × ((standing_at o w).registry.told a p.node ≡ false) =
            get-seen ((standing_at o w).registry.told a) (table_of (standing_at o w).registry a)
            (is_rising-table_of (standing_at o w).registry good.rises a) x p h in
            let joined : (standing_at o w).registry.joined p.node ≡ true = good.joined_owners.owner x p
            (subst (λ (b : Bool). get x (if b then (standing_at o w).registry.table
            else (standing_at o w).registry.lone a) ≡ Some p) rule.contact seen.0) in
            ap (λ (v : Replica). v.members p.node) shows ∙ rw (rule.contact, joined, seen.1) refl

        whose : HasName (view (standing_at o w).registry a) ((standing_at o w).registry.lone j) p
            → ((w.node a).replica.members p.node ≡ true) ⊎ (p.node ≡ j)
        whose (x, inl h) = inl (member x h)
        whose (x, inr h) = inr ((good.owners.own j rule.lone).owner x p h)
