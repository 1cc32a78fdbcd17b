-- What the registry of the history has of nodes that haven't started: nothing.
use Rattle.std.proofs.Common.{ℕ, Bool, true, false, ◌≡◌, List, [], ◌∷◌, ◌++◌, map, refl, sym, ap, subst, ◌∙◌, inl, inr}
use Rattle.std.specs.Prelude.{None, ◌||◌, not, if◌then◌else◌, All, filter, fold}
use Rattle.std.specs.List.{list_any}
use Rattle.std.proofs.Math.Path.{fun_ext}
use Rattle.std.proofs.lemmas.Bool.{or_cases, false_from_ne_true}
use Rattle.std.proofs.lemmas.List.Sums.{fold-append}
use Rattle.std.proofs.lemmas.List.Elements.{All-nil, All-head, All-tail, All-filter, All-contains, All-weaker}
use Rattle.registry_model.specs.Process.{Process, is_process, Nodes, nobody, at, with_node}
use Rattle.registry_model.specs.Table.{Table, changed, StrikeOwner}
use Rattle.registry_model.specs.Settlement.{Notice, Noted, notices_to, Settled, settle}
use Rattle.registry_model.specs.Call.{Joined, is_grant, change_of}
use Rattle.registry_model.specs.Registry.{Registry, opening, table_of, with_table, view}
use Rattle.registry_model.specs.History.{Entry, Told, effect, registry_of}
use Rattle.registry_model.proofs.Lists.{is_process-true, Contains-list_any}
use Rattle.registry_model.proofs.Updates.{by_test, at_same}
use Rattle.protocol_model.specs.Event.{Event}
use Rattle.protocol_model.specs.World.{Opening, in_cluster, World, left, WorldEvent, At, Deliver, place, other, refusal, turn_of, accepted}
use Rattle.creations.specs.Restarts.{RestartIsItsNotices}
use Rattle.creations.proofs.Inside.{IsOwnedIn, OwnersIn, IsEntryIn, IsFateIn, changed_owners, settled_owners, settles_owners, settles_fates}
use Rattle.creations.proofs.Apart.{Apart, turn_inside}
use Rattle.creations.proofs.Telling.{told_all, told_of, told_only}

module _ (S L : Nodes) where
  -- these have left by the registry, and it has nothing of nodes that aren't of the set
  pub record RegistryIn (r : Registry) : Type 0 where
    pub left : (d : ℕ) → r.left d ≡ L d
    pub untold : (n d : ℕ) → S n ≡ false → r.told n d ≡ false
    pub table : OwnersIn S r.table
    pub lone : (n : ℕ) → OwnersIn S (r.lone n)
    pub dead : (p : Process) → r.dead p ≡ true → S p.node ≡ true
    pub notices : (p : Process) → S p.node ≡ false → r.notices p ≡ []

  -- a table is changed
  with_table_in : (n : ℕ) (f : Table → Table) (r : Registry) → ((t : Table) → OwnersIn S t → OwnersIn S (f t)) → RegistryIn r
      → RegistryIn (with_table n f r)
  with_table_in n f r keeps R = go (r.joined n)
    where
      go : (b : Bool)
          → RegistryIn (if b then record r { table = f r.table } else record r { lone = at r.lone n (f (r.lone n)) })
      go true = record {
        left = R.left;
        untold = R.untold;
        table = keeps r.table R.table;
        lone = R.lone;
        dead = R.dead;
        notices = R.notices;
      }
      go false = record {
        left = R.left;
        untold = R.untold;
        table = R.table;
        lone = by_test n (λ x t. OwnersIn S (if t then f (r.lone n) else r.lone x)) (keeps (r.lone n) (R.lone n)) (λ x ne. R.lone x);
        dead = R.dead;
        notices = R.notices;
      }

  -- nobody else is sent notices
  no_notices : (p : Process) (ns : List Noted) → S p.node ≡ false → All (λ n. S n.process.node ≡ true) ns → notices_to p ns ≡ []
  no_notices p [] e of = refl
  no_notices p (n ∷ ns) e of = go (is_process n.process p) refl
      (no_notices p ns e (All-tail (λ (x : Noted). S x.process.node ≡ true) n ns of))
    where
      never : is_process n.process p ≡ true → ⊥
      never i = let h : S n.process.node ≡ true = All-head (λ (x : Noted). S x.process.node ≡ true) n ns of in
          cc (e, h, ap (λ (q : Process). S q.node) (is_process-true n.process p i))

      go : (b : Bool) → is_process n.process p ≡ b → notices_to p ns ≡ []
          → map (λ (x : Noted). x.notice) (if b then n ∷ filter (λ x. is_process x.process p) ns
          else filter (λ x. is_process x.process p) ns) ≡ []
      go true i h = absurd (never i)
      go false i h = h

  pub view_in : (m : ℕ) (r : Registry) → RegistryIn r → OwnersIn S (view r m)
  view_in m r R = All-filter (λ pair. not (r.told m pair.owner.node)) (IsOwnedIn S) (table_of r m) (go (r.joined m))
    where
      go : (b : Bool) → OwnersIn S (if b then r.table else r.lone m)
      go true = R.table
      go false = R.lone m

  -- an entry
  effect_in : (e : Entry) (r : Registry) → IsEntryIn S e → RegistryIn r → RegistryIn (effect e r)
  effect_in (Entry.Name n k call reply) r i R = go (is_grant reply) refl
    where
      go : (b : Bool) → is_grant reply ≡ b → RegistryIn (if b then with_table n (changed (change_of call)) r else r)
      go true e = with_table_in n (changed (change_of call)) r (λ t of. changed_owners S (change_of call) t (i e) of) R
      go false e = R
  effect_in (Entry.Strike p) r i R =
      with_table_in p.node (changed (StrikeOwner p)) r (λ t of. changed_owners S (StrikeOwner p) t tt of) R
  effect_in (Entry.Join j k m Joined) r i R = record {
    left = R.left;
    untold = λ n d e. by_test j (λ x t. S x ≡ false → (if t then (λ c. r.told j c || r.told m c) else r.told x) d ≡ false)
        (λ f. absurd (cc (f, i))) (λ x ne f. R.untold x d f) n e;
    table = settled_owners S s r.table (settles_owners S (view r m) (r.lone j) (R.lone j)) R.table;
    lone = by_test j (λ x t. OwnersIn S (if t then [] else r.lone x)) (All-nil (IsOwnedIn S)) (λ x ne. R.lone x);
    dead = λ p e. elim (or_cases (r.dead p) (list_any (is_process p) s.fate.kills) e) [
      | inl old ↦ R.dead p old
      | inr new ↦ All-contains (λ (q : Process). S q.node ≡ true) s.fate.kills p fates.kills (Contains-list_any p s.fate.kills new)
    ];
    notices = λ p e. ap (λ (ns : List Notice). ns ++ notices_to p s.fate.notices)
        (R.notices p e) ∙ no_notices p s.fate.notices e fates.notices;
  }
    where
      s : Settled
      s = settle (view r m) (r.lone j)

      fates : IsFateIn S s.fate
      fates = settles_fates S (view r m) (r.lone j) (view_in m r R) (R.lone j)
  effect_in (Entry.Join j k m _) r i R = R
  effect_in (Entry.Done n) r i R = R
  effect_in (Entry.Exit p) r i R = record {
    left = R.left;
    untold = R.untold;
    table = R.table;
    lone = R.lone;
    dead = λ q e. elim (or_cases (is_process q p) (r.dead q) e) [
      | inl same ↦ ap (λ (x : Process). S x.node) (is_process-true q p same) ∙ i
      | inr old ↦ R.dead q old
    ];
    notices = R.notices;
  }
  effect_in (Entry.Left d) r i R = absurd i
  effect_in (Entry.Told n d) r i R = record {
    left = R.left;
    untold = λ c x e. by_test n (λ y t. S y ≡ false → (if t then with_node d (r.told n) else r.told y) x ≡ false)
        (λ f. absurd (cc (f, i))) (λ y ne f. R.untold y x f) c e;
    table = R.table;
    lone = R.lone;
    dead = R.dead;
    notices = R.notices;
  }
  effect_in (Entry.Read n look reply) r i R = R

  pub entries_recorded : (es : List Entry) (r : Registry) → All (IsEntryIn S) es → RegistryIn r
      → RegistryIn (fold (λ x e. effect e x) r es)
  entries_recorded [] r of R = R
  entries_recorded (e ∷ es) r of R = entries_recorded es (effect e r) (All-tail (IsEntryIn S) e es of)
      (effect_in e r (All-head (IsEntryIn S) e es of) R)

-- so it is at first
pub opening_recorded : (S cluster : Nodes) → RegistryIn S nobody (opening cluster)
opening_recorded S cluster = record {
  left = λ d. refl;
  untold = λ n d e. refl;
  table = All-nil (IsOwnedIn S);
  lone = λ n. All-nil (IsOwnedIn S);
  dead = λ p e. cc;
  notices = λ p e. refl;
}

-- and for each wider set
pub wider_recorded : (S T L : Nodes) → ((c : ℕ) → S c ≡ true → T c ≡ true) → ((c : ℕ) → T c ≡ false → S c ≡ false) → (r : Registry)
    → RegistryIn S L r → RegistryIn T L r
wider_recorded S T L wider outside r R = record {
  left = R.left;
  untold = λ n d e. R.untold n d (outside n e);
  table = owners r.table R.table;
  lone = λ n. owners (r.lone n) (R.lone n);
  dead = λ p e. wider p.node (R.dead p e);
  notices = λ p e. R.notices p (outside p.node e);
}
  where
    owners : (t : Table) → OwnersIn S t → OwnersIn T t
    owners t of = All-weaker (IsOwnedIn S) (IsOwnedIn T) (λ pair e. wider pair.owner.node e) t of

module _ (o : Opening) (S : Nodes) (w : World) (least : S 0 ≡ true) (A : Apart o S w) where
  abbrev cluster : Nodes
  cluster = in_cluster o

  -- entries more
  adds : (es : List Entry) → All (IsEntryIn S) es → RegistryIn S (left w) (registry_of cluster w.history)
      → RegistryIn S (left w) (registry_of cluster (w.history ++ es))
  adds es of R = subst (RegistryIn S (left w))
      (sym (fold-append (λ (r : Registry) (e : Entry). effect e r) (opening cluster) w.history es))
      (entries_recorded S (left w) es (registry_of cluster w.history) of R)

  -- an accepted event
  pub accepted_recorded : (e : WorldEvent) → S (place e) ≡ true → S (other e) ≡ true → refusal o w e ≡ None
      → RegistryIn S (left w) (registry_of cluster w.history)
      → RegistryIn S (left (accepted o w e)) (registry_of cluster (accepted o w e).history)
  accepted_recorded (At a (Event.Calling c)) i j r R =
      adds (turn_of o w (At a (Event.Calling c))).entries (turn_inside o S w least A (At a (Event.Calling c)) tt i j r).entered R
  accepted_recorded (At a Event.Retry) i j r R =
      adds (turn_of o w (At a Event.Retry)).entries (turn_inside o S w least A (At a Event.Retry) tt i j r).entered R
  accepted_recorded (At a (Event.Exiting p)) i j r R =
      adds (turn_of o w (At a (Event.Exiting p))).entries (turn_inside o S w least A (At a (Event.Exiting p)) tt i j r).entered R
  accepted_recorded (At a Event.Leave) i j r R = subst (RegistryIn S (with_node a (left w)))
      (sym (fold-append (λ (x : Registry) (e : Entry). effect e x) (opening cluster) w.history (Entry.Left a ∷ [])))
      (record {
        left = by_test a (λ x t. (if t then true else (registry_of cluster w.history).left x) ≡ (if t then true else left w x)) refl
            (λ x ne. R.left x);
        untold = R.untold;
        table = R.table;
        lone = R.lone;
        dead = R.dead;
        notices = R.notices;
      })
  accepted_recorded (Deliver f t) i j r R =
      adds (turn_of o w (Deliver f t)).entries (turn_inside o S w least A (Deliver f t) tt i j r).entered R

-- The registry's own restart is its notices
notices_told : (n : ℕ) (ds : List ℕ) (r : Registry)
    → fold (λ s e. effect e s) r (map (Told n) ds) ≡ record r { told = at r.told n (told_all (r.told n) ds) }
notices_told n [] r = ap (λ (t : ℕ → Nodes). record r { told = t })
    (fun_ext (by_test n (λ x t. r.told x ≡ (if t then r.told n else r.told x)) refl (λ x ne. refl)))
notices_told n (d ∷ ds) r = notices_told n ds (record r { told = at r.told n (with_node d (r.told n)) })
    ∙ ap (λ (t : ℕ → Nodes). record r { told = t }) (fun_ext (by_test n
    (λ x t. (if t then told_all (at r.told n (with_node d (r.told n)) n) ds else (if t then with_node d (r.told n) else r.told x))
    ≡ (if t then told_all (with_node d (r.told n)) ds else r.told x))
    (ap (λ (s : Nodes). told_all s ds) (at_same r.told n (with_node d (r.told n))))
    (λ x ne. refl)))

pub restart_is_its_notices : RestartIsItsNotices
restart_is_its_notices n ds r all untold = notices_told n ds r
    ∙ ap (λ (s : Nodes). record r { told = at r.told n s }) (fun_ext (λ c. go c (r.left c) refl))
  where
    go : (c : ℕ) (b : Bool) → r.left c ≡ b → told_all (r.told n) ds c ≡ b
    go c true e = told_of (r.told n) ds c ((all c).0 e)
    go c false e = false_from_ne_true (told_all (r.told n) ds c) (λ q. elim (told_only (r.told n) ds c q) [
      | inl old ↦ cc (old, untold c)
      | inr i ↦ cc ((all c).1 i, e)
    ])
