-- On which nodes the owners of names are: those of a lone node's names on it, and those of the cluster's on joined nodes.
use Rattle.std.proofs.Common.{ℕ, Bool, true, false, ◌==◌, ◌≡◌, Option, Some, None, List, [], refl, sym, subst, ap, ◌∙◌}
use Rattle.std.specs.Prelude.{if◌then◌else◌, not}
use Rattle.std.proofs.lemmas.Bool.{eqb-true, and_parts}
use Rattle.registry_model.specs.Process.{Text, Process, is_process, Nodes, at}
use Rattle.registry_model.specs.Table.{Pair, Table, is_rising, get, entry, put, remove, strike, changed, StrikeOwner}
use Rattle.registry_model.specs.Settlement.{with_settled, settle}
use Rattle.registry_model.specs.Call.{NameCall, Register, ReRegister, Unregister, Reply, Yes, Joined, is_grant, change_of}
use Rattle.registry_model.specs.Registry.{Registry, in_group, with_table, view, members}
use Rattle.registry_model.specs.History.{Entry, Name, Strike, Join, Done, Exit, Left, Told, Read, effect, Standing, standing_of}
use Rattle.registry_model.specs.Legal.{is_legal, IsLegal}
use Rattle.registry_model.proofs.Updates.{by_test, at_same}
use Rattle.registry_model.proofs.Tables.{if_kept, owner_in, get-entry, get-put, get-remove, get-strike}
use Rattle.registry_model.proofs.Settling.{wins, goes, behind, entry-settled}
use Rattle.registry_model.proofs.HistoryParts.{registry-after, legal_keeps}
use Rattle.registry_model.proofs.Rising.{Rises, Rises-effect}
use Rattle.registry_model.proofs.Legality.{NameIsLegal, name_is_legal, join_is_legal, YesToRegister, yes_to_register, granted_register, granted_re_register}

-- all owners are so
pub record OwnersAre (IsSo : Process → Type 0) (t : Table) : Type 0 where
  pub owner : (x : Text) (p : Process) → get x t ≡ Some p → IsSo p

-- a name is put for one who is so
pub OwnersAre-put : (IsSo : Process → Type 0) (t : Table) (new : Pair) → IsSo new.owner → OwnersAre IsSo t →
    OwnersAre IsSo (put new t)
OwnersAre-put IsSo t new i o = record { owner = λ x p h. go x p (new.name == x) (sym (get-put new t x) ∙ h) }
  where
    go : (x : Text) (p : Process) (b : Bool) → (if b then Some new.owner else get x t) ≡ Some p → IsSo p
    go x p true h = let e : new.owner ≡ p = cc in subst IsSo e i
    go x p false h = o.owner x p h

-- a name is removed
pub OwnersAre-remove : (IsSo : Process → Type 0) (t : Table) (y : Text) → OwnersAre IsSo t → OwnersAre IsSo (remove y t)
OwnersAre-remove IsSo t y o = record { owner = λ x p h. go x p (y == x) (sym (get-remove y t x) ∙ h) }
  where
    go : (x : Text) (p : Process) (b : Bool) → (if b then None else get x t) ≡ Some p → IsSo p
    go x p true h = absurd cc
    go x p false h = o.owner x p h

-- a process is struck
pub OwnersAre-strike : (IsSo : Process → Type 0) (t : Table) (q : Process) → is_rising t ≡ true → OwnersAre IsSo t →
    OwnersAre IsSo (strike q t)
OwnersAre-strike IsSo t q r o = record { owner = λ x p h. go x p (get x t) refl (sym (get-strike q t r x) ∙ h) }
  where
    go : (x : Text) (p : Process) (w : Option Process) → get x t ≡ w → if_kept (λ a. not (is_process a q)) w ≡ Some p →
        IsSo p
    go x p None k h = absurd cc
    go x p (Some a) k h = by (not (is_process a q)) h
      where
        by : (b : Bool) → (if b then Some a else None) ≡ Some p → IsSo p
        by true h = o.owner x p (k ∙ h)
        by false h = absurd cc

-- a settlement is written over a table
pub OwnersAre-settled : (IsSo : Process → Type 0) (over table pairs : Table) → is_rising pairs ≡ true →
    OwnersAre IsSo pairs → OwnersAre IsSo over → OwnersAre IsSo (with_settled (settle table pairs) over)
OwnersAre-settled IsSo over table pairs r op oo = record {
  owner = λ x p h. go x p (entry x pairs) refl
      (ap owner_in (sym (entry-settled over table pairs r x)) ∙ sym (get-entry x (with_settled (settle table pairs) over)) ∙ h);
}
  where
    kept : (x : Text) (p : Process) → owner_in (entry x over) ≡ Some p → IsSo p
    kept x p h = oo.owner x p (get-entry x over ∙ h)

    go : (x : Text) (p : Process) (o : Option Pair) → entry x pairs ≡ o →
        owner_in (behind o (entry x table) (entry x over)) ≡ Some p → IsSo p
    go x p None k h = kept x p h
    go x p (Some e) k h = by (goes e (entry x table)) (wins e (entry x table)) h
      where
        by : (g w : Bool) → owner_in (if g then None else (if w then Some e else entry x over)) ≡ Some p → IsSo p
        by true w h = absurd cc
        by false true h = op.owner x p (get-entry x pairs ∙ ap owner_in k ∙ h)
        by false false h = kept x p h

-- all owners are processes of n
abbrev pub IsOwn : ℕ → Table → Type 0
IsOwn n t = OwnersAre (λ p. p.node ≡ n) t

-- so it is at each lone node
pub record LoneOwners (r : Registry) : Type 0 where
  pub own : (n : ℕ) → r.joined n ≡ false → IsOwn n (r.lone n)

-- a table changes
pub LoneOwners-with_table : (m : ℕ) (f : Table → Table) (r : Registry) → (r.joined m ≡ false → IsOwn m (f (r.lone m))) →
    LoneOwners r → LoneOwners (with_table m f r)
LoneOwners-with_table m f r new g = go (r.joined m) refl
  where
    go : (b : Bool) → r.joined m ≡ b →
        LoneOwners (if b then record r { table = f r.table } else record r { lone = at r.lone m (f (r.lone m)) })
    go true j = record { own = g.own }
    go false j = record {
      own =
          by_test m (λ x t. r.joined x ≡ false → IsOwn x (if t then f (r.lone m) else r.lone x)) new (λ x ne. g.own x);
    }

-- a member of a lone node's group is that node
pub members-lone : (r : Registry) (n c : ℕ) → r.joined n ≡ false → members r n c ≡ true → c ≡ n
members-lone r n c j m = go (r.joined n) j (and_parts (in_group r n c) (not (r.told n c)) m).0
  where
    go : (b : Bool) → b ≡ false → (if b then r.joined c else c == n) ≡ true → c ≡ n
    go true j i = absurd cc
    go false j i = eqb-true c n i

-- a granted name call
pub IsOwn-granted : (s : Standing) (n : ℕ) (call : NameCall) (reply : Reply) → NameIsLegal s n call reply →
    is_grant reply ≡ true → s.registry.joined n ≡ false →
    IsOwn n (s.registry.lone n) → IsOwn n (changed (change_of call) (s.registry.lone n))
IsOwn-granted s n (Register new) reply l g j o =
    let e : reply ≡ Yes = granted_register (members s.registry n) (view s.registry n) new reply l.answer g in
    let y : YesToRegister (members s.registry n) (view s.registry n) new =
    yes_to_register (members s.registry n) (view s.registry n) new (sym e ∙ l.answer) in
    OwnersAre-put (λ p. p.node ≡ n) (s.registry.lone n) new (members-lone s.registry n new.owner.node j y.member) o
IsOwn-granted s n (ReRegister new) reply l g j o =
    let y : (reply ≡ Yes) × (members s.registry n new.owner.node ≡ true) =
    granted_re_register (members s.registry n) (view s.registry n) new reply l.answer g in
    OwnersAre-put (λ p. p.node ≡ n) (s.registry.lone n) new (members-lone s.registry n new.owner.node j y.1) o
IsOwn-granted s n (Unregister x) reply l g j o = OwnersAre-remove (λ p. p.node ≡ n) (s.registry.lone n) x o

-- each legal entry
pub LoneOwners-effect : (s : Standing) (e : Entry) → is_legal s e ≡ true → Rises s.registry → LoneOwners s.registry →
    LoneOwners (effect e s.registry)
LoneOwners-effect s (Name n k call reply) l r g = go (is_grant reply) refl
  where
    go : (b : Bool) → is_grant reply ≡ b →
        LoneOwners (if b then with_table n (changed (change_of call)) s.registry else s.registry)
    go true i = LoneOwners-with_table n (changed (change_of call)) s.registry
        (λ j. IsOwn-granted s n call reply (name_is_legal s n call reply l) i j (g.own n j)) g
    go false i = g
LoneOwners-effect s (Strike p) l r g =
    LoneOwners-with_table p.node (changed (StrikeOwner p)) s.registry
    (λ j. OwnersAre-strike (λ q. q.node ≡ p.node) (s.registry.lone p.node) p (r.lone p.node) (g.own p.node j)) g
LoneOwners-effect s (Join j k m Joined) l r g = record {
  own = by_test j (λ x t. (if t then true else s.registry.joined x) ≡ false →
      IsOwn x (if t then [] else s.registry.lone x)) (λ i. absurd cc) (λ x ne i. g.own x i);
}
LoneOwners-effect s (Join j k m _) l r g = g
LoneOwners-effect s (Done n) l r g = g
LoneOwners-effect s (Exit p) l r g = record { own = g.own }
LoneOwners-effect s (Left d) l r g = record { own = g.own }
LoneOwners-effect s (Told n d) l r g = record { own = g.own }
LoneOwners-effect s (Read n look reply) l r g = g

-- the names of the cluster are those of processes of joined nodes
abbrev pub JoinedOwners : Registry → Type 0
JoinedOwners r = OwnersAre (λ p. r.joined p.node ≡ true) r.table

-- its table changes, or that of a lone node
pub JoinedOwners-with_table : (m : ℕ) (f : Table → Table) (r : Registry) →
    (r.joined m ≡ true → OwnersAre (λ p. r.joined p.node ≡ true) (f r.table)) → JoinedOwners r →
    JoinedOwners (with_table m f r)
JoinedOwners-with_table m f r new g = go (r.joined m) refl
  where
    go : (b : Bool) → r.joined m ≡ b →
        JoinedOwners (if b then record r { table = f r.table } else record r { lone = at r.lone m (f (r.lone m)) })
    go true j = record { owner = (new j).owner }
    go false j = record { owner = g.owner }

-- a member of a joined node's group is joined
pub members-joined : (r : Registry) (n c : ℕ) → r.joined n ≡ true → members r n c ≡ true → r.joined c ≡ true
members-joined r n c j m = go (r.joined n) j (and_parts (in_group r n c) (not (r.told n c)) m).0
  where
    go : (b : Bool) → b ≡ true → (if b then r.joined c else c == n) ≡ true → r.joined c ≡ true
    go true j i = i
    go false j i = absurd cc

-- a granted name call
pub joined_granted : (s : Standing) (n : ℕ) (call : NameCall) (reply : Reply) → NameIsLegal s n call reply →
    is_grant reply ≡ true → s.registry.joined n ≡ true → JoinedOwners s.registry →
    OwnersAre (λ p. s.registry.joined p.node ≡ true) (changed (change_of call) s.registry.table)
joined_granted s n (Register new) reply l g j o =
    let e : reply ≡ Yes = granted_register (members s.registry n) (view s.registry n) new reply l.answer g in
    let y : YesToRegister (members s.registry n) (view s.registry n) new =
    yes_to_register (members s.registry n) (view s.registry n) new (sym e ∙ l.answer) in
    OwnersAre-put (λ p. s.registry.joined p.node ≡ true) s.registry.table new
    (members-joined s.registry n new.owner.node j y.member) o
joined_granted s n (ReRegister new) reply l g j o =
    let y : (reply ≡ Yes) × (members s.registry n new.owner.node ≡ true) =
    granted_re_register (members s.registry n) (view s.registry n) new reply l.answer g in
    OwnersAre-put (λ p. s.registry.joined p.node ≡ true) s.registry.table new
    (members-joined s.registry n new.owner.node j y.1) o
joined_granted s n (Unregister x) reply l g j o =
    OwnersAre-remove (λ p. s.registry.joined p.node ≡ true) s.registry.table x o

-- each legal entry
pub JoinedOwners-effect : (s : Standing) (e : Entry) → is_legal s e ≡ true → Rises s.registry → LoneOwners s.registry →
    JoinedOwners s.registry → JoinedOwners (effect e s.registry)
JoinedOwners-effect s (Name n k call reply) l r lone g = go (is_grant reply) refl
  where
    go : (b : Bool) → is_grant reply ≡ b →
        JoinedOwners (if b then with_table n (changed (change_of call)) s.registry else s.registry)
    go true i = JoinedOwners-with_table n (changed (change_of call)) s.registry
        (λ j. joined_granted s n call reply (name_is_legal s n call reply l) i j g) g
    go false i = record { owner = g.owner }
JoinedOwners-effect s (Strike p) l r lone g =
    JoinedOwners-with_table p.node (changed (StrikeOwner p)) s.registry
    (λ j. OwnersAre-strike (λ q. s.registry.joined q.node ≡ true) s.registry.table p r.table g) g
JoinedOwners-effect s (Join j k m Joined) l r lone g = record {
  owner =
      (OwnersAre-settled (λ p. at s.registry.joined j true p.node ≡ true) s.registry.table (view s.registry m)
      (s.registry.lone j) (r.lone j)
      (record {
        owner = λ x p h. ap (at s.registry.joined j true) ((lone.own j (join_is_legal s j m l).lone).owner x p h)
            ∙ at_same s.registry.joined j true;
      })
      (record { owner = λ x p h. more p.node (g.owner x p h) })).owner;
}
  where
    more : (c : ℕ) → s.registry.joined c ≡ true → at s.registry.joined j true c ≡ true
    more c h = go (c == j)
      where
        go : (b : Bool) → (if b then true else s.registry.joined c) ≡ true
        go true = refl
        go false = h
JoinedOwners-effect s (Join j k m _) l r lone g = g
JoinedOwners-effect s (Done n) l r lone g = g
JoinedOwners-effect s (Exit p) l r lone g = record { owner = g.owner }
JoinedOwners-effect s (Left d) l r lone g = record { owner = g.owner }
JoinedOwners-effect s (Told n d) l r lone g = record { owner = g.owner }
JoinedOwners-effect s (Read n look reply) l r lone g = g

-- the names rise, those of lone nodes are their own, and those of the cluster are its nodes'
pub record IsGood (r : Registry) : Type 0 where
  pub rises : Rises r
  pub owners : LoneOwners r
  pub joined_owners : JoinedOwners r

-- what each legal history comes to
pub IsGood-standing_of : (cluster : Nodes) (h : List Entry) → IsLegal cluster h
    → IsGood (standing_of cluster h).registry
IsGood-standing_of cluster h l = legal_keeps cluster (λ s. IsGood s.registry)
    (record {
      rises = record { table = refl; lone = λ n. refl };
      owners = record { own = λ n j. record { owner = λ x p h. absurd cc } };
      joined_owners = record { owner = λ x p h. absurd cc };
    })
    (λ s e legal g. subst IsGood (sym (registry-after s e))
    (record {
      rises = Rises-effect s.registry e g.rises;
      owners = LoneOwners-effect s e legal g.rises g.owners;
      joined_owners = JoinedOwners-effect s e legal g.rises g.owners g.joined_owners;
    }))
    h l
