-- Nodes of a set that know of nodes of this set alone: whom they know of, ask and send to, whose names and whose locks they have.
use Rattle.std.proofs.Common.{ℕ, zero, suc, Bool, true, false, ◌==◌, ◌≡◌, ◌+◌, ◌-◌, List, [], ◌∷◌, ◌++◌, get_or, map, refl, ap, subst, ◌∙◌}
use Rattle.std.specs.Prelude.{◌&&◌, not, if◌then◌else◌, All, nat_lt, fold, Option, Some, None}
use Rattle.std.specs.List.{list_any}
use Rattle.std.proofs.lemmas.Bool.{eqb-true, and_parts}
use Rattle.std.proofs.lemmas.List.Elements.{All-nil, All-cons, All-head, All-tail, All-append, All-push, All-map, All-filter}
use Rattle.registry_model.specs.Process.{Text, Process, is_process, Nodes, nodes_of, with_node, without_node}
use Rattle.registry_model.specs.Table.{Rule, Pair, Table, Change, entry, put, put_all, remove, remove_all, changed}
use Rattle.registry_model.specs.Settlement.{Fate, Settled, note, doomed, unsettled, with_put, with_kill, with_notices, clash, settle_one, settle, with_settled}
use Rattle.registry_model.specs.Call.{is_grant, change_of}
use Rattle.registry_model.specs.Registry.{Replica}
use Rattle.registry_model.specs.History.{Entry}
use Rattle.protocol_model.specs.Letter.{Id, Letter}
use Rattle.protocol_model.specs.LockTable.{Grant, Locks, grant, give_back, is_grant_of}
use Rattle.protocol_model.specs.Node.{Op, Current, LockCall, LockPhase, call_of, put_call, wrote}
use Rattle.protocol_model.specs.Round as round
use Rattle.protocol_model.specs.Round.{Round, Mark, begin, greatest, asked, granted, owes, opens, answer, down, is_out}
use Rattle.protocol_model.specs.Turn.{Turn, Send}

module _ (S : Nodes) where
  -- all of these are of the set
  abbrev pub AreIn : Nodes → Type 0
  AreIn s = (c : ℕ) → s c ≡ true → S c ≡ true

  -- the owner of the pair is on such a node
  abbrev pub IsOwnedIn : Pair → Type 0
  IsOwnedIn pair = S pair.owner.node ≡ true

  abbrev pub OwnersIn : Table → Type 0
  OwnersIn t = All IsOwnedIn t

  -- and the holder of the grant
  abbrev pub IsGrantIn : Grant → Type 0
  IsGrantIn g = S g.holder.node ≡ true

  abbrev pub IsChangeIn : Change → Type 0
  IsChangeIn (Change.Put pair) = S pair.owner.node ≡ true
  IsChangeIn _ = Unit {0}

  abbrev pub IsOpIn : Op → Type 0
  IsOpIn (Op.Join k m) = S m ≡ true
  IsOpIn (Op.Admission j pairs) = (S j ≡ true) × OwnersIn pairs
  IsOpIn _ = Unit {0}

  abbrev pub AreOpsIn : List Op → Type 0
  AreOpsIn [] = Unit {0}
  AreOpsIn (op ∷ ops) = IsOpIn op × AreOpsIn ops

  abbrev pub IsCurrentIn : Current → Type 0
  IsCurrentIn (Current.Asking op r) = IsOpIn op × AreIn (asked r)
  IsCurrentIn (Current.Waiting op) = IsOpIn op
  IsCurrentIn (Current.Writing op s awaited reply) = AreIn s
  IsCurrentIn _ = Unit {0}

  abbrev pub IsPhaseIn : LockPhase → Type 0
  IsPhaseIn (LockPhase.Asking r) = AreIn (asked r)
  IsPhaseIn LockPhase.Waiting = Unit {0}
  IsPhaseIn (LockPhase.Deleting owing) = AreIn owing

  -- whom a lock call asks, and its process
  pub record IsCallIn (c : LockCall) : Type 0 where
    pub phase : IsPhaseIn c.phase
    pub holder : S c.holder.node ≡ true

  -- whom a letter speaks of
  abbrev pub IsLetterIn : Letter → Type 0
  IsLetterIn (Letter.SetLock id p) = S p.node ≡ true
  IsLetterIn (Letter.Apply change) = IsChangeIn change
  IsLetterIn (Letter.JoinAsk pairs) = OwnersIn pairs
  IsLetterIn (Letter.Admit j settled) = (S j ≡ true) × OwnersIn settled.puts
  IsLetterIn (Letter.Welcome members pairs told fate) = AreIn members × OwnersIn pairs × AreIn told
  IsLetterIn _ = Unit {0}

  -- what an entry of the history speaks of; a departure is entered by a leave alone
  abbrev pub IsEntryIn : Entry → Type 0
  IsEntryIn (Entry.Name n k call reply) = is_grant reply ≡ true → IsChangeIn (change_of call)
  IsEntryIn (Entry.Join j k m reply) = S j ≡ true
  IsEntryIn (Entry.Exit p) = S p.node ≡ true
  IsEntryIn (Entry.Left d) = ⊥
  IsEntryIn (Entry.Told n d) = S n ≡ true
  IsEntryIn _ = Unit {0}

  -- a letter that goes to one of the set and speaks of the set
  abbrev pub IsSentIn : Send → Type 0
  IsSentIn s = (S s.to ≡ true) × IsLetterIn s.letter

  -- a node that knows of nodes of the set alone, and what it sends
  pub record Knows (known : Replica) (locks : Locks) (ops : List Op) (cur : Current) (calls : List LockCall) (ss : List Send)
      (es : List Entry) : Type 0 where
    pub members : AreIn known.members
    pub told : AreIn known.told
    pub disjoint : (c : ℕ) → known.members c ≡ true → known.told c ≡ false
    pub table : OwnersIn known.table
    pub grants : All IsGrantIn locks
    pub queue : AreOpsIn ops
    pub current : IsCurrentIn cur
    pub called : All IsCallIn calls
    pub sent : All IsSentIn ss
    pub entered : All IsEntryIn es

  -- the same of a turn
  abbrev pub IsInside : Turn → Type 0
  IsInside u = Knows u.node.replica u.node.locks u.node.queue u.node.current u.node.calls u.sends u.entries

-- of two tests the first
pub first_of : (b d : Bool) → (b && d) ≡ true → b ≡ true
first_of b d e = (and_parts b d e).0

module _ (S : Nodes) where
  pub ops-push : (ops : List Op) (op : Op) → AreOpsIn S ops → IsOpIn S op → AreOpsIn S (ops ++ op ∷ [])
  ops-push [] op all one = (one, tt)
  ops-push (o ∷ ops) op all one = (all.0, ops-push ops op all.1 one)

  -- one node more
  pub one_more : (s : Nodes) (d : ℕ) → AreIn S s → S d ≡ true → AreIn S (with_node d s)
  one_more s d of one x = go (x == d) refl
    where
      go : (b : Bool) → (x == d) ≡ b → (if b then true else s x) ≡ true → S x ≡ true
      go true same e = ap S (eqb-true x d same) ∙ one
      go false other e = of x e

  -- one node less
  pub one_less_in : (s : Nodes) (d : ℕ) → AreIn S s → AreIn S (without_node d s)
  one_less_in s d of x = go (x == d)
    where
      go : (b : Bool) → (if b then false else s x) ≡ true → S x ≡ true
      go true e = cc
      go false e = of x e

  -- the greatest of a set is of it, or is the least of all nodes
  pub greatest_is_in : (n : ℕ) (s : Nodes) → S 0 ≡ true → AreIn S s → S (greatest n s) ≡ true
  greatest_is_in zero s least of = least
  greatest_is_in (suc n) s least of = go (s n) refl (greatest_is_in n s least of)
    where
      go : (b : Bool) → s n ≡ b → S (greatest n s) ≡ true → S (if b then n else greatest n s) ≡ true
      go true here below = of n here
      go false here below = below

  -- the nodes of a set, listed
  listed_in : (n : ℕ) (s : Nodes) → AreIn S s → All (λ c. s c ≡ true) (nodes_of n s)
  listed_in zero s of = All-nil (λ c. s c ≡ true)
  listed_in (suc n) s of = go (s n) refl (listed_in n s of)
    where
      go : (b : Bool) → s n ≡ b → All (λ c. s c ≡ true) (nodes_of n s)
          → All (λ c. s c ≡ true) (nodes_of n s ++ (if b then n ∷ [] else []))
      go true here below = All-push (λ c. s c ≡ true) (nodes_of n s) n below here
      go false here below = All-append (λ c. s c ≡ true) (nodes_of n s) [] below (All-nil (λ c. s c ≡ true))

  -- a new round asks those of its set
  pub begin_asks : (n : ℕ) (s : Nodes) → AreIn S s → AreIn S (asked (begin n s))
  begin_asks n s of c e = of c (go (s c) (c == greatest n s) e)
    where
      go : (b d : Bool) → not (is_out (if b then (if d then round.Owes else round.Later) else round.Out)) ≡ true → b
          ≡ true
      go true d f = refl
      go false d f = f

  -- who granted was asked
  pub granted_in : (r : Round) → AreIn S (asked r) → AreIn S (granted r)
  granted_in r of c e = of c (go (r.mark c) e)
    where
      go : (m : Mark) → round.is_granted m ≡ true → not (is_out m) ≡ true
      go round.Granted f = refl
      go _ f = cc

  -- an answer that is owed asks nobody new
  pub answer_asks : (r : Round) (c : ℕ) (g : Bool) → AreIn S (asked r) → owes r c ≡ true → AreIn S (asked (answer c g r))
  answer_asks r c g of owed x = go (opens c g r) (owes r c)
    where
      was_asked : (m : Mark) → round.is_owes m ≡ true → not (is_out m) ≡ true
      was_asked round.Owes f = refl
      was_asked _ f = cc

      here : (x == c) ≡ true → S x ≡ true
      here e = of x (ap (asked r) (eqb-true x c e) ∙ was_asked (r.mark c) owed)

      too : (m : Mark) → not (is_out (round.asked_too m)) ≡ true → not (is_out m) ≡ true
      too round.Out f = f
      too _ f = refl

      at_place : (b : Bool) (m k : Mark) → (x == c) ≡ b → (not (is_out k) ≡ true → S x ≡ true)
          → not (is_out (if b then m else k)) ≡ true → S x ≡ true
      at_place true m k e more f = here e
      at_place false m k e more f = more f

      go : (b d : Bool)
          → asked (if b then round.marked c round.Granted (record r { mark = λ y. round.asked_too (r.mark y) })
          else (if d then round.marked c (if g then round.Granted else round.Refused) r else r)) x ≡ true
          → S x ≡ true
      go true d f = at_place (x == c) round.Granted (round.asked_too (r.mark x)) refl (λ k. of x (too (r.mark x) k)) f
      go false true f = at_place (x == c) (if g then round.Granted else round.Refused) (r.mark x) refl (of x) f
      go false false f = of x f

  -- nor does who goes down
  pub down_asks : (r : Round) (d : ℕ) → AreIn S (asked r) → AreIn S (asked (down d r))
  down_asks r d of x e = go (x == d) refl e
    where
      too : (m : Mark) → not (is_out (round.mark_down m)) ≡ true → not (is_out m) ≡ true
      too round.Out f = f
      too _ f = refl

      go : (b : Bool) → (x == d) ≡ b → not (is_out (if b then round.mark_down (r.mark d) else r.mark x)) ≡ true
          → S x ≡ true
      go true same f = of x (ap (asked r) (eqb-true x d same) ∙ too (r.mark d) f)
      go false other f = of x f

  -- a pair is put
  put_owners : (new : Pair) (t : Table) → IsOwnedIn S new → OwnersIn S t → OwnersIn S (put new t)
  put_owners new [] i of = All-cons (IsOwnedIn S) new [] i (All-nil (IsOwnedIn S))
  put_owners new (pair ∷ t) i of =
      go (pair.name == new.name) (nat_lt new.name pair.name) (put_owners new t i (All-tail (IsOwnedIn S) pair t of))
    where
      go : (b d : Bool) → OwnersIn S (put new t)
          → OwnersIn S (if b then new ∷ t else (if d then new ∷ pair ∷ t else pair ∷ put new t))
      go true d more = All-cons (IsOwnedIn S) new t i (All-tail (IsOwnedIn S) pair t of)
      go false true more = All-cons (IsOwnedIn S) new (pair ∷ t) i of
      go false false more = All-cons (IsOwnedIn S) pair (put new t) (All-head (IsOwnedIn S) pair t of) more

  -- a table is changed
  pub changed_owners : (change : Change) (t : Table) → IsChangeIn S change → OwnersIn S t → OwnersIn S (changed change t)
  changed_owners (Change.Put pair) t i of = put_owners pair t i of
  changed_owners (Change.Remove x) t i of = All-filter (λ pair. not (pair.name == x)) (IsOwnedIn S) t of
  changed_owners (Change.StrikeOwner p) t i of = All-filter (λ pair. not (is_process pair.owner p)) (IsOwnedIn S) t of

  -- a change is written
  pub wrote_owners : (change : Change) (v : Replica) → IsChangeIn S change → OwnersIn S v.table
      → OwnersIn S (wrote change v).table
  wrote_owners (Change.Put pair) v i of = go (v.told pair.owner.node)
    where
      go : (b : Bool) → OwnersIn S (changed (if b then Change.Remove pair.name else Change.Put pair) v.table)
      go true = changed_owners (Change.Remove pair.name) v.table tt of
      go false = changed_owners (Change.Put pair) v.table i of
  wrote_owners (Change.Remove x) v i of = changed_owners (Change.Remove x) v.table tt of
  wrote_owners (Change.StrikeOwner p) v i of = changed_owners (Change.StrikeOwner p) v.table tt of

  -- what was settled is put over a table
  put_all_owners : (pairs t : Table) → OwnersIn S pairs → OwnersIn S t → OwnersIn S (put_all pairs t)
  put_all_owners [] t i of = of
  put_all_owners (pair ∷ pairs) t i of = put_all_owners pairs (put pair t) (All-tail (IsOwnedIn S) pair pairs i)
      (put_owners pair t (All-head (IsOwnedIn S) pair pairs i) of)

  remove_all_owners : (xs : List Text) (t : Table) → OwnersIn S t → OwnersIn S (remove_all xs t)
  remove_all_owners [] t of = of
  remove_all_owners (x ∷ xs) t of =
      remove_all_owners xs (remove x t) (All-filter (λ pair. not (pair.name == x)) (IsOwnedIn S) t of)

  pub settled_owners : (settled : Settled) (t : Table) → OwnersIn S settled.puts → OwnersIn S t
      → OwnersIn S (with_settled settled t)
  settled_owners settled t i of = remove_all_owners settled.removes (put_all settled.puts t)
      (put_all_owners settled.puts t i of)

  -- what a settlement puts are pairs of the joiner
  settles_one : (pair : Pair) (own : Option Pair) (settled : Settled) → IsOwnedIn S pair → OwnersIn S settled.puts
      → OwnersIn S (settle_one pair own settled).puts
  settles_one pair None settled i of = All-push (IsOwnedIn S) settled.puts pair of i
  settles_one pair (Some own) settled i of = go (is_process pair.owner own.owner)
    where
      lesser : Bool
      lesser = nat_lt pair.owner.node own.owner.node

      killed : (b : Bool)
          → OwnersIn S (if b then with_kill own.owner (with_put pair settled) else with_kill pair.owner settled).puts
      killed true = All-push (IsOwnedIn S) settled.puts pair of i
      killed false = of

      told : (b : Bool) → OwnersIn S (if b
          then with_notices (note own.owner pair.name None ∷ []) (with_put pair settled)
          else with_notices (note pair.owner pair.name None ∷ []) settled).puts
      told true = All-push (IsOwnedIn S) settled.puts pair of i
      told false = of

      by_rule : (r : Rule) → OwnersIn S (clash r pair own.owner settled).puts
      by_rule Rule.Exit = killed lesser
      by_rule Rule.Notify = told lesser
      by_rule Rule.NotifyAll = of

      go : (b : Bool) → OwnersIn S (if b then settled else clash own.rule pair own.owner settled).puts
      go true = of
      go false = by_rule own.rule

  -- who dies by a settlement, and who is sent notices
  pub record IsFateIn (fate : Fate) : Type 0 where
    pub kills : All (λ p. S p.node ≡ true) fate.kills
    pub notices : All (λ n. S n.process.node ≡ true) fate.notices

  dooms : (p : Process) (fate : Fate) → S p.node ≡ true → IsFateIn fate → IsFateIn (doomed p fate)
  dooms p fate i F = go (list_any (is_process p) fate.kills)
    where
      go : (b : Bool) → IsFateIn (if b then fate else record fate { kills = fate.kills ++ p ∷ [] })
      go true = F
      go false = record { kills = All-push (λ q. S q.node ≡ true) fate.kills p F.kills i; notices = F.notices }

  notes_one : (p : Process) (x : Text) (other : Option Process) (fate : Fate) → S p.node ≡ true → IsFateIn fate
      → IsFateIn (record fate { notices = fate.notices ++ note p x other ∷ [] })
  notes_one p x other fate i F = record {
    kills = F.kills;
    notices = All-push (λ n. S n.process.node ≡ true) fate.notices (note p x other) F.notices i;
  }

  fates_one : (pair : Pair) (own : Option Pair) (settled : Settled) → IsOwnedIn S pair
      → ((q : Pair) → own ≡ Some q → IsOwnedIn S q) → IsFateIn settled.fate → IsFateIn (settle_one pair own settled).fate
  fates_one pair None settled i of F = F
  fates_one pair (Some own) settled i of F = go (is_process pair.owner own.owner)
    where
      home : S own.owner.node ≡ true
      home = of own refl

      lesser : Bool
      lesser = nat_lt pair.owner.node own.owner.node

      killed : (b : Bool)
          → IsFateIn (if b then with_kill own.owner (with_put pair settled) else with_kill pair.owner settled).fate
      killed true = dooms own.owner settled.fate home F
      killed false = dooms pair.owner settled.fate i F

      told : (b : Bool) → IsFateIn (if b
          then with_notices (note own.owner pair.name None ∷ []) (with_put pair settled)
          else with_notices (note pair.owner pair.name None ∷ []) settled).fate
      told true = notes_one own.owner pair.name None settled.fate home F
      told false = notes_one pair.owner pair.name None settled.fate i F

      by_rule : (r : Rule) → IsFateIn (clash r pair own.owner settled).fate
      by_rule Rule.Exit = killed lesser
      by_rule Rule.Notify = told lesser
      by_rule Rule.NotifyAll = record {
        kills = F.kills;
        notices = All-append (λ n. S n.process.node ≡ true) settled.fate.notices
            (note own.owner pair.name (Some pair.owner) ∷ note pair.owner pair.name (Some own.owner) ∷ []) F.notices
            (All-cons (λ n. S n.process.node ≡ true) (note own.owner pair.name (Some pair.owner))
            (note pair.owner pair.name (Some own.owner) ∷ []) home
            (All-cons (λ n. S n.process.node ≡ true) (note pair.owner pair.name (Some own.owner)) [] i
            (All-nil (λ n. S n.process.node ≡ true))));
      }

      go : (b : Bool) → IsFateIn (if b then settled else clash own.rule pair own.owner settled).fate
      go true = F
      go false = by_rule own.rule

  -- the pair under a name is one of the table
  entry_owner : (x : Text) (t : Table) (q : Pair) → entry x t ≡ Some q → OwnersIn S t → IsOwnedIn S q
  entry_owner x [] q e of = absurd (cc e)
  entry_owner x (pair ∷ t) q e of = go (pair.name == x) e (λ f. entry_owner x t q f (All-tail (IsOwnedIn S) pair t of))
    where
      same : Some pair ≡ Some q → pair ≡ q
      same f = cc

      go : (b : Bool) → (if b then Some pair else entry x t) ≡ Some q → (entry x t ≡ Some q → IsOwnedIn S q) → IsOwnedIn S q
      go true f more = subst (IsOwnedIn S) (same f) (All-head (IsOwnedIn S) pair t of)
      go false f more = more f

  pub settles_fates : (table pairs : Table) → OwnersIn S table → OwnersIn S pairs → IsFateIn (settle table pairs).fate
  settles_fates table pairs own i = from pairs unsettled i
      (record { kills = All-nil (λ p. S p.node ≡ true); notices = All-nil (λ n. S n.process.node ≡ true) })
    where
      from : (ps : Table) (settled : Settled) → OwnersIn S ps → IsFateIn settled.fate
          → IsFateIn (fold (λ x pair. settle_one pair (entry pair.name table) x) settled ps).fate
      from [] settled i F = F
      from (pair ∷ ps) settled i F = from ps (settle_one pair (entry pair.name table) settled)
          (All-tail (IsOwnedIn S) pair ps i)
          (fates_one pair (entry pair.name table) settled (All-head (IsOwnedIn S) pair ps i)
          (λ q e. entry_owner pair.name table q e own) F)

  pub settles_owners : (table pairs : Table) → OwnersIn S pairs → OwnersIn S (settle table pairs).puts
  settles_owners table pairs i = from pairs unsettled i (All-nil (IsOwnedIn S))
    where
      from : (ps : Table) (settled : Settled) → OwnersIn S ps → OwnersIn S settled.puts
          → OwnersIn S (fold (λ x pair. settle_one pair (entry pair.name table) x) settled ps).puts
      from [] settled i of = of
      from (pair ∷ ps) settled i of = from ps (settle_one pair (entry pair.name table) settled)
          (All-tail (IsOwnedIn S) pair ps i)
          (settles_one pair (entry pair.name table) settled (All-head (IsOwnedIn S) pair ps i) of)

  -- one grant more
  pub grant_holders : (id : Id) (p : Process) (t : Locks) → S p.node ≡ true → All (IsGrantIn S) t
      → All (IsGrantIn S) (grant id p t)
  grant_holders id p [] i of = All-cons (IsGrantIn S) _ [] i (All-nil (IsGrantIn S))
  grant_holders id p (g ∷ t) i of =
      go (is_grant_of id p g) (grant_holders id p t i (All-tail (IsGrantIn S) g t of))
    where
      go : (b : Bool) → All (IsGrantIn S) (grant id p t)
          → All (IsGrantIn S) (if b then record g { count = g.count + 1 } ∷ t else g ∷ grant id p t)
      go true more = All-cons (IsGrantIn S) _ t (All-head (IsGrantIn S) g t of) (All-tail (IsGrantIn S) g t of)
      go false more = All-cons (IsGrantIn S) g (grant id p t) (All-head (IsGrantIn S) g t of) more

  -- one grant less
  pub give_back_holders : (id : Id) (p : Process) (t : Locks) → All (IsGrantIn S) t → All (IsGrantIn S) (give_back id p t)
  give_back_holders id p [] of = of
  give_back_holders id p (g ∷ t) of =
      go (is_grant_of id p g) (nat_lt 1 g.count) (give_back_holders id p t (All-tail (IsGrantIn S) g t of))
    where
      go : (b d : Bool) → All (IsGrantIn S) (give_back id p t)
          → All (IsGrantIn S) (if b then (if d then record g { count = g.count - 1 } ∷ t else t)
          else g ∷ give_back id p t)
      go true true more = All-cons (IsGrantIn S) _ t (All-head (IsGrantIn S) g t of) (All-tail (IsGrantIn S) g t of)
      go true false more = All-tail (IsGrantIn S) g t of
      go false d more = All-cons (IsGrantIn S) g (give_back id p t) (All-head (IsGrantIn S) g t of) more

  -- a lock call stands in its place
  pub put_call_in : (c : LockCall) (xs : List LockCall) → IsCallIn S c → All (IsCallIn S) xs
      → All (IsCallIn S) (put_call c xs)
  put_call_in c [] p h = All-cons (IsCallIn S) c [] p (All-nil (IsCallIn S))
  put_call_in c (d ∷ xs) p h =
      go (nat_lt c.holder.serial d.holder.serial) (c.holder.serial == d.holder.serial)
      (put_call_in c xs p (All-tail (IsCallIn S) d xs h))
    where
      go : (t e : Bool) → All (IsCallIn S) (put_call c xs)
          → All (IsCallIn S) (if t then c ∷ d ∷ xs else (if e then c ∷ xs else d ∷ put_call c xs))
      go true e r = All-cons (IsCallIn S) c (d ∷ xs) p h
      go false true r = All-cons (IsCallIn S) c xs p (All-tail (IsCallIn S) d xs h)
      go false false r = All-cons (IsCallIn S) d (put_call c xs) (All-head (IsCallIn S) d xs h) r

  -- the call of a process is one of them
  pub call_of_in : (p : Process) (xs : List LockCall) (c : LockCall) → call_of p xs ≡ Some c → All (IsCallIn S) xs
      → IsCallIn S c
  call_of_in p [] c e h = cc
  call_of_in p (d ∷ xs) c e h =
      go (is_process d.holder p) e (λ f. call_of_in p xs c f (All-tail (IsCallIn S) d xs h))
    where
      same : Some d ≡ Some c → d ≡ c
      same f = cc

      go : (t : Bool) → (if t then Some d else call_of p xs) ≡ Some c → (call_of p xs ≡ Some c → IsCallIn S c)
          → IsCallIn S c
      go true f r = subst (IsCallIn S) (same f) (All-head (IsCallIn S) d xs h)
      go false f r = r f

module _ {S : Nodes} {known : Replica} {locks : Locks} {ops : List Op} {cur : Current} {calls : List LockCall} {ss : List Send}
    {es : List Entry} (W : Knows S known locks ops cur calls ss es) where
  -- the registrar is at this
  pub works : (c : Current) → IsCurrentIn S c → Knows S known locks ops c calls ss es
  works c of = record {
    members = W.members;
    told = W.told;
    disjoint = W.disjoint;
    table = W.table;
    grants = W.grants;
    queue = W.queue;
    current = of;
    called = W.called;
    sent = W.sent;
    entered = W.entered;
  }

  -- these wait
  pub queues : (more : List Op) → AreOpsIn S more → Knows S known locks more cur calls ss es
  queues more of = record {
    members = W.members;
    told = W.told;
    disjoint = W.disjoint;
    table = W.table;
    grants = W.grants;
    queue = of;
    current = W.current;
    called = W.called;
    sent = W.sent;
    entered = W.entered;
  }

  -- these lock calls are unanswered
  pub calls_are : (cs : List LockCall) → All (IsCallIn S) cs → Knows S known locks ops cur cs ss es
  calls_are cs of = record {
    members = W.members;
    told = W.told;
    disjoint = W.disjoint;
    table = W.table;
    grants = W.grants;
    queue = W.queue;
    current = W.current;
    called = of;
    sent = W.sent;
    entered = W.entered;
  }

  -- the lock table is this
  pub grants_are : (more : Locks) → All (IsGrantIn S) more → Knows S known more ops cur calls ss es
  grants_are more of = record {
    members = W.members;
    told = W.told;
    disjoint = W.disjoint;
    table = W.table;
    grants = of;
    queue = W.queue;
    current = W.current;
    called = W.called;
    sent = W.sent;
    entered = W.entered;
  }

  -- the replica is this
  pub shows : (more : Replica) → AreIn S more.members → AreIn S more.told
      → ((c : ℕ) → more.members c ≡ true → more.told c ≡ false) → OwnersIn S more.table
      → Knows S more locks ops cur calls ss es
  shows more members told disjoint table = record {
    members = members;
    told = told;
    disjoint = disjoint;
    table = table;
    grants = W.grants;
    queue = W.queue;
    current = W.current;
    called = W.called;
    sent = W.sent;
    entered = W.entered;
  }

  -- a change is written
  pub writes_one : (c : Change) → IsChangeIn S c → Knows S (wrote c known) locks ops cur calls ss es
  writes_one c i = shows (wrote c known) W.members W.told W.disjoint (wrote_owners S c known i W.table)

  -- these letters are sent
  pub posts : (more : List Send) → All (IsSentIn S) more → Knows S known locks ops cur calls (ss ++ more) es
  posts more go = record {
    members = W.members;
    told = W.told;
    disjoint = W.disjoint;
    table = W.table;
    grants = W.grants;
    queue = W.queue;
    current = W.current;
    called = W.called;
    sent = All-append (IsSentIn S) ss more W.sent go;
    entered = W.entered;
  }

  -- one to a node
  pub sends : (c : ℕ) (l : Letter) → S c ≡ true → IsLetterIn S l
      → Knows S known locks ops cur calls (ss ++ record { to = c; letter = l } ∷ []) es
  sends c l e fit = posts (record { to = c; letter = l } ∷ [])
      (All-push (IsSentIn S) [] (record { to = c; letter = l }) (All-nil (IsSentIn S)) (e, fit))

  -- one to each node of a set
  pub sends_all : (n : ℕ) (s : Nodes) (l : Letter) → AreIn S s → IsLetterIn S l
      → Knows S known locks ops cur calls (ss ++ map (λ c. record { to = c; letter = l }) (nodes_of n s)) es
  sends_all n s l of fit = posts (map (λ c. record { to = c; letter = l }) (nodes_of n s))
      (All-map (IsSentIn S) (λ c. record { to = c; letter = l }) (nodes_of n s)
      (λ k d m. (of (get_or (nodes_of n s) k d) (listed_in S n s of k d m), fit)))

  -- an entry is made
  pub enters : (e : Entry) → IsEntryIn S e → Knows S known locks ops cur calls ss (es ++ e ∷ [])
  enters e fit = record {
    members = W.members;
    told = W.told;
    disjoint = W.disjoint;
    table = W.table;
    grants = W.grants;
    queue = W.queue;
    current = W.current;
    called = W.called;
    sent = W.sent;
    entered = All-push (IsEntryIn S) es e W.entered fit;
  }
