-- Who is dead, and who is joined: both only grow.
use Rattle.std.proofs.Common.{ℕ, Bool, true, false, ◌≡◌, List, [], ◌∷◌, ◌++◌, refl, sym, subst, ap, ◌∙◌, inl, inr}
use Rattle.std.specs.Prelude.{◌⊎◌, if◌then◌else◌, Contains, fold}
use Rattle.std.specs.List.{list_any}
use Rattle.std.proofs.lemmas.List.{append_assoc}
use Rattle.std.proofs.lemmas.List.Elements.{Contains-append_left, Contains-push}
use Rattle.std.proofs.lemmas.Bool.{cases_eq, or_cases, or_left, or_right}
use Rattle.registry_model.specs.Process.{Process, is_process, Nodes, at}
use Rattle.registry_model.specs.Table.{Table, StrikeOwner, changed}
use Rattle.registry_model.specs.Call.{Joined, is_grant, change_of}
use Rattle.registry_model.specs.Settlement.{settle}
use Rattle.registry_model.specs.Registry.{Registry, with_table, view}
use Rattle.registry_model.specs.History.{Entry, Name, Strike, Join, Done, Exit, Left, Told, Read, effect, registry_of, standing_of}
use Rattle.registry_model.specs.Legal.{IsLegal}
use Rattle.registry_model.specs.HistoryLaws.{Died, DeadForGood, JoinsOnce}
use Rattle.registry_model.specs.HistoryLaws.Died.{Exited, Killed}
use Rattle.registry_model.proofs.Lists.{by_push, Contains-split, list_any-Contains, Contains-list_any, is_process-true, is_process-same}
use Rattle.registry_model.proofs.Updates.{at_same, at_other}
use Rattle.registry_model.proofs.HistoryParts.{registry_of-append, registry_of-push, registry-standing_of, is_legal-at}
use Rattle.registry_model.proofs.Groups.{joined-with_table}
use Rattle.registry_model.proofs.Legality.{join_is_legal}

-- a change of a table leaves who is dead
pub dead-with_table : (m : ℕ) (f : Table → Table) (r : Registry) → (with_table m f r).dead ≡ r.dead
dead-with_table m f r = go (r.joined m)
  where
    go : (b : Bool) → (if b then record r { table = f r.table } else record r {
      lone =
          at r.lone m (f (r.lone m));
    }).dead ≡ r.dead
    go true = refl
    go false = refl

-- no entry raises the dead
pub dead_stays : (r : Registry) (e : Entry) (p : Process) → r.dead p ≡ true → (effect e r).dead p ≡ true
dead_stays r (Name n k call reply) p d = go (is_grant reply)
  where
    go : (b : Bool) → (if b then with_table n (changed (change_of call)) r else r).dead p ≡ true
    go true = ap (λ (f : Process → Bool). f p) (dead-with_table n (changed (change_of call)) r) ∙ d
    go false = d
dead_stays r (Strike q) p d = ap (λ (f : Process → Bool). f p) (dead-with_table q.node (changed (StrikeOwner q)) r) ∙ d
dead_stays r (Join j k m Joined) p d =
    or_left (r.dead p) (list_any (is_process p) (settle (view r m) (r.lone j)).fate.kills) d
dead_stays r (Join j k m _) p d = d
dead_stays r (Done n) p d = d
dead_stays r (Exit q) p d = or_right (is_process p q) (r.dead p) d
dead_stays r (Left c) p d = d
dead_stays r (Told n c) p d = d
dead_stays r (Read n look reply) p d = d

-- nor does a history
pub dead_stays_after : (r : Registry) (h : List Entry) (p : Process) → r.dead p ≡ true →
    (fold (λ r e. effect e r) r h).dead p ≡ true
dead_stays_after r [] p d = d
dead_stays_after r (e ∷ h) p d = dead_stays_after (effect e r) h p (dead_stays r e p d)

-- the entry has n join
abbrev pub IsJoinOf : ℕ → Entry → Type 0
IsJoinOf n e = (k : ℕ) × (m : ℕ) × (e ≡ Join n k m Joined)

-- an entry that doesn't have n join leaves whether it is joined
pub joined-effect : (r : Registry) (e : Entry) (n : ℕ) → IsJoinOf n e ⊎ ((effect e r).joined n ≡ r.joined n)
joined-effect r (Name m k call reply) n = inr (go (is_grant reply))
  where
    go : (b : Bool) → (if b then with_table m (changed (change_of call)) r else r).joined n ≡ r.joined n
    go true = ap (λ (f : Nodes). f n) (joined-with_table m (changed (change_of call)) r)
    go false = refl
joined-effect r (Strike q) n = inr (ap (λ (f : Nodes). f n) (joined-with_table q.node (changed (StrikeOwner q)) r))
joined-effect r (Join j k m Joined) n = elim (cases_eq n j) [
  | inl i ↦ inl (k, m, ap (λ (x : ℕ). Join x k m Joined) (sym i))
  | inr ne ↦ inr (at_other r.joined j true n ne)
]
joined-effect r (Join j k m _) n = inr refl
joined-effect r (Done m) n = inr refl
joined-effect r (Exit q) n = inr refl
joined-effect r (Left c) n = inr refl
joined-effect r (Told m c) n = inr refl
joined-effect r (Read m look reply) n = inr refl

-- no entry ends a membership
pub joined_stays : (r : Registry) (e : Entry) (n : ℕ) → r.joined n ≡ true → (effect e r).joined n ≡ true
joined_stays r e n d = elim (joined-effect r e n) [
  | inl (k, m, i) ↦ ap (λ (e : Entry). (effect e r).joined n) i ∙ at_same r.joined n true
  | inr i ↦ i ∙ d
]

-- nor does a history
pub joined_stays_after : (r : Registry) (h : List Entry) (n : ℕ) → r.joined n ≡ true →
    (fold (λ r e. effect e r) r h).joined n ≡ true
joined_stays_after r [] n d = d
joined_stays_after r (e ∷ h) n d = joined_stays_after (effect e r) h n (joined_stays r e n d)

-- an entry that kills p
pub data Kills (r : Registry) (p : Process) : Entry → Type 0 where
  ByExit : Kills r p (Exit p)
  ByJoin : (j k m : ℕ) → Contains (settle (view r m) (r.lone j)).fate.kills p → Kills r p (Join j k m Joined)

-- whom an entry kills is dead after it
pub Kills-dead : (r : Registry) (e : Entry) (p : Process) → Kills r p e → (effect e r).dead p ≡ true
Kills-dead r e p ByExit = or_left (is_process p p) (r.dead p) (is_process-same p)
Kills-dead r e p (ByJoin j k m c) =
    or_right (r.dead p) (list_any (is_process p) (settle (view r m) (r.lone j)).fate.kills)
    (list_any-Contains p (settle (view r m) (r.lone j)).fate.kills c)

-- who is dead after an entry was dead before it, or is killed by it
pub dead-cases : (r : Registry) (e : Entry) (p : Process) → (effect e r).dead p ≡ true → (r.dead p ≡ true) ⊎ Kills r p e
dead-cases r (Name n k call reply) p d = inl (go (is_grant reply) d)
  where
    go : (b : Bool) → (if b then with_table n (changed (change_of call)) r else r).dead p ≡ true → r.dead p ≡ true
    go true d = ap (λ (f : Process → Bool). f p) (sym (dead-with_table n (changed (change_of call)) r)) ∙ d
    go false d = d
dead-cases r (Strike q) p d =
    inl (ap (λ (f : Process → Bool). f p) (sym (dead-with_table q.node (changed (StrikeOwner q)) r)) ∙ d)
dead-cases r (Join j k m Joined) p d =
    elim (or_cases (r.dead p) (list_any (is_process p) (settle (view r m) (r.lone j)).fate.kills) d) [
      | inl h ↦ inl h
      | inr h ↦ inr (ByJoin j k m (Contains-list_any p (settle (view r m) (r.lone j)).fate.kills h))
    ]
dead-cases r (Join j k m _) p d = inl d
dead-cases r (Done n) p d = inl d
dead-cases r (Exit q) p d = elim (or_cases (is_process p q) (r.dead p) d) [
  | inl h ↦ inr (subst (λ (q : Process). Kills r p (Exit q)) (is_process-true p q h) ByExit)
  | inr h ↦ inl h
]
dead-cases r (Left c) p d = inl d
dead-cases r (Told n c) p d = inl d
dead-cases r (Read n look reply) p d = inl d

-- whom an entry of a history kills is dead after it
pub killed_stays : (cluster : Nodes) (before later : List Entry) (e : Entry) (p : Process) →
    Kills (registry_of cluster before) p e → (registry_of cluster (before ++ e ∷ later)).dead p ≡ true
killed_stays cluster before later e p k =
    ap (λ (r : Registry). r.dead p) (registry_of-append cluster before (e ∷ later))
    ∙ dead_stays_after (effect e (registry_of cluster before)) later p (Kills-dead (registry_of cluster before) e p k)

-- who died is dead
pub dead-Died : (cluster : Nodes) (h : List Entry) (p : Process) → Died cluster h p →
    (registry_of cluster h).dead p ≡ true
dead-Died cluster h p (Exited c) =
    let (before, later, e) : (before : List Entry) × (later : List Entry) × (h ≡ before ++ Exit p ∷ later) =
    Contains-split h (Exit p) c in
    ap (λ (h : List Entry). (registry_of cluster h).dead p) e ∙ killed_stays cluster before later (Exit p) p ByExit
dead-Died cluster h p (Killed before later j k m e c) =
    ap (λ (h : List Entry). (registry_of cluster h).dead p) e
    ∙ killed_stays cluster before later (Join j k m Joined) p (ByJoin j k m c)

-- one entry more raises nobody who died
pub Died-push : (cluster : Nodes) (h : List Entry) (e : Entry) (p : Process) → Died cluster h p →
    Died cluster (h ++ e ∷ []) p
Died-push cluster h e p (Exited c) = Exited (Contains-append_left h (e ∷ []) (Exit p) c)
Died-push cluster h e p (Killed before later j k m s c) = Killed before (later ++ e ∷ []) j k m
    (ap (λ (xs : List Entry). xs ++ e ∷ []) s ∙ append_assoc before (Join j k m Joined ∷ later) (e ∷ [])) c

-- who is dead died
pub Died-dead : (cluster : Nodes) (p : Process) (h : List Entry) → (registry_of cluster h).dead p ≡ true →
    Died cluster h p
Died-dead cluster p h = by_push (λ h. (registry_of cluster h).dead p ≡ true → Died cluster h p) (λ d. absurd cc) more h
  where
    more : (h : List Entry) (e : Entry) → ((registry_of cluster h).dead p ≡ true → Died cluster h p) →
        (registry_of cluster (h ++ e ∷ [])).dead p ≡ true → Died cluster (h ++ e ∷ []) p
    more h e old d = go (dead-cases (registry_of cluster h) e p
        (ap (λ (r : Registry). r.dead p) (sym (registry_of-push cluster h e)) ∙ d))
      where
        new : (e : Entry) → Kills (registry_of cluster h) p e → Died cluster (h ++ e ∷ []) p
        new e ByExit = Exited (Contains-push h (Exit p))
        new e (ByJoin j k m c) = Killed h [] j k m refl c

        go : ((registry_of cluster h).dead p ≡ true) ⊎ Kills (registry_of cluster h) p e → Died cluster (h ++ e ∷ []) p
        go (inl d) = Died-push cluster h e p (old d)
        go (inr k) = new e k

-- who dies is dead for good, and nobody else is dead
pub dead_law : (cluster : Nodes) (h : List Entry) → DeadForGood cluster h
dead_law cluster h = record {
  stays = λ later p d. ap (λ (r : Registry). r.dead p) (registry_of-append cluster h later)
      ∙ dead_stays_after (registry_of cluster h) later p d;
  died = λ p. (Died-dead cluster p h, dead-Died cluster h p);
}

-- a joiner was lone before
pub lone_before : (cluster : Nodes) (before later : List Entry) (j k m : ℕ) →
    IsLegal cluster (before ++ Join j k m Joined ∷ later) → (registry_of cluster before).joined j ≡ false
lone_before cluster before later j k m l =
    ap (λ (r : Registry). r.joined j) (sym (registry-standing_of cluster before))
    ∙ (join_is_legal (standing_of cluster before) j m (is_legal-at cluster before later (Join j k m Joined) l)).lone

-- and is joined after
pub joined_after : (cluster : Nodes) (before later : List Entry) (j k m : ℕ) →
    (registry_of cluster (before ++ Join j k m Joined ∷ later)).joined j ≡ true
joined_after cluster before later j k m =
    ap (λ (r : Registry). r.joined j) (registry_of-append cluster before (Join j k m Joined ∷ later))
    ∙ joined_stays_after (effect (Join j k m Joined) (registry_of cluster before)) later j
    (at_same (registry_of cluster before).joined j true)

-- a node joins once
pub joins_law : (cluster : Nodes) (h : List Entry) → IsLegal cluster h → JoinsOnce cluster h
joins_law cluster h l = record {
  lone_before = λ before later j k m e. lone_before cluster before later j k m
      (subst (λ (h : List Entry). IsLegal cluster h) e l);
  joined_after = λ before later j k m e. ap (λ (h : List Entry). (registry_of cluster h).joined j) e
      ∙ joined_after cluster before later j k m;
  once = λ before middle later i j k n m o e s.
      let a : (registry_of cluster (before ++ Join i k m Joined ∷ middle)).joined i ≡ true =
      joined_after cluster before middle i k m in
      let b : (registry_of cluster (before ++ Join i k m Joined ∷ middle)).joined j ≡ false =
      lone_before cluster (before ++ Join i k m Joined ∷ middle) later j n o
      (subst (λ (h : List Entry). IsLegal cluster h) e l) in
      cc;
}
