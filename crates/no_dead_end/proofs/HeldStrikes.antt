-- While a strike holds, its process owns nothing in its group.
use Rattle.std.proofs.Common.{ℕ, Bool, true, false, ◌==◌, ◌≡◌, Option, Some, None, List, [], ◌∷◌, refl, sym, ap, subst, ◌∙◌}
use Rattle.std.specs.Prelude.{not, ◌&&◌, if◌then◌else◌}
use Rattle.registry_model.specs.Process.{Process, is_process, Nodes, at}
use Rattle.registry_model.specs.Table.{Table, owns, strike, changed}
use Rattle.registry_model.specs.Call.{Yes, No, Ok, UnknownNode, True, False, Joined, NotMember, ContactLeft, Pid, Undefined, Names, Notices, is_grant, change_of}
use Rattle.registry_model.specs.Registry.{Registry, with_table}
use Rattle.registry_model.specs.History.{Entry, Hold, Standing, is_holding, set_hold, with_effect_on, with_effect, begin_hold, after, standing_of, effect}
use Rattle.registry_model.specs.Legal.{is_legal, IsLegal}
use Rattle.registry_model.proofs.HistoryParts.{legal_keeps}
use Rattle.registry_model.proofs.Updates.{by_test}

-- nobody is left of who is struck
struck_owns : (p : Process) (t : Table) → owns p (strike p t) ≡ false
struck_owns p [] = refl
struck_owns p (pair ∷ t) = go (is_process pair.owner p) refl (struck_owns p t)
  where
    go : (b : Bool) → is_process pair.owner p ≡ b → owns p (strike p t) ≡ false
        → owns p (if not b then pair ∷ strike p t else strike p t) ≡ false
    go true e h = h
    go false e h = rw e h

-- by what holds in the cluster and at lone nodes
pub record Struck (s : Standing) : Type 0 where
  pub cluster : (h : Hold) (p : Process) → s.held ≡ Some h → h.entry ≡ Entry.Strike p → owns p s.registry.table ≡ false
  pub lone : (n : ℕ) (h : Hold) (p : Process) → s.registry.joined n ≡ false → s.lone_held n ≡ Some h → h.entry ≡ Entry.Strike p
      → owns p (s.registry.lone n) ≡ false

-- a later entry leaves the entry that holds
held_before : (e : Entry) (k : Option Hold) (h : Hold) → with_effect_on e k ≡ Some h
    → (x : Hold) × (k ≡ Some x) × (x.entry ≡ h.entry)
held_before e None h i = cc i
held_before e (Some x) h i = (x, refl, ap entry_in i)
  where
    entry_in : Option Hold → Entry
    entry_in None = x.entry
    entry_in (Some y) = y.entry

-- an entry that grants nothing and leaves the tables
stays : (s : Standing) (e : Entry) → Struck s → (effect e s.registry).table ≡ s.registry.table
    → (effect e s.registry).lone ≡ s.registry.lone
    → (effect e s.registry).joined ≡ s.registry.joined → Struck (with_effect e s)
stays s e S t l j = record {
  cluster = λ h p i k. let x : (x : Hold) × (s.held ≡ Some x) × (x.entry ≡ h.entry) = held_before e s.held h i in
      ap (owns p) t ∙ S.cluster x.0 p x.1 (x.2 ∙ k);
  lone = λ n h p o i k. let x : (x : Hold) × (s.lone_held n ≡ Some x) × (x.entry ≡ h.entry) = held_before e (s.lone_held n) h i in
      ap (λ (f : ℕ → Table). owns p (f n)) l ∙ S.lone n x.0 p (sym (ap (λ (f : Nodes). f n) j) ∙ o) x.1 (x.2 ∙ k);
}

-- an entry by which node n changes the table of its group, and holds from then on
module _ (s : Standing) (e : Entry) (n : ℕ) (f : Table → Table) (S : Struck s)
    (new : (p : Process) (t : Table) → e ≡ Entry.Strike p → owns p (f t) ≡ false) where
  granted : Struck (set_hold n (Some (record { node = n; entry = e; old = s.registry })) (record {
    registry = with_table n f s.registry;
    held = with_effect_on e s.held;
    lone_held = λ x. with_effect_on e (s.lone_held x);
  }))
  granted = go (s.registry.joined n) refl
    where
      abbrev_hold : Hold
      abbrev_hold = record { node = n; entry = e; old = s.registry }

      changed_registry : Bool → Registry
      changed_registry b = if b then record s.registry { table = f s.registry.table }
          else record s.registry { lone = at s.registry.lone n (f (s.registry.lone n)) }

      entry_in : Hold → Option Hold → Entry
      entry_in h None = h.entry
      entry_in h (Some y) = y.entry

      before : Bool → Standing
      before b = record {
        registry = changed_registry b;
        held = with_effect_on e s.held;
        lone_held = λ x. with_effect_on e (s.lone_held x);
      }

      go : (b : Bool) → s.registry.joined n ≡ b → Struck (set_hold n (Some abbrev_hold) (before b))
      go true q = rw q (record {
        cluster = λ h p i k. new p s.registry.table (sym (ap (entry_in h) (sym i)) ∙ k);
        lone = λ x h p o i k. let y : (y : Hold) × (s.lone_held x ≡ Some y) × (y.entry ≡ h.entry) =
            held_before e (s.lone_held x) h i in
            S.lone x y.0 p o y.1 (y.2 ∙ k);
      })
      go false q = rw q (record {
        cluster = λ h p i k. let y : (y : Hold) × (s.held ≡ Some y) × (y.entry ≡ h.entry) = held_before e s.held h i in
            S.cluster y.0 p y.1 (y.2 ∙ k);
        lone = λ x h p o i k. by_test n (λ z t. s.registry.joined z ≡ false
            → (if t then Some abbrev_hold else with_effect_on e (s.lone_held z)) ≡ Some h
            → owns p (if t then f (s.registry.lone n) else s.registry.lone z) ≡ false)
            (λ c j. new p (s.registry.lone n) (sym (ap (entry_in h) (sym j)) ∙ k))
            (λ z ne c j. let y : (y : Hold) × (s.lone_held z ≡ Some y) × (y.entry ≡ h.entry) = held_before e (s.lone_held z) h j in
            S.lone z y.0 p c y.1 (y.2 ∙ k)) x o i;
      })

-- what held is done
done_struck : (s : Standing) (n : ℕ) → Struck s → Struck (set_hold n None s)
done_struck s n S = go (s.registry.joined n)
  where
    go : (b : Bool) → Struck (if b then record s { held = None } else record s { lone_held = at s.lone_held n None })
    go true = record { cluster = λ h p i k. cc i; lone = S.lone }
    go false = record {
      cluster = S.cluster;
      lone = λ x h p o i k. by_test n (λ z t. s.registry.joined z ≡ false → (if t then None else s.lone_held z) ≡ Some h
          → owns p (s.registry.lone z) ≡ false) (λ c j. cc j) (λ z ne c j. S.lone z h p c j k) x o i;
    }

-- an admission
admission_struck : (s : Standing) (j k m : ℕ) → is_legal s (Entry.Join j k m Joined) ≡ true → Struck s
    → Struck (after s (Entry.Join j k m Joined))
admission_struck s j k m l S = rw (host) (record {
  cluster = λ h p i q. cc (ap (entry_in h) i ∙ q);
  lone = λ x h p o i q. by_test j (λ z t. (if t then true else s.registry.joined z) ≡ false
      → with_effect_on e (s.lone_held z) ≡ Some h
      → owns p (if t then [] else s.registry.lone z) ≡ false) (λ c d. cc c)
      (λ z ne c d. let y : (y : Hold) × (s.lone_held z ≡ Some y) × (y.entry ≡ h.entry) = held_before e (s.lone_held z) h d in
      S.lone z y.0 p c y.1 (y.2 ∙ q)) x o i;
})
  where
    e : Entry
    e = Entry.Join j k m Joined

    entry_in : Hold → Option Hold → Entry
    entry_in h None = h.entry
    entry_in h (Some y) = y.entry

    joined_m : (a b c d f : Bool) → (a && b && c && d && f) ≡ true → c ≡ true
    joined_m a b true d f h = refl
    joined_m true true false d f h = cc h
    joined_m true false false d f h = cc h
    joined_m false b false d f h = cc h

    host : (if m == j then true else s.registry.joined m) ≡ true
    host = by (m == j) (joined_m (not (s.registry.joined j)) _ (s.registry.joined m) _ _ l)
      where
        by : (t : Bool) → s.registry.joined m ≡ true → (if t then true else s.registry.joined m) ≡ true
        by true h = refl
        by false h = h

pub struck_after : (s : Standing) (e : Entry) → is_legal s e ≡ true → Struck s → Struck (after s e)
struck_after s (Entry.Done n) l S = go (is_holding s n)
  where
    go : (b : Bool) → Struck (if b then set_hold n None s else s)
    go true = done_struck s n S
    go false = S
struck_after s (Entry.Exit p) l S = stays s (Entry.Exit p) S refl refl refl
struck_after s (Entry.Left d) l S = stays s (Entry.Left d) S refl refl refl
struck_after s (Entry.Told n d) l S = stays s (Entry.Told n d) S refl refl refl
struck_after s (Entry.Read n look reply) l S = stays s (Entry.Read n look reply) S refl refl refl
struck_after s (Entry.Strike p) l S = granted s (Entry.Strike p) p.node (strike p) S
    (λ q t k. subst (λ (x : Process). owns x (strike p t) ≡ false) (cc k) (struck_owns p t))
struck_after s (Entry.Name n k call reply) l S = go (is_grant reply) refl
  where
    e : Entry
    e = Entry.Name n k call reply

    go : (b : Bool) → is_grant reply ≡ b → Struck (after s e)
    go true q = rw q (granted s e n (changed (change_of call)) S (λ p t i. cc i))
    go false q = subst (λ (b : Bool). Struck (begin_hold e s.registry (if b then Some n else None) (with_effect e s))) (sym q)
        (stays s e S (ap (λ (b : Bool). (if b then with_table n (changed (change_of call)) s.registry else s.registry).table) q)
        (ap (λ (b : Bool). (if b then with_table n (changed (change_of call)) s.registry else s.registry).lone) q)
        (ap (λ (b : Bool). (if b then with_table n (changed (change_of call)) s.registry else s.registry).joined) q))
struck_after s (Entry.Join j k m Joined) l S = admission_struck s j k m l S
struck_after s (Entry.Join j k m NotMember) l S = stays s (Entry.Join j k m NotMember) S refl refl refl
struck_after s (Entry.Join j k m ContactLeft) l S = stays s (Entry.Join j k m ContactLeft) S refl refl refl
struck_after s (Entry.Join j k m Yes) l S = cc l
struck_after s (Entry.Join j k m No) l S = cc l
struck_after s (Entry.Join j k m Ok) l S = cc l
struck_after s (Entry.Join j k m UnknownNode) l S = cc l
struck_after s (Entry.Join j k m True) l S = cc l
struck_after s (Entry.Join j k m False) l S = cc l
struck_after s (Entry.Join j k m (Pid p)) l S = cc l
struck_after s (Entry.Join j k m Undefined) l S = cc l
struck_after s (Entry.Join j k m (Names xs)) l S = cc l
struck_after s (Entry.Join j k m (Notices xs)) l S = cc l

-- so it stands after every legal history
pub always_struck : (cluster : Nodes) (h : List Entry) → IsLegal cluster h → Struck (standing_of cluster h)
always_struck cluster h l = legal_keeps cluster Struck (record { cluster = λ x p i k. cc i; lone = λ n x p o i k. cc i })
    struck_after h l
