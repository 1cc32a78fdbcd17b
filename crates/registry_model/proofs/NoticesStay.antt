-- What a process was sent stays, and grows by joins alone.
use Rattle.std.proofs.Common.{ℕ, Bool, true, false, ◌≡◌, List, [], ◌∷◌, ◌++◌, refl, sym, ap, ◌∙◌}
use Rattle.std.specs.Prelude.{if◌then◌else◌, fold}
use Rattle.std.proofs.lemmas.List.{append_assoc, append-nil}
use Rattle.registry_model.specs.Process.{Process, Nodes}
use Rattle.registry_model.specs.Table.{StrikeOwner, changed}
use Rattle.registry_model.specs.Call.{Joined, is_grant, change_of}
use Rattle.registry_model.specs.Settlement.{Notice, notices_to, settle}
use Rattle.registry_model.specs.Registry.{Registry, with_table, view}
use Rattle.registry_model.specs.History.{Entry, Name, Strike, Join, Done, Exit, Left, Told, Read, effect, registry_of}
use Rattle.registry_model.specs.HistoryLaws.{Sends, ByJoin, ByNone, NoticesStay}
use Rattle.registry_model.proofs.HistoryParts.{registry_of-append, registry_of-push}
use Rattle.registry_model.proofs.Groups.{notices-with_table}

-- what an entry adds to the notices of p
abbrev Adds : Registry → Entry → Process → Type 0
Adds r e p = (more : List Notice) × Sends r p e more × ((effect e r).notices p ≡ r.notices p ++ more)

-- an entry that is no join and leaves them
none : (r : Registry) (e : Entry) (p : Process) → ((j k m : ℕ) → e ≡ Join j k m Joined → ⊥)
    → (effect e r).notices p ≡ r.notices p → Adds r e p
none r e p other same = ([], ByNone e other, same ∙ sym (append-nil (r.notices p)))

adds : (r : Registry) (e : Entry) (p : Process) → Adds r e p
adds r (Name n k call reply) p = none r (Name n k call reply) p (λ a b c i. cc i) (go (is_grant reply))
  where
    go : (b : Bool) → (if b then with_table n (changed (change_of call)) r else r).notices p ≡ r.notices p
    go true = ap (λ (f : Process → List Notice). f p) (notices-with_table n (changed (change_of call)) r)
    go false = refl
adds r (Strike q) p = none r (Strike q) p (λ a b c i. cc i)
    (ap (λ (f : Process → List Notice). f p) (notices-with_table q.node (changed (StrikeOwner q)) r))
adds r (Join j k m Joined) p = (notices_to p (settle (view r m) (r.lone j)).fate.notices, ByJoin j k m, refl)
adds r (Join j k m reply) p = none r (Join j k m reply) p (λ a b c i. cc i) refl
adds r (Done n) p = none r (Done n) p (λ a b c i. cc i) refl
adds r (Exit q) p = none r (Exit q) p (λ a b c i. cc i) refl
adds r (Left c) p = none r (Left c) p (λ a b c i. cc i) refl
adds r (Told n c) p = none r (Told n c) p (λ a b c i. cc i) refl
adds r (Read n look reply) p = none r (Read n look reply) p (λ a b c i. cc i) refl

-- nor does a history take any
stays_after : (r : Registry) (h : List Entry) (p : Process)
    → (more : List Notice) × ((fold (λ r e. effect e r) r h).notices p ≡ r.notices p ++ more)
stays_after r [] p = ([], sym (append-nil (r.notices p)))
stays_after r (e ∷ h) p = go (adds r e p) (stays_after (effect e r) h p)
  where
    go : Adds r e p
        → (later : List Notice) × ((fold (λ r e. effect e r) (effect e r) h).notices p ≡ (effect e r).notices p ++ later)
        → (more : List Notice) × ((fold (λ r e. effect e r) (effect e r) h).notices p ≡ r.notices p ++ more)
    go (first, s, a) (later, b) = (
      first ++ later,
      b ∙ ap (λ (ns : List Notice). ns ++ later) a ∙ append_assoc (r.notices p) first later,
    )

pub notices_law : (cluster : Nodes) (h : List Entry) → NoticesStay cluster h
notices_law cluster h = record {
  grow = λ before later e p s.
      let (more, a, b) : Adds (registry_of cluster before) e p = adds (registry_of cluster before) e p in
      (more, a, ap (λ (r : Registry). r.notices p) (registry_of-push cluster before e) ∙ b);
  stay = λ later p.
      let (more, a) : (more : List Notice)
      × ((fold (λ r e. effect e r) (registry_of cluster h) later).notices p ≡ (registry_of cluster h).notices p ++ more) =
      stays_after (registry_of cluster h) later p in
      (more, ap (λ (r : Registry). r.notices p) (registry_of-append cluster h later) ∙ a);
}
