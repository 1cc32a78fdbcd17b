-- A restart that is accepted is legal by the registry.
use mathlib.Core.Logic.{◌⊎◌}
use Rattle.std.proofs.Common.{ℕ, Bool, true, false, ◌≡◌, List, [], ◌∷◌, refl, sym, ap, ◌∙◌, inl, inr}
use Rattle.std.specs.Prelude.{Option, Some, None, ◌||◌, if◌then◌else◌, fold}
use Rattle.std.proofs.lemmas.Bool.{or_cases, or_left, or_right}
use Rattle.registry_model.specs.Process.{Nodes, at, with_node}
use Rattle.registry_model.specs.Table.{Table, changed, StrikeOwner}
use Rattle.registry_model.specs.Call.{Joined, is_grant, change_of}
use Rattle.registry_model.specs.Registry.{Registry, Replica, with_table}
use Rattle.registry_model.specs.History.{Entry, Hold, effect, registry_of, standing_of, hold_at, old, old_or}
use Rattle.registry_model.specs.HistoryLaws.{IsLeftOut, OldLeavesOut}
use Rattle.registry_model.proofs.HistoryParts.{registry_of-append}
use Rattle.registry_model.proofs.Holding.{old_law}
use Rattle.registry_model.proofs.Updates.{by_test}
use Rattle.protocol_model.specs.World.{in_cluster}
use Rattle.protocol_model.specs.Course.{Played, Seen, entries_of, seen}
use Rattle.protocol_model.specs.Headline.{Headline, Shows, standing}
use Rattle.creations.specs.NodeNames.{opening_of}
use Rattle.creations.specs.NamedWorld.{NamedWorld, present_node, after_events}
use Rattle.creations.specs.Restarts.{IsUp}
use Rattle.creations.specs.Lifted.{events_played, RestartsAreLegal}
use Rattle.creations.proofs.Lifting.{agreement}
use Rattle.creations.proofs.Standing.{Sound}
use Rattle.creations.proofs.Restarting.{MayRestart, may_restart, told_of_gone}
use Rattle.creations.proofs.Always.{always}

-- q tells each node of all that r does
abbrev TellsMore : Registry → Registry → Type 0
TellsMore r q = (n d : ℕ) → r.told n d ≡ true → q.told n d ≡ true

-- who is told of whom after an entry, by who was told of whom before it
abbrev told_by : Entry → (ℕ → Nodes) → ℕ → Nodes
told_by (Entry.Told n d) t = at t n (with_node d (t n))
told_by (Entry.Join j k m Joined) t = at t j (λ d. t j d || t m d)
told_by _ t = t

table_told : (n : ℕ) (f : Table → Table) (r : Registry) → (with_table n f r).told ≡ r.told
table_told n f r = go (r.joined n)
  where
    go : (b : Bool)
        → (if b then record r { table = f r.table } else record r { lone = at r.lone n (f (r.lone n)) }).told ≡ r.told
    go true = refl
    go false = refl

effect-told : (e : Entry) (r : Registry) → (effect e r).told ≡ told_by e r.told
effect-told (Entry.Name n k call reply) r = go (is_grant reply)
  where
    go : (b : Bool) → (if b then with_table n (changed (change_of call)) r else r).told ≡ r.told
    go true = table_told n (changed (change_of call)) r
    go false = refl
effect-told (Entry.Strike p) r = table_told p.node (changed (StrikeOwner p)) r
effect-told (Entry.Join j k m Joined) r = refl
effect-told (Entry.Join j k m _) r = refl
effect-told (Entry.Done n) r = refl
effect-told (Entry.Exit p) r = refl
effect-told (Entry.Left d) r = refl
effect-told (Entry.Told n d) r = refl
effect-told (Entry.Read n look reply) r = refl

-- an entry tells more
told_by_grows : (e : Entry) (t : ℕ → Nodes) (n d : ℕ) → t n d ≡ true → told_by e t n d ≡ true
told_by_grows (Entry.Told m x) t n d h = by_test m
    (λ y b. t y d ≡ true → (if b then with_node x (t m) else t y) d ≡ true)
    (λ q. by_test x (λ z b. t m z ≡ true → (if b then true else t m z) ≡ true) (λ k. refl) (λ z ne k. k) d q)
    (λ y ne q. q) n h
told_by_grows (Entry.Join j k m Joined) t n d h = by_test j
    (λ y b. t y d ≡ true → (if b then (λ c. t j c || t m c) else t y) d ≡ true)
    (λ q. or_left (t j d) (t m d) q) (λ y ne q. q) n h
told_by_grows (Entry.Join j k m _) t n d h = h
told_by_grows (Entry.Name m k call reply) t n d h = h
told_by_grows (Entry.Strike p) t n d h = h
told_by_grows (Entry.Done m) t n d h = h
told_by_grows (Entry.Exit p) t n d h = h
told_by_grows (Entry.Left x) t n d h = h
told_by_grows (Entry.Read m look reply) t n d h = h

-- and more where more was told before it
told_by_follows : (e : Entry) (t u : ℕ → Nodes) → ((n d : ℕ) → t n d ≡ true → u n d ≡ true)
    → (n d : ℕ) → told_by e t n d ≡ true → told_by e u n d ≡ true
told_by_follows (Entry.Told m x) t u more n d h = by_test m
    (λ y b. (if b then with_node x (t m) else t y) d ≡ true → (if b then with_node x (u m) else u y) d ≡ true)
    (λ q. by_test x (λ z b. (if b then true else t m z) ≡ true → (if b then true else u m z) ≡ true) (λ k. refl)
    (λ z ne k. more m z k) d q)
    (λ y ne q. more y d q) n h
told_by_follows (Entry.Join j k m Joined) t u more n d h = by_test j
    (λ y b. (if b then (λ c. t j c || t m c) else t y) d ≡ true → (if b then (λ c. u j c || u m c) else u y) d ≡ true)
    (λ q. elim (or_cases (t j d) (t m d) q) [
      | inl k ↦ or_left (u j d) (u m d) (more j d k)
      | inr k ↦ or_right (u j d) (u m d) (more m d k)
    ])
    (λ y ne q. more y d q) n h
told_by_follows (Entry.Join j k m _) t u more n d h = more n d h
told_by_follows (Entry.Name m k call reply) t u more n d h = more n d h
told_by_follows (Entry.Strike p) t u more n d h = more n d h
told_by_follows (Entry.Done m) t u more n d h = more n d h
told_by_follows (Entry.Exit p) t u more n d h = more n d h
told_by_follows (Entry.Left x) t u more n d h = more n d h
told_by_follows (Entry.Read m look reply) t u more n d h = more n d h

tells_more : (e : Entry) (r : Registry) → TellsMore r (effect e r)
tells_more e r n d h = ap (λ (t : ℕ → Nodes). t n d) (effect-told e r) ∙ told_by_grows e r.told n d h

follows : (es : List Entry) (r q : Registry) → TellsMore r q
    → TellsMore (fold (λ x e. effect e x) r es) (fold (λ x e. effect e x) q es)
follows [] r q more = more
follows (e ∷ es) r q more = follows es (effect e r) (effect e q) (λ n d h. ap (λ (t : ℕ → Nodes). t n d) (effect-told e q)
    ∙ told_by_follows e r.told q.told more n d (sym (ap (λ (t : ℕ → Nodes). t n d) (effect-told e r)) ∙ h))

module _ (cluster : Nodes) (h : List Entry) where
  law : OldLeavesOut cluster h
  law = old_law cluster h

  -- the registry without an operation that holds tells no more than that with it
  old_tells : (a : ℕ) → TellsMore (old (standing_of cluster h) a) (registry_of cluster h)
  old_tells a = go (hold_at (standing_of cluster h) a) refl
    where
      go : (x : Option Hold) → hold_at (standing_of cluster h) a ≡ x
          → TellsMore (old_or (standing_of cluster h).registry x) (registry_of cluster h)
      go None e n d q = ap (λ (r : Registry). r.told n d) (sym law.registry) ∙ q
      go (Some hold) e n d q =
          let out : IsLeftOut cluster h hold = law.left_out a hold e in
          ap (λ (r : Registry). r.told n d)
          (ap (registry_of cluster) out.split ∙ registry_of-append cluster out.before (hold.entry ∷ out.later))
          ∙ follows out.later (registry_of cluster out.before) (effect hold.entry (registry_of cluster out.before))
          (tells_more hold.entry (registry_of cluster out.before)) n d
          (ap (λ (r : Registry). r.told n d) (sym (out.old ∙ registry_of-append cluster out.before out.later)) ∙ q)

pub restarts_are_legal : RestartsAreLegal
restarts_are_legal o es x r = record {
  gone = s.recorded.left (present_node o w x) ∙ m.gone;
  told = λ c up. told c up (shown.held c (up.inside, ap (λ (t : Registry). t.left c) same ∙ s.recorded.left c ∙ up.stays));
}
  where
    w : NamedWorld
    w = after_events o es

    s : Sound o w
    s = always o es

    m : MayRestart o w x
    m = may_restart o w x r

    ps : List Played
    ps = events_played o es

    now : Seen
    now = seen (opening_of o) w.world

    shown : Headline (opening_of o) ps now
    shown = agreement o es

    cluster : Nodes
    cluster = in_cluster (opening_of o)

    -- the registry behind the events is that of the history
    same : (standing (opening_of o) ps).registry ≡ registry_of cluster w.world.history
    same = (law cluster (entries_of ps)).registry ∙ ap (registry_of cluster) (sym shown.history)

    told : (c : ℕ) → IsUp o w c
        → Shows (standing (opening_of o) ps).registry c now
        ⊎ Shows (old (standing (opening_of o) ps) c) c now
        → (registry_of cluster w.world.history).told c (present_node o w x) ≡ true
    told c up (inl shows) = ap (λ (t : Registry). t.told c (present_node o w x)) (sym same)
        ∙ ap (λ (v : Replica). v.told (present_node o w x)) (sym shows) ∙ told_of_gone o w s x m c up
    told c up (inr before) = ap (λ (h : List Entry). (registry_of cluster h).told c (present_node o w x)) shown.history
        ∙ old_tells cluster (entries_of ps) c c (present_node o w x)
        (ap (λ (v : Replica). v.told (present_node o w x)) (sym before) ∙ told_of_gone o w s x m c up)
