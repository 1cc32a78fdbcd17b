-- What the headline says between events passes its test.
use mathlib.Core.Logic.{◌⊎◌}
use Rattle.std.proofs.Common.{ℕ, Bool, true, false, ◌==◌, ◌≡◌, Option, Some, None, List, [], ◌∷◌, ◌++◌, filter, refl, sym, subst, ap, inl, inr}
use Rattle.std.specs.Prelude.{not, ◌&&◌, ◌||◌, if◌then◌else◌, fold, flat_map, option_map, Contains}
use Rattle.std.specs.List.{list_any, list_all}
use Rattle.std.proofs.lemmas.Bool.{and_parts, and_from, not-true}
use Rattle.registry_model.specs.Registry.{Registry, Replica, in_group}
use Rattle.registry_model.specs.History.{Entry, Standing, Hold, is_free, is_holding, old, after}
use Rattle.registry_model.proofs.Lists.{Contains-front, Contains-behind, Contains-cases, Contains-nil}
use Rattle.protocol_model.specs.Event.{Event, Refusal, HoldsLock}
use Rattle.protocol_model.specs.World.{Opening, in_world, World, At, refusal}
use Rattle.protocol_model.specs.Course.{Played, seen, entries_of, global_given}
use Rattle.protocol_model.specs.Fit.{Fits, accepted_at, decided_at, is_exit, is_left, is_told, exit_of, left_of, notice_of}
use Rattle.protocol_model.specs.Answers.{answers_at, entered_at}
use Rattle.protocol_model.specs.Headline.{standing, Shows, IsRunning, GroupShows, HasTheLock, Headline}
use Rattle.protocol_model.specs.Tests.{are_nodes, is_replica, is_numbered_call, is_answer}
use Rattle.protocol_model.specs.Check.{fits, all_entries, is_leave, is_holder, is_running, shows, shows_with_or_without, group_all, group_shows, has_the_lock, keeps_history, keeps_replies, keeps_free_and_held, keeps_leave, keeps_holder, stands}
use Rattle.moves.proofs.Indices.{is_empty_from}
use Rattle.headline.proofs.Same

-- the second passes where the first does
pub guarded : (a b : Bool) → (a ≡ true → b ≡ true) → (a && not b) ≡ false
guarded true b h = Same.not_of b (h refl)
guarded false b h = refl

-- the same, as an `or`
pub where_so : (a b : Bool) → (a ≡ true → b ≡ true) → (not a || b) ≡ true
where_so true b h = h refl
where_so false b h = refl

-- a list contains its last item
pub Contains-last : {A : Type 0} (xs : List A) (x : A) → Contains (xs ++ x ∷ []) x
Contains-last [] x = Contains-front x []
Contains-last (y ∷ xs) x = Contains-behind y (xs ++ x ∷ []) x (Contains-last xs x)

-- either passes
pub or_left : (a b : Bool) → a ≡ true → (a || b) ≡ true
or_left true b e = refl
or_left false b e = cc

pub or_right : (a b : Bool) → b ≡ true → (a || b) ≡ true
or_right true b e = refl
or_right false b e = e

-- each item passes
pub all_from : {A : Type 0} (passes : A → Bool) (xs : List A) → ((x : A) → Contains xs x → passes x ≡ true) →
    list_all passes xs ≡ true
all_from passes [] h = refl
all_from passes (x ∷ xs) h = and_from (passes x) (list_all passes xs) (h x (Contains-front x xs))
    (all_from passes xs (λ y c. h y (Contains-behind x xs y c)))

-- some item passes
pub any_from : {A : Type 0} (passes : A → Bool) (xs : List A) (x : A) → Contains xs x → passes x ≡ true →
    list_any passes xs ≡ true
any_from passes [] x c e = absurd (Contains-nil x c)
any_from {A} passes (y ∷ xs) x c e = elim (Contains-cases y xs x c) [
  | inl i ↦ or_left (passes y) (list_any passes xs) (subst (λ (z : A). passes z ≡ true) (sym i) e)
  | inr h ↦ or_right (passes y) (list_any passes xs) (any_from passes xs x h e)
]

-- each entry passes behind those before it
pub entries_from : (passes : Standing → Entry → Bool) (t : Standing) (es : List Entry) →
    ((earlier later : List Entry) (e : Entry) → es ≡ earlier ++ e ∷ later → passes (fold after t earlier) e ≡ true) →
    all_entries passes t es ≡ true
entries_from passes t [] h = refl
entries_from passes t (e ∷ es) h = and_from (passes t e) (all_entries passes (after t e) es) (h [] es e refl)
    (entries_from passes (after t e) es
    (λ earlier later f i. h (e ∷ earlier) later f (ap (λ (fs : List Entry). e ∷ fs) i)))

module _ (o : Opening) where
  -- who passes as running runs
  running : (u : Standing) (a : ℕ) → is_running o u a ≡ true → IsRunning o u a
  running u a e = let parts : (in_world o a ≡ true) × (not (u.registry.left a) ≡ true) = and_parts _ _ e in
      (parts.0, not-true (u.registry.left a) parts.1)

  -- what a node shows
  shown : (r : Registry) (a : ℕ) (w : World) → Shows r a (seen o w) → shows o r a w ≡ true
  shown r a w e = subst (λ (v : Replica). is_replica o.bound (w.node a).replica v ≡ true) e
      (Same.replica o.bound (w.node a).replica)

  -- what all running nodes of a group do
  pub group_from : (u : Standing) (a : ℕ) (passes : ℕ → Bool) →
      ((c : ℕ) → in_group u.registry a c ≡ true → IsRunning o u c → passes c ≡ true) → group_all o u a passes ≡ true
  group_from u a passes h =
      is_empty_from o.bound _ (λ c l. guarded (in_group u.registry a c && is_running o u c) (passes c)
      (λ e. let parts : (in_group u.registry a c ≡ true) × (is_running o u c ≡ true) = and_parts _ _ e in
      h c parts.0 (running u c parts.1)))

  -- the group shows the registry
  pub group_shown : (u : Standing) (a : ℕ) (w : World) → GroupShows o u a (seen o w) → group_shows o u a w ≡ true
  group_shown u a w h = group_from u a (λ c. shows o u.registry c w) (λ c i r. shown u.registry c w (h c i r))

  -- a node has the lock
  pub lock_had : (t : Standing) (a : ℕ) (w : World) → HasTheLock o t a (seen o w) → has_the_lock o t a w ≡ true
  lock_had t a w h =
      group_from t a (λ c. are_nodes o.bound (global_given (w.node c).locks) (λ b. b == a))
      (λ c i r. Same.nodes o.bound (global_given (w.node c).locks) (λ b. b == a) (λ b. h c b i r))

  -- events and history fit
  fitting : (ps : List Played) → Fits ps → fits o ps ≡ true
  fitting ps f = and_from _ _ (and_from _ _ (and_from _ _
      (is_empty_from o.bound _ (λ a l. Same.not_of _ (Same.prefix_of is_numbered_call Same.numbered_call
      (flat_map (decided_at a) (entries_of ps)) (accepted_at a ps) (f.calls a))))
      (Same.entries_of (filter is_exit (entries_of ps)) (flat_map exit_of ps) f.exits))
      (Same.entries_of (filter is_left (entries_of ps)) (flat_map left_of ps) f.departures))
      (Same.entries_of (filter is_told (entries_of ps)) (flat_map notice_of ps) f.notices)

  module _ (ps : List Played) (w : World) (H : Headline o ps (seen o w)) where
    -- the history
    history : keeps_history o ps w ≡ true
    history = Same.entries_of w.history (entries_of ps) H.history

    -- the answers
    replies : keeps_replies o ps ≡ true
    replies = is_empty_from o.bound _ (λ a l. Same.not_of _ (Same.prefix_of is_answer Same.answer (answers_at a ps)
        (flat_map (entered_at a) (entries_of ps)) (H.replies a)))

    -- what each running node shows
    free_and_held : keeps_free_and_held o (standing o ps) w ≡ true
    free_and_held = is_empty_from o.bound _ (λ a l. guarded (is_running o (standing o ps) a)
        (shows_with_or_without o (standing o ps) a w) (λ e. at_node a (running (standing o ps) a e)))
      where
        at_node : (a : ℕ) → IsRunning o (standing o ps) a → shows_with_or_without o (standing o ps) a w ≡ true
        at_node a r = go (is_free (standing o ps) a) refl (H.held a r)
          where
            go : (b : Bool) → is_free (standing o ps) a ≡ b →
                Shows (standing o ps).registry a (seen o w) ⊎ Shows (old (standing o ps) a) a (seen o w) →
                (shows o (standing o ps).registry a w || not b && shows o (old (standing o ps) a) a w) ≡ true
            go true k h = or_left _ _ (shown (standing o ps).registry a w (H.free a r k))
            go false k (inl h) = or_left _ _ (shown (standing o ps).registry a w h)
            go false k (inr h) = or_right (shows o (standing o ps).registry a w) _ (shown (old (standing o ps) a) a w h)

    -- when a node may leave
    leave : keeps_leave o (standing o ps) w ≡ true
    leave = is_empty_from o.bound _ (λ a l. guarded (is_running o (standing o ps) a)
        (is_leave (is_holding (standing o ps) a) (refusal o w (At a Event.Leave)))
        (λ e. at_node a (running (standing o ps) a e)))
      where
        by : (b : Bool) → is_leave b (if b then Some HoldsLock else None) ≡ true
        by true = refl
        by false = refl

        at_node : (a : ℕ) → IsRunning o (standing o ps) a →
            is_leave (is_holding (standing o ps) a) (refusal o w (At a Event.Leave)) ≡ true
        at_node a r = subst (λ (x : Option Refusal). is_leave (is_holding (standing o ps) a) x ≡ true)
            (sym (H.leave a r)) (by (is_holding (standing o ps) a))

    -- who holds the lock
    holding : keeps_holder o (standing o ps) w ≡ true
    holding = subst (λ (x : Option ℕ). is_holder x (standing o ps).held ≡ true) (sym H.holder) (by (standing o ps).held)
      where
        by : (x : Option Hold) → is_holder (option_map (λ h. h.node) x) x ≡ true
        by None = refl
        by (Some h) = Same.number h.node

    -- all that stands between events
    pub between : stands o ps (standing o ps) w ≡ true
    between = and_from _ _ (and_from _ _ (and_from _ _ (and_from _ _ (and_from _ _ history (fitting ps H.fits)) replies)
        free_and_held) leave) holding
