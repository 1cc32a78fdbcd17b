-- Two rival grants of a run come in turn at a node that both asked, and the later has the greater stamp.
use Rattle.std.proofs.Common.{ℕ, Bool, true, false, ◌==◌, ◌≡◌, ◌<◌, ◌≤◌, inl, inr, Some, List, [], ◌∷◌, ◌++◌, refl, sym, ap, ◌∙◌, subst, arith}
use Rattle.std.specs.Prelude.{Contains}
use Rattle.std.proofs.lemmas.Bool.{cases_lt, eqb-true, eq-eqb}
use Rattle.std.proofs.lemmas.List.{append-nil, append_assoc, append_cancel_left}
use Rattle.std.specs.List.{list_any}
use Rattle.registry_model.specs.Process.{Text}
use Rattle.protocol_model.specs.Letter.{Client}
use Rattle.protocol_model.specs.LockTable.{Locks, count}
use Rattle.protocol_model.specs.Event.{Answer}
use Rattle.protocol_model.specs.ClientLocks.{is_no_more, holds_count}
use Rattle.protocol_model.specs.LockAnswers.{tries_of}
use Rattle.protocol_model.specs.World.{Opening, in_world, World, WorldEvent, opening_world, answers}
use Rattle.closings.specs.Merging.{Step, IsInOrder, happening, events_in, world_behind, Takes, TakesAll}
use Rattle.creations.proofs.Indices.{both}
use Rattle.creations.proofs.LockTables.{one_requester}
use Rattle.creations.proofs.ClientLocks.{client_locks}
use Rattle.creations.proofs.GrantEvents.{ground_run}
use Rattle.creations.proofs.Nothing.{nothing_is_left}
use Rattle.creations.proofs.Pushed.{answers_turn, answer_place}
use Rattle.fences.specs.Grants.{IsRun, fence, ArePlaces, true_to, Grant, up_to, held, RunsAt, IsRequested, IsLater, AreRivals, ComesFirst, StandsAt, takes_request}
use Rattle.fences.specs.Laws.{GrantsAreRequested, LaterGrantsAreGreater, GrantsAreInTurn}
use Rattle.fences.proofs.Numbers.{by_stamp}
use Rattle.fences.proofs.Orders.{order_behind, order_front, takes_behind, takes_front, all_elsewhere, AreElsewhere}
use Rattle.fences.proofs.Elsewhere.{events_push, world_push, kept}
use Rattle.fences.proofs.Granted as Granted
use Rattle.protocol_model.proofs.Finding.{found_any}
use Rattle.creations.proofs.Spared.{is_lock_answer}
use Rattle.fences.proofs.Requests.{takes_silent}
use Rattle.fences.proofs.LastRequests.{Along, along_at, along_step, Stands, TakesNone, Found, last_request}
use Rattle.fences.proofs.Rising.{node_inside}

-- one list, taken apart at two places: the one is behind the other, or they are one
data Apart (before : List Step) (s : Step) (front : List Step) (t : Step) : Type 0 where
  Behind : (between : List Step) → front ≡ before ++ s ∷ between → Apart before s front t
  Same : before ≡ front → s ≡ t → Apart before s front t
  Before : (between : List Step) → before ≡ front ++ t ∷ between → Apart before s front t

apart_at : (before : List Step) (s : Step) (later : List Step) (front : List Step) (t : Step) (rest : List Step)
    → before ++ s ∷ later ≡ front ++ t ∷ rest → Apart before s front t
apart_at [] s later [] t rest e = Same refl (first e)
  where
    first : s ∷ later ≡ t ∷ rest → s ≡ t
    first e = cc
apart_at [] s later (y ∷ front) t rest e = Behind front (ap (λ (x : Step). x ∷ front) (first e))
  where
    first : s ∷ later ≡ y ∷ front ++ t ∷ rest → y ≡ s
    first e = cc
apart_at (x ∷ before) s later [] t rest e = Before before (ap (λ (y : Step). y ∷ before) (first e))
  where
    first : x ∷ before ++ s ∷ later ≡ t ∷ rest → x ≡ t
    first e = cc
apart_at (x ∷ before) s later (y ∷ front) t rest e = go (apart_at before s later front t rest (behind e))
  where
    first : x ∷ before ++ s ∷ later ≡ y ∷ front ++ t ∷ rest → x ≡ y
    first e = cc

    behind : x ∷ before ++ s ∷ later ≡ y ∷ front ++ t ∷ rest → before ++ s ∷ later ≡ front ++ t ∷ rest
    behind e = cc

    go : Apart before s front t → Apart (x ∷ before) s (y ∷ front) t
    go (Behind between i) = Behind between (ap (λ (z : Step). z ∷ front) (sym (first e)) ∙ ap (λ (zs : List Step). x ∷ zs) i)
    go (Same i j) = Same (ap (λ (z : Step). z ∷ before) (first e) ∙ ap (λ (zs : List Step). y ∷ zs) i) j
    go (Before between i) = Before between (ap (λ (z : Step). z ∷ before) (first e) ∙ ap (λ (zs : List Step). y ∷ zs) i)

module _ (o : Opening) (ss : List Step) (R : IsRun o ss) where
  module _ (g : Grant o ss) where
    -- the world takes the step of a grant
    taken : Takes o (world_behind o g.before) g.step
    taken = (takes_behind o (opening_world o) g.before (g.step ∷ g.later)
        (subst (TakesAll o (opening_world o)) g.split R.takes)).0

    told : tries_of o (events_in g.before ++ happening g.step ∷ []) g.holder ≡ Some g.tries
    told = ap (λ (es : List WorldEvent). tries_of o es g.holder) (sym (events_push g.before g.step)) ∙ g.last

    given : Contains (answers o (world_behind o g.before) (happening g.step)) (true_to g.holder g.tries)
    given = subst (λ (xs : List Answer). Contains xs (true_to g.holder g.tries)) taken.answers g.given

    -- it is one of the holder's node
    home : g.holder.node ≡ g.step.node
    home = answer_place o (events_in g.before) (happening g.step) taken.accepted (true_to g.holder g.tries) given ∙ taken.own

    inside : in_world o g.step.node ≡ true
    inside = node_inside o (world_behind o g.before) g.step taken

    -- behind it the holder is there
    alive : is_no_more (world_behind o (up_to g)) g.holder ≡ false
    alive = ap (λ (w : World). is_no_more w g.holder) (world_push o g.before g.step)
        ∙ Granted.alive o (events_in g.before) (happening g.step) taken.accepted g.holder g.tries told given

    -- and has the lock at each node that was asked
    has : (c : ℕ) → g.tries.last.asks c ≡ true → 0 < held g c (up_to g)
    has c asked = subst (λ (es : List WorldEvent). 0 < holds_count o es g.holder (Client g.resource g.requester) c)
        (sym (events_push g.before g.step))
        (Granted.has o (events_in g.before) (happening g.step) taken.accepted g.holder g.tries told given
        (Client g.resource g.requester) c g.id asked)

    -- so its lock table has the resource under the requester alone
    stands : (c : ℕ) → g.tries.last.asks c ≡ true → RunsAt g c → StandsAt g c
    stands c asked up = record {
      holder = g.holder;
      has = listed;
      alone = λ q other h. eqb-true other g.requester (both (g.resource == g.resource) (other == g.requester)
          (one_requester locks ((ground_run o es).base.clients.tables c) (Client g.resource other) q
          (Client g.resource g.requester) g.holder h listed (eq-eqb g.resource g.resource refl))).1;
    }
      where
        es : List WorldEvent
        es = events_in (up_to g)

        locks : Locks
        locks = ((world_behind o (up_to g)).node c).locks

        listed : 0 < count (Client g.resource g.requester) g.holder locks
        listed = most (has c asked) ((nothing_is_left o es).stand c up (Client g.resource g.requester) g.holder)
          where
            most : {m n : ℕ} → 0 < m → m ≤ n → 0 < n
            most h l = omega (arith, h, l)

    -- by its step no request is taken
    takes_none : (c : ℕ)
        → takes_request (world_behind o g.before) (happening g.step) g.holder (Client g.resource g.requester) c ≡ false
    takes_none c = go (takes_request (world_behind o g.before) (happening g.step) g.holder (Client g.resource g.requester) c) refl
      where
        go : (b : Bool)
            → takes_request (world_behind o g.before) (happening g.step) g.holder (Client g.resource g.requester) c ≡ b → b ≡ false
        go false e = refl
        go true e = cc (
          found_any is_lock_answer (answers o (world_behind o g.before) (happening g.step)) (true_to g.holder g.tries) given refl,
          ap (list_any is_lock_answer) (answers_turn o (events_in g.before) (happening g.step) taken.accepted),
          takes_silent o g.holder c (Client g.resource g.requester) (world_behind o g.before) (happening g.step) e,
        )

    -- the request was taken before
    requested : (c : ℕ) → g.tries.last.asks c ≡ true → RunsAt g c → IsRequested g c
    requested c asked up = record {
      before = F.before;
      step = F.step;
      between = F.between;
      split = F.split;
      takes = F.takes;
      last = λ front s rest e. subst
          (λ (xs : List Step). takes_request (world_behind o xs) (happening s) g.holder (Client g.resource g.requester) c ≡ false)
          (append_assoc F.before (F.step ∷ []) front)
          (along_step (Stands o g.holder c (Client g.resource g.requester))
          (TakesNone o g.holder c (Client g.resource g.requester)) (F.before ++ F.step ∷ []) front s rest
          (subst (Along (Stands o g.holder c (Client g.resource g.requester))
          (TakesNone o g.holder c (Client g.resource g.requester)) (F.before ++ F.step ∷ [])) e F.along));
      stands = λ front rest e. subst (Stands o g.holder c (Client g.resource g.requester))
          (append_assoc F.before (F.step ∷ []) front)
          (along_at (Stands o g.holder c (Client g.resource g.requester))
          (TakesNone o g.holder c (Client g.resource g.requester)) (F.before ++ F.step ∷ []) front rest
          (subst (Along (Stands o g.holder c (Client g.resource g.requester))
          (TakesNone o g.holder c (Client g.resource g.requester)) (F.before ++ F.step ∷ [])) e F.along));
    }
      where
        F : Found o g.holder c (Client g.resource g.requester) g.before
        F = last_request o g.holder c (Client g.resource g.requester) g.before g.step
            (takes_front o (opening_world o) (up_to g) g.later (subst (TakesAll o (opening_world o))
            (g.split ∙ sym (append_assoc g.before (g.step ∷ []) g.later)) R.takes)) up.0 up.1 (has c asked) (takes_none c)

  -- rivals never have their locks at once at a node that runs
  apart : (g h : Grant o ss) (c : ℕ) → AreRivals g h c → (k : Grant o ss) → RunsAt k c → 0 < held g c (up_to k)
      → 0 < held h c (up_to k) → ⊥
  apart g h c V k up hg hh = V.requesters ((client_locks o (events_in (up_to k))).exclusion c up.0 up.1 g.holder h.holder
      g.resource g.requester h.requester hg
      (subst (λ (r : Text). 0 < holds_count o (events_in (up_to k)) h.holder (Client r h.requester) c) (sym V.resource) hh))

  none : (n : ℕ) → (0 < n → ⊥) → n ≡ 0
  none n h = elim (cases_lt 0 n) [ inl l ↦ absurd (h l) | inr l ↦ least l ]
    where
      least : n ≤ 0 → n ≡ 0
      least l = omega (arith, l)

  swapped : (g h : Grant o ss) (c : ℕ) → AreRivals g h c → AreRivals h g c
  swapped g h c V = record {
    resource = sym V.resource;
    requesters = λ e. V.requesters (sym e);
    asked = V.asked_too;
    asked_too = V.asked;
  }

  module _ (g h : Grant o ss) (later : IsLater g h) where
    -- the run from the step of g on, and up to that of h
    split : ss ≡ (g.before ++ g.step ∷ later.0) ++ h.step ∷ h.later
    split = h.split ∙ ap (λ (xs : List Step). xs ++ h.step ∷ h.later) later.1

    from_g : ss ≡ g.before ++ (g.step ∷ later.0 ++ h.step ∷ h.later)
    from_g = split ∙ append_assoc g.before (g.step ∷ later.0) (h.step ∷ h.later)

    part : g.step ∷ later.0 ++ h.step ∷ h.later ≡ (g.step ∷ later.0 ++ h.step ∷ []) ++ h.later
    part = ap (λ (xs : List Step). g.step ∷ xs) (sym (append_assoc later.0 (h.step ∷ []) h.later))

    order : IsInOrder (g.step ∷ later.0 ++ h.step ∷ [])
    order = order_front (g.step ∷ later.0 ++ h.step ∷ []) h.later (subst IsInOrder part
        (order_behind g.before (g.step ∷ later.0 ++ h.step ∷ h.later) (subst IsInOrder from_g R.order)))

    takes : TakesAll o (world_behind o g.before) (g.step ∷ later.0 ++ h.step ∷ [])
    takes = takes_front o (world_behind o g.before) (g.step ∷ later.0 ++ h.step ∷ []) h.later
        (subst (TakesAll o (world_behind o g.before)) part (takes_behind o (opening_world o) g.before
        (g.step ∷ later.0 ++ h.step ∷ h.later) (subst (TakesAll o (opening_world o)) from_g R.takes)))

    -- up to h
    up : up_to h ≡ up_to g ++ (later.0 ++ h.step ∷ [])
    up = ap (λ (xs : List Step). xs ++ h.step ∷ []) later.1
        ∙ append_assoc g.before (g.step ∷ later.0) (h.step ∷ [])
        ∙ sym (append_assoc g.before (g.step ∷ []) (later.0 ++ h.step ∷ []))

    -- where its stamp isn't greater, all steps between are of other nodes, so the holder of g has its lock still
    keeps : (c : ℕ) → h.step.entry.stamp ≤ g.step.entry.stamp → held g c (up_to h) ≡ held g c (up_to g)
    keeps c l = ap (held g c) up ∙ kept o g.holder (Client g.resource g.requester) c (up_to g) (later.0 ++ h.step ∷ [])
        (subst (λ (w : World). TakesAll o w (later.0 ++ h.step ∷ [])) (sym (world_push o g.before g.step)) takes.1)
        (subst (λ (a : ℕ). AreElsewhere a (later.0 ++ h.step ∷ [])) (sym (home g))
        (all_elsewhere g.step later.0 h.step order l)) (alive g)

    -- so it is greater
    stamps : (c : ℕ) → AreRivals g h c → RunsAt h c → g.step.entry.stamp < h.step.entry.stamp
    stamps c V runs = elim (cases_lt g.step.entry.stamp h.step.entry.stamp) [
      | inl l ↦ l
      | inr l ↦ absurd (apart g h c V h runs (subst (λ (n : ℕ). 0 < n) (sym (keeps c l)) (has g c V.asked)) (has h c V.asked_too))
    ]

    greater : (place : ℕ → ℕ) (c : ℕ) → ArePlaces o place → AreRivals g h c → RunsAt h c
        → fence place g.step < fence place h.step
    greater place c P V runs = by_stamp g.step.entry.stamp h.step.entry.stamp (place g.step.node) (place h.step.node)
        (P g.step.node (inside g)) (stamps c V runs)

    -- the node takes the request of h behind the step of g: before, the lock would stand there for both
    request_later : (c : ℕ) → AreRivals g h c → RunsAt g c → (N : IsRequested h c)
        → (between : List Step) × (N.before ≡ g.before ++ g.step ∷ between)
    request_later c V now N = go (apart_at g.before g.step (later.0 ++ []) N.before N.step N.between split_here)
      where
        split_here : g.before ++ g.step ∷ (later.0 ++ []) ≡ N.before ++ N.step ∷ N.between
        split_here = ap (λ (xs : List Step). g.before ++ g.step ∷ xs) (append-nil later.0) ∙ sym later.1 ∙ N.split

        both_stand : (xs : List Step) → up_to g ≡ xs → 0 < count (Client h.resource h.requester) h.holder
            ((world_behind o xs).node c).locks → ⊥
        both_stand xs e k = V.requesters (sym ((stands g c V.asked now).alone h.holder h.requester
            (subst (λ (r : Text). 0 < count (Client r h.requester) h.holder ((world_behind o (up_to g)).node c).locks)
            (sym V.resource) (subst (λ (ys : List Step). 0 < count (Client h.resource h.requester) h.holder
            ((world_behind o ys).node c).locks) (sym e) k))))

        go : Apart g.before g.step N.before N.step → (between : List Step) × (N.before ≡ g.before ++ g.step ∷ between)
        go (Behind between i) = (between, i)
        go (Same i j) = absurd (both_stand (N.before ++ N.step ∷ [])
            (ap (λ (xs : List Step). xs ++ g.step ∷ []) i ∙ ap (λ (s : Step). N.before ++ s ∷ []) j) (N.stands [] N.between refl))
        go (Before between i) = absurd (both_stand (N.before ++ N.step ∷ (between ++ g.step ∷ []))
            (ap (λ (xs : List Step). xs ++ g.step ∷ []) i ∙ append_assoc N.before (N.step ∷ between) (g.step ∷ []))
            (N.stands (between ++ g.step ∷ []) later.0 (append_cancel_left (N.before ++ N.step ∷ []) N.between
            ((between ++ g.step ∷ []) ++ later.0) rest)))
          where
            rest : (N.before ++ N.step ∷ []) ++ N.between ≡ (N.before ++ N.step ∷ []) ++ ((between ++ g.step ∷ []) ++ later.0)
            rest = append_assoc N.before (N.step ∷ []) N.between ∙ sym N.split ∙ later.1
                ∙ ap (λ (xs : List Step). xs ++ g.step ∷ later.0) i
                ∙ append_assoc N.before (N.step ∷ between) (g.step ∷ later.0)
                ∙ sym (append_assoc N.before (N.step ∷ []) (between ++ g.step ∷ later.0))
                ∙ ap (λ (xs : List Step). (N.before ++ N.step ∷ []) ++ xs) (sym (append_assoc between (g.step ∷ []) later.0))

    comes_first : (c : ℕ) → AreRivals g h c → RunsAt g c → RunsAt h c → ComesFirst g h c
    comes_first c V now then = record {
      later = later;
      stamps = stamps c V then;
      has = has g c V.asked;
      not_yet = none (held h c (up_to g)) (λ l. apart g h c V g now (has g c V.asked) l);
      has_now = has h c V.asked_too;
      no_more = none (held g c (up_to h)) (λ l. apart g h c V h then l (has h c V.asked_too));
      stands = stands g c V.asked now;
      stands_now = stands h c V.asked_too then;
      request = requested h c V.asked_too then;
      request_later = request_later c V now (requested h c V.asked_too then);
    }

pub grants_are_requested : GrantsAreRequested
grants_are_requested o ss g c R asked up = requested o ss R g c asked up

pub later_grants_are_greater : LaterGrantsAreGreater
later_grants_are_greater o place ss g h c P R V runs later =
    (stamps o ss R g h later c V runs, greater o ss R g h later place c P V runs)

pub grants_are_in_turn : GrantsAreInTurn
grants_are_in_turn o place ss g h c P R V now then =
    elim (apart_at g.before g.step g.later h.before h.step h.later (sym g.split ∙ h.split)) [
      | Behind between i ↦ inl (greater o ss R g h (between, i) place c P V then, comes_first o ss R g h (between, i) c V now then)
      | Before between i ↦ inr (
        greater o ss R h g (between, i) place c P (swapped o ss R g h c V) now,
        comes_first o ss R h g (between, i) c (swapped o ss R g h c V) then now,
      )
      | Same i j ↦ absurd (apart o ss R g h c V g now (has o ss R g c V.asked)
          (subst (λ (xs : List Step). 0 < held h c xs) (sym (same i j)) (has o ss R h c V.asked_too)))
    ]
  where
    same : g.before ≡ h.before → g.step ≡ h.step → up_to g ≡ up_to h
    same i j = ap (λ (xs : List Step). xs ++ g.step ∷ []) i ∙ ap (λ (s : Step). h.before ++ s ∷ []) j
