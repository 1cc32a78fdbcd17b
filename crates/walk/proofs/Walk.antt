-- Every accepted event is a chain of rules, in which those of lock calls stand in order.
use Rattle.std.proofs.Common.{ℕ, Bool, true, false, ◌≡◌, None, List, [], ◌∷◌, ◌++◌, refl, sym, subst, ap, ◌∙◌, inl, inr}
use Rattle.std.specs.Prelude.{◌&&◌}
use Rattle.std.specs.List.{list_all}
use Rattle.protocol_model.specs.Letter.{Letter}
use Rattle.protocol_model.specs.Links.{is_nil}
use Rattle.protocol_model.specs.Node.{holds_global}
use Rattle.protocol_model.specs.Event.{Call, Event, EmptyLink, HoldsLock}
use Rattle.protocol_model.specs.World.{Opening, in_world, World, left, WorldEvent, At, Deliver, place, refusal, heard, turn_of, apply, letter_taken, leaver_closed_out}
use Rattle.protocol_model.specs.Fit.{is_delivery}
use Rattle.moves.proofs.Rules
use Rattle.moves.proofs.Rules.{Rule, Ordered, Walked, is_quiet}
use Rattle.walk.proofs.ChainKinds.{Kind, Aside, Again, Hearing, suits, may_go_on, is_allowed}
use Rattle.walk.proofs.Chains.{Chain, LeaveLocks, TakeGone, Came}
use Rattle.walk.proofs.Receiving.{WelcomeWidens, receive-chain}
use Rattle.walk.proofs.Events.{no_cause, Accepted, accepted_of, IsSecond, CallWalk, call-chain, exit-chain, retry-chain}

-- the rules behind a call's own: for a lock call the one that begins it, and then none of lock calls
abbrev pub InOrderOfCall : Opening → World → ℕ → Call → List Rule → Type 0
InOrderOfCall o w a (Call.SetLock p r q target retries) rs =
    (s : Rule) × ((later : List Rule) × ((rs ≡ s ∷ later) × IsSecond o a w (Call.SetLock p r q target retries) s ×
    (list_all (suits Aside) later ≡ true)))
InOrderOfCall o w a (Call.DelLock p r q target) rs =
    (s : Rule) × ((later : List Rule) × ((rs ≡ s ∷ later) × IsSecond o a w (Call.DelLock p r q target) s ×
    (list_all (suits Aside) later ≡ true)))
InOrderOfCall o w a c rs = list_all (suits Aside) rs ≡ true

-- the rules of lock calls behind an event's own rule stand in order
abbrev pub InOrder : Opening → World → WorldEvent → List Rule → Type 0
InOrder o w (At a (Event.Calling c)) rs = InOrderOfCall o w a c rs
InOrder o w (At a Event.Retry) rs = list_all (suits (Again (w.node a))) rs ≡ true
InOrder o w (At a e) rs = list_all (suits Aside) rs ≡ true
InOrder o w (Deliver f t) rs = list_all (suits Hearing) rs ≡ true

-- A walk in order: the lock table is changed by its first rule or not at all, nothing is settled without a letter, and
-- no letter is taken but the one that is delivered
pub record OrderedWalk (o : Opening) (w : World) (e : WorldEvent) : Type 0 where
  pub walk : Walked o w e
  pub in_order : InOrder o w e walk.rest
  pub locks : LeaveLocks (Rules.first_by o (place e) w e ++ walk.rest)
  pub letters : TakeGone o (place e) w (letter_taken e w) (Rules.first_by o (place e) w e ++ walk.rest)
  pub allowed : list_all (is_allowed (is_delivery e)) walk.rest ≡ true
  pub came : Came o (place e) w (letter_taken e w) (Rules.first_by o (place e) w e ++ walk.rest)

-- an event whose turn is reached by a chain is walked, unless it closes a node out
walked_by : (o : Opening) (w : World) (e : WorldEvent) (k : Kind)
    → leaver_closed_out e (apply (place e) (turn_of o w e) (letter_taken e w)) ≡ apply (place e) (turn_of o w e) (letter_taken e w)
    → (h : Chain o (place e) k w (Rules.first_by o (place e) w e) (letter_taken e w) (turn_of o w e))
    → (list_all (suits k) h.rest ≡ true → InOrder o w e h.rest) → may_go_on k ≡ is_delivery e
    → OrderedWalk o w e
walked_by o w e k same h order by = record {
  walk = record {
    rest = h.rest;
    quiet = h.quiet;
    may = h.may;
    world = h.world ∙ sym same;
    entries = h.entries;
    answers = h.answers;
  };
  in_order = order h.fit;
  locks = h.locks;
  letters = h.letters;
  came = h.came;
  allowed = subst (λ (t : Bool). list_all (is_allowed t) h.rest ≡ true) by h.allowed;
}

-- a call
walked_call : (o : Opening) (a : ℕ) (inside : in_world o a ≡ true) (w : World) (running : left w a ≡ false) (c : Call)
    → CallWalk o a inside w running c → OrderedWalk o w (At a (Event.Calling c))
walked_call o a inside w running (Call.SetLock p r q target retries) h = record {
  walk = record {
    rest = h.second ∷ h.chain.rest;
    quiet = ap (λ t. t && list_all is_quiet h.chain.rest) (quiet_second h.is_second) ∙ h.chain.quiet;
    may = h.chain.may;
    world = h.chain.world;
    entries = h.chain.entries;
    answers = h.chain.answers;
  };
  in_order = (h.second, (h.chain.rest, (refl, h.is_second, h.chain.fit)));
  locks = h.chain.locks;
  letters = h.chain.letters;
  came = inl refl;
  allowed = ap (λ t. t && list_all (is_allowed false) h.chain.rest) (allowed_second h.is_second) ∙ h.chain.allowed;
}
  where
    quiet_second : IsSecond o a w (Call.SetLock p r q target retries) h.second → is_quiet h.second ≡ true
    quiet_second s = elim s [ inl e ↦ ap is_quiet e | inr e ↦ ap is_quiet e ]

    allowed_second : IsSecond o a w (Call.SetLock p r q target retries) h.second → is_allowed false h.second ≡ true
    allowed_second s = elim s [ inl e ↦ ap (is_allowed false) e | inr e ↦ ap (is_allowed false) e ]
walked_call o a inside w running (Call.DelLock p r q target) h = record {
  walk = record {
    rest = h.second ∷ h.chain.rest;
    quiet = ap (λ t. t && list_all is_quiet h.chain.rest) (quiet_second h.is_second) ∙ h.chain.quiet;
    may = h.chain.may;
    world = h.chain.world;
    entries = h.chain.entries;
    answers = h.chain.answers;
  };
  in_order = (h.second, (h.chain.rest, (refl, h.is_second, h.chain.fit)));
  locks = h.chain.locks;
  letters = h.chain.letters;
  came = inl refl;
  allowed = ap (λ t. t && list_all (is_allowed false) h.chain.rest) (allowed_second h.is_second) ∙ h.chain.allowed;
}
  where
    quiet_second : IsSecond o a w (Call.DelLock p r q target) h.second → is_quiet h.second ≡ true
    quiet_second s = elim s [ inl e ↦ ap is_quiet e | inr e ↦ ap is_quiet e ]

    allowed_second : IsSecond o a w (Call.DelLock p r q target) h.second → is_allowed false h.second ≡ true
    allowed_second s = elim s [ inl e ↦ ap (is_allowed false) e | inr e ↦ ap (is_allowed false) e ]
walked_call o a inside w running Call.Spawn h = walked_by o w (At a (Event.Calling Call.Spawn)) Aside refl h.chain
    (λ e. e) refl
walked_call o a inside w running (Call.LookUp look) h = walked_by o w
    (At a (Event.Calling (Call.LookUp look))) Aside refl h.chain (λ e. e) refl
walked_call o a inside w running (Call.OnName c) h = walked_by o w
    (At a (Event.Calling (Call.OnName c))) Aside refl h.chain (λ e. e) refl
walked_call o a inside w running (Call.JoinBy m) h = walked_by o w
    (At a (Event.Calling (Call.JoinBy m))) Aside refl h.chain (λ e. e) refl

-- a leave is one rule
walked_leave : (o : Opening) (a : ℕ) (w : World) → Accepted o w (At a Event.Leave) → OrderedWalk o w (At a Event.Leave)
walked_leave o a w h = record {
  walk = record {
    rest = [];
    quiet = refl;
    may = (
      record {
        inside = h.place_inside;
        running = h.running;
        front = tt;
        tested = (no_cause (holds_global (w.node a)) HoldsLock [] h.local).0;
      },
      tt,
    );
    world = refl;
    entries = refl;
    answers = refl;
  };
  in_order = refl;
  locks = refl;
  letters = refl;
  came = inl refl;
  allowed = refl;
}

-- a delivery is the chain of its letter
walked_delivery : (o : Opening) (f t : ℕ) (w : World) → Ordered w → WelcomeWidens o w → Accepted o w (Deliver f t)
    → OrderedWalk o w (Deliver f t)
walked_delivery o f t w sorted wide h =
    walked_by o w (Deliver f t) Hearing refl (go (w.links.queue f t) refl) (λ e. e) refl
  where
    go : (ls : List Letter) → w.links.queue f t ≡ ls
        → Chain o t Hearing w (Rules.first_by_letter o t f (w.links.queue f t)) (letter_taken (Deliver f t) w)
        (heard o.bound t w f (w.links.queue f t))
    go [] e = absurd (no (ap is_nil (sym e) ∙ (no_cause (is_nil (w.links.queue f t)) EmptyLink [] h.local).0))
      where
        no : true ≡ false → ⊥
        no q = cc
    go (l ∷ rest) e =
        subst (λ (ls : List Letter). Chain o t Hearing w (Rules.first_by_letter o t f ls) (letter_taken (Deliver f t) w)
        (heard o.bound t w f ls)) (sym e)
        (receive-chain o t h.place_inside w h.running (sorted t) wide f h.other_inside rest l e)

-- an accepted event is a chain of rules at its place
pub walked_in_order : (o : Opening) (w : World) (e : WorldEvent) → Ordered w → WelcomeWidens o w → refusal o w e ≡ None
    → OrderedWalk o w e
walked_in_order o w e sorted wide h = go e (accepted_of o w e h)
  where
    go : (x : WorldEvent) → Accepted o w x → OrderedWalk o w x
    go (At a (Event.Calling c)) k =
        walked_call o a k.place_inside w k.running c (call-chain o a k.place_inside w k.running c k.local
        k.other_inside)
    go (At a Event.Retry) k =
        walked_by o w (At a Event.Retry) (Again (w.node a)) refl (retry-chain o a k.place_inside w k.running
        (sorted a)) (λ i. i) refl
    go (At a (Event.Exiting p)) k =
        walked_by o w (At a (Event.Exiting p)) Aside refl (exit-chain o a k.place_inside w k.running p k.local)
        (λ i. i) refl
    go (At a Event.Leave) k = walked_leave o a w k
    go (Deliver f t) k = walked_delivery o f t w sorted wide k

pub event_walked : (o : Opening) (w : World) (e : WorldEvent) → Ordered w → WelcomeWidens o w → refusal o w e ≡ None
    → Walked o w e
event_walked o w e sorted wide h = (walked_in_order o w e sorted wide h).walk
