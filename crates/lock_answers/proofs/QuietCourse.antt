-- One lock call alone in a quiet world: along all deliveries behind it there is no answer but its own, and it is open until then.
use mathlib.Core.Logic.{◌⊎◌}
use Rattle.std.proofs.Common.{ℕ, Bool, true, false, ◌≡◌, ◌<◌, ◌+◌, ◌-◌, Option, Some, None, List, [], ◌∷◌, refl, sym, ap, ◌∙◌, subst, inl, inr}
use Rattle.std.specs.Prelude.{is_none, Contains, if◌then◌else◌}
use Rattle.std.specs.List.{list_all}
use Rattle.std.proofs.Math.Bool.{and-false}
use Rattle.std.proofs.lemmas.List.Elements.{Contains-append_left, Contains-append_right, Contains-append_cases}
use Rattle.registry_model.specs.Process.{Process, Nodes}
use Rattle.registry_model.proofs.Lists.{Contains-nil}
use Rattle.protocol_model.specs.Letter.{Id, Letter}
use Rattle.protocol_model.specs.Round.{Round}
use Rattle.protocol_model.specs.Node.{Node, LockCall, call_of}
use Rattle.protocol_model.specs.Event.{Answer, Refusal}
use Rattle.protocol_model.specs.Turn.{Turn}
use Rattle.protocol_model.specs.ClientLocks.{gives}
use Rattle.protocol_model.specs.Fit.{is_delivery}
use Rattle.protocol_model.specs.World.{Opening, World, WorldEvent, At, Deliver, place, turn_of, refusal, accepted, happens, answers, all_answers, run}
use Rattle.moves.proofs.Indices.{both}
use Rattle.moves.proofs.Rules.{Taken}
use Rattle.leftovers.proofs.Base.{after_turn}
use Rattle.leftovers.proofs.RoundNumbers
use Rattle.leftovers.proofs.RoundNumbers.{round_count_after, is_won_by_round, is_tried}
use Rattle.leftovers.proofs.Clients.{Numbers, lives, call_at, part_same, node_here}
use Rattle.leftovers.proofs.Walking.{event_keeps}
use Rattle.leftovers.proofs.HeadlineClients.{grounds}
use Rattle.leftovers.proofs.Together.{All}
use Rattle.leftovers.proofs.Started.{AllStarted}
use Rattle.lock_answers.proofs.QuietBase.{due_answer, Near, Asking, Says, Nothing, GoesOn, Ends, Step, near_after}
use Rattle.lock_answers.proofs.QuietEvents.{Unchanged, Phase, Open, Over, Alone, not_gone, delivery_step}

module _ (o : Opening) (w : World) (started : AllStarted w) (p : Process) (id : Id) (k : ℕ) (whom : Nodes)
    (below : (x : ℕ) → whom x ≡ true → x < o.bound) (living : lives o w p ≡ true) where
  abbrev IsAlone : World → Bool → Type 0
  IsAlone v b = Alone o w started p id k whom below living v b

  -- what an event makes of a world with an open call, or without
  pub data Moved (v : World) (b : Bool) (e : WorldEvent) : Type 0 where
    Still : (c : Bool) → (b ≡ true → c ≡ true) → IsAlone (happens o v e) c → answers o v e ≡ [] → Moved v b e
    Answered : IsAlone (happens o v e) false → answers o v e ≡ due_answer o w p id k whom → Moved v b e

  -- an accepted event, whose turn is u
  module _ (v : World) (b : Bool) (A : IsAlone v b) (e : WorldEvent) (h : refusal o v e ≡ None)
      (silent : (x : ℕ) → gives v e p id x ≡ false) (l : Option Taken) (u : Turn) (is_u : turn_of o v e ≡ u)
      (so : accepted o v e ≡ after_turn (place e) v (turn_of o v e) l)
      (S : Step o w p id k whom (Unchanged o w started p id k whom below living A.num) v (place e) u) where
    abbrev pub next : World
    next = after_turn (place e) v u l

    abbrev pub num2 : Numbers
    num2 q i x = round_count_after o v e q i x (A.num q i x)

    now : happens o v e ≡ next
    now = ap (λ (r : Option Refusal). if is_none r then accepted o v e else v) h ∙ so
        ∙ ap (λ (x : Turn). after_turn (place e) v x l) is_u

    pub given : answers o v e ≡ u.answers
    given = ap (λ (r : Option Refusal). if is_none r then (turn_of o v e).answers else []) h
        ∙ ap (λ (x : Turn). x.answers) is_u

    near : Near o w p id k whom (happens o v e)
    near = subst (Near o w p id k whom) (sym now)
        (near_after o w p id k whom (Unchanged o w started p id k whom below living A.num) v (place e) u l A.near S)

    pub alone : (c : Bool) → Phase o w started p id k whom below living next num2 c → IsAlone (happens o v e) c
    alone c ph = record {
      num = num2;
      known = event_keeps o (All o) (grounds o) v e A.num A.known;
      near = near;
      phase = subst (λ (x : World). Phase o w started p id k whom below living x num2 c) (sym now) ph;
    }

    -- where nothing is answered p's numbers stay
    same_numbers : answers o v e ≡ [] → Unchanged o w started p id k whom below living A.num
        → Unchanged o w started p id k whom below living num2
    same_numbers none U x up = ap (λ (r : Option Refusal). if is_none r
        then RoundNumbers.next_round_count o v e p id x (A.num p id x) else A.num p id x) h
        ∙ ap (λ (c : Bool). if c then 0 else (if is_won_by_round id x (answers o v e) (call_at v p)
        then A.num p id x + 1 else (if gives v e p id x then A.num p id x - 1 else A.num p id x)))
        (not_gone o w started p id k whom below living (happens o v e) near)
        ∙ ap (λ (c : Bool). if c then A.num p id x + 1
        else (if gives v e p id x then A.num p id x - 1 else A.num p id x))
        (ap (λ (ss : List Answer). is_won_by_round id x ss (call_at v p)) none ∙ no_win (call_at v p))
        ∙ ap (λ (c : Bool). if c then A.num p id x - 1 else A.num p id x) (silent x) ∙ U x up
      where
        no_win : (c : Option LockCall) → is_won_by_round id x [] c ≡ false
        no_win None = refl
        no_win (Some c) = and-false (is_tried id x c)

    call_here : place e ≡ p.node → call_at next p ≡ call_of p u.node.calls
    call_here home = ap (λ (n : Node). call_of p n.calls) (node_here v (place e) u p.node (sym home))

    pub goes_on : Unchanged o w started p id k whom below living A.num → (c : LockCall) (r : Round) → place e ≡ p.node
        → call_of p u.node.calls ≡ Some c → Asking o w p id k whom c r → u.answers ≡ [] → IsAlone (happens o v e) true
    goes_on U c r home found Q none = alone true
        (Open c r (call_here home ∙ found) Q (same_numbers (given ∙ none) U))

    pub ends : place e ≡ p.node → call_of p u.node.calls ≡ None → IsAlone (happens o v e) false
    ends home found = alone false (Over (call_here home ∙ found))

    -- what it makes of the call
    pub moved : Moved v b e
    moved = by S.says
      where
        stays : u.node.calls ≡ (v.node (place e)).calls → call_at next p ≡ call_at v p
        stays same = part_same (λ n. call_of p n.calls) v (place e) u (ap (call_of p) same) p.node

        phase_on : u.node.calls ≡ (v.node (place e)).calls → answers o v e ≡ [] → (c : Bool)
            → Phase o w started p id k whom below living v A.num c
            → Phase o w started p id k whom below living next num2 c
        phase_on same none true (Open c r found Q U) = Open c r (stays same ∙ found) Q (same_numbers none U)
        phase_on same none false (Over found) = Over (stays same ∙ found)

        by : Says o w p id k whom (Unchanged o w started p id k whom below living A.num) (v.node (place e)).calls
            (place e) u → Moved v b e
        by (Nothing same none) = Still b (λ q. q) (alone b (phase_on same (given ∙ none) b A.phase)) (given ∙ none)
        by (GoesOn U c r home found Q none) = Still true (λ q. refl) (goes_on U c r home found Q none) (given ∙ none)
        by (Ends home found told) = Answered (ends home found) (given ∙ told)

  -- a delivery, accepted or not
  delivered : (v : World) (b : Bool) → IsAlone v b → (e : WorldEvent) → is_delivery e ≡ true → Moved v b e
  delivered v b A (At a e) d = cc d
  delivered v b A (Deliver f t) d = go (refusal o v (Deliver f t)) refl
    where
      go : (r : Option Refusal) → refusal o v (Deliver f t) ≡ r → Moved v b (Deliver f t)
      go (Some r) h = Still b (λ q. q)
          (subst (λ (x : World). IsAlone x b)
          (sym (ap (λ (q : Option Refusal). if is_none q then accepted o v (Deliver f t) else v) h)) A)
          (ap (λ (q : Option Refusal). if is_none q then (turn_of o v (Deliver f t)).answers else []) h)
      go None h = moved v b A (Deliver f t) h (λ x. refl) (Some (record { sender = f; letter = Letter.Down }))
          (turn_of o v (Deliver f t)) refl refl
          (delivery_step o w started p id k whom below living v b A f t h)

  -- all answers are the call's
  pub all_said : (ds : List WorldEvent) (v : World) (b : Bool) → IsAlone v b → list_all is_delivery ds ≡ true
      → (s : Answer) → Contains (all_answers o v ds) s → Contains (due_answer o w p id k whom) s
  all_said [] v b A d s c = absurd (Contains-nil s c)
  all_said (e ∷ ds) v b A d s c =
      let parts : (is_delivery e ≡ true) × (list_all is_delivery ds ≡ true) = both (is_delivery e)
      (list_all is_delivery ds) d in
      by (λ c2 A2 more. all_said ds (happens o v e) c2 A2 parts.1 s more) (delivered v b A e parts.0)
      (Contains-append_cases (answers o v e) (all_answers o (happens o v e) ds) s c)
    where
      by : ((c2 : Bool) → IsAlone (happens o v e) c2 → Contains (all_answers o (happens o v e) ds) s
          → Contains (due_answer o w p id k whom) s) → Moved v b e
          → Contains (answers o v e) s ⊎ Contains (all_answers o (happens o v e) ds) s
          → Contains (due_answer o w p id k whom) s
      by rest (Still c2 q A2 none) (inl here) =
          absurd (Contains-nil s (subst (λ (ss : List Answer). Contains ss s) none here))
      by rest (Still c2 q A2 none) (inr more) = rest c2 A2 more
      by rest (Answered A2 told) (inl here) = subst (λ (ss : List Answer). Contains ss s) told here
      by rest (Answered A2 told) (inr more) = rest false A2 more

  -- and the call is open until it is answered
  pub open_until : (ds : List WorldEvent) (v : World) → IsAlone v true → list_all is_delivery ds ≡ true → (s : Answer)
      → Contains (due_answer o w p id k whom) s → Contains (all_answers o v ds) s ⊎ IsAlone (run o v ds) true
  open_until [] v A d s c = inr A
  open_until (e ∷ ds) v A d s c =
      let parts : (is_delivery e ≡ true) × (list_all is_delivery ds ≡ true) = both (is_delivery e)
      (list_all is_delivery ds) d in
      by (λ A2. open_until ds (happens o v e) A2 parts.1 s c) (delivered v true A e parts.0)
    where
      later : Contains (all_answers o (happens o v e) ds) s ⊎ IsAlone (run o (happens o v e) ds) true
          → Contains (all_answers o v (e ∷ ds)) s ⊎ IsAlone (run o v (e ∷ ds)) true
      later (inl x) = inl (Contains-append_right (answers o v e) (all_answers o (happens o v e) ds) s x)
      later (inr x) = inr x

      by : (IsAlone (happens o v e) true
          → Contains (all_answers o (happens o v e) ds) s ⊎ IsAlone (run o (happens o v e) ds) true)
          → Moved v true e → Contains (all_answers o v (e ∷ ds)) s ⊎ IsAlone (run o v (e ∷ ds)) true
      by rest (Still b q A2 none) = later (rest (subst (λ (x : Bool). IsAlone (happens o v e) x) (q refl) A2))
      by rest (Answered A2 told) = inl (Contains-append_left (answers o v e) (all_answers o (happens o v e) ds) s
          (subst (λ (ss : List Answer). Contains ss s) (sym told) c))
