-- The calls that an accepted event brings, and their numbers.
use Rattle.std.proofs.Common.{ℕ, Bool, true, false, ◌≡◌, ◌==◌, ◌+◌, List, [], ◌∷◌, ◌++◌, length, refl, sym, ap, ◌∙◌, subst, arith}
use Rattle.std.specs.Prelude.{◌&&◌, if◌then◌else◌}
use Rattle.std.specs.List.{list_all}
use Rattle.std.proofs.lemmas.List.{append-nil}
use Rattle.std.proofs.lemmas.Bool.{eq-eqb, ne_eqb}
use Rattle.protocol_model.specs.Letter.{Letter}
use Rattle.protocol_model.specs.Node.{Node}
use Rattle.protocol_model.specs.Event.{Call, Event}
use Rattle.protocol_model.specs.Fit.{Numbered, is_numbered, numbered, calls_in, number_from}
use Rattle.protocol_model.specs.World.{Opening, World, WorldEvent, At, Deliver, place}
use Rattle.protocol_model.specs.Course.{played}
use Rattle.join_gates.proofs.Rules
use Rattle.registry_model.proofs.Updates.{by_test}
use Rattle.fitting.proofs.Working.{accepted_by}
use Rattle.fitting.proofs.Numbers.{takes_number, accepted_along, quiet_along, quiet_last, last_call_by}

-- the rule that a call begins with
abbrev pub rule_of_call : Call → Rules.Rule
rule_of_call Call.Spawn = Rules.Spawns
rule_of_call (Call.LookUp look) = Rules.LooksUp look
rule_of_call (Call.OnName c) = Rules.CallsName c
rule_of_call (Call.SetLock p r q target retries) = Rules.CallsLock
rule_of_call (Call.DelLock p r q target) = Rules.CallsLock
rule_of_call (Call.JoinBy m) = Rules.CallsJoin m

pub first_by_call-is : (o : Opening) (a : ℕ) (c : Call) → Rules.first_by_call o a c ≡ rule_of_call c ∷ []
first_by_call-is o a Call.Spawn = refl
first_by_call-is o a (Call.LookUp look) = refl
first_by_call-is o a (Call.OnName c) = refl
first_by_call-is o a (Call.SetLock p r q target retries) = refl
first_by_call-is o a (Call.DelLock p r q target) = refl
first_by_call-is o a (Call.JoinBy m) = refl

call_number : (c : Call) → takes_number (rule_of_call c) ≡ is_numbered c
call_number Call.Spawn = refl
call_number (Call.LookUp look) = refl
call_number (Call.OnName c) = refl
call_number (Call.SetLock p r q target retries) = refl
call_number (Call.DelLock p r q target) = refl
call_number (Call.JoinBy m) = refl

call_accepted : (c : Call) (v : Node) → accepted_by (rule_of_call c) v ≡ numbered (v.last_call + 1) c
call_accepted Call.Spawn v = refl
call_accepted (Call.LookUp look) v = refl
call_accepted (Call.OnName c) v = refl
call_accepted (Call.SetLock p r q target retries) v = refl
call_accepted (Call.DelLock p r q target) v = refl
call_accepted (Call.JoinBy m) v = refl

numbered_one : (k : ℕ) (c : Call) → number_from k (if is_numbered c then c ∷ [] else []) ≡ numbered k c
numbered_one k Call.Spawn = refl
numbered_one k (Call.LookUp look) = refl
numbered_one k (Call.OnName c) = refl
numbered_one k (Call.SetLock p r q target retries) = refl
numbered_one k (Call.DelLock p r q target) = refl
numbered_one k (Call.JoinBy m) = refl

-- what the chain of a walked event accepts
abbrev pub chain : (o : Opening) (w : World) (e : WorldEvent) → Rules.Walked o w e → List Rules.Rule
chain o w e W = Rules.first_by o (place e) w e ++ W.rest

-- what node b accepts by an event, and its last number then
abbrev pub AcceptsBy : (o : Opening) (w : World) (e : WorldEvent) → List Rules.Rule → ℕ → Type 0
AcceptsBy o w e rs b =
    ((if b == place e then accepted_along o (place e) rs w else [])
    ≡ number_from ((w.node b).last_call + 1) (calls_in b (played o w e)))
    × (((Rules.effects o (place e) rs w).node b).last_call
    ≡ (w.node b).last_call + length (calls_in b (played o w e)))

-- an event that is no call
accepts_none : (o : Opening) (w : World) (e : WorldEvent) (rs : List Rules.Rule) (b : ℕ)
    → calls_in b (played o w e) ≡ []
    → accepted_along o (place e) rs w ≡ [] → ((Rules.effects o (place e) rs w).node b).last_call
    ≡ (w.node b).last_call → AcceptsBy o w e rs b
accepts_none o w e rs b none quiet last = (
  ap (λ (l : List Numbered). if b == place e then l else []) quiet ∙ go (b == place e)
      ∙ ap (number_from ((w.node b).last_call + 1)) (sym none),
  last ∙ omega arith ∙ ap (λ (l : List Call). (w.node b).last_call + length l) (sym none),
)
  where
    empty : List Numbered
    empty = []

    go : (t : Bool) → (if t then empty else []) ≡ empty
    go true = refl
    go false = refl

-- a rule that takes no number, before quiet ones
first_quiet : (o : Opening) (w : World) (e : WorldEvent) (r : Rules.Rule) (rest : List Rules.Rule) (b : ℕ)
    → calls_in b (played o w e) ≡ []
    → takes_number r ≡ false → accepted_by r (w.node (place e)) ≡ [] → list_all Rules.is_quiet rest ≡ true
    → AcceptsBy o w e (r ∷ rest) b
first_quiet o w e r rest b none takes accepts quiet = accepts_none o w e (r ∷ rest) b none
    (ap (λ (l : List Numbered). l ++ accepted_along o (place e) rest (Rules.effect o (place e) r w)) accepts
    ∙ quiet_along o (place e) rest (Rules.effect o (place e) r w) quiet)
    (quiet_last o (place e) rest (Rules.effect o (place e) r w) quiet b ∙ last_call_by o (place e) w r b
    ∙ ap (λ (t : Bool). if b == place e then (if t then (w.node b).last_call + 1 else (w.node b).last_call) else
    (w.node b).last_call) takes ∙ go (b == place e))
  where
    go : (t : Bool) → (if t then (w.node b).last_call else (w.node b).last_call) ≡ (w.node b).last_call
    go true = refl
    go false = refl

none_quiet : (o : Opening) (w : World) (e : WorldEvent) (rest : List Rules.Rule) (b : ℕ)
    → calls_in b (played o w e) ≡ []
    → list_all Rules.is_quiet rest ≡ true → AcceptsBy o w e rest b
none_quiet o w e rest b none quiet = accepts_none o w e rest b none (quiet_along o (place e) rest w quiet)
    (quiet_last o (place e) rest w quiet b)

letter_accepts : (o : Opening) (w : World) (f t : ℕ) (ls : List Letter) (rest : List Rules.Rule) (b : ℕ)
    → list_all Rules.is_quiet rest ≡ true
    → AcceptsBy o w (Deliver f t) (Rules.first_by_letter o t f ls ++ rest) b
letter_accepts o w f t (Letter.Down ∷ ls) rest b quiet =
    first_quiet o w (Deliver f t) (Rules.IsTold f) rest b refl refl refl quiet
letter_accepts o w f t [] rest b quiet = none_quiet o w (Deliver f t) rest b refl quiet
letter_accepts o w f t (_ ∷ ls) rest b quiet = none_quiet o w (Deliver f t) rest b refl quiet

call_accepts : (o : Opening) (w : World) (a : ℕ) (c : Call) (rest : List Rules.Rule) (b : ℕ)
    → list_all Rules.is_quiet rest ≡ true
    → AcceptsBy o w (At a (Event.Calling c)) (rule_of_call c ∷ rest) b
call_accepts o w a c rest b quiet = (calls, last)
  where
    along : accepted_along o a (rule_of_call c ∷ rest) w ≡ numbered ((w.node a).last_call + 1) c
    along = ap (λ (l : List Numbered). accepted_by (rule_of_call c) (w.node a) ++ l)
        (quiet_along o a rest (Rules.effect o a (rule_of_call c) w) quiet)
        ∙ append-nil (accepted_by (rule_of_call c) (w.node a)) ∙ call_accepted c (w.node a)

    calls : (if b == a then accepted_along o a (rule_of_call c ∷ rest) w else [])
        ≡ number_from ((w.node b).last_call + 1) (calls_in b (played o w (At a (Event.Calling c))))
    calls = ap (λ (l : List Numbered). if b == a then l else []) along
        ∙ by_test a (λ x t. (if t then numbered ((w.node a).last_call + 1) c else [])
        ≡ number_from ((w.node x).last_call + 1) (if (a == x) && is_numbered c then c ∷ [] else []))
        (sym (ap (λ (t : Bool). number_from ((w.node a).last_call + 1) (if t && is_numbered c then c ∷ [] else []))
        (eq-eqb a a refl) ∙ numbered_one ((w.node a).last_call + 1) c))
        (λ x ne. sym (ap (λ (t : Bool). number_from ((w.node x).last_call + 1)
        (if t && is_numbered c then c ∷ [] else [])) (ne_eqb a x (λ e. ne (sym e))))) b

    counts : (t : Bool) (k : ℕ) → (if t then k + 1 else k) ≡ k + length (if t then c ∷ [] else [])
    counts true k = refl
    counts false k = omega arith

    last : ((Rules.effects o a (rule_of_call c ∷ rest) w).node b).last_call
        ≡ (w.node b).last_call + length (calls_in b (played o w (At a (Event.Calling c))))
    last = quiet_last o a rest (Rules.effect o a (rule_of_call c) w) quiet b ∙ last_call_by o a w (rule_of_call c) b
        ∙ ap (λ (s : Bool). if b == a then (if s then (w.node b).last_call + 1 else (w.node b).last_call) else
        (w.node b).last_call) (call_number c)
        ∙ by_test a (λ x t. (if t then (if is_numbered c then (w.node x).last_call + 1 else
        (w.node x).last_call) else (w.node x).last_call)
        ≡ (w.node x).last_call + length (if (a == x) && is_numbered c then c ∷ [] else []))
        (counts (is_numbered c) (w.node a).last_call ∙ sym
        (ap (λ (t : Bool). (w.node a).last_call + length (if t && is_numbered c then c ∷ [] else []))
        (eq-eqb a a refl)))
        (λ x ne. counts false (w.node x).last_call ∙ sym
        (ap (λ (t : Bool). (w.node x).last_call + length (if t && is_numbered c then c ∷ [] else []))
        (ne_eqb a x (λ e. ne (sym e))))) b

-- what a walked event accepts, and the numbers behind it
pub event_accepts : (o : Opening) (w : World) (e : WorldEvent) (W : Rules.Walked o w e) (b : ℕ)
    → AcceptsBy o w e (chain o w e W) b
event_accepts o w (Deliver f t) W b = letter_accepts o w f t (w.links.queue f t) W.rest b W.quiet
event_accepts o w (At a (Event.Calling c)) W b =
    subst (λ (rs : List Rules.Rule). AcceptsBy o w (At a (Event.Calling c)) (rs ++ W.rest) b)
    (sym (first_by_call-is o a c)) (call_accepts o w a c W.rest b W.quiet)
event_accepts o w (At a Event.Retry) W b = none_quiet o w (At a Event.Retry) W.rest b refl W.quiet
event_accepts o w (At a (Event.Exiting p)) W b =
    first_quiet o w (At a (Event.Exiting p)) (Rules.Exits p) W.rest b refl refl refl W.quiet
event_accepts o w (At a Event.Leave) W b = first_quiet o w
    (At a Event.Leave) Rules.Leaves W.rest b refl refl refl W.quiet
