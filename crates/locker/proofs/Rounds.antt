-- What each function makes of a round, in the protocol's words.
use Rattle.std.proofs.Common.{ℕ, Bool, true, false, ◌==◌, ◌≡◌, ◌<◌, ◌-◌, Option, Some, None, List, length, get_or, set, map, refl, sym, ap, ◌∙◌, arith, All, inl, inr}
use Rattle.std.specs.Prelude.{not, is_some, ◌&&◌, ◌||◌, ◌⊎◌, if◌then◌else◌}
use Rattle.std.specs.List.{list_any}
use Rattle.std.proofs.Math.Path.{fun_ext}
use Rattle.std.proofs.Math.ListN.{replicate}
use Rattle.std.proofs.lemmas.List.{get_or-replicate}
use Rattle.registry_model.specs.Process.{at}
use Rattle.registry_model.proofs.Updates.{by_test}
use Rattle.protocol_model.specs.Round as protocol
use Rattle.protocol_model.specs.Round.{asked_too, mark_down, owes, opens, has_granted, is_owes, is_out, is_refused, is_gone}
use Rattle.term.specs.NodeSets.{IsNodeSet, set_of}
use Rattle.term.specs.declared.limits.TheConstants.{MOST_NODES}
use Rattle.boss_order.specs.Boss.{boss_of}
use Rattle.boss_order.proofs.Sets.{greatest-set_of, is_empty-within}
use Rattle.locker.specs.declared.mark.Mark.{Mark}
use Rattle.locker.specs.declared.mark.Mark.TheVariants.{Later, Owes, Granted, Lost, Gone}
use Rattle.locker.specs.RoundState.{RoundState, IsRound, as_mark, place, mark_at, seen, is_settled}
use Rattle.term.proofs.NodePlaces.{place-Some}
use Rattle.locker.proofs.Places.{set_of-place, place-boss}
use Rattle.locker.proofs.Marks.{asked-seen, mark_at-Some, mark_at-set, mark_at-asked_too}

-- a round whose marks are these
abbrev with_marks : protocol.Round → (ℕ → protocol.Mark) → protocol.Round
with_marks r f = record r { mark = f }

-- a new round
pub seen-begin : (nodes : List ℕ) → IsNodeSet nodes → 0 < length nodes → (n : ℕ) → All (λ c. c < n) nodes
    → seen (record { nodes = nodes; marks = set (replicate MOST_NODES Later) (length nodes - 1) Owes })
    ≡ protocol.begin n (set_of nodes)
seen-begin nodes is some n below =
    ap (λ (f : ℕ → protocol.Mark). record { boss = boss_of nodes; mark = f })
    (mark_at-set nodes (replicate MOST_NODES Later) (boss_of nodes) (length nodes - 1) Owes is.fits
    (place-boss nodes is some)
    ∙ fun_ext (by_test (boss_of nodes)
    (λ x b. (if b then protocol.Owes else mark_at (place x nodes) (replicate MOST_NODES Later))
    ≡ (if set_of nodes x then (if b then protocol.Owes else protocol.Later) else protocol.Out)) here there))
    ∙ ap by_boss (sym (greatest-set_of n nodes is.rising below))
  where
    by_boss : ℕ → protocol.Round
    by_boss b = record {
      boss = b;
      mark = λ c. if set_of nodes c then
          (if c == b then protocol.Owes else protocol.Later) else protocol.Out;
    }

    here : protocol.Owes ≡ (if set_of nodes (boss_of nodes) then protocol.Owes else protocol.Out)
    here = ap (λ (b : Bool). if b then protocol.Owes else protocol.Out)
        (sym (set_of-place (boss_of nodes) nodes ∙ ap is_some (place-boss nodes is some)))

    later : (x : ℕ) (p : Option ℕ) → place x nodes ≡ p
        → mark_at p (replicate MOST_NODES Later) ≡ (if is_some p then protocol.Later else protocol.Out)
    later x None e = refl
    later x (Some i) e = ap as_mark
        (get_or-replicate MOST_NODES i Later Gone (omega (arith, is.fits, (place-Some x nodes i e).0)))

    there : (x : ℕ) → (x ≡ boss_of nodes → ⊥) → mark_at (place x nodes) (replicate MOST_NODES Later)
        ≡ (if set_of nodes x then protocol.Later else protocol.Out)
    there x ne = later x (place x nodes) refl
        ∙ ap (λ (b : Bool). if b then protocol.Later else protocol.Out) (sym (set_of-place x nodes))

-- a node goes down
pub seen-down : (h : RoundState) → IsRound h → (c j : ℕ) (m : Mark) → place c h.nodes ≡ Some j
    → as_mark m ≡ mark_down (as_mark (get_or h.marks j Gone))
    → seen (record { nodes = h.nodes; marks = set h.marks j m }) ≡ protocol.down c (seen h)
seen-down h whole c j m e is =
    ap (with_marks (seen h))
    (mark_at-set h.nodes h.marks c j m (omega (arith, whole.set.fits, whole.room)) e
    ∙ ap (at (seen h).mark c) (is ∙ ap mark_down (sym (mark_at-Some (place c h.nodes) j h.marks e))))

-- the boss grants
pub seen-opened : (h : RoundState) → IsRound h → (c j : ℕ) (granted : Bool) (m : Mark) (marks : List Mark)
    → place c h.nodes ≡ Some j
    → opens c granted (seen h) ≡ true → length marks ≡ length h.marks
    → map as_mark marks ≡ map (λ m. asked_too (as_mark m)) h.marks
    → as_mark m ≡ (if granted then protocol.Granted else protocol.Refused)
    → seen (record { nodes = h.nodes; marks = set marks j m }) ≡ protocol.answer c granted (seen h)
seen-opened h whole c j granted m marks e opened long asked is =
    ap (with_marks (seen h))
    (mark_at-set h.nodes marks c j m (omega (arith, whole.set.fits, whole.room, long)) e
    ∙ ap (λ (f : ℕ → protocol.Mark). at f c (as_mark m))
    (fun_ext (λ x. mark_at-asked_too h.marks marks asked (place x h.nodes)))
    ∙ ap (at (λ x. asked_too ((seen h).mark x)) c) (is ∙ grants granted opened))
    ∙ ap (λ (b : Bool). if b then protocol.marked c protocol.Granted
    (record (seen h) { mark = λ x. asked_too ((seen h).mark x) })
    else (if owes (seen h) c then protocol.marked c (if granted then protocol.Granted else protocol.Refused)
    (seen h) else seen h))
    (sym opened)
  where
    grants : (g : Bool) → opens c g (seen h) ≡ true
        → (if g then protocol.Granted else protocol.Refused) ≡ protocol.Granted
    grants true o = refl
    grants false o = cc

-- another answer that is owed
pub seen-answered : (h : RoundState) → IsRound h → (c j : ℕ) (granted : Bool) (m : Mark) → place c h.nodes ≡ Some j
    → opens c granted (seen h) ≡ false → owes (seen h) c ≡ true
    → as_mark m ≡ (if granted then protocol.Granted else protocol.Refused)
    → seen (record { nodes = h.nodes; marks = set h.marks j m }) ≡ protocol.answer c granted (seen h)
seen-answered h whole c j granted m e opened owed is =
    ap (with_marks (seen h))
    (mark_at-set h.nodes h.marks c j m (omega (arith, whole.set.fits, whole.room)) e ∙ ap (at (seen h).mark c) is)
    ∙ choose (opens c granted (seen h)) (owes (seen h) c) opened owed
  where
    choose : (o w : Bool) → o ≡ false → w ≡ true
        → protocol.marked c (if granted then protocol.Granted else protocol.Refused) (seen h)
        ≡ (if o then protocol.marked c protocol.Granted (record (seen h) { mark = λ x. asked_too ((seen h).mark x) })
        else (if w then protocol.marked c (if granted then protocol.Granted else protocol.Refused)
        (seen h) else seen h))
    choose true w o owes = cc
    choose false true o owes = refl
    choose false false o owes = cc

-- an answer that isn't owed
pub seen-not_owed : (h : RoundState) (c : ℕ) (granted : Bool) → owes (seen h) c ≡ false
    → seen h ≡ protocol.answer c granted (seen h)
seen-not_owed h c granted owed = choose granted (c == boss_of h.nodes) (owes (seen h) c) owed
  where
    choose : (g b w : Bool) → w ≡ false → seen h
        ≡ (if g && b && w then protocol.marked c protocol.Granted
        (record (seen h) { mark = λ x. asked_too ((seen h).mark x) })
        else (if w then protocol.marked c (if granted then protocol.Granted else protocol.Refused)
        (seen h) else seen h))
    choose g b true e = cc
    choose true true false e = refl
    choose true false false e = refl
    choose false b false e = refl

-- the boss's mark, read as the program's
pub has_granted-boss : (h : RoundState) (m : Mark) → as_mark m ≡ (seen h).mark (boss_of h.nodes) → (m ≡ Granted) ⊎ (m ≡ Lost)
    → has_granted ((seen h).mark (boss_of h.nodes)) ≡ true
has_granted-boss h m is which = ap has_granted (sym is) ∙ elim which [
  | inl e ↦ ap (λ (m : Mark). has_granted (as_mark m)) e
  | inr e ↦ ap (λ (m : Mark). has_granted (as_mark m)) e
]

-- once the boss has granted, the rest are asked
pub asked_now-rest : (h : RoundState) → has_granted ((seen h).mark (boss_of h.nodes)) ≡ true
    → protocol.rest (seen h) ≡ protocol.asked_now (seen h)
asked_now-rest h granted = fun_ext (λ c. ap
    (λ (b : Bool). if b then protocol.rest (seen h) c else
    ((c == boss_of h.nodes) && is_owes ((seen h).mark (boss_of h.nodes))))
    (sym granted))

-- once the boss has granted, the round is over where nobody owes an answer
pub is_settled-granted : (h : RoundState) → has_granted ((seen h).mark (boss_of h.nodes)) ≡ true
    → not (list_any (owes (seen h)) h.nodes) ≡ is_settled h
is_settled-granted h granted = go ((seen h).mark (boss_of h.nodes)) granted (not (list_any (owes (seen h)) h.nodes))
  where
    go : (m : protocol.Mark) → has_granted m ≡ true → (b : Bool) → b ≡ (is_refused m || is_gone m || has_granted m && b)
    go protocol.Granted e b = refl
    go protocol.Lost e b = refl
    go _ e b = cc

-- a node that owes an answer is asked
owes-asked : (h : RoundState) (c : ℕ) → owes (seen h) c ≡ true → set_of h.nodes c ≡ true
owes-asked h c e = ap (λ (s : ℕ → Bool). s c) (asked-seen h) ∙ go ((seen h).mark c) e
  where
    go : (m : protocol.Mark) → is_owes m ≡ true → not (is_out m) ≡ true
    go protocol.Owes e = refl
    go _ e = cc

-- it is known how the round ends where it is over
pub is_over-is_settled : (h : RoundState) → IsRound h → (n : ℕ) → All (λ c. c < n) h.nodes
    → is_settled h ≡ protocol.is_over n (seen h)
is_over-is_settled h whole n below = ap
    (λ (b : Bool). is_refused ((seen h).mark (boss_of h.nodes)) || is_gone ((seen h).mark (boss_of h.nodes))
    || has_granted ((seen h).mark (boss_of h.nodes)) && b)
    (sym (is_empty-within n (owes (seen h)) h.nodes whole.set.rising below (owes-asked h)))
