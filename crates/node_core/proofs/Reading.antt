-- The rules of letters and calls, one by one.
use Rattle.std.proofs.Common.{ℕ, Bool, true, false, ◌≡◌, List, refl, sym, ap, ◌∙◌, subst}
use Rattle.std.specs.Prelude.{not, ◌||◌, if◌then◌else◌, Result, Ok, Err, OnOk, OnErr}
use Rattle.registry_model.specs.Process.{Process, is_process}
use Rattle.protocol_model.specs.Node.{call_of}
use Rattle.protocol_model.specs.Turn.{Turn}
use Rattle.protocol_model.specs.Client.{hear_lock}
use Rattle.protocol_model.specs.Registrar.{registrar}
use Rattle.protocol_model.specs.Deciding.{hear_answer}
use Rattle.protocol_model.specs.Reading.{hear, read, receive}
use Rattle.node_events.specs.declared.events.Letter.{Letter}
use Rattle.node_events.specs.declared.events.Letter.TheVariants.{Down}
use Rattle.node_events.specs.declared.events.Event.{Event}
use Rattle.node_events.specs.declared.events.Event.TheVariants.{FromPeer}
use Rattle.node_events.specs.Made.{Made}
use Rattle.node_core.specs.CoreState.{CoreState, bound_of}
use Rattle.node_events.specs.Letters.{letter_of}
use Rattle.node_core.specs.Seen.{turn_of}
use Rattle.node_events.specs.Seen.{unnumbered}
use Rattle.transaction.specs.Work.{begins_with_join}
use Rattle.node_core.specs.Rare.{is_admission, moves_names, is_rare}
use Rattle.node_core.specs.Steps.{Makes, Takes, IsAsBefore, IsOther, IsSaidBy}

-- an answer goes to the round of its holder: p is who it is for, and q the registrar
module _ (h k : CoreState) (t u : Made) (f : ℕ) (p q : Process) (g : Bool) (is : q ≡ registrar h.name)
    (number : ℕ → ℕ) where
  -- one of the two rounds hears it
  abbrev heard_by : Bool → Turn
  heard_by b = if b
      then hear_answer (bound_of h.world) h.name number f g (turn_of h t).node.current (turn_of h t)
      else hear_lock (bound_of h.world) h.name f g (call_of p (turn_of h t).node.calls) (turn_of h t)

  -- which of them it is
  heard_is : (b : Bool) → not b ≡ not (is_process p q)
      → heard_by b ≡ hear (bound_of h.world) h.name number f p g (turn_of h t)
  heard_is b e = ap heard_by (same b (is_process p q) e ∙ ap (is_process p) is)
    where
      same : (c d : Bool) → not c ≡ not d → c ≡ d
      same true true e = refl
      same false false e = refl
      same true false e = cc
      same false true e = cc

  -- the registrar's
  pub hears_own : false ≡ not (is_process p q) → Makes (λ n a w. hear_answer n a number f g w.node.current w) h t k u
      → Makes (λ n a. hear n a number f p g) h t k u
  hears_own own m = record { name = m.name; world = m.world; turn = m.turn ∙ heard_is true own }

  -- that of the process's call
  pub hears_other : true ≡ not (is_process p q)
      → Makes (λ n a w. hear_lock n a f g (call_of p w.node.calls) w) h t k u
      → Makes (λ n a. hear n a number f p g) h t k u
  hears_other other m = record { name = m.name; world = m.world; turn = m.turn ∙ heard_is false other }

-- what is read is this letter
pub reads : (h k : CoreState) (t u : Made) (f : ℕ) (l m : Letter) → l ≡ m → (number : ℕ → ℕ)
    → Makes (λ n a. read n a number f (letter_of m)) h t k u → Makes (λ n a. read n a number f (letter_of l)) h t k u
reads h k t u f l m is number made = subst (λ (x : Letter). Makes (λ n a. read n a number f (letter_of x)) h t k u)
    (sym is) made

-- the sender of a letter that says so has left
pub said_down : (world : List ℕ) (a f : ℕ) (l : Letter) → l ≡ Down → IsSaidBy world a f l → IsOther world a f
said_down world a f l is said = subst (λ (m : Letter). IsSaidBy world a f m) is said

-- a letter's event is taken
pub takes_letter : {A E : Type 0} (result : Result A E) (e : Event) (f : ℕ) (l : Letter) (h k : CoreState) (t u : Made)
    → e ≡ FromPeer f l
    → (IsSaidBy h.world h.name f l → OnOk result (Makes (λ n a. receive n a unnumbered f (letter_of l)) h t k u))
    → OnOk result (Takes e h t k u)
takes_letter (Ok x) e f l h k t u is each = subst (λ (y : Event). Takes y h t k u) (sym is) each
takes_letter (Err x) e f l h k t u is each = tt

-- where a letter moves no names and no join is at the front, the node is as before
pub unchanged_by_letter : {A E : Type 0} (result : Result A E) (e : Event) (f : ℕ) (l : Letter) (h k : CoreState)
    → e ≡ FromPeer f l
    → OnErr result (moves_names (is_admission h.registrar.current) l ≡ false
    → begins_with_join h.registrar.queue ≡ false → IsAsBefore h k)
    → OnErr result (is_rare e h ≡ false → IsAsBefore h k)
unchanged_by_letter (Ok x) e f l h k is same = tt
unchanged_by_letter (Err x) e f l h k is same = λ common.
    let both = apart (moves_names (is_admission h.registrar.current) l) (begins_with_join h.registrar.queue)
    (ap (λ (y : Event). is_rare y h) (sym is) ∙ common) in
    same both.0 both.1
  where
    apart : (a b : Bool) → (a || b) ≡ false → (a ≡ false) × (b ≡ false)
    apart false b e = (refl, e)
    apart true b e = absurd (cc e)
