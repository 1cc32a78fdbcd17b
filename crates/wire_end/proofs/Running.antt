-- Programs whose letters go as lines have one run.
use Rattle.std.proofs.Common.{ℕ, Bool, true, false, ◌≡◌, ◌⊎◌, ◌<◌, inl, inr, List, [], ◌∷◌, ◌++◌, map, refl, sym, ap, subst, ◌∙◌, append-nil, append_assoc, arith}
use Rattle.std.specs.List.{AllByRecursion}
use Rattle.std.proofs.lemmas.List.{map-append}
use Rattle.protocol_model.specs.World.{Opening, in_world}
use Rattle.closings.proofs.Playing.{consistent_ends_have_a_run}
use Rattle.closings.specs.Merging.{events_in}
use Rattle.lock_answers.proofs.ClientLocks.{client_locks}
use Rattle.lock_answers.proofs.Nothing.{nothing_is_left}
use Rattle.lock_answers.proofs.Theorem.{agreement}
use Rattle.node_loop.specs.Seen.{seen_entry}
use Rattle.node_loop.specs.Alone.{Stamped as StampedLetter}
use Rattle.node_loop.specs.Guarded.{Begins}
use Rattle.node_loop.specs.Dealings.{letters_in, took, put}
use Rattle.node_loop.specs.declared.item.Item.TheVariants.{Letter}
use Rattle.node_loop.specs.declared.item.Stamped.{Stamped}
use Rattle.node_loop.proofs.Consistency.{threads_are_consistent}
use Rattle.wire_end.specs.declared.wire_end.Wiring.{Wiring}
use Rattle.wire_end.specs.Dealings.{of_node, dealt_of}
use Rattle.wire_end.specs.Hearing.{gone}
use Rattle.wire_end.specs.Order.{seen, spelled_by, came_of, SpellsBefore, is_replaced, InOrder, KeepsOwn}
use Rattle.wire_end.specs.Wirings.{link_with}
use Rattle.wire_end.proofs.Ordering.{each, spells-before}
use Rattle.wire_end.specs.Runs.{AreLinked, EndsHaveARun}
use Rattle.wire_end.proofs.Spelling.{link_spelled, begins_spelled}

-- letters that were dealt in, as the protocol has them
pub as_seen : (ls : List Stamped) → letters_in (map Letter ls) ≡ map seen ls
as_seen [] = refl
as_seen (l ∷ ls) = ap (λ (xs : List StampedLetter). seen l ∷ xs) (as_seen ls)

-- the stamps of steps
abbrev AreOfSteps : List StampedLetter → Type 0
AreOfSteps ls = AllByRecursion (λ (l : StampedLetter). 0 < l.stamp) ls

pub stamps_seen : (ls : List Stamped) → AllByRecursion (λ (l : Stamped). 0 < l.stamp) ls → AreOfSteps (map seen ls)
stamps_seen [] h = tt
stamps_seen (l ∷ ls) h = (h.0, stamps_seen ls h.1)

-- letters with stamps of steps, where what they begin ends with the word that a node is gone
before_word : (some rest letters : List StampedLetter) → AreOfSteps some → some ++ rest ≡ letters ++ seen gone ∷ [] → Begins some letters
before_word [] rest letters are e = (letters, refl)
before_word (x ∷ some) rest [] are e =
    let same : x ≡ seen gone = cc e in
    absurd (omega (arith, are.0, ap (λ (l : StampedLetter). l.stamp) same))
before_word (x ∷ some) rest (y ∷ letters) are e =
    let same : x ≡ y = cc e in
    let tails : some ++ rest ≡ letters ++ seen gone ∷ [] = cc e in
    let more = before_word some rest letters are.1 tails in
    (more.0, ap (λ (l : StampedLetter). l ∷ letters) (sym same) ∙ ap (λ (ls : List StampedLetter). x ∷ ls) more.1)

pub before_last : (some rest letters last : List StampedLetter) → (last ≡ []) ⊎ (last ≡ seen gone ∷ []) → AreOfSteps some
    → some ++ rest ≡ letters ++ last → Begins some letters
before_last some rest letters last (inl none) are e =
    (rest, sym (append-nil letters) ∙ (ap (λ (ls : List StampedLetter). letters ++ ls) (sym none) ∙ sym e))
before_last some rest letters last (inr word) are e =
    before_word some rest letters are (e ∙ ap (λ (ls : List StampedLetter). letters ++ ls) word)

pub begins_then : (some more whole : List StampedLetter) → Begins some more → Begins more whole → Begins some whole
begins_then some more whole a b =
    (a.0 ++ b.0, b.1 ∙ (ap (λ (ls : List StampedLetter). ls ++ b.0) a.1 ∙ append_assoc some a.0 b.0))

-- the lines of each other node spell what came of it, whether it was replaced or not
pub all_spelled : (out : List ℕ) (s : Wiring) → InOrder out s → (f : ℕ) → (f ≡ s.node → ⊥) → SpellsBefore (of_node f s.read) (came_of f s)
all_spelled out s h f other = go (is_replaced f s.wires) refl
  where
    go : (b : Bool) → is_replaced f s.wires ≡ b → SpellsBefore (of_node f s.read) (came_of f s)
    go true e = h.before f other e
    go false e = spells-before (link_with f s.wires) (of_node f s.read) (came_of f s) (h.read f other e)

-- what a node took of its own letters begins them
pub own_begins : (s : Wiring) → KeepsOwn s → Begins (map seen (of_node s.node s.taken)) (map seen (of_node s.node s.sent))
own_begins s h = (
  map seen s.own,
  ap (λ (ls : List Stamped). map seen ls) (sym h.sent) ∙ map-append seen (of_node s.node s.taken) s.own,
)

module _ (o : Opening) (printed : ℕ → List ℕ) (ends : ℕ → Wiring) (linked : AreLinked o printed ends) where
  -- what a node took of another begins what that sent it
  other_begins : (f t : ℕ) → in_world o f ≡ true → in_world o t ≡ true → (f ≡ t → ⊥)
      → Begins (map seen (of_node f (ends t).taken)) (map seen (of_node t (ends f).sent))
  other_begins f t here there ne =
      let began = linked.read f t here there ne in
      let spells = all_spelled (printed t) (ends t) (linked.order t there) f (λ same. ne (same ∙ linked.nodes t there)) in
      let apart : (t ≡ (ends f).node → ⊥) = λ same. ne (sym (same ∙ linked.nodes f here)) in
      let whole = link_spelled (ends f).node t [] (ends f).sent [] apart ((linked.order f here).letters t apart) in
      begins_then (map seen (of_node f (ends t).taken)) spells.letters (map seen (of_node t (ends f).sent))
      (before_last (map seen (of_node f (ends t).taken)) (map seen (of_node f (ends t).heard)) spells.letters spells.last spells.word
      (stamps_seen (of_node f (ends t).taken) (linked.stamped f t there ne))
      (sym (map-append seen (of_node f (ends t).taken) (of_node f (ends t).heard)) ∙ spells.came_is))
      (begins_spelled (of_node f (ends t).read) began.0 spells.items _ spells.letters (map seen (of_node t (ends f).sent)) spells.spelled
      (ap spelled_by (sym began.1) ∙ whole))

  all_begin : (f t : ℕ) → in_world o f ≡ true → in_world o t ≡ true
      → Begins (map seen (of_node f (ends t).taken)) (map seen (of_node t (ends f).sent))
  all_begin f t here there =
      each t
      (λ x. in_world o x ≡ true → Begins (map seen (of_node x (ends t).taken)) (map seen (of_node t (ends x).sent)))
      (λ at. subst (λ (n : ℕ). Begins (map seen (of_node n (ends t).taken)) (map seen (of_node n (ends t).sent))) (linked.nodes t there)
      (own_begins (ends t) (linked.own t there)))
      (λ x ne at. other_begins x t at there ne) f here

  pub took_begins : (f t : ℕ) → in_world o f ≡ true → in_world o t ≡ true → Begins (took (dealt_of (ends t)) f) (put (dealt_of (ends f)) t)
  took_begins f t here there =
      let began = all_begin f t here there in (
        began.0,
        as_seen (of_node t (ends f).sent)
            ∙ (began.1 ∙ ap (λ (ls : List StampedLetter). ls ++ began.0) (sym (as_seen (of_node f (ends t).taken)))),
      )

pub ends_have_a_run : EndsHaveARun
ends_have_a_run o logs tables printed ends tell linked =
    let run = consistent_ends_have_a_run o (λ a. map seen_entry (logs a).entries) tables
    (threads_are_consistent o logs tables (λ a. dealt_of (ends a)) tell (took_begins o printed ends linked)) in
    record {
      run = run;
      agrees = agreement o (events_in run.steps);
      locks = client_locks o (events_in run.steps);
      nothing_is_left = nothing_is_left o (events_in run.steps);
    }
