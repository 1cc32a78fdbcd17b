-- First lines that were read and answered apart.
use Rattle.std.proofs.Common.{ℕ, ◌≡◌, ◌++◌, List, [], Option, Some, None, Result, Ok, Err, append-nil, refl, sym, ap, subst, ◌∙◌, inl, inr}
use Rattle.std.specs.Prelude.{IfOk, MatchOption}
use Rattle.std.specs.Io.KnownBytes.{Appends, Keeps}
use Rattle.text_lines.specs.Writing.{AppendsPart}
use Rattle.text_lines.specs.declared.faults.StreamFault.TheVariants.{Write}
use Rattle.console.specs.declared.faults.GreetFault.{GreetFault}
use Rattle.console.specs.declared.faults.GreetFault.TheVariants.{TooManyConsoles}
use Rattle.console.specs.Greetings.{Greets, LineAttaches, ReadsFirst, ShowsFirst, greeting_text}
use Rattle.server.specs.Visits.{IsHeard, IsLetIn, IsSentAway, IsTurnedAway, IsUnheard, IsWelcomed}

-- bytes that stay, and then grow
grown : (a b c : Option (List ℕ)) (text : List ℕ) → Keeps a b → Appends b c text → Appends a c text
grown None b c text kept grew = tt
grown (Some xs) None c text kept grew = absurd kept
grown (Some xs) (Some ys) None text kept grew = absurd grew
grown (Some xs) (Some ys) (Some zs) text kept grew = grew ∙ ap (λ (l : List ℕ). l ++ text) kept

-- or grow by a part
grown_partly : (a b c : Option (List ℕ)) (text : List ℕ) → Keeps a b → AppendsPart b c text → AppendsPart a c text
grown_partly a b c text kept grew = (grew.0, grew.1, grew.2, grown a b c grew.0 kept grew.3)

-- all of a text is a part of it
whole : (a b : Option (List ℕ)) (text : List ℕ) → Appends a b text → AppendsPart a b text
whole a b text grew = (text, [], sym (append-nil text), grew)

differ : (answer : Result ℕ GreetFault) (node : ℕ) (fault : GreetFault) → answer ≡ Ok node → answer ≡ Err fault → ⊥
differ answer node fault is isnt = cc

-- who wasn't heard is turned away
pub unheard : (cookie : Option (List ℕ)) (nodes : List ℕ) (input rest old new : Option (List ℕ)) → IsUnheard input rest old new
    → IsTurnedAway cookie nodes input rest old new
unheard cookie nodes input rest old new none = elim none [
  | inl nothing ↦ inr (inl (inr nothing))
  | inr stopped ↦ inr (inr (stopped.0, inl stopped.1))
]

module _ (cookie : Option (List ℕ)) (nodes : List ℕ) (input rest old kept new : Option (List ℕ)) where
  -- a console whose line was answered `ok` is attached
  pub let_in : (found : Result ℕ GreetFault) (node : ℕ) → ReadsFirst cookie nodes input rest old kept found
      → IsWelcomed found kept new node → Greets cookie nodes input rest old new (Some node)
  let_in found node reads welcomed = inl (record {
    line = reads.line;
    answer = Ok node;
    read = reads.read;
    attaches = subst (λ (r : Result ℕ GreetFault). LineAttaches cookie nodes reads.line r) welcomed.0 reads.attaches;
    found_is = refl;
    wrote = grown old kept new _ reads.kept welcomed.1;
  })

  -- a part of an answer was written
  cut : (found : Result ℕ GreetFault) → ReadsFirst cookie nodes input rest old kept found
      → AppendsPart kept new (greeting_text found) → IsTurnedAway cookie nodes input rest old new
  cut found reads part = inr (inr (
    Write,
    inr (record {
      line = reads.line;
      answer = found;
      read = reads.read;
      attaches = reads.attaches;
      wrote = grown_partly old kept new _ reads.kept part;
      fault_is = inl refl;
    }),
  ))

  -- one for which there was no place
  unplaced : (node : ℕ) → ReadsFirst cookie nodes input rest old kept (Ok node)
      → AppendsPart kept new (greeting_text (Err TooManyConsoles)) → IsTurnedAway cookie nodes input rest old new
  unplaced node reads part = inl (record {
    line = reads.line;
    node = node;
    read = reads.read;
    attaches = reads.attaches;
    wrote = grown_partly old kept new _ reads.kept part;
  })

  -- one that is refused
  refused : (fault : GreetFault) → ReadsFirst cookie nodes input rest old kept (Err fault)
      → Appends kept new (greeting_text (Err fault)) → IsTurnedAway cookie nodes input rest old new
  refused fault reads all = inr (inl (inl (record {
    line = reads.line;
    answer = Err fault;
    read = reads.read;
    attaches = reads.attaches;
    found_is = refl;
    wrote = grown old kept new _ reads.kept all;
  })))

  -- a console whose line was answered otherwise, or not whole, isn't
  pub sent_away : (found : Result ℕ GreetFault) → ReadsFirst cookie nodes input rest old kept found
      → IsSentAway found kept new → IsTurnedAway cookie nodes input rest old new
  sent_away (Ok node) reads sent = elim sent.1 [
    | inl same ↦ elim sent.2 [
      | inl all ↦ absurd (differ sent.0 node all.0 same all.1)
      | inr part ↦ cut (Ok node) reads (subst (λ (r : Result ℕ GreetFault). AppendsPart kept new (greeting_text r)) same part)
    ]
    | inr full ↦ unplaced node reads (subst (λ (r : Result ℕ GreetFault). AppendsPart kept new (greeting_text r)) full (elim sent.2 [
      | inl all ↦ whole kept new (greeting_text sent.0) all.2
      | inr part ↦ part
    ]))
  ]
  sent_away (Err fault) reads sent = elim sent.2 [
    | inl all ↦ refused fault reads (subst (λ (r : Result ℕ GreetFault). Appends kept new (greeting_text r)) sent.1 all.2)
    | inr part ↦ cut (Err fault) reads (subst (λ (r : Result ℕ GreetFault). AppendsPart kept new (greeting_text r)) sent.1 part)
  ]

  -- so whoever was heard is one or the other
  pub answered : (found : Result ℕ GreetFault) (r : Option ℕ) → IsHeard cookie nodes input rest old kept found
      → MatchOption r (IsSentAway found kept new) (IsWelcomed found kept new)
      → MatchOption r (IsTurnedAway cookie nodes input rest old new) (IsLetIn cookie nodes input rest old new)
  answered found None heard sent = sent_away found heard.0 sent
  answered found (Some node) heard welcomed = record {
    greeted = let_in found node heard.0 welcomed;
    shown = subst (λ (r : Result ℕ GreetFault). IfOk r (λ _. ShowsFirst cookie input rest)) welcomed.0 heard.1;
  }
