-- No line has seven words.
use Rattle.std.proofs.Common.{List, ℕ, [], ◌∷◌, ◌<◌, ◌≤◌, ◌⊎◌, arith, length, map, refl, take, Result, Err, inl, inr}
use denote.Bor.{Bor}
use Rattle.term.specs.declared.limits.TheConstants.{MOST_WORDS}
use Rattle.command_lines.specs.declared.faults.LineFault.{LineFault}
use Rattle.command_lines.specs.declared.faults.LineFault.TheVariants.{BadLine}
use Rattle.command_lines.specs.Grammar.{ScriptLine, WordsAsk, WordsNameNodes}

-- so more than seven ask for what the first seven do
pub first_words_ask : (words : List (List ℕ)) (r : Result ScriptLine LineFault) → WordsAsk (take MOST_WORDS words) r → WordsAsk words r
first_words_ask [] r h = h
first_words_ask (a ∷ []) r h = h
first_words_ask (a ∷ b ∷ []) r h = h
first_words_ask (a ∷ b ∷ c ∷ []) r h = h
first_words_ask (a ∷ b ∷ c ∷ d ∷ []) r h = h
first_words_ask (a ∷ b ∷ c ∷ d ∷ e ∷ []) r h = h
first_words_ask (a ∷ b ∷ c ∷ d ∷ e ∷ f ∷ []) r h = h
first_words_ask (a ∷ b ∷ c ∷ d ∷ e ∷ f ∷ g ∷ words) r h = h

-- no words ask for nothing, nor do seven or more
pub outside : (words : List (Bor (List ℕ))) → (length words < 1) ⊎ (7 ≤ length words)
    → WordsAsk (map (λ w. w.now) words) (Err BadLine)
outside [] h = refl
outside (a ∷ []) h = absurd (elim h [ inl l ↦ omega (arith, l) | inr l ↦ omega (arith, l) ])
outside (a ∷ b ∷ []) h = absurd (elim h [ inl l ↦ omega (arith, l) | inr l ↦ omega (arith, l) ])
outside (a ∷ b ∷ c ∷ []) h = absurd (elim h [ inl l ↦ omega (arith, l) | inr l ↦ omega (arith, l) ])
outside (a ∷ b ∷ c ∷ d ∷ []) h = absurd (elim h [ inl l ↦ omega (arith, l) | inr l ↦ omega (arith, l) ])
outside (a ∷ b ∷ c ∷ d ∷ e ∷ []) h = absurd (elim h [ inl l ↦ omega (arith, l) | inr l ↦ omega (arith, l) ])
outside (a ∷ b ∷ c ∷ d ∷ e ∷ f ∷ []) h = absurd (elim h [ inl l ↦ omega (arith, l) | inr l ↦ omega (arith, l) ])
outside (a ∷ b ∷ c ∷ d ∷ e ∷ f ∷ g ∷ words) h = refl

-- and name nodes where those do
pub first_words_named : (words : List (List ℕ)) → WordsNameNodes (take MOST_WORDS words) → WordsNameNodes words
first_words_named words n = record {
  holder = n.holder;
  resource = n.resource;
  requester = n.requester;
  names = n.names;
  asks = elim n.asks [
    | inl h ↦ inl (first_words_ask words _ h)
    | inr h ↦ inr (h.0, first_words_ask words _ h.1)
  ];
}
