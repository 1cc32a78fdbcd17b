-- What the words of a line say, by its first seven.
use Rattle.std.proofs.Common.{ℕ, Bool, true, false, ◌≡◌, List, [], ◌∷◌, take, Option, Some, None, MatchOption, Result, Ok, Err, ◌&&◌, refl, sym, subst, ap, ◌∙◌, inl, inr}
use Rattle.term.specs.declared.limits.TheConstants.{MOST_WORDS}
use Rattle.command_lines.specs.declared.faults.LineFault.{LineFault}
use Rattle.text_lines.specs.Words.{words as words_in}
use Rattle.console.specs.Commands.{AsksFor, AsksForSome, AsksServer, Inquires, inquires, SaysBy, SaysOf, TextSays, WordsSay, behind_word, describes, is_lock_word, meant, meant_by, names_with, second}
use Rattle.console.specs.declared.orders.Order.{Order}
use Rattle.console.specs.declared.orders.Command.{Command}
use Rattle.console.specs.declared.orders.Inquiry.{Inquiry}
use Rattle.console.specs.declared.orders.Command.TheVariants.{Ask, SpawnLink, Quit, Shutdown, Status, Fence, Help, NamesFrom, Inquire}

module _ (a b c d e f g h : List ℕ) (words : List (List ℕ)) where
  -- no line has seven words
  ask_more : (locks : Bool) (r : Result Order LineFault) → AsksFor locks a (b ∷ c ∷ d ∷ e ∷ f ∷ g ∷ []) r
      → AsksFor locks a (b ∷ c ∷ d ∷ e ∷ f ∷ g ∷ h ∷ words) r
  ask_more true r asks = asks
  ask_more false r asks = asks

  -- seven words aren't two
  not_two : (text : List ℕ) → a ∷ b ∷ c ∷ d ∷ e ∷ f ∷ g ∷ [] ≡ names_with text → ⊥
  not_two text is = cc

  none_chosen : (stays : Bool) (r : Result Command LineFault) → AsksForSome stays (a ∷ b ∷ c ∷ d ∷ e ∷ f ∷ g ∷ []) r → ⊥
  none_chosen stays r asks = not_two asks.0 asks.1.1

  -- so more than seven say what the first seven do
  say_more : (stays : Bool) (r : Result Command LineFault) → WordsSay stays (a ∷ b ∷ c ∷ d ∷ e ∷ f ∷ g ∷ []) r
      → WordsSay stays (a ∷ b ∷ c ∷ d ∷ e ∷ f ∷ g ∷ h ∷ words) r
  say_more stays (Ok Quit) says = cc
  say_more stays (Ok Shutdown) says = (says.0, cc)
  say_more stays (Ok SpawnLink) says = cc
  say_more stays (Ok Status) says = (says.0, cc)
  say_more stays (Ok Fence) says = (says.0, cc)
  say_more stays (Ok Help) says = (says.0, cc)
  say_more stays (Ok (NamesFrom prefix)) says = absurd (none_chosen stays (Ok (NamesFrom prefix)) says)
  say_more stays (Ok (Inquire inquiry)) says = absurd says.1
  say_more stays (Ok (Ask order)) says =
      ((λ is. cc, λ _ is. cc, λ is. cc, λ _ is. cc, λ _ is. cc, λ _ is. cc, λ _ _ is. cc, λ _. refl), ask_more (is_lock_word a) (Ok order) says.1)
  say_more stays (Err fault) says = elim says [
    | inl asks ↦ inl ((λ is. cc, λ _ is. cc, λ is. cc, λ _ is. cc, λ _ is. cc, λ _ is. cc, λ _ _ is. cc, λ _. refl), ask_more (is_lock_word a) (Err fault) asks.1)
    | inr (inl asks) ↦ absurd (none_chosen stays (Err fault) asks)
    | inr (inr asks) ↦ absurd asks.1
  ]

-- as they are meant
pub first_words_say : (stays : Bool) (own : Option (List ℕ)) (words : List (List ℕ)) (r : Result Command LineFault)
    → WordsSay stays (meant own (take MOST_WORDS words)) r → WordsSay stays (meant own words) r
first_words_say stays own [] r says = says
first_words_say stays own (a ∷ []) r says = says
first_words_say stays own (a ∷ b ∷ []) r says = says
first_words_say stays own (a ∷ b ∷ c ∷ []) r says = says
first_words_say stays own (a ∷ b ∷ c ∷ d ∷ []) r says = says
first_words_say stays own (a ∷ b ∷ c ∷ d ∷ e ∷ []) r says = says
first_words_say stays own (a ∷ b ∷ c ∷ d ∷ e ∷ f ∷ []) r says = says
first_words_say stays own (a ∷ b ∷ c ∷ d ∷ e ∷ f ∷ g ∷ []) r says = says
first_words_say stays own (a ∷ b ∷ c ∷ d ∷ e ∷ f ∷ g ∷ h ∷ words) r says = say_more a _ _ d e f g h words stays r says

-- whether words say something of a process, and of which, shows in the first seven
describes_first : (words : List (List ℕ)) → describes (take MOST_WORDS words) ≡ describes words
describes_first [] = refl
describes_first (a ∷ []) = refl
describes_first (a ∷ b ∷ []) = refl
describes_first (a ∷ b ∷ c ∷ words) = refl

second_first : (words : List (List ℕ)) → second (take MOST_WORDS words) ≡ second words
second_first [] = refl
second_first (a ∷ []) = refl
second_first (a ∷ b ∷ words) = refl

-- a line says what it is read as that says something of a process
pub text_describes : (stays : Bool) (own : Option (List ℕ)) (line : List ℕ) (first : List (List ℕ)) (process meaning said : List ℕ)
    (r : Result Command LineFault) → first ≡ take MOST_WORDS (words_in line) → (stays && describes first) ≡ true → process ≡ second first
    → meaning ≡ meant_by own true process → said ≡ behind_word (behind_word line) → SaysOf meaning said r → TextSays stays own line r
text_describes stays own line first process meaning said r is so at means behind says =
    subst (λ (b : Bool). SaysBy b stays own line r) (sym all)
    (subst (λ (m : List ℕ). SaysOf m (behind_word (behind_word line)) r) meant_so
    (subst (λ (t : List ℕ). SaysOf meaning t r) behind says))
  where
    all : (stays && describes (words_in line)) ≡ true
    all = ap (λ (b : Bool). stays && b) (sym (ap describes is ∙ describes_first (words_in line))) ∙ so

    meant_so : meaning ≡ meant_by own true (second (words_in line))
    meant_so = means ∙ ap (meant_by own true) (at ∙ ap second is ∙ second_first (words_in line))

-- and so does one that says nothing of one
pub text_says : (stays : Bool) (own : Option (List ℕ)) (line : List ℕ) (first : List (List ℕ)) (r : Result Command LineFault)
    → first ≡ take MOST_WORDS (words_in line) → (stays && describes first) ≡ false → WordsSay stays (meant own (words_in line)) r
    → TextSays stays own line r
text_says stays own line first r is so says = subst (λ (b : Bool). SaysBy b stays own line r) (sym all) says
  where
    all : (stays && describes (words_in line)) ≡ false
    all = ap (λ (b : Bool). stays && b) (sym (ap describes is ∙ describes_first (words_in line))) ∙ so

-- words ask what a server knows only in a console of one that stays
pub asked_where_it_stays : (stays : Bool) (ws : List (List ℕ)) (r : Option (Result Inquiry LineFault)) → stays ≡ true
    → MatchOption r (inquires ws ≡ false) (Inquires ws) → MatchOption r (stays ≡ true → inquires ws ≡ false) (AsksServer stays ws)
asked_where_it_stays stays ws None is asks = λ _. asks
asked_where_it_stays stays ws (Some inquiry) is asks = (is, asks)
