-- What lines of lock calls ask for.
use Rattle.std.proofs.Common.{ℕ, Bool, true, false, ◌≡◌, ◌||◌, List, [], ◌∷◌, codes, bytes_eq, Result, Ok, Err, refl, subst, inl, inr}
use Rattle.std.proofs.lemmas.Slice.Eq.{bytes_eq-Decides}
use Rattle.protocol_model.specs.Event.{Calling}
use Rattle.protocol_model.specs.NamedEvents.{Play, AtNode}
use Rattle.command_lines.specs.declared.faults.LineFault.{LineFault}
use Rattle.command_lines.specs.Grammar.{ScriptLine as Line, Scripted, WordsAsk}
use Rattle.console.specs.Commands.{is_lock_word}

-- it is a call at some node
abbrev pub is_call : Line → Bool
is_call (Scripted (Play (AtNode n (Calling call)))) = true
is_call _ = false

-- the line, not refused
abbrev asked : Line → Result Line LineFault
asked l = Ok l

-- what is asked is no refusal
differ : (l : Line) (f : LineFault) → asked l ≡ Err f → ⊥
differ l f e = cc

-- and one thing
same : (l m : Line) → asked l ≡ asked m → is_call m ≡ true → is_call l ≡ true
same l m e is = cc

-- `set_lock` asks for a call, if for anything: where it has five texts
set_calls : (texts : List (List ℕ)) (l : Line) → WordsAsk (codes "set_lock" ∷ texts) (Ok l) → is_call l ≡ true
set_calls [] l h = absurd (differ l _ h)
set_calls (a ∷ []) l h = absurd (differ l _ h)
set_calls (a ∷ b ∷ []) l h = absurd (differ l _ h)
set_calls (a ∷ b ∷ c ∷ []) l h = absurd (differ l _ h)
set_calls (a ∷ b ∷ c ∷ d ∷ []) l h = absurd (differ l _ h)
set_calls (a ∷ b ∷ c ∷ d ∷ e ∷ []) l h = elim h [
  | inl asks ↦ elim asks.1 [
    | inl s ↦ same l _ s.2.2.2.2.2 refl
    | inr f ↦ absurd (differ l _ f.2)
  ]
  | inr bad ↦ absurd (differ l _ bad.1)
]
set_calls (a ∷ b ∷ c ∷ d ∷ e ∷ f ∷ texts) l h = absurd (differ l _ h)

-- so does `del_lock`, where it has four
del_calls : (texts : List (List ℕ)) (l : Line) → WordsAsk (codes "del_lock" ∷ texts) (Ok l) → is_call l ≡ true
del_calls [] l h = absurd (differ l _ h)
del_calls (a ∷ []) l h = absurd (differ l _ h)
del_calls (a ∷ b ∷ []) l h = absurd (differ l _ h)
del_calls (a ∷ b ∷ c ∷ []) l h = absurd (differ l _ h)
del_calls (a ∷ b ∷ c ∷ d ∷ []) l h = elim h [
  | inl asks ↦ elim asks.1 [
    | inl s ↦ same l _ s.2.2.2.2 refl
    | inr f ↦ absurd (differ l _ f.2)
  ]
  | inr bad ↦ absurd (differ l _ bad.1)
]
del_calls (a ∷ b ∷ c ∷ d ∷ e ∷ []) l h = absurd (differ l _ h)
del_calls (a ∷ b ∷ c ∷ d ∷ e ∷ f ∷ texts) l h = absurd (differ l _ h)

-- a line of a lock call that isn't refused asks for a call
pub lock_calls_call : (word : List ℕ) (texts : List (List ℕ)) (l : Line) → is_lock_word word ≡ true → WordsAsk (word ∷ texts) (Ok l)
    → is_call l ≡ true
lock_calls_call word texts l is asks = go (bytes_eq word (codes "set_lock")) (bytes_eq word (codes "del_lock")) refl refl is
  where
    asked_by_word : (w : List ℕ) → word ≡ w → WordsAsk (w ∷ texts) (Ok l)
    asked_by_word w e = subst (λ (v : List ℕ). WordsAsk (v ∷ texts) (Ok l)) e asks

    go : (s d : Bool) → bytes_eq word (codes "set_lock") ≡ s → bytes_eq word (codes "del_lock") ≡ d → (s || d) ≡ true
        → is_call l ≡ true
    go true d set del t = set_calls texts l (asked_by_word (codes "set_lock") ((bytes_eq-Decides word (codes "set_lock")).0 set))
    go false true set del t = del_calls texts l (asked_by_word (codes "del_lock") ((bytes_eq-Decides word (codes "del_lock")).0 del))
    go false false set del t = absurd cc
