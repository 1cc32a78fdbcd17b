-- Letters by which clients' processes ask for locks, and who sends them.
use Rattle.std.proofs.Common.{ℕ, Bool, true, false, ◌==◌, ◌≡◌, Option, List, [], ◌∷◌, ◌++◌, refl, sym, ap, ◌∙◌, subst, inl, inr}
use Rattle.std.specs.Prelude.{not, ◌||◌, if◌then◌else◌}
use Rattle.std.specs.List.{list_any, list_all}
use Rattle.std.proofs.lemmas.Bool.{cases_eq}
use Rattle.std.proofs.lemmas.List.Folds.{list_any-append}
use Rattle.registry_model.specs.Process.{Process}
use Rattle.protocol_model.specs.Letter.{Id, Letter}
use Rattle.protocol_model.specs.LockTable.{is_free_for, grant}
use Rattle.protocol_model.specs.Turn.{begun, send, sent_to, with_locks}
use Rattle.protocol_model.specs.World.{Opening, World}
use Rattle.headline.proofs.Indices.{both, neither, not_true}
use Rattle.headline.proofs.SendTests.{all_pass, pass_sent, pass_more}
use Rattle.headline.proofs.Rules
use Rattle.headline.proofs.Rules.{Rule, Taken, FrontTaken}
use Rattle.headline.proofs.Base.{popped_queue, letters_from, taken_first, popped-other}
use Rattle.leftovers.proofs.Requests.{is_apart, sends_apart}

-- a client's process asks for a grant
abbrev pub is_take : Letter → Bool
is_take (Letter.SetLock id p) = not (p.serial == 0)
is_take _ = false

abbrev pub has_take : List Letter → Bool
has_take ls = list_any is_take ls

pub take_append : (xs ys : List Letter) → has_take xs ≡ false → has_take ys ≡ false → has_take (xs ++ ys) ≡ false
take_append xs ys h k = list_any-append is_take xs ys ∙ ap (λ (b : Bool). b || has_take ys) h ∙ k

pub take_rest : (xs ys : List Letter) → has_take (xs ++ ys) ≡ false → has_take ys ≡ false
take_rest xs ys h = (neither (has_take xs) (has_take ys) (sym (list_any-append is_take xs ys) ∙ h)).1

-- the letter is none such
abbrev pub is_calm : Letter → Bool
is_calm l = not (is_take l)

pub calm_none : (ls : List Letter) → list_all is_calm ls ≡ true → has_take ls ≡ false
calm_none [] h = refl
calm_none (l ∷ ls) h =
    let parts : (is_calm l ≡ true) × (list_all is_calm ls ≡ true) = both (is_calm l) (list_all is_calm ls) h in
    ap (λ (b : Bool). b || has_take ls) (not_true (is_take l) parts.0) ∙ calm_none ls parts.1

apart_calm : (l : Letter) → is_apart l ≡ true → is_calm l ≡ true
apart_calm (Letter.SetLock id p) h = rw h refl
apart_calm _ h = refl

-- the rules by which a lock call asks
abbrev pub is_asking : Rule → Bool
is_asking (Rules.AsksLock c) = true
is_asking (Rules.HearsLock f id granted c r) = true
is_asking _ = false

module _ (o : Opening) (a : ℕ) (w : World) where
  -- no other rule sends such a letter
  pub calm_turn : (r : Rule) → is_asking r ≡ false → (x : ℕ) → has_take (sent_to x (Rules.turn_by o a w r).sends) ≡ false
  calm_turn r h x = calm_none (sent_to x (Rules.turn_by o a w r).sends)
      (pass_sent is_calm x (Rules.turn_by o a w r).sends (calm r h))
    where
      judged : (f : ℕ) (id : Id) (p : Process) (t : Bool) → all_pass is_calm (send f (Letter.LockAnswer id p t)
          (if t then with_locks (grant id p) (begun (w.node a)) else begun (w.node a))).sends ≡ true
      judged f id p true = refl
      judged f id p false = refl

      calm : (s : Rule) → is_asking s ≡ false → all_pass is_calm (Rules.turn_by o a w s).sends ≡ true
      calm (Rules.AsksLock c) i = cc
      calm (Rules.HearsLock f id granted c q) i = cc
      calm (Rules.Judges f id p) i = judged f id p (is_free_for id p (w.node a).locks)
      calm s i = pass_more is_apart is_calm apart_calm (Rules.turn_by o a w s).sends (sends_apart o a w s refl)

-- what is left of a link where a letter is taken
pub take_popped : (o : Opening) (a : ℕ) (w : World) (t : Option Taken) → FrontTaken o a w t → (x c : ℕ)
    → has_take (w.links.queue x c) ≡ false → has_take (popped_queue a t w.links.queue x c) ≡ false
take_popped o a w t front x c h = elim (cases_eq c a) [
  | inl e ↦ subst (λ (y : ℕ). has_take (popped_queue a t w.links.queue x y) ≡ false) (sym e)
      (take_rest (letters_from t x) (popped_queue a t w.links.queue x a)
      (sym (ap has_take (taken_first o a w t front x)) ∙ ap (λ (y : ℕ). has_take (w.links.queue x y)) (sym e) ∙ h))
  | inr ne ↦ ap has_take (popped-other a t w.links.queue x c ne) ∙ h
]
