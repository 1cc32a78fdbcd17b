-- A log whose entries are put among the steps of other nodes.
use Rattle.std.proofs.Common.{ℕ, zero, suc, ◌≡◌, ◌+◌, ◌<◌, List, [], ◌∷◌, length, refl, sym, ap, subst, ◌∙◌, arith}
use Rattle.closings.specs.Alone.{LogEntry}
use Rattle.closings.specs.Merging.{Step, steps_of, IsInOrder, Rises}
use Rattle.closings.proofs.Inserting.{insert, Leads, in_order, one_more, own_first, others_same, AreAbove, leads}

-- the step of node a with this entry
abbrev pub step : ℕ → LogEntry → Step
step a e = record { node = a; entry = e }

-- the steps, with these entries of node a
abbrev pub enter : ℕ → List LogEntry → List Step → List Step
enter a [] ss = ss
enter a (e ∷ es) ss = insert (step a e) (enter a es ss)

-- each of these entries has a stamp below all that are behind it
abbrev pub AreRising : List LogEntry → Type 0
AreRising [] = Unit {0}
AreRising (e ∷ es) = AreAbove e.stamp es × AreRising es

-- other nodes have what they had
pub enter_others : (c a : ℕ) (es : List LogEntry) (ss : List Step) → (a ≡ c → ⊥) → steps_of c (enter a es ss) ≡ steps_of c ss
enter_others c a [] ss ne = refl
enter_others c a (e ∷ es) ss ne = others_same c (step a e) (enter a es ss) ne ∙ enter_others c a es ss ne

-- an entry leads those of its node that have stamps above its own
entry_leads : (a : ℕ) (e : LogEntry) (es : List LogEntry) (ss : List Step) → steps_of a ss ≡ es → AreAbove e.stamp es → Leads (step a e) ss
entry_leads a e es ss is h = leads (step a e) ss (subst (AreAbove e.stamp) (sym is) h)

module _ (a : ℕ) (ss : List Step) (none : steps_of a ss ≡ []) where
  -- node a, which had none, has these entries
  pub enter_own : (es : List LogEntry) → AreRising es → steps_of a (enter a es ss) ≡ es
  enter_own [] r = none
  enter_own (e ∷ es) r =
      let rest : steps_of a (enter a es ss) ≡ es = enter_own es r.1 in
      own_first (step a e) (enter a es ss) (entry_leads a e es (enter a es ss) rest r.0) ∙ ap (λ (xs : List LogEntry). e ∷ xs) rest

  -- and all are in order
  pub enter_order : (es : List LogEntry) → AreRising es → IsInOrder ss → IsInOrder (enter a es ss)
  enter_order [] r h = h
  enter_order (e ∷ es) r h = in_order (step a e) (enter a es ss)
      (entry_leads a e es (enter a es ss) (enter_own es r.1) r.0) (enter_order es r.1 h)

-- there are as many more as there are entries
pub enter_count : (a : ℕ) (es : List LogEntry) (ss : List Step) → length (enter a es ss) ≡ length ss + length es
enter_count a [] ss = none (length ss)
  where
    none : (n : ℕ) → n ≡ n + 0
    none n = omega arith
enter_count a (e ∷ es) ss =
    one_more (step a e) (enter a es ss) ∙ ap suc (enter_count a es ss) ∙ more (length ss) (length es)
  where
    more : (m n : ℕ) → suc (m + n) ≡ m + suc n
    more m n = omega arith

-- what is above a greater stamp is above a lesser one
pub above_lesser : (m n : ℕ) (es : List LogEntry) → m < n → AreAbove n es → AreAbove m es
above_lesser m n [] l h = tt
above_lesser m n (e ∷ es) l h = (omega (arith, l, h.0), above_lesser m n es l h.1)

-- where the stamps rise from one entry to the next, they rise above all that came before
pub rising : (es : List LogEntry) → ((k : ℕ) → Rises es k) → AreRising es
rising [] h = tt
rising (e ∷ []) h = (tt, tt)
rising (d ∷ e ∷ es) h =
    let l : d.stamp < e.stamp = h 1 d e refl refl in
    let rest : AreRising (e ∷ es) = rising (e ∷ es) (behind h) in
    ((l, above_lesser d.stamp e.stamp es l rest.0), rest)
  where
    behind : ((k : ℕ) → Rises (d ∷ e ∷ es) k) → (k : ℕ) → Rises (e ∷ es) k
    behind h zero = tt
    behind h (suc k) = h (suc (suc k))
