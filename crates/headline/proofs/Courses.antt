-- Courses of events: their histories, and what holds of each step or of the last one.
use Rattle.std.proofs.Common.{◌≡◌, List, [], ◌∷◌, ◌++◌, refl, sym, subst, ap, ◌∙◌}
use Rattle.std.proofs.lemmas.List.{append-nil, append_assoc}
use Rattle.registry_model.specs.History.{Entry}
use Rattle.protocol_model.specs.World.{Opening, World, WorldEvent, At, Deliver, accepted, turn_of}
use Rattle.protocol_model.specs.Event.{Event}
use Rattle.protocol_model.specs.Course.{Played, played, entries_of}

-- the history of a course with one event more
pub entries_of-append : (ps qs : List Played) → entries_of (ps ++ qs) ≡ entries_of ps ++ entries_of qs
entries_of-append [] qs = refl
entries_of-append (p ∷ ps) qs = ap (λ (es : List Entry). p.entries ++ es) (entries_of-append ps qs)
    ∙ sym (append_assoc p.entries (entries_of ps) (entries_of qs))

pub entries_of-push : (ps : List Played) (p : Played) → entries_of (ps ++ p ∷ []) ≡ entries_of ps ++ p.entries
entries_of-push ps p = entries_of-append ps (p ∷ [])
    ∙ ap (λ (es : List Entry). entries_of ps ++ es) (append-nil p.entries)

-- an accepted event adds its entries to the history of the world
history-accepted : (o : Opening) (w : World) (e : WorldEvent)
    → (accepted o w e).history ≡ w.history ++ (turn_of o w e).entries
history-accepted o w (Deliver f t) = refl
history-accepted o w (At a Event.Leave) = refl
history-accepted o w (At a (Event.Calling c)) = refl
history-accepted o w (At a Event.Retry) = refl
history-accepted o w (At a (Event.Exiting p)) = refl

-- so the history stays that of the events
pub history_push : (o : Opening) (ps : List Played) (w : World) (e : WorldEvent) → w.history ≡ entries_of ps
    → (accepted o w e).history ≡ entries_of (ps ++ played o w e ∷ [])
history_push o ps w e same = history-accepted o w e ∙ ap (λ (h : List Entry). h ++ (turn_of o w e).entries) same
    ∙ sym (entries_of-push ps (played o w e))

-- where lists that end in one item are one, so are the items and what stands before them
pub last_split : {A : Type 0} (xs ys : List A) (x y : A) → xs ++ x ∷ [] ≡ ys ++ y ∷ [] → (xs ≡ ys) × (x ≡ y)
last_split {A} [] [] x y e = (refl, cc)
last_split {A} [] (z ∷ []) x y e = cc
last_split {A} [] (z ∷ u ∷ ys) x y e = cc
last_split {A} (z ∷ []) [] x y e = cc
last_split {A} (z ∷ u ∷ xs) [] x y e = cc
last_split {A} (u ∷ xs) (v ∷ ys) x y e =
    let tail : xs ++ x ∷ [] ≡ ys ++ y ∷ [] = cc in
    let head : u ≡ v = cc in
    let more : (xs ≡ ys) × (x ≡ y) = last_split xs ys x y tail in
    (ap (λ (z : A). z ∷ xs) head ∙ ap (λ (zs : List A). v ∷ zs) more.0, more.1)

-- what holds of the last step
pub last_step : (P : List Played → Played → Type 0) (ps : List Played) (p : Played) → P ps p
    → (before : List Played) (q : Played) → ps ++ p ∷ [] ≡ before ++ q ∷ [] → P before q
last_step P ps p one before q e =
    let same : (ps ≡ before) × (p ≡ q) = last_split ps before p q e in
    subst (λ (r : Played). P before r) same.1 (subst (λ (qs : List Played). P qs p) same.0 one)

-- there is none yet
pub no_last_step : {X : Type 0} (before : List Played) (q : Played) → [] ≡ before ++ q ∷ [] → X
no_last_step [] q e = cc
no_last_step (p ∷ before) q e = cc
