-- Each step on the shared table keeps its rule.
use Rattle.std.proofs.Common.{◌≡◌, ◌≢◌, ℕ, zero, suc, List, [], ◌∷◌, ◌++◌, Option, Some, None, set, sym, refl, ap, ◌∙◌, ⊎_elim}
use Rattle.std.specs.List.{fold}
use mathlib.Core.Option.{some, some-injective, some-ne-none}
use lib.ListN.{get_elem?}
use Rattle.left_right.specs.Register.{Admits, TurnsAt, Forks, Merges}
use Rattle.atomic_table.proofs.Lists.{at_set, at_snoc}
use Rattle.logbook.specs.Pages.{Book}
use Rattle.shared_table.specs.declared.shown.Shown.{Shown}
use Rattle.shared_table.specs.declared.shown.Front.{Front}
use Rattle.shared_table.specs.declared.shown.Stamp.{Stamp}
use Rattle.shared_table.specs.Editions.{front_of, stamped, IsSo}
use Rattle.shared_table.specs.Rule.{Token, Keeps, Sees, Marks}
use Rattle.shared_table.specs.Publishing.{AreSo}

abbrev Mark : Type 0
Mark = Option Token

-- who knows of a book knows this one
abbrev Know : Book → List Mark → Type 0
Know b views = (seat : ℕ) (s : Token) → get_elem? views seat ≡ some (Some s) → s.book ≡ b

know_set : (b : Book) (views : List Mark) (seat : ℕ) (w : Mark) → Know b views → ((s : Token) → w ≡ Some s → s.book ≡ b) → Know b (set views seat w)
know_set b views seat w h mine j s e = ⊎_elim (λ (t : (j ≡ seat) × (w ≡ Some s)). mine s t.1)
    (λ (t : (j ≢ seat) × (get_elem? views j ≡ some (Some s))). h j s t.1) (at_set views seat j w (Some s) e)

know_snoc : (b : Book) (views : List Mark) (w : Mark) → Know b views → ((s : Token) → w ≡ Some s → s.book ≡ b) → Know b (views ++ w ∷ [])
know_snoc b views w h mine j s e = ⊎_elim (h j s) (mine s) (at_snoc views w (Some s) j e)

nobody : (b : Book) → Know b (None ∷ [])
nobody b zero s e = let f : None ≡ Some s = some-injective None (Some s) e in absurd (cc f)
nobody b (suc k) s e = absurd (some-ne-none (Some s) (sym e))

pub begins : (x : Shown) → IsSo (front_of x) → Keeps x (None ∷ [])
begins x so = (so, nobody x.seen.book)

pub admits : Admits Keeps None
admits x views h = (h.0, know_snoc x.seen.book views None h.1 (λ s e. absurd (cc e)))

pub enters : (seat : ℕ) (v : Mark) (x : Shown) → TurnsAt Keeps seat v x x Sees
enters seat v x views h at =
    let mine : (s : Token) → v ≡ Some s → s.book ≡ x.seen.book = λ s e. h.1 seat s (at ∙ ap some e) in
    (v, (h.0, know_set x.seen.book views seat v h.1 mine), (refl, h.0, λ s e. sym (mine s e)))

pub marks : (seat : ℕ) (v : Mark) (x next : Shown) → IsSo (front_of next) → next.seen.book ≡ x.seen.book → TurnsAt Keeps seat v x next Marks
marks seat v x next so same views h at = (
  Some next.seen,
  (so, know_set next.seen.book views seat (Some next.seen) (λ j s e. h.1 j s e ∙ sym same) (λ s e. cc e)),
  refl,
)

pub forks : (seat : ℕ) (v : Mark) → Forks Keeps seat v v v
forks seat v x views h at =
    let mine : (s : Token) → v ≡ Some s → s.book ≡ x.seen.book = λ s e. h.1 seat s (at ∙ ap some e) in
    (h.0, know_snoc x.seen.book (set views seat v) v (know_set x.seen.book views seat v h.1 mine) mine)

pub merges : (seat : ℕ) (v : Mark) (other : ℕ) (w : Mark) → Merges Keeps seat v other w w None
merges seat v other w x views h at apart there =
    let was : (s : Token) → w ≡ Some s → s.book ≡ x.seen.book = λ s e.
    ⊎_elim (λ (t : (other ≡ seat) × (w ≡ w)). absurd (apart t.0)) (λ (t : (other ≢ seat) × (get_elem? views other ≡ some w)). h.1 other s (t.1 ∙ ap some e))
    (at_set views seat other w w there) in
    (h.0, know_set x.seen.book (set views seat w) other None (know_set x.seen.book views seat w h.1 was) (λ s e. absurd (cc e)))

-- behind all that wait
pub so_behind : (b : Book) (f : Front) (us : List Stamp) → AreSo b f us → IsSo (fold stamped f us) × ((fold stamped f us).seen.book ≡ b)
so_behind b f [] h = h
so_behind b f (u ∷ us) h = so_behind b (stamped f u) us h.2

pub so_first : (b : Book) (f : Front) (us : List Stamp) → AreSo b f us → IsSo f × (f.seen.book ≡ b)
so_first b f [] h = h
so_first b f (u ∷ us) h = (h.0, h.1)

-- one more behind them
pub so_snoc : (b : Book) (f : Front) (us : List Stamp) (s : Stamp) → AreSo b f us → IsSo (stamped (fold stamped f us) s) → s.seen.book ≡ b
    → AreSo b f (us ++ s ∷ [])
so_snoc b f [] s h so same = (h.0, h.1, (so, same))
so_snoc b f (u ∷ us) s h so same = (h.0, h.1, so_snoc b (stamped f u) us s h.2 so same)

pub fold_snoc : (f : Front) (us : List Stamp) (s : Stamp) → fold stamped f (us ++ s ∷ []) ≡ stamped (fold stamped f us) s
fold_snoc f [] s = refl
fold_snoc f (u ∷ us) s = fold_snoc (stamped f u) us s

-- what waits without the one that was held back
pub so_front : (b : Book) (f : Front) (us vs : List Stamp) → AreSo b f (us ++ vs) → AreSo b f us
so_front b f [] vs h = so_first b f vs h
so_front b f (u ∷ us) vs h = (h.0, h.1, so_front b (stamped f u) us vs h.2)

-- from behind the first of what waits on
pub so_rest : (b : Book) (f : Front) (us vs : List Stamp) → AreSo b f (us ++ vs) → AreSo b (fold stamped f us) vs
so_rest b f [] vs h = h
so_rest b f (u ∷ us) vs h = so_rest b (stamped f u) us vs h.2

pub fold_append : (f : Front) (us vs : List Stamp) → fold stamped f (us ++ vs) ≡ fold stamped (fold stamped f us) vs
fold_append f [] vs = refl
fold_append f (u ∷ us) vs = fold_append (stamped f u) us vs
