-- What waits on links and is still to be put there, beside what is still to be taken.
use Rattle.std.proofs.Common.{ℕ, Bool, true, false, ◌==◌, ◌≡◌, Some, List, [], ◌∷◌, ◌++◌, drop, refl, sym, ap, subst, ◌∙◌, append_assoc, append-nil, true≢false}
use Rattle.std.proofs.lemmas.Bool.{eq-eqb}
use Rattle.std.specs.List.{slice_get}
use Rattle.std.specs.Prelude.{if◌then◌else◌, not, ◌&&◌, All}
use Rattle.std.proofs.lemmas.List.Elements.{All-head, All-tail}
use Rattle.registry_model.proofs.Updates.{by_test}
use Rattle.protocol_model.specs.Links.{Links, no_letters}
use Rattle.link.specs.Rule.{Begins}
use Rattle.link.specs.Moves.{Move, Puts, Takes, Closes, Reopens, moved, put_on, taken_off, stay, later_stays, stays, TakesBeginning, ClosedTakeNothing}

module _ {L : Type 0} where
  -- of each link to a running node a beginning of what waits and is still to be put in its stay is still to be taken there; on others
  -- nothing waits, and of them nothing is taken until the receiver is reopened
  pub record Meets (links : Links L) (ms : List (Move L)) : Type 0 where
    pub begins : (f t : ℕ) → links.closed t ≡ false
        → Begins (taken_off f t (stay t false ms)) (links.queue f t ++ put_on f t (stay t false ms))
    pub later : (f t : ℕ) → All (TakesBeginning f t) (later_stays t (links.closed t) ms)
    pub gone : ClosedTakeNothing ms
    pub closed : (f t : ℕ) → links.closed t ≡ true → taken_off f t (stay t true ms) ≡ []
    pub empty : (f t : ℕ) → links.closed t ≡ true → links.queue f t ≡ []

  -- at first nothing waits
  pub meets_at_first : (ms : List (Move L)) → ((f t : ℕ) → All (TakesBeginning f t) (stays t ms)) → ClosedTakeNothing ms
      → Meets no_letters ms
  meets_at_first ms begins gone = record {
    begins = λ f t _. All-head (TakesBeginning f t) (stay t false ms) (later_stays t false ms) (begins f t);
    later = λ f t. All-tail (TakesBeginning f t) (stay t false ms) (later_stays t false ms) (begins f t);
    gone = gone;
    closed = λ f t e. absurd (true≢false (sym e));
    empty = λ f t e. refl;
  }

  -- this is the oldest letter
  pub record Front (q : List L) (l : L) : Type 0 where
    pub is : q ≡ l ∷ drop 1 q

  pub first_is : (q : List L) (l : L) → Front q l → slice_get q 0 ≡ Some l
  first_is q l F = ap (λ (ls : List L). slice_get ls 0) F.is

  -- no letter is the oldest of none
  pub none_first : (l : L) → Front [] l → ⊥
  none_first l F = never F.is
    where
      never : {ls : List L} → [] ≡ l ∷ ls → ⊥
      never e = cc

  -- what is put next waits behind what waits
  pub queue_put : (links : Links L) (x y : ℕ) (l : L) (f t : ℕ) (ms : List (Move L)) → links.closed t ≡ false
      → (moved links (Puts x y l)).queue f t ++ put_on f t ms ≡ links.queue f t ++ put_on f t (Puts x y l ∷ ms)
  queue_put links x y l f t ms up = go (f == x) (t == y) (links.closed t) up
    where
      go : (b c d : Bool) → d ≡ false
          → (if b && not d then links.queue f t ++ (if c then l ∷ [] else []) else links.queue f t) ++ put_on f t ms
          ≡ links.queue f t ++ (if b && c then l ∷ put_on f t ms else put_on f t ms)
      go true true true e = cc
      go true false true e = cc
      go true true false e = append_assoc (links.queue f t) (l ∷ []) (put_on f t ms)
      go true false false e = ap (λ (ls : List L). ls ++ put_on f t ms) (append-nil (links.queue f t))
      go false c d e = refl

  -- what is put for a node that was closed out doesn't wait
  put_lost : (links : Links L) (x y : ℕ) (l : L) (f t : ℕ) → links.closed t ≡ true
      → (moved links (Puts x y l)).queue f t ≡ links.queue f t
  put_lost links x y l f t = go (f == x) (links.closed t)
    where
      go : (b d : Bool) → d ≡ true
          → (if b && not d then links.queue f t ++ (if t == y then l ∷ [] else []) else links.queue f t) ≡ links.queue f t
      go true true e = refl
      go true false e = absurd (true≢false (sym e))
      go false d e = refl

  pub meets_put : (links : Links L) (x y : ℕ) (l : L) (ms : List (Move L)) → Meets links (Puts x y l ∷ ms)
      → Meets (moved links (Puts x y l)) ms
  meets_put links x y l ms M = record {
    begins = λ f t up. let b = M.begins f t up in (b.0, queue_put links x y l f t (stay t false ms) up ∙ b.1);
    later = M.later;
    gone = M.gone;
    closed = M.closed;
    empty = λ f t e. put_lost links x y l f t e ∙ M.empty f t e;
  }

  -- what is taken next is the first that is taken
  pub own_taken : (x y : ℕ) (l : L) (ms : List (Move L)) → taken_off x y (Takes x y l ∷ ms) ≡ l ∷ taken_off x y ms
  own_taken x y l ms = both (x == x) (y == y) (eq-eqb x x refl) (eq-eqb y y refl)
    where
      both : (b c : Bool) → b ≡ true → c ≡ true → (if b && c then l ∷ taken_off x y ms else taken_off x y ms) ≡ l ∷ taken_off x y ms
      both true true e h = refl
      both true false e h = cc
      both false c e h = cc

  -- who takes nothing at all takes nothing afterwards
  nothing : (x y : ℕ) (l : L) (f t : ℕ) (ms : List (Move L)) → taken_off f t (Takes x y l ∷ ms) ≡ [] → taken_off f t ms ≡ []
  nothing x y l f t ms = go (f == x && (t == y))
    where
      go : (b : Bool) → (if b then l ∷ taken_off f t ms else taken_off f t ms) ≡ [] → taken_off f t ms ≡ []
      go true e = cc
      go false e = e

  -- who takes a letter runs
  pub runs : (links : Links L) (x y : ℕ) (l : L) (ms : List (Move L)) → Meets links (Takes x y l ∷ ms) → links.closed y ≡ false
  runs links x y l ms M = go (links.closed y) refl
    where
      no_cons : {ls : List L} → [] ≡ l ∷ ls → ⊥
      no_cons e = cc

      go : (b : Bool) → links.closed y ≡ b → b ≡ false
      go true e = absurd (no_cons (sym (M.closed x y e) ∙ own_taken x y l (stay y true ms)))
      go false e = refl

  -- where it doesn't wait it is the first that is still to be put
  front : (q put ls rest : List L) (l : L) → (q ≡ [] → put ≡ l ∷ (ls ++ rest) → ⊥) → q ++ put ≡ (l ∷ ls) ++ rest → Front q l
  front [] put ls rest l waits e = absurd (waits refl e)
  front (x ∷ q) put ls rest l waits e = record { is = same e }
    where
      same : {xs ys : List L} → x ∷ xs ≡ l ∷ ys → x ∷ q ≡ l ∷ q
      same e = cc

  -- else it is the oldest
  pub oldest : (links : Links L) (x y : ℕ) (l : L) (ms : List (Move L)) → Meets links (Takes x y l ∷ ms)
      → ((ls : List L) → links.queue x y ≡ [] → put_on x y (stay y false ms) ≡ l ∷ ls → ⊥) → Front (links.queue x y) l
  oldest links x y l ms M waits =
      let b = M.begins x y (runs links x y l ms M) in
      let taken = taken_off x y (stay y false ms) in
      front (links.queue x y) (put_on x y (stay y false ms)) taken b.0 l (waits (taken ++ b.0))
      (b.1 ∙ ap (λ (ls : List L). ls ++ b.0) (own_taken x y l (stay y false ms)))

  -- what was taken doesn't wait any more
  queue_taken : (links : Links L) (x y : ℕ) (l : L) → Front (links.queue x y) l → (f t : ℕ) (ms : List (Move L)) (rest : List L)
      → links.queue f t ++ put_on f t ms ≡ taken_off f t (Takes x y l ∷ ms) ++ rest
      → (moved links (Takes x y l)).queue f t ++ put_on f t ms ≡ taken_off f t ms ++ rest
  queue_taken links x y l F f t ms rest =
      by_test x
      (λ g b. links.queue g t ++ put_on g t ms ≡ (if b && (t == y) then l ∷ taken_off g t ms else taken_off g t ms) ++ rest
      → (if b && (t == y) then drop 1 (links.queue g t) else links.queue g t) ++ put_on g t ms ≡ taken_off g t ms ++ rest)
      (by_test y
      (λ c b. links.queue x c ++ put_on x c ms ≡ (if b then l ∷ taken_off x c ms else taken_off x c ms) ++ rest
      → (if b then drop 1 (links.queue x c) else links.queue x c) ++ put_on x c ms ≡ taken_off x c ms ++ rest)
      (λ e. tail (put_on x y ms) (taken_off x y ms ++ rest) (links.queue x y) F e) (λ c ne e. e) t)
      (λ g ne e. e) f
    where
      tail : (ls ks q : List L) → Front q l → q ++ ls ≡ l ∷ ks → drop 1 q ++ ls ≡ ks
      tail ls ks [] F e = absurd (none_first l F)
      tail ls ks (z ∷ q) F e = same e
        where
          same : {xs ys : List L} → z ∷ xs ≡ l ∷ ys → xs ≡ ys
          same e = cc

  pub meets_taken : (links : Links L) (x y : ℕ) (l : L) (ms : List (Move L)) → Front (links.queue x y) l
      → Meets links (Takes x y l ∷ ms) → Meets (moved links (Takes x y l)) ms
  meets_taken links x y l ms F M = record {
    begins = λ f t up. let b = M.begins f t up in (b.0, queue_taken links x y l F f t (stay t false ms) b.0 b.1);
    later = M.later;
    gone = M.gone;
    closed = λ f t e. nothing x y l f t (stay t true ms) (M.closed f t e);
    empty = λ f t e. still_none (f == x && (t == y)) (links.queue f t) (M.empty f t e);
  }
    where
      still_none : (b : Bool) (q : List L) → q ≡ [] → (if b then drop 1 q else q) ≡ []
      still_none true q e = rw e refl
      still_none false q e = e

  -- who is closed out has nothing to take
  pub meets_closed : (links : Links L) (d : ℕ) (ms : List (Move L)) → Meets links (Closes d ∷ ms) → Meets (moved links (Closes d)) ms
  meets_closed links d ms M = record {
    begins = λ f t e. by_test d
        (λ c b. (if b then true else links.closed c) ≡ false → (links.closed c ≡ false
        → Begins (taken_off f c (stay c (if b then true else false) ms)) (links.queue f c ++ put_on f c (stay c (if b then true else false) ms)))
        → Begins (taken_off f c (stay c false ms)) ((if b then [] else links.queue f c) ++ put_on f c (stay c false ms)))
        (λ e. absurd (true≢false e)) (λ c ne e begins. begins e) t e (M.begins f t);
    later = M.later;
    gone = M.gone.1;
    closed = λ f t e. by_test d
        (λ c b. (if b then true else links.closed c) ≡ true
        → (links.closed c ≡ true → taken_off f c (stay c (if b then true else true) ms) ≡ []) → taken_off f c (stay c true ms) ≡ [])
        (λ e none. M.gone.0 f) (λ c ne e none. none e) t e (M.closed f t);
    empty = λ f t. by_test d (λ c b. (if b then true else links.closed c) ≡ true → (if b then [] else links.queue f c) ≡ [])
        (λ e. refl) (λ c ne e. M.empty f c e) t;
  }

  -- t, closed out (out) or not, and reopened or not (b), has q waiting: then this is still to be taken, with what is put in its stay
  begins_again : (f t : ℕ) (out b : Bool) (ms : List (Move L)) (q : List L)
      → (out ≡ false → Begins (taken_off f t (stay t false ms)) (q ++ put_on f t (stay t false ms))) → (out ≡ true → q ≡ [])
      → All (TakesBeginning f t) (if out && b then stay t false ms ∷ later_stays t false ms else later_stays t out ms)
      → (if b then false else out) ≡ false → Begins (taken_off f t (stay t false ms)) (q ++ put_on f t (stay t false ms))
  begins_again f t false b ms q begins empty later e = begins refl
  begins_again f t true true ms q begins empty later e =
      subst (λ (q : List L). Begins (taken_off f t (stay t false ms)) (q ++ put_on f t (stay t false ms))) (sym (empty refl))
      (All-head (TakesBeginning f t) (stay t false ms) (later_stays t false ms) later)
  begins_again f t true false ms q begins empty later e = absurd (true≢false e)

  -- its stays behind this one are as they were, or one less
  pub later_again : (P : List (Move L) → Type 0) (t : ℕ) (out b : Bool) (ms : List (Move L))
      → All P (if out && b then stay t false ms ∷ later_stays t false ms else later_stays t out ms)
      → All P (later_stays t (if b then false else out) ms)
  later_again P t false true ms later = later
  later_again P t false false ms later = later
  later_again P t true true ms later = All-tail P (stay t false ms) (later_stays t false ms) later
  later_again P t true false ms later = later

  -- who is reopened takes of what is put from now on
  pub meets_reopened : (links : Links L) (d : ℕ) (ms : List (Move L)) → Meets links (Reopens d ∷ ms) → Meets (moved links (Reopens d)) ms
  meets_reopened links d ms M = record {
    begins = λ f t. begins_again f t (links.closed t) (t == d) ms (links.queue f t) (M.begins f t) (M.empty f t) (M.later f t);
    later = λ f t. later_again (TakesBeginning f t) t (links.closed t) (t == d) ms (M.later f t);
    gone = M.gone;
    closed = λ f t. closed_again f t (links.closed t) (t == d) (M.closed f t);
    empty = λ f t. empty_again f t (links.closed t) (t == d) (M.empty f t);
  }
    where
      closed_again : (f t : ℕ) (out b : Bool)
          → (out ≡ true → taken_off f t (if b then [] else Reopens d ∷ stay t true ms) ≡ [])
          → (if b then false else out) ≡ true → taken_off f t (stay t true ms) ≡ []
      closed_again f t out true closed e = absurd (true≢false (sym e))
      closed_again f t out false closed e = closed e

      empty_again : (f t : ℕ) (out b : Bool) → (out ≡ true → links.queue f t ≡ []) → (if b then false else out) ≡ true
          → links.queue f t ≡ []
      empty_again f t out true empty e = absurd (true≢false (sym e))
      empty_again f t out false empty e = empty e
