-- Where at no point more is taken than was put, what is taken is the oldest.
use Rattle.std.proofs.Common.{ℕ, suc, Bool, true, false, ◌==◌, ◌≡◌, ◌≤◌, ◌+◌, List, [], ◌∷◌, ◌++◌, length, length-append, drop, refl, sym, ap, subst, ◌∙◌, arith, true≢false}
use Rattle.std.specs.Prelude.{if◌then◌else◌, ◌&&◌, All}
use Rattle.std.proofs.lemmas.List.Elements.{All-head, All-tail}
use Rattle.registry_model.proofs.Updates.{by_test}
use Rattle.protocol_model.specs.Links.{Links, no_letters}
use Rattle.link.specs.Moves.{Move, Puts, Takes, Closes, Reopens, moved, put_on, taken_off, stay, later_stays, TakesNoMore, AreDelivered, PrefixesAreDelivered}
use Rattle.link.proofs.Meeting.{Meets, meets_at_first, Front, first_is, none_first, queue_put, meets_put, own_taken, runs, oldest, meets_taken, meets_closed, later_again, meets_reopened}

module _ {L : Type 0} where
  -- no more is taken of a link to a running node than waits there at first and is put in its stay, and in later stays no more than is put
  record Suffices (links : Links L) (f t : ℕ) (ms : List (Move L)) : Type 0 where
    now : links.closed t ≡ false
        → length (taken_off f t (stay t false ms)) ≤ length (links.queue f t) + length (put_on f t (stay t false ms))
    later : All (TakesNoMore f t) (later_stays t (links.closed t) ms)

  -- so it is at each point
  abbrev IsEnough : Links L → List (Move L) → Type 0
  IsEnough links ms = (before after : List (Move L)) (f t : ℕ) → ms ≡ before ++ after → Suffices links f t before

  count_put : (links : Links L) (x y : ℕ) (l : L) (f t : ℕ) (ms : List (Move L)) → links.closed t ≡ false
      → length (links.queue f t) + length (put_on f t (Puts x y l ∷ ms))
      ≡ length ((moved links (Puts x y l)).queue f t) + length (put_on f t ms)
  count_put links x y l f t ms up =
      sym (length-append (links.queue f t) (put_on f t (Puts x y l ∷ ms)))
      ∙ ap length (sym (queue_put links x y l f t ms up))
      ∙ length-append ((moved links (Puts x y l)).queue f t) (put_on f t ms)

  -- so it is behind a move
  enough_put : (links : Links L) (x y : ℕ) (l : L) (ms : List (Move L)) → IsEnough links (Puts x y l ∷ ms)
      → IsEnough (moved links (Puts x y l)) ms
  enough_put links x y l ms E before after f t is =
      let S : Suffices links f t (Puts x y l ∷ before) =
      E (Puts x y l ∷ before) after f t (ap (λ (ns : List (Move L)). Puts x y l ∷ ns) is) in
      record {
        now = λ up. subst (λ (n : ℕ). length (taken_off f t (stay t false before)) ≤ n)
            (count_put links x y l f t (stay t false before) up) (S.now up);
        later = S.later;
      }

  count_taken : (links : Links L) (x y : ℕ) (l : L) → Front (links.queue x y) l → (f t : ℕ) (ms : List (Move L)) (n : ℕ)
      → length (taken_off f t (Takes x y l ∷ ms)) ≤ length (links.queue f t) + n
      → length (taken_off f t ms) ≤ length ((moved links (Takes x y l)).queue f t) + n
  count_taken links x y l F f t ms n =
      by_test x
      (λ g b. length (if b && (t == y) then l ∷ taken_off g t ms else taken_off g t ms) ≤ length (links.queue g t) + n
      → length (taken_off g t ms) ≤ length (if b && (t == y) then drop 1 (links.queue g t) else links.queue g t) + n)
      (by_test y
      (λ c b. length (if b then l ∷ taken_off x c ms else taken_off x c ms) ≤ length (links.queue x c) + n
      → length (taken_off x c ms) ≤ length (if b then drop 1 (links.queue x c) else links.queue x c) + n)
      (λ h. less (links.queue x y) (length (taken_off x y ms)) F h) (λ c ne h. h) t)
      (λ g ne h. h) f
    where
      less : (q : List L) (k : ℕ) → Front q l → suc k ≤ length q + n → k ≤ length (drop 1 q) + n
      less [] k F h = absurd (none_first l F)
      less (z ∷ q) k F h = fewer (length q) h
        where
          fewer : (m : ℕ) → suc k ≤ suc m + n → k ≤ m + n
          fewer m h = omega (arith, h)

  enough_taken : (links : Links L) (x y : ℕ) (l : L) (ms : List (Move L)) → Front (links.queue x y) l
      → IsEnough links (Takes x y l ∷ ms) → IsEnough (moved links (Takes x y l)) ms
  enough_taken links x y l ms F E before after f t is =
      let S : Suffices links f t (Takes x y l ∷ before) =
      E (Takes x y l ∷ before) after f t (ap (λ (ns : List (Move L)). Takes x y l ∷ ns) is) in
      record {
        now = λ up. count_taken links x y l F f t (stay t false before) (length (put_on f t (stay t false before))) (S.now up);
        later = S.later;
      }

  enough_closed : (links : Links L) (d : ℕ) (ms : List (Move L)) → IsEnough links (Closes d ∷ ms)
      → IsEnough (moved links (Closes d)) ms
  enough_closed links d ms E before after f t is =
      let S : Suffices links f t (Closes d ∷ before) =
      E (Closes d ∷ before) after f t (ap (λ (ns : List (Move L)). Closes d ∷ ns) is) in
      record { now = λ up. now t up S.now; later = S.later }
    where
      now : (t : ℕ) → (moved links (Closes d)).closed t ≡ false
          → (links.closed t ≡ false → length (taken_off f t (stay t false (Closes d ∷ before)))
          ≤ length (links.queue f t) + length (put_on f t (stay t false (Closes d ∷ before))))
          → length (taken_off f t (stay t false before))
          ≤ length ((moved links (Closes d)).queue f t) + length (put_on f t (stay t false before))
      now = by_test d
          (λ c b. (if b then true else links.closed c) ≡ false
          → (links.closed c ≡ false → length (taken_off f c (stay c (if b then true else false) before))
          ≤ length (links.queue f c) + length (put_on f c (stay c (if b then true else false) before)))
          → length (taken_off f c (stay c false before))
          ≤ length (if b then [] else links.queue f c) + length (put_on f c (stay c false before)))
          (λ e enough. absurd (true≢false e)) (λ c ne e enough. enough e)

  -- what is put since a reopening suffices, whatever waits
  now_again : (f t : ℕ) (out b : Bool) (ms : List (Move L)) (n : ℕ)
      → (out ≡ false → length (taken_off f t (stay t false ms)) ≤ n + length (put_on f t (stay t false ms)))
      → All (TakesNoMore f t) (if out && b then stay t false ms ∷ later_stays t false ms else later_stays t out ms)
      → (if b then false else out) ≡ false
      → length (taken_off f t (stay t false ms)) ≤ n + length (put_on f t (stay t false ms))
  now_again f t false b ms n now later e = now refl
  now_again f t true true ms n now later e =
      more (length (taken_off f t (stay t false ms))) (length (put_on f t (stay t false ms)))
      (All-head (TakesNoMore f t) (stay t false ms) (later_stays t false ms) later)
    where
      more : (k m : ℕ) → k ≤ m → k ≤ n + m
      more k m h = omega (arith, h)
  now_again f t true false ms n now later e = absurd (true≢false e)

  enough_reopened : (links : Links L) (d : ℕ) (ms : List (Move L)) → IsEnough links (Reopens d ∷ ms)
      → IsEnough (moved links (Reopens d)) ms
  enough_reopened links d ms E before after f t is =
      let S : Suffices links f t (Reopens d ∷ before) =
      E (Reopens d ∷ before) after f t (ap (λ (ns : List (Move L)). Reopens d ∷ ns) is) in
      record {
        now = now_again f t (links.closed t) (t == d) before (length (links.queue f t)) S.now S.later;
        later = later_again (TakesNoMore f t) t (links.closed t) (t == d) before S.later;
      }

  -- what is taken first waits already
  oldest_first : (links : Links L) (x y : ℕ) (l : L) (ms : List (Move L)) → Meets links (Takes x y l ∷ ms)
      → IsEnough links (Takes x y l ∷ ms) → Front (links.queue x y) l
  oldest_first links x y l ms M E = oldest links x y l ms M
      (λ ls none _. never
      (subst (λ (q : List L). 1 ≤ length q + 0) none
      (subst (λ (n : ℕ). n ≤ length (links.queue x y) + 0) (ap length (own_taken x y l []))
      ((E (Takes x y l ∷ []) ms x y refl).now (runs links x y l ms M)))))
    where
      never : 1 ≤ 0 + 0 → ⊥
      never h = omega (arith, h)

  -- so all that is taken is the oldest
  all_delivered : (ms : List (Move L)) (links : Links L) → Meets links ms → IsEnough links ms → AreDelivered links ms
  all_delivered [] links M E = tt
  all_delivered (Puts x y l ∷ ms) links M E =
      (tt, all_delivered ms (moved links (Puts x y l)) (meets_put links x y l ms M) (enough_put links x y l ms E))
  all_delivered (Takes x y l ∷ ms) links M E =
      let F : Front (links.queue x y) l = oldest_first links x y l ms M E in (
        first_is (links.queue x y) l F,
        all_delivered ms (moved links (Takes x y l)) (meets_taken links x y l ms F M) (enough_taken links x y l ms F E),
      )
  all_delivered (Closes d ∷ ms) links M E =
      (tt, all_delivered ms (moved links (Closes d)) (meets_closed links d ms M) (enough_closed links d ms E))
  all_delivered (Reopens d ∷ ms) links M E =
      (tt, all_delivered ms (moved links (Reopens d)) (meets_reopened links d ms M) (enough_reopened links d ms E))

  pub prefixes_are_delivered : PrefixesAreDelivered L
  prefixes_are_delivered ms P = all_delivered ms no_letters (meets_at_first ms P.begins P.gone)
      (λ before after f t is. record {
        now = λ _. none (length (taken_off f t (stay t false before))) (length (put_on f t (stay t false before)))
            (All-head (TakesNoMore f t) (stay t false before) (later_stays t false before) (P.enough before after f t is));
        later = All-tail (TakesNoMore f t) (stay t false before) (later_stays t false before) (P.enough before after f t is);
      })
    where
      none : (m n : ℕ) → m ≤ n → m ≤ 0 + n
      none m n h = omega (arith, h)
