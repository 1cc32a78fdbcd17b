-- What a reader then knows.
use Rattle.std.proofs.Common.{◌≡◌, ◌≤◌, ◌<◌, ℕ, max, Option, Some, MatchOption, List, [], ◌∷◌, ◌++◌, length, sym, ap, subst, arith, refl, ◌∙◌}
use mathlib.Core.List.{IsPrefix}
use Rattle.node_books.specs.Held.{Looping}
use Rattle.node_books.specs.Coming.{IsLoopOf}
use Rattle.node_books.specs.Owing.{shown_by}
use Rattle.node_books.specs.declared.Edition.{Edition}
use Rattle.node_books.specs.declared.moment.Moment.{Moment}
use Rattle.node_books.specs.Moments.{AreMoments, shown_at, Rises, last_from}
use Rattle.node_books.proofs.Beginnings.{prefix_self}
use Rattle.node_books.proofs.Onward.{loop_on, logs_only_grow}
use Rattle.node_books.proofs.Showing.{lengths_tell}
use Rattle.shared_table.specs.Readers.{Seen, Hears, Reads, IsBehind}

-- of what is there
pub from_some : {A : Type 0} (N : Type 0) (P : A → Type 0) (o : Option A) (x : A) → o ≡ Some x → MatchOption o N P → P x
from_some N P o x is h = subst (λ (o : Option _). MatchOption o N P) is h

-- of two beginnings of one list the shorter begins the longer
prefix_shorter : {A : Type 0} (xs ys zs : List A) → IsPrefix xs zs → IsPrefix ys zs → length xs ≤ length ys → IsPrefix xs ys
prefix_shorter [] ys zs p q le = (ys, refl)
prefix_shorter (x ∷ xs) [] zs p q le = absurd (omega arith)
prefix_shorter (x ∷ xs) (y ∷ ys) [] p q le = absurd (cc (p.1))
prefix_shorter (x ∷ xs) (y ∷ ys) (z ∷ zs) p q le =
    let heads : x ≡ y = cc (p.1, q.1) in
    let rest = prefix_shorter xs ys zs (p.0, cc (p.1)) (q.0, cc (q.1)) (omega arith) in
    (rest.0, cc (heads, rest.1))

rises_front : (m : Moment) (xs rest : List Moment) → Rises m (xs ++ rest) → Rises m xs
rises_front m [] rest h = tt
rises_front m (x ∷ xs) rest h = (h.0, rises_front x xs rest h.1)

pub moments_front : (xs rest : List Moment) → AreMoments (xs ++ rest) → AreMoments xs
moments_front [] rest h = tt
moments_front (m ∷ xs) rest h = (h.0, rises_front m xs rest h.1)

-- what is known of two beginnings of one book
module _ (mine got both : List Moment) (p : IsPrefix mine both) (q : IsPrefix got both) (h : AreMoments both) where
  pub old_shows : length got ≤ length mine → 0 < length got → (shown_at mine).length ≤ (shown_at got).length → shown_at mine ≡ shown_at got
  old_shows short any le =
      let begins : IsPrefix got mine = prefix_shorter got mine both q p short in
      sym (lengths_tell got mine begins (moments_front mine p.0 (subst AreMoments (sym p.1) h)) any le)

  pub new_begins : length mine ≤ length got → IsPrefix mine got
  new_begins short = prefix_shorter mine got both p q short

-- the loop at the last of these moments is the first one's
named_at : (m : Moment) (ms : List Moment) → Rises m ms → (last_from m ms).node.log.node ≡ m.node.log.node
named_at m [] h = refl
named_at m (n ∷ ns) h = named_at n ns h.1 ∙ (logs_only_grow m.node n.node h.0.1).node

goes_to : (m : Moment) (ms : List Moment) → IsLoopOf m.node.log.node m.node → Rises m ms → IsLoopOf m.node.log.node (last_from m ms).node
goes_to m [] is h = is
goes_to m (n ∷ ns) is h =
    let same : n.node.log.node ≡ m.node.log.node = (logs_only_grow m.node n.node h.0.1).node in
    let next : IsLoopOf n.node.log.node n.node = subst (λ (k : ℕ). IsLoopOf k n.node) (sym same) (loop_on m.node.log.node m.node n.node is h.0.1) in
    subst (λ (k : ℕ). IsLoopOf k (last_from n ns).node) same (goes_to n ns next h.1)

-- a loop of the node that the last of these moments names shows what that shows
pub loop_at : (ms : List Moment) → 0 < length ms → AreMoments ms → (a : Looping) × IsLoopOf (shown_at ms).node a × (shown_at ms ≡ shown_by a)
loop_at [] some h = absurd (omega (arith, some))
loop_at (m ∷ ms) some h = (
  (last_from m ms).node,
  subst (λ (k : ℕ). IsLoopOf k (last_from m ms).node) (sym (named_at m ms h.1)) (goes_to m ms h.0 h.1),
  refl,
)

-- two beginnings of one book name one node
pub same_node : (xs ys both : List Moment) → IsPrefix xs both → IsPrefix ys both → 0 < length xs → 0 < length ys → AreMoments both
    → (shown_at ys).node ≡ (shown_at xs).node
same_node [] ys both p q some any h = absurd (omega (arith, some))
same_node (x ∷ xs) [] both p q some any h = absurd (omega (arith, any))
same_node (x ∷ xs) (y ∷ ys) [] p q some any h = absurd (cc (p.1))
same_node (x ∷ xs) (y ∷ ys) (b ∷ bs) p q some any h =
    let one : x ≡ b = cc (p.1) in
    let other : y ≡ b = cc (q.1) in
    let first : Rises x xs = (moments_front (x ∷ xs) p.0 (subst AreMoments (sym p.1) h)).1 in
    let second : Rises y ys = (moments_front (y ∷ ys) q.0 (subst AreMoments (sym q.1) h)).1 in
    named_at y ys second ∙ (ap (λ (m : Moment). m.node.log.node) (other ∙ sym one) ∙ sym (named_at x xs first))

-- what a reader knows that was told of the moments got
module _ (home mine got both : List Moment) (begins : IsPrefix home both) (p : IsPrefix mine both) (q : IsPrefix got both) (h : AreMoments both) (known : 0 < length home) (node : ℕ) (own : (shown_at home).node ≡ node) (old new : Seen) (book : new.known.book ≡ old.known.book) (was : old.known.log ≡ mine) (any : 0 < length got) (told : new.told ≡ max old.told (shown_at got).length) where
  -- they are more than it knew
  pub hears_new : length mine ≤ length got → new.known.log ≡ got → Hears node got old new
  hears_new short is = record {
    book = book;
    later = rw (was, is) (new_begins mine got both p q h short);
    begins = rw is (prefix_self got);
    moments = rw is (moments_front got q.0 (subst AreMoments (sym q.1) h));
    own = ap (λ (ms : List Moment). (shown_at ms).node) is ∙ (same_node home got both begins q known any h ∙ own);
    length_is = told;
  }

  -- or none that it didn't know
  pub hears_old : length got ≤ length mine → new.known.log ≡ mine → Hears node got old new
  hears_old short is =
      let some : 0 < length mine = omega (arith, any, short) in record {
        book = book;
        later = rw (was, is) (prefix_self mine);
        begins = rw is (prefix_shorter got mine both q p short);
        moments = rw is (moments_front mine p.0 (subst AreMoments (sym p.1) h));
        own = ap (λ (ms : List Moment). (shown_at ms).node) is ∙ (same_node home mine both begins p known some h ∙ own);
        length_is = told;
      }

-- what a reader knows, behind a read in the last of the moments got
module _ (home mine got both : List Moment) (begins : IsPrefix home both) (p : IsPrefix mine both) (q : IsPrefix got both) (h : AreMoments both) (known : 0 < length home) (node : ℕ) (own : (shown_at home).node ≡ node) (old new : Seen) (book : new.known.book ≡ old.known.book) (was : old.known.log ≡ mine) (any : 0 < length got) (told : new.told ≡ (shown_at got).length) (late : old.told ≤ (shown_at got).length) where
  -- they are more than it knew
  pub reads_new : length mine ≤ length got → new.known.log ≡ got → Reads node old new
  reads_new short is = record {
    book = book;
    later = rw (was, is) (new_begins mine got both p q h short);
    some = rw is any;
    moments = rw is (moments_front got q.0 (subst AreMoments (sym q.1) h));
    own = ap (λ (ms : List Moment). (shown_at ms).node) is ∙ (same_node home got both begins q known any h ∙ own);
    rises = omega (arith, late, told);
    told = told ∙ ap (λ (ms : List Moment). (shown_at ms).length) (sym is);
  }

  -- or none that it didn't know
  pub reads_old : length got ≤ length mine → (shown_at mine).length ≤ old.told → new.known.log ≡ mine → Reads node old new
  reads_old short less is =
      let some : 0 < length mine = omega (arith, any, short) in
      let same : shown_at mine ≡ shown_at got = old_shows mine got both p q h short any (omega (arith, less, late)) in record {
        book = book;
        later = rw (was, is) (prefix_self mine);
        some = rw is some;
        moments = rw is (moments_front mine p.0 (subst AreMoments (sym p.1) h));
        own = ap (λ (ms : List Moment). (shown_at ms).node) is ∙ (same_node home mine both begins p known some h ∙ own);
        rises = omega (arith, late, told);
        told = told ∙ ap (λ (e : Edition). e.length) (sym same) ∙ ap (λ (ms : List Moment). (shown_at ms).length) (sym is);
      }

-- a moment of the node was read that shows a shorter log than was told
pub is_behind : (home got both : List Moment) → IsPrefix home both → IsPrefix got both → AreMoments both → 0 < length home → 0 < length got
    → (node : ℕ) → (shown_at home).node ≡ node → (old new : Seen) → new ≡ old → (shown_at got).length < old.told → IsBehind node old new
is_behind home got both begins q h known any node own old new same shorter = record {
  same = same;
  read = got;
  some = any;
  moments = moments_front got q.0 (subst AreMoments (sym q.1) h);
  own = same_node home got both begins q known any h ∙ own;
  shorter = shorter;
}
