-- What a seat knew, beside the book of its node among those that a cluster gave back.
use Rattle.std.proofs.Common.{ℕ, ◌==◌, ◌≡◌, ◌<◌, Option, Some, None, List, [], ◌∷◌, ◌++◌, length, get_or, refl, sym, ap, subst, ◌∙◌, arith}
use Rattle.std.specs.Prelude.{All}
use Rattle.std.specs.List.{position}
use Rattle.std.proofs.lemmas.List.Quantifiers.{position-Some}
use Rattle.std.proofs.lemmas.List.Elements.{Contains-get_or}
use Rattle.std.proofs.lemmas.Option.{slice_get-get_or}
use Rattle.node_threads.specs.Books.{Known}
use Rattle.node_threads.specs.Addresses.{Inbox}
use Rattle.node_threads.specs.Wires.{Wired, name_of, inboxes, inbox_to, IsCrew}
use Rattle.node_threads.specs.Ended.{End, AllPast, AreOfAnEnd}
use Rattle.node_threads.proofs.Choosing.{first_becomes, none_becomes}
use Rattle.node_threads.proofs.Places.{place_mapped}
use Rattle.server.specs.declared.served.Witness.{Witness}
use Rattle.server.specs.Covering.{IsCovered, IsOfBook, IsOfCrew}
use Rattle.server.proofs.Witnessing.{inbox_of_node, of_some}

-- what stands at a place stands there whatever is said for want of it
pub stands_there : {X : Type 0} (xs : List X) (i : ℕ) (d e : X) → i < length xs → get_or xs i d ≡ get_or xs i e
stands_there xs i d e below = of_some (sym (slice_get-get_or xs i d below) ∙ slice_get-get_or xs i e below)

module _ (cluster lone : List ℕ) (crew : List Wired) (are : IsCrew cluster lone crew) (pasts : List Known) (w : Witness) (of : IsOfCrew crew w) where
  -- the node's place among the names is its place in the crew
  placed : (i : ℕ) → position (λ name. name == w.node) (cluster ++ lone) ≡ Some i → position (λ x. name_of x == w.node) crew ≡ Some i
  placed i at = place_mapped name_of w.node crew ∙ ap (λ (ns : List ℕ). position (λ name. name == w.node) ns) are.names ∙ at

  module _ (i : ℕ) (d : Wired) (at : position (λ x. name_of x == w.node) crew ≡ Some i) where
    below : i < length crew
    below = (position-Some (λ x. name_of x == w.node) crew i d at).0

    inbox_there : (get_or crew i d).inbox ≡ of.inbox
    inbox_there = of_some (sym (first_becomes (λ (x : Wired). x.inbox) (λ inbox. inbox.node == w.node) crew i (get_or crew i d) at
        (stands_there crew i d (get_or crew i d) below)) ∙ of.at)

    name_there : name_of (get_or crew i d) ≡ w.node
    name_there = ap (λ (x : Inbox). x.node) inbox_there ∙ inbox_of_node w.node (inboxes crew) of.inbox of.at

  module _ (ends : List End) (all : AllPast crew ends pasts) (d : Wired) (e : End) (p : Known) where
    book_there : IsOfBook pasts (cluster ++ lone) w
    book_there i q at few =
        let here = placed i at in
        of.book ∙ sym (ap (λ (x : Inbox). x.book) (inbox_there i d here)) ∙ sym (all.each i d e q (below i d here)).book_is

    end_there : IsCovered pasts (cluster ++ lone) w → length ends ≡ length crew → (i : ℕ)
        → position (λ x. name_of x == w.node) crew ≡ Some i → AreOfAnEnd w.node ends w.token.log
    end_there covered many i here =
        let inside = below i d here in
        let past = all.each i d e p inside in
        let named : position (λ name. name == w.node) (cluster ++ lone) ≡ Some i =
        sym (place_mapped name_of w.node crew ∙ ap (λ (ns : List ℕ). position (λ name. name == w.node) ns) are.names) ∙ here in
        subst (λ (n : ℕ). AreOfAnEnd n ends w.token.log) (name_there i d here) (record {
          end = get_or ends i e;
          among = Contains-get_or ends i e (omega (arith, inside, many));
          left = past.left;
          past = covered i p named (omega (arith, inside, all.as_many)) past.left.loop past.ends;
        })

    by_place : IsCovered pasts (cluster ++ lone) w → length ends ≡ length crew → (o : Option ℕ)
        → position (λ x. name_of x == w.node) crew ≡ o → AreOfAnEnd w.node ends w.token.log
    by_place covered many (Some i) is = end_there covered many i is
    by_place covered many None is = absurd (nowhere
        (sym (none_becomes (λ (x : Wired). x.inbox) (λ inbox. inbox.node == w.node) crew is) ∙ of.at))
      where
        nowhere : {X : Type 0} {x : X} → None ≡ Some x → ⊥
        nowhere e = cc

  module _ (ends : List End) (all : AllPast crew ends pasts) where
    first_of : (ws : List Wired) → inbox_to w.node ws ≡ Some of.inbox → Wired
    first_of [] e = absurd (cc e)
    first_of (d ∷ ds) e = d

    a_past : Known
    a_past = record { book = of.inbox.book; log = [] }

    first_end : (ws : List Wired) → inbox_to w.node ws ≡ Some of.inbox → (es : List End) → length es ≡ length ws → End
    first_end [] e es many = absurd (cc e)
    first_end (d ∷ ds) e [] many = absurd (omega (arith, many))
    first_end (d ∷ ds) e (x ∷ es) many = x

    of_book : length ends ≡ length crew → IsOfBook pasts (cluster ++ lone) w
    of_book many = book_there ends all (first_of crew of.at) (first_end crew of.at ends many) a_past

    of_an_end : length ends ≡ length crew → IsCovered pasts (cluster ++ lone) w → AreOfAnEnd w.node ends w.token.log
    of_an_end many covered = by_place ends all (first_of crew of.at) (first_end crew of.at ends many) a_past covered many
        (position (λ x. name_of x == w.node) crew) refl

-- so all that seats knew
module _ (cluster lone : List ℕ) (crew : List Wired) (are : IsCrew cluster lone crew) (pasts : List Known) (ends : List End) (all : AllPast crew ends pasts) (many : length ends ≡ length crew) (ws : List Witness) (of : All (IsOfCrew crew) ws) where
  pub all_of_books : All (IsOfBook pasts (cluster ++ lone)) ws
  all_of_books k d lt = of_book cluster lone crew are pasts (get_or ws k d) (of k d lt) ends all many

  pub all_of_ends : All (IsCovered pasts (cluster ++ lone)) ws → All (λ w. AreOfAnEnd w.node ends w.token.log) ws
  all_of_ends covered k d lt = of_an_end cluster lone crew are pasts (get_or ws k d) (of k d lt) ends all many (covered k d lt)
