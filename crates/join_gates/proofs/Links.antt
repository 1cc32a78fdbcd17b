-- What a rule makes of the letters of one kind on the links: it takes one from a link, and adds some to the links of
-- its node.
use Rattle.std.proofs.Common.{ℕ, Bool, true, false, ◌≡◌, ◌==◌, List, [], ◌∷◌, ◌++◌, refl, sym, ap, ◌∙◌}
use Rattle.std.specs.Prelude.{◌&&◌, not, if◌then◌else◌, drop}
use Rattle.std.proofs.lemmas.List.{append-nil}
use Rattle.protocol_model.specs.Letter.{Letter}
use Rattle.protocol_model.specs.Turn.{Turn, sent_to}
use Rattle.protocol_model.specs.World.{World, left, Deliver, apply, letter_taken}
use Rattle.registry_model.proofs.Updates.{by_test}
use Rattle.moves.proofs.Indices.{at_pair}

-- the letters of one kind on each link
module _ {X : Type 0} (F : List Letter → List X) (split : (xs ys : List Letter) → F (xs ++ ys) ≡ F xs ++ F ys) where
  abbrev pub on_links : World → ℕ → ℕ → List X
  on_links w x y = F (w.links.queue x y)

  -- nothing of this kind is sent
  pub sent_none : (w : World) (a : ℕ) (u : Turn) → ((y : ℕ) → F (sent_to y u.sends) ≡ []) → (x y : ℕ)
      → on_links (apply a u w) x y ≡ on_links w x y
  sent_none w a u none x y = go (x == a && not (w.links.closed y))
    where
      go : (t : Bool) → F (if t then w.links.queue x y ++ sent_to y u.sends else w.links.queue x y)
          ≡ F (w.links.queue x y)
      go true = split (w.links.queue x y) (sent_to y u.sends)
          ∙ ap (λ (l : List X). F (w.links.queue x y) ++ l) (none y) ∙ append-nil (F (w.links.queue x y))
      go false = refl

  -- only c is sent some, and c runs
  pub sent_one : (w : World) (a : ℕ) (u : Turn) (c : ℕ) (e : List X)
      → ((y : ℕ) → F (sent_to y u.sends) ≡ (if y == c then e else []))
      → (x y : ℕ) → left w y ≡ false → on_links (apply a u w) x y ≡ at_pair (on_links w) a c (on_links w a c ++ e) x y
  sent_one w a u c e sent x y runs = ap (λ (t : Bool). F
      (if x == a && not t then w.links.queue x y ++ sent_to y u.sends else w.links.queue x y)) runs
      ∙ by_test a (λ x s. (y : ℕ)
      → F (if s && true then w.links.queue x y ++ sent_to y u.sends else w.links.queue x y)
      ≡ (if s then (if y == c then F (w.links.queue a c) ++ e else F (w.links.queue x y)) else F (w.links.queue x y)))
      (λ y. split (w.links.queue a y) (sent_to y u.sends) ∙ ap (λ (l : List X). F (w.links.queue a y) ++ l) (sent y)
      ∙ by_test c (λ y t. F (w.links.queue a y) ++ (if t then e else [])
      ≡ (if t then F (w.links.queue a c) ++ e else F (w.links.queue a y)))
      refl (λ y ne. append-nil (F (w.links.queue a y))) y)
      (λ x ne y. refl) x y

  -- the letter that is taken is of another kind
  pub taken_none : (w : World) (f a : ℕ) (l : Letter) (rest : List Letter) → w.links.queue f a ≡ l ∷ rest
      → F (l ∷ rest) ≡ F rest
      → (x y : ℕ) → on_links (letter_taken (Deliver f a) w) x y ≡ on_links w x y
  taken_none w f a l rest front same = by_test f
      (λ x s. (y : ℕ) → F (if s && (y == a) then drop 1 (w.links.queue x y) else w.links.queue x y)
      ≡ F (w.links.queue x y))
      (by_test a (λ y t. F (if t then drop 1 (w.links.queue f y) else w.links.queue f y) ≡ F (w.links.queue f y))
      (ap (λ (ls : List Letter). F (drop 1 ls)) front ∙ sym same ∙ sym (ap F front)) (λ y ne. refl))
      (λ x ne y. refl)

  -- the letter that is taken is of this kind
  pub taken_one : (w : World) (f a : ℕ) (l : Letter) (rest : List Letter) → w.links.queue f a ≡ l ∷ rest
      → (x y : ℕ) → on_links (letter_taken (Deliver f a) w) x y ≡ at_pair (on_links w) f a (F rest) x y
  taken_one w f a l rest front = by_test f (λ x s. (y : ℕ)
      → F (if s && (y == a) then drop 1 (w.links.queue x y) else w.links.queue x y)
      ≡ (if s then (if y == a then F rest else F (w.links.queue x y)) else F (w.links.queue x y)))
      (by_test a (λ y t. F (if t then drop 1 (w.links.queue f y) else w.links.queue f y)
      ≡ (if t then F rest else F (w.links.queue f y)))
      (ap (λ (ls : List Letter). F (drop 1 ls)) front) (λ y ne. refl))
      (λ x ne y. refl)
