-- How a round ends, in the protocol's words.
use Rattle.std.proofs.Common.{ℕ, Bool, true, false, ◌≡◌, ◌<◌, List, [], ◌∷◌, refl, sym, ap, ◌∙◌, All}
use Rattle.std.specs.Prelude.{not, ◌&&◌, ◌||◌, if◌then◌else◌}
use Rattle.std.specs.List.{list_any, list_all}
use Rattle.protocol_model.specs.Links.{is_nil}
use Rattle.protocol_model.specs.Round as protocol
use Rattle.protocol_model.specs.Round.{Mark, is_empty, is_out, is_refused, is_granted, has_granted, granted, is_held}
use Rattle.term.specs.NodeSets.{IsNodeSet, set_of}
use Rattle.boss_order.specs.Boss.{boss_of}
use Rattle.term.proofs.Subsets.{set_of-filter}
use Rattle.boss_order.proofs.Sets.{is_nil-filter, passes_within, is_empty-within, is_empty-set_of_passing}
use Rattle.locker.specs.declared.ending.Ending.TheVariants.{Held as IsHeld, GiveBack}
use Rattle.locker.specs.RoundState.{RoundState, IsRound, seen}
use Rattle.locker.specs.Ends.{granted_by, is_won, end_of, EndsAs}
use Rattle.locker.proofs.Marks.{asked-seen}

-- each fails a test where none passes
list_all-not : (p q : ℕ → Bool) → ((c : ℕ) → q c ≡ not (p c)) → (xs : List ℕ) → list_all q xs ≡ not (list_any p xs)
list_all-not p q other [] = refl
list_all-not p q other (x ∷ xs) = rw (other x) (go (p x) (list_all-not p q other xs))
  where
    go : (b : Bool) → list_all q xs ≡ not (list_any p xs) → (not b && list_all q xs) ≡ not (b || list_any p xs)
    go true e = refl
    go false e = e

-- a node with a mark of which a test speaks is asked
module _ (h : RoundState) (test : Mark → Bool) (out : test protocol.Out ≡ false) where
  within : (c : ℕ) → test ((seen h).mark c) ≡ true → set_of h.nodes c ≡ true
  within c e = ap (λ (s : ℕ → Bool). s c) (asked-seen h) ∙ go ((seen h).mark c) e
    where
      go : (m : Mark) → test m ≡ true → not (is_out m) ≡ true
      go protocol.Out e = cc
      go _ e = refl

-- it is won where the protocol's round is held
is_won-is_held : (h : RoundState) (members : List ℕ) (n : ℕ) → IsRound h → IsNodeSet members
    → All (λ c. c < n) h.nodes → All (λ c. c < n) members → is_won members h ≡ is_held n (set_of members) (seen h)
is_won-is_held h members n whole set below members_below =
    ap (λ (b : Bool). b && boss && not (list_any refused h.nodes) && not (is_nil (granted_by h))) all_asked
    ∙ ap (λ (b : Bool). all && boss && b && not (is_nil (granted_by h)))
    (sym (is_empty-within n refused h.nodes whole.set.rising below (within h is_refused refl)))
    ∙ ap (λ (b : Bool). all && boss && is_empty n refused && not b) (is_nil-filter (granted (seen h)) h.nodes
    ∙ sym (is_empty-within n (granted (seen h)) h.nodes whole.set.rising below (within h is_granted refl)))
    ∙ turned all boss (is_empty n refused) (not (is_empty n (granted (seen h))))
  where
    refused : ℕ → Bool
    refused c = is_refused ((seen h).mark c)

    boss : Bool
    boss = has_granted ((seen h).mark (boss_of h.nodes))

    all : Bool
    all = protocol.asked_all n (set_of members) (seen h)

    turned : (x y z u : Bool) → (x && y && z && u) ≡ (y && z && x && u)
    turned true true true u = refl
    turned true true false u = refl
    turned true false z u = refl
    turned false true true u = refl
    turned false true false u = refl
    turned false false z u = refl

    all_asked : list_all (set_of h.nodes) members ≡ all
    all_asked = list_all-not (λ c. is_out ((seen h).mark c)) (set_of h.nodes)
        (λ c. ap (λ (s : ℕ → Bool). s c) (asked-seen h)) members
        ∙ sym (is_empty-set_of_passing n (λ c. is_out ((seen h).mark c)) members set.rising members_below)

-- how it ends is how the protocol's round ends
pub EndsAs-end_of : (h : RoundState) (members : List ℕ) (n : ℕ) → IsRound h → IsNodeSet members
    → All (λ c. c < n) h.nodes → All (λ c. c < n) members
    → EndsAs (end_of members h) (protocol.ending n (set_of members) (seen h))
EndsAs-end_of h members n whole set below members_below =
    go (is_won members h) (is_held n (set_of members) (seen h))
    (is_won-is_held h members n whole set below members_below)
  where
    back : (c : ℕ) → set_of (granted_by h) c ≡ granted (seen h) c
    back c = set_of-filter (granted (seen h)) h.nodes c
        ∙ sym (ap (λ (s : ℕ → Bool). s c) (passes_within (granted (seen h)) h.nodes (within h is_granted refl)))

    go : (b d : Bool) → b ≡ d
        → EndsAs (if b then IsHeld else GiveBack (granted_by h))
        (if d then protocol.Held else protocol.GiveBack (granted (seen h)))
    go true true e = tt
    go false false e = back
    go true false e = cc
    go false true e = cc
