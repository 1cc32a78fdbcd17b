-- The places of links.
use Rattle.std.proofs.Common.{ℕ, zero, suc, Bool, true, false, ◌≡◌, ◌==◌, ◌<◌, ◌+◌, ◌⊎◌, inl, inr, Option, Some, None, List, [], ◌∷◌, map, length, get_or, set, refl, sym, ap, ◌∙◌, cond, nat_lt, arith}
use Rattle.std.specs.Prelude.{if◌then◌else◌, option_map, not, is_some, ◌&&◌, ◌||◌}
use Rattle.std.specs.List.{list_all, list_any}
use Rattle.std.proofs.Math.ListN.{length-set}
use Rattle.std.proofs.lemmas.Bool.{and_from, and_parts, cases_eq, eq-eqb, eqb-true, le-ltb, lt-ltb, ltb-false, ltb-true, ne_eqb, or_right}
use Rattle.std.proofs.lemmas.List.{get_or-set_same, get_or-set_other}
use Rattle.std.proofs.lemmas.List.Folds.{position_or_len-set}
use Rattle.std.proofs.lemmas.List.Quantifiers.{position-Some}
use Rattle.std.specs.List.{position_or_len}
use Rattle.letter_lines.specs.Gathered.{nothing}
use Rattle.wire_end.specs.declared.wire.Wire.{Wire}
use Rattle.term.specs.Nodes.{name_of}
use Rattle.node_loop.specs.NodeCoreState.{IsNext}
use Rattle.wire_end.specs.Order.{has_younger, is_replaced}
use Rattle.wire_end.specs.Starting.{opened_anew}
use Rattle.wire_end.specs.Wirings.{place, wire_at, wire_if, link_with, new_wire}

-- another link with the same node stands at the same place
pub place-set : (n k : ℕ) (w : Wire) (wires : List Wire) → w.node ≡ (wire_at k wires).node → place n (set wires k w) ≡ place n wires
place-set n k w wires same =
    ap (λ (m : ℕ). cond (nat_lt m (length (set wires k w))) (Some m) None)
    (position_or_len-set (λ v. v.node == n) wires k w (new_wire 0) (ap (λ (m : ℕ). m == n) same))
    ∙ ap (λ (m : ℕ). cond (nat_lt (position_or_len (λ v. v.node == n) wires) m) (Some (position_or_len (λ v. v.node == n) wires)) None)
    (length-set wires k w)

-- at the place of a node's link stands a link with it
pub at-place : (n k : ℕ) (wires : List Wire) → place n wires ≡ Some k → (k < length wires) × ((wire_at k wires).node ≡ n)
at-place n k wires e =
    let at = position-Some (λ v. v.node == n) wires k (new_wire 0) e in
    (at.0, eqb-true _ _ at.1)

-- behind a change of the link with a node, it is that, and others are as they were
pub link-set_same : (n k : ℕ) (w : Wire) (wires : List Wire) → place n wires ≡ Some k → w.node ≡ n → link_with n (set wires k w) ≡ w
link-set_same n k w wires e own =
    let here = at-place n k wires e in
    ap (λ (at : Option ℕ). wire_if at (set wires k w)) (place-set n k w wires (own ∙ sym here.1) ∙ e)
    ∙ get_or-set_same wires k w (new_wire 0) here.0

pub link-set_other : (n m k : ℕ) (w : Wire) (wires : List Wire) → place n wires ≡ Some k → w.node ≡ n → (m ≡ n → ⊥)
    → link_with m (set wires k w) ≡ link_with m wires
link-set_other n m k w wires e own other =
    let here = at-place n k wires e in
    ap (λ (at : Option ℕ). wire_if at (set wires k w)) (place-set m k w wires (own ∙ sym here.1)) ∙ go (place m wires) refl
  where
    go : (at : Option ℕ) → place m wires ≡ at → wire_if at (set wires k w) ≡ wire_if at wires
    go None f = refl
    go (Some j) f =
        let there = at-place m j wires f in
        let here = at-place n k wires e in
        get_or-set_other wires k j w (new_wire 0) (λ same. other (sym there.1 ∙ (ap (λ (i : ℕ). (wire_at i wires).node) same ∙ here.1)))

-- nothing came or went on a link
pub record IsUnused (w : Wire) : Type 0 where
  pub read : w.read ≡ 0
  pub written : w.written ≡ 0
  pub parts : w.parts ≡ nothing

new_at : (nodes : List ℕ) (k : ℕ) → IsUnused (get_or (map new_wire nodes) k (new_wire 0))
new_at [] k = record { read = refl; written = refl; parts = refl }
new_at (n ∷ nodes) zero = record { read = refl; written = refl; parts = refl }
new_at (n ∷ nodes) (suc k) = new_at nodes k

pub new-unused : (n : ℕ) (nodes : List ℕ) → IsUnused (link_with n (map new_wire nodes))
new-unused n nodes = go (place n (map new_wire nodes))
  where
    go : (at : Option ℕ) → IsUnused (wire_if at (map new_wire nodes))
    go None = record { read = refl; written = refl; parts = refl }
    go (Some k) = new_at nodes k

-- a change of a link that stays with its node replaces nobody
younger-set : (f k : ℕ) (w : Wire) (wires : List Wire) → w.node ≡ (wire_at k wires).node → has_younger f (set wires k w) ≡ has_younger f wires
younger-set f k w [] same = refl
younger-set f zero w (v ∷ vs) same = ap (λ (n : ℕ). ((name_of n == name_of f) && nat_lt f n) || has_younger f vs) same
younger-set f (suc k) w (v ∷ vs) same =
    ap (λ (b : Bool). ((name_of v.node == name_of f) && nat_lt f v.node) || b) (younger-set f k w vs same)

pub replaced-set : (f k : ℕ) (w : Wire) (wires : List Wire) → w.node ≡ (wire_at k wires).node → is_replaced f (set wires k w) ≡ is_replaced f wires
replaced-set f k w wires same =
    ap (λ (at : Option ℕ). not (is_some at) && has_younger f (set wires k w)) (place-set f k w wires same)
    ∙ ap (λ (b : Bool). not (is_some (place f wires)) && b) (younger-set f k w wires same)

-- who has a link isn't replaced
pub linked_stays : (n k : ℕ) (wires : List Wire) → place n wires ≡ Some k → is_replaced n wires ≡ false
linked_stays n k wires e = ap (λ (at : Option ℕ). not (is_some at) && has_younger n wires) e

-- the link with a node, and that there is one, by recursion
abbrev pub link_in : ℕ → List Wire → Wire
link_in n [] = new_wire 0
link_in n (w ∷ ws) = if w.node == n then w else link_in n ws

abbrev pub has_link : ℕ → List Wire → Bool
has_link n wires = list_any (λ w. w.node == n) wires

-- the place of a link in a list with one more in front
place_front : (n : ℕ) (w : Wire) (ws : List Wire) → place n (w ∷ ws) ≡ (if w.node == n then Some 0 else option_map (λ (k : ℕ). suc k) (place n ws))
place_front n w ws = go (w.node == n)
  where
    k : ℕ
    k = position_or_len (λ v. v.node == n) ws

    both : (i m : ℕ) (t : Bool) → nat_lt i m ≡ t → nat_lt (1 + i) (suc m) ≡ t
    both i m true e = lt-ltb (1 + i) (suc m) (omega (arith, ltb-true i m e))
    both i m false e = le-ltb (1 + i) (suc m) (omega (arith, ltb-false i m e))

    by : (t : Bool) → cond t (Some (1 + k)) None ≡ option_map (λ (i : ℕ). suc i) (cond t (Some k) None)
    by true = ap Some (omega arith)
    by false = refl

    go : (b : Bool) → cond (nat_lt (cond (not b) (1 + k) 0) (length (w ∷ ws))) (Some (cond (not b) (1 + k) 0)) None
        ≡ (if b then Some 0 else option_map (λ (i : ℕ). suc i) (cond (nat_lt k (length ws)) (Some k) None))
    go true = ap (λ (t : Bool). cond t (Some 0) None) (lt-ltb 0 (length (w ∷ ws)) (omega arith))
    go false = ap (λ (t : Bool). cond t (Some (1 + k)) None) (both k (length ws) (nat_lt k (length ws)) refl) ∙ by (nat_lt k (length ws))

pub link_is : (n : ℕ) (wires : List Wire) → link_with n wires ≡ link_in n wires
link_is n [] = refl
link_is n (w ∷ ws) = ap (λ (at : Option ℕ). wire_if at (w ∷ ws)) (place_front n w ws) ∙ go (w.node == n) (link_is n ws)
  where
    behind : (at : Option ℕ) → wire_if (option_map (λ (k : ℕ). suc k) at) (w ∷ ws) ≡ wire_if at ws
    behind None = refl
    behind (Some k) = refl

    go : (b : Bool) → link_with n ws ≡ link_in n ws
        → wire_if (if b then Some 0 else option_map (λ (k : ℕ). suc k) (place n ws)) (w ∷ ws) ≡ (if b then w else link_in n ws)
    go true rest = refl
    go false rest = behind (place n ws) ∙ rest

pub has_is : (n : ℕ) (wires : List Wire) → is_some (place n wires) ≡ has_link n wires
has_is n [] = refl
has_is n (w ∷ ws) = ap (λ (at : Option ℕ). is_some at) (place_front n w ws) ∙ go (w.node == n) (has_is n ws)
  where
    behind : (at : Option ℕ) → is_some (option_map (λ (k : ℕ). suc k) at) ≡ is_some at
    behind None = refl
    behind (Some k) = refl

    go : (b : Bool) → is_some (place n ws) ≡ has_link n ws
        → is_some (if b then Some 0 else option_map (λ (k : ℕ). suc k) (place n ws)) ≡ (b || has_link n ws)
    go true rest = refl
    go false rest = behind (place n ws) ∙ rest

-- without a link nothing came or went
absent : (n : ℕ) (wires : List Wire) → has_link n wires ≡ false → link_in n wires ≡ new_wire 0
absent n [] e = refl
absent n (w ∷ ws) e = go (w.node == n) e (λ f. absent n ws f)
  where
    go : (b : Bool) → (b || has_link n ws) ≡ false → (has_link n ws ≡ false → link_in n ws ≡ new_wire 0)
        → (if b then w else link_in n ws) ≡ new_wire 0
    go true f rest = cc f
    go false f rest = rest f

-- what one of the linked nodes is, one of the links is with such
pub any_linked : (p : ℕ → Bool) (wires : List Wire) → list_any p (map (λ (w : Wire). w.node) wires) ≡ list_any (λ (w : Wire). p w.node) wires
any_linked p [] = refl
any_linked p (w ∷ ws) = ap (λ (b : Bool). p w.node || b) (any_linked p ws)

-- Where the next node of a name takes the place of the one before it, which is alone of its name
module _ (older next : ℕ) (is : IsNext older next) where
  -- links with nodes of other names stay where they are
  anew_apart : (w : Wire) (m : ℕ) → (name_of m ≡ name_of older → ⊥) → ((opened_anew older next w).node == m) ≡ (w.node == m)
  anew_apart w m apart = go (w.node == older) refl
    where
      go : (b : Bool) → (w.node == older) ≡ b → ((if b then new_wire next else w).node == m) ≡ (w.node == m)
      go true e = ne_eqb next m (λ (same : next ≡ m). apart (ap name_of (sym same) ∙ is.named))
          ∙ sym (ne_eqb w.node m (λ (same : w.node ≡ m). apart (ap name_of (sym same) ∙ ap name_of (eqb-true w.node older e))))
      go false e = refl

  pub alone_stays : (n : ℕ) → (name_of n ≡ name_of older → ⊥) → (wires : List Wire) → list_all (λ w. not (w.node == n)) wires ≡ true
      → list_all (λ w. not (w.node == n)) (map (opened_anew older next) wires) ≡ true
  alone_stays n apart [] e = refl
  alone_stays n apart (w ∷ ws) e =
      let parts = and_parts (not (w.node == n)) (list_all (λ v. not (v.node == n)) ws) e in
      and_from (not ((opened_anew older next w).node == n)) (list_all (λ v. not (v.node == n)) (map (opened_anew older next) ws))
      (ap not (anew_apart w n apart) ∙ parts.0) (alone_stays n apart ws parts.1)

  -- no link is with a node of that name but the one before
  abbrev OnlyOne : List Wire → Type 0
  OnlyOne wires = list_all (λ w. not (name_of w.node == name_of older) || (w.node == older)) wires ≡ true

  only_first : (w : Wire) (ws : List Wire) → OnlyOne (w ∷ ws) → name_of w.node ≡ name_of older → w.node ≡ older
  only_first w ws only same = go (name_of w.node == name_of older) (eq-eqb _ _ same)
      (and_parts (not (name_of w.node == name_of older) || (w.node == older))
      (list_all (λ v. not (name_of v.node == name_of older) || (v.node == older)) ws) only).0
    where
      go : (b : Bool) → b ≡ true → (not b || (w.node == older)) ≡ true → w.node ≡ older
      go true e f = eqb-true w.node older f
      go false e f = cc e

  only_rest : (w : Wire) (ws : List Wire) → OnlyOne (w ∷ ws) → OnlyOne ws
  only_rest w ws only =
      (and_parts (not (name_of w.node == name_of older) || (w.node == older))
      (list_all (λ v. not (name_of v.node == name_of older) || (v.node == older)) ws) only).1

  -- so who is of that name was replaced where it is older, and is where it is older than the next
  younger_at : (w : Wire) (f : ℕ) → name_of f ≡ name_of older → (w.node ≡ older) ⊎ (name_of w.node ≡ name_of older → ⊥)
      → ((name_of w.node == name_of f) && nat_lt f w.node) ≡ ((w.node == older) && nat_lt f older)
  younger_at w f named (inl same) = rw (same, eq-eqb older older refl, eq-eqb (name_of older) (name_of f) (sym named)) refl
  younger_at w f named (inr apart) =
      rw (ne_eqb (name_of w.node) (name_of f) (λ e. apart (e ∙ named)), ne_eqb w.node older (λ e. apart (ap name_of e))) refl

  -- links with nodes of other names are as they were, and replace whom they replaced
  in_apart : (m : ℕ) → (name_of m ≡ name_of older → ⊥) → (wires : List Wire)
      → link_in m (map (opened_anew older next) wires) ≡ link_in m wires
  in_apart m apart [] = refl
  in_apart m apart (w ∷ ws) = go (w.node == older) refl (in_apart m apart ws)
    where
      go : (b : Bool) → (w.node == older) ≡ b → link_in m (map (opened_anew older next) ws) ≡ link_in m ws
          → (if (if b then new_wire next else w).node == m then (if b then new_wire next else w) else link_in m (map (opened_anew older next) ws))
          ≡ (if w.node == m then w else link_in m ws)
      go true e rest = rw (
        ne_eqb next m (λ (same : next ≡ m). apart (ap name_of (sym same) ∙ is.named)),
        ne_eqb w.node m (λ (same : w.node ≡ m). apart (ap name_of (sym same) ∙ ap name_of (eqb-true w.node older e))),
      ) rest
      go false e rest = ap (λ (x : Wire). if w.node == m then w else x) rest

  pub link_apart : (m : ℕ) → (name_of m ≡ name_of older → ⊥) → (wires : List Wire)
      → link_with m (map (opened_anew older next) wires) ≡ link_with m wires
  link_apart m apart wires = link_is m (map (opened_anew older next) wires) ∙ (in_apart m apart wires ∙ sym (link_is m wires))

  -- the link with the next one is new
  in_next : (wires : List Wire) → OnlyOne wires → has_link older wires ≡ true → link_in next (map (opened_anew older next) wires) ≡ new_wire next
  in_next [] only has = cc has
  in_next (w ∷ ws) only has = go (w.node == older) refl has (λ h. in_next ws (only_rest w ws only) h)
    where
      another : (w.node == older) ≡ false → w.node ≡ next → ⊥
      another e same = cc (e, eq-eqb w.node older (only_first w ws only (ap name_of same ∙ is.named)))

      go : (b : Bool) → (w.node == older) ≡ b → (b || has_link older ws) ≡ true
          → (has_link older ws ≡ true → link_in next (map (opened_anew older next) ws) ≡ new_wire next)
          → (if (if b then new_wire next else w).node == next then (if b then new_wire next else w)
          else link_in next (map (opened_anew older next) ws))
          ≡ new_wire next
      go true e h rest = rw (eq-eqb next next refl) refl
      go false e h rest = rw (ne_eqb w.node next (another e)) (rest h)

  pub link_next : (wires : List Wire) → OnlyOne wires → is_some (place older wires) ≡ true
      → link_with next (map (opened_anew older next) wires) ≡ new_wire next
  link_next wires only has = link_is next (map (opened_anew older next) wires) ∙ in_next wires only (sym (has_is older wires) ∙ has)

  -- another node of that name has no link, before or behind the change
  none_before : (m : ℕ) → name_of m ≡ name_of older → (m ≡ older → ⊥) → (wires : List Wire) → OnlyOne wires → has_link m wires ≡ false
  none_before m named other [] only = refl
  none_before m named other (w ∷ ws) only =
      rw (ne_eqb w.node m (λ (same : w.node ≡ m). other (sym same ∙ only_first w ws only (ap name_of same ∙ named))))
      (none_before m named other ws (only_rest w ws only))

  pub link_none : (m : ℕ) → name_of m ≡ name_of older → (m ≡ older → ⊥) → (wires : List Wire) → OnlyOne wires → link_with m wires ≡ new_wire 0
  link_none m named other wires only = link_is m wires ∙ absent m wires (none_before m named other wires only)

  none_behind : (m : ℕ) → name_of m ≡ name_of older → (m ≡ next → ⊥) → (wires : List Wire) → OnlyOne wires
      → has_link m (map (opened_anew older next) wires) ≡ false
  none_behind m named other [] only = refl
  none_behind m named other (w ∷ ws) only = go (w.node == older) refl (none_behind m named other ws (only_rest w ws only))
    where
      go : (b : Bool) → (w.node == older) ≡ b → has_link m (map (opened_anew older next) ws) ≡ false
          → (((if b then new_wire next else w).node == m) || has_link m (map (opened_anew older next) ws)) ≡ false
      go true e rest = rw (ne_eqb next m (λ (same : next ≡ m). other (sym same))) rest
      go false e rest =
          rw (ne_eqb w.node m (λ (same : w.node ≡ m). cc (e, eq-eqb w.node older (only_first w ws only (ap name_of same ∙ named))))) rest

  pub link_gone : (m : ℕ) → name_of m ≡ name_of older → (m ≡ next → ⊥) → (wires : List Wire) → OnlyOne wires
      → link_with m (map (opened_anew older next) wires) ≡ new_wire 0
  link_gone m named other wires only =
      link_is m (map (opened_anew older next) wires) ∙ absent m (map (opened_anew older next) wires) (none_behind m named other wires only)

  -- whom links replace
  younger_apart : (f : ℕ) → (name_of f ≡ name_of older → ⊥) → (wires : List Wire)
      → has_younger f (map (opened_anew older next) wires) ≡ has_younger f wires
  younger_apart f apart [] = refl
  younger_apart f apart (w ∷ ws) = go (w.node == older) refl (younger_apart f apart ws)
    where
      go : (b : Bool) → (w.node == older) ≡ b → has_younger f (map (opened_anew older next) ws) ≡ has_younger f ws
          → (((name_of (if b then new_wire next else w).node == name_of f) && nat_lt f (if b then new_wire next else w).node)
          || has_younger f (map (opened_anew older next) ws))
          ≡ (((name_of w.node == name_of f) && nat_lt f w.node) || has_younger f ws)
      go true e rest = rw (
        ne_eqb (name_of next) (name_of f) (λ (same : name_of next ≡ name_of f). apart (sym same ∙ is.named)),
        ne_eqb (name_of w.node) (name_of f) (λ (same : name_of w.node ≡ name_of f). apart (sym same ∙ ap name_of (eqb-true w.node older e))),
      ) rest
      go false e rest = ap (λ (b : Bool). ((name_of w.node == name_of f) && nat_lt f w.node) || b) rest

  both : (a b c : Bool) → ((a && c) || (b && c)) ≡ ((a || b) && c)
  both true b true = refl
  both true true false = refl
  both true false false = refl
  both false b c = refl

  before_by : (f : ℕ) → name_of f ≡ name_of older → (wires : List Wire) → OnlyOne wires
      → has_younger f wires ≡ (has_link older wires && nat_lt f older)
  before_by f named [] only = refl
  before_by f named (w ∷ ws) only =
      ap (λ (b : Bool). b || has_younger f ws) (younger_at w f named (one (cases_eq (name_of w.node) (name_of older))))
      ∙ (ap (λ (b : Bool). ((w.node == older) && nat_lt f older) || b) (before_by f named ws (only_rest w ws only))
      ∙ both (w.node == older) (has_link older ws) (nat_lt f older))
    where
      one : (name_of w.node ≡ name_of older) ⊎ (name_of w.node ≡ name_of older → ⊥)
          → (w.node ≡ older) ⊎ (name_of w.node ≡ name_of older → ⊥)
      one (inl same) = inl (only_first w ws only same)
      one (inr apart) = inr apart

  younger_before : (f : ℕ) → name_of f ≡ name_of older → (wires : List Wire) → OnlyOne wires → is_some (place older wires) ≡ true
      → has_younger f wires ≡ nat_lt f older
  younger_before f named wires only has =
      before_by f named wires only ∙ ap (λ (b : Bool). b && nat_lt f older) (sym (has_is older wires) ∙ has)

  behind_by : (f : ℕ) → name_of f ≡ name_of older → (wires : List Wire) → OnlyOne wires
      → has_younger f (map (opened_anew older next) wires) ≡ (has_link older wires && nat_lt f next)
  behind_by f named [] only = refl
  behind_by f named (w ∷ ws) only = go (w.node == older) refl (behind_by f named ws (only_rest w ws only))
    where
      go : (b : Bool) → (w.node == older) ≡ b
          → has_younger f (map (opened_anew older next) ws) ≡ (has_link older ws && nat_lt f next)
          → (((name_of (if b then new_wire next else w).node == name_of f) && nat_lt f (if b then new_wire next else w).node)
          || has_younger f (map (opened_anew older next) ws))
          ≡ ((b || has_link older ws) && nat_lt f next)
      go true e rest = rw (eq-eqb (name_of next) (name_of f) (is.named ∙ sym named))
          (ap (λ (b : Bool). nat_lt f next || b) rest ∙ both true (has_link older ws) (nat_lt f next))
      go false e rest = rw (ne_eqb (name_of w.node) (name_of f)
          (λ (same : name_of w.node ≡ name_of f). cc (e, eq-eqb w.node older (only_first w ws only (same ∙ named))))) rest

  younger_behind : (f : ℕ) → name_of f ≡ name_of older → (wires : List Wire) → OnlyOne wires → is_some (place older wires) ≡ true
      → has_younger f (map (opened_anew older next) wires) ≡ nat_lt f next
  younger_behind f named wires only has =
      behind_by f named wires only ∙ ap (λ (b : Bool). b && nat_lt f next) (sym (has_is older wires) ∙ has)

  -- so it is of who was replaced
  any_apart : (m : ℕ) → (name_of m ≡ name_of older → ⊥) → (wires : List Wire)
      → has_link m (map (opened_anew older next) wires) ≡ has_link m wires
  any_apart m apart [] = refl
  any_apart m apart (w ∷ ws) =
      ap (λ (b : Bool). b || has_link m (map (opened_anew older next) ws)) (anew_apart w m apart)
      ∙ ap (λ (b : Bool). (w.node == m) || b) (any_apart m apart ws)

  pub replaced_apart : (f : ℕ) → (name_of f ≡ name_of older → ⊥) → (wires : List Wire)
      → is_replaced f (map (opened_anew older next) wires) ≡ is_replaced f wires
  replaced_apart f apart wires =
      ap (λ (b : Bool). not b && has_younger f (map (opened_anew older next) wires))
      (has_is f (map (opened_anew older next) wires) ∙ (any_apart f apart wires ∙ sym (has_is f wires)))
      ∙ ap (λ (b : Bool). not (is_some (place f wires)) && b) (younger_apart f apart wires)

  pub replaced_before : (f : ℕ) → name_of f ≡ name_of older → (f ≡ older → ⊥) → (wires : List Wire) → OnlyOne wires
      → is_some (place older wires) ≡ true → is_replaced f wires ≡ nat_lt f older
  replaced_before f named other wires only has =
      ap (λ (b : Bool). not b && has_younger f wires) (has_is f wires ∙ none_before f named other wires only)
      ∙ younger_before f named wires only has

  pub replaced_behind : (f : ℕ) → name_of f ≡ name_of older → (f ≡ next → ⊥) → (wires : List Wire) → OnlyOne wires
      → is_some (place older wires) ≡ true → is_replaced f (map (opened_anew older next) wires) ≡ nat_lt f next
  replaced_behind f named other wires only has =
      ap (λ (b : Bool). not b && has_younger f (map (opened_anew older next) wires))
      (has_is f (map (opened_anew older next) wires) ∙ none_behind f named other wires only)
      ∙ younger_behind f named wires only has

  -- the next one has a link then
  has_next : (wires : List Wire) → has_link older wires ≡ true → has_link next (map (opened_anew older next) wires) ≡ true
  has_next [] has = cc has
  has_next (w ∷ ws) has = go (w.node == older) has (λ h. has_next ws h)
    where
      go : (b : Bool) → (b || has_link older ws) ≡ true
          → (has_link older ws ≡ true → has_link next (map (opened_anew older next) ws) ≡ true)
          → (((if b then new_wire next else w).node == next) || has_link next (map (opened_anew older next) ws)) ≡ true
      go true h rest = rw (eq-eqb next next refl) refl
      go false h rest = or_right (w.node == next) (has_link next (map (opened_anew older next) ws)) (rest h)

  pub next_linked : (wires : List Wire) → is_some (place older wires) ≡ true
      → is_some (place next (map (opened_anew older next) wires)) ≡ true
  next_linked wires has = has_is next (map (opened_anew older next) wires) ∙ has_next wires (sym (has_is older wires) ∙ has)
