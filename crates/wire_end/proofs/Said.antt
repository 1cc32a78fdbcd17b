-- What is said by nodes that an end knows of is what its node relies on, and stays so where it knows of more.
use Rattle.std.proofs.Common.{ℕ, Bool, true, false, ◌≡◌, ◌==◌, inl, inr, Option, Some, None, Ok, List, [], ◌∷◌, refl, sym, ap, subst, ◌∙◌}
use Rattle.std.specs.Prelude.{not, ◌&&◌}
use Rattle.std.specs.List.{list_all}
use Rattle.std.proofs.lemmas.Bool.{and_from, and_parts, eq-eqb, eqb-true, not-true, or_cases, or_left, or_right}
use Rattle.registry_model.specs.Process.{Nodes}
use Rattle.registry_model.specs.Table.{Table, is_rising}
use Rattle.protocol_model.specs.Letter.{Letter as AnyLetter}
use Rattle.term.specs.NodeSets.{set_of, with_older}
use Rattle.term.proofs.Older.{held, reached, reaching, closed}
use Rattle.letter_lines.specs.declared.Letter.{Letter}
use Rattle.letter_lines.specs.declared.Letter.TheVariants as letter
use Rattle.letter_lines.specs.declared.part.Part.{Part}
use Rattle.letter_lines.specs.declared.part.Part.TheVariants as part
use Rattle.letter_lines.specs.Gathered.{Gathered, Taken, Takes, taken, kept, kept_where, ends_where, has_room, is_nothing, is_of_pairs, is_for_members, is_for_joiner, settled_of, fate_of}
use Rattle.letter_lines.specs.Letters.{letter_of}
use Rattle.node_loop.specs.NodeCoreState.{HaveStarted}
use Rattle.node_loop.specs.NodeCoreSteps.{IsSaidBy}
use Rattle.wire_end.specs.Saying.{all_started, greets, is_said, is_said_by}

-- what holds of all holds of each that is listed, and the other way round
of_all : (p : ℕ → Bool) (xs : List ℕ) → list_all p xs ≡ true → (c : ℕ) → set_of xs c ≡ true → p c ≡ true
of_all p [] all c here = cc here
of_all p (x ∷ xs) all c here =
    let parts = and_parts (p x) (list_all p xs) all in
    elim (or_cases (x == c) (set_of xs c) here) [
      | inl same ↦ ap p (sym (eqb-true x c same)) ∙ parts.0
      | inr behind ↦ of_all p xs parts.1 c behind
    ]

all_of : (p : ℕ → Bool) (xs : List ℕ) → ((c : ℕ) → set_of xs c ≡ true → p c ≡ true) → list_all p xs ≡ true
all_of p [] each = refl
all_of p (x ∷ xs) each =
    and_from (p x) (list_all p xs) (each x (or_left (x == x) (set_of xs x) (eq-eqb x x refl)))
    (all_of p xs (λ c e. each c (or_right (x == c) (set_of xs c) e)))

-- a welcome with these members, names and told nodes is one to node a
record Greets (world : List ℕ) (a : ℕ) (ms : Nodes) (pairs : Table) (gone : Nodes) : Type 0 where
  pub members : HaveStarted world ms
  pub told : HaveStarted world gone
  pub self : ms a ≡ true
  pub here : not (gone a) ≡ true
  pub rising : is_rising pairs ≡ true

module _ (world : List ℕ) where
  -- with those who have left, all older ones of their names have started
  older_started : (told : List ℕ) → all_started world told ≡ true → HaveStarted world (with_older told)
  older_started told h c e =
      let r = reached told c e in closed world c r.0 (of_all (with_older world) told h r.0 r.1) (sym r.2) r.3

  greeted : (a : ℕ) (members : List ℕ) (pairs : Table) (told : List ℕ) → greets world a members pairs told ≡ true
      → Greets world a (set_of members) pairs (with_older told)
  greeted a members pairs told h =
      let last : Bool = not (with_older told a) && is_rising pairs in
      let one = and_parts (all_started world members) (all_started world told && (set_of members a && last)) h in
      let two = and_parts (all_started world told) (set_of members a && last) one.1 in
      let three = and_parts (set_of members a) last two.1 in
      let four = and_parts (not (with_older told a)) (is_rising pairs) three.1 in
      record {
        members = of_all (with_older world) members one.0;
        told = older_started told two.0;
        self = three.0;
        here = four.0;
        rising = four.1;
      }

  greeting : (a : ℕ) (members : List ℕ) (pairs : Table) (told : List ℕ) → Greets world a (set_of members) pairs (with_older told)
      → greets world a members pairs told ≡ true
  greeting a members pairs told g =
      let last : Bool = not (with_older told a) && is_rising pairs in
      and_from (all_started world members) (all_started world told && (set_of members a && last)) (all_of (with_older world) members g.members)
      (and_from (all_started world told) (set_of members a && last)
      (all_of (with_older world) told (λ c e. g.told c (held told c e)))
      (and_from (set_of members a) last g.self (and_from (not (with_older told a)) (is_rising pairs) g.here g.rising)))

  -- so it is what a node relies on, of a node that has started
  pub said_by : (a f : ℕ) (l : Letter) → with_older world f ≡ true → is_said world a f l ≡ true → IsSaidBy world a f l
  said_by a f (letter.Admit body) from h = h
  said_by a f (letter.Welcome w) from h =
      let g = greeted a w.value.members w.value.pairs.items w.value.told h in
      record {
        members = g.members;
        told = g.told;
        self = g.self;
        here = not-true (with_older w.value.told a) g.here;
        rising = g.rising;
      }
  said_by a f letter.Down from h = (from, not-true (f == a) h)
  said_by a f (letter.SetLock id p) from h = tt
  said_by a f (letter.LockAnswer id p granted) from h = tt
  said_by a f (letter.GiveBack id p ack) from h = tt
  said_by a f (letter.GivenBack p) from h = tt
  said_by a f (letter.ReleaseOf p) from h = tt
  said_by a f (letter.Apply change) from h = tt
  said_by a f letter.Applied from h = tt
  said_by a f (letter.JoinAsk pairs) from h = from
  said_by a f letter.JoinRefused from h = tt

-- where who has started by these has started by those, what is said by these is said by those
module _ (xs world : List ℕ) (more : (c : ℕ) → with_older xs c ≡ true → with_older world c ≡ true) where
  greets_more : (a : ℕ) (members : List ℕ) (pairs : Table) (told : List ℕ) → greets xs a members pairs told ≡ true
      → greets world a members pairs told ≡ true
  greets_more a members pairs told h =
      let g = greeted xs a members pairs told h in
      greeting world a members pairs told (record {
        members = λ c e. more c (g.members c e);
        told = λ c e. more c (g.told c e);
        self = g.self;
        here = g.here;
        rising = g.rising;
      })

  pub said_more : (a f : ℕ) (l : Letter) → is_said xs a f l ≡ true → is_said world a f l ≡ true
  said_more a f (letter.Admit body) h = more body.joiner h
  said_more a f (letter.Welcome w) h = greets_more a w.value.members w.value.pairs.items w.value.told h
  said_more a f letter.Down h = h
  said_more a f (letter.SetLock id p) h = refl
  said_more a f (letter.LockAnswer id p granted) h = refl
  said_more a f (letter.GiveBack id p ack) h = refl
  said_more a f (letter.GivenBack p) h = refl
  said_more a f (letter.ReleaseOf p) h = refl
  said_more a f (letter.Apply change) h = refl
  said_more a f letter.Applied h = refl
  said_more a f (letter.JoinAsk pairs) h = refl
  said_more a f letter.JoinRefused h = refl

-- so it is where all of these are of those
pub said_among : (xs world : List ℕ) → list_all (set_of world) xs ≡ true → (a f : ℕ) (l : Letter) → is_said xs a f l ≡ true
    → is_said world a f l ≡ true
said_among xs world among =
    said_more xs world (λ c h. let r = reached xs c h in reaching world r.0 c (of_all (set_of world) xs among r.0 r.1) r.2 r.3)

-- no letter ends with an item, and a letter that a part ends is the one that it says
abbrev ended : Taken → Option AnyLetter
ended None = None
ended (Some t) = t.1

kept_ends : (g h : Gathered) (l : AnyLetter) → kept g ≡ Some (h, Some l) → ⊥
kept_ends g h l e =
    let none : ended (kept g) ≡ Some l = ap ended e in
    cc none

where_ends : (b : Bool) (g h : Gathered) (l : AnyLetter) → kept_where b g ≡ Some (h, Some l) → ⊥
where_ends true g h l e = kept_ends g h l e
where_ends false g h l e = cc e

ends : (b : Bool) (x : AnyLetter) (h : Gathered) (l : AnyLetter) → ends_where b x ≡ Some (h, Some l) → x ≡ l
ends true x h l e =
    let some : ended (ends_where true x) ≡ Some l = ap ended e in
    cc some
ends false x h l e = absurd (cc e)

-- what is to hold of a letter as the protocol has it, that another node says
abbrev IsSaidAs : List ℕ → ℕ → AnyLetter → Type 0
IsSaidAs world a (AnyLetter.Admit j settled) = with_older world j ≡ true
IsSaidAs world a (AnyLetter.Welcome members pairs told fate) = Greets world a members pairs told
IsSaidAs world a _ = Unit {0}

module _ (world : List ℕ) (a : ℕ) where
  -- it holds of the letter that a part ends
  by_part : (p : Part) (g h : Gathered) (l : AnyLetter) → is_said_by world a p g ≡ true → taken p g ≡ Some (h, Some l) → IsSaidAs world a l
  by_part (part.Pair x) g h l fits e = absurd (kept_ends _ h l e)
  by_part (part.Put x) g h l fits e = absurd (kept_ends _ h l e)
  by_part (part.Remove x) g h l fits e = absurd (kept_ends _ h l e)
  by_part (part.Kill p) g h l fits e = absurd (kept_ends _ h l e)
  by_part (part.Notice n) g h l fits e = absurd (kept_ends _ h l e)
  by_part (part.Member n) g h l fits e = absurd (where_ends (has_room g.members n) _ h l e)
  by_part (part.Told n) g h l fits e = absurd (where_ends (has_room g.told n) _ h l e)
  by_part (part.SetLock id p) g h l fits e = subst (IsSaidAs world a) (ends (is_nothing g) (letter_of (letter.SetLock id p)) h l e) tt
  by_part (part.LockAnswer id p granted) g h l fits e =
      subst (IsSaidAs world a) (ends (is_nothing g) (letter_of (letter.LockAnswer id p granted)) h l e) tt
  by_part (part.GiveBack id p ack) g h l fits e =
      subst (IsSaidAs world a) (ends (is_nothing g) (letter_of (letter.GiveBack id p ack)) h l e) tt
  by_part (part.GivenBack p) g h l fits e = subst (IsSaidAs world a) (ends (is_nothing g) (letter_of (letter.GivenBack p)) h l e) tt
  by_part (part.ReleaseOf p) g h l fits e = subst (IsSaidAs world a) (ends (is_nothing g) (letter_of (letter.ReleaseOf p)) h l e) tt
  by_part (part.Apply change) g h l fits e = subst (IsSaidAs world a) (ends (is_nothing g) (letter_of (letter.Apply change)) h l e) tt
  by_part part.Applied g h l fits e = subst (IsSaidAs world a) (ends (is_nothing g) AnyLetter.Applied h l e) tt
  by_part part.JoinAsk g h l fits e = subst (IsSaidAs world a) (ends (is_of_pairs g) (AnyLetter.JoinAsk g.pairs) h l e) tt
  by_part part.JoinRefused g h l fits e = subst (IsSaidAs world a) (ends (is_nothing g) AnyLetter.JoinRefused h l e) tt
  by_part (part.Admit n) g h l fits e =
      subst (IsSaidAs world a) (ends (is_for_members g) (AnyLetter.Admit n (settled_of g)) h l e) fits
  by_part part.Welcome g h l fits e =
      subst (IsSaidAs world a)
      (ends (is_for_joiner g) (AnyLetter.Welcome (set_of g.members) g.pairs (with_older g.told) (fate_of g)) h l e)
      (greeted world a g.members g.pairs g.told fits)
  by_part part.Down g h l fits e = subst (IsSaidAs world a) (ends (is_nothing g) AnyLetter.Down h l e) tt

  -- so of each letter of another node that is so
  by_letter : (f : ℕ) (l : Letter) → (f == a) ≡ false → IsSaidAs world a (letter_of l) → is_said world a f l ≡ true
  by_letter f (letter.Admit body) other s = s
  by_letter f (letter.Welcome w) other s = greeting world a w.value.members w.value.pairs.items w.value.told s
  by_letter f letter.Down other s = ap not other
  by_letter f (letter.SetLock id p) other s = refl
  by_letter f (letter.LockAnswer id p granted) other s = refl
  by_letter f (letter.GiveBack id p ack) other s = refl
  by_letter f (letter.GivenBack p) other s = refl
  by_letter f (letter.ReleaseOf p) other s = refl
  by_letter f (letter.Apply change) other s = refl
  by_letter f letter.Applied other s = refl
  by_letter f (letter.JoinAsk pairs) other s = refl
  by_letter f letter.JoinRefused other s = refl

-- the letter of another node that ends with a part is one that this node relies on, where that part says so
pub fits_said : (world : List ℕ) (a f : ℕ) (p : Part) (g h : Gathered) (l : Letter) → (f == a) ≡ false → is_said_by world a p g ≡ true
    → Takes p g h (Ok (Some l)) → is_said world a f l ≡ true
fits_said world a f p g h l other fits takes = by_letter world a f l other (by_part world a p g h (letter_of l) fits takes)
