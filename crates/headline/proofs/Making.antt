-- Each entry is made by the node of its step, and by a letter where it needs one.
use Rattle.std.proofs.Common.{ℕ, Bool, true, ◌==◌, ◌≡◌, None, List, [], ◌∷◌, ◌++◌, refl, sym, ap, ◌∙◌, subst, inl, inr}
use Rattle.std.specs.Prelude.{not, ◌&&◌, ◌||◌, Contains}
use Rattle.std.specs.List.{list_all}
use Rattle.std.proofs.lemmas.Bool.{eq-eqb, eqb-true, and_parts, and_from}
use Rattle.std.proofs.lemmas.List.Elements.{Contains-push_cases}
use Rattle.std.proofs.lemmas.List.Folds.{list_all-append}
use Rattle.registry_model.specs.Process.{Process}
use Rattle.registry_model.specs.History.{Entry}
use Rattle.registry_model.proofs.Lists.{Contains-nil}
use Rattle.protocol_model.proofs.Finding.{item_passes}
use Rattle.protocol_model.specs.Round.{Round}
use Rattle.protocol_model.specs.Letter.{Letter}
use Rattle.protocol_model.specs.Node.{Current}
use Rattle.protocol_model.specs.Event.{Call, Event}
use Rattle.protocol_model.specs.World.{Opening, World, WorldEvent, At, Deliver, place, join_number, opening_world, refusal, turn_of, accepted}
use Rattle.protocol_model.specs.Course.{Played, played, course}
use Rattle.protocol_model.specs.Fit.{maker_of, is_by_letter, is_delivery, IsMadeIn}
use Rattle.moves.proofs.Rules
use Rattle.moves.proofs.Rules.{Rule, Walked}
use Rattle.walk.proofs.ChainKinds.{is_allowed}
use Rattle.walk.proofs.Walk.{OrderedWalk, walked_in_order}
use Rattle.replicas.proofs.Scenes.{struck_by, struck_of, scene_of, AreStruck}
use Rattle.fitting.proofs.Made.{entered, entries_made}
use Rattle.headline.proofs.Together.{Whole, widens, rule_whole, course_keeps}

-- the entry is of node a, and is made by a letter where it needs one
abbrev pub is_made : ℕ → Bool → Entry → Bool
is_made a delivered e = (maker_of e == a) && (not (is_by_letter e) || delivered)

-- an entry that needs no letter
made_freely : (a b : ℕ) → b ≡ a → ((b == a) && true && true) ≡ true
made_freely a b e = ap (λ (t : Bool). t && true && true) (eq-eqb b a e)

-- an entry that needs one
made_by_letter : (a b : ℕ) (delivered : Bool) → b ≡ a → delivered ≡ true → ((b == a) && delivered && true) ≡ true
made_by_letter a b delivered e d = ap (λ (t : Bool). t && delivered && true) (eq-eqb b a e)
    ∙ ap (λ (t : Bool). t && true) d

-- a node strikes processes of its own
pub strikes_own : (o : Opening) (a : ℕ) (w : World) (p : Process) (r : Round) → Whole o w
    → Rules.May o a w (Rules.Strikes p r) → p.node ≡ a
strikes_own o a w p r W m = (subst
    (λ (x : Current). AreStruck o (scene_of o w) a (struck_by x ++ struck_of (w.node a).queue))
    m.tested.current (W.kept.known.kept.struck a)).0.0

module _ (o : Opening) (a : ℕ) (delivered : Bool) where
  -- the entries of a rule are so
  rule_made : (w : World) (r : Rule) → Whole o w → Rules.May o a w r → is_allowed delivered r ≡ true
      → list_all (is_made a delivered) (entered a (join_number w) r (w.node a)) ≡ true
  rule_made w (Rules.LooksUp look) W m d = made_freely a a refl
  rule_made w (Rules.Exits p) W m d = made_freely a p.node (eqb-true p.node a own)
    where
      own : (p.node == a) ≡ true
      own = (and_parts (p.node == a) (not (p.serial == 0))
          (and_parts ((p.node == a) && not (p.serial == 0)) _ m.tested.0).0).0
  rule_made w (Rules.SkipsJoin k c ops) W m d = made_freely a a refl
  rule_made w (Rules.Grants k call r) W m d = made_by_letter a a delivered refl d
  rule_made w (Rules.Denies k call r) W m d = made_by_letter a a delivered refl d
  rule_made w (Rules.Strikes p r) W m d = made_by_letter a p.node delivered (strikes_own o a w p r W m) d
  rule_made w (Rules.Admits j pairs r) W m d = made_by_letter a a delivered refl d
  rule_made w (Rules.Finishes op asked awaited reply) W m d = made_by_letter a a delivered refl d
  rule_made w (Rules.RefusesJoin f pairs) W m d = made_by_letter a a delivered refl d
  rule_made w (Rules.IsTold f) W m d = made_freely a a refl
  rule_made w (Rules.LosesContact k c) W m d = made_freely a a refl
  rule_made w Rules.Leaves W m d = made_freely a a refl
  rule_made w _ W m d = refl

  -- and those of a chain
  chain_made : (rs : List Rule) (w : World) → Whole o w → Rules.MayAll o a rs w
      → list_all (is_allowed delivered) rs ≡ true
      → list_all (is_made a delivered) (Rules.entries_by o a rs w) ≡ true
  chain_made [] w W m d = refl
  chain_made (r ∷ rs) w W m d =
      let parts : (is_allowed delivered r ≡ true) × (list_all (is_allowed delivered) rs ≡ true) =
      and_parts (is_allowed delivered r) (list_all (is_allowed delivered) rs) d in
      list_all-append (is_made a delivered) (Rules.turn_by o a w r).entries
      (Rules.entries_by o a rs (Rules.effect o a r w))
      ∙ and_from _ _ (ap (list_all (is_made a delivered)) (entries_made o a (join_number w) r (w.node a))
      ∙ rule_made w r W m.0 parts.0)
      (chain_made rs (Rules.effect o a r w) (rule_whole o a w r W m.0) m.1 parts.1)

-- an event's own rule settles nothing
first_allowed : (o : Opening) (w : World) (e : WorldEvent)
    → list_all (is_allowed (is_delivery e)) (Rules.first_by o (place e) w e) ≡ true
first_allowed o w (At a (Event.Calling Call.Spawn)) = refl
first_allowed o w (At a (Event.Calling (Call.LookUp look))) = refl
first_allowed o w (At a (Event.Calling (Call.OnName c))) = refl
first_allowed o w (At a (Event.Calling (Call.SetLock p r q target retries))) = refl
first_allowed o w (At a (Event.Calling (Call.DelLock p r q target))) = refl
first_allowed o w (At a (Event.Calling (Call.JoinBy m))) = refl
first_allowed o w (At a Event.Retry) = refl
first_allowed o w (At a (Event.Exiting p)) = refl
first_allowed o w (At a Event.Leave) = refl
first_allowed o w (Deliver f t) = go (w.links.queue f t)
  where
    go : (ls : List Letter) → list_all (is_allowed true) (Rules.first_by_letter o t f ls) ≡ true
    go (Letter.Down ∷ ls) = refl
    go [] = refl
    go (_ ∷ ls) = refl

-- the entries of an accepted event are so
pub event_made : (o : Opening) (w : World) (e : WorldEvent) → Whole o w → refusal o w e ≡ None
    → list_all (is_made (place e) (is_delivery e)) (turn_of o w e).entries ≡ true
event_made o w e W r = ap (list_all (is_made (place e) (is_delivery e))) (sym h.walk.entries)
    ∙ chain_made o (place e) (is_delivery e) (Rules.first_by o (place e) w e ++ h.walk.rest) w W h.walk.may
    (list_all-append (is_allowed (is_delivery e)) (Rules.first_by o (place e) w e) h.walk.rest
    ∙ and_from _ _ (first_allowed o w e) h.allowed)
  where
    h : OrderedWalk o w e
    h = walked_in_order o w e W.ordered (widens o w W.kept W.once) r

-- all entries of these events are made so
abbrev pub AreMade : List Played → World → Type 0
AreMade ps w = (p : Played) (e : Entry) → Contains ps p → Contains p.entries e → IsMadeIn p e

-- each accepted event
made_keeps : (o : Opening) (ps : List Played) (w : World) (e : WorldEvent) → AreMade ps w → Whole o w
    → Whole o (accepted o w e) → refusal o w e ≡ None → Walked o w e
    → AreMade (ps ++ played o w e ∷ []) (accepted o w e)
made_keeps o ps w e S W V r H p x c d = elim (Contains-push_cases ps (played o w e) p c) [
  | inl before ↦ S p x before d
  | inr q ↦ subst (λ (y : Played). Contains y.entries x → IsMadeIn y x) q now d
]
  where
    now : Contains (played o w e).entries x → IsMadeIn (played o w e) x
    now k =
        let all : is_made (place e) (is_delivery e) x ≡ true =
        item_passes (is_made (place e) (is_delivery e)) (turn_of o w e).entries x (event_made o w e W r) k in
        let parts : ((maker_of x == place e) ≡ true) × ((not (is_by_letter x) || is_delivery e) ≡ true) =
        and_parts (maker_of x == place e) (not (is_by_letter x) || is_delivery e) all in
        record {
          place = eqb-true (maker_of x) (place e) parts.0;
          letter = λ i. sym (ap (λ (b : Bool). not b || is_delivery e) i) ∙ parts.1;
        }

-- Each entry is made by the node of its step, and by a letter where it needs one
pub made : (o : Opening) (es : List WorldEvent) (p : Played) (e : Entry)
    → Contains (course o (opening_world o) es) p → Contains p.entries e → IsMadeIn p e
made o es = course_keeps o AreMade (made_keeps o) begins es
  where
    begins : AreMade [] (opening_world o)
    begins p e c d = absurd (Contains-nil p c)
