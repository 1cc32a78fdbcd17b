-- Who refuses a join shows that it isn't joined.
use mathlib.Core.Logic.{inl, inr}
use Rattle.std.proofs.Common.{ℕ, Bool, true, false, ◌≡◌, Option, Some, None, List, [], ◌∷◌, ◌++◌, refl, sym, ap, ◌∙◌, subst}
use Rattle.std.specs.Prelude.{Contains, is_none, if◌then◌else◌}
use Rattle.std.proofs.lemmas.List.{append_cancel_left}
use Rattle.std.proofs.lemmas.List.Elements.{Contains-append_cases, Contains-append_right}
use Rattle.registry_model.specs.Call.{Reply, NotMember}
use Rattle.registry_model.specs.History.{Entry, Join}
use Rattle.registry_model.proofs.Lists.{Contains-cases, Contains-front, Contains-nil}
use Rattle.protocol_model.specs.Round.{opens}
use Rattle.protocol_model.specs.LockTable.{is_free_for}
use Rattle.protocol_model.specs.Node.{Node, Op}
use Rattle.protocol_model.specs.Turn.{Turn, begun}
use Rattle.protocol_model.specs.Registrar.{answer_op}
use Rattle.protocol_model.specs.Client.{is_spent}
use Rattle.protocol_model.specs.Event.{Event, Refusal}
use Rattle.protocol_model.specs.World.{Opening, World, WorldEvent, At, Deliver, place, join_number, turn_of, accepted}
use Rattle.creations.proofs.Rules
use Rattle.creations.proofs.Rules.{Rule}
use Rattle.walk.proofs.Joins.{admitted-joined}
use Rattle.walk.proofs.Walk.{OrderedWalk, walked_in_order}
use Rattle.creations.proofs.Made.{entered, entries_made}
use Rattle.creations.specs.Clauses.{world}
use Rattle.creations.proofs.OpenCalls.{node_behind}
use Rattle.creations.proofs.Together.{Whole, widens}
use Rattle.creations.proofs.Theorem.{whole}
use Rattle.history_words.specs.Entries.{RefusesWhileLone}

-- a turn behind which the node shows that it is joined
abbrev Joined : Turn → Type 0
Joined u = u.node.replica.joined ≡ true

joined-if : (b : Bool) (u v : Turn) → Joined u → Joined v → Joined (if b then u else v)
joined-if true u v x y = x
joined-if false u v x y = y

joined-answer_op : (n a : ℕ) (op : Op) (reply : Option Reply) (u : Turn) → Joined u → Joined (answer_op n a op reply u)
joined-answer_op n a (Op.Name k call) (Some reply) u j = j
joined-answer_op n a (Op.Name k call) None u j = j
joined-answer_op n a _ reply u j = j

-- no rule ends a membership
joined_made : (o : Opening) (a : ℕ) (number : ℕ → ℕ) (r : Rule) (v : Node) → v.replica.joined ≡ true
    → Joined (Rules.made o a number r (begun v))
joined_made o a number (Rules.HearsAnswer f id granted op r) v j = joined-if (opens f granted r) _ _ j j
joined_made o a number (Rules.Finishes op asked awaited reply) v j = joined-answer_op o.bound a op reply _ j
joined_made o a number (Rules.Denies k call r) v j = j
joined_made o a number (Rules.Judges f id p) v j = joined-if (is_free_for id p v.locks) _ _ j j
joined_made o a number (Rules.TakesBack f id p ack) v j = joined-if ack _ _ j j
joined_made o a number (Rules.HearsLock f id granted c r) v j = joined-if (opens f granted r) _ _ j j
joined_made o a number (Rules.GivesUpLock c r granted) v j = joined-if (is_spent c.retries) _ _ j j
joined_made o a number (Rules.IsAdmitted f i settled) v j = admitted-joined a i settled v.replica ∙ j
joined_made o a number (Rules.IsWelcomed f k members pairs told fate) v j = refl
joined_made o a number _ v j = j

-- a list of one has that one alone
one : (e f : Entry) → Contains (e ∷ []) f → e ≡ f
one e f c = elim (Contains-cases e [] f c) [ inl same ↦ same | inr none ↦ absurd (Contains-nil f none) ]

module _ (o : Opening) (a : ℕ) where
  -- node a isn't joined, and is m
  record IsLone (w : World) (m : ℕ) : Type 0 where
    pub here : m ≡ a
    pub lone : (w.node a).replica.joined ≡ false

  rule_lone : (w : World) (r : Rule) → Rules.May o a w r → (j k m : ℕ)
      → Contains (entered a (join_number w) r (w.node a)) (Join j k m NotMember) → IsLone w m
  rule_lone w (Rules.RefusesJoin f pairs) M j k m c =
      let same : Join f (join_number w f) a NotMember ≡ Join j k m NotMember =
      one (Join f (join_number w f) a NotMember) (Join j k m NotMember) c in
      record { here = cc same; lone = M.tested.1 }
  rule_lone w (Rules.LooksUp look) M j k m c = absurd (cc (one _ (Join j k m NotMember) c))
  rule_lone w (Rules.Exits p) M j k m c = absurd (cc (one _ (Join j k m NotMember) c))
  rule_lone w (Rules.SkipsJoin i n ops) M j k m c = absurd (cc (one _ (Join j k m NotMember) c))
  rule_lone w (Rules.Grants i call r) M j k m c = absurd (cc (one _ (Join j k m NotMember) c))
  rule_lone w (Rules.Denies i call r) M j k m c = absurd (cc (one _ (Join j k m NotMember) c))
  rule_lone w (Rules.Strikes p r) M j k m c = absurd (cc (one _ (Join j k m NotMember) c))
  rule_lone w (Rules.Admits i pairs r) M j k m c = absurd (cc (one _ (Join j k m NotMember) c))
  rule_lone w (Rules.Finishes op asked awaited reply) M j k m c = absurd (cc (one _ (Join j k m NotMember) c))
  rule_lone w (Rules.IsTold f) M j k m c = absurd (cc (one _ (Join j k m NotMember) c))
  rule_lone w (Rules.LosesContact i n) M j k m c = absurd (cc (one _ (Join j k m NotMember) c))
  rule_lone w Rules.Leaves M j k m c = absurd (cc (one _ (Join j k m NotMember) c))
  rule_lone w _ M j k m c = absurd (Contains-nil (Join j k m NotMember) c)

  -- who isn't joined behind a rule wasn't before it
  lone_before : (w : World) (r : Rule) → ((Rules.effect o a r w).node a).replica.joined ≡ false → (w.node a).replica.joined ≡ false
  lone_before w r e = go (w.node a).replica.joined refl
    where
      go : (b : Bool) → (w.node a).replica.joined ≡ b → b ≡ false
      go true j = cc (
        e,
        ap (λ (v : Node). v.replica.joined) (node_behind o a w r),
        joined_made o a (join_number w) r (w.node a) j,
      )
      go false j = refl

  chain_lone : (rs : List Rule) (w : World) → Rules.MayAll o a rs w → (j k m : ℕ)
      → Contains (Rules.entries_by o a rs w) (Join j k m NotMember) → IsLone w m
  chain_lone [] w M j k m c = absurd (Contains-nil (Join j k m NotMember) c)
  chain_lone (r ∷ rs) w M j k m c =
      elim (Contains-append_cases (Rules.turn_by o a w r).entries (Rules.entries_by o a rs (Rules.effect o a r w))
      (Join j k m NotMember) c) [
        | inl here ↦ rule_lone w r M.0 j k m (subst (λ (es : List Entry). Contains es (Join j k m NotMember))
            (entries_made o a (join_number w) r (w.node a)) here)
        | inr there ↦
            let L : IsLone (Rules.effect o a r w) m = chain_lone rs (Rules.effect o a r w) M.1 j k m there in
            record { here = L.here; lone = lone_before w r L.lone }
      ]

-- what an accepted event enters stands behind the history
pub entered_behind : (o : Opening) (w : World) (e : WorldEvent) → (accepted o w e).history ≡ w.history ++ (turn_of o w e).entries
entered_behind o w (At a (Event.Calling c)) = refl
entered_behind o w (At a Event.Retry) = refl
entered_behind o w (At a (Event.Exiting p)) = refl
entered_behind o w (At a Event.Leave) = refl
entered_behind o w (Deliver f t) = refl

pub refuses_while_lone : RefusesWhileLone
refuses_while_lone o es e earlier later j k m r s = ap (λ (n : ℕ). (w.node n).replica.joined) L.here ∙ L.lone
  where
    w : World
    w = world o es

    refused : Entry
    refused = Join j k m NotMember

    W : Whole o w
    W = whole o es

    h : OrderedWalk o w e
    h = walked_in_order o w e W.ordered (widens o w W.kept W.once) r

    is_new : earlier ++ refused ∷ later ≡ (turn_of o w e).entries
    is_new = append_cancel_left w.history (earlier ++ refused ∷ later) (turn_of o w e).entries
        (sym s ∙ ap (λ (x : Option Refusal). (if is_none x then accepted o w e else w).history) r ∙ entered_behind o w e)

    among : Contains (turn_of o w e).entries refused
    among = subst (λ (xs : List Entry). Contains xs refused) is_new
        (Contains-append_right earlier (refused ∷ later) refused (Contains-front refused later))

    L : IsLone o (place e) w m
    L = chain_lone o (place e) (Rules.first_by o (place e) w e ++ h.walk.rest) w h.walk.may j k m
        (subst (λ (xs : List Entry). Contains xs refused) (sym h.walk.entries) among)
