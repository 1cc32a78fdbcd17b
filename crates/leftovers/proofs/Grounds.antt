-- All that is known of a world already, rule by rule, and how more is shown of every world that events make.
use Rattle.std.proofs.Common.{ℕ, ◌≡◌, Option, Some, None, List, [], ◌∷◌, refl}
use Rattle.std.specs.Prelude.{is_none, if◌then◌else◌}
use Rattle.protocol_model.specs.Event.{Refusal}
use Rattle.protocol_model.specs.World.{Opening, World, WorldEvent, opening_world, refusal, accepted, run}
use Rattle.headline.proofs.Rules
use Rattle.headline.proofs.Rules.{Rule, Ordered, Walked}
use Rattle.headline.proofs.Invariants.{Proper, Replicas, JoinsKnown}
use Rattle.walk.proofs.Receiving.{WelcomeWidens}
use Rattle.walk.proofs.Runs
use Rattle.walk.proofs.Orders.{ordered_keeps, ordered_opens}
use Rattle.walk.proofs.Joins.{JoinsOnce, joins_once_opens, joins_once_keeps}
use Rattle.headline.proofs.ClientLocksClients.{Numbers, Clients}
use Rattle.headline.proofs.Numbers.{num_by}
use Rattle.headline.proofs.Keeping.{clients_keeps}
use Rattle.headline.proofs.Opening.{no_numbers, clients_opens}
use Rattle.headline.proofs.Walking.{State, run_state, opening_state}
use Rattle.headline.proofs.RoundNumbers
use Rattle.headline.proofs.Clients.{grounds}
use Rattle.headline.proofs.Together
use Rattle.headline.proofs.Together.{All, all_opens, all_keeps, widens}

module _ (o : Opening) where
  -- what other crates know of a world
  pub record Base (w : World) : Type 0 where
    pub all : All o w
    pub once : JoinsOnce w
    pub ordered : Ordered w
    pub num : Numbers
    pub clients : Clients o w num

  pub base_opens : Base (opening_world o)
  base_opens = record {
    all = all_opens o;
    once = joins_once_opens o;
    ordered = ordered_opens o;
    num = no_numbers;
    clients = clients_opens o;
  }

  pub base_keeps : (a : ℕ) (w : World) (r : Rule) → Base w → Rules.May o a w r → Base (Rules.effect o a r w)
  base_keeps a w r B m = record {
    all = all_keeps o a w r B.all B.ordered m;
    once = joins_once_keeps o a w r B.once m;
    ordered = ordered_keeps o a w r B.ordered m;
    num = num_by a r w B.num;
    clients = clients_keeps o a w B.num B.all.proper B.ordered B.clients r m;
  }

  pub proper : (w : World) → Base w → Proper o w
  proper w B = B.all.proper

  pub replicas : (w : World) → Base w → Replicas o w
  replicas w B = Together.replicas o w B.all

  pub wide : (w : World) → Base w → WelcomeWidens o w
  wide w B = widens o w B.all B.once

  pub heard_joins : (w : World) → Base w → JoinsKnown o w
  heard_joins w B = Together.heard_joins o w B.all

  -- clients' locks by the numbers of their rounds, after every list of events
  pub lock_state : (es : List WorldEvent)
      → State o (All o) (grounds o) (run o (opening_world o) es) (λ p id x. RoundNumbers.round_count o es p id x)
  lock_state es = run_state o (All o) (grounds o) (opening_world o) es no_numbers
      (opening_state o (All o) (grounds o))

  -- what each rule keeps holds after every list of events
  module _ (I : World → Type 0)
      (keeps : (a : ℕ) (w : World) (r : Rule) → Base w → Base (Rules.effect o a r w) → Rules.May o a w r → I w
      → I (Rules.effect o a r w)) where
    pub record Both (w : World) : Type 0 where
      pub base : Base w
      pub here : I w

    both_wide : (w : World) → Both w → JoinsOnce w → WelcomeWidens o w
    both_wide w b once = widens o w b.base.all once

    both_keeps : (a : ℕ) (w : World) (r : Rule) → Both w → Ordered w → Rules.May o a w r → Both (Rules.effect o a r w)
    both_keeps a w r b sorted m =
        let B : Base (Rules.effect o a r w) = base_keeps a w r b.base m in
        record { base = B; here = keeps a w r b.base B m b.here }

    pub along : I (opening_world o) → (es : List WorldEvent) → Both (run o (opening_world o) es)
    along opens es = Runs.run_keeps o Both both_wide both_keeps (record { base = base_opens; here = opens }) es

    pub both_event : (w : World) (e : WorldEvent) → Both w → refusal o w e ≡ None → Both (accepted o w e)
    both_event w e b h = (Runs.accepted_keeps o Both both_wide both_keeps w e
        (record { kept = b; ordered = b.base.ordered; once = b.base.once }) h).kept

    -- and so does what each accepted event keeps beside it
    module _ (J : World → Type 0)
        (next : (w : World) (e : WorldEvent) → Both w → Both (accepted o w e) → refusal o w e ≡ None → J w
        → J (accepted o w e)) where
      from : (es : List WorldEvent) (w : World) → Both w → J w → J (run o w es)
      from [] w b j = j
      from (e ∷ es) w b j = go (refusal o w e) refl (from es)
        where
          go : (x : Option Refusal) → refusal o w e ≡ x
              → ((v : World) → Both v → J v → J (run o v es))
              → J (run o (if is_none x then accepted o w e else w) es)
          go None h more = more (accepted o w e) (both_event w e b h) (next w e b (both_event w e b h) h j)
          go (Some x) h more = more w b j

      pub between : I (opening_world o) → J (opening_world o) → (es : List WorldEvent) → J (run o (opening_world o) es)
      between opens begins es = from es (opening_world o) (record { base = base_opens; here = opens }) begins
