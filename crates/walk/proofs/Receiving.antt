-- A letter is received: a chain of rules, which ends with the start of the registrar's next operation.
use Rattle.std.proofs.Common.{ℕ, Bool, true, false, ◌==◌, ◌≡◌, List, [], ◌∷◌, refl, sym, subst, ap, ◌∙◌, inr}
use Rattle.std.specs.Prelude.{◌&&◌, not, if◌then◌else◌}
use Rattle.registry_model.specs.Process.{is_process, Nodes}
use Rattle.registry_model.specs.Table.{Table}
use Rattle.registry_model.specs.Registry.{Replica}
use Rattle.registry_model.specs.Settlement.{Fate}
use Rattle.protocol_model.specs.Letter.{Letter, is_down}
use Rattle.protocol_model.specs.Node.{Current, call_of}
use Rattle.protocol_model.specs.Turn.{Turn, begun, at_work}
use Rattle.protocol_model.specs.Registrar.{registrar, start, contact_left, lose_contact}
use Rattle.protocol_model.specs.Deciding.{hear_answer, lose}
use Rattle.protocol_model.specs.Client.{hear_lock}
use Rattle.protocol_model.specs.Reading.{welcomed, read, receive, told_of, bereave, lose_join, lose_current}
use Rattle.protocol_model.specs.World.{Opening, in_world, World, left, Deliver, number_in, join_number, letter_taken}
use Rattle.registry_model.proofs.Updates.{at_same}
use Rattle.moves.proofs.Rules
use Rattle.moves.proofs.Rules.{is_ordered}
use Rattle.walk.proofs.ChainKinds.{Hearing}
use Rattle.walk.proofs.Chains.{Chain, gone_by-delivery, chain_one}
use Rattle.walk.proofs.Rounds.{Onward, onward_none, join_number-behind, lose_contact-chain, lose-chain}
use Rattle.walk.proofs.LockRounds.{lose_node-chain}
use Rattle.walk.proofs.Starting.{start-chain}
use Rattle.walk.proofs.Letters.{by_rule, hear_answer-chain, hear_lock-chain, owe_less-chain, await_less-chain, asked_to_admit-chain, refused_join-chain, admit-chain, welcome-chain}

-- A node that is welcomed keeps its members. A rule by which a process dies sends to all members of now, and the model
-- to those after the welcome
abbrev pub WelcomeWidens : Opening → World → Type 0
WelcomeWidens o w =
    (f a k : ℕ) (members : Nodes) (pairs : Table) (told : Nodes) (fate : Fate) (rest : List Letter)
    → in_world o a ≡ true → left w a ≡ false → (w.node a).replica.told f ≡ false
    → (w.node a).current ≡ Current.Joining k f
    → w.links.queue f a ≡ Letter.Welcome members pairs told fate ∷ rest
    → (c : ℕ) → (w.node a).replica.members c ≡ true → (welcomed a members pairs told fate (w.node a).replica).members c ≡ true

module _ (o : Opening) (a : ℕ) (inside : in_world o a ≡ true) (w : World) (running : left w a ≡ false)
    (sorted : is_ordered a (w.node a).calls ≡ true)
    (wide : WelcomeWidens o w) (f : ℕ) (known : in_world o f ≡ true) (rest : List Letter) where
  -- a letter from a node that isn't told to have left is read
  read-chain : (l : Letter) → is_down l ≡ false → w.links.queue f a ≡ l ∷ rest → (w.node a).replica.told f ≡ false
      → Chain o a Hearing w [] (letter_taken (Deliver f a) w) (read o.bound a (join_number w) f l (begun (w.node a)))
  read-chain (Letter.SetLock id p) d front untold =
      by_rule o a inside w running f known rest (Letter.SetLock id p) front (Rules.Judges f id p) refl refl untold
  read-chain (Letter.LockAnswer id p granted) d front untold = go (is_process p (registrar a)) refl
    where
      go : (t : Bool) → is_process p (registrar a) ≡ t
          → Chain o a Hearing w [] (letter_taken (Deliver f a) w)
          (if t then hear_answer o.bound a (join_number w) f granted (w.node a).current (begun (w.node a))
          else hear_lock o.bound a f granted (call_of p (w.node a).calls) (begun (w.node a)))
      go true e = hear_answer-chain o a inside w running f known rest untold id p granted front e
      go false e = hear_lock-chain o a inside w running f known rest untold id p granted front e sorted
  read-chain (Letter.GiveBack id p ack) d front untold =
      by_rule o a inside w running f known rest (Letter.GiveBack id p ack) front
      (Rules.TakesBack f id p ack) refl refl untold
  read-chain (Letter.GivenBack p) d front untold = owe_less-chain o a inside w running f known rest untold p front
  read-chain (Letter.ReleaseOf p) d front untold =
      by_rule o a inside w running f known rest (Letter.ReleaseOf p) front (Rules.Releases f p) refl refl untold
  read-chain (Letter.Apply change) d front untold =
      by_rule o a inside w running f known rest (Letter.Apply change) front (Rules.Writes f change) refl refl untold
  read-chain Letter.Applied d front untold = await_less-chain o a inside w running f known rest untold front
  read-chain (Letter.JoinAsk pairs) d front untold =
      asked_to_admit-chain o a inside w running f known rest untold pairs front
  read-chain Letter.JoinRefused d front untold = refused_join-chain o a inside w running f known rest untold front
  read-chain (Letter.Admit j settled) d front untold =
      admit-chain o a inside w running f known rest untold j settled front
  read-chain (Letter.Welcome members pairs told fate) d front untold =
      welcome-chain o a inside w running f known rest untold members pairs told fate front
      (λ k e. wide f a k members pairs told fate rest inside running untold e front)
  read-chain Letter.Down d front untold = cc

  -- a letter but `Down`
  letter-chain : (l : Letter) → is_down l ≡ false → w.links.queue f a ≡ l ∷ rest
      → Chain o a Hearing w [] (letter_taken (Deliver f a) w) (receive o.bound a (join_number w) f l (begun (w.node a)))
  letter-chain l d front = start-chain o a Hearing inside w [] (letter_taken (Deliver f a) w) running
      (if (w.node a).replica.told f && not (is_down l) then begun (w.node a)
      else read o.bound a (join_number w) f l (begun (w.node a)))
      (go ((w.node a).replica.told f) (is_down l) refl refl d)
    where
      go : (t s : Bool) → (w.node a).replica.told f ≡ t → is_down l ≡ s → s ≡ false
          → Chain o a Hearing w [] (letter_taken (Deliver f a) w)
          (if t && not s then begun (w.node a) else read o.bound a (join_number w) f l (begun (w.node a)))
      go true false e q z = by_rule o a inside w running f known rest l front (Rules.Drops f l) refl refl (e, q)
      go false false e q z = read-chain l q front e
      go true true e q z = cc
      go false true e q z = cc

  -- the sender has gone down
  down-chain : w.links.queue f a ≡ Letter.Down ∷ rest
      → Chain o a Hearing w (Rules.IsTold f ∷ []) (letter_taken (Deliver f a) w)
      (bereave o.bound a (join_number w) f (begun (w.node a)))
  down-chain front = lose_node-chain o a Hearing inside w (Rules.IsTold f ∷ []) (letter_taken (Deliver f a) w) running refl f
      (lose_current o.bound a (join_number w) f (lose_join o.bound a (join_number w) f told)) lost.chain
      (ap (λ (v : Replica). v.told f) (lost.replica ∙ left_contact.replica) ∙ at_same (w.node a).replica.told f true)
      (ap (is_ordered a) (lost.calls ∙ left_contact.calls) ∙ sorted)
    where
      told : Turn
      told = told_of o.bound a (join_number w) f (begun (w.node a))

      left_contact : Onward o a inside w (Rules.IsTold f ∷ []) (letter_taken (Deliver f a) w) running told
          (lose_join o.bound a (join_number w) f told)
      left_contact = lose_contact-chain o a inside w (Rules.IsTold f ∷ []) (letter_taken (Deliver f a) w) running f told
          (chain_one o a Hearing w (letter_taken (Deliver f a) w) (Rules.IsTold f)
          (record { inside = inside; running = running; front = (known, (rest, front)); tested = tt })
          (gone_by-delivery w f a Letter.Down rest front) (inr refl) refl)
          (at_same (w.node a).replica.told f true)

      idle : (k m : ℕ) → (w.node a).current ≡ Current.Joining k m → (t : Bool)
          → lose o.bound a (join_number w) f
          (if t then contact_left o.bound a k m (at_work Current.Free told) else told).node.current
          (if t then contact_left o.bound a k m (at_work Current.Free told) else told)
          ≡ (if t then contact_left o.bound a k m (at_work Current.Free told) else told)
      idle k m e true = refl
      idle k m e false = ap (λ (c : Current). lose o.bound a (join_number w) f c told) e

      busy : number_in (w.node a).current ≡ 0
          → Onward o a inside w (Rules.IsTold f ∷ []) (letter_taken (Deliver f a) w) running
          (lose_join o.bound a (join_number w) f told)
          (lose_current o.bound a (join_number w) f (lose_join o.bound a (join_number w) f told))
      busy e = lose-chain o a inside w (Rules.IsTold f ∷ []) (letter_taken (Deliver f a) w) running (join_number w)
          (λ u h. join_number-behind a w (letter_taken (Deliver f a) w) u refl (h ∙ sym e))
          f (lose_join o.bound a (join_number w) f told) left_contact.chain
          (ap (λ (v : Replica). v.told f) left_contact.replica ∙ at_same (w.node a).replica.told f true)

      go : (c : Current) → (w.node a).current ≡ c
          → Onward o a inside w (Rules.IsTold f ∷ []) (letter_taken (Deliver f a) w) running
          (lose_join o.bound a (join_number w) f told)
          (lose_current o.bound a (join_number w) f (lose_join o.bound a (join_number w) f told))
      go (Current.Joining k m) e = subst
          (Onward o a inside w (Rules.IsTold f ∷ []) (letter_taken (Deliver f a) w) running
          (lose_join o.bound a (join_number w) f told))
          (sym (subst
          (λ (c : Current). lose o.bound a (join_number w) f (lose_contact o.bound a f c told).node.current
          (lose_contact o.bound a f c told)
          ≡ lose_contact o.bound a f c told) (sym e) (idle k m e (m == f))))
          (onward_none o a inside w (Rules.IsTold f ∷ []) (letter_taken (Deliver f a) w) running
          (lose_join o.bound a (join_number w) f told) left_contact.chain)
      go (Current.Asking op r) e = busy (ap number_in e)
      go (Current.Waiting op) e = busy (ap number_in e)
      go (Current.Writing op asked awaited reply) e = busy (ap number_in e)
      go Current.Free e = busy (ap number_in e)

      lost : Onward o a inside w (Rules.IsTold f ∷ []) (letter_taken (Deliver f a) w) running
          (lose_join o.bound a (join_number w) f told)
          (lose_current o.bound a (join_number w) f (lose_join o.bound a (join_number w) f told))
      lost = go (w.node a).current refl

  -- any letter
  pub receive-chain : (l : Letter) → w.links.queue f a ≡ l ∷ rest
      → Chain o a Hearing w (Rules.first_by_letter o a f (l ∷ rest)) (letter_taken (Deliver f a) w)
      (receive o.bound a (join_number w) f l (begun (w.node a)))
  receive-chain Letter.Down front = go ((w.node a).replica.told f)
    where
      go : (t : Bool) → Chain o a Hearing w (Rules.IsTold f ∷ []) (letter_taken (Deliver f a) w)
          (start o.bound a
          (if t && false then begun (w.node a) else bereave o.bound a (join_number w) f (begun (w.node a))))
      go true =
          start-chain o a Hearing inside w (Rules.IsTold f ∷ []) (letter_taken (Deliver f a) w) running
          (bereave o.bound a (join_number w) f (begun (w.node a))) (down-chain front)
      go false =
          start-chain o a Hearing inside w (Rules.IsTold f ∷ []) (letter_taken (Deliver f a) w) running
          (bereave o.bound a (join_number w) f (begun (w.node a))) (down-chain front)
  receive-chain l front = letter-chain l refl front
