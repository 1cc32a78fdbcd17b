-- A node serves a client's letters: it judges, takes counts back, and drops who died.
use Rattle.std.proofs.Common.{ℕ, Bool, true, false, ◌==◌, ◌≡◌, ◌+◌, Some, List, [], ◌∷◌, ◌++◌, refl, sym, ap, ◌∙◌, subst}
use Rattle.std.specs.Prelude.{if◌then◌else◌}
use Rattle.std.proofs.lemmas.List.{append-nil}
use Rattle.std.proofs.lemmas.Bool.{eqb-true, eq-eqb}
use Rattle.registry_model.specs.Process.{Process}
use Rattle.protocol_model.specs.Letter.{Id, is_id, Letter}
use Rattle.protocol_model.specs.LockTable.{count, is_free_for, grant, give_back, drop_holder}
use Rattle.protocol_model.specs.Turn.{begun, with_locks}
use Rattle.protocol_model.specs.Reading.{judge, take_back}
use Rattle.protocol_model.specs.World.{Opening, World}
use Rattle.moves.proofs.Rules.{FrontTaken, IsFront}
use Rattle.moves.proofs.Invariants.{IsUp}
use Rattle.moves.proofs.Indices.{both}
use Rattle.moves.proofs.Sends.{sent_to-one}
use Rattle.client_locks.proofs.Ids.{is_process_self, is_process_swap}
use Rattle.client_locks.proofs.LockTables.{pair_off, count-grant, count-give_back, count-grant_other, count-give_back_other, count-drop_holder, sound-grant, sound-give_back, sound-drop_holder}
use Rattle.client_locks.proofs.Sessions.{Ask, Takes, Backs, Acks, Frees, Echo, Answers, Backed, view, fits, Live}
use Rattle.client_locks.proofs.SessionMoves.{no_free_front, live_judged, live_taken_back, live_acknowledged}
use Rattle.client_locks.proofs.Mail.{asks, echoes, turned, is_named, all_named, ask_of, echo_of}
use Rattle.client_locks.proofs.Clients.{Numbers, lives, call_at, Clients}
use Rattle.client_locks.proofs.Turns.{IsAskOf, IsEchoOf, served}

pub ask_set_lock : (id : Id) (q : Process) → IsAskOf q (Letter.SetLock id q)
ask_set_lock id q = record { echo = λ p. refl; other = λ p e. rw e refl; named = λ n. eq-eqb q.node q.node refl }

pub ask_give_back : (id : Id) (q : Process) (ack : Bool) → IsAskOf q (Letter.GiveBack id q ack)
ask_give_back id q ack = record { echo = λ p. refl; other = λ p e. rw e refl; named = λ n. eq-eqb q.node q.node refl }

pub ask_release : (q : Process) → IsAskOf q (Letter.ReleaseOf q)
ask_release q = record { echo = λ p. refl; other = λ p e. rw e refl; named = λ n. eq-eqb q.node q.node refl }

pub echo_answer : (id : Id) (q : Process) (g : Bool) → IsEchoOf q (Letter.LockAnswer id q g)
echo_answer id q g = record { ask = λ p. refl; other = λ p e. rw e refl; named = λ f. eq-eqb q.node q.node refl }

pub echo_given_back : (q : Process) → IsEchoOf q (Letter.GivenBack q)
echo_given_back q = record { ask = λ p. refl; other = λ p e. rw e refl; named = λ f. eq-eqb q.node q.node refl }

-- the letter at the front is named as all are
pub front_named : (o : Opening) (f a : ℕ) (w : World) (l : Letter) → all_named f a (w.links.queue f a) ≡ true
    → IsFront o a w f l → is_named f a l ≡ true
front_named o f a w l h front = (both (is_named f a l) (all_named f a front.0) (sym (ap (all_named f a) front.1) ∙ h)).0

module _ (o : Opening) (a f : ℕ) (w : World) (num : Numbers) (C : Clients o w num) (number : ℕ → ℕ) where
  -- the node judges a request
  pub on_judges : (id : Id) (q : Process) → FrontTaken o a w (Some
      (record { sender = f; letter = Letter.SetLock id q }))
      → Clients o (turned a (Some (record { sender = f; letter = Letter.SetLock id q }))
      (judge o.bound a number f id q (is_free_for id q (w.node a).locks) (begun (w.node a))) w) num
  on_judges id q front = go (is_free_for id q (w.node a).locks) refl
    where
      home : q.node ≡ f
      home = eqb-true q.node f (front_named o f a w (Letter.SetLock id q) (C.named f a) front.1)

      -- the pair of q and this node, where the counts become those
      goes_on : (g : Bool) (held2 : Id → ℕ) → ((i : Id) → held2 i ≡
          (if g then (if is_id id i then count i q (w.node a).locks + 1 else count i q (w.node a).locks) else count i q
          (w.node a).locks))
          → lives o w q ≡ true → IsUp o w a → (ups2 : List Ask) → asks q (w.links.queue q.node a) ≡ ask_of q
          (Letter.SetLock id q) ++ ups2
          → Live (view (call_at w q) a) ups2 (echoes q (w.links.queue a q.node) ++
          (if f == q.node then echo_of q (Letter.LockAnswer id q g) else [])) held2 (λ i. num q i a)
      goes_on g held2 eq h up ups2 front2 =
          let was : asks q (w.links.queue q.node a) ≡ Takes id ∷ ups2 = front2
          ∙ ap (λ (b : Bool). (if b then Takes id ∷ [] else []) ++ ups2) (is_process_self q) in
          let old : Live (view (call_at w q) a) (Takes id ∷ ups2) (echoes q (w.links.queue a q.node))
          (λ i. count i q (w.node a).locks) (λ i. num q i a) =
          subst (λ (us : List Ask). Live (view (call_at w q) a) us (echoes q (w.links.queue a q.node))
          (λ i. count i q (w.node a).locks) (λ i. num q i a)) was (C.sessions q a h up) in
          let sent : (if f == q.node then echo_of q (Letter.LockAnswer id q g) else []) ≡ Answers id g ∷ [] = rw
          (eq-eqb f q.node (sym home), is_process_self q) refl in
          subst (λ (es : List Echo). Live (view (call_at w q) a) ups2 (echoes q (w.links.queue a q.node) ++ es) held2
          (λ i. num q i a)) (sym sent)
          (live_judged ups2 (echoes q (w.links.queue a q.node)) (λ i. count i q (w.node a).locks) (λ i. num q i a)
          (view (call_at w q) a) id g held2 eq old)

      go : (b : Bool) → is_free_for id q (w.node a).locks ≡ b → Clients o
          (turned a (Some (record { sender = f; letter = Letter.SetLock id q }))
          (judge o.bound a number f id q b (begun (w.node a))) w) num
      go true e = served o a f (Letter.SetLock id q) (judge o.bound a number f id q true (begun (w.node a))) w num C
          front q (Letter.LockAnswer id q true) (λ y. f == y) home
          (record {
            calls = refl;
            dead = refl;
            sound = sound-grant id q (w.node a).locks e (C.tables a);
            counts = λ j p ne. count-grant_other id q j p (w.node a).locks (pair_off id q j p ne);
            sent = λ y. sent_to-one y f (Letter.LockAnswer id q true);
            near = λ y k. sym (eqb-true f y k) ∙ sym home;
          })
          (ask_set_lock id q) (echo_answer id q true)
          (goes_on true (λ i. count i q (grant id q (w.node a).locks)) (count-grant id q (w.node a).locks))
      go false e = served o a f (Letter.SetLock id q) (judge o.bound a number f id q false (begun (w.node a))) w num C
          front q (Letter.LockAnswer id q false) (λ y. f == y) home
          (record {
            calls = refl;
            dead = refl;
            sound = C.tables a;
            counts = λ j p ne. refl;
            sent = λ y. sent_to-one y f (Letter.LockAnswer id q false);
            near = λ y k. sym (eqb-true f y k) ∙ sym home;
          })
          (ask_set_lock id q) (echo_answer id q false)
          (goes_on false (λ i. count i q (w.node a).locks) (λ i. refl))

  -- the node takes a count back
  pub on_takes_back : (id : Id) (q : Process) (ack : Bool) → FrontTaken o a w
      (Some (record { sender = f; letter = Letter.GiveBack id q ack }))
      → Clients o (turned a (Some (record { sender = f; letter = Letter.GiveBack id q ack }))
      (take_back o.bound a number f id q ack (begun (w.node a))) w) num
  on_takes_back id q true front = served o a f (Letter.GiveBack id q true)
      (take_back o.bound a number f id q true (begun (w.node a))) w num C front q (Letter.GivenBack q)
      (λ y. f == y) home
      (record {
        calls = refl;
        dead = refl;
        sound = sound-give_back id q (w.node a).locks (C.tables a);
        counts = λ j p ne. count-give_back_other id q j p (w.node a).locks (pair_off id q j p ne);
        sent = λ y. sent_to-one y f (Letter.GivenBack q);
        near = λ y k. sym (eqb-true f y k) ∙ sym home;
      })
      (ask_give_back id q true) (echo_given_back q)
      (λ h up ups2 front2.
      let was : asks q (w.links.queue q.node a) ≡ Acks id ∷ ups2 = front2
      ∙ ap (λ (b : Bool). (if b then Acks id ∷ [] else []) ++ ups2) (is_process_self q) in
      let old : Live (view (call_at w q) a) (Acks id ∷ ups2) (echoes q (w.links.queue a q.node))
      (λ i. count i q (w.node a).locks) (λ i. num q i a) =
      subst (λ (us : List Ask). Live (view (call_at w q) a) us (echoes q (w.links.queue a q.node))
      (λ i. count i q (w.node a).locks) (λ i. num q i a)) was (C.sessions q a h up) in
      let sent : (if f == q.node then echo_of q (Letter.GivenBack q) else []) ≡ Backed ∷ [] = rw
      (eq-eqb f q.node (sym home), is_process_self q) refl in
      subst (λ (es : List Echo). Live (view (call_at w q) a) ups2 (echoes q (w.links.queue a q.node) ++ es)
      (λ i. count i q (give_back id q (w.node a).locks)) (λ i. num q i a)) (sym sent)
      (live_acknowledged ups2 (echoes q (w.links.queue a q.node)) (λ i. count i q (w.node a).locks) (λ i. num q i a)
      (view (call_at w q) a) id (λ i. count i q (give_back id q (w.node a).locks))
      (count-give_back id q (w.node a).locks (C.tables a)) old))
    where
      home : q.node ≡ f
      home = eqb-true q.node f (front_named o f a w (Letter.GiveBack id q true) (C.named f a) front.1)
  on_takes_back id q false front = served o a f (Letter.GiveBack id q false)
      (take_back o.bound a number f id q false (begun (w.node a))) w num C front q (Letter.GivenBack q)
      (λ y. false) home
      (record {
        calls = refl;
        dead = refl;
        sound = sound-give_back id q (w.node a).locks (C.tables a);
        counts = λ j p ne. count-give_back_other id q j p (w.node a).locks (pair_off id q j p ne);
        sent = λ y. refl;
        near = λ y k. cc;
      })
      (ask_give_back id q false) (echo_given_back q)
      (λ h up ups2 front2.
      let was : asks q (w.links.queue q.node a) ≡ Backs id ∷ ups2 = front2
      ∙ ap (λ (b : Bool). (if b then Backs id ∷ [] else []) ++ ups2) (is_process_self q) in
      let old : Live (view (call_at w q) a) (Backs id ∷ ups2) (echoes q (w.links.queue a q.node))
      (λ i. count i q (w.node a).locks) (λ i. num q i a) =
      subst (λ (us : List Ask). Live (view (call_at w q) a) us (echoes q (w.links.queue a q.node))
      (λ i. count i q (w.node a).locks) (λ i. num q i a)) was (C.sessions q a h up) in
      subst (λ (es : List Echo). Live (view (call_at w q) a) ups2 es (λ i. count i q (give_back id q (w.node a).locks))
      (λ i. num q i a)) (sym (append-nil (echoes q (w.links.queue a q.node))))
      (live_taken_back ups2 (echoes q (w.links.queue a q.node)) (λ i. count i q (w.node a).locks) (λ i. num q i a)
      (view (call_at w q) a) id (λ i. count i q (give_back id q (w.node a).locks))
      (count-give_back id q (w.node a).locks (C.tables a)) old))
    where
      home : q.node ≡ f
      home = eqb-true q.node f (front_named o f a w (Letter.GiveBack id q false) (C.named f a) front.1)

  -- the node drops a process that died: no live one asks for this
  pub on_releases : (q : Process) → FrontTaken o a w (Some (record { sender = f; letter = Letter.ReleaseOf q }))
      → Clients o (turned a (Some (record { sender = f; letter = Letter.ReleaseOf q }))
      (with_locks (drop_holder q) (begun (w.node a))) w) num
  on_releases q front = served o a f (Letter.ReleaseOf q) (with_locks (drop_holder q) (begun (w.node a))) w num C front
      q (Letter.GivenBack q) (λ y. false) home
      (record {
        calls = refl;
        dead = refl;
        sound = sound-drop_holder q (w.node a).locks (C.tables a);
        counts = λ j p ne. count-drop_holder q j p (w.node a).locks (is_process_swap q p ne);
        sent = λ y. refl;
        near = λ y k. cc;
      })
      (ask_release q) (echo_given_back q)
      (λ h up ups2 front2.
      let was : asks q (w.links.queue q.node a) ≡ Frees ∷ ups2 = front2
      ∙ ap (λ (b : Bool). (if b then Frees ∷ [] else []) ++ ups2) (is_process_self q) in
      no_free_front (view (call_at w q) a) ups2 (echoes q (w.links.queue a q.node))
      (subst (λ (us : List Ask). fits (view (call_at w q) a) us (echoes q (w.links.queue a q.node)) ≡ true) was
      (C.sessions q a h up).fit))
    where
      home : q.node ≡ f
      home = eqb-true q.node f (front_named o f a w (Letter.ReleaseOf q) (C.named f a) front.1)
