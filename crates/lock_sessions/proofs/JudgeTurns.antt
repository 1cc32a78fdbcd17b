-- Turns of a node that is asked for the lock: it judges, takes back, and drops the grants of a node that has left.
use Rattle.std.proofs.Common.{ℕ, Bool, true, false, ◌≡◌, Option, None, List, [], ◌∷◌, ◌++◌, refl, sym, ap, ◌∙◌, subst, inl, inr}
use Rattle.std.specs.Prelude.{if◌then◌else◌}
use Rattle.std.proofs.lemmas.List.{append-nil}
use Rattle.std.proofs.lemmas.Bool.{cases_eq, eq-eqb, ne_eqb}
use Rattle.registry_model.specs.Process.{Process}
use Rattle.protocol_model.specs.Letter.{Id, Global, Client, Letter}
use Rattle.protocol_model.specs.LockTable.{is_free_for, grant, give_back, drop_node}
use Rattle.protocol_model.specs.Turn.{Turn, Send, begun, sent_to}
use Rattle.protocol_model.specs.Registrar.{registrar}
use Rattle.protocol_model.specs.Reading.{judge, take_back, told_of}
use Rattle.protocol_model.specs.World.{Opening, World, left, join_number}
use Rattle.moves.proofs.Rules.{Taken, taking, FrontTaken}
use Rattle.moves.proofs.Sends.{sent_to-one}
use Rattle.moves.proofs.Invariants.{Each, IsUp, Proper}
use Rattle.lock_sessions.proofs.Base.{not_both, letters_from, each-one}
use Rattle.lock_sessions.proofs.LockTables.{globals, share, once, Rowed, grant-row, give_back-row, drop_node-row, globals-grant-client, globals-give_back-client}
use Rattle.lock_sessions.proofs.Sessions.{Request, Asks, Returns, Stage, GrantComing, RefusalComing, Session, requests_at, answers_at, request_in, answer_in, found, found-one, found-letters, AsAsked, asked_turn}
use Rattle.lock_sessions.proofs.Locking.{IsNamed, Locks}
use Rattle.lock_sessions.proofs.Rounds.{Judged, is_judged, TakenBack, is_taken_back}
use Rattle.lock_sessions.proofs.LockTurns.{Turned, quiet_one, quiet_taken, nothing_sent, plainly}

module _ (o : Opening) (a : ℕ) (w : World) (I : Proper o w) (L : Locks o w) (up : IsUp o w a) where
  -- what is known of a letter that is read
  pub named_front : (f : ℕ) (l : Letter) → FrontTaken o a w (taking f l) → IsNamed f a l
  named_front f l front = (subst (λ (ls : List Letter). Each (IsNamed f a) ls) front.1.1 (L.named f a up.1)).0

  -- the registrar of f asks for the lock
  judges_registrar : (f : ℕ) → FrontTaken o a w (taking f (Letter.SetLock (Global f) (registrar f))) → (b : Bool)
      → is_free_for (Global f) (registrar f) (w.node a).locks ≡ b
      → Turned o a w I L up (judge o.bound a (join_number w) f (Global f) (registrar f) b (begun (w.node a)))
      (taking f (Letter.SetLock (Global f) (registrar f)))
  judges_registrar f front b = go b
    where
      t : Option Taken
      t = taking f (Letter.SetLock (Global f) (registrar f))

      reply : Bool → Letter
      reply b = Letter.LockAnswer (Global f) (registrar f) b

      u : Bool → Turn
      u b = judge o.bound a (join_number w) f (Global f) (registrar f) b (begun (w.node a))

      taken_here : (r : ℕ) → r ≡ f → found request_in (letters_from t r) ≡ Asks ∷ []
      taken_here r e = rw (eq-eqb r f e) refl

      taken_other : (r : ℕ) → (r ≡ f → ⊥) → found request_in (letters_from t r) ≡ []
      taken_other r ne = rw (ne_eqb r f ne) refl

      asked_first : (r : ℕ) → r ≡ f → (s : Stage) → Session w r a s → requests_at s ≡ Asks ∷ found request_in front.1.0
      asked_first r e s S = sym S.requests ∙ ap (λ (y : ℕ). found request_in (w.links.queue y a)) e
          ∙ ap (found request_in) front.1.1

      sent_here : (b : Bool) (r : ℕ) → r ≡ f → found answer_in (sent_to r (record { to = f; letter = reply b } ∷ []))
          ≡ b ∷ []
      sent_here b r e = ap (found answer_in) (sent_to-one r f (reply b)) ∙ rw (eq-eqb f r (sym e)) refl

      sent_other : (b : Bool) (r : ℕ) → (r ≡ f → ⊥) → found answer_in
          (sent_to r (record { to = f; letter = reply b } ∷ [])) ≡ []
      sent_other b r ne = ap (found answer_in) (sent_to-one r f (reply b)) ∙ rw (ne_eqb f r (λ e. ne (sym e))) refl

      asked_of : (v : Turn) (b : Bool) → v.sends ≡ record { to = f; letter = reply b } ∷ []
          → ((r : ℕ) → r ≡ f → share r (globals (w.node a).locks) ≡ None
          → share r (globals v.node.locks) ≡ (if b then once else None))
          → ((r : ℕ) → (r ≡ f → ⊥) → share r (globals v.node.locks) ≡ share r (globals (w.node a).locks))
          → (r : ℕ) → IsUp o w r → (s : Stage) → Session w r a s → AsAsked o a w up v t front r s
      asked_of v b sends here there r ur s S = elim (cases_eq r f) [
        | inl e ↦ at_f e (is_judged s b (found request_in front.1.0) (asked_first r e s S))
        | inr ne ↦ record {
          to = s;
          mark = λ m h. h;
          requests = sym (ap (λ (zs : List Request). zs ++ requests_at s) (taken_other r ne));
          answers = ap (λ (zs : List Bool). answers_at s ++ zs)
              (ap (λ (ss : List Send). found answer_in (sent_to r ss)) sends ∙ sent_other b r ne)
              ∙ append-nil (answers_at s);
          share = there r ne ∙ S.share;
        }
      ]
        where
          at_f : r ≡ f → Judged s (if b then GrantComing else RefusalComing) b → AsAsked o a w up v t front r s
          at_f e J = record {
            to = if b then GrantComing else RefusalComing;
            mark = J.mark;
            requests = J.requests ∙ sym
                (ap (λ (zs : List Request). zs ++ requests_at (if b then GrantComing else RefusalComing))
                (taken_here r e));
            answers = ap (λ (zs : List Bool). answers_at s ++ zs)
                (ap (λ (ss : List Send). found answer_in (sent_to r ss)) sends ∙ sent_here b r e) ∙ J.answers;
            share = here r e (S.share ∙ J.before) ∙ sym J.after;
          }

      go : (b : Bool) → is_free_for (Global f) (registrar f) (w.node a).locks ≡ b → Turned o a w I L up (u b) t
      go true free = record {
        local = record {
          sends = λ n run. each-one (IsNamed a n) n f (reply true) (λ e. (e, ap registrar e));
          calls = L.calls a;
          round = L.rounds a;
          writer = L.writers a up;
          row = (R.row, R.is);
        };
        moves = asked_turn o a w up (u true) t front (λ x ux. found-one request_in f (reply true) refl x)
            (λ x ux. found-letters answer_in t refl x) refl
            (asked_of (u true) true refl
            (λ r e h. ap (λ (y : ℕ). share y (globals (grant (Global f) (registrar f) (w.node a).locks))) e
            ∙ R.here (ap (λ (y : ℕ). share y (globals (w.node a).locks)) (sym e) ∙ h))
            R.there);
      }
        where
          R : Rowed f (w.node a).locks (grant (Global f) (registrar f) (w.node a).locks) (λ x y. x ≡ None → y ≡ once)
          R = grant-row f (L.rows a up).0 (w.node a).locks (L.rows a up).1 free
      go false busy = record {
        local = record {
          sends = λ n run. each-one (IsNamed a n) n f (reply false) (λ e. (e, ap registrar e));
          calls = L.calls a;
          round = L.rounds a;
          writer = L.writers a up;
          row = L.rows a up;
        };
        moves = asked_turn o a w up (u false) t front (λ x ux. found-one request_in f (reply false) refl x)
            (λ x ux. found-letters answer_in t refl x) refl
            (asked_of (u false) false refl (λ r e h. h) (λ r ne. refl));
      }

  -- the lock is asked for
  pub judges : (f : ℕ) (id : Id) (p : Process) → FrontTaken o a w (taking f (Letter.SetLock id p))
      → IsNamed f a (Letter.SetLock id p)
      → Turned o a w I L up (judge o.bound a (join_number w) f id p (is_free_for id p (w.node a).locks)
      (begun (w.node a))) (taking f (Letter.SetLock id p))
  judges f (Global b) p front n = by p n.1 b n.0 front
    where
      by : (p : Process) → p ≡ registrar f → (b : ℕ) → b ≡ f → FrontTaken o a w (taking f (Letter.SetLock (Global b) p))
          → Turned o a w I L up (judge o.bound a (join_number w) f (Global b) p
          (is_free_for (Global b) p (w.node a).locks) (begun (w.node a))) (taking f (Letter.SetLock (Global b) p))
      by p e b k = subst (λ (q : Process). FrontTaken o a w (taking f (Letter.SetLock (Global b) q))
          → Turned o a w I L up (judge o.bound a (join_number w) f (Global b) q
          (is_free_for (Global b) q (w.node a).locks) (begun (w.node a))) (taking f (Letter.SetLock (Global b) q)))
          (sym e)
          (subst (λ (c : ℕ). FrontTaken o a w (taking f (Letter.SetLock (Global c) (registrar f)))
          → Turned o a w I L up (judge o.bound a (join_number w) f (Global c) (registrar f)
          (is_free_for (Global c) (registrar f) (w.node a).locks) (begun (w.node a)))
          (taking f (Letter.SetLock (Global c) (registrar f)))) (sym k)
          (λ front. judges_registrar f front (is_free_for (Global f) (registrar f) (w.node a).locks) refl))
  judges f (Client s q) p front n = go (is_free_for (Client s q) p (w.node a).locks)
    where
      t : Option Taken
      t = taking f (Letter.SetLock (Client s q) p)

      go : (b : Bool) → Turned o a w I L up (judge o.bound a (join_number w) f (Client s q) p b (begun (w.node a))) t
      go true = plainly o a w I L up (judge o.bound a (join_number w) f (Client s q) p true (begun (w.node a))) t
          (quiet_taken o a w I L up t front refl refl)
          (quiet_one o a w I L up f (Letter.LockAnswer (Client s q) p true) (λ m. n) refl refl) (L.calls a) refl
          (globals-grant-client s q p (w.node a).locks)
      go false = plainly o a w I L up (judge o.bound a (join_number w) f (Client s q) p false (begun (w.node a))) t
          (quiet_taken o a w I L up t front refl refl)
          (quiet_one o a w I L up f (Letter.LockAnswer (Client s q) p false) (λ m. n) refl refl) (L.calls a) refl refl

  -- the registrar of f gives the lock back
  takes_back_registrar : (f : ℕ) → FrontTaken o a w (taking f (Letter.GiveBack (Global f) (registrar f) false))
      → Turned o a w I L up (take_back o.bound a (join_number w) f (Global f) (registrar f) false (begun (w.node a)))
      (taking f (Letter.GiveBack (Global f) (registrar f) false))
  takes_back_registrar f front = record {
    local = record {
      sends = λ n run. tt;
      calls = L.calls a;
      round = L.rounds a;
      writer = L.writers a up;
      row = (R.row, R.is);
    };
    moves = asked_turn o a w up u t front (λ x ux. refl) (λ x ux. found-letters answer_in t refl x) refl move;
  }
    where
      t : Option Taken
      t = taking f (Letter.GiveBack (Global f) (registrar f) false)

      u : Turn
      u = take_back o.bound a (join_number w) f (Global f) (registrar f) false (begun (w.node a))

      R : Rowed f (w.node a).locks (give_back (Global f) (registrar f) (w.node a).locks) (λ x y. x ≡ once → y ≡ None)
      R = give_back-row f (L.rows a up).0 (w.node a).locks (L.rows a up).1

      move : (r : ℕ) → IsUp o w r → (s : Stage) → Session w r a s → AsAsked o a w up u t front r s
      move r ur s S = elim (cases_eq r f) [
        | inl e ↦ at_f e (is_taken_back s (found request_in front.1.0)
            (sym S.requests ∙ ap (λ (y : ℕ). found request_in (w.links.queue y a)) e ∙ ap (found request_in) front.1.1))
        | inr ne ↦ record {
          to = s;
          mark = λ m h. h;
          requests = sym (ap (λ (zs : List Request). zs ++ requests_at s) (taken_other ne));
          answers = append-nil (answers_at s);
          share = R.there r ne ∙ S.share;
        }
      ]
        where
          taken_here : r ≡ f → found request_in (letters_from t r) ≡ Returns ∷ []
          taken_here e = rw (eq-eqb r f e) refl

          taken_other : (r ≡ f → ⊥) → found request_in (letters_from t r) ≡ []
          taken_other ne = rw (ne_eqb r f ne) refl

          at_f : r ≡ f → (e : Stage) × TakenBack s e → AsAsked o a w up u t front r s
          at_f e J = record {
            to = J.0;
            mark = J.1.mark;
            requests = J.1.requests ∙ sym (ap (λ (zs : List Request). zs ++ requests_at J.0) (taken_here e));
            answers = append-nil (answers_at s) ∙ J.1.answers;
            share = ap (λ (y : ℕ). share y (globals (give_back (Global f) (registrar f) (w.node a).locks))) e
                ∙ R.here (ap (λ (y : ℕ). share y (globals (w.node a).locks)) (sym e) ∙ S.share ∙ J.1.before)
                ∙ sym J.1.after;
          }

  -- a lock is given back
  pub takes_back : (f : ℕ) (id : Id) (p : Process) (ack : Bool)
      → FrontTaken o a w (taking f (Letter.GiveBack id p ack)) → IsNamed f a (Letter.GiveBack id p ack)
      → Turned o a w I L up (take_back o.bound a (join_number w) f id p ack (begun (w.node a)))
      (taking f (Letter.GiveBack id p ack))
  takes_back f (Global b) p ack front n = by p n.1 ack n.2 b n.0 front
    where
      by : (p : Process) → p ≡ registrar f → (ack : Bool) → ack ≡ false → (b : ℕ) → b ≡ f
          → FrontTaken o a w (taking f (Letter.GiveBack (Global b) p ack))
          → Turned o a w I L up (take_back o.bound a (join_number w) f (Global b) p ack (begun (w.node a)))
          (taking f (Letter.GiveBack (Global b) p ack))
      by p e true h b k = cc
      by p e false h b k = subst (λ (q : Process). FrontTaken o a w (taking f (Letter.GiveBack (Global b) q false))
          → Turned o a w I L up (take_back o.bound a (join_number w) f (Global b) q false (begun (w.node a)))
          (taking f (Letter.GiveBack (Global b) q false))) (sym e)
          (subst (λ (c : ℕ). FrontTaken o a w (taking f (Letter.GiveBack (Global c) (registrar f) false))
          → Turned o a w I L up (take_back o.bound a (join_number w) f (Global c) (registrar f) false
          (begun (w.node a))) (taking f (Letter.GiveBack (Global c) (registrar f) false))) (sym k)
          (takes_back_registrar f))
  takes_back f (Client s q) p ack front n = go ack front
    where
      go : (b : Bool) → FrontTaken o a w (taking f (Letter.GiveBack (Client s q) p b))
          → Turned o a w I L up (take_back o.bound a (join_number w) f (Client s q) p b (begun (w.node a)))
          (taking f (Letter.GiveBack (Client s q) p b))
      go true front = plainly o a w I L up _ _
          (quiet_taken o a w I L up (taking f (Letter.GiveBack (Client s q) p true)) front refl refl)
          (quiet_one o a w I L up f (Letter.GivenBack p) (λ m. tt) refl refl) (L.calls a) refl
          (globals-give_back-client s q p (w.node a).locks)
      go false front = plainly o a w I L up _ _
          (quiet_taken o a w I L up (taking f (Letter.GiveBack (Client s q) p false)) front refl refl)
          (nothing_sent o a w I L up) (L.calls a) refl (globals-give_back-client s q p (w.node a).locks)

  -- the node is told that f has left
  pub is_told : (f : ℕ) → left w f ≡ true → FrontTaken o a w (taking f Letter.Down)
      → Turned o a w I L up (told_of o.bound a (join_number w) f (begun (w.node a))) (taking f Letter.Down)
  is_told f gone front = record {
    local = record {
      sends = λ n run. tt;
      calls = L.calls a;
      round = L.rounds a;
      writer = L.writers a up;
      row = (R.row, R.is);
    };
    moves = asked_turn o a w up u t front (λ x ux. refl) (λ x ux. found-letters answer_in t refl x) refl move;
  }
    where
      t : Option Taken
      t = taking f Letter.Down

      u : Turn
      u = told_of o.bound a (join_number w) f (begun (w.node a))

      R : Rowed f (w.node a).locks (drop_node f (w.node a).locks) (λ x y. Unit {0})
      R = drop_node-row f (L.rows a up).0 (w.node a).locks (L.rows a up).1

      move : (r : ℕ) → IsUp o w r → (s : Stage) → Session w r a s → AsAsked o a w up u t front r s
      move r ur s S = record {
        to = s;
        mark = λ m h. h;
        requests = sym (ap (λ (zs : List Request). zs ++ requests_at s) (found-letters request_in t refl r));
        answers = append-nil (answers_at s);
        share = R.there r (λ e. not_both (left w r) (subst (λ (y : ℕ). left w y ≡ true) (sym e) gone) ur.1) ∙ S.share;
      }
