-- Letters and turns that are no client's: they change no session.
use Rattle.std.proofs.Common.{ℕ, Bool, true, false, ◌==◌, ◌≡◌, List, [], ◌∷◌, ◌++◌, refl, ap, ◌∙◌, subst}
use Rattle.std.specs.Prelude.{◌&&◌}
use Rattle.std.specs.List.{list_all}
use Rattle.registry_model.specs.Process.{Process, is_process}
use Rattle.protocol_model.specs.Letter.{Letter}
use Rattle.protocol_model.specs.Turn.{Send, sent_to}
use Rattle.moves.proofs.SendTests.{all_pass, pass_sent}
use Rattle.moves.proofs.Indices.{both}
use Rattle.client_locks.proofs.Ids.{is_process_same}
use Rattle.client_locks.proofs.Sessions.{Ask, Echo}
use Rattle.client_locks.proofs.Mail.{ask_of, echo_of, asks, echoes, is_named, all_named}

-- a letter that a registrar sends for itself, or one that is of no lock
abbrev pub is_plain : ℕ → Letter → Bool
is_plain a (Letter.SetLock id p) = (p.serial == 0) && (p.node == a)
is_plain a (Letter.GiveBack id p ack) = (p.serial == 0) && (p.node == a)
is_plain a (Letter.ReleaseOf p) = false
is_plain a (Letter.LockAnswer id p granted) = false
is_plain a (Letter.GivenBack p) = false
is_plain a _ = true

-- another process than this one of serial 0
pub not_client : (q p : Process) → (q.serial == 0) ≡ true → (p.serial == 0) ≡ false → is_process q p ≡ false
not_client q p hq hp = go (is_process q p) refl
  where
    go : (b : Bool) → is_process q p ≡ b → b ≡ false
    go false e = refl
    go true e =
        let same : (p.serial == 0) ≡ true = subst (λ (x : Process). (x.serial == 0) ≡ true)
        (is_process_same q p e) hq in
        cc (same, hp)

pub plain_ask : (a : ℕ) (l : Letter) (p : Process) → is_plain a l ≡ true → (p.serial == 0) ≡ false → ask_of p l ≡ []
plain_ask a (Letter.SetLock id q) p h c = rw (not_client q p (both (q.serial == 0) (q.node == a) h).0 c) refl
plain_ask a (Letter.GiveBack id q ack) p h c = rw (not_client q p (both (q.serial == 0) (q.node == a) h).0 c) refl
plain_ask a (Letter.ReleaseOf q) p h c = cc
plain_ask a _ p h c = refl

pub plain_echo : (a : ℕ) (l : Letter) (p : Process) → is_plain a l ≡ true → echo_of p l ≡ []
plain_echo a (Letter.LockAnswer id q g) p h = cc
plain_echo a (Letter.GivenBack q) p h = cc
plain_echo a _ p h = refl

pub plain_named : (a n : ℕ) (l : Letter) → is_plain a l ≡ true → is_named a n l ≡ true
plain_named a n (Letter.SetLock id q) h = (both (q.serial == 0) (q.node == a) h).1
plain_named a n (Letter.GiveBack id q ack) h = (both (q.serial == 0) (q.node == a) h).1
plain_named a n (Letter.ReleaseOf q) h = cc
plain_named a n (Letter.LockAnswer id q g) h = cc
plain_named a n (Letter.GivenBack q) h = cc
plain_named a n _ h = refl

abbrev pub all_plain : ℕ → List Send → Bool
all_plain a ss = all_pass (is_plain a) ss

plain_asks : (a : ℕ) (ls : List Letter) (p : Process) → list_all (is_plain a) ls ≡ true → (p.serial == 0) ≡ false
    → asks p ls ≡ []
plain_asks a [] p h c = refl
plain_asks a (l ∷ ls) p h c =
    let parts : (is_plain a l ≡ true) × (list_all (is_plain a) ls ≡ true) = both (is_plain a l)
    (list_all (is_plain a) ls) h in
    ap (λ (xs : List Ask). xs ++ asks p ls) (plain_ask a l p parts.0 c) ∙ plain_asks a ls p parts.1 c

plain_echoes : (a : ℕ) (ls : List Letter) (p : Process) → list_all (is_plain a) ls ≡ true → echoes p ls ≡ []
plain_echoes a [] p h = refl
plain_echoes a (l ∷ ls) p h =
    let parts : (is_plain a l ≡ true) × (list_all (is_plain a) ls ≡ true) = both (is_plain a l)
    (list_all (is_plain a) ls) h in
    ap (λ (xs : List Echo). xs ++ echoes p ls) (plain_echo a l p parts.0) ∙ plain_echoes a ls p parts.1

plain_all_named : (a n : ℕ) (ls : List Letter) → list_all (is_plain a) ls ≡ true → all_named a n ls ≡ true
plain_all_named a n [] h = refl
plain_all_named a n (l ∷ ls) h =
    let parts : (is_plain a l ≡ true) × (list_all (is_plain a) ls ≡ true) = both (is_plain a l)
    (list_all (is_plain a) ls) h in
    rw (plain_named a n l parts.0, plain_all_named a n ls parts.1) refl

pub asks_plain_sent : (a y : ℕ) (ss : List Send) (p : Process) → all_plain a ss ≡ true → (p.serial == 0) ≡ false
    → asks p (sent_to y ss) ≡ []
asks_plain_sent a y ss p h c = plain_asks a (sent_to y ss) p (pass_sent (is_plain a) y ss h) c

pub echoes_plain_sent : (a y : ℕ) (ss : List Send) (p : Process) → all_plain a ss ≡ true → echoes p (sent_to y ss) ≡ []
echoes_plain_sent a y ss p h = plain_echoes a (sent_to y ss) p (pass_sent (is_plain a) y ss h)

pub named_plain_sent : (a y : ℕ) (ss : List Send) → all_plain a ss ≡ true → all_named a y (sent_to y ss) ≡ true
named_plain_sent a y ss h = plain_all_named a y (sent_to y ss) (pass_sent (is_plain a) y ss h)
