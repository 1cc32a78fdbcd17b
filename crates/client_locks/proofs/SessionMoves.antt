-- How a session goes on with each letter that is sent or read, and with each answer.
use Rattle.std.proofs.Common.{ℕ, Bool, true, false, ◌≡◌, ◌+◌, ◌-◌, List, [], ◌∷◌, ◌++◌, refl, sym, ap, ◌∙◌, arith}
use Rattle.std.specs.Prelude.{if◌then◌else◌}
use Rattle.protocol_model.specs.Letter.{Id, is_id}
use Rattle.moves.proofs.Indices.{both}
use Rattle.protocol_model.proofs.Ids.{is_id_self}
use Rattle.client_locks.proofs.Ids.{is_id_same}
use Rattle.client_locks.proofs.Rounds.{mark_by}
use Rattle.client_locks.proofs.Sessions.{Ask, Takes, Backs, Acks, Frees, Echo, Answers, Backed, View, Idle, Owed, Won, Denied, Due, Down, view_of, settled, none_left, only_backs, fits, one_if, due, Live, settled-append, backs-take, backs-back, backs-ack, none_left_nil}

-- a take that comes first is all that is on its way
pub take_front : (v : View) (j : Id) (ups : List Ask) (downs : List Echo) → fits v (Takes j ∷ ups) downs ≡ true
    → (id : Id) × (v ≡ Owed id) × (j ≡ id) × (ups ≡ []) × (downs ≡ [])
take_front (Owed id) j ups [] h =
    let parts : (is_id j id ≡ true) × (none_left ups ≡ true) = both (is_id j id) (none_left ups) h in
    (id, refl, is_id_same j id parts.0, none_left_nil ups parts.1, refl)
take_front (Owed id) j ups (e ∷ es) h = cc
take_front Idle j ups [] h = cc
take_front Idle j ups (e ∷ es) h = cc
take_front (Won id) j ups [] h = cc
take_front (Won id) j ups (e ∷ es) h = cc
take_front Denied j ups [] h = cc
take_front Denied j ups (e ∷ es) h = cc
take_front Due j ups [] h = cc
take_front Due j ups (e ∷ es) h = cc
take_front Down j ups downs h = cc

-- so is a give-back that is to be answered
pub ack_front : (v : View) (j : Id) (ups : List Ask) (downs : List Echo) → fits v (Acks j ∷ ups) downs ≡ true
    → (v ≡ Due) × (ups ≡ []) × (downs ≡ [])
ack_front Due j ups [] h = (refl, none_left_nil ups h, refl)
ack_front Due j ups (e ∷ es) h = cc
ack_front (Owed id) j ups [] h = cc
ack_front (Owed id) j ups (e ∷ es) h = cc
ack_front Idle j ups [] h = cc
ack_front Idle j ups (e ∷ es) h = cc
ack_front (Won id) j ups [] h = cc
ack_front (Won id) j ups (e ∷ es) h = cc
ack_front Denied j ups [] h = cc
ack_front Denied j ups (e ∷ es) h = cc
ack_front Down j ups downs h = cc

pub no_free_front : {X : Type 0} (v : View) (ups : List Ask) (downs : List Echo) → fits v (Frees ∷ ups) downs ≡ true → X
no_free_front Due ups [] h = cc
no_free_front Due ups (e ∷ es) h = cc
no_free_front (Owed id) ups [] h = cc
no_free_front (Owed id) ups (e ∷ es) h = cc
no_free_front Idle ups [] h = cc
no_free_front Idle ups (e ∷ es) h = cc
no_free_front (Won id) ups [] h = cc
no_free_front (Won id) ups (e ∷ es) h = cc
no_free_front Denied ups [] h = cc
no_free_front Denied ups (e ∷ es) h = cc
no_free_front Down ups downs h = cc

back_front : (v : View) (j : Id) (ups : List Ask) (downs : List Echo) → fits v (Backs j ∷ ups) downs ≡ true
    → fits v ups downs ≡ true
back_front Idle j ups [] h = h
back_front Idle j ups (e ∷ es) h = cc
back_front (Won id) j ups [] h = h
back_front (Won id) j ups (e ∷ es) h = cc
back_front Denied j ups [] h = h
back_front Denied j ups (e ∷ es) h = cc
back_front (Owed id) j ups [] h = h
back_front (Owed id) j ups (e ∷ es) h = cc
back_front Due j ups [] h = h
back_front Due j ups (e ∷ es) h = cc
back_front Down j ups downs h = cc

-- an answer is of the call that is owed one, and is all that is on its way
pub answer_front : (v : View) (j : Id) (g : Bool) (ups : List Ask) (downs : List Echo)
    → fits v ups (Answers j g ∷ downs) ≡ true
    → (id : Id) × (v ≡ Owed id) × (j ≡ id) × (ups ≡ []) × (downs ≡ [])
answer_front (Owed id) j g [] [] h = (id, refl, is_id_same j id h, refl, refl)
answer_front (Owed id) j g [] (e ∷ es) h = cc
answer_front (Owed id) j g (u ∷ us) downs h = cc
answer_front Idle j g ups downs h = cc
answer_front (Won id) j g ups downs h = cc
answer_front Denied j g ups downs h = cc
answer_front Due j g [] downs h = cc
answer_front Due j g (u ∷ us) downs h = cc
answer_front Down j g ups downs h = cc

-- so is an acknowledgement
pub backed_front : (v : View) (ups : List Ask) (downs : List Echo) → fits v ups (Backed ∷ downs) ≡ true
    → (v ≡ Due) × (ups ≡ []) × (downs ≡ [])
backed_front Due [] [] h = (refl, refl, refl)
backed_front Due [] (e ∷ es) h = cc
backed_front Due (u ∷ us) downs h = cc
backed_front (Owed id) [] downs h = cc
backed_front (Owed id) (u ∷ us) downs h = cc
backed_front Idle ups downs h = cc
backed_front (Won id) ups downs h = cc
backed_front Denied ups downs h = cc
backed_front Down ups downs h = cc

idle_parts : (ups : List Ask) (downs : List Echo) → fits Idle ups downs ≡ true → (only_backs ups ≡ true) × (downs ≡ [])
idle_parts ups [] h = (h, refl)
idle_parts ups (e ∷ es) h = cc

won_parts : (id : Id) (ups : List Ask) (downs : List Echo) → fits (Won id) ups downs ≡ true
    → (only_backs ups ≡ true) × (downs ≡ [])
won_parts id ups [] h = (h, refl)
won_parts id ups (e ∷ es) h = cc

denied_parts : (ups : List Ask) (downs : List Echo) → fits Denied ups downs ≡ true
    → (only_backs ups ≡ true) × (downs ≡ [])
denied_parts ups [] h = (h, refl)
denied_parts ups (e ∷ es) h = cc

-- one more of the locks of this id
abbrev pub more_of : Id → (Id → ℕ) → Id → ℕ
more_of j num i = if is_id j i then num i + 1 else num i

-- one less of them, not below 0
abbrev pub less_of : Id → (Id → ℕ) → Id → ℕ
less_of j num i = if is_id j i then num i - 1 else num i

module _ (ups : List Ask) (downs : List Echo) (held num : Id → ℕ) where
  -- the node is asked
  pub live_asks : (j : Id) → Live Idle ups downs held num → Live (Owed j) (ups ++ Takes j ∷ []) downs held num
  live_asks j l =
      let was : (only_backs ups ≡ true) × (downs ≡ []) = idle_parts ups downs l.fit in
      record {
        fit = ap (fits (Owed j) (ups ++ Takes j ∷ [])) was.1 ∙ backs-take j ups was.0;
        sum = λ i. settled-append i ups (Takes j ∷ []) (held i) ∙ l.sum i
            ∙ ap (λ (es : List Echo). num i + due i (Owed j) es) (sym was.1);
      }

  -- its grant is given back
  pub live_gives : (j : Id) → Live (Won j) ups downs held num → Live Idle (ups ++ Backs j ∷ []) downs held num
  live_gives j l =
      let was : (only_backs ups ≡ true) × (downs ≡ []) = won_parts j ups downs l.fit in
      record {
        fit = ap (fits Idle (ups ++ Backs j ∷ [])) was.1 ∙ backs-back j ups was.0;
        sum = λ i. settled-append i ups (Backs j ∷ []) (held i) ∙ go i (is_id j i) (l.sum i);
      }
    where
      go : (i : Id) (b : Bool) → settled i ups (held i) ≡ num i + one_if b
          → (if b then settled i ups (held i) - 1 else settled i ups (held i)) ≡ num i + 0
      go i true h = omega (arith, h)
      go i false h = h

  -- the process holds the lock there once more
  pub live_wins : (j : Id) → Live (Won j) ups downs held num → Live Idle ups downs held (more_of j num)
  live_wins j l =
      let was : (only_backs ups ≡ true) × (downs ≡ []) = won_parts j ups downs l.fit in
      record {
        fit = ap (fits Idle ups) was.1 ∙ was.0;
        sum = λ i. l.sum i ∙ go i (is_id j i);
      }
    where
      go : (i : Id) (b : Bool) → num i + one_if b ≡ (if b then num i + 1 else num i) + 0
      go i true = omega arith
      go i false = refl

  pub live_lets_go : Live Denied ups downs held num → Live Idle ups downs held num
  live_lets_go l =
      let was : (only_backs ups ≡ true) × (downs ≡ []) = denied_parts ups downs l.fit in
      record { fit = ap (fits Idle ups) was.1 ∙ was.0; sum = l.sum }

  -- the node is to give the lock up, and to say so
  pub live_deletes : (j : Id) → Live Idle ups downs held num → Live Due (ups ++ Acks j ∷ []) downs held (less_of j num)
  live_deletes j l =
      let was : (only_backs ups ≡ true) × (downs ≡ []) = idle_parts ups downs l.fit in
      record {
        fit = ap (fits Due (ups ++ Acks j ∷ [])) was.1 ∙ backs-ack j ups was.0;
        sum = λ i. settled-append i ups (Acks j ∷ []) (held i) ∙ go i (is_id j i) (l.sum i);
      }
    where
      go : (i : Id) (b : Bool) → settled i ups (held i) ≡ num i + 0
          → (if b then settled i ups (held i) - 1 else settled i ups (held i)) ≡ (if b then num i - 1 else num i) + 0
      go i true h = omega (arith, h)
      go i false h = h

  -- the answer is heard
  pub live_hears : (id j : Id) (g : Bool) → Live (Owed id) ups (Answers j g ∷ downs) held num
      → Live (view_of id (mark_by g)) ups downs held num
  live_hears id j true l =
      let was : (k : Id) × (Owed id ≡ Owed k) × (j ≡ k) × (ups ≡ []) × (downs ≡ []) = answer_front
      (Owed id) j true ups downs l.fit in
      record { fit = ap (fits (Won id) ups) was.4 ∙ ap only_backs was.3; sum = l.sum }
  live_hears id j false l =
      let was : (k : Id) × (Owed id ≡ Owed k) × (j ≡ k) × (ups ≡ []) × (downs ≡ []) = answer_front
      (Owed id) j false ups downs l.fit in
      record { fit = ap (fits Denied ups) was.4 ∙ ap only_backs was.3; sum = l.sum }

  -- the acknowledgement is heard
  pub live_is_told : Live Due ups (Backed ∷ downs) held num → Live Idle ups downs held num
  live_is_told l =
      let was : (Due ≡ Due) × (ups ≡ []) × (downs ≡ []) = backed_front Due ups downs l.fit in
      record { fit = ap (fits Idle ups) was.2 ∙ ap only_backs was.1; sum = l.sum }

  -- the lock table answers
  pub live_judged : (v : View) (j : Id) (g : Bool) (held2 : Id → ℕ)
      → ((i : Id) → held2 i ≡ (if g then more_of j held i else held i))
      → Live v (Takes j ∷ ups) downs held num → Live v ups (downs ++ Answers j g ∷ []) held2 num
  live_judged v j g held2 eq l =
      let was : (id : Id) × (v ≡ Owed id) × (j ≡ id) × (ups ≡ []) × (downs ≡ []) = take_front v j ups downs l.fit in
      record {
        fit = ap (λ (x : View). fits x ups (downs ++ Answers j g ∷ [])) (was.1 ∙ ap Owed (sym was.2))
            ∙ ap (λ (us : List Ask). fits (Owed j) us (downs ++ Answers j g ∷ [])) was.3
            ∙ ap (λ (es : List Echo). fits (Owed j) [] (es ++ Answers j g ∷ [])) was.4 ∙ is_id_self j;
        sum = λ i.
            let before : held i ≡ num i + 0 = sym (ap (λ (us : List Ask). settled i us (held i)) was.3) ∙ l.sum i
            ∙ ap (λ (x : View). num i + due i x downs) was.1 ∙ ap (λ (es : List Echo). num i + due i
            (Owed was.0) es) was.4 in
            let after : held2 i ≡ num i + due i (Owed j) (Answers j g ∷ []) = eq i ∙ go i g (is_id j i) refl before in
            ap (λ (us : List Ask). settled i us (held2 i)) was.3 ∙ after
            ∙ sym (ap (λ (x : View). num i + due i x (downs ++ Answers j g ∷ [])) (was.1 ∙ ap Owed (sym was.2))
            ∙ ap (λ (es : List Echo). num i + due i (Owed j) (es ++ Answers j g ∷ [])) was.4);
      }
    where
      go : (i : Id) (g b : Bool) → is_id j i ≡ b → held i ≡ num i + 0
          → (if g then (if b then held i + 1 else held i) else held i) ≡ num i + due i (Owed j) (Answers j g ∷ [])
      go i true true e h = rw e (omega (arith, h))
      go i true false e h = rw e h
      go i false b e h = h

  -- the lock table takes a count back
  pub live_taken_back : (v : View) (j : Id) (held2 : Id → ℕ) → ((i : Id) → held2 i ≡ less_of j held i)
      → Live v (Backs j ∷ ups) downs held num → Live v ups downs held2 num
  live_taken_back v j held2 eq l = record {
    fit = back_front v j ups downs l.fit;
    sum = λ i. ap (settled i ups) (eq i) ∙ l.sum i;
  }

  -- the same where it is to be answered
  pub live_acknowledged : (v : View) (j : Id) (held2 : Id → ℕ) → ((i : Id) → held2 i ≡ less_of j held i)
      → Live v (Acks j ∷ ups) downs held num → Live v ups (downs ++ Backed ∷ []) held2 num
  live_acknowledged v j held2 eq l =
      let was : (v ≡ Due) × (ups ≡ []) × (downs ≡ []) = ack_front v j ups downs l.fit in
      record {
        fit = ap (λ (x : View). fits x ups (downs ++ Backed ∷ [])) was.0
            ∙ ap (λ (us : List Ask). fits Due us (downs ++ Backed ∷ [])) was.1
            ∙ ap (λ (es : List Echo). fits Due [] (es ++ Backed ∷ [])) was.2;
        sum = λ i.
            let here : num i + due i v downs ≡ num i + 0 = ap (λ (x : View). num i + due i x downs) was.0 in
            let there : num i + due i v (downs ++ Backed ∷ []) ≡ num i + 0 = ap
            (λ (x : View). num i + due i x (downs ++ Backed ∷ [])) was.0 in
            ap (settled i ups) (eq i) ∙ l.sum i ∙ here ∙ sym there;
      }
