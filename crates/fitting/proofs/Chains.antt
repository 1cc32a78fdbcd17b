-- Accounts over chains of rules, over events and over courses.
use Rattle.std.proofs.Common.{ℕ, Bool, true, false, ◌≡◌, ◌==◌, ◌+◌, Option, Some, None, List, [], ◌∷◌, ◌++◌, length, refl, sym, ap, ◌∙◌, subst, arith}
use Rattle.std.specs.Prelude.{if◌then◌else◌, flat_map, filter, is_none}
use Rattle.std.proofs.lemmas.List.{append-nil, append_assoc}
use Rattle.std.proofs.lemmas.Grind.{flat_map-append}
use Rattle.registry_model.specs.History.{Entry}
use Rattle.protocol_model.specs.Event.{Answer, Refusal}
use Rattle.protocol_model.specs.Fit.{Numbered, calls_in, number_from, accepted_at, decided_at, IsPrefix}
use Rattle.protocol_model.specs.World.{Opening, World, WorldEvent, place, opening_world, turn_of, refusal, accepted, happens, run}
use Rattle.protocol_model.specs.Course.{Played, played, course, entries_of, answers_of}
use Rattle.join_gates.proofs.Rules
use Rattle.join_gates.proofs.Invariants.{Proper, Replicas}
use Rattle.join_gates.proofs.Gates.{Joins}
use Rattle.join_gates.proofs.Still.{effect-history}
use Rattle.join_gates.proofs.Shown.{LoneOwners}
use Rattle.fitting.proofs.Accounts.{own, owed_by, is_word_at, replies_to, Accounts}
use Rattle.fitting.proofs.Working.{accepted_by}
use Rattle.fitting.proofs.Keeping.{accepted_after, accounts_keep, accounts_open}
use Rattle.fitting.proofs.Numbers.{accepted_along, accepted_at-push, length_push}
use Rattle.fitting.proofs.Calls.{chain, event_accepts}

-- what is known of each world: it is kept by every rule, and an accepted event is a chain of rules
pub record Ground (o : Opening) (Good : World → Type 0) : Type 0 where
  pub keeps : (a : ℕ) (w : World) (r : Rules.Rule) → Good w → Rules.May o a w r → Good (Rules.effect o a r w)
  pub proper : (w : World) → Good w → Proper o w
  pub replicas : (w : World) → Good w → Replicas o w
  pub owners : (w : World) → Good w → LoneOwners o w
  pub joins : (w : World) → Good w → Joins o w
  pub walks : (w : World) (e : WorldEvent) → Good w → refusal o w e ≡ None → Rules.Walked o w e

-- accounts of the same calls and answers
accounts_as : (o : Opening) (w : World) (accepted others : ℕ → List Numbered) (given more : List Answer)
    → ((b : ℕ) → accepted b ≡ others b) → given ≡ more
    → Accounts o w accepted given → Accounts o w others more
accounts_as o w accepted others given more same e A = record {
  gate = A.gate;
  gates = A.gates;
  calls = λ b. sym (same b) ∙ A.calls b;
  answers = λ b. A.answers b ∙ ap (λ (l : List Answer). filter (is_word_at b) l ++ owed_by b (replies_to A.gate b)
      (w.node b).current) e;
}

-- the history behind a chain
pub history_along : (o : Opening) (a : ℕ) (rs : List Rules.Rule) (w : World)
    → (Rules.effects o a rs w).history ≡ w.history ++ Rules.entries_by o a rs w
history_along o a [] w = sym (append-nil w.history)
history_along o a (r ∷ rs) w = history_along o a rs (Rules.effect o a r w)
    ∙ ap (λ (h : List Entry). h ++ Rules.entries_by o a rs (Rules.effect o a r w)) (effect-history o a w r)
    ∙ append_assoc w.history (Rules.turn_by o a w r).entries (Rules.entries_by o a rs (Rules.effect o a r w))

-- what the events so far made
pub record Book (o : Opening) (w : World) (ps : List Played) : Type 0 where
  pub accounts : Accounts o w (λ a. accepted_at a ps) (answers_of ps)
  pub count : (a : ℕ) → (w.node a).last_call ≡ length (flat_map (calls_in a) ps)
  pub history : w.history ≡ entries_of ps

pub book_opens : (o : Opening) → Book o (opening_world o) []
book_opens o = record { accounts = accounts_open o; count = λ a. refl; history = refl }

module _ (o : Opening) (Good : World → Type 0) (K : Ground o Good) where
  pub good_along : (a : ℕ) (rs : List Rules.Rule) (w : World) → Good w → Rules.MayAll o a rs w
      → Good (Rules.effects o a rs w)
  good_along a [] w G M = G
  good_along a (r ∷ rs) w G M = good_along a rs (Rules.effect o a r w) (K.keeps a w r G M.0) M.1

  pub good_behind : (w : World) (e : WorldEvent) → Good w → refusal o w e ≡ None → Good (accepted o w e)
  good_behind w e G is =
      let W : Rules.Walked o w e = K.walks w e G is in
      subst Good W.world (good_along (place e) (chain o w e W) w G W.may)

  pub good_on : (w : World) (e : WorldEvent) → Good w → Good (happens o w e)
  good_on w e G = go (refusal o w e) refl
    where
      go : (r : Option Refusal) → refusal o w e ≡ r → Good (if is_none r then accepted o w e else w)
      go (Some r) is = G
      go None is = good_behind w e G is

  pub accounts_along : (a : ℕ) (rs : List Rules.Rule) (w : World) (accepted : ℕ → List Numbered) (given : List Answer)
      → Good w → Rules.MayAll o a rs w → Accounts o w accepted given
      → Accounts o (Rules.effects o a rs w) (λ b. accepted b ++ (if b == a then accepted_along o a rs w else []))
      (given ++ Rules.answers_by o a rs w)
  accounts_along a [] w accepted given G M A = accounts_as o w accepted _ given _ (λ b. sym (go b (b == a)))
      (sym (append-nil given)) A
    where
      empty : List Numbered
      empty = []

      go : (b : ℕ) (t : Bool) → accepted b ++ (if t then empty else []) ≡ accepted b
      go b true = append-nil (accepted b)
      go b false = append-nil (accepted b)
  accounts_along a (r ∷ rs) w accepted given G M A = accounts_as o (Rules.effects o a rs v)
      (λ b. accepted_after a r w accepted b ++ (if b == a then accepted_along o a rs v else [])) _
      ((given ++ (Rules.turn_by o a w r).answers) ++ Rules.answers_by o a rs v) _
      (λ b. go b (b == a)) (append_assoc given (Rules.turn_by o a w r).answers (Rules.answers_by o a rs v))
      (accounts_along a rs v (accepted_after a r w accepted) (given ++ (Rules.turn_by o a w r).answers)
      (K.keeps a w r G M.0) M.1
      (accounts_keep o a w r accepted given (K.proper w G) (K.replicas w G) (K.replicas v (K.keeps a w r G M.0))
      (K.owners w G) ((K.joins w G).once a) M.0 A))
    where
      v : World
      v = Rules.effect o a r w

      go : (b : ℕ) (t : Bool) → (accepted b ++ (if t then accepted_by r (w.node a) else [])) ++
          (if t then accepted_along o a rs v else [])
          ≡ accepted b ++ (if t then accepted_by r (w.node a) ++ accepted_along o a rs v else [])
      go b true = append_assoc (accepted b) (accepted_by r (w.node a)) (accepted_along o a rs v)
      go b false = append-nil (accepted b ++ [])

  -- an accepted event adds what it made
  pub book_keeps : (w : World) (e : WorldEvent) (ps : List Played) → Good w → refusal o w e ≡ None → Book o w ps
      → Book o (accepted o w e) (ps ++ played o w e ∷ [])
  book_keeps w e ps G is B = record {
    accounts = subst (λ (v : World). Accounts o v (λ b. accepted_at b (ps ++ p ∷ []))
        (answers_of (ps ++ p ∷ []))) W.world
        (accounts_as o (Rules.effects o (place e) rs w)
        (λ b. accepted_at b ps ++ (if b == place e then accepted_along o (place e) rs w else [])) _
        (answers_of ps ++ Rules.answers_by o (place e) rs w) _
        accepts
        (ap (λ (l : List Answer). answers_of ps ++ l) (W.answers ∙ sym given ∙ sym (append-nil p.answers))
        ∙ sym (flat_map-append (λ (q : Played). q.answers) ps (p ∷ [])))
        (accounts_along (place e) rs w (λ b. accepted_at b ps) (answers_of ps) G W.may B.accounts));
    count = λ b. ap (λ (v : World). (v.node b).last_call) (sym W.world) ∙ (event_accepts o w e W b).1
        ∙ ap (λ (k : ℕ). k + length (calls_in b p)) (B.count b) ∙ sym (length_push b ps p);
    history = ap (λ (v : World). v.history) (sym W.world) ∙ history_along o (place e) rs w
        ∙ ap (λ (h : List Entry). h ++ Rules.entries_by o (place e) rs w) B.history
        ∙ ap (λ (l : List Entry). entries_of ps ++ l) (W.entries ∙ sym (append-nil p.entries))
        ∙ sym (flat_map-append (λ (q : Played). q.entries) ps (p ∷ []));
  }
    where
      W : Rules.Walked o w e
      W = K.walks w e G is

      rs : List Rules.Rule
      rs = chain o w e W

      p : Played
      p = played o w e

      given : p.answers ≡ (turn_of o w e).answers
      given = ap (λ (r : Option Refusal). if is_none r then (turn_of o w e).answers else []) is

      accepts : (b : ℕ) → accepted_at b ps ++ (if b == place e then accepted_along o (place e) rs w else [])
          ≡ accepted_at b (ps ++ p ∷ [])
      accepts b = ap (λ (l : List Numbered). accepted_at b ps ++ l) ((event_accepts o w e W b).0
          ∙ ap (λ (k : ℕ). number_from k (calls_in b p)) (ap (λ (k : ℕ). k + 1) (B.count b) ∙ omega arith))
          ∙ sym (accepted_at-push b ps p)

  -- what each accepted event keeps is kept by a course
  pub course_keeps : (F : World → List Played → Type 0)
      → ((w : World) (e : WorldEvent) (ps : List Played) → Good w → refusal o w e ≡ None → F w ps
      → F (accepted o w e) (ps ++ played o w e ∷ []))
      → (es : List WorldEvent) (w : World) (ps : List Played) → Good w → F w ps → F (run o w es) (ps ++ course o w es)
  course_keeps F kept [] w ps G B = subst (F w) (sym (append-nil ps)) B
  course_keeps F kept (e ∷ es) w ps G B = go (refusal o w e) refl (λ v qs H C. course_keeps F kept es v qs H C)
    where
      go : (r : Option Refusal) → refusal o w e ≡ r
          → ((v : World) (qs : List Played) → Good v → F v qs → F (run o v es) (qs ++ course o v es))
          → F (run o (if is_none r then accepted o w e else w) es)
          (ps ++ ((if is_none r then played o w e ∷ [] else []) ++ course o
          (if is_none r then accepted o w e else w) es))
      go (Some r) is more = more w ps G B
      go None is more = subst (F (run o (accepted o w e) es))
          (append_assoc ps (played o w e ∷ []) (course o (accepted o w e) es))
          (more (accepted o w e) (ps ++ played o w e ∷ []) (good_behind w e G is) (kept w e ps G is B))

  -- each world is good
  pub good_run : (es : List WorldEvent) (w : World) → Good w → Good (run o w es)
  good_run es w G = course_keeps (λ v ps. Good v) (λ v e ps H is B. good_behind v e H is) es w [] G G

-- at each node its name and join calls are decided in the order in which it accepted them
pub book_calls : (o : Opening) (w : World) (ps : List Played) → Book o w ps → (a : ℕ)
    → IsPrefix (flat_map (decided_at a) (entries_of ps)) (accepted_at a ps)
book_calls o w ps B a = (
  own (replies_to B.accounts.gate a) (w.node a),
  B.accounts.calls a ∙ ap (λ (h : List Entry). flat_map (decided_at a) h ++ own (replies_to B.accounts.gate a)
      (w.node a)) B.history,
)
