-- Of every course: look-ups are answered once, and each numbered call is answered at most once, by a reply that it may
-- have.
use Rattle.std.proofs.Common.{ℕ, Bool, false, ◌==◌, ◌≡◌, None, List, [], ◌∷◌, ◌++◌, sym, ap, ◌∙◌, subst}
use Rattle.std.specs.Prelude.{◌&&◌, not, if◌then◌else◌, Contains}
use Rattle.std.specs.List.{AllByRecursion}
use Rattle.std.proofs.lemmas.List.{append-nil}
use Rattle.std.proofs.lemmas.Grind.{flat_map-append}
use Rattle.std.proofs.lemmas.Bool.{ne_eqb}
use Rattle.protocol_model.specs.Node.{Node}
use Rattle.protocol_model.specs.Event.{Call, Answer}
use Rattle.protocol_model.specs.Turn.{Turn}
use Rattle.protocol_model.specs.Fit.{calls_in}
use Rattle.protocol_model.specs.Answers.{calls_at, LooksUpOnce, AnswersCalls}
use Rattle.protocol_model.specs.World.{Opening, World, WorldEvent, place, turn_of, refusal, accepted, opening_world}
use Rattle.protocol_model.specs.Course.{Played, played, answers_of}
use Rattle.protocol_model.proofs.Waiting.{accepted-node}
use Rattle.registry_model.proofs.Updates.{by_test, at_same}
use Rattle.walk.proofs.Walk.{walked_in_order}
use Rattle.fitting.proofs.Accounts.{is_word}
use Rattle.fitting.proofs.Admissions.{all_map}
use Rattle.fitting.proofs.Chains
use Rattle.fitting.proofs.Once.{is_lock_under, answers_once}
use Rattle.fitting.proofs.LookUps.{filter_none, own_answers}
use Rattle.fitting.proofs.Replies.{answers_given}
use Rattle.fitting.proofs.Theorem
use Rattle.headline.specs.Clauses.{events, world}
use Rattle.headline.proofs.Together.{Whole, whole_opens, widens, replicas, event_walks, run_whole}
use Rattle.headline.proofs.Story.{ground}
use Rattle.headline.proofs.LockAnswers.{Ledger, Aside, ledger_none, ledger_wider, ledger_aside}
use Rattle.headline.proofs.LockEvents.{event_ledger}

-- the open lock calls and the answers of each node
abbrev pub Ledgers : World → List Played → Type 0
Ledgers w ps = (b : ℕ) → Ledger b (calls_at b ps) (w.node b).calls (answers_of ps)

-- answers of one node are of no call of another
aside_other : (a b : ℕ) → (b ≡ a → ⊥) → (xs : List Answer) → AllByRecursion (λ s. s.node ≡ a) xs → Aside b xs
aside_other a b ne xs all k pos = filter_none (is_lock_under b k) xs
    (all_map (λ (s : Answer). s.node ≡ a) (λ (s : Answer). is_lock_under b k s ≡ false)
    (λ s e. ap (λ (t : Bool). (t && (s.number == k)) && not (is_word s.reply))
    (ne_eqb s.node b (λ q. ne (sym q ∙ e)))) xs all)

module _ (o : Opening) where
  -- each accepted event keeps it
  ledgers_keep : (w : World) (e : WorldEvent) (ps : List Played) → Whole o w → (is : refusal o w e ≡ None)
      → Theorem.Kept o w ps → Ledgers w ps → Ledgers (accepted o w e) (ps ++ played o w e ∷ [])
  ledgers_keep w e ps W is X L b =
      subst (λ (cs : List Call). Ledger b cs ((accepted o w e).node b).calls (answers_of qs)) (sym calls)
      (subst (Ledger b (calls_at b ps ++ calls_in b p) ((accepted o w e).node b).calls) (sym given)
      (subst (λ (f : ℕ → Node). Ledger b (calls_at b ps ++ calls_in b p) (f b).calls (answers_of ps ++ u.answers))
      (sym (accepted-node o w e))
      (by_test (place e) (λ b t. Ledger b (calls_at b ps ++ calls_in b p) (if t then u.node else w.node b).calls
      (answers_of ps ++ u.answers)) here there b)))
    where
      p : Played
      p = played o w e

      qs : List Played
      qs = ps ++ p ∷ []

      u : Turn
      u = turn_of o w e

      calls : calls_at b qs ≡ calls_at b ps ++ calls_in b p
      calls = flat_map-append (calls_in b) ps (p ∷ [])
          ∙ ap (λ (cs : List Call). calls_at b ps ++ cs) (append-nil (calls_in b p))

      given : answers_of qs ≡ answers_of ps ++ u.answers
      given = flat_map-append (λ (q : Played). q.answers) ps (p ∷ [])
          ∙ ap (λ (l : List Answer). answers_of ps ++ l) (append-nil p.answers ∙ answers_given o w e is)

      here : Ledger (place e) (calls_at (place e) ps ++ calls_in (place e) p) u.node.calls (answers_of ps ++ u.answers)
      here = subst (λ (n : Node). Ledger (place e) (calls_at (place e) ps ++ calls_in (place e) p) n.calls
          (answers_of ps ++ u.answers))
          (ap (λ (f : ℕ → Node). f (place e)) (accepted-node o w e) ∙ at_same w.node (place e) u.node)
          (event_ledger o w ps W e (walked_in_order o w e W.ordered (widens o w W.kept W.once) is)
          (X.book.count (place e)) (L (place e)))

      behind : Theorem.Kept o (accepted o w e) qs
      behind = Theorem.kept_on o (Whole o) (ground o) (whole_opens o) [] w e ps W is X

      there : (b : ℕ) → (b ≡ place e → ⊥)
          → Ledger b (calls_at b ps ++ calls_in b p) (w.node b).calls (answers_of ps ++ u.answers)
      there b ne = ledger_aside b (calls_at b ps ++ calls_in b p) (w.node b).calls (answers_of ps) u.answers
          (aside_other (place e) b ne u.answers (own_answers o w e ps (replicas o w W.kept) X.book behind.book X.spares
          X.apart.rested is (event_walks o w e W is)))
          (ledger_wider b (calls_at b ps) (calls_in b p) (w.node b).calls (answers_of ps) (L b))

  -- what is kept of calls and answers
  record Told (w : World) (ps : List Played) : Type 0 where
    kept : Theorem.Kept o w ps
    ledgers : Ledgers w ps

  module _ (es : List WorldEvent) where
    -- it holds behind every list of events
    told : Told (world o es) (events o es)
    told = Chains.course_keeps o (Whole o) (ground o) Told
        (λ w e ps W is T. record {
          kept = Theorem.kept_on o (Whole o) (ground o) (whole_opens o) [] w e ps W is T.kept;
          ledgers = ledgers_keep w e ps W is T.kept T.ledgers;
        })
        es (opening_world o) [] (whole_opens o)
        (record { kept = Theorem.kept_run o (Whole o) (ground o) (whole_opens o) []; ledgers = λ b. ledger_none b })

    -- so do the ledgers of lock calls
    pub ledgers : Ledgers (world o es) (events o es)
    ledgers = told.ledgers

    -- a look-up is entered once and answered once, and nothing but it and `spawn` is answered under number 0
    pub looks : (p : Played) → Contains (events o es) p → LooksUpOnce p
    looks = Theorem.looks o (Whole o) (ground o) (whole_opens o) es

    -- each answer stands under its event's node, and each numbered call is answered at most once, by a reply that it
    -- may have
    pub calls_answered : AnswersCalls (events o es)
    calls_answered = record {
      place = λ p s c d. (told.kept.steps p c).place s d;
      once = answers_once o (world o es) (events o es) told.kept.book told.kept.spares
          (replicas o (world o es) (run_whole o es).kept) (λ a k pos. (told.ledgers a).once k pos);
    }
