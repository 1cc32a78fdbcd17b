-- The test that rows are checked by asks the headline, and no more; and where it passes, the headline stands as far as the nodes
-- below the bound tell. It doesn't ask `exited` and `welcomed`, nor what a node would answer or refuse next, but for leaves: that
-- is `reads`, `spawns` and `refusals`; nor, of what a node shows, the notices.
use mathlib.Core.Logic.{◌⊎◌}
use Rattle.std.specs.Prelude.{ℕ, true, ◌==◌, ◌≡◌, ◌<◌, IsTrue, Contains, Some, None, option_map, filter, flat_map, fold, List, [], ◌∷◌, ◌++◌, if◌then◌else◌}
use Rattle.registry_model.specs.Call.{Yes}
use Rattle.registry_model.specs.Registry.{Registry, Replica, in_group, replica_of}
use Rattle.registry_model.specs.History.{Entry, is_free, is_holding, old, after}
use Rattle.registry_model.specs.HistoryLaws.{decided_by}
use Rattle.registry_model.specs.Legal.{IsLegal}
use Rattle.protocol_model.specs.Event.{Event, Answer, HoldsLock}
use Rattle.protocol_model.specs.World.{Opening, in_cluster, WorldEvent, At}
use Rattle.protocol_model.specs.Course.{Played, Seen, entries_of}
use Rattle.protocol_model.specs.Fit.{IsPrefix, IsMadeIn, accepted_at, decided_at, is_exit, is_left, is_told, exit_of, left_of, notice_of}
use Rattle.protocol_model.specs.Answers.{answers_at, entered_at, AnswersInTime, LooksUpOnce, AnswersCalls, JoinerIsAnswered}
use Rattle.protocol_model.specs.Headline.{Headline, EachStep, IsRunning, standing}
use Rattle.protocol_model.specs.Check.{keeps_headline}
use Rattle.headline.specs.Clauses.{now, events}

-- Where the headline stands behind all first ones of these events, the test passes: a row that fails it refutes the headline
abbrev pub TestAsksTheHeadline : Type 0
TestAsksTheHeadline = (o : Opening) (es : List WorldEvent) → ((first : List WorldEvent) → IsPrefix first es → Headline o (events o first) (now o first)) →
    keeps_headline o es ≡ true

-- two replicas are one, as far as the nodes below n tell, but for their notices
pub record IsReplicaBelow (n : ℕ) (v u : Replica) : Type 0 where
  pub table : v.table ≡ u.table
  pub members : (c : ℕ) → c < n → v.members c ≡ u.members c
  pub told : (c : ℕ) → c < n → v.told c ≡ u.told c
  pub joined : v.joined ≡ u.joined

-- node a shows the registry, as far as the nodes below the bound tell, but for notices
abbrev pub ShowsBelow : Opening → Registry → ℕ → Seen → Type 0
ShowsBelow o r a now = IsReplicaBelow o.bound (now.node a) (replica_of r a)

-- The headline as far as the nodes below the bound tell: each of its clauses but `reads`, `spawns`, `exited`, `welcomed` and
-- `refusals`, where a set of nodes stands for its part below the bound, and `calls` and `replies` are asked of nodes below it
pub record HeadlineBelow (o : Opening) (ps : List Played) (now : Seen) : Type 0 where
  pub history : now.history ≡ entries_of ps
  pub legal : IsLegal (in_cluster o) now.history
  pub calls : (a : ℕ) → a < o.bound → IsPrefix (flat_map (decided_at a) (entries_of ps)) (accepted_at a ps)
  pub exits : filter is_exit (entries_of ps) ≡ flat_map exit_of ps
  pub departures : filter is_left (entries_of ps) ≡ flat_map left_of ps
  pub notices : filter is_told (entries_of ps) ≡ flat_map notice_of ps
  pub replies : (a : ℕ) → a < o.bound → IsPrefix (answers_at a ps) (flat_map (entered_at a) (entries_of ps))
  pub in_time : EachStep ps (λ before p. AnswersInTime (standing o before) p (fold after (standing o before) p.entries))
  pub free : (a : ℕ) → IsRunning o (standing o ps) a → IsTrue (is_free (standing o ps) a) →
      ShowsBelow o (standing o ps).registry a now
  pub held : (a : ℕ) → IsRunning o (standing o ps) a →
      ShowsBelow o (standing o ps).registry a now ⊎ ShowsBelow o (old (standing o ps) a) a now
  pub written : (before : List Played) (p : Played) (s : Answer) → ps ≡ before ++ p ∷ [] → Contains p.answers s → s.reply ≡ Yes →
      (c : ℕ) → in_group (standing o ps).registry s.node c ≡ true → IsRunning o (standing o ps) c →
      ShowsBelow o (standing o ps).registry c now
  pub leave : (a : ℕ) → IsRunning o (standing o ps) a →
      now.refusal (At a Event.Leave) ≡ (if is_holding (standing o ps) a then Some HoldsLock else None)
  pub holder : now.holder ≡ option_map (λ hold. hold.node) (standing o ps).held
  pub made : (p : Played) (e : Entry) → Contains ps p → Contains p.entries e → IsMadeIn p e
  pub decided : (before : List Played) (p : Played) (earlier later : List Entry) (e : Entry) (a : ℕ) →
      ps ≡ before ++ p ∷ [] → p.entries ≡ earlier ++ e ∷ later → decided_by e ≡ Some a →
      (let t = fold after (standing o before) earlier in
      (c b : ℕ) → b < o.bound → in_group t.registry a c ≡ true → IsRunning o t c → now.given c b ≡ (b == a))
  pub looks : (p : Played) → Contains ps p → LooksUpOnce p
  pub answered : AnswersCalls ps
  pub joiner : EachStep ps (λ before p. JoinerIsAnswered before (standing o before) p)

-- Where the test passes, the headline stands as far as the nodes below the bound tell
abbrev pub HeadlineWhereTestPasses : Type 0
HeadlineWhereTestPasses = (o : Opening) (es : List WorldEvent) → keeps_headline o es ≡ true →
    HeadlineBelow o (events o es) (now o es)
