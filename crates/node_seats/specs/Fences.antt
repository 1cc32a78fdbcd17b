-- The numbers of the steps that grant a seat its locks.
use Rattle.std.specs.Prelude.{ℕ, Bool, true, false, ◌≡◌, ◌==◌, ◌+◌, ◌*◌, ◌&&◌, if◌then◌else◌, Option, Some, unwrap_or, List}
use Rattle.std.specs.List.{position}
use Rattle.std.specs.Option.{option_map}
use Rattle.registry_model.specs.Call.{Reply as AnyReply, True}
use Rattle.protocol_model.specs.Event.{Answer as AnyAnswer}
use Rattle.shared_table.specs.declared.Answer.{Answer}
use Rattle.shared_table.specs.declared.Call.{Call}
use Rattle.shared_table.specs.declared.Call.TheVariants.{SetLock}
use Rattle.shared_table.specs.NodeEventsSeen.{reply_of}
use Rattle.shared_table.specs.Answers.{LogsAnswer}
use Rattle.shared_table.specs.Coming.{IsLoopOf}
use Rattle.shared_table.specs.Held.{Looping}
use Rattle.term.specs.declared.limits.TheConstants.{MOST_NODES}

-- a loop of this node came to where its log has a step of this stamp that gives this answer
pub record LogsIt (name stamp : ℕ) (answer : AnyAnswer) : Type 0 where
  pub node : Looping
  pub came : IsLoopOf name node
  pub logged : LogsAnswer node.log stamp answer

-- a loop of this node has logged so
abbrev pub HasLogged : ℕ → ℕ → AnyAnswer → Type 0
HasLogged name stamp answer = ∥ LogsIt name stamp answer ∥₁

-- the lock is granted by this reply
abbrev pub grants : AnyReply → Bool
grants True = true
grants _ = false

-- a loop of this node came to where its log has a step of this stamp that grants a lock
pub record LogsGrant (name stamp : ℕ) : Type 0 where
  pub node : Looping
  pub came : IsLoopOf name node
  pub answer : AnyAnswer
  pub logged : LogsAnswer node.log stamp answer
  pub granted : grants answer.reply ≡ true

-- a loop of this node has logged so
abbrev pub HasGranted : ℕ → ℕ → Type 0
HasGranted name stamp = ∥ LogsGrant name stamp ∥₁

-- it asks for a lock
abbrev pub sets_lock : Call → Bool
sets_lock (SetLock holder id nodes retries) = true
sets_lock _ = false

-- the stamp of the last step that granted a lock, where a call was answered so by the step of this one
abbrev pub granted_by : Call → ℕ → Answer → Option ℕ → Option ℕ
granted_by call stamp answer last = if sets_lock call && grants (reply_of answer.reply) then Some stamp else last

-- the place of a node among these
abbrev pub place_among : List ℕ → ℕ → ℕ
place_among nodes node = unwrap_or (position (λ n. n == node) nodes) 0

-- the number of such a step of a node among these: its stamp, and behind it the place of its node, of which there are so many
abbrev pub fence_of : List ℕ → ℕ → Option ℕ → Option ℕ
fence_of nodes node granted = option_map (λ stamp. stamp * MOST_NODES + place_among nodes node) granted
