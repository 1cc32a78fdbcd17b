-- A node's loop that is sound over its end of the lines.
use Rattle.std.specs.Prelude.{true, ◌≡◌, ◌⊎◌, MatchResult}
use Rattle.protocol_model.specs.World.{Opening}
use Rattle.node_loop.specs.Held.{Looping}
use Rattle.node_loop.specs.Steps.{Outcome}
use Rattle.node_loop.specs.Sound.{IsSound, EndsSound}
use Rattle.node_threads.specs.declared.ruled_end.Traffic.{Traffic}
use Rattle.node_threads.specs.Ends.{leads_inside}
use Rattle.node_threads.specs.Dealings.{dealt_of}

-- the same, but for the replies that were handed out, and what its readers are still to be shown
abbrev pub IsBesides : Looping → Looping → Type 0
IsBesides a b = b ≡ record a { desk = b.desk; owed = b.owed }

-- its lines lead inside the world, and it is sound with what they and its inbox dealt in
abbrev pub IsSoundAt : Opening → Looping → Traffic → Type 0
IsSoundAt o a s = (leads_inside o s ≡ true) × IsSound o a (dealt_of s)

-- behind a turn it is so in each world in which it was so before; where the turn was the last, it ended so
abbrev pub StaysSound : Looping → Traffic → Outcome → Looping → Traffic → Type 0
StaysSound a s r b t = (o : Opening) → IsSoundAt o a s
    → (leads_inside o t ≡ true) × MatchResult r (λ _. IsSound o b (dealt_of t)) (λ _. EndsSound o b (dealt_of t))

-- behind its last turn it is so still, or ended so, in each world in which it was so at first
abbrev pub LastsSound : Looping → Traffic → Looping → Traffic → Type 0
LastsSound a s b t = (o : Opening) → IsSoundAt o a s → IsSound o b (dealt_of t) ⊎ EndsSound o b (dealt_of t)
