use Rattle.std.proofs.Common.{◌≡◌, take}
use Rattle.registry_model.specs.Process.{place_in}
use Rattle.term.proofs.text.short_key.Given as goal

-- the key of the bytes so far
abbrev pub invariant-loop-place : goal.invariant-loop-place
invariant-loop-place l = l.key ≡ place_in l.place (take l.place l.bytes)
