-- Rows about rounds for the global lock, and about deliveries.
use Rattle.std.specs.Prelude.{[], ◌∷◌}
use Rattle.registry_model.specs.Call.{Yes, No, Ok, Pid}
use Rattle.protocol_model.specs.Event.{Refusal}
use Rattle.protocol_model.specs.Script.{Row, Settle, TableAt, MembersAt, Error, Settled, SettleLimit, TableIs}
use Rattle.protocol_model.specs.RowWords.{row, world_of, a, b, c, x, y, z, pid, spawn, register, unregister, whereis, join, deliver, retry, said, shown, given, owned}

-- two nodes ask at once, and the greatest node decides who is first
abbrev pub boss_decides : Row
boss_decides = row (world_of 3 (a ∷ b ∷ c ∷ []) [])
    (spawn a ∷ spawn b ∷ register a x (pid a 1) ∷ register b x (pid b 1) ∷ deliver b c ∷ Settle ∷ retry a ∷ Settle
    ∷ whereis a x ∷ [])
    (given (pid a 1) ∷ given (pid b 1) ∷ said b 1 Yes ∷ Settled ∷ said a 1 No ∷ Settled ∷ shown a (Pid (pid b 1))
    ∷ [])

-- a refused round gives its grants back, that of the greatest node too, so that another gets the lock
abbrev pub failed_round_gives_all_back : Row
failed_round_gives_all_back = row (world_of 2 (a ∷ b ∷ []) [])
    (spawn a ∷ spawn b ∷ register a x (pid a 1) ∷ deliver a b ∷ deliver b a ∷ deliver a a ∷ deliver a a ∷ deliver a a
    ∷ deliver a b ∷ deliver a a ∷ deliver b a ∷ deliver a b ∷ register b y (pid b 1) ∷ deliver b b ∷ deliver b b
    ∷ deliver b a ∷ deliver a b ∷ Settle ∷ retry b ∷ Settle ∷ register a z (pid a 2) ∷ Settle ∷ TableAt b ∷ [])
    (given (pid a 1) ∷ given (pid b 1) ∷ said a 1 Yes ∷ Settled ∷ said b 1 Yes ∷ Settled ∷ said a 2 Yes ∷ Settled
    ∷ TableIs (owned x (pid a 1) (owned y (pid b 1) (owned z (pid a 2) []))) ∷ [])

-- without a refused round there is nothing to retry
abbrev pub nothing_to_retry : Row
nothing_to_retry = row (world_of 2 (a ∷ b ∷ []) [])
    (retry a ∷ [])
    (Error Refusal.NothingToRetry ∷ [])

-- `Settle` stops at its limit, and the next one goes on from there. Here the limit is 20, that a check is short: each
-- call takes five deliveries, so four calls are answered. With 100000 deliveries it would be 20000 calls
abbrev pub settle_has_a_limit : Row
settle_has_a_limit = record {
  opening = world_of 1 (a ∷ []) [];
  limit = 20;
  lines = unregister a x ∷ unregister a x ∷ unregister a x ∷ unregister a x ∷ unregister a x ∷ Settle ∷ Settle ∷ [];
  prints = said a 1 Ok ∷ said a 2 Ok ∷ said a 3 Ok ∷ said a 4 Ok ∷ SettleLimit ∷ said a 5 Ok ∷ Settled ∷ [];
}

-- a link without letters delivers nothing, and a node that isn't of the world takes part in nothing
abbrev pub no_such_event : Row
no_such_event = row (world_of 3 (a ∷ []) (c ∷ []))
    (deliver a a ∷ spawn b ∷ deliver a b ∷ join c b ∷ MembersAt b ∷ [])
    (Error Refusal.EmptyLink ∷ Error Refusal.NoSuchNode ∷ Error Refusal.NoSuchNode ∷ Error Refusal.NoSuchNode
    ∷ Error Refusal.NoSuchNode ∷ [])
