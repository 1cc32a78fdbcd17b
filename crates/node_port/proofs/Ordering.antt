-- An end of lines is in order, and its node's letters to itself stay in it.
use Rattle.std.proofs.Common.{ℕ, List}
use Rattle.wire_end.specs.declared.wire_end.Wiring.{Wiring}
use Rattle.wire_end.specs.Order.{InOrder, KeepsOwn, AlwaysHolds}
use Rattle.wire_end.proofs.Ordering.{stay_in_order}
use Rattle.wire_end.proofs.Own.{keep_their_own}

abbrev pub IsOrdered : List ℕ → Wiring → Type 0
IsOrdered out s = InOrder out s × KeepsOwn s

pub stay_ordered : AlwaysHolds IsOrdered
stay_ordered = record {
  begins = λ node world. (stay_in_order.begins node world, keep_their_own.begins node world);
  sends = λ out s to i t h p. (stay_in_order.sends out s to i t h.0 p, keep_their_own.sends out s to i t h.1 p);
  gives = λ out s from i t h p. (stay_in_order.gives out s from i t h.0 p, keep_their_own.gives out s from i t h.1 p);
  hears = λ out s from line t h p. (stay_in_order.hears out s from line t h.0 p, keep_their_own.hears out s from line t h.1 p);
  loses = λ out s n t h p. (stay_in_order.loses out s n t h.0 p, keep_their_own.loses out s n t h.1 p);
  starts = λ out s older next t h p. (stay_in_order.starts out s older next t h.0 p, keep_their_own.starts out s older next t h.1 p);
  asks = λ out s task h. (stay_in_order.asks out s task h.0, keep_their_own.asks out s task h.1);
  prints = λ out s h. (stay_in_order.prints out s h.0, keep_their_own.prints out s h.1);
  tells = λ out s h. (stay_in_order.tells out s h.0, keep_their_own.tells out s h.1);
}
