use Rattle.std.proofs.Common.{ℕ, ◌≡◌, ◌<◌, length, get_or, refl, ap, subst, arith}
use Rattle.std.proofs.lemmas.List.{get_or_default, length-map}
use Rattle.node_threads.specs.Berths.{Berthed, one_more}
use Rattle.node_threads.proofs.Connecting.{AreConnected, none_connected, lines_unused, one_connected, all_wired}
use Rattle.node_threads.proofs.berths.connect.Goals as goal

pub loop-place-init : goal.loop-place-init
loop-place-init g c = record { connected = none_connected c.args.berths.now c.requires; ends = refl }

pub connect-requires-after_bounds : goal.connect-requires-after_bounds
connect-requires-after_bounds g c = λ κs within. lines_unused c.args.berths.now c.loop-place.berths c.loop-place.place
    c.loop-place.invariant.connected (omega (arith, c.loop-place-test.true, c.loop-place.auto.berths)) c.in_ok-lines.lines.items
    c.in_ok-lines.ensures.lines

pub loop-place-preserved : goal.loop-place-preserved
loop-place-preserved g c =
    let inside : c.loop-place.place < length c.loop-place.berths =
    omega (arith, c.loop-place-test.true, c.loop-place.auto.berths) in
    let b : Berthed = get_or c.lines_to.new.berths c.loop-place.place c.index-berths-place.result in
    record {
      connected = one_connected c.args.berths.now c.loop-place.berths c.loop-place.place c.loop-place.invariant.connected inside
          c.in_ok-lines.lines.items c.in_ok-lines.ensures.lines c.lines_to.new.berths c.in_ok-lines.ensures.more b c.connect.new.self
          (get_or_default c.lines_to.new.berths c.loop-place.place c.index-berths-place.result b
          (omega (arith, inside, ap length c.in_ok-lines.ensures.more, length-map c.loop-place.berths one_more))) c.connect.ensures;
      ends = refl;
    }

pub returns-clause-wired : goal.returns-clause-wired
returns-clause-wired g c = all_wired c.args.berths.now c.loop-place.berths
    (subst (λ (n : ℕ). AreConnected c.args.berths.now n c.loop-place.berths) all c.loop-place.invariant.connected)
  where
    all : c.loop-place.place ≡ length c.args.berths.now
    all = omega (arith, c.loop-place-test.false, c.loop-place.auto.place-end, c.loop-place.invariant.ends)
