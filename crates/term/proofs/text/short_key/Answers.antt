use Rattle.std.proofs.Common.{◌≡◌, suc, ◌*◌, ◌<◌, ◌^◌, ◌+◌, take, get_or, arith, sym}
use Rattle.registry_model.specs.Process.{place_in}
use Rattle.term.specs.declared.text.TheConstants.{KEY_BYTES}
use Rattle.term.proofs.Keys.{place_in-room, place_in-next}
use Rattle.term.proofs.text.short_key.Goals as goal

pub overflow_mul-key : goal.overflow_mul-key
overflow_mul-key c =
    let room : place_in c.loop-place.place (take c.loop-place.place c.args.bytes.now) * 256 + 0 < 256 ^ KEY_BYTES =
    place_in-room c.loop-place.place 0 c.args.bytes.now c.requires c.loop-place-test.true (omega arith) in
    omega (arith, room, c.loop-place.invariant)

pub overflow_add-key : goal.overflow_add-key
overflow_add-key c =
    let room : place_in c.loop-place.place (take c.loop-place.place c.args.bytes.now) * 256 + get_or c.args.bytes.now c.loop-place.place 0 < 256 ^ KEY_BYTES =
    place_in-room c.loop-place.place (get_or c.args.bytes.now c.loop-place.place 0) c.args.bytes.now c.requires c.loop-place-test.true
    (omega (arith, c.type_inv.bytes c.loop-place.place)) in
    let byte : c.byte_at.result ≡ get_or c.args.bytes.now c.loop-place.place 0 = c.byte_at.ensures in
    omega (arith, room, byte, c.loop-place.invariant)

pub loop-place-preserved : goal.loop-place-preserved
loop-place-preserved c =
    let byte : c.byte_at.result ≡ get_or c.args.bytes.now c.loop-place.place 0 = c.byte_at.ensures in
    let next : c.loop-place.place + 1 ≡ suc c.loop-place.place = omega arith in
    rw (byte, c.loop-place.invariant, next) (sym (place_in-next c.loop-place.place c.args.bytes.now))
