use Rattle.std.proofs.Common.{◌≡◌, ◌<◌, length, sym, arith}
use Rattle.std.proofs.lemmas.Bool.Decides.{nat_tests}
use Rattle.clone_model.proofs.HexTexts.{full, next_byte, only_decoded}
use Rattle.clone_model.proofs.reading.value.decode_hex.Goals as goal

pub returns-then-len-room-clause-only : goal.returns-then-len-room-clause-only
returns-then-len-room-clause-only c = λ v short small e.
    let some : 0 < length c.loop-rest.rest.now = grind (arith, nat_tests) in
    full _ _ _ _ v c.loop-rest.invariant.0 c.if-len-room.true some (omega (arith, short, c.loop-rest.invariant.1)) small e

pub returns-in_err-byte-clause-only : goal.returns-in_err-byte-clause-only
returns-in_err-byte-clause-only c = λ v short small e.
    let some : 0 < length c.loop-rest.rest.now = grind (arith, nat_tests) in
    let next = next_byte _ _ _ _ v c.loop-rest.invariant.0 some small e in
    absurd (c.in_err-byte.ensures.only next.0 next.1 next.2 next.3)

pub returns-clause-only : goal.returns-clause-only
returns-clause-only c = λ v short small e.
    let none : length c.loop-rest.rest.now ≡ 0 = grind (arith, nat_tests) in
    sym (only_decoded _ _ _ _ v c.loop-rest.invariant.0 none small e)
