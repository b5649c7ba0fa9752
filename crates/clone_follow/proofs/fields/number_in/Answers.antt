use Rattle.std.proofs.Common.{◌+◌, ◌*◌, sym, ◌∙◌, arith}
use Rattle.std.proofs.lemmas.Result.{err_from_is_err_and}
use Rattle.clone_follow.proofs.FieldFormats.{next_fits, unit_room, front_room, next_front, whole_number, short_next, wrong_next, right_next, next_has, last_front}
use Rattle.clone_follow.proofs.fields.number_in.Goals as goal

pub loop-read-init : goal.loop-read-init
loop-read-init c = record { so_far = whole_number c.args.at c.args.width _ c.args.numbers c.args.reader.now (omega arith); below = omega arith; one = λ some. absurd (omega arith) }

pub overflow_mul-front : goal.overflow_mul-front
overflow_mul-front c = let room = front_room c.args.width c.loop-read.read c.loop-read.front c.requires.narrow c.loop-read-test.true c.loop-read.invariant.below in omega arith

pub overflow_add-front : goal.overflow_add-front
overflow_add-front c = let room = front_room c.args.width c.loop-read.read c.loop-read.front c.requires.narrow c.loop-read-test.true c.loop-read.invariant.below in omega arith

pub pow-unit-requires : goal.pow-unit-requires
pow-unit-requires c = unit_room c.args.width c.loop-read.read c.requires.narrow

pub overflow_mul-least : goal.overflow_mul-least
overflow_mul-least c =
    let f = next_fits c.args.width c.loop-read.read c.loop-read.front c.in_ok-byte.byte c.pow-unit.result c.requires.narrow c.loop-read-test.true c.loop-read.invariant.below (omega arith) c.pow-unit.ensures in
    omega (arith, f.room)

pub overflow_sub-unit : goal.overflow_sub-unit
overflow_sub-unit c =
    let f = next_fits c.args.width c.loop-read.read c.loop-read.front c.in_ok-byte.byte c.pow-unit.result c.requires.narrow c.loop-read-test.true c.loop-read.invariant.below (omega arith) c.pow-unit.ensures in
    f.some

pub overflow_add-least : goal.overflow_add-least
overflow_add-least c =
    let f = next_fits c.args.width c.loop-read.read c.loop-read.front c.in_ok-byte.byte c.pow-unit.result c.requires.narrow c.loop-read-test.true c.loop-read.invariant.below (omega arith) c.pow-unit.ensures in
    omega (arith, f.room, f.some)

pub returns-in_err-byte-clause-gives : goal.returns-in_err-byte-clause-gives
returns-in_err-byte-clause-gives c =
    let p = err_from_is_err_and c.from_residual.result c.from_residual.ensures.1 in
    rw (p.1, p.2) (short_next c.args.at c.args.width c.loop-read.read c.loop-read.front c.args.numbers c.loop-read.reader _ c.loop-read-test.true c.in_err-byte.ensures.0 c.loop-read.invariant.so_far)

pub returns-then-not-has_between-clause-gives : goal.returns-then-not-has_between-clause-gives
returns-then-not-has_between-clause-gives c =
    wrong_next c.args.at c.args.width c.loop-read.read c.loop-read.front c.in_ok-byte.byte c.pow-unit.result c.args.numbers c.loop-read.reader c.u8.new.self _ c.loop-read-test.true c.pow-unit.ensures
    (record { some = c.in_ok-byte.ensures.0; is = c.in_ok-byte.ensures.1; left = c.in_ok-byte.ensures.2 }) (sym c.has_between.ensures ∙ c.if-not-has_between.true) c.loop-read.invariant.so_far

pub loop-read-preserved : goal.loop-read-preserved
loop-read-preserved c = record {
  so_far = right_next c.args.at c.args.width c.loop-read.read c.loop-read.front c.in_ok-byte.byte c.pow-unit.result c.args.numbers c.loop-read.reader c.u8.new.self _ c.loop-read-test.true c.pow-unit.ensures
      (record { some = c.in_ok-byte.ensures.0; is = c.in_ok-byte.ensures.1; left = c.in_ok-byte.ensures.2 }) (sym c.has_between.ensures ∙ c.if-not-has_between.false) c.loop-read.invariant.so_far;
  below = next_front c.loop-read.read c.loop-read.front c.in_ok-byte.byte c.loop-read.invariant.below (omega arith);
  one = λ some. next_has c.args.width c.loop-read.read (c.loop-read.front * 256 + c.in_ok-byte.byte) c.pow-unit.result c.args.numbers c.pow-unit.ensures (sym c.has_between.ensures ∙ c.if-not-has_between.false);
}

pub returns-clause-one : goal.returns-clause-one
returns-clause-one c = last_front c.args.width c.loop-read.read c.loop-read.front c.args.numbers c.requires.order (omega arith) (c.loop-read.invariant.one (omega (arith, c.requires.wide)))
