use Rattle.std.proofs.Common.{Ok, sym, ap, ◌∙◌, arith}
use Rattle.std.proofs.lemmas.Result.{err_from_is_err_and}
use Rattle.clone_wire.specs.Choices.{has_between}
use Rattle.clone_wire.specs.Reading.{bytes_for}
use Rattle.clone_wire.proofs.TakenFormats.{ceil_is, counts_test}
use Rattle.clone_wire.proofs.Spans.{none_left, span_left, garbled_at_once, short_at_once, whole_at_once}
use Rattle.clone_wire.proofs.taken.count_of.Goals as goal

pub returns-then-is_empty-clause-gives : goal.returns-then-is_empty-clause-gives
returns-then-is_empty-clause-gives c = none_left c.args.at 4 (λ low high. has_between c.args.sizes (bytes_for low) (bytes_for high)) c.rest-bytes.result.now c.args.reader.now c.is_empty.result (omega arith) c.is_empty.ensures c.if-is_empty.true c.rest-bytes.ensures

pub returns-then-not-has_between-clause-gives : goal.returns-then-not-has_between-clause-gives
returns-then-not-has_between-clause-gives c =
    let span = span_left 4 c.rest-bytes.result.now c.args.reader.now c.span_of-low.result.0 c.span_of-low.result.1 c.is_empty.result c.span_of-low.ensures.bytes (omega arith) c.is_empty.ensures c.if-is_empty.false c.span_of-low.ensures.low c.span_of-low.ensures.high c.rest-bytes.ensures in
    garbled_at_once (counts_test c.args.sizes c.requires) c.args.at 4 c.args.reader.now c.span_of-low.result.0 c.span_of-low.result.1 span ((rw (c.div_ceil.ensures ∙ ceil_is c.span_of-low.result.0, c.div_ceil-2.ensures ∙ ceil_is c.span_of-low.result.1) at (sym c.has_between.ensures)) ∙ c.if-not-has_between.true)

pub returns-in_err-take-clause-gives : goal.returns-in_err-take-clause-gives
returns-in_err-take-clause-gives c =
    let span = span_left 4 c.rest-bytes.result.now c.args.reader.now c.span_of-low.result.0 c.span_of-low.result.1 c.is_empty.result c.span_of-low.ensures.bytes (omega arith) c.is_empty.ensures c.if-is_empty.false c.span_of-low.ensures.low c.span_of-low.ensures.high c.rest-bytes.ensures in
    let p = err_from_is_err_and c.from_residual.result c.from_residual.ensures.1 in
    rw (p.1, p.2) (short_at_once (counts_test c.args.sizes c.requires) c.args.at 4 c.args.reader.now c.span_of-low.result.0 c.span_of-low.result.1 span ((rw (c.div_ceil.ensures ∙ ceil_is c.span_of-low.result.0, c.div_ceil-2.ensures ∙ ceil_is c.span_of-low.result.1) at (sym c.has_between.ensures)) ∙ c.if-not-has_between.false) c.in_err-take.ensures.0)

pub returns-clause-gives : goal.returns-clause-gives
returns-clause-gives c =
    let span = span_left 4 c.rest-bytes.result.now c.args.reader.now c.span_of-low.result.0 c.span_of-low.result.1 c.is_empty.result c.span_of-low.ensures.bytes (omega arith) c.is_empty.ensures c.if-is_empty.false c.span_of-low.ensures.low c.span_of-low.ensures.high c.rest-bytes.ensures in
    let whole = whole_at_once (counts_test c.args.sizes c.requires) c.args.at 4 c.args.reader.now c.span_of-low.result.0 c.span_of-low.result.1 span ((rw (c.div_ceil.ensures ∙ ceil_is c.span_of-low.result.0, c.div_ceil-2.ensures ∙ ceil_is c.span_of-low.result.1) at (sym c.has_between.ensures)) ∙ c.if-not-has_between.false) c.in_ok-take.ensures.0 in
    whole.0 ∙ ap (λ t. Ok (c.span_of-low.result.0, t)) (sym c.in_ok-take.ensures.2)
