use Rattle.std.proofs.Common.{Ok, sym, ap, ◌∙◌}
use Rattle.std.proofs.lemmas.Result.{err_from_is_err_and}
use Rattle.clone_wire.specs.Choices.{has_between}
use Rattle.clone_wire.specs.Reading.{one_in}
use Rattle.clone_wire.proofs.Choosing.{numbers_test}
use Rattle.clone_wire.proofs.Spans.{none_left, span_left, garbled_at_once, short_at_once, whole_at_once}
use Rattle.clone_wire.proofs.fields.number_in.Goals as goal

pub returns-then-is_empty-clause-gives : goal.returns-then-is_empty-clause-gives
unfolding one_in
returns-then-is_empty-clause-gives c = none_left c.args.at c.args.width (has_between c.args.numbers) c.rest-bytes.result.now c.args.reader.now c.is_empty.result c.requires.wide c.is_empty.ensures c.if-is_empty.true c.rest-bytes.ensures

pub returns-then-not-has_between-clause-gives : goal.returns-then-not-has_between-clause-gives
unfolding one_in
returns-then-not-has_between-clause-gives c =
    let span = span_left c.args.width c.rest-bytes.result.now c.args.reader.now c.span_of-low.result.0 c.span_of-low.result.1 c.is_empty.result c.span_of-low.ensures.bytes c.requires.wide c.is_empty.ensures c.if-is_empty.false c.span_of-low.ensures.low c.span_of-low.ensures.high c.rest-bytes.ensures in
    garbled_at_once (numbers_test c.args.numbers c.requires.steps) c.args.at c.args.width c.args.reader.now c.span_of-low.result.0 c.span_of-low.result.1 span (sym c.has_between.ensures ∙ c.if-not-has_between.true)

pub returns-in_err-take-clause-gives : goal.returns-in_err-take-clause-gives
unfolding one_in
returns-in_err-take-clause-gives c =
    let span = span_left c.args.width c.rest-bytes.result.now c.args.reader.now c.span_of-low.result.0 c.span_of-low.result.1 c.is_empty.result c.span_of-low.ensures.bytes c.requires.wide c.is_empty.ensures c.if-is_empty.false c.span_of-low.ensures.low c.span_of-low.ensures.high c.rest-bytes.ensures in
    let p = err_from_is_err_and c.from_residual.result c.from_residual.ensures.1 in
    rw (p.1, p.2) (short_at_once (numbers_test c.args.numbers c.requires.steps) c.args.at c.args.width c.args.reader.now c.span_of-low.result.0 c.span_of-low.result.1 span (sym c.has_between.ensures ∙ c.if-not-has_between.false) c.in_err-take.ensures.0)

pub returns-clause-gives : goal.returns-clause-gives
unfolding one_in
returns-clause-gives c =
    let span = span_left c.args.width c.rest-bytes.result.now c.args.reader.now c.span_of-low.result.0 c.span_of-low.result.1 c.is_empty.result c.span_of-low.ensures.bytes c.requires.wide c.is_empty.ensures c.if-is_empty.false c.span_of-low.ensures.low c.span_of-low.ensures.high c.rest-bytes.ensures in
    let whole = whole_at_once (numbers_test c.args.numbers c.requires.steps) c.args.at c.args.width c.args.reader.now c.span_of-low.result.0 c.span_of-low.result.1 span (sym c.has_between.ensures ∙ c.if-not-has_between.false) c.in_ok-take.ensures.0 in
    whole.0 ∙ ap (λ t. Ok (c.span_of-low.result.0, t)) (sym c.in_ok-take.ensures.2)
