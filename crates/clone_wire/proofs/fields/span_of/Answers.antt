use Rattle.std.proofs.Common.{◌+◌, ◌-◌, ◌*◌, ◌∙◌, ap, arith}
use Rattle.clone_wire.proofs.Spans.{fits}
use Rattle.clone_wire.proofs.fields.span_of.Goals as goal

pub pow-unit-requires : goal.pow-unit-requires
pow-unit-requires c = let f = fits c.args.width c.min-there.result c.args.bytes.now (λ i. omega (arith, c.type_inv.bytes i)) c.requires.wide c.requires.narrow c.requires.some c.min-there.ensures in omega (arith, f.unit)

pub overflow_mul-low : goal.overflow_mul-low
overflow_mul-low c =
    let f = fits c.args.width c.min-there.result c.args.bytes.now (λ i. omega (arith, c.type_inv.bytes i)) c.requires.wide c.requires.narrow c.requires.some c.min-there.ensures in
    rw (c.read_uint.ensures, c.pow-unit.ensures, f.low) (omega (arith, f.whole, f.some))

pub overflow_sub-result : goal.overflow_sub-result
overflow_sub-result c = let f = fits c.args.width c.min-there.result c.args.bytes.now (λ i. omega (arith, c.type_inv.bytes i)) c.requires.wide c.requires.narrow c.requires.some c.min-there.ensures in omega (arith, f.some, c.pow-unit.ensures)

pub overflow_add-result : goal.overflow_add-result
overflow_add-result c =
    let f = fits c.args.width c.min-there.result c.args.bytes.now (λ i. omega (arith, c.type_inv.bytes i)) c.requires.wide c.requires.narrow c.requires.some c.min-there.ensures in
    rw (c.read_uint.ensures, c.pow-unit.ensures, f.low) (omega (arith, f.whole, f.some))

pub returns-clause-low : goal.returns-clause-low
returns-clause-low c =
    let f = fits c.args.width c.min-there.result c.args.bytes.now (λ i. omega (arith, c.type_inv.bytes i)) c.requires.wide c.requires.narrow c.requires.some c.min-there.ensures in
    rw (c.read_uint.ensures, c.pow-unit.ensures) f.low

pub returns-clause-high : goal.returns-clause-high
returns-clause-high c =
    let f = fits c.args.width c.min-there.result c.args.bytes.now (λ i. omega (arith, c.type_inv.bytes i)) c.requires.wide c.requires.narrow c.requires.some c.min-there.ensures in
    ap (λ n. c.read_uint.result * c.pow-unit.result + (n - 1)) (c.pow-unit.ensures ∙ f.same)
