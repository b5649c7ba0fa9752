use Rattle.std.proofs.Common.{◌∷◌, [], ◌∙◌, arith}
use Rattle.std.proofs.lemmas.Result.{err_from_is_err_and}
use Rattle.std.proofs.lemmas.List.{length-append}
use Rattle.clone_bytes.specs.Formats.{list_at}
use Rattle.clone_wire.specs.Reading as Reading
use Rattle.clone_wire.proofs.Lists.{goes_on, ends}
use Rattle.clone_wire.proofs.payloads.pages_of.Goals as goal

pub returns-in_err-page : goal.returns-in_err-page
returns-in_err-page c =
    let p = err_from_is_err_and c.from_residual-in_err-page.result c.from_residual-in_err-page.ensures.1 in
    rw (p.1, p.2) (ends Reading.page.read c.in_err-page.field-0.0 c.loop.list.items c.args.n c.loop.counter c.loop.reader (list_at Reading.page.read c.args.n c.args.reader.now) c.loop-test.true c.in_err-page.ensures c.loop.invariant.so_far)

pub loop-preserved : goal.loop-preserved
loop-preserved c =
    let x = c.in_ok-page.page in
    rw c.in_ok-push.ensures.items (record {
      so_far = goes_on Reading.page.read c.loop.list.items c.args.n c.loop.counter c.loop.reader x c.page_of.new.reader (list_at Reading.page.read c.args.n c.args.reader.now) c.loop-test.true c.in_ok-page.ensures c.loop.invariant.so_far;
      count = length-append c.loop.list.items (x ∷ []) ∙ omega (arith, c.loop.invariant.count);
    })
