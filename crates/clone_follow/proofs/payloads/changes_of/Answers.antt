use Rattle.std.proofs.Common.{◌≡◌, ◌∷◌, [], ◌+◌, ◌-◌, ◌∙◌, length, sym, subst, arith}
use Rattle.std.proofs.lemmas.List.{length-append}
use Rattle.std.proofs.lemmas.Result.{err_from_is_err_and}
use Rattle.clone_follow.specs.Choices.{MayFill}
use Rattle.clone_follow.specs.Spelling.{change_bytes}
use Rattle.clone_follow.proofs.ChangeFormats.{rest_fill}
use Rattle.clone_follow.proofs.ReadLemmas.{next_change, change_fails}
use Rattle.clone_follow.proofs.payloads.changes_of.Goals as goal

pub returns-in_err-change-clause-gives : goal.returns-in_err-change-clause-gives
returns-in_err-change-clause-gives c =
    let p = err_from_is_err_and c.from_residual.result c.from_residual.ensures.1 in
    rw (p.1, p.2) (change_fails c.loop-done.at c.loop-done.left c.in_err-change.field-0.0 c.loop-done.changes c.args.count c.loop-done.done c.loop-done.reader _ c.loop-done-test.true c.in_err-change.ensures.gives c.loop-done.invariant.so_far)

pub loop-done-preserved : goal.loop-done-preserved
loop-done-preserved c =
    let x = c.in_ok-change.change in
    let more = c.args.count - c.loop-done.done - 1 in
    let long = c.change_len-read.ensures.long in
    let next : more + 1 ≡ c.args.count - c.loop-done.done = omega (arith, c.loop-done-test.true) in
    let rest = rest_fill more c.loop-done.left x (subst (λ n. MayFill n c.loop-done.left) (sym next) c.loop-done.invariant.fill) c.in_ok-change.ensures.fits in
    let left : more ≡ c.args.count - (c.loop-done.done + 1) = omega arith in
    rw (c.in_ok-push.ensures.ok, long) (record {
      so_far = next_change c.loop-done.at c.loop-done.left c.loop-done.changes c.args.count c.loop-done.done c.loop-done.reader x c.change_of.new.reader _ c.loop-done-test.true c.in_ok-change.ensures.gives c.loop-done.invariant.so_far;
      count = length-append c.loop-done.changes (x ∷ []) ∙ omega (arith, c.loop-done.invariant.count);
      fill = subst (λ n. MayFill n (c.loop-done.left - length (change_bytes x))) left rest.1;
      near = omega (arith, c.loop-done.invariant.near, c.change_len-read.ensures.most, long);
    })
