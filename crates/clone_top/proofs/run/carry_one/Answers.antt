use Rattle.std.proofs.Common.{◌≡◌, List, ℕ, refl, rules, subst, string_bytes}
use Rattle.clone_outside.specs.Bytes.{TakesSome}
use Rattle.clone_model.specs.Texts.{ended}
use Rattle.clone_top.specs.Carrying.{behind_it}
use Rattle.clone_top.proofs.RunLemmas.{nothing_taken, on_err}
use Rattle.clone_top.proofs.run.carry_one.Goals as goal

pub returns-in_err-push-clause-err : goal.returns-in_err-push-clause-err
returns-in_err-push-clause-err g c = on_err _ (behind_it _ c.in_ok-answer.ensures.ok (nothing_taken _ _ _ refl))

pub returns-clause-err : goal.returns-clause-err
returns-clause-err g c =
    let whole : c.as_bytes.result.now ≡ ended (string_bytes c.in_ok-answer.answer) = search rules in
    let P : List ℕ → Type 0 = TakesSome (g.K.Sink.taken c.args.out.now) (g.K.Sink.taken c.write_all.new.sink) in
    on_err _ (behind_it _ c.in_ok-answer.ensures.ok (subst P whole c.write_all.ensures.some))
