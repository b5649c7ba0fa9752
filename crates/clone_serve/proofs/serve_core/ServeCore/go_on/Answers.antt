use Rattle.std.proofs.Common.{Some, ap, ◌∙◌}
use Rattle.clone_serve.specs.declared.after.After.{After}
use Rattle.clone_serve.specs.declared.after.After.TheVariants.{Ends}
use Rattle.clone_serve.proofs.AnswerLemmas.{after_side}
use Rattle.clone_serve.proofs.serve_core.ServeCore.go_on.Goals as goal

pub end-requires : goal.end-requires
end-requires c =
    after_side _ c.args.answer (Ends c.in-Ends.doing c.in-Ends.sends c.in-Ends.says) (c.after.ensures ∙ ap (λ (next : After). Some next) c.in-Ends.is)
