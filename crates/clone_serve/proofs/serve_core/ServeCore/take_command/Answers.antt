use Rattle.std.proofs.Common.{◌∙◌, subst, sym}
use Rattle.std.specs.Prelude.{IsSome}
use Rattle.clone_serve.specs.Commands.{command_of}
use Rattle.clone_serve.proofs.CommandLemmas.{has_call}
use Rattle.clone_serve.proofs.serve_core.ServeCore.take_command.Goals as goal

pub ask-requires : goal.ask-requires
ask-requires c =
    let takes = rw c.in-Ok-Some.field-0-is at c.in-Ok-Some.ensures in
    let turn = sym (rw c.deref.ensures.value at c.is_out_of_turn.ensures) ∙ c.if-is_out_of_turn.false in
    subst (λ f. IsSome (command_of c.args.bound f)) (sym c.in-Ok-Some.frame-is) (has_call c.args.bound c.in-Ok-Some.frame c.args.received.now.items c.take_frame.new.received.items takes.0.sender takes.1 turn)
