use Rattle.std.proofs.Common.{List, ℕ, refl, ap, ◌∙◌, subst, inl, inr}
use Rattle.clone_outside.specs.Bytes.{TakesSome}
use Rattle.clone_model.specs.Texts.{binlog_text}
use Rattle.clone_top.specs.Carrying.{in_lines, in_binlog}
use Rattle.clone_top.proofs.RunLemmas.{nothing_taken, finished, fault_kept, no_fault, on_err}
use Rattle.clone_top.proofs.run.write_lines.Goals as goal

pub returns-in_err-carry_out-clause-err : goal.returns-in_err-carry_out-clause-err
returns-in_err-carry_out-clause-err g c = on_err _ (in_lines c.in_err-carry_out.ensures.err refl)

pub returns-in_err-text-clause-err : goal.returns-in_err-text-clause-err
returns-in_err-text-clause-err g c = on_err _ (in_binlog c.in_ok-carry_out.ensures.ok (nothing_taken _ _ _ refl))

pub returns-clause-ok : goal.returns-clause-ok
returns-clause-ok g c =
    let text = c.as_bytes.ensures.value ∙ c.in_ok-text.ensures ∙ ap binlog_text c.binlog.ensures in
    finished _ _ _ _ _ _ _ _ _ c.in_ok-carry_out.ensures.ok text c.write_all.ensures.all

pub returns-clause-err : goal.returns-clause-err
returns-clause-err g c =
    let text = c.as_bytes.ensures.value ∙ c.in_ok-text.ensures ∙ ap binlog_text c.binlog.ensures in
    let P : List ℕ → Type 0 = TakesSome (g.B.Sink.taken c.args.binlog.now) (g.B.Sink.taken c.write_all.new.sink) in
    on_err _ (in_binlog c.in_ok-carry_out.ensures.ok (subst P text c.write_all.ensures.some))

pub returns-in_err-carry_out-clause-fault : goal.returns-in_err-carry_out-clause-fault
returns-in_err-carry_out-clause-fault g c = λ fault. inl (fault_kept _ _ c.in_err-carry_out.field-0.0 c.from_residual.result c.in_err-carry_out.ensures.cause c.from_residual.ensures.1 fault)

pub returns-in_err-text-clause-fault : goal.returns-in_err-text-clause-fault
returns-in_err-text-clause-fault g c = λ fault. absurd (no_fault c.from_residual-in_err-text.result c.from_residual-in_err-text.ensures.1 fault)

pub returns-clause-fault : goal.returns-clause-fault
returns-clause-fault g c = λ fault. inr (c.write_all.ensures.cause.fault fault)
