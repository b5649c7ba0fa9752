use Rattle.std.proofs.Common.{Ok, Err, Result, Option, ℕ, refl, sym, subst}
use Rattle.std.specs.declared.alloc.AllocError.{AllocError}
use Rattle.clone_ring.specs.Window.{Window}
use Rattle.clone_session.specs.CloneCalls.{Archives}
use Rattle.clone_calls.specs.declared.answer.DonorAnswer.TheVariants as answer
use Rattle.clone_calls.specs.declared.call.DonorCall.TheVariants as call
use Rattle.clone_engine.specs.Acts as act
use Rattle.clone_engine.specs.Over.{over}
use Rattle.clone_engine.proofs.GoingLemmas.{like}
use Rattle.clone_engine.specs.declared.engine.Engine.{Engine}
use Rattle.clone_engine.proofs.SessionActs.{archives_acts, by_err, quiet_acts}
use Rattle.clone_engine.proofs.engine.Engine.archive.Goals as goal

pub returns-in_err-archived : goal.returns-in_err-archived
returns-in_err-archived c = record {
  acts = λ disk is.
      let d = over c.args.self.now disk in
      let new = c.archive.new.self in
      let becomes = c.in_err-archived.ensures.archives in
      by_err c.from_residual.result (λ (r : Result (Option ℕ) AllocError). act.CloneActs (call.Archive c.args.limit) (answer.Archive r) d (record { engine = d.engine; cloning = new })) c.from_residual.ensures.0
      (λ e. quiet_acts (call.Archive c.args.limit) (answer.Archive (Err e)) d new (like new d.cloning becomes) is (λ taken. refl) (becomes, refl));
}

pub returns : goal.returns
returns c = record {
  acts = λ disk is.
      let d = over c.args.self.now disk in
      let new = c.archive.new.self in
      let did = subst (λ (w : Window). Archives {E = AllocError} c.args.limit w d.cloning new (Ok c.in_ok-archived.archived)) c.ring.ensures c.in_ok-archived.ensures.archives in
      subst (λ (e : Engine). act.CloneActs (call.Archive c.args.limit) (answer.Archive (Ok c.in_ok-archived.archived)) d (over e disk)) (sym c.settle.ensures)
      (archives_acts d new c.args.limit is c.laws.ensures.buffer c.in_ok-archived.archived did);
}
