use Rattle.std.proofs.Common.{rules, refl, ◌≡◌, ◌∙◌, ℕ, List, None, sym, subst}
use Rattle.clone_session.specs.CloneCalls.{AreFiles}
use Rattle.clone_session.specs.Effects.{Becomes, opened}
use Rattle.std.specs.Prelude.{IsErrAnd, Result, Err}
use Rattle.clone_session.specs.declared.caller.Hello.{Hello}
use Rattle.clone_session.specs.declared.info.StageInfo.{StageInfo}
use Rattle.clone_session.specs.declared.refusal.CloneRefusal.{CloneRefusal}
use Rattle.clone_session.specs.declared.refusal.CloneRefusal.TheVariants.{NoMemory}
use Rattle.clone_session.specs.Cloning.{Cloning}
use Rattle.clone_session.specs.CloneCauses.{hello_cause}
use Rattle.clone_calls.specs.declared.answer.DonorAnswer.TheVariants as answer
use Rattle.clone_calls.specs.declared.call.DonorCall.TheVariants as call
use Rattle.clone_engine.specs.Acts.{CloneActs}
use Rattle.clone_engine.specs.Donor.{Donor, IsDonor}
use Rattle.clone_engine.proofs.GoingLemmas.{like}
use Rattle.clone_engine.specs.Over.{over}
use Rattle.clone_engine.proofs.SessionActs.{err_is, opened_acts, quiet_acts, reopened_acts}
use Rattle.clone_engine.proofs.TakenPages.{are_files}
use Rattle.clone_flush.specs.Flights.{beside_of}
use Rattle.clone_buffer.specs.OnePage.{no_copies}
use Rattle.clone_engine.proofs.BlockLemmas.{lists_open}
use Rattle.clone_engine.proofs.engine.Engine.init.Goals as goal

pub returns-then-is_some : goal.returns-then-is_some
returns-then-is_some c = record {
  acts = λ disk is.
      let did = c.in_ok-reopen.ensures.opened in
      reopened_acts (over c.args.self.now disk) c.reopen.new.self c.args.hello.now did.0 c.in_ok-reopen.field-0 did.1 did.2 is c.in_ok-hello.ensures did.3;
}

-- memory ran out
no_memory : (d : Donor) (c : Cloning) (hello : Hello) (r : Result StageInfo CloneRefusal) → IsErrAnd r (λ y. y ≡ NoMemory) → IsDonor d → hello_cause d.cloning hello ≡ None → Becomes c d.cloning → CloneActs (call.Init hello) (answer.Init r) d (record { engine = d.engine; cloning = c })
no_memory d c hello r is donor none becomes =
    subst (λ (x : Result StageInfo CloneRefusal). CloneActs (call.Init hello) (answer.Init x) d (record { engine = d.engine; cloning = c })) (sym (err_is r NoMemory is))
    (quiet_acts (call.Init hello) (answer.Init (Err NoMemory)) d c (like c d.cloning becomes) donor (λ taken. refl) (none, (becomes, refl)))

pub returns-in_err-reopen : goal.returns-in_err-reopen
returns-in_err-reopen c = record {
  acts = λ disk is. no_memory (over c.args.self.now disk) c.reopen.new.self c.args.hello.now c.from_residual-in_err-reopen.result c.from_residual-in_err-reopen.ensures.1 is c.in_ok-hello.ensures c.in_err-reopen.ensures.refused;
}

pub returns-in_err-open-2 : goal.returns-in_err-open-2
returns-in_err-open-2 c = record {
  acts = λ disk is. no_memory (over c.args.self.now disk) c.open.new.self c.args.hello.now c.from_residual-in_err-open-2.result c.from_residual-in_err-open-2.ensures.1 is c.in_ok-hello.ensures c.in_err-open-2.ensures.refused;
}

pub open-requires-clause-spaces : goal.open-requires-clause-spaces
open-requires-clause-spaces c = subst AreFiles (sym (c.deref.ensures.value ∙ c.in_ok-files.ensures)) (are_files c.args.self.now.transactions c.args.self.now.flusher.files c.requires.files c.laws.ensures.safe)

pub returns : goal.returns
returns c = record {
  acts = λ disk is.
      let d = over c.args.self.now disk in
      let new = c.open.new.self in
      let info = c.in_ok-open-2.field-0 in
      let known = c.laws-2.ensures in
      let none : d.cloning.session ≡ None = search rules in
      let became = subst (λ (p : List (ℕ × ℕ) × List (ℕ × ℕ)). Becomes new (opened c.args.hello.now p.0 p.1 d.cloning)) (λ i. ((c.deref.ensures.value ∙ c.in_ok-files.ensures) i, c.deref-2.ensures.value i)) c.in_ok-open-2.ensures.opened.0 in
      opened_acts d new c.args.hello.now c.in_ok-open.open.items info none c.laws-3.ensures became is known.buffer known.pool c.in_ok-open.ensures.open (lists_open d.engine c.in_ok-open.open.items is.engine (λ m flown. c.in_ok-open.ensures.closed (beside_of d.engine.flights no_copies) m flown.kept)) c.in_ok-hello.ensures c.in_ok-open-2.ensures.opened.1;
}
