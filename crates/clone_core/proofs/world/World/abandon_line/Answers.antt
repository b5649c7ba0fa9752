use Rattle.std.proofs.Common.{◌∙◌, ◌==◌, ◌≡◌, ℕ, Result, Ok, None, Some, ap, refl, subst, sym, string_bytes}
use Rattle.clone_chunk.specs.declared.cause.CloneCause.{CloneCause}
use Rattle.clone_calls.specs.declared.answer.DonorAnswer.TheVariants as given
use Rattle.clone_calls.specs.declared.call.DonorCall.TheVariants as call
use Rattle.clone_engine.specs.Acts.{CloneActs}
use Rattle.clone_core.specs.declared.world.TheConstants.{SESSION}
use Rattle.clone_core.specs.System.{System}
use Rattle.clone_core.specs.Copied.{world_of}
use Rattle.clone_core.specs.Lines.{State}
use Rattle.clone_core.proofs.RoundLemmas.{is_none}
use Rattle.clone_core.proofs.ServedLemmas.{abandon_answers, abandon_breaks, none_answers}
use Rattle.clone_core.proofs.StrangerLemmas.{abandon_holds, abandon_is, abandon_made, none_standing, standing_of, stands_so}
use Rattle.clone_core.proofs.world.World.abandon_line.Goals as goal

pub returns-in_default-clause-ok : goal.returns-in_default-clause-ok
returns-in_default-clause-ok g c =
    let i = c.self.inside in
    none_answers c.args.self.now (subst (λ (w : State). w.donor.donor.cloning.session ≡ None) c.self.view_is (none_standing i.donor.cloning.session (sym c.session.ensures ∙ is_none c.session.result c.in_default.not-Some)))
    string_bytes c.format.result c.format.ensures.ok

pub returns-in_default-clause-err : goal.returns-in_default-clause-err
returns-in_default-clause-err g c = abandon_breaks c.args.self.now c.format.result

pub returns-in_err-text-clause-err : goal.returns-in_err-text-clause-err
returns-in_err-text-clause-err g c = abandon_breaks c.args.self.now c.from_residual.result

pub invariant_of-self : goal.invariant_of-self
invariant_of-self g c =
    let i = c.self.inside in
    let s : System = record { donor = i.donor; recipient = g.R.PageDisk.state i.recipient; terms = i.terms; course = i.course; stop = i.stop; looked = i.looked; alone = i.is_alone; replica = i.replica } in
    let number = c.in-Some.session in
    let (standing, is, numbered) = standing_of i.donor.cloning.session number (sym c.session.ensures ∙ c.in-Some.is) in
    let acted = subst (λ (r : Result Unit CloneCause). CloneActs (call.Abandon number) (given.Abandon r) i.donor c.abandon.new.self) c.in-Ok.is c.abandon.ensures.acts in
    abandon_holds s c.abandon.new.self i.begun i.is_disturbed i.is_doubted i.is_shown c.stop.result c.first_stop-self-inside.result c.disturbed-self-inside.result (number == SESSION) c.stop.ensures c.first_stop-self-inside.ensures c.disturbed-self-inside.ensures number acted (stands_so i.donor standing is ∙ ap (λ (n : ℕ). n == SESSION) numbered) c.self.invariant refl

pub returns-clause-ok : goal.returns-clause-ok
returns-clause-ok g c =
    let i = c.self.inside in
    let s : System = record { donor = i.donor; recipient = g.R.PageDisk.state i.recipient; terms = i.terms; course = i.course; stop = i.stop; looked = i.looked; alone = i.is_alone; replica = i.replica } in
    let number = c.in-Some.session in
    let (standing, is, numbered) = standing_of i.donor.cloning.session number (sym c.session.ensures ∙ c.in-Some.is) in
    let acted = subst (λ (r : Result Unit CloneCause). CloneActs (call.Abandon number) (given.Abandon r) i.donor c.abandon.new.self) c.in-Ok.is c.abandon.ensures.acts in
    let laws = stands_so i.donor standing is ∙ ap (λ (n : ℕ). n == SESSION) numbered in
    let r = c.args.self.now in
    abandon_answers r (world_of (record s { donor = c.abandon.new.self; stop = c.first_stop-self-inside.result }) i.begun c.disturbed-self-inside.result i.is_doubted i.is_shown)
    standing (subst (λ (w : State). w.donor.donor.cloning.session ≡ Some standing) c.self.view_is is) number numbered c.abandon.new.self (subst (λ (w : State). CloneActs (call.Abandon number) (given.Abandon (Ok tt)) w.donor.donor c.abandon.new.self) c.self.view_is acted)
    (abandon_is s c.abandon.new.self i.begun i.is_disturbed i.is_doubted i.is_shown c.stop.result c.first_stop-self-inside.result c.disturbed-self-inside.result (number == SESSION) c.stop.ensures c.first_stop-self-inside.ensures c.disturbed-self-inside.ensures number acted laws c.self.invariant refl r c.self.view_is)
    (abandon_made s c.abandon.new.self i.begun i.is_disturbed i.is_doubted i.is_shown c.stop.result c.first_stop-self-inside.result c.disturbed-self-inside.result (number == SESSION) c.stop.ensures c.first_stop-self-inside.ensures c.disturbed-self-inside.ensures number acted laws c.self.invariant refl r c.self.view_is)
    string_bytes (Ok c.in_ok-text.text) c.in_ok-text.ensures.ok
