use Rattle.std.proofs.Common.{◌∙◌, ap, sym, Option}
use Rattle.std.specs.Option.{option_or}
use Rattle.clone_session.specs.declared.info.Stop.{Stop}
use Rattle.clone_sides.specs.Moment.{own_stop}
use Rattle.clone_ending.proofs.BehindLemmas.{archives_all}
use Rattle.clone_core.specs.declared.world.TheConstants.{SESSION}
use Rattle.clone_core.specs.System.{System}
use Rattle.clone_core.proofs.RestingLemmas.{serve_idles}
use Rattle.clone_core.proofs.ServeLemmas.{serve_kept, serve_left, serve_made, serve_starved, serve_untold}
use Rattle.clone_core.proofs.StrangerLemmas.{starved_not}
use Rattle.clone_core.proofs.TalkLemmas.{server_of}
use Rattle.clone_core.proofs.world.World.serve.Goals as goal

pub invariant_of-self : goal.invariant_of-self
invariant_of-self g c =
    let i = c.self.inside in
    let s : System = record { donor = i.donor; recipient = g.R.PageDisk.state i.recipient; terms = i.terms; course = i.course; stop = i.stop; looked = i.looked; alone = i.is_alone; replica = i.replica } in
    serve_starved s i.begun i.is_disturbed i.is_doubted i.is_shown c.in-Begun.copying c.in-Begun.is c.args.connection c.step_donor-answer.new.donor c.step_donor-answer.new.self c.step_donor-answer.result c.step_donor-answer.ensures c.self.invariant c.first_stop-self-inside.result (c.first_stop-self-inside.ensures ∙ ap (λ (o : Option Stop). option_or i.stop (own_stop SESSION o)) c.stop.ensures)
    c.end_running.new.reception c.end_running.ensures

pub returns-then-is_starved-clause-err : goal.returns-then-is_starved-clause-err
returns-then-is_starved-clause-err g c =
    let i = c.self.inside in
    let s : System = record { donor = i.donor; recipient = g.R.PageDisk.state i.recipient; terms = i.terms; course = i.course; stop = i.stop; looked = i.looked; alone = i.is_alone; replica = i.replica } in
    serve_untold s i.begun i.is_disturbed i.is_doubted i.is_shown c.in-Begun.copying c.in-Begun.is c.args.connection c.step_donor-answer.new.donor c.step_donor-answer.new.self c.step_donor-answer.result c.step_donor-answer.ensures c.self.invariant c.first_stop-self-inside.result (c.first_stop-self-inside.ensures ∙ ap (λ (o : Option Stop). option_or i.stop (own_stop SESSION o)) c.stop.ensures)
    c.end_running.new.reception c.end_running.ensures c.args.self.now c.self.view_is

pub invariant_of-self-in-Begun : goal.invariant_of-self-in-Begun
invariant_of-self-in-Begun g c =
    let i = c.self.inside in
    let s : System = record { donor = i.donor; recipient = g.R.PageDisk.state i.recipient; terms = i.terms; course = i.course; stop = i.stop; looked = i.looked; alone = i.is_alone; replica = i.replica } in
    serve_kept s i.begun i.is_disturbed i.is_doubted i.is_shown c.in-Begun.copying c.in-Begun.is c.args.connection c.step_donor-answer.new.donor c.step_donor-answer.new.self c.step_donor-answer.result c.step_donor-answer.ensures c.self.invariant c.first_stop-self-inside.result (c.first_stop-self-inside.ensures ∙ ap (λ (o : Option Stop). option_or i.stop (own_stop SESSION o)) c.stop.ensures)
    (starved_not c.step_donor-answer.result (sym c.is_starved.ensures ∙ c.if-is_starved.false)) (server_of i.donor c.laws.ensures.donor c.laws.ensures.cloning c.laws.ensures.chunks)
    (server_of c.step_donor-answer.new.donor c.laws-in-Begun.ensures.donor c.laws-in-Begun.ensures.cloning c.laws-in-Begun.ensures.chunks)

pub returns-in-Begun-clause-acts : goal.returns-in-Begun-clause-acts
returns-in-Begun-clause-acts g c =
    let i = c.self.inside in
    let s : System = record { donor = i.donor; recipient = g.R.PageDisk.state i.recipient; terms = i.terms; course = i.course; stop = i.stop; looked = i.looked; alone = i.is_alone; replica = i.replica } in
    serve_made s i.begun i.is_disturbed i.is_doubted i.is_shown c.in-Begun.copying c.in-Begun.is c.args.connection c.step_donor-answer.new.donor c.step_donor-answer.new.self c.step_donor-answer.result c.step_donor-answer.ensures c.self.invariant c.first_stop-self-inside.result (c.first_stop-self-inside.ensures ∙ ap (λ (o : Option Stop). option_or i.stop (own_stop SESSION o)) c.stop.ensures) c.args.self.now c.self.view_is

pub returns-in-Begun-clause-left : goal.returns-in-Begun-clause-left
returns-in-Begun-clause-left g c =
    let i = c.self.inside in
    let s : System = record { donor = i.donor; recipient = g.R.PageDisk.state i.recipient; terms = i.terms; course = i.course; stop = i.stop; looked = i.looked; alone = i.is_alone; replica = i.replica } in
    serve_left s i.begun i.is_disturbed i.is_doubted i.is_shown c.in-Begun.copying c.in-Begun.is c.args.connection c.step_donor-answer.new.donor c.step_donor-answer.new.self c.step_donor-answer.result c.step_donor-answer.ensures c.self.invariant c.first_stop-self-inside.result (c.first_stop-self-inside.ensures ∙ ap (λ (o : Option Stop). option_or i.stop (own_stop SESSION o)) c.stop.ensures) c.args.self.now c.self.view_is c.laws-in-Begun.ensures.numbers

pub returns-in-Begun-clause-idles : goal.returns-in-Begun-clause-idles
returns-in-Begun-clause-idles g c =
    let i = c.self.inside in
    let s : System = record { donor = i.donor; recipient = g.R.PageDisk.state i.recipient; terms = i.terms; course = i.course; stop = i.stop; looked = i.looked; alone = i.is_alone; replica = i.replica } in
    let l = c.laws.ensures in
    serve_idles s i.begun i.is_disturbed i.is_doubted i.is_shown c.in-Begun.copying c.in-Begun.is c.args.connection c.step_donor-answer.new.donor c.step_donor-answer.new.self c.step_donor-answer.result c.step_donor-answer.ensures c.self.invariant c.first_stop-self-inside.result (c.first_stop-self-inside.ensures ∙ ap (λ (o : Option Stop). option_or i.stop (own_stop SESSION o)) c.stop.ensures)
    (record { donor = l.donor; archives = archives_all i.donor.cloning l.cloning l.chunks }) c.args.self.now c.self.view_is
