use Rattle.std.proofs.Common.{◌<◌, ◌∙◌, Bool, subst, sym}
use Rattle.clone_network.specs.Connections.{StepsBy, StepsEnd}
use Rattle.clone_told.specs.Told.{gives}
use Rattle.clone_ending.specs.Service.{end_work}
use Rattle.clone_ending.proofs.EndLemmas.{end_step}
use Rattle.clone_core.specs.System.{System}
use Rattle.clone_core.specs.Lines.{State}
use Rattle.clone_talk.proofs.Between.{stays_between}
use Rattle.clone_core.proofs.StrangerLemmas.{acts_by, starved_is, starved_kept, starved_made, starved_not, starved_other, step_holds, step_made, step_other}
use Rattle.clone_core.proofs.TalkLemmas.{server_of}
use Rattle.clone_core.proofs.world.World.stranger.Goals as goal

pub invariant_of-self : goal.invariant_of-self
invariant_of-self g c =
    let i = c.self.inside in
    let s : System = record { donor = i.donor; recipient = g.R.PageDisk.state i.recipient; terms = i.terms; course = i.course; stop = i.stop; looked = i.looked; alone = i.is_alone; replica = i.replica } in
    let steps : StepsEnd gives i.donor c.step-how.new.donor c.args.connection.now c.step-how.new.self c.step-how.result = subst (λ (b : Bool). StepsBy b gives i.donor c.step-how.new.donor c.args.connection.now c.step-how.new.self c.step-how.result) c.requires.open c.step-how.ensures in
    starved_kept s c.step-how.new.donor i.begun i.is_disturbed i.is_doubted i.is_shown c.stop.result c.first_stop-self-inside.result c.disturbed-self-inside.result c.has_acted-has_acted.result c.stop.ensures c.first_stop-self-inside.ensures c.disturbed-self-inside.ensures c.alone-self-inside.result c.alone-self-inside.ensures c.args.connection.now c.step-how.new.self c.step-how.result steps c.self.invariant
    (server_of i.donor c.laws.ensures.donor c.laws.ensures.cloning c.laws.ensures.chunks) c.requires.open c.requires.between c.args.self.now c.self.view_is c.requires.other (c.has_acted-has_acted.ensures.memory (starved_is c.step-how.result (sym c.is_starved.ensures ∙ c.if-is_starved.true)))

pub returns-then-is_starved-clause-less : goal.returns-then-is_starved-clause-less
returns-then-is_starved-clause-less g c = λ on.
    let i = c.self.inside in
    let steps : StepsEnd gives i.donor c.step-how.new.donor c.args.connection.now c.step-how.new.self c.step-how.result = subst (λ (b : Bool). StepsBy b gives i.donor c.step-how.new.donor c.args.connection.now c.step-how.new.self c.step-how.result) c.requires.open c.step-how.ensures in
    subst (λ (w : State). end_work c.step-how.new.donor c.step-how.new.self < end_work w.donor.donor c.args.connection.now) c.self.view_is
    (end_step i.donor c.step-how.new.donor c.args.connection.now c.step-how.new.self c.step-how.result c.laws.ensures.donor c.laws.ensures.cloning c.laws.ensures.chunks c.laws-2.ensures.numbers c.requires.open c.requires.left steps on)

pub returns-then-is_starved-clause-err : goal.returns-then-is_starved-clause-err
returns-then-is_starved-clause-err g c =
    let i = c.self.inside in
    let s : System = record { donor = i.donor; recipient = g.R.PageDisk.state i.recipient; terms = i.terms; course = i.course; stop = i.stop; looked = i.looked; alone = i.is_alone; replica = i.replica } in
    let steps : StepsEnd gives i.donor c.step-how.new.donor c.args.connection.now c.step-how.new.self c.step-how.result = subst (λ (b : Bool). StepsBy b gives i.donor c.step-how.new.donor c.args.connection.now c.step-how.new.self c.step-how.result) c.requires.open c.step-how.ensures in
    starved_made s c.step-how.new.donor i.begun i.is_disturbed i.is_doubted i.is_shown c.stop.result c.first_stop-self-inside.result c.disturbed-self-inside.result c.has_acted-has_acted.result c.stop.ensures c.first_stop-self-inside.ensures c.disturbed-self-inside.ensures c.alone-self-inside.result c.alone-self-inside.ensures c.args.connection.now c.step-how.new.self c.step-how.result steps c.self.invariant
    (server_of i.donor c.laws.ensures.donor c.laws.ensures.cloning c.laws.ensures.chunks) c.requires.open c.requires.between c.args.self.now c.self.view_is c.requires.other (c.has_acted-has_acted.ensures.memory (starved_is c.step-how.result (sym c.is_starved.ensures ∙ c.if-is_starved.true)))

pub invariant_of-self-2 : goal.invariant_of-self-2
invariant_of-self-2 g c =
    let i = c.self.inside in
    let s : System = record { donor = i.donor; recipient = g.R.PageDisk.state i.recipient; terms = i.terms; course = i.course; stop = i.stop; looked = i.looked; alone = i.is_alone; replica = i.replica } in
    let steps : StepsEnd gives i.donor c.step-how.new.donor c.args.connection.now c.step-how.new.self c.step-how.result = subst (λ (b : Bool). StepsBy b gives i.donor c.step-how.new.donor c.args.connection.now c.step-how.new.self c.step-how.result) c.requires.open c.step-how.ensures in
    let acted = acts_by i.donor c.step-how.new.donor c.args.connection.now c.step-how.result c.has_session-stood.result c.has_session.result c.has_acted-has_acted.result c.has_session-stood.ensures c.has_session.ensures (c.has_acted-has_acted.ensures.says c.args.connection.now c.attaches-attaches.ensures (starved_not c.step-how.result (sym c.is_starved.ensures ∙ c.if-is_starved.false))) in
    step_holds s c.step-how.new.donor i.begun i.is_disturbed i.is_doubted i.is_shown c.stop.result c.first_stop-self-inside.result c.disturbed-self-inside.result c.has_acted-has_acted.result c.stop.ensures c.first_stop-self-inside.ensures c.disturbed-self-inside.ensures c.alone-self-inside.result c.alone-self-inside.ensures c.args.connection.now c.step-how.new.self c.step-how.result steps c.self.invariant
    (server_of i.donor c.laws.ensures.donor c.laws.ensures.cloning c.laws.ensures.chunks) c.requires.open c.requires.between c.args.self.now c.self.view_is c.requires.other acted

pub returns-clause-ok : goal.returns-clause-ok
returns-clause-ok g c =
    let i = c.self.inside in
    let s : System = record { donor = i.donor; recipient = g.R.PageDisk.state i.recipient; terms = i.terms; course = i.course; stop = i.stop; looked = i.looked; alone = i.is_alone; replica = i.replica } in
    let steps : StepsEnd gives i.donor c.step-how.new.donor c.args.connection.now c.step-how.new.self c.step-how.result = subst (λ (b : Bool). StepsBy b gives i.donor c.step-how.new.donor c.args.connection.now c.step-how.new.self c.step-how.result) c.requires.open c.step-how.ensures in
    let acted = acts_by i.donor c.step-how.new.donor c.args.connection.now c.step-how.result c.has_session-stood.result c.has_session.result c.has_acted-has_acted.result c.has_session-stood.ensures c.has_session.ensures (c.has_acted-has_acted.ensures.says c.args.connection.now c.attaches-attaches.ensures (starved_not c.step-how.result (sym c.is_starved.ensures ∙ c.if-is_starved.false))) in
    step_made s c.step-how.new.donor i.begun i.is_disturbed i.is_doubted i.is_shown c.stop.result c.first_stop-self-inside.result c.disturbed-self-inside.result c.has_acted-has_acted.result c.stop.ensures c.first_stop-self-inside.ensures c.disturbed-self-inside.ensures c.alone-self-inside.result c.alone-self-inside.ensures c.args.connection.now c.step-how.new.self c.step-how.result steps c.self.invariant
    (server_of i.donor c.laws.ensures.donor c.laws.ensures.cloning c.laws.ensures.chunks) c.requires.open c.requires.between c.args.self.now c.self.view_is c.requires.other acted

pub returns-clause-less : goal.returns-clause-less
returns-clause-less g c = λ on.
    let i = c.self.inside in
    let steps : StepsEnd gives i.donor c.step-how.new.donor c.args.connection.now c.step-how.new.self c.step-how.result = subst (λ (b : Bool). StepsBy b gives i.donor c.step-how.new.donor c.args.connection.now c.step-how.new.self c.step-how.result) c.requires.open c.step-how.ensures in
    subst (λ (w : State). end_work c.step-how.new.donor c.step-how.new.self < end_work w.donor.donor c.args.connection.now) c.self.view_is
    (end_step i.donor c.step-how.new.donor c.args.connection.now c.step-how.new.self c.step-how.result c.laws.ensures.donor c.laws.ensures.cloning c.laws.ensures.chunks c.laws-2.ensures.numbers c.requires.open c.requires.left steps on)

pub returns-then-is_starved-clause-other : goal.returns-then-is_starved-clause-other
returns-then-is_starved-clause-other g c =
    let i = c.self.inside in
    let s : System = record { donor = i.donor; recipient = g.R.PageDisk.state i.recipient; terms = i.terms; course = i.course; stop = i.stop; looked = i.looked; alone = i.is_alone; replica = i.replica } in
    let steps : StepsEnd gives i.donor c.step-how.new.donor c.args.connection.now c.step-how.new.self c.step-how.result = subst (λ (b : Bool). StepsBy b gives i.donor c.step-how.new.donor c.args.connection.now c.step-how.new.self c.step-how.result) c.requires.open c.step-how.ensures in
    starved_other s c.step-how.new.donor i.begun i.is_disturbed i.is_doubted i.is_shown c.stop.result c.first_stop-self-inside.result c.disturbed-self-inside.result c.has_acted-has_acted.result c.stop.ensures c.first_stop-self-inside.ensures c.disturbed-self-inside.ensures c.alone-self-inside.result c.alone-self-inside.ensures c.args.connection.now c.step-how.new.self c.step-how.result steps c.self.invariant
    (server_of i.donor c.laws.ensures.donor c.laws.ensures.cloning c.laws.ensures.chunks) c.requires.open c.requires.between c.args.self.now c.self.view_is c.requires.other (c.has_acted-has_acted.ensures.memory (starved_is c.step-how.result (sym c.is_starved.ensures ∙ c.if-is_starved.true)))

pub returns-clause-other : goal.returns-clause-other
returns-clause-other g c =
    let i = c.self.inside in
    let s : System = record { donor = i.donor; recipient = g.R.PageDisk.state i.recipient; terms = i.terms; course = i.course; stop = i.stop; looked = i.looked; alone = i.is_alone; replica = i.replica } in
    let steps : StepsEnd gives i.donor c.step-how.new.donor c.args.connection.now c.step-how.new.self c.step-how.result = subst (λ (b : Bool). StepsBy b gives i.donor c.step-how.new.donor c.args.connection.now c.step-how.new.self c.step-how.result) c.requires.open c.step-how.ensures in
    let acted = acts_by i.donor c.step-how.new.donor c.args.connection.now c.step-how.result c.has_session-stood.result c.has_session.result c.has_acted-has_acted.result c.has_session-stood.ensures c.has_session.ensures (c.has_acted-has_acted.ensures.says c.args.connection.now c.attaches-attaches.ensures (starved_not c.step-how.result (sym c.is_starved.ensures ∙ c.if-is_starved.false))) in
    step_other s c.step-how.new.donor i.begun i.is_disturbed i.is_doubted i.is_shown c.stop.result c.first_stop-self-inside.result c.disturbed-self-inside.result c.has_acted-has_acted.result c.stop.ensures c.first_stop-self-inside.ensures c.disturbed-self-inside.ensures c.alone-self-inside.result c.alone-self-inside.ensures c.args.connection.now c.step-how.new.self c.step-how.result steps c.self.invariant
    (server_of i.donor c.laws.ensures.donor c.laws.ensures.cloning c.laws.ensures.chunks) c.requires.open c.requires.between c.args.self.now c.self.view_is c.requires.other acted

pub returns-then-is_starved-clause-between : goal.returns-then-is_starved-clause-between
returns-then-is_starved-clause-between g c = λ on.
    let i = c.self.inside in
    let steps : StepsEnd gives i.donor c.step-how.new.donor c.args.connection.now c.step-how.new.self c.step-how.result = subst (λ (b : Bool). StepsBy b gives i.donor c.step-how.new.donor c.args.connection.now c.step-how.new.self c.step-how.result) c.requires.open c.step-how.ensures in
    stays_between i.donor c.step-how.new.donor c.args.connection.now c.step-how.new.self c.step-how.result steps c.requires.open c.requires.between on

pub returns-clause-between : goal.returns-clause-between
returns-clause-between g c = λ on.
    let i = c.self.inside in
    let steps : StepsEnd gives i.donor c.step-how.new.donor c.args.connection.now c.step-how.new.self c.step-how.result = subst (λ (b : Bool). StepsBy b gives i.donor c.step-how.new.donor c.args.connection.now c.step-how.new.self c.step-how.result) c.requires.open c.step-how.ensures in
    stays_between i.donor c.step-how.new.donor c.args.connection.now c.step-how.new.self c.step-how.result steps c.requires.open c.requires.between on
