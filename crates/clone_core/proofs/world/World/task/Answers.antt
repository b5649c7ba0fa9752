use Rattle.std.proofs.Common.{sym, subst}
use Rattle.clone_outside.specs.DiskCalls.{DiskState}
use Rattle.clone_recipient.specs.Receptions.{Reception}
use Rattle.clone_core.specs.Acting.{with_copying}
use Rattle.clone_core.specs.Copied.{Holds, world_of}
use Rattle.clone_core.specs.System.{System}
use Rattle.clone_core.proofs.RestingLemmas.{task_idles}
use Rattle.clone_core.proofs.TaskLemmas.{holds_next, holds_starved, task_left, task_made, task_untold}
use Rattle.clone_core.proofs.world.World.task.Goals as goal

pub invariant_of-self : goal.invariant_of-self
invariant_of-self g c =
    let i = c.self.inside in
    let s : System = record { donor = i.donor; recipient = g.R.PageDisk.state i.recipient; terms = i.terms; course = i.course; stop = i.stop; looked = i.looked; alone = i.is_alone; replica = i.replica } in
    let e = c.step_task-answer in
    let disk : DiskState = g.R.PageDisk.state e.new.disk in
    subst (λ (x : Reception). Holds (world_of (with_copying x e.new.self (record s { recipient = disk })) i.begun i.is_disturbed i.is_doubted i.is_shown)) (sym c.end_running.ensures)
    (holds_starved s i.begun i.is_disturbed i.is_doubted i.is_shown c.in-Begun.copying c.in-Begun.is c.args.task e.new.reception e.new.self disk e.result e.ensures.steps e.ensures.works.tells c.self.invariant c.in-NoMemory.is)

pub returns-in-NoMemory-clause-err : goal.returns-in-NoMemory-clause-err
returns-in-NoMemory-clause-err g c =
    let i = c.self.inside in
    let s : System = record { donor = i.donor; recipient = g.R.PageDisk.state i.recipient; terms = i.terms; course = i.course; stop = i.stop; looked = i.looked; alone = i.is_alone; replica = i.replica } in
    let e = c.step_task-answer in
    task_untold s i.begun i.is_disturbed i.is_doubted i.is_shown c.in-Begun.copying c.in-Begun.is c.args.task e.new.reception e.new.self (g.R.PageDisk.state e.new.disk) e.result e.ensures.steps e.ensures.works.tells c.self.invariant c.in-NoMemory.is c.args.self.now c.self.view_is c.end_running.new.reception c.end_running.ensures

pub invariant_of-self-in-Begun : goal.invariant_of-self-in-Begun
invariant_of-self-in-Begun g c =
    let i = c.self.inside in
    let s : System = record { donor = i.donor; recipient = g.R.PageDisk.state i.recipient; terms = i.terms; course = i.course; stop = i.stop; looked = i.looked; alone = i.is_alone; replica = i.replica } in
    let e = c.step_task-answer in
    holds_next s i.begun i.is_disturbed i.is_doubted i.is_shown c.in-Begun.copying c.in-Begun.is c.args.task e.new.reception e.new.self (g.R.PageDisk.state e.new.disk) e.result e.ensures.steps e.ensures.works.tells c.self.invariant c.laws.ensures.counted c.laws-in-Begun.ensures.bounded c.laws-in-Begun.ensures.counted c.in_default-answer.not-NoMemory (e.ensures.sizes c.in_default-answer.not-NoMemory)

pub returns-in-Begun : goal.returns-in-Begun
returns-in-Begun g c =
    let i = c.self.inside in
    let s : System = record { donor = i.donor; recipient = g.R.PageDisk.state i.recipient; terms = i.terms; course = i.course; stop = i.stop; looked = i.looked; alone = i.is_alone; replica = i.replica } in
    let e = c.step_task-answer in
    record {
      acts = task_made s i.begun i.is_disturbed i.is_doubted i.is_shown c.in-Begun.copying c.in-Begun.is c.args.task e.new.reception e.new.self (g.R.PageDisk.state e.new.disk) e.result e.ensures.steps e.ensures.works.tells c.self.invariant c.args.self.now c.self.view_is e.ensures.works;
      left = task_left s i.begun i.is_disturbed i.is_doubted i.is_shown c.in-Begun.copying c.in-Begun.is c.args.task e.new.reception e.new.self (g.R.PageDisk.state e.new.disk) e.result e.ensures.steps e.ensures.works.tells c.self.invariant c.args.self.now c.self.view_is c.laws.ensures.bounded c.laws-in-Begun.ensures.bounded c.in_default-answer.not-NoMemory;
      idles = task_idles s i.begun i.is_disturbed i.is_doubted i.is_shown c.in-Begun.copying c.in-Begun.is c.args.task e.new.reception e.new.self (g.R.PageDisk.state e.new.disk) e.result e.ensures.steps c.args.self.now c.self.view_is;
      err = tt;
    }
