use Rattle.std.proofs.Common.{◌≡◌, ◌∙◌, ap, sym, subst}
use Rattle.clone_turn.specs.Worked.{Worked}
use Rattle.clone_machine.specs.declared.calls.JobAnswer.TheVariants as job_answer
use Rattle.clone_machine.specs.declared.calls.JobCall.TheVariants as job
use Rattle.clone_links.specs.Calling.{IsOneCall, Server}
use Rattle.clone_links.specs.Serving.{IsServed}
use Rattle.clone_task_jobs.specs.Serving.{Service}
use Rattle.clone_task_jobs.proofs.ServeLemmas.{HasServed, after_halt, after_none, both_idle, has_served, worked_of}
use Rattle.clone_task_jobs.proofs.serving.serve_next.Goals as goal
use Rattle.clone_task_jobs.proofs.serving.serve_next.Goals.{then-is_some, else-is_some}

pub returns-in_default : goal.returns-in_default
returns-in_default g c =
    let asked = worked_of (IsOneCall job.Halted (job_answer.Halted c.is_halted.result)) c.args.server.now c.is_halted.new.self c.is_halted.ensures in
    let goes = subst (λ b. Worked (IsOneCall job.Halted (job_answer.Halted b)) c.args.server.now.seat c.is_halted.new.self.seat) c.if-is_halted.false asked in
    both_idle g.N.End.Link c.args.task c.args.server.now.seat c.is_halted.new.self.seat c.args.desk.now c.take_end.new.desk goes c.in_default.ensures.asks

pub returns : goal.returns
returns g c =
    let link = g.N.End.Link in
    let served = c.serve-served.new.link in
    let why = c.serve-served.result in
    let u = c.args.server.now.seat in
    let w = c.serve-served.new.self.seat in
    let asked = worked_of (IsOneCall job.Halted (job_answer.Halted c.is_halted.result)) c.args.server.now c.is_halted.new.self c.is_halted.ensures in
    let goes = subst (λ b. Worked (IsOneCall job.Halted (job_answer.Halted b)) u c.is_halted.new.self.seat) c.if-is_halted.false asked in
    let is = worked_of (IsServed why (link.received c.in-Some.end) (link.received served) (link.sent c.in-Some.end) (link.sent served)) c.is_halted.new.self c.serve-served.new.self c.serve-served.ensures.serves in
    let s : Service g.row.N-End.Denot = record { place = c.in-Some.place; taken = c.in-Some.end; back = c.close.new.self; why = why } in
    let did : HasServed link c.args.task s u w c.args.desk.now c.give_back.new.desk =
    has_served link c.args.task s served u c.is_halted.new.self.seat w c.args.desk.now c.take_end.new.desk c.give_back.new.desk (record {
      new = c.in-Some.ensures.new;
      name = c.serve-served.ensures.name;
      side = c.serve-served.ensures.side;
      lost = c.serve-served.ensures.lost;
      received = c.close.ensures.received;
      sent = c.close.ensures.sent;
      back_name = c.close.ensures.name;
      back_side = c.close.ensures.side;
      count = c.close.ensures.count;
    }) goes is c.in-Some.ensures.asks c.give_back.ensures in
    elim c.if-is_some.branch [
      | then-is_some b ↦
          let halt = worked_of (IsOneCall job.Halt job_answer.Halt) c.serve-served.new.self b.halt.new.self b.halt.ensures in
          after_halt link c.args.task s u w c.if-is_some.server.seat c.args.desk.now c.give_back.new.desk c.ending_of-ending.result did (sym c.is_some.ensures ∙ b.if-is_some.true) c.ending_of-ending.ensures
          (subst (λ (x : Server). Worked (IsOneCall job.Halt job_answer.Halt) w x.seat) (sym b.server-is) halt)
      | else-is_some b ↦
          after_none link c.args.task s u w c.if-is_some.server.seat c.args.desk.now c.give_back.new.desk c.ending_of-ending.result did (sym c.is_some.ensures ∙ b.if-is_some.false) c.ending_of-ending.ensures
          (ap (λ (x : Server). x.seat) b.server-is)
    ]
