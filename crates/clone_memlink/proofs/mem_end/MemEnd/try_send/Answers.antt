use Rattle.std.proofs.Common.{rules, ◌≡◌, take}
use Rattle.clone_turn.specs.Seats.{MakesCall}
use Rattle.clone_memlink.specs.declared.connection.Connection.{Connection}
use Rattle.clone_memlink.specs.declared.connection.LinkCall.TheVariants.{Send}
use Rattle.clone_memlink.specs.declared.connection.LinkAnswer.TheVariants.{Sent, Lost, NoMemory}
use Rattle.clone_memlink.specs.Connections.{Steps}
use Rattle.clone_memlink.proofs.EndViewLemmas.{sends_one, sends_lost, sends_no_memory}
use Rattle.clone_memlink.proofs.mem_end.MemEnd.try_send.Goals as goal

pub returns-after-n-gt0-clause-sent : goal.returns-after-n-gt0-clause-sent
returns-after-n-gt0-clause-sent g c =
    let v = c.args.self.now in
    let piece = c.new-piece.result in
    let is : piece ≡ take c.min.result c.args.from.now = search rules in
    let made : MakesCall Steps v.name.first v.seat (Send v.side piece) (Sent c.in-Sent.n) c.call-2.new.self.seat = search rules in
    let step : (s : Connection) × (t : Connection) × Steps s (Send v.side piece) (Sent c.in-Sent.n) t = search rules in
    sends_one v c.call-2.new.self piece c.args.from.now c.min.result c.in-Sent.n is made step

pub returns-in-Lost-clause-sent : goal.returns-in-Lost-clause-sent
returns-in-Lost-clause-sent g c =
    let v = c.args.self.now in
    let piece = c.new-piece.result in
    let made : MakesCall Steps v.name.first v.seat (Send v.side piece) Lost c.count_loss.new.self.seat = search rules in
    sends_lost v c.count_loss.new.self piece c.args.from.now made

pub returns-in-NoMemory-clause-sent : goal.returns-in-NoMemory-clause-sent
returns-in-NoMemory-clause-sent g c =
    let v = c.args.self.now in
    let piece = c.new-piece.result in
    let made : MakesCall Steps v.name.first v.seat (Send v.side piece) NoMemory c.call-2.new.self.seat = search rules in
    sends_no_memory v c.call-2.new.self piece c.args.from.now made
