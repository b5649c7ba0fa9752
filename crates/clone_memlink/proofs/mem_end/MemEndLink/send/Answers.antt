use Rattle.std.proofs.Common.{rules, ◌≡◌, ◌≤◌, ◌+◌, ◌-◌, ℕ, [], take, drop, length, ap}
use Rattle.std.specs.Prelude.{Result, Ok, Err, Some}
use Rattle.clone_outside.specs.declared.link.LinkRefusal.{LinkRefusal}
use Rattle.clone_memlink.specs.Held.{SendsBytes}
use Rattle.clone_memlink.proofs.SendLemmas.{sent_more_then, stopped, sent_all, sent_is, received_is}
use Rattle.clone_memlink.proofs.mem_end.MemEndLink.send.Goals as goal

pub returns-in_err-done-clause-calls : goal.returns-in_err-done-clause-calls
returns-in_err-done-clause-calls g c =
    let v = c.args.self.now in
    let w = c.send_some.new.self in
    let e = c.in_err-done.field-0.0 in
    let is : ◌≡◌ {A = Result (Unit {0}) LinkRefusal} c.from_residual.result (Err e) = search rules in
    let next : SendsBytes {T = ℕ} c.loop-done.self (Err e) [] w = search rules in
    (c.loop-done.done, stopped v c.loop-done.self w c.args.from.now c.loop-done.done c.loop-done.invariant.1 c.loop-done.invariant.2 e c.from_residual.result is next)

pub returns-in_err-done-clause-some : goal.returns-in_err-done-clause-some
returns-in_err-done-clause-some g c =
    let v = c.args.self.now in
    let w = c.send_some.new.self in
    let all = returns-in_err-done-clause-calls g c in
    let side : w.side ≡ v.side = search rules in
    (all.0, ap Some (sent_is v w c.from_residual.result (take all.0 c.args.from.now) all.1 side))

pub returns-in_err-done-clause-received : goal.returns-in_err-done-clause-received
returns-in_err-done-clause-received g c =
    let v = c.args.self.now in
    let w = c.send_some.new.self in
    let all = returns-in_err-done-clause-calls g c in
    let side : w.side ≡ v.side = search rules in
    ap Some (received_is v w c.from_residual.result (take all.0 c.args.from.now) all.1 side)

pub loop-done-preserved : goal.loop-done-preserved
loop-done-preserved g c =
    let v = c.args.self.now in
    let u = c.loop-done.self in
    let w = c.send_some.new.self in
    let n = c.in_ok-done.field-0 in
    let next : SendsBytes {T = ℕ} u (Ok n) (take n (take (length c.args.from.now - c.loop-done.done) (drop c.loop-done.done c.args.from.now))) w = search rules in
    let low : c.loop-done.done + n ≤ length c.args.from.now = search rules in
    let same : w ≡ record v { seat = w.seat } = search rules in
    (low, sent_more_then v u w c.args.from.now c.loop-done.done c.loop-done.invariant.1 c.loop-done.invariant.2 n next, same)

pub returns-clause-calls : goal.returns-clause-calls
returns-clause-calls g c = (c.loop-done.done, c.loop-done.invariant.1)

pub returns-clause-all : goal.returns-clause-all
returns-clause-all g c =
    let v = c.args.self.now in
    let u = c.loop-done.self in
    let over : length c.args.from.now ≤ c.loop-done.done = search rules in
    let told : Result (Unit {0}) LinkRefusal = Ok tt in
    let side : u.side ≡ v.side = search rules in
    ap Some (sent_is v u told c.args.from.now (sent_all v u u c.args.from.now c.loop-done.done c.loop-done.invariant.1 c.loop-done.invariant.2 over) side)

pub returns-clause-some : goal.returns-clause-some
returns-clause-some g c =
    let v = c.args.self.now in
    let u = c.loop-done.self in
    let told : Result (Unit {0}) LinkRefusal = Ok tt in
    let side : u.side ≡ v.side = search rules in
    (c.loop-done.done, ap Some (sent_is v u told (take c.loop-done.done c.args.from.now) c.loop-done.invariant.1 side))

pub returns-clause-received : goal.returns-clause-received
returns-clause-received g c =
    let v = c.args.self.now in
    let u = c.loop-done.self in
    let told : Result (Unit {0}) LinkRefusal = Ok tt in
    let side : u.side ≡ v.side = search rules in
    ap Some (received_is v u told (take c.loop-done.done c.args.from.now) c.loop-done.invariant.1 side)
