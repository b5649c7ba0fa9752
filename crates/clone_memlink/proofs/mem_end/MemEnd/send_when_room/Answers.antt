use Rattle.std.proofs.Common.{rules, ◌≡◌, ℕ, [], subst}
use Rattle.std.specs.Prelude.{Result, Ok}
use Rattle.clone_outside.specs.declared.link.LinkRefusal.{LinkRefusal}
use Rattle.clone_memlink.specs.Held.{SendsFront}
use Rattle.clone_memlink.proofs.SendLemmas.{front_then, sent_then}
use Rattle.clone_memlink.proofs.mem_end.MemEnd.send_when_room.Goals as goal

pub returns-in_default-clause-sent : goal.returns-in_default-clause-sent
returns-in_default-clause-sent g c =
    let v = c.args.self.now in
    let u = c.loop.self in
    let named : u.name ≡ v.name = search rules in
    let mine : u.side ≡ v.side = search rules in
    front_then (Unit {0}) tt v u c.try_send-sent.new.self c.args.from.now c.try_send-sent.result c.loop.invariant.2 named mine c.try_send-sent.ensures.sent

pub loop-preserved : goal.loop-preserved
loop-preserved g c =
    let v = c.args.self.now in
    let u = c.loop.self in
    let w = c.try_send-sent.new.self in
    let named : u.name ≡ v.name = search rules in
    let mine : u.side ≡ v.side = search rules in
    let is : ◌≡◌ {A = Result ℕ LinkRefusal} c.try_send-sent.result (Ok 0) = search rules in
    let next : SendsFront u c.args.from.now (Ok 0) w = subst (λ (r : Result ℕ LinkRefusal). SendsFront u c.args.from.now r w) is c.try_send-sent.ensures.sent in
    let same : w ≡ record v { seat = w.seat } = search rules in
    (tt, tt, sent_then (Unit {0}) tt v u w [] c.loop.invariant.2 named mine (Unit {0}) 0 tt [] next, same)
