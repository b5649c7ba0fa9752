use Rattle.std.proofs.Common.{rules, ◌≡◌, ℕ, subst}
use Rattle.std.specs.Prelude.{Result, Ok}
use Rattle.clone_outside.specs.declared.link.LinkRefusal.{LinkRefusal}
use Rattle.clone_memlink.specs.Held.{SendsFront}
use Rattle.clone_memlink.proofs.SendLemmas.{front_then}
use Rattle.clone_memlink.proofs.mem_end.MemEnd.send_some.Goals as goal

pub returns-clause-sent : goal.returns-clause-sent
returns-clause-sent g c =
    let v = c.args.self.now in
    let u = c.try_send-sent.new.self in
    let named : u.name ≡ v.name = search rules in
    let mine : u.side ≡ v.side = search rules in
    let is : ◌≡◌ {A = Result ℕ LinkRefusal} c.try_send-sent.result (Ok 0) = search rules in
    let first : SendsFront v c.args.from.now (Ok 0) u = subst (λ (r : Result ℕ LinkRefusal). SendsFront v c.args.from.now r u) is c.try_send-sent.ensures.sent in
    front_then ℕ 0 v u c.send_when_room-sent.new.self c.args.from.now c.send_when_room-sent.result first named mine c.send_when_room-sent.ensures.sent
