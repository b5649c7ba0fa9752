use Rattle.clone_trx.proofs.Common.{arith}
use Rattle.clone_trx.proofs.HoldingLemmas.{comes_on, missed_pinned, refused_on, times_low}
use Rattle.clone_trx.proofs.held.Held.hold.Goals as goal

pub hold-requires-clause-pins : goal.hold-requires-clause-pins
hold-requires-clause-pins g c = λ at. let low = times_low c.args.self.now at in let is = c.requires.pinned at in omega (arith, low, is, c.requires.room)

pub returns-in-Ok-clause-comes : goal.returns-in-Ok-clause-comes
returns-in-Ok-clause-comes g c = λ call rest come.
    comes_on call c.args.self.now c.args.buffer.now c.hold.new.buffer (record { space = c.args.space; number = c.args.number }) rest c.in-Ok.at c.push.new.self c.push.ensures c.in-Ok.ensures.held come

pub returns-in-Ok-clause-holds : goal.returns-in-Ok-clause-holds
returns-in-Ok-clause-holds g c = let e = c.in-Ok.ensures in record { has = e.has; log = e.log; before = e.before; still = e.stay }

pub release-requires : goal.release-requires
release-requires g c = missed_pinned (record { space = c.args.space; number = c.args.number }) c.in-Err.refusal c.args.self.now c.args.buffer.now c.hold.new.buffer c.in-Err.ensures.missed c.requires.pinned

pub returns-in-Err-clause-refused : goal.returns-in-Err-clause-refused
returns-in-Err-clause-refused g c = λ call rest come.
    refused_on call c.args.self.now c.args.buffer.now c.hold.new.buffer c.release.new.buffer (record { space = c.args.space; number = c.args.number }) rest c.in-Err.refusal c.in-Err.ensures.missed c.release.ensures.is c.release.ensures.keeps come
