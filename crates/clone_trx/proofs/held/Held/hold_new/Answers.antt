use Rattle.clone_trx.proofs.Common.{IsTrue, ap, arith, inl, refl, subst, sym, Buffered, ArePinned, freshens}
use Rattle.clone_trx.proofs.HoldingLemmas.{comes_new, refused_here, times_low}
use Rattle.clone_trx.proofs.held.Held.hold_new.Goals as goal

pub hold_new-requires-clause-pins : goal.hold_new-requires-clause-pins
hold_new-requires-clause-pins c = λ at. let low = times_low c.args.self.now at in let is = c.requires.pinned at in omega (arith, low, is, c.requires.room)

pub returns-in-Ok-clause-comes : goal.returns-in-Ok-clause-comes
returns-in-Ok-clause-comes c = λ call rest come. comes_new call c.args.self.now c.args.buffer.now c.hold_new.new.buffer (record { space = c.args.space; number = c.args.number }) rest c.in-Ok.at c.push.new.self c.push.ensures c.in-Ok.ensures.taken come

pub returns-in-Ok-clause-holds : goal.returns-in-Ok-clause-holds
returns-in-Ok-clause-holds c =
    let e = c.in-Ok.ensures in
    record { has = e.has; log = ap (λ (b : Buffered). b.log) e.same; before = subst (λ (b : Buffered). IsTrue b.right) e.same; still = e.stay }

pub release-requires : goal.release-requires
release-requires c = subst (λ (b : Buffered). ArePinned c.args.self.now b.pool.frames) (sym c.in-Err.ensures.none.3) c.requires.pinned

pub returns-in-Err-clause-refused : goal.returns-in-Err-clause-refused
returns-in-Err-clause-refused c = λ call rest come.
    let none = c.in-Err.ensures.none in
    refused_here call c.args.self.now c.args.buffer.now c.release.new.buffer (freshens (record { space = c.args.space; number = c.args.number }) rest) c.hold_new.new.buffer c.in-Err.refusal none.0 none.1 (inl (none.0, refl, none.2, none.3))
    (ap (λ (b : Buffered). b.log) none.3) (subst (λ (b : Buffered). IsTrue b.right) none.3) c.release.ensures.is c.release.ensures.keeps come

pub returns-in-Err-clause-other : goal.returns-in-Err-clause-other
returns-in-Err-clause-other c fault = let because = c.in-Err.ensures.none.1 in let full = c.in-Err.ensures.none.2.is in cc
