use Rattle.std.proofs.Common.{subst}
use Rattle.clone_buffer.proofs.Common.{IsPool, Buffered, IsBuffer}
use Rattle.clone_buffer.proofs.SpaceLemmas.{shows_created, stands_created}
use Rattle.clone_buffer.proofs.buffer.Buffer.write_space.Goals as goal

pub append-requires-clause-shows : goal.append-requires-clause-shows
append-requires-clause-shows c =
    let pool = subst (λ (s : Buffered). IsPool s.pool) c.self.view_is c.laws.ensures in
    let buffer = subst IsBuffer c.self.view_is c.self.invariant in
    λ t. shows_created c.args.self.now c.args.records.now pool buffer (c.requires.creates t) t

pub returns-clause-stands : goal.returns-clause-stands
returns-clause-stands c =
    let pool = subst (λ (s : Buffered). IsPool s.pool) c.self.view_is c.laws.ensures in
    let buffer = subst IsBuffer c.self.view_is c.self.invariant in
    stands_created c.args.self.now c.append.new.self c.args.records.now c.append.result pool buffer c.append.ensures.spelled c.requires.creates c.append.ensures.written
