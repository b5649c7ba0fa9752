use Rattle.std.proofs.Common.{subst}
use Rattle.clone_buffer.proofs.Common.{IsPool, Buffered, IsBuffer}
use Rattle.clone_buffer.proofs.LongerLemmas.{shows_longer, stands_longer}
use Rattle.clone_buffer.proofs.buffer.Buffer.write_longer.Goals as goal

pub append-requires-clause-shows : goal.append-requires-clause-shows
append-requires-clause-shows c =
    let pool = subst (λ (s : Buffered). IsPool s.pool) c.self.view_is c.laws.ensures in
    let buffer = subst IsBuffer c.self.view_is c.self.invariant in
    λ t. shows_longer c.args.self.now c.args.records.now (c.requires.longer t) pool buffer t

pub returns-clause-stands : goal.returns-clause-stands
returns-clause-stands c =
    let pool = subst (λ (s : Buffered). IsPool s.pool) c.self.view_is c.laws.ensures in
    let buffer = subst IsBuffer c.self.view_is c.self.invariant in
    λ beside told st. stands_longer c.args.self.now c.append.new.self beside told c.args.records.now c.append.result pool buffer c.append.ensures.spelled c.requires.longer c.append.ensures.written st
