use Rattle.std.proofs.Common.{◌+◌, ℕ, length, ap, sym, subst}
use Rattle.clone_buffer.proofs.Common.{spelling, IsPool, Buffered, IsBuffer}
use Rattle.clone_buffer.proofs.WrittenLemmas.{shows_written, stands_written}
use Rattle.clone_buffer.proofs.buffer.Buffer.write.Goals as goal

pub append-requires-clause-shows : goal.append-requires-clause-shows
append-requires-clause-shows c =
    let records = c.args.records.now in
    let pool = subst (λ (s : Buffered). IsPool s.pool) c.self.view_is c.laws.ensures in
    let buffer = subst IsBuffer c.self.view_is c.self.invariant in
    λ t. shows_written c.args.self.now records pool (sym (ap (λ (n : ℕ). n + length (spelling records)) buffer.end)) c.requires.edits (c.requires.there t) (buffer.shows t)

pub returns-clause-stands : goal.returns-clause-stands
returns-clause-stands c =
    let pool = subst (λ (s : Buffered). IsPool s.pool) c.self.view_is c.laws.ensures in
    let buffer = subst IsBuffer c.self.view_is c.self.invariant in
    λ beside told st. stands_written c.args.self.now c.append.new.self beside told c.args.records.now c.append.result pool buffer c.append.ensures.spelled c.requires.edits c.requires.framed c.requires.there c.append.ensures.written st
