use Rattle.std.proofs.Common.{drop, ◌∙◌, arith}
use Rattle.clone_mtr.proofs.Spellings.{spelling_some}
use Rattle.clone_mtr.proofs.Pieces.{more_laid, all_laid}
use Rattle.clone_mtr.proofs.laying.lay.Goals as goal

pub loop-entry-preserved : goal.loop-entry-preserved
loop-entry-preserved c =
    let more = more_laid c.loop-entry.at c.lay_record-at.result c.loop-entry.entry-index c.args.entries.now c.entry-item.result c.loop-entry.into c.lay_record-at.new.into c.args.into.now
    c.loop-entry-test.true c.entry-item.is (omega arith) c.lay_record-at.ensures.behind c.lay_record-at.ensures.text c.loop-entry.invariant.long c.loop-entry.invariant.text in
    record { long = more.0; text = more.1 }

pub lay_bytes-requires : goal.lay_bytes-requires
lay_bytes-requires c = omega (arith, spelling_some (drop c.loop-entry.entry-index c.args.entries.now))

pub returns : goal.returns
returns c = c.lay_bytes.ensures.text ∙ all_laid c.loop-entry.at c.loop-entry.entry-index c.args.entries.now c.loop-entry.into c.args.into.now c.loop-entry-test.false c.loop-entry.invariant.text
