use Rattle.clone_engine.specs.Over.{over}
use Rattle.clone_engine.proofs.BlockLemmas.{answer_ok, answer_reads, answer_refused, reads_page}
use Rattle.clone_engine.proofs.engine.Engine.latest_page.Goals as goal

pub returns-clause-read : goal.returns-clause-read
returns-clause-read g c =
    let e = (over c.args.self.now (g.D.PageDisk.state c.args.disk.now)).engine in
    answer_ok c.read_latest.result c.answered.result c.answered.ensures _ _ (reads_page e c.requires.engine c.laws.ensures.buffer c.args.space c.args.number c.read_latest.new.into) c.read_latest.ensures.latest

pub returns-clause-refused : goal.returns-clause-refused
returns-clause-refused g c = answer_refused c.read_latest.result c.answered.result c.answered.ensures

pub returns-clause-reads : goal.returns-clause-reads
returns-clause-reads g c = answer_reads c.read_latest.result c.answered.result c.answered.ensures _ _ c.read_latest.ensures.reads
