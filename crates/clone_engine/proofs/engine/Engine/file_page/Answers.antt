use Rattle.clone_engine.specs.Over.{over}
use Rattle.clone_engine.proofs.BlockLemmas.{answer_ok, answer_reads, answer_refused, reads_file}
use Rattle.clone_engine.proofs.engine.Engine.file_page.Goals as goal

pub returns-clause-read : goal.returns-clause-read
returns-clause-read g c =
    let e = (over c.args.self.now (g.D.PageDisk.state c.args.disk.now)).engine in
    answer_ok c.read_page.result c.answered.result c.answered.ensures _ _ (reads_file e c.requires.engine c.laws.ensures.buffer c.args.space c.args.number c.read_page.new.into) c.read_page.ensures.quiet

pub returns-clause-refused : goal.returns-clause-refused
returns-clause-refused g c = answer_refused c.read_page.result c.answered.result c.answered.ensures

pub returns-clause-reads : goal.returns-clause-reads
returns-clause-reads g c = answer_reads c.read_page.result c.answered.result c.answered.ensures _ _ c.read_page.ensures.reads
