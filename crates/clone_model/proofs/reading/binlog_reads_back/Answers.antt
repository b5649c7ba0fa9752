use Rattle.clone_model.proofs.OneAnswer as lemmas
use Rattle.clone_model.proofs.reading.binlog_reads_back.Goals as goal

pub returns : goal.returns
returns c = lemmas.read_back
