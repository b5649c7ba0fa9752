use Rattle.std.proofs.Common.{string_bytes}
use Rattle.clone_core.proofs.ServedLemmas.{raw_answers, raw_breaks, some_breaks}
use Rattle.clone_core.proofs.world.World.raw_line.Goals as goal

pub returns-in_err-how-clause-err : goal.returns-in_err-how-clause-err
returns-in_err-how-clause-err g c = some_breaks c.args.bytes.now c.args.self.now _ c.from_residual.result c.in_err-how.ensures.err

pub returns-clause-ok : goal.returns-clause-ok
returns-clause-ok g c = raw_answers string_bytes c.args.bytes.now c.args.self.now _ c.in_ok-how.how c.end_text.result c.in_ok-how.ensures.ok c.end_text.ensures

pub returns-clause-err : goal.returns-clause-err
returns-clause-err g c = raw_breaks c.args.bytes.now c.args.self.now _ c.in_ok-how.how c.end_text.result c.in_ok-how.ensures.ok
