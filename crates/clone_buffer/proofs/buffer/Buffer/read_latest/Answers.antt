use Rattle.std.proofs.Common.{sym}
use Rattle.std.proofs.lemmas.Result.{IfOk-weaker}
use Rattle.clone_buffer.proofs.ReadLemmas.{reads_latest}
use Rattle.clone_buffer.proofs.buffer.Buffer.read_latest.Goals as goal

pub returns-clause-latest : goal.returns-clause-latest
returns-clause-latest g c =
    IfOk-weaker c.read_page.result _ _ (λ _ quiet. reads_latest c.args.self.now (g.D.PageDisk.state c.args.disk.now).told c.args.space c.args.number c.read_page.new.into c.laws.ensures.buffer (sym c.in_default.ensures.page) quiet) c.read_page.ensures.quiet
