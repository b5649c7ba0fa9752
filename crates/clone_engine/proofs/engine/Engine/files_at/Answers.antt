use Rattle.std.proofs.Common.{◌≡◌, ◌≤◌, ap, length, arith}
use Rattle.std.specs.FinMap as finite
use Rattle.std.proofs.lemmas.Result.{IfOk-weaker}
use Rattle.clone_engine.proofs.engine.Engine.files_at.Goals as goal

pub returns-then-stage-number-clause-few : goal.returns-then-stage-number-clause-few
returns-then-stage-number-clause-few c =
    let files = c.args.self.now.flusher.files in
    IfOk-weaker c.files.result (λ listed. listed.items ≡ finite.entries files) (λ listed. length listed.items ≤ finite.len files) (λ listed is. omega (arith, ap length is, finite.len-entries files)) c.files.ensures
