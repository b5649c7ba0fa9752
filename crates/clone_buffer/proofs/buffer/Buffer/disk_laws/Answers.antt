use Rattle.clone_buffer.proofs.LawLemmas.{disk_is_frames}
use Rattle.clone_buffer.proofs.buffer.Buffer.disk_laws.Goals as goal

pub returns : goal.returns
returns c = λ beside m k. disk_is_frames c.args.self.now beside m k
