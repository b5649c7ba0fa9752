use Rattle.std.proofs.Common.{◌≡◌, replicate}
use Rattle.clone_pool.specs.Frames.{no_frame}
use Rattle.clone_pool.proofs.pool.Pool.new.Given as goal

abbrev pub invariant-loop : goal.invariant-loop
invariant-loop l = record {
  made : l.frames.items ≡ replicate l.counter no_frame;
  long : l.frames.len ≡ l.counter;
  room : l.frames.cap ≡ l.count;
}
