use Rattle.std.proofs.Common.{◌≡◌, ◌≤◌, ◌-◌, vec_len}
use Rattle.clone_outside.specs.Bytes.{prepended}
use Rattle.clone_top.proofs.read.read_all.Given as goal

abbrev pub invariant-loop-piece : goal.invariant-loop-piece
invariant-loop-piece g l = record {
  given : g.S.Source.left l.fn.source ≡ prepended l.script.items (g.S.Source.left l.source);
  steady : g.S.Source.failures l.source ≡ g.S.Source.failures l.fn.source;
  few : vec_len l.script ≤ 1048577;
}

abbrev pub decreases-loop-piece : goal.decreases-loop-piece
decreases-loop-piece g l = 1048577 - vec_len l.script
