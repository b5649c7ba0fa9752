use Rattle.clone_engine.specs.Over.{over}
use Rattle.clone_engine.proofs.BlockLemmas.{HasRead}
use Rattle.clone_engine.proofs.engine.Engine.pages.Given as goal

abbrev pub invariant-loop-space : goal.invariant-loop-space
invariant-loop-space g l = HasRead l.stage l.fn.block (over l.fn.self (g.D.PageDisk.state l.fn.disk)).engine (over l.fn.self (g.D.PageDisk.state l.disk)).engine l.space-index l.pages.items
