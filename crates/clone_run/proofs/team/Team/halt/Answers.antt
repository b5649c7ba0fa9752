use Rattle.clone_run.proofs.TeamLemmas.{halt_answered, halted_in}
use Rattle.clone_run.proofs.team.Team.halt.Goals as goal

-- src/team.rt:322:18
pub unreachable-requires : goal.unreachable-requires
unreachable-requires g c = c.in_default.not-Halt (halt_answered _ _ _ _ c.call.ensures.call)

-- src/team.rt:314:5
pub returns-clause-halts : goal.returns-clause-halts
returns-clause-halts g c = halted_in c.args.self.now _ c.call.new.self c.call.result c.self.view_is c.call.ensures.cell c.call.ensures.call
