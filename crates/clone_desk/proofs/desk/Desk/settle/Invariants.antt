use Rattle.clone_desk.proofs.SettleLemmas.{Settles}
use Rattle.clone_desk.proofs.desk.Desk.settle.Given as goal

abbrev pub invariant-loop-connection : goal.invariant-loop-connection
invariant-loop-connection g l =
    Settles g.N.Net g.N.End.Link l.initial.net l.initial.records.items l.net l.records.items

abbrev pub decreases-loop-connection : goal.decreases-loop-connection
decreases-loop-connection g l = goal.left-loop-connection g l
