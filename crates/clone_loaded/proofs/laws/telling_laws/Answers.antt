use Rattle.std.proofs.Common.{subst, sym}
use Rattle.std.specs.List.{AllByRecursion}
use Rattle.clone_matched.specs.Telling.{Tells, TellsEnds}
use Rattle.clone_loaded.proofs.DeskLemmas.{all_tell}
use Rattle.clone_loaded.proofs.laws.telling_laws.Goals as goal

pub returns : goal.returns
returns g c = λ state load o s t empty ran tells.
    let link = g.N.End.Link in
    let end = ran.desk.end in
    subst (λ m. AllByRecursion (TellsEnds link) m.records) (sym end)
    (all_tell g.N.Net link s.desk ran.desk.run empty ran.desk.legal (subst (λ m. (e : _) → g.N.Net.made m.net (link.name e) → Tells link e) end tells))
