use Rattle.std.proofs.Common.{◌≡◌, List, ℕ, subst}
use Rattle.std.specs.declared.option.Option.{Option}
use Rattle.clone_outside.specs.Disk.{ForTold}
use Rattle.clone_recover.proofs.Marks.{mark_read, no_mark}
use Rattle.clone_recover.proofs.recovery.mark_of.Goals as goal

pub returns-in-Some-clause-mark : goal.returns-in-Some-clause-mark
returns-in-Some-clause-mark g c =
    let told = (g.R.PageDisk.state c.args.disk.now).told in
    mark_read told c.in-Some.bytes c.from_bytes.result (subst (λ (o : Option (List ℕ)). ForTold told (λ m. o ≡ m.mark)) c.in-Some.is c.in_ok-bytes.ensures.mark) c.from_bytes.ensures.found c.from_bytes.ensures.none

pub returns-in-None-clause-mark : goal.returns-in-None-clause-mark
returns-in-None-clause-mark g c =
    let told = (g.R.PageDisk.state c.args.disk.now).told in
    no_mark told (subst (λ (o : Option (List ℕ)). ForTold told (λ m. o ≡ m.mark)) c.in-None.is c.in_ok-bytes.ensures.mark)
