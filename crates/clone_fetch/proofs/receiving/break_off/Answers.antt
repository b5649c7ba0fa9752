use Rattle.std.proofs.Common.{ℕ, List, refl, ap}
use Rattle.clone_wire.specs.declared.frame.Side.TheVariants.{Answer}
use Rattle.clone_tasks.specs.declared.end.CloneEnd.TheVariants as end
use Rattle.clone_fetch.specs.Fetching.{breaks}
use Rattle.clone_fetch.proofs.KeptLemmas.{one_kept}
use Rattle.clone_fetch.proofs.StepLemmas.{ended_so}
use Rattle.clone_fetch.proofs.receiving.break_off.Goals as goal

pub returns : goal.returns
returns c =
    breaks c.in-Ok-keep_front.answered c.in-Ok-keep_front.ensures
    (ended_so _ _ _ c.args.reception.now c.end.new.self (ap (λ (kept : List ℕ). end.Garbled kept) (one_kept Answer c.args.bytes.now _ _ c.in-Ok.ensures c.in-Ok-keep_front.ensures)) refl c.end.ensures)
    refl
