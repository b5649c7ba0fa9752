use Rattle.std.proofs.Common.{Ok, refl, sym, subst}
use Rattle.clone_plain.specs.declared.call.EngineAnswer.{EngineAnswer}
use Rattle.clone_plain.specs.declared.call.EngineAnswer.TheVariants as answers
use Rattle.clone_plain.specs.declared.call.EngineCall.{EngineCall}
use Rattle.clone_engine.specs.Acts.{EngineActs}
use Rattle.clone_donor.proofs.donor.Donor.carry_out.Goals as goal

pub returns-in-OldestDirty : goal.returns-in-OldestDirty
returns-in-OldestDirty g c =
    let d = c.args.self.now in
    record { acts = subst (λ (asked : EngineCall). EngineActs asked (Ok (answers.OldestDirty c.oldest_dirty.result)) d d) (sym c.in-OldestDirty.is) (record { does = record { steps = c.oldest_dirty.ensures; cloning = refl }; donor = c.laws.ensures.donor; taken = λ taken was. was }) }

pub returns-in-End : goal.returns-in-End
returns-in-End g c =
    let d = c.args.self.now in
    record { acts = subst (λ (asked : EngineCall). EngineActs asked (Ok (answers.End c.end.result)) d d) (sym c.in-End.is) (record { does = record { steps = (c.end.ensures, refl); cloning = refl }; donor = c.laws.ensures.donor; taken = λ taken was. was }) }
