use Rattle.std.proofs.Common.{◌∙◌, ap, inl, inr, refl, subst, sym}
use Rattle.clone_plain.specs.declared.call.EngineCall.TheVariants as call
use Rattle.clone_run.specs.Beginning.{StopsSetup, of_refusal}
use Rattle.clone_run.proofs.TableLemmas.{refused_one, set_more, set_one, stops_by, stops_more}
use Rattle.clone_run.proofs.tables.try_table.Goals as goal

pub returns-in-Ok-clause-sets_up : goal.returns-in-Ok-clause-sets_up
returns-in-Ok-clause-sets_up g c = set_one _ _ (call.Create _ _) _ refl c.create.ensures.acts

pub returns-in-Ok-make_room-clause-sets_up : goal.returns-in-Ok-make_room-clause-sets_up
returns-in-Ok-make_room-clause-sets_up g c = set_more _ _ _ (set_one _ _ (call.Create _ _) _ refl c.create.ensures.acts) c.make_room.ensures.sets_up

pub returns-in-Err-make_room-clause-sets_up : goal.returns-in-Err-make_room-clause-sets_up
returns-in-Err-make_room-clause-sets_up g c = set_more _ _ _ (set_one _ _ (call.Create _ _) _ refl c.create.ensures.acts) c.make_room.ensures.sets_up

pub returns-in-Err-make_room-clause-why : goal.returns-in-Err-make_room-clause-why
returns-in-Err-make_room-clause-why g c =
    elim c.in-Err-make_room.ensures.why [
      | inl stops ↦ stops_more _ _ _ _ (set_one _ _ (call.Create _ _) _ refl c.create.ensures.acts) stops
      | inr same ↦ subst (StopsSetup c.in-Err-make_room.failure c.args.donor.now) (sym same.1) (stops_by _ _ _ _ (refused_one _ _ (call.Create _ _) _ c.in-Err.ensures.acts) same.0)
    ]

pub returns-then-is_there-clause-sets_up : goal.returns-then-is_there-clause-sets_up
returns-then-is_there-clause-sets_up g c = set_one _ _ (call.Create _ _) _ refl c.create.ensures.acts
