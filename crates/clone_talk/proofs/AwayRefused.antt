-- A donor's end refuses the clone's session, for another one stands: the clone is turned away.
use Rattle.std.proofs.Common.{ℕ, ◌≡◌, ◌≢◌, ◌∙◌, ◌⊎◌, ◌≤◌, Some, [], true, sym, ap, subst, inl, inr}
use Rattle.std.specs.Prelude.{IfSome, slice_get}
use Rattle.clone_session.specs.Cloning.{IsCloning}
use Rattle.clone_session.specs.Effects.{Tells}
use Rattle.clone_session.specs.declared.info.StageInfo.{StageInfo}
use Rattle.clone_wire.specs.declared.frame.Frame.TheVariants.{Refused}
use Rattle.clone_recipient.specs.Expecting.{fits}
use Rattle.clone_recipient.specs.Receptions.{Reception}
use Rattle.clone_serve.specs.declared.turn.ServeAnswer.TheVariants.{NoMemory}
use Rattle.clone_network.specs.Networks.{Network, StepsDonor, with_connection}
use Rattle.clone_network.specs.declared.donor_step.DonorStep.{DonorStep}
use Rattle.clone_network.specs.declared.donor_step.DonorStep.TheVariants.{Served}
use Rattle.clone_engine.specs.Copying.{moment_of}
use Rattle.clone_engine.specs.Donor.{Donor}
use Rattle.clone_told.specs.Told.{gives}
use Rattle.clone_rounds.specs.Steps.{sends}
use Rattle.clone_paired.specs.Calm.{IsFree}
use Rattle.clone_paired.specs.Lines.{connection_of}
use Rattle.clone_paired.specs.Own.{own_session}
use Rattle.clone_paired.specs.Paired.{IsPaired, IsReception}
use Rattle.clone_paired.proofs.DonorMovesTask.{IsRefused, donor_stands}
use Rattle.clone_paired.proofs.DonorReads.{all_told}
use Rattle.clone_talk.specs.Talking.{IsRefusal, IsTurnedAway}
use Rattle.clone_talk.proofs.Away.{emptied, there_same, with_last}

turned_away : (d t : Donor) (r : Reception) (n m : Network) (number : ℕ) → IsPaired (own_session r.table.session d.cloning) r n → IsRefused d t r n m number → IsTurnedAway (own_session r.table.session t.cloning) r m
turned_away d t r n m number paired f = record {
  number = number;
  at = f.after;
  has = ap (λ (x : Network). connection_of x 0) f.is ∙ f.has;
  there = ap (λ (x : Network). slice_get x.connections number) f.is ∙ there_same n number f.after f.at f.there;
  over = f.refuses.over;
  frames = sends f.after.cut [] (Refused f.refuses.cause);
  refusals = all_told IsRefusal f.after.cut [] (Refused f.refuses.cause) tt tt;
  unread = f.refuses.unread;
  but = subst (λ (x : Network). IsPaired (own_session r.table.session t.cloning) r (with_connection number (emptied f.after) x)) (sym f.is) (subst (IsPaired (own_session r.table.session t.cloning) r) (sym (with_last n number f.after (emptied f.after))) (subst (λ (o : Donor). IsPaired (own_session r.table.session o.cloning) r (with_connection number (emptied f.after) n)) (sym f.refuses.same) (record { tasks = paired.tasks; goes = inl (record { going = f.going; talking = f.refuses.but }) })));
}

-- A STEP OF A TASK'S END outside an EXECUTE, whatever session stands, while there is memory
pub refused_turns : (d t : Donor) (r : Reception) (n m : Network) (task number : ℕ) (answer : DonorStep) → IsPaired (own_session r.table.session d.cloning) r n → StepsDonor gives d t number n m answer → IsFree n number → connection_of n task ≡ Some number → IsReception r → IsCloning d.cloning → IfSome r.table.floor (λ kept. kept ≤ (moment_of d.engine).position) → ((info : StageInfo) → Tells t.cloning info → fits info.plan ≡ true) → answer ≢ Served NoMemory → IsPaired (own_session r.table.session t.cloning) r m ⊎ IsTurnedAway (own_session r.table.session t.cloning) r m
refused_turns d t r n m task number answer paired steps free has own cloning floor fit memory = by (donor_stands d t r n m task number answer paired steps free has (record { reception = own; cloning = cloning; floor = floor; fit = fit }) memory)
  where
    by : IsPaired (own_session r.table.session t.cloning) r m ⊎ IsRefused d t r n m number → IsPaired (own_session r.table.session t.cloning) r m ⊎ IsTurnedAway (own_session r.table.session t.cloning) r m
    by (inl stays) = inl stays
    by (inr f) = inr (turned_away d t r n m number paired f)
