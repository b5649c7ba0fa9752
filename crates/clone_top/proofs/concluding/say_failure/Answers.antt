use Rattle.std.proofs.Common.{refl, ap, codes}
use Rattle.clone_answers.specs.StepTexts.{end_text, garbled_text}
use Rattle.clone_events.specs.Events.{recipient_fault}
use Rattle.clone_tasks.specs.declared.end.CloneEnd.TheVariants as end
use Rattle.clone_top.specs.UnderLoad.{said}
use Rattle.clone_top.specs.declared.status.Status.TheVariants.{DonorFault, RecipientFault, RestartsSpent, Garbled, Refused, NotEmpty, CrewFault}
use Rattle.clone_top.proofs.concluding.say_failure.Goals as goal

pub returns-in-Thread : goal.returns-in-Thread
returns-in-Thread g c = said CrewFault (codes "crew fault") (c.in-Thread.is, refl) c.say.ensures

pub returns-in-DonorDisk : goal.returns-in-DonorDisk
returns-in-DonorDisk g c = said DonorFault (codes "donor disk fault") (c.in-DonorDisk.is, refl) c.say_unready.ensures

pub returns-in-RecipientDisk : goal.returns-in-RecipientDisk
returns-in-RecipientDisk g c = said RecipientFault recipient_fault (c.in-RecipientDisk.is, refl) c.say_unready-in-RecipientDisk.ensures

pub returns-in-NotEmpty : goal.returns-in-NotEmpty
returns-in-NotEmpty g c = said NotEmpty (codes "not empty") (c.in-NotEmpty.is, refl) c.say_unready-in-NotEmpty.ensures

pub returns-in-Garbled : goal.returns-in-Garbled
returns-in-Garbled g c = said Garbled (garbled_text c.deref.result.now) (c.in-Garbled.kept, c.in-Garbled.is, ap garbled_text c.deref.ensures.value) c.say_garbled.ensures

pub returns-in-Refused : goal.returns-in-Refused
returns-in-Refused g c = said Refused (end_text (end.Refused c.in-Refused.cause)) (c.in-Refused.cause, c.in-Refused.is, refl) c.say_end.ensures

pub returns-in-Spent : goal.returns-in-Spent
returns-in-Spent g c = said RestartsSpent (end_text (end.Spent c.in-Spent.losses)) (c.in-Spent.losses, c.in-Spent.is, refl) c.say_end-in-Spent.ensures
