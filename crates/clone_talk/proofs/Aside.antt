-- What a donor does for others lets a clone talk on.
use Rattle.std.proofs.Common.{◌≡◌, Bool, true, false, IsSome, Option, refl, sym, subst}
use Rattle.std.proofs.lemmas.Bool.{both_ways}
use Rattle.clone_session.specs.Cloning.{Session}
use Rattle.clone_recipient.specs.Receptions.{Reception}
use Rattle.clone_network.specs.Connections.{Connection, StepsEnd, is_open}
use Rattle.clone_network.specs.Networks.{Network}
use Rattle.clone_network.specs.declared.donor_step.DonorStep.{DonorStep}
use Rattle.clone_engine.specs.Acts.{Act, Acts}
use Rattle.clone_engine.specs.Donor.{Donor, IsDonor}
use Rattle.clone_told.specs.Told.{gives}
use Rattle.clone_joined.specs.Strangers.{acts_in}
use Rattle.clone_paired.specs.Order.{CopiesInOrder}
use Rattle.clone_paired.specs.Own.{ActsAside, own_session}
use Rattle.clone_paired.specs.Strangers.{IsBetween, ServesOther}
use Rattle.clone_paired.proofs.DonorOthers.{act_own}
use Rattle.clone_paired.proofs.DonorPremisesKept.{act_ordered}
use Rattle.clone_paired.proofs.StrangerLeaves.{stranger_leaves}
use Rattle.clone_talk.specs.Talking.{IsServer, Stand, StaysAlone, Talks, paired, turned_away}
use Rattle.clone_talk.proofs.Over.{IsWithin, act_within, end_ordered, end_within}

module _ (alone later : Bool) (d t : Donor) (r : Reception) (n : Network) (talks : Talks alone d r n) (keeps : later ≡ true → (alone ≡ true) × StaysAlone r t) where
  -- where another session has stood, one has
  has_stood : alone ≡ false → later ≡ false
  has_stood off = by later refl
    where
      by : (b : Bool) → later ≡ b → later ≡ false
      by true on = absurd (both_ways alone off (keeps on).0)
      by false is = is

  stand_later : (session : Option Session) → Stand alone session r n → Stand later session r n
  stand_later session (paired p) = paired p
  stand_later session (turned_away off w) = turned_away (has_stood off) w

  -- WHAT LEAVES the session, the order and the floor
  talks_later : own_session r.table.session t.cloning ≡ own_session r.table.session d.cloning → CopiesInOrder t.cloning.session → IsWithin r.table.floor t → Talks later t r n
  talks_later same order floor = record {
    reception = talks.reception;
    order = order;
    stays = λ on. (keeps on).1;
    floor = floor;
    stand = stand_later (own_session r.table.session t.cloning) (subst (λ (o : Option Session). Stand alone o r n) (sym same) talks.stand);
  }

  pub act_talks : IsDonor d → IsSome d.engine.disk.told → (act : Act) → Acts act d t → ActsAside r.table.session act → Talks later t r n
  act_talks is told act acts leaves =
      talks_later (act_own r.table.session d t act acts leaves) (act_ordered d t is told talks.order act acts) (act_within r.table.floor d t act acts talks.floor)

  pub stranger_talks : IsServer d → (at after : Connection) (says : DonorStep) → StepsEnd gives d t at after says → acts_in r.table.session d t at says ≡ false → is_open at ≡ true → IsBetween at.doing → ServesOther r.table.session at.doing → Talks later t r n
  stranger_talks is at after says e none live between serves =
      talks_later (stranger_leaves r.table.session d t at after says e none live between serves).0 (end_ordered d t at after says is.donor is.told talks.order e) (end_within r.table.floor d t at after says e talks.floor)
