-- WHAT A LINE LEAVES that asks something of a connection or of the session: the plain donor, and
-- what its disk holds; and no order comes to either disk.
use Rattle.std.proofs.Common.{◌≡◌, ◌∙◌, ℕ, List, Bool, true, false, refl, sym, ap, subst, arith, Option, Some, None, is_some, MatchOption, slice_get}
use Rattle.clone_outside.specs.DiskCalls.{DiskState}
use Rattle.clone_script.specs.declared.lines.Line.{Line}
use Rattle.clone_script.specs.declared.lines.Line.TheVariants as lines
use Rattle.clone_plain.specs.Answers.{Text}
use Rattle.clone_calls.specs.declared.call.DonorCall.TheVariants as ask
use Rattle.clone_serve.specs.declared.turn.ServeAnswer.TheVariants as served
use Rattle.clone_session.specs.Cloning.{Session}
use Rattle.clone_network.specs.Connections.{Connection, StepsBy, is_open}
use Rattle.clone_network.specs.Networks.{Network, StepsDonor, with_connection}
use Rattle.clone_network.specs.declared.donor_step.DonorStep.{DonorStep}
use Rattle.clone_network.specs.declared.donor_step.DonorStep.TheVariants as step
use Rattle.clone_engine.specs.Disks.{Visits}
use Rattle.clone_engine.specs.Donor.{Donor}
use Rattle.clone_told.specs.Told.{gives}
use Rattle.clone_joined.specs.Lending.{Lends}
use Rattle.clone_joined.proofs.LendingLemmas.{act_lends, end_lends}
use Rattle.clone_events.specs.Events.{Change}
use Rattle.clone_core.specs.declared.world.Copying.{Copying}
use Rattle.clone_core.specs.declared.world.Course.{Course}
use Rattle.clone_core.specs.declared.world.Course.TheVariants as course
use Rattle.clone_core.specs.System.{System}
use Rattle.clone_core.specs.Acting.{Abandons, ActsCut, ActsDonor, ActsFeed, ActsStep, ActsTask, OnCopying, ServesStranger, last, goes_on, with_donor, with_stranger}

-- a disk that stays is visited
pub same_visits : (s t : DiskState) → t ≡ s → Visits s t
same_visits s t is = record {
  later = omega (arith, ap (λ (d : DiskState). d.failures) is);
  orders = ap (λ (d : DiskState). d.orders) is;
  tells = ap (λ (d : DiskState). is_some d.told) is;
}

visits_then : (r s t : DiskState) → Visits r s → Visits s t → Visits r t
visits_then r s t first second = record {
  later = omega (arith, first.later, second.later);
  orders = second.orders ∙ first.orders;
  tells = second.tells ∙ first.tells;
}

pub lends_same : (d t : Donor) → t ≡ d → Lends d t
lends_same d t is = record {
  donor = ap (λ (x : Donor). x.engine.donor) is;
  told = ap (λ (x : Donor). x.engine.disk.told) is;
  disk = same_visits d.engine.disk t.engine.disk (ap (λ (x : Donor). x.engine.disk) is);
}

-- what is left of a donor and a recipient
pub record Leaves (s t : System) : Type 0 where
  pub lends : Lends s.donor t.donor
  pub recipient : Visits s.recipient t.recipient

leaves_as : (s t u : System) → t ≡ u → Leaves s u → Leaves s t
leaves_as s t u is leaves = subst (Leaves s) (sym is) leaves

leaves_itself : (s : System) → Leaves s s
leaves_itself s = record { lends = lends_same s.donor s.donor refl; recipient = same_visits s.recipient s.recipient refl }

leaves_same : (s t : System) → t ≡ s → Leaves s t
leaves_same s t is = leaves_as s t s is (leaves_itself s)

leaves_then : (r s t : System) → Leaves r s → Leaves s t → Leaves r t
leaves_then r s t first second = record {
  lends = record {
    donor = second.lends.donor ∙ first.lends.donor;
    told = second.lends.told ∙ first.lends.told;
    disk = visits_then r.donor.engine.disk s.donor.engine.disk t.donor.engine.disk first.lends.disk second.lends.disk;
  };
  recipient = visits_then r.recipient s.recipient t.recipient first.recipient second.recipient;
}

-- the donor alone has become another
donor_leaves : (s : System) (d : Donor) → Lends s.donor d → Leaves s (with_donor d s)
donor_leaves s d lends = record { lends = lends; recipient = same_visits s.recipient s.recipient refl }

once_leaves : (s : System) (d : Donor) → Lends s.donor d → Leaves s (with_stranger d s)
once_leaves s d lends = record { lends = lends; recipient = same_visits s.recipient s.recipient refl }

-- ---- steps over the connections of the tasks

on_leave : (Does : Copying → System → System → List Change → Text → Type 0) (way : Course) (s t : System) (changes : List Change) (answer : Text) → ((c : Copying) → Does c s t changes answer → Leaves s t) → OnCopying Does way s t changes answer → Leaves s t
on_leave Does (course.Begun c) s t changes answer leave is = leave c is
on_leave Does course.Absent s t changes answer leave is = leaves_same s t is.same
on_leave Does course.Unbegun s t changes answer leave is = leaves_same s t is.same

task_leaves : (number : ℕ) (s t : System) (changes : List Change) (answer : Text) (c : Copying) → ActsTask number c s t changes answer → Leaves s t
task_leaves number s t changes answer c is = leaves_as s t _ is.is (record {
  lends = lends_same s.donor s.donor refl;
  recipient = record { later = is.works.later; orders = is.works.orders; tells = is.works.tells };
})

by_lends : (loops : Bool) (d t : Donor) (at after : Connection) (says : DonorStep) → StepsBy loops gives d t at after says → Lends d t
by_lends true d t at after says steps = end_lends d t at after says steps
by_lends false d t at after says rests = lends_same d t rests.donor

pub step_lends : (d t : Donor) (connection : ℕ) (n m : Network) (says : DonorStep) → StepsDonor gives d t connection n m says → Lends d t
step_lends d t connection n m says is = by (slice_get n.connections connection) is
  where
    by : (o : Option Connection) → MatchOption o ((t ≡ d) × (m ≡ n) × (says ≡ step.Served served.Idle)) (λ (at : Connection). (after : Connection) × StepsBy (is_open at) gives d t at after says × (m ≡ with_connection connection after n)) → Lends d t
    by None rests = lends_same d t rests.0
    by (Some at) (after, steps, rest) = by_lends (is_open at) d t at after says steps

served_leaves : (connection : ℕ) (s t : System) (changes : List Change) (answer : Text) (c : Copying) → ActsDonor connection c s t changes answer → Leaves s t
served_leaves connection s t changes answer c is =
    leaves_as s t _ is.is (record { lends = step_lends s.donor is.donor connection c.network is.network is.says is.steps; recipient = same_visits s.recipient s.recipient refl })

cut_leaves : (connection to_donor to_task : ℕ) (s t : System) (changes : List Change) (answer : Text) (c : Copying) → ActsCut connection to_donor to_task c s t changes answer → Leaves s t
cut_leaves connection to_donor to_task s t changes answer c is = leaves_as s t _ is.is (record { lends = lends_same s.donor s.donor refl; recipient = same_visits s.recipient s.recipient refl })

feed_leaves : (connection : ℕ) (bytes : List ℕ) (s t : System) (changes : List Change) (answer : Text) (c : Copying) → ActsFeed connection bytes c s t changes answer → Leaves s t
feed_leaves connection bytes s t changes answer c is = leaves_as s t _ is.is (record { lends = lends_same s.donor s.donor refl; recipient = same_visits s.recipient s.recipient refl })

-- ---- others than the tasks

pub stranger_leaves : (at : Connection) (s t : System) (changes : List Change) (how : DonorStep) → ServesStranger at s t changes how → Leaves s t
stranger_leaves at s t changes how (last _ after _ _ donor says steps shut is) = leaves_as s t _ is (once_leaves s donor (end_lends s.donor donor at after says steps))
stranger_leaves at s t changes how (goes_on _ after _ _ donor says later rest steps loops more) =
    leaves_then s (with_stranger donor s) t (once_leaves s donor (end_lends s.donor donor at after says steps)) (stranger_leaves after (with_stranger donor s) t rest later more)

abandon_leaves : (o : Option Session) (s t : System) (changes : List Change) (answer : Text) → Abandons o s t changes answer → Leaves s t
abandon_leaves None s t changes answer is = leaves_same s t is.0
abandon_leaves (Some standing) s t changes answer (donor, does, is, changed, says) =
    leaves_as s t _ is (donor_leaves s donor (act_lends s.donor donor (ask.Abandon standing.number) _ tt does))

-- ALL OF THEM
pub acts_leave : (by : Line) (s t : System) (changes : List Change) (answer : Text) → ActsStep by s t changes answer → Leaves s t
acts_leave (lines.Task number) s t changes answer is = on_leave (ActsTask number) s.course s t changes answer (task_leaves number s t changes answer) is
acts_leave (lines.Serve connection) s t changes answer is = on_leave (ActsDonor connection) s.course s t changes answer (served_leaves connection s t changes answer) is
acts_leave (lines.Cut connection to_donor to_task) s t changes answer is = on_leave (ActsCut connection to_donor to_task) s.course s t changes answer (cut_leaves connection to_donor to_task s t changes answer) is
acts_leave (lines.Feed connection bytes) s t changes answer is = on_leave (ActsFeed connection bytes) s.course s t changes answer (feed_leaves connection bytes s t changes answer) is
acts_leave (lines.Raw bytes) s t changes answer is = stranger_leaves _ s t changes is.how is.serves
acts_leave lines.Abandon s t changes answer is = abandon_leaves s.donor.cloning.session s t changes answer is
acts_leave lines.Status s t changes answer is = leaves_same s t is.same
acts_leave line s t changes answer is = absurd is
