-- What happens to a clone leaves the plain donor as it is.
use Rattle.std.proofs.Common.{◌≡◌, ◌∙◌, ℕ, Bool, true, false, List, Option, None, Some, Ok, MatchOption, ap, slice_get}
use Rattle.clone_script.specs.declared.lines.Line.{Line}
use Rattle.clone_script.specs.declared.lines.Line.TheVariants as lines
use Rattle.clone_calls.specs.declared.answer.DonorAnswer.TheVariants as given
use Rattle.clone_calls.specs.declared.call.DonorCall.TheVariants as call
use Rattle.clone_plain.specs.Answers.{Text}
use Rattle.clone_session.specs.Cloning.{Session}
use Rattle.clone_serve.specs.declared.turn.ServeAnswer.TheVariants as served
use Rattle.clone_network.specs.Connections.{Connection, StepsBy, is_open}
use Rattle.clone_network.specs.Networks.{Network, StepsDonor, with_connection}
use Rattle.clone_network.specs.declared.donor_step.DonorStep.{DonorStep}
use Rattle.clone_network.specs.declared.donor_step.DonorStep.TheVariants as step
use Rattle.clone_engine.specs.Donor as staged
use Rattle.clone_told.specs.Told.{gives}
use Rattle.clone_joined.proofs.LendingLemmas.{act_lends, end_lends}
use Rattle.clone_events.specs.Events.{Change, Event, acts, started, unbegun, occupied, again, showed, opened_follower, sent, taken, lost, set_to_lose, repeated}
use Rattle.clone_core.specs.declared.world.Course.{Course}
use Rattle.clone_core.specs.declared.world.Course.TheVariants as course
use Rattle.clone_core.specs.declared.world.Copying.{Copying}
use Rattle.clone_core.specs.Acting.{Abandons, ActsCut, ActsDonor, ActsFeed, ActsStep, ActsTask, OnCopying, ServesStranger, goes_on, last, with_stranger}
use Rattle.clone_core.specs.Steps.{SystemStep}
use Rattle.clone_core.specs.System.{System, donor_of}

-- an event of a clone, of which the plain donor knows nothing
abbrev pub IsOfClone : Event → Type 0
IsOfClone (acts by changes answer) = Unit {0}
IsOfClone (started alone) = Unit {0}
IsOfClone unbegun = Unit {0}
IsOfClone occupied = Unit {0}
IsOfClone (again wish answer) = Unit {0}
IsOfClone (showed rows) = Unit {0}
IsOfClone (opened_follower rows position) = Unit {0}
IsOfClone (sent want frame) = Unit {0}
IsOfClone (taken frame result) = Unit {0}
IsOfClone (lost position) = Unit {0}
IsOfClone set_to_lose = Unit {0}
IsOfClone (repeated number frame result) = Unit {0}
IsOfClone event = ⊥

-- ---- a step of the donor, over a connection that is there or isn't, and is open or isn't

by_keeps : (d t : staged.Donor) (at after : Connection) (says : DonorStep) (opens : Bool) → StepsBy opens gives d t at after says → t.engine.donor ≡ d.engine.donor
by_keeps d t at after says true steps = (end_lends d t at after says steps).donor
by_keeps d t at after says false rests = ap (λ (x : staged.Donor). x.engine.donor) rests.donor

found_keeps : (d t : staged.Donor) (n m : Network) (connection : ℕ) (says : DonorStep) (found : Option Connection)
    → MatchOption found ((t ≡ d) × (m ≡ n) × (says ≡ step.Served served.Idle)) (λ (at : Connection). (after : Connection) × StepsBy (is_open at) gives d t at after says × (m ≡ with_connection connection after n)) → t.engine.donor ≡ d.engine.donor
found_keeps d t n m connection says None steps = ap (λ (x : staged.Donor). x.engine.donor) steps.0
found_keeps d t n m connection says (Some at) (after, steps, is) = by_keeps d t at after says (is_open at) steps

donor_keeps : (d t : staged.Donor) (n m : Network) (connection : ℕ) (says : DonorStep) → StepsDonor gives d t connection n m says → t.engine.donor ≡ d.engine.donor
donor_keeps d t n m connection says steps = found_keeps d t n m connection says (slice_get n.connections connection) steps

-- ---- what is asked of a connection, or of the session

-- where no clone is under way, nothing changes
copying_keeps : (Does : Copying → System → System → List Change → Text → Type 0) (c : Course) (s t : System) (changes : List Change) (answer : Text) → ((k : Copying) → Does k s t changes answer → donor_of t ≡ donor_of s) → OnCopying Does c s t changes answer → donor_of t ≡ donor_of s
copying_keeps Does (course.Begun k) s t changes answer keeps does = keeps k does
copying_keeps Does course.Absent s t changes answer keeps rests = ap donor_of rests.same
copying_keeps Does course.Unbegun s t changes answer keeps rests = ap donor_of rests.same

stranger_keeps : (at : Connection) (s t : System) (changes : List Change) (how : DonorStep) → ServesStranger at s t changes how → donor_of t ≡ donor_of s
stranger_keeps _ _ _ _ _ (last at after s t donor says steps ended is) = ap donor_of is ∙ (end_lends s.donor donor at after says steps).donor
stranger_keeps _ _ _ _ _ (goes_on at after s t donor says how rest steps is_on serves) = stranger_keeps after (with_stranger donor s) t rest how serves ∙ (end_lends s.donor donor at after says steps).donor

abandon_keeps : (standing : Option Session) (s t : System) (changes : List Change) (answer : Text) → Abandons standing s t changes answer → donor_of t ≡ donor_of s
abandon_keeps None s t changes answer is = ap donor_of is.0
abandon_keeps (Some session) s t changes answer (donor, calls, is, changed, says) = ap donor_of is ∙ (act_lends s.donor donor (call.Abandon session.number) (given.Abandon (Ok tt)) tt calls).donor

pub acts_keep : (line : Line) (s t : System) (changes : List Change) (answer : Text) → ActsStep line s t changes answer → donor_of t ≡ donor_of s
acts_keep (lines.Task number) s t changes answer is = copying_keeps (ActsTask number) s.course s t changes answer (λ k does. ap donor_of does.is) is
acts_keep (lines.Serve connection) s t changes answer is =
    copying_keeps (ActsDonor connection) s.course s t changes answer (λ k does. ap donor_of does.is ∙ donor_keeps s.donor does.donor k.network does.network connection does.says does.steps) is
acts_keep (lines.Cut connection to_donor to_task) s t changes answer is = copying_keeps (ActsCut connection to_donor to_task) s.course s t changes answer (λ k does. ap donor_of does.is) is
acts_keep (lines.Feed connection bytes) s t changes answer is = copying_keeps (ActsFeed connection bytes) s.course s t changes answer (λ k does. ap donor_of does.is) is
acts_keep (lines.Raw bytes) s t changes answer is = stranger_keeps _ s t changes is.how is.serves
acts_keep lines.Abandon s t changes answer is = abandon_keeps s.donor.cloning.session s t changes answer is
acts_keep lines.Status s t changes answer is = ap donor_of is.same
acts_keep line s t changes answer is = absurd is

-- ---- each event of a clone

pub clone_keeps : (e : Event) (s t : System) → IsOfClone e → SystemStep s e t → donor_of t ≡ donor_of s
clone_keeps (acts by changes answer) s t of is = acts_keep by s t changes answer is
clone_keeps (started alone) s t of is = ap donor_of is.is
clone_keeps unbegun s t of is = ap donor_of is.is
clone_keeps occupied s t of is = ap donor_of is.others
clone_keeps (again wish answer) s t of is = ap donor_of is
clone_keeps (showed rows) s t of is = ap donor_of is.is
clone_keeps (opened_follower rows position) s t of is = ap donor_of is
clone_keeps (sent want frame) s t of is = ap donor_of is
clone_keeps (taken frame result) s t of is = ap donor_of is
clone_keeps (lost position) s t of is = ap donor_of is
clone_keeps set_to_lose s t of is = ap donor_of is
clone_keeps (repeated number frame result) s t of is = ap donor_of is
clone_keeps e s t of is = absurd of
