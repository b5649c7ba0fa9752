-- What stays over a step of a donor's end, and over an act: the order of what is copied, and the floor.
use Rattle.std.proofs.Common.{ℕ, ◌≡◌, ◌∙◌, ◌≤◌, List, [], ◌∷◌, Bool, true, false, Option, None, Some, IsSome, length, refl, sym, ap, subst, arith, length-append}
use Rattle.std.specs.Prelude.{IfSome, MatchOption, slice_get}
use Rattle.clone_model.specs.declared.change.Commit.{Commit}
use Rattle.clone_plain.specs.Donor.{Donor as Plain}
use Rattle.clone_serve.specs.Stepping.{GivesAll}
use Rattle.clone_serve.specs.Telling.{Exchange}
use Rattle.clone_serve.specs.declared.turn.ServeAnswer.TheVariants as says
use Rattle.clone_network.specs.Connections.{Connection, StepsBy, StepsEnd, is_open}
use Rattle.clone_network.specs.Networks.{Network, StepsDonor, with_connection}
use Rattle.clone_network.specs.declared.donor_step.DonorStep.{DonorStep}
use Rattle.clone_network.specs.declared.donor_step.DonorStep.TheVariants.{Served}
use Rattle.clone_engine.specs.Acts.{Act, Acts, Calls}
use Rattle.clone_engine.specs.Copying.{moment_of}
use Rattle.clone_engine.specs.Donor.{Donor, IsDonor}
use Rattle.clone_told.specs.Told.{gives}
use Rattle.clone_sides.proofs.WayLemmas.{went}
use Rattle.clone_joined.proofs.LendingLemmas.{act_tells, end_lends}
use Rattle.clone_paired.specs.Order.{CopiesInOrder}
use Rattle.clone_paired.proofs.DonorPremisesKept.{act_ordered}

-- ---- a step on a connection is one of its end, or leaves the donor

pub over_step : (P : Donor → Type 0) (d t : Donor) (n m : Network) (number : ℕ) (answer : DonorStep) → P d → ((at after : Connection) → slice_get n.connections number ≡ Some at → is_open at ≡ true → StepsEnd gives d t at after answer → P t) → StepsDonor gives d t number n m answer → P t
over_step P d t n m number answer before ends = by (slice_get n.connections number) refl
  where
    at_end : (at after : Connection) → slice_get n.connections number ≡ Some at → (b : Bool) → is_open at ≡ b → StepsBy b gives d t at after answer → P t
    at_end at after there true live e = ends at after there live e
    at_end at after there false live rests = subst P (sym rests.donor) before

    by : (o : Option Connection) → slice_get n.connections number ≡ o → MatchOption o ((t ≡ d) × (m ≡ n) × (answer ≡ Served says.Idle)) (λ (at : Connection). (after : Connection) × StepsBy (is_open at) gives d t at after answer × (m ≡ with_connection number after n)) → P t
    by None there rests = subst P (sym rests.0) before
    by (Some at) there (after, e, rest) = at_end at after there (is_open at) refl e

-- ---- the order

all_ordered : (exchanges : List Exchange) (d t : Donor) → IsDonor d → IsSome d.engine.disk.told → CopiesInOrder d.cloning.session → GivesAll gives d exchanges t → CopiesInOrder t.cloning.session
all_ordered [] d t is told order same = subst (λ (u : Donor). CopiesInOrder u.cloning.session) (sym same) order
all_ordered (x ∷ xs) d t is told order (mid, acts, rest) =
    all_ordered xs mid t acts.donor (act_tells d mid (Calls x.0 x.1) acts ∙ told) (act_ordered d mid is told order (Calls x.0 x.1) acts) rest

pub end_ordered : (d t : Donor) (at after : Connection) (answer : DonorStep) → IsDonor d → IsSome d.engine.disk.told → CopiesInOrder d.cloning.session → StepsEnd gives d t at after answer → CopiesInOrder t.cloning.session
end_ordered d t at after answer is told order e = all_ordered e.serves.steps.exchanges d t is told order e.serves.steps.answers

-- ---- the floor

-- it isn't past the donor's position
abbrev pub IsWithin : Option ℕ → Donor → Type 0
IsWithin floor d = IfSome floor (λ kept. kept ≤ (moment_of d.engine).position)

reach : (kept a b : ℕ) → a ≤ b → kept ≤ a → kept ≤ b
reach kept a b more is = omega (arith, more, is)

further : (floor : Option ℕ) (d t : Donor) → length d.engine.donor.binlog ≤ length t.engine.donor.binlog → IsWithin floor d → IsWithin floor t
further None d t more is = tt
further (Some kept) d t more is = reach kept (length d.engine.donor.binlog) (length t.engine.donor.binlog) more is

pub end_within : (floor : Option ℕ) (d t : Donor) (at after : Connection) (answer : DonorStep) → StepsEnd gives d t at after answer → IsWithin floor d → IsWithin floor t
end_within floor d t at after answer e = further floor d t (let same : length t.engine.donor.binlog ≡ length d.engine.donor.binlog = ap (λ (x : Plain). length x.binlog) (end_lends d t at after answer e).donor in omega (arith, same))

pub act_within : (floor : Option ℕ) (d t : Donor) (act : Act) → Acts act d t → IsWithin floor d → IsWithin floor t
act_within floor d t act acts =
    let more = (went d t act acts.does).lengthens in
    further floor d t (omega (arith, ap (length {A = Commit}) more.binlog, length-append d.engine.donor.binlog more.commits))
