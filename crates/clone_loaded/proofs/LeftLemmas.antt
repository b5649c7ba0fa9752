-- What is left of a run by what its donor was at the end of its run.
use Rattle.std.proofs.Common.{◌≡◌, ◌∙◌, ◌≤◌, ℕ, arith, List, [], ◌∷◌, None, Some, IsSome, is_some, refl, ap, sym, subst}
use Rattle.std.specs.List.{AllByRecursion}
use Rattle.std.specs.declared.option.Option.{Option}
use Rattle.clone_outside.specs.Causes.{Rose}
use Rattle.clone_session.specs.Cloning.{Session}
use Rattle.clone_calls.specs.declared.answer.DonorAnswer.{DonorAnswer}
use Rattle.clone_calls.specs.declared.call.DonorCall.{DonorCall}
use Rattle.clone_calls.specs.declared.call.DonorCall.TheVariants as asked
use Rattle.clone_engine.specs.Acts.{Act, Acts, Calls, CloneActs, Orders}
use Rattle.clone_engine.specs.Donor.{Donor}
use Rattle.clone_joined.specs.Lending.{IsOfClone, Lends}
use Rattle.clone_sides.specs.Trace.{Entry, Runs, end_of}
use Rattle.clone_run.specs.Ran.{GivenUp}
use Rattle.clone_run.specs.Tables.{IsSetup, SetsUp}

-- the plain donor is left as it was
pub donor_left : (session : Option Session) (d t : Donor) → GivenUp session d t → ((d t : Donor) (asked : DonorCall) (given : DonorAnswer) → IsOfClone asked → CloneActs asked given d t → Lends d t) → t.engine.donor ≡ d.engine.donor
donor_left None d t is acted = ap (λ (x : Donor). x.engine.donor) is
donor_left (Some session) d t gone acted = (acted d t (asked.Abandon session.number) gone.0 tt gone.1).donor

-- whether the disk tells what it holds isn't changed by a run
still_told : (d : Donor) (trace : List Entry) → Runs d trace → ((d t : Donor) (act : Act) → Acts act d t → is_some t.engine.disk.told ≡ is_some d.engine.disk.told) → is_some (end_of d trace).engine.disk.told ≡ is_some d.engine.disk.told
still_told d [] runs same = refl
still_told d (e ∷ trace) runs same = still_told e.after trace runs.1 same ∙ same d e.after e.act runs.0

some_is : {X : Type 0} (a b : Option X) → is_some b ≡ is_some a → IsSome a → IsSome b
some_is a b is some = is ∙ some

pub told_then : (d t : Donor) → SetsUp d t → ((d t : Donor) (act : Act) → Acts act d t → is_some t.engine.disk.told ≡ is_some d.engine.disk.told) → IsSome d.engine.disk.told → IsSome t.engine.disk.told
told_then d t set same some = some_is d.engine.disk.told t.engine.disk.told (ap (λ (x : Donor). is_some x.engine.disk.told) (sym set.end) ∙ still_told d set.run set.legal same) some

-- ---- counts of faults

-- calls let the count rise or stay
abbrev Later : Type 0
Later = (d t : Donor) (asked : DonorCall) (given : DonorAnswer) → Acts (Calls asked given) d t → d.engine.disk.failures ≤ t.engine.disk.failures

later_by : (d t : Donor) (act : Act) → IsSetup act → Acts act d t → Later → d.engine.disk.failures ≤ t.engine.disk.failures
later_by d t (Calls asked given) is acts later = later d t asked given acts
later_by d t Orders is acts later = absurd is

later_on : (d : Donor) (trace : List Entry) → Runs d trace → AllByRecursion (λ (e : Entry). IsSetup e.act) trace → Later → d.engine.disk.failures ≤ (end_of d trace).engine.disk.failures
later_on d [] runs alone later = omega arith
later_on d (e ∷ trace) runs alone later = omega (arith, later_by d e.after e.act alone.0 runs.0 later, later_on e.after trace runs.1 alone.1 later)

pub set_up_later : (d t : Donor) → SetsUp d t → Later → d.engine.disk.failures ≤ t.engine.disk.failures
set_up_later d t set later = subst (λ (x : Donor). d.engine.disk.failures ≤ x.engine.disk.failures) set.end (later_on d set.run set.legal set.alone later)

pub left_later : (session : Option Session) (d t : Donor) → GivenUp session d t → Later → d.engine.disk.failures ≤ t.engine.disk.failures
left_later None d t is later = subst (λ (x : Donor). d.engine.disk.failures ≤ x.engine.disk.failures) (sym is) (omega arith)
left_later (Some session) d t gone later = later d t (asked.Abandon session.number) gone.0 gone.1

pub rose_between : (a b c d : ℕ) → a ≤ b → Rose b c → c ≤ d → Rose a d
rose_between a b c d low rose high = omega (arith, low, rose, high)
