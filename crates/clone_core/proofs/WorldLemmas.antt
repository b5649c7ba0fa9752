-- A world in which nothing has happened, how far its clone has come, and the stop that is kept.
use Rattle.std.proofs.Common.{◌≡◌, ◌∙◌, ℕ, Bool, true, false, not, refl, sym, ap, subst, arith, Option, None, Some, is_none, nat_cmp}
use Rattle.std.specs.FinMap as finite
use Rattle.std.specs.Option.{option_or}
use Rattle.clone_outside.specs.Disk.{ForTold, blank}
use Rattle.clone_outside.specs.DiskCalls.{DiskState}
use Rattle.clone_script.specs.Given.{IsTerms}
use Rattle.clone_script.specs.declared.terms.Terms.{Terms}
use Rattle.std.specs.List.{AllByRecursion}
use Rattle.clone_follow.specs.Binlog.{IsShort}
use Rattle.clone_plain.specs.Donor.{Donor, no_donor}
use Rattle.clone_session.specs.declared.info.Stop as session
use Rattle.clone_tasks.specs.declared.end.CloneEnd as tasks
use Rattle.clone_engine.specs.Donor as staged
use Rattle.clone_engine.specs.Donor.{IsDonor}
use Rattle.clone_engine.specs.Taken.{IsTaken, nothing}
use Rattle.clone_sides.specs.Moment.{own_stop}
use Rattle.clone_joined.proofs.RunLemmas.{run_begins}
use Rattle.clone_events.specs.World.{HasEnded, Progress, absent, copying, over, no_replica}
use Rattle.clone_core.specs.declared.world.Course.TheVariants as course
use Rattle.clone_core.specs.declared.world.Ending.{Ending}
use Rattle.clone_core.specs.declared.world.TheConstants.{SESSION}
use Rattle.clone_core.specs.System.{System}
use Rattle.clone_core.specs.Copied.{Holds, progress_by, world_of}
use Rattle.clone_core.specs.Ending.{ending_by, is_copying, is_over}
use Rattle.clone_core.proofs.TalkLemmas.{no_session}

-- a donor and a recipient that have nothing to do with one another yet
abbrev pub untouched : staged.Donor → DiskState → Terms → System
untouched donor recipient terms = record {
  donor = donor;
  recipient = recipient;
  terms = terms;
  course = course.Absent;
  stop = None;
  looked = 0;
  alone = true;
  replica = no_replica;
}

pub new_holds : (donor : staged.Donor) (recipient : DiskState) (terms : Terms) (begun : finite.FinMap nat_cmp ℕ) → IsDonor donor → donor.engine.donor ≡ no_donor → IsTaken donor nothing → donor.cloning.session ≡ None → donor.cloning.stop ≡ None → ForTold recipient.told (λ m. m ≡ blank) → IsTerms terms
    → Holds (world_of (untouched donor recipient terms) begun false false false)
new_holds donor recipient terms begun is fresh taken session stop clear ranges =
    let unstopped = ap (own_stop SESSION) stop in
    record {
      terms = ranges;
      parts = tt;
      looked = omega arith;
      short = subst (λ (d : Donor). AllByRecursion IsShort d.binlog) (sym fresh) tt;
      unstopped = λ _. unstopped;
      sizes = tt;
      marked = tt;
      goes_on = λ _. run_begins SESSION donor (record { donor = is; taken = taken; session = session; stop = unstopped });
      talks = λ _ _. no_session (untouched donor recipient terms) session;
      steady = λ _. (refl, refl);
      keeps = record {
        blank_before = λ _. clear;
        commits = λ s none. absurd (cc);
        drops = λ s none. absurd (cc);
        holds = λ ended sure. absurd ended;
      };
    }

-- ---- how far a clone has come

pub copying_by : (how : Option tasks.CloneEnd) → is_copying (progress_by how) ≡ is_none how
copying_by None = refl
copying_by (Some how) = refl

pub over_by : (how : Option tasks.CloneEnd) → is_over (progress_by how) ≡ not (is_none how)
over_by None = refl
over_by (Some how) = refl

pub over_ended : (progress : Progress) → is_over progress ≡ true → HasEnded progress
over_ended absent is = let e : false ≡ true = is in cc
over_ended copying is = let e : false ≡ true = is in cc
over_ended (over how) is = tt

-- ---- the stop that is kept

pub kept_stop : (stop : session.Stop) (last : Option session.Stop) → option_or (Some stop) (own_stop SESSION last) ≡ Some stop
kept_stop stop last = refl

-- ---- how a clone ended

pub ended_by : (how : Option tasks.CloneEnd) (end : tasks.CloneEnd) (doubted : Bool) (told : Ending) → how ≡ Some end → ending_by (progress_by (Some end)) doubted ≡ told → told ≡ ending_by (progress_by how) doubted
ended_by how end doubted told is ends_so = sym (ap (λ (o : Option tasks.CloneEnd). ending_by (progress_by o) doubted) is ∙ ends_so)
