-- A donor that is set up call by call.
use Rattle.std.proofs.Common.{◌≡◌, ◌∙◌, List, [], ◌∷◌, ◌++◌, true, Result, Ok, Err, Some, IfErr, refl, ap, sym, subst}
use Rattle.std.specs.List.{AllByRecursion}
use Rattle.clone_calls.specs.declared.answer.DonorAnswer.TheVariants as given
use Rattle.clone_calls.specs.declared.call.DonorCall.TheVariants as asked
use Rattle.clone_engine.specs.Acts.{Calls, EngineActs}
use Rattle.clone_engine.specs.Donor.{Donor}
use Rattle.clone_plain.specs.declared.call.EngineAnswer.{EngineAnswer}
use Rattle.clone_plain.specs.declared.call.EngineCall.{EngineCall}
use Rattle.clone_plain.specs.declared.refusal.EngineRefusal.{EngineRefusal}
use Rattle.clone_engine.specs.Steps.{answer_of}
use Rattle.clone_sides.specs.Trace.{Entry, Runs, end_of}
use Rattle.clone_run.specs.declared.failure.Failure.{Failure}
use Rattle.clone_run.specs.Beginning.{IsRefused, StopsSetup, of_refusal}
use Rattle.clone_run.specs.Tables.{IsSetup, SetsUp, sets_up}

pub set_none : (d : Donor) → SetsUp d d
set_none d = record { run = []; legal = tt; end = refl; alone = tt }

runs_more : (d : Donor) (xs ys : List Entry) → Runs d xs → Runs (end_of d xs) ys → Runs d (xs ++ ys)
runs_more d [] ys a b = b
runs_more d (x ∷ xs) ys a b = (a.0, runs_more x.after xs ys a.1 b)

end_more : (d : Donor) (xs ys : List Entry) → end_of d (xs ++ ys) ≡ end_of (end_of d xs) ys
end_more d [] ys = refl
end_more d (x ∷ xs) ys = end_more x.after xs ys

all_more : (xs ys : List Entry) → AllByRecursion (λ (e : Entry). IsSetup e.act) xs → AllByRecursion (λ (e : Entry). IsSetup e.act) ys → AllByRecursion (λ (e : Entry). IsSetup e.act) (xs ++ ys)
all_more [] ys a b = b
all_more (x ∷ xs) ys a b = (a.0, all_more xs ys a.1 b)

pub set_more : (d t u : Donor) → SetsUp d t → SetsUp t u → SetsUp d u
set_more d t u a b = record {
  run = a.run ++ b.run;
  legal = runs_more d a.run b.run a.legal (subst (λ x. Runs x b.run) (sym a.end) b.legal);
  end = end_more d a.run b.run ∙ (ap (λ x. end_of x b.run) a.end ∙ b.end);
  alone = all_more a.run b.run a.alone b.alone;
}

pub set_one : (d t : Donor) (c : EngineCall) (result : Result EngineAnswer EngineRefusal) → sets_up c ≡ true → EngineActs c result d t → SetsUp d t
set_one d t c result is acts = record {
  run = record { act = Calls (asked.Engine c) (given.Engine result); after = t } ∷ [];
  legal = (acts, tt);
  end = refl;
  alone = (is, tt);
}

-- the first call is refused
pub refused_one : (d t : Donor) (c : EngineCall) (why : EngineRefusal) → EngineActs c (Err why) d t → IsRefused why d t
refused_one d t c why acts = record { before = d; asked = c; sets_up = set_none d; refused = acts }

-- ... after others
pub refused_more : (d u t : Donor) (why : EngineRefusal) → SetsUp d u → IsRefused why u t → IsRefused why d t
refused_more d u t why first is = record { before = is.before; asked = is.asked; sets_up = set_more d u is.before first is.sets_up; refused = is.refused }

pub stops_by : (d t : Donor) (why : EngineRefusal) (failure : Failure) → IsRefused why d t → of_refusal why ≡ Some failure → StopsSetup failure d t
stops_by d t why failure refused is = record { why = why; refused = refused; is = is }

pub stops_more : (d u t : Donor) (failure : Failure) → SetsUp d u → StopsSetup failure u t → StopsSetup failure d t
stops_more d u t failure first stops = record { why = stops.why; refused = refused_more d u t stops.why first stops.refused; is = stops.is }

-- the last call, which may be refused
pub refused_last : {X : Type 0} (d u t : Donor) (c : EngineCall) (result : Result X EngineRefusal) (did : X → EngineAnswer) → SetsUp d u → EngineActs c (answer_of did result) u t → IfErr result (λ why. IsRefused why d t)
refused_last d u t c (Ok x) did first acts = tt
refused_last d u t c (Err e) did first acts = refused_more d u t e first (refused_one u t c e acts)

pub stops_later : {X : Type 0} (d u t : Donor) (made : Result X Failure) → SetsUp d u → IfErr made (λ failure. StopsSetup failure u t) → IfErr made (λ failure. StopsSetup failure d t)
stops_later d u t (Ok x) first stops = tt
stops_later d u t (Err failure) first stops = stops_more d u t failure first stops
