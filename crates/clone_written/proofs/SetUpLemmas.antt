-- A donor that is set up: what stays as it was.
use Rattle.std.proofs.Common.{◌≡◌, ◌∙◌, ◌==◌, ℕ, Bool, true, false, List, [], ◌∷◌, Option, None, Some, Result, Ok, Err, if◌then◌else◌, option_map, refl, sym, ap, subst}
use Rattle.std.specs.List.{AllByRecursion}
use Rattle.std.proofs.lemmas.Bool.{true≢false}
use Rattle.clone_image.specs.Redone.{Standing, made}
use Rattle.clone_law.specs.Machine.{Idle, created, noted}
use Rattle.clone_pool.specs.Index.{is_name_of}
use Rattle.clone_pool.specs.declared.frame.PageName.{PageName}
use Rattle.clone_buffer.specs.OnePage.{Copies, after_create, no_copies}
use Rattle.clone_flush.specs.Calls.{after_begin}
use Rattle.clone_plain.specs.Donor as plain
use Rattle.clone_plain.specs.declared.call.EngineAnswer.{EngineAnswer}
use Rattle.clone_plain.specs.declared.call.EngineAnswer.TheVariants as answers
use Rattle.clone_plain.specs.declared.call.EngineCall.{EngineCall}
use Rattle.clone_plain.specs.declared.call.EngineCall.TheVariants as call
use Rattle.clone_plain.specs.declared.refusal.EngineRefusal.{EngineRefusal}
use Rattle.clone_session.specs.Cloning.{Session}
use Rattle.clone_calls.specs.declared.answer.DonorAnswer.TheVariants as given
use Rattle.clone_calls.specs.declared.call.DonorCall.TheVariants as asked
use Rattle.clone_engine.specs.Acts.{Act, Acts, Calls}
use Rattle.clone_engine.specs.Donor.{Donor, IsDonor}
use Rattle.clone_engine.specs.Serving.{taken_by}
use Rattle.clone_engine.specs.Steps.{has_begun}
use Rattle.clone_engine.specs.Taken.{IsTaken, nothing}
use Rattle.clone_sides.proofs.CallLemmas.{call_leaves}
use Rattle.clone_sides.specs.Facts.{kept}
use Rattle.clone_sides.specs.Trace.{Entry, Runs, end_of}
use Rattle.clone_writer.specs.Writing.{Leads}
use Rattle.clone_run.specs.Tables.{IsSetup, SetsUp, sets_up}
use Rattle.clone_written.proofs.MoveLemmas.{Stays, call_leads, stays_same}

-- ---- the plain donor

set_up_stays : (c : EngineCall) (answer : Result EngineAnswer EngineRefusal) (d t : plain.Donor) → sets_up c ≡ true → Leads d c answer t → Stays d t
set_up_stays c (Err refusal) d t up leads = leads
set_up_stays (call.Create table buckets) (Ok answers.Create) d t up is = (ap (λ (x : plain.Donor). x.active) is, ap (λ (x : plain.Donor). x.binlog) is)
set_up_stays (call.Create table buckets) (Ok did) d t up is = absurd is
set_up_stays (call.FlushBegin space page) (Ok answers.FlushBegin) d t up is = stays_same d t is
set_up_stays (call.FlushBegin space page) (Ok did) d t up is = absurd is
set_up_stays (call.FlushHalf space page) (Ok answers.FlushHalf) d t up is = stays_same d t is
set_up_stays (call.FlushHalf space page) (Ok did) d t up is = absurd is
set_up_stays (call.FlushLand space page) (Ok answers.FlushLand) d t up is = stays_same d t is
set_up_stays (call.FlushLand space page) (Ok did) d t up is = absurd is
set_up_stays call.Checkpoint (Ok (answers.Checkpoint lsn)) d t up is = stays_same d t is
set_up_stays call.Checkpoint (Ok did) d t up is = absurd is
set_up_stays c (Ok did) d t up is = absurd (true≢false (sym up))

-- ---- where nothing was taken nothing is

created_none : (table buckets : ℕ) → after_create table buckets no_copies ≡ no_copies
created_none table buckets = λ i space number. by (space == table) (made number buckets) i
  where
    by : (same : Bool) (v : Standing) → (if same then created v Idle else Idle) ≡ Idle
    by true v = refl
    by false v = refl

noted_none : (page : PageName) (begun : Bool) → after_begin page begun no_copies ≡ no_copies
noted_none page false = refl
noted_none page true = λ i space number. by (is_name_of page (Some (record { space = space; number = number }))) i
  where
    by : (same : Bool) → (if same then noted Idle else Idle) ≡ Idle
    by true = refl
    by false = refl

still_nothing : (c : EngineCall) (answer : Result EngineAnswer EngineRefusal) → taken_by c answer nothing ≡ nothing
still_nothing (call.Create table buckets) (Ok did) = ap (λ (copies : Copies). record nothing { copies = copies }) (created_none table buckets)
still_nothing (call.Create table buckets) (Err refusal) = refl
still_nothing (call.FlushBegin space page) answer = ap (λ (copies : Copies). record nothing { copies = copies }) (noted_none (record { space = space; number = page }) (has_begun answer))
still_nothing c answer = refl

-- ---- a donor that is set up

-- what stays as it was, where nothing was taken
pub record Keeps (d t : Donor) : Type 0 where
  pub donor : IsDonor d → IsDonor t
  pub taken : IsTaken d nothing → IsTaken t nothing
  pub session : d.cloning.session ≡ None → t.cloning.session ≡ None
  pub stop : t.cloning.stop ≡ d.cloning.stop
  pub plain : Stays d.engine.donor t.engine.donor

no_session : (o p : Option Session) → option_map kept p ≡ option_map kept o → o ≡ None → p ≡ None
no_session o None same none = refl
no_session o (Some s) same none = let wrong : Some (kept s) ≡ None = same ∙ ap (option_map kept) none in absurd cc

keeps_act : (act : Act) (d t : Donor) → IsSetup act → Acts act d t → Keeps d t
keeps_act (Calls (asked.Engine c) (given.Engine answer)) d t up acts =
    let leaves = (call_leaves d t c answer acts.does).leaves in
    record {
      donor = λ donor. acts.donor;
      taken = λ none. subst (IsTaken t) (still_nothing c answer) (acts.taken nothing none);
      session = no_session d.cloning.session t.cloning.session leaves.session;
      stop = leaves.stop;
      plain = set_up_stays c answer d.engine.donor t.engine.donor up (call_leads c d t answer acts.does);
    }
keeps_act act d t up acts = absurd up

keeps_run : (d : Donor) (run : List Entry) → Runs d run → AllByRecursion (λ (e : Entry). IsSetup e.act) run → Keeps d (end_of d run)
keeps_run d [] legal alone = record { donor = λ donor. donor; taken = λ none. none; session = λ none. none; stop = refl; plain = (refl, refl) }
keeps_run d (e ∷ run) legal alone =
    let first = keeps_act e.act d e.after alone.0 legal.0 in
    let later = keeps_run e.after run legal.1 alone.1 in
    record {
      donor = λ donor. later.donor (first.donor donor);
      taken = λ none. later.taken (first.taken none);
      session = λ none. later.session (first.session none);
      stop = later.stop ∙ first.stop;
      plain = (later.plain.0 ∙ first.plain.0, later.plain.1 ∙ first.plain.1);
    }

pub keeps : (d t : Donor) → SetsUp d t → Keeps d t
keeps d t is = subst (Keeps d) is.end (keeps_run d is.run is.legal is.alone)
