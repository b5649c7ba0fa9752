-- WHAT HOLDS OF A WORLD stays over a call of the engine, an archiving and an order to the donor's
-- disk: the history grows, and the session and its stop stay.
use Rattle.std.proofs.Common.{◌≡◌, ◌∙◌, ◌&&◌, ℕ, List, [], ◌∷◌, ◌++◌, append-nil, length, Bool, refl, ap, subst, Option, Some, None, is_some, Result, Ok, Err, nat_cmp, true, sym}
use Rattle.std.specs.FinMap as finite
use Rattle.std.specs.List.{AllByRecursion, range_with_len}
use Rattle.std.specs.Option.{option_or}
use Rattle.clone_calls.specs.declared.answer.DonorAnswer.TheVariants as gives
use Rattle.clone_calls.specs.declared.call.DonorCall.TheVariants as ask
use Rattle.clone_plain.specs.declared.refusal.EngineRefusal.{EngineRefusal}
use Rattle.clone_plain.specs.declared.refusal.EngineRefusal.TheVariants.{Because, NoMemory}
use Rattle.clone_follow.specs.Binlog.{IsShort}
use Rattle.clone_model.specs.declared.change.Commit.{Commit}
use Rattle.clone_plain.specs.Calls.{PlainStep}
use Rattle.clone_plain.specs.Donor.{Donor}
use Rattle.clone_plain.specs.declared.call.EngineAnswer.TheVariants as answers
use Rattle.clone_plain.specs.declared.call.EngineCall.TheVariants as call
use Rattle.clone_plain.specs.declared.refusal.Cause.{Cause}
use Rattle.clone_plain.specs.declared.call.EngineAnswer.{EngineAnswer}
use Rattle.clone_plain.specs.declared.call.EngineCall.{EngineCall}
use Rattle.clone_session.specs.declared.info.Stop as session
use Rattle.clone_engine.specs.Acts as act
use Rattle.clone_engine.specs.Acts.{Act, Acts, Does}
use Rattle.clone_engine.specs.Donor as staged
use Rattle.clone_engine.specs.Engine.{Engine}
use Rattle.clone_engine.specs.Serving.{AnswersCall}
use Rattle.clone_sides.specs.Moment.{own_stop}
use Rattle.clone_sides.proofs.CallLemmas.{call_leaves}
use Rattle.clone_sides.proofs.KeptLemmas.{leaves_archived, leaves_becomes}
use Rattle.clone_joined.specs.Joined.{IsJoined}
use Rattle.clone_joined.specs.Runs.{HasCome, MayAct, stop_by}
use Rattle.clone_joined.proofs.JoinedLemmas.{joined_acts}
use Rattle.clone_joined.proofs.RunLemmas.{run_comes}
use Rattle.clone_events.proofs.BinlogLemmas.{Adds, adds_none, made_adds}
use Rattle.clone_core.specs.declared.world.Course.{Course}
use Rattle.clone_core.specs.declared.world.Course.TheVariants as course
use Rattle.clone_core.specs.declared.world.TheConstants.{SESSION}
use Rattle.clone_core.specs.System.{System, donor_of, tell}
use Rattle.clone_core.specs.Copied.{GoesOn, Holds, KnowsItsSizes, world_of}
use Rattle.clone_paired.specs.Own.{ActsAside}
use Rattle.clone_talk.specs.Talking.{OpensNone}
use Rattle.clone_core.proofs.TalkLemmas.{act_talks}
use Rattle.clone_core.proofs.KeepLemmas.{commits_longer, kept_longer, still, within_longer}
use Rattle.clone_core.proofs.StepLemmas.{answered_visits, answered_wants, done_refines, refused_refines}

-- a call of the engine, an archiving, or an order to the disk
abbrev pub IsAside : Act → Type 0
IsAside (act.Calls (ask.Engine asked) given) = Unit {0}
IsAside (act.Calls (ask.Archive limit) given) = Unit {0}
IsAside (act.Calls asked given) = ⊥
IsAside act.Orders = Unit {0}

is_aside : (a : Act) → IsAside a → ActsAside SESSION a
is_aside (act.Calls (ask.Engine asked) given) aside = tt
is_aside (act.Calls (ask.Archive limit) given) aside = tt
is_aside (act.Calls asked given) aside = absurd aside
is_aside act.Orders aside = tt

opens_none : (a : Act) → IsAside a → OpensNone a
opens_none (act.Calls (ask.Engine asked) given) aside = tt
opens_none (act.Calls (ask.Archive limit) given) aside = tt
opens_none (act.Calls asked given) aside = absurd aside
opens_none act.Orders aside = tt

-- It leaves whether the disk tells what it holds, and the last stop, and adds to the history.
pub record Spares (d t : staged.Donor) : Type 0 where
  pub tells : is_some t.engine.disk.told ≡ is_some d.engine.disk.told
  pub stop : t.cloning.stop ≡ d.cloning.stop
  pub answered : List ℕ
  pub adds : Adds d.engine.donor t.engine.donor answered

same_adds : (d e : Donor) → e ≡ d → Adds d e []
same_adds d e is = adds_none d e (ap (λ (x : Donor). x.binlog) is) (ap (λ (x : Donor). x.drops) is)

-- the plain donor stays
spares_donor : (d t : staged.Donor) → is_some t.engine.disk.told ≡ is_some d.engine.disk.told → t.engine.donor ≡ d.engine.donor → t.cloning.stop ≡ d.cloning.stop → Spares d t
spares_donor d t tells donor stop = record { tells = tells; stop = stop; answered = []; adds = same_adds d.engine.donor t.engine.donor donor }

answered_adds : (asked : EngineCall) (d t : staged.Donor) (answer : Result EngineAnswer EngineRefusal) → AnswersCall asked d t answer → (answered : List ℕ) × Adds d.engine.donor t.engine.donor answered
answered_adds asked d t (Ok did) is = (_, made_adds d.engine.donor asked (Ok did) t.engine.donor (done_refines d t asked did is))
answered_adds asked d t (Err (Because cause)) is = (_, made_adds d.engine.donor asked (Err cause) t.engine.donor (refused_refines d t asked cause is))
answered_adds asked d t (Err NoMemory) is = (_, same_adds d.engine.donor t.engine.donor (answered_wants asked d t is))

spares_call : (asked : EngineCall) (answer : Result EngineAnswer EngineRefusal) (d t : staged.Donor) → AnswersCall asked d t answer → Spares d t
spares_call asked answer d t is =
    let added = answered_adds asked d t answer is in
    record { tells = (answered_visits asked d t answer is).tells; stop = (call_leaves d t asked answer is).leaves.stop; answered = added.0; adds = added.1 }

pub spares : (a : Act) (d t : staged.Donor) → IsAside a → Does a d t → Spares d t
spares (act.Calls (ask.Engine asked) (gives.Engine given)) d t aside does = spares_call asked given d t does
spares (act.Calls (ask.Archive limit) (gives.Archive (Ok reached))) d t aside does =
    spares_donor d t (ap (λ (e : Engine). is_some e.disk.told) does.1) (ap (λ (e : Engine). e.donor) does.1) (leaves_archived limit d.engine.buffer.ring d.cloning t.cloning reached does.0).stop
spares (act.Calls (ask.Archive limit) (gives.Archive (Err why))) d t aside does =
    spares_donor d t (ap (λ (e : Engine). is_some e.disk.told) does.1) (ap (λ (e : Engine). e.donor) does.1) (leaves_becomes d.cloning t.cloning does.0).stop
spares (act.Calls (ask.Engine asked) given) d t aside does = absurd does
spares (act.Calls (ask.Archive limit) given) d t aside does = absurd does
spares (act.Calls asked given) d t aside does = absurd aside
spares act.Orders d t aside does =
    spares_donor d t (ap (λ (x : staged.Donor). is_some x.engine.disk.told) does.same ∙ ap is_some does.told) (ap (λ (x : staged.Donor). x.engine.donor) does.same) (ap (λ (x : staged.Donor). x.cloning.stop) does.same)

-- ---- its commits are short

-- where a transaction commits, it has no more changes than one may have
abbrev pub CommitsShort : Act → Donor → Type 0
CommitsShort (act.Calls (ask.Engine (call.Commit trx)) given) d =
    (commit : Commit) → finite.get d.active trx ≡ Some commit → IsShort commit
CommitsShort other d = Unit {0}

abbrev AreShort : Donor → Type 0
AreShort d = AllByRecursion IsShort d.binlog

one_short : (commits : List Commit) (commit : Commit) → AllByRecursion IsShort commits → IsShort commit → AllByRecursion IsShort (commits ++ commit ∷ [])
one_short [] commit all short = (short, tt)
one_short (c ∷ commits) commit all short = (all.0, one_short commits commit all.1 short)

none_more : (start : ℕ) (more : List Commit) → [] ≡ range_with_len start (length more) → more ≡ []
none_more start [] is = refl
none_more start (c ∷ more) is = absurd (cc)

added_short : (d t : Donor) → Adds d t [] → AreShort d → AreShort t
added_short d t added short = subst (λ (b : List Commit). AllByRecursion IsShort b) (sym (added.binlog ∙ ap (λ (more : List Commit). d.binlog ++ more) (none_more _ added.more added.positions) ∙ append-nil d.binlog)) short

made_short : (asked : EngineCall) (given : Result EngineAnswer Cause) (d t : Donor) → PlainStep d asked given t → CommitsShort (act.Calls (ask.Engine asked) (gives.Engine (Err NoMemory))) d → AreShort d → AreShort t
made_short (call.Commit trx) (Ok (answers.Commit position)) d t step few short =
    subst (λ (b : List Commit). AllByRecursion IsShort b) (sym (ap (λ (x : Donor). x.binlog) step.1.is)) (one_short d.binlog step.1.commit short (few step.1.commit step.1.was_active))
made_short asked given d t step few short = added_short d t (made_adds d asked given t step) short

-- whatever the answer
any_answer : (asked : EngineCall) (a b : Result EngineAnswer EngineRefusal) (d : Donor) → CommitsShort (act.Calls (ask.Engine asked) (gives.Engine a)) d → CommitsShort (act.Calls (ask.Engine asked) (gives.Engine b)) d
any_answer (call.Commit trx) a b d few = few
any_answer asked a b d few = tt

answered_short : (asked : EngineCall) (d t : staged.Donor) (answer : Result EngineAnswer EngineRefusal) → AnswersCall asked d t answer → CommitsShort (act.Calls (ask.Engine asked) (gives.Engine answer)) d.engine.donor → AreShort d.engine.donor → AreShort t.engine.donor
answered_short asked d t (Ok did) is few short = made_short asked (Ok did) d.engine.donor t.engine.donor (done_refines d t asked did is) (any_answer asked (Ok did) (Err NoMemory) d.engine.donor few) short
answered_short asked d t (Err (Because cause)) is few short = made_short asked (Err cause) d.engine.donor t.engine.donor (refused_refines d t asked cause is) (any_answer asked (Err (Because cause)) (Err NoMemory) d.engine.donor few) short
answered_short asked d t (Err NoMemory) is few short = subst AreShort (sym (answered_wants asked d t is)) short

acts_short : (a : Act) (d t : staged.Donor) → IsAside a → Does a d t → CommitsShort a d.engine.donor → AreShort d.engine.donor → AreShort t.engine.donor
acts_short (act.Calls (ask.Engine asked) (gives.Engine given)) d t aside does few short = answered_short asked d t given does few short
acts_short (act.Calls (ask.Archive limit) (gives.Archive (Ok reached))) d t aside does few short = subst AreShort (sym (ap (λ (e : Engine). e.donor) does.1)) short
acts_short (act.Calls (ask.Archive limit) (gives.Archive (Err why))) d t aside does few short = subst AreShort (sym (ap (λ (e : Engine). e.donor) does.1)) short
acts_short (act.Calls (ask.Engine asked) given) d t aside does few short = absurd does
acts_short (act.Calls (ask.Archive limit) given) d t aside does few short = absurd does
acts_short (act.Calls asked given) d t aside does few short = absurd aside
acts_short act.Orders d t aside does few short = subst AreShort (sym (ap (λ (x : staged.Donor). x.engine.donor) does.same)) short

-- ---- the session

aside_may : (floor : Option ℕ) (a : Act) (d t : staged.Donor) → IsAside a → Does a d t → MayAct SESSION floor d a
aside_may floor (act.Calls (ask.Engine asked) (gives.Engine given)) d t aside does = tt
aside_may floor (act.Calls (ask.Archive limit) (gives.Archive result)) d t aside does = tt
aside_may floor (act.Calls (ask.Engine asked) given) d t aside does = absurd does
aside_may floor (act.Calls (ask.Archive limit) given) d t aside does = absurd does
aside_may floor (act.Calls asked given) d t aside does = absurd aside
aside_may floor act.Orders d t aside does = tt

-- the first stop is the one that was kept
pub same_stop : (kept last now : Option session.Stop) → (kept ≡ None → own_stop SESSION last ≡ None) → now ≡ last → option_or kept (own_stop SESSION now) ≡ kept
same_stop (Some stop) last now none same = refl
same_stop None last now none same = ap (own_stop SESSION) same ∙ none refl

sizes_still : (s : System) (t : staged.Donor) (way : Course) → KnowsItsSizes s way → KnowsItsSizes (record s { donor = t }) way
sizes_still s t course.Absent is = tt
sizes_still s t course.Unbegun is = tt
sizes_still s t (course.Begun c) is = is

module _ (a : Act) (s : System) (t : staged.Donor) (aside : IsAside a) (acts : Acts a s.donor t) where
  goes_still : (way : Course) → stop_by SESSION s.stop t ≡ s.stop → GoesOn s way → GoesOn (record s { donor = t }) way
  goes_still course.Absent stop is =
      subst (λ (o : Option session.Stop). HasCome SESSION None o t) stop (run_comes SESSION None s.stop s.donor t a is acts (aside_may None a s.donor t aside acts.does))
  goes_still course.Unbegun stop is = tt
  goes_still (course.Begun c) stop is = λ running.
      subst (λ (o : Option session.Stop). IsJoined SESSION o t c.reception s.recipient.told c.network) stop
      (joined_acts SESSION c.reception s.recipient.told s.stop s.donor t a c.network (is running) acts (aside_may c.reception.table.floor a s.donor t aside acts.does))

-- WHAT HOLDS STAYS over such an act.
pub act_kept : (a : Act) (s : System) (t : staged.Donor) (begun counts : finite.FinMap nat_cmp ℕ) (disturbed doubted shown : Bool) → IsAside a → CommitsShort a (donor_of s) → Acts a s.donor t → Holds (world_of s begun disturbed doubted shown)
    → Holds (world_of (record s { donor = t }) counts disturbed doubted shown)
act_kept a s t begun counts disturbed doubted shown aside few acts holds =
    let d = s.donor in
    let spared = spares a d t aside acts.does in
    let clone = (world_of s begun disturbed doubted shown).clone in
    let stop : stop_by SESSION s.stop t ≡ s.stop = same_stop s.stop d.cloning.stop t.cloning.stop holds.unstopped spared.stop in
    let within = within_longer d.engine.donor t.engine.donor spared.answered spared.adds clone.stop (holds.keeps.commits, holds.keeps.drops) in
    record {
      terms = holds.terms;
      parts = holds.parts;
      looked = commits_longer d.engine.donor t.engine.donor spared.answered spared.adds s.looked holds.looked;
      short = acts_short a d t aside acts.does few holds.short;
      unstopped = λ none. ap (own_stop SESSION) spared.stop ∙ holds.unstopped none;
      sizes = sizes_still s t s.course holds.sizes;
      marked = holds.marked;
      goes_on = λ honest. goes_still a s t aside acts s.course stop (holds.goes_on honest);
      talks = λ told honest.
          let was : tell s ≡ true = sym (ap (λ b. b && is_some s.recipient.told) spared.tells) ∙ told in
          act_talks a s t (is_aside a aside) (opens_none a aside) acts was s.course (holds.goes_on honest) (holds.talks was honest);
      steady = holds.steady;
      keeps = kept_longer d.engine.donor t.engine.donor spared.answered spared.adds (tell s) (tell (record s { donor = t })) (ap (λ b. b && is_some s.recipient.told) spared.tells) clone clone s.recipient.told refl refl refl (λ same. same) still within holds.keeps;
    }
