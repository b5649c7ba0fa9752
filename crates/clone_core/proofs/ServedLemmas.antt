-- A STRANGER'S CONNECTION is served until its loop ends: what changed of the clone by then.
use Rattle.std.proofs.Common.{◌≡◌, ◌∙◌, ◌==◌, ◌++◌, [], ◌∷◌, ℕ, List, Bool, true, false, refl, sym, ap, subst, append_assoc, codes, Option, Some, None, Result, Ok, IfOk, OnErr}
use Rattle.std.specs.declared.alloc.AllocError.{AllocError}
use Rattle.clone_plain.specs.Answers.{Text}
use Rattle.clone_plain.specs.Donor as plain
use Rattle.clone_script.specs.declared.lines.Line.{Line}
use Rattle.clone_script.specs.declared.lines.Line.TheVariants as lines
use Rattle.clone_calls.specs.declared.answer.DonorAnswer.TheVariants as given
use Rattle.clone_calls.specs.declared.call.DonorCall.TheVariants as call
use Rattle.clone_chunk.specs.CauseTexts.{cause_text}
use Rattle.clone_chunk.specs.declared.cause.CloneCause.TheVariants.{NoSuchSession}
use Rattle.clone_session.specs.Cloning.{Session}
use Rattle.clone_session.specs.declared.info.Stop as session
use Rattle.clone_network.specs.Connections.{Connection, StepsEnd, given_up, is_open, opened}
use Rattle.clone_network.specs.declared.donor_step.DonorStep.{DonorStep}
use Rattle.clone_answers.specs.StepTexts.{step_text}
use Rattle.clone_events.specs.World.{Clone}
use Rattle.clone_events.specs.Events.{AreNow, Change, EndsFairly, ShowsChanges, TellsEnd, acknowledges, changed_all, crowds, disturbs, ends, stops}
use Rattle.clone_engine.specs.Acts.{CloneActs}
use Rattle.clone_engine.specs.Donor as staged
use Rattle.clone_told.specs.Told.{gives}
use Rattle.clone_core.specs.declared.world.TheConstants.{SESSION}
use Rattle.clone_core.specs.System.{System, donor_of}
use Rattle.clone_core.specs.Acting.{Abandons, ActsStep, ServesStranger, crowding, disturbing, donor_changes, is_crowded, last, goes_on, stop_changes, stranger_changes, with_donor, with_stranger}
use Rattle.clone_joined.specs.Strangers.{acts_in}
use Rattle.clone_sides.specs.Moment.{own_stop}
use Rattle.clone_paired.specs.Strangers.{IsBetween}
use Rattle.clone_core.specs.CloneEvents.{Acts, ActsUntold, Changes, EndsNone, ServesAll, ServesNoClone, ServesSome, StepsStranger}
use Rattle.clone_core.specs.Lines.{Answers, BreaksOff, State}
use Rattle.clone_core.proofs.DonorLemmas.{changes_join, now_join, shows_join}
use Rattle.clone_core.proofs.LinesOfActs.{acts_breaks, acts_says, untold_breaks_off}

-- ---- changes, one after the other

pub no_changes : (s : State) → Changes [] s s
no_changes s = record { begun = refl; tells = refl; tasks = refl; plain = refl; now = tt; shows = tt; clone = refl }

pub changes_then : (s u t : State) (xs ys : List Change) → Changes xs s u → Changes ys u t → Changes (xs ++ ys) s t
changes_then s u t xs ys first second = record {
  begun = second.begun ∙ first.begun;
  tells = second.tells ∙ first.tells;
  tasks = second.tasks ∙ first.tasks;
  plain = second.plain ∙ first.plain;
  now = now_join (donor_of s.donor) xs ys first.now (subst (λ (d : plain.Donor). AreNow d ys) first.plain second.now);
  shows = shows_join (donor_of s.donor) s.clone xs ys first.shows
      (subst (λ (c : Clone). ShowsChanges (donor_of s.donor) c ys) first.clone (subst (λ (d : plain.Donor). ShowsChanges d u.clone ys) first.plain second.shows));
  clone = second.clone ∙ ap (changed_all ys) first.clone ∙ sym (changes_join s.clone xs ys);
}

-- ---- a stranger's step makes no end of the clone

ends_none : (changes : List Change) → EndsNone changes → (text : Text) → TellsEnd changes text
ends_none [] none text = tt
ends_none (stops at ∷ changes) none text = ends_none changes none text
ends_none (acknowledges ∷ changes) none text = ends_none changes none text
ends_none (disturbs ∷ changes) none text = ends_none changes none text
ends_none (crowds ∷ changes) none text = ends_none changes none text
ends_none (ends how ∷ changes) none text = absurd none

fair_none : (clone : Clone) (changes : List Change) → EndsNone changes → EndsFairly clone changes
fair_none clone [] none = tt
fair_none clone (stops at ∷ changes) none = fair_none clone changes none
fair_none clone (acknowledges ∷ changes) none = fair_none clone changes none
fair_none clone (disturbs ∷ changes) none = fair_none clone changes none
fair_none clone (crowds ∷ changes) none = fair_none clone changes none
fair_none clone (ends how ∷ changes) none = absurd none

both_none : (xs ys : List Change) → EndsNone xs → EndsNone ys → EndsNone (xs ++ ys)
both_none [] ys none more = more
both_none (stops at ∷ xs) ys none more = both_none xs ys none more
both_none (acknowledges ∷ xs) ys none more = both_none xs ys none more
both_none (disturbs ∷ xs) ys none more = both_none xs ys none more
both_none (crowds ∷ xs) ys none more = both_none xs ys none more
both_none (ends how ∷ xs) ys none more = absurd none

pub disturbing_none : (acts : Bool) → EndsNone (disturbing acts)
disturbing_none true = tt
disturbing_none false = tt

crowding_none : (crowded : Bool) → EndsNone (crowding crowded)
crowding_none true = tt
crowding_none false = tt

pub stops_none : (stop own : Option session.Stop) → EndsNone (stop_changes stop own)
stops_none None None = tt
stops_none None (Some at) = tt
stops_none (Some at) own = tt

pub stranger_none : (at : Connection) (says : DonorStep) (s : System) (d : staged.Donor) → EndsNone (stranger_changes at says s d)
stranger_none at says s d =
    both_none (disturbing (acts_in SESSION s.donor d at says)) (crowding (is_crowded d) ++ donor_changes s d) (disturbing_none (acts_in SESSION s.donor d at says))
    (both_none (crowding (is_crowded d)) (donor_changes s d) (crowding_none (is_crowded d)) (stops_none s.stop (own_stop SESSION d.cloning.stop)))

serves_no_end : (at : Connection) (s t : System) (changes : List Change) (how : DonorStep) → ServesStranger at s t changes how → EndsNone changes
serves_no_end _ _ _ _ _ (last at after s t donor says steps over is) = stranger_none at says s donor
serves_no_end _ _ _ _ _ (goes_on at after s t donor says how rest steps opens on) = both_none (stranger_changes at says s donor) rest (stranger_none at says s donor) (serves_no_end after (with_stranger donor s) t rest how on)

-- ---- WHILE IT IS SERVED: what is served from here on is served from its beginning, behind what
-- has changed by now

pub record ServedSo (first : Connection) (s : State) (at : Connection) (u : State) : Type 0 where
  pub done : List Change
  pub changed : Changes done s u
  pub none : EndsNone done
  pub behind : (t : System) (rest : List Change) (how : DonorStep) → ServesStranger at u.donor t rest how → ServesStranger first s.donor t (done ++ rest) how
  pub opens : is_open at ≡ true
  pub unheld : at.held ≡ false
  pub between : IsBetween at.doing
  pub other : ServesNoClone u at

pub served_begins : (s : State) (first : Connection) → is_open first ≡ true → first.held ≡ false → IsBetween first.doing → ServesNoClone s first → ServedSo first s first s
served_begins s first opens unheld between other = record { done = []; changed = no_changes s; none = tt; behind = λ t rest how serves. serves; opens = opens; unheld = unheld; between = between; other = other }

module _ (first : Connection) (s : State) (at : Connection) (u : State) (so : ServedSo first s at u) (after : Connection) (v : State) (says : DonorStep) (step : StepsStranger u at v after says) where
  abbrev more : List Change
  more = stranger_changes at says u.donor step.donor

  pub served_on : is_open after ≡ true → after.held ≡ false → IsBetween after.doing → ServesNoClone v after → ServedSo first s after v
  served_on opens unheld between other = record {
    done = so.done ++ more;
    changed = changes_then s u v so.done more so.changed step.changed;
    none = both_none so.done more so.none (stranger_none at says u.donor step.donor);
    behind = λ t rest how serves. subst (λ (l : List Change). ServesStranger first s.donor t l how) (sym (append_assoc so.done more rest))
        (so.behind t (more ++ rest) how (goes_on at after u.donor t step.donor says how rest step.steps opens (subst (λ (x : System). ServesStranger after x t rest how) step.is serves)));
    opens = opens;
    unheld = unheld;
    between = between;
    other = other;
  }

  pub served_all : is_open after ≡ false → ServesAll s first v says
  served_all over = record {
    changes = so.done ++ more;
    serves = so.behind v.donor more says (last at after u.donor v.donor step.donor says step.steps over step.is);
    changed = changes_then s u v so.done more so.changed step.changed;
  }

pub served_some : (first : Connection) (s : State) (at : Connection) (u v : State) → ServedSo first s at u → ServesSome u v → ServesSome s v
served_some first s at u v so (xs, none, changed) = (so.done ++ xs, both_none so.done xs so.none none, changes_then s u v so.done xs so.changed changed)

-- nobody takes it up again
pub held_stays : (d t : staged.Donor) (at after : Connection) (says : DonorStep) → StepsEnd gives d t at after says → after.held ≡ at.held
held_stays d t at after says e = ap (λ (x : Connection). x.held) e.is ∙ ap (λ (x : Connection). x.held) e.serves.is

-- ---- the line

abbrev pub raw_says : DonorStep → Text
raw_says how = codes "end " ++ step_text how

pub acted : (line : Line) (s t : State) (changes : List Change) (text : Text) → ActsStep line s.donor t.donor changes text → EndsNone changes → Changes changes s t → Acts line s text t
acted line s t changes text step none changed = (
  changes,
  record {
    step = step;
    begun = changed.begun;
    clone = record { now = changed.now; shows = (changed.shows, ends_none changes none text, λ told. fair_none s.clone changes none); is = changed.clone };
    tells = changed.tells;
    tasks = changed.tasks;
    sees = λ told. tt;
  },
)

raw_acts : (bytes : List ℕ) (s t : State) (how : DonorStep) → ServesAll s (given_up (opened bytes)) t how → Acts (lines.Raw bytes) s (raw_says how) t
raw_acts bytes s t how all = acted (lines.Raw bytes) s t all.changes (raw_says how) (record { how = how; serves = all.serves; answers = refl })
    (serves_no_end (given_up (opened bytes)) s.donor t.donor all.changes how all.serves) all.changed

pub raw_answers : {A : Type 0} (text_of : A → Text) (bytes : List ℕ) (s t : State) (how : DonorStep) (result : Result A AllocError) → ServesAll s (given_up (opened bytes)) t how → IfOk result (λ a. text_of a ≡ raw_says how) → IfOk result (λ a. Answers s (lines.Raw bytes) (text_of a) t)
raw_answers text_of bytes s t how result all says = acts_says s t (lines.Raw bytes) (λ es m. m) text_of (raw_says how) result (raw_acts bytes s t how all) says

pub raw_breaks : {A : Type 0} (bytes : List ℕ) (s t : State) (how : DonorStep) (result : Result A AllocError) → ServesAll s (given_up (opened bytes)) t how → OnErr result (BreaksOff s (lines.Raw bytes) t)
raw_breaks bytes s t how result all = acts_breaks s t (lines.Raw bytes) (λ es m. m) (raw_says how) result (raw_acts bytes s t how all)

-- changes were made, and there was no memory for the rest
some_untold : (bytes : List ℕ) (s t : State) → ServesSome s t → ActsUntold (lines.Raw bytes) s t
some_untold bytes s t (xs, none, changed) = (
  xs,
  [],
  record {
    donor = changed.plain;
    begun = changed.begun;
    tells = changed.tells;
    tasks = changed.tasks;
    clone = (record { now = changed.now; shows = (changed.shows, ends_none xs none [], λ told. fair_none s.clone xs none); is = refl }, changed.clone);
  },
)

pub some_breaks : {A : Type 0} (bytes : List ℕ) (s t : State) (result : Result A AllocError) → ServesSome s t → OnErr result (BreaksOff s (lines.Raw bytes) t)
some_breaks bytes s t result some = untold_breaks_off s t (lines.Raw bytes) (λ es m. m) result (some_untold bytes s t some)

pub nothing_breaks : {A : Type 0} (bytes : List ℕ) (s : State) (result : Result A AllocError) → OnErr result (BreaksOff s (lines.Raw bytes) s)
nothing_breaks bytes s result = some_breaks bytes s s result ([], tt, no_changes s)

-- ---- the session is given up

module _ (s t : State) (standing : Session) (is : s.donor.donor.cloning.session ≡ Some standing) (number : ℕ) (numbered : standing.number ≡ number) (donor : staged.Donor) (gives_up : CloneActs (call.Abandon number) (given.Abandon (Ok tt)) s.donor.donor donor) (new_is : t.donor ≡ with_donor donor s.donor)
    (changed : Changes (disturbing (number == SESSION) ++ donor_changes s.donor donor) s t) where
  abandoned : Acts lines.Abandon s (codes "abandoned") t
  abandoned = acted lines.Abandon s t _ (codes "abandoned")
      (subst (λ (o : Option Session). Abandons o s.donor t.donor (disturbing (number == SESSION) ++ donor_changes s.donor donor) (codes "abandoned")) (sym is)
      (donor, subst (λ (n : ℕ). CloneActs (call.Abandon n) (given.Abandon (Ok tt)) s.donor.donor donor) (sym numbered) gives_up, new_is, ap (λ (n : ℕ). disturbing (n == SESSION) ++ donor_changes s.donor donor) (sym numbered), refl))
      (both_none (disturbing (number == SESSION)) (donor_changes s.donor donor) (disturbing_none (number == SESSION)) (stops_none s.donor.stop (own_stop SESSION donor.cloning.stop))) changed

  pub abandon_answers : {A : Type 0} (text_of : A → Text) (result : Result A AllocError) → IfOk result (λ a. text_of a ≡ codes "abandoned") → IfOk result (λ a. Answers s lines.Abandon (text_of a) t)
  abandon_answers text_of result says = acts_says s t lines.Abandon (λ es m. m) text_of (codes "abandoned") result abandoned says

-- there is none
module _ (s : State) (none : s.donor.donor.cloning.session ≡ None) where
  no_session : Acts lines.Abandon s (cause_text NoSuchSession) s
  no_session = acted lines.Abandon s s [] (cause_text NoSuchSession)
      (subst (λ (o : Option Session). Abandons o s.donor s.donor [] (cause_text NoSuchSession)) (sym none) (refl, refl, refl)) tt (no_changes s)

  pub none_answers : {A : Type 0} (text_of : A → Text) (result : Result A AllocError) → IfOk result (λ a. text_of a ≡ cause_text NoSuchSession) → IfOk result (λ a. Answers s lines.Abandon (text_of a) s)
  none_answers text_of result says = acts_says s s lines.Abandon (λ es m. m) text_of (cause_text NoSuchSession) result no_session says

pub abandon_breaks : {A : Type 0} (s : State) (result : Result A AllocError) → OnErr result (BreaksOff s lines.Abandon s)
abandon_breaks s result = untold_breaks_off s s lines.Abandon (λ es m. m) result ([], [], record { donor = refl; begun = refl; tells = refl; tasks = refl; clone = (record { now = tt; shows = (tt, tt, λ told. tt); is = refl }, refl) })
