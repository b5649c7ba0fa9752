-- What a step of a task changes of a clone is what becomes of it.
use Rattle.std.proofs.Common.{◌≡◌, ◌∙◌, ◌++◌, ◌∷◌, [], ℕ, List, refl, sym, ap, subst, Option, Some, None}
use Rattle.clone_plain.specs.Donor.{Donor}
use Rattle.clone_tasks.specs.declared.end.CloneEnd as tasks
use Rattle.clone_tasks.specs.declared.end.CloneEnd.TheVariants as ends_as
use Rattle.clone_fetch.specs.declared.answer.TaskAnswer.{TaskAnswer}
use Rattle.clone_fetch.specs.declared.answer.TaskAnswer.TheVariants as task
use Rattle.clone_answers.specs.StepTexts as texts
use Rattle.clone_network.specs.Courses.{IsFloor, ended_then, first, kept}
use Rattle.clone_events.specs.World.{Clone, broken}
use Rattle.clone_events.specs.Events.{AreNow, Change, EndsFairly, IsFairEnd, ShowsChanges, ShowsEnd, TellsEnd, acknowledges, ends, changed_all, end_text, recipient_fault}
use Rattle.clone_core.specs.Acting.{end_changes, end_of, floor_changes}
use Rattle.clone_core.specs.Copied.{progress_by}

-- the text of an end is the same for a task and for a clone
pub end_said : (how : tasks.CloneEnd) → texts.end_text how ≡ end_text (end_of how)
end_said (ends_as.Complete lsn position) = refl
end_said (ends_as.Spent losses) = refl
end_said (ends_as.Garbled bytes) = refl
end_said (ends_as.Refused cause) = refl
end_said ends_as.DiskFault = refl

same_floor : (floor : Option ℕ) → floor_changes floor floor ≡ []
same_floor None = refl
same_floor (Some n) = refl

-- a step that doesn't end the clone
abbrev pub EndsNot : TaskAnswer → Type 0
EndsNot says = (how : tasks.CloneEnd) → says ≡ task.Ended how → ⊥

no_end : (says : TaskAnswer) → EndsNot says → end_changes says ≡ []
no_end (task.Ended how) not = absurd (not how refl)
no_end task.Idle not = refl
no_end task.Stale not = refl
no_end (task.Sent code) not = refl
no_end (task.Took took) not = refl
no_end (task.Lost losses) not = refl
no_end task.NoMemory not = refl

same_end : (says : TaskAnswer) (was : Option tasks.CloneEnd) → EndsNot says → ended_then says was ≡ was
same_end (task.Ended how) was not = absurd (not how refl)
same_end task.Idle was not = refl
same_end task.Stale was not = refl
same_end (task.Sent code) was not = refl
same_end (task.Took took) was not = refl
same_end (task.Lost losses) was not = refl
same_end task.NoMemory was not = refl

-- WHAT A STEP OF A TASK changes of the clone: how it ended, and its floor
pub record Steps (says : TaskAnswer) (was now : Option tasks.CloneEnd) (before after : Option ℕ) (looked : ℕ) : Type 0 where
  pub ended : now ≡ ended_then says was
  pub floor : IsFloor looked says before after
  -- a clone that has ended rests
  pub rests : (how : tasks.CloneEnd) → was ≡ Some how → (after ≡ before) × EndsNot says

abbrev pub changes_of : TaskAnswer → Option ℕ → Option ℕ → List Change
changes_of says before after = floor_changes before after ++ end_changes says

-- a step that changes the floor, or ends the clone, or neither
pub data Kind (says : TaskAnswer) (was now : Option tasks.CloneEnd) (before after : Option ℕ) (looked : ℕ) : Type 0 where
  nothing : changes_of says before after ≡ [] → now ≡ was → after ≡ before → Kind says was now before after looked
  acknowledged : changes_of says before after ≡ acknowledges ∷ [] → was ≡ None → now ≡ None → before ≡ None → after ≡ Some looked → Kind says was now before after looked
  ended : (how : tasks.CloneEnd) → changes_of says before after ≡ ends (end_of how) ∷ [] → was ≡ None → now ≡ Some how → after ≡ before → says ≡ task.Ended how → Kind says was now before after looked

unchanged : (says : TaskAnswer) (before after : Option ℕ) → after ≡ before → EndsNot says → changes_of says before after ≡ []
unchanged says before after same not = ap (λ (f : Option ℕ). floor_changes before f ++ end_changes says) same ∙ ap (λ (l : List Change). l ++ end_changes says) (same_floor before) ∙ no_end says not

-- does a step end the clone?
ends_or_not : (says : TaskAnswer) (P : Type 0) → ((how : tasks.CloneEnd) → says ≡ task.Ended how → P) → (EndsNot says → P) → P
ends_or_not (task.Ended how) P does not = does how refl
ends_or_not task.Idle P does not = not (λ how is. absurd (cc))
ends_or_not task.Stale P does not = not (λ how is. absurd (cc))
ends_or_not (task.Sent code) P does not = not (λ how is. absurd (cc))
ends_or_not (task.Took took) P does not = not (λ how is. absurd (cc))
ends_or_not (task.Lost losses) P does not = not (λ how is. absurd (cc))
ends_or_not task.NoMemory P does not = not (λ how is. absurd (cc))

module _ (says : TaskAnswer) (now : Option tasks.CloneEnd) (before after : Option ℕ) (looked : ℕ) where
  by_floor : Steps says None now before after looked → EndsNot says → IsFloor looked says before after → Kind says None now before after looked
  by_floor is not (kept same) = nothing (unchanged says before after same not) (is.ended ∙ same_end says None not) same
  by_floor is not (first none some _) = acknowledged
      (ap (λ (f : Option ℕ). floor_changes f after ++ end_changes says) none ∙ ap (λ (f : Option ℕ). floor_changes None f ++ end_changes says) some ∙ ap (λ (l : List Change). acknowledges ∷ l) (no_end says not))
      refl (is.ended ∙ same_end says None not) none some

  by_end : (how : tasks.CloneEnd) → says ≡ task.Ended how → Steps says None now before after looked → IsFloor looked says before after → Kind says None now before after looked
  by_end how at is (kept same) = ended how
      (ap (λ (f : Option ℕ). floor_changes before f ++ end_changes says) same ∙ ap (λ (l : List Change). l ++ end_changes says) (same_floor before) ∙ ap end_changes at)
      refl (is.ended ∙ ap (λ (a : TaskAnswer). ended_then a None) at) same at
  by_end how at is (first none some not) = absurd (not how at)

  pub kind_of : (was : Option tasks.CloneEnd) → Steps says was now before after looked → Kind says was now before after looked
  kind_of None is = ends_or_not says (Kind says None now before after looked) (λ how at. by_end how at is is.floor) (λ not. by_floor is not is.floor)
  kind_of (Some how) is = let (same, not) = is.rests how refl in nothing (unchanged says before after same not) (is.ended ∙ same_end says (Some how) not) same

-- ---- the clone

-- a clone that has come so far, with this floor
abbrev pub clone_at : Clone → Option tasks.CloneEnd → Option ℕ → Clone
clone_at clone how floor = record clone { progress = progress_by how; floor = floor }

module _ (clone : Clone) (says : TaskAnswer) (was now : Option tasks.CloneEnd) (before after : Option ℕ) (d : Donor) where
  abbrev old : Clone
  old = clone_at clone was before

  abbrev new : Clone
  new = clone_at clone now after

  pub became : Kind says was now before after clone.looked → new ≡ changed_all (changes_of says before after) old
  became (nothing none same floor) = sym (ap (λ (l : List Change). changed_all l old) none ∙ ap (λ (e : Option tasks.CloneEnd). clone_at clone e before) (sym same) ∙ ap (clone_at clone now) (sym floor))
  became (acknowledged some goes then none floor) =
      ap (λ (e : Option tasks.CloneEnd). clone_at clone e after) then ∙ ap (clone_at clone None) floor
      ∙ ap (λ (e : Option tasks.CloneEnd). changed_all (acknowledges ∷ []) (clone_at clone e before)) (sym goes) ∙ ap (λ (l : List Change). changed_all l old) (sym some)
  became (ended how some goes then floor at) =
      ap (λ (e : Option tasks.CloneEnd). clone_at clone e after) then ∙ ap (clone_at clone (Some how)) floor
      ∙ ap (λ (e : Option tasks.CloneEnd). changed_all (ends (end_of how) ∷ []) (clone_at clone e before)) (sym goes) ∙ ap (λ (l : List Change). changed_all l old) (sym some)

  -- no step of a task is a stop
  pub are_now : Kind says was now before after clone.looked → AreNow d (changes_of says before after)
  are_now (nothing none same floor) = subst (AreNow d) (sym none) tt
  are_now (acknowledged some goes then none floor) = subst (AreNow d) (sym some) tt
  are_now (ended how some goes then floor at) = subst (AreNow d) (sym some) tt

  pub shows : Kind says was now before after clone.looked → ((how : tasks.CloneEnd) → was ≡ None → after ≡ before → says ≡ task.Ended how → ShowsEnd (clone_at clone None before) (end_of how)) → ShowsChanges d old (changes_of says before after)
  shows (nothing none same floor) end = subst (ShowsChanges d old) (sym none) tt
  shows (acknowledged some goes then none floor) end =
      subst (ShowsChanges d old) (sym some) (subst (λ (e : Option tasks.CloneEnd). ShowsChanges d (clone_at clone e before) (acknowledges ∷ [])) (sym goes) (none, tt))
  shows (ended how some goes then floor at) end =
      subst (ShowsChanges d old) (sym some) (subst (λ (e : Option tasks.CloneEnd). ShowsChanges d (clone_at clone e before) (ends (end_of how) ∷ [])) (sym goes) ((tt, end how goes floor at), tt))

  pub tells_end : Kind says was now before after clone.looked → TellsEnd (changes_of says before after) (texts.task_text says)
  tells_end (nothing none same floor) = subst (λ (l : List Change). TellsEnd l (texts.task_text says)) (sym none) tt
  tells_end (acknowledged some goes then none floor) = subst (λ (l : List Change). TellsEnd l (texts.task_text says)) (sym some) tt
  tells_end (ended how some goes then floor at) =
      subst (λ (l : List Change). TellsEnd l (texts.task_text says)) (sym some) (ap texts.task_text at ∙ end_said how)

  -- how it ends
  pub ends_fairly : Kind says was now before after clone.looked → ((how : tasks.CloneEnd) → was ≡ None → says ≡ task.Ended how → IsFairEnd clone (end_of how)) → EndsFairly clone (changes_of says before after)
  ends_fairly (nothing none same floor) end = subst (EndsFairly clone) (sym none) tt
  ends_fairly (acknowledged some goes then none floor) end = subst (EndsFairly clone) (sym some) tt
  ends_fairly (ended how some goes then floor at) end = subst (EndsFairly clone) (sym some) (end how goes at)

-- ---- memory ran out in the step of a clone that goes on

module _ (clone : Clone) (says : TaskAnswer) (before after : Option ℕ) where
  abbrev starving : List Change
  starving = floor_changes before after ++ ends broken ∷ []

  abbrev begun : Clone
  begun = clone_at clone None before

  -- the floor stays, or is acknowledged first
  either : (P : List Change → Option ℕ → Option ℕ → Type 0) → ((floor : Option ℕ) → P (ends broken ∷ []) floor floor) → P (acknowledges ∷ ends broken ∷ []) None (Some clone.looked) → IsFloor clone.looked says before after → P starving before after
  either P same more (kept is) = subst (λ (f : Option ℕ). P (floor_changes before f ++ ends broken ∷ []) before f) (sym is) (subst (λ (l : List Change). P (l ++ ends broken ∷ []) before before) (sym (same_floor before)) (same before))
  either P same more (first none some not) = subst (λ (f : Option ℕ). P (floor_changes f after ++ ends broken ∷ []) f after) (sym none) (subst (λ (f : Option ℕ). P (floor_changes None f ++ ends broken ∷ []) None f) (sym some) more)

  pub starved_clone : IsFloor clone.looked says before after → clone_at clone (Some ends_as.DiskFault) after ≡ changed_all starving begun
  starved_clone floor = either (λ l f g. clone_at clone (Some ends_as.DiskFault) g ≡ changed_all l (clone_at clone None f)) (λ f. refl) refl floor

  pub starved_now : (d : Donor) → IsFloor clone.looked says before after → AreNow d starving
  starved_now d floor = either (λ l f g. AreNow d l) (λ f. tt) tt floor

  pub starved_shows : (d : Donor) → IsFloor clone.looked says before after → ShowsChanges d begun starving
  starved_shows d floor = either (λ l f g. ShowsChanges d (clone_at clone None f) l) (λ f. ((tt, tt), tt)) (refl, ((tt, tt), tt)) floor

  pub starved_fair : (old : Clone) → IsFloor clone.looked says before after → EndsFairly old starving
  starved_fair old floor = either (λ l f g. EndsFairly old l) (λ f. tt) tt floor

  pub starved_tells : IsFloor clone.looked says before after → TellsEnd starving recipient_fault
  starved_tells floor = either (λ l f g. TellsEnd l recipient_fault) (λ f. refl) refl floor
