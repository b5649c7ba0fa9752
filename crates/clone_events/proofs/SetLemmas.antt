-- The commit of a `set` is of its writer, and has its one change.
use Rattle.std.proofs.Common.{◌≡◌, ℕ, ◌+◌, ◌-◌, ◌<◌, List, [], ◌∷◌, ◌++◌, length, sym, ap, ◌∙◌, subst, arith, length-append, append_assoc, Some, Result, Ok, slice_get, filter_map}
use Rattle.clone_events.proofs.Common.{nat_cmp_total, nat_cmp-IsAntisymmetric, get-set_same, same_Some, slice_get-get_or, Commit, Line, Donor, begun, put_of, with_change, Changes, EngineCall, EngineAnswer, Cause, PlainStep, World, Event, made, PlainEvent, Happens, Events, MakesSet, not_begun, not_changed, set, Runs, committed_at, IsSet, AreSets}
use Rattle.clone_plain.specs.declared.call.EngineAnswer.TheVariants as answers
use Rattle.clone_plain.specs.declared.call.EngineCall.TheVariants as call
use Rattle.clone_model.specs.declared.change.Change.{Change}
use Rattle.std.specs.FinMap as finite
use Rattle.std.proofs.Math.Seq.{get_or-append_seam}
use Rattle.clone_script.specs.declared.lines.Line.TheVariants as lines
use Rattle.clone_events.proofs.BinlogLemmas.{events_add}
use Rattle.clone_events.proofs.RunLemmas.{Runs-Events}

-- the commit of a transaction that began and made one change
one_change : (d e f : Donor) (trx writer index : ℕ) (change : Change) (commit : Commit) → e ≡ begun trx writer index d → Changes e trx change f → finite.get f.active trx ≡ Some commit → commit ≡ record { writer = writer; index = index; changes = change ∷ [] }
one_change d e f trx writer index change commit begins changes active =
    let empty : Commit = record { writer = writer; index = index; changes = [] } in
    let first : changes.commit ≡ empty = same_Some _ _ (sym changes.was_active ∙ ap (λ (d : Donor). finite.get d.active trx) begins ∙ get-set_same nat_cmp_total nat_cmp-IsAntisymmetric d.active trx empty) in
    let last : commit ≡ with_change change changes.commit = same_Some _ _ (sym active ∙ ap (λ (d : Donor). finite.get d.active trx) changes.is ∙ get-set_same nat_cmp_total nat_cmp-IsAntisymmetric e.active trx (with_change change changes.commit)) in
    last ∙ ap (with_change change) first

-- what stands behind others
get_behind : {X : Type 0} (xs : List X) (x : X) (ys : List X) → slice_get (xs ++ x ∷ ys) (length xs) ≡ Some x
get_behind xs x ys = let within : length xs < length (xs ++ x ∷ ys) = omega (arith, length-append xs (x ∷ ys)) in slice_get-get_or (xs ++ x ∷ ys) (length xs) x within ∙ ap Some (get_or-append_seam xs x ys x)

-- what was committed behind a binlog that has grown since
set_stands : (writer index table key : ℕ) (value : List ℕ) (before : List Commit) (commit : Commit) (after more : List Commit) (position : ℕ) → commit ≡ record { writer = writer; index = index; changes = put_of table key value ∷ [] }
    → after ≡ (before ++ commit ∷ []) ++ more → position ≡ length before + 1 → IsSet writer table key value after position
set_stands writer index table key value before commit after more position is grown count =
    let at : position - 1 ≡ length before = omega (arith, count) in (
      index,
      ap (λ n. slice_get after n) at
          ∙ ap (λ h. slice_get h (length before)) (grown ∙ append_assoc before (commit ∷ []) more)
          ∙ get_behind before commit more
          ∙ ap Some is,
    )

module _ {D : Type 0} (plain : D → Donor) (Step : D → Event → D → Type 0) (refines : (d e : D) (event : Event) → Step d event e → PlainEvent (plain d) event (plain e)) where
  made_step : (s u : World D) (asked : EngineCall) (answer : Result EngineAnswer Cause) → Happens plain Step s (made asked answer) u → PlainStep (plain s.donor) asked answer (plain u.donor)
  made_step s u asked answer is = refines s.donor u.donor (made asked answer) is.step

  -- a transaction began, made its one change and committed
  set_commits : (s u v w : World D) (writer index trx table key : ℕ) (value : List ℕ) (position : ℕ) → Happens plain Step s (made (call.Begin writer index) (Ok (answers.Begin trx))) u → Happens plain Step u (made (call.Put trx table key value) (Ok answers.Put)) v
      → Happens plain Step v (made (call.Commit trx) (Ok (answers.Commit position))) w → (after more : List Commit) → after ≡ (plain w.donor).binlog ++ more → IsSet writer table key value after position
  set_commits s u v w writer index trx table key value position begins puts commits after more grown =
      let first = made_step s u _ _ begins in
      let second = made_step u v _ _ puts in
      let third = made_step v w _ _ commits in
      let whole = one_change _ _ _ trx writer index (put_of table key value) third.1.commit first.1.1 second.1 third.1.was_active in
      set_stands writer index table key value (plain v.donor).binlog third.1.commit after more position whole (grown ∙ ap (λ (d : Donor). d.binlog ++ more) third.1.is) third.1.count

  no_position : (position : ℕ) → [] ≡ position ∷ [] → ⊥
  no_position position is = cc

  same_position : (p position : ℕ) → p ∷ [] ≡ position ∷ [] → p ≡ position
  same_position p position is = cc

  -- all three calls of a `set` were made, and the last was answered by a position
  all_set : (s t : World D) (writer index trx table key : ℕ) (value : List ℕ) (last : Result EngineAnswer Cause) (position : ℕ) → Events plain Step s (made (call.Begin writer index) (Ok (answers.Begin trx)) ∷ made (call.Put trx table key value) (Ok answers.Put) ∷ made (call.Commit trx) last ∷ []) t
      → filter_map committed_at (made (call.Commit trx) last ∷ []) ≡ position ∷ [] → (after more : List Commit) → after ≡ (plain t.donor).binlog ++ more → IsSet writer table key value after position
  all_set s t writer index trx table key value (Ok (answers.Commit p)) position happened answered after more grown =
      let end = ap (λ (w : World D). (plain w.donor).binlog) happened.2.2.2 in
      let Q : ℕ → Type 0 = IsSet writer table key value after in
      subst Q (same_position p position answered) (set_commits s happened.0 happened.2.0 happened.2.2.0 writer index trx table key value p happened.1 happened.2.1 happened.2.2.1 after more (grown ∙ ap (λ b. b ++ more) (sym end)))
  all_set s t writer index trx table key value last position happened answered after more grown = absurd (no_position position answered)

  set_is : (s t : World D) (writer index table key : ℕ) (value : List ℕ) (events : List Event) (position : ℕ) → MakesSet writer index table key value events → Events plain Step s events t → filter_map committed_at events ≡ position ∷ []
      → (after more : List Commit) → after ≡ (plain t.donor).binlog ++ more → IsSet writer table key value after position
  set_is s t writer index table key value events position (not_begun cause is) happened answered after more grown = absurd (no_position position (ap (filter_map committed_at) (sym is) ∙ answered))
  set_is s t writer index table key value events position (not_changed trx cause is) happened answered after more grown = absurd (no_position position (ap (filter_map committed_at) (sym is) ∙ answered))
  set_is s t writer index table key value events position (set trx last is) happened answered after more grown =
      let P : List Event → Type 0 = λ es. Events plain Step s es t in
      all_set s t writer index trx table key value last position (subst P is happened) (ap (filter_map committed_at) (sym is) ∙ answered) after more grown

  -- each `set` of a run stands in the binlog that the run leaves
  pub are_sets : (s : World D) (ls : List Line) (events : List (List Event)) (t : World D) → Runs plain Step s ls events t → AreSets ls events (plain t.donor).binlog
  are_sets s [] events t run = tt
  are_sets s (l ∷ ls) [] t run = absurd run
  are_sets s (lines.Set writer table key value ∷ ls) (es ∷ more) t run =
      let added = events_add plain Step refines run.0 _ t (Runs-Events plain Step run.0 ls more t run.2) in
      (λ position answered. set_is s run.0 writer _ table key value es position run.1.0 run.1.1 answered (plain t.donor).binlog added.more added.binlog, are_sets run.0 ls more t run.2)
  are_sets s (l ∷ ls) (es ∷ more) t run = are_sets run.0 ls more t run.2
