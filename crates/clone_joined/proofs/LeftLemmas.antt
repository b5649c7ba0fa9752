-- However a step of a task ends the clone: the recipient's disk is in progress still, or complete.
use Rattle.std.proofs.Common.{ℕ, ◌≡◌, ◌<◌, ◌^◌, ◌⊎◌, [], List, true, Option, None, Some, MatchOption, refl, sym, ap, subst, ◌∙◌, inl, inr}
use Rattle.std.specs.Prelude.{not}
use Rattle.clone_outside.specs.Disk.{DiskImage, ForTold, Steps}
use Rattle.clone_outside.specs.DiskCalls.{DiskState}
use Rattle.clone_outside.specs.declared.mark.CloneEnd as mark
use Rattle.clone_outside.specs.declared.mark.Mark.TheVariants as marks
use Rattle.clone_model.specs.History.{fold}
use Rattle.clone_plain.specs.Donor.{history}
use Rattle.clone_lay.specs.Copying as copy
use Rattle.clone_lay.specs.Copying.{IsCompleting}
use Rattle.clone_lay.specs.Marked.{marked}
use Rattle.clone_staged.specs.Holds.{HoldsCopy}
use Rattle.clone_session.specs.declared.info.Stop.{Stop}
use Rattle.clone_tasks.specs.Rules.{rule_at}
use Rattle.clone_tasks.specs.Tables.{is_done}
use Rattle.clone_tasks.specs.declared.rule.Link.TheVariants.{Absent}
use Rattle.clone_tasks.specs.declared.rule.Rule.{Rule}
use Rattle.clone_tasks.specs.declared.rule.Rule.TheVariants as rule
use Rattle.clone_recipient.specs.Receptions.{Reception}
use Rattle.clone_recipient.specs.Showing.{IsEndOf}
use Rattle.clone_fetch.specs.Fetching as fetch
use Rattle.clone_fetch.specs.Fetching.{Completes, StepsBy, requester}
use Rattle.clone_fetch.specs.declared.answer.TaskAnswer.{TaskAnswer}
use Rattle.clone_network.specs.Connections.{link_over, sent_behind}
use Rattle.clone_network.specs.Networks as network
use Rattle.clone_network.specs.Networks.{Network, StepsTask}
use Rattle.clone_engine.specs.Donor.{Donor}
use Rattle.clone_joined.specs.Joined.{HoldsAt, IsCloned, IsInProgress, IsJoined, IsLeft, IsUnfinished}
use Rattle.clone_joined.proofs.ClonedLemmas.{cloned}
use Rattle.clone_joined.proofs.EndingLemmas.{done_of}
use Rattle.clone_joined.proofs.MarkLemmas.{Leaves, completing, joined_marked, marked_still, staying, step_leaves}

-- it is in progress
still_left : (number : ℕ) (stop : Option Stop) (d : Donor) (now : Option DiskImage) → ForTold now (IsInProgress number) → IsLeft number stop d now
still_left number stop d now is = λ some. by now is
  where
    by : (o : Option DiskImage) → ForTold o (IsInProgress number) → ForTold o (λ m. IsUnfinished number m ⊎ MatchOption stop ⊥ (λ first. HoldsAt first d m))
    by None is = tt
    by (Some m) is = inl (inl is)

-- it is complete
cloned_left : (number : ℕ) (stop : Option Stop) (d : Donor) (floor : Option ℕ) (now : Option DiskImage) (position : ℕ) → IsCloned number stop d floor now position → IsLeft number stop d now
cloned_left number stop d floor now position c = λ some. by now (c.holds some)
  where
    by : (o : Option DiskImage) → ForTold o (λ m. HoldsCopy m (fold (history c.at.donor)) position) → ForTold o (λ m. IsUnfinished number m ⊎ MatchOption stop ⊥ (λ first. HoldsAt first d m))
    by None holds = tt
    by (Some m) holds =
        let at : HoldsAt c.first d m = record { at = c.at; gone_on = c.gone_on; holds = subst (λ (p : ℕ). HoldsCopy m (fold (history c.at.donor)) p) c.position_is holds } in
        inr (subst (λ (o : Option Stop). MatchOption o ⊥ (λ first. HoldsAt first d m)) (sym c.is) at)

module _ (number : ℕ) (stop : Option Stop) (d : Donor) (r : Reception) (told : Option DiskImage) (n : Network) (bounded : number < 2 ^ 64) (j : IsJoined number stop d r told n) where
  left_same : (now : Option DiskImage) → now ≡ told → IsLeft number stop d now
  left_same now same = still_left number stop d now (subst (λ (o : Option DiskImage). ForTold o (IsInProgress number)) (sym same) (joined_marked number stop d r told n j))

  -- all was copied
  module _ (copied : is_done r.table.phase ≡ true) where
    by_marking : (last : mark.CloneEnd) → IsEndOf r last → (now : Option DiskImage) → Steps told now (marked (marks.Complete last)) → IsLeft number stop d now
    by_marking last is now steps = cloned_left number stop d r.table.floor now r.position (cloned number stop d r told n bounded j last is copied r.table.floor now r.position refl refl steps)

    -- the numbers of the end are there
    numbered_left : (last : mark.CloneEnd) → IsEndOf r last → (was now : Option DiskImage) → Steps was now (marked (marks.Ending last)) → IsLeft number stop d now
    numbered_left last is None now steps = λ some. subst (λ (o : Option DiskImage). ForTold o (λ m. IsUnfinished number m ⊎ MatchOption stop ⊥ (λ first. HoldsAt first d m))) (sym steps) tt
    numbered_left last is (Some m) now steps = λ some. subst (λ (o : Option DiskImage). ForTold o (λ m. IsUnfinished number m ⊎ MatchOption stop ⊥ (λ first. HoldsAt first d m))) (sym steps) (inl (inr (last, is.session ∙ j.session, refl)))

    by_either : (last : mark.CloneEnd) → IsEndOf r last → (now : Option DiskImage) → IsCompleting last told now → IsLeft number stop d now
    by_either last is now (copy.before same) = left_same now same
    by_either last is now (copy.numbered steps) = numbered_left last is told now steps
    by_either last is now (copy.done steps) = by_marking last is now steps

    by_completing : (s : Reception) (now : Option DiskImage) (sent put : List ℕ) (answer : TaskAnswer) → Completes r s told now sent put answer → IsLeft number stop d now
    by_completing s now sent put answer (fetch.completes last is steps ended bytes heard) = by_marking last is now steps
    by_completing s now sent put answer (fetch.not_completed last is either ended bytes heard) = by_either last is now either
    by_completing s now sent put answer (fetch.not_marked last is either same bytes heard) = by_either last is now either
    by_completing s now sent put answer (fetch.not_left last is steps same bytes heard) = by_marking last is now steps

  by_leaving : (which : Rule) (s : Reception) (disk after : DiskState) (a b x y : List ℕ) (answer : TaskAnswer) → disk.told ≡ told → (which ≡ rule.Complete → is_done r.table.phase ≡ true) → Leaves which (requester r disk a b) (requester s after x y) answer → IsLeft number stop d after.told
  by_leaving which s disk after a b x y answer same done (staying mark_is) =
      still_left number stop d after.told (marked_still number disk.told after.told mark_is (subst (λ (o : Option DiskImage). ForTold o (IsInProgress number)) (sym same) (joined_marked number stop d r told n j)))
  by_leaving which s disk after a b x y answer same done (completing is did) =
      by_completing (done is) s after.told b y answer (subst (λ (o : Option DiskImage). Completes r s o after.told b y answer) same did)

pub joined_ends : (number : ℕ) (stop : Option Stop) (d : Donor) (r s : Reception) (disk after : DiskState) (n m : Network) (task floor : ℕ) (answer : TaskAnswer) → number < 2 ^ 64 → IsJoined number stop d r disk.told n → StepsTask task floor r s disk after n m answer → IsLeft number stop d after.told
joined_ends number stop d r s disk after n m task floor answer bounded j (network.over seat connection at new made sits has here f is) =
    let which : Rule = rule_at seat.made r.table task (link_over at) in
    by_leaving number stop d r disk.told n bounded j which s disk after at.to_task (sent_behind (not at.cut) at.to_donor) f.received f.sent answer refl (done_of seat.made r.table task (link_over at))
    (step_leaves which (link_over at) task floor (requester r disk at.to_task (sent_behind (not at.cut) at.to_donor)) (requester s after f.received f.sent) answer f.steps)
joined_ends number stop d r s disk after n m task floor answer bounded j (network.apart seat next connections sits none c is) =
    let which : Rule = rule_at seat.made r.table task Absent in
    by_leaving number stop d r disk.told n bounded j which s disk after [] [] c.received c.sent answer refl (done_of seat.made r.table task Absent)
    (step_leaves which Absent task floor (requester r disk [] []) (requester s after c.received c.sent) answer c.steps)
joined_ends number stop d r s disk after n m task floor answer bounded j (network.absent none rests idle) = left_same number stop d r disk.told n bounded j after.told (ap (λ (e : DiskState). e.told) rests.disk)
joined_ends number stop d r s disk after n m task floor answer bounded j (network.no_room rests heard) = left_same number stop d r disk.told n bounded j after.told (ap (λ (e : DiskState). e.told) rests.disk)
