-- A clone by several tasks: what the recipient took was answered, and the session was opened once.
use Rattle.std.proofs.Common.{◌≡◌, true, false, List, [], ◌∷◌, ◌++◌, map, sym, subst, flat_map}
use Rattle.std.specs.List.{AllByRecursion, Contains}
use Rattle.clone_turn.specs.Parts.{IsSublist}
use Rattle.clone_turn.proofs.EachLemmas.{each_append, each_left, each_map, each_sublist, each_whole}
use Rattle.clone_turn.proofs.SublistLemmas.{sublist_flat, sublist_trans}
use Rattle.clone_runs.specs.Marks.{NoneAfter, NoneIn, either}
use Rattle.clone_runs.specs.Phases.{IsOpenedOnce}
use Rattle.clone_runs.specs.Connections.{AreInOrder, answers_of, commands_of, place_of}
use Rattle.clone_runs.specs.Clones.{IsFetchedBy, IsFirst, IsServedBy, IsTask, Reading, Task, answered_of, stepped_of}
use Rattle.clone_runs.proofs.MarkLemmas.{after_append, after_run, after_sublist, ascends_sublist, by_places, none_left, none_right, none_sublist}
use Rattle.clone_runs.proofs.MemberLemmas.{each_flat, each_itself, each_mapped, each_member, each_unflat, each_unmapped, sublist_left, sublist_map}
use Rattle.clone_runs.proofs.PhaseLemmas.{once}
use Rattle.clone_runs.proofs.ConnectionLemmas.{each_came, each_taken, in_order, in_sublist}
use Rattle.clone_runs.proofs.DeskLemmas.{handed_ascends, paired_ascends}
use Rattle.clone_runs.proofs.CarriedLemmas.{carried_after, carried_quiet}

module _ {E F G C X : Type 0} (r : Reading E F G C X) where
  abbrev OneTask : Type 0
  OneTask = Task E F C X

  -- the calls for each task stand in the donor's run, in their order
  answered_within : (tasks : List OneTask) (run : List E) → IsServedBy r tasks run → AllByRecursion (λ (t : OneTask). IsSublist t.answered run) tasks
  answered_within tasks run s =
      let within : IsSublist s.joined run = subst (IsSublist s.joined) (sym s.is) (sublist_left s.joined s.last) in
      let parts = answered_of tasks in
      let each = each_unmapped (λ (t : OneTask). t.answered) (λ part. IsSublist part s.joined) tasks (each_left (λ part. IsSublist part s.joined) parts s.asides s.parts.order.1) in
      each_map (λ (t : OneTask). IsSublist t.answered s.joined) (λ (t : OneTask). IsSublist t.answered run) (λ t one. sublist_trans t.answered s.joined run one within) tasks each

  -- those of each task stand in the recipient's
  stepped_within : (first : OneTask) (others : List OneTask) (fetched : List F) → IsFetchedBy r (first ∷ others) fetched → IsSublist first.stepped fetched
  stepped_within first others fetched f =
      sublist_trans first.stepped f.joined fetched f.parts.order.1.0 (subst (IsSublist f.joined) (sym f.is) (sublist_left f.joined f.last))

  module _ (run : List E) where
    abbrev WasGiven : X → Type 0
    WasGiven got = Contains (flat_map r.told run) got

    task_answers : (t : OneTask) → IsTask r t → IsSublist t.answered run → AllByRecursion WasGiven (flat_map r.takes t.stepped)
    task_answers t is within =
        let among : IsSublist (answers_of t.served) (flat_map r.told run) = sublist_trans _ _ _ is.told (sublist_flat r.told t.answered run within) in
        let given : AllByRecursion WasGiven (answers_of t.served) = each_sublist WasGiven _ _ among (each_itself (flat_map r.told run)) in
        subst (AllByRecursion WasGiven) (sym is.took) (each_taken WasGiven t.served t.made given is.heard)

    -- what an entry takes was given
    abbrev TakesGiven : F → Type 0
    TakesGiven e = AllByRecursion WasGiven (r.takes e)

    tasks_answers : (tasks : List OneTask) → AllByRecursion (IsTask r) tasks → AllByRecursion (λ (t : OneTask). IsSublist t.answered run) tasks → AllByRecursion (λ (t : OneTask). AllByRecursion TakesGiven t.stepped) tasks
    tasks_answers [] are within = tt
    tasks_answers (t ∷ tasks) are within = (each_unflat r.takes WasGiven t.stepped (task_answers t are.0 within.0), tasks_answers tasks are.1 within.1)

    takes_nothing : (es : List F) → flat_map r.takes es ≡ [] → AllByRecursion TakesGiven es
    takes_nothing es none = each_unflat r.takes WasGiven es (subst (AllByRecursion WasGiven) (sym none) tt)

    pub answered : (tasks : List OneTask) (fetched : List F) (got : X) → AllByRecursion (IsTask r) tasks → IsServedBy r tasks run → IsFetchedBy r tasks fetched → Contains (flat_map r.takes fetched) got → WasGiven got
    answered tasks fetched got are s f there =
        let steps = each_mapped (λ (t : OneTask). t.stepped) (AllByRecursion TakesGiven) tasks (tasks_answers tasks are (answered_within tasks run s)) in
        let parts = f.own ∷ stepped_of tasks in
        let joined = each_whole TakesGiven parts f.joined f.parts (takes_nothing f.own f.quiet.0, steps) in
        let all : AllByRecursion TakesGiven fetched = subst (AllByRecursion TakesGiven) (sym f.is) (each_append TakesGiven f.joined f.last joined (takes_nothing f.last f.quiet.1)) in
        each_member WasGiven (flat_map r.takes fetched) got (each_flat r.takes WasGiven fetched all) there

  -- the other tasks' calls neither open the session nor end it
  abbrev IsQuiet : OneTask → Type 0
  IsQuiet t = NoneIn (either r.opens r.leaves) t.answered

  other_quiet : (t : OneTask) → IsTask r t → NoneIn (either r.inits r.exits) (flat_map r.puts t.stepped) → IsQuiet t
  other_quiet t is none =
      let put : NoneIn (either r.inits r.exits) (commands_of t.made) = none_sublist (either r.inits r.exits) _ _ is.put none in
      let came : NoneIn (either r.inits r.exits) (commands_of t.served) = each_came (λ c. either r.inits r.exits c ≡ false) t.made t.served put is.ends in
      carried_quiet r.inits r.exits r.opens r.leaves (commands_of t.served) t.answered (none_left r.inits r.exits _ came) (none_right r.inits r.exits _ came) is.carried

  others_quiet : (tasks : List OneTask) → AllByRecursion (IsTask r) tasks → AllByRecursion (λ (t : OneTask). NoneIn (either r.inits r.exits) (flat_map r.puts t.stepped)) tasks → AllByRecursion IsQuiet tasks
  others_quiet [] are none = tt
  others_quiet (t ∷ tasks) are none = (other_quiet t are.0 none.0, others_quiet tasks are.1 none.1)

  -- the first task's commands came in the order in which it put them out
  first_order : (first : OneTask) (others : List OneTask) (desk : List G) → IsTask r first → IsFirst r first others desk → AreInOrder first.served first.made
  first_order first others desk is f =
      let up = handed_ascends f.number (map r.act desk) (map r.act f.serves) f.runs (sublist_map r.act f.serves desk f.serves_in) in
      let up_too = paired_ascends f.number (map r.act desk) (map r.act f.makes) f.runs (sublist_map r.act f.makes desk f.makes_in) in
      in_order first.served first.made
      (by_places place_of first.served (ascends_sublist (λ p. p) _ _ f.served up))
      (by_places place_of first.made (ascends_sublist (λ p. p) _ _ f.made up_too)) is.ends

  first_after : (first : OneTask) (others : List OneTask) (fetched : List F) (desk : List G) → IsTask r first → IsFirst r first others desk → IsFetchedBy r (first ∷ others) fetched → NoneAfter r.inits r.exits (commands_of first.served)
  first_after first others fetched desk is f fetch =
      let came = in_sublist first.served first.made (first_order first others desk is f) in
      let put = sublist_flat r.puts first.stepped fetched (stepped_within first others fetched fetch) in
      after_sublist r.inits r.exits _ _ (sublist_trans _ _ _ came (sublist_trans _ _ _ is.put put)) fetch.once

  pub opened : (first : OneTask) (others : List OneTask) (run : List E) (fetched : List F) (desk : List G) → AllByRecursion (IsTask r) (first ∷ others) → ((c : C) → r.inits c ≡ true → r.exits c ≡ false)
      → IsFirst r first others desk → IsServedBy r (first ∷ others) run → IsFetchedBy r (first ∷ others) fetched → IsOpenedOnce r.opens r.leaves run
  opened first others run fetched desk are apart f s fetch =
      let made = carried_after r.inits r.exits r.opens r.leaves apart (commands_of first.served) first.answered (first_after first others fetched desk are.0 f fetch) are.0.carried in
      let quiet = each_append (NoneIn (either r.opens r.leaves)) (answered_of others) s.asides (each_mapped (λ (t : OneTask). t.answered) (NoneIn (either r.opens r.leaves)) others (others_quiet others are.1 f.alone)) s.quiet.1 in
      let joined = after_run r.opens r.leaves first.answered s.joined s.own (answered_of others ++ s.asides) s.parts s.quiet.0 quiet made in
      once r.opens r.leaves run (subst (NoneAfter r.opens r.leaves) (sym s.is) (after_append r.opens r.leaves s.joined s.last joined s.end))
