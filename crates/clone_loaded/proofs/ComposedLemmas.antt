-- The two runs of a clone under load, put together: each answer that was taken was told by the
-- donor's run, each acknowledgement there was put out, and the session was opened once.
use Rattle.std.proofs.Common.{◌≡◌, ◌∙◌, ◌<◌, ◌≤◌, ◌+◌, ◌^◌, ℕ, zero, suc, true, false, List, [], ◌∷◌, ◌++◌, map, flat_map, refl, ap, sym, subst, arith, append-nil}
use Rattle.std.specs.List.{AllByRecursion, Contains}
use Rattle.clone_outside.specs.DiskCalls.{DiskState}
use Rattle.clone_outside.specs.declared.link.Link.{Ghosts as Link}
use Rattle.clone_turn.specs.Parts.{IsMadeOf, IsSublist}
use Rattle.clone_turn.proofs.EachLemmas.{each_append, each_map, each_part, each_right, each_left, each_whole}
use Rattle.clone_turn.proofs.SublistLemmas.{sublist_same}
use Rattle.clone_runs.specs.Clones.{IsFetchedBy, IsFirst, IsServedBy, IsTask, answered_of, stepped_of}
use Rattle.clone_runs.specs.Connections.{commands_of, place_of}
use Rattle.clone_runs.specs.Desk.{DeskRuns, handed, paired}
use Rattle.clone_runs.specs.Marks.{NoneAfter, NoneIn, either}
use Rattle.clone_runs.specs.Phases.{IsOpenedOnce}
use Rattle.clone_chunk.specs.declared.copy_stage.CopyStage.TheVariants.{PageCopy}
use Rattle.clone_session.specs.declared.caller.Caller.{Caller}
use Rattle.clone_wire.specs.Spelling.{spelling}
use Rattle.clone_wire.specs.declared.frame.Frame.TheVariants as frame
use Rattle.clone_calls.specs.declared.answer.DonorAnswer.{DonorAnswer}
use Rattle.clone_calls.specs.declared.call.DonorCall.TheVariants as donor
use Rattle.clone_machine.specs.Running.{JobEntry}
use Rattle.clone_machine.specs.declared.calls.JobAnswer.TheVariants as answer
use Rattle.clone_machine.specs.declared.calls.JobCall.TheVariants as call
use Rattle.clone_desk.specs.Steps.{DeskEntry, act_of}
use Rattle.clone_copying.specs.Calls.{RecipientEntry}
use Rattle.clone_reading.specs.Passing.{IsToldBy}
use Rattle.clone_reading.specs.Reading.{Bytes, IsQuiet, is_exit, is_init, leaves_in, opens_in, puts_in, reading, takes_in}
use Rattle.clone_answering.specs.Answering.{ServesNothing}
use Rattle.clone_run.specs.Done.{Job}
use Rattle.clone_run.specs.Teams.{Parts}
use Rattle.clone_loaded.proofs.CollectLemmas.{Collected}
use Rattle.clone_loaded.proofs.NumberLemmas.{fetched_by, numbered, served_by, tasks_in}
use Rattle.clone_loaded.proofs.PartLemmas.{each_itself, each_member, made_too}
use Rattle.clone_loaded.proofs.StepLemmas.{each_flat, each_unflat}
use Rattle.clone_loaded.proofs.TaskLemmas.{AreMatched, Fetch, OneTask, Serve, all_alone, all_asked, all_told, answered_same, are_tasks, fetch_tasks, serve_tasks, stepped_same, task_of, tasks_of}

module _ {X : Type 0} where
  -- a part of a list that is made of parts is in it, in its order
  part_in : (parts : List (List X)) (run part : List X) → IsMadeOf parts run → Contains parts part → IsSublist part run
  part_in parts run part made there = each_member (λ (p : List X). IsSublist p run) parts part made.order there

  -- a part without elements may be added
  with_none : (parts : List (List X)) (run : List X) → IsMadeOf parts run → IsMadeOf ([] ∷ parts) run
  with_none parts run made = record { once = made.once; order = (tt, made.order) }

  -- what is left of a list that has none
  no_member : (x : X) → Contains [] x → ⊥
  no_member x there = omega (arith, there.1)

module _ (N : Type 0) {L X R : Type 0} (link : Link L X) (state : R → DiskState) (number : ℕ) where
  abbrev OneServe : Type 0
  OneServe = Serve N link state number

  abbrev OneFetch : Type 0
  OneFetch = Fetch N link state number

  -- WHAT FOLLOWS
  pub record Composed (run : List JobEntry) (fetched : List (RecipientEntry R)) : Type 0 where
    pub told : AllByRecursion (IsToldBy run) (flat_map takes_in fetched)
    pub asked : (e : JobEntry) (caller : Caller) (floor : ℕ) (given : DonorAnswer) → Contains run e → e.call ≡ call.Donor (donor.Ack caller 2 floor) → e.answer ≡ answer.Donor given
        → (floor < 2 ^ 64) × Contains (flat_map puts_in fetched) (spelling (frame.Ack PageCopy floor))
    pub once : IsOpenedOnce (opens_in number) leaves_in run

  module _ (run : List JobEntry) (fetched : List (RecipientEntry R)) (desk : List (DeskEntry N L)) (ss : List OneServe) (fs : List OneFetch) (asides : List (List JobEntry))
      (donor_made : IsMadeOf (map (λ (s : OneServe). s.made) ss ++ asides) run) (fetch_made : IsMadeOf (map (λ (f : OneFetch). f.stepped) fs) fetched)
      (desk_made : IsMadeOf (map (λ (f : OneFetch). f.asked) fs ++ map (λ (s : OneServe). s.asked) ss) desk)
      (quiet : AllByRecursion (ServesNothing number) asides) (matched : (s : OneServe) (f : OneFetch) → Contains ss s → Contains fs f → s.task ≡ f.task → AreMatched N link state number s f) where
    abbrev Made : OneServe → List JobEntry
    Made s = s.made

    -- the calls for each task are in the donor's run
    serves_within : AllByRecursion (λ (s : OneServe). AllByRecursion (Contains run) s.made) ss
    serves_within =
        let all = each_part (Contains run) (map Made ss ++ asides) run donor_made (each_itself run) in
        unmapped ss (each_left (AllByRecursion (Contains run)) (map Made ss) asides all)
      where
        unmapped : (xs : List OneServe) → AllByRecursion (AllByRecursion (Contains run)) (map Made xs) → AllByRecursion (λ (s : OneServe). AllByRecursion (Contains run) s.made) xs
        unmapped [] each = tt
        unmapped (x ∷ xs) each = (each.0, unmapped xs each.1)

    all_heard : serve_tasks N link state number ss ≡ fetch_tasks N link state number fs → AllByRecursion (IsToldBy run) (flat_map takes_in fetched)
    all_heard same =
        let Q : RecipientEntry R → Type 0 = λ e. AllByRecursion (IsToldBy run) (takes_in e) in
        let each = all_told N link state number ss fs matched run ss fs (each_itself ss) (each_itself fs) same serves_within in
        each_flat takes_in (IsToldBy run) fetched (each_whole Q (map (λ (f : OneFetch). f.stepped) fs) fetched fetch_made (mapped Q fs each))
      where
        mapped : (Q : RecipientEntry R → Type 0) (xs : List OneFetch) → AllByRecursion (λ (f : OneFetch). AllByRecursion Q f.stepped) xs → AllByRecursion (AllByRecursion Q) (map (λ (f : OneFetch). f.stepped) xs)
        mapped Q [] each = tt
        mapped Q (x ∷ xs) each = (each.0, mapped Q xs each.1)

    abbrev WasPut : Bytes → Type 0
    WasPut bytes = Contains (flat_map puts_in fetched) bytes

    -- each acknowledgement of a call was put out
    abbrev IsAsked : JobEntry → Type 0
    IsAsked e = (caller : Caller) (floor : ℕ) (given : DonorAnswer) → e.call ≡ call.Donor (donor.Ack caller 2 floor) → e.answer ≡ answer.Donor given → (floor < 2 ^ 64) × WasPut (spelling (frame.Ack PageCopy floor))

    fetches_put : AllByRecursion (λ (f : OneFetch). AllByRecursion WasPut (flat_map puts_in f.stepped)) fs
    fetches_put =
        let Q : RecipientEntry R → Type 0 = λ e. AllByRecursion WasPut (puts_in e) in
        let all = each_part Q (map (λ (f : OneFetch). f.stepped) fs) fetched fetch_made (each_unflat puts_in WasPut fetched (each_itself (flat_map puts_in fetched))) in
        unmapped Q fs all
      where
        unmapped : (Q : RecipientEntry R → Type 0) (xs : List OneFetch) → AllByRecursion (AllByRecursion (λ e. AllByRecursion WasPut (puts_in e))) (map (λ (f : OneFetch). f.stepped) xs) → AllByRecursion (λ (f : OneFetch). AllByRecursion WasPut (flat_map puts_in f.stepped)) xs
        unmapped Q [] each = tt
        unmapped Q (x ∷ xs) each = (each_flat puts_in WasPut x.stepped each.0, unmapped Q xs each.1)

    serves_asked : (xs : List OneServe) → AllByRecursion (λ (s : OneServe). AllByRecursion WasPut (commands_of s.does.ends)) xs → AllByRecursion (AllByRecursion IsAsked) (map Made xs)
    serves_asked [] each = tt
    serves_asked (s ∷ xs) each = (
      each_map (Contains s.made) IsAsked (λ e there caller floor given call_is answer_is.
          let a = s.does.acknowledged e caller floor given there call_is answer_is in
          (a.0, each_member WasPut (commands_of s.does.ends) (spelling (frame.Ack PageCopy floor)) each.0 a.1)) s.made (each_itself s.made),
      serves_asked xs each.1,
    )

    asides_asked : (xs : List (List JobEntry)) → AllByRecursion (ServesNothing number) xs → AllByRecursion (AllByRecursion IsAsked) xs
    asides_asked [] each = tt
    asides_asked (made ∷ xs) each = (
      each_map (Contains made) IsAsked (λ e there caller floor given call_is answer_is. absurd (no_member (spelling (frame.Ack PageCopy floor)) (each.0.1 e caller floor given there call_is answer_is).1)) made (each_itself made),
      asides_asked xs each.1,
    )

    all_acked : serve_tasks N link state number ss ≡ fetch_tasks N link state number fs → AllByRecursion IsAsked run
    all_acked same =
        let put = all_asked N link state number ss fs matched WasPut ss fs (each_itself ss) (each_itself fs) same fetches_put in
        each_whole IsAsked (map Made ss ++ asides) run donor_made (each_append (AllByRecursion IsAsked) (map Made ss) asides (serves_asked ss put) (asides_asked asides quiet))

    -- ---- the session was opened once

    abbrev Opened : Type 0
    Opened = (first : OneTask N link state number) (others : List (OneTask N link state number)) → AllByRecursion (IsTask (reading {N = N} {L = L} {R = R} number)) (first ∷ others)
        → ((c : Bytes) → is_init c ≡ true → is_exit c ≡ false) → IsFirst (reading {N = N} {L = L} {R = R} number) first others desk
        → IsServedBy (reading {N = N} {L = L} {R = R} number) (first ∷ others) run → IsFetchedBy (reading {N = N} {L = L} {R = R} number) (first ∷ others) fetched → IsOpenedOnce (opens_in number) leaves_in run

    served_by_tasks : (tasks : List (OneTask N link state number)) → answered_of tasks ≡ map Made ss → IsServedBy (reading {N = N} {L = L} {R = R} number) tasks run
    served_by_tasks tasks same = record {
      joined = run;
      last = [];
      own = [];
      asides = asides;
      is = sym (append-nil run);
      parts = with_none (answered_of tasks ++ asides) run (subst (λ xs. IsMadeOf (xs ++ asides) run) (sym same) donor_made);
      quiet = (tt, each_map (ServesNothing number) (IsQuiet number) (λ made nothing. nothing.0) asides quiet);
      end = tt;
    }

    fetched_by_tasks : (tasks : List (OneTask N link state number)) → stepped_of tasks ≡ map (λ (f : OneFetch). f.stepped) fs → NoneAfter is_init is_exit (flat_map puts_in fetched) → IsFetchedBy (reading {N = N} {L = L} {R = R} number) tasks fetched
    fetched_by_tasks tasks same once = record {
      joined = fetched;
      last = [];
      own = [];
      is = sym (append-nil fetched);
      parts = with_none (stepped_of tasks) fetched (subst (λ xs. IsMadeOf xs fetched) (sym same) fetch_made);
      quiet = (refl, refl);
      once = once;
    }

    first_of : (s : OneServe) (f : OneFetch) (others : List (OneTask N link state number)) → s.task ≡ 0 → f.task ≡ 0 → Contains ss s → Contains fs f → DeskRuns [] (map act_of desk)
        → AllByRecursion (λ (t : OneTask N link state number). NoneIn (either is_init is_exit) (flat_map puts_in t.stepped)) others → IsFirst (reading {N = N} {L = L} {R = R} number) (task_of N link state number s f) others desk
    first_of s f others s_is f_is in_s in_f runs alone =
        let asks = each_left (λ (p : List (DeskEntry N L)). IsSublist p desk) (map (λ (x : OneFetch). x.asked) fs) (map (λ (x : OneServe). x.asked) ss) desk_made.order in
        let serves = each_right (λ (p : List (DeskEntry N L)). IsSublist p desk) (map (λ (x : OneFetch). x.asked) fs) (map (λ (x : OneServe). x.asked) ss) desk_made.order in
        record {
          number = 0;
          makes = f.asked;
          serves = s.asked;
          runs = runs;
          makes_in = each_member (λ (x : OneFetch). IsSublist x.asked desk) fs f (of_fetches fs asks) in_f;
          serves_in = each_member (λ (x : OneServe). IsSublist x.asked desk) ss s (of_serves ss serves) in_s;
          made = subst (λ n. IsSublist (map place_of f.does.ends) (paired n (map act_of f.asked))) f_is (subst (IsSublist (map place_of f.does.ends)) f.does.places (sublist_same (map place_of f.does.ends)));
          served = subst (λ n. IsSublist (map place_of s.does.ends) (handed n (map act_of s.asked))) s_is (subst (IsSublist (map place_of s.does.ends)) s.does.places (sublist_same (map place_of s.does.ends)));
          alone = alone;
        }
      where
        of_fetches : (xs : List OneFetch) → AllByRecursion (λ (p : List (DeskEntry N L)). IsSublist p desk) (map (λ (x : OneFetch). x.asked) xs) → AllByRecursion (λ (x : OneFetch). IsSublist x.asked desk) xs
        of_fetches [] each = tt
        of_fetches (x ∷ xs) each = (each.0, of_fetches xs each.1)

        of_serves : (xs : List OneServe) → AllByRecursion (λ (p : List (DeskEntry N L)). IsSublist p desk) (map (λ (x : OneServe). x.asked) xs) → AllByRecursion (λ (x : OneServe). IsSublist x.asked desk) xs
        of_serves [] each = tt
        of_serves (x ∷ xs) each = (each.0, of_serves xs each.1)

    opened_by : (n : ℕ) (xs : List OneServe) (ys : List OneFetch) → 1 ≤ n → xs ≡ ss → ys ≡ fs → serve_tasks N link state number xs ≡ numbered n 0 → fetch_tasks N link state number ys ≡ numbered n 0
        → AllByRecursion (Contains ss) xs → AllByRecursion (Contains fs) ys → DeskRuns [] (map act_of desk) → NoneAfter is_init is_exit (flat_map puts_in fetched) → ((c : Bytes) → is_init c ≡ true → is_exit c ≡ false) → Opened → IsOpenedOnce (opens_in number) leaves_in run
    opened_by zero xs ys some xs_is ys_is serves fetches in_s in_f runs once apart opened = absurd (omega (arith, some))
    opened_by (suc n) [] ys some xs_is ys_is serves fetches in_s in_f runs once apart opened = absurd cc
    opened_by (suc n) (s ∷ xs) [] some xs_is ys_is serves fetches in_s in_f runs once apart opened = absurd cc
    opened_by (suc n) (s ∷ xs) (f ∷ ys) some xs_is ys_is serves fetches in_s in_f runs once apart opened =
        let same : serve_tasks N link state number (s ∷ xs) ≡ fetch_tasks N link state number (f ∷ ys) = serves ∙ sym fetches in
        let others = tasks_of N link state number xs ys in
        let s_is : s.task ≡ 0 = cc in
        let f_is : f.task ≡ 0 = cc in
        let later : fetch_tasks N link state number ys ≡ numbered n (0 + 1) = cc in
        opened (task_of N link state number s f) others (are_tasks N link state number ss fs matched (s ∷ xs) (f ∷ ys) in_s in_f same) apart
        (first_of s f others s_is f_is in_s.0 in_f.0 runs (all_alone N link state number n (0 + 1) xs ys (omega arith) later))
        (served_by_tasks (task_of N link state number s f ∷ others) (answered_same N link state number (s ∷ xs) (f ∷ ys) same ∙ ap (map Made) xs_is))
        (fetched_by_tasks (task_of N link state number s f ∷ others) (stepped_same N link state number (s ∷ xs) (f ∷ ys) same ∙ ap (map (λ (x : OneFetch). x.stepped)) ys_is) once)

  pub composed : (jobs : List Job) (p : Parts N L R) (c : Collected N link state number jobs p) (n : ℕ) (run : List JobEntry) (fetched : List (RecipientEntry R)) (desk : List (DeskEntry N L)) → 1 ≤ n
      → tasks_in served_by jobs ≡ numbered n 0 → tasks_in fetched_by jobs ≡ numbered n 0 → IsMadeOf p.donor run → IsMadeOf p.recipient fetched → IsMadeOf p.desk desk
      → ((s : OneServe) (f : OneFetch) → Contains c.serves_of s → Contains c.fetches_of f → s.task ≡ f.task → AreMatched N link state number s f) → DeskRuns [] (map act_of desk) → NoneAfter is_init is_exit (flat_map puts_in fetched)
      → ((b : Bytes) → is_init b ≡ true → is_exit b ≡ false)
      → ((first : OneTask N link state number) (others : List (OneTask N link state number)) → AllByRecursion (IsTask (reading {N = N} {L = L} {R = R} number)) (first ∷ others) → ((b : Bytes) → is_init b ≡ true → is_exit b ≡ false)
      → IsFirst (reading {N = N} {L = L} {R = R} number) first others desk → IsServedBy (reading {N = N} {L = L} {R = R} number) (first ∷ others) run → IsFetchedBy (reading {N = N} {L = L} {R = R} number) (first ∷ others) fetched
      → IsOpenedOnce (opens_in number) leaves_in run) → Composed run fetched
  composed jobs p c n run fetched desk some serves fetches made_d made_r made_k matched runs once apart opened =
      let ss = c.serves_of in
      let fs = c.fetches_of in
      let serves_are = c.served ∙ serves in
      let fetches_are = c.fetched ∙ fetches in
      let donor_made = made_too p.donor (map (λ (s : OneServe). s.made) ss ++ c.asides) run c.donor made_d in
      let fetch_made = made_too p.recipient (map (λ (f : OneFetch). f.stepped) fs) fetched c.recipient made_r in
      let desk_made = made_too p.desk (map (λ (f : OneFetch). f.asked) fs ++ map (λ (s : OneServe). s.asked) ss) desk c.desk made_k in
      let same = serves_are ∙ sym fetches_are in
      record {
        told = all_heard run fetched desk ss fs c.asides donor_made fetch_made desk_made c.quiet matched same;
        asked = λ e caller floor given there. each_member _ run e (all_acked run fetched desk ss fs c.asides donor_made fetch_made desk_made c.quiet matched same) there caller floor given;
        once = opened_by run fetched desk ss fs c.asides donor_made fetch_made desk_made c.quiet matched n ss fs some refl refl serves_are fetches_are (each_itself ss) (each_itself fs) runs once apart opened;
      }
