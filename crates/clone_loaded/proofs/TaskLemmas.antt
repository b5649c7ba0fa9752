-- The tasks of a run: what each of them did, and what was done for it.
use Rattle.std.proofs.Common.{◌≡◌, ◌≢◌, ◌<◌, ◌+◌, ℕ, zero, suc, List, [], ◌∷◌, ◌++◌, map, flat_map, refl, ap, sym, subst, arith}
use Rattle.std.specs.Prelude.{⊤}
use Rattle.std.specs.List.{AllByRecursion, Contains}
use Rattle.clone_outside.specs.DiskCalls.{DiskState}
use Rattle.clone_outside.specs.declared.link.Link.{Ghosts as Link}
use Rattle.clone_outside.specs.declared.link.Side.TheVariants.{Donor, Requester}
use Rattle.clone_turn.proofs.EachLemmas.{each_append, each_map, each_right, each_left, each_sublist}
use Rattle.clone_runs.specs.Marks.{NoneIn, either}
use Rattle.clone_runs.specs.Clones.{IsTask, Task, answered_of, stepped_of}
use Rattle.clone_runs.specs.Connections.{AreOf, WasServed, answers_of, commands_of}
use Rattle.clone_machine.specs.Running.{JobEntry}
use Rattle.clone_copying.specs.Calls.{RecipientEntry}
use Rattle.clone_reading.specs.Passing.{IsToldBy}
use Rattle.clone_reading.specs.Reading.{Bytes, is_exit, is_init, puts_in, reading, takes_in}
use Rattle.clone_matched.specs.Parts.{AreApart, DeskPart, IsApart, UsesDesk, asked_of}
use Rattle.clone_loaded.proofs.CollectLemmas.{FetchPart, ServePart}
use Rattle.clone_loaded.proofs.HeardLemmas.{each_came, each_taken}
use Rattle.clone_loaded.proofs.NumberLemmas.{numbered}
use Rattle.clone_loaded.proofs.PartLemmas.{each_itself, each_member}
use Rattle.clone_loaded.proofs.StepLemmas.{each_unflat}

-- ---- numbers

abbrev AreDistinct : List ℕ → Type 0
AreDistinct [] = ⊤
AreDistinct (n ∷ ns) = AllByRecursion (λ m. n ≢ m) ns × AreDistinct ns

above : (n low first : ℕ) → low < first → AllByRecursion (λ m. low ≢ m) (numbered n first)
above zero low first less = tt
above (suc n) low first less = ((λ is. omega (arith, is, less)), above n low (first + 1) (omega (arith, less)))

distinct : (n first : ℕ) → AreDistinct (numbered n first)
distinct zero first = tt
distinct (suc n) first = (above n first (first + 1) (omega arith), distinct n (first + 1))

module _ {X Y : Type 0} (f : X → Y) (P : Y → Type 0) where
  each_mapped : (xs : List X) → AllByRecursion (λ x. P (f x)) xs → AllByRecursion P (map f xs)
  each_mapped [] each = tt
  each_mapped (x ∷ xs) each = (each.0, each_mapped xs each.1)

  each_unmapped : (xs : List X) → AllByRecursion P (map f xs) → AllByRecursion (λ x. P (f x)) xs
  each_unmapped [] each = tt
  each_unmapped (x ∷ xs) each = (each.0, each_unmapped xs each.1)

module _ (N : Type 0) {L X R : Type 0} (link : Link L X) (state : R → DiskState) (number : ℕ) where
  abbrev pub Serve : Type 0
  Serve = ServePart N link state number

  abbrev pub Fetch : Type 0
  Fetch = FetchPart N link state number

  abbrev pub OneTask : Type 0
  OneTask = Task JobEntry (RecipientEntry R) Bytes Bytes

  abbrev pub task_of : Serve → Fetch → OneTask
  task_of s f = record { stepped = f.stepped; answered = s.made; made = f.does.ends; served = s.does.ends }

  -- each job that serves with the one that fetches at the same place
  abbrev pub tasks_of : List Serve → List Fetch → List OneTask
  tasks_of [] fs = []
  tasks_of (s ∷ ss) [] = []
  tasks_of (s ∷ ss) (f ∷ fs) = task_of s f ∷ tasks_of ss fs

  abbrev pub serve_tasks : List Serve → List ℕ
  serve_tasks ss = map (λ (s : Serve). s.task) ss

  abbrev pub fetch_tasks : List Fetch → List ℕ
  fetch_tasks fs = map (λ (f : Fetch). f.task) fs

  pub answered_same : (ss : List Serve) (fs : List Fetch) → serve_tasks ss ≡ fetch_tasks fs → answered_of (tasks_of ss fs) ≡ map (λ (s : Serve). s.made) ss
  answered_same [] fs same = refl
  answered_same (s ∷ ss) [] same = absurd cc
  answered_same (s ∷ ss) (f ∷ fs) same = ap (λ xs. s.made ∷ xs) (answered_same ss fs cc)

  pub stepped_same : (ss : List Serve) (fs : List Fetch) → serve_tasks ss ≡ fetch_tasks fs → stepped_of (tasks_of ss fs) ≡ map (λ (f : Fetch). f.stepped) fs
  stepped_same [] [] same = refl
  stepped_same [] (f ∷ fs) same = absurd cc
  stepped_same (s ∷ ss) [] same = absurd cc
  stepped_same (s ∷ ss) (f ∷ fs) same = ap (λ xs. f.stepped ∷ xs) (stepped_same ss fs cc)

  -- ---- at the desk

  abbrev pub as_serve : Serve → DeskPart N L
  as_serve s = record { side = Donor; task = s.task; lent = s.lent; asked = s.asked }

  abbrev pub as_fetch : Fetch → DeskPart N L
  as_fetch f = record { side = Requester; task = f.task; lent = f.lent; asked = f.asked }

  abbrev pub desk_parts : List Serve → List Fetch → List (DeskPart N L)
  desk_parts ss fs = map as_fetch fs ++ map as_serve ss

  asked_serves : (ss : List Serve) → map asked_of (map as_serve ss) ≡ map (λ (s : Serve). s.asked) ss
  asked_serves [] = refl
  asked_serves (s ∷ ss) = ap (λ xs. s.asked ∷ xs) (asked_serves ss)

  pub asked_same : (ss : List Serve) (fs : List Fetch) → map asked_of (desk_parts ss fs) ≡ map (λ (f : Fetch). f.asked) fs ++ map (λ (s : Serve). s.asked) ss
  asked_same ss [] = asked_serves ss
  asked_same ss (f ∷ fs) = ap (λ xs. f.asked ∷ xs) (asked_same ss fs)

  pub all_use : (ss : List Serve) (fs : List Fetch) → AllByRecursion UsesDesk (desk_parts ss fs)
  all_use [] [] = tt
  all_use (s ∷ ss) [] = (s.does.uses, all_use ss [])
  all_use ss (f ∷ fs) = (f.does.uses, all_use ss fs)

  serves_apart : (ss : List Serve) → AreDistinct (serve_tasks ss) → AreApart (map as_serve ss)
  serves_apart [] apart = tt
  serves_apart (s ∷ ss) apart = (each_mapped as_serve (IsApart (as_serve s)) ss (each_map (λ (x : Serve). s.task ≢ x.task) (λ (x : Serve). IsApart (as_serve s) (as_serve x)) (λ x other side task. other task) ss (each_unmapped (λ (x : Serve). x.task) (λ m. s.task ≢ m) ss apart.0)), serves_apart ss apart.1)

  other_side : (f : Fetch) (ss : List Serve) → AllByRecursion (IsApart (as_fetch f)) (map as_serve ss)
  other_side f [] = tt
  other_side f (s ∷ ss) = ((λ side task. absurd (sides side)), other_side f ss)
    where
      sides : Requester ≡ Donor → ⊥
      sides is = cc

  pub all_apart : (ss : List Serve) (fs : List Fetch) → AreDistinct (serve_tasks ss) → AreDistinct (fetch_tasks fs) → AreApart (desk_parts ss fs)
  all_apart ss [] serves fetches = serves_apart ss serves
  all_apart ss (f ∷ fs) serves fetches =
      let later = each_mapped as_fetch (IsApart (as_fetch f)) fs (each_map (λ (x : Fetch). f.task ≢ x.task) (λ (x : Fetch). IsApart (as_fetch f) (as_fetch x)) (λ x other side task. other task) fs (each_unmapped (λ (x : Fetch). x.task) (λ m. f.task ≢ m) fs fetches.0)) in
      (each_append (IsApart (as_fetch f)) (map as_fetch fs) (map as_serve ss) later (other_side f ss), all_apart ss fs serves fetches.1)

  pub apart_in : (n : ℕ) (ss : List Serve) (fs : List Fetch) → serve_tasks ss ≡ numbered n 0 → fetch_tasks fs ≡ numbered n 0 → AreApart (desk_parts ss fs)
  apart_in n ss fs serves fetches = all_apart ss fs (subst AreDistinct (sym serves) (distinct n 0)) (subst AreDistinct (sym fetches) (distinct n 0))

  -- each of them is at the desk
  pub serve_there : (ss : List Serve) (fs : List Fetch) (s : Serve) → Contains ss s → Contains (desk_parts ss fs) (as_serve s)
  serve_there ss fs s there =
      let P : DeskPart N L → Type 0 = Contains (desk_parts ss fs) in
      each_member (λ (x : Serve). P (as_serve x)) ss s (each_unmapped as_serve P ss (each_right P (map as_fetch fs) (map as_serve ss) (each_itself (desk_parts ss fs)))) there

  pub fetch_there : (ss : List Serve) (fs : List Fetch) (f : Fetch) → Contains fs f → Contains (desk_parts ss fs) (as_fetch f)
  fetch_there ss fs f there =
      let P : DeskPart N L → Type 0 = Contains (desk_parts ss fs) in
      each_member (λ (x : Fetch). P (as_fetch x)) fs f (each_unmapped as_fetch P fs (each_left P (map as_fetch fs) (map as_serve ss) (each_itself (desk_parts ss fs)))) there

  -- ---- what passed

  -- the ends of the one are those of the other
  abbrev pub AreMatched : Serve → Fetch → Type 0
  AreMatched s f = AreOf s.does.ends f.does.ends × AllByRecursion (WasServed s.does.ends) f.does.ends

  module _ (all_s : List Serve) (all_f : List Fetch) (matched : (s : Serve) (f : Fetch) → Contains all_s s → Contains all_f f → s.task ≡ f.task → AreMatched s f) where
    pub are_tasks : (ss : List Serve) (fs : List Fetch) → AllByRecursion (Contains all_s) ss → AllByRecursion (Contains all_f) fs → serve_tasks ss ≡ fetch_tasks fs → AllByRecursion (IsTask (reading {N = N} {L = L} {R = R} number)) (tasks_of ss fs)
    are_tasks [] fs in_s in_f same = tt
    are_tasks (s ∷ ss) [] in_s in_f same = tt
    are_tasks (s ∷ ss) (f ∷ fs) in_s in_f same =
        let m = matched s f in_s.0 in_f.0 cc in (
          record {
            put = f.does.put;
            took = f.does.took;
            carried = s.does.carried;
            told = s.does.told;
            ends = m.0;
            heard = m.1;
          },
          are_tasks ss fs in_s.1 in_f.1 cc,
        )

    -- the donor's calls for a task are in its run
    abbrev AreIn : List JobEntry → Serve → Type 0
    AreIn run s = AllByRecursion (Contains run) s.made

    told_in_run : (run : List JobEntry) (s : Serve) (bytes : Bytes) → AreIn run s → IsToldBy s.made bytes → IsToldBy run bytes
    told_in_run run s bytes within t = record {
      entry = t.entry;
      asked = t.asked;
      given = t.given;
      sent = t.sent;
      is_made = each_member (Contains run) s.made t.entry within t.is_made;
      call_is = t.call_is;
      answer_is = t.answer_is;
      tells = t.tells;
      is = t.is;
      spelled = t.spelled;
    }

    -- each answer that a task took tells the answer to a call of the donor's run
    pub all_told : (run : List JobEntry) (ss : List Serve) (fs : List Fetch) → AllByRecursion (Contains all_s) ss → AllByRecursion (Contains all_f) fs → serve_tasks ss ≡ fetch_tasks fs → AllByRecursion (AreIn run) ss
        → AllByRecursion (λ (f : Fetch). AllByRecursion (λ (e : RecipientEntry R). AllByRecursion (IsToldBy run) (takes_in e)) f.stepped) fs
    all_told run [] [] in_s in_f same within = tt
    all_told run [] (f ∷ fs) in_s in_f same within = absurd cc
    all_told run (s ∷ ss) [] in_s in_f same within = tt
    all_told run (s ∷ ss) (f ∷ fs) in_s in_f same within =
        let m = matched s f in_s.0 in_f.0 cc in
        let P : Bytes → Type 0 = IsToldBy run in
        let came = each_map (IsToldBy s.made) P (λ bytes t. told_in_run run s bytes within.0 t) (answers_of s.does.ends) s.does.tells in
        let took = each_taken P s.does.ends f.does.ends came m.1 in
        (each_unflat takes_in P f.stepped (subst (AllByRecursion P) (sym f.does.took) took), all_told run ss fs in_s.1 in_f.1 (cc) within.1)

    -- each command that came for a task was put out
    pub all_asked : (P : Bytes → Type 0) (ss : List Serve) (fs : List Fetch) → AllByRecursion (Contains all_s) ss → AllByRecursion (Contains all_f) fs → serve_tasks ss ≡ fetch_tasks fs
        → AllByRecursion (λ (f : Fetch). AllByRecursion P (flat_map puts_in f.stepped)) fs → AllByRecursion (λ (s : Serve). AllByRecursion P (commands_of s.does.ends)) ss
    all_asked P [] fs in_s in_f same each = tt
    all_asked P (s ∷ ss) [] in_s in_f same each = absurd cc
    all_asked P (s ∷ ss) (f ∷ fs) in_s in_f same each =
        let m = matched s f in_s.0 in_f.0 cc in
        let put = each_sublist P (commands_of f.does.ends) (flat_map puts_in f.stepped) f.does.put each.0 in
        (each_came P f.does.ends s.does.ends put m.0, all_asked P ss fs in_s.1 in_f.1 (cc) each.1)

  -- no task from this one on is task 0
  pub all_alone : (n first : ℕ) (ss : List Serve) (fs : List Fetch) → 0 < first → fetch_tasks fs ≡ numbered n first → AllByRecursion (λ (t : OneTask). NoneIn (either is_init is_exit) (flat_map puts_in t.stepped)) (tasks_of ss fs)
  all_alone n first [] fs some are = tt
  all_alone n first (s ∷ ss) [] some are = tt
  all_alone zero first (s ∷ ss) (f ∷ fs) some are = absurd cc
  all_alone (suc n) first (s ∷ ss) (f ∷ fs) some are =
      let task_is : f.task ≡ first = cc in
      (f.alone (λ none. omega (arith, task_is, none, some)), all_alone n (first + 1) ss fs (omega (arith, some)) cc)
