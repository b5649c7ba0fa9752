-- A frame that a task took leaves less.
use Rattle.std.proofs.Common.{ℕ, ◌≡◌, ◌∙◌, ◌+◌, ◌-◌, ◌*◌, ◌<◌, Bool, true, false, Option, length, set, refl, ap, subst, sym, arith, inl, inr}
use Rattle.std.specs.Prelude.{◌==◌, ◌&&◌, ◌||◌, not}
use Rattle.std.specs.List.{sum_by}
use Rattle.std.proofs.lemmas.Bool.{cases_Bool, and_parts, eq-eqb, or_left, or_right}
use Rattle.clone_outside.specs.Disk.{DiskImage}
use Rattle.clone_chunk.specs.Plans.{stage_of}
use Rattle.clone_chunk.specs.declared.stage.Stage.{Stage}
use Rattle.clone_chunk.specs.Stages.{copying}
use Rattle.clone_chunk.specs.declared.copy_stage.CopyStage.{CopyStage}
use Rattle.clone_chunk.specs.declared.copy_stage.CopyStage.TheVariants as copy
use Rattle.clone_chunk.specs.declared.plan.StagePlan.{StagePlan}
use Rattle.clone_chunk.specs.declared.plan.StagePlan.TheVariants as plan
use Rattle.clone_wire.specs.declared.frame.Frame.{Frame}
use Rattle.clone_wire.specs.declared.frame.Frame.TheVariants as frame
use Rattle.clone_marks.specs.Blocks.{is_left, is_taken}
use Rattle.clone_tasks.specs.Awaiting.{awaits_block, awaits_end_of, awaits_stage, fits_stage, is_in, is_present, is_same, moves, moves_from, next_stage}
use Rattle.clone_tasks.specs.Moves.{HasTaken, begins, joined_by, served}
use Rattle.clone_tasks.specs.declared.standing.Phase.{Phase}
use Rattle.clone_tasks.specs.declared.standing.Phase.TheVariants.{Opening, Copying, Done}
use Rattle.clone_tasks.specs.declared.standing.Standing.{Standing}
use Rattle.clone_tasks.specs.declared.standing.Standing.TheVariants.{Apart, Joining, Ready, Fetching, Served, Acknowledging}
use Rattle.clone_tasks.specs.Tables.{IsBounded, Table, awaits_end, is_apart, is_done, is_running, standing_of}
use Rattle.clone_recipient.specs.Expecting.{copied_in, fits, fits_pages, fits_redo, is_expected}
use Rattle.clone_recipient.specs.Receptions.{Reception}
use Rattle.clone_recipient.specs.Taking.{Takes, TakesStage, table_after}
use Rattle.clone_ending.specs.Left.{answer_left, left_in, rounds_left, stage_left, stages_left, untaken, work_left}
use Rattle.clone_ending.proofs.BlockLemmas.{untaken_less}
use Rattle.clone_ending.proofs.RuleLemmas.{HasPart}
use Rattle.clone_ending.proofs.WorkLemmas.{ended_less, is_there, renewed_answers, rounds_less, set_less, stage_less}

-- ---- a task goes on in its stage

-- another table in which a task stands elsewhere, with less to do there
pub stands_less : (t new : Table) (task : ℕ) (standing : Standing) → is_running t ≡ true → new.phase ≡ t.phase → new.limit ≡ t.limit → new.losses ≡ t.losses → new.marks ≡ t.marks → new.standings ≡ set t.standings task standing
    → task < length t.standings → left_in t.phase standing < left_in t.phase (standing_of t task) → work_left new < work_left t
stands_less t new task standing runs phase limit losses marks standings there less =
    let same : rounds_left new ≡ rounds_left t = rw (phase, limit, losses) refl in
    let fewer = set_less (left_in t.phase) t.standings task standing there less in
    let now : stage_left new ≡ untaken t.marks + sum_by (left_in t.phase) (set t.standings task standing) = rw (phase, marks, standings) refl in
    stage_less t new runs same (omega (arith, now, fewer))

-- ---- a STAGE

-- the standing from which a STAGE leaves the recipient where it is
from_joining : (standing : Standing) (phase : Phase) (task : ℕ) (at : Stage) → fits_stage standing phase task at ≡ true → moves_from standing phase task ≡ false → standing ≡ Joining
from_joining Apart phase task at fit stays = cc
from_joining Joining phase task at fit stays = refl
from_joining Ready phase task at fit stays = cc
from_joining Fetching phase task at fit stays = cc
from_joining Served phase task at fit stays = cc
from_joining Acknowledging phase task at fit stays = cc

joined_less : (phase : Phase) → left_in phase Ready < left_in phase Joining
joined_less Opening = omega arith
joined_less (Copying stage) = omega arith
joined_less Done = omega arith

served_less : (phase : Phase) → left_in phase Served < left_in phase Fetching
served_less Opening = omega arith
served_less (Copying stage) = omega arith
served_less Done = omega arith

only_next : (a b : Bool) → (not a || b || false) ≡ true → a ≡ true → b ≡ true
only_next true true either holds = refl
only_next true false either holds = cc
only_next false b either holds = absurd (cc)

-- a STAGE that moves the recipient is that of the next stage
moves_next : (standing : Standing) (phase : Phase) (task : ℕ) (at : Stage) → fits_stage standing phase task at ≡ true → moves_from standing phase task ≡ true → is_same at (next_stage phase) ≡ true
moves_next Apart phase task at fit moved = absurd (cc)
moves_next Joining Opening task at fit moved = only_next (task == 0) (is_same at (next_stage Opening)) fit (and_parts (task == 0) true moved).0
moves_next Joining (Copying stage) task at fit moved = absurd (let wrong : false ≡ true = (and_parts (task == 0) false moved).1 in cc)
moves_next Joining Done task at fit moved = absurd (let wrong : false ≡ true = (and_parts (task == 0) false moved).1 in cc)
moves_next Ready phase task at fit moved = absurd (cc)
moves_next Fetching phase task at fit moved = absurd (cc)
moves_next Served phase task at fit moved = absurd (cc)
moves_next Acknowledging phase task at fit moved = fit

-- once all was copied, the last of them
moves_last : (standing : Standing) (task : ℕ) → moves_from standing Done task ≡ true → standing ≡ Acknowledging
moves_last Apart task moved = absurd (cc)
moves_last Joining task moved = absurd (let wrong : false ≡ true = (and_parts (task == 0) false moved).1 in cc)
moves_last Ready task moved = absurd (cc)
moves_last Fetching task moved = absurd (cc)
moves_last Served task moved = absurd (cc)
moves_last Acknowledging task moved = refl

fewer_stages : (phase : Phase) (p : StagePlan) (t : Table) → is_same (stage_of p) (next_stage phase) ≡ true → is_done phase ≡ false → stages_left (table_after p t).phase < stages_left phase
fewer_stages Opening (plan.FileCopy chunks spaces) t same on = omega arith
fewer_stages Opening (plan.PageCopy chunks position spaces) t same on = absurd (cc)
fewer_stages Opening (plan.RedoCopy chunks checkpoint lsn position) t same on = absurd (cc)
fewer_stages Opening (plan.Done checkpoint lsn position) t same on = absurd (cc)
fewer_stages (Copying copy.FileCopy) (plan.FileCopy chunks spaces) t same on = absurd (cc)
fewer_stages (Copying copy.FileCopy) (plan.PageCopy chunks position spaces) t same on = omega arith
fewer_stages (Copying copy.FileCopy) (plan.RedoCopy chunks checkpoint lsn position) t same on = absurd (cc)
fewer_stages (Copying copy.FileCopy) (plan.Done checkpoint lsn position) t same on = absurd (cc)
fewer_stages (Copying copy.PageCopy) (plan.FileCopy chunks spaces) t same on = absurd (cc)
fewer_stages (Copying copy.PageCopy) (plan.PageCopy chunks position spaces) t same on = absurd (cc)
fewer_stages (Copying copy.PageCopy) (plan.RedoCopy chunks checkpoint lsn position) t same on = omega arith
fewer_stages (Copying copy.PageCopy) (plan.Done checkpoint lsn position) t same on = absurd (cc)
fewer_stages (Copying copy.RedoCopy) (plan.FileCopy chunks spaces) t same on = absurd (cc)
fewer_stages (Copying copy.RedoCopy) (plan.PageCopy chunks position spaces) t same on = absurd (cc)
fewer_stages (Copying copy.RedoCopy) (plan.RedoCopy chunks checkpoint lsn position) t same on = absurd (cc)
fewer_stages (Copying copy.RedoCopy) (plan.Done checkpoint lsn position) t same on = omega arith
fewer_stages Done p t same on = absurd (cc)

after_limit : (p : StagePlan) (t : Table) → (table_after p t).limit ≡ t.limit
after_limit (plan.FileCopy chunks spaces) t = refl
after_limit (plan.PageCopy chunks position spaces) t = refl
after_limit (plan.RedoCopy chunks checkpoint lsn position) t = refl
after_limit (plan.Done checkpoint lsn position) t = refl

after_losses : (p : StagePlan) (t : Table) → (table_after p t).losses ≡ t.losses
after_losses (plan.FileCopy chunks spaces) t = refl
after_losses (plan.PageCopy chunks position spaces) t = refl
after_losses (plan.RedoCopy chunks checkpoint lsn position) t = refl
after_losses (plan.Done checkpoint lsn position) t = refl

-- all was copied, and task 0 takes the last STAGE again
again_less : (t : Table) → is_running t ≡ true → t.phase ≡ Done → standing_of t 0 ≡ Acknowledging → work_left (begins Done t.marks t) < work_left t
again_less t runs phase stands =
    let xs = t.standings in
    let there = is_there xs 0 (ap is_apart stands) in
    let same : rounds_left (begins Done t.marks t) ≡ rounds_left t = sym (ap (λ (p : Phase). 5 * (t.limit - t.losses) + stages_left p) phase) in
    let was : stage_left t ≡ untaken t.marks + sum_by answer_left xs = ap (λ (p : Phase). untaken t.marks + sum_by (left_in p) xs) phase in
    let one : answer_left Ready < answer_left (standing_of t 0) = rw stands (omega arith) in
    let less : stage_left (begins Done t.marks t) < stage_left t = omega (arith, was, renewed_answers (set xs 0 Ready), set_less answer_left xs 0 Ready there one) in
    stage_less t (begins Done t.marks t) runs same less

last_less : (p : StagePlan) (t : Table) → is_running t ≡ true → t.phase ≡ Done → is_same (stage_of p) (next_stage Done) ≡ true → standing_of t 0 ≡ Acknowledging → work_left (table_after p t) < work_left t
last_less (plan.FileCopy chunks spaces) t runs phase same stands = absurd (cc)
last_less (plan.PageCopy chunks position spaces) t runs phase same stands = absurd (cc)
last_less (plan.RedoCopy chunks checkpoint lsn position) t runs phase same stands = absurd (cc)
last_less (plan.Done checkpoint lsn position) t runs phase same stands = again_less t runs phase stands

done_is : (phase : Phase) → is_done phase ≡ true → phase ≡ Done
done_is Opening done = absurd (cc)
done_is (Copying stage) done = absurd (cc)
done_is Done done = refl

moved_less : (t : Table) (p : StagePlan) (task : ℕ) → HasPart t task → IsBounded (table_after p t) → awaits_stage t task (stage_of p) ≡ true → moves t task ≡ true → work_left (table_after p t) < work_left t
moved_less t p task part b fit moved =
    let new = table_after p t in
    let same = moves_next (standing_of t task) t.phase task (stage_of p) fit moved in
    elim (cases_Bool (is_done t.phase)) [
      | inr on ↦ rounds_less t new part.runs (λ going. omega (arith, after_limit p t, after_losses p t, fewer_stages t.phase p t same on)) b
      | inl done ↦
          let phase = done_is t.phase done in
          let last = moves_last (standing_of t task) task (subst (λ (q : Phase). moves_from (standing_of t task) q task ≡ true) phase moved) in
          last_less p t part.runs phase (subst (λ (q : Phase). is_same (stage_of p) (next_stage q) ≡ true) phase same) (sym (ap (standing_of t) (part.first done)) ∙ last)
    ]

stage_taken : (r s : Reception) (task : ℕ) (p : StagePlan) (told now : Option DiskImage) → HasPart r.table task → IsBounded s.table → awaits_stage r.table task (stage_of p) ≡ true → TakesStage (moves r.table task) p task r s told now → work_left s.table < work_left r.table
stage_taken r s task p told now part b fit takes =
    let t = r.table in
    elim (cases_Bool (moves t task)) [
      | inl moved ↦
          let taken : TakesStage true p task r s told now = rw moved at takes in
          let is : s.table ≡ table_after p t = ap (λ (x : Reception). x.table) taken.0 in
          subst (λ (x : Table). work_left x < work_left t) (sym is) (moved_less t p task part (subst IsBounded is b) fit moved)
      | inr stays ↦
          let taken : TakesStage false p task r s told now = rw stays at takes in
          let is : s.table ≡ joined_by t task = ap (λ (x : Reception). x.table) taken.0 in
          let from = from_joining (standing_of t task) t.phase task (stage_of p) fit stays in
          let less : left_in t.phase Ready < left_in t.phase (standing_of t task) = rw from (joined_less t.phase) in
          let all = stands_less t (joined_by t task) task Ready part.runs refl refl refl refl refl (is_there t.standings task (ap is_apart from)) less in
          subst (λ (x : Table). work_left x < work_left t) (sym is) all
    ]

-- ---- a block, and END

block_taken : (t new : Table) (chunk block : ℕ) → is_running t ≡ true → is_left t.marks chunk block ≡ true → HasTaken t chunk block new → work_left new < work_left t
block_taken t new chunk block runs left taken =
    let same : rounds_left new ≡ rounds_left t = ap rounds_left taken.else_same in
    let now : stage_left new ≡ untaken new.marks + sum_by (left_in t.phase) t.standings = ap stage_left taken.else_same in
    let here : ((chunk == chunk) && (block == block)) ≡ true = rw (eq-eqb chunk chunk refl, eq-eqb block block refl) refl in
    let took : is_taken new.marks chunk block ≡ true = taken.taken chunk block ∙ or_right (is_taken t.marks chunk block) ((chunk == chunk) && (block == block)) here in
    let less = untaken_less t.marks new.marks chunk block taken.blocks (λ c b was. taken.taken c b ∙ or_left (is_taken t.marks c b) ((c == chunk) && (b == block)) was) left took in
    stage_less t new runs same (omega (arith, now, less))

awaits_fetching : (standing : Standing) → awaits_end standing ≡ true → standing ≡ Fetching
awaits_fetching Apart awaited = absurd (cc)
awaits_fetching Joining awaited = absurd (cc)
awaits_fetching Ready awaited = absurd (cc)
awaits_fetching Fetching awaited = refl
awaits_fetching Served awaited = absurd (cc)
awaits_fetching Acknowledging awaited = absurd (cc)

end_taken : (t : Table) (task : ℕ) (stage : CopyStage) → is_running t ≡ true → awaits_end_of t task stage ≡ true → work_left (served t task) < work_left t
end_taken t task stage runs awaited =
    let from = awaits_fetching (standing_of t task) (and_parts (awaits_end (standing_of t task)) (is_in t.phase (copying stage)) awaited).0 in
    let less : left_in t.phase Served < left_in t.phase (standing_of t task) = rw from (served_less t.phase) in
    stands_less t (served t task) task Served runs refl refl refl refl refl (is_there t.standings task (ap is_apart from)) less

-- ---- a frame
pub takes_less : (r s : Reception) (task : ℕ) (got : Frame) (told now : Option DiskImage) → HasPart r.table task → IsBounded s.table → is_expected r task got ≡ true → Takes got task r s told now → work_left s.table < work_left r.table
takes_less r s task (frame.Init attempt version page_size compressed tasks) told now part b fit takes = absurd takes
takes_less r s task (frame.Attach attempt other) told now part b fit takes = absurd takes
takes_less r s task (frame.Reinit attempt stage finished) told now part b fit takes = absurd takes
takes_less r s task (frame.Reinit2 attempt stage taken) told now part b fit takes = absurd takes
takes_less r s task (frame.Execute stage) told now part b fit takes = absurd takes
takes_less r s task (frame.Ack stage floor) told now part b fit takes = absurd takes
takes_less r s task frame.Exit told now part b fit takes = absurd takes
takes_less r s task (frame.Stage attempt p) told now part b fit takes =
    let first = and_parts (is_present r.table attempt && awaits_stage r.table task (stage_of p)) (fits p) fit in
    stage_taken r s task p told now part b (and_parts (is_present r.table attempt) (awaits_stage r.table task (stage_of p)) first.0).1 takes
takes_less r s task (frame.Pages attempt stage chunk block pages) told now part b fit takes =
    let t = r.table in
    let awaited = awaits_block t task (copied_in stage) chunk block in
    let first = and_parts (is_present t attempt && awaited) (fits_pages stage r chunk block pages) fit in
    let block_is = (and_parts (is_present t attempt) awaited first.0).1 in
    block_taken t s.table chunk block part.runs (and_parts (awaits_end_of t task (copied_in stage)) (is_left t.marks chunk block) block_is).1 takes.0.table
takes_less r s task (frame.Redo attempt chunk block from bytes) told now part b fit takes =
    let t = r.table in
    let awaited = awaits_block t task copy.RedoCopy chunk block in
    let first = and_parts (is_present t attempt && awaited) (fits_redo r chunk block from bytes) fit in
    let block_is = (and_parts (is_present t attempt) awaited first.0).1 in
    block_taken t s.table chunk block part.runs (and_parts (awaits_end_of t task copy.RedoCopy) (is_left t.marks chunk block) block_is).1 takes.0.table
takes_less r s task (frame.End attempt stage) told now part b fit takes =
    let awaited = (and_parts (is_present r.table attempt) (awaits_end_of r.table task stage) fit).1 in
    let is : s.table ≡ served r.table task = ap (λ (x : Reception). x.table) takes.0 in
    subst (λ (x : Table). work_left x < work_left r.table) (sym is) (end_taken r.table task stage part.runs awaited)
takes_less r s task (frame.Refused cause) told now part b fit takes =
    let ended : is_running s.table ≡ false = ap (λ (x : Reception). is_running x.table) takes.0 in
    ended_less r.table s.table part.runs ended
