-- The chunks of a stage stay as many as it is cut into, with as many blocks.
use Rattle.std.proofs.Common.{◌≡◌, ◌==◌, ◌∙◌, refl, ap, sym, subst, ℕ, Bool, true, false, Result, Ok, Err, Some, if◌then◌else◌}
use Rattle.std.specs.Prelude.{OnErr, OnOk}
use Rattle.clone_chunk.specs.declared.copy_stage.CopyStage.{CopyStage}
use Rattle.clone_chunk.specs.declared.copy_stage.CopyStage.TheVariants.{FileCopy, PageCopy, RedoCopy}
use Rattle.clone_marks.specs.Blocks.{blocks_of}
use Rattle.clone_marks.specs.Counts.{block_counts, unmarked}
use Rattle.clone_marks.proofs.ForgetLemmas.{forgotten_blocks}
use Rattle.clone_marks.proofs.RunLemmas.{begun_blocks}
use Rattle.clone_tasks.specs.Losing.{after_loss, is_spent, kept_in, loss_table}
use Rattle.clone_tasks.specs.Sending.{after_sending}
use Rattle.clone_tasks.specs.Tables.{Table, incarnation_of}
use Rattle.clone_tasks.specs.declared.end.CloneEnd.TheVariants as end
use Rattle.clone_tasks.specs.declared.rule.Rule.{Rule}
use Rattle.clone_tasks.specs.declared.rule.Rule.TheVariants as rule
use Rattle.clone_tasks.specs.declared.standing.Phase.{Phase}
use Rattle.clone_tasks.specs.declared.standing.Phase.TheVariants.{Opening, Copying, Done}
use Rattle.clone_recipient.specs.Receptions.{AreCounted, Reception, list_of}

-- another table of the same phase, whose chunks have as many blocks
pub kept_counted : (r : Reception) (t : Table) → t.phase ≡ r.table.phase → blocks_of t.marks ≡ blocks_of r.table.marks → AreCounted r.table.phase r → AreCounted t.phase (record r { table = t })
kept_counted r t same blocks are = subst (λ (p : Phase). AreCounted p (record r { table = t })) (sym same) (by r.table.phase are)
  where
    by : (p : Phase) → AreCounted p r → AreCounted p (record r { table = t })
    by Opening are = are
    by (Copying FileCopy) are = blocks ∙ are
    by (Copying PageCopy) are = blocks ∙ are
    by (Copying RedoCopy) are = blocks ∙ are
    by Done are = are

-- after a loss
pub lost_counted : (r : Reception) (t : Table) (incarnation : ℕ) → t ≡ loss_table r.table incarnation → AreCounted r.table.phase r → AreCounted t.phase (record r { table = t })
lost_counted r t incarnation is are = kept_counted r t (ap (λ (x : Table). x.phase) is ∙ phase (incarnation == incarnation_of r.table)) (ap (λ (x : Table). blocks_of x.marks) is ∙ blocks (incarnation == incarnation_of r.table)) are
  where
    after : Table
    after = after_loss r.table

    table : Bool → Table
    table spent = if spent then (record after { ended = Some (end.Spent after.losses) }) else after

    forgot : blocks_of after.marks ≡ blocks_of r.table.marks
    forgot = forgotten_blocks (kept_in r.table.version) r.table.marks

    phase_in : (spent : Bool) → (table spent).phase ≡ r.table.phase
    phase_in true = refl
    phase_in false = refl

    blocks_in : (spent : Bool) → blocks_of (table spent).marks ≡ blocks_of r.table.marks
    blocks_in true = forgot
    blocks_in false = forgot

    phase : (now : Bool) → (if now then table (is_spent after) else r.table).phase ≡ r.table.phase
    phase true = phase_in (is_spent after)
    phase false = refl

    blocks : (now : Bool) → blocks_of (if now then table (is_spent after) else r.table).marks ≡ blocks_of r.table.marks
    blocks true = blocks_in (is_spent after)
    blocks false = refl

-- once a frame was sent, or there was no memory for it
pub sent_counted : {X E : Type 0} (result : Result X E) (r : Reception) (t : Table) (next : Rule) (task floor : ℕ) → OnOk result (t ≡ after_sending next r.table task floor) → OnErr result (t ≡ r.table) → AreCounted r.table.phase r → AreCounted t.phase (record r { table = t })
sent_counted (Err e) r t next task floor ok err are = kept_counted r t (ap (λ (x : Table). x.phase) err) (ap (λ (x : Table). blocks_of x.marks) err) are
sent_counted (Ok x) r t next task floor ok err are = kept_counted r t (ap (λ (x : Table). x.phase) ok ∙ phase next) (ap (λ (x : Table). blocks_of x.marks) ok ∙ blocks next) are
  where
    phase : (next : Rule) → (after_sending next r.table task floor).phase ≡ r.table.phase
    phase rule.Nothing = refl
    phase rule.Stale = refl
    phase rule.Receive = refl
    phase rule.Connect = refl
    phase (rule.Acknowledge stage) = refl
    phase (rule.Execute stage) = refl
    phase rule.Complete = refl

    blocks : (next : Rule) → blocks_of (after_sending next r.table task floor).marks ≡ blocks_of r.table.marks
    blocks rule.Nothing = refl
    blocks rule.Stale = refl
    blocks rule.Receive = refl
    blocks rule.Connect = refl
    blocks (rule.Acknowledge stage) = refl
    blocks (rule.Execute stage) = refl
    blocks rule.Complete = refl

-- a stage begins
pub begun_counted : (stage : CopyStage) (t : Table) (r : Reception) → r.table ≡ t → t.phase ≡ Copying stage → t.marks ≡ unmarked (block_counts (list_of stage r)) → AreCounted r.table.phase r
begun_counted stage t r is phase none =
    subst (λ (p : Phase). AreCounted p r) (sym (ap (λ (x : Table). x.phase) is ∙ phase))
    (ap (λ (x : Table). blocks_of x.marks) is ∙ ap blocks_of none ∙ begun_blocks (block_counts (list_of stage r)))
