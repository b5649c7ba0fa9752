-- What a task sends by its rule is a command that it may ask, with the floor that is kept then.
use Rattle.std.proofs.Common.{ℕ, ◌≡◌, Bool, true, false, if◌then◌else◌, Option, Some, refl, sym, ap, subst}
use Rattle.std.specs.Bool.{⊤}
use Rattle.std.specs.Prelude.{◌==◌}
use Rattle.std.specs.Option.{unwrap_or}
use Rattle.clone_chunk.specs.declared.copy_stage.CopyStage.{CopyStage}
use Rattle.clone_chunk.specs.declared.copy_stage.CopyStage.TheVariants as copy
use Rattle.clone_wire.specs.declared.frame.Frame.{Frame}
use Rattle.clone_wire.specs.declared.frame.Frame.TheVariants as frame
use Rattle.clone_tasks.specs.Losing.{counted_table, is_spent}
use Rattle.clone_tasks.specs.Sending.{IsFirst, IsSent, Opens, Reattaches, after_sending, kept_floor, sent_floor}
use Rattle.clone_tasks.specs.Tables.{Table}
use Rattle.clone_tasks.specs.declared.end.CloneEnd.TheVariants as end
use Rattle.clone_tasks.specs.declared.rule.Rule.{Rule}
use Rattle.clone_tasks.specs.declared.rule.Rule.TheVariants as rule
use Rattle.clone_tasks.specs.declared.standing.Phase.{Phase}
use Rattle.clone_tasks.specs.declared.standing.Phase.TheVariants.{Opening, Copying, Done}
use Rattle.clone_joined.specs.Carried.{MayAsk}
use Rattle.clone_joined.proofs.ConnectionLemmas.{KeepsFloor}

-- a rule by which a task sends, but not EXIT
abbrev pub IsAsking : Rule → Type 0
IsAsking rule.Connect = ⊤
IsAsking (rule.Acknowledge stage) = ⊤
IsAsking (rule.Execute stage) = ⊤
IsAsking other = ⊥

module _ (t : Table) (task floor : ℕ) where
  reattaches_may : (kept : Option ℕ) (stage : CopyStage) (next : Frame) (first : Bool) → Reattaches first stage t next → MayAsk kept next
  reattaches_may kept stage next true (bits, is, shows) = subst (MayAsk kept) (sym is) tt
  reattaches_may kept stage next false (taken, is, shows) = subst (MayAsk kept) (sym is) tt

  opens_may : (kept : Option ℕ) (phase : Phase) (next : Frame) → Opens phase t next → MayAsk kept next
  opens_may kept Opening next is = subst (MayAsk kept) (sym is) tt
  opens_may kept (Copying stage) next is = reattaches_may kept stage next (t.version == 1) is
  opens_may kept Done next is = subst (MayAsk kept) (sym is) tt

  first_may : (kept : Option ℕ) (next : Frame) (zero : Bool) → IsFirst zero t task next → MayAsk kept next
  first_may kept next true is = opens_may kept t.phase next is
  first_may kept next false is = subst (MayAsk kept) (sym is) tt

  ack_may : (stage : CopyStage) → MayAsk (kept_floor stage t.floor floor) (frame.Ack stage (sent_floor stage t.floor floor))
  ack_may copy.FileCopy = tt
  ack_may copy.PageCopy = refl
  ack_may copy.RedoCopy = tt

  pub sent_may : (which : Rule) (next : Frame) → IsAsking which → IsSent which t task floor next → MayAsk (after_sending which t task floor).floor next
  sent_may rule.Connect next asking is = first_may t.floor next (task == 0) is
  sent_may (rule.Acknowledge stage) next asking is = subst (MayAsk (kept_floor stage t.floor floor)) (sym is) (ack_may stage)
  sent_may (rule.Execute stage) next asking is = subst (MayAsk t.floor) (sym is) tt
  sent_may other next asking is = absurd asking

  ack_keeps : (stage : CopyStage) → KeepsFloor t.floor (kept_floor stage t.floor floor)
  ack_keeps copy.FileCopy kept is = is
  ack_keeps copy.PageCopy kept is = ap (λ (o : Option ℕ). Some (unwrap_or o floor)) is
  ack_keeps copy.RedoCopy kept is = is

  pub sending_keeps : (which : Rule) → KeepsFloor t.floor (after_sending which t task floor).floor
  sending_keeps (rule.Acknowledge stage) kept is = ack_keeps stage kept is
  sending_keeps rule.Nothing kept is = is
  sending_keeps rule.Stale kept is = is
  sending_keeps rule.Receive kept is = is
  sending_keeps rule.Connect kept is = is
  sending_keeps (rule.Execute stage) kept is = is
  sending_keeps rule.Complete kept is = is

  pub sending_session : (which : Rule) → (after_sending which t task floor).session ≡ t.session
  sending_session rule.Nothing = refl
  sending_session rule.Stale = refl
  sending_session rule.Receive = refl
  sending_session rule.Connect = refl
  sending_session (rule.Acknowledge stage) = refl
  sending_session (rule.Execute stage) = refl
  sending_session rule.Complete = refl

-- a loss leaves both
pub counted_floor : (t : Table) → (counted_table t).floor ≡ t.floor
counted_floor t = by (is_spent t)
  where
    by : (b : Bool) → (if b then record t { ended = Some (end.Spent t.losses) } else t).floor ≡ t.floor
    by true = refl
    by false = refl

pub counted_session : (t : Table) → (counted_table t).session ≡ t.session
counted_session t = by (is_spent t)
  where
    by : (b : Bool) → (if b then record t { ended = Some (end.Spent t.losses) } else t).session ≡ t.session
    by true = refl
    by false = refl
