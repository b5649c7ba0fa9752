-- What a donor tells of a stage. What is copied in the copy of redo is what is archived.
use Rattle.std.proofs.Common.{◌≡◌, ◌∙◌, ℕ, ap, subst, Some}
use Rattle.clone_chunk.specs.declared.stage.Stage.TheVariants.{RedoCopy}
use Rattle.clone_chunk.specs.declared.plan.StagePlan.TheVariants as plan
use Rattle.clone_snapshot.specs.StageLists.{StageList, Files, Pages, Redo, Nothing, chunk_count, stage_of}
use Rattle.clone_session.specs.Cloning.{Cloning, Session, IsInStage, IsInSession, IsCloning}
use Rattle.clone_session.specs.Effects.{plan_of, position_of, range_of, range_to}

pub plan_redo : (c : Cloning) (s : Session) → IsCloning c → c.session ≡ Some s → stage_of s.snap.list ≡ RedoCopy → plan.RedoCopy (chunk_count s.snap.list) (range_of c.archive).0 (range_of c.archive).1 (position_of c.stop) ≡ plan_of c s s.snap.list
plan_redo c s k is stage =
    let in_session : IsInSession c (Some s) = subst (IsInSession c) is k.session in
    by s.snap.list stage in_session.2
  where
    by : (list : StageList) → stage_of list ≡ RedoCopy → IsInStage c s list → plan.RedoCopy (chunk_count list) (range_of c.archive).0 (range_of c.archive).1 (position_of c.stop) ≡ plan_of c s list
    by (Files spaces) is copies = absurd (cc)
    by (Pages pages) is copies = absurd (cc)
    by (Redo start end) is copies =
        let range : range_of c.archive ≡ (start, end) = ap range_of copies.stands ∙ ap (range_to copies.archive.start) copies.ended ∙ ap (λ (n : ℕ). (n, end)) copies.starts in
        ap (λ (p : ℕ × ℕ). plan.RedoCopy (chunk_count (Redo start end)) p.0 p.1 (position_of c.stop)) range
    by Nothing is copies = absurd (cc)
