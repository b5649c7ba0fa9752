use Rattle.std.proofs.Common.{refl, ℕ, List, ◌∙◌, ap, subst}
use Rattle.clone_chunk.specs.declared.partials.PartialChunk.{PartialChunk}
use Rattle.clone_session.specs.CloneCalls.{Decided, Reinits}
use Rattle.clone_session.specs.CloneCauses.{reinit_blocks_cause}
use Rattle.clone_calls.specs.declared.answer.DonorAnswer.TheVariants as answer
use Rattle.clone_calls.specs.declared.call.DonorCall.TheVariants as call
use Rattle.clone_engine.specs.Over.{over}
use Rattle.clone_engine.proofs.SessionActs.{quiet_acts, rejoined_like, rejoins_out}
use Rattle.clone_engine.proofs.engine.Engine.reinit_blocks.Goals as goal

-- with what was taken
did : (c : goal.After-reinit_blocks) → Decided (reinit_blocks_cause c.args.self.now.cloning c.args.caller c.args.stage) c.args.self.now.cloning c.reinit_blocks.new.self c.reinit_blocks.result (Reinits c.args.caller c.args.stage c.args.taken.now.finished.bytes c.args.taken.now.partials c.args.self.now.cloning c.reinit_blocks.new.self)
did c =
    let a = c.args in
    let old = a.self.now.cloning in
    let new = c.reinit_blocks.new.self in
    subst (λ (p : List ℕ × List PartialChunk). Decided (reinit_blocks_cause old a.caller a.stage) old new c.reinit_blocks.result (Reinits a.caller a.stage p.0 p.1 old new))
    (λ i. ((c.bytes.ensures.value ∙ ap (λ b. b.bytes) c.finished.ensures) i, (c.as_slice.ensures.value ∙ c.partials.ensures.value) i)) c.reinit_blocks.ensures.reinits

pub returns : goal.returns
returns c = record {
  acts = λ disk is.
      let d = over c.args.self.now disk in
      let new = c.reinit_blocks.new.self in
      quiet_acts (call.ReinitBlocks c.args.caller c.args.stage c.args.taken.now) (answer.ReinitBlocks c.reinit_blocks.result) d new (rejoined_like d new _ c.args.caller c.args.stage c.args.taken.now.finished.bytes c.args.taken.now.partials c.reinit_blocks.result (did c)) is (λ taken. refl)
      (rejoins_out d new _ c.args.caller c.args.stage c.args.taken.now.finished.bytes c.args.taken.now.partials c.reinit_blocks.result (did c));
}
