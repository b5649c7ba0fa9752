use Rattle.std.proofs.Common.{◌≡◌, ◌∙◌, Some, IsTrue, ap, sym, subst}
use Rattle.clone_buffer.proofs.Common.{replayed, Content, PageName, frame_at, Buffered, Shown}
use Rattle.clone_image.specs.Image.{page_of}
use Rattle.clone_pool.specs.declared.frame.Content.TheVariants.{Held}
use Rattle.clone_buffer.proofs.buffer.Buffer.frame.Goals as goal

pub returns-clause-shown : goal.returns-clause-shown
returns-clause-shown c =
    let i = c.self.inside in
    let at = c.args.at in
    subst (λ (s : Buffered). (name : PageName) → (frame_at s.pool.frames at).content ≡ Held name → IsTrue s.right → page_of (replayed s.log) name.space name.number ≡ Some c.frame.result.now) c.self.view_is
    (λ name holds t. subst (λ (content : Content). Shown (replayed i.shadow.state.log) content (frame_at i.pool.frames at).page) holds (c.self.invariant.shows t at) ∙ ap Some (sym c.frame.ensures))
