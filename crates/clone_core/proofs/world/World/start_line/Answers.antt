use Rattle.std.proofs.Common.{IfOk, List, ℕ, ◌≡◌, subst, string_bytes}
use Rattle.clone_core.proofs.CameLemmas.{start_answers, start_breaks, start_fails}
use Rattle.clone_core.proofs.world.World.start_line.Goals as goal

pub returns-in_err-begun-clause-err : goal.returns-in_err-begun-clause-err
returns-in_err-begun-clause-err g c = start_fails c.args.self.now _ c.from_residual.result c.in_err-begun.ensures

pub returns-clause-ok : goal.returns-clause-ok
returns-clause-ok g c = start_answers string_bytes c.args.self.now _ c.in_ok-begun.begun c.from_str.result c.in_ok-begun.ensures (subst (λ (word : List ℕ). IfOk c.from_str.result (λ text. string_bytes text ≡ word)) c.begun_word.ensures c.from_str.ensures.ok)

pub returns-clause-err : goal.returns-clause-err
returns-clause-err g c = start_breaks c.args.self.now _ c.in_ok-begun.begun c.from_str.result c.in_ok-begun.ensures
