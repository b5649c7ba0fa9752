use Rattle.std.proofs.Common.{◌∙◌, sym, ap, string_bytes}
use Rattle.clone_script.specs.declared.lines.Line.TheVariants as lines
use Rattle.clone_core.specs.Ending.{complete_in}
use Rattle.clone_core.specs.Lines.{State}
use Rattle.clone_core.proofs.FollowLemmas.{at_position, complete_is, follow_answers, follow_breaks, follow_idle, no_follower}
use Rattle.clone_core.proofs.LineLemmas.{same_breaks}
use Rattle.clone_core.proofs.RoundLemmas.{is_none}
use Rattle.clone_core.proofs.world.World.follow_line.Goals as goal

pub returns-in_default-clause-ok : goal.returns-in_default-clause-ok
returns-in_default-clause-ok g c =
    let none = ap (λ (w : State). complete_in w.clone.progress) (sym c.self.view_is) ∙ sym c.complete_at.ensures ∙ is_none c.complete_at.result c.in_default.not-Some in
    follow_idle string_bytes c.args.self.now c.from_str.result none c.from_str.ensures.ok

pub returns-in_default-clause-err : goal.returns-in_default-clause-err
returns-in_default-clause-err g c = same_breaks c.args.self.now lines.Follow c.from_str.result

pub exchange-requires : goal.exchange-requires
exchange-requires g c = record { at = at_position _ c.args.self.now c.position.result c.in-Some-position.want c.self.view_is c.position.ensures c.in-Some-position.is }

pub first_follow-requires-clause-complete : goal.first_follow-requires-clause-complete
first_follow-requires-clause-complete g c = complete_is c.args.self.now.clone.progress c.in-Some.position (ap (λ (w : State). complete_in w.clone.progress) (sym c.self.view_is) ∙ sym c.complete_at.ensures ∙ c.in-Some.is)

pub first_follow-requires-clause-first : goal.first_follow-requires-clause-first
first_follow-requires-clause-first g c = no_follower _ c.args.self.now c.position.result c.self.view_is c.position.ensures c.in-None.is

pub returns-in-Some-position-clause-ok : goal.returns-in-Some-position-clause-ok
returns-in-Some-position-clause-ok g c = follow_answers string_bytes c.args.self.now _ c.exchange.result c.exchange.ensures.ok

pub returns-in-Some-position-clause-err : goal.returns-in-Some-position-clause-err
returns-in-Some-position-clause-err g c = follow_breaks c.args.self.now _ c.exchange.result c.exchange.ensures.err
