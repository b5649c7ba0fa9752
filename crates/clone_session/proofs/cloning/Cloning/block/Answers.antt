use Rattle.std.proofs.Common.{subst}
use Rattle.clone_snapshot.specs.Snaps.{IsInLog}
use Rattle.clone_session.specs.Cloning.{Session}
use Rattle.clone_session.specs.CloneCalls.{part_of}
use Rattle.clone_session.proofs.PartLemmas.{no_cause, is_there, stands_as}
use Rattle.clone_session.proofs.cloning.Cloning.block.Goals as goal

pub returns : goal.returns
returns c =
    let s = c.in_ok-session.session.now in (
      no_cause c.args.self.now c.args.caller c.args.stage c.args.chunk c.args.block s (part_of c.in_ok-work.work) c.in_ok-session.ensures c.in_ok-check_incarnation.ensures c.in_ok-check_stage.ensures
          c.in_ok-work.ensures.claimed.0 c.in_ok-work.ensures.claimed.1 c.in_ok-check_archived.ensures,
      (
        (s, c.in_ok-session.ensures, c.in_ok-work.ensures.claimed.1),
        is_there c.args.self.now s c.args.chunk c.args.block c.in_ok-work.work c.laws-2.ensures (stands_as c.args.self.now.session c.args.caller.session s c.in_ok-session.ensures) (subst (λ (x : Session). IsInLog x.snap.list) c.session.view_is c.laws.ensures.in_log)
            c.in_ok-work.ensures.claimed.1 c.in_ok-check_archived.ensures,
      ),
    )
