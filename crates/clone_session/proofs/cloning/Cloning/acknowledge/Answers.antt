use Rattle.std.proofs.Common.{◌∙◌, [], sym, ap}
use Rattle.clone_chunk.specs.Plans.{sizes_of}
use Rattle.clone_session.proofs.StageLemmas.{later_list}
use Rattle.clone_session.proofs.cloning.Cloning.acknowledge.Goals as goal

pub info-requires : goal.info-requires
info-requires c =
    let (s, is, becomes) = c.advance.ensures in
    let (t, there, none) = later_list c.args.now [] c.args.stage c.args.self.now s c.laws.ensures is c.if-stage-eq-FILE_COPY.false c.args.caller c.args.floor c.args.now.position c.advance.new.self c.in_ok-check_acknowledgement.ensures (becomes []) in
    record { lists = (t, there, c.new.ensures ∙ sym (ap sizes_of none)) }
