use Rattle.std.proofs.Common.{sym, ◌∙◌}
use Rattle.clone_memdisk.proofs.CalledLemmas.{first_resumed, none_resumed}
use Rattle.clone_memdisk.proofs.mem_disk.go_on.Goals as goal

pub returns-in_default-clause-contents : goal.returns-in_default-clause-contents
returns-in_default-clause-contents c = sym (none_resumed c.args.halts.now c.args.contents.now c.in_default.ensures).0

pub returns-in_default-clause-halts : goal.returns-in_default-clause-halts
returns-in_default-clause-halts c = sym (none_resumed c.args.halts.now c.args.contents.now c.in_default.ensures).1

pub returns-clause-contents : goal.returns-clause-contents
returns-clause-contents c = c.in_ok-stop.ensures.ok ∙ sym (first_resumed c.args.halts.now c.in-Some.halt c.args.contents.now c.in-Some.ensures)
