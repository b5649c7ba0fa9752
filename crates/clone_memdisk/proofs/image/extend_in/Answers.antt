use Rattle.std.proofs.Common.{ap, ◌∙◌}
use Rattle.std.proofs.lemmas.Result.{on_ok_weaker, on_err_weaker}
use Rattle.clone_outside.specs.Disk.{extended}
use Rattle.clone_memdisk.specs.Listed.{spaces_of}
use Rattle.clone_memdisk.proofs.Spaces.{changed_space, same_space, absent_space}
use Rattle.clone_memdisk.proofs.image.extend_in.Goals as goal

pub returns-in-Some-clause-ok : goal.returns-in-Some-clause-ok
returns-in-Some-clause-ok c =
    let new = c.extend.new.self in
    on_ok_weaker c.extend.result
    (changed_space c.args.spaces.now (c.get_mut.follows.lender new) c.args.space c.in-Some.pages.now new (extended c.args.count) c.in-Some.ensures.value (c.get_mut.follows.holds new).3)
    c.extend.ensures.ok

pub returns-in-Some-clause-err : goal.returns-in-Some-clause-err
returns-in-Some-clause-err c =
    let new = c.extend.new.self in
    on_err_weaker c.extend.result
    (same_space c.args.spaces.now (c.get_mut.follows.lender new) c.args.space c.in-Some.pages.now new c.in-Some.ensures.value (c.get_mut.follows.holds new).3)
    c.extend.ensures.err

pub returns-in-None-clause-ok : goal.returns-in-None-clause-ok
returns-in-None-clause-ok c =
    ap (λ m. spaces_of m.entries) c.get_mut.follows.holds-at-none ∙ absent_space c.args.spaces.now c.args.space (extended c.args.count) c.in-None.ensures.value
