use Rattle.std.proofs.Common.{List, Bool, Result, Err, sym, ap, ◌∙◌, subst}
use Rattle.clone_outside.specs.DiskCalls.{DiskState}
use Rattle.clone_page.specs.declared.pages.PageAt.{PageAt}
use Rattle.clone_calls.specs.declared.block.Block.TheVariants as block
use Rattle.clone_calls.specs.declared.answer.DonorAnswer.TheVariants as answer
use Rattle.clone_calls.specs.declared.block.Block.{Block}
use Rattle.clone_calls.specs.declared.block.BlockRefusal.{BlockRefusal}
use Rattle.clone_calls.specs.declared.call.DonorCall.TheVariants as call
use Rattle.clone_engine.specs.Acts.{CloneActs}
use Rattle.clone_engine.specs.Over.{over}
use Rattle.clone_engine.proofs.SessionActs.{err_is}
use Rattle.clone_engine.proofs.BlockLemmas.{HasBlock, MayGive, claimed_is, gives, has_pages, has_redo, kind_is, misses, unread, pages_sized, redo_sized, visits_none}
use Rattle.clone_engine.proofs.engine.Engine.read_block.Goals as goal

has_read : (g : _) (c : goal.After-answered-last g) → HasBlock c.args.caller c.args.chunk c.args.number (over c.args.self.now (g.D.PageDisk.state c.args.disk.now)) (g.D.PageDisk.state c.match-work.disk) c.match-work.block
has_read g c =
    let a = c.args in
    let d = over a.self.now (g.D.PageDisk.state a.disk.now) in
    let may : MayGive a.caller a.stage a.chunk a.number d c.in_ok-work.work = record { is = c.requires.donor; cloning = c.laws.ensures; free = c.in_ok-work.ensures.0; made_of = c.in_ok-work.ensures.1 } in
    elim c.match-work.branch [
      | goal.in-Pages+in_ok-pages-in-Pages w ↦
          let read = w.in_ok-pages-in-Pages.ensures in
          let l = g.D.PageDisk.state w.pages.new.disk in
          let has = has_pages a.caller a.stage a.chunk a.number d l c.in_ok-work.work may read.visits w.in-Pages.pages w.in_ok-pages-in-Pages.field-0.items w.in-Pages.is read.places read.read in
          subst (λ (k : DiskState). HasBlock a.caller a.chunk a.number d k c.match-work.block) (ap (g.D.PageDisk.state) (sym w.disk-is)) (subst (HasBlock a.caller a.chunk a.number d l) (sym (w.block-is ∙ ap (λ (pages : List PageAt). block.Pages pages) w.new.ensures)) has)
      | goal.in-Redo+in_ok-block-in-Redo w ↦
          let has = has_redo a.caller a.stage a.chunk a.number d d.engine.disk c.in_ok-work.work may (visits_none d.engine) w.in-Redo.redo w.in_ok-block-in-Redo.block w.in-Redo.is (w.in_ok-block-in-Redo.ensures d.engine.disk) in
          subst (λ (k : DiskState). HasBlock a.caller a.chunk a.number d k c.match-work.block) (ap (g.D.PageDisk.state) (sym w.disk-is)) (subst (HasBlock a.caller a.chunk a.number d d.engine.disk) (sym w.block-is) has)
    ]

pub new-requires-clause-some : goal.new-requires-clause-some
new-requires-clause-some g c =
    (pages_sized c.args.self.now.cloning c.args.caller.session c.args.chunk c.args.number c.in_ok-work.work c.in_ok-work.ensures.1 c.in-Pages.pages c.in_ok-pages-in-Pages.field-0.items c.in-Pages.is c.in_ok-pages-in-Pages.ensures.places).0

pub redo-requires-clause-some : goal.redo-requires-clause-some
redo-requires-clause-some g c =
    (redo_sized c.args.self.now.cloning c.args.caller.session c.args.chunk c.args.number c.in_ok-work.work c.in_ok-work.ensures.1 c.in-Redo.redo c.in-Redo.is).0

pub redo-requires-clause-few : goal.redo-requires-clause-few
redo-requires-clause-few g c =
    (redo_sized c.args.self.now.cloning c.args.caller.session c.args.chunk c.args.number c.in_ok-work.work c.in_ok-work.ensures.1 c.in-Redo.redo c.in-Redo.is).1

pub returns-in_err-pages-in-Pages-clause-acts : goal.returns-in_err-pages-in-Pages-clause-acts
returns-in_err-pages-in-Pages-clause-acts g c =
    let a = c.args in
    let d = over a.self.now (g.D.PageDisk.state a.disk.now) in
    let l = g.D.PageDisk.state c.pages.new.disk in
    let why = c.in_err-pages-in-Pages.field-0.0 in
    let visits = c.pages.ensures.visits in
    subst (λ (r : Result (Block × Bool) BlockRefusal). CloneActs (call.ReadBlock a.caller a.stage a.chunk a.number) (answer.ReadBlock r) d (record d { engine = record d.engine { disk = l } }))
    (sym (err_is c.from_residual-in_err-pages-in-Pages.result why c.from_residual-in_err-pages-in-Pages.ensures.1))
    (misses a.caller a.stage a.chunk a.number d l why visits c.requires.donor (unread a.caller a.stage a.chunk a.number d l why visits c.in_err-pages-in-Pages.ensures.refused))

pub returns-clause-kind : goal.returns-clause-kind
returns-clause-kind g c = kind_is c.args.caller c.args.stage c.args.chunk c.args.number _ _ c.match-work.block c.in_ok-work.ensures.0 (has_read g c)

pub returns-clause-acts : goal.returns-clause-acts
returns-clause-acts g c = gives c.args.caller c.args.stage c.args.chunk c.args.number _ _ c.match-work.block c.in_ok-work.ensures.0 (has_read g c) c.answered-last.new.self c.answered-last.result c.answered-last.ensures

pub answered-last-requires : goal.answered-last-requires
answered-last-requires g c =
    let a = c.args in
    record { claimed = claimed_is a.self.now.cloning a.caller a.stage a.chunk a.number c.in_ok-work.work c.in_ok-work.ensures.0 c.in_ok-work.ensures.1 }
