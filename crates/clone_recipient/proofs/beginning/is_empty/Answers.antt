use Rattle.std.proofs.Common.{◌≡◌, ◌==◌, not, sym, ap, subst, ◌∙◌, Option}
use Rattle.clone_outside.specs.Disk.{DiskImage, ForTold}
use Rattle.clone_recipient.proofs.BlankLemmas.{some_space, is_blank}
use Rattle.clone_recipient.proofs.beginning.is_empty.Goals as goal

pub returns-then-not-is_empty-clause-not_empty : goal.returns-then-not-is_empty-clause-not_empty
returns-then-not-is_empty-clause-not_empty g c _ = some_space (g.R.PageDisk.state c.args.disk.now).told c.in_ok-spaces.field-0.items (ap (λ n. n == 0) (sym c.in_ok-spaces.field-0.ok.0) ∙ sym c.is_empty.ensures ∙ c.if-not-is_empty.true) c.in_ok-spaces.ensures.all

pub returns-clause-empty : goal.returns-clause-empty
returns-clause-empty g c none =
    let mark = c.in_ok-read_mark.field-0 in
    is_blank (g.R.PageDisk.state c.args.disk.now).told c.in_ok-spaces.field-0.items mark (ap (λ n. n == 0) (sym c.in_ok-spaces.field-0.ok.0) ∙ sym c.is_empty.ensures ∙ c.if-not-is_empty.false) (c.is_none.ensures ∙ ap not none) c.in_ok-spaces.ensures.all
    (subst (λ (told : Option DiskImage). ForTold told (λ m. mark ≡ m.mark)) c.in_ok-spaces.ensures.asks.told c.in_ok-read_mark.ensures.mark)
