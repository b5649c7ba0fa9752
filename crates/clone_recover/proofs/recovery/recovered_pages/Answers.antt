use Rattle.std.proofs.Common.{◌∙◌}
use Rattle.std.proofs.lemmas.Result.{err_from_is_err_and}
use Rattle.clone_outside.specs.Disk.{ForTold}
use Rattle.clone_overlay.specs.Images.{image_of}
use Rattle.clone_overlay.specs.Shown.{Shows, ShowsSame}
use Rattle.clone_recover.specs.Damage.{AgainstOn, PageOrOn, HasBroken}
use Rattle.clone_recover.specs.Refusals.{refusal_of}
use Rattle.clone_recover.specs.Restores.{LeavesOn, IsRedoCause}
use Rattle.clone_recover.proofs.Faults.{of_disk, disk_known, disk_damage}
use Rattle.clone_recover.proofs.RecoveryLemmas.{log_fails, redo_fails, dictionary_fails, undo_fails, takes_back, chains_damage, undoes}
use Rattle.clone_recover.proofs.RedoLemmas.{retold}
use Rattle.clone_recover.proofs.recovery.recovered_pages.Goals as goal

pub returns-in_err-check_log-clause-cause : goal.returns-in_err-check_log-clause-cause
returns-in_err-check_log-clause-cause g c =
    let p = err_from_is_err_and c.from_residual.result c.from_residual.ensures.1 in
    rw (p.1, p.2) (log_fails (g.R.PageDisk.state c.args.disk.now).told c.args.end.now c.in_err-check_log.field-0.0 c.in_err-check_log.ensures.cause)

pub returns-in_err-overlay-clause-cause : goal.returns-in_err-overlay-clause-cause
returns-in_err-overlay-clause-cause g c =
    let p = err_from_is_err_and c.from_residual-in_err-overlay.result c.from_residual-in_err-overlay.ensures.1 in
    rw (p.1, p.2) (disk_damage (g.R.PageDisk.state c.args.disk.now).told c.args.end.now (refusal_of c.in_err-overlay.field-0.0) (of_disk c.in_err-overlay.field-0.0))

pub returns-in_err-overlay-clause-known : goal.returns-in_err-overlay-clause-known
returns-in_err-overlay-clause-known g c = λ is.
    let p = err_from_is_err_and c.from_residual-in_err-overlay.result c.from_residual-in_err-overlay.ensures.1 in
    disk_known (refusal_of c.in_err-overlay.field-0.0) (of_disk c.in_err-overlay.field-0.0) (cc (p.1, p.2))

pub returns-in_err-redo-clause-cause : goal.returns-in_err-redo-clause-cause
returns-in_err-redo-clause-cause g c =
    let told = (g.R.PageDisk.state c.args.disk.now).told in
    let logged = c.in_ok-check_log.ensures.reads.told in
    let opened = c.in_ok-overlay.ensures.asks.told ∙ logged in
    let end = c.args.end.now in
    let first = c.in_ok-overlay.overlay in
    let p = err_from_is_err_and c.from_residual-in_err-redo.result c.from_residual-in_err-redo.ensures.1 in
    rw (p.1, p.2)
    (redo_fails told end first c.in_err-redo.field-0.0 c.in_ok-check_log.ensures.redo (retold _ told (λ t. ForTold t (λ m. Shows (image_of m) (image_of m) first)) logged c.in_ok-overlay.ensures.shows)
    (retold _ told (λ t. IsRedoCause t end first c.in_err-redo.field-0.0) opened c.in_err-redo.ensures.cause))

pub returns-in_err-check_dictionary-clause-cause : goal.returns-in_err-check_dictionary-clause-cause
returns-in_err-check_dictionary-clause-cause g c =
    let told = (g.R.PageDisk.state c.args.disk.now).told in
    let logged = c.in_ok-check_log.ensures.reads.told in
    let opened = c.in_ok-overlay.ensures.asks.told ∙ logged in
    let redone = c.in_ok-redo.ensures.reads.told ∙ opened in
    let end = c.args.end.now in
    let first = c.in_ok-overlay.overlay in
    let left = c.redo.new.overlay in
    let p = err_from_is_err_and c.from_residual-in_err-check_dictionary.result c.from_residual-in_err-check_dictionary.ensures.1 in
    rw (p.1, p.2)
    (dictionary_fails told end first left c.in_err-check_dictionary.field-0.0 (retold _ told (λ t. ForTold t (λ m. Shows (image_of m) (image_of m) first)) logged c.in_ok-overlay.ensures.shows)
    (retold _ told (λ t. LeavesOn t end first left) opened c.in_ok-redo.ensures.ok) (retold _ told (λ t. AgainstOn t left c.in_err-check_dictionary.field-0.0) redone c.in_err-check_dictionary.ensures.cause))

pub returns-in_err-take_back_open-clause-cause : goal.returns-in_err-take_back_open-clause-cause
returns-in_err-take_back_open-clause-cause g c =
    let told = (g.R.PageDisk.state c.args.disk.now).told in
    let logged = c.in_ok-check_log.ensures.reads.told in
    let opened = c.in_ok-overlay.ensures.asks.told ∙ logged in
    let redone = c.in_ok-redo.ensures.reads.told ∙ opened in
    let tested = c.in_ok-check_dictionary.ensures.reads.told ∙ redone in
    let end = c.args.end.now in
    let first = c.in_ok-overlay.overlay in
    let left = c.redo.new.overlay in
    let over = c.check_dictionary.new.overlay in
    let p = err_from_is_err_and c.from_residual-in_err-take_back_open.result c.from_residual-in_err-take_back_open.ensures.1 in
    rw (p.1, p.2)
    (undo_fails told end first left over c.in_err-take_back_open.field-0.0 (retold _ told (λ t. ForTold t (λ m. Shows (image_of m) (image_of m) first)) logged c.in_ok-overlay.ensures.shows)
    (retold _ told (λ t. LeavesOn t end first left) opened c.in_ok-redo.ensures.ok) (retold _ told (λ t. ShowsSame t left over) redone c.in_ok-check_dictionary.ensures.shows)
    (retold _ told (λ t. PageOrOn t over HasBroken c.in_err-take_back_open.field-0.0) tested c.in_err-take_back_open.ensures.cause))

pub returns-in_err-check_chains-clause-cause : goal.returns-in_err-check_chains-clause-cause
returns-in_err-check_chains-clause-cause g c =
    let same = c.in_ok-take_back_open.ensures.reads.told ∙ c.in_ok-check_dictionary.ensures.reads.told ∙ c.in_ok-redo.ensures.reads.told ∙ c.in_ok-overlay.ensures.asks.told ∙ c.in_ok-check_log.ensures.reads.told in
    let takes =
    takes_back (g.R.PageDisk.state c.args.disk.now).told (g.R.PageDisk.state c.check_log.new.disk).told (g.R.PageDisk.state c.open.new.disk).told (g.R.PageDisk.state c.redo.new.disk).told (g.R.PageDisk.state c.check_dictionary.new.disk).told c.args.end.now c.in_ok-overlay.overlay c.redo.new.overlay
    c.check_dictionary.new.overlay c.take_back_open.new.overlay c.in_ok-check_log.ensures.reads.told c.in_ok-overlay.ensures.asks.told c.in_ok-redo.ensures.reads.told c.in_ok-check_dictionary.ensures.reads.told c.in_ok-overlay.ensures.shows c.in_ok-redo.ensures.ok
    c.in_ok-check_dictionary.ensures.shows c.in_ok-take_back_open.ensures.recovered in
    let p = err_from_is_err_and c.from_residual-in_err-check_chains.result c.from_residual-in_err-check_chains.ensures.1 in
    rw (p.1, p.2)
    (chains_damage (g.R.PageDisk.state c.args.disk.now).told (g.R.PageDisk.state c.take_back_open.new.disk).told c.args.end.now c.take_back_open.new.overlay c.in_err-check_chains.field-0.0 same takes c.in_err-check_chains.ensures.cause)

pub returns-clause-ok : goal.returns-clause-ok
returns-clause-ok g c =
    let same = c.in_ok-take_back_open.ensures.reads.told ∙ c.in_ok-check_dictionary.ensures.reads.told ∙ c.in_ok-redo.ensures.reads.told ∙ c.in_ok-overlay.ensures.asks.told ∙ c.in_ok-check_log.ensures.reads.told in
    let takes =
    takes_back (g.R.PageDisk.state c.args.disk.now).told (g.R.PageDisk.state c.check_log.new.disk).told (g.R.PageDisk.state c.open.new.disk).told (g.R.PageDisk.state c.redo.new.disk).told (g.R.PageDisk.state c.check_dictionary.new.disk).told c.args.end.now c.in_ok-overlay.overlay c.redo.new.overlay
    c.check_dictionary.new.overlay c.take_back_open.new.overlay c.in_ok-check_log.ensures.reads.told c.in_ok-overlay.ensures.asks.told c.in_ok-redo.ensures.reads.told c.in_ok-check_dictionary.ensures.reads.told c.in_ok-overlay.ensures.shows c.in_ok-redo.ensures.ok
    c.in_ok-check_dictionary.ensures.shows c.in_ok-take_back_open.ensures.recovered in
    undoes (g.R.PageDisk.state c.args.disk.now).told (g.R.PageDisk.state c.take_back_open.new.disk).told c.args.end.now c.take_back_open.new.overlay c.check_chains.new.overlay same takes c.in_ok-check_chains.ensures.shows c.in_ok-check_chains.ensures.sound
