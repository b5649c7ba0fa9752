use Rattle.clone_trx.proofs.Common.{◌≡◌, ℕ, List, Option, Some, None, sym, subst, ◌∙◌, slots, Finds, FindsRoom, onward}
use Rattle.clone_trx.proofs.WalkStepLemmas.{kept_pinned, found_here, passes_here, keeps_here, returns_here, ends_here}
use Rattle.clone_trx.proofs.WriteLemmas.{is_none}
use Rattle.clone_trx.proofs.walk.look.Goals as goal

pub release_kept-requires : goal.release_kept-requires
release_kept-requires c = kept_pinned c.args.course c.args.kept c.args.buffer.now.pool.frames c.requires.kept

pub returns-in-Some-clause-next : goal.returns-in-Some-clause-next
returns-in-Some-clause-next c = λ first may h.
    let found = subst (λ (p : List ℕ). Finds c.args.course.key (slots p) (Some c.in-Some.slot)) c.frame-found.ensures.bytes c.in-Some.ensures in
    found_here c.args.course c.args.left c.args.page c.args.at c.args.kept first c.args.buffer.now c.requires.table may h c.requires.has c.requires.kept c.release_kept.new.buffer c.in-Some.slot c.release_kept.ensures.stay found c.release_kept.ensures.is

pub returns-in_default-kept-clause-next : goal.returns-in_default-kept-clause-next
returns-in_default-kept-clause-next c = λ first may h.
    let bytes = c.frame-found.ensures.bytes in
    let lack = subst (λ (p : List ℕ). Finds c.args.course.key (slots p) None) bytes c.in_default.ensures in
    let room = subst (λ (p : List ℕ). FindsRoom c.args.course c.args.kept p c.room_on-slot.result) bytes c.room_on-slot.ensures in
    let on = subst (λ (p : List ℕ). onward c.args.left p ≡ None) bytes (sym c.in_default-page_behind.ensures) in
    ends_here c.args.course c.args.left c.args.page c.args.at c.args.kept first c.args.buffer.now c.in_default-kept.is h c.requires.has lack c.room_on-slot.result room on

pub returns-in_default-page_behind-clause-next : goal.returns-in_default-page_behind-clause-next
returns-in_default-page_behind-clause-next c = λ first may h.
    let bytes = c.frame-found.ensures.bytes in
    let lack = subst (λ (p : List ℕ). Finds c.args.course.key (slots p) None) bytes c.in_default.ensures in
    let on = subst (λ (p : List ℕ). onward c.args.left p ≡ None) bytes (sym c.in_default-page_behind.ensures) in
    returns_here c.args.course c.args.left c.args.page c.args.at c.args.kept c.in-Some-kept.spot first c.args.buffer.now c.release.new.buffer c.in-Some-kept.is may h c.requires.has c.requires.kept c.release.ensures.stay lack on c.release.ensures.is

pub returns-then-is_some-clause-next : goal.returns-then-is_some-clause-next
returns-then-is_some-clause-next c = λ first may h.
    let bytes = c.frame-found.ensures.bytes in
    let lack = subst (λ (p : List ℕ). Finds c.args.course.key (slots p) None) bytes c.in_default.ensures in
    let room = subst (λ (p : List ℕ). FindsRoom c.args.course c.args.kept p c.room_on-slot.result) bytes c.room_on-slot.ensures in
    let on = subst (λ (p : List ℕ). onward c.args.left p ≡ Some c.in-Some-page_behind.next) bytes (sym c.in-Some-page_behind.ensures) in
    keeps_here c.args.course c.args.left c.args.page c.args.at c.args.kept first c.args.buffer.now c.requires.table may h c.requires.has lack c.in-Some-page_behind.next c.room_on-slot.result room (sym c.is_some.ensures ∙ c.if-is_some.true) on

pub returns-clause-next : goal.returns-clause-next
returns-clause-next c = λ first may h.
    let bytes = c.frame-found.ensures.bytes in
    let lack = subst (λ (p : List ℕ). Finds c.args.course.key (slots p) None) bytes c.in_default.ensures in
    let none = is_none c.room_on-slot.result (sym c.is_some.ensures ∙ c.if-is_some.false) in
    let room = subst (λ (x : List ℕ × Option ℕ). FindsRoom c.args.course c.args.kept x.0 x.1) (λ i. (bytes i, none i)) c.room_on-slot.ensures in
    let on = subst (λ (p : List ℕ). onward c.args.left p ≡ Some c.in-Some-page_behind.next) bytes (sym c.in-Some-page_behind.ensures) in
    passes_here c.args.course c.args.left c.args.page c.args.at c.args.kept first c.args.buffer.now c.requires.table may h c.requires.has c.requires.kept lack c.in-Some-page_behind.next c.release-2.new.buffer c.release-2.ensures.stay room on c.release-2.ensures.is
