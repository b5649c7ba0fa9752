use Rattle.clone_row.specs.Slots as rows
use Rattle.clone_undo.specs.Places.{header_page, record_page}
use Rattle.clone_undo.specs.Changes.{records_of_change}
use Rattle.clone_trx.proofs.Common.{◌≡◌, ◌<◌, ◌≤◌, ◌==◌, ◌∙◌, ℕ, Bool, true, false, [], List, Some, if◌then◌else◌, sym, ap, subst, arith, is_some, IsSome, length, Buffered, image_of, is_new, row_page, system_page, Call, HasCome, IsRefused, Has, change_call, Way, Writes, page_in, reads, writes, Change, Donor, UndoEntry, page_of}
use Rattle.clone_trx.proofs.BetweenLemmas.{between_writes}
use Rattle.clone_trx.proofs.CauseLemmas.{MayChange, may_change}
use Rattle.clone_trx.proofs.ChangeLemmas.{first_made, made_by}
use Rattle.clone_trx.proofs.HoldingLemmas.{ends_so, refused_goes, released_between, writes_pinned}
use Rattle.clone_trx.proofs.SystemPageLemmas.{header_there, record_there}
use Rattle.clone_trx.proofs.WayLemmas.{still_target}
use Rattle.clone_trx.proofs.transactions.Transactions.change.Goals as goal
use Rattle.clone_trx.proofs.transactions.Transactions.change.Goals.{In_ok-at, In_ok-hold, In_ok-target}

-- the donor may make the change, and its transaction has a small number
record May (d : Donor) (trx : ℕ) (change : Change) : Type 0 where
  may : MayChange d trx change.table change.key
  small : trx < 64

may : (g : _) (c : In_ok-target g) → May c.args.self.now c.args.trx c.args.change
may g c =
    let m = may_change c.args.self.now c.args.trx c.args.change.table c.args.change.key c.requires.cause.0 c.laws.ensures.safe.locked c.requires.cause.1 in
    record { may = m; small = c.laws.ensures.safe.locked.few.numbers c.args.trx (ap is_some m.was_active) }

-- A REFUSAL.
pub returns-in_err-target-clause-way : goal.returns-in_err-target-clause-way
returns-in_err-target-clause-way g c = refused_goes c.from_residual.result c.from_residual.ensures.1 c.in_err-target.ensures.refused

pub returns-in_err-target-clause-kept : goal.returns-in_err-target-clause-kept
returns-in_err-target-clause-kept g c = c.in_err-target.ensures.refused.keeps

pub returns-in_err-target-clause-between : goal.returns-in_err-target-clause-between
returns-in_err-target-clause-between g c = c.in_err-target.ensures.refused.between

-- THE UNDO PAGES: the rest of the way behind both, and behind the first.
abbrev undo : ℕ → Change → UndoEntry → Bool → ℕ → List ℕ → Way
undo trx change entry new count page = writes (records_of_change (is_new page) new trx count entry (rows.image change.key change.value))

abbrev header : ℕ → Change → UndoEntry → Bool → ℕ → List ℕ → Way
header trx change entry new count page = reads (system_page (record_page trx count)) (undo trx change entry new count)

first_low : (first : ℕ) (new : Bool) → first ≡ (if new then 0 else 1) → first ≤ 1
first_low first true is = omega (arith, is)
first_low first false is = omega (arith, is)

-- a page of the system space, by the number that the code has of it
named : (call : Call) (f : List ℕ) (b : Buffered) (number is : ℕ) (rest : List ℕ → Way) → number ≡ is → HasCome call f (reads (system_page is) rest) b → HasCome call f (reads (system_page number) rest) b
named call f b number is rest same come = subst (λ (n : ℕ). HasCome call f (reads (system_page n) rest) b) (sym same) come

one : (g : _) (c : In_ok-hold g) → HasCome (change_call c.args.self.now c.args.trx c.args.change c.args.buffer.now) c.hold.new.self (header c.args.trx c.args.change c.in_ok-target.target.entry c.in_ok-target.target.is_new c.in_ok-target.target.count []) c.hold.new.buffer
one g c =
    let t = c.in_ok-target.target in
    let u : Call = change_call c.args.self.now c.args.trx c.args.change c.args.buffer.now in
    let rest : List ℕ → Way = header c.args.trx c.args.change t.entry t.is_new t.count in
    c.in_ok-hold.ensures.comes u rest (named u c.find_target.new.held c.find_target.new.buffer c.header_page.result (header_page c.args.trx) rest c.header_page.ensures c.in_ok-target.ensures.placed.comes)

two : (g : _) (c : In_ok-at g) → HasCome (change_call c.args.self.now c.args.trx c.args.change c.args.buffer.now) c.hold.new.self (header c.args.trx c.args.change c.in_ok-target.target.entry c.in_ok-target.target.is_new c.in_ok-target.target.count []) c.hold.new.buffer
    → HasCome (change_call c.args.self.now c.args.trx c.args.change c.args.buffer.now) c.hold-2.new.self (undo c.args.trx c.args.change c.in_ok-target.target.entry c.in_ok-target.target.is_new c.in_ok-target.target.count (page_in c.in_ok-at.at c.hold-2.new.buffer)) c.hold-2.new.buffer
two g c come =
    let t = c.in_ok-target.target in
    let u : Call = change_call c.args.self.now c.args.trx c.args.change c.args.buffer.now in
    let behind : List ℕ → Way = undo c.args.trx c.args.change t.entry t.is_new t.count in
    c.in_ok-at.ensures.comes u behind (named u c.hold.new.self c.hold.new.buffer c.record_page.result (record_page c.args.trx t.count) behind c.record_page.ensures come)

-- one of them isn't brought
first : (g : _) (c : goal.After-from_residual-in_err-hold g) → IsRefused (change_call c.args.self.now c.args.trx c.args.change c.args.buffer.now) c.hold.new.buffer c.in_err-hold.field-0.0
first g c =
    let t = c.in_ok-target.target in
    let u : Call = change_call c.args.self.now c.args.trx c.args.change c.args.buffer.now in
    let rest : List ℕ → Way = header c.args.trx c.args.change t.entry t.is_new t.count in
    c.in_err-hold.ensures.refused u rest (named u c.find_target.new.held c.find_target.new.buffer c.header_page.result (header_page c.args.trx) rest c.header_page.ensures c.in_ok-target.ensures.placed.comes)

pub returns-in_err-hold-clause-way : goal.returns-in_err-hold-clause-way
returns-in_err-hold-clause-way g c = refused_goes c.from_residual-in_err-hold.result c.from_residual-in_err-hold.ensures.1 (first g c)

pub returns-in_err-hold-clause-kept : goal.returns-in_err-hold-clause-kept
returns-in_err-hold-clause-kept g c = (first g c).keeps

pub returns-in_err-hold-clause-between : goal.returns-in_err-hold-clause-between
returns-in_err-hold-clause-between g c = (first g c).between

second : (g : _) (c : goal.After-from_residual-in_err-at g) → HasCome (change_call c.args.self.now c.args.trx c.args.change c.args.buffer.now) c.hold.new.self (header c.args.trx c.args.change c.in_ok-target.target.entry c.in_ok-target.target.is_new c.in_ok-target.target.count []) c.hold.new.buffer → IsRefused (change_call c.args.self.now c.args.trx c.args.change c.args.buffer.now) c.hold-2.new.buffer c.in_err-at.field-0.0
second g c come =
    let t = c.in_ok-target.target in
    let u : Call = change_call c.args.self.now c.args.trx c.args.change c.args.buffer.now in
    let behind : List ℕ → Way = undo c.args.trx c.args.change t.entry t.is_new t.count in
    c.in_err-at.ensures.refused u behind (named u c.hold.new.self c.hold.new.buffer c.record_page.result (record_page c.args.trx t.count) behind c.record_page.ensures come)

pub returns-in_err-at-clause-way : goal.returns-in_err-at-clause-way
returns-in_err-at-clause-way g c = refused_goes c.from_residual-in_err-at.result c.from_residual-in_err-at.ensures.1 (second g c (one g (goal.at.returns-in_err-at-clause-way g c).In_ok-hold))

pub returns-in_err-at-clause-kept : goal.returns-in_err-at-clause-kept
returns-in_err-at-clause-kept g c = (second g c (one g (goal.at.returns-in_err-at-clause-kept g c).In_ok-hold)).keeps

pub returns-in_err-at-clause-between : goal.returns-in_err-at-clause-between
returns-in_err-at-clause-between g c = (second g c (one g (goal.at.returns-in_err-at-clause-between g c).In_ok-hold)).between

pub header_page-requires : goal.header_page-requires
header_page-requires g c = (may g (goal.at.header_page-requires g c).In_ok-target).small

pub hold-requires : goal.hold-requires
hold-requires g c =
    let p = c.in_ok-target.ensures.placed in
    let image = image_of c.find_target.new.buffer in
    let small = (may g (goal.at.hold-requires g c).In_ok-target).small in
    record {
      room = omega (arith, p.few);
      pinned = p.comes.pins;
      there = λ right. subst (λ (n : ℕ). IsSome (page_of image 0 n)) (sym c.header_page.ensures) (header_there image c.args.trx (p.comes.kept right).formed small);
    }

pub record_page-requires : goal.record_page-requires
record_page-requires g c =
    let m = may g (goal.at.record_page-requires g c).In_ok-target in
    let made = c.in_ok-target.ensures.placed.target.count in
    record { slot = m.small; number = omega (arith, m.may.few, made) }

pub hold-requires-2 : goal.hold-requires-2
hold-requires-2 g c =
    let at = goal.at.hold-requires-2 g c in
    let m = may g at.In_ok-target in
    let p = c.in_ok-target.ensures.placed in
    let come = one g at.In_ok-hold in
    let image = image_of c.hold.new.buffer in
    let made = p.target.count in
    record {
      room = omega (arith, p.few, ap length c.in_ok-hold.ensures.frames);
      pinned = come.pins;
      there = λ right. subst (λ (n : ℕ). IsSome (page_of image 0 n)) (sym c.record_page.ensures) (record_there image c.args.trx c.in_ok-target.target.count (come.kept right).formed m.small (omega (arith, m.may.few, made)));
    }

-- THE CHANGE IS WRITTEN, with its three pages held.
pub write_change-changed-requires-clause-ready : goal.write_change-changed-requires-clause-ready
write_change-changed-requires-clause-ready g c =
    let d = c.args.self.now in
    let t = c.in_ok-target.target in
    let trx : ℕ = c.args.trx in
    let change = c.args.change in
    let p = c.in_ok-target.ensures.placed in
    let h = c.in_ok-hold.ensures.holds in
    let u = c.in_ok-at.ensures.holds in
    let image = image_of c.hold-2.new.buffer in
    let number : ℕ = record_page trx t.count in
    let mid : Buffered = c.hold.new.buffer in
    let new : Buffered = c.hold-2.new.buffer in
    record {
      target = still_target d trx change mid new t.entry t.is_new t.count u.log u.before (still_target d trx change c.find_target.new.buffer mid t.entry t.is_new t.count h.log h.before p.target);
      from_low = first_low c.first_record-first.result (is_new c.frame.result.now) c.first_record-first.ensures;
      from_is = λ right.
          let page : page_of image 0 number ≡ Some c.frame.result.now = ap (page_of image 0) (sym c.record_page.ensures) ∙ c.in_ok-at.ensures.shown right ∙ ap (λ (p : List ℕ). Some p) (sym c.frame.ensures.bytes) in
          first_made image number c.first_record-first.result c.frame.result.now page c.first_record-first.ensures;
      row = (p.row.0, u.still (row_page t.entry) p.row.0 (h.still (row_page t.entry) p.row.0 p.row.1));
      header = (c.in_ok-hold.field-0, subst (λ (n : ℕ). Has (system_page n) c.in_ok-hold.field-0 new.pool.frames) c.header_page.ensures (u.still (system_page c.header_page.result) c.in_ok-hold.field-0 h.has));
      undo = (c.in_ok-at.at, subst (λ (n : ℕ). Has (system_page n) c.in_ok-at.at new.pool.frames) c.record_page.ensures u.has);
    }

pub write_change-changed-requires-clause-kept : goal.write_change-changed-requires-clause-kept
write_change-changed-requires-clause-kept g c = (two g (goal.at.write_change-changed-requires-clause-kept g c).In_ok-at (one g (goal.at.write_change-changed-requires-clause-kept g c).In_ok-hold)).kept

-- what was written is what is left of the way
written : (g : _) (c : goal.After-release g) → Writes (records_of_change (is_new (page_in c.in_ok-at.at c.hold-2.new.buffer)) c.in_ok-target.target.is_new c.args.trx c.in_ok-target.target.count c.in_ok-target.target.entry (rows.image c.args.change.key c.args.change.value)) c.hold-2.new.buffer c.write_change-changed.new.buffer c.write_change-changed.result
written g c =
    let t = c.in_ok-target.target in
    let new : Buffered = c.hold-2.new.buffer in
    let first = made_by c.first_record-first.result (is_new (page_in c.in_ok-at.at new)) (c.first_record-first.ensures ∙ ap (λ (p : List ℕ). if is_new p then 0 else 1) c.frame.ensures.bytes) in
    subst (λ (b : Bool). Writes (records_of_change b t.is_new c.args.trx t.count t.entry (rows.image c.args.change.key c.args.change.value)) new c.write_change-changed.new.buffer c.write_change-changed.result) first c.write_change-changed.ensures.written

pub release-requires : goal.release-requires
release-requires g c =
    let t = c.in_ok-target.target in
    writes_pinned (records_of_change (c.first_record-first.result == 0) t.is_new c.args.trx t.count t.entry (rows.image c.args.change.key c.args.change.value)) c.hold-2.new.self c.hold-2.new.buffer c.write_change-changed.new.buffer c.write_change-changed.result c.write_change-changed.ensures.written
    (two g (goal.at.release-requires g c).In_ok-at (one g (goal.at.release-requires g c).In_ok-hold)).pins

pub returns-clause-way : goal.returns-clause-way
returns-clause-way g c = ends_so c.write_change-changed.new.buffer (two g (goal.at.returns-clause-way g c).In_ok-at (one g (goal.at.returns-clause-way g c).In_ok-hold)) c.write_change-changed.result (written g c) c.release.ensures.is

pub returns-clause-kept : goal.returns-clause-kept
returns-clause-kept g c = c.release.ensures.keeps c.write_change-changed.new.self c.write_change-changed.ensures.kept

pub returns-clause-between : goal.returns-clause-between
returns-clause-between g c =
    let b : Buffered = c.hold-2.new.buffer in
    let last : Buffered = c.write_change-changed.new.buffer in
    let come = two g (goal.at.returns-clause-between g c).In_ok-at (one g (goal.at.returns-clause-between g c).In_ok-hold) in
    let page : List ℕ = page_in c.in_ok-at.at b in
    let t = c.in_ok-target.target in
    released_between c.args.self.now c.hold-2.new.self last c.release.new.buffer c.release.ensures.is c.args.buffer.now
    (between_writes c.args.self.now c.args.buffer.now b last (records_of_change (is_new page) t.is_new c.args.trx t.count t.entry (rows.image c.args.change.key c.args.change.value)) c.write_change-changed.result (written g c) come.kept come.between)

pub returns-clause-stands : goal.returns-clause-stands
returns-clause-stands g c = λ beside is.
    let told = (g.D.PageDisk.state c.hold-2.new.disk).told in
    c.release.ensures.stands told beside (c.write_change-changed.ensures.stands told beside (c.hold-2.ensures.stands beside (c.hold.ensures.stands beside (c.find_target.ensures.stands beside is))))
