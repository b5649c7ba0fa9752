use Rattle.clone_undo.specs.Places.{header_page, record_page}
use Rattle.clone_undo.specs.Changes.{records_of_end, records_of_taking_back}
use Rattle.clone_trx.proofs.Common.{◌≡◌, ◌-◌, ◌∙◌, ℕ, [], List, Option, Some, IsSome, IsTrue, sym, ap, subst, arith, rules, entry_on, PageName, Buffered, image_of, Undoes, before_change, last_change, row_page, system_page, undo_last, undo_way, Call, HasCome, IsRefused, Has, IsLast, IsLastRecord, Way, page_in, reads, writes, Change, Donor, Keeps, UndoEntry, page_of, no_trx}
use Rattle.clone_trx.proofs.HoldingLemmas.{answers_so, refused_answers, refused_memory, starts_at, writes_pinned}
use Rattle.clone_trx.proofs.LastRecordLemmas.{IsOf, before_of}
use Rattle.clone_trx.proofs.LastUndoLemmas.{last_small, last_table, last_there, last_read, last_way}
use Rattle.clone_trx.proofs.LongerWayLemmas.{same_image}
use Rattle.clone_trx.proofs.SystemPageLemmas.{record_there}
use Rattle.clone_trx.proofs.transactions.Transactions.undo_one.Goals as goal
use Rattle.clone_trx.proofs.transactions.Transactions.undo_one.Goals.{After-entry_of-entry, In_ok-hold, In_ok-hold-2}

abbrev call : Donor → ℕ → Buffered → Call
call d trx old = record { donor = d; way = undo_way d trx; first = old }

-- THE HEADER'S PAGE.
abbrev behind : Donor → ℕ → List ℕ → Way
behind d trx header = undo_last d trx (last_change d trx)

start : (d : Donor) (trx number : ℕ) (old : Buffered) (held : List ℕ) → number ≡ header_page trx → held ≡ [] → Keeps d old → HasCome (call d trx old) held (reads (system_page number) (behind d trx)) old
start d trx number old held is none keeps = subst (λ (n : ℕ). HasCome (call d trx old) held (reads (system_page n) (behind d trx)) old) (sym is) (starts_at (call d trx old) held none keeps)

one : (g : _) (c : In_ok-hold g) → HasCome (call c.args.self.now c.args.trx c.args.buffer.now) c.hold.new.self (behind c.args.self.now c.args.trx []) c.hold.new.buffer
one g c = let d = c.args.self.now in c.in_ok-hold.ensures.comes (call d c.args.trx c.args.buffer.now) (behind d c.args.trx) (start d c.args.trx c.header_page.result c.args.buffer.now c.new-held.result c.header_page.ensures c.new-held.ensures c.requires.kept)

first : (g : _) (c : goal.After-from_residual g) → IsRefused (call c.args.self.now c.args.trx c.args.buffer.now) c.hold.new.buffer c.in_err-hold.field-0.0
first g c =
    let d = c.args.self.now in
    c.in_err-hold.ensures.refused (call d c.args.trx c.args.buffer.now) (behind d c.args.trx) (start d c.args.trx c.header_page.result c.args.buffer.now c.new-held.result c.header_page.ensures c.new-held.ensures c.requires.kept)

pub returns-in_err-hold-clause-answer : goal.returns-in_err-hold-clause-answer
returns-in_err-hold-clause-answer g c = refused_answers c.from_residual.result c.from_residual.ensures.1 (first g c) (no_trx c.args.self.now c.args.trx) (λ undone. Undoes c.args.self.now c.args.trx undone c.args.self.now) (search rules)

pub returns-in_err-hold-clause-memory : goal.returns-in_err-hold-clause-memory
returns-in_err-hold-clause-memory g c = refused_memory c.from_residual.result c.from_residual.ensures.1 (first g c)

pub returns-in_err-hold-clause-kept : goal.returns-in_err-hold-clause-kept
returns-in_err-hold-clause-kept g c = (first g c).keeps

-- A TRANSACTION WITHOUT CHANGES ends.
pub end-ended-requires-clause-kept : goal.end-ended-requires-clause-kept
end-ended-requires-clause-kept g c = (one g (goal.at.end-ended-requires-clause-kept g c).In_ok-hold).kept

pub release-requires : goal.release-requires
release-requires g c = writes_pinned (records_of_end c.args.trx) c.hold.new.self c.hold.new.buffer c.end-ended.new.buffer c.end-ended.result c.end-ended.ensures.written (one g (goal.at.release-requires g c).In_ok-hold).pins

pub returns-in_default-clause-answer : goal.returns-in_default-clause-answer
returns-in_default-clause-answer g c =
    let d = c.args.self.now in
    let e = c.end-ended.ensures in
    let after = c.end-ended.new.self in
    let come = subst (λ (o : Option Change). HasCome (call d c.args.trx c.args.buffer.now) c.hold.new.self (undo_last d c.args.trx o) c.hold.new.buffer) c.in_default.ensures.none (one g (goal.at.returns-in_default-clause-answer g c).In_ok-hold) in
    answers_so c.end-ended.new.buffer come c.end-ended.result e.written c.release.ensures.is (no_trx d c.args.trx) after (λ undone. Undoes d c.args.trx undone after) (search rules) e.donor

pub returns-in_default-clause-kept : goal.returns-in_default-clause-kept
returns-in_default-clause-kept g c = c.release.ensures.keeps c.end-ended.new.self c.end-ended.ensures.kept

-- THE LAST UNDO RECORD.
pub record_page-requires : goal.record_page-requires
record_page-requires g c =
    let s = last_small c.args.self.now c.args.trx c.in-Some.count c.in-Some.table c.in-Some.key c.in-Some.ensures.some c.laws.ensures.safe.locked in
    record { slot = s.2; number = omega (arith, s.0, s.1) }

pub hold-requires-2-clause-pinned : goal.hold-requires-2-clause-pinned
hold-requires-2-clause-pinned g c = (one g (goal.at.hold-requires-2-clause-pinned g c).In_ok-hold).pins

pub hold-requires-2-clause-there : goal.hold-requires-2-clause-there
hold-requires-2-clause-there g c = λ right.
    let image = image_of c.hold.new.buffer in
    let s = last_small c.args.self.now c.args.trx c.in-Some.count c.in-Some.table c.in-Some.key c.in-Some.ensures.some c.laws.ensures.safe.locked in
    let kept = (one g (goal.at.hold-requires-2-clause-there g c).In_ok-hold).kept right in
    subst (λ (n : ℕ). IsSome (page_of image 0 n)) (sym c.record_page.ensures) (record_there image c.args.trx (c.in-Some.count - 1) kept.formed s.2 (omega (arith, s.0, s.1)))

-- what is read and written then
abbrev taken : ℕ → ℕ → UndoEntry → List ℕ → Way
taken trx count e row = writes (records_of_taking_back trx count e)

abbrev before : Donor → ℕ → ℕ → ℕ → List ℕ → UndoEntry
before d count table key page = before_change d table key (entry_on (count - 1) page)

abbrev at_row : Donor → ℕ → ℕ → ℕ → ℕ → List ℕ → Way
at_row d trx count table key page = reads (row_page (before d count table key page)) (taken trx count (before d count table key page))

read : (d : Donor) (trx count table key number : ℕ) (old b : Buffered) (f : List ℕ) → IsLast d trx count table key → number ≡ record_page trx (count - 1) → HasCome (call d trx old) f (behind d trx []) b → HasCome (call d trx old) f (reads (system_page number) (at_row d trx count table key)) b
read d trx count table key number old b f last is come =
    subst (λ (w : Way). HasCome (call d trx old) f w b) (last_way d trx count table key last ∙ ap (λ (n : ℕ). reads (system_page n) (at_row d trx count table key)) (sym is)) come

second : (g : _) (c : goal.After-from_residual-in_err-at g) → IsRefused (call c.args.self.now c.args.trx c.args.buffer.now) c.hold-2.new.buffer c.in_err-at.field-0.0
second g c =
    let d = c.args.self.now in
    let one = c.in_ok-hold.ensures.comes (call d c.args.trx c.args.buffer.now) (behind d c.args.trx) (start d c.args.trx c.header_page.result c.args.buffer.now c.new-held.result c.header_page.ensures c.new-held.ensures c.requires.kept) in
    c.in_err-at.ensures.refused (call d c.args.trx c.args.buffer.now) (at_row d c.args.trx c.in-Some.count c.in-Some.table c.in-Some.key) (read d c.args.trx c.in-Some.count c.in-Some.table c.in-Some.key c.record_page.result c.args.buffer.now c.hold.new.buffer c.hold.new.self c.in-Some.ensures.some c.record_page.ensures one)

pub returns-in_err-at-clause-answer : goal.returns-in_err-at-clause-answer
returns-in_err-at-clause-answer g c = refused_answers c.from_residual-in_err-at.result c.from_residual-in_err-at.ensures.1 (second g c) (no_trx c.args.self.now c.args.trx) (λ undone. Undoes c.args.self.now c.args.trx undone c.args.self.now) (search rules)

pub returns-in_err-at-clause-memory : goal.returns-in_err-at-clause-memory
returns-in_err-at-clause-memory g c = refused_memory c.from_residual-in_err-at.result c.from_residual-in_err-at.ensures.1 (second g c)

pub returns-in_err-at-clause-kept : goal.returns-in_err-at-clause-kept
returns-in_err-at-clause-kept g c = (second g c).keeps

pub entry_of-entry-requires-clause-table : goal.entry_of-entry-requires-clause-table
entry_of-entry-requires-clause-table g c = last_table c.args.self.now c.args.trx c.in-Some.count c.in-Some.table c.in-Some.key c.in-Some.ensures.some c.laws.ensures.safe

pub entry_of-entry-requires-clause-count : goal.entry_of-entry-requires-clause-count
entry_of-entry-requires-clause-count g c =
    let s = last_small c.args.self.now c.args.trx c.in-Some.count c.in-Some.table c.in-Some.key c.in-Some.ensures.some c.laws.ensures.safe.locked in
    (omega (arith, s.0), s.1)

-- behind it, by what it tells of the row
two : (d : Donor) (trx count table key : ℕ) (old b : Buffered) (f : List ℕ) (e : UndoEntry) (bytes page : List ℕ) → e ≡ before d count table key page → page ≡ bytes → HasCome (call d trx old) f (at_row d trx count table key bytes) b → HasCome (call d trx old) f (reads (row_page e) (taken trx count e)) b
two d trx count table key old b f e bytes page is same come =
    subst (λ (x : UndoEntry). HasCome (call d trx old) f (reads (row_page x) (taken trx count x)) b) (sym (is ∙ ap (before d count table key) same)) come

-- all that is known then
record IsRead (d : Donor) (trx count : ℕ) (old b : Buffered) (f : List ℕ) (e : UndoEntry) : Type 0 where
  come : HasCome (call d trx old) f (reads (row_page e) (taken trx count e)) b
  last : IsLast d trx count e.table e.key
  told : IsTrue b.right → IsLastRecord (image_of b) trx e

is_read : (g : _) (c : After-entry_of-entry g) → IsRead c.args.self.now c.args.trx c.in-Some.count c.args.buffer.now c.hold-2.new.buffer c.hold-2.new.self c.entry_of-entry.result
is_read g c =
    let d = c.args.self.now in
    let one = c.in_ok-hold.ensures.comes (call d c.args.trx c.args.buffer.now) (behind d c.args.trx) (start d c.args.trx c.header_page.result c.args.buffer.now c.new-held.result c.header_page.ensures c.new-held.ensures c.requires.kept) in
    let come = two d c.args.trx c.in-Some.count c.in-Some.table c.in-Some.key c.args.buffer.now c.hold-2.new.buffer c.hold-2.new.self c.entry_of-entry.result (page_in c.in_ok-at.at c.hold-2.new.buffer) c.frame.result.now c.entry_of-entry.ensures c.frame.ensures.bytes (c.in_ok-at.ensures.comes (call d c.args.trx c.args.buffer.now) (at_row d c.args.trx c.in-Some.count c.in-Some.table c.in-Some.key) (read d c.args.trx c.in-Some.count c.in-Some.table c.in-Some.key c.record_page.result c.args.buffer.now c.hold.new.buffer c.hold.new.self c.in-Some.ensures.some c.record_page.ensures one)) in
    let image = image_of c.hold-2.new.buffer in
    let page : List ℕ = c.frame.result.now in
    let o : IsOf c.in-Some.table c.in-Some.key c.entry_of-entry.result = subst (IsOf c.in-Some.table c.in-Some.key) (sym c.entry_of-entry.ensures) (before_of d c.in-Some.table c.in-Some.key (entry_on (c.in-Some.count - 1) page)) in
    record {
      come = come;
      last = subst (λ (p : ℕ × ℕ). IsLast d c.args.trx c.in-Some.count p.0 p.1) (λ i. (sym o.table i, sym o.key i)) c.in-Some.ensures.some;
      told = λ right.
          let there : page_of image 0 (record_page c.args.trx (c.in-Some.count - 1)) ≡ Some page = ap (page_of image 0) (sym c.record_page.ensures) ∙ c.in_ok-at.ensures.shown right ∙ ap (λ (p : List ℕ). Some p) (sym c.frame.ensures.bytes) in
          subst (IsLastRecord image c.args.trx) (sym c.entry_of-entry.ensures) (last_read d c.args.trx c.in-Some.count c.in-Some.table c.in-Some.key c.in-Some.ensures.some image (come.kept right) page there);
    }

-- THE ROW'S PAGE.
pub hold-requires-3-clause-pinned : goal.hold-requires-3-clause-pinned
hold-requires-3-clause-pinned g c = (is_read g (goal.at.hold-requires-3-clause-pinned g c).After-entry_of-entry).come.pins

pub hold-requires-3-clause-there : goal.hold-requires-3-clause-there
hold-requires-3-clause-there g c = λ right.
    let r = is_read g (goal.at.hold-requires-3-clause-there g c).After-entry_of-entry in
    let e = c.entry_of-entry.result in
    let image = image_of c.hold-2.new.buffer in
    subst (λ (p : ℕ × ℕ). IsSome (page_of image p.0 p.1)) (λ i. (sym c.table.ensures i, sym c.page.ensures i)) (last_there c.args.self.now image c.args.trx c.in-Some.count e.table e.key e r.last (r.come.kept right) (r.told right))

named : (call : Call) (f : List ℕ) (b : Buffered) (e : UndoEntry) (table page : ℕ) (rest : List ℕ → Way) → table ≡ e.table → page ≡ e.page → HasCome call f (reads (row_page e) rest) b → HasCome call f (reads (record { space = table; number = page }) rest) b
named call f b e table page rest one two come = subst (λ (p : PageName). HasCome call f (reads p rest) b) (λ i. record { space = sym one i; number = sym two i }) come

third : (g : _) (c : goal.After-from_residual-in_err-hold-2 g) → IsRead c.args.self.now c.args.trx c.in-Some.count c.args.buffer.now c.hold-2.new.buffer c.hold-2.new.self c.entry_of-entry.result → IsRefused (call c.args.self.now c.args.trx c.args.buffer.now) c.hold-3.new.buffer c.in_err-hold-2.field-0.0
third g c r =
    let e : UndoEntry = c.entry_of-entry.result in
    let u : Call = call c.args.self.now c.args.trx c.args.buffer.now in
    let rest : List ℕ → Way = taken c.args.trx c.in-Some.count e in
    c.in_err-hold-2.ensures.refused u rest (named u c.hold-2.new.self c.hold-2.new.buffer e c.table.result c.page.result rest c.table.ensures c.page.ensures r.come)

pub returns-in_err-hold-2-clause-answer : goal.returns-in_err-hold-2-clause-answer
returns-in_err-hold-2-clause-answer g c =
    refused_answers c.from_residual-in_err-hold-2.result c.from_residual-in_err-hold-2.ensures.1 (third g c (is_read g (goal.at.returns-in_err-hold-2-clause-answer g c).After-entry_of-entry)) (no_trx c.args.self.now c.args.trx) (λ undone. Undoes c.args.self.now c.args.trx undone c.args.self.now) (search rules)

pub returns-in_err-hold-2-clause-memory : goal.returns-in_err-hold-2-clause-memory
returns-in_err-hold-2-clause-memory g c = refused_memory c.from_residual-in_err-hold-2.result c.from_residual-in_err-hold-2.ensures.1 (third g c (is_read g (goal.at.returns-in_err-hold-2-clause-memory g c).After-entry_of-entry))

pub returns-in_err-hold-2-clause-kept : goal.returns-in_err-hold-2-clause-kept
returns-in_err-hold-2-clause-kept g c = (third g c (is_read g (goal.at.returns-in_err-hold-2-clause-kept g c).After-entry_of-entry)).keeps

-- THE CHANGE IS TAKEN BACK.
three : (g : _) (c : In_ok-hold-2 g) → IsRead c.args.self.now c.args.trx c.in-Some.count c.args.buffer.now c.hold-2.new.buffer c.hold-2.new.self c.entry_of-entry.result → HasCome (call c.args.self.now c.args.trx c.args.buffer.now) c.hold-3.new.self (writes (records_of_taking_back c.args.trx c.in-Some.count c.entry_of-entry.result)) c.hold-3.new.buffer
three g c r =
    let e : UndoEntry = c.entry_of-entry.result in
    let u : Call = call c.args.self.now c.args.trx c.args.buffer.now in
    let rest : List ℕ → Way = taken c.args.trx c.in-Some.count e in
    c.in_ok-hold-2.ensures.comes u rest (named u c.hold-2.new.self c.hold-2.new.buffer e c.table.result c.page.result rest c.table.ensures c.page.ensures r.come)

pub take_back-undone-requires : goal.take_back-undone-requires
take_back-undone-requires g c =
    let at = goal.at.take_back-undone-requires g c in
    let r = is_read g at.After-entry_of-entry in
    let e : UndoEntry = c.entry_of-entry.result in
    let h = c.in_ok-hold-2.ensures.holds in
    let first : ℕ = c.in_ok-hold.field-0 in
    let header : PageName = system_page (header_page c.args.trx) in
    record {
      last = r.last;
      told = same_image (λ image. IsLastRecord image c.args.trx e) c.hold-2.new.buffer c.hold-3.new.buffer h.log h.before r.told;
      kept = (three g at.In_ok-hold-2 r).kept;
      header = (first, h.still header first (c.in_ok-at.ensures.holds.still header first (subst (λ (n : ℕ). Has (system_page n) first c.hold.new.buffer.pool.frames) c.header_page.ensures c.in_ok-hold.ensures.holds.has)));
      row = (c.in_ok-hold-2.field-0, subst (λ (p : PageName). Has p c.in_ok-hold-2.field-0 c.hold-3.new.buffer.pool.frames) (λ i. record { space = c.table.ensures i; number = c.page.ensures i }) h.has);
    }

pub release-requires-2 : goal.release-requires-2
release-requires-2 g c =
    let at = goal.at.release-requires-2 g c in
    writes_pinned (records_of_taking_back c.args.trx c.in-Some.count c.entry_of-entry.result) c.hold-3.new.self c.hold-3.new.buffer c.take_back-undone.new.buffer c.take_back-undone.result c.take_back-undone.ensures.written (three g at.In_ok-hold-2 (is_read g at.After-entry_of-entry)).pins

pub returns-clause-answer : goal.returns-clause-answer
returns-clause-answer g c =
    let at = goal.at.returns-clause-answer g c in
    let e = c.take_back-undone.ensures in
    let after = c.take_back-undone.new.self in
    answers_so c.take_back-undone.new.buffer (three g at.In_ok-hold-2 (is_read g at.After-entry_of-entry)) c.take_back-undone.result e.written c.release-2.ensures.is (no_trx c.args.self.now c.args.trx) after (λ undone. Undoes c.args.self.now c.args.trx undone after) (search rules) e.donor

pub returns-clause-stands : goal.returns-clause-stands
returns-clause-stands g c = λ beside is.
    let told = (g.D.PageDisk.state c.hold-3.new.disk).told in
    c.release-2.ensures.stands told beside (c.take_back-undone.ensures.stands told beside (c.hold-3.ensures.stands beside (c.hold-2.ensures.stands beside (c.hold.ensures.stands beside is))))

pub returns-clause-kept : goal.returns-clause-kept
returns-clause-kept g c = c.release-2.ensures.keeps c.take_back-undone.new.self c.take_back-undone.ensures.kept
