use Rattle.clone_undo.specs.Places.{header_page}
use Rattle.clone_contents.specs.Records.{commit_records}
use Rattle.clone_plain.specs.Effects.{Commits}
use Rattle.clone_trx.proofs.Common.{◌≡◌, ◌+◌, ℕ, [], List, length, sym, subst, arith, rules, Buffered, image_of, no_trx, commit_way, system_page, Call, HasCome, IsRefused, Has, Way, reads, writes, Donor, Keeps}
use Rattle.clone_trx.proofs.HoldingLemmas.{answers_so, refused_answers, refused_memory, starts_at, writes_pinned}
use Rattle.clone_trx.proofs.SystemPageLemmas.{system_there}
use Rattle.clone_trx.proofs.transactions.Transactions.commit.Goals as goal
use Rattle.clone_trx.proofs.transactions.Transactions.commit.Goals.{In_ok-hold, In_ok-hold-2}

abbrev call : Donor → ℕ → Buffered → Call
call d trx old = record { donor = d; way = commit_way d trx; first = old }

-- what is left behind both pages, and behind the first
abbrev left : Donor → ℕ → List ℕ → Way
left d trx page = writes (commit_records trx (length d.binlog + 1))

abbrev behind : Donor → ℕ → List ℕ → Way
behind d trx header = reads (system_page 0) (left d trx)

start : (d : Donor) (trx number : ℕ) (old : Buffered) (held : List ℕ) → number ≡ header_page trx → held ≡ [] → Keeps d old → HasCome (call d trx old) held (reads (system_page number) (behind d trx)) old
start d trx number old held is none keeps = subst (λ (n : ℕ). HasCome (call d trx old) held (reads (system_page n) (behind d trx)) old) (sym is) (starts_at (call d trx old) held none keeps)

one : (g : _) (c : In_ok-hold g) → HasCome (call c.args.self.now c.args.trx c.args.buffer.now) c.hold.new.self (behind c.args.self.now c.args.trx []) c.hold.new.buffer
one g c =
    let d = c.args.self.now in
    c.in_ok-hold.ensures.comes (call d c.args.trx c.args.buffer.now) (behind d c.args.trx) (start d c.args.trx c.header_page.result c.args.buffer.now c.new-held.result c.header_page.ensures c.new-held.ensures c.requires.kept)

two : (g : _) (c : In_ok-hold-2 g) → HasCome (call c.args.self.now c.args.trx c.args.buffer.now) c.hold-2.new.self (left c.args.self.now c.args.trx []) c.hold-2.new.buffer
two g c =
    let d = c.args.self.now in
    let first = start d c.args.trx c.header_page.result c.args.buffer.now c.new-held.result c.header_page.ensures c.new-held.ensures c.requires.kept in
    c.in_ok-hold-2.ensures.comes (call d c.args.trx c.args.buffer.now) (left d c.args.trx) (c.in_ok-hold.ensures.comes (call d c.args.trx c.args.buffer.now) (behind d c.args.trx) first)

-- A REFUSAL.
first : (g : _) (c : goal.After-from_residual g) → IsRefused (call c.args.self.now c.args.trx c.args.buffer.now) c.hold.new.buffer c.in_err-hold.field-0.0
first g c =
    let d = c.args.self.now in
    c.in_err-hold.ensures.refused (call d c.args.trx c.args.buffer.now) (behind d c.args.trx) (start d c.args.trx c.header_page.result c.args.buffer.now c.new-held.result c.header_page.ensures c.new-held.ensures c.requires.kept)

pub returns-in_err-hold-clause-answer : goal.returns-in_err-hold-clause-answer
returns-in_err-hold-clause-answer g c = refused_answers c.from_residual.result c.from_residual.ensures.1 (first g c) (no_trx c.args.self.now c.args.trx) (λ position. Commits c.args.self.now c.args.trx position c.args.self.now) (search rules)

pub returns-in_err-hold-clause-memory : goal.returns-in_err-hold-clause-memory
returns-in_err-hold-clause-memory g c = refused_memory c.from_residual.result c.from_residual.ensures.1 (first g c)

pub returns-in_err-hold-clause-kept : goal.returns-in_err-hold-clause-kept
returns-in_err-hold-clause-kept g c = (first g c).keeps

second : (g : _) (c : goal.After-from_residual-in_err-hold-2 g) → IsRefused (call c.args.self.now c.args.trx c.args.buffer.now) c.hold-2.new.buffer c.in_err-hold-2.field-0.0
second g c =
    let d = c.args.self.now in
    let one = c.in_ok-hold.ensures.comes (call d c.args.trx c.args.buffer.now) (behind d c.args.trx) (start d c.args.trx c.header_page.result c.args.buffer.now c.new-held.result c.header_page.ensures c.new-held.ensures c.requires.kept) in
    c.in_err-hold-2.ensures.refused (call d c.args.trx c.args.buffer.now) (left d c.args.trx) one

pub returns-in_err-hold-2-clause-answer : goal.returns-in_err-hold-2-clause-answer
returns-in_err-hold-2-clause-answer g c = refused_answers c.from_residual-in_err-hold-2.result c.from_residual-in_err-hold-2.ensures.1 (second g c) (no_trx c.args.self.now c.args.trx) (λ position. Commits c.args.self.now c.args.trx position c.args.self.now) (search rules)

pub returns-in_err-hold-2-clause-memory : goal.returns-in_err-hold-2-clause-memory
returns-in_err-hold-2-clause-memory g c = refused_memory c.from_residual-in_err-hold-2.result c.from_residual-in_err-hold-2.ensures.1 (second g c)

pub returns-in_err-hold-2-clause-kept : goal.returns-in_err-hold-2-clause-kept
returns-in_err-hold-2-clause-kept g c = (second g c).keeps

-- THE COMMIT is written.
pub hold-requires-2-clause-pinned : goal.hold-requires-2-clause-pinned
hold-requires-2-clause-pinned g c = (one g (goal.at.hold-requires-2-clause-pinned g c).In_ok-hold).pins

pub hold-requires-2-clause-there : goal.hold-requires-2-clause-there
hold-requires-2-clause-there g c = λ right. system_there (image_of c.hold.new.buffer) 0 ((one g (goal.at.hold-requires-2-clause-there g c).In_ok-hold).kept right).formed (omega arith)

pub write_commit-committed-requires-clause-kept : goal.write_commit-committed-requires-clause-kept
write_commit-committed-requires-clause-kept g c = (two g (goal.at.write_commit-committed-requires-clause-kept g c).In_ok-hold-2).kept

pub write_commit-committed-requires-clause-header : goal.write_commit-committed-requires-clause-header
write_commit-committed-requires-clause-header g c =
    let at : ℕ = c.in_ok-hold.field-0 in
    (at, c.in_ok-hold-2.ensures.holds.still (system_page (header_page c.args.trx)) at (subst (λ (n : ℕ). Has (system_page n) at c.hold.new.buffer.pool.frames) c.header_page.ensures c.in_ok-hold.ensures.holds.has))

pub write_commit-committed-requires-clause-system : goal.write_commit-committed-requires-clause-system
write_commit-committed-requires-clause-system g c = (c.in_ok-hold-2.field-0, c.in_ok-hold-2.ensures.holds.has)

pub release-requires : goal.release-requires
release-requires g c =
    writes_pinned (commit_records c.args.trx (length c.args.self.now.binlog + 1)) c.hold-2.new.self c.hold-2.new.buffer c.write_commit-committed.new.buffer c.write_commit-committed.result c.write_commit-committed.ensures.written (two g (goal.at.release-requires g c).In_ok-hold-2).pins

pub returns-clause-answer : goal.returns-clause-answer
returns-clause-answer g c =
    let e = c.write_commit-committed.ensures in
    let after = c.write_commit-committed.new.self in
    answers_so c.write_commit-committed.new.buffer (two g (goal.at.returns-clause-answer g c).In_ok-hold-2) c.write_commit-committed.result e.written c.release.ensures.is (no_trx c.args.self.now c.args.trx) after (λ position. Commits c.args.self.now c.args.trx position after) (search rules) e.donor

pub returns-clause-kept : goal.returns-clause-kept
returns-clause-kept g c = c.release.ensures.keeps c.write_commit-committed.new.self c.write_commit-committed.ensures.kept
