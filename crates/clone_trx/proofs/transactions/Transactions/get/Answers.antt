use Rattle.std.specs.FinMap as finite
use Rattle.clone_trx.proofs.Common.{◌≡◌, ℕ, false, [], List, Option, None, Some, Ok, refl, sym, ap, subst, ◌∙◌, IsSome, IsTrue, Buffered, image_of, get_way, row_walk, Call, HasCome, IsRefused, Way, ends, walks, Commit, Donor, Gets, Keeps, get_cause, page_of}
use Rattle.clone_trx.proofs.CauseLemmas.{copied_there}
use Rattle.clone_trx.proofs.HoldingLemmas.{answers_so, refused_answers, refused_memory, released_before, starts_at}
use Rattle.clone_trx.proofs.LookUpLemmas as lem
use Rattle.clone_trx.proofs.SpotLemmas.{all_stays, walked_page, chain_there, of_row, found_slot}
use Rattle.clone_trx.proofs.transactions.Transactions.get.Goals as goal
use Rattle.clone_trx.proofs.transactions.Transactions.get.Goals.{After-laws, In_ok-spot}

-- the table and its bucket, the open transaction, and that there is no cause against the call
record MayGet (d : Donor) (trx table key first : ℕ) : Type 0 where
  bucket : lem.Bucket d table key first
  commit : Commit
  active : finite.get d.active trx ≡ Some commit
  none : get_cause d trx table key ≡ None

may : (g : _) (c : After-laws g) → MayGet c.args.self.now c.args.trx c.args.table c.args.key c.in-Some.bucket
may g c =
    let d = c.args.self.now in
    let b = lem.bucket d c.args.table c.args.key c.in-Some.bucket c.in-Some.ensures.number in
    let is = copied_there c.get.result (finite.get c.self.inside.active c.args.trx) c.get.ensures c.if-is_none.ensures in
    let active : finite.get d.active c.args.trx ≡ Some is.0 = ap (λ (e : Donor). finite.get e.active c.args.trx) (sym c.self.view_is) ∙ is.1 in
    record { bucket = b; commit = is.0; active = active; none = lem.no_cause d c.args.trx c.args.table c.args.key c.in-Some.bucket is.0 active b c.in_ok-check_lock.ensures }

-- THE WALK.
pub walk-requires-clause-table : goal.walk-requires-clause-table
walk-requires-clause-table g c = let b = (may g (goal.at.walk-requires-clause-table g c).After-laws).bucket in (c.laws.ensures.safe.tables.ranges c.args.table b.count b.there).0

pub walk-requires-clause-chain : goal.walk-requires-clause-chain
walk-requires-clause-chain g c = λ right.
    let d = c.args.self.now in
    let b = (may g (goal.at.walk-requires-clause-chain g c).After-laws).bucket in
    chain_there d c.args.table c.args.key b.count c.in-Some.bucket b.there (lem.number_is d c.args.table c.args.key c.in-Some.bucket b) (image_of c.args.buffer.now) (c.requires.kept.kept right)

abbrev call : Donor → ℕ → ℕ → Buffered → Call
call d table key old = record { donor = d; way = get_way d table key; first = old }

abbrev rest : ℕ → Option ℕ → List ℕ → Way
rest page slot row = ends

start : (d : Donor) (trx table key first : ℕ) (old : Buffered) → MayGet d trx table key first → Keeps d old → HasCome (call d table key old) [] (walks (record { table = table; first = first; key = key; for_room = false }) rest) old
start d trx table key first old may keeps =
    subst (λ (n : ℕ). HasCome (call d table key old) [] (walks (record { table = table; first = n; key = key; for_room = false }) rest) old) (sym (lem.number_is d table key first may.bucket)) (starts_at (call d table key old) [] refl keeps)

refused : (g : _) (c : goal.After-from_residual-in_err-spot g) → MayGet c.args.self.now c.args.trx c.args.table c.args.key c.in-Some.bucket → IsRefused (call c.args.self.now c.args.table c.args.key c.args.buffer.now) c.walk.new.buffer c.in_err-spot.field-0.0
refused g c may =
    let d = c.args.self.now in
    c.in_err-spot.ensures.refused (call d c.args.table c.args.key c.args.buffer.now) rest (start d c.args.trx c.args.table c.args.key c.in-Some.bucket c.args.buffer.now may c.requires.kept)

pub returns-in_err-spot-clause-answer : goal.returns-in_err-spot-clause-answer
returns-in_err-spot-clause-answer g c =
    let d = c.args.self.now in
    let m = may g (goal.at.returns-in_err-spot-clause-answer g c).After-laws in
    refused_answers c.from_residual-in_err-spot.result c.from_residual-in_err-spot.ensures.1 (refused g c m) (get_cause d c.args.trx c.args.table c.args.key) (λ value. IsTrue c.walk.new.buffer.right → Gets d c.args.trx c.args.table c.args.key value) m.none

pub returns-in_err-spot-clause-memory : goal.returns-in_err-spot-clause-memory
returns-in_err-spot-clause-memory g c =
    refused_memory c.from_residual-in_err-spot.result c.from_residual-in_err-spot.ensures.1 (refused g c (may g (goal.at.returns-in_err-spot-clause-memory g c).After-laws))

pub returns-in_err-spot-clause-kept : goal.returns-in_err-spot-clause-kept
returns-in_err-spot-clause-kept g c = (refused g c (may g (goal.at.returns-in_err-spot-clause-kept g c).After-laws)).keeps

come : (g : _) (c : In_ok-spot g) → MayGet c.args.self.now c.args.trx c.args.table c.args.key c.in-Some.bucket → HasCome (call c.args.self.now c.args.table c.args.key c.args.buffer.now) c.walk.new.self ends c.walk.new.buffer
come g c may =
    let d = c.args.self.now in
    c.in_ok-spot.ensures.comes (call d c.args.table c.args.key c.args.buffer.now) rest (start d c.args.trx c.args.table c.args.key c.in-Some.bucket c.args.buffer.now may c.requires.kept)

pub release-requires : goal.release-requires
release-requires g c = let at = goal.at.release-requires g c in (come g at.In_ok-spot (may g at.After-laws)).pins

pub returns-clause-answer : goal.returns-clause-answer
returns-clause-answer g c =
    let at = goal.at.returns-clause-answer g c in
    let d = c.args.self.now in
    let table : ℕ = c.args.table in
    let key : ℕ = c.args.key in
    let old : Buffered = c.args.buffer.now in
    let mid : Buffered = c.walk.new.buffer in
    let spot = c.in_ok-spot.spot in
    let m = may g at.After-laws in
    let is_first = lem.number_is d table key c.in-Some.bucket m.bucket in
    answers_so mid (come g at.In_ok-spot m) (Ok c.value_on-value.result) (refl, refl) c.release.ensures.is (get_cause d c.args.trx table key) d (λ value. IsTrue c.release.new.buffer.right → Gets d c.args.trx table key value) m.none
    (λ after.
    let right : IsTrue mid.right = released_before d c.walk.new.self mid c.release.new.buffer c.release.ensures.is after in
    let w = of_row d table key m.bucket.count c.in-Some.bucket m.bucket.there is_first false old mid (Ok spot) c.in_ok-spot.ensures.walked in
    let s = all_stays (row_walk d table key false) old mid (Ok spot) w in
    let kept = c.requires.kept.kept (s.before right) in
    let shows : IsSome (page_of (image_of old) table spot.page) → page_of (image_of old) table spot.page ≡ Some c.frame.result.now = λ there.
    walked_page table old mid spot s c.laws-2.ensures.buffer c.in_ok-spot.ensures.has right there ∙ ap (λ (p : List ℕ). Some p) (sym c.frame.ensures.bytes) in
    lem.gets d c.args.trx table key c.in-Some.bucket m.commit m.active m.bucket c.in_ok-check_lock.ensures (image_of old) spot.page spot.slot c.frame.result.now c.value_on-value.result kept shows
    (found_slot d table key m.bucket.count c.in-Some.bucket m.bucket.there is_first false old mid spot w kept right) c.value_on-value.ensures)

pub returns-clause-kept : goal.returns-clause-kept
returns-clause-kept g c = let at = goal.at.returns-clause-kept g c in c.release.ensures.keeps c.args.self.now (come g at.In_ok-spot (may g at.After-laws)).kept
