use Rattle.clone_trx.proofs.Common.{◌≡◌, ◌∙◌, ℕ, false, List, None, Some, Err, IfErr, IsErrOf, IsTrue, inl, length, refl, sym, ap, subst, arith, TableEntry, records_of_growth, PageName, Buffered, image_of, Lengthens, written, weaker, Reads, DiskFault, Because, Change, Donor, Image, IsKept, SpaceFull, UndoEntry, contents_of, page_of, grown_way, longer_at, longer_way, number_of_entry, pages_told, row_page, slot_way, system_page, ArePinned, HasCome, IsRefused, change_call, Has, IsFullAt, TellsPages, Goes, HasRoom, IsFull, Way, page_in}
use Rattle.clone_trx.proofs.CauseLemmas.{may_change}
use Rattle.clone_trx.proofs.DictionaryLemmas.{entry_told}
use Rattle.clone_trx.proofs.GrowthKeptLemmas.{lengthens}
use Rattle.clone_trx.proofs.GrowthWrittenLemmas.{grown_for, grown_is, grown_kept, full_is, has_room, room_is}
use Rattle.clone_trx.proofs.HoldingLemmas.{comes_longer, refused_here}
use Rattle.clone_trx.proofs.LongerWayLemmas.{found_tells, new_absent, same_image}
use Rattle.clone_trx.proofs.SystemPageLemmas.{system_there}
use Rattle.clone_trx.proofs.WalkStepLemmas.{on_err}
use Rattle.clone_trx.proofs.transactions.Transactions.grow.Goals as goal
use Rattle.clone_trx.proofs.transactions.Transactions.grow.Goals.{After-entry_at-entry, In_ok-hold_new}

-- THE DICTIONARY is read.

-- what is behind it
abbrev behind : Donor → ℕ → Change → ℕ → List ℕ → Way
behind d trx change last page = longer_at d trx change last (number_of_entry change.table page) (pages_told page (number_of_entry change.table page))

-- a call that has come to the dictionary has come behind it, and what is known of the image there
record IsRead (d : Donor) (trx : ℕ) (change : Change) (last entry_number pages : ℕ) (f0 f1 : List ℕ) (b0 b1 : Buffered) : Type 0 where
  read : (first : Buffered) → HasCome (change_call d trx change first) f0 (longer_way d trx change last) b0 → HasCome (change_call d trx change first) f1 (longer_at d trx change last entry_number pages) b1
  pins : ArePinned f1 b1.pool.frames
  kept : IsTrue b1.right → IsKept d (image_of b1)
  tells : IsTrue b1.right → TellsPages (contents_of (image_of b1)) change.table entry_number pages
  full : IsTrue b1.right → IsFullAt d (image_of b1) change.table last change.key

is_read : (g : _) (c : After-entry_at-entry g) → IsRead c.args.self.now c.args.trx c.args.change.now c.args.spot.page c.unwrap_or-entry_number.result c.entry_at-entry.result.pages c.args.held.now c.hold.new.self c.args.buffer.now c.hold.new.buffer
is_read g c =
    let d = c.args.self.now in
    let trx : ℕ = c.args.trx in
    let change : Change = c.args.change.now in
    let last : ℕ = c.args.spot.page in
    let n : ℕ = c.unwrap_or-entry_number.result in
    let b : Buffered = c.hold.new.buffer in
    let image : Image = image_of b in
    let h = c.in_ok-at.ensures.holds in
    let told = entry_told change.table n (page_in c.in_ok-at.at b) c.frame-page.result.now c.find.result c.entry_at-entry.result c.frame-page.ensures.bytes c.find.ensures c.unwrap_or-entry_number.ensures c.entry_at-entry.ensures in
    let read : (first : Buffered) → HasCome (change_call d trx change first) c.args.held.now (longer_way d trx change last) c.args.buffer.now → HasCome (change_call d trx change first) c.hold.new.self (longer_at d trx change last n c.entry_at-entry.result.pages) b =
    λ first come. subst (λ (w : Way). HasCome (change_call d trx change first) c.hold.new.self w b) (λ i. longer_at d trx change last (told.0 i) (told.1 i)) (c.in_ok-at.ensures.comes (change_call d trx change first) (behind d trx change last) come) in
    let come = read c.requires.comes.0 c.requires.comes.1 in
    let may = may_change d trx change.table change.key c.requires.cause.0 c.laws.ensures.safe.locked c.requires.cause.1 in
    record {
      read = read;
      pins = come.pins;
      kept = come.kept;
      tells = λ right.
          let system : page_of image 0 0 ≡ Some c.frame-page.result.now = c.in_ok-at.ensures.shown right ∙ ap (λ (p : List ℕ). Some p) (sym c.frame-page.ensures.bytes) in
          subst (λ (e : TableEntry). TellsPages (contents_of image) change.table n e.pages) (sym c.entry_at-entry.ensures)
          (found_tells d image change.table may.buckets n c.frame-page.result.now c.find.result (come.kept right) may.was_table system c.find.ensures c.unwrap_or-entry_number.ensures);
      full = same_image (λ (m : Image). IsFullAt d m change.table last change.key) c.args.buffer.now b h.log h.before (λ right. c.requires.spot.full right c.requires.none);
    }

pub hold-requires-clause-pinned : goal.hold-requires-clause-pinned
hold-requires-clause-pinned g c = c.requires.comes.1.pins

pub hold-requires-clause-there : goal.hold-requires-clause-there
hold-requires-clause-there g c = λ right. system_there (image_of c.args.buffer.now) 0 (c.requires.comes.1.kept right).formed (omega arith)

pub returns-in_err-at-clause-refused : goal.returns-in_err-at-clause-refused
returns-in_err-at-clause-refused g c =
    let d = c.args.self.now in
    let change = c.args.change.now in
    let call = change_call d c.args.trx change in
    on_err (λ r. IfErr r (λ e. (first : Buffered) → HasCome (call first) c.args.held.now (longer_way d c.args.trx change c.args.spot.page) c.args.buffer.now → IsRefused (call first) c.hold.new.buffer e)) c.from_residual.result c.in_err-at.field-0.0 c.from_residual.ensures.1
    (λ first come. c.in_err-at.ensures.refused (call first) (behind d c.args.trx change c.args.spot.page) come)

-- THE NEW PAGE gets a frame.

pub hold_new-requires-clause-pinned : goal.hold_new-requires-clause-pinned
hold_new-requires-clause-pinned g c = (is_read g (goal.at.hold_new-requires-clause-pinned g c).After-entry_at-entry).pins

pub hold_new-requires-clause-absent : goal.hold_new-requires-clause-absent
hold_new-requires-clause-absent g c = λ right.
    new_absent (image_of c.hold.new.buffer) c.args.change.now.table c.unwrap_or-entry_number.result c.entry_at-entry.result.pages ((is_read g (goal.at.hold_new-requires-clause-absent g c).After-entry_at-entry).tells right)

pub returns-in_err-hold_new-clause-refused : goal.returns-in_err-hold_new-clause-refused
returns-in_err-hold_new-clause-refused g c =
    let d = c.args.self.now in
    let change = c.args.change.now in
    let call = change_call d c.args.trx change in
    let r = is_read g (goal.at.returns-in_err-hold_new-clause-refused g c).After-entry_at-entry in
    on_err (λ r. IfErr r (λ e. (first : Buffered) → HasCome (call first) c.args.held.now (longer_way d c.args.trx change c.args.spot.page) c.args.buffer.now → IsRefused (call first) c.hold_new.new.buffer e)) c.from_residual-in_err-hold_new.result c.in_err-hold_new.field-0.0 c.from_residual-in_err-hold_new.ensures.1
    (λ first come. c.in_err-hold_new.ensures.refused (call first) (grown_way d c.args.trx change c.args.spot.page c.unwrap_or-entry_number.result c.entry_at-entry.result.pages) (r.read first come))

pub returns-in_err-hold_new-clause-reads : goal.returns-in_err-hold_new-clause-reads
returns-in_err-hold_new-clause-reads g c =
    on_err (λ r. Reads (IsErrOf r (Because DiskFault)) (g.D.PageDisk.state c.args.disk.now) (g.D.PageDisk.state c.hold.new.disk)) c.from_residual-in_err-hold_new.result c.in_err-hold_new.field-0.0 c.from_residual-in_err-hold_new.ensures.1
    (weaker c.hold.ensures.reads (λ fault. absurd (c.in_err-hold_new.ensures.other (let same = fault in cc))))

-- the same is known then
record IsTaken (d : Donor) (trx : ℕ) (change : Change) (last entry_number pages : ℕ) (f0 f1 : List ℕ) (b0 b1 : Buffered) : Type 0 where
  taken : (first : Buffered) → HasCome (change_call d trx change first) f0 (longer_way d trx change last) b0 → HasCome (change_call d trx change first) f1 (grown_way d trx change last entry_number pages) b1
  pins : ArePinned f1 b1.pool.frames
  kept : IsTrue b1.right → IsKept d (image_of b1)
  tells : IsTrue b1.right → TellsPages (contents_of (image_of b1)) change.table entry_number pages
  full : IsTrue b1.right → IsFullAt d (image_of b1) change.table last change.key

is_taken : (g : _) (c : In_ok-hold_new g) → IsRead c.args.self.now c.args.trx c.args.change.now c.args.spot.page c.unwrap_or-entry_number.result c.entry_at-entry.result.pages c.args.held.now c.hold.new.self c.args.buffer.now c.hold.new.buffer
    → IsTaken c.args.self.now c.args.trx c.args.change.now c.args.spot.page c.unwrap_or-entry_number.result c.entry_at-entry.result.pages c.args.held.now c.hold_new.new.self c.args.buffer.now c.hold_new.new.buffer
is_taken g c r =
    let d = c.args.self.now in
    let trx : ℕ = c.args.trx in
    let change : Change = c.args.change.now in
    let last : ℕ = c.args.spot.page in
    let n : ℕ = c.unwrap_or-entry_number.result in
    let pages : ℕ = c.entry_at-entry.result.pages in
    let h = c.in_ok-hold_new.ensures.holds in
    let taken : (first : Buffered) → HasCome (change_call d trx change first) c.args.held.now (longer_way d trx change last) c.args.buffer.now → HasCome (change_call d trx change first) c.hold_new.new.self (grown_way d trx change last n pages) c.hold_new.new.buffer =
    λ first come. c.in_ok-hold_new.ensures.comes (change_call d trx change first) (grown_way d trx change last n pages) (r.read first come) in
    let come = taken c.requires.comes.0 c.requires.comes.1 in
    record {
      taken = taken;
      pins = come.pins;
      kept = come.kept;
      tells = same_image (λ m. TellsPages (contents_of m) change.table n pages) c.hold.new.buffer c.hold_new.new.buffer h.log h.before r.tells;
      full = same_image (λ m. IsFullAt d m change.table last change.key) c.hold.new.buffer c.hold_new.new.buffer h.log h.before r.full;
    }

-- THE SPACE HAS ALL ITS PAGES, or the log has no room.

pub release-requires : goal.release-requires
release-requires g c = let at = goal.at.release-requires g c in (is_taken g at.In_ok-hold_new (is_read g at.After-entry_at-entry)).pins

pub returns-then-is_full-clause-refused : goal.returns-then-is_full-clause-refused
returns-then-is_full-clause-refused g c = λ first come.
    let at = goal.at.returns-then-is_full-clause-refused g c in
    let d = c.args.self.now in
    let change = c.args.change.now in
    let b : Buffered = c.hold_new.new.buffer in
    let n : ℕ = c.unwrap_or-entry_number.result in
    let pages : ℕ = c.entry_at-entry.result.pages in
    refused_here (change_call d c.args.trx change first) c.hold_new.new.self b c.release.new.buffer (grown_way d c.args.trx change c.args.spot.page n pages) b c.into.result SpaceFull c.into.ensures
    (subst (λ (w : Way). Goes {X = Unit {0}} w b b (Err (Because SpaceFull))) (sym (full_is d c.args.trx change c.args.spot.page n pages c.is_full.result c.is_full.ensures c.if-is_full.true)) (refl, refl))
    refl (λ right. right) c.release.ensures.is c.release.ensures.keeps ((is_taken g at.In_ok-hold_new (is_read g at.After-entry_at-entry)).taken first come)

pub release-requires-in-Err : goal.release-requires-in-Err
release-requires-in-Err g c = let at = goal.at.release-requires-in-Err g c in (is_taken g at.In_ok-hold_new (is_read g at.After-entry_at-entry)).pins

pub returns-in-Err-clause-refused : goal.returns-in-Err-clause-refused
returns-in-Err-clause-refused g c = λ first come.
    let at = goal.at.returns-in-Err-clause-refused g c in
    let d = c.args.self.now in
    let change = c.args.change.now in
    let b : Buffered = c.hold_new.new.buffer in
    let n : ℕ = c.unwrap_or-entry_number.result in
    let pages : ℕ = c.entry_at-entry.result.pages in
    let f = c.in-Err.ensures.full in
    refused_here (change_call d c.args.trx change first) c.hold_new.new.self b c.release-in-Err.new.buffer (grown_way d c.args.trx change c.args.spot.page n pages) b c.in-Err.refusal f.0 f.1
    (subst (λ (w : Way). Goes {X = Unit {0}} w b b (Err (Because f.0))) (sym (room_is d c.args.trx change c.args.spot.page n pages c.is_full.result c.is_full.ensures c.if-is_full.false)) (inl (f.0, refl, subst (λ rs. IsFull rs b f.0) c.growth_records-records.ensures f.2, refl)))
    refl (λ right. right) c.release-in-Err.ensures.is c.release-in-Err.ensures.keeps ((is_taken g at.In_ok-hold_new (is_read g at.After-entry_at-entry)).taken first come)

-- THE SPACE GETS A PAGE MORE.

pub new-requires : goal.new-requires
new-requires g c =
    let d = c.args.self.now in
    let change = c.args.change.now in
    let may = may_change d c.args.trx change.table change.key c.requires.cause.0 c.laws.ensures.safe.locked c.requires.cause.1 in
    let r = c.laws.ensures.safe.tables.ranges change.table may.buckets may.was_table in
    let low = has_room d c.args.trx change c.args.spot.page c.unwrap_or-entry_number.result c.entry_at-entry.result.pages c.is_full.result c.is_full.ensures c.if-is_full.false in
    (r.0, r.1, low, omega arith)

pub write_longer_held-requires-clause-longer : goal.write_longer_held-requires-clause-longer
write_longer_held-requires-clause-longer g c = λ right.
    let at = goal.at.write_longer_held-requires-clause-longer g c in
    let t = is_taken g at.In_ok-hold_new (is_read g at.After-entry_at-entry) in
    let d = c.args.self.now in
    let change = c.args.change.now in
    let b : Buffered = c.hold_new.new.buffer in
    let spot = c.args.spot in
    let n : ℕ = c.unwrap_or-entry_number.result in
    let pages : ℕ = c.entry_at-entry.result.pages in
    let last : PageName = record { space = change.table; number = spot.page } in
    let h = c.in_ok-hold_new.ensures.holds in
    subst (Lengthens b) (sym c.growth_records-records.ensures)
    (lengthens d b n change.table pages spot.page change.key (t.kept right) (t.tells right) (has_room d c.args.trx change spot.page n pages c.is_full.result c.is_full.ensures c.if-is_full.false) (t.full right)
    (c.in_ok-at.at, h.still (system_page 0) c.in_ok-at.at c.in_ok-at.ensures.holds.has)
    (c.in_ok-hold_new.field-0, h.has)
    (spot.at, h.still last spot.at (c.in_ok-at.ensures.holds.still last spot.at c.requires.spot.has)))

pub returns-clause-placed : goal.returns-clause-placed
returns-clause-placed g c = λ first come.
    let at = goal.at.returns-clause-placed g c in
    let t = is_taken g at.In_ok-hold_new (is_read g at.After-entry_at-entry) in
    let d = c.args.self.now in
    let trx : ℕ = c.args.trx in
    let change : Change = c.args.change.now in
    let call = change_call d trx change first in
    let b : Buffered = c.hold_new.new.buffer in
    let new : Buffered = c.write_longer_held.new.buffer in
    let last : ℕ = c.args.spot.page in
    let n : ℕ = c.unwrap_or-entry_number.result in
    let pages : ℕ = c.entry_at-entry.result.pages in
    let frames : List ℕ = c.hold_new.new.self in
    let low = has_room d trx change last n pages c.is_full.result c.is_full.ensures c.if-is_full.false in
    let is : new ≡ written (records_of_growth n change.table pages last) b = c.write_longer_held.ensures.written ∙ ap (λ rs. written rs b) c.growth_records-records.ensures in
    let has : HasRoom (records_of_growth n change.table pages last) b = subst (λ rs. HasRoom rs b) c.growth_records-records.ensures c.in_default.ensures.room in
    let longer = subst (λ (w : Way). HasCome call frames w b) (room_is d trx change last n pages c.is_full.result c.is_full.ensures c.if-is_full.false) (t.taken first come) in
    let grown = comes_longer call frames b new (records_of_growth n change.table pages last) (slot_way d trx change pages 0 false None) has is (grown_kept d trx change b new n pages last t.kept t.tells t.full low is) longer in
    let page : row_page c.new.result ≡ record { space = change.table; number = pages } = ap (λ (e : UndoEntry). row_page e) c.new.ensures in
    record {
      comes = subst (λ (w : Way). HasCome call frames w new) (grown_is d trx change b new n pages last t.kept t.tells t.full low is c.new.result c.count_of.result c.new.ensures c.count_of.ensures) grown;
      few = omega (arith, c.requires.one, ap length c.in_ok-at.ensures.frames, ap length c.in_ok-hold_new.ensures.frames);
      target = grown_for d trx change b new n pages last t.kept t.tells t.full low is c.new.result c.count_of.result c.new.ensures c.count_of.ensures c.laws.ensures.safe c.requires.cause (omega arith);
      row = (c.in_ok-hold_new.field-0, subst (λ (p : PageName). Has p c.in_ok-hold_new.field-0 new.pool.frames) (sym page) (c.write_longer_held.ensures.stay (record { space = change.table; number = pages }) c.in_ok-hold_new.field-0 c.in_ok-hold_new.ensures.holds.has));
    }
