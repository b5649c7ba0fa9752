-- What a recipient accepted, where each item was answered and all of it is whole, is a complete
-- clone of what the donor gave.
use Rattle.std.proofs.Common.{◌≡◌, ◌<◌, ◌≤◌, ◌+◌, ◌*◌, ◌-◌, ◌/◌, ◌%◌, ◌⊎◌, ◌∙◌, ◌∷◌, [], ℕ, zero, suc, List, length, None, Some, refl, sym, ap, subst, arith, inl, inr}
use Rattle.std.specs.Prelude.{IfSome, false, min, take, drop, unwrap_or, option_and_then, slice_get}
use Rattle.std.specs.declared.option.Option.{Option}
use Rattle.std.specs.FinMap as finite
use Rattle.std.specs.List.{All, AllByRecursion, Contains}
use Rattle.std.proofs.lemmas.Bool.{cases_lt}
use Rattle.std.proofs.lemmas.List.Elements.{All-append, All-cons, All-contains, All-from_recursion}
use Rattle.clone_base.specs.declared.limits.TheConstants.{REDO_SPACE}
use Rattle.clone_outside.specs.Disk.{DiskImage}
use Rattle.clone_outside.specs.Mark.{IsEnd}
use Rattle.clone_outside.specs.declared.disk.Held.{Held}
use Rattle.clone_outside.specs.declared.mark.CloneEnd.{CloneEnd}
use Rattle.clone_mtr.specs.declared.record.Record.{Record}
use Rattle.clone_image.specs.Redone.{Standing, no_space, past_end, stands}
use Rattle.clone_law.specs.Machine as machine
use Rattle.clone_law.specs.Machine.{Copy}
use Rattle.clone_law.specs.Starts.{HasStart}
use Rattle.clone_law.specs.Touches.{Lax}
use Rattle.clone_overlay.specs.Images.{redo_space, bytes_of}
use Rattle.clone_recover.specs.Reading.{joined, redo_of}
use Rattle.clone_archive.specs.Archived.{Archived, archived_of}
use Rattle.clone_lay.specs.declared.laying.TheConstants.{REDO_BLOCK}
use Rattle.clone_lay.specs.Laid.{PageAt}
use Rattle.clone_outside.specs.Disk.{pages_in}
use Rattle.clone_lay.specs.Redo.{redo_block, redo_pages}
use Rattle.clone_lay.proofs.BlockLemmas.{blocks_are_pages}
use Rattle.clone_snapshot.specs.StageLists as lists
use Rattle.clone_snapshot.specs.StageLists.{Part, PagePart, RedoPart, StageList, all_pages, block_count, block_of, pages_of, pages_of_space}
use Rattle.clone_accepted.specs.Answers.{Answer, Item, Moves, PageBlock, RedoBlock, Stage, Takes, Told, ToldDone, ToldFiles, ToldPages, ToldRedo, answer_in}
use Rattle.clone_accepted.specs.Disk.{laid}
use Rattle.clone_accepted.specs.Turns.{InTurn, IsNext, stage_with}
use Rattle.clone_accepted.specs.Whole.{IsWhole, counted}
use Rattle.clone_standing.specs.Counting.{Counts}
use Rattle.clone_standing.specs.Latest.{IsLowRoom, IsPlain, MakesLow, blocks_said, latest, made_standing, redo_number}
use Rattle.clone_standing.proofs.DiskLemmas.{ArePlain, first_stands, items_made, items_quiet, items_redo, items_short, items_stay, numbers, second_stands}
use Rattle.clone_standing.proofs.PageLemmas.{at}
use Rattle.clone_standing.proofs.PlaceLemmas.{IsPage, block_counted, found, in_block, in_joined, is_counted, is_latest, later, first}
use Rattle.clone_standing.proofs.RedoBytes.{block_number, first_bytes, is_block, numbered}
use Rattle.clone_standing.proofs.RoomLemmas.{blank_standing, blank_there, held_past}
use Rattle.clone_standing.proofs.StandingLemmas.{short_from, space_standing, standing_low}
use Rattle.clone_session.specs.declared.info.Stop.{Stop}
use Rattle.clone_engine.specs.Donor.{Donor, list_of}
use Rattle.clone_engine.specs.Laid.{HoldsMoment, IsLaid}
use Rattle.clone_engine.specs.Taken.{HasStopped, IsTakenBy, IsTakenIn, Taken}
use Rattle.clone_engine.proofs.MomentLemmas as law
use Rattle.clone_engine.proofs.ToldLemmas.{of_told}
use Rattle.clone_flush.specs.Flights.{IsFlown}
use Rattle.clone_sides.specs.Trace.{Entry}
use Rattle.clone_sides.specs.Facts.{CountsEarly, FactOf, FactPages, FactRedo, FactTold, HasStop, HasRange, IsBare, IsEarly, IsLate, Keeps, Knows, Lists, places}
use Rattle.clone_sides.specs.Moment.{HoldsStop}
use Rattle.clone_sides.proofs.KeptLemmas.{list_kept}
use Rattle.clone_sides.proofs.OptionLemmas.{in_space, same_some, told_disk, two_none}

all_items : (P : Item → Type 0) (items : List Item) → ((item : Item) → Contains items item → P item) → AllByRecursion P items
all_items P [] each = tt
all_items P (item ∷ items) each = (each item (first item items), all_items P items (λ i has. each i (later item items i has)))

all_numbers : (P : ℕ → Type 0) (items : List Item) → ((item : Item) → Contains items item → All P (blocks_said (answer_in item))) → All P (numbers items)
all_numbers P [] each = λ i d low. absurd (omega (arith, low))
all_numbers P (item ∷ items) each =
    All-append P (blocks_said (answer_in item)) (numbers items) (each item (first item items)) (all_numbers P items (λ i has. each i (later item items i has)))

-- files that were told have a page at least
files_told : (now : ℕ) (items : List Item) (spaces : List (ℕ × ℕ)) → InTurn now items → Contains items (Moves (ToldFiles spaces)) → AllByRecursion (λ (space : ℕ × ℕ). 0 < space.1) spaces
files_told now [] spaces turn (i, within, is) = absurd (omega (arith, within))
files_told now (item ∷ items) spaces turn (zero, within, is) = (subst (IsNext now) is turn.0).1
files_told now (item ∷ items) spaces turn (suc i, within, is) = files_told (stage_with now item) items spaces turn.1 (i, omega (arith, within), is)

-- a space of which a page stands is there
there_past : (m : DiskImage) (s k n : ℕ) (bytes : List ℕ) → s < redo_space → at m s k ≡ stands bytes → Lax (at m s n) no_space → Lax (at m s n) past_end
there_past m s k n bytes low stands_is lax =
    subst (λ (v : Standing). Lax v past_end) (sym (standing_low m s n low))
    (by (finite.get m.spaces s) (sym (standing_low m s k low) ∙ stands_is) (subst (λ (v : Standing). Lax v no_space) (standing_low m s n low) lax))
  where
    by : (o : Option (List Held)) → space_standing o k ≡ stands bytes → Lax (space_standing o n) no_space → Lax (space_standing o n) past_end
    by None is lax = absurd (let wrong : no_space ≡ stands bytes = is in cc)
    by (Some pages) is lax = held_past (slice_get pages n) lax

-- from the stop on no page is tracked
stopped_start : (copy : Copy) (start : ℕ) (log : List (List Record)) (starts : List Standing) (v : Standing) → copy ≡ machine.Stopped start log starts → Counts copy v → HasStart copy v
stopped_start copy start log starts v is (inl tracked) = let wrong : machine.Tracked ≡ machine.Stopped start log starts = sym tracked ∙ is in absurd (cc)
stopped_start copy start log starts v is (inr from) = from

module _ (number : ℕ) (done : List Answer) (v : Donor) (taken : Taken) (l : Lists) (knows : Knows number done v taken l)
    (items : List Item) (answered : (item : Item) → Contains items item → Contains done (answer_in item)) (turn : InTurn 0 items)
    (checkpoint lsn position : ℕ) (whole : IsWhole items checkpoint lsn position) (m : DiskImage) (empty : m.spaces ≡ finite.empty) where
  abbrev list : StageList
  list = knows.list

  abbrev Fact : Answer → Type 0
  Fact a = FactOf number v.cloning list taken.copies l a

  fact : (item : Item) → Contains items item → Fact (answer_in item)
  fact item has = knows.facts (answer_in item) (answered item has)

  range : HasRange number v.cloning checkpoint lsn position
  range = fact (Moves (ToldRedo checkpoint lsn position)) whole.redo

  abbrev a : Archived
  a = range.archive

  before_end : archived_of a ≤ lsn
  before_end = range.within

  -- THE REDO

  abbrev redo : List ℕ
  redo = a.bytes

  redo_fact : (chunk block from : ℕ) (bytes : List ℕ) → FactRedo v.cloning chunk block from bytes → (from + length bytes ≤ archived_of a) × (REDO_BLOCK * redo_number chunk block < length redo) × (bytes ≡ redo_block redo (redo_number chunk block)) × (from + length bytes ≡ a.start + REDO_BLOCK * redo_number chunk block + min REDO_BLOCK (lsn - a.start - REDO_BLOCK * redo_number chunk block))
  redo_fact chunk block from bytes f =
      let both : Some f.archive ≡ Some a = sym f.stands ∙ range.stands in
      let same : f.archive ≡ a = cc in
      let ends : Some f.end ≡ Some lsn = sym f.ended ∙ ap (λ (x : Archived). x.stop) same ∙ range.end in
      let end : f.end ≡ lsn = cc in
      let is : block_of (lists.Redo a.start lsn) chunk block ≡ Some (RedoPart from (length bytes)) =
      (ap (λ (x : Archived). block_of (lists.Redo x.start lsn) chunk block) (sym same) ∙ ap (λ (n : ℕ). block_of (lists.Redo f.archive.start n) chunk block) (sym end) ∙ f.is) in
      let b = block_number a.start lsn chunk block from (length bytes) (omega (arith, before_end)) is in
      let within : from + length bytes ≤ archived_of a = subst (λ (x : Archived). from + length bytes ≤ archived_of x) same f.within in
      let k : ℕ = redo_number chunk block in
      let are : bytes ≡ take (length bytes) (drop (from - a.start) redo) = subst (λ (x : Archived). bytes ≡ take (length bytes) (drop (from - x.start) x.bytes)) same f.bytes_are in
      let far : from - a.start ≡ 16384 * k = omega (arith, b.0) in
      (within, omega (arith, within, b.0, b.1, b.2), are ∙ ap (λ (n : ℕ). take (length bytes) (drop n redo)) far ∙ is_block redo k (length bytes) (lsn - a.start) (omega (arith, before_end)) b.1 b.2 (omega (arith, within, b.0)), omega (arith, b.0, b.2))

  -- each block of redo was taken
  block_taken : (k : ℕ) → REDO_BLOCK * k < lsn - a.start → (from : ℕ) × (bytes : List ℕ) × Contains items (Takes (RedoBlock (k / 4) (k % 4) from bytes))
  block_taken k within =
      whole.in_redo (k / 4) (k % 4) (subst (λ (n : ℕ). k % 4 < block_count (lists.Redo n lsn) (k / 4)) range.start (numbered a.start lsn k within))

  all_archived : archived_of a ≡ lsn
  all_archived = by (cases_lt a.start lsn)
    where
      by : (a.start < lsn) ⊎ (lsn ≤ a.start) → archived_of a ≡ lsn
      by (inr none) = omega (arith, none, before_end)
      by (inl some) =
          let k : ℕ = (lsn - a.start - 1) / 16384 in
          let (from, bytes, has) = block_taken k (omega (arith, some)) in
          let f = redo_fact (k / 4) (k % 4) from bytes (fact (Takes (RedoBlock (k / 4) (k % 4) from bytes)) has) in
          omega (arith, some, f.0, f.3, before_end)

  plain : (item : Item) → Contains items item → IsPlain redo (answer_in item)
  plain item has = by (answer_in item) (fact item has)
    where
      told : (t : Told) → Fact (Stage t) → MakesLow t
      told (ToldFiles spaces) f = tt
      told (ToldPages count made) f = subst (AllByRecursion IsLowRoom) (sym f.2) (knows.low f.0)
      told (ToldRedo c n p) f = tt
      told ToldDone f = tt

      by : (x : Answer) → Fact x → IsPlain redo x
      by (Stage t) f = told t f
      by (PageBlock k chunk block pages) f = f.low
      by (RedoBlock chunk block from bytes) f = let r = redo_fact chunk block from bytes f in (r.1, r.2)

  plains : ArePlain redo items
  plains = all_items (λ item. IsPlain redo (answer_in item)) items plain

  blank_redo : pages_in m REDO_SPACE ≡ []
  blank_redo = ap (λ (o : Option (List Held)). unwrap_or o []) (blank_there m empty REDO_SPACE)

  numbers_within : All (λ k. REDO_BLOCK * k < length redo) (numbers items)
  numbers_within = all_numbers (λ k. REDO_BLOCK * k < length redo) items (λ item has. by (answer_in item) (plain item has))
    where
      by : (x : Answer) → IsPlain redo x → All (λ k. REDO_BLOCK * k < length redo) (blocks_said x)
      by (Stage t) p = λ i d low. absurd (omega (arith, low))
      by (PageBlock k chunk block pages) p = λ i d low. absurd (omega (arith, low))
      by (RedoBlock chunk block from bytes) p = All-cons (λ k. REDO_BLOCK * k < length redo) (redo_number chunk block) [] p.0 (λ i d low. absurd (omega (arith, low)))

  each_number : (k : ℕ) → REDO_BLOCK * k < length redo → Contains (numbers items) k
  each_number k low =
      let (from, bytes, has) = block_taken k (omega (arith, low, before_end)) in
      let is : redo_number (k / 4) (k % 4) ≡ k = omega arith in
      in_joined (λ (item : Item). blocks_said (answer_in item)) items (Takes (RedoBlock (k / 4) (k % 4) from bytes)) k has (0, omega arith, is)

  redo_there : redo_of (laid items m) (length redo) ≡ redo
  redo_there =
      let pages : pages_in (laid items m) REDO_SPACE ≡ redo_pages redo = items_redo redo items m m plains refl ∙ blocks_are_pages redo (numbers items) m blank_redo numbers_within each_number in
      ap (λ (ps : List Held). take (length redo) (joined (bytes_of ps))) pages ∙ first_bytes redo

  -- THE PAGES

  page_of_block : (stage chunk block s n : ℕ) (bytes : List ℕ) (pages : List PageAt) (P : PageAt → Type 0) → AllByRecursion P pages → (p : IsPage pages s n bytes) → P p.page
  page_of_block stage chunk block s n bytes pages P all p = All-contains P pages p.page (All-from_recursion P pages all) p.has

  as_page : (s n : ℕ) (bytes : List ℕ) (pages : List PageAt) (p : IsPage pages s n bytes) (Q : ℕ → ℕ → List ℕ → Type 0) → Q p.page.space p.page.number p.page.bytes → Q s n bytes
  as_page s n bytes pages p Q has = subst (Q s n) p.is (subst (λ (x : ℕ). Q s x p.page.bytes) p.number (subst (λ (x : ℕ). Q x p.page.number p.page.bytes) p.space has))

  -- what was taken last in the copy of pages
  late : (s n : ℕ) (bytes : List ℕ) → latest 2 s n items ≡ Some bytes → Counts (taken.copies s n) (stands bytes)
  late s n bytes some =
      let f = found 2 s n bytes items some in
      let known : FactPages list taken.copies l 2 f.chunk f.block f.pages = fact (Takes (PageBlock 2 f.chunk f.block f.pages)) f.has in
      as_page s n bytes f.pages f.page (λ x y b. Counts (taken.copies x y) (stands b)) (page_of_block 2 f.chunk f.block s n bytes f.pages (IsLate taken.copies) (known.in_pages refl).2 f.page)

  early : (s n : ℕ) (bytes : List ℕ) → latest 1 s n items ≡ Some bytes → CountsEarly l taken.copies s n (stands bytes)
  early s n bytes some =
      let f = found 1 s n bytes items some in
      let known : FactPages list taken.copies l 1 f.chunk f.block f.pages = fact (Takes (PageBlock 1 f.chunk f.block f.pages)) f.has in
      as_page s n bytes f.pages f.page (λ x y b. CountsEarly l taken.copies x y (stands b)) (page_of_block 1 f.chunk f.block s n bytes f.pages (IsEarly l taken.copies) (known.in_files refl).1 f.page)

  part_has : (part : Part) (pages : List PageAt) (s n : ℕ) → Some part ≡ Some (PagePart (places pages)) → Contains (pages_of part) (s, n) → Contains (places pages) (s, n)
  part_has part pages s n is has = let same : part ≡ PagePart (places pages) = cc in subst (λ (p : Part). Contains (pages_of p) (s, n)) same has

  -- a page that is listed was taken
  pages_taken : (s n : ℕ) → Contains l.pages (s, n) → latest 2 s n items ≡ None → ⊥
  pages_taken s n listed none =
      let b = in_block (lists.Pages l.pages) s n listed in
      let told : FactTold number v.cloning list l (ToldPages whole.count whole.made) = fact (Moves (ToldPages whole.count whole.made)) whole.pages in
      let (pages, has) = whole.in_pages b.chunk b.block (subst (λ (k : ℕ). b.block < block_count (counted k) b.chunk) (sym told.1) (block_counted l.pages b.chunk b.block b.part b.is)) in
      let known : FactPages list taken.copies l 2 b.chunk b.block pages = fact (Takes (PageBlock 2 b.chunk b.block pages)) has in
      is_latest 2 s n b.chunk b.block pages items has (part_has b.part pages s n (sym b.is ∙ (known.in_pages refl).1) b.has) none

  files_are : whole.spaces ≡ l.files
  files_are = fact (Moves (ToldFiles whole.spaces)) whole.files

  files_taken : (s n : ℕ) → Contains (all_pages (lists.Files l.files)) (s, n) → latest 1 s n items ≡ None → ⊥
  files_taken s n listed none =
      let b = in_block (lists.Files l.files) s n listed in
      let (pages, has) = whole.in_files b.chunk b.block (subst (λ (spaces : List (ℕ × ℕ)). b.block < block_count (lists.Files spaces) b.chunk) (sym files_are) (is_counted (lists.Files l.files) b.chunk b.block b.part b.is)) in
      let known : FactPages list taken.copies l 1 b.chunk b.block pages = fact (Takes (PageBlock 1 b.chunk b.block pages)) has in
      is_latest 1 s n b.chunk b.block pages items has (part_has b.part pages s n (sym b.is ∙ (known.in_files refl).0) b.has) none

  -- a page of which nothing was taken
  bare : (s n : ℕ) → s < redo_space → latest 1 s n items ≡ None → latest 2 s n items ≡ None → IsBare l s n (at (laid items m) s n)
  bare s n low first second = record { any = any; listed = listed; made = made }
    where
      any : Lax (at (laid items m) s n) no_space
      any = subst (Lax (at (laid items m) s n)) (blank_standing m s n empty low) (items_stay 0 items m s n low turn first second)

      size_some : (size : ℕ) → Contains l.files (s, size) → 0 < size
      size_some size has = All-contains (λ (space : ℕ × ℕ). 0 < space.1) l.files (s, size) (All-from_recursion (λ (space : ℕ × ℕ). 0 < space.1) l.files (subst (AllByRecursion (λ (space : ℕ × ℕ). 0 < space.1)) files_are (files_told 0 items whole.spaces turn whole.files))) has

      zero_stands : (o p : Option (List ℕ)) → latest 2 s 0 items ≡ o → latest 1 s 0 items ≡ p → Contains (all_pages (lists.Files l.files)) (s, 0) → Lax (at (laid items m) s n) past_end
      zero_stands (Some bytes) p is also has = there_past (laid items m) s 0 n bytes low (second_stands 0 items m s 0 bytes low turn is) any
      zero_stands None (Some bytes) is also has = there_past (laid items m) s 0 n bytes low (first_stands 0 items m s 0 bytes low turn is also) any
      zero_stands None None is also has = absurd (files_taken s 0 has also)

      made_are : whole.made ≡ l.made
      made_are = (fact (Moves (ToldPages whole.count whole.made)) whole.pages).2

      made : (size : ℕ) → Contains l.made (s, size) → Lax (at (laid items m) s n) (made_standing size n)
      made size has = items_made 0 items m s n whole.count size whole.made low turn first second (subst (λ (v : Standing). Lax v no_space) (sym (blank_standing m s n empty low)) tt) whole.pages (subst (λ (ms : List (ℕ × ℕ)). Contains ms (s, size)) (sym made_are) has)

      listed : (size : ℕ) → Contains l.files (s, size) → Lax (at (laid items m) s n) past_end
      listed size has = zero_stands (latest 2 s 0 items) (latest 1 s 0 items) refl refl (in_joined pages_of_space l.files (s, size) (s, 0) has (in_space s size 0 (size_some size has)))

  counts : (s n : ℕ) → s < redo_space → Counts (taken.copies s n) (at (laid items m) s n)
  counts s n low = by (latest 2 s n items) (latest 1 s n items) refl refl
    where
      unlisted : latest 2 s n items ≡ None → (u : Standing) → CountsEarly l taken.copies s n u → Counts (taken.copies s n) u
      unlisted none u (inl counts) = counts
      unlisted none u (inr has) = absurd (pages_taken s n has none)

      rest : latest 2 s n items ≡ None → latest 1 s n items ≡ None → Contains (all_pages (lists.Files l.files)) (s, n) ⊎ CountsEarly l taken.copies s n (at (laid items m) s n) → Counts (taken.copies s n) (at (laid items m) s n)
      rest second first (inl has) = absurd (files_taken s n has first)
      rest second first (inr counts) = unlisted second (at (laid items m) s n) counts

      by : (o p : Option (List ℕ)) → latest 2 s n items ≡ o → latest 1 s n items ≡ p → Counts (taken.copies s n) (at (laid items m) s n)
      by (Some bytes) p second first = subst (Counts (taken.copies s n)) (sym (second_stands 0 items m s n bytes low turn second)) (late s n bytes second)
      by None (Some bytes) second first = subst (Counts (taken.copies s n)) (sym (first_stands 0 items m s n bytes low turn second first)) (unlisted second (stands bytes) (early s n bytes first))
      by None None second first = rest second first (knows.unread s n (at (laid items m) s n) (bare s n low first second))

  -- THE STOP
  disk : (x : DiskImage) × (v.engine.disk.told ≡ Some x)
  disk = told_disk v.engine.disk.told knows.tells

  has : HasStopped v.cloning v.engine.buffer.log taken a
  has = by list knows.at.keeps (subst (IsTakenBy v.cloning v.engine.buffer.log taken) (list_kept v.cloning (number, list, knows.at.created) knows.at.session) (of_told (λ _. IsTakenBy v.cloning v.engine.buffer.log taken (list_of v.cloning)) v.engine.disk.told disk.0 disk.1 knows.is.stage))
    where
      by : (x : StageList) → Keeps number v.cloning x → IsTakenIn v.cloning v.engine.buffer.log taken x → HasStopped v.cloning v.engine.buffer.log taken a
      by (lists.Files spaces) none are = absurd (two_none v.cloning.archive a none range.stands)
      by (lists.Pages pages) (b, there, unended) are = absurd (two_none b.stop lsn unended (ap (λ (x : Archived). x.stop) (same_some v.cloning.archive b a there range.stands) ∙ range.end))
      by (lists.Redo start end) keeps are = are a range.stands
      by lists.Nothing keeps are = are a range.stands

  is_laid : IsLaid taken a (laid items m)
  is_laid = record {
    starts = λ s n low. let copies = has.copies s n in stopped_start (taken.copies s n) a.start has.at.buffer.log copies.0 (at (laid items m) s n) copies.1 (counts s n low);
    short = items_short redo items m plains (λ n past. short_from m n (ap (λ (o : Option (List Held)). option_and_then (λ (ps : List Held). slice_get ps n) o) (blank_there m empty 0)));
    redo = redo_there;
    quiet = items_quiet redo items m plains (λ s n. subst (λ (o : Option (List Held)). IfSome (option_and_then (λ (ps : List Held). slice_get ps n) o) (λ held. held.writing ≡ false)) (sym (blank_there m empty s)) tt);
  }

  -- THE CLONE HOLDS
  pub holds : (d : Donor) (trace : List Entry) → HasStop number d trace v taken → (end : CloneEnd) → IsEnd end → end.checkpoint ≡ checkpoint → end.lsn ≡ lsn → end.position ≡ position → HoldsStop number d trace end (laid items m)
  holds d trace moments end ranges first until after =
      let done : HoldsMoment taken end (laid items m) =
      law.moment v taken a (laid items m) disk.0 has is_laid (of_told (IsFlown v.engine.buffer v.engine.flights taken.copies) v.engine.disk.told disk.0 disk.1 knows.is.stands) (knows.donor.redo a range.stands) (range.end ∙ ap (λ (n : ℕ). Some n) (sym all_archived))
      end ranges (first ∙ sym range.start) (until ∙ sym all_archived) (after ∙ sym range.commits ∙ has.position range.last range.stop) in
      let (stop, stops, moment) = moments done.at done.stop in
      let same : range.last ≡ stop = same_some v.cloning.stop range.last stop range.stop stops in
      record {
        at = done.at;
        stop = stop;
        moment = moment;
        position = after ∙ sym range.commits ∙ ap (λ (s : Stop). s.position) same;
        holds = done.holds;
      }
