-- One page that is kept stays so, whatever a call does to it.
use Rattle.std.proofs.Common.{◌≡◌, ◌↔◌, ◌&&◌, ◌++◌, ℕ, Bool, true, false, List, [], ◌∷◌, slice_get, refl, sym, ap, subst, ◌∙◌, Option, Some, None, option_and_then, unwrap_or, IsSome, IfSome, IsTrue, if◌then◌else◌}
use Rattle.clone_buffer.proofs.Common.{false≢true, true≢false, DiskImage, GivesQuiet, Record, Standing, no_space, past_end, stands, redone, ends, Suits, Rule, CopyRule, Copy, PageEngine, PageWorld, HasSpace, rule_kept, Frame, Flush, is_fresh, noted, is_begun, Beside, is_open, has_space, flight_of, engine_with, IsKeptPage}
use Rattle.std.specs.FinMap as finite
use Rattle.clone_outside.specs.Disk.{page_of}
use Rattle.clone_outside.specs.declared.disk.Held.{Held}
use Rattle.clone_law.specs.Touches.{Lax}
use Rattle.clone_law.specs.Machine.{Flight, Idle, Untracked, Tracked, Copied, Stopped, Passed, Changed, Dropped, Fetched, Evicted, NoFiles, Stands, first_of, dirtied}
use Rattle.clone_pool.specs.declared.frame.Flush.TheVariants as flush
use Rattle.clone_pool.specs.Frames.{counts_as_open}
use Rattle.clone_buffer.specs.OnePage.{standing_at, standing_in, oldest_in, flush_in}
use Rattle.clone_buffer.proofs.FrameLemmas.{counted}

-- the page in the donor, and in a clone
abbrev pub world : Copy → PageEngine → PageWorld
world copy e = record { engine = e; copy = copy }

-- they keep the rule
abbrev pub Ruled : ℕ → ℕ → Copy → PageEngine → Type 0
Ruled space number copy e = Rule space number (world copy e)

-- what a clone has keeps its part of the rule, whatever the disk has of the page, unless a write is opened or a flush begins
pub copy_stays : (space number : ℕ) (e : PageEngine) (disk : Standing) (writing : Bool) (flight : Option Flight) (copy : Copy) → (e.writing ≡ false → writing ≡ false) → (e.flight ≡ None → flight ≡ None) → CopyRule space number e copy
    → CopyRule space number (record e { disk = disk; writing = writing; flight = flight }) copy
copy_stays space number e disk writing flight Idle closed grounded rule = tt
copy_stays space number e disk writing flight (Untracked starts) closed grounded rule = (closed rule.0, grounded rule.1, rule.2)
copy_stays space number e disk writing flight Tracked closed grounded rule = tt
copy_stays space number e disk writing flight (Copied base starts) closed grounded rule = rule
copy_stays space number e disk writing flight (Stopped base log starts) closed grounded rule = rule

not_open : (b : Bool) → (b ≡ true → ⊥) → b ≡ false
not_open true never = absurd (never refl)
not_open false never = refl

lax_stands : (u : Standing) (page : List ℕ) → Lax u (stands page) → u ≡ stands page
lax_stands no_space page lax = lax
lax_stands past_end page lax = lax
lax_stands (stands b) page lax = lax

shut : (b : Bool) → (b && true) ≡ false → b ≡ false
shut true is = absurd (true≢false is)
shut false is = refl

stands_same : (a b : List ℕ) → stands a ≡ stands b → a ≡ b
stands_same a b is = cc

pub spaced : (s : Standing) → HasSpace s → has_space s ≡ true
spaced no_space has = absurd has
spaced past_end has = refl
spaced (stands page) has = refl

never : (b : Bool) → (b && false) ≡ false
never true = refl
never false = refl

first_is : (at : ℕ) (o : Option ℕ) → first_of at o ≡ Some (unwrap_or o at)
first_is at None = refl
first_is at (Some o) = refl

flown_on : (at : ℕ) (f : Flush) (image : Option (List ℕ)) → dirtied at (flight_of f image) ≡ flight_of (noted at f) image
flown_on at flush.Idle image = refl
flown_on at (flush.Begun later) None = refl
flown_on at (flush.Begun None) (Some bytes) = refl
flown_on at (flush.Begun (Some later)) (Some bytes) = refl
flown_on at flush.Failed image = refl

counted_on : (at : ℕ) (f : Flush) → counts_as_open (noted at f) ≡ counts_as_open f
counted_on at flush.Idle = refl
counted_on at (flush.Begun later) = refl
counted_on at flush.Failed = refl

begun_on : (at : ℕ) (f : Flush) (P : Bool → Type 0) → P (is_begun f) → P (is_begun (noted at f))
begun_on at flush.Idle P p = p
begun_on at (flush.Begun later) P p = p
begun_on at flush.Failed P p = p

-- the disk's bytes, where the page is quiet
quiet_bytes : (o : Option (List Held)) (number : ℕ) (page bytes : List ℕ) → standing_in o number ≡ stands page → is_open (option_and_then (λ pages. slice_get pages number) o) ≡ false
    → IfSome (option_and_then (λ pages. slice_get pages number) o) (λ held. held.writing ≡ false → bytes ≡ held.bytes) → bytes ≡ page
quiet_bytes None number page bytes is closed gives = absurd (cc)
quiet_bytes (Some pages) number page bytes is closed gives = at (slice_get pages number) refl is closed gives
  where
    at : (o : Option Held) → slice_get pages number ≡ o → standing_in (Some pages) number ≡ stands page → is_open (slice_get pages number) ≡ false → IfSome (slice_get pages number) (λ held. held.writing ≡ false → bytes ≡ held.bytes) → bytes ≡ page
    at None none is closed gives = let no = sym (ap (λ (o : Option Held). standing_at o) none) ∙ is in absurd (cc)
    at (Some held) some is closed gives =
        let same : stands held.bytes ≡ stands page = sym (ap (λ (o : Option Held). standing_at o) some) ∙ is in
        let said = subst (λ (o : Option Held). IfSome o (λ h. h.writing ≡ false → bytes ≡ h.bytes)) some gives in
        let shut : held.writing ≡ false = sym (ap is_open some) ∙ closed in
        said shut ∙ stands_same held.bytes page same

module _ (log : List (List Record)) (beside : Beside) (m : DiskImage) (space number : ℕ) where
  abbrev copy : Copy
  copy = beside.copy space number

  -- whatever a frame's pins and its last use are
  pub like_page : (f : Frame) (pins last_use : ℕ) → IsKeptPage log beside m space number (counted f) → IsKeptPage log beside m space number (counted (record f { pins = pins; last_use = last_use }))
  like_page f pins last_use k = by (is_fresh f.content) k
    where
      by : (b : Bool) → IsKeptPage log beside m space number (if b then None else Some f) → IsKeptPage log beside m space number (if b then None else Some (record f { pins = pins; last_use = last_use }))
      by true k = k
      by false k = record { rule = k.rule; dirty = k.dirty; opened = k.opened; flights = k.flights }

  -- a clean page lost its frame
  lost : (f : Frame) → IsKeptPage log beside m space number (Some (record f { oldest = None; flush = flush.Idle })) → IsKeptPage log beside m space number None
  lost f k =
      let e : PageEngine = engine_with log beside m space number (Some (record f { oldest = None; flush = flush.Idle })) in
      let closed : e.writing ≡ false = not_open e.writing (λ t. absurd (false≢true (k.dirty t))) in
      record {
        rule = rule_kept space number (world copy e) Evicted k.rule (closed, refl, refl);
        dirty = λ t. absurd (true≢false (sym t ∙ closed));
        opened = λ t. absurd (true≢false (sym t ∙ closed));
        flights = k.flights;
      }

  pub lost_page : (f : Frame) → f.oldest ≡ None → f.flush ≡ flush.Idle → IsKeptPage log beside m space number (counted f) → IsKeptPage log beside m space number None
  lost_page f clean idle k = by (is_fresh f.content) k
    where
      by : (b : Bool) → IsKeptPage log beside m space number (if b then None else Some f) → IsKeptPage log beside m space number None
      by true k = k
      by false k =
          let same : f ≡ record f { oldest = None; flush = flush.Idle } = λ i. record f { oldest = clean i; flush = idle i } in
          lost f (subst (λ (g : Frame). IsKeptPage log beside m space number (Some g)) same k)

  pub on_disk : (page : List ℕ) → IsKeptPage log beside m space number None → redone space number log ≡ stands page → (standing_in (finite.get m.spaces space) number ≡ stands page) × (is_open (page_of m space number) ≡ false)
  on_disk page k is =
      let closed = k.rule.engine.bare.0 in
      let has : HasSpace (redone space number log) = subst HasSpace (sym is) tt in
      let opened : (is_open (page_of m space number) && true) ≡ false = sym (ap (λ (s : Standing). is_open (page_of m space number) && has_space s) is) ∙ closed in
      (lax_stands _ page (subst (λ (s : Standing). Lax (standing_in (finite.get m.spaces space) number) s) is (k.rule.engine.quiet closed has)), shut (is_open (page_of m space number)) opened)

  -- what a read of a page gives that has no frame
  pub read_bytes : (page bytes : List ℕ) → IsKeptPage log beside m space number None → redone space number log ≡ stands page → GivesQuiet m space number bytes → bytes ≡ page
  read_bytes page bytes k is gives =
      let disk = on_disk page k is in
      quiet_bytes (finite.get m.spaces space) number page bytes disk.0 disk.1 gives

  -- a page was read into a frame
  read_into : (f : Frame) → IsKeptPage log beside m space number None → redone space number log ≡ stands f.page → GivesQuiet m space number f.page → IsKeptPage log beside m space number (Some (record f { oldest = None; flush = flush.Idle }))
  read_into f k is gives =
      let disk = on_disk f.page k is in
      let closed = k.rule.engine.bare.0 in
      record {
        rule = rule_kept space number (world copy (engine_with log beside m space number None)) (Fetched f.page) k.rule (refl, disk.0, subst Stands (sym is) tt);
        dirty = λ t. absurd (true≢false (sym t ∙ closed));
        opened = λ t. absurd (true≢false (sym t ∙ closed));
        flights = k.flights;
      }

  pub read_page : (f : Frame) → f.oldest ≡ None → f.flush ≡ flush.Idle → redone space number log ≡ stands f.page → GivesQuiet m space number f.page → IsKeptPage log beside m space number None → IsKeptPage log beside m space number (Some f)
  read_page f clean idle is gives k =
      let same : f ≡ record f { oldest = None; flush = flush.Idle } = λ i. record f { oldest = clean i; flush = idle i } in
      subst (λ (g : Frame). IsKeptPage log beside m space number (Some g)) (sym same) (read_into f k is gives)

  -- a mini-transaction left the page
  pub passed_page : (records : List Record) (frame : Option Frame) → Suits space number log records → redone space number (log ++ records ∷ []) ≡ redone space number log → IsKeptPage log beside m space number frame → IsKeptPage (log ++ records ∷ []) beside m space number frame
  passed_page records frame suits same k =
      let e : PageEngine = engine_with log beside m space number frame in
      let writes : Standing → Bool = λ s. is_open (page_of m space number) && has_space s in
      let new : record e { log = log ++ records ∷ [] } ≡ engine_with (log ++ records ∷ []) beside m space number frame = λ i. record e { log = log ++ records ∷ []; writing = writes (sym same i) } in
      record {
        rule = subst (Ruled space number copy) new (rule_kept space number (world copy e) (Passed records) k.rule (suits, same));
        dirty = λ t. k.dirty (sym (ap writes same) ∙ t);
        opened = λ t. k.opened (sym (ap writes same) ∙ t);
        flights = k.flights;
      }

  -- a mini-transaction changed the page in its frame
  pub changed_page : (records : List Record) (frame : Option Frame) (g : Frame) → Suits space number log records → HasSpace (redone space number log) → redone space number (log ++ records ∷ []) ≡ stands g.page
      → g.oldest ≡ Some (unwrap_or (oldest_in frame) (ends log)) → g.flush ≡ noted (ends log) (flush_in frame) → IsKeptPage log beside m space number frame → IsKeptPage (log ++ records ∷ []) beside m space number (Some g)
  changed_page records frame g suits has becomes oldest flush_is k =
      let e : PageEngine = engine_with log beside m space number frame in
      let writes : Standing → Bool = λ s. is_open (page_of m space number) && has_space s in
      let writing : e.writing ≡ (engine_with (log ++ records ∷ []) beside m space number (Some g)).writing = ap (λ (b : Bool). is_open (page_of m space number) && b) (spaced (redone space number log) has) ∙ sym (ap writes becomes) in
      let image : Option (List ℕ) = beside.image space number in
      let dirty : first_of (ends log) (oldest_in frame) ≡ g.oldest = first_is (ends log) (oldest_in frame) ∙ sym oldest in
      let flown : dirtied (ends log) (flight_of (flush_in frame) image) ≡ flight_of g.flush image = flown_on (ends log) (flush_in frame) image ∙ sym (ap (λ (x : Flush). flight_of x image) flush_is) in
      let new : record e { log = log ++ records ∷ []; frame = Some g.page; oldest = first_of (ends log) (oldest_in frame); flight = dirtied (ends log) (flight_of (flush_in frame) image) } ≡ engine_with (log ++ records ∷ []) beside m space number (Some g) =
      λ i. record e { log = log ++ records ∷ []; writing = writing i; frame = Some g.page; oldest = dirty i; flight = flown i } in
      record {
        rule = subst (Ruled space number copy) new (rule_kept space number (world copy e) (Changed records g.page) k.rule (suits, becomes, has));
        dirty = λ t. subst IsSome (sym oldest) refl;
        opened = λ t. ap counts_as_open flush_is ∙ counted_on (ends log) (flush_in frame) ∙ k.opened (writing ∙ t);
        flights = subst (λ (x : Flush). IsTrue (is_begun x) ↔ IsSome image) (sym flush_is) (begun_on (ends log) (flush_in frame) (λ x. IsTrue x ↔ IsSome image) k.flights);
      }

  -- a mini-transaction dropped the page's space, and the frame gave the page up
  pub dropped_page : (records : List Record) (frame : Option Frame) → Suits space number log records → redone space number (log ++ records ∷ []) ≡ no_space → NoFiles copy → is_begun (flush_in frame) ≡ false
      → IsKeptPage log beside m space number frame → IsKeptPage (log ++ records ∷ []) beside m space number None
  dropped_page records frame suits gone calm landed k =
      let e : PageEngine = engine_with log beside m space number frame in
      let writes : Standing → Bool = λ s. is_open (page_of m space number) && has_space s in
      let closed : false ≡ writes (redone space number (log ++ records ∷ [])) = sym (ap writes gone ∙ never (is_open (page_of m space number))) in
      let new : record e { log = log ++ records ∷ []; writing = false; frame = None; oldest = None; flight = None } ≡ engine_with (log ++ records ∷ []) beside m space number None =
      λ i. record e { log = log ++ records ∷ []; writing = closed i; frame = None; oldest = None; flight = None } in
      record {
        rule = subst (Ruled space number copy) new (rule_kept space number (world copy e) (Dropped records e.disk) k.rule (suits, gone, calm));
        dirty = λ t. absurd (false≢true (closed ∙ t));
        opened = λ t. absurd (false≢true (closed ∙ t));
        flights = subst (λ (b : Bool). IsTrue b ↔ IsSome (beside.image space number)) landed k.flights;
      }
