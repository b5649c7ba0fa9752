-- What an act leaves of a donor's clone: its session, the archive and the last stop.
use Rattle.std.proofs.Common.{◌≡◌, ◌+◌, ◌≤◌, ◌-◌, ◌∙◌, ◌++◌, [], ◌==◌, ℕ, Bool, true, false, if◌then◌else◌, List, length, Option, None, Some, Ok, option_map, refl, sym, ap, subst, arith}
use Rattle.std.proofs.lemmas.List.{append-nil, drop-append-le, length-append, length-drop, length-take, take-append-le}
use Rattle.std.specs.Prelude.{take, drop, option_and_then, unwrap_or}
use Rattle.std.proofs.lemmas.Bool.{eqb-true}
use Rattle.clone_archive.specs.Archived.{Archived, archived_of, next_count, until}
use Rattle.clone_ring.specs.Window.{Window, end_of}
use Rattle.clone_snapshot.specs.StageLists.{Files, Nothing, Pages, Redo, StageList, block_of}
use Rattle.clone_session.specs.Cloning.{Cloning, Session}
use Rattle.clone_session.specs.CloneCalls.{Answers, Archives, archived_on}
use Rattle.clone_session.specs.CloneCauses.{session_of}
use Rattle.clone_session.specs.declared.caller.Caller.{Caller}
use Rattle.clone_session.specs.Effects.{Becomes, finished, position_of}
use Rattle.clone_session.proofs.PartLemmas.{stands_as}
use Rattle.clone_engine.specs.Donor.{list_of}
use Rattle.clone_sides.specs.Facts.{FactRedo, HasRange, Keeps, Kept, kept, kept_of}
use Rattle.clone_sides.proofs.OptionLemmas.{same_some}

-- the number of the session that is open
abbrev pub number_in : Cloning → Option ℕ
number_in c = option_map (λ (k : Kept). k.0) (kept_of c)

abbrev bare : Session → Session
bare s = record s { snap = record s.snap { room = 0 } }

bare_kept : (o : Option Session) → option_map kept (option_map bare o) ≡ option_map kept o
bare_kept None = refl
bare_kept (Some s) = refl

pub becomes_kept : (new old : Cloning) → Becomes new old → kept_of new ≡ kept_of old
becomes_kept new old is = sym (bare_kept new.session) ∙ ap (λ (c : Cloning). kept_of c) is ∙ bare_kept old.session

pub same_kept : (c : Cloning) (s : Session) (k : Kept) → c.session ≡ Some s → kept_of c ≡ Some k → kept s ≡ k
same_kept c s k there is = same_some (kept_of c) (kept s) k (ap (option_map kept) there) is

pub some_session : (c : Cloning) (k : Kept) → kept_of c ≡ Some k → (s : Session) × (c.session ≡ Some s)
some_session c k is = by c.session is
  where
    by : (o : Option Session) → option_map kept o ≡ Some k → (s : Session) × (o ≡ Some s)
    by None is = absurd (cc)
    by (Some s) is = (s, refl)

pub list_kept : (c : Cloning) (k : Kept) → kept_of c ≡ Some k → list_of c ≡ Some k.1
list_kept c k is = by c.session is
  where
    by : (o : Option Session) → option_map kept o ≡ Some k → option_map (λ (s : Session). s.snap.list) o ≡ Some k.1
    by None is = absurd (cc)
    by (Some s) is = let same : kept s ≡ k = cc in ap (λ (x : Kept). Some x.1) same

pub number_is : (c : Cloning) (number : ℕ) (s : Session) → session_of c number ≡ Some s → s.number ≡ number
number_is c number s is = by c.session is
  where
    by : (o : Option Session) → option_and_then (λ (t : Session). if t.number == number then Some t else None) o ≡ Some s → s.number ≡ number
    by None is = absurd (cc)
    by (Some t) is = at (t.number == number) refl is
      where
        at : (b : Bool) → (t.number == number) ≡ b → (if b then Some t else None) ≡ Some s → s.number ≡ number
        at true same is = let one : t ≡ s = cc in sym (ap (λ (x : Session). x.number) one) ∙ eqb-true t.number number same
        at false same is = absurd (cc)

pub number_there : (c : Cloning) (s : Session) → c.session ≡ Some s → number_in c ≡ Some s.number
number_there c s there = ap (λ (o : Option Session). option_map (λ (k : Kept). k.0) (option_map kept o)) there

pub number_stands : (c : Cloning) (number : ℕ) (s : Session) → session_of c number ≡ Some s → number_in c ≡ Some number
number_stands c number s is = number_there c s (stands_as c.session number s is) ∙ ap (λ (n : ℕ). Some n) (number_is c number s is)

-- an archive has got more bytes, if any, and has come past no end
pub record GrowsTo (a b : Archived) : Type 0 where
  pub start : b.start ≡ a.start
  pub stop : b.stop ≡ a.stop
  pub more : List ℕ
  pub bytes : b.bytes ≡ a.bytes ++ more
  pub within : (end : ℕ) → a.stop ≡ Some end → archived_of a ≤ end → archived_of b ≤ end

abbrev pub Grows : Option Archived → Option Archived → Type 0
Grows None None = Unit {0}
Grows None (Some b) = ⊥
Grows (Some a) None = ⊥
Grows (Some a) (Some b) = GrowsTo a b

pub grows_same : (a b : Option Archived) → b ≡ a → Grows a b
grows_same a b is = subst (Grows a) (sym is) (self a)
  where
    self : (o : Option Archived) → Grows o o
    self None = tt
    self (Some a) = record { start = refl; stop = refl; more = []; bytes = sym (append-nil a.bytes); within = λ end is within. within }

grown : (o p : Option Archived) (a : Archived) → Grows o p → o ≡ Some a → (b : Archived) × (p ≡ Some b) × GrowsTo a b
grown None p a grows is = absurd (cc)
grown (Some x) None a grows is = absurd grows
grown (Some x) (Some b) a grows is = (b, refl, (let same : x ≡ a = cc in subst (λ (y : Archived). GrowsTo y b) same grows))

none_grown : (o p : Option Archived) → Grows o p → o ≡ None → p ≡ None
none_grown o None grows is = refl
none_grown None (Some b) grows is = absurd grows
none_grown (Some x) (Some b) grows is = absurd (cc)

-- WHAT AN ACT LEAVES of a clone
pub record Leaves (old new : Cloning) : Type 0 where
  pub session : kept_of new ≡ kept_of old
  pub archive : Grows old.archive new.archive
  pub stop : new.stop ≡ old.stop

pub leaves_same : (old new : Cloning) → new ≡ old → Leaves old new
leaves_same old new is = record {
  session = ap (λ (c : Cloning). kept_of c) is;
  archive = grows_same old.archive new.archive (ap (λ (c : Cloning). c.archive) is);
  stop = ap (λ (c : Cloning). c.stop) is;
}

-- it has become one that has the same session, archive and stop
pub leaves_as : (old like new : Cloning) → kept_of like ≡ kept_of old → like.archive ≡ old.archive → like.stop ≡ old.stop → Becomes new like → Leaves old new
leaves_as old like new session archive stop is = record {
  session = becomes_kept new like is ∙ session;
  archive = grows_same old.archive new.archive (ap (λ (c : Cloning). c.archive) is ∙ archive);
  stop = ap (λ (c : Cloning). c.stop) is ∙ stop;
}

pub leaves_becomes : (old new : Cloning) → Becomes new old → Leaves old new
leaves_becomes old new is = leaves_as old old new refl refl refl is

-- another state of the chunks, or of the caller
pub session_left : (old : Cloning) (s t : Session) → old.session ≡ Some s → kept t ≡ kept s → kept_of (record old { session = Some t }) ≡ kept_of old
session_left old s t stands same = ap (λ (k : Kept). Some k) same ∙ sym (ap (option_map kept) stands)

pub leaves_session : (old : Cloning) (s t : Session) → old.session ≡ Some s → kept t ≡ kept s → Leaves old (record old { session = Some t })
leaves_session old s t stands same = record { session = session_left old s t stands same; archive = grows_same old.archive old.archive refl; stop = refl }

-- a block was answered: its chunk may be finished
pub block_leaves : (old new : Cloning) (caller : Caller) (chunk block : ℕ) (last : Bool) → Answers caller chunk block old new last → Leaves old new × (new.archive ≡ old.archive)
block_leaves old new caller chunk block last answered =
    subst (λ (c : Cloning). Leaves old c × (c.archive ≡ old.archive)) (sym answered.2.1) (by last answered.0 (stands_as old.session caller.session answered.0 answered.1))
  where
    by : (b : Bool) (s : Session) → old.session ≡ Some s → Leaves old (if b then finished chunk s old else old) × ((if b then finished chunk s old else old).archive ≡ old.archive)
    by true s there = (leaves_session old s _ there refl, refl)
    by false s there = (leaves_same old old refl, refl)

-- more of the ring is archived
grows_longer : (limit : ℕ) (ring : Window) (a : Archived) → GrowsTo a (archived_on limit ring a)
grows_longer limit ring a =
    let more : List ℕ = take (next_count limit a ring) (drop (archived_of a - ring.floor) ring.bytes) in
    record {
      start = refl;
      stop = refl;
      more = more;
      bytes = refl;
      within = λ end is within. (let last : until a (end_of ring) ≡ end = ap (λ (o : Option ℕ). unwrap_or o (end_of ring)) is in
          omega (arith, within, last, length-append a.bytes more, length-take (next_count limit a ring) (drop (archived_of a - ring.floor) ring.bytes)));
    }

pub leaves_archived : (limit : ℕ) (ring : Window) (old new : Cloning) (reached : Option ℕ) → Archives {E = Unit {0}} limit ring old new (Ok reached) → Leaves old new
leaves_archived limit ring old new None did = leaves_same old new did.1
leaves_archived limit ring old new (Some lsn) (a, stands, becomes, rest) = record {
  session = becomes_kept new (record old { archive = Some (archived_on limit ring a) }) becomes;
  archive = subst (λ (o : Option Archived). Grows old.archive o) (sym (ap (λ (c : Cloning). c.archive) becomes)) (subst (λ (o : Option Archived). Grows o (Some (archived_on limit ring a))) (sym stands) (grows_longer limit ring a));
  stop = ap (λ (c : Cloning). c.stop) becomes;
}

-- THE REDO that was answered, the numbers of the stop, and what is kept, stay.
module _ (c e : Cloning) (grows : Grows c.archive e.archive) where
  pub range_stays : (number x y z : ℕ) → e.stop ≡ c.stop → HasRange number c x y z → HasRange number e x y z
  range_stays number x y z stop range =
      let (b, stands, grew) = grown c.archive e.archive range.archive grows range.stands in
      record { archive = b; stands = stands; start = grew.start ∙ range.start; end = grew.stop ∙ range.end; within = grew.within y range.end range.within; last = range.last; stop = stop ∙ range.stop; own = range.own; commits = range.commits }

  pub redo_stays : (chunk block from : ℕ) (bytes : List ℕ) → FactRedo c chunk block from bytes → FactRedo e chunk block from bytes
  redo_stays chunk block from bytes f =
      let (b, stands, grew) = grown c.archive e.archive f.archive grows f.stands in
      let a = f.archive in
      let long : length b.bytes ≡ length a.bytes + length grew.more = ap length grew.bytes ∙ length-append a.bytes grew.more in
      let start : b.start ≡ a.start = grew.start in
      record {
        archive = b;
        stands = stands;
        end = f.end;
        ended = grew.stop ∙ f.ended;
        is = ap (λ (n : ℕ). block_of (Redo n f.end) chunk block) start ∙ f.is;
        within = omega (arith, f.within, long, start);
        behind = omega (arith, f.behind, start);
        bytes_are = f.bytes_are ∙ sym (
            ap (λ (n : ℕ). take (length bytes) (drop (from - n) b.bytes)) start
            ∙ ap (λ (xs : List ℕ). take (length bytes) (drop (from - a.start) xs)) grew.bytes
            ∙ ap (take (length bytes)) (drop-append-le (from - a.start) a.bytes grew.more (omega (arith, f.within, f.behind)))
            ∙ take-append-le (length bytes) (drop (from - a.start) a.bytes) grew.more (omega (arith, f.within, f.behind, length-drop (from - a.start) a.bytes)));
      }

  pub keeps_stays : (number : ℕ) (list : StageList) → e.stop ≡ c.stop → Keeps number c list → Keeps number e list
  keeps_stays number (Files spaces) stop none = none_grown c.archive e.archive grows none
  keeps_stays number (Pages pages) stop (a, stands, unended) = (let (b, is, grew) = grown c.archive e.archive a grows stands in (b, is, grew.stop ∙ unended))
  keeps_stays number (Redo start end) stop range = subst (HasRange number e start end) (sym (ap position_of stop)) (range_stays number start end (position_of c.stop) stop range)
  keeps_stays number Nothing stop (start, end, range) = (start, end, subst (HasRange number e start end) (sym (ap position_of stop)) (range_stays number start end (position_of c.stop) stop range))
