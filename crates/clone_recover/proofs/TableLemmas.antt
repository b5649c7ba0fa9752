-- The chains of all tables, table by table, as an overlay shows them.
use Rattle.std.proofs.Common.{◌≡◌, ◌<◌, ◌≤◌, ◌+◌, ℕ, suc, List, length, get_or, replicate, refl, sym, ap, subst, ◌∙◌, arith, Some, None, inl, inr}
use Rattle.std.specs.Prelude.{unwrap_or, min, max}
use Rattle.std.specs.declared.option.Option.{Option}
use Rattle.std.proofs.lemmas.Bool.{cases_lt}
use Rattle.std.proofs.lemmas.List.{length-replicate, get_or-replicate, get_or_past}
use Rattle.clone_outside.specs.Disk.{DiskImage}
use Rattle.clone_page.specs.Dictionary.{entry_count}
use Rattle.clone_space.specs.Entries.{dictionary, entry_in, free}
use Rattle.clone_space.specs.declared.entry.TableEntry.{TableEntry}
use Rattle.clone_space.proofs.EntryLemmas.{length-dictionary}
use Rattle.clone_image.specs.Image.{Image, page_of, page_count}
use Rattle.clone_overlay.specs.Covers.{Overlay}
use Rattle.clone_overlay.specs.Images.{image_of}
use Rattle.clone_overlay.specs.Shown.{Shows, ShowsSame}
use Rattle.clone_recover.specs.Chains.{IsBrokenChain, IsWholeChain, TellsBucket, HasBrokenChain, BreaksFirst, IsFirstBrokenChain}
use Rattle.clone_recover.specs.Damage.{ForImage, HeaderOn, IsHeader, IsChainOr, ChainOrOn}
use Rattle.clone_recover.specs.Walks.{AreStamped, BreaksAt, AreWhole, BreaksBelow, AreAllWhole, IsNextTable, HasBuckets}
use Rattle.clone_recover.specs.declared.refusal.Why.TheVariants as why
use Rattle.clone_recover.specs.declared.refusal.RecoverRefusal.{RecoverRefusal}
use Rattle.clone_recover.specs.declared.refusal.RecoverRefusal.TheVariants.{Incomplete, Damaged, DiskFault, NoMemory}
use Rattle.clone_recover.specs.Refusals.{IsOfDisk}
use Rattle.clone_recover.proofs.ChainLemmas.{whole_unbroken}
use Rattle.clone_recover.proofs.OverlayReadLemmas.{both_for, weaker_for}

at_entry : (system : List ℕ) (entry_number other : ℕ) → entry_number ≡ other → (entry_in (dictionary system) entry_number).table ≡ (entry_in (dictionary system) other).table
at_entry system entry_number other same = ap (λ (k : ℕ). (entry_in (dictionary system) k).table) same

-- behind the last entry there is none
past_free : (system : List ℕ) (entry_number : ℕ) → entry_count ≤ entry_number → (entry_in (dictionary system) entry_number).table ≡ 0
past_free system entry_number past = ap (λ (e : TableEntry). e.table) (get_or_past (dictionary system) entry_number free (omega (arith, past, length-dictionary system)))

-- Refusals.

pub header_chain : (Broken : ℕ → ℕ → Type 0) (e : RecoverRefusal) (m : DiskImage) → IsHeader m e → IsChainOr Broken m e
header_chain Broken Incomplete m is = is
header_chain Broken (Damaged s p why.Header) m is = is
header_chain Broken (Damaged s p why.Redo) m is = is
header_chain Broken (Damaged s p why.Dictionary) m is = is
header_chain Broken (Damaged s p why.Undo) m is = is
header_chain Broken (Damaged s p why.Chain) m is = absurd is
header_chain Broken DiskFault m is = is
header_chain Broken NoMemory m is = is

pub chain_or : (P Q : ℕ → ℕ → Type 0) (e : RecoverRefusal) (m : DiskImage) → ((s p : ℕ) → P s p → Q s p) → IsChainOr P m e → IsChainOr Q m e
chain_or P Q Incomplete m gives is = is
chain_or P Q (Damaged s p why.Header) m gives is = is
chain_or P Q (Damaged s p why.Redo) m gives is = is
chain_or P Q (Damaged s p why.Dictionary) m gives is = is
chain_or P Q (Damaged s p why.Undo) m gives is = is
chain_or P Q (Damaged s p why.Chain) m gives is = gives s p is
chain_or P Q DiskFault m gives is = is
chain_or P Q NoMemory m gives is = is

-- The entries of a system page, one by one.

-- as IsNextTable, of the first entries, so many
abbrev pub IsNextBelow : List ℕ → ℕ → ℕ → Option ℕ → Type 0
IsNextBelow system above count None = (entry_number : ℕ) → entry_number < count → (entry_in (dictionary system) entry_number).table ≤ above
IsNextBelow system above count (Some table) =
    (above < table)
    × ((entry_number : ℕ) × ((entry_in (dictionary system) entry_number).table ≡ table))
    × ((entry_number : ℕ) → entry_number < count → above < (entry_in (dictionary system) entry_number).table → table ≤ (entry_in (dictionary system) entry_number).table)

pub next_more : (system : List ℕ) (above count table : ℕ) (o : Option ℕ) → table ≡ (entry_in (dictionary system) count).table → above < table → IsNextBelow system above count o → IsNextBelow system above (count + 1) (Some (min (unwrap_or o table) table))
next_more system above count table None is high before = (
  omega (arith, high),
  (count, let e : table ≡ min table table = omega arith in sym is ∙ e),
  λ entry_number low named. elim (cases_lt entry_number count) [
    | inl earlier ↦ absurd (omega (arith, before entry_number earlier, named))
    | inr now ↦ let e = at_entry system entry_number count (omega (arith, low, now)) in omega (arith, e, is)
  ],
)
next_more system above count table (Some least) is high before = (
  omega (arith, high, before.0),
  elim (cases_lt table least) [
    | inl lower ↦ (count, let e : table ≡ min least table = omega (arith, lower) in sym is ∙ e)
    | inr higher ↦ (before.1.0, let e : least ≡ min least table = omega (arith, higher) in before.1.1 ∙ e)
  ],
  λ entry_number low named. elim (cases_lt entry_number count) [
    | inl earlier ↦ omega (arith, before.2 entry_number earlier named)
    | inr now ↦ let e = at_entry system entry_number count (omega (arith, low, now)) in omega (arith, e, is)
  ],
)

pub next_same : (system : List ℕ) (above count table : ℕ) (o : Option ℕ) → table ≡ (entry_in (dictionary system) count).table → table ≤ above → IsNextBelow system above count o → IsNextBelow system above (count + 1) o
next_same system above count table None is low before = λ entry_number within. elim (cases_lt entry_number count) [
  | inl earlier ↦ before entry_number earlier
  | inr now ↦ let e = at_entry system entry_number count (omega (arith, within, now)) in omega (arith, e, is, low)
]
next_same system above count table (Some least) is low before = (
  before.0,
  before.1,
  λ entry_number within named. elim (cases_lt entry_number count) [
    | inl earlier ↦ before.2 entry_number earlier named
    | inr now ↦ let e = at_entry system entry_number count (omega (arith, within, now)) in absurd (omega (arith, e, is, low, named))
  ],
)

pub next_all : (system : List ℕ) (above count : ℕ) (o : Option ℕ) → count ≡ entry_count → IsNextBelow system above count o → IsNextTable system above o
next_all system above count None all before = λ entry_number. elim (cases_lt entry_number count) [
  | inl low ↦ before entry_number low
  | inr past ↦ omega (arith, past_free system entry_number (omega (arith, past, all)))
]
next_all system above count (Some table) all before = (
  before.0,
  before.1,
  λ entry_number named. elim (cases_lt entry_number count) [
    | inl low ↦ before.2 entry_number low named
    | inr past ↦ absurd (omega (arith, past_free system entry_number (omega (arith, past, all)), named))
  ],
)

-- as HasBuckets, of the first entries, so many
pub record HasBucketsBelow (system : List ℕ) (table count buckets : ℕ) : Type 0 where
  pub all : (entry_number : ℕ) → entry_number < count → (entry_in (dictionary system) entry_number).table ≡ table → (entry_in (dictionary system) entry_number).buckets ≤ buckets
  pub each : (bucket : ℕ) → bucket < buckets → TellsBucket system table bucket

pub no_buckets : (system : List ℕ) (table : ℕ) → HasBucketsBelow system table 0 0
no_buckets system table = record { all = λ entry_number none. absurd (omega (arith, none)); each = λ bucket none. absurd (omega (arith, none)) }

module _ (system : List ℕ) (table count old : ℕ) (e : TableEntry) (is : e ≡ entry_in (dictionary system) count) (h : HasBucketsBelow system table count old) where
  entry_is : (entry_number : ℕ) → entry_number ≡ count → entry_in (dictionary system) entry_number ≡ e
  entry_is entry_number same = ap (entry_in (dictionary system)) same ∙ sym is

  pub buckets_more : (new : ℕ) → 0 < table → e.table ≡ table → new ≡ max e.buckets old → HasBucketsBelow system table (count + 1) new
  buckets_more new some named made = record {
    all = λ entry_number within other. elim (cases_lt entry_number count) [
      | inl earlier ↦ omega (arith, h.all entry_number earlier other, made)
      | inr now ↦ let same : entry_number ≡ count = omega (arith, within, now) in omega (arith, made, ap (λ (x : TableEntry). x.buckets) (entry_is entry_number same))
    ];
    each = λ bucket low. elim (cases_lt bucket old) [
      | inl earlier ↦ h.each bucket earlier
      | inr here ↦ record {
        entry_number = count;
        named = ap (λ (x : TableEntry). x.table) (sym is) ∙ named;
        used = λ none. omega (arith, none, some);
        counted = omega (arith, low, here, made, ap (λ (x : TableEntry). x.buckets) is);
      }
    ];
  }

  pub buckets_same : (new : ℕ) → (e.table ≡ table → ⊥) → new ≡ old → HasBucketsBelow system table (count + 1) new
  buckets_same new other made = record {
    all = λ entry_number within named. elim (cases_lt entry_number count) [
      | inl earlier ↦ omega (arith, h.all entry_number earlier named, made)
      | inr now ↦ let same : entry_number ≡ count = omega (arith, within, now) in absurd (other (ap (λ (x : TableEntry). x.table) (sym (entry_is entry_number same)) ∙ named))
    ];
    each = λ bucket low. h.each bucket (omega (arith, low, made));
  }

pub buckets_all : (system : List ℕ) (table count buckets : ℕ) → count ≡ entry_count → HasBucketsBelow system table count buckets → HasBuckets system table buckets
buckets_all system table count buckets all h = record {
  all = λ bucket tells. elim (cases_lt tells.entry_number count) [
    | inl low ↦ omega (arith, h.all tells.entry_number low tells.named, tells.counted)
    | inr past ↦ absurd (tells.used (sym tells.named ∙ past_free system tells.entry_number (omega (arith, past, all))))
  ];
  each = h.each;
}

-- The stamps of a table.

pub none_stamped : (image : Image) (table count : ℕ) (pages : Option ℕ) (stamps : List ℕ) → pages ≡ page_count image table → count ≡ unwrap_or pages 0 → stamps ≡ replicate count 0 → AreStamped image table 0 stamps
none_stamped image table count pages stamps is counts made = record {
  long = ap length made ∙ length-replicate {A = ℕ} count 0 ∙ counts ∙ ap (λ o. unwrap_or o 0) is;
  low = λ page. omega (arith, none page);
  whole = λ page some. absurd (some (none page));
}
  where
    none : (page : ℕ) → get_or stamps page 0 ≡ 0
    none page = ap (λ xs. get_or xs page 0) made ∙ elim (cases_lt page count) [
      | inl low ↦ get_or-replicate count page 0 0 low
      | inr past ↦ get_or_past (replicate count 0) page 0 (omega (arith, past, length-replicate {A = ℕ} count 0))
    ]

-- One bucket more.

-- the chains below a bucket are whole, and its stamps stand
pub record IsTested (image : Image) (table bucket : ℕ) (stamps : List ℕ) : Type 0 where
  pub stamped : AreStamped image table bucket stamps
  pub whole : AreWhole image table bucket

pub one_tested : (image : Image) (table bucket next : ℕ) (old new : List ℕ) → next ≡ suc bucket → (AreStamped image table bucket old → AreStamped image table (bucket + 1) new) → (AreStamped image table bucket old → IsWholeChain image table bucket) → IsTested image table bucket old → IsTested image table next new
one_tested image table bucket next old new is stamps whole t =
    let e : bucket + 1 ≡ next = omega (arith, is) in
    record {
      stamped = subst (λ (b : ℕ). AreStamped image table b new) e (stamps t.stamped);
      whole = λ b low. elim (cases_lt b bucket) [
        | inl before ↦ t.whole b before
        | inr now ↦ let same : bucket ≡ b = omega (arith, is, low, now) in subst (IsWholeChain image table) same (whole t.stamped)
      ];
    }

pub first_below : (m : DiskImage) (image : Image) (table buckets bucket : ℕ) (stamps : List ℕ) (e : RecoverRefusal) → bucket < buckets → IsTested image table bucket stamps → (AreStamped image table bucket stamps → IsChainOr (BreaksAt table bucket image) m e) → IsChainOr (BreaksBelow table buckets image) m e
first_below m image table buckets bucket stamps e low t cause =
    chain_or (BreaksAt table bucket image) (BreaksBelow table buckets image) e m
    (λ s p breaks. record { is = breaks.0; bucket = bucket; counted = low; broken = breaks.1; ahead = t.whole }) (cause t.stamped)

-- The same over an overlay, where no page had a stamp at first.

abbrev pub TestedOn : Option DiskImage → Overlay → ℕ → ℕ → List ℕ → List ℕ → Type 0
TestedOn told overlay table bucket first stamps = ForImage told overlay (λ m image. AreStamped image table 0 first → IsTested image table bucket stamps)

pub tested_none : (told : Option DiskImage) (overlay : Overlay) (table : ℕ) (first : List ℕ) → TestedOn told overlay table 0 first first
tested_none None overlay table first = tt
tested_none (Some m) overlay table first = λ quiet image shows stamped. record { stamped = stamped; whole = λ bucket none. absurd (omega (arith, none)) }

pub tested_more : (told now : Option DiskImage) (overlay : Overlay) (table bucket next : ℕ) (first old new : List ℕ) → now ≡ told → next ≡ suc bucket → ForImage now overlay (λ m image. AreStamped image table bucket old → AreStamped image table (bucket + 1) new)
    → ForImage now overlay (λ m image. AreStamped image table bucket old → IsWholeChain image table bucket) → TestedOn told overlay table bucket first old → TestedOn told overlay table next first new
tested_more None now overlay table bucket next first old new same is stamps whole t = tt
tested_more (Some m) now overlay table bucket next first old new same is stamps whole t = λ quiet image shows stamped.
    one_tested image table bucket next old new is (subst (λ k. ForImage k overlay (λ m image. AreStamped image table bucket old → AreStamped image table (bucket + 1) new)) same stamps quiet image shows)
    (subst (λ k. ForImage k overlay (λ m image. AreStamped image table bucket old → IsWholeChain image table bucket)) same whole quiet image shows) (t quiet image shows stamped)

pub tested_fails : (told now : Option DiskImage) (overlay : Overlay) (table buckets bucket : ℕ) (first stamps : List ℕ) (e : RecoverRefusal) → now ≡ told → bucket < buckets → TestedOn told overlay table bucket first stamps
    → ForImage now overlay (λ m image. AreStamped image table bucket stamps → IsChainOr (BreaksAt table bucket image) m e) → ForImage told overlay (λ m image. AreStamped image table 0 first → IsChainOr (BreaksBelow table buckets image) m e)
tested_fails None now overlay table buckets bucket first stamps e same low t cause = tt
tested_fails (Some m) now overlay table buckets bucket first stamps e same low t cause = λ quiet image shows stamped.
    first_below m image table buckets bucket stamps e low (t quiet image shows stamped) (subst (λ k. ForImage k overlay (λ m image. AreStamped image table bucket stamps → IsChainOr (BreaksAt table bucket image) m e)) same cause quiet image shows)

pub tested_all : (told : Option DiskImage) (overlay : Overlay) (table buckets bucket : ℕ) (first stamps : List ℕ) → bucket ≡ buckets → TestedOn told overlay table bucket first stamps → ForImage told overlay (λ m image. AreStamped image table 0 first → AreWhole image table buckets)
tested_all told overlay table buckets bucket first stamps all t =
    weaker_for told overlay (λ m image. AreStamped image table 0 first → IsTested image table bucket stamps) (λ m image. AreStamped image table 0 first → AreWhole image table buckets)
    (λ m image one stamped b low. (one stamped).whole b (omega (arith, low, all))) t

-- what holds where no page has a stamp
pub from_none : (told : Option DiskImage) (overlay : Overlay) (table count : ℕ) (pages : Option ℕ) (stamps : List ℕ) (P : DiskImage → Image → Type 0) → ((base image : Image) → Shows base image overlay → pages ≡ page_count image table) → count ≡ unwrap_or pages 0 → stamps ≡ replicate count 0
    → ForImage told overlay (λ m image. AreStamped image table 0 stamps → P m image) → ForImage told overlay P
from_none None overlay table count pages stamps P is counts made holds = tt
from_none (Some m) overlay table count pages stamps P is counts made holds = λ quiet image shows. holds quiet image shows (none_stamped image table count pages stamps (is (image_of m) image shows) counts made)

pub disk_chain : (told : Option DiskImage) (overlay : Overlay) (Broken : Image → ℕ → ℕ → Type 0) (e : RecoverRefusal) → IsOfDisk e → ChainOrOn told overlay Broken e
disk_chain None overlay Broken e of = tt
disk_chain (Some m) overlay Broken e of = λ quiet image shows. at (Broken image) e of
  where
    at : (P : ℕ → ℕ → Type 0) (x : RecoverRefusal) → IsOfDisk x → IsChainOr P m x
    at P Incomplete of = absurd of
    at P (Damaged s p w) of = absurd of
    at P DiskFault of = tt
    at P NoMemory of = tt

-- One table more.

-- the chains of each table up to this one are whole
abbrev pub AreWholeUpTo : ℕ → List ℕ → Image → Type 0
AreWholeUpTo above system image = (table bucket : ℕ) → table ≤ above → TellsBucket system table bucket → IsWholeChain image table bucket

pub none_told : (image : Image) (system : List ℕ) (above : ℕ) → above ≡ 0 → AreWholeUpTo above system image
none_told image system above is table bucket low tells = absurd (tells.used (omega (arith, low, is)))

-- a table that is told is no lower than the next one, or was tested
next_told : (system : List ℕ) (above table other bucket : ℕ) → IsNextTable system above (Some table) → TellsBucket system other bucket → above < other → table ≤ other
next_told system above table other bucket next tells high = omega (arith, next.2 tells.entry_number (omega (arith, tells.named, high)), tells.named)

pub one_told : (image : Image) (system : List ℕ) (above table buckets : ℕ) → IsNextTable system above (Some table) → HasBuckets system table buckets → AreWhole image table buckets → AreWholeUpTo above system image → AreWholeUpTo table system image
one_told image system above table buckets next has whole before other bucket low tells = elim (cases_lt above other) [
  | inr earlier ↦ before other bucket earlier tells
  | inl later ↦
      let same : table ≡ other = omega (arith, low, next_told system above table other bucket next tells later) in
      subst (λ (t : ℕ). IsWholeChain image t bucket) same (whole bucket (has.all bucket (subst (λ (t : ℕ). TellsBucket system t bucket) (sym same) tells)))
]

pub all_told : (image : Image) (system : List ℕ) (above : ℕ) → IsNextTable system above None → AreWholeUpTo above system image → AreAllWhole image system
all_told image system above none before table bucket tells = before table bucket (omega (arith, none tells.entry_number, tells.named)) tells

breaks_first : (image : Image) (system : List ℕ) (above table buckets s p : ℕ) → IsNextTable system above (Some table) → HasBuckets system table buckets → AreWholeUpTo above system image → BreaksBelow table buckets image s p → BreaksFirst image system s p
breaks_first image system above table buckets s p next has before b = record {
  bucket = b.bucket;
  tells = subst (λ (t : ℕ). TellsBucket system t b.bucket) (sym b.is) (has.each b.bucket b.counted);
  broken = subst (λ (t : ℕ). IsBrokenChain image t b.bucket p) (sym b.is) b.broken;
  ahead = λ other one tells lower. elim (cases_lt above other) [
    | inr earlier ↦ before other one earlier tells
    | inl later ↦
        let at = next_told system above table other one next tells later in
        elim lower [
          | inl less ↦ absurd (omega (arith, less, at, b.is))
          | inr same ↦ subst (λ (t : ℕ). IsWholeChain image t one) (sym (same.0 ∙ b.is)) (b.ahead one same.1)
        ]
  ];
}

pub first_told : (m : DiskImage) (image : Image) (system : List ℕ) (above table buckets : ℕ) (e : RecoverRefusal) → IsNextTable system above (Some table) → HasBuckets system table buckets → AreWholeUpTo above system image → IsChainOr (BreaksBelow table buckets image) m e → IsChainOr (BreaksFirst image system) m e
first_told m image system above table buckets e next has before is =
    chain_or (BreaksBelow table buckets image) (BreaksFirst image system) e m (λ s p b. breaks_first image system above table buckets s p next has before b) is

-- The same over an overlay.

abbrev pub ToldOn : Option DiskImage → Overlay → List ℕ → ℕ → Type 0
ToldOn told overlay system above = ForImage told overlay (λ m image. AreWholeUpTo above system image)

pub told_none : (told : Option DiskImage) (overlay : Overlay) (system : List ℕ) → ToldOn told overlay system 0
told_none None overlay system = tt
told_none (Some m) overlay system = λ quiet image shows. none_told image system 0 refl

pub told_more : (told now : Option DiskImage) (overlay : Overlay) (system : List ℕ) (above table buckets : ℕ) → now ≡ told → IsNextTable system above (Some table) → HasBuckets system table buckets → ForImage now overlay (λ m image. AreWhole image table buckets) → ToldOn told overlay system above → ToldOn told overlay system table
told_more told now overlay system above table buckets same next has whole before =
    both_for told overlay (λ m image. AreWhole image table buckets) (λ m image. AreWholeUpTo above system image) (λ m image. AreWholeUpTo table system image)
    (λ m image each up. one_told image system above table buckets next has each up) (subst (λ t. ForImage t overlay (λ m image. AreWhole image table buckets)) same whole) before

pub told_fails : (told now : Option DiskImage) (overlay : Overlay) (system : List ℕ) (above table buckets : ℕ) (e : RecoverRefusal) → now ≡ told → IsNextTable system above (Some table) → HasBuckets system table buckets → ToldOn told overlay system above
    → ChainOrOn now overlay (BreaksBelow table buckets) e → ChainOrOn told overlay (λ image. BreaksFirst image system) e
told_fails told now overlay system above table buckets e same next has before cause =
    both_for told overlay (λ m image. AreWholeUpTo above system image) (λ m image. IsChainOr (BreaksBelow table buckets image) m e) (λ m image. IsChainOr (BreaksFirst image system) m e)
    (λ m image up is. first_told m image system above table buckets e next has up is) before (subst (λ t. ChainOrOn t overlay (BreaksBelow table buckets) e) same cause)

pub told_all : (told : Option DiskImage) (overlay : Overlay) (system : List ℕ) (above : ℕ) → IsNextTable system above None → ToldOn told overlay system above → ForImage told overlay (λ m image. AreAllWhole image system)
told_all told overlay system above none before = weaker_for told overlay (λ m image. AreWholeUpTo above system image) (λ m image. AreAllWhole image system) (λ m image up. all_told image system above none up) before

-- The dictionary.

pub system_unbroken : (image : Image) (system : List ℕ) → Some system ≡ page_of image 0 0 → AreAllWhole image system → (table page : ℕ) → HasBrokenChain image table page → ⊥
system_unbroken image system there whole table page h =
    let same : h.system ≡ system = let e : Some h.system ≡ Some system = sym h.there ∙ sym there in cc in
    whole_unbroken image table h.bucket page (whole table h.bucket (subst (λ (x : List ℕ). TellsBucket x table h.bucket) same h.tells)) h.broken

pub nothing_broken : (image : Image) → None ≡ page_of image 0 0 → (table page : ℕ) → HasBrokenChain image table page → ⊥
nothing_broken image none table page h = let e : None ≡ Some h.system = none ∙ h.there in absurd (cc)

pub system_first : (m : DiskImage) (image : Image) (system : List ℕ) (e : RecoverRefusal) → Some system ≡ page_of image 0 0 → IsChainOr (BreaksFirst image system) m e → IsChainOr (IsFirstBrokenChain image) m e
system_first m image system e there is = chain_or (BreaksFirst image system) (IsFirstBrokenChain image) e m (λ s p first. record { system = system; there = sym there; first = first }) is

pub chains_unbroken : (told now : Option DiskImage) (old new : Overlay) (system : List ℕ) → now ≡ told → ShowsSame told old new → ((base image : Image) → Shows base image new → Some system ≡ page_of image 0 0) → ForImage now new (λ m image. AreAllWhole image system)
    → ForImage told old (λ m image. (table page : ℕ) → HasBrokenChain image table page → ⊥)
chains_unbroken None now old new system same shows there whole = tt
chains_unbroken (Some m) now old new system same shows there whole = λ quiet image seen.
    let still = shows quiet image seen in
    system_unbroken image system (there (image_of m) image still) (subst (λ t. ForImage t new (λ m image. AreAllWhole image system)) same whole quiet image still)

pub chains_fail : (told now : Option DiskImage) (old new : Overlay) (system : List ℕ) (e : RecoverRefusal) → now ≡ told → ShowsSame told old new → ((base image : Image) → Shows base image new → Some system ≡ page_of image 0 0) → ChainOrOn now new (λ image. BreaksFirst image system) e
    → ChainOrOn told old IsFirstBrokenChain e
chains_fail None now old new system e same shows there cause = tt
chains_fail (Some m) now old new system e same shows there cause = λ quiet image seen.
    let still = shows quiet image seen in
    system_first m image system e (there (image_of m) image still) (subst (λ t. ChainOrOn t new (λ image. BreaksFirst image system) e) same cause quiet image still)

pub chains_nowhere : (told : Option DiskImage) (old new : Overlay) → ShowsSame told old new → ((base image : Image) → Shows base image new → None ≡ page_of image 0 0) → ForImage told old (λ m image. (table page : ℕ) → HasBrokenChain image table page → ⊥)
chains_nowhere None old new shows none = tt
chains_nowhere (Some m) old new shows none = λ quiet image seen. nothing_broken image (none (image_of m) image (shows quiet image seen))

pub header_fails : (told : Option DiskImage) (overlay : Overlay) (Broken : Image → ℕ → ℕ → Type 0) (e : RecoverRefusal) → HeaderOn told overlay e → ChainOrOn told overlay Broken e
header_fails told overlay Broken e header = weaker_for told overlay (λ m image. IsHeader m e) (λ m image. IsChainOr (Broken image) m e) (λ m image h. header_chain (Broken image) e m h) header
