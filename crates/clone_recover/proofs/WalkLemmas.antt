-- A walk along a chain, page by page, with the stamps that it leaves.
use Rattle.std.proofs.Common.{Bool, ◌≡◌, ◌≢◌, ◌<◌, ◌≤◌, ◌+◌, ◌⊎◌, ℕ, suc, List, length, get_or, set, refl, sym, ap, subst, ◌∙◌, arith, Some, None, inl, inr}
use Rattle.std.specs.Prelude.{◌==◌, if◌then◌else◌}
use Rattle.std.specs.declared.option.Option.{Option}
use Rattle.std.specs.List.{sum_by}
use Rattle.std.proofs.lemmas.Bool.{cases_lt, cases_eq}
use Rattle.std.proofs.lemmas.Bool.Decides.{eqb_tells}
use Rattle.std.proofs.lemmas.List.{get_or-set_same, get_or-set_other, get_or_past, length-set}
use Rattle.std.proofs.lemmas.List.Sums.{sum_by-set}
use Rattle.clone_outside.specs.Disk.{DiskImage}
use Rattle.clone_overlay.specs.Covers.{Overlay}
use Rattle.clone_recover.specs.Chains.{size_in, next_in, page_at, GoesAstray, IsBrokenChain, no_bucket, astray, IsWhole, IsWholeChain}
use Rattle.clone_recover.specs.Damage.{ForImage, HeaderOn, IsHeader, IsChainOr}
use Rattle.clone_recover.specs.Walks.{IsStamped, AreStamped, BreaksAt}
use Rattle.clone_recover.specs.declared.refusal.Why.TheVariants as why
use Rattle.clone_recover.specs.declared.refusal.RecoverRefusal.{RecoverRefusal}
use Rattle.clone_recover.specs.declared.refusal.RecoverRefusal.TheVariants.{Damaged}
use Rattle.clone_recover.proofs.OverlayReadLemmas.{both_for, weaker_for}
use Rattle.clone_recover.proofs.TableLemmas.{header_chain}
use Rattle.clone_recover.proofs.ChainLemmas.{same_some, at_next, whole_last, whole_back}

module _ (next : ℕ → Option ℕ) (size bucket : ℕ) where
  -- The first pages of a bucket's chain, so many, are different ones and are those that have its
  -- stamp. The chain is whole that begins with a page that has another.
  pub record IsFront (count : ℕ) (stamps : List ℕ) : Type 0 where
    pub long : length stamps ≡ size
    pub ahead : (j : ℕ) → j < count → (page : ℕ) × (page_at next bucket j ≡ Some page) × (get_or stamps page 0 ≡ bucket + 1)
    pub stamped : (page : ℕ) → get_or stamps page 0 ≡ bucket + 1 → (j : ℕ) × (j < count) × (page_at next bucket j ≡ Some page)
    pub apart : (i j : ℕ) → i < j → j < count → page_at next bucket i ≢ page_at next bucket j
    pub low : (page : ℕ) → get_or stamps page 0 ≤ bucket + 1
    pub whole : (page : ℕ) → get_or stamps page 0 ≢ 0 → get_or stamps page 0 ≢ bucket + 1 → IsWhole next size page

  pub front_begins : (stamps : List ℕ) → IsStamped next size bucket stamps → IsFront 0 stamps
  front_begins stamps s = record {
    long = s.long;
    ahead = λ j none. absurd (omega (arith, none));
    stamped = λ page is. absurd (omega (arith, s.low page, is));
    apart = λ i j less none. absurd (omega (arith, none));
    low = λ page. omega (arith, s.low page);
    whole = λ page some other. s.whole page some;
  }

  -- a page with a stamp is there
  stamp_there : (stamps : List ℕ) (page stamp : ℕ) → length stamps ≡ size → get_or stamps page 0 ≡ suc stamp → page < size
  stamp_there stamps page stamp long is = elim (cases_lt page (length stamps)) [
    | inl low ↦ omega (arith, low, long)
    | inr past ↦ absurd (omega (arith, is, get_or_past stamps page 0 past))
  ]

  pub front_more : (count page : ℕ) (stamps : List ℕ) → IsFront count stamps → page_at next bucket count ≡ Some page → page < size → get_or stamps page 0 ≡ 0 → IsFront (suc count) (set stamps page (bucket + 1))
  front_more count page stamps f comes there free = record {
    long = length-set stamps page (bucket + 1) ∙ f.long;
    ahead = λ j low. elim (cases_lt j count) [
      | inl before ↦ let a = f.ahead j before in (a.0, a.1, other a.0 (λ same. absurd (omega (arith, a.2, ap (λ p. get_or stamps p 0) same, free))) ∙ a.2)
      | inr now ↦ let e : j ≡ count = omega (arith, low, now) in (page, ap (page_at next bucket) e ∙ comes, here)
    ];
    stamped = λ p is. elim (cases_eq p page) [
      | inl same ↦ (count, omega arith, comes ∙ ap Some (sym same))
      | inr apart ↦ let s = f.stamped p (sym (other p apart) ∙ is) in (s.0, omega (arith, s.1), s.2)
    ];
    apart = λ i j less low. elim (cases_lt j count) [
      | inl before ↦ f.apart i j less before
      | inr now ↦ λ same.
          let e : j ≡ count = omega (arith, low, now) in
          let a = f.ahead i (omega (arith, less, e)) in
          let p : a.0 ≡ page = same_some a.0 page (sym a.1 ∙ same ∙ ap (page_at next bucket) e ∙ comes) in
          absurd (omega (arith, a.2, ap (λ q. get_or stamps q 0) p, free))
    ];
    low = λ p. elim (cases_eq p page) [
      | inl same ↦ let e = ap (λ q. get_or (set stamps page (bucket + 1)) q 0) same ∙ here in omega (arith, e)
      | inr apart ↦ omega (arith, other p apart, f.low p)
    ];
    whole = λ p some stamp. elim (cases_eq p page) [
      | inl same ↦ absurd (stamp (ap (λ q. get_or (set stamps page (bucket + 1)) q 0) same ∙ here))
      | inr apart ↦ f.whole p (λ none. some (other p apart ∙ none)) (λ own. stamp (other p apart ∙ own))
    ];
  }
    where
      here : get_or (set stamps page (bucket + 1)) page 0 ≡ bucket + 1
      here = get_or-set_same stamps page (bucket + 1) 0 (omega (arith, there, f.long))

      other : (p : ℕ) → p ≢ page → get_or (set stamps page (bucket + 1)) p 0 ≡ get_or stamps p 0
      other p apart = get_or-set_other stamps page p (bucket + 1) 0 apart

  -- the last of them names a page that isn't there, or one of them
  pub front_astray : (last page target : ℕ) (stamps : List ℕ) → IsFront (suc last) stamps → page_at next bucket last ≡ Some page → next page ≡ Some target → (length stamps ≤ target) ⊎ (get_or stamps target 0 ≡ bucket + 1) → GoesAstray next size bucket page
  front_astray last page target stamps f comes named wrong = record {
    index = last;
    comes = comes;
    apart = λ i j less low. f.apart i j less (omega (arith, low));
    target = target;
    named = named;
    wrong = elim wrong [
      | inl past ↦ inl (omega (arith, past, f.long))
      | inr back ↦ let s = f.stamped target back in inr (s.0, omega (arith, s.1), s.2)
    ];
  }

  -- the chain is whole that begins with the page at the end of the walk
  module _ (count last page : ℕ) (stamps : List ℕ) (f : IsFront count stamps) (near : (j : ℕ) → j < count → j ≤ last) (up : (j : ℕ) → j < last → j < count) (comes : page_at next bucket last ≡ Some page) (end : IsWhole next size page) where
    front_there : (j p : ℕ) → j < last → page_at next bucket j ≡ Some p → p < size
    front_there j p low at =
        let a = f.ahead j (up j low) in
        let stamp : get_or stamps p 0 ≡ suc bucket = sym (ap (λ q. get_or stamps q 0) (same_some a.0 p (sym a.1 ∙ at))) ∙ a.2 ∙ omega arith in
        stamp_there stamps p bucket f.long stamp

    pub end_whole : IsWhole next size bucket
    end_whole = whole_back next size bucket last page comes front_there end 0 bucket (omega arith) refl

    pub end_stamped : IsStamped next size (bucket + 1) stamps
    end_stamped = record {
      long = f.long;
      low = f.low;
      whole = λ p some. elim (cases_eq (get_or stamps p 0) (bucket + 1)) [
        | inl own ↦ let s = f.stamped p own in whole_back next size bucket last page comes front_there end s.0 p (near s.0 s.1) s.2
        | inr other ↦ f.whole p some other
      ];
    }

  -- A walk has come to this page, which doesn't have its stamp.
  pub record Walks (page : ℕ) (stamps : List ℕ) : Type 0 where
    pub index : ℕ
    pub front : IsFront index stamps
    pub comes : page_at next bucket index ≡ Some page
    pub there : page < size
    pub other : get_or stamps page 0 ≢ bucket + 1

  pub walk_begins : (stamps : List ℕ) → IsStamped next size bucket stamps → bucket < length stamps → Walks bucket stamps
  walk_begins stamps s low = record {
    index = 0;
    front = front_begins stamps s;
    comes = refl;
    there = omega (arith, low, s.long);
    other = λ own. absurd (omega (arith, own, s.low bucket));
  }

  -- the page has none: it gets the stamp
  pub walk_stamps : (page : ℕ) (stamps : List ℕ) (w : Walks page stamps) → get_or stamps page 0 ≡ 0 → IsFront (suc w.index) (set stamps page (bucket + 1))
  walk_stamps page stamps w free = front_more w.index page stamps w.front w.comes w.there free

  pub walk_goes_on : (page target : ℕ) (stamps : List ℕ) → Walks page stamps → get_or stamps page 0 ≡ 0 → next page ≡ Some target → ((length (set stamps page (bucket + 1)) ≤ target) ⊎ (get_or (set stamps page (bucket + 1)) target 0 ≡ bucket + 1) → ⊥) → Walks target (set stamps page (bucket + 1))
  walk_goes_on page target stamps w free named right =
      let f = walk_stamps page stamps w free in
      record {
        index = suc w.index;
        front = f;
        comes = at_next next bucket w.index page (Some target) w.comes named;
        there = elim (cases_lt target size) [ inl low ↦ low | inr past ↦ absurd (right (inl (omega (arith, past, f.long)))) ];
        other = λ own. right (inr own);
      }

  pub walk_astray : (page target : ℕ) (stamps : List ℕ) → Walks page stamps → get_or stamps page 0 ≡ 0 → next page ≡ Some target → (length (set stamps page (bucket + 1)) ≤ target) ⊎ (get_or (set stamps page (bucket + 1)) target 0 ≡ bucket + 1) → GoesAstray next size bucket page
  walk_astray page target stamps w free named wrong = front_astray w.index page target (set stamps page (bucket + 1)) (walk_stamps page stamps w free) w.comes named wrong

  -- the walk is at its end: the page is the chain's last, or an earlier chain goes on from it
  pub walk_ends : (page : ℕ) (stamps : List ℕ) → Walks page stamps → get_or stamps page 0 ≡ 0 → next page ≡ None → IsStamped next size (bucket + 1) (set stamps page (bucket + 1)) × IsWhole next size bucket
  walk_ends page stamps w free none =
      let f = walk_stamps page stamps w free in
      let end = whole_last next size page w.there none in (
        end_stamped (suc w.index) w.index page (set stamps page (bucket + 1)) f (λ j low. omega (arith, low)) (λ j low. omega (arith, low)) w.comes end,
        end_whole (suc w.index) w.index page (set stamps page (bucket + 1)) f (λ j low. omega (arith, low)) (λ j low. omega (arith, low)) w.comes end,
      )

  pub walk_joins : (page : ℕ) (stamps : List ℕ) → Walks page stamps → get_or stamps page 0 ≢ 0 → IsStamped next size (bucket + 1) stamps × IsWhole next size bucket
  walk_joins page stamps w some =
      let end = w.front.whole page some w.other in (
        end_stamped w.index w.index page stamps w.front (λ j low. omega (arith, low)) (λ j low. low) w.comes end,
        end_whole w.index w.index page stamps w.front (λ j low. omega (arith, low)) (λ j low. low) w.comes end,
      )

-- how many pages have no stamp
abbrev pub unstamped : List ℕ → ℕ
unstamped stamps = sum_by (λ (s : ℕ). if s == 0 then 1 else 0) stamps

pub fewer_unstamped : (stamps : List ℕ) (page stamp : ℕ) → stamp ≢ 0 → page < length stamps → get_or stamps page 0 ≡ 0 → unstamped (set stamps page stamp) < unstamped stamps
fewer_unstamped stamps page stamp some low free =
    let moved = sum_by-set (λ (s : ℕ). if s == 0 then 1 else 0) stamps page stamp 0 low in
    let one : ◌≡◌ {A = ℕ} (if get_or stamps page 0 == 0 then 1 else 0) 1 = ap (λ (s : ℕ). if s == 0 then 1 else 0) free in
    let none : ◌≡◌ {A = ℕ} (if stamp == 0 then 1 else 0) 0 = elim (eqb_tells stamp 0) [ inl same ↦ absurd (some same.1) | inr other ↦ ap (λ (b : Bool). if b then 1 else 0) other.0 ] in
    omega (arith, moved, one, none)

pub target_there : (stamps : List ℕ) (target stamp : ℕ) → ((length stamps ≤ target) ⊎ (get_or stamps target 0 ≡ stamp) → ⊥) → target < length stamps
target_there stamps target stamp right = elim (cases_lt target (length stamps)) [ inl low ↦ low | inr past ↦ absurd (right (inl past)) ]

-- Over an overlay: where the buckets ahead were walked, this one is walked up to a page.
abbrev pub WalksOn : Option DiskImage → Overlay → ℕ → ℕ → ℕ → List ℕ → List ℕ → Type 0
WalksOn told overlay table bucket page first stamps =
    ForImage told overlay (λ m image. AreStamped image table bucket first → Walks (next_in image table) (size_in image table) bucket page stamps)

pub walks_begin : (told : Option DiskImage) (overlay : Overlay) (table bucket : ℕ) (stamps : List ℕ) → bucket < length stamps → WalksOn told overlay table bucket bucket stamps stamps
walks_begin None overlay table bucket stamps low = tt
walks_begin (Some m) overlay table bucket stamps low = λ quiet image shows stamped. walk_begins (next_in image table) (size_in image table) bucket stamps stamped low

-- What is seen behind the page of a walk, which had no stamp.
module _ (told now : Option DiskImage) (overlay : Overlay) (table bucket page : ℕ) (first stamps : List ℕ) (o : Option ℕ) (same : now ≡ told) (free : get_or stamps page 0 ≡ 0)
    (sees : ForImage now overlay (λ m image. o ≡ next_in image table page)) (walks : WalksOn told overlay table bucket page first stamps) where
  new : List ℕ
  new = set stamps page (bucket + 1)

  seen : ForImage told overlay (λ m image. o ≡ next_in image table page)
  seen = subst (λ t. ForImage t overlay (λ m image. o ≡ next_in image table page)) same sees

  pub walks_go_on : (target : ℕ) → o ≡ Some target → ((length (set stamps page (bucket + 1)) ≤ target) ⊎ (get_or (set stamps page (bucket + 1)) target 0 ≡ bucket + 1) → ⊥) → WalksOn told overlay table bucket target first (set stamps page (bucket + 1))
  walks_go_on target is right =
      both_for told overlay (λ m image. o ≡ next_in image table page) (λ m image. AreStamped image table bucket first → Walks (next_in image table) (size_in image table) bucket page stamps)
      (λ m image. AreStamped image table bucket first → Walks (next_in image table) (size_in image table) bucket target (set stamps page (bucket + 1)))
      (λ m image behind w stamped. walk_goes_on (next_in image table) (size_in image table) bucket page target stamps (w stamped) free (sym behind ∙ is) right) seen walks

  pub walks_astray : (target : ℕ) → o ≡ Some target → (length (set stamps page (bucket + 1)) ≤ target) ⊎ (get_or (set stamps page (bucket + 1)) target 0 ≡ bucket + 1)
      → ForImage told overlay (λ m image. AreStamped image table bucket first → IsBrokenChain image table bucket page)
  walks_astray target is wrong =
      both_for told overlay (λ m image. o ≡ next_in image table page) (λ m image. AreStamped image table bucket first → Walks (next_in image table) (size_in image table) bucket page stamps)
      (λ m image. AreStamped image table bucket first → IsBrokenChain image table bucket page)
      (λ m image behind w stamped. astray page (walk_astray (next_in image table) (size_in image table) bucket page target stamps (w stamped) free (sym behind ∙ is) wrong)) seen walks

  pub walks_end : o ≡ None → ForImage told overlay (λ m image. AreStamped image table bucket first → AreStamped image table (bucket + 1) (set stamps page (bucket + 1)) × IsWholeChain image table bucket)
  walks_end none =
      both_for told overlay (λ m image. o ≡ next_in image table page) (λ m image. AreStamped image table bucket first → Walks (next_in image table) (size_in image table) bucket page stamps)
      (λ m image. AreStamped image table bucket first → AreStamped image table (bucket + 1) (set stamps page (bucket + 1)) × IsWholeChain image table bucket)
      (λ m image behind w stamped. walk_ends (next_in image table) (size_in image table) bucket page stamps (w stamped) free (sym behind ∙ none)) seen walks

pub walks_join : (told : Option DiskImage) (overlay : Overlay) (table bucket page : ℕ) (first stamps : List ℕ) → get_or stamps page 0 ≢ 0 → WalksOn told overlay table bucket page first stamps
    → ForImage told overlay (λ m image. AreStamped image table bucket first → AreStamped image table (bucket + 1) stamps × IsWholeChain image table bucket)
walks_join told overlay table bucket page first stamps some walks =
    weaker_for told overlay (λ m image. AreStamped image table bucket first → Walks (next_in image table) (size_in image table) bucket page stamps)
    (λ m image. AreStamped image table bucket first → AreStamped image table (bucket + 1) stamps × IsWholeChain image table bucket)
    (λ m image w stamped. walk_joins (next_in image table) (size_in image table) bucket page stamps (w stamped) some) walks

-- both parts of what a walk to its end gives
module _ (told : Option DiskImage) (overlay : Overlay) (table bucket : ℕ) (first stamps : List ℕ) (both : ForImage told overlay (λ m image. AreStamped image table bucket first → AreStamped image table (bucket + 1) stamps × IsWholeChain image table bucket)) where
  pub then_stamped : ForImage told overlay (λ m image. AreStamped image table bucket first → AreStamped image table (bucket + 1) stamps)
  then_stamped = weaker_for told overlay (λ m image. AreStamped image table bucket first → AreStamped image table (bucket + 1) stamps × IsWholeChain image table bucket) (λ m image. AreStamped image table bucket first → AreStamped image table (bucket + 1) stamps) (λ m image f stamped. (f stamped).0) both

  pub then_whole : ForImage told overlay (λ m image. AreStamped image table bucket first → IsWholeChain image table bucket)
  then_whole = weaker_for told overlay (λ m image. AreStamped image table bucket first → AreStamped image table (bucket + 1) stamps × IsWholeChain image table bucket) (λ m image. AreStamped image table bucket first → IsWholeChain image table bucket) (λ m image f stamped. (f stamped).1) both

-- Why a chain isn't whole.

abbrev pub BreaksOn : Option DiskImage → Overlay → ℕ → ℕ → List ℕ → RecoverRefusal → Type 0
BreaksOn told overlay table bucket first e = ForImage told overlay (λ m image. AreStamped image table bucket first → IsChainOr (BreaksAt table bucket image) m e)

pub breaks : (told : Option DiskImage) (overlay : Overlay) (table bucket page : ℕ) (first : List ℕ) (e : RecoverRefusal) → e ≡ Damaged table page why.Chain → ForImage told overlay (λ m image. AreStamped image table bucket first → IsBrokenChain image table bucket page) → BreaksOn told overlay table bucket first e
breaks told overlay table bucket page first e is broken =
    subst (BreaksOn told overlay table bucket first) (sym is)
    (weaker_for told overlay (λ m image. AreStamped image table bucket first → IsBrokenChain image table bucket page) (λ m image. AreStamped image table bucket first → IsChainOr (BreaksAt table bucket image) m (Damaged table page why.Chain)) (λ m image b stamped. (refl, b stamped)) broken)

pub breaks_nowhere : (told : Option DiskImage) (overlay : Overlay) (table bucket : ℕ) (first : List ℕ) (e : RecoverRefusal) → e ≡ Damaged table bucket why.Chain → length first ≤ bucket → BreaksOn told overlay table bucket first e
breaks_nowhere told overlay table bucket first e is past = breaks told overlay table bucket bucket first e is (all told)
  where
    all : (t : Option DiskImage) → ForImage t overlay (λ m image. AreStamped image table bucket first → IsBrokenChain image table bucket bucket)
    all None = tt
    all (Some m) = λ quiet image shows stamped. no_bucket (omega (arith, past, stamped.long))

pub breaks_header : (told now : Option DiskImage) (overlay : Overlay) (table bucket : ℕ) (first : List ℕ) (e : RecoverRefusal) → now ≡ told → HeaderOn now overlay e → BreaksOn told overlay table bucket first e
breaks_header told now overlay table bucket first e same header =
    weaker_for told overlay (λ m image. IsHeader m e) (λ m image. AreStamped image table bucket first → IsChainOr (BreaksAt table bucket image) m e) (λ m image h stamped. header_chain (BreaksAt table bucket image) e m h) (subst (λ t. HeaderOn t overlay e) same header)
