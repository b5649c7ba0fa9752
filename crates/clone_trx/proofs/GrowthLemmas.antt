-- The space of a table gets one page more, behind the last page of a chain, and the contents stay
-- sound.
use Rattle.std.proofs.lemmas.Bool.{cases_lt}
use Rattle.std.specs.List.{AllByRecursion}
use Rattle.std.specs.FinMap as finite
use Rattle.std.specs.List.{IsDistinct}
use Rattle.clone_trx.proofs.Common.{◌≡◌, ◌≢◌, ◌<◌, ◌+◌, ◌%◌, ◌==◌, ◌++◌, ◌⊎◌, ℕ, false, List, [], ◌∷◌, length, refl, sym, ap, subst, ◌∙◌, inl, inr, Option, Some, None, arith, is_some, mod-lt, get_or_past, TableEntry, entry_in, free, IsChain, named, MayGrow, grown, cases_eq, same_Some, none-some, bound_key, unused, Contents, HasPage, set_at, set_at-same, set_at-other, Donor, HoldsTables, HoldsChains, HoldsRows, HasChain, OnChain, IsNowhere, IsRowSlot, IsSound, HasSize, begins, goes_on}
use Rattle.clone_trx.proofs.CauseLemmas.{not_equal}
use Rattle.clone_trx.proofs.ChainLemmas.{same_chain, on_there}
use Rattle.clone_trx.proofs.DictionaryLemmas.{entry-written, entry-other}

-- what holds of each of some pages, and of one more, holds of all of them
all_push : (P : ℕ → Type 0) (pages : List ℕ) (page : ℕ) → AllByRecursion P pages → P page → AllByRecursion P (pages ++ page ∷ [])
all_push P [] page all one = (one, tt)
all_push P (p ∷ pages) page all one = (all.0, all_push P pages page all.1 one)

all_still : (P Q : ℕ → Type 0) (pages : List ℕ) → ((page : ℕ) → P page → Q page) → AllByRecursion P pages → AllByRecursion Q pages
all_still P Q [] still all = tt
all_still P Q (p ∷ pages) still all = (still p all.0, all_still P Q pages still all.1)

-- a page above all others is none of them
distinct_push : (pages : List ℕ) (page : ℕ) → AllByRecursion (λ (p : ℕ). p < page) pages → IsDistinct (λ (p q : ℕ). p == q) pages → IsDistinct (λ (p q : ℕ). p == q) (pages ++ page ∷ [])
unfolding IsDistinct
distinct_push [] page low apart = (tt, tt)
distinct_push (p ∷ pages) page low apart = (all_push (λ (q : ℕ). (p == q) ≡ false) pages page apart.0 (not_equal p page (λ same. omega (arith, same, low.0))), distinct_push pages page low.1 apart.1)

-- A chain whose last page gets one behind it.
module _ (next : ℕ → Option ℕ) (last one : ℕ) (end : next last ≡ None) (none : next one ≡ None) (apart : one ≢ last) where
  abbrev now : ℕ → Option ℕ
  now = set_at last (Some one) next

  -- a page that has one behind it isn't the last
  not_last : (page behind : ℕ) → next page ≡ Some behind → page ≢ last
  not_last page behind is same = none-some behind (sym end ∙ ap next (sym same) ∙ is)

  still_behind : (page behind : ℕ) → next page ≡ Some behind → now page ≡ Some behind
  still_behind page behind is = set_at-other last page (Some one) next (not_last page behind is) ∙ is

  -- a chain that ends there gets the new page, and any other stays
  record Longer (first : ℕ) (rest : List ℕ) : Type 0 where
    pub behind : List ℕ
    pub chain : IsChain now first behind
    pub is : (behind ≡ rest) ⊎ (behind ≡ rest ++ one ∷ [])

  longer : (first : ℕ) (rest : List ℕ) → IsChain next first rest → Longer first rest
  longer first [] is = by (cases_eq first last)
    where
      by : (first ≡ last) ⊎ (first ≢ last) → Longer first []
      by (inl same) = record { behind = one ∷ []; chain = (set_at-same last first (Some one) next same, set_at-other last one (Some one) next apart ∙ none); is = inr refl }
      by (inr other) = record { behind = []; chain = set_at-other last first (Some one) next other ∙ is; is = inl refl }
  longer first (q ∷ rest) is =
      let more = longer q rest is.1 in
      record {
        behind = q ∷ more.behind;
        chain = (still_behind first q is.0, more.chain);
        is = elim more.is [
          | inl same ↦ inl (ap (λ (ps : List ℕ). q ∷ ps) same)
          | inr pushed ↦ inr (ap (λ (ps : List ℕ). q ∷ ps) pushed)
        ];
      }

  -- each page of a chain stays on it
  on_still : (first page : ℕ) → OnChain next first page → OnChain now first page
  on_still first page begins = begins
  on_still first page (goes_on before behind on is) = goes_on before behind (on_still first before on) (still_behind before behind is)

-- the page that the new one comes behind: the last one of a chain of the table
pub record IsLastOf (d : Donor) (c : Contents) (table last key : ℕ) : Type 0 where
  pub count : ℕ
  pub there : finite.get d.tables table ≡ Some count
  pub chain : OnChain (c.next table) (key % count) last
  pub end : c.next table last ≡ None

module _ (d : Donor) (c : Contents) (entry_number table pages last key : ℕ) (sound : IsSound d c) (may : MayGrow c entry_number table pages last) (l : IsLastOf d c table last key) where
  abbrev new : Contents
  new = grown entry_number table pages last c

  abbrev entry : TableEntry
  entry = record (entry_in c.dictionary entry_number) { pages = pages + 1 }

  within : entry_number < length c.dictionary
  within =
      elim (cases_lt entry_number (length c.dictionary)) [
        | inl low ↦ low
        | inr high ↦ absurd (may.used (sym may.named ∙ ap (λ (e : TableEntry). e.table) (get_or_past c.dictionary entry_number free high)))
      ]

  names : (j : ℕ) → named new j ≡ named c j
  names j =
      elim (cases_eq j entry_number) [
        | inl at ↦ ap (λ (e : TableEntry). e.table) (entry-written c.dictionary entry_number j entry within at) ∙ ap (named c) (sym at)
        | inr off ↦ ap (λ (e : TableEntry). e.table) (entry-other c.dictionary entry_number j entry off)
      ]

  sized : (t : ℕ) → t ≡ table → new.size t ≡ Some (pages + 1)
  sized t same = set_at-same table t (Some (pages + 1)) c.size same

  kept_size : (t : ℕ) → t ≢ table → new.size t ≡ c.size t
  kept_size t apart = set_at-other table t (Some (pages + 1)) c.size apart

  abbrev links : ℕ → Option ℕ
  links = set_at last (Some pages) (c.next table)

  linked : (t : ℕ) → t ≡ table → new.next t ≡ links
  linked t same = set_at-same table t links c.next same

  kept_next : (t : ℕ) → t ≢ table → new.next t ≡ c.next t
  kept_next t apart = set_at-other table t links c.next apart

  -- the pages that were there are below the new one
  low : (page : ℕ) → HasPage c table page → page < pages
  low page has = omega (arith, has.2, same_Some has.0 pages (sym has.1 ∙ may.size))

  has : (page : ℕ) → HasPage c table page → HasPage new table page
  has page had = (pages + 1, sized table refl, omega (arith, low page had))

  -- the new page is another
  pub new_apart : pages ≢ last
  new_apart same = omega (arith, same, low last may.there)

  not_there : ¬ HasPage c table pages
  not_there had = omega (arith, low pages had)

  nothing_behind : c.next table pages ≡ None
  nothing_behind = sound.chains.none table pages not_there

  size_now : (t count : ℕ) → HasSize c t count → (t ≡ table) ⊎ (t ≢ table) → HasSize new t count
  size_now t count had (inl same) = record { pages = pages + 1; size = sized t same; enough = omega (arith, had.enough, same_Some had.pages pages (sym had.size ∙ ap c.size same ∙ may.size)); most = omega (arith, may.room) }
  size_now t count had (inr other) = record { pages = had.pages; size = kept_size t other ∙ had.size; enough = had.enough; most = had.most }

  -- the entry of a table tells its buckets and its pages
  told : (t count many j : ℕ) → finite.get d.tables t ≡ Some count → new.size t ≡ Some many → named c j ≡ t → (t ≡ table) ⊎ (t ≢ table) → entry_in new.dictionary j ≡ record { table = t; buckets = count; pages = many }
  told t count many j is size_is name (inl same) =
      let at : j ≡ entry_number = sound.tables.once j entry_number (λ zero. may.used (sym same ∙ sym name ∙ zero)) (name ∙ same ∙ sym may.named) in
      let was = sound.tables.told t count pages entry_number is (ap c.size same ∙ may.size) (may.named ∙ sym same) in
      let more : pages + 1 ≡ many = same_Some (pages + 1) many (sym (sized t same) ∙ size_is) in
      entry-written c.dictionary entry_number j entry within at ∙ (λ i. record (was i) { pages = more i })
  told t count many j is size_is name (inr other) =
      entry-other c.dictionary entry_number j entry (λ at. other (sym name ∙ ap (named c) at ∙ may.named)) ∙ sound.tables.told t count many j is (sym (kept_size t other) ∙ size_is) name

  tables : HoldsTables d new
  tables = record {
    sizes = λ t count is. let had = sound.tables.sizes t count is in (size_now t count had.0 (cases_eq t table), had.1, had.2, had.3, had.4);
    spaces = λ t first none. kept_size t (λ same. none-some l.count (sym none ∙ ap (finite.get d.tables) same ∙ l.there)) ∙ sound.tables.spaces t first none;
    listed = λ t there. let had = sound.tables.listed t there in (had.0, names had.0 ∙ had.1);
    told = λ t count many j is size_is name. told t count many j is size_is (sym (names j) ∙ name) (cases_eq t table);
    tables = λ j used. ap (λ t. is_some (finite.get d.tables t)) (names j) ∙ sound.tables.tables j (λ zero. used (names j ∙ zero));
    once = λ i j used alike. sound.tables.once i j (λ zero. used (names i ∙ zero)) (sym (names i) ∙ alike ∙ names j);
    few = sound.tables.few;
  }

  -- a chain of the table gets the new page, or stays
  chain_here : (first : ℕ) → HasChain c table first → HasChain new table first
  chain_here first had = let more = longer (c.next table) last pages l.end nothing_behind new_apart first had.behind had.chain in by more.behind more.chain more.is
    where
      there : AllByRecursion (HasPage new table) (first ∷ had.behind)
      there = all_still (HasPage c table) (HasPage new table) (first ∷ had.behind) has had.there

      below : AllByRecursion (λ (page : ℕ). page < pages) (first ∷ had.behind)
      below = all_still (HasPage c table) (λ (page : ℕ). page < pages) (first ∷ had.behind) low had.there

      chained : (behind : List ℕ) → IsChain links first behind → IsChain (new.next table) first behind
      chained behind is = subst (λ (f : ℕ → Option ℕ). IsChain f first behind) (sym (linked table refl)) is

      by : (behind : List ℕ) → IsChain links first behind → (behind ≡ had.behind) ⊎ (behind ≡ had.behind ++ pages ∷ []) → HasChain new table first
      by behind chain (inl same) = record { behind = had.behind; chain = chained had.behind (subst (IsChain links first) same chain); there = there; once = had.once }
      by behind chain (inr pushed) = record {
        behind = had.behind ++ pages ∷ [];
        chain = chained (had.behind ++ pages ∷ []) (subst (IsChain links first) pushed chain);
        there = all_push (HasPage new table) (first ∷ had.behind) pages there (pages + 1, sized table refl, omega arith);
        once = distinct_push (first ∷ had.behind) pages below had.once;
      }

  chain_now : (t first : ℕ) → HasChain c t first → (t ≡ table) ⊎ (t ≢ table) → HasChain new t first
  chain_now t first had (inl same) = subst (λ (m : ℕ). HasChain new m first) (sym same) (chain_here first (subst (λ (m : ℕ). HasChain c m first) same had))
  chain_now t first had (inr other) = same_chain c new t first (kept_size t other) (kept_next t other) had

  -- no page is behind one that isn't there
  none_now : (t page : ℕ) → ¬ HasPage new t page → (t ≡ table) ⊎ (t ≢ table) → new.next t page ≡ None
  none_now t page gone (inl same) =
      let gone_here : ¬ HasPage new table page = λ had. gone (subst (λ (m : ℕ). HasPage new m page) (sym same) had) in
      ap (λ (f : ℕ → Option ℕ). f page) (linked t same)
      ∙ set_at-other last page (Some pages) (c.next table) (λ is. gone_here (has page (subst (HasPage c table) (sym is) may.there)))
      ∙ sound.chains.none table page (λ had. gone_here (has page had))
  none_now t page gone (inr other) = ap (λ (f : ℕ → Option ℕ). f page) (kept_next t other) ∙ sound.chains.none t page (λ had. gone (had.0, kept_size t other ∙ had.1, had.2))

  chains : HoldsChains d new
  chains = record {
    buckets = λ t count bucket is below. chain_now t bucket (sound.chains.buckets t count bucket is below) (cases_eq t table);
    none = λ t page gone. none_now t page gone (cases_eq t table);
  }

  on_here : (first page : ℕ) → OnChain (c.next table) first page → OnChain (new.next table) first page
  on_here first page on = subst (λ (f : ℕ → Option ℕ). OnChain f first page) (sym (linked table refl)) (on_still (c.next table) last pages l.end nothing_behind new_apart first page on)

  on_now : (t first page : ℕ) → OnChain (c.next t) first page → (t ≡ table) ⊎ (t ≢ table) → OnChain (new.next t) first page
  on_now t first page on (inl same) = subst (λ (m : ℕ). OnChain (new.next m) first page) (sym same) (on_here first page (subst (λ (m : ℕ). OnChain (c.next m) first page) same on))
  on_now t first page on (inr other) = subst (λ (f : ℕ → Option ℕ). OnChain f first page) (sym (kept_next t other)) on

  rows : HoldsRows d new.next new.slot
  rows = record {
    shown = sound.rows.shown;
    clean = sound.rows.clean;
    own = λ t page j k bound. let had = sound.rows.own t page j k bound in (had.0, had.1, on_now t (k % had.0) page had.2 (cases_eq t table));
    once = sound.rows.once;
    found = sound.rows.found;
  }

  pub grown_sound : IsSound d new
  grown_sound = record { locked = sound.locked; tables = tables; chains = chains; rows = rows; undo = sound.undo; position = sound.position }

  -- no slot of the new page was ever used
  pub new_unused : (j : ℕ) → c.slot table pages j ≡ unused
  new_unused j = by (bound_key (c.slot table pages j)) refl
    where
      by : (o : Option ℕ) → bound_key (c.slot table pages j) ≡ o → c.slot table pages j ≡ unused
      by None none = sound.rows.clean table pages j none
      by (Some k) bound =
          let own = sound.rows.own table pages j k bound in
          let sizes = sound.tables.sizes table own.0 own.1 in
          absurd (not_there (on_there sound.chains table own.0 (k % own.0) pages own.1 (mod-lt k (omega (arith, sizes.3))) own.2))

  -- a key that is bound nowhere may go to any of them
  pub new_slot : (j : ℕ) → IsNowhere c.slot table key → IsRowSlot d new table pages j key
  new_slot j nowhere = record {
    count = l.count;
    there = l.there;
    chain = goes_on last pages (on_here (key % l.count) last l.chain) (ap (λ (f : ℕ → Option ℕ). f last) (linked table refl) ∙ set_at-same last last (Some pages) (c.next table) refl);
    may = inr (new_unused j, nowhere);
  }
