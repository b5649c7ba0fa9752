-- A copy of an image that keeps a donor has the image's chains, and none of them is broken.
use Rattle.std.proofs.Common.{◌≡◌, ◌≢◌, ◌<◌, ℕ, List, [], ◌∷◌, length, refl, sym, ap, subst, ◌∙◌, Option, Some, None, IsSome}
use Rattle.std.specs.Prelude.{unwrap_or, slice_get, option_map, option_and_then}
use Rattle.std.specs.FinMap as finite
use Rattle.std.specs.List.{AllByRecursion}
use Rattle.std.proofs.lemmas.Option.{none-some, slice_get_within}
use Rattle.clone_row.specs.Chains.{behind, IsChain}
use Rattle.clone_space.specs.declared.entry.TableEntry.{TableEntry}
use Rattle.clone_space.specs.Entries.{dictionary, entry_in}
use Rattle.clone_image.specs.Image.{Image, page_of}
use Rattle.clone_image.specs.Recovered.{recovered}
use Rattle.clone_image.proofs.Pages.{all_pages-is}
use Rattle.clone_contents.specs.Contents.{Contents, contents_of, HasPage}
use Rattle.clone_contents.proofs.ChangeLemmas.{page_there}
use Rattle.clone_contents.proofs.NextPages.{next_is}
use Rattle.clone_law.specs.Alike.{LaxPage, Alike}
use Rattle.clone_law.proofs.AlikeLemmas.{recovered_alike}
use Rattle.clone_plain.specs.Donor.{Donor}
use Rattle.clone_recover.specs.Chains.{size_in, next_in, IsWholeChain, TellsBucket, IsFirstBrokenChain}
use Rattle.clone_recover.proofs.ChainLemmas.{whole_unbroken}
use Rattle.clone_trx.specs.Sound.{HasSize, HoldsTables, HasChain, HoldsChains, IsKept}
use Rattle.clone_trx.proofs.ChainLemmas.{same_chains}
use Rattle.clone_trx.proofs.RecoveredRowLemmas.{can_take_back, recovered_spaces}
use Rattle.clone_trx.proofs.SoundChangeLemmas.{same_tables}

-- a page that is there is within its space
within_size : (image : Image) (space number : ℕ) (page : List ℕ) → page_of image space number ≡ Some page → number < size_in image space
within_size image space number page = at (finite.get image space)
  where
    at : (o : Option (List (List ℕ))) → option_and_then (λ pages. slice_get pages number) o ≡ Some page → number < unwrap_or (option_map length o) 0
    at None is = absurd (none-some page is)
    at (Some pages) is = slice_get_within pages number page is

some_value : (o : Option ℕ) → IsSome o → (n : ℕ) × (o ≡ Some n)
some_value None some = cc
some_value (Some n) some = (n, refl)

-- a chain over another image that has the same page behind each of its pages
chain_over : (old next : ℕ → Option ℕ) (first : ℕ) (rest : List ℕ) → AllByRecursion (λ page. next page ≡ old page) (first ∷ rest) → IsChain old first rest → IsChain next first rest
chain_over old next first [] same end = same.0 ∙ end
chain_over old next first (one ∷ rest) same chain = (same.0 ∙ chain.0, chain_over old next one rest same.1 chain.1)

module _ (d : Donor) (copy image : Image) (tables : HoldsTables d (contents_of image)) (chains : HoldsChains d (contents_of image)) (alike : Alike copy image) where
  abbrev c : Contents
  c = contents_of image

  -- a page of the image's that is there stands in the copy as well
  same_page : (table number : ℕ) → HasPage c table number → (page : List ℕ) × (page_of image table number ≡ Some page) × (page_of copy table number ≡ Some page)
  same_page table number has =
      let found = page_there image table number has in
      (found.0, found.1, subst (λ (o : Option (List ℕ)). LaxPage (page_of copy table number) o) found.1 (alike.pages table number))

  within_copy : (table number : ℕ) → HasPage c table number → number < size_in copy table
  within_copy table number has = let same = same_page table number has in within_size copy table number same.0 same.2

  same_next : (table number : ℕ) → table ≢ 0 → HasPage c table number → next_in copy table number ≡ c.next table number
  same_next table number used has =
      let same = same_page table number has in
      ap behind (all_pages-is copy table number same.0 same.2 ∙ sym (all_pages-is image table number same.0 same.1)) ∙ sym (next_is image table number used)

  each_page : (P : ℕ → Type 0) (table : ℕ) → ((number : ℕ) → HasPage c table number → P number) → (pages : List ℕ) → AllByRecursion (HasPage c table) pages → AllByRecursion P pages
  each_page P table gives [] all = tt
  each_page P table gives (page ∷ pages) all = (gives page all.0, each_page P table gives pages all.1)

  whole_over : (table bucket : ℕ) → table ≢ 0 → HasChain c table bucket → IsWholeChain copy table bucket
  whole_over table bucket used chain = record {
    rest = chain.behind;
    chain = chain_over (c.next table) (next_in copy table) bucket chain.behind (each_page (λ page. next_in copy table page ≡ c.next table page) table (λ page has. same_next table page used has) (bucket ∷ chain.behind) chain.there) chain.chain;
    there = each_page (λ page. page < size_in copy table) table (within_copy table) (bucket ∷ chain.behind) chain.there;
  }

  -- each chain of a table that the copy's dictionary tells of
  told_whole : (system : List ℕ) (table bucket : ℕ) → page_of copy 0 0 ≡ Some system → TellsBucket system table bucket → IsWholeChain copy table bucket
  told_whole system table bucket there tells = whole_over table bucket tells.used (chains.buckets table count.0 bucket count.1 counted)
    where
      same : dictionary system ≡ c.dictionary
      same = ap dictionary (sym (all_pages-is image 0 0 system (sym (alike.system 0) ∙ there)))

      entry : TableEntry
      entry = entry_in c.dictionary tells.entry_number

      named : entry.table ≡ table
      named = ap (λ (list : List TableEntry). (entry_in list tells.entry_number).table) (sym same) ∙ tells.named

      count : (n : ℕ) × (finite.get d.tables table ≡ Some n)
      count = some_value (finite.get d.tables table) (subst (λ (t : ℕ). IsSome (finite.get d.tables t)) named (tables.tables tells.entry_number (λ free. tells.used (sym named ∙ free))))

      sized : HasSize c table count.0
      sized = (tables.sizes table count.0 count.1).0

      told : entry ≡ record { table = table; buckets = count.0; pages = sized.pages }
      told = tables.told table count.0 sized.pages tells.entry_number count.1 sized.size named

      counted : bucket < count.0
      counted = subst (λ (e : TableEntry). bucket < e.buckets) (ap (λ (list : List TableEntry). entry_in list tells.entry_number) same ∙ told) tells.counted

  none_first : (table page : ℕ) → IsFirstBrokenChain copy table page → ⊥
  none_first table page is =
      let first = is.first in
      whole_unbroken copy table first.bucket page (told_whole is.system table first.bucket is.there first.tells) first.broken

-- nor is one broken when both are recovered
pub none_astray : (d : Donor) (copy image : Image) → IsKept d image → Alike copy image → (table page : ℕ) → IsFirstBrokenChain (recovered copy) table page → ⊥
none_astray d copy image kept alike =
    let sound = kept.sound in
    let same = (recovered_spaces d image kept.formed sound).1 in
    none_first d (recovered copy) (recovered image)
    (same_tables d d (contents_of image) (contents_of (recovered image)) refl same.dictionary same.size sound.tables)
    (same_chains d d (contents_of image) (contents_of (recovered image)) refl same.size same.next sound.chains)
    (recovered_alike copy image (can_take_back d image kept.formed sound) alike)
