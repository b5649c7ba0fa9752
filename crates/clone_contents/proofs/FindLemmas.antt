-- What is found on a page of a table is what the contents have there.
use Rattle.std.proofs.Common.{◌≡◌, ◌≢◌, ℕ, List, sym, ap, ◌∙◌, inl, inr, Option, Some, None}
use Rattle.clone_contents.proofs.Common.{cases_lt, behind, slots, slot_in, bound_key, Finds, FindsFree, slot_in-past, Image, page_of, all_pages-is, contents_of}
use Rattle.clone_contents.specs.Finding.{FindsIn, FindsFreeIn}
use Rattle.clone_contents.proofs.RowSlots.{slot_is}
use Rattle.clone_contents.proofs.NextPages.{next_is}

module _ (image : Image) (t p : ℕ) (page : List ℕ) (in_table : t ≢ 0) (there : page_of image t p ≡ Some page) where
  pub slot_on : (j : ℕ) → (contents_of image).slot t p j ≡ slot_in (slots page) j
  slot_on j = slot_is image t p j in_table ∙ ap (λ q. slot_in (slots q) j) (all_pages-is image t p page there)

  pub next_on : (contents_of image).next t p ≡ behind page
  next_on = next_is image t p in_table ∙ ap behind (all_pages-is image t p page there)

  pub key_found : (key : ℕ) (found : Option ℕ) → Finds key (slots page) found → FindsIn (contents_of image) t p key found
  key_found key (Some j) is = (is.0, ap bound_key (slot_on j) ∙ is.1, λ k before bound. is.2 k before (ap bound_key (sym (slot_on k)) ∙ bound))
  key_found key None is = λ k bound.
      elim (cases_lt k 50) [
        | inl low ↦ is k low (ap bound_key (sym (slot_on k)) ∙ bound)
        | inr high ↦ (let e = sym bound ∙ ap bound_key (slot_on k ∙ slot_in-past k page high) in cc)
      ]

  pub free_found : (found : Option ℕ) → FindsFree (slots page) found → FindsFreeIn (contents_of image) t p found
  free_found (Some j) is = (is.0, slot_on j ∙ is.1, λ k before free. is.2 k before (sym (slot_on k) ∙ free))
  free_found None is = λ k low free. is k low (sym (slot_on k) ∙ free)
