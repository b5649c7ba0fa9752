-- The rows of an image are those of its contents.
use Rattle.std.proofs.Common.{◌≡◌, ◌≢◌, ◌<◌, ℕ, ◌+◌, ◌*◌, List, [], take, refl, sym, ap, subst, ◌∙◌, arith, inl, inr, Option, Some, None, IsSomeAnd, slice_index, unwrap_or}
use Rattle.clone_contents.proofs.Common.{drop-nil, cases_lt, same_Some, Lists, entry_space, slot, Slot, unused, present, absent, damaged, slots, slot_in, slot_of, row_in, bound_key, slot_in-slots, slot_in-past, slot_of-unused, row_in-slot_of, Image, page_of, all_pages, all_pages-is, contents_of, named, IsFormed}
use Rattle.clone_model.specs.History.{Row}
use Rattle.clone_image.specs.Rows.{HoldsRow}
use Rattle.clone_contents.specs.Rows.{IsRowIn}
use Rattle.clone_contents.proofs.ImagePages.{there}
use Rattle.clone_contents.proofs.SystemLemmas.{named_on, entry_within}
use Rattle.clone_contents.proofs.RowSlots.{slot_is}
use Rattle.clone_contents.proofs.TakingBackLemmas.{bound_kind}

-- a slot with this row is present
is_present : (s : Slot) (key : ℕ) (value : List ℕ) → row_in s ≡ Some (key, value) → s ≡ present key value
is_present unused key value is = absurd cc
is_present (absent k) key value is = absurd cc
is_present damaged key value is = absurd cc
is_present (present k v) key value is = (let same : ◌≡◌ {A = ℕ × List ℕ} (k, v) (key, value) = same_Some (k, v) (key, value) is in ap (λ (p : ℕ × List ℕ). present p.0 p.1) same)

module _ (image : Image) (formed : IsFormed image) (row : Row) where
  system : (page : List ℕ) × (page_of image 0 0 ≡ Some page)
  system = there image 0 0 257 formed.size (omega arith)

  entry_is : (j : ℕ) → j < 62 → named (contents_of image) j ≡ entry_space j system.0
  entry_is j low = named_on image j low ∙ ap (entry_space j) (all_pages-is image 0 0 system.0 system.1)

  pub row_contained : HoldsRow (page_of image) row → IsRowIn (contents_of image) row
  row_contained r =
      let lists : Lists system.0 row.0 = subst (λ (o : Option (List ℕ)). IsSomeAnd o (λ page. Lists page row.0)) system.1 r.listed in
      record {
        used = lists.used;
        entry = lists.entry_number;
        named = entry_is lists.entry_number lists.within ∙ lists.named;
        page = r.number;
        slot_number = r.slot_number;
        held =
            slot_is image row.0 r.number r.slot_number (λ z. omega (arith, z, lists.used)) ∙ ap (λ page. slot_in (slots page) r.slot_number) (all_pages-is image row.0 r.number r.page r.found) ∙ slot_in-slots r.slot_number r.page r.within
            ∙ is_present (slot_of (slot r.slot_number r.page)) row.1 row.2 (row_in-slot_of (slot r.slot_number r.page) ∙ r.held);
      }

  pub row_in_image : IsRowIn (contents_of image) row → HoldsRow (page_of image) row
  row_in_image r = at (page_of image row.0 r.page) refl
    where
      behind : row.0 ≢ 0
      behind z = omega (arith, z, r.used)

      held : slot_in (slots (all_pages image row.0 r.page)) r.slot_number ≡ present row.1 row.2
      held = sym (slot_is image row.0 r.page r.slot_number behind) ∙ r.held

      low : r.slot_number < 50
      low = elim (cases_lt r.slot_number 50) [ inl below ↦ below | inr high ↦ absurd (let e = sym held ∙ slot_in-past r.slot_number (all_pages image row.0 r.page) high in cc) ]

      within : r.entry < 62
      within = entry_within image r.entry row.0 r.named behind

      empty : slot_in (slots []) r.slot_number ≡ unused
      empty = slot_in-slots r.slot_number [] low ∙ slot_of-unused (slot r.slot_number []) (ap (λ (xs : List ℕ). slice_index (take 80 xs) 0) (drop-nil (48 + 80 * r.slot_number)))

      at : (o : Option (List ℕ)) → page_of image row.0 r.page ≡ o → HoldsRow (page_of image) row
      at None none = absurd (let gone : all_pages image row.0 r.page ≡ [] = ap (λ (o : Option (List ℕ)). unwrap_or o []) none in let e = sym held ∙ ap (λ page. slot_in (slots page) r.slot_number) gone ∙ empty in cc)
      at (Some page) is =
          let on : slot_in (slots page) r.slot_number ≡ present row.1 row.2 = ap (λ p. slot_in (slots p) r.slot_number) (sym (all_pages-is image row.0 r.page page is)) ∙ held in
          record {
            listed = subst (λ (o : Option (List ℕ)). IsSomeAnd o (λ p. Lists p row.0)) (sym system.1) (record { entry_number = r.entry; within = within; used = r.used; named = sym (entry_is r.entry within) ∙ r.named });
            number = r.page;
            page = page;
            found = is;
            holds = bound_kind image row.0 r.page r.slot_number row.1 page formed behind low is (ap bound_key r.held);
            slot_number = r.slot_number;
            within = low;
            held = sym (row_in-slot_of (slot r.slot_number page)) ∙ ap row_in (sym (slot_in-slots r.slot_number page low) ∙ on);
          }
