-- Pages of zero bytes come to the space of a table: the contents get its size, and nothing else.
use Rattle.std.proofs.Common.{◌≡◌, ◌≢◌, ◌<◌, ◌≤◌, ◌+◌, ◌*◌, ◌⊎◌, ℕ, cond, eqb, List, [], length, take, refl, sym, ap, subst, ◌∙◌, inl, inr, Option, Some, None, unwrap_or, slice_index, nat_lt}
use Rattle.clone_contents.proofs.Common.{drop-nil, cases_lt, get_or-replicate, length-replicate, field, position_at, kind_of, zero_page, slot, dictionary, behind, unused, slots, slot_in, slot_in-slots, slot_in-past, slot_of-unused, slots-zero, Image, page_of, all_pages, page_count, contents_of, IsFormed, IsOrUnused, HasContents}
use Rattle.clone_undo.proofs.Effects as undo
use Rattle.clone_contents.proofs.SameContents.{same_contents}
use Rattle.clone_contents.proofs.NextPages.{next_same, no_next}

-- no slot of a page that is zero, or isn't there, was used
pub no_slot : (j : ℕ) (o : Option (List ℕ)) → ((page : List ℕ) → o ≡ Some page → page ≡ zero_page) → slot_in (slots (unwrap_or o [])) j ≡ unused
no_slot j o zeros = at (cases_lt j 50) o zeros
  where
    at : (j < 50) ⊎ (50 ≤ j) → (o : Option (List ℕ)) → ((page : List ℕ) → o ≡ Some page → page ≡ zero_page) → slot_in (slots (unwrap_or o [])) j ≡ unused
    at (inr high) o zeros = slot_in-past j (unwrap_or o []) high
    at (inl low) None zeros = slot_in-slots j [] low ∙ slot_of-unused (slot j []) (ap (λ (xs : List ℕ). slice_index (take 80 xs) 0) (drop-nil (48 + 80 * j)))
    at (inl low) (Some page) zeros = ap (λ p. slot_in (slots p) j) (zeros page refl) ∙ ap (λ list. slot_in list j) slots-zero ∙ get_or-replicate 50 j unused unused low

-- a page that isn't there is no page
pub none_is : {x : Option (List ℕ)} {page : List ℕ} → x ≡ None → x ≡ Some page → ⊥
none_is none some = let e = sym none ∙ some in cc

-- a page of a table that wasn't there may have come, of zero bytes
abbrev pub Comes : Image → Image → ℕ → ℕ → Type 0
Comes image new t n = (t ≢ 0) × (page_of image t n ≡ None) × ((page : List ℕ) → page_of new t n ≡ Some page → page ≡ zero_page)

-- no other page changes
pub record GetsZeros (image new : Image) : Type 0 where
  pub formed : IsFormed image
  pub system : page_count new 0 ≡ page_count image 0
  pub pages : (t n : ℕ) → (page_of new t n ≡ page_of image t n) ⊎ Comes image new t n

module _ (image new : Image) (g : GetsZeros image new) where
  system_page : (n : ℕ) → all_pages new 0 n ≡ all_pages image 0 n
  system_page n = elim (g.pages 0 n) [ inl same ↦ ap (λ (o : Option (List ℕ)). unwrap_or o []) same | inr comes ↦ absurd (comes.0 refl) ]

  slot_stays : (t p j : ℕ) → (contents_of new).slot t p j ≡ (contents_of image).slot t p j
  slot_stays t p j = ap (λ x. cond (eqb t 0) unused x) (elim (g.pages t p) [
    | inl same ↦ ap (λ (o : Option (List ℕ)). slot_in (slots (unwrap_or o [])) j) same
    | inr comes ↦ no_slot j (page_of new t p) comes.2 ∙ sym (no_slot j (page_of image t p) (λ page is. absurd (none_is comes.1 is)))
  ])

  next_stays : (t p : ℕ) → behind (all_pages new t p) ≡ behind (all_pages image t p)
  next_stays t p = elim (g.pages t p) [
    | inl same ↦ ap (λ (o : Option (List ℕ)). behind (unwrap_or o [])) same
    | inr comes ↦ no_next (page_of new t p) comes.2 ∙ sym (no_next (page_of image t p) (λ page is. absurd (none_is comes.1 is)))
  ]

  new_formed : IsFormed new
  new_formed = record {
    whole = λ t n page is. elim (g.pages t n) [
      | inl same ↦ g.formed.whole t n page (sym same ∙ is)
      | inr comes ↦ ap length (comes.2 page is) ∙ length-replicate {A = ℕ} 4096 0
    ];
    size = g.system ∙ g.formed.size;
    system = ap kind_of (system_page 0) ∙ g.formed.system;
    undo = λ n first within. subst (IsOrUnused 2) (sym (system_page n)) (g.formed.undo n first within);
    tables = λ t n page first is. elim (g.pages t n) [
      | inl same ↦ g.formed.tables t n page first (sym same ∙ is)
      | inr comes ↦ inr (comes.2 page is)
    ];
  }

  pub zeros_come : (size : ℕ → Option ℕ) → ((t : ℕ) → (contents_of new).size t ≡ size t) → HasContents new (record (contents_of image) { size = size })
  zeros_come size sizes = (
    new_formed,
    same_contents (contents_of new) (record (contents_of image) { size = size }) (ap dictionary (system_page 0)) sizes slot_stays (next_same image new (λ t p first. next_stays t p))
        (λ s. ap (λ o. cond (nat_lt s 64) o None) (undo.own s (all_pages new 0) (all_pages image 0) (λ m from to. system_page m)))
        (ap (field position_at 8) (system_page 0)),
  )
