-- The pages of a chain. A chain that is whole isn't broken.
use Rattle.std.proofs.Common.{◌≡◌, ◌<◌, ◌≤◌, ◌+◌, ◌-◌, ℕ, zero, suc, List, [], ◌∷◌, length, refl, sym, ap, subst, ◌∙◌, arith, Some, None, inl, inr}
use Rattle.std.specs.Prelude.{option_and_then}
use Rattle.std.specs.declared.option.Option.{Option}
use Rattle.std.specs.List.{AllByRecursion}
use Rattle.std.proofs.lemmas.Bool.{cases_lt}
use Rattle.std.proofs.lemmas.Option.{none-some}
use Rattle.clone_row.specs.Chains.{IsChain}
use Rattle.clone_image.specs.Image.{Image}
use Rattle.clone_recover.specs.Chains.{page_at, GoesAstray, IsBrokenChain, no_bucket, astray, IsWhole, IsWholeChain, next_in, size_in}

pub same_some : (a b : ℕ) → Some a ≡ Some b → a ≡ b
same_some a b is = cc

module _ (next : ℕ → Option ℕ) where
  pub at_next : (first index page : ℕ) (o : Option ℕ) → page_at next first index ≡ Some page → next page ≡ o → page_at next first (suc index) ≡ o
  at_next first index page o comes is = ap (option_and_then next) comes ∙ is

  -- the pages of a chain without its first one
  behind_first : (first one index : ℕ) → next first ≡ Some one → page_at next first (suc index) ≡ page_at next one index
  behind_first first one zero is = is
  behind_first first one (suc index) is = ap (option_and_then next) (behind_first first one index is)

  -- two indexes that have the same page have the same ones behind
  behind_same : (first a b n : ℕ) → page_at next first a ≡ page_at next first b → page_at next first (n + a) ≡ page_at next first (n + b)
  behind_same first a b zero is =
      let left : 0 + a ≡ a = omega arith in
      let right : 0 + b ≡ b = omega arith in
      ap (page_at next first) left ∙ is ∙ sym (ap (page_at next first) right)
  behind_same first a b (suc n) is =
      let left : suc n + a ≡ suc (n + a) = omega arith in
      let right : suc n + b ≡ suc (n + b) = omega arith in
      ap (page_at next first) left ∙ ap (option_and_then next) (behind_same first a b n is) ∙ sym (ap (page_at next first) right)

  -- a chain with its end has no page behind the end, and one at each index up to it
  past_end : (first : ℕ) (rest : List ℕ) → IsChain next first rest → page_at next first (suc (length rest)) ≡ None
  past_end first [] end = end
  past_end first (one ∷ rest) chain = behind_first first one (suc (length rest)) chain.0 ∙ past_end one rest chain.1

  record Stands (size : ℕ) (o : Option ℕ) : Type 0 where
    page : ℕ
    is : o ≡ Some page
    there : page < size

  up_to_end : (size first : ℕ) (rest : List ℕ) (index : ℕ) → IsChain next first rest → AllByRecursion (λ page. page < size) (first ∷ rest) → index ≤ length rest → Stands size (page_at next first index)
  up_to_end size first rest zero chain there low = record { page = first; is = refl; there = there.0 }
  up_to_end size first [] (suc index) chain there low = absurd (omega (arith, low))
  up_to_end size first (one ∷ rest) (suc index) chain there low =
      let s = up_to_end size one rest index chain.1 there.1 (omega (arith, low)) in
      record { page = s.page; is = behind_first first one index chain.0 ∙ s.is; there = s.there }

  -- no index behind the end has a page
  none_behind : (first index n : ℕ) → page_at next first index ≡ None → page_at next first (n + index) ≡ None
  none_behind first index zero is = let e : 0 + index ≡ index = omega arith in ap (page_at next first) e ∙ is
  none_behind first index (suc n) is =
      let e : suc n + index ≡ suc (n + index) = omega arith in
      ap (page_at next first) e ∙ ap (option_and_then next) (none_behind first index n is)

  -- an index that has a page isn't behind the end
  before_end : (first index page : ℕ) (rest : List ℕ) → IsChain next first rest → page_at next first index ≡ Some page → index ≤ length rest
  before_end first index page rest chain comes = elim (cases_lt (length rest) index) [
    | inr low ↦ low
    | inl past ↦
        let e : (index - suc (length rest)) + suc (length rest) ≡ index = omega (arith, past) in
        absurd (none-some page (sym (none_behind first (suc (length rest)) (index - suc (length rest)) (past_end first rest chain)) ∙ ap (page_at next first) e ∙ comes))
  ]

  -- a chain that is whole doesn't go astray
  pub whole_straight : (size first page : ℕ) → IsWhole next size first → GoesAstray next size first page → ⊥
  whole_straight size first page whole a =
      let long = length whole.rest in
      let comes = at_next first a.index page (Some a.target) a.comes a.named in
      let low = before_end first (suc a.index) a.target whole.rest whole.chain comes in
      elim a.wrong [
        | inl past ↦
            let s = up_to_end size first whole.rest (suc a.index) whole.chain whole.there low in
            absurd (omega (arith, past, s.there, same_some a.target s.page (sym comes ∙ s.is)))
        | inr back ↦
            let n = long - a.index in
            let turn = behind_same first back.0 (suc a.index) n (back.2 ∙ sym comes) in
            let s = up_to_end size first whole.rest (n + back.0) whole.chain whole.there (omega (arith, low, back.1)) in
            let e : n + suc a.index ≡ suc long = omega (arith, low) in
            none-some s.page (sym (past_end first whole.rest whole.chain) ∙ sym (ap (page_at next first) e) ∙ sym turn ∙ s.is)
      ]

  -- a page ahead of a chain that is whole begins one, too
  pub whole_more : (size page one : ℕ) → page < size → next page ≡ Some one → IsWhole next size one → IsWhole next size page
  whole_more size page one there is whole = record { rest = one ∷ whole.rest; chain = (is, whole.chain); there = (there, whole.there) }

  pub whole_last : (size page : ℕ) → page < size → next page ≡ None → IsWhole next size page
  whole_last size page there end = record { rest = []; chain = end; there = (there, tt) }

  -- Where the chain that begins with the page at an index is whole, so are those of the pages
  -- ahead.
  pub whole_back : (size first index page : ℕ) → page_at next first index ≡ Some page → ((j p : ℕ) → j < index → page_at next first j ≡ Some p → p < size) → IsWhole next size page
      → (j p : ℕ) → j ≤ index → page_at next first j ≡ Some p → IsWhole next size p
  whole_back size first zero page comes there whole j p low at =
      let e : j ≡ 0 = omega (arith, low) in
      subst (IsWhole next size) (same_some page p (sym comes ∙ sym (ap (page_at next first) e) ∙ at)) whole
  whole_back size first (suc index) page comes there whole j p low at = elim (cases_lt j (suc index)) [
    | inr high ↦
        let e : j ≡ suc index = omega (arith, low, high) in
        subst (IsWhole next size) (same_some page p (sym comes ∙ sym (ap (page_at next first) e) ∙ at)) whole
    | inl ahead ↦ from (page_at next first index) refl (λ x is.
        whole_back size first index x is (λ k q lt here. there k q (omega (arith, lt)) here)
        (whole_more size x page (there index x (omega arith) is) (sym (ap (option_and_then next) is) ∙ comes) whole) j p (omega (arith, ahead)) at)
  ]
    where
      from : (o : Option ℕ) → page_at next first index ≡ o → ((x : ℕ) → page_at next first index ≡ Some x → IsWhole next size p) → IsWhole next size p
      from None none go = absurd (none-some page (sym (ap (option_and_then next) none) ∙ comes))
      from (Some x) is go = go x is

whole_there : (image : Image) (table bucket : ℕ) → IsWholeChain image table bucket → size_in image table ≤ bucket → ⊥
whole_there image table bucket whole past = let low : bucket < size_in image table = whole.there.0 in absurd (omega (arith, low, past))

-- a chain that is whole isn't broken
pub whole_unbroken : (image : Image) (table bucket page : ℕ) → IsWholeChain image table bucket → IsBrokenChain image table bucket page → ⊥
whole_unbroken image table bucket page whole (no_bucket past) = whole_there image table bucket whole past
whole_unbroken image table bucket page whole (astray at a) = whole_straight (next_in image table) (size_in image table) bucket at whole a
