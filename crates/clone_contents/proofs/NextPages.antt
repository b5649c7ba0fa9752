-- The page behind a page of a table: where it stays, and where there is none.
use Rattle.std.proofs.Common.{◌≡◌, ◌≢◌, ◌≤◌, ◌⊎◌, ℕ, cond, eqb, List, [], length, refl, sym, ap, ◌∙◌, arith, inl, inr, Option, Some, None, unwrap_or, eq-eqb, ne_eqb}
use Rattle.clone_contents.proofs.Common.{cases_eq, field-put_at_other, put_at, zero_page, behind, behind-same, Image, all_pages, contents_of}

-- Pages by themselves.

pub behind-zero : behind zero_page ≡ None
behind-zero = refl

-- bytes of the body are put on a page
pub behind-body : (at : ℕ) (piece page : List ℕ) → 38 ≤ at → at ≤ length page → behind (put_at at piece page) ≡ behind page
behind-body at piece page body on =
    behind-same page (put_at at piece page) record {
      kind = field-put_at_other 24 2 at piece page (inl (omega (arith, body))) on;
      space = field-put_at_other 34 4 at piece page (inl (omega (arith, body))) on;
      number = field-put_at_other 4 4 at piece page (inl (omega (arith, body))) on;
      next = field-put_at_other 12 4 at piece page (inl (omega (arith, body))) on;
    }

-- a page that is zero, or isn't there, has none
pub no_next : (o : Option (List ℕ)) → ((page : List ℕ) → o ≡ Some page → page ≡ zero_page) → behind (unwrap_or o []) ≡ None
no_next None zeros = refl
no_next (Some page) zeros = ap behind (zeros page refl) ∙ behind-zero

-- The pages behind the pages of an image.

pub next_is : (image : Image) (t p : ℕ) → t ≢ 0 → (contents_of image).next t p ≡ behind (all_pages image t p)
next_is image t p in_table = ap (λ b. cond b None (behind (all_pages image t p))) (ne_eqb t 0 in_table)

pub next_system : (image : Image) (t p : ℕ) → t ≡ 0 → (contents_of image).next t p ≡ None
next_system image t p zero = ap (λ b. cond b None (behind (all_pages image t p))) (eq-eqb t 0 zero)

-- they stay where those of tables do
pub next_at : (image new : Image) (t p : ℕ) → (t ≢ 0 → behind (all_pages new t p) ≡ behind (all_pages image t p)) → (contents_of new).next t p ≡ (contents_of image).next t p
next_at image new t p same =
    elim (cases_eq t 0) [
      | inl zero ↦ next_system new t p zero ∙ sym (next_system image t p zero)
      | inr in_table ↦ ap (λ o. cond (eqb t 0) None o) (same in_table)
    ]

pub next_same : (image new : Image) → ((t p : ℕ) → t ≢ 0 → behind (all_pages new t p) ≡ behind (all_pages image t p)) → (t p : ℕ) → (contents_of new).next t p ≡ (contents_of image).next t p
next_same image new same t p = next_at image new t p (same t p)

-- one page was written, and what is read of it stays
pub read_kept : {X : Type 0} (read : List ℕ → X) (image new : Image) (t p : ℕ) → read (all_pages new t p) ≡ read (all_pages image t p) → ((u n : ℕ) → u ≢ 0 → (u ≡ t → n ≡ p → ⊥) → all_pages new u n ≡ all_pages image u n) → (u n : ℕ) → u ≢ 0 → read (all_pages new u n) ≡ read (all_pages image u n)
read_kept read image new t p own others u n in_table = at (cases_eq u t) (cases_eq n p)
  where
    at : (u ≡ t) ⊎ (u ≢ t) → (n ≡ p) ⊎ (n ≢ p) → read (all_pages new u n) ≡ read (all_pages image u n)
    at (inr a) second = ap read (others u n in_table (λ e f. a e))
    at (inl a) (inr b) = ap read (others u n in_table (λ e f. b f))
    at (inl a) (inl b) = (λ k. read (all_pages new (a k) (b k))) ∙ own ∙ (λ k. read (all_pages image (sym a k) (sym b k)))

pub next_kept : (image new : Image) (t p : ℕ) → behind (all_pages new t p) ≡ behind (all_pages image t p) → ((u n : ℕ) → u ≢ 0 → (u ≡ t → n ≡ p → ⊥) → all_pages new u n ≡ all_pages image u n) → (u n : ℕ) → (contents_of new).next u n ≡ (contents_of image).next u n
next_kept image new t p own others = next_same image new (read_kept behind image new t p own others)
