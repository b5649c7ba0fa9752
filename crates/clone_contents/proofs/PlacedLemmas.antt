-- Each page stays at its place with each mini-transaction that leaves a formed image.
use Rattle.std.proofs.Common.{◌≡◌, ◌≢◌, ◌<◌, ◌+◌, ◌^◌, ◌==◌, ◌&&◌, ◌⊎◌, ℕ, Bool, true, false, cond, List, [], ◌∷◌, ◌++◌, length, refl, sym, ap, subst, ◌∙◌, arith, inl, inr, Option, Some, None, slice_get, option_and_then, nat_lt, nat_cmp}
use Rattle.std.specs.FinMap as finite
use Rattle.std.specs.FinMap.{get-empty}
use Rattle.std.proofs.lemmas.Bool.Decides.{eqb_tells}
use Rattle.std.proofs.lemmas.List.{append-nil, length-append}
use Rattle.clone_contents.proofs.Common.{AllByRecursion, cases_eq, length-replicate, kind_of, zero_page, effect, Record, Init, Write, Extend, Create, Drop, Image, page_of, all_pages, all_pages-is, after_records, AreWholePages, IsFormed}
use Rattle.clone_page.specs.Header.{IsWellFormed}
use Rattle.clone_page.proofs.Parts.{length-initialised, well_formed-initialised}
use Rattle.clone_mtr.specs.Records.{IsRecord}
use Rattle.clone_mtr.specs.Spelling.{spelling, log_of}
use Rattle.clone_row.proofs.Rows.{length-effect, well_formed-effect, kind_of-effect}
use Rattle.clone_image.specs.Image.{after_record}
use Rattle.clone_image.specs.Redone.{Standing, no_space, past_end, stands, made, stretched, redone, standing_at, standing_in, standing_of}
use Rattle.clone_image.specs.Replay.{first_lsn, end_of, after_log, replayed, IsSpelled}
use Rattle.clone_image.proofs.Logs.{log_of-push, after_log-push}
use Rattle.clone_image.proofs.Pages.{records_whole}
use Rattle.clone_image.proofs.RedoLemmas.{replayed_is_redone}
use Rattle.clone_image.proofs.Standings.{edited_standing, after_standing, after_record-standing}
use Rattle.clone_contents.specs.Placed.{IsPlaced, WasPlaced}
use Rattle.clone_contents.proofs.ImagePages.{within_space}
use Rattle.clone_contents.proofs.ChangeRecords.{kind_of-zero}
use Rattle.clone_contents.proofs.FittingRecords.{rows_used}

-- the page isn't there, or is whole, and unused or well formed at its place
abbrev Intact : ℕ → ℕ → Standing → Type 0
Intact s n no_space = Unit {0}
Intact s n past_end = Unit {0}
Intact s n (stands page) = (length page ≡ 4096) × ((kind_of page ≡ 0) ⊎ IsWellFormed s n page)

either : (s n : ℕ) (b : Bool) (p q : Standing) → Intact s n p → Intact s n q → Intact s n (cond b p q)
either s n true p q first second = first
either s n false p q first second = second

made_intact : (s n count : ℕ) → Intact s n (made n count)
made_intact s n count = either s n (nat_lt n count) (stands zero_page) past_end (length-replicate {A = ℕ} 4096 0, inl kind_of-zero) tt

stretched_intact : (s n count : ℕ) (p : Standing) → Intact s n p → Intact s n (stretched n count p)
stretched_intact s n count no_space had = tt
stretched_intact s n count past_end had = made_intact s n count
stretched_intact s n count (stands page) had = had

edited_intact : (s n : ℕ) (edit : List ℕ → List ℕ) (p : Standing) → ((page : List ℕ) → Intact s n (stands page) → Intact s n (stands (edit page))) → Intact s n p → Intact s n (edited_standing edit p)
edited_intact s n edit no_space keeps had = tt
edited_intact s n edit past_end keeps had = tt
edited_intact s n edit (stands page) keeps had = keeps page had

-- a record that names a page
named_intact : (t m s n : ℕ) (edit : List ℕ → List ℕ) (p : Standing) → (t ≡ s → m ≡ n → (page : List ℕ) → Intact s n (stands page) → Intact s n (stands (edit page))) → Intact s n p → Intact s n (cond ((t == s) && (m == n)) (edited_standing edit p) p)
named_intact t m s n edit p keeps had = elim (eqb_tells t s) [
  | inl first ↦ subst (λ (b : Bool). Intact s n (cond (b && (m == n)) (edited_standing edit p) p)) (sym first.0) (elim (eqb_tells m n) [
    | inl second ↦ subst (λ (b : Bool). Intact s n (cond b (edited_standing edit p) p)) (sym second.0) (edited_intact s n edit p (keeps first.1 second.1) had)
    | inr other ↦ subst (λ (b : Bool). Intact s n (cond b (edited_standing edit p) p)) (sym other.0) had
  ])
  | inr other ↦ subst (λ (b : Bool). Intact s n (cond (b && (m == n)) (edited_standing edit p) p)) (sym other.0) had
]

record_intact : (end s n : ℕ) (p : Standing) (r : Record) → IsRecord r → Intact s n p → Intact s n (after_standing end s n p r)
record_intact end s n p (Init t m kind) is had =
    named_intact t m s n (effect end (Init t m kind)) p
    (λ first second page was. (length-initialised t m kind end, inr (let P : ℕ × ℕ → Type 0 = λ at. IsWellFormed at.0 at.1 (effect end (Init t m kind) page) in subst P (λ i. (first i, second i)) (well_formed-initialised t m kind end is.0 is.1)))) had
record_intact end s n p (Write t m patch) is had =
    named_intact t m s n (effect end (Write t m patch)) p
    (λ first second page was. (
      length-effect end patch page is.2 was.0,
      elim was.1 [
        | inl unused ↦ inl (kind_of-effect end patch page is.2 was.0 ∙ unused)
        | inr well ↦ inr (well_formed-effect end s n patch page is.2 was.0 well)
      ],
    )) had
record_intact end s n p (Extend t count) is had = either s n (t == s) (stretched n count p) p (stretched_intact s n count p had) had
record_intact end s n p (Create t count) is had = either s n (t == s) (made n count) p (made_intact s n count) had
record_intact end s n p (Drop t) is had = either s n (t == s) no_space p tt had

records_intact : (end s n : ℕ) (image : Image) (rs : List Record) → AllByRecursion IsRecord rs → Intact s n (standing_of image s n) → Intact s n (standing_of (after_records end image rs) s n)
records_intact end s n image [] each had = had
records_intact end s n image (r ∷ rs) each had = records_intact end s n (after_record end image r) rs each.1 (subst (Intact s n) (sym (after_record-standing end image r s n)) (record_intact end s n (standing_of image s n) r each.0 had))

-- Pages that stand in an image.

page_is : (image : Image) (s n : ℕ) (page : List ℕ) → standing_of image s n ≡ stands page → page_of image s n ≡ Some page
page_is image s n page is = space (finite.get image s) is
  where
    at : (o : Option (List ℕ)) → standing_at o ≡ stands page → o ≡ Some page
    at None e = absurd (let f = e in cc)
    at (Some bytes) e = (let same : bytes ≡ page = cc in ap (λ p. Some p) same)

    space : (o : Option (List (List ℕ))) → standing_in o n ≡ stands page → option_and_then (λ pages. slice_get pages n) o ≡ Some page
    space None e = absurd (let f = e in cc)
    space (Some pages) e = at (slice_get pages n) e

-- a page of a formed image that is of no kind was never used
unused_zero : (image : Image) (s n : ℕ) (page : List ℕ) → IsFormed image → page_of image s n ≡ Some page → kind_of page ≡ 0 → page ≡ zero_page
unused_zero image s n page formed is none = at (cases_eq s 0) (cases_eq n 0)
  where
    at : (s ≡ 0) ⊎ (s ≢ 0) → (n ≡ 0) ⊎ (n ≢ 0) → page ≡ zero_page
    at (inr behind) second = elim (formed.tables s n page behind is) [ inl holds ↦ absurd (rows_used page holds none) | inr zeros ↦ zeros ]
    at (inl zero) (inl first) =
        let kind : kind_of (all_pages image s n) ≡ 1 = (λ i. kind_of (all_pages image (zero i) (first i))) ∙ formed.system in
        absurd (omega (arith, kind, ap kind_of (all_pages-is image s n page is), none))
    at (inl zero) (inr behind) =
        let there : page_of image 0 n ≡ Some page = ap (λ t. page_of image t n) (sym zero) ∙ is in
        let same = all_pages-is image 0 n page there in
        elim (formed.undo n behind (within_space image 0 n 257 page formed.size there)) [
          | inl kind ↦ absurd (omega (arith, kind, ap kind_of same, none))
          | inr zeros ↦ sym same ∙ zeros
        ]

intact : (image : Image) (s n : ℕ) → AreWholePages image → IsPlaced s n (standing_of image s n) → Intact s n (standing_of image s n)
intact image s n whole = at (standing_of image s n) refl
  where
    at : (p : Standing) → standing_of image s n ≡ p → IsPlaced s n p → Intact s n p
    at no_space is placed = tt
    at past_end is placed = tt
    at (stands page) is placed = (whole s n page (page_is image s n page is), elim placed [ inl zeros ↦ inl (ap kind_of zeros ∙ kind_of-zero) | inr well ↦ inr well ])

placed : (image : Image) (s n : ℕ) → IsFormed image → Intact s n (standing_of image s n) → IsPlaced s n (standing_of image s n)
placed image s n formed = at (standing_of image s n) refl
  where
    at : (p : Standing) → standing_of image s n ≡ p → Intact s n p → IsPlaced s n p
    at no_space is had = tt
    at past_end is had = tt
    at (stands page) is had = elim had.1 [ inl none ↦ inl (unused_zero image s n page formed (page_is image s n page is) none) | inr well ↦ inr well ]

-- The log grows.

log_whole : (start : ℕ) (image : Image) (log : List (List Record)) → AllByRecursion IsSpelled log → AreWholePages image → AreWholePages (after_log start image log)
log_whole start image [] each whole = whole
log_whole start image (m ∷ log) each whole = log_whole (end_of start m) (after_records (end_of start m) image m) log each.1 (records_whole (end_of start m) image m each.0.mtr.1 whole)

none_whole : AreWholePages finite.empty
none_whole s n page is = absurd (let none = sym is ∙ ap (λ (o : Option (List (List ℕ))). option_and_then (λ pages. slice_get pages n) o) (get-empty nat_cmp s) in cc)

pub placed_first : (s n : ℕ) → WasPlaced s n []
placed_first s n [] rest split = tt
placed_first s n (m ∷ front) rest split = absurd (cc)

-- a front of a longer log is one of the log, or all of it
cut : (log front rest : List (List Record)) (m : List Record) → log ++ m ∷ [] ≡ front ++ rest → ((back : List (List Record)) × (log ≡ front ++ back)) ⊎ (front ≡ log ++ m ∷ [])
cut log [] rest m split = inl (log, refl)
cut [] (x ∷ []) rest m split = inr (let same : x ≡ m = cc in ap (λ (r : List Record). r ∷ []) same)
cut [] (x ∷ y ∷ front) rest m split = absurd (cc)
cut (l ∷ log) (x ∷ front) rest m split =
    let head : l ≡ x = cc in
    elim (cut log front rest m (cc)) [
      | inl cuts ↦ inl (cuts.0, λ i. head i ∷ cuts.1 i)
      | inr whole ↦ inr (λ i. sym head i ∷ whole i)
    ]

-- A MINI-TRANSACTION KEEPS A PAGE AT ITS PLACE
module _ (log : List (List Record)) (m : List Record) (each : AllByRecursion IsSpelled log) (one : IsSpelled m) (small : first_lsn + length (log_of (log ++ m ∷ [])) < 2 ^ 64) (formed : IsFormed (replayed (log ++ m ∷ []))) (s n : ℕ) where
  abbrev old : Image
  old = replayed log

  abbrev end : ℕ
  end = first_lsn + length (log_of log) + length (spelling m)

  below : first_lsn + length (log_of log) < 2 ^ 64
  below = omega (arith, small, ap length (log_of-push log m), length-append (log_of log) (spelling m))

  grown : replayed (log ++ m ∷ []) ≡ after_records end old m
  grown = after_log-push first_lsn finite.empty log m end refl

  now : IsPlaced s n (redone s n log) → IsPlaced s n (redone s n (log ++ m ∷ []))
  now was =
      let before : Intact s n (standing_of old s n) = intact old s n (log_whole first_lsn finite.empty log each none_whole) (subst (IsPlaced s n) (sym (replayed_is_redone log s n below)) was) in
      let after : Intact s n (standing_of (replayed (log ++ m ∷ [])) s n) = subst (λ (i : Image). Intact s n (standing_of i s n)) (sym grown) (records_intact end s n old m one.mtr.1 before) in
      subst (IsPlaced s n) (replayed_is_redone (log ++ m ∷ []) s n small) (placed (replayed (log ++ m ∷ [])) s n formed after)

  pub placed_longer : WasPlaced s n log → WasPlaced s n (log ++ m ∷ [])
  placed_longer was = λ front rest split. elim (cut log front rest m split) [
    | inl cuts ↦ was front cuts.0 cuts.1
    | inr whole ↦ subst (λ (x : List (List Record)). IsPlaced s n (redone s n x)) (sym whole) (now (was log [] (sym (append-nil log))))
  ]
