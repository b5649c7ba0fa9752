-- What is known of a session goes on, from one act to the next.
use Rattle.std.proofs.Common.{◌≡◌, ◌∙◌, ◌++◌, ◌∷◌, ◌==◌, ◌⊎◌, [], zero, suc, ℕ, Bool, true, false, if◌then◌else◌, List, length, None, IsSome, refl, sym, ap, subst, arith, inl, inr, append_assoc}
use Rattle.std.specs.List.{AllByRecursion, Contains}
use Rattle.std.proofs.lemmas.List.{append-nil}
use Rattle.std.proofs.lemmas.List.Elements.{Contains-append_cases, recursion_from_All}
use Rattle.clone_image.specs.Redone.{Standing, stands}
use Rattle.clone_chunk.specs.Plans.{sizes_of}
use Rattle.clone_lay.specs.Laid.{PageAt}
use Rattle.clone_marks.specs.Counts.{pairs_of}
use Rattle.clone_snapshot.specs.StageLists as lists
use Rattle.clone_snapshot.specs.StageLists.{PagePart, StageList, all_pages, block_of}
use Rattle.clone_snapshot.proofs.EachBlock.{pages_listed}
use Rattle.clone_accepted.specs.Answers.{Answer, PageBlock, RedoBlock, Stage, Told, ToldDone, ToldFiles, ToldPages, ToldRedo}
use Rattle.clone_standing.specs.Counting.{Counts}
use Rattle.clone_standing.specs.Latest.{IsLowRoom}
use Rattle.clone_session.specs.declared.info.StageInfo.{StageInfo}
use Rattle.clone_session.specs.Effects.{Tells, told_of}
use Rattle.clone_engine.specs.Donor.{Donor, IsDonor}
use Rattle.clone_engine.specs.Taken.{IsTaken, Taken}
use Rattle.clone_sides.specs.Trace.{Entry}
use Rattle.clone_sides.specs.Answered.{answered_by, answers, to_session, told_by}
use Rattle.clone_sides.specs.Facts.{CountsEarly, FactOf, FactRedo, FactTold, HasMoment, HasRange, HasStop, InLists, IsBare, IsBefore, IsEarly, IsLate, IsPast, Keeps, Kept, Knows, Lists, ComesTo, kept, places}
use Rattle.clone_sides.specs.Moment.{own_stop}
use Rattle.clone_sides.proofs.StopLemmas.{moment_more, none_more}
use Rattle.clone_sides.proofs.KeptLemmas.{same_kept}

-- what was taken becomes this, with another list and other pages to copy once more
pub record Goes (number : ℕ) (v t : Donor) (list next : StageList) (taken news : Taken)
    (l m : Lists) : Type 0 where
  pub past : IsPast list → IsPast next
  pub before : IsBefore next → IsBefore list × (news.stop ≡ taken.stop)
  pub files : m.files ≡ l.files
  pub pages : IsPast list → m.pages ≡ l.pages
  pub made : IsPast list → m.made ≡ l.made
  -- a page that stands bare counts, or it did so before
  pub bare : (s n : ℕ) (u : Standing) → IsBare m s n u
      → CountsEarly m news.copies s n u ⊎ (IsBare l s n u × (CountsEarly l taken.copies s n u → CountsEarly m news.copies s n u))
  pub early : (s n : ℕ) (u : Standing) → Contains (all_pages (lists.Files l.files)) (s, n) → CountsEarly l taken.copies s n u → CountsEarly m news.copies s n u
  pub late : IsPast list → (s n : ℕ) (u : Standing) → Counts (taken.copies s n) u → Counts (news.copies s n) u
  pub range : (x y z : ℕ) → HasRange number v.cloning x y z → HasRange number t.cloning x y z
  pub redo : (chunk block from : ℕ) (bytes : List ℕ) → FactRedo v.cloning chunk block from bytes → FactRedo t.cloning chunk block from bytes

-- what counted of each page counts still, and no other page is to be copied once more
module _ (number : ℕ) (v t : Donor) (list next : StageList) (taken news : Taken) (l : Lists) (made : List (ℕ × ℕ)) (counts : (s n : ℕ) (u : Standing) → Counts (taken.copies s n) u → Counts (news.copies s n) u) where
  still_early : (s n : ℕ) (u : Standing) → CountsEarly l taken.copies s n u → CountsEarly (record l { made = made }) news.copies s n u
  still_early s n u (inl c) = inl (counts s n u c)
  still_early s n u (inr has) = inr has

  pub still_goes : (IsPast list → IsPast next) → (IsBefore next → IsBefore list × (news.stop ≡ taken.stop)) → (IsPast list → made ≡ l.made) → ((s n : ℕ) (u : Standing) → IsBare (record l { made = made }) s n u → IsBare l s n u)
      → ((x y z : ℕ) → HasRange number v.cloning x y z → HasRange number t.cloning x y z) → ((chunk block from : ℕ) (bytes : List ℕ) → FactRedo v.cloning chunk block from bytes → FactRedo t.cloning chunk block from bytes) → Goes number v t list next taken news l (record l { made = made })
  still_goes past before same bare range redo = record {
    past = past;
    before = before;
    files = refl;
    pages = λ past. refl;
    made = same;
    bare = λ s n u is. inr (bare s n u is, still_early s n u);
    early = λ s n u has. still_early s n u;
    late = λ past. counts;
    range = range;
    redo = redo;
  }

module _ (number : ℕ) (v t : Donor) (list next : StageList) (taken news : Taken) (l m : Lists) (goes : Goes number v t list next taken news l m) where
  all_early : (pages : List PageAt) → AllByRecursion (Contains (all_pages (lists.Files l.files))) (places pages) → AllByRecursion (IsEarly l taken.copies) pages → AllByRecursion (IsEarly m news.copies) pages
  all_early [] listed all = tt
  all_early (p ∷ ps) listed all = (goes.early p.space p.number (stands p.bytes) listed.0 all.0, all_early ps listed.1 all.1)

  all_late : IsPast list → (pages : List PageAt) → AllByRecursion (IsLate taken.copies) pages → AllByRecursion (IsLate news.copies) pages
  all_late past [] all = tt
  all_late past (p ∷ ps) all = (goes.late past p.space p.number (stands p.bytes) all.0, all_late past ps all.1)

  told_goes : (told : Told) → FactTold number v.cloning list l told → FactTold number t.cloning next m told
  told_goes (ToldFiles spaces) f = f ∙ sym goes.files
  told_goes (ToldPages count made) f = (goes.past f.0, f.1 ∙ ap length (sym (goes.pages f.0)), f.2 ∙ sym (goes.made f.0))
  told_goes (ToldRedo x y z) f = goes.range x y z f
  told_goes ToldDone f = tt

  fact_goes : (a : Answer) → FactOf number v.cloning list taken.copies l a → FactOf number t.cloning next news.copies m a
  fact_goes (Stage told) f = told_goes told f
  fact_goes (PageBlock stage chunk block pages) f = record {
    low = f.low;
    in_files = λ one. (let b = f.in_files one in
        let listed = recursion_from_All (Contains (all_pages (lists.Files l.files))) (places pages) (pages_listed (lists.Files l.files) chunk block (places pages) b.0) in
        (ap (λ (x : List (ℕ × ℕ)). block_of (lists.Files x) chunk block) goes.files ∙ b.0, all_early pages listed b.1));
    in_pages = λ two. (let b = f.in_pages two in (goes.past b.0, ap (λ (x : List (ℕ × ℕ)). block_of (lists.Pages x) chunk block) (goes.pages b.0) ∙ b.1, all_late b.0 pages b.2));
  }
  fact_goes (RedoBlock chunk block from bytes) f = goes.redo chunk block from bytes f

-- what is known goes on, with more that was answered
module _ (number : ℕ) (done more : List Answer) (v t : Donor) (taken news : Taken) (l m : Lists) (knows : Knows number done v taken l) (next : StageList) (goes : Goes number v t knows.list next taken news l m) where
  unread_goes : (s n : ℕ) (u : Standing) → IsBare m s n u → Contains (all_pages (lists.Files m.files)) (s, n) ⊎ CountsEarly m news.copies s n u
  unread_goes s n u bare = by (goes.bare s n u bare)
    where
      still : (CountsEarly l taken.copies s n u → CountsEarly m news.copies s n u) → Contains (all_pages (lists.Files l.files)) (s, n) ⊎ CountsEarly l taken.copies s n u → Contains (all_pages (lists.Files m.files)) (s, n) ⊎ CountsEarly m news.copies s n u
      still keep (inl has) = inl (subst (λ (f : List (ℕ × ℕ)). Contains (all_pages (lists.Files f)) (s, n)) (sym goes.files) has)
      still keep (inr counts) = inr (keep counts)

      by : CountsEarly m news.copies s n u ⊎ (IsBare l s n u × (CountsEarly l taken.copies s n u → CountsEarly m news.copies s n u)) → Contains (all_pages (lists.Files m.files)) (s, n) ⊎ CountsEarly m news.copies s n u
      by (inl counts) = inr counts
      by (inr (was, keep)) = still keep (knows.unread s n u was)

  pub knows_goes : ComesTo number t next m → IsTaken t news → IsDonor t → IsSome t.engine.disk.told → (IsPast next → AllByRecursion IsLowRoom m.made) → ((a : Answer) → Contains more a → FactOf number t.cloning next news.copies m a) → Knows number (done ++ more) t news m
  knows_goes at is donor tells low new = record {
    list = next;
    at = at;
    is = is;
    donor = donor;
    tells = tells;
    low = low;
    unstopped = λ soon. (let b = goes.before soon in b.1 ∙ knows.unstopped b.0);
    unread = unread_goes;
    facts = λ a has. elim (Contains-append_cases done more a has) [
      | inl old ↦ fact_goes number v t knows.list next taken news l m goes a (knows.facts a old)
      | inr now ↦ new a now
    ];
  }

-- WHAT IS TOLD of a stage

pairs_sizes : (spaces : List (ℕ × ℕ)) → pairs_of (sizes_of spaces) ≡ spaces
pairs_sizes [] = refl
pairs_sizes (s ∷ ss) = ap (λ (rest : List (ℕ × ℕ)). s ∷ rest) (pairs_sizes ss)

pub told_fact : (t : Donor) (number : ℕ) (list : StageList) (l : Lists) (info : StageInfo) → ComesTo number t list l → Tells t.cloning info → FactTold number t.cloning list l (told_by info.plan)
told_fact t number list l info at (s, there, is) =
    let same : kept s ≡ (number, list, at.created) = same_kept t.cloning s (number, list, at.created) there at.session in
    subst (λ (i : StageInfo). FactTold number t.cloning list l (told_by i.plan)) (sym is)
    (subst (λ (k : Kept). FactTold number t.cloning k.1 l (told_by (told_of t.cloning s s.snap.list).plan)) same
    (by s.snap.list (subst (λ (k : Kept). InLists k.1 k.2 t.engine l) (sym same) at.in_lists) (subst (λ (k : Kept). Keeps number t.cloning k.1) (sym same) at.keeps)))
  where
    by : (list : StageList) → InLists list s.created t.engine l → Keeps number t.cloning list → FactTold number t.cloning list l (told_by (told_of t.cloning s list).plan)
    by (lists.Files spaces) in_lists keeps = pairs_sizes spaces ∙ in_lists.0
    by (lists.Pages pages) in_lists keeps = (tt, ap length in_lists.0, pairs_sizes s.created ∙ in_lists.1)
    by (lists.Redo start end) in_lists keeps = keeps
    by lists.Nothing in_lists keeps = tt

-- an answer to a session is this one
pub is_answer : (number session : ℕ) (answer found : Answer) → Contains (to_session number session answer) found → answer ≡ found
is_answer number session answer found has = by (session == number) has
  where
    only : Contains (answer ∷ []) found → answer ≡ found
    only (zero, within, is) = is
    only (suc i, within, is) = absurd (omega (arith, within))

    by : (b : Bool) → Contains (if b then answer ∷ [] else []) found → answer ≡ found
    by true has = only has
    by false (i, within, is) = absurd (omega (arith, within))

pub answers_more : (number : ℕ) (done : List Entry) (e : Entry) → answers number (done ++ e ∷ []) ≡ answers number done ++ answered_by number e.act
answers_more number [] e = append-nil (answered_by number e.act)
answers_more number (x ∷ xs) e =
    ap (λ (rest : List Answer). answered_by number x.act ++ rest) (answers_more number xs e)
    ∙ sym (append_assoc (answered_by number x.act) (answers number xs) (answered_by number e.act))

pub stop_stays : (number : ℕ) (d : Donor) (done : List Entry) (e : Entry) (v t : Donor) (taken news : Taken) → news.stop ≡ taken.stop → t.cloning.stop ≡ v.cloning.stop → HasStop number d done v taken → HasStop number d (done ++ e ∷ []) t news
stop_stays number d done e v t taken news same stop had at is =
    let (found, stops, moment) = had at (sym same ∙ is) in
    (found, stop ∙ stops, moment_more number d done e at found moment)

pub moments_stay : (number : ℕ) (d : Donor) (done : List Entry) (e : Entry) (v : Donor) (taken news : Taken) → news.stop ≡ taken.stop → e.after.cloning.stop ≡ v.cloning.stop → HasMoment number d done v taken → HasMoment number d (done ++ e ∷ []) e.after news
moments_stay number d done e v taken news same stop had = record {
  late = stop_stays number d done e v e.after taken news same stop had.late;
  early = λ none. (let b = had.early (sym same ∙ none) in
      let own : own_stop number e.after.cloning.stop ≡ None = ap (own_stop number) stop ∙ b.1 in
      (none_more number done e b.0 own, own));
}
