-- What a donor copies in order a recipient may take.
use Rattle.std.proofs.Common.{ℕ, ◌≡◌, ◌∙◌, ◌+◌, ◌-◌, ◌==◌, List, [], ◌∷◌, Bool, true, false, if◌then◌else◌, Option, None, Some, length, option_map, option_and_then, refl, sym, ap, subst}
use Rattle.std.specs.Int.{div_ceil}
use Rattle.std.specs.Option.{ForSome}
use Rattle.std.proofs.lemmas.Bool.{and_from, eq-eqb, le-leb, lt-ltb}
use Rattle.clone_base.specs.declared.limits.TheConstants.{LSN_LIMIT}
use Rattle.clone_model.specs.declared.line.TheConstants.{MOST_PAGES}
use Rattle.clone_chunk.specs.Plans.{sizes_of}
use Rattle.clone_snapshot.specs.StageLists as lists
use Rattle.clone_snapshot.specs.StageLists.{StageList, chunk_count}
use Rattle.clone_snapshot.specs.Snaps.{IsInLog, IsSnap}
use Rattle.clone_snapshot.specs.declared.sizes.TheConstants.{CHUNK_BYTES, CHUNK_PAGES}
use Rattle.clone_session.specs.Cloning.{Cloning, Session}
use Rattle.clone_session.specs.Effects.{Tells, plan_of}
use Rattle.clone_session.specs.declared.info.StageInfo.{StageInfo}
use Rattle.clone_marks.specs.Counts.{pairs_of}
use Rattle.clone_recipient.specs.Expecting as expecting
use Rattle.clone_recipient.specs.Expecting.{fits}
use Rattle.clone_recipient.specs.declared.limits.TheConstants.{MOST_COPIED, MOST_SPACE}
use Rattle.clone_engine.specs.Donor.{Donor}
use Rattle.clone_paired.specs.Blocks.{Ascends, HasAscending}
use Rattle.clone_paired.specs.Order.{CopiesInOrder, IsInOrder, SpacesAscend}
use Rattle.clone_paired.specs.Own.{own_session}
use Rattle.clone_paired.proofs.DonorPremisesOrder.{are_spaces}
use Rattle.clone_paired.proofs.DonorServesAscend.{files_ascend, none_ascend, pages_ascend, redo_ascends}
use Rattle.clone_paired.proofs.DonorStages.{pairs_sizes}

-- ---- WHAT IS TOLD

spaces_fit : (least : ℕ) (spaces : List (ℕ × ℕ)) → SpacesAscend least spaces → expecting.are_spaces least (sizes_of spaces) ≡ true
spaces_fit least [] is = refl
spaces_fit least (s ∷ spaces) is =
    and_from _ _ (and_from _ _ (and_from _ _ (and_from _ _ (le-leb least s.0 is.0) (le-leb s.0 MOST_SPACE is.1)) (le-leb 1 s.1 is.2)) (le-leb s.1 MOST_PAGES is.3)) (spaces_fit (s.0 + 1) spaces is.4)

plan_fits : (c : Cloning) (s : Session) (list : StageList) → IsInOrder s.created list → IsInLog list → fits (plan_of c s list) ≡ true
plan_fits c s (lists.Files spaces) order in_log =
    and_from _ _ (spaces_fit 0 spaces order) (eq-eqb (chunk_count (lists.Files spaces)) (chunk_count (lists.Files (pairs_of (sizes_of spaces)))) (ap (λ (l : List (ℕ × ℕ)). chunk_count (lists.Files l)) (sym (pairs_sizes spaces))))
plan_fits c s (lists.Pages pages) order in_log =
    and_from _ _ (and_from _ _ (spaces_fit 0 s.created order.2) (le-leb (length pages) MOST_COPIED order.1)) (eq-eqb (div_ceil (length pages) CHUNK_PAGES) (div_ceil (length pages) CHUNK_PAGES) refl)
plan_fits c s (lists.Redo start end) order in_log =
    and_from _ _ (and_from _ _ (le-leb start end in_log.0) (lt-ltb end LSN_LIMIT in_log.1)) (eq-eqb (div_ceil (end - start) CHUNK_BYTES) (div_ceil (end - start) CHUNK_BYTES) refl)
plan_fits c s lists.Nothing order in_log = refl

pub told_fits : (d : Donor) (info : StageInfo) → CopiesInOrder d.cloning.session → ForSome d.cloning.session (λ s. IsSnap s.snap.list s.snap.chunks s.snap.room) → Tells d.cloning info → fits info.plan ≡ true
told_fits d info order snap (s, there, is) =
    ap (λ (x : StageInfo). fits x.plan) is ∙ plan_fits d.cloning s s.snap.list (subst CopiesInOrder there order) (snap s there).in_log

-- ---- THE BLOCKS

list_ascends : (created : List (ℕ × ℕ)) (list : StageList) → IsInOrder created list → HasAscending list
list_ascends created (lists.Files spaces) order = files_ascend spaces (are_spaces 0 spaces order)
list_ascends created (lists.Pages pages) order = pages_ascend pages order.0
list_ascends created (lists.Redo start end) order = redo_ascends start end
list_ascends created lists.Nothing order = none_ascend

pub blocks_in_order : (number : ℕ) (d : Donor) → CopiesInOrder d.cloning.session → Ascends (own_session number d.cloning)
blocks_in_order number d order = by d.cloning.session order
  where
    found : (s : Session) (own : Bool) → HasAscending s.snap.list → Ascends (if own then Some (record s { snap = record s.snap { room = 0 } }) else None)
    found s true ascend = ascend
    found s false ascend = tt

    by : (o : Option Session) → CopiesInOrder o → Ascends (option_and_then (λ (s : Session). if s.number == number then Some s else None) (option_map (λ (s : Session). record s { snap = record s.snap { room = 0 } }) o))
    by None order = tt
    by (Some s) order = found s (s.number == number) (list_ascends s.created s.snap.list order)
