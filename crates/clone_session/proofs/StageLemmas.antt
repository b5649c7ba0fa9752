-- What an acknowledgement after the copy of files leaves: a stage that lists no spaces.
use Rattle.std.proofs.Common.{◌≡◌, ◌≢◌, ◌≤◌, ◌+◌, ◌∙◌, ◌==◌, ◌⊎◌, inl, inr, if◌then◌else◌, ℕ, Bool, true, false, not, List, [], refl, sym, subst, ap, arith, Option, Some, None, option_map, option_and_then}
use Rattle.std.specs.Option.{option_map_or, option_or}
use Rattle.std.proofs.lemmas.Bool.{and_parts, or_cases, eqb-true, eq-eqb, leb-true}
use Rattle.std.proofs.lemmas.Option.{same_Some}
use Rattle.clone_chunk.specs.declared.cause.CloneCause.{CloneCause}
use Rattle.clone_chunk.specs.declared.cause.CloneCause.TheVariants.{NoSuchSession, StageMismatch}
use Rattle.clone_archive.specs.Archived.{Archived}
use Rattle.clone_chunk.specs.Stages.{stage_number}
use Rattle.clone_snapshot.specs.StageLists.{StageList, Files, Pages, Redo, Nothing, stage_of}
use Rattle.clone_session.specs.declared.caller.Caller.{Caller}
use Rattle.clone_session.specs.declared.ending.Moment.{Moment}
use Rattle.clone_session.specs.Cloning.{Cloning, Session, IsInStage, IsInSession, IsCloning}
use Rattle.clone_session.specs.CloneCauses.{acknowledgement_cause, chunks_left, donor_stage, floor_ahead, is_acknowledged, out_of_stage, stale, whether}
use Rattle.clone_session.specs.Effects.{Becomes, acknowledged, advanced, pages_ended, spaces_in, stopped_at}

-- the session that stands lists no spaces
abbrev pub ListsNone : Cloning → Type 0
ListsNone c = (s : Session) × (c.session ≡ Some s) × (spaces_in s s.snap.list ≡ [])

-- a session without how much room it has
abbrev bare : Session → Session
bare s = record s { snap = record s.snap { room = 0 } }

-- how much room there is doesn't matter
as_much : (new c : Cloning) → Becomes new c → ListsNone c → ListsNone new
as_much new c become (s, is, none) = by new.session (ap (λ (x : Cloning). x.session) become ∙ ap (option_map bare) is)
  where
    by : (o : Option Session) → option_map bare o ≡ Some (bare s) → (t : Session) × (o ≡ Some t) × (spaces_in t t.snap.list ≡ [])
    by None same = absurd (cc)
    by (Some t) same =
        (t, refl, ap (λ (x : Session). spaces_in x x.snap.list) (same_Some (bare t) (bare s) same) ∙ none)

-- a stage that may be acknowledged is the donor's or the one before it
stage_near : (s : Session) (stage : ℕ) → out_of_stage s stage ≡ None → (1 ≤ stage) × ((stage ≡ donor_stage s) ⊎ (stage + 1 ≡ donor_stage s))
stage_near s stage fine =
    let parts = and_parts _ _ (unrefused (is_acknowledged s stage) (StageMismatch (donor_stage s) stage) fine) in
    (leb-true 1 stage (and_parts _ _ parts.0).0, near (or_cases _ _ parts.1))
  where
    unrefused : (b : Bool) (cause : CloneCause) → whether (not b) cause ≡ None → b ≡ true
    unrefused true cause none = refl
    unrefused false cause none = absurd (cc)

    near : (((stage == donor_stage s) ≡ true) ⊎ ((stage + 1 == donor_stage s) ≡ true)) → (stage ≡ donor_stage s) ⊎ (stage + 1 ≡ donor_stage s)
    near (inl same) = inl (eqb-true stage (donor_stage s) same)
    near (inr next) = inr (eqb-true (stage + 1) (donor_stage s) next)

-- There is nothing against the acknowledgement of a stage after the copy of files.
module _ (now : Moment) (files : List (ℕ × ℕ)) (stage : ℕ) (c : Cloning) (s : Session) (k : IsCloning c) (is : c.session ≡ Some s) (later : stage ≢ 1) where
  either : (b : Bool) (x y : Cloning) → ListsNone x → ListsNone y → ListsNone (if b then x else y)
  either true x y one other = one
  either false x y one other = other

  by_stage : (list : StageList) → s.snap.list ≡ list → IsInStage c s list → (1 ≤ stage) × ((stage ≡ stage_number (stage_of list)) ⊎ (stage + 1 ≡ stage_number (stage_of list))) → ListsNone (if stage == stage_number (stage_of list) then advanced now files s list c else c)
  by_stage (Files spaces) list copies near = absurd (grind arith)
  by_stage (Pages pages) list copies near =
      let two : stage ≡ 2 = grind arith in
      let stops : ListsNone (pages_ended now s c) = subst (λ (o : Option Archived). ListsNone (option_map_or (λ a. stopped_at now s a c) o c)) (sym copies.stands) (_, refl, refl) in
      subst (λ (b : Bool). ListsNone (if b then pages_ended now s c else c)) (sym (eq-eqb stage 2 two)) stops
  by_stage (Redo start end) list copies near = either (stage == 3) (advanced now files s (Redo start end) c) c (_, refl, refl) (s, is, ap (spaces_in s) list)
  by_stage Nothing list copies near = either (stage == 4) c c (s, is, ap (spaces_in s) list) (s, is, ap (spaces_in s) list)

  lists_none : out_of_stage s stage ≡ None → ListsNone (acknowledged now files stage s c)
  lists_none fine =
      let in_session : IsInSession c (Some s) = subst (IsInSession c) is k.session in
      by_stage s.snap.list refl in_session.2 (stage_near s stage fine)

  both_none : (x y : Option CloneCause) → option_or x y ≡ None → (x ≡ None) × (y ≡ None)
  both_none None y none = (refl, none)
  both_none (Some x) y none = absurd (cc)

  abbrev causes : Caller → (floor position : ℕ) → Option Session → Option CloneCause
  causes caller floor position o = option_map_or (λ s. option_or (stale s caller.incarnation) (option_or (out_of_stage s stage) (option_or (chunks_left s stage) (floor_ahead s stage floor position)))) o (Some NoSuchSession)

  not_out : (caller : Caller) (floor position : ℕ) → acknowledgement_cause c caller stage floor position ≡ None → out_of_stage s stage ≡ None
  not_out caller floor position none = by (s.number == caller.session) (subst (λ (o : Option Session). causes caller floor position (option_and_then (λ (s : Session). if s.number == caller.session then Some s else None) o) ≡ None) is none)
    where
      by : (b : Bool) → causes caller floor position (if b then Some s else None) ≡ None → out_of_stage s stage ≡ None
      by true none = (both_none _ _ (both_none _ _ none).1).0
      by false none = absurd (cc)

  pub later_list : (caller : Caller) (floor position : ℕ) (new : Cloning) → acknowledgement_cause c caller stage floor position ≡ None → Becomes new (acknowledged now files stage s c) → ListsNone new
  later_list caller floor position new none become = as_much new (acknowledged now files stage s c) become (lists_none (not_out caller floor position none))
