-- Writers whose calls stand among those of others.
use Rattle.std.proofs.Common.{set, ◌≡◌, ◌≢◌, ◌==◌, ◌∙◌, ◌⊎◌, ◌+◌, ℕ, zero, suc, Bool, true, false, List, [], ◌∷◌, map, refl, sym, ap, subst, inl, inr, None, Some, Result, Ok, Err, IfSome}
use Rattle.std.specs.Prelude.{⊤, slice_get, if◌then◌else◌}
use Rattle.std.specs.declared.option.Option.{Option}
use Rattle.std.specs.List.{AllByRecursion}
use Rattle.std.proofs.lemmas.Option.{same_Some}
use Rattle.clone_turn.specs.Runs.{end_of}
use Rattle.clone_runs.specs.Shuffles.{IsShuffled}
use Rattle.clone_plain.specs.Donor.{Donor}
use Rattle.clone_plain.specs.declared.call.EngineAnswer.{EngineAnswer}
use Rattle.clone_plain.specs.declared.call.EngineCall.{EngineCall}
use Rattle.clone_plain.specs.declared.refusal.EngineRefusal.{EngineRefusal}
use Rattle.clone_machine.specs.Running.{JobEntry}
use Rattle.clone_machine.specs.Sharing.{SharedDonor}
use Rattle.clone_model.specs.declared.change.Change.{Change}
use Rattle.clone_model.specs.declared.change.Commit.{Commit}
use Rattle.clone_plain.specs.declared.call.EngineAnswer.TheVariants as answers
use Rattle.clone_plain.specs.declared.refusal.Cause.TheVariants.{RowLocked}
use Rattle.clone_plain.specs.declared.refusal.EngineRefusal.TheVariants.{Because}
use Rattle.clone_plain.specs.declared.refusal.Undone.TheVariants.{Ended}
use Rattle.clone_writer.specs.Writers.{Writer, after_next, asked, asked_at, changes_of, next_of, setting, told, told_at}
use Rattle.clone_writer.specs.Writing.{Agree, IsAt, IsOthers, Leads, Spares, of_writer, trx_of}
use Rattle.clone_writer.specs.declared.writer.Place.{Place}
use Rattle.clone_writer.specs.declared.writer.Place.TheVariants.{Before, Within, Undoing}
use Rattle.clone_writer.proofs.Agreeing.{own}
use Rattle.clone_writer.proofs.Sparing.{keeps}
use Rattle.clone_jobs.specs.Said.{Said, engine, engine_in, said_by, said_in}
use Rattle.clone_jobs.specs.Written.{AllMove, AreApart, Begins, Ends, Follows, IsApart, IsAside, IsPart, Moves, Other, Part, Written, engine_of, made_by, plain}

-- ---- one call

-- a donor with the same transactions and commits
same_place : (w : Writer) (place : Place) (d t : Donor) → t.active ≡ d.active → IsAt w place d → IsAt w place t
same_place w Before d t active at = tt
same_place w (Within trx made) d t active at = subst (λ a. IsAt w (Within trx made) (record d { active = a })) (sym active) at
same_place w (Undoing trx) d t active at = subst (λ a. IsAt w (Undoing trx) (record d { active = a })) (sym active) at

left_alone : (w : Writer) (d t : Donor) → t.active ≡ d.active → t.binlog ≡ d.binlog → Agree w d → Agree w t
left_alone w d t active binlog agree = record { commits = ap (of_writer w.number) binlog ∙ agree.commits; place = same_place w w.place d t active agree.place }

spares_none : (number : ℕ) (d : Donor) (c : EngineCall) → trx_of c ≡ None → Spares number d c
spares_none number d c none = subst (λ o. IfSome o (IsOthers number d)) (sym none) tt

-- a call that spares the writer
spared : (w : Writer) (x : Said) (d t : Donor) → Moves x d t → ((c : EngineCall) → engine_of x.call ≡ Some c → Spares w.number d c) → Agree w d → Agree w t
spared w x d t (inl leads) spares agree =
    keeps w d t leads.0 leads.1 agree (spares leads.0 (ap (λ (y : Said). engine_of y.call) leads.2)) leads.3
spared w x d t (inr leaves) spares agree = left_alone w d t leaves.1 leaves.2 agree

-- the next call of the writer
made_own : (w : Writer) (x : Said) (d t : Donor) (c : EngineCall) (result : Result EngineAnswer EngineRefusal) → asked w ≡ Some c → x ≡ engine c result → Moves x d t → Agree w d → Agree (told w result) t
made_own w x d t c result next is (inl leads) agree =
    let call : leads.0 ≡ c = same_Some leads.0 c (ap (λ (y : Said). engine_of y.call) (sym leads.2 ∙ is)) in
    let given : leads.1 ≡ result = same_Some leads.1 result (ap (λ (y : Said). engine_in y.answer) (sym leads.2 ∙ is)) in
    own w d t c result agree next (subst (λ r. Leads d c r t) given (subst (λ k. Leads d k leads.1 t) call leads.3))
made_own w x d t c result next is (inr leaves) agree =
    let some : engine_of x.call ≡ Some c = ap (λ (y : Said). engine_of y.call) is in
    absurd (no_call c (sym leaves.0 ∙ some))
  where
    no_call : (c : EngineCall) → ◌≡◌ {A = Option EngineCall} None (Some c) → ⊥
    no_call c is = cc

-- what another writer asks spares this one
open_others : (w : Writer) (number : ℕ) (place : Place) (d : Donor) (c : EngineCall) → w.number ≢ number → IsAt w place d → asked_at w place ≡ c → Spares number d c
open_others w number Before d c apart at is = subst (Spares number d) is tt
open_others w number (Within trx made) d c apart at is = subst (Spares number d) is (by (slice_get (changes_of w) made))
  where
    others : IsOthers number d trx
    others commit there = λ own. apart (ap (λ (x : Commit). x.writer) (same_Some _ commit (sym at ∙ there)) ∙ own)

    set_others : (change : Change) (value : Option (List ℕ)) → Spares number d (setting trx change.table change.key value)
    set_others change (Some value) = others
    set_others change None = others

    by : (next : Option Change) → Spares number d (next_of trx next)
    by (Some change) = set_others change change.value
    by None = others
open_others w number (Undoing trx) d c apart at is =
    subst (Spares number d) is (λ commit there own. apart (ap (λ (x : Commit). x.writer) (same_Some _ commit (sym at.1 ∙ there)) ∙ own))

asked_others : (w : Writer) (number : ℕ) (d : Donor) (c : EngineCall) → Agree w d → asked w ≡ Some c → w.number ≢ number → Spares number d c
asked_others w number d c agree next apart = by (w.index == w.count) next
  where
    by : (done : Bool) → ◌≡◌ {A = Option EngineCall} (if done then None else Some (asked_at w w.place)) (Some c) → Spares number d c
    by true is = absurd cc
    by false is = open_others w number w.place d c apart agree.place (same_Some _ c is)

-- a writer has come further in its stream, which is the same
abbrev pub IsLater : Writer → Writer → Type 0
IsLater w v = (index : ℕ) × (place : Place) × (v ≡ record w { index = index; place = place })

later_at : (w : Writer) (place : Place) (given : Result EngineAnswer EngineRefusal) → IsLater w (told_at w place given)
later_at w Before (Ok (answers.Begin trx)) = (w.index, Within trx 0, refl)
later_at w Before (Ok did) = (w.index, w.place, refl)
later_at w Before (Err refusal) = (w.index, w.place, refl)
later_at w (Within trx made) given = by (slice_get (changes_of w) made) given
  where
    by : (next : Option Change) (given : Result EngineAnswer EngineRefusal) → IsLater w (after_next w trx made next given)
    by (Some change) (Ok did) = (w.index, Within trx (made + 1), refl)
    by (Some change) (Err (Because (RowLocked holder))) = (w.index, Undoing trx, refl)
    by (Some change) (Err refusal) = (w.index, w.place, refl)
    by None (Ok did) = (w.index + 1, Before, refl)
    by None (Err refusal) = (w.index, w.place, refl)
later_at w (Undoing trx) (Ok (answers.UndoOne Ended)) = (w.index, Before, refl)
later_at w (Undoing trx) (Ok did) = (w.index, w.place, refl)
later_at w (Undoing trx) (Err refusal) = (w.index, w.place, refl)

later_told : (w : Writer) (given : Result EngineAnswer EngineRefusal) → IsLater w (told w given)
later_told w given = by (w.index == w.count)
  where
    by : (done : Bool) → IsLater w (if done then w else told_at w w.place given)
    by true = (w.index, w.place, refl)
    by false = later_at w w.place given

pub later : (w : Writer) (said : List Said) (v : Writer) → Follows w said v → IsLater w v
later w [] v follows = (w.index, w.place, follows)
later w (x ∷ said) v (inl aside) = later w said v aside.1
later w (x ∷ said) v (inr made) =
    let first = later_told w made.1 in
    let more = later (told w made.1) said v made.4 in
    (more.0, more.1, more.2 ∙ ap (λ (y : Writer). record y { index = more.0; place = more.1 }) first.2)

number_told : (w : Writer) (given : Result EngineAnswer EngineRefusal) → (told w given).number ≡ w.number
number_told w given = ap (λ (y : Writer). y.number) (later_told w given).2

-- ---- the next call of a part

-- what it leaves of the part, and of the donor for the others
record Next (p : Part) (rest : List JobEntry) (d t : Donor) : Type 0 where
  q : Part
  made : made_by q ≡ rest
  part : IsPart q
  begins : Begins t q
  ends : (u : Donor) → Ends u q → Ends u p
  left : (r : Part) → IsApart p r → IsApart q r
  right : (r : Part) → IsApart r p → IsApart r q
  others : (r : Part) → IsApart r p → Begins d r → Begins t r

aside_spares : (x : Said) → IsAside x → (number : ℕ) (d : Donor) (c : EngineCall) → engine_of x.call ≡ Some c → Spares number d c
aside_spares x aside number d c is = spares_none number d c (aside c is)

aside_others : (x : Said) (d t : Donor) → IsAside x → Moves x d t → (r : Part) → Begins d r → Begins t r
aside_others x d t aside moves (Written w v made) agree = spared w x d t moves (aside_spares x aside w.number d) agree
aside_others x d t aside moves (Other made) agree = tt

own_others : (w : Writer) (x : Said) (d t : Donor) (c : EngineCall) (result : Result EngineAnswer EngineRefusal) (v : Writer) (made : List JobEntry) → asked w ≡ Some c → x ≡ engine c result
    → Moves x d t → Agree w d → (r : Part) → IsApart r (Written w v made) → Begins d r → Begins t r
own_others w x d t c result v made next is moves agree (Written y z more) apart mine =
    spared y x d t moves (λ k names. asked_others w y.number d k agree (next ∙ (ap (λ (s : Said). engine_of s.call) (sym is) ∙ names)) (λ same. apart (sym same))) mine
own_others w x d t c result v made next is moves agree (Other more) apart mine = tt

next_of_part : (p : Part) (e : JobEntry) (rest : List JobEntry) (d t : Donor) → made_by p ≡ e ∷ rest → IsPart p → Begins d p → Moves (said_by e) d t → Next p rest d t
next_of_part (Other made) e rest d t is part begins moves =
    let aside : AllByRecursion (λ e. IsAside (said_by e)) (e ∷ rest) = subst (AllByRecursion (λ e. IsAside (said_by e))) is part in
    record {
      q = Other rest;
      made = refl;
      part = aside.1;
      begins = tt;
      ends = λ u end. tt;
      left = λ r apart. tt;
      right = λ r apart. right_other r;
      others = λ r apart mine. aside_others (said_by e) d t aside.0 moves r mine;
    }
  where
    right_other : (r : Part) → IsApart r (Other rest)
    right_other (Written w v made) = tt
    right_other (Other made) = tt
next_of_part (Written w v made) e rest d t is part begins moves = by (subst (λ es. Follows w (said_in es) v) is part)
  where
    left_same : (x : Writer) → x.number ≡ w.number → (r : Part) → IsApart (Written w v made) r → IsApart (Written x v rest) r
    left_same x same (Written y z more) apart = λ is. apart (sym same ∙ is)
    left_same x same (Other more) apart = tt

    right_same : (x : Writer) → x.number ≡ w.number → (r : Part) → IsApart r (Written w v made) → IsApart r (Written x v rest)
    right_same x same (Written y z more) apart = λ is. apart (is ∙ same)
    right_same x same (Other more) apart = tt

    by : Follows w (said_by e ∷ said_in rest) v → Next (Written w v made) rest d t
    by (inl aside) = record {
      q = Written w v rest;
      made = refl;
      part = aside.1;
      begins = aside_others (said_by e) d t aside.0 moves (Written w v rest) begins;
      ends = λ u end. end;
      left = left_same w refl;
      right = right_same w refl;
      others = λ r apart mine. aside_others (said_by e) d t aside.0 moves r mine;
    }
    by (inr own) = record {
      q = Written (told w own.1) v rest;
      made = refl;
      part = own.4;
      begins = made_own w (said_by e) d t own.0 own.1 own.2 own.3 moves begins;
      ends = λ u end. end;
      left = left_same (told w own.1) (number_told w own.1);
      right = right_same (told w own.1) (number_told w own.1);
      others = own_others w (said_by e) d t own.0 own.1 v made own.2 own.3 moves begins;
    }

-- ---- all parts

-- after a call of one of them
record Moved (i : ℕ) (parts : List Part) (rest : List JobEntry) (d t : Donor) : Type 0 where
  left : List Part
  made : map made_by left ≡ set (map made_by parts) i rest
  are : AllByRecursion IsPart left
  begin : AllByRecursion (Begins t) left
  apart : AreApart left
  ends : (u : Donor) → AllByRecursion (Ends u) left → AllByRecursion (Ends u) parts
  still : (r : Part) → AllByRecursion (IsApart r) parts → AllByRecursion (IsApart r) left
  spares : (r : Part) → AllByRecursion (IsApart r) parts → Begins d r → Begins t r

all_left : (p q : Part) (parts : List Part) → ((r : Part) → IsApart p r → IsApart q r) → AllByRecursion (IsApart p) parts → AllByRecursion (IsApart q) parts
all_left p q [] to all = tt
all_left p q (r ∷ parts) to all = (to r all.0, all_left p q parts to all.1)

all_begin : (p : Part) (parts : List Part) (d t : Donor) → ((r : Part) → IsApart r p → Begins d r → Begins t r) → AllByRecursion (IsApart p) parts → AllByRecursion (Begins d) parts → AllByRecursion (Begins t) parts
all_begin p [] d t others apart begin = tt
all_begin p (r ∷ parts) d t others apart begin = (others r (turned p r apart.0) begin.0, all_begin p parts d t others apart.1 begin.1)
  where
    turned : (p r : Part) → IsApart p r → IsApart r p
    turned (Written w v made) (Written x y more) apart = λ is. apart (sym is)
    turned (Written w v made) (Other more) apart = tt
    turned (Other made) (Written x y more) apart = tt
    turned (Other made) (Other more) apart = tt

moved : (i : ℕ) (parts : List Part) (e : JobEntry) (rest : List JobEntry) (d t : Donor) → slice_get (map made_by parts) i ≡ Some (e ∷ rest) → AllByRecursion IsPart parts → AllByRecursion (Begins d) parts → AreApart parts
    → Moves (said_by e) d t → Moved i parts rest d t
moved i [] e rest d t first are begin apart moves = absurd cc
moved zero (p ∷ parts) e rest d t first are begin apart moves =
    let next = next_of_part p e rest d t (same_Some _ _ first) are.0 begin.0 moves in
    record {
      left = next.q ∷ parts;
      made = ap (λ es. es ∷ map made_by parts) next.made;
      are = (next.part, are.1);
      begin = (next.begins, all_begin p parts d t next.others apart.0 begin.1);
      apart = (all_left p next.q parts next.left apart.0, apart.1);
      ends = λ u ends. (next.ends u ends.0, ends.1);
      still = λ r all. (next.right r all.0, all.1);
      spares = λ r all mine. next.others r all.0 mine;
    }
moved (suc i) (p ∷ parts) e rest d t first are begin apart moves =
    let later = moved i parts e rest d t first are.1 begin.1 apart.1 moves in
    record {
      left = p ∷ later.left;
      made = ap (λ ess. made_by p ∷ ess) later.made;
      are = (are.0, later.are);
      begin = (later.spares p apart.0 begin.0, later.begin);
      apart = (later.still p apart.0, later.apart);
      ends = λ u ends. (ends.0, later.ends u ends.1);
      still = λ r all. (all.0, later.still r all.1);
      spares = λ r all mine. later.spares r all.1 mine;
    }

-- nothing is left of any part
all_ended : (parts : List Part) (d : Donor) → AllByRecursion (λ part. part ≡ []) (map made_by parts) → AllByRecursion IsPart parts → AllByRecursion (Begins d) parts → AllByRecursion (Ends d) parts
all_ended [] d none are begin = tt
all_ended (Written w v made ∷ parts) d none are begin =
    let same : v ≡ w = subst (λ es. Follows w (said_in es) v) none.0 are.0 in
    (subst (λ x. Agree x d) (sym same) begin.0, all_ended parts d none.1 are.1 begin.1)
all_ended (Other made ∷ parts) d none are begin = (tt, all_ended parts d none.1 are.1 begin.1)

pub all_written : (s : SharedDonor) (run : List JobEntry) (parts : List Part) → AllMove s run → IsShuffled (map made_by parts) run → AllByRecursion IsPart parts → AreApart parts → AllByRecursion (Begins (plain s)) parts
    → AllByRecursion (Ends (plain (end_of s run))) parts
all_written s [] parts moves shuffled are apart begin = all_ended parts (plain s) shuffled are begin
all_written s (e ∷ run) parts moves (i, rest, first, later) are apart begin =
    let next = moved i parts e rest (plain s) (plain e.after) first are begin apart moves.0 in
    next.ends (plain (end_of e.after run))
    (all_written e.after run next.left moves.1 (subst (λ ess. IsShuffled ess run) (sym next.made) later) next.are next.apart next.begin)
