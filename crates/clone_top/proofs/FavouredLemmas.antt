-- Where all is favourable, a run ends well.
use Rattle.std.proofs.Common.{◌≡◌, ◌∙◌, ◌⊎◌, ◌≤◌, ◌<◌, ◌++◌, inl, inr, ℕ, List, [], Bool, true, false, length, refl, sym, ap, subst, arith, append-nil, length-append, Option, None, Some}
use Rattle.std.specs.Prelude.{◌≢◌}
use Rattle.std.proofs.lemmas.Option.{same_Some}
use Rattle.clone_outside.specs.Bytes.{IsSpent, prepended}
use Rattle.clone_outside.specs.Causes.{Rose}
use Rattle.clone_outside.specs.Disk.{DiskImage, ForTold, blank}
use Rattle.clone_plain.specs.Answers.{Text}
use Rattle.clone_script.specs.Script.{IsFirstBad}
use Rattle.clone_script.specs.declared.read.TheConstants.{LONGEST_SCRIPT}
use Rattle.clone_engine.specs.Opened.{IsNotEmpty}
use Rattle.clone_events.specs.World.{Clone, IsHonest, Progress, absent, copying, over, complete, broken, spent, garbled, refused}
use Rattle.clone_core.specs.Ending.{ending_by, ending_of}
use Rattle.clone_core.specs.declared.world.Ending.{Ending}
use Rattle.clone_core.specs.declared.world.Ending.TheVariants as ending
use Rattle.clone_top.specs.Causes.{FailsDonor, Hinders, at_look, at_opening}
use Rattle.clone_top.specs.Completeness.{GoesUndisturbed, HasGoodScript, HoldNothing, NoneRose}
use Rattle.clone_top.specs.Ends.{Disks, GaveAll, GaveTooMuch, Streams}
use Rattle.clone_top.specs.declared.status.Status.{Status}
use Rattle.clone_top.specs.declared.status.Status.TheVariants.{Done, Memory, Usage, BadLine, SourceFault, SinkFault, DonorFault, RecipientFault, RestartsSpent, Garbled, Refused, NotEmpty, CrewFault, Incomplete, Damaged, CompressionRefused, TooLong}
use Rattle.clone_top.proofs.FairLemmas.{IsFair, IsFairBy}

-- ---- no line is hindered

not_empty : (told : Option DiskImage) → told ≡ Some blank → ForTold told IsNotEmpty → ⊥
not_empty told is not = by (subst (λ (o : Option DiskImage). ForTold o IsNotEmpty) is not)
  where
    by : IsNotEmpty blank → ⊥
    by (inl spaces) = spaces refl
    by (inr mark) = mark refl

-- what was given is a front of what there was
given_front : (script taken : List ℕ) (told rest : Option (List ℕ)) → told ≡ Some script → told ≡ prepended taken rest → (left : List ℕ) × (rest ≡ Some left) × (script ≡ taken ++ left)
given_front script taken told None has given = absurd (let e : Some script ≡ None = sym has ∙ given in cc)
given_front script taken told (Some left) has given = (left, refl, same_Some script (taken ++ left) (sym has ∙ given))

too_long : (old new : Streams) (taken : List ℕ) → HasGoodScript old.source → GaveTooMuch old.source new.source taken → ⊥
too_long old new taken good gave =
    let (left, rest, is) = given_front good.script taken old.source.told new.source.told good.told gave.given in
    let sum : length (taken ++ left) ≤ LONGEST_SCRIPT = subst (λ (bytes : List ℕ). length bytes ≤ LONGEST_SCRIPT) is good.short in
    omega (arith, sum, gave.long, length-append taken left)

bad_line : (old new : Streams) (taken : List ℕ) (number : ℕ) → HasGoodScript old.source → GaveAll old.source new.source taken → IsFirstBad taken number → ⊥
bad_line old new taken number good gave bad =
    let (left, rest, is) = given_front good.script taken old.source.told new.source.told good.told gave.given in
    let none : left ≡ [] = same_Some left [] (subst IsSpent rest gave.spent) in
    good.good number (subst (λ (bytes : List ℕ). IsFirstBad bytes number) (sym (is ∙ ap (λ (x : List ℕ). taken ++ x) none ∙ append-nil taken)) bad)

fails_not : (given back : Disks) → (Rose given.donor.failures back.donor.failures → ⊥) → FailsDonor given back → ⊥
fails_not given back never (at_look looks kept rose) = never rose
fails_not given back never (at_opening empty visits looks rose) = never rose

pub unhindered : (due : Status) (text : Text) (old new : Streams) (given back : Disks) → Hinders due old new given back text → HasGoodScript old.source → HoldNothing given → NoneRose old new given back → ⊥
unhindered SourceFault text old new given back why good empty none = none.source why.0
unhindered TooLong text old new given back why good empty none = too_long old new why.0 good why.1
unhindered BadLine text old new given back why good empty none = bad_line old new why.0 why.1 good why.2 why.3
unhindered DonorFault text old new given back why good empty none = fails_not given back none.donor why.1
unhindered RecipientFault text old new given back why good empty none = none.recipient why.2
unhindered NotEmpty text old new given back why good empty none = elim why.2 [
  | inl not ↦ not_empty given.donor.told empty.donor not
  | inr not ↦ not_empty given.recipient.told empty.recipient not
]
unhindered Done text old new given back why good empty none = why
unhindered Memory text old new given back why good empty none = why
unhindered Usage text old new given back why good empty none = why
unhindered SinkFault text old new given back why good empty none = why
unhindered RestartsSpent text old new given back why good empty none = why
unhindered Garbled text old new given back why good empty none = why
unhindered Refused text old new given back why good empty none = why
unhindered Incomplete text old new given back why good empty none = why
unhindered Damaged text old new given back why good empty none = why
unhindered CrewFault text old new given back why good empty none = why
unhindered CompressionRefused text old new given back why good empty none = why

-- ---- how the clone ended

-- so it ended otherwise
pub ends_otherwise : (clone : Clone) → GoesUndisturbed clone → IsFair clone → (ending_of clone ≡ ending.RestartsSpent) ⊎ (ending_of clone ≡ ending.Garbled) ⊎ (ending_of clone ≡ ending.Refused) → ⊥
ends_otherwise clone goes fair which = by clone.progress refl clone.doubted which
  where
    ended : (doubted : Bool) (e : Ending) → ending_by absent doubted ≡ e → (e ≡ ending.Well) ⊎ (e ≡ ending.RecipientFault)
    ended true e is = inr (sym is)
    ended false e is = inl (sym is)

    neither : (e : Ending) → (e ≡ ending.Well) ⊎ (e ≡ ending.RecipientFault) → (e ≡ ending.RestartsSpent) ⊎ (e ≡ ending.Garbled) ⊎ (e ≡ ending.Refused) → ⊥
    neither e (inl well) (inl is) = absurd (let no : ending.Well ≡ ending.RestartsSpent = sym well ∙ is in cc)
    neither e (inl well) (inr (inl is)) = absurd (let no : ending.Well ≡ ending.Garbled = sym well ∙ is in cc)
    neither e (inl well) (inr (inr is)) = absurd (let no : ending.Well ≡ ending.Refused = sym well ∙ is in cc)
    neither e (inr fault) (inl is) = absurd (let no : ending.RecipientFault ≡ ending.RestartsSpent = sym fault ∙ is in cc)
    neither e (inr fault) (inr (inl is)) = absurd (let no : ending.RecipientFault ≡ ending.Garbled = sym fault ∙ is in cc)
    neither e (inr fault) (inr (inr is)) = absurd (let no : ending.RecipientFault ≡ ending.Refused = sym fault ∙ is in cc)

    by : (p : Progress) → clone.progress ≡ p → (doubted : Bool) → (ending_by clone.progress doubted ≡ ending.RestartsSpent) ⊎ (ending_by clone.progress doubted ≡ ending.Garbled) ⊎ (ending_by clone.progress doubted ≡ ending.Refused) → ⊥
    by absent is doubted how = neither (ending_by clone.progress doubted) (ended doubted (ending_by clone.progress doubted) (ap (λ (p : Progress). ending_by p doubted) (sym is))) how
    by copying is doubted how = neither (ending_by clone.progress doubted) (ended doubted (ending_by clone.progress doubted) (ap (λ (p : Progress). ending_by p doubted) (sym is))) how
    by (over (complete position)) is doubted how = neither (ending_by clone.progress doubted) (ended doubted (ending_by clone.progress doubted) (ap (λ (p : Progress). ending_by p doubted) (sym is))) how
    by (over broken) is doubted how = neither (ending_by clone.progress doubted) (inr (ap (λ (p : Progress). ending_by p doubted) is)) how
    by (over (spent losses)) is doubted how = goes.outlasted losses is
    by (over (garbled bytes)) is doubted how = subst (λ (p : Progress). IsFairBy p clone) is fair goes.honest
    by (over (refused words)) is doubted how = subst (λ (p : Progress). IsFairBy p clone) is fair goes.honest goes.alone
