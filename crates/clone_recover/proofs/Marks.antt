-- What recovery answers, by the mark that a disk has.
use Rattle.std.proofs.Common.{◌≡◌, ◌≢◌, ℕ, List, refl, sym, ap, subst, ◌∙◌, Some, None}
use Rattle.std.specs.Prelude.{IfSome, IsNone}
use Rattle.std.specs.declared.option.Option.{Option}
use Rattle.clone_outside.specs.Disk.{DiskImage, ForTold, Steps}
use Rattle.clone_outside.specs.Mark.{mark_bytes, IsEnd, IsMark}
use Rattle.clone_outside.specs.declared.mark.CloneEnd.{CloneEnd}
use Rattle.clone_outside.specs.declared.mark.Mark.{Mark}
use Rattle.clone_outside.specs.declared.mark.Mark.TheVariants as mark
use Rattle.clone_recover.specs.Restores.{HasMark, HasRecovered, IsMarkOf, Answers, again, anew, ForStep, RestoresOn, numbers_of, IsIncomplete, unmarked, under_way, numbered, unplaced, IsCause, DamagedOn}
use Rattle.clone_recover.specs.declared.recovery.Recovered.{Recovered}
use Rattle.clone_recover.specs.declared.refusal.RecoverRefusal.{RecoverRefusal}
use Rattle.clone_recover.specs.declared.refusal.RecoverRefusal.TheVariants.{Incomplete, Damaged, DiskFault, NoMemory}

-- The mark that is read.

pub mark_read : (told : Option DiskImage) (bytes : List ℕ) (r : Option Mark) → ForTold told (λ m. Some bytes ≡ m.mark) → IfSome r (λ mark. mark_bytes mark ≡ bytes)
    → (IsNone r → (mark : Mark) → IsMark mark → mark_bytes mark ≢ bytes) → ForTold told (λ m. IsMarkOf m r)
mark_read None bytes r read found none = tt
mark_read (Some m) bytes None read found none = λ mark is has. none refl mark is (let e : Some (mark_bytes mark) ≡ Some bytes = sym has ∙ sym read in cc)
mark_read (Some m) bytes (Some mark) read found none = sym read ∙ ap (λ (xs : List ℕ). Some xs) (sym found)

pub no_mark : (told : Option DiskImage) → ForTold told (λ m. None ≡ m.mark) → ForTold told (λ m. IsMarkOf m None)
no_mark None read = tt
no_mark (Some m) read = λ mark is has. absurd (let e = read ∙ has in cc)

-- What stands behind an answer.

pub answers_again : (old new : Option DiskImage) (r : Option Mark) (end : CloneEnd) (numbers : Recovered) → new ≡ old → r ≡ Some (mark.Recovered end) → ForTold old (λ m. IsMarkOf m r) → numbers ≡ numbers_of end
    → ForStep old new (λ m n. Answers m n numbers)
answers_again None new r end numbers same is has gives = tt
answers_again (Some m) new r end numbers same is has gives = (m, (same, again end (subst (IsMarkOf m) is has) gives refl))

pub answers_anew : (old mid new : Option DiskImage) (r : Option Mark) (end : CloneEnd) (numbers : Recovered) → mid ≡ old → r ≡ Some (mark.Complete end) → ForTold old (λ m. IsMarkOf m r) → numbers ≡ numbers_of end
    → RestoresOn mid new end → ForStep old new (λ m n. Answers m n numbers)
answers_anew None mid new r end numbers same is has gives restores = tt
answers_anew (Some m) mid new r end numbers same is has gives restores =
    let s : RestoresOn (Some m) new end = subst (λ t. RestoresOn t new end) same restores in
    (s.0, (s.1.0, anew end (subst (IsMarkOf m) is has) gives s.1.1))

-- The recovered mark that a disk has then.

pub marked_again : (old new : Option DiskImage) (r : Option Mark) (end : CloneEnd) → IsEnd end → new ≡ old → r ≡ Some (mark.Recovered end) → ForTold old (λ m. IsMarkOf m r) → ForTold new HasRecovered
marked_again old new r end ranges same is has = at old (subst (λ (o : Option Mark). ForTold old (λ m. IsMarkOf m o)) is has) new same
  where
    at : (o : Option DiskImage) → ForTold o (λ m. HasMark m (mark.Recovered end)) → (n : Option DiskImage) → n ≡ o → ForTold n HasRecovered
    at None has n same = subst (λ (t : Option DiskImage). ForTold t HasRecovered) (sym same) tt
    at (Some m) has n same = subst (λ (t : Option DiskImage). ForTold t HasRecovered) (sym same) (end, ranges, has)

pub marked_anew : (new : Option DiskImage) (end : CloneEnd) → IsEnd end → ForTold new (λ m. HasMark m (mark.Recovered end)) → ForTold new HasRecovered
marked_anew None end ranges has = tt
marked_anew (Some m) end ranges has = (end, ranges, has)

pub marked_step : (old new : Option DiskImage) (step : DiskImage → DiskImage) (bytes : List ℕ) → ((m : DiskImage) → (step m).mark ≡ Some bytes) → Steps old new step → ForTold new (λ m. m.mark ≡ Some bytes)
marked_step None new step bytes marks is = subst (λ (t : Option DiskImage). ForTold t (λ m. m.mark ≡ Some bytes)) (sym is) tt
marked_step (Some m) new step bytes marks is = subst (λ (t : Option DiskImage). ForTold t (λ m. m.mark ≡ Some bytes)) (sym is) (marks m)

-- What stands behind a refusal.

pub incomplete_cause : (told : Option DiskImage) (r : Option Mark) (e : RecoverRefusal) → e ≡ Incomplete → ((m : DiskImage) → IsMarkOf m r → IsIncomplete m) → ForTold told (λ m. IsMarkOf m r)
    → ForTold told (λ m. IsCause m e)
incomplete_cause None r e is which has = tt
incomplete_cause (Some m) r e is which has = subst (IsCause m) (sym is) (which m has)

-- by the mark that was read
pub by_none : (r : Option Mark) → r ≡ None → (m : DiskImage) → IsMarkOf m r → IsIncomplete m
by_none r is m has = unmarked (subst (IsMarkOf m) is has)

pub by_progress : (r : Option Mark) (session : ℕ) → r ≡ Some (mark.InProgress session) → (m : DiskImage) → IsMarkOf m r → IsIncomplete m
by_progress r session is m has = under_way session (subst (IsMarkOf m) is has)

pub by_ending : (r : Option Mark) (end : CloneEnd) → r ≡ Some (mark.Ending end) → (m : DiskImage) → IsMarkOf m r → IsIncomplete m
by_ending r end is m has = numbered end (subst (IsMarkOf m) is has)

pub by_staged : (r : Option Mark) (end : CloneEnd) → r ≡ Some (mark.Staged end) → (m : DiskImage) → IsMarkOf m r → IsIncomplete m
by_staged r end is m has = unplaced end (subst (IsMarkOf m) is has)

damage_is_cause : (e : RecoverRefusal) (m : DiskImage) (end : CloneEnd) → IsMarkOf m (Some (mark.Complete end)) → DamagedOn (Some m) end e → (e ≡ Incomplete → ⊥) → IsCause m e
damage_is_cause Incomplete m end has damage known = absurd (known refl)
damage_is_cause (Damaged s p w) m end has damage known = (end, has, damage)
damage_is_cause DiskFault m end has damage known = tt
damage_is_cause NoMemory m end has damage known = tt

pub damage_cause : (old mid : Option DiskImage) (r : Option Mark) (end : CloneEnd) (e : RecoverRefusal) → mid ≡ old → r ≡ Some (mark.Complete end) → ForTold old (λ m. IsMarkOf m r) → DamagedOn mid end e → (e ≡ Incomplete → ⊥)
    → ForTold old (λ m. IsCause m e)
damage_cause None mid r end e same is has damage known = tt
damage_cause (Some m) mid r end e same is has damage known = damage_is_cause e m end (subst (IsMarkOf m) is has) (subst (λ t. DamagedOn t end e) same damage) known
