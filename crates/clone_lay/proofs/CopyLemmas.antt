-- A copy that is completed, and what a stop within leaves.
use Rattle.std.proofs.Common.{◌≡◌, ◌⊎◌, inl, inr, ⊎_elim, ℕ, List, [], get_or, refl, sym, ap, ◌∙◌, subst, Some, None, arith}
use Rattle.std.specs.Prelude.{option_map, unwrap_or}
use Rattle.std.specs.declared.option.Option.{Option}
use Rattle.clone_outside.specs.Disk.{DiskImage, ForTold, IsBeforeOrAfter, Steps, with_mark}
use Rattle.clone_outside.specs.Mark.{end_bytes}
use Rattle.clone_outside.specs.Scopes.{OnlyMark}
use Rattle.clone_outside.specs.Stops.{IsClosed, IsTornMark, Keeps, Moments, Stays}
use Rattle.clone_outside.specs.declared.mark.CloneEnd.{CloneEnd}
use Rattle.clone_outside.specs.declared.mark.Mark.TheVariants.{Ending, Complete}
use Rattle.clone_outside.proofs.ScopeLemmas.{marked_either, torn_kind}
use Rattle.clone_outside.proofs.StopLemmas.{IsPreorder, keeps_from, keeps_then, stays_from}
use Rattle.clone_lay.specs.Copying.{IsCompleting, IsInCopy, StaysInCopy, before, numbered, done}
use Rattle.clone_lay.specs.Marked.{marked}

pub in_copy_order : (end : CloneEnd) → IsPreorder (StaysInCopy end)
in_copy_order end = record {
  itself = λ m. record { spaces = refl; mark = λ is. is };
  then = λ a b c first second. record { spaces = second.spaces ∙ first.spaces; mark = λ is. second.mark (first.mark is) };
}

torn_byte : (bytes : List ℕ) (old new : Option (List ℕ)) → get_or bytes 8 0 ≡ 1 → get_or (unwrap_or old []) 8 0 ≡ 1 → IsTornMark bytes old new → get_or (unwrap_or new []) 8 0 ≡ 1
torn_byte bytes old None one was torn = absurd (let e : 0 ≡ 1 = sym (ap (λ (o : Option (List ℕ)). get_or (unwrap_or o []) 8 0) torn) ∙ was in omega (arith, e))
torn_byte bytes old (Some new) one was torn = ⊎_elim (λ e. e ∙ one) (λ e. e ∙ was) (torn.1 8)

-- the in-progress mark is written over such a mark, or over the complete one
pub numbers_in_copy : (end : CloneEnd) (d c : DiskImage) → OnlyMark (end_bytes 1 end) d c → StaysInCopy end d c
numbers_in_copy end d c only = record { spaces = only.spaces; mark = λ was. at was only.mark }
  where
    at : IsInCopy end d → (c.mark ≡ d.mark) ⊎ IsTornMark (end_bytes 1 end) d.mark c.mark → IsInCopy end c
    at (inl one) (inl same) = inl (ap (λ (o : Option (List ℕ)). get_or (unwrap_or o []) 8 0) same ∙ one)
    at (inl one) (inr torn) = inl (torn_byte (end_bytes 1 end) d.mark c.mark refl one torn)
    at (inr two) (inl same) = inr (same ∙ two)
    at (inr two) (inr torn) =
        ⊎_elim (λ e. inl (ap (λ (o : Option (List ℕ)). get_or (unwrap_or o []) 8 0) e)) (λ e. inr e)
        (torn_kind 1 2 end c.mark (subst (λ (o : Option (List ℕ)). IsTornMark (end_bytes 1 end) o c.mark) two torn))

-- the complete mark is written over the in-progress one with its numbers
complete_in_copy : (end : CloneEnd) (d c : DiskImage) → d.mark ≡ Some (end_bytes 1 end) → OnlyMark (end_bytes 2 end) d c → StaysInCopy end d c
complete_in_copy end d c kind only = record {
  spaces = only.spaces;
  mark = λ was. ⊎_elim (λ e. inr e) (λ e. inl (ap (λ (o : Option (List ℕ)). get_or (unwrap_or o []) 8 0) e)) (marked_either 2 1 end d c kind only);
}

numbered_told : (old told : Option DiskImage) (end : CloneEnd) → Steps old told (marked (Ending end)) → (m : DiskImage) → told ≡ Some m → m.mark ≡ Some (end_bytes 1 end)
numbered_told None told end steps m tells = absurd (let e = sym tells ∙ steps in cc)
numbered_told (Some k) told end steps m tells = let same : Some (marked (Ending end) k) ≡ Some m = sym steps ∙ tells in ap (λ (o : Option DiskImage). unwrap_or (option_map (λ (d : DiskImage). d.mark) o) None) (sym same)

-- the numbers stay, and then the complete mark is written
pub completed_keeps : (old told : Option DiskImage) (s0 s1 s2 : Option Moments) (end : CloneEnd) → Stays told s1 → Steps old told (marked (Ending end)) → Keeps (StaysInCopy end) s0 s1 → Keeps (OnlyMark (end_bytes 2 end)) s1 s2 → Keeps (StaysInCopy end) s0 s2
completed_keeps old told s0 s1 s2 end stays steps first second =
    keeps_then (StaysInCopy end) (in_copy_order end) s0 s1 s2 first
    (keeps_from (OnlyMark (end_bytes 2 end)) (StaysInCopy end) s1 s2 second
    (stays_from (OnlyMark (end_bytes 2 end)) (StaysInCopy end) told s1 stays
    (λ m image c tells closes only. complete_in_copy end image c (closes.mark ∙ numbered_told old told end steps m tells) only)))

marked_twice : (end : CloneEnd) (old : Option DiskImage) → option_map (marked (Complete end)) (option_map (marked (Ending end)) old) ≡ option_map (marked (Complete end)) old
marked_twice end None = refl
marked_twice end (Some m) = refl

-- the mark after both
pub then_complete : (end : CloneEnd) (old mid new : Option DiskImage) → Steps old mid (marked (Ending end)) → Steps mid new (marked (Complete end)) → Steps old new (marked (Complete end))
then_complete end old mid new first second = second ∙ ap (option_map (marked (Complete end))) first ∙ marked_twice end old

pub partly_numbered : (end : CloneEnd) (old new : Option DiskImage) → IsBeforeOrAfter old new (marked (Ending end)) → IsCompleting end old new
partly_numbered end old new (inl same) = before same
partly_numbered end old new (inr steps) = numbered steps

pub partly_complete : (end : CloneEnd) (old mid new : Option DiskImage) → Steps old mid (marked (Ending end)) → IsBeforeOrAfter mid new (marked (Complete end)) → IsCompleting end old new
partly_complete end old mid new first (inl same) = numbered (same ∙ first)
partly_complete end old mid new first (inr steps) = done (then_complete end old mid new first steps)
