-- Marks of ends: which end a mark has, as far as its bytes tell.
use Rattle.std.proofs.Common.{◌≡◌, ◌<◌, ◌^◌, ◌++◌, ◌∷◌, ℕ, List, replicate, take, drop, get_or, sym, ap, ◌∙◌, arith}
use Rattle.std.specs.Prelude.{codes}
use Rattle.std.specs.Int.{w64, to_be_bytes, from_be_bytes}
use Rattle.std.proofs.lemmas.Nat.{from_be_bytes-to_be_bytes_8}
use Rattle.std.proofs.lemmas.Option.{same_Some}
use Rattle.clone_outside.specs.Disk.{DiskImage}
use Rattle.clone_outside.specs.Mark.{mark_bytes}
use Rattle.clone_outside.specs.MarkLayout.{mark_layout}
use Rattle.clone_outside.specs.declared.mark.CloneEnd.{CloneEnd}
use Rattle.clone_outside.specs.declared.mark.Mark.{Mark}
use Rattle.clone_outside.specs.declared.mark.Mark.TheVariants as mark
use Rattle.clone_recover.specs.Restores.{HasMark}

-- eight bytes of a mark
abbrev eight_at : ℕ → List ℕ → List ℕ
eight_at at bytes = take 8 (drop at bytes)

number_in : (a b : ℕ) → a < 2 ^ 64 → b < 2 ^ 64 → to_be_bytes w64 a ≡ to_be_bytes w64 b → a ≡ b
number_in a b low small same = sym (from_be_bytes-to_be_bytes_8 a low) ∙ ap (from_be_bytes w64) same ∙ from_be_bytes-to_be_bytes_8 b small

-- two marks of one disk
one_mark : (m : DiskImage) (a b : Mark) → HasMark m a → HasMark m b → mark_bytes a ≡ mark_bytes b
one_mark m a b first second = same_Some (mark_bytes a) (mark_bytes b) (sym first ∙ second)

-- a complete mark is no recovered one, and neither is one of a clone under way
pub not_both : (m : DiskImage) (a b : CloneEnd) → HasMark m (mark.Complete a) → HasMark m (mark.Recovered b) → ⊥
not_both m a b complete recovered = let e : 2 ≡ 3 = ap (λ bytes. get_or bytes 8 0) (one_mark m (mark.Complete a) (mark.Recovered b) complete recovered) in omega (arith, e)

pub not_under_way : (m : DiskImage) (a : CloneEnd) (session : ℕ) → HasMark m (mark.Complete a) → HasMark m (mark.InProgress session) → ⊥
not_under_way m a session complete begun = let e : 2 ≡ 1 = ap (λ bytes. get_or bytes 8 0) (one_mark m (mark.Complete a) (mark.InProgress session) complete begun) in omega (arith, e)

pub recovered_not_under_way : (m : DiskImage) (a : CloneEnd) (session : ℕ) → HasMark m (mark.Recovered a) → HasMark m (mark.InProgress session) → ⊥
recovered_not_under_way m a session recovered begun = let e : 3 ≡ 1 = ap (λ bytes. get_or bytes 8 0) (one_mark m (mark.Recovered a) (mark.InProgress session) recovered begun) in omega (arith, e)

pub not_numbered : (m : DiskImage) (a b : CloneEnd) → HasMark m (mark.Complete a) → HasMark m (mark.Ending b) → ⊥
not_numbered m a b complete begun = let e : 2 ≡ 1 = ap (λ bytes. get_or bytes 8 0) (one_mark m (mark.Complete a) (mark.Ending b) complete begun) in omega (arith, e)

pub recovered_not_numbered : (m : DiskImage) (a b : CloneEnd) → HasMark m (mark.Recovered a) → HasMark m (mark.Ending b) → ⊥
recovered_not_numbered m a b recovered begun = let e : 3 ≡ 1 = ap (λ bytes. get_or bytes 8 0) (one_mark m (mark.Recovered a) (mark.Ending b) recovered begun) in omega (arith, e)

pub not_staged : (m : DiskImage) (a b : CloneEnd) → HasMark m (mark.Complete a) → HasMark m (mark.Staged b) → ⊥
not_staged m a b complete is = let e : 2 ≡ 4 = ap (λ bytes. get_or bytes 8 0) (one_mark m (mark.Complete a) (mark.Staged b) complete is) in omega (arith, e)

pub recovered_not_staged : (m : DiskImage) (a b : CloneEnd) → HasMark m (mark.Recovered a) → HasMark m (mark.Staged b) → ⊥
recovered_not_staged m a b recovered is = let e : 3 ≡ 4 = ap (λ bytes. get_or bytes 8 0) (one_mark m (mark.Recovered a) (mark.Staged b) recovered is) in omega (arith, e)

-- two ends that one mark has: they begin and end alike, and a session and a position are told by 64 bits
pub record OneEnd (a b : CloneEnd) : Type 0 where
  pub session : to_be_bytes w64 a.session ≡ to_be_bytes w64 b.session
  pub checkpoint : a.checkpoint ≡ b.checkpoint
  pub lsn : a.lsn ≡ b.lsn
  pub position : to_be_bytes w64 a.position ≡ to_be_bytes w64 b.position

by_bytes : (kind : ℕ) (a b : CloneEnd) → mark_layout kind a.session a.checkpoint a.lsn a.position ≡ mark_layout kind b.session b.checkpoint b.lsn b.position → OneEnd a b
by_bytes kind a b same = record {
  session = ap (eight_at 16) same;
  checkpoint = number_in a.checkpoint b.checkpoint (omega (arith, a.ordered, a.within)) (omega (arith, b.ordered, b.within)) (ap (eight_at 24) same);
  lsn = number_in a.lsn b.lsn (omega (arith, a.within)) (omega (arith, b.within)) (ap (eight_at 32) same);
  position = ap (eight_at 40) same;
}

pub one_complete : (m : DiskImage) (a b : CloneEnd) → HasMark m (mark.Complete a) → HasMark m (mark.Complete b) → OneEnd a b
one_complete m a b first second = by_bytes 2 a b (one_mark m (mark.Complete a) (mark.Complete b) first second)

pub one_recovered : (m : DiskImage) (a b : CloneEnd) → HasMark m (mark.Recovered a) → HasMark m (mark.Recovered b) → OneEnd a b
one_recovered m a b first second = by_bytes 3 a b (one_mark m (mark.Recovered a) (mark.Recovered b) first second)

pub one_position : (a b : CloneEnd) → a.position < 2 ^ 64 → b.position < 2 ^ 64 → OneEnd a b → a.position ≡ b.position
one_position a b low small one = number_in a.position b.position low small one.position

-- their recovered marks are one
pub same_recovered : (a b : CloneEnd) → OneEnd a b → mark_bytes (mark.Recovered a) ≡ mark_bytes (mark.Recovered b)
same_recovered a b one = laid one.session (ap (to_be_bytes w64) one.checkpoint) (ap (to_be_bytes w64) one.lsn) one.position
  where
    laid : {s t c d l k p q : List ℕ} → s ≡ t → c ≡ d → l ≡ k → p ≡ q
        → codes "CLONMARK" ++ 3 ∷ replicate 7 0 ++ s ++ c ++ l ++ p ++ replicate 16 0 ≡ codes "CLONMARK" ++ 3 ∷ replicate 7 0 ++ t ++ d ++ k ++ q ++ replicate 16 0
    laid session checkpoint lsn position = λ i. codes "CLONMARK" ++ 3 ∷ replicate 7 0 ++ session i ++ checkpoint i ++ lsn i ++ position i ++ replicate 16 0
