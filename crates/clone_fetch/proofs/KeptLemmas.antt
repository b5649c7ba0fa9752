-- What is kept of bytes that are garbled is the same, however often it is looked up.
use Rattle.std.proofs.Common.{ℕ, ◌≡◌, List, Result, Ok, Err, refl, sym, ap, ◌∙◌, length, take}
use Rattle.std.specs.Prelude.{◌+◌, min, drop}
use Rattle.clone_wire.specs.declared.frame.Side.{Side}
use Rattle.clone_wire.specs.declared.fault.HeadRefusal.{HeadRefusal}
use Rattle.clone_wire.specs.declared.fault.HeadRefusal.TheVariants as head
use Rattle.clone_wire.specs.declared.limits.TheConstants.{HEAD_BYTES}
use Rattle.clone_wire.specs.Answers.{ReadsHead}
use Rattle.clone_stream.specs.Taking.{IsKept, end_by}
use Rattle.clone_stream.specs.declared.taking.TheConstants.{MOST_KEPT}

one_end : (side : Side) (bytes : List ℕ) (a b : Result (ℕ × ℕ) HeadRefusal) → ReadsHead side bytes a → ReadsHead side bytes b → end_by a (length bytes) ≡ end_by b (length bytes)
one_end side bytes (Ok f) (Ok g) p q =
    let pairs : ◌≡◌ {A = (ℕ × ℕ) × List ℕ} (f, drop 5 bytes) (g, drop 5 bytes) = cc in
    ap (λ (x : (ℕ × ℕ) × List ℕ). min (HEAD_BYTES + x.0.1) (length bytes)) pairs
one_end side bytes (Ok f) (Err (head.NotYet need)) p q = let short = q.1 in absurd (cc)
one_end side bytes (Ok f) (Err (head.Garbled at)) p q = absurd (cc)
one_end side bytes (Err (head.NotYet need)) (Ok g) p q = let short = p.1 in absurd (cc)
one_end side bytes (Err (head.Garbled at)) (Ok g) p q = absurd (cc)
one_end side bytes (Err x) (Err y) p q = refl

pub one_kept : (side : Side) (bytes a b : List ℕ) → IsKept side bytes a → IsKept side bytes b → a ≡ b
one_kept side bytes a b p q =
    let ends : p.0 ≡ q.0 = p.1.2 ∙ one_end side bytes p.1.0 q.1.0 p.1.1 q.1.1 ∙ sym q.1.2 in
    p.2 ∙ ap (λ (end : ℕ). take (min MOST_KEPT end) bytes) ends ∙ sym q.2
