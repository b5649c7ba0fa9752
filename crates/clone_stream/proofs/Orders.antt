-- Frames that are taken from a front of their spellings are those that were sent, in order.
use Rattle.std.proofs.Common.{◌≡◌, ℕ, ◌≤◌, ◌<◌, List, [], ◌∷◌, ◌++◌, length, take, drop, Result, Ok, Err, refl, sym, ap, subst, ◌∙◌, append_assoc, arith, inl, inr, length-append}
use mathlib.Core.List.{IsPrefix}
use Rattle.std.proofs.lemmas.Bool.{cases_lt}
use Rattle.std.proofs.lemmas.List.{take-append-drop, length-take}
use Rattle.clone_bytes.specs.Fields.{IsBytes}
use Rattle.clone_wire.specs.declared.frame.Side.{Side}
use Rattle.clone_wire.specs.declared.frame.Frame.{Frame}
use Rattle.clone_wire.specs.declared.fault.WireRefusal.{WireRefusal}
use Rattle.clone_wire.specs.declared.fault.WireRefusal.TheVariants.{NotYet, Garbled, NoMemory}
use Rattle.clone_wire.specs.Spelling.{code_of, payload, spelling}
use Rattle.clone_wire.specs.Answers.{Spells, BeginsNone, IsLost, StopsAt, Decodes}
use Rattle.clone_bytes.proofs.Numbers.{IsBytes-append, IsBytes-back}
use Rattle.clone_wire.proofs.Unique.{one_spelling}
use Rattle.clone_wire.proofs.Decoding.{spells_back, only_spelling}
use Rattle.byteorder.specs.Endian.{big_bytes}
use Rattle.clone_stream.specs.Streams.{spellings, IsFrameOf, AreFramesOf, AreFrontOf, IsTakenOf, IsPartOf, ReadsNext}

pub spells : (side : Side) (frame : Frame) → IsFrameOf side frame → Spells side (spelling frame) frame
spells side frame of = spells_back side frame of.is (sym of.sender)

pub frame_of : (side : Side) (bytes : List ℕ) (frame : Frame) → Spells side bytes frame → IsFrameOf side frame
frame_of side bytes frame spelled = let only = only_spelling side bytes frame spelled in record { is = only.0; sender = sym only.1 }

none_left : (bytes more : List ℕ) → bytes ++ more ≡ [] → bytes ≡ []
none_left [] more e = refl
none_left (x ∷ bytes) more e = absurd (cc)

-- a spelling is not empty
spelling_some : (frame : Frame) → 1 ≤ length (spelling frame)
unfolding spelling
spelling_some frame = omega (arith, length-append (big_bytes 1 (code_of frame)) (big_bytes 4 (length (payload frame)) ++ payload frame))

nothing_spelled : (side : Side) (bytes : List ℕ) (found : Frame) (n : ℕ) → bytes ≡ [] → Spells side (take n bytes) found → ⊥
nothing_spelled side bytes found n empty spelled =
    let text = ap (length {A = ℕ}) (only_spelling side (take n bytes) found spelled).2 in
    let none = ap (length {A = ℕ}) empty in
    let some = spelling_some found in
    omega (arith, length-take n bytes)

are_bytes : (side : Side) (frames : List Frame) → AreFramesOf side frames → IsBytes (spellings frames)
are_bytes side [] of = λ i. omega arith
are_bytes side (frame ∷ frames) of = IsBytes-append (spelling frame) (spellings frames) (spells side frame of.0).bytes_fit (are_bytes side frames of.1)

cancel_left : {A : Type 0} (xs ys zs : List A) → xs ++ ys ≡ xs ++ zs → ys ≡ zs
cancel_left [] ys zs e = e
cancel_left (x ∷ xs) ys zs e = cancel_left xs ys zs (cc)

-- two frames at the front of the same bytes are one
pub same_front : (side : Side) (m n : Frame) (x y : List ℕ) → IsFrameOf side m → IsFrameOf side n → spelling m ++ x ≡ spelling n ++ y → (m ≡ n) × (x ≡ y)
same_front side m n x y p q e =
    let same = one_spelling side (spelling m) (spelling n) x y m n (spells side m p) (spells side n q) e in
    (same.1, cancel_left (spelling m) x y (e ∙ ap (λ t. t ++ y) (sym same.0)))

pub in_order : (side : Side) (sent taken : List Frame) (left : List ℕ) → AreFramesOf side sent → AreFramesOf side taken → IsPrefix (spellings taken ++ left) (spellings sent) → IsTakenOf sent taken left
in_order side sent [] left p q front = record { next = sent; order = refl; front = front }
in_order side [] (frame ∷ taken) left p q front = absurd (let some = spelling_some frame in omega (arith, ap length front.1, length-append (spelling frame) (spellings taken), length-append (spelling frame ++ spellings taken) left, length-append ((spelling frame ++ spellings taken) ++ left) front.0))
in_order side (other ∷ sent) (frame ∷ taken) left p q front =
    let all : spelling frame ++ ((spellings taken ++ left) ++ front.0) ≡ spelling other ++ spellings sent = sym (append_assoc (spelling frame) (spellings taken ++ left) front.0) ∙ ap (λ t. t ++ front.0) (sym (append_assoc (spelling frame) (spellings taken) left)) ∙ front.1 in
    let same = same_front side frame other ((spellings taken ++ left) ++ front.0) (spellings sent) q.0 p.0 all in
    let rest = in_order side sent taken left p.1 q.1 (front.0, same.1) in
    record { next = rest.next; order = cc (same.0, rest.order); front = rest.front }

-- ---- what reading answers of a front of frames

takes_next : (side : Side) (frame : Frame) (frames : List Frame) (bytes : List ℕ) (found : Frame) (n : ℕ) → AreFramesOf side (frame ∷ frames) → AreFrontOf bytes (frame ∷ frames) → Spells side (take n bytes) found
    → (found ≡ frame) × (take n bytes ≡ spelling frame) × AreFrontOf (drop n bytes) frames
takes_next side frame frames bytes found n of front spelled =
    let only = only_spelling side (take n bytes) found spelled in
    let parts : take n bytes ++ drop n bytes ≡ bytes = take-append-drop n bytes in
    let all : spelling found ++ (drop n bytes ++ front.0) ≡ spelling frame ++ spellings frames =
    ap (λ t. t ++ (drop n bytes ++ front.0)) (sym only.2) ∙ sym (append_assoc (take n bytes) (drop n bytes) front.0) ∙ ap (λ t. t ++ front.0) parts ∙ front.1 in
    let same = same_front side found frame (drop n bytes ++ front.0) (spellings frames) (frame_of side (take n bytes) found spelled) of.0 all in
    (same.0, only.2 ∙ ap spelling same.0, (front.0, same.1))

-- a front of two lists is a front of the first, or has it in front
shorter : {A : Type 0} (bytes more first rest : List A) → bytes ++ more ≡ first ++ rest → length bytes < length first → (after : List A) × (1 ≤ length after) × (bytes ++ after ≡ first)
shorter [] more [] rest e less = absurd (omega arith)
shorter [] more (x ∷ first) rest e less = (x ∷ first, omega arith, refl)
shorter (b ∷ bytes) more [] rest e less = absurd (omega arith)
shorter (b ∷ bytes) more (x ∷ first) rest e less =
    let next = shorter bytes more first rest (cc) (omega arith) in
    (next.0, next.1, cc (next.2, e))

longer : {A : Type 0} (bytes more first rest : List A) → bytes ++ more ≡ first ++ rest → length first ≤ length bytes → (after : List A) × (bytes ≡ first ++ after)
longer bytes more [] rest e enough = (bytes, refl)
longer [] more (x ∷ first) rest e enough = absurd (omega arith)
longer (b ∷ bytes) more (x ∷ first) rest e enough =
    let next = longer bytes more first rest (cc) (omega arith) in
    (next.0, cc (next.1, e))

part_of : (side : Side) (frames : List Frame) (bytes : List ℕ) → AreFramesOf side frames → AreFrontOf bytes frames → BeginsNone side bytes → IsPartOf bytes frames
part_of side [] bytes of front none = none_left bytes front.0 front.1
part_of side (frame ∷ frames) bytes of front none =
    elim (cases_lt (length bytes) (length (spelling frame))) [
      | inl less ↦ shorter bytes front.0 (spelling frame) (spellings frames) front.1 less
      | inr enough ↦ absurd (
          let parts = longer bytes front.0 (spelling frame) (spellings frames) front.1 enough in
          none (spelling frame) parts.0 frame parts.1 (spells side frame of.0))
    ]

never_lost : (side : Side) (frames : List Frame) (bytes : List ℕ) (at : ℕ) → AreFramesOf side frames → AreFrontOf bytes frames → IsLost side bytes → StopsAt side bytes at → ⊥
never_lost side [] bytes at of front lost stops = (let empty = ap (length {A = ℕ}) (none_left bytes front.0 front.1) in let inside = stops.within in omega arith)
never_lost side (frame ∷ frames) bytes at of front lost stops =
    let all = IsBytes-append (spelling frame) (spellings frames) (spells side frame of.0).bytes_fit (are_bytes side frames of.1) in
    let more_fit = IsBytes-back bytes front.0 (subst IsBytes (sym front.1) all) in
    lost front.0 more_fit (spelling frame) (spellings frames) frame front.1 (spells side frame of.0)

pub reads_next : (side : Side) (frames : List Frame) (bytes : List ℕ) (answer : Result (Frame × ℕ) WireRefusal) → AreFramesOf side frames → AreFrontOf bytes frames → Decodes side bytes answer → ReadsNext frames bytes answer
reads_next side [] bytes (Ok found) of front decoded = nothing_spelled side bytes found.0 found.1 (none_left bytes front.0 front.1) decoded.0
reads_next side (frame ∷ frames) bytes (Ok found) of front decoded = takes_next side frame frames bytes found.0 found.1 of front decoded.0
reads_next side [] bytes (Err (NotYet need)) of front decoded = none_left bytes front.0 front.1
reads_next side (frame ∷ frames) bytes (Err (NotYet need)) of front decoded = part_of side (frame ∷ frames) bytes of front decoded.0
reads_next side [] bytes (Err (Garbled at)) of front decoded = never_lost side [] bytes at of front decoded.0 decoded.1
reads_next side (frame ∷ frames) bytes (Err (Garbled at)) of front decoded = never_lost side (frame ∷ frames) bytes at of front decoded.0 decoded.1
reads_next side [] bytes (Err NoMemory) of front decoded = tt
reads_next side (frame ∷ frames) bytes (Err NoMemory) of front decoded = tt
