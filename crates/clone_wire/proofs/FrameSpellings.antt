-- The frames of a side are those in their ranges that it sends.
use Rattle.std.proofs.Common.{◌≡◌, ℕ, ◌+◌, ◌-◌, ◌*◌, ◌/◌, ◌≤◌, ◌==◌, true, false, List, [], ◌∷◌, ◌++◌, length, refl, sym, ap, subst, ◌∙◌, append_assoc, arith, inl, inr}
use Rattle.std.specs.List.{flat_map}
use Rattle.std.proofs.lemmas.Bool.{eqb-true, eqb-false}
use Rattle.std.proofs.lemmas.List.{length-append}
use Rattle.byteorder.specs.Endian.{big_bytes}
use Rattle.clone_bytes.specs.Formats.{Format, ◌&◌, run, list, IsFormat}
use Rattle.clone_bytes.proofs.Formats.{led_laws, worded, which}
use Rattle.clone_wire.specs.declared.fault.Fault.{Fault}
use Rattle.clone_wire.specs.declared.frame.Side.{Side}
use Rattle.clone_wire.specs.declared.frame.Side.TheVariants.{Command, Answer}
use Rattle.clone_wire.specs.declared.frame.Frame.{Frame}
use Rattle.clone_wire.specs.declared.frame.Frame.TheVariants.{Init, Attach, Reinit, Reinit2, Execute, Ack, Exit, Stage, Pages, Redo, End, Refused}
use Rattle.clone_chunk.specs.declared.spaces.SpaceSize.{SpaceSize}
use Rattle.clone_page.specs.declared.pages.PageAt.{PageAt}
use Rattle.clone_chunk.specs.declared.plan.StagePlan.{StagePlan}
use Rattle.clone_chunk.specs.declared.plan.StagePlan.TheVariants as plan
use Rattle.clone_wire.specs.Choices as Choices
use Rattle.clone_chunk.specs.Bitmaps.{Bits, ends_at}
use Rattle.clone_chunk.specs.Partials.{Taken}
use Rattle.clone_chunk.specs.declared.partials.PartialChunk.{PartialChunk}
use Rattle.clone_chunk.specs.declared.cause.CloneCause.{CloneCause}
use Rattle.clone_wire.specs.declared.fault.Fault.TheVariants.{Short}
use Rattle.clone_bytes.specs.Fields.{IsBytes}
use Rattle.clone_wire.specs.Frames.{IsOneOf, IsHead, codes, lengths}
use Rattle.clone_wire.specs.Ranges.{AllAre, IsPageAt, IsTakenBlocks, AreListed, IsPlan, IsFrame}
use Rattle.clone_chunk.specs.Plans.{spaces_of}
use Rattle.clone_wire.specs.Spelling.{side_of, code_of, space_bytes, page_bytes, partial_bytes, listed_bytes, taken_bytes, plan_bytes, payload, spelling}
use Rattle.clone_wire.specs.Reading.{refusals, framed, copy_in, attempt, counted, bytes_for, taken_in, init, attach, reinit, reinit2, ack, cause, payload_of, head, frame, frame_at}
use Rattle.clone_wire.specs.Reading as Reading
use Rattle.clone_wire.proofs.FieldFormats.{in_range, has_flag, has_copy, has_pages}
use Rattle.clone_wire.proofs.PlanFormats.{plan_is, has_plan, cause_fits, has_cause, only_one}
use Rattle.clone_wire.proofs.ListedLemmas.{listed_masks, listed_ascend, listed_numbers, listed_unset, are_listed}
use Rattle.clone_wire.proofs.TakenFormats.{parts_of, size_of_parts}
use Rattle.clone_wire.proofs.FrameFormats.{known, payload_laws, payload_text, head_laws}

-- ---- how long lists are

pub spaces_long : (xs : List SpaceSize) → length (flat_map space_bytes xs) ≡ 8 * length xs
spaces_long [] = refl
spaces_long (x ∷ xs) = let more = spaces_long xs in omega arith

pub pages_long : (xs : List PageAt) → AllAre IsPageAt xs → length (flat_map page_bytes xs) ≡ 4104 * length xs
pages_long [] are = refl
pages_long (x ∷ xs) are = let more = pages_long xs are.1 in let page = are.0.long in omega (arith, length-append x.page (flat_map page_bytes xs), length-append (page_bytes x) (flat_map page_bytes xs))

pub partials_long : (xs : List PartialChunk) → length (flat_map partial_bytes xs) ≡ 5 * length xs
partials_long [] = refl
partials_long (x ∷ xs) = let more = partials_long xs in omega arith

-- the counts of chunks and of partial chunks have four bytes each
taken_long : (taken : Taken) → length (taken_bytes taken) ≡ 8 + length taken.finished.bytes + 5 * length taken.partials
taken_long taken =
    let partials = partials_long taken.partials in
    let listed : length (listed_bytes taken.partials) ≡ 4 + 5 * length taken.partials = omega arith in
    omega (arith, length-append taken.finished.bytes (listed_bytes taken.partials))

-- ---- what was read is a frame of its code and its length

abbrev Sound : ℕ → ℕ → Frame → Type 0
Sound code long x = (code_of x ≡ code) × (length (payload x) ≡ long) × IsFrame x

framed_sound : {A : Type 0} {Has : A → Type 0} {make : A → Frame} (code long k : ℕ) (x : Frame) → (code == k) ≡ true → ((a : A) → Has a → Sound k long (make a)) → (a : A) × Has a × (make a ≡ x) → Sound code long x
framed_sound {make = make} code long k x e sound has = subst (λ c. Sound c long x) (sym (eqb-true code k e)) (subst (Sound k long) has.2 (sound has.0 has.1))

-- the last code of an answer
last_code : (code : ℕ) (side : Side) → IsOneOf (codes side) code → (code == 1) ≡ false → (code == 2) ≡ false → (code == 3) ≡ false → (code == 4) ≡ false → (code == 5) ≡ false → (code == 6) ≡ false → (code == 7) ≡ false
    → (code == 16) ≡ false → (code == 17) ≡ false → (code == 18) ≡ false → (code == 19) ≡ false → code ≡ 20
last_code code Command one a b c d e f r g h i j = let low = one.low in let high = one.high in omega (arith, eqb-false code 1 a, eqb-false code 2 b, eqb-false code 3 c, eqb-false code 4 d, eqb-false code 5 e, eqb-false code 6 f, eqb-false code 7 r)
last_code code Answer one a b c d e f r g h i j = let low = one.low in let high = one.high in omega (arith, eqb-false code 16 g, eqb-false code 17 h, eqb-false code 18 i, eqb-false code 19 j)

reinit_sound : (long : ℕ) → IsOneOf (lengths 3) long → (a : _) → (attempt & (copy_in 17 & counted (long - 17))).Has a → Sound 3 long (Reinit a.0 a.1.0 a.1.1.1)
reinit_sound long l a h =
    let b = h.1.1.1 in
    let count : a.1.1.0 ≡ a.1.1.1.count = ap (λ bits. bits.count) b.2 in
    let bytes : b.0 ≡ a.1.1.1.bytes = ap (λ bits. bits.bytes) b.2 in
    let size : length a.1.1.1.bytes ≡ long - 17 = ap length (sym bytes) ∙ b.1.0.0 in
    (refl, omega (arith, l.low, size), (h.0, record { few = omega (arith, h.1.1.0.high, l.high); long = omega (arith, h.1.1.0.low, h.1.1.0.high, l.high); end = subst (λ n. ends_at n a.1.1.1.bytes ≡ true) count (subst (λ t. ends_at a.1.1.0 t ≡ true) bytes b.1.1) }, subst IsBytes bytes b.1.0.1))

-- a bitmap and partial chunks that were read
taken_sound : (long : ℕ) (taken : Taken) → long ≤ 1056656 → (taken_in long).Has taken → IsTakenBlocks taken × (length (taken_bytes taken) ≡ 8 + long)
taken_sound long taken few has =
    let count = has.0.0 in
    let bits = has.0.1.0 in
    let parts = parts_of long (bytes_for count) has.1.0 in
    let b = has.1.1.0 in
    let same : bits.count ≡ count = sym (ap (λ (bits : Bits). bits.count) b.2) in
    let bytes : b.0 ≡ bits.bytes = ap (λ (bits : Bits). bits.bytes) b.2 in
    let size : length bits.bytes ≡ bytes_for count = ap length (sym bytes) ∙ b.1.0.0 in
    let xs = has.0.1.1.1 in
    let are = has.1.1.1.1.1 in
    let number : length xs ≡ (long - bytes_for count) / 5 = has.1.1.1.1.0 in
    let read : Taken = record { finished = bits; partials = xs } in
    let is : IsTakenBlocks read = record {
      bitmap = record { few = omega (arith, parts.bitmap); long = rw same size; end = rw same (subst (λ t. ends_at count t ≡ true) bytes b.1.1) };
      bytes = subst IsBytes bytes b.1.0.1;
      partials = record { few = omega (arith, parts.few); masks = listed_masks bits.bytes 0 xs are; ascending = listed_ascend bits.bytes 0 xs are };
      chunks = listed_numbers bits.bytes 0 xs are;
      unset = listed_unset bits.bytes 0 xs are;
    } in
    let text : length (taken_bytes read) ≡ 8 + long = omega (arith, taken_long read, parts.whole) in
    (subst IsTakenBlocks has.2 is, ap (λ (t : Taken). length (taken_bytes t)) (sym has.2) ∙ text)

reinit2_sound : (long : ℕ) → IsOneOf (lengths 7) long → (a : _) → (attempt & (copy_in 17 & taken_in (long - 21))).Has a → Sound 7 long (Reinit2 a.0 a.1.0 a.1.1)
reinit2_sound long l a h = let is = taken_sound (long - 21) a.1.1 (omega (arith, l.high)) h.1.1 in (refl, omega (arith, is.1, l.low), (h.0, is.0))

stage_sound : (long : ℕ) → IsOneOf (lengths 16) long → (a : _) → (attempt & Reading.stage_plan ((long - 43) / 8)).Has a → Sound 16 long (Stage a.0 a.1)
unfolding plan_bytes
stage_sound long l a h =
    let n = (long - 43) / 8 in
    let few : n ≤ 63 = omega (arith, l.high) in
    let p = h.1 in
    let is = plan_is n p.0 few p.1 in
    let text : length (plan_bytes a.1) ≡ 31 + 8 * n = ap (λ q. length (plan_bytes q)) (sym p.2) ∙ ap length (sym is.0) ∙ (let spaces = spaces_long p.0.1.1.1.1.1.1 in let count = p.1.1.1.1.1.1.1.0 in omega arith) in
    (refl, omega (arith, text, l.low, l.high, l.steps), (h.0, subst IsPlan p.2 is.1))

pages_sound : (long : ℕ) → IsOneOf (lengths 17) long → (a : _) → (attempt & (Reading.pages_in 17 & (Reading.word 4 & (Reading.word 1 & (Reading.number_in 23 1 (Choices.only ((long - 19) / 4104)) & list Reading.page ((long - 19) / 4104)))))).Has a → Sound 17 long (Pages a.0 a.1.0 a.1.1.0 a.1.1.1.0 a.1.1.1.1.1)
pages_sound long l a h =
    let n = (long - 19) / 4104 in
    let xs = h.1.1.1.1.1 in
    let size = pages_long a.1.1.1.1.1 xs.1 in
    (refl, omega (arith, xs.0, l.low, l.high, l.steps), (h.0, h.1.1.0, h.1.1.1.0, xs.1, omega (arith, xs.0, l.low, l.high, l.steps), omega (arith, xs.0, l.low, l.high, l.steps)))

redo_sound : (long : ℕ) → IsOneOf (lengths 18) long → (a : _) → (attempt & (Reading.number_in 17 1 (Choices.only 3) & (Reading.word 4 & (Reading.word 1 & (Reading.word 8 & (Reading.number_in 31 4 (Choices.only (long - 30)) & run Short (long - 30))))))).Has a
    → Sound 18 long (Redo a.0 a.1.1.0 a.1.1.1.0 a.1.1.1.1.0 a.1.1.1.1.1.1)
redo_sound long l a h =
    let run = h.1.1.1.1.1.1 in
    (refl, omega (arith, run.0, l.low), (h.0, h.1.1.0, h.1.1.1.0, h.1.1.1.1.0, run.1, omega (arith, run.0, l.low), omega (arith, run.0, l.high)))

refused_is : (r : CloneCause) → cause.Has r → IsFrame (Refused r)
refused_is r has = subst (λ r. IsFrame (Refused r)) has.2 (cause_fits has.0 has.1)

sound : (side : Side) (code long : ℕ) (x : Frame) → IsOneOf (codes side) code → IsHead code long → (payload_of code long).Has x → Sound code long x
sound side code long x one head has =
    elim (which (code == 1) _ _ x has) [
      | inl p ↦ (let l = known code 1 long p.0 head in framed_sound code long 1 x p.0 (λ a h. (refl, omega (arith, l.low, l.high), (h.1.1.1.1, h.0, h.1.0, h.1.1.1.0))) p.1)
      | inr a ↦ elim (which (code == 2) _ _ x a.1) [
        | inl p ↦ (let l = known code 2 long p.0 head in framed_sound code long 2 x p.0 (λ a h. (refl, omega (arith, l.low, l.high), (h.0, h.1))) p.1)
        | inr b ↦ elim (which (code == 3) _ _ x b.1) [
          | inl p ↦ (let l = known code 3 long p.0 head in framed_sound code long 3 x p.0 (reinit_sound long l) p.1)
          | inr c ↦ elim (which (code == 4) _ _ x c.1) [
            | inl p ↦ (let l = known code 4 long p.0 head in framed_sound code long 4 x p.0 (λ a h. (refl, omega (arith, l.low, l.high), tt)) p.1)
            | inr d ↦ elim (which (code == 5) _ _ x d.1) [
              | inl p ↦ (let l = known code 5 long p.0 head in framed_sound code long 5 x p.0 (λ a h. (refl, omega (arith, l.low, l.high), h.1)) p.1)
              | inr e ↦ elim (which (code == 6) _ _ x e.1) [
                | inl p ↦ (let l = known code 6 long p.0 head in framed_sound code long 6 x p.0 (λ a h. (refl, omega (arith, l.low, l.high), tt)) p.1)
                | inr f ↦ elim (which (code == 7) _ _ x f.1) [
                  | inl p ↦ (let l = known code 7 long p.0 head in framed_sound code long 7 x p.0 (reinit2_sound long l) p.1)
                  | inr r ↦ elim (which (code == 16) _ _ x r.1) [
                    | inl p ↦ (let l = known code 16 long p.0 head in framed_sound code long 16 x p.0 (stage_sound long l) p.1)
                    | inr g ↦ elim (which (code == 17) _ _ x g.1) [
                      | inl p ↦ (let l = known code 17 long p.0 head in framed_sound code long 17 x p.0 (pages_sound long l) p.1)
                      | inr h ↦ elim (which (code == 18) _ _ x h.1) [
                        | inl p ↦ (let l = known code 18 long p.0 head in framed_sound code long 18 x p.0 (redo_sound long l) p.1)
                        | inr i ↦ elim (which (code == 19) _ _ x i.1) [
                          | inl p ↦ (let l = known code 19 long p.0 head in framed_sound code long 19 x p.0 (λ a h. (refl, omega (arith, l.low, l.high), h.0)) p.1)
                          | inr j ↦ (let l : IsOneOf (Choices.only 17) long = rw (a.0, b.0, c.0, d.0, e.0, f.0, r.0, g.0, h.0, i.0, j.0) at head in subst (λ c. Sound c long x) (sym (last_code code side one a.0 b.0 c.0 d.0 e.0 f.0 r.0 g.0 h.0 i.0 j.0)) (subst (Sound 20 long) j.1.2 (refl, omega (arith, l.low, l.high), refused_is j.1.0 j.1.1)))
                        ]
                      ]
                    ]
                  ]
                ]
              ]
            ]
          ]
        ]
      ]
    ]

has_taken : (taken : Taken) → IsTakenBlocks taken → (taken_in (length taken.finished.bytes + 5 * length taken.partials)).Has taken
has_taken taken is =
    let bits = taken.finished in
    let k = length taken.partials in
    let n = bytes_for bits.count in
    let size : length bits.bytes ≡ n = is.bitmap.long in
    let long = n + 5 * k in
    let few : k ≤ 1616 = is.partials.few in
    let rest : (long - n) / 5 ≡ k = omega arith in
    let listed : AreListed bits.bytes 0 taken.partials = are_listed bits.bytes 0 taken.partials (λ i d within. omega arith) is.partials.ascending is.partials.masks is.chunks is.unset in
    subst (λ m. (taken_in (m + 5 * k)).Has taken) (sym size)
    ((bits.count, (bits, (k, taken.partials))), (size_of_parts n k (let most = is.bitmap.few in omega arith) few, ((bits.bytes, ((size, is.bytes), is.bitmap.end), refl), subst (λ (m : ℕ). IsOneOf (Choices.only m) k × ((k ≡ m) × AreListed bits.bytes 0 taken.partials)) (sym rest) (only_one k, (refl, listed)))), refl)

-- ---- each frame has a code and a length

abbrev Fields : Frame → Type 0
Fields x = (payload_of (code_of x) (length (payload x))).Has x

has_fields : (x : Frame) → IsFrame x → Fields x
unfolding plan_bytes
has_fields (Init attempt version size compressed tasks) is = ((version, (size, (compressed, (tasks, attempt)))), (is.1, (is.2, (has_flag 11 compressed, (is.3, is.0)))), refl)
has_fields (Attach attempt task) is = ((attempt, task), (is.0, is.1), refl)
has_fields (Reinit attempt stage finished) is =
    let n = length finished.bytes in
    let size : n ≡ length (payload (Reinit attempt stage finished)) - 17 = omega arith in
    subst (λ m. (reinit m).Has (Reinit attempt stage finished)) size
    ((attempt, (stage, (finished.count, finished))), (is.0, (has_copy 17 stage, (in_range (8 * n - 7) (8 * n) finished.count (omega (arith, is.1.long)) (omega (arith, is.1.long)), (finished.bytes, ((refl, is.2), is.1.end), refl)))), refl)
has_fields (Reinit2 attempt stage taken) is =
    let long = length taken.finished.bytes + 5 * length taken.partials in
    let size : long ≡ length (payload (Reinit2 attempt stage taken)) - 21 = omega (arith, taken_long taken) in
    subst (λ m. (reinit2 m).Has (Reinit2 attempt stage taken)) size ((attempt, (stage, taken)), (is.0, (has_copy 17 stage, has_taken taken is.1)), refl)
has_fields (Execute stage) is = (stage, has_copy 5 stage, refl)
has_fields (Ack stage floor) is = ((stage, floor), (has_copy 5 stage, is), refl)
has_fields Exit is = (tt, refl, refl)
has_fields (Stage attempt plan) is =
    let n = length (spaces_of plan) in
    let size : n ≡ (length (payload (Stage attempt plan)) - 43) / 8 = (let long = spaces_long (spaces_of plan) in omega arith) in
    subst (λ m. (Reading.stage m).Has (Stage attempt plan)) size ((attempt, plan), (is.0, has_plan plan is.1), refl)
has_fields (Pages attempt stage chunk block pages) is =
    let n = length pages in
    let size : n ≡ (length (payload (Pages attempt stage chunk block pages)) - 19) / 4104 = (let long = pages_long pages is.3 in omega arith) in
    subst (λ m. (Reading.pages m).Has (Pages attempt stage chunk block pages)) size
    ((attempt, (stage, (chunk, (block, (n, pages))))), (is.0, (has_pages 17 stage, (is.1, (is.2, (only_one n, (refl, is.3)))))), refl)
has_fields (Redo attempt chunk block from bytes) is =
    let n = length bytes in
    let size : n ≡ length (payload (Redo attempt chunk block from bytes)) - 30 = omega arith in
    subst (λ m. (Reading.redo m).Has (Redo attempt chunk block from bytes)) size
    ((attempt, (3, (chunk, (block, (from, (n, bytes)))))), (is.0, (only_one 3, (is.1, (is.2, (is.3, (only_one n, (refl, is.4))))))), refl)
has_fields (End attempt stage) is = ((attempt, stage), (is, has_copy 17 stage), refl)
has_fields (Refused r) is = (r, has_cause r is, refl)

few_spaces : (plan : StagePlan) → IsPlan plan → length (spaces_of plan) ≤ 63
few_spaces (plan.FileCopy chunks spaces) is = is.2
few_spaces (plan.PageCopy chunks position spaces) is = is.3
few_spaces (plan.RedoCopy chunks checkpoint lsn position) is = omega arith
few_spaces (plan.Done checkpoint lsn position) is = omega arith

command : (code : ℕ) → 1 ≤ code → code ≤ 7 → IsOneOf (codes Command) code
command code low high = in_range 1 7 code low high

answer : (code : ℕ) → 16 ≤ code → code ≤ 20 → IsOneOf (codes Answer) code
answer code low high = in_range 16 20 code low high

pub has_head : (x : Frame) → IsFrame x → (head (side_of x)).Has (code_of x, length (payload x))
unfolding plan_bytes
has_head (Init attempt version size compressed tasks) is = (command 1 (omega arith) (omega arith), only_one 20)
has_head (Attach attempt task) is = (command 2 (omega arith) (omega arith), only_one 13)
has_head (Reinit attempt stage finished) is = (command 3 (omega arith) (omega arith), in_range 17 1048593 _ (omega arith) (omega (arith, is.1.few, is.1.long)))
has_head (Execute stage) is = (command 4 (omega arith) (omega arith), only_one 1)
has_head (Ack stage floor) is = (command 5 (omega arith) (omega arith), only_one 9)
has_head Exit is = (command 6 (omega arith) (omega arith), only_one 0)
has_head (Reinit2 attempt stage taken) is =
    let few = is.1.partials.few in
    let long = taken_long taken in
    (command 7 (omega arith) (omega arith), in_range 21 1056677 _ (omega arith) (omega (arith, is.1.bitmap.few, is.1.bitmap.long)))
has_head (Stage attempt plan) is =
    let long = spaces_long (spaces_of plan) in
    let few = few_spaces plan is.1 in
    (answer 16 (omega arith) (omega arith), record { low = omega arith; high = omega arith; steps = omega arith })
has_head (Pages attempt stage chunk block pages) is =
    let long = pages_long pages is.3 in
    let some = is.4 in
    let few = is.5 in
    (answer 17 (omega arith) (omega arith), record { low = omega arith; high = omega arith; steps = omega arith })
has_head (Redo attempt chunk block from bytes) is = (answer 18 (omega arith) (omega arith), in_range 31 16414 _ (omega (arith, is.5)) (omega (arith, is.6)))
has_head (End attempt stage) is = (answer 19 (omega arith) (omega arith), only_one 13)
has_head (Refused r) is = (answer 20 (omega arith) (omega arith), only_one 17)

-- ---- a code is that of one side

abbrev side_coded : Side → ℕ → Type 0
side_coded Command code = code ≤ 7
side_coded Answer code = 16 ≤ code

coded : (side : Side) (code : ℕ) → IsOneOf (codes side) code → side_coded side code
coded Command code one = one.high
coded Answer code one = one.low

side_is : (side : Side) (frame : Frame) → IsFrame frame → IsOneOf (codes side) (code_of frame) → side ≡ side_of frame
side_is side frame is one = by side (side_of frame) (coded side (code_of frame) one) (coded (side_of frame) (code_of frame) (has_head frame is).0)
  where
    by : (a b : Side) → side_coded a (code_of frame) → side_coded b (code_of frame) → a ≡ b
    by Command Command p q = refl
    by Command Answer p q = absurd (omega arith)
    by Answer Command p q = absurd (omega arith)
    by Answer Answer p q = refl

-- ---- frames

-- a frame of a side, in the words of its spelling
abbrev pub spelled_frame : Side → Format Fault Frame
spelled_frame side = record { Has = λ x. IsFrame x × (side ≡ side_of x); text = spelling; read = frame_at side }

frame_is : (side : Side) (x : Frame) → (frame side).Has x → (IsFrame x × (side ≡ side_of x)) × (spelling x ≡ (frame side).text x)
unfolding spelling
frame_is side x has =
    let s = sound side (code_of x) (length (payload x)) x has.0.0 has.0.1 has.1 in
    ((s.2, side_is side x s.2 has.0.0), sym (append_assoc (big_bytes 1 (code_of x)) (big_bytes 4 (length (payload x))) (payload x)) ∙ ap (λ t. (big_bytes 1 (code_of x) ++ big_bytes 4 (length (payload x))) ++ t) (sym (payload_text (code_of x) (length (payload x)) x)))

pub frame_laws : (side : Side) → IsFormat refusals 0 (spelled_frame side)
unfolding frame_at
frame_laws side =
    worded (frame side) (spelled_frame side) (led_laws (λ x. (code_of x, length (payload x))) (head_laws side) (λ h has. payload_laws h.0 h.1 has.1) keyed)
    (λ bytes. refl) (frame_is side) (λ x has. (subst (λ s. (head s).Has (code_of x, length (payload x))) (sym has.1) (has_head x has.0), has_fields x has.0))
  where
    keyed : (h : ℕ × ℕ) (x : Frame) → (head side).Has h → (payload_of h.0 h.1).Has x → (code_of x, length (payload x)) ≡ h
    keyed h x p q = let s = sound side h.0 h.1 x p.0 p.1 q in ap (λ c. (c, length (payload x))) s.0 ∙ ap (λ n. (h.0, n)) s.1
