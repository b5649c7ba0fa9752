-- Frames are formats, each by its code and its length.
use Rattle.std.proofs.Common.{◌≡◌, ℕ, ◌-◌, ◌*◌, ◌/◌, ◌^◌, ◌<◌, ◌≤◌, ◌==◌, Bool, true, false, cond, List, length, refl, sym, ap, subst, ◌∙◌, arith}
use Rattle.std.proofs.lemmas.Bool.{eqb-true}
use Rattle.clone_bytes.specs.Formats.{◌&◌, IsFormat}
use Rattle.clone_bytes.proofs.Fields.{run_laws}
use Rattle.clone_bytes.proofs.Formats.{nothing_laws, followed_laws, made_laws, choose_laws, list_laws}
use Rattle.clone_wire.specs.declared.numbers.Numbers.{Numbers}
use Rattle.clone_wire.specs.declared.frame.Side.{Side}
use Rattle.clone_wire.specs.declared.frame.Side.TheVariants.{Command, Answer}
use Rattle.clone_wire.specs.declared.frame.Frame.{Frame}
use Rattle.clone_wire.specs.declared.frame.Frame.TheVariants.{Execute, Exit, End, Refused}
use Rattle.clone_wire.specs.Choices.{only}
use Rattle.clone_wire.specs.Frames.{IsOneOf, IsHead, codes, lengths}
use Rattle.clone_wire.specs.Spelling.{payload}
use Rattle.clone_wire.specs.Reading.{refusals, framed, copy_in, attempt, init, attach, reinit, reinit2, ack, exit, cause, payload_of, head, frame, frame_at}
use Rattle.clone_wire.specs.Reading as Reading
use Rattle.clone_wire.proofs.FieldFormats.{IsChoice, words, number_in_laws, range_choice, same_number, flag_laws, copy_laws, pages_in_laws, bitmap_laws, attempt_laws, page_laws}
use Rattle.clone_wire.proofs.PlanFormats.{plan_laws, cause_laws}
use Rattle.clone_wire.proofs.TakenFormats.{taken_laws}

-- ---- payloads

init_laws : IsFormat refusals 5 init
init_laws = made_laws payload _ (followed_laws (words 2) (λ version v. followed_laws (words 4) (λ size s. followed_laws (flag_laws 11 _ (omega arith)) (λ compressed c. followed_laws (words 1) (λ tasks t. attempt_laws))))) (λ x has. refl)

attach_laws : IsFormat refusals 5 attach
attach_laws = made_laws payload _ (followed_laws attempt_laws (λ attempt a. words 1)) (λ x has. refl)

reinit_laws : (n : ℕ) → n ≤ 1048576 → IsFormat refusals 5 (reinit n)
reinit_laws n few =
    made_laws payload _ (followed_laws attempt_laws (λ attempt a. followed_laws (copy_laws 17 _ (omega arith)) (λ stage s. followed_laws (number_in_laws 18 4 _ _ (range_choice 4 (8 * n - 7) (8 * n) (omega arith) (omega arith)) (omega arith)) (λ count c. bitmap_laws 22 count n _ (omega arith)))))
    (λ x has. (let count : x.1.1.1.count ≡ x.1.1.0 = sym (ap (λ bits. bits.count) has.1.1.1.2) in rw count refl))

reinit2_laws : (long : ℕ) → long ≤ 1056656 → IsFormat refusals 5 (reinit2 long)
reinit2_laws long few = made_laws payload _ (followed_laws attempt_laws (λ attempt a. followed_laws (copy_laws 17 _ (omega arith)) (λ stage s. taken_laws long _ few (omega arith)))) (λ x has. refl)

execute_laws : IsFormat refusals 5 (framed Execute (copy_in 5))
execute_laws = made_laws payload Execute (copy_laws 5 5 (omega arith)) (λ x has. refl)

ack_laws : IsFormat refusals 5 ack
ack_laws = made_laws payload _ (followed_laws (copy_laws 5 5 (omega arith)) (λ stage s. words 8)) (λ x has. refl)

exit_laws : IsFormat refusals 5 exit
exit_laws = made_laws {A = Unit {0}} payload (λ none. Exit) (nothing_laws tt) (λ x has. refl)

stage_laws : (n : ℕ) → n ≤ 63 → IsFormat refusals 5 (Reading.stage n)
stage_laws n few = made_laws payload _ (followed_laws attempt_laws (λ attempt a. plan_laws n _ few (omega arith))) (λ x has. refl)

pages_laws : (n : ℕ) → n ≤ 8 → IsFormat refusals 5 (Reading.pages n)
pages_laws n few =
    made_laws payload _ (followed_laws attempt_laws (λ attempt a. followed_laws (pages_in_laws 17 _ (omega arith)) (λ stage s. followed_laws (words 4) (λ chunk c. followed_laws (words 1)
    (λ block b. followed_laws (number_in_laws 23 1 _ _ (range_choice 1 n n (omega arith) (omega arith)) (omega arith)) (λ count k. list_laws (λ p. page_laws) n _))))))
    (λ x has. (let count : length x.1.1.1.1.1 ≡ x.1.1.1.1.0 = has.1.1.1.1.1.0 ∙ sym (same_number n x.1.1.1.1.0 has.1.1.1.1.0) in rw count refl))

redo_laws : (n : ℕ) → n ≤ 16384 → IsFormat refusals 5 (Reading.redo n)
redo_laws n few =
    made_laws payload _ (followed_laws attempt_laws (λ attempt a. followed_laws (number_in_laws 17 1 _ _ (range_choice 1 3 3 (omega arith) (omega arith)) (omega arith)) (λ stage s. followed_laws (words 4) (λ chunk c. followed_laws (words 1)
    (λ block b. followed_laws (words 8) (λ from f. followed_laws (number_in_laws 31 4 _ _ (range_choice 4 n n (omega arith) (omega arith)) (omega arith)) (λ count k. run_laws _ n)))))))
    (λ x has. (let three = same_number 3 x.1.0 has.1.0 in let count : length x.1.1.1.1.1.1 ≡ x.1.1.1.1.1.0 = has.1.1.1.1.1.1.0 ∙ sym (same_number n x.1.1.1.1.1.0 has.1.1.1.1.1.0) in rw (three, count) refl))

end_laws : IsFormat refusals 5 (framed (λ x. End x.0 x.1) (attempt & copy_in 17))
end_laws = made_laws payload _ (followed_laws attempt_laws (λ attempt a. copy_laws 17 _ (omega arith))) (λ x has. refl)

refused_laws : IsFormat refusals 5 (framed Refused cause)
refused_laws = made_laws payload Refused (cause_laws (omega arith)) (λ x has. refl)

-- ---- a payload by its code

abbrev pub at_code : ℕ → ℕ → Type 0
at_code k long = IsOneOf (lengths k) long

pub known : (code k long : ℕ) → (code == k) ≡ true → IsHead code long → at_code k long
known code k long e head = subst (λ c. IsHead c long) (eqb-true code k e) head

pub payload_laws : (code long : ℕ) → IsHead code long → IsFormat refusals 5 (payload_of code long)
payload_laws code long head =
    choose_laws (code == 1) (λ e. init_laws)
    (λ not1. choose_laws (code == 2) (λ e. attach_laws)
    (λ not2. choose_laws (code == 3) (λ e. (let h = known code 3 long e head in reinit_laws (long - 17) (omega (arith, h.high))))
    (λ not3. choose_laws (code == 4) (λ e. execute_laws)
    (λ not4. choose_laws (code == 5) (λ e. ack_laws)
    (λ not5. choose_laws (code == 6) (λ e. exit_laws)
    (λ not6. choose_laws (code == 7) (λ e. (let h = known code 7 long e head in reinit2_laws (long - 21) (omega (arith, h.high))))
    (λ not7. choose_laws (code == 16) (λ e. (let h = known code 16 long e head in stage_laws ((long - 43) / 8) (omega (arith, h.high))))
    (λ not16. choose_laws (code == 17) (λ e. (let h = known code 17 long e head in pages_laws ((long - 19) / 4104) (omega (arith, h.high))))
    (λ not17. choose_laws (code == 18) (λ e. (let h = known code 18 long e head in redo_laws (long - 30) (omega (arith, h.high))))
    (λ not18. choose_laws (code == 19) (λ e. end_laws) (λ not19. refused_laws)))))))))))

same_text : (b : Bool) {t s u : List ℕ} → t ≡ u → s ≡ u → cond b t s ≡ u
same_text true p q = p
same_text false p q = q

pub payload_text : (code long : ℕ) (x : Frame) → (payload_of code long).text x ≡ payload x
payload_text code long x =
    same_text (code == 1) refl (same_text (code == 2) refl (same_text (code == 3) refl (same_text (code == 4) refl (same_text (code == 5) refl
    (same_text (code == 6) refl (same_text (code == 7) refl (same_text (code == 16) refl (same_text (code == 17) refl (same_text (code == 18) refl (same_text (code == 19) refl refl))))))))))

-- ---- the head

either_choice : (width : ℕ) (b : Bool) (x y : Numbers) → IsChoice width x → IsChoice width y → IsChoice width (cond b x y)
either_choice width true x y p q = p
either_choice width false x y p q = q

codes_choice : (side : Side) → IsChoice 1 (codes side)
codes_choice Command = range_choice 1 1 7 (omega arith) (omega arith)
codes_choice Answer = range_choice 1 16 20 (omega arith) (omega arith)

one_length : (n : ℕ) → n < 256 ^ 4 → IsChoice 4 (only n)
one_length n within = range_choice 4 n n (omega arith) within

lengths_choice : (code : ℕ) → IsChoice 4 (lengths code)
lengths_choice code =
    either_choice 4 (code == 1) _ _ (one_length 20 (omega arith)) (either_choice 4 (code == 2) _ _ (one_length 13 (omega arith))
    (either_choice 4 (code == 3) _ _ (range_choice 4 17 1048593 (omega arith) (omega arith)) (either_choice 4 (code == 4) _ _ (one_length 1 (omega arith))
    (either_choice 4 (code == 5) _ _ (one_length 9 (omega arith)) (either_choice 4 (code == 6) _ _ (one_length 0 (omega arith))
    (either_choice 4 (code == 7) _ _ (range_choice 4 21 1056677 (omega arith) (omega arith)) (either_choice 4 (code == 16) _ _ (record { steps = omega arith; some = omega arith; within = omega arith }) (either_choice 4 (code == 17) _ _ (record { steps = omega arith; some = omega arith; within = omega arith })
    (either_choice 4 (code == 18) _ _ (range_choice 4 31 16414 (omega arith) (omega arith)) (either_choice 4 (code == 19) _ _ (one_length 13 (omega arith)) (one_length 17 (omega arith))))))))))))

pub head_laws : (side : Side) → IsFormat refusals 0 (head side)
head_laws side = followed_laws (number_in_laws 0 1 0 (codes side) (codes_choice side) (omega arith)) (λ code one. number_in_laws 1 4 _ (lengths code) (lengths_choice code) (omega arith))
