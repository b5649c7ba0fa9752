-- Mini-transactions and runs of one page, worked out.
use Rattle.std.proofs.Common.{◌≡◌, ◌<◌, ◌+◌, ◌^◌, List, [], ◌∷◌, length, refl, sym, ap, subst, ◌∙◌, arith, inl, None}
use Rattle.std.proofs.lemmas.Bool.{true≢false}
use Rattle.std.proofs.lemmas.List.{append-nil}
use Rattle.clone_page.specs.Header.{zero_page}
use Rattle.clone_mtr.specs.Patches.{Patched}
use Rattle.clone_mtr.specs.Spelling.{spelling}
use Rattle.clone_mtr.specs.declared.record.Record.{Record}
use Rattle.clone_image.specs.Redone.{Standing, past_end, stands, redone, redone_from}
use Rattle.clone_image.specs.Replay.{end_of}
use Rattle.clone_law.specs.Touches.{touches, applied, Sound, Lax}
use Rattle.clone_law.specs.Since.{ends, IsAt, Suits, AllFit}
use Rattle.clone_law.specs.Machine.{PageWorld, Stopped, nothing, Runs}
use Rattle.clone_law.specs.Examples.{opening, overflow, making, first_change, second_change, made_log, changed_log, last_log, first_page, second_page, flushed_run}
use Rattle.clone_law.proofs.RedoLemmas.{fits_push}
use Rattle.clone_law.proofs.AppendLemmas.{appended, suits_there}
use Rattle.clone_law.proofs.EventLemmas.{central}

-- Mini-transactions that suit.

pub opening_suits : Suits 0 0 [] opening
opening_suits = record { small = omega arith; sound = tt; ordered = refl }

pub overflow_suits : (log : List (List Record)) (patch : Patched) → ends log + length (spelling (overflow patch)) < 2 ^ 64 → redone 5 8 log ≡ past_end → Suits 5 8 log (overflow patch)
overflow_suits log patch small is = record { small = small; sound = subst (λ (v : Standing). Sound v (touches (ends log + length (spelling (overflow patch))) 5 8 (overflow patch))) (sym is) tt; ordered = refl }

-- The log and the page, after each mini-transaction.

pub made_suits : Suits 1 0 [] making
made_suits = record { small = omega arith; sound = tt; ordered = tt }

made_fits : AllFit 1 0 made_log
made_fits = fits_push 1 0 [] making tt made_suits

pub made_now : redone 1 0 made_log ≡ stands zero_page
made_now = appended 1 0 [] making tt made_suits

pub first_suits : Suits 1 0 made_log first_change
first_suits = suits_there 1 0 made_log first_change zero_page (omega arith) made_now refl

first_fits : AllFit 1 0 changed_log
first_fits = fits_push 1 0 made_log first_change made_fits first_suits

pub first_now : redone 1 0 changed_log ≡ stands first_page
first_now = appended 1 0 made_log first_change made_fits first_suits ∙ ap (λ (v : Standing). applied v (touches (end_of (ends made_log) first_change) 1 0 first_change)) made_now

pub second_suits : Suits 1 0 changed_log second_change
second_suits = suits_there 1 0 changed_log second_change first_page (omega arith) first_now refl

pub second_now : redone 1 0 last_log ≡ stands second_page
second_now = appended 1 0 changed_log second_change first_fits second_suits ∙ ap (λ (v : Standing). applied v (touches (end_of (ends changed_log) second_change) 1 0 second_change)) first_now

-- a mini-transaction ends where a log does
pub at_end : (log : List (List Record)) → IsAt (ends log) log
at_end log = record { before = log; behind = []; split = sym (append-nil log); moment = refl }

-- THE RUN OF A PAGE THAT IS FLUSHED IN FILE COPY

pub flushed : (w : PageWorld) × Runs 1 0 nothing flushed_run w × (w.copy ≡ Stopped (ends made_log) last_log (stands first_page ∷ []))
flushed = (
  _,
  (
    made_suits,
    (
      (omega arith, at_end made_log),
      (
        (refl, refl, tt),
        (
          (first_suits, first_now, tt),
          (tt, (refl, ((record { image = first_page; later = None }, refl), ((tt, λ closed. absurd (true≢false closed)), (tt, (tt, (inl refl, ((second_suits, second_now, tt), (tt, refl))))))))),
        ),
      ),
    ),
  ),
  refl,
)

-- what was sent, redone, is the page
pub sent_redone : redone_from (ends made_log) 1 0 (stands first_page) (first_change ∷ second_change ∷ []) ≡ stands second_page
sent_redone =
    let given = central 1 0 flushed_run flushed.0 (ends made_log) last_log (stands first_page ∷ []) (stands first_page) flushed.1 flushed.2 (inl refl) in
    subst (λ (v : Standing). Lax (redone_from (ends made_log) 1 0 (stands first_page) (first_change ∷ second_change ∷ [])) v) second_now (given.1 made_log (first_change ∷ second_change ∷ []) refl refl)
