-- A log grows by one mini-transaction, and is read one by one.
use Rattle.std.proofs.Common.{◌≡◌, ℕ, ◌+◌, List, [], ◌∷◌, ◌++◌, length, refl, sym, ap, subst, ◌∙◌, append_assoc, arith}
use Rattle.std.specs.List.{AllByRecursion}
use Rattle.std.proofs.lemmas.List.{append-nil, length-append, append_cancel_left}
use Rattle.std.specs.FinMap as finite
use Rattle.clone_base.proofs.Lists.{All-push}
use Rattle.clone_mtr.specs.declared.record.Record.{Record}
use Rattle.clone_mtr.specs.Spelling.{spelling, Spells, log_of}
use Rattle.clone_mtr.proofs.Spellings.{one_spelling, spelling_some}
use Rattle.clone_image.specs.Image.{Image, after_records}
use Rattle.clone_image.specs.Replay.{first_lsn, end_of, after_log, replayed, IsSpelled, Replays}

pub log_of-append : (front back : List (List Record)) → log_of (front ++ back) ≡ log_of front ++ log_of back
log_of-append [] back = refl
log_of-append (m ∷ front) back = ap (λ xs. spelling m ++ xs) (log_of-append front back) ∙ sym (append_assoc (spelling m) (log_of front) (log_of back))

pub log_of-push : (front : List (List Record)) (m : List Record) → log_of (front ++ m ∷ []) ≡ log_of front ++ spelling m
log_of-push front m = log_of-append front (m ∷ []) ∙ ap (λ xs. log_of front ++ xs) (append-nil (spelling m))

pub after_log-push : (start : ℕ) (image : Image) (front : List (List Record)) (m : List Record) (end : ℕ) → end ≡ start + length (log_of front) + length (spelling m) → after_log start image (front ++ m ∷ []) ≡ after_records end (after_log start image front) m
after_log-push start image [] m end is = ap (λ e. after_records e image m) (omega (arith, is))
after_log-push start image (n ∷ front) m end is = after_log-push (end_of start n) (after_records (end_of start n) image n) front m end (omega (arith, is, length-append (spelling n) (log_of front)))

pub spelled_by : (bytes : List ℕ) (records : List Record) → Spells bytes records → IsSpelled records
spelled_by bytes records is = subst (λ (xs : List ℕ). Spells xs records) is.text is

-- one more mini-transaction
pub Replays-push : (bytes : List ℕ) (image : Image) (m : List Record) (end : ℕ) → Replays bytes image → IsSpelled m → end ≡ first_lsn + length bytes + length (spelling m) → Replays (bytes ++ spelling m) (after_records end image m)
Replays-push bytes image m end r one is = record {
  log = record {
    mtrs = r.log.mtrs ++ m ∷ [];
    each = All-push IsSpelled r.log.mtrs m r.log.each one;
    text = ap (λ xs. xs ++ spelling m) r.log.text ∙ sym (log_of-push r.log.mtrs m);
  };
  made = ap (λ i. after_records end i m) r.made ∙ sym (after_log-push first_lsn finite.empty r.log.mtrs m end (is ∙ ap (λ (xs : List ℕ). first_lsn + length xs + length (spelling m)) r.log.text));
}

-- the same, where the end is told by the bytes
pub Replays-longer : (bytes : List ℕ) (image : Image) (m : List Record) → Replays bytes image → IsSpelled m → Replays (bytes ++ spelling m) (after_records (first_lsn + length (bytes ++ spelling m)) image m)
Replays-longer bytes image m r one = Replays-push bytes image m (first_lsn + length (bytes ++ spelling m)) r one (omega (arith, length-append bytes (spelling m)))

pub nothing_replayed : Replays [] finite.empty
nothing_replayed = record { log = record { mtrs = []; each = tt; text = refl }; made = refl }

pub same_tails : (a b x y : List ℕ) → a ++ x ≡ b ++ y → a ≡ b → x ≡ y
same_tails a b x y whole same = append_cancel_left a x y (whole ∙ ap (λ (zs : List ℕ). zs ++ y) (sym same))

-- two readings of one log are one
pub same_logs : (ms ns : List (List Record)) → AllByRecursion IsSpelled ms → AllByRecursion IsSpelled ns → log_of ms ≡ log_of ns → ms ≡ ns
same_logs [] [] all each e = refl
same_logs [] (n ∷ ns) all each e = absurd (omega (arith, ap length e, length-append (spelling n) (log_of ns), spelling_some n))
same_logs (m ∷ ms) [] all each e = absurd (omega (arith, ap length e, length-append (spelling m) (log_of ms), spelling_some m))
same_logs (m ∷ ms) (n ∷ ns) all each e =
    let same = one_spelling (spelling m) (spelling n) (log_of ms) (log_of ns) m n all.0 each.0 e in
    let rest = same_logs ms ns all.1 each.1 (same_tails (spelling m) (spelling n) (log_of ms) (log_of ns) e same.0) in
    (λ i. same.1 i ∷ rest i)

-- what a log replays to is one image
pub Replays-once : (bytes : List ℕ) (i j : Image) → Replays bytes i → Replays bytes j → i ≡ j
Replays-once bytes i j r s = r.made ∙ ap replayed (same_logs r.log.mtrs s.log.mtrs r.log.each s.log.each (sym r.log.text ∙ s.log.text)) ∙ sym s.made

-- the log and the pages once a mini-transaction was written
pub Replays-written : (old new : List ℕ) (image after : Image) (m : List Record) (end : ℕ) → Replays old image → IsSpelled m → new ≡ old ++ spelling m → after ≡ after_records end image m → end ≡ first_lsn + length old + length (spelling m) → Replays new after
Replays-written old new image after m end r one text made is =
    let P : List ℕ × Image → Type 0 = λ p. Replays p.0 p.1 in
    subst P (λ i. (sym text i, sym made i)) (Replays-push old image m end r one is)
