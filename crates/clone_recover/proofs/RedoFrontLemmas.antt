-- Mini-transactions are read from the front of a disk's redo.
use Rattle.std.proofs.Common.{◌≡◌, ◌<◌, ◌≤◌, ◌+◌, ◌-◌, ◌*◌, ℕ, suc, List, [], ◌∷◌, ◌++◌, length, take, drop, get_or, refl, sym, ap, subst, ◌∙◌, arith, append_assoc, min, inl, inr, Err}
use Rattle.std.specs.List.{AllByRecursion}
use Rattle.std.proofs.lemmas.Bool.{cases_lt}
use Rattle.std.proofs.lemmas.List.{length-append, length-take, length-drop, take-append-drop, length-take-le}
use Rattle.clone_base.proofs.Lists.{All-push}
use Rattle.clone_mtr.specs.Answers.{BeginsNone, Decodes}
use Rattle.clone_mtr.specs.Spelling.{spelling, Spells, log_of}
use Rattle.clone_mtr.specs.declared.record.Record.{Record}
use Rattle.clone_mtr.specs.declared.refusal.DecodeRefusal.{DecodeRefusal}
use Rattle.clone_mtr.specs.declared.refusal.DecodeRefusal.TheVariants as decode
use Rattle.clone_mtr.proofs.Spellings.{one_spelling, spelling_some}
use Rattle.clone_outside.specs.Disk.{DiskImage}
use Rattle.clone_image.specs.Replay.{IsSpelled}
use Rattle.clone_image.proofs.Logs.{log_of-push, same_tails, spelled_by}
use Rattle.clone_recover.specs.Reading.{IsOfTable, AreOfTables, redo_pages, joined, HasRedo, IsAtHand, HasRead, rest_of, IsAhead, IsNoRedo, IsOfRedo}
use Rattle.clone_recover.specs.declared.log.Log.{Log}
use Rattle.clone_recover.specs.declared.refusal.Why.TheVariants as why
use Rattle.clone_recover.specs.declared.refusal.RecoverRefusal.{RecoverRefusal}
use Rattle.clone_recover.specs.declared.refusal.RecoverRefusal.TheVariants.{Incomplete, Damaged, DiskFault, NoMemory}
use Rattle.clone_recover.proofs.JoinedPageLemmas.{split, joined_at, joined_past, take_front, take_behind, drop_behind, cut, front_within}

-- what is known of a log's numbers
pub record IsInOrder (log : Log) : Type 0 where
  pub begun : 4096 * log.first ≤ log.at
  pub at_hand : log.at ≤ 4096 * log.first + 8192
  pub within : log.at ≤ log.available
  pub most : log.available ≤ log.total
  pub window : length log.window ≡ 8192

pub in_order : (log : Log) → length log.window ≡ 8192 → IsInOrder log
in_order log long = record { begun = log.begun; at_hand = log.at_hand; within = log.within; most = log.most; window = long }

-- the bytes at hand, and behind them the others
pub record Ahead (m : DiskImage) (log : Log) : Type 0 where
  pub more : List ℕ
  pub is : drop log.at (joined (redo_pages m)) ≡ rest_of log ++ more
  pub long : length (rest_of log) ≡ min (log.available - 4096 * log.first) 8192 - (log.at - 4096 * log.first)

-- the numbers of a log that go into its rest
pub rest_long : (log : Log) → IsInOrder log → length (rest_of log) ≡ min (log.available - 4096 * log.first) 8192 - (log.at - 4096 * log.first)
rest_long log o =
    let from : ℕ = log.at - 4096 * log.first in
    let k : ℕ = min (log.available - 4096 * log.first) 8192 in
    length-take-le (k - from) (drop from log.window) (omega (arith, length-drop from log.window, o.window, o.begun, o.at_hand, o.within))

ahead_in : (m : DiskImage) (log : Log) (front ys d j : List ℕ) → IsInOrder log → joined (redo_pages m) ≡ front ++ (ys ++ j) → length front ≡ 4096 * log.first → log.window ≡ ys ++ d
    → min (log.available - 4096 * log.first) 8192 ≤ length ys → Ahead m log
ahead_in m log front ys d j o is long window within =
    let from : ℕ = log.at - 4096 * log.first in
    let k : ℕ = min (log.available - 4096 * log.first) 8192 in
    record {
      more = drop (k - from) (drop from ys) ++ j;
      is =
          ap (drop log.at) is ∙ drop_behind front (ys ++ j) log.at (omega (arith, long, o.begun)) ∙ ap (λ n. drop n (ys ++ j)) (omega (arith, long))
          ∙ cut ys d j from k (omega (arith, o.begun, o.at_hand, o.within)) within
          ∙ ap (λ xs. take (k - from) (drop from xs) ++ (drop (k - from) (drop from ys) ++ j)) (sym window);
      long = rest_long log o;
    }

whole_below : (m : DiskImage) (log : Log) → IsAtHand m log → (n : ℕ) → n ≤ log.first + 2 → 4096 * n < log.available + 4096 → (p : ℕ) → p < n → length (get_or (redo_pages m) p []) ≡ 4096
whole_below m log h n few low p lt = h.long p (omega (arith, few, lt)) (omega (arith, low, lt))

pub ahead : (m : DiskImage) (log : Log) → IsInOrder log → IsAtHand m log → Ahead m log
ahead m log o h =
    let pages = redo_pages m in
    elim (cases_lt (4096 * log.first) log.available) [
      | inr past ↦ record {
        more = drop log.at (joined pages);
        is = ap (λ xs. xs ++ drop log.at (joined pages)) (sym (nothing (rest_of log) (omega (arith, rest_long log o, past))));
        long = rest_long log o;
      }
      | inl some ↦
          let there : log.first < length pages = omega (arith, h.available, some) in
          let s = split log.first pages (whole_below m log h log.first (omega arith) (omega (arith, some))) (omega (arith, there)) in
          let front_long : length (get_or pages log.first []) ≡ 4096 = h.long log.first (omega arith) some in
          elim (cases_lt (4096 * (log.first + 1)) log.available) [
            | inr one ↦
                ahead_in m log s.front (get_or pages log.first []) (drop 4096 log.window) (joined (drop (suc log.first) pages)) o
                (s.is ∙ ap (λ xs. s.front ++ xs) (joined_at log.first pages there)) s.long
                (sym (take-append-drop 4096 log.window) ∙ ap (λ xs. xs ++ drop 4096 log.window) (h.front some)) (omega (arith, one, front_long))
            | inl two ↦
                let next : log.first + 1 < length pages = omega (arith, h.available, two) in
                let p = get_or pages log.first [] in
                let q = get_or pages (log.first + 1) [] in
                let j = joined (drop (suc (log.first + 1)) pages) in
                let e : suc log.first ≡ log.first + 1 = omega arith in
                let long : length q ≡ 4096 = h.long (log.first + 1) (omega arith) two in
                ahead_in m log s.front (p ++ q) [] j o
                (s.is ∙ ap (λ xs. s.front ++ xs) (joined_at log.first pages there ∙ ap (λ xs. p ++ xs) (ap (λ n. joined (drop n pages)) e ∙ joined_at (log.first + 1) pages next) ∙ sym (append_assoc p q j))) s.long
                (sym (take-append-drop 4096 log.window) ∙ ap (λ xs. xs ++ drop 4096 log.window) (h.front some) ∙ ap (λ xs. p ++ xs) (h.back two) ∙ sym (none_behind (p ++ q)))
                (omega (arith, length-append p q, front_long, long))
          ]
    ]
  where
    nothing : (xs : List ℕ) → length xs ≡ 0 → xs ≡ []
    nothing [] e = refl
    nothing (x ∷ xs) e = absurd (omega arith)

    none_behind : (xs : List ℕ) → xs ++ [] ≡ xs
    none_behind [] = refl
    none_behind (x ∷ xs) = ap (λ ys. x ∷ ys) (none_behind xs)

-- the redo from what was read on
record Parts (m : DiskImage) (done : List (List Record)) (log : Log) : Type 0 where
  more : List ℕ
  is : joined (redo_pages m) ≡ log_of done ++ (rest_of log ++ more)

parts : (m : DiskImage) (done : List (List Record)) (log : Log) → IsInOrder log → HasRead m done log → Parts m done log
parts m done log o r =
    let a = ahead m log o r.hand in
    let all = joined (redo_pages m) in
    record { more = a.more; is = sym (take-append-drop log.at all) ∙ ap (λ xs. xs ++ drop log.at all) r.text ∙ ap (λ xs. log_of done ++ xs) a.is }

-- the mini-transaction at the front of the bytes at hand is read
pub reads_next : (m : DiskImage) (done : List (List Record)) (old new : Log) (n : ℕ) (mtr : List Record) → IsInOrder old → HasRead m done old → IsAhead old (mtr, n)
    → new.at ≡ old.at + n → new.total ≡ old.total → new.available ≡ old.available → new.first ≡ old.first → new.window ≡ old.window → HasRead m (done ++ mtr ∷ []) new
reads_next m done old new n mtr o r ahead at total available first window =
    let spelled = ahead.spelled in
    let p = parts m done old o r in
    let rest = rest_of old in
    let one = spelling mtr in
    let long : length one ≡ n = ap length (sym spelled.text) ∙ length-take-le n rest ahead.within in
    let all : joined (redo_pages m) ≡ (log_of done ++ one) ++ (drop n rest ++ p.more) =
    p.is ∙ ap (λ xs. log_of done ++ xs) (ap (λ xs. xs ++ p.more) (sym (take-append-drop n rest) ∙ ap (λ xs. xs ++ drop n rest) spelled.text) ∙ append_assoc one (drop n rest) p.more) ∙ sym (append_assoc (log_of done) one (drop n rest ++ p.more)) in
    let longer : length (log_of done ++ one) ≡ old.at + n = omega (arith, length-append (log_of done) one, r.long, long) in
    record {
      hand = record {
        available = available ∙ r.hand.available ∙ ap (λ t. min t (4096 * length (redo_pages m))) (sym total);
        front = λ lt. ap (take 4096) window ∙ r.hand.front (omega (arith, lt, first, available)) ∙ ap (λ k. get_or (redo_pages m) k []) (sym first);
        back = λ lt. ap (drop 4096) window ∙ r.hand.back (omega (arith, lt, first, available)) ∙ ap (λ k. get_or (redo_pages m) (k + 1) []) (sym first);
        long = λ k lt low. r.hand.long k (omega (arith, lt, first)) (omega (arith, low, available));
      };
      each = All-push IsSpelled done mtr r.each (spelled_by (take n rest) mtr spelled);
      tables = All-push (λ records. AllByRecursion IsOfTable records) done mtr r.tables ahead.tables;
      text = ap (λ k. take k (joined (redo_pages m))) at ∙ ap (take (old.at + n)) all ∙ take_front (log_of done ++ one) (drop n rest ++ p.more) (old.at + n) (sym longer) ∙ sym (log_of-push done mtr);
      long = ap length (log_of-push done mtr) ∙ longer ∙ sym at;
    }

-- a front of a log that is a log leaves a log behind it
record Behind (rest : List ℕ) : Type 0 where
  left : List (List Record)
  each : AllByRecursion IsSpelled left
  tables : AreOfTables left
  text : rest ≡ log_of left

behind : (done mtrs : List (List Record)) (rest : List ℕ) → AllByRecursion IsSpelled done → AllByRecursion IsSpelled mtrs → AreOfTables mtrs → log_of done ++ rest ≡ log_of mtrs → Behind rest
behind [] mtrs rest all each tables e = record { left = mtrs; each = each; tables = tables; text = e }
behind (m ∷ done) [] rest all each tables e = absurd (omega (arith, ap length e, length-append (spelling m ++ log_of done) rest, length-append (spelling m) (log_of done), spelling_some m))
behind (m ∷ done) (n ∷ mtrs) rest all each tables e =
    let whole = sym (append_assoc (spelling m) (log_of done) rest) ∙ e in
    let same = one_spelling (spelling m) (spelling n) (log_of done ++ rest) (log_of mtrs) m n all.0 each.0 whole in
    behind done mtrs rest all.1 each.1 tables.1 (same_tails (spelling m) (spelling n) (log_of done ++ rest) (log_of mtrs) whole same.0)

-- where the redo is a log, the next of its mini-transactions
record Next (log : Log) (more : List ℕ) : Type 0 where
  mtr : List Record
  spelled : IsSpelled mtr
  tables : AllByRecursion IsOfTable mtr
  back : List ℕ
  is : rest_of log ++ more ≡ spelling mtr ++ back
  within : log.at + length (spelling mtr) ≤ log.total

next_of : (m : DiskImage) (done : List (List Record)) (log : Log) → IsInOrder log → log.at < log.total → (r : HasRead m done log) → (p : Parts m done log) → HasRedo m log.total → Next log p.more
next_of m done log o some r p has =
    let redo = has.1 in
    let ahead_bytes = rest_of log ++ p.more in
    let left_bytes = take (log.total - log.at) ahead_bytes in
    let text : log_of done ++ left_bytes ≡ log_of has.0 =
    ap (λ k. log_of done ++ take (log.total - k) ahead_bytes) (sym r.long) ∙ sym (take_behind (log_of done) ahead_bytes log.total (omega (arith, r.long, some))) ∙ sym (ap (take log.total) p.is) ∙ redo.text in
    let long : length left_bytes ≡ log.total - log.at = omega (arith, length-append (log_of done) left_bytes, ap length text, redo.whole, r.long) in
    let b = behind done has.0 left_bytes r.each redo.each redo.tables text in
    at b.left b.each b.tables b.text long
  where
    at : (left : List (List Record)) → AllByRecursion IsSpelled left → AreOfTables left → take (log.total - log.at) (rest_of log ++ p.more) ≡ log_of left → length (take (log.total - log.at) (rest_of log ++ p.more)) ≡ log.total - log.at → Next log p.more
    at [] each tables text long = absurd (omega (arith, ap length text, long, some))
    at (n ∷ left) each tables text long =
        let all = rest_of log ++ p.more in
        let behind_it = drop (log.total - log.at) all in
        record {
          mtr = n;
          spelled = each.0;
          tables = tables.0;
          back = log_of left ++ behind_it;
          is = sym (take-append-drop (log.total - log.at) all) ∙ ap (λ xs. xs ++ behind_it) text ∙ append_assoc (spelling n) (log_of left) behind_it;
          within = omega (arith, ap length text, long, length-append (spelling n) (log_of left), some);
        }

-- the bytes at hand reach as far as the next mini-transaction
reaches : (m : DiskImage) (done : List (List Record)) (log : Log) (n : ℕ) → IsInOrder log → log.at ≤ 4096 * log.first + 4096 → HasRead m done log → HasRedo m log.total → n ≤ 1024 → log.at + n ≤ log.total → n ≤ length (rest_of log)
reaches m done log n o near r has few within =
    let pages = redo_pages m in
    let long = rest_long log o in
    elim (cases_lt (log.available - 4096 * log.first) 8193) [
      | inr far ↦ omega (arith, far, long, near, few, o.begun)
      | inl all ↦ elim (cases_lt log.available log.total) [
        | inr full ↦ omega (arith, all, full, long, within, o.begun)
        | inl short ↦
            let count : log.available ≡ 4096 * length pages = omega (arith, r.hand.available, short) in
            let s = split (length pages) pages (λ p lt. r.hand.long p (omega (arith, lt, count, all, o.begun, o.within)) (omega (arith, lt, count))) (omega arith) in
            let none = joined_past (length pages) pages (omega arith) in
            absurd (omega (arith, has.1.whole, ap length has.1.text, length-take log.total (joined pages), ap length s.is, length-append s.front (joined (drop (length pages) pages)), ap length none, s.long, short, count))
      ]
    ]

-- where no mini-transaction is at the front of the bytes at hand, the redo is no log
pub no_log : (m : DiskImage) (done : List (List Record)) (log : Log) → IsInOrder log → log.at ≤ 4096 * log.first + 4096 → log.at < log.total → HasRead m done log → BeginsNone (rest_of log) → HasRedo m log.total → ⊥
no_log m done log o near some r none has =
    let p = parts m done log o r in
    let n = next_of m done log o some r p has in
    let one = spelling n.mtr in
    let le = reaches m done log (length one) o near r has n.spelled.short n.within in
    none one (drop (length one) (rest_of log)) n.mtr (front_within (rest_of log) p.more one n.back n.is le) n.spelled

-- where the next one names a space that is no table, neither
pub no_tables : (m : DiskImage) (done : List (List Record)) (log : Log) (n : ℕ) (mtr : List Record) → IsInOrder log → log.at < log.total → HasRead m done log → Spells (take n (rest_of log)) mtr → (AllByRecursion IsOfTable mtr → ⊥) → HasRedo m log.total → ⊥
no_tables m done log n mtr o some r spelled foreign has =
    let p = parts m done log o r in
    let next = next_of m done log o some r p has in
    let rest = rest_of log in
    let whole : take n rest ++ (drop n rest ++ p.more) ≡ spelling next.mtr ++ next.back = sym (append_assoc (take n rest) (drop n rest) p.more) ∙ ap (λ xs. xs ++ p.more) (take-append-drop n rest) ∙ next.is in
    let same = one_spelling (take n rest) (spelling next.mtr) (drop n rest ++ p.more) next.back mtr next.mtr spelled next.spelled whole in
    foreign (subst (λ (rs : List Record). AllByRecursion IsOfTable rs) (sym same.1) next.tables)

-- what a refusal says, once the redo is known to be no log
pub is_no_redo : (e : RecoverRefusal) (m : DiskImage) (total : ℕ) → IsOfRedo e → (HasRedo m total → ⊥) → IsNoRedo m total e
is_no_redo Incomplete m total of none = absurd of
is_no_redo (Damaged s p why.Header) m total of none = absurd of
is_no_redo (Damaged s p why.Redo) m total of none = (of, none)
is_no_redo (Damaged s p why.Dictionary) m total of none = absurd of
is_no_redo (Damaged s p why.Undo) m total of none = absurd of
is_no_redo (Damaged s p why.Chain) m total of none = absurd of
is_no_redo DiskFault m total of none = absurd of
is_no_redo NoMemory m total of none = tt

-- why no mini-transaction was read, by the decoder's refusal
pub not_decoded : (d : DecodeRefusal) (e : RecoverRefusal) (m : DiskImage) (total : ℕ) (rest : List ℕ) → Decodes rest (Err d) → IsOfRedo e → (BeginsNone rest → HasRedo m total → ⊥) → IsNoRedo m total e
not_decoded decode.Short e m total rest is of none = is_no_redo e m total of (none is.0)
not_decoded (decode.BadKind at) e m total rest is of none = is_no_redo e m total of (none is.0)
not_decoded (decode.OutOfPage at) e m total rest is of none = is_no_redo e m total of (none is.0)
not_decoded decode.TooLong e m total rest is of none = is_no_redo e m total of (none is.0)

-- a mini-transaction has some bytes
pub ahead_some : (log : Log) (n : ℕ) (mtr : List Record) → IsAhead log (mtr, n) → 1 ≤ n
ahead_some log n mtr is = omega (arith, ap length is.spelled.text, spelling_some mtr, length-take-le n (rest_of log) is.within)

pub of_redo_fault : (e : RecoverRefusal) → IsOfRedo e → e ≡ DiskFault → ⊥
of_redo_fault e of is = subst IsOfRedo is of
