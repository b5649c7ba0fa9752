-- The rows of a follower are those of its clone, with the commits that the donor has made since
-- applied in order, each once, up to its position.
use Rattle.std.proofs.Common.{◌≡◌, ◌∙◌, ◌≤◌, ◌-◌, ℕ, zero, suc, List, [], ◌∷◌, ◌++◌, append_assoc, append-nil, length, take, drop, arith, Bool, refl, sym, ap, subst, Option, None, Some, MatchOption, Result, map, slice_get}
use Rattle.std.specs.Option.{option_map}
use Rattle.std.proofs.lemmas.Bool.{true≢false}
use Rattle.std.specs.FinMap as finite
use Rattle.std.specs.List.{AllByRecursion}
use Rattle.clone_follow.specs.Binlog.{IsSent}
use Rattle.clone_follow.specs.Following.{Following, Takes}
use Rattle.clone_follow.specs.Histories as history
use Rattle.clone_follow.specs.Histories.{AreSent, Follows, Meets}
use Rattle.clone_follow.specs.declared.follower.FollowRefusal.{FollowRefusal}
use Rattle.clone_follow.specs.declared.follower.FollowTook.{FollowTook}
use Rattle.clone_follow.specs.declared.frame.FollowFrame.{FollowFrame}
use Rattle.clone_follow.specs.declared.frame.FollowFrame.TheVariants as frames
use Rattle.clone_follow.proofs.ReplayLemmas.{each_once, folded}
use Rattle.clone_model.specs.History.{Drops, Rows, Committed, after_commit, after_commits, after_entries, fold, history_of}
use Rattle.clone_model.specs.declared.change.Commit.{Commit}
use Rattle.clone_plain.specs.Donor.{Donor, no_donor}
use Rattle.clone_events.specs.Events.{Event, looked, started, unbegun, acts, showed, hidden, opened_follower, sent, taken, lost, set_to_lose, repeated, replicated, Change, stops, acknowledges, disturbs, crowds, ends, Events, Happens, IsAmong, IsNow, IsNumbered, PlainEvent, Shows, ShowsChanges, ShowsIn, changed_all, changed_by, changed_in, clone_after, follower_after, sent_after}
use Rattle.clone_events.specs.Headline.{FollowsStop, IsReplayed, ShowsFollower, ShowsFollowers}
use Rattle.clone_events.specs.World.{World, End, Stop, Progress, absent, copying, over, complete, Clone, IsSure, Replica, before_stop, no_clone, opened}
use Rattle.clone_events.proofs.BinlogLemmas.{Adds, event_adds, events_add}
use Rattle.clone_events.proofs.RunLemmas.{Events-tells}
use Rattle.clone_events.proofs.StopLemmas.{IsStop, before_stop-longer, stop_after, stop_stays}
use Rattle.clone_events.proofs.CompleteLemmas.{IsAtStop, event_keeps}

-- ---- what was sent

abbrev AreAllSent : Donor → List FollowFrame → Type 0
AreAllSent d all = AllByRecursion (IsSent d.binlog) all

sent_at : (d : Donor) (all : List FollowFrame) (i : ℕ) (frame : FollowFrame) → AreAllSent d all → slice_get all i ≡ Some frame → IsSent d.binlog frame
sent_at d [] i frame are at = absurd (let e : None ≡ Some frame = at in cc)
sent_at d (f ∷ all) zero frame are at = subst (IsSent d.binlog) (let e : Some f ≡ Some frame = at in cc) are.0
sent_at d (f ∷ all) (suc i) frame are at = sent_at d all i frame are.1 at

sent_longer : (before more : List Commit) (frame : FollowFrame) → IsSent before frame → IsSent (before ++ more) frame
sent_longer before more frame is = record { front = is.front; later = is.later ++ more; want = is.want; grown = ap (λ (b : List Commit). b ++ more) is.grown ∙ append_assoc is.front is.later more; is = is.is }

all_longer : (d e : Donor) (answered : List ℕ) (all : List FollowFrame) → Adds d e answered → AreAllSent d all → AreAllSent e all
all_longer d e answered [] added are = tt
all_longer d e answered (f ∷ all) added are = (subst (λ (b : List Commit). IsSent b f) (sym added.binlog) (sent_longer d.binlog added.more f are.0), all_longer d e answered all added are.1)

events_longer : (d e : Donor) (answered : List ℕ) (events : List history.Event) → Adds d e answered → AreSent d.binlog events → AreSent e.binlog events
events_longer d e answered [] added are = tt
events_longer d e answered (f ∷ all) added are = (subst (λ (b : List Commit). IsSent b (history.frame_of f)) (sym added.binlog) (sent_longer d.binlog added.more (history.frame_of f) are.0), events_longer d e answered all added are.1)

one_sent : (d : Donor) (all : List FollowFrame) (frame : FollowFrame) → AreAllSent d all → IsSent d.binlog frame → AreAllSent d (all ++ frame ∷ [])
one_sent d [] frame are is = (is, tt)
one_sent d (f ∷ all) frame are is = (are.0, one_sent d all frame are.1 is)

frame_sent : (d : Donor) (all : List FollowFrame) (frame : FollowFrame) → AreAllSent d all → IsSent d.binlog frame → AreAllSent d (sent_after frame all)
frame_sent d all (frames.Commit position commit) are is = one_sent d all (frames.Commit position commit) are is
frame_sent d all (frames.Want position) are is = are
frame_sent d all (frames.Current position) are is = are

-- ---- a follower since it was opened

-- it was opened so, and since then frames that were sent came to it
pub record HasFollowed (d : Donor) (tells : Bool) (clone : Clone) (now : Following) : Type 0 where
  pub first : Following
  pub events : List history.Event
  pub are : AreSent d.binlog events
  pub run : history.Runs first events now
  pub whole : clone.progress ≡ over (complete first.position)
  pub opened_as : IsSure tells clone → (at : Stop) × (clone.stop ≡ Some at) × (first.position ≡ at.position) × (first.rows ≡ fold (before_stop at d))

abbrev Followed : Donor → Bool → Clone → Option Following → Type 0
Followed d tells clone o = MatchOption o (Unit {0}) (HasFollowed d tells clone)

run_on : (first : Following) (events : List history.Event) (old : Following) (e : history.Event) (new : Following) → history.Runs first events old → Meets old e new → history.Runs first (events ++ e ∷ []) new
run_on first [] old e new run meets = (new, subst (λ (f : Following). Meets f e new) run meets, refl)
run_on first (x ∷ events) old e new run meets = (run.0, run.1, run_on run.0 events old e new run.2 meets)

sent_on : (d : Donor) (events : List history.Event) (e : history.Event) → AreSent d.binlog events → IsSent d.binlog (history.frame_of e) → AreSent d.binlog (events ++ e ∷ [])
sent_on d [] e are is = (is, tt)
sent_on d (x ∷ events) e are is = (are.0, sent_on d events e are.1 is)

-- a frame came to it
came : (d : Donor) (tells : Bool) (clone : Clone) (old : Following) (frame : FollowFrame) (result : Result FollowTook FollowRefusal) → HasFollowed d tells clone old → IsSent d.binlog frame → Takes old frame result (follower_after frame result old) → HasFollowed d tells clone (follower_after frame result old)
came d tells clone old frame result is frame_is takes = record {
  first = is.first;
  events = is.events ++ history.Delivered frame result ∷ [];
  are = sent_on d is.events (history.Delivered frame result) is.are frame_is;
  run = run_on is.first is.events old (history.Delivered frame result) (follower_after frame result old) is.run takes;
  whole = is.whole;
  opened_as = is.opened_as;
}

-- a COMMIT changes it, and no other frame does
came_so : (d : Donor) (tells : Bool) (clone : Clone) (all : List FollowFrame) (old : Following) (frame : FollowFrame) (result : Result FollowTook FollowRefusal) → HasFollowed d tells clone old → AreAllSent d all → IsAmong all frame → Takes old frame result (follower_after frame result old) → HasFollowed d tells clone (follower_after frame result old)
came_so d tells clone all old (frames.Commit position commit) result is are among takes = came d tells clone old (frames.Commit position commit) result is (sent_at d all among.0 (frames.Commit position commit) are among.1) takes
came_so d tells clone all old (frames.Want position) result is are among takes = is
came_so d tells clone all old (frames.Current position) result is are among takes = is

taken_followed : (d : Donor) (tells : Bool) (clone : Clone) (frame : FollowFrame) (result : Result FollowTook FollowRefusal) (o : Option Following) → Followed d tells clone o → AreAllSent d clone.replica.sent → IsAmong clone.replica.sent frame → MatchOption o ⊥ (λ f. Takes f frame result (follower_after frame result f))
    → Followed d tells clone (option_map (follower_after frame result) o)
taken_followed d tells clone frame result None is are among takes = tt
taken_followed d tells clone frame result (Some old) is are among takes = came_so d tells clone clone.replica.sent old frame result is are among takes

numbered_among : (all : List FollowFrame) (number : ℕ) (frame : FollowFrame) → IsNumbered all number frame → IsAmong all frame
numbered_among all number (frames.Commit position commit) is = (number - 1, is.is)
numbered_among all number (frames.Want position) is = tt
numbered_among all number (frames.Current position) is = tt

-- ---- a clone that is over stays so

-- what was known of a clone that was over is known still
pub record StaysOver (old new : Clone) : Type 0 where
  pub progress : new.progress ≡ old.progress
  pub sure : (tells : Bool) → IsSure tells new → IsSure tells old
  pub stop : (at : Stop) → old.stop ≡ Some at → new.stop ≡ Some at

stays_same : (clone : Clone) → StaysOver clone clone
stays_same clone = record { progress = refl; sure = λ tells is. is; stop = λ at is. is }

stays_then : (a b c : Clone) → StaysOver a b → StaysOver b c → StaysOver a c
stays_then a b c first second = record {
  progress = second.progress ∙ first.progress;
  sure = λ tells is. first.sure tells (second.sure tells is);
  stop = λ at is. second.stop at (first.stop at is);
}

change_over : (how : End) (d : Donor) (clone : Clone) (change : Change) → ShowsIn (over how) d clone change → StaysOver clone (changed_in (over how) change clone)
change_over how d clone (stops at) shows = record {
  progress = refl;
  sure = λ tells is. record { told = is.told; honest = is.honest; steady = is.steady };
  stop = λ was is. absurd (let e : Some was ≡ None = sym is ∙ shows.first in cc);
}
change_over how d clone acknowledges shows = stays_same clone
change_over how d clone disturbs shows = stays_same clone
change_over how d clone crowds shows = stays_same clone
change_over how d clone (ends other) shows = stays_same clone

changes_over : (how : End) (d : Donor) (clone : Clone) (changes : List Change) → clone.progress ≡ over how → ShowsChanges d clone changes → StaysOver clone (changed_all changes clone)
changes_over how d clone [] is shows = stays_same clone
changes_over how d clone (change ∷ changes) is shows =
    let here : StaysOver clone (changed_in clone.progress change clone) = subst (λ (p : Progress). StaysOver clone (changed_in p change clone)) (sym is) (change_over how d clone change (subst (λ (p : Progress). ShowsIn p d clone change) is shows.0)) in
    stays_then clone (changed_in clone.progress change clone) (changed_all changes (changed_in clone.progress change clone)) here (changes_over how d (changed_in clone.progress change clone) changes (here.progress ∙ is) shows.1)

-- what was said of progress and stop is said of the next clone
like : (clone next : Clone) → next.progress ≡ clone.progress → next.stop ≡ clone.stop → ((tells : Bool) → IsSure tells next → IsSure tells clone) → StaysOver clone next
like clone next progress stop sure = record { progress = progress; sure = sure; stop = λ at is. stop ∙ is }

event_over : (position : ℕ) (d : Donor) (tells : Bool) (clone : Clone) (e : Event) → clone.progress ≡ over (complete position) → Shows d tells clone e → StaysOver clone (clone_after e clone)
event_over position d tells clone (looked n) is shows = like clone (clone_after (looked n) clone) refl refl (λ b sure. record { told = sure.told; honest = sure.honest; steady = sure.steady })
event_over position d tells clone (started alone) is shows = absurd (let no : absent ≡ over (complete position) = sym shows ∙ is in cc)
event_over position d tells clone unbegun is shows = absurd (let no : absent ≡ over (complete position) = sym shows ∙ is in cc)
event_over position d tells clone (acts line changes answer) is shows = changes_over (complete position) d clone changes is shows.0
event_over position d tells clone (showed rows) is shows = like clone (clone_after (showed rows) clone) refl refl (λ b sure. record { told = sure.told; honest = sure.honest; steady = sure.steady })
event_over position d tells clone hidden is shows = like clone (clone_after hidden clone) refl refl (λ b sure. absurd (true≢false sure.steady))
event_over position d tells clone (opened_follower rows n) is shows = like clone (clone_after (opened_follower rows n) clone) refl refl (λ b sure. record { told = sure.told; honest = sure.honest; steady = sure.steady })
event_over position d tells clone (sent want frame) is shows = like clone (clone_after (sent want frame) clone) refl refl (λ b sure. record { told = sure.told; honest = sure.honest; steady = sure.steady })
event_over position d tells clone (taken frame result) is shows = like clone (clone_after (taken frame result) clone) refl refl (λ b sure. record { told = sure.told; honest = sure.honest; steady = sure.steady })
event_over position d tells clone (lost n) is shows = like clone (clone_after (lost n) clone) refl refl (λ b sure. record { told = sure.told; honest = sure.honest; steady = sure.steady })
event_over position d tells clone set_to_lose is shows = like clone (clone_after set_to_lose clone) refl refl (λ b sure. record { told = sure.told; honest = sure.honest; steady = sure.steady })
event_over position d tells clone (repeated number frame result) is shows = like clone (clone_after (repeated number frame result) clone) refl refl (λ b sure. record { told = sure.told; honest = sure.honest; steady = sure.steady })
event_over position d tells clone e is shows = stays_same clone

-- so what was said of its follower is said still
moved : (d : Donor) (tells : Bool) (old new : Clone) (o : Option Following) → ((position : ℕ) → old.progress ≡ over (complete position) → StaysOver old new) → Followed d tells old o → Followed d tells new o
moved d tells old new None so is = tt
moved d tells old new (Some now) so is =
    let stays = so is.first.position is.whole in
    record {
      first = is.first;
      events = is.events;
      are = is.are;
      run = is.run;
      whole = stays.progress ∙ is.whole;
      opened_as = λ sure. let (at, stop, position, rows) = is.opened_as (stays.sure tells sure) in (at, stays.stop at stop, position, rows);
    }

-- ---- changes leave what follows the clone

change_beside : (change : Change) (clone : Clone) → (changed_by change clone).replica ≡ clone.replica
change_beside (stops at) clone = refl
change_beside acknowledges clone = refl
change_beside disturbs clone = refl
change_beside crowds clone = refl
change_beside (ends how) clone = refl

change_in_beside : (p : Progress) (change : Change) (clone : Clone) → (changed_in p change clone).replica ≡ clone.replica
change_in_beside absent change clone = change_beside change clone
change_in_beside copying change clone = change_beside change clone
change_in_beside (over how) (stops at) clone = refl
change_in_beside (over how) change clone = refl

changes_beside : (changes : List Change) (clone : Clone) → (changed_all changes clone).replica ≡ clone.replica
changes_beside [] clone = refl
changes_beside (change ∷ changes) clone = changes_beside changes (changed_in clone.progress change clone) ∙ change_in_beside clone.progress change clone

-- ---- WHAT HOLDS OF A RUN

pub record Keeps (d : Donor) (tells : Bool) (clone : Clone) : Type 0 where
  pub all : AreAllSent d clone.replica.sent
  pub stop : IsStop clone.stop d
  pub ends : IsAtStop clone
  pub followed : Followed d tells clone clone.replica.follower

-- its follower is opened
opens : (d : Donor) (tells : Bool) (clone : Clone) (rows : Rows) (position : ℕ) (o : Option Stop) → clone.stop ≡ o → MatchOption o ⊥ (λ (at : Stop). position ≡ at.position) → MatchOption o ⊥ (λ (at : Stop). rows ≡ fold (before_stop at d)) → (at : Stop) × (clone.stop ≡ Some at) × (position ≡ at.position) × (rows ≡ fold (before_stop at d))
opens d tells clone rows position None is at are = absurd at
opens d tells clone rows position (Some stop) is at are = (stop, is, at, are)

followed_after : (d : Donor) (tells : Bool) (clone : Clone) (e : Event) → Shows d tells clone e → Keeps d tells clone → Followed d tells (clone_after e clone) (clone_after e clone).replica.follower
followed_after d tells clone (opened_follower rows position) shows keeps = record {
  first = record { rows = rows; position = position };
  events = [];
  are = tt;
  run = refl;
  whole = shows.whole;
  opened_as = λ sure. opens d tells clone rows position clone.stop refl (keeps.ends position shows.whole sure.honest) (shows.rows_are.are (record { told = sure.told; honest = sure.honest; steady = sure.steady }));
}
followed_after d tells clone (taken frame result) shows keeps =
    moved d tells clone (clone_after (taken frame result) clone) (option_map (follower_after frame result) clone.replica.follower) (λ position is. event_over position d tells clone (taken frame result) is shows)
    (taken_followed d tells clone frame result clone.replica.follower keeps.followed keeps.all shows.1 shows.2)
followed_after d tells clone (repeated number frame result) shows keeps =
    moved d tells clone (clone_after (repeated number frame result) clone) (option_map (follower_after frame result) clone.replica.follower) (λ position is. event_over position d tells clone (repeated number frame result) is shows)
    (taken_followed d tells clone frame result clone.replica.follower keeps.followed keeps.all (numbered_among clone.replica.sent number frame shows.0) shows.1)
followed_after d tells clone (acts line changes answer) shows keeps =
    subst (λ (r : Replica). Followed d tells (changed_all changes clone) r.follower) (sym (changes_beside changes clone))
    (moved d tells clone (changed_all changes clone) clone.replica.follower (λ position is. event_over position d tells clone (acts line changes answer) is shows) keeps.followed)
followed_after d tells clone (looked n) shows keeps = moved d tells clone (clone_after (looked n) clone) clone.replica.follower (λ position is. event_over position d tells clone (looked n) is shows) keeps.followed
followed_after d tells clone (started alone) shows keeps = moved d tells clone (clone_after (started alone) clone) clone.replica.follower (λ position is. event_over position d tells clone (started alone) is shows) keeps.followed
followed_after d tells clone unbegun shows keeps = moved d tells clone (clone_after unbegun clone) clone.replica.follower (λ position is. event_over position d tells clone unbegun is shows) keeps.followed
followed_after d tells clone (showed rows) shows keeps = moved d tells clone (clone_after (showed rows) clone) clone.replica.follower (λ position is. event_over position d tells clone (showed rows) is shows) keeps.followed
followed_after d tells clone hidden shows keeps = moved d tells clone (clone_after hidden clone) clone.replica.follower (λ position is. event_over position d tells clone hidden is shows) keeps.followed
followed_after d tells clone (sent want frame) shows keeps = moved d tells clone (clone_after (sent want frame) clone) clone.replica.follower (λ position is. event_over position d tells clone (sent want frame) is shows) keeps.followed
followed_after d tells clone (lost n) shows keeps = moved d tells clone (clone_after (lost n) clone) clone.replica.follower (λ position is. event_over position d tells clone (lost n) is shows) keeps.followed
followed_after d tells clone set_to_lose shows keeps = moved d tells clone (clone_after set_to_lose clone) clone.replica.follower (λ position is. event_over position d tells clone set_to_lose is shows) keeps.followed
followed_after d tells clone e shows keeps = keeps.followed

sent_by : (d : Donor) (tells : Bool) (clone : Clone) (e : Event) → IsNow d e → AreAllSent d clone.replica.sent → AreAllSent d (clone_after e clone).replica.sent
sent_by d tells clone (sent want frame) now all = frame_sent d clone.replica.sent frame all (record { front = d.binlog; later = []; want = want; grown = sym (append-nil d.binlog); is = now })
sent_by d tells clone (acts line changes answer) now all = subst (λ (r : Replica). AreAllSent d r.sent) (sym (changes_beside changes clone)) all
sent_by d tells clone e now all = all

event_keeps_all : (d : Donor) (tells : Bool) (clone : Clone) (e : Event) → IsNow d e → Shows d tells clone e → Keeps d tells clone → Keeps d tells (clone_after e clone)
event_keeps_all d tells clone e now shows keeps = record {
  all = sent_by d tells clone e now keeps.all;
  stop = stop_after d tells clone e shows keeps.stop;
  ends = event_keeps d tells clone e shows keeps.ends;
  followed = followed_after d tells clone e shows keeps;
}

-- while the history grows
followed_longer : (d e : Donor) (answered : List ℕ) (tells : Bool) (clone : Clone) (o : Option Following) → Adds d e answered → IsStop clone.stop d → Followed d tells clone o → Followed e tells clone o
followed_longer d e answered tells clone None added within is = tt
followed_longer d e answered tells clone (Some now) added within is = record {
  first = is.first;
  events = is.events;
  are = events_longer d e answered is.events added is.are;
  run = is.run;
  whole = is.whole;
  opened_as = λ sure.
      let (at, stop, position, rows) = is.opened_as sure in
      (at, stop, position, rows ∙ ap fold (before_stop-longer at d e answered (subst (λ (x : Option Stop). IsStop x d) stop within) added));
}

keeps_longer : (d e : Donor) (answered : List ℕ) (tells : Bool) (clone : Clone) → Adds d e answered → Keeps d tells clone → Keeps e tells clone
keeps_longer d e answered tells clone added keeps = record {
  all = all_longer d e answered clone.replica.sent added keeps.all;
  stop = stop_stays clone.stop d e answered added keeps.stop;
  ends = keeps.ends;
  followed = followed_longer d e answered tells clone clone.replica.follower added keeps.stop keeps.followed;
}

none_follows : (d : Donor) (tells : Bool) → Keeps d tells no_clone
none_follows d tells = record { all = tt; stop = tt; ends = λ position is honest. let no : absent ≡ over (complete position) = is in cc; followed = tt }

-- ---- the rows

-- commits without drops are a history of their own
committed : (rows : Rows) (commits : List Commit) → after_entries rows (map Committed commits) ≡ after_commits rows commits
committed rows [] = refl
committed rows (commit ∷ commits) = committed (after_commit rows commit) commits

replayed : (d : Donor) (at : Stop) (first now : Following) → Follows d.binlog first now → first.position ≡ at.position → first.rows ≡ fold (before_stop at d) → IsReplayed d at now
replayed d at first now follows position rows = record {
  forward = omega (arith, position, follows.forward);
  within = follows.within;
  rows = follows.rows ∙ ap (λ (r : Rows). after_commits r (take (now.position - first.position) (drop first.position d.binlog))) rows ∙ ap (λ (n : ℕ). after_commits (fold (before_stop at d)) (take (now.position - n) (drop n d.binlog))) position;
  folded = λ none.
      let begun : first.rows ≡ after_commits finite.empty (take first.position d.binlog) =
      rows ∙ ap (λ (drops : Drops). fold (history_of (take at.position d.binlog) (take at.drops drops))) none ∙ ap (λ (drops : Drops). fold (history_of (take at.position d.binlog) drops)) (take_none at.drops) ∙ committed finite.empty (take at.position d.binlog) ∙ ap (λ (n : ℕ). after_commits finite.empty (take n d.binlog)) (sym position) in
      folded d.binlog first now follows begun ∙ sym (committed finite.empty (take now.position d.binlog));
}
  where
    take_none : (n : ℕ) → take {A = ℕ × ℕ} n [] ≡ []
    take_none zero = refl
    take_none (suc n) = refl

follows_by : (d : Donor) (tells : Bool) (clone : Clone) (o : Option Following) → IsStop clone.stop d → Followed d tells clone o → IsSure tells clone → MatchOption o (Unit {0}) (λ now. MatchOption clone.stop ⊥ (λ at. IsReplayed d at now))
follows_by d tells clone None within is sure = tt
follows_by d tells clone (Some now) within is sure =
    let (at, stop, position, rows) = is.opened_as sure in
    let here = subst (λ (x : Option Stop). IsStop x d) stop within in
    let long : is.first.position ≤ length d.binlog = omega (arith, position, here.0) in
    subst (λ (x : Option Stop). MatchOption x ⊥ (λ (s : Stop). IsReplayed d s now)) (sym stop) (replayed d at is.first now (each_once d.binlog is.first now is.events long is.are is.run) position rows)

follows_stop : (t : World Donor) → Keeps t.donor t.tells t.clone → FollowsStop t.donor t.tells t.clone
follows_stop t keeps = λ sure. follows_by t.donor t.tells t.clone t.clone.replica.follower keeps.stop keeps.followed sure

shows_one : (d : Donor) (tells : Bool) (clone : Clone) (e : Event) (earlier : Donor) → Shows earlier tells clone e → Keeps d tells clone → ShowsFollower d tells clone e
shows_one d tells clone (replicated rows) earlier shows keeps = (shows, λ sure. follows_by d tells clone clone.replica.follower keeps.stop keeps.followed sure)
shows_one d tells clone e earlier shows keeps = tt

-- ALL OF THEM
followers_show : (s : World Donor) (es : List Event) (t : World Donor) → Keeps s.donor s.tells s.clone → Events (λ d. d) PlainEvent s es t → ShowsFollowers t.donor s.tells s.clone es × Keeps t.donor t.tells t.clone
followers_show s [] t keeps is = (tt, subst (λ (w : World Donor). Keeps w.donor w.tells w.clone) is keeps)
followers_show s (e ∷ es) t keeps is =
    let happens : Happens (λ d. d) PlainEvent s e is.0 = is.1 in
    let after : Keeps s.donor s.tells (clone_after e s.clone) = event_keeps_all s.donor s.tells s.clone e happens.clone.now happens.clone.shows keeps in
    let grown : Keeps is.0.donor s.tells (clone_after e s.clone) = keeps_longer s.donor is.0.donor _ s.tells (clone_after e s.clone) (event_adds (λ d. d) PlainEvent (λ d e event step. step) s e is.0 happens) after in
    let next : Keeps is.0.donor is.0.tells is.0.clone = subst (λ (b : Bool). Keeps is.0.donor b is.0.clone) (sym happens.tells) (subst (λ (c : Clone). Keeps is.0.donor s.tells c) (sym happens.clone.is) grown) in
    let rest = followers_show is.0 es t next is.2 in
    let here = shows_one t.donor s.tells s.clone e s.donor happens.clone.shows (keeps_longer s.donor t.donor _ s.tells s.clone (events_add (λ d. d) PlainEvent (λ d e event step. step) s (e ∷ es) t is) keeps) in
    ((here, subst (λ (c : Clone). ShowsFollowers t.donor s.tells c es) happens.clone.is (subst (λ (b : Bool). ShowsFollowers t.donor b is.0.clone es) happens.tells rest.0)), rest.1)

-- of a run from the beginning
pub followed_run : (tasks : ℕ) (tells : Bool) (es : List Event) (t : World Donor) → Events (λ d. d) PlainEvent (opened no_donor tasks tells) es t → ShowsFollowers t.donor tells no_clone es × FollowsStop t.donor tells t.clone
followed_run tasks tells es t is =
    let all = followers_show (opened no_donor tasks tells) es t (none_follows no_donor tells) is in
    (all.0, subst (λ (b : Bool). FollowsStop t.donor b t.clone) (Events-tells (λ d. d) PlainEvent (opened no_donor tasks tells) es t is) (follows_stop t all.1))
