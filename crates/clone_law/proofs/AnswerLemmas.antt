-- What was answered stays a value from which redo may start.
use Rattle.std.proofs.Common.{◌≡◌, ℕ, true, List, [], ◌∷◌, subst, inr}
use Rattle.std.specs.List.{AllByRecursion}
use Rattle.std.proofs.lemmas.Bool.{false≢true}
use Rattle.clone_image.specs.Redone.{Standing}
use Rattle.clone_law.specs.Machine.{Copy, Idle, Untracked, Tracked, Copied, Stopped, PageWorld, Event, Created, Opened, Begun, Failed, Started, FileRead, FilesEnded, PageRead, PagesEnded, Left, noted, created, file_read, files_ended, page_read, pages_ended, happens, Runs}
use Rattle.clone_law.specs.Starts.{HasStart, HasCopied, InSession, InCalm}

read_keeps : (bytes : List ℕ) (c : Copy) (u : Standing) → HasStart c u → HasStart (file_read bytes c) u
read_keeps bytes Idle u has = has
read_keeps bytes (Untracked starts) u has = inr has
read_keeps bytes Tracked u has = has
read_keeps bytes (Copied base starts) u has = has
read_keeps bytes (Stopped base log starts) u has = has

pub files_keep : (base : ℕ) (c : Copy) (u : Standing) → HasStart c u → HasCopied (files_ended base c) u
files_keep base Idle u has = has
files_keep base (Untracked starts) u has = has
files_keep base Tracked u has = absurd has
files_keep base (Copied b starts) u has = has
files_keep base (Stopped b log starts) u has = has

copied_start : (c : Copy) (u : Standing) → HasCopied c u → HasStart c u
copied_start Idle u has = has
copied_start (Untracked starts) u has = absurd has
copied_start Tracked u has = has
copied_start (Copied base starts) u has = has
copied_start (Stopped base log starts) u has = has

page_keeps : (bytes : List ℕ) (c : Copy) (u : Standing) → HasStart c u → HasStart (page_read bytes c) u
page_keeps bytes Idle u has = has
page_keeps bytes (Untracked starts) u has = has
page_keeps bytes Tracked u has = has
page_keeps bytes (Copied base starts) u has = inr has
page_keeps bytes (Stopped base log starts) u has = has

page_copied : (bytes : List ℕ) (c : Copy) (u : Standing) → HasCopied c u → HasCopied (page_read bytes c) u
page_copied bytes Idle u has = has
page_copied bytes (Untracked starts) u has = absurd has
page_copied bytes Tracked u has = has
page_copied bytes (Copied base starts) u has = inr has
page_copied bytes (Stopped base log starts) u has = has

module _ (space number : ℕ) (u : Standing) where
  ends_keep : (w : PageWorld) (c : Copy) → HasStart c u → HasStart (pages_ended w.engine.log c) u
  ends_keep w Idle has = has
  ends_keep w (Untracked starts) has = has
  ends_keep w Tracked has = has
  ends_keep w (Copied base starts) has = has
  ends_keep w (Stopped base log starts) has = has

  ends_copied : (w : PageWorld) (c : Copy) → HasCopied c u → HasCopied (pages_ended w.engine.log c) u
  ends_copied w Idle has = has
  ends_copied w (Untracked starts) has = absurd has
  ends_copied w Tracked has = has
  ends_copied w (Copied base starts) has = has
  ends_copied w (Stopped base log starts) has = has

  files_copied : (base : ℕ) (c : Copy) → HasCopied c u → HasCopied (files_ended base c) u
  files_copied base c has = files_keep base c u (copied_start c u has)

  noted_copied : (c : Copy) → HasCopied c u → HasCopied (noted c) u
  noted_copied Idle has = has
  noted_copied (Untracked starts) has = absurd has
  noted_copied Tracked has = has
  noted_copied (Copied base starts) has = has
  noted_copied (Stopped base log starts) has = has

  created_copied : (v : Standing) (c : Copy) → HasCopied c u → HasCopied (created v c) u
  created_copied v Idle has = has
  created_copied v (Untracked starts) has = absurd has
  created_copied v Tracked has = has
  created_copied v (Copied base starts) has = has
  created_copied v (Stopped base log starts) has = has

  read_copied : (bytes : List ℕ) (c : Copy) → HasCopied c u → HasCopied (file_read bytes c) u
  read_copied bytes Idle has = has
  read_copied bytes (Untracked starts) has = absurd has
  read_copied bytes Tracked has = has
  read_copied bytes (Copied base starts) has = has
  read_copied bytes (Stopped base log starts) has = has

  calm_step : (w : PageWorld) (e : Event) → InCalm e ≡ true → HasStart w.copy u → HasStart (happens space number w e).copy u
  calm_step w (Created m) calm has = absurd (false≢true calm)
  calm_step w (Opened m bytes) calm has = absurd (false≢true calm)
  calm_step w (Begun bytes) calm has = absurd (false≢true calm)
  calm_step w (Failed disk) calm has = absurd (false≢true calm)
  calm_step w (Started listed) calm has = absurd (false≢true calm)
  calm_step w Left calm has = absurd (false≢true calm)
  calm_step w (FileRead bytes) calm has = read_keeps bytes w.copy u has
  calm_step w FilesEnded calm has = copied_start (files_ended w.engine.checkpoint w.copy) u (files_keep w.engine.checkpoint w.copy u has)
  calm_step w (PageRead bytes) calm has = page_keeps bytes w.copy u has
  calm_step w PagesEnded calm has = ends_keep w w.copy has
  calm_step w _ calm has = has

  session_step : (w : PageWorld) (e : Event) → InSession e ≡ true → HasCopied w.copy u → HasCopied (happens space number w e).copy u
  session_step w (Started listed) inside has = absurd (false≢true inside)
  session_step w Left inside has = absurd (false≢true inside)
  session_step w (Created m) inside has = created_copied _ w.copy has
  session_step w (Opened m bytes) inside has = created_copied _ w.copy has
  session_step w (Begun bytes) inside has = noted_copied w.copy has
  session_step w (Failed disk) inside has = noted_copied w.copy has
  session_step w (FileRead bytes) inside has = read_copied bytes w.copy has
  session_step w FilesEnded inside has = files_copied w.engine.checkpoint w.copy has
  session_step w (PageRead bytes) inside has = page_copied bytes w.copy u has
  session_step w PagesEnded inside has = ends_copied w w.copy has
  session_step w _ inside has = has

  pub calm_keeps : (w v : PageWorld) (es : List Event) → Runs space number w es v → AllByRecursion (λ e. InCalm e ≡ true) es → HasStart w.copy u → HasStart v.copy u
  calm_keeps w v [] run calm has = subst (λ (x : PageWorld). HasStart x.copy u) run has
  calm_keeps w v (e ∷ es) run calm has = calm_keeps (happens space number w e) v es run.1 calm.1 (calm_step w e calm.0 has)

  pub session_keeps : (w v : PageWorld) (es : List Event) → Runs space number w es v → AllByRecursion (λ e. InSession e ≡ true) es → HasCopied w.copy u → HasCopied v.copy u
  session_keeps w v [] run inside has = subst (λ (x : PageWorld). HasCopied x.copy u) run has
  session_keeps w v (e ∷ es) run inside has = session_keeps (happens space number w e) v es run.1 inside.1 (session_step w e inside.0 has)
