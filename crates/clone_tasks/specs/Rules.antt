-- WHICH RULE APPLIES to a task: the first of them.
use Rattle.std.specs.Prelude.{ℕ, ◌==◌, ◌&&◌, ◌||◌, not, nat_lt, Bool, true, false, None, Some}
use Rattle.std.specs.Prelude.{if◌then◌else◌}
use Rattle.std.specs.declared.option.Option.{Option}
use Rattle.clone_marks.specs.Blocks.{all_finished}
use Rattle.clone_tasks.specs.declared.rule.Link.{Link}
use Rattle.clone_tasks.specs.declared.rule.Link.TheVariants as link
use Rattle.clone_tasks.specs.declared.rule.Rule.{Rule}
use Rattle.clone_tasks.specs.declared.rule.Rule.TheVariants as rule
use Rattle.clone_tasks.specs.declared.standing.Phase.{Phase}
use Rattle.clone_tasks.specs.declared.standing.Phase.TheVariants.{Opening, Copying, Done}
use Rattle.clone_tasks.specs.declared.standing.Standing.{Standing}
use Rattle.clone_tasks.specs.Tables.{Table, standing_of, is_apart, is_ready, awaits, is_done}
use Rattle.clone_tasks.specs.Tables.{any_awaits_end, incarnation_of, is_running}

abbrev pub is_absent : Link → Bool
is_absent link.Absent = true
is_absent link.Up = false
is_absent link.Lost = false

-- there is such a task, the clone goes on, and once all was copied task 0 alone has a part in it
abbrev pub takes_part : Table → ℕ → Bool
takes_part t task =
    nat_lt task t.count && is_running t && (not (is_done t.phase) || (task == 0))

-- task 0 opens the session or comes back to it, and the others follow it
abbrev pub connecting : Table → ℕ → Standing → Rule
connecting t task standing =
    if is_apart standing && ((task == 0) || t.joined) then rule.Connect else rule.Nothing

-- each chunk of the stage is finished, and no task awaits the END of an EXECUTE
abbrev pub acknowledges : Table → ℕ → Standing → Bool
acknowledges t task standing =
    not (is_apart standing) && (task == 0) && all_finished t.marks && not (any_awaits_end t)

-- a chunk isn't finished, and END wasn't taken in this stage and incarnation
abbrev pub asks : Table → Standing → Bool
asks t standing = is_ready standing && not (all_finished t.marks)

-- what a task does that awaits nothing
abbrev pub next_in : Phase → Table → ℕ → Standing → Rule
next_in Opening t task standing = rule.Nothing
next_in (Copying stage) t task standing =
    if acknowledges t task standing then rule.Acknowledge stage
    else (if asks t standing then rule.Execute stage
    else rule.Nothing)
next_in Done t task standing = rule.Complete

-- of a task whose connection is of the present incarnation
abbrev pub rule_of : Table → ℕ → Link → Rule
rule_of t task link =
    if not (takes_part t task) then rule.Nothing
    else (if is_absent link && not (is_done t.phase) then connecting t task (standing_of t task)
    else (if awaits (standing_of t task) then rule.Receive
    else next_in t.phase t task (standing_of t task)))

abbrev pub is_earlier : Option ℕ → ℕ → Bool
is_earlier None incarnation = false
is_earlier (Some made) incarnation = nat_lt made incarnation

-- the connection was made in an earlier incarnation
abbrev pub is_stale : Option ℕ → ℕ → Link → Bool
is_stale made incarnation link.Absent = false
is_stale made incarnation link.Up = is_earlier made incarnation
is_stale made incarnation link.Lost = is_earlier made incarnation

-- THE RULE, with the incarnation in which the task connected last
abbrev pub rule_at : Option ℕ → Table → ℕ → Link → Rule
rule_at made t task link =
    if is_stale made (incarnation_of t) link then rule.Stale else rule_of t task link

-- that of a task whose connection is as the table knows it
abbrev pub link_of : Standing → Link
link_of standing = if is_apart standing then link.Absent else link.Up

abbrev pub sending_rule : Table → ℕ → Rule
sending_rule t task = rule_of t task (link_of (standing_of t task))
