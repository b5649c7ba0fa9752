use Rattle.std.proofs.Common.{◌≡◌, ◌<◌, ◌∙◌, ℕ, Option, Some, None, option_map, unwrap_or, ap, refl, arith}
use Rattle.std.specs.Option.{ForSome}
use Rattle.clone_base.specs.declared.limits.TheConstants.{LSN_LIMIT}
use Rattle.clone_archive.specs.Archived.{Archived, IsArchived, archived_of}
use Rattle.clone_session.specs.CloneCalls.{IsWithinRing}
use Rattle.clone_tests_copy.proofs.session.moment.Goals as goal

-- the log ends where it is archived
at_end : (archive : Option Archived) (ring end : ℕ) → ForSome archive IsArchived → end ≡ unwrap_or (option_map archived_of archive) 8192 → (end < LSN_LIMIT) × IsWithinRing end ring archive
at_end None ring end laws is = (omega arith, tt)
at_end (Some a) ring end laws is = (omega (arith, (laws a refl).below), λ unended. (omega arith, omega arith))

pub returns : goal.returns
returns c =
    let archive = c.args.cloning.now.archive in
    let is : c.unwrap_or.result ≡ unwrap_or (option_map archived_of archive) 8192 = c.unwrap_or.ensures ∙ ap (λ (o : Option ℕ). unwrap_or o 8192) c.archived.ensures in
    let (below, within) = at_end archive c.args.cloning.now.ring c.unwrap_or.result c.part_laws.ensures.archive is in
    record { checkpoint = omega arith; end = below; within = within }
