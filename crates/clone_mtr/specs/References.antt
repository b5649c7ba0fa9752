-- Records by reference: their patches are lent.
use Rattle.clone_mtr.specs.declared.record.Record.{Record}
use Rattle.clone_mtr.specs.declared.record.Record.TheVariants.{Init, Write, Extend, Create, Drop}
use Rattle.clone_mtr.specs.declared.reference.RecordRef.{RecordRef}
use Rattle.clone_mtr.specs.declared.reference.RecordRef.TheVariants as lent

-- the record that is meant
abbrev pub record_of : RecordRef → Record
record_of (lent.Init space page kind) = Init space page kind
record_of (lent.Write space page patch) = Write space page patch
record_of (lent.Extend space pages) = Extend space pages
record_of (lent.Create space pages) = Create space pages
record_of (lent.Drop space) = Drop space
