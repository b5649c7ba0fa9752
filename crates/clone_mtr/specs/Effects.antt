-- What a record does to the page that it names. The page takes the end of the record's
-- mini-transaction as its page LSN.
use Rattle.std.specs.Prelude.{ℕ, List}
use Rattle.clone_page.specs.Bytes.{put_at}
use Rattle.clone_page.specs.Header.{initialised, with_lsn}
use Rattle.clone_mtr.specs.declared.record.Record.{Record}
use Rattle.clone_mtr.specs.declared.record.Record.TheVariants.{Init, Write, Extend, Create, Drop}

-- an INIT makes the page anew, a WRITE puts its bytes on it, and the others change no page
abbrev pub effect : ℕ → Record → List ℕ → List ℕ
effect lsn (Init space number kind) page = initialised space number kind lsn
effect lsn (Write space number patch) page = with_lsn lsn (put_at patch.offset patch.bytes page)
effect lsn (Extend space pages) page = page
effect lsn (Create space pages) page = page
effect lsn (Drop space) page = page
