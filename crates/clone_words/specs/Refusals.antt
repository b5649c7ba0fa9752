-- What becomes of an error of a parse: it is out of memory, or the words are no command line.
use Rattle.std.specs.Prelude.{◌≡◌, ◌≢◌}
use Rattle.clap.specs.Words.{kind_of}
use Rattle.clap.specs.declared.error.Error.{Error}
use Rattle.clap.specs.declared.error.kind.ErrorKind.TheVariants.{OutOfMemory}
use Rattle.clone_words.specs.declared.reading.WordsRefusal.{WordsRefusal}
use Rattle.clone_words.specs.declared.reading.WordsRefusal.TheVariants.{Usage, NoMemory}

abbrev pub IsRefusalOf : Error → WordsRefusal → Type 0
IsRefusalOf error Usage = kind_of error ≢ OutOfMemory
IsRefusalOf error NoMemory = kind_of error ≡ OutOfMemory
