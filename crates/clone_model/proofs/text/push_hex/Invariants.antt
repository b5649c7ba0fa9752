use Rattle.std.proofs.Common.{◌≡◌, ◌++◌, drop}
use Rattle.std.specs.String.{string_bytes}
use Rattle.clone_model.specs.Texts.{hex}
use Rattle.clone_model.proofs.text.push_hex.Given as goal

abbrev pub invariant-loop-byte : goal.invariant-loop-byte
invariant-loop-byte l =
    string_bytes l.text ++ hex (drop l.byte-index l.bytes) ≡ string_bytes l.fn.text ++ hex l.bytes
