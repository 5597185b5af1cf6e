-- What the arguments of a program ask for.
use Rattle.std.specs.Prelude.{ℕ, List, Option, Some, None, codes, if◌then◌else◌, bytes_eq}
use Rattle.console.specs.declared.arguments.Asked.{Asked}
use Rattle.console.specs.declared.arguments.Asked.TheVariants.{Run, Help, Unknown}

-- none to run, `--help` alone for the help
abbrev pub asked_by : Option (List ℕ) → Option (List ℕ) → Asked
asked_by None second = Run
asked_by (Some word) None = if bytes_eq word (codes "--help") then Help else Unknown
asked_by (Some word) (Some other) = Unknown
