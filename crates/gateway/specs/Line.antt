-- The line that is printed for what was handled: the code, and the amount or `-`.
use Rattle.std.specs.Prelude.{ℕ, List, ◌++◌, codes, decimal, ◌==◌, if◌then◌else◌}
use Rattle.std.specs.Int.{w64}
use Rattle.std.proofs.Common.{to_z}
use Rattle.std.specs.Fmt.{signed_decimal}
use Rattle.fields.specs.Kind.{kind_number}
use Rattle.fields.specs.declared.kind.Kind.TheVariants.{BatchClose}
use Rattle.fields.specs.Refusal.{refusal_number}
use Rattle.rules.specs.Outcome.{outcome_code}
use Rattle.gateway.specs.declared.handled.Handled.{Handled}
use Rattle.gateway.specs.declared.handled.Handled.TheVariants.{NoRoom, Short, Full}

-- the amount of a batch close is a total, and has a sign
abbrev amount_of : ℕ → ℕ → List ℕ
amount_of kind amount =
    if kind == kind_number BatchClose then signed_decimal (to_z w64 amount) else decimal amount

abbrev pub line_of : Handled → List ℕ
line_of NoRoom = codes "1 -"
line_of (Short refusal) = decimal (refusal_number refusal) ++ codes " -"
line_of (Full kind a) =
    decimal (outcome_code a.outcome) ++ (codes " " ++ amount_of (kind_number kind) a.amount)
