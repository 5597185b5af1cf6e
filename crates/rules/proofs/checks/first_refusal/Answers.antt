use Rattle.std.proofs.Common.{rules, tests}
use Rattle.std.proofs.lemmas.Iterator.{YieldsList-from_slice}
use Rattle.std.proofs.lemmas.Iterator.Search.{find_from_yields_List}
use Rattle.fields.specs.Kind.{kind_number}
use Rattle.rules.specs.Checks.{refuses}
use Rattle.rules.specs.Table.{row_of}
use Rattle.rules.proofs.Table.{first_refusal}
use Rattle.rules.proofs.checks.first_refusal.Goals as goal

pub returns : goal.returns
returns c =
    let found = find_from_yields_List (λ row. refuses (kind_number c.args.kind) (row_of c.args.f.now c.args.m.now row)) _ _ c.find.result c.find.ensures.ran (YieldsList-from_slice c.args.rows.now cc) (λ x b q k. search (rules, tests)) in
    let first = first_refusal (kind_number c.args.kind) c.args.f.now c.args.m.now c.args.rows.now in
    search rules
