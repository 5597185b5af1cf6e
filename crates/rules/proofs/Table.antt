-- The code's table of checks: a kind in a set of kinds, and the first row that refuses.
use Rattle.std.proofs.Common.{◌≡◌, ℕ, ◌&&◌, ◌||◌, Bool, true, false, cond, eqb, List, [], ◌∷◌, map, Some, sym, refl, ap, ◌∙◌}
use Rattle.std.proofs.lemmas.Bool.{and_right, eqb-true}
use Rattle.std.specs.List.{filter, find}
use Rattle.std.specs.Option.{option_map}
use Rattle.fields.specs.Kind.{kind_number}
use Rattle.fields.specs.declared.kind.Kind.{Kind}
use Rattle.fields.specs.declared.kind.Kind.TheVariants.{AuthReq}
use Rattle.rules.specs.Checks.{among, refusal, refuses}
use Rattle.rules.specs.Table.{all_kinds, has_bit, kinds_in, row_of}
use Rattle.wire.specs.declared.message.Fields.{Fields}
use Rattle.rules.specs.declared.checks.Row.{Row}
use Rattle.rules.specs.declared.facts.Facts.{Facts}

-- a kind is in a set just if its bit is set
among_filter : (k : ℕ) (test : ℕ → Bool) (kinds : List ℕ) → among k (filter test kinds) ≡ (among k kinds && test k)
among_filter k test [] = refl
among_filter k test (x ∷ kinds) = by (test x) refl (eqb k x) refl (among_filter k test kinds)
  where
    by : (t : Bool) → test x ≡ t → (s : Bool) → eqb k x ≡ s → among k (filter test kinds) ≡ (among k kinds && test k)
        → among k (cond t (x ∷ filter test kinds) (filter test kinds)) ≡ ((eqb k x || among k kinds) && test k)
    by true in_it true here rest = let same = eqb-true k x here in rw here (sym (ap test same ∙ in_it))
    by true in_it false apart rest = rw apart rest
    by false out true here rest = let same = eqb-true k x here in let no : test k ≡ false = ap test same ∙ out in rw (here, rest, no) (and_right (among k kinds) false refl)
    by false out false apart rest = rw apart rest

is_one : (k : Kind) → among (kind_number k) all_kinds ≡ true
is_one AuthReq = refl
is_one _ = refl

pub names_kind : (k : Kind) (bits : ℕ) → among (kind_number k) (kinds_in bits) ≡ has_bit bits (kind_number k)
names_kind k bits = among_filter (kind_number k) (has_bit bits) all_kinds ∙ ap (λ t. t && has_bit bits (kind_number k)) (is_one k)

-- the outcome of the first row that refuses a kind
pub first_refusal : (k : ℕ) (f : Facts) (m : Fields) (rows : List Row)
    → option_map (λ row. row.0) (find (λ row. refuses k (row_of f m row)) rows) ≡ refusal k (map (row_of f m) rows)
first_refusal k f m [] = refl
first_refusal k f m (row ∷ rows) =
    elim (refuses k (row_of f m row)) as (λ t. option_map (λ r. r.0) (cond t (Some row) (find (λ r. refuses k (row_of f m r)) rows)) ≡ cond t (Some row.0) (refusal k (map (row_of f m) rows))) [
      | true ↦ refl
      | false ↦ first_refusal k f m rows
    ]
