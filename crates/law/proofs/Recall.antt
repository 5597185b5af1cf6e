-- What is remembered after a message was noted, or its answer replaced.
use Rattle.std.proofs.Common.{◌≡◌, Bool, true, false, cond, ◌&&◌, eqb, List, is_some, Some, None, Option, sym, refl, ap, ◌∙◌}
use Rattle.std.specs.Option.{option_map}
use Rattle.std.proofs.lemmas.Bool.{and_from, and_parts, both_ways, eq-eqb, eqb-true}
use Rattle.rows.specs.First.{row_with}
use Rattle.rows.proofs.First.{row_update, row_update_other}
use Rattle.wire.specs.declared.message.Fields.{Fields}
use Rattle.rules.specs.Ledger.{Ledger, of_request, remembered_of}
use Rattle.rules.specs.Rules.{noted, repeat_in, replaced}
use Rattle.rules.specs.Same.{same_fields}
use Rattle.rules.specs.declared.outcome.Performed.{Performed}
use Rattle.rules.specs.declared.remembered.Remembered.{Remembered}
use Rattle.rules.proofs.Ways.{recalled}
use Rattle.rules.proofs.Sames.{fields_equal}
use Rattle.law.proofs.Base.{unless}
use Rattle.law.proofs.Rows.{row_push, row_push_other}

-- what is remembered under a course and request number, by the rows
abbrev pub row_of : Fields → List Remembered → Option Remembered
row_of n rows = row_with (of_request n.course n.request) rows

-- two messages of one course and request number
abbrev same_request : Fields → Fields → Bool
same_request m n = eqb m.course n.course && eqb m.request n.request

-- are looked for in the same place
one_place : (l : Ledger) (m n : Fields) → same_request m n ≡ true → remembered_of l n ≡ remembered_of l m
one_place l m n same =
    let both = and_parts (eqb m.course n.course) (eqb m.request n.request) same in
    ap (λ c. row_with (of_request c n.request) l.answers) (sym (eqb-true m.course n.course both.0))
    ∙ ap (λ r. row_with (of_request m.course r) l.answers) (sym (eqb-true m.request n.request both.1))

-- and others are not the same message
other_request : (m n : Fields) → same_request m n ≡ false → same_fields m n ≡ false
other_request m n apart =
    let itself : same_request m m ≡ true = and_from _ _ (eq-eqb m.course m.course refl) (eq-eqb m.request m.request refl) in
    unless (same_fields m n) (λ same. both_ways (same_request m n) apart (ap (same_request m) (sym (fields_equal m n same)) ∙ itself))

-- a message and its answer in a new row, where its course and request number had none
pub recalled_noted : (l l' : Ledger) (m n : Fields) (a : Performed) → l'.answers ≡ (noted m a l).answers → remembered_of l m ≡ None
    → recalled l' n ≡ cond (same_fields m n) (Some a) (recalled l n)
recalled_noted l l' m n a more new = by_request (same_request m n) refl
  where
    row : Remembered
    row = record { fields = m; answer = a }

    by_request : (t : Bool) → same_request m n ≡ t → recalled l' n ≡ cond (same_fields m n) (Some a) (recalled l n)
    by_request true e =
        let none : remembered_of l n ≡ None = one_place l m n e ∙ new in
        let there : remembered_of l' n ≡ Some row =
        ap (row_of n) more ∙ row_push (of_request n.course n.request) l.answers row
        ∙ ap (λ o. cond (is_some o) o (cond (same_request m n) (Some row) None)) none ∙ ap (λ t. cond t (Some row) None) e in
        ap (λ o. repeat_in o n) there ∙ ap (λ o. cond (same_fields m n) (Some a) (repeat_in o n)) (sym none)
    by_request false e =
        let there : remembered_of l' n ≡ remembered_of l n = ap (row_of n) more ∙ row_push_other (of_request n.course n.request) l.answers row e in
        ap (λ o. repeat_in o n) there ∙ ap (λ t. cond t (Some a) (recalled l n)) (sym (other_request m n e))

-- what is recalled stands in the row of its message
recalled_row : (o : Option Remembered) (m : Fields) (b : Performed) → repeat_in o m ≡ Some b → o ≡ Some (record { fields = m; answer = b })
recalled_row None m b is = cc
recalled_row (Some r) m b is = by_same (same_fields r.fields m) refl is
  where
    row : Performed → Fields → Remembered
    row x n = record { fields = n; answer = x }

    by_same : (t : Bool) → same_fields r.fields m ≡ t → cond t (Some r.answer) None ≡ Some b → Some r ≡ Some (record { fields = m; answer = b })
    by_same false e none = cc
    by_same true e here =
        let one = fields_equal r.fields m e in
        let answer : r.answer ≡ b = cc in
        ap (λ (x : Remembered). Some x) (ap (row r.answer) one ∙ ap (λ x. row x m) answer)

-- a new answer in the place of the remembered one
pub recalled_replaced : (l l' : Ledger) (m n : Fields) (a b : Performed) → l'.answers ≡ (replaced m a l).answers → recalled l m ≡ Some b
    → recalled l' n ≡ cond (same_fields m n) (Some a) (recalled l n)
recalled_replaced l l' m n a b other is = by_request (same_request m n) refl
  where
    row : Performed → Remembered
    row x = record { fields = m; answer = x }

    there : remembered_of l m ≡ Some (row b)
    there = recalled_row (remembered_of l m) m b is

    answer : Remembered → Remembered
    answer r = record { fields = r.fields; answer = a }

    same_key : (r : Remembered) → of_request m.course m.request r ≡ true → of_request n.course n.request r ≡ same_request m n
    same_key r key =
        let both = and_parts (eqb r.fields.course m.course) (eqb r.fields.request m.request) key in
        ap (λ c. eqb c n.course && eqb r.fields.request n.request) (eqb-true _ _ both.0)
        ∙ ap (λ q. eqb m.course n.course && eqb q n.request) (eqb-true _ _ both.1)

    twice : (t : Bool) → cond t (Some a) None ≡ cond t (Some a) (cond t (Some b) None)
    twice true = refl
    twice false = refl

    by_request : (t : Bool) → same_request m n ≡ t → recalled l' n ≡ cond (same_fields m n) (Some a) (recalled l n)
    by_request true e =
        let after : remembered_of l' n ≡ Some (row a) =
        one_place l' m n e ∙ ap (row_of m) other ∙ row_update (of_request m.course m.request) answer (λ r key. key) l.answers ∙ ap (option_map answer) there in
        ap (λ o. repeat_in o n) after ∙ twice (same_fields m n) ∙ ap (λ o. cond (same_fields m n) (Some a) (repeat_in o n)) (sym (one_place l m n e ∙ there))
    by_request false e =
        let after : remembered_of l' n ≡ remembered_of l n =
        ap (row_of n) other
        ∙ row_update_other (of_request m.course m.request) (of_request n.course n.request) answer (λ r key. (same_key r key ∙ e, same_key r key ∙ e)) l.answers in
        ap (λ o. repeat_in o n) after ∙ ap (λ t. cond t (Some a) (recalled l n)) (sym (other_request m n e))
