-- When bytes and messages are the same: they are equal.
use Rattle.std.proofs.Common.{◌≡◌, ℕ, true, eqb, List, [], ◌∷◌, sym, refl, ap, ◌∙◌}
use Rattle.std.proofs.lemmas.Bool.{and_parts, and_from, eqb-true, eq-eqb}
use Rattle.wire.specs.declared.message.Fields.{Fields}
use Rattle.wire.specs.Bytes.{same_bytes}
use Rattle.rules.specs.Same.{same_fields}

-- lists of bytes
pub sames_refl : (xs : List ℕ) → same_bytes xs xs ≡ true
sames_refl [] = refl
sames_refl (x ∷ xs) = and_from (eqb x x) (same_bytes xs xs) (eq-eqb x x refl) (sames_refl xs)

pub sames_equal : (xs ys : List ℕ) → same_bytes xs ys ≡ true → xs ≡ ys
sames_equal [] [] same = refl
sames_equal [] (y ∷ ys) same = cc
sames_equal (x ∷ xs) [] same = cc
sames_equal (x ∷ xs) (y ∷ ys) same =
    let both = and_parts (eqb x y) (same_bytes xs ys) same in
    let head = eqb-true x y both.0 in
    let tail = sames_equal xs ys both.1 in
    cc

pub same_from : (xs ys : List ℕ) → xs ≡ ys → same_bytes xs ys ≡ true
same_from xs ys e = ap (same_bytes xs) (sym e) ∙ sames_refl xs

-- messages
pub fields_refl : (m : Fields) → same_fields m m ≡ true
fields_refl m =
    and_from _ _ (eq-eqb m.kind m.kind refl)
    (and_from _ _ (eq-eqb m.request m.request refl)
    (and_from _ _ (eq-eqb m.course m.course refl)
    (and_from _ _ (sames_refl m.xid)
    (and_from _ _ (eq-eqb m.card m.card refl) (and_from _ _ (eq-eqb m.amount m.amount refl) (eq-eqb m.batch m.batch refl))))))

pub fields_equal : (m n : Fields) → same_fields m n ≡ true → m ≡ n
fields_equal m n same =
    let with : ℕ → ℕ → ℕ → List ℕ → ℕ → ℕ → ℕ → Fields = λ k r c x d a b. record { kind = k; request = r; course = c; xid = x; card = d; amount = a; batch = b } in
    let s1 = and_parts (eqb m.kind n.kind) _ same in
    let s2 = and_parts (eqb m.request n.request) _ s1.1 in
    let s3 = and_parts (eqb m.course n.course) _ s2.1 in
    let s4 = and_parts (same_bytes m.xid n.xid) _ s3.1 in
    let s5 = and_parts (eqb m.card n.card) _ s4.1 in
    let s6 = and_parts (eqb m.amount n.amount) (eqb m.batch n.batch) s5.1 in
    ap (λ k. with k m.request m.course m.xid m.card m.amount m.batch) (eqb-true m.kind n.kind s1.0)
    ∙ ap (λ x. with n.kind x m.course m.xid m.card m.amount m.batch) (eqb-true m.request n.request s2.0)
    ∙ ap (λ x. with n.kind n.request x m.xid m.card m.amount m.batch) (eqb-true m.course n.course s3.0)
    ∙ ap (λ x. with n.kind n.request n.course x m.card m.amount m.batch) (sames_equal m.xid n.xid s4.0)
    ∙ ap (λ x. with n.kind n.request n.course n.xid x m.amount m.batch) (eqb-true m.card n.card s5.0)
    ∙ ap (λ x. with n.kind n.request n.course n.xid n.card x m.batch) (eqb-true m.amount n.amount s6.0)
    ∙ ap (λ x. with n.kind n.request n.course n.xid n.card n.amount x) (eqb-true m.batch n.batch s6.1)
