-- Eight fields handed out one after the other, each leaving the message and the kind as they were.
use Rattle.std.proofs.Common.{◌≡◌, ℕ, ◌^◌, true, ltb, List, refl, ap, ◌∙◌, arith}
use Rattle.std.proofs.lemmas.Bool.{ltb-true}
use Rattle.fields.proofs.Places.{ones_are_fields}
use lib.Count.{ones}
use Rattle.fields.specs.Field.{fields_from}
use Rattle.fields.specs.Kind.{kind_number, map_of}
use Rattle.fields.specs.declared.kind.Kind.{Kind}
use Rattle.fields.specs.declared.kind.Kind.TheVariants.{AuthReq, AuthRevReq, CapReq, CapRevReq, CredReq, CredRevReq, BatchOpen, BatchClose, Inquiry}

-- what is read of a kind and a message, where both are as they were at first
pub as_first : {X : Type 0} (F : ℕ → List ℕ → X) (k k₀ : Kind) (m m₀ : List ℕ) → (m ≡ m₀) × (k ≡ k₀) → F (map_of (kind_number k)) m ≡ F (map_of (kind_number k₀)) m₀
as_first F k k₀ m m₀ same = ap (λ x. F (map_of (kind_number x)) m) same.1 ∙ ap (F (map_of (kind_number k₀))) same.0

-- and still are after one field more
pub still : {k₀ k₁ k₂ : Kind} {m₀ m₁ m₂ : List ℕ} → (m₂ ≡ m₁) × (k₂ ≡ k₁) → (m₁ ≡ m₀) × (k₁ ≡ k₀) → (m₂ ≡ m₀) × (k₂ ≡ k₀)
still more before = (more.0 ∙ before.0, more.1 ∙ before.1)

-- a map of sixteen bits has as many fields as ones
all_fields : (map : ℕ) → ltb map (2 ^ 16) ≡ true → fields_from map 0 ≡ ones map
unfolding fields_from
all_fields map small = omega (arith, ones_are_fields map (ltb-true map (2 ^ 16) small))

-- so has a kind's map, and none of them past the eighth
pub fields_of_kind : (k : Kind) → (fields_from (map_of (kind_number k)) 0 ≡ ones (map_of (kind_number k))) × (fields_from (map_of (kind_number k)) 8 ≡ 0)
unfolding fields_from
fields_of_kind AuthReq = (all_fields _ refl, refl)
fields_of_kind AuthRevReq = (all_fields _ refl, refl)
fields_of_kind CapReq = (all_fields _ refl, refl)
fields_of_kind CapRevReq = (all_fields _ refl, refl)
fields_of_kind CredReq = (all_fields _ refl, refl)
fields_of_kind CredRevReq = (all_fields _ refl, refl)
fields_of_kind BatchOpen = (all_fields _ refl, refl)
fields_of_kind BatchClose = (all_fields _ refl, refl)
fields_of_kind Inquiry = (all_fields _ refl, refl)
