-- The nine kinds of message, by number: the fields of each, its map and length, and the amounts it
-- allows.
use Rattle.std.specs.Prelude.{◌≡◌, ℕ, zero, suc, ◌+◌, ◌-◌, ◌^◌, Bool, false, ◌&&◌, List, [], ◌∷◌, map, codes, Some, None, Option, nat_le, slice_get, Result, MatchResult}
use Rattle.fields.specs.Field.{bit_of, length_under}
use Rattle.fields.specs.declared.field.Field.{Field}
use Rattle.fields.specs.declared.field.Field.TheVariants.{Kind as KindF, Request, Course, Xid, Card, Amount, Batch}
use Rattle.fields.specs.declared.kind.Kind.{Kind}
use Rattle.fields.specs.declared.refusal.Refusal.{Refusal}
use Rattle.fields.specs.declared.refusal.Refusal.TheVariants.{UnknownKind}
use Rattle.fields.specs.declared.kind.Kind.TheVariants.{AuthReq, AuthRevReq, CapReq, CapRevReq, CredReq, CredRevReq, BatchOpen, BatchClose, Inquiry}

abbrev pub kind_number : Kind → ℕ
kind_number AuthReq = 1
kind_number AuthRevReq = 2
kind_number CapReq = 3
kind_number CapRevReq = 4
kind_number CredReq = 5
kind_number CredRevReq = 6
kind_number BatchOpen = 7
kind_number BatchClose = 8
kind_number Inquiry = 9

-- SET's names of the messages, and plain words for those that SET has under other names
abbrev pub kind_name : Kind → List ℕ
kind_name AuthReq = codes "AuthReq"
kind_name AuthRevReq = codes "AuthRevReq"
kind_name CapReq = codes "CapReq"
kind_name CapRevReq = codes "CapRevReq"
kind_name CredReq = codes "CredReq"
kind_name CredRevReq = codes "CredRevReq"
kind_name BatchOpen = codes "batch open"
kind_name BatchClose = codes "batch close"
kind_name Inquiry = codes "inquiry"

abbrev pub is_kind : ℕ → Bool
is_kind k = nat_le 1 k && nat_le k 9

-- the kinds in the order of their numbers, which begin at 1
abbrev kinds : List Kind
kinds =
    AuthReq ∷ AuthRevReq ∷ CapReq ∷ CapRevReq ∷ CredReq ∷ CredRevReq
    ∷ BatchOpen ∷ BatchClose ∷ Inquiry ∷ []

-- the kind with this number, if one has it
abbrev pub kind_from : ℕ → Option Kind
kind_from zero = None
kind_from (suc n) = slice_get kinds n

-- the kind with this number, or the refusal of a number that no kind has
abbrev pub IsKindOf : ℕ → Result Kind Refusal → Type 0
IsKindOf n r =
    MatchResult r (λ kind. kind_number kind ≡ n) (λ e. (e ≡ UnknownKind) × (is_kind n ≡ false))

-- the fields of a message of each kind
abbrev pub kind_fields : Option Kind → List Field
kind_fields (Some AuthReq) = KindF ∷ Request ∷ Course ∷ Xid ∷ Card ∷ Amount ∷ []
kind_fields (Some AuthRevReq) = KindF ∷ Request ∷ Course ∷ Xid ∷ Amount ∷ []
kind_fields (Some CapReq) = KindF ∷ Request ∷ Course ∷ Xid ∷ Amount ∷ Batch ∷ []
kind_fields (Some CapRevReq) = KindF ∷ Request ∷ Course ∷ Xid ∷ Batch ∷ []
kind_fields (Some CredReq) = KindF ∷ Request ∷ Course ∷ Xid ∷ Amount ∷ Batch ∷ []
kind_fields (Some CredRevReq) = KindF ∷ Request ∷ Course ∷ Xid ∷ Amount ∷ Batch ∷ []
kind_fields (Some BatchOpen) = KindF ∷ Request ∷ Course ∷ Batch ∷ []
kind_fields (Some BatchClose) = KindF ∷ Request ∷ Course ∷ Batch ∷ []
kind_fields (Some Inquiry) = KindF ∷ Request ∷ Course ∷ Xid ∷ []
kind_fields None = []

-- the map in which just these fields stand
abbrev pub map_with : List Field → ℕ
map_with [] = 0
map_with (f ∷ fs) = 2 ^ (15 - bit_of f) + map_with fs

abbrev pub map_of : ℕ → ℕ
map_of k = map_with (kind_fields (kind_from k))

abbrev pub length_of : ℕ → ℕ
length_of k = length_under (map_of k)

-- the maps and lengths of kinds 1 to 9
abbrev pub KindsComeOut : Type 0
KindsComeOut =
    map {B = ℕ × ℕ} (λ (k : ℕ). (map_of k, length_of k))
    (1 ∷ 2 ∷ 3 ∷ 4 ∷ 5 ∷ 6 ∷ 7 ∷ 8 ∷ 9 ∷ [])
    ≡ (0xFC00, 53) ∷ (0xF400, 43) ∷ (0xF600, 47) ∷ (0xF200, 39) ∷ (0xF600, 47)
    ∷ (0xF600, 47) ∷ (0xE200, 19) ∷ (0xE200, 19) ∷ (0xF000, 35) ∷ []

-- the largest amount in pence that a message may carry: one penny under a million pounds
abbrev pub most_pence : ℕ
most_pence = 99999999

-- the least and the most that a message of each kind may carry; 0 alone where it has no amount
abbrev pub amount_bounds : Option Kind → ℕ × ℕ
amount_bounds (Some AuthReq) = (1, most_pence)
amount_bounds (Some AuthRevReq) = (0, most_pence)
amount_bounds (Some CapReq) = (1, most_pence)
amount_bounds (Some CapRevReq) = (0, 0)
amount_bounds (Some CredReq) = (1, most_pence)
amount_bounds (Some CredRevReq) = (1, most_pence)
amount_bounds (Some BatchOpen) = (0, 0)
amount_bounds (Some BatchClose) = (0, 0)
amount_bounds (Some Inquiry) = (0, 0)
amount_bounds None = (0, 0)

abbrev pub amount_allowed : ℕ → ℕ → Bool
amount_allowed k amount =
    let bounds = amount_bounds (kind_from k) in
    nat_le bounds.0 amount && nat_le amount bounds.1
