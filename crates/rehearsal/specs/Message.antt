-- The messages that a rehearsal says, each by the words after its first.
use Rattle.std.specs.Prelude.{◌≡◌, ℕ, List, codes, length, replicate}
use Rattle.fields.specs.Kind.{kind_number}
use Rattle.fields.specs.declared.kind.Kind.{Kind}
use Rattle.fields.specs.declared.kind.Kind.TheVariants.{AuthReq, AuthRevReq, CapReq, CapRevReq, CredReq, CredRevReq, BatchOpen, BatchClose, Inquiry}
use Rattle.wire.specs.declared.message.Fields.{Fields}
use Rattle.rehearsal.specs.declared.message.Message.{Message}
use Rattle.rehearsal.specs.Words.{Words, word, IsUnsigned, IsName, number_of, xid_of}

-- the word that each kind of message begins with
abbrev pub kind_text : Kind → List ℕ
kind_text AuthReq = codes "authorise"
kind_text AuthRevReq = codes "lower"
kind_text CapReq = codes "capture"
kind_text CapRevReq = codes "reverse-capture"
kind_text CredReq = codes "credit"
kind_text CredRevReq = codes "reverse-credit"
kind_text BatchOpen = codes "open"
kind_text BatchClose = codes "close"
kind_text Inquiry = codes "inquire"

-- a message of the kind with nothing else in it
abbrev pub message_of : Kind → Message
message_of kind = record { kind = kind; xid = replicate 20 0; card = 0; amount = 0; batch = 0 }

-- NAME PENCE batch NUMBER
abbrev pub IsBooking : Words → Type 0
IsBooking rest =
    (length rest ≡ 4) × IsName (word rest 0) × IsUnsigned 64 (word rest 1)
    × (word rest 2 ≡ codes "batch") × IsUnsigned 32 (word rest 3)

-- NUMBER of a batch
abbrev pub IsBatch : Words → Type 0
IsBatch rest = (length rest ≡ 1) × IsUnsigned 32 (word rest 0)

-- which words describe a message of the kind
abbrev pub HasOrder : Kind → Words → Type 0
HasOrder AuthReq rest =
    (length rest ≡ 3) × IsName (word rest 0) × IsUnsigned 64 (word rest 1)
    × IsUnsigned 64 (word rest 2)
HasOrder AuthRevReq rest = (length rest ≡ 2) × IsName (word rest 0) × IsUnsigned 64 (word rest 1)
HasOrder CapReq rest = IsBooking rest
HasOrder CapRevReq rest =
    (length rest ≡ 3) × IsName (word rest 0) × (word rest 1 ≡ codes "batch")
    × IsUnsigned 32 (word rest 2)
HasOrder CredReq rest = IsBooking rest
HasOrder CredRevReq rest = IsBooking rest
HasOrder BatchOpen rest = IsBatch rest
HasOrder BatchClose rest = IsBatch rest
HasOrder Inquiry rest = (length rest ≡ 1) × IsName (word rest 0)

abbrev pub booking_in : Kind → Words → Message
booking_in kind rest = record (message_of kind) {
  xid = xid_of (word rest 0);
  amount = number_of (word rest 1);
  batch = number_of (word rest 3);
}

abbrev pub batch_in : Kind → Words → Message
batch_in kind rest = record (message_of kind) { batch = number_of (word rest 0) }

-- the message that they describe
abbrev pub message_in : Kind → Words → Message
message_in AuthReq rest = record (message_of AuthReq) {
  xid = xid_of (word rest 0);
  card = number_of (word rest 1);
  amount = number_of (word rest 2);
}
message_in AuthRevReq rest =
    record (message_of AuthRevReq) { xid = xid_of (word rest 0); amount = number_of (word rest 1) }
message_in CapReq rest = booking_in CapReq rest
message_in CapRevReq rest =
    record (message_of CapRevReq) { xid = xid_of (word rest 0); batch = number_of (word rest 2) }
message_in CredReq rest = booking_in CredReq rest
message_in CredRevReq rest = booking_in CredRevReq rest
message_in BatchOpen rest = batch_in BatchOpen rest
message_in BatchClose rest = batch_in BatchClose rest
message_in Inquiry rest = record (message_of Inquiry) { xid = xid_of (word rest 0) }

-- the fields of a message under this request number of the course
abbrev pub fields_with : ℕ → ℕ → Message → Fields
fields_with course request m =
    record {
      kind = kind_number m.kind;
      request = request;
      course = course;
      xid = m.xid;
      card = m.card;
      amount = m.amount;
      batch = m.batch;
    }
