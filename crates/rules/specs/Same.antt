-- When two messages are the same.
use Rattle.std.specs.Prelude.{Bool, ◌&&◌, ◌==◌}
use Rattle.wire.specs.Bytes.{same_bytes}
use Rattle.wire.specs.declared.message.Fields.{Fields}

-- two messages are the same if they are equal in all fields
abbrev pub same_fields : Fields → Fields → Bool
same_fields m n =
    (m.kind == n.kind)
    && (m.request == n.request
    && (m.course == n.course
    && (same_bytes m.xid n.xid
    && (m.card == n.card && (m.amount == n.amount && m.batch == n.batch)))))
