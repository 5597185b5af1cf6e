use Rattle.std.proofs.Common.{◌≡◌, ◌<◌, true, false, ltb, length, Ok, Err, sym, refl, ap, ◌∙◌}
use Rattle.std.proofs.ByRecursion.{All-from_get_or}
use Rattle.std.proofs.lemmas.Bool.{cond-false, or_parts}
use Rattle.fields.specs.Refusal.{refusal_number}
use Rattle.wire.specs.Answer.{short_into}
use Rattle.wire.specs.Buffer.{over_front}
use Rattle.wire.specs.RoundTrip.{Bytes}
use Rattle.wire.specs.Strip.{blanked, strip_length}
use Rattle.law.specs.History.{opened}
use Rattle.gateway.specs.Handling.{no_room}
use Rattle.gateway.proofs.Handlings.{refused_for_room, no_room_law, opened_on, performed, performed_law, refused, refused_law}
use Rattle.gateway.proofs.performing.Gateway.handle.Goals as goal

pub returns-then-lacks_room : goal.returns-then-lacks_room
returns-then-lacks_room g c =
    let h = g.H.Host in
    let b = c.args.message.now in
    let buffer = c.args.answer.now in
    let strip = c.args.strip.now in
    let l = c.args.self.now.books in
    let host = c.args.self.now.host in
    let short : no_room buffer strip ≡ true = sym c.if-lacks_room.ensures in
    record {
      rules = refused_for_room h (no_room buffer strip) b l host buffer strip short;
      law = no_room_law h (no_room buffer strip) b l host buffer strip short;
    }

pub returns-in-Ok : goal.returns-in-Ok
returns-in-Ok g c =
    let h = g.H.Host in
    let b = c.args.message.now in
    let buffer = c.args.answer.now in
    let strip = c.args.strip.now in
    let l = c.args.self.now.books in
    let host = c.args.self.now.host in
    let l' = c.answer_full.new.self.books in
    let host' = c.answer_full.new.self.host in
    let buffer' = c.answer_full.new.answer in
    let strip' = c.open.new.strip in
    let m = c.in-Ok.opened.fields in
    let room : no_room buffer strip ≡ false = sym c.if-lacks_room.ensures in
    let long : ltb (length strip) strip_length ≡ false = (or_parts (ltb (length buffer) 24) (ltb (length strip) strip_length) room).1 in
    let is : opened b ≡ Ok m = sym (c.in-Ok.ensures.value ∙ opened_on (length strip) b long) in
    let blank : strip' ≡ blanked strip = c.open.ensures.after ∙ cond-false (ltb (length strip) strip_length) strip (blanked strip) long in
    let are : Bytes b = All-from_get_or (λ x. x < 256) b 0 (λ i within. (c.type_inv.message i).fits) in
    record {
      rules = performed h (no_room buffer strip) b l host buffer strip room l' host' buffer' strip' blank m is c.kind-kind.result c.kind-kind.ensures c.answer_full.result c.answer_full.ensures.rules c.answer_full.ensures.after;
      law = performed_law h (no_room buffer strip) b l host buffer strip room l' host' buffer' strip' blank m c.in-Ok.ensures.own_bytes c.answer_full.result c.answer_full.ensures.law;
    }

pub returns-in-Err : goal.returns-in-Err
returns-in-Err g c =
    let h = g.H.Host in
    let b = c.args.message.now in
    let buffer = c.args.answer.now in
    let strip = c.args.strip.now in
    let l = c.args.self.now.books in
    let host = c.args.self.now.host in
    let buffer' = c.write_short.new.buffer in
    let strip' = c.open.new.strip in
    let refusal = c.in-Err.refusal in
    let room : no_room buffer strip ≡ false = sym c.if-lacks_room.ensures in
    let long : ltb (length strip) strip_length ≡ false = (or_parts (ltb (length buffer) 24) (ltb (length strip) strip_length) room).1 in
    let is : opened b ≡ Err (refusal_number refusal) = sym (c.in-Err.ensures.value ∙ opened_on (length strip) b long) in
    let blank : strip' ≡ blanked strip = c.open.ensures.after ∙ cond-false (ltb (length strip) strip_length) strip (blanked strip) long in
    let are : Bytes b = All-from_get_or (λ x. x < 256) b 0 (λ i within. (c.type_inv.message i).fits) in
    record {
      rules =
          refused h (no_room buffer strip) b l host buffer strip room l host buffer' strip' blank refl refl refusal is
          (c.write_short.ensures.after ∙ ap (λ n. over_front (short_into (length buffer) n) buffer) c.from.ensures);
      law = refused_law h (no_room buffer strip) b l host buffer strip room l host buffer' strip' blank refl refl refusal is are;
    }
