use Rattle.std.proofs.Common.{◌≡◌, ◌%◌, [], ◌∷◌, sym, ap, ◌∙◌, rules}
use Rattle.wire.specs.Layout.{pieces, placed}
use Rattle.wire.proofs.Laying.{Sized, laid_more, laid_all, piece_wide, length_laid}
use Rattle.wire.proofs.Numbers.{spelled_4, spelled_8}
use Rattle.wire.proofs.lay.fill.Goals as goal

pub returns : goal.returns
returns c =
    let map = c.args.map.bits in
    let p = c.args.parts.now in
    let buffer = c.args.buffer.now in
    let sized : Sized p = record { xid = search rules; card = search rules } in
    let kind : p.kind % 256 ≡ p.kind = search rules in
    let code : p.code % 256 ≡ p.code = search rules in
    let more = laid_more map (pieces p) (piece_wide p sized) in
    let s₁ = c.put.ensures ∙ ap (λ xs. placed map 0 xs c.put_map.new.buffer) (c.to_be_bytes.ensures ∙ ap (λ k. k ∷ []) (sym kind)) ∙ more 0 _ buffer c.put_map.ensures in
    let s₂ = c.put-2.ensures ∙ ap (λ xs. placed map 1 xs c.put.new.buffer) (c.to_be_bytes-2.ensures ∙ spelled_8 p.request) ∙ more 1 _ buffer s₁ in
    let s₃ = c.put-3.ensures ∙ ap (λ xs. placed map 2 xs c.put-2.new.buffer) (c.to_be_bytes-3.ensures ∙ spelled_4 p.course) ∙ more 2 _ buffer s₂ in
    let s₄ = c.put-4.ensures ∙ more 3 _ buffer s₃ in
    let s₅ = c.put-5.ensures ∙ more 4 _ buffer s₄ in
    let s₆ = c.put-6.ensures ∙ ap (λ xs. placed map 5 xs c.put-5.new.buffer) (c.to_be_bytes-4.ensures ∙ spelled_8 p.amount) ∙ more 5 _ buffer s₅ in
    let s₇ = c.put-7.ensures ∙ ap (λ xs. placed map 6 xs c.put-6.new.buffer) (c.to_be_bytes-5.ensures ∙ spelled_4 p.batch) ∙ more 6 _ buffer s₆ in
    let s₈ = c.put-8.ensures ∙ ap (λ xs. placed map 7 xs c.put-7.new.buffer) (c.to_be_bytes-6.ensures ∙ ap (λ k. k ∷ []) (sym code)) ∙ more 7 _ buffer s₇ ∙ laid_all map p buffer in
    record { long = length_laid map p sized; after = s₈ }
