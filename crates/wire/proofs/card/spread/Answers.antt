use Rattle.std.proofs.Common.{◌≡◌, ◌+◌, ◌-◌, [], ◌++◌, drop, take, replicate, ap, ◌∙◌, arith}
use Rattle.std.proofs.lemmas.List.{append-nil}
use Rattle.wire.proofs.Spread.{cut_spread}
use Rattle.wire.proofs.card.spread.Goals as goal

pub returns : goal.returns
returns c =
    let count = c.args.count in
    let wide : (count + 19) - count ≡ 19 = omega arith in
    c.copy_from_slice-2.ensures.after
    ∙ ap (λ n. take n (drop count (replicate 19 0 ++ (c.copy_from_slice.new.self ++ [])))) wide
    ∙ ap (λ xs. take 19 (drop count (replicate 19 0 ++ xs))) (append-nil c.copy_from_slice.new.self ∙ c.copy_from_slice.ensures.after)
    ∙ cut_spread c.args.all.now count c.requires c.told-all
