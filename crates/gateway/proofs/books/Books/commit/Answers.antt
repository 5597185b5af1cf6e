use Rattle.std.proofs.Common.{true, Some, length, vec_capacity, vec_items, sym, ap, ◌∙◌, subst, arith}
use Rattle.rules.specs.Change.{Fits, rows_after}
use Rattle.rules.specs.Ledger.{most_answers, most_batches, most_purchases}
use Rattle.rules.specs.Sound.{all_answers_sound, all_sound, all_within, most_total, sound_answer, sound_purchase, within}
use Rattle.rules.proofs.Known.{answers_stay}
use Rattle.rules.proofs.Totals.{within_grows}
use Rattle.rules.proofs.Writes.{every_after, fits_larger, fits_after, longer_after}
use Rattle.gateway.specs.Books.{shown}
use Rattle.gateway.proofs.books.Books.commit.Goals as goal

pub write-requires : goal.write-requires
write-requires c =
    let b = c.self.inside in
    let fits : Fits c.args.change (shown b) = subst (Fits c.args.change) (sym c.self.view_is) c.requires in
    fits_larger sound_purchase most_purchases (vec_capacity b.purchases) c.self.invariant.room c.args.change.purchase (vec_items b.purchases) fits.purchase

pub invariant_of-self : goal.invariant_of-self
invariant_of-self c =
    let b = c.self.inside in
    let kept = c.self.invariant in
    let change = c.args.change in
    let fits : Fits change (shown b) = subst (Fits change) (sym c.self.view_is) c.requires in
    let answers = rows_after (Some change.remembered) (vec_items b.answers) in
    let purchases = rows_after change.purchase (vec_items b.purchases) in
    let longer = longer_after (λ _. true) most_answers (Some change.remembered) (vec_items b.answers) in
    record {
      room = omega (arith, kept.room, c.write.ensures.capacity);
      memory = omega (arith, kept.memory, c.write-3.ensures.capacity);
      places = omega (arith, kept.places, c.write-2.ensures.capacity);
      purchases = omega (arith, ap length c.write.ensures.items, fits_after sound_purchase most_purchases change.purchase (vec_items b.purchases) kept.purchases fits.purchase);
      few = omega (arith, ap length c.write-3.ensures.items, fits_after (sound_answer purchases) most_answers (Some change.remembered) (vec_items b.answers) kept.few fits.remembered);
      sound = ap all_sound c.write.ensures.items ∙ every_after sound_purchase most_purchases change.purchase (vec_items b.purchases) kept.sound fits.purchase;
      totals =
          ap (λ rows. all_within (most_total (length rows)) (vec_items c.write-2.new.rows)) c.write-3.ensures.items
          ∙ ap (all_within (most_total (length answers))) c.write-2.ensures.items
          ∙ every_after (within (most_total (length answers))) most_batches change.batch (vec_items b.batches) (within_grows (length (vec_items b.answers)) (length answers) (vec_items b.batches) longer kept.totals) fits.batch;
      answers =
          ap (λ rows. all_answers_sound rows (vec_items c.write-3.new.rows)) c.write.ensures.items
          ∙ ap (all_answers_sound purchases) c.write-3.ensures.items
          ∙ every_after (sound_answer purchases) most_answers (Some change.remembered) (vec_items b.answers)
          (answers_stay (vec_items b.purchases) purchases fits.known (vec_items b.answers) kept.answers) fits.remembered;
    }
