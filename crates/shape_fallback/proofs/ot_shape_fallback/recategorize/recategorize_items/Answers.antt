use Rattle.std.proofs.Common.{rules, ◌≡◌, ◌<◌, ◌∙◌, false, List, take, length, get_or, ap, sym, arith, refl}
use Rattle.std.specs.List.{list_any}
use Rattle.std.proofs.lemmas.Grind.{common_steps}
use Rattle.std.proofs.lemmas.List.{get_or_default}
use Rattle.std.proofs.lemmas.List.Edits.{map_over_more}
use Rattle.shape_items.specs.Items.{Item, new_item}
use Rattle.shape_buffer.proofs.Loops.PassingLemmas.{map_passed}
use Rattle.shape_buffer.specs.Walks.{items_mapped}
use Rattle.shape_fallback.specs.Recategorized.{is_nonspacing, recategorized_item}
use Rattle.shape_fallback.proofs.ot_shape_fallback.recategorize.recategorize_items.Goals as goal

-- an item that is no nonspacing mark stays
same : (x : Item) → is_nonspacing x ≡ false → recategorized_item x ≡ x
unfolding recategorized_item
same x other = rw other refl

pub loop-i-init : goal.loop-i-init
loop-i-init c =
    let b = c.args.buffer.now in
    let first = c.passed_over-first.result in
    let none : list_any is_nonspacing (take first b.items) ≡ false =
    ap (λ (xs : List Item). list_any is_nonspacing (take first xs)) (sym c.infos.ensures)
    ∙ c.passed_over-first.ensures.none is_nonspacing (λ x y said. search rules) in
    let unchanged = map_passed is_nonspacing recategorized_item same b.items first none in
    record { same_length = refl; updated = ap (λ (xs : List Item). record b { items = xs }) (sym unchanged) }

pub loop-i-preserved : goal.loop-i-preserved
loop-i-preserved c =
    let b = c.loop-i.buffer in
    let i = c.loop-i.i in
    let within : i < length b.items = grind (arith, common_steps) in
    let x : Item = get_or b.items i (new_item 0 0) in
    let read : x ≡ get_or b.items i x = get_or_default b.items i (new_item 0 0) x within in
    let wrote = c.recategorize_at.ensures x read in
    let kept = c.loop-i.invariant.updated in
    record {
      same_length = grind (arith, common_steps);
      updated = grind (arith, common_steps, map_over_more recategorized_item);
    }

pub returns : goal.returns
unfolding items_mapped
returns c = record { made = grind (arith, common_steps); no_longer = grind (arith, common_steps); same_limit = grind (arith, common_steps) }
