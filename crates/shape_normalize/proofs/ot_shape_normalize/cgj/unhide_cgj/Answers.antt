use Rattle.std.proofs.Common.{◌≡◌, ◌+◌, ◌-◌, ◌<◌, ◌≤◌, ◌==◌, true, List, length, get_or, set, bit_and, rules, sym, ap, ap₂, ◌∙◌, arith}
use Rattle.std.proofs.lemmas.Grind.{common_steps}
use Rattle.shape_items.specs.Buffer.{Buffer}
use Rattle.shape_items.specs.Items.{Item}
use Rattle.shape_normalize.specs.RoundTwo.{one_cgj_unhidden}
use Rattle.shape_normalize.proofs.RoundTwo.CgjLemmas.{unhidden_more, unhidden_all}
use Rattle.shape_normalize.proofs.ot_shape_normalize.cgj.unhide_cgj.Goals as goal

pub loop-i-preserved : goal.loop-i-preserved
loop-i-preserved c =
    let old = c.args.buffer.now in
    let items = c.loop-i.buffer.items in
    let i = c.loop-i.i in
    let before = c.index-infos-i.result in
    let item = c.index-infos-i-in-loop-i.result in
    let after = c.index-infos-i-in-loop-i-2.result in
    let here : i ≡ i - 1 + 1 = omega arith in
    let next : i + 1 ≡ i - 1 + 2 = omega arith in
    let moved : i + 1 - 1 ≡ i - 1 + 1 = omega arith in
    let within : i - 1 + 2 < length items = omega arith in
    let written : c.set_info.new.self.items ≡ set items (i - 1 + 1) (one_cgj_unhidden before item after) =
    ap (λ (b : Buffer). b.items) c.set_info.ensures ∙ ap₂ (λ n x. set items n x) here c.unhide_one_cgj-info.ensures in
    let at_before : before ≡ get_or items (i - 1) before = c.index-infos-i.is ∙ ap (λ xs. get_or xs (i - 1) before) c.infos-infos.ensures in
    let at_item : item ≡ get_or items (i - 1 + 1) item = c.index-infos-i-in-loop-i.is
    ∙ ap₂ (λ xs n. get_or xs n item) c.infos-infos.ensures here in
    let at_after : after ≡ get_or items (i - 1 + 2) after = c.index-infos-i-in-loop-i-2.is
    ∙ ap₂ (λ xs n. get_or xs n after) c.infos-infos.ensures next in
    record {
      items = c.set_info.ensures ∙ ap (λ (b : Buffer). record b { items = set items i c.unhide_one_cgj-info.result }) c.loop-i.invariant.items
          ∙ ap (λ (xs : List Item). record old { items = xs }) (sym (ap (λ (b : Buffer). b.items) c.set_info.ensures));
      walk = rw (moved, written) (unhidden_more (i - 1) items before item after within at_before at_item at_after ∙ c.loop-i.invariant.walk);
      same_length = grind (arith, common_steps);
    }

pub returns : goal.returns
returns c =
    let old = c.args.buffer.now in
    let items = c.loop-i.buffer.items in
    let seen : (bit_and old.scratch_flags.0 8 == 8) ≡ true = search rules in
    let over : length items ≤ c.loop-i.i - 1 + 2 = omega arith in
    rw seen (c.loop-i.invariant.items
    ∙ ap (λ (xs : List Item). record old { items = xs }) (sym (unhidden_all (c.loop-i.i - 1) items over) ∙ c.loop-i.invariant.walk))
