use Rattle.std.proofs.Common.{rules, ◌≡◌, ◌<◌, ◌≤◌, length, get_or, set, ap, ◌∙◌, arith}
use Rattle.std.proofs.lemmas.Grind.{common_steps}
use Rattle.shape_items.specs.Clusters.{mark_break}
use Rattle.layout_positions.proofs.FlaggedLemmas.{broken_more}
use Rattle.layout_positions.proofs.flagged.break_others.Goals as goal

pub loop-i-preserved : goal.loop-i-preserved
loop-i-preserved c =
    let here = c.loop-i.buffer in
    let x = c.index-infos-i.result in
    let le : c.args.start ≤ c.loop-i.i = search (rules, arith) in
    let inside : c.loop-i.i < length c.args.buffer.now.items = omega (arith, c.loop-i-test.true, c.requires.within) in
    let is : x ≡ get_or here.items c.loop-i.i x = c.index-infos-i.is ∙ ap (λ xs. get_or xs c.loop-i.i x) c.infos.ensures in
    let put : c.set_info.new.self ≡ record here { items = set here.items c.loop-i.i (mark_break c.args.cluster x) } =
    c.set_info.ensures ∙ ap (λ y. record here { items = set here.items c.loop-i.i y }) c.broken_item-item.ensures in
    record {
      made = broken_more c.args.cluster c.args.start c.loop-i.i c.args.buffer.now here c.set_info.new.self x le inside
          c.loop-i.invariant.made is put;
      len = grind (arith, common_steps);
    }
