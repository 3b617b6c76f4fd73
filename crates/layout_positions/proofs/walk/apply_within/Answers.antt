use Rattle.layout_positions.specs.Walk.{Budgeted}
use Rattle.layout_positions.proofs.DigestLemmas.{passed_over, spent}
use Rattle.layout_positions.proofs.GlyphLemmas.{held_applied}
use Rattle.layout_positions.proofs.walk.apply_within.Goals as goal

pub returns-then-is_spent-clause-made : goal.returns-then-is_spent-clause-made
returns-then-is_spent-clause-made c =
    let here : Budgeted = record { buffer = c.args.buffer.now; left = c.args.left } in
    spent c.args.named.now.lookup here c.len-count.result c.len-count.ensures.items (c.is_spent.ensures.none c.if-is_spent.true)
    (c.is_spent.ensures.some c.if-is_spent.true)

pub returns-then-not-may_share-clause-made : goal.returns-then-not-may_share-clause-made
returns-then-not-may_share-clause-made c =
    passed_over c.args.named.now c.args.buffer.now c.args.left c.charge_walk.result c.len-count.result c.args.run.now c.requires.said c.requires.run
    (c.may_share.ensures c.if-not-may_share.true) c.charge_walk.ensures c.len-count.ensures.items

pub returns-clause-run : goal.returns-clause-run
returns-clause-run c =
    let here : Budgeted = record { buffer = c.args.buffer.now; left = c.args.left } in
    let next : Budgeted = record { buffer = c.apply_over.new.buffer; left = c.apply_over.result } in
    held_applied c.args.named.now.lookup here next c.args.run.now c.apply_over.ensures c.requires.run
