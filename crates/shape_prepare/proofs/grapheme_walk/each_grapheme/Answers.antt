use Rattle.std.proofs.Common.{◌+◌, map, drop, refl, sym, ap, ◌∙◌, arith}
use Rattle.shape_items.specs.GraphemeSpans.{is_continuation, ends}
use Rattle.shape_prepare.specs.GraphemeWalk.{changed}
use Rattle.shape_prepare.proofs.Spans.WalkedLemmas.{Walked-begun, Walked-ends, Walked-goes_on, Walked-made, change_leaves}
use Rattle.shape_prepare.proofs.grapheme_walk.each_grapheme.Goals as goal
use Rattle.shape_prepare.proofs.grapheme_walk.each_grapheme.Goals.{then-ends_grapheme, else-ends_grapheme}

pub loop-last-init : goal.loop-last-init
loop-last-init c = record { walked = Walked-begun (changed c.args.change) c.args.buffer.now; as_many = refl; ordered = omega arith }

pub loop-last-preserved : goal.loop-last-preserved
loop-last-preserved c =
    let f = changed c.args.change in
    let text = c.args.buffer.now in
    let last = c.loop-last.last in
    let start = c.loop-last.start in
    let b = c.loop-last.buffer in
    let so_far = c.loop-last.invariant.walked in
    let told = sym (c.ends_grapheme.ensures ∙ ap (λ xs. ends (map is_continuation (drop (last + 1) xs))) c.infos.ensures) in
    elim c.if-ends_grapheme.branch [
      | then-ends_grapheme w ↦
          let next = Walked-ends f text start last b so_far (change_leaves c.args.change) (omega arith) (told ∙ w.if-ends_grapheme.true) in
          rw (w.start-is, w.buffer-is ∙ w.make.ensures)
          (record { walked = next; as_many = next.as_many; ordered = next.ordered })
      | else-ends_grapheme w ↦
          let next = Walked-goes_on f text start last b so_far (omega arith) (told ∙ w.if-ends_grapheme.false) in
          rw (w.start-is, w.buffer-is) (record { walked = next; as_many = next.as_many; ordered = next.ordered })
    ]

pub returns-clause-walked : goal.returns-clause-walked
returns-clause-walked c =
    Walked-made (changed c.args.change) c.args.buffer.now c.loop-last.start c.loop-last.last c.loop-last.buffer c.loop-last.invariant.walked
    (omega arith)
