use Rattle.std.proofs.Common.{◌≡◌, ◌+ℤ◌, pos, to_z, of_z, sym, ap, ◌∙◌, arith}
use Rattle.std.proofs.lemmas.Int.{ints}
use Rattle.shape_lines.specs.Pieces.{pieces_of}
use Rattle.shape_lines.specs.Walked.{line_of}
use Rattle.shape_lines.proofs.PieceLemmas.{length-pieces_of}
use Rattle.shape_lines.proofs.WalkedLemmas.{IsWalked-more, small_sums}
use Rattle.shape_lines.proofs.cutting.Walk.add.Goals as goal
use mir.Syntax.{w128}

pub overflow_add-self : goal.overflow_add-self
overflow_add-self c =
    let ps = pieces_of c.args.glyphs.now in
    let long = length-pieces_of c.args.glyphs.now in
    let few = c.requires.summable.few in
    let above = c.piece_at.ensures.narrow.above in
    let below = c.piece_at.ensures.narrow.below in
    let is = c.from-width.ensures in
    let small = small_sums ps c.args.self.now.start c.args.place (omega arith) c.requires.summable.narrow in
    let low = small.above in
    let high = small.below in
    let sum = c.requires.walked.so_far_is in
    record { sfits = grind (arith, ints) }

pub overflow_add-self-2 : goal.overflow_add-self-2
overflow_add-self-2 c =
    let ps = pieces_of c.args.glyphs.now in
    let long = length-pieces_of c.args.glyphs.now in
    let few = c.requires.summable.few in
    let above = c.piece_at.ensures.narrow.above in
    let below = c.piece_at.ensures.narrow.below in
    let is = c.from-width.ensures in
    let small = small_sums ps c.args.self.now.taken c.args.place (omega arith) c.requires.summable.narrow in
    let low = small.above in
    let high = small.below in
    let sum = c.requires.walked.beyond_is in
    record { sfits = grind (arith, ints) }

pub returns : goal.returns
returns c =
    let b = c.args.glyphs.now in
    let ps = pieces_of b in
    let long = length-pieces_of b in
    let few = c.requires.summable.few in
    let p = c.piece_at.result in
    let above = c.piece_at.ensures.narrow.above in
    let below = c.piece_at.ensures.narrow.below in
    let is = c.from-width.ensures in
    let small = small_sums ps c.args.self.now.start c.args.place (omega arith) c.requires.summable.narrow in
    let low = small.above in
    let high = small.below in
    let sum = c.requires.walked.so_far_is in
    let small2 = small_sums ps c.args.self.now.taken c.args.place (omega arith) c.requires.summable.narrow in
    let low2 = small2.above in
    let high2 = small2.below in
    let sum2 = c.requires.walked.beyond_is in
    let so_far : to_z w128 (of_z w128 (to_z w128 (of_z w128 c.args.self.now.so_far) +ℤ to_z w128 (of_z w128 c.from-width.result)))
    ≡ c.args.self.now.so_far +ℤ p.width = omega (arith, ints) in
    let beyond : to_z w128 (of_z w128 (to_z w128 (of_z w128 c.args.self.now.beyond) +ℤ to_z w128 (of_z w128 c.from-width.result)))
    ≡ c.args.self.now.beyond +ℤ p.width = omega (arith, ints) in
    rw (so_far, beyond)
    (IsWalked-more ps (pos c.args.width) (line_of b c.args.text_end) _ _ _ _ _ c.args.place p (omega (arith, long, c.requires.within))
    c.piece_at.ensures.value c.requires.walked)
