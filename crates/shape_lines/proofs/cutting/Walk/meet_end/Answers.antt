use Rattle.std.proofs.Common.{◌≡◌, ◌≤◌, length, pos, to_z, of_z, arith, rules, false}
use Rattle.std.proofs.lemmas.Int.{ints}
use Rattle.shape_lines.specs.Pieces.{pieces_of}
use Rattle.shape_lines.specs.Walked.{line_of}
use Rattle.shape_lines.proofs.PieceLemmas.{length-pieces_of}
use Rattle.shape_lines.proofs.LeastLemmas.{IsSmall-least}
use Rattle.shape_lines.proofs.WalkedLemmas.{IsWalked-preserved, IsWalked-ended, small_sums}
use Rattle.shape_lines.proofs.cutting.Walk.meet_end.Goals as goal
use Rattle.shape_lines.proofs.cutting.Walk.meet_end.Goals.{then-self+then-self-least+in_ok-push, else-self, else-self-via-then-self+else-self-least, else-self-via-else-self}
use mir.Syntax.{w128}

pub overflow_add-self : goal.overflow_add-self
overflow_add-self c =
    let ps = pieces_of c.args.glyphs.now in
    let long = length-pieces_of c.args.glyphs.now in
    let few = c.requires.summable.few in
    let small = small_sums ps c.args.self.now.start c.args.place (omega arith) c.requires.summable.narrow in
    let low = small.above in
    let high = small.below in
    let sum = c.requires.walked.so_far_is in
    let least_small = IsSmall-least ps c.args.place (omega arith) c.requires.summable.narrow in
    let low2 = least_small.above in
    let high2 = least_small.below in
    let is = c.requires.least in
    record { sfits = grind (arith, ints) }

pub returns-clause-walked : goal.returns-clause-walked
returns-clause-walked c =
    let b = c.args.glyphs.now in
    let ps = pieces_of b in
    let long = length-pieces_of b in
    let few = c.requires.summable.few in
    let small = small_sums ps c.args.self.now.start c.args.place (omega arith) c.requires.summable.narrow in
    let low = small.above in
    let high = small.below in
    let sum = c.requires.walked.so_far_is in
    let least_small = IsSmall-least ps c.args.place (omega arith) c.requires.summable.narrow in
    let low2 = least_small.above in
    let high2 = least_small.below in
    let is = c.requires.least in
    let within : c.args.place ≤ length ps = omega (arith, long, c.requires.within) in
    elim c.if-self.branch [
      | then-self+then-self-least+in_ok-push w ↦
          let is_far : to_z w128 (of_z w128 c.args.self.now.beyond) ≡ c.args.self.now.beyond = search rules in
          rw (w.self-is, w.in_ok-push.ensures.items, w.line_between.ensures, is_far)
          (IsWalked-ended ps (pos c.args.width) (line_of b c.args.text_end) _ _ _ _ _ c.args.place c.requires.walked c.requires.may_end within
          w.if-self.true (omega (arith, ints)))
      | else-self w ↦
          rw w.self-is (IsWalked-preserved ps (pos c.args.width) (line_of b c.args.text_end) _ _ _ _ _ c.args.place c.requires.walked c.requires.may_end within
          (λ some. elim w.else-self.branch [
            | else-self-via-then-self+else-self-least w' ↦ omega (arith, ints)
            | else-self-via-else-self w' ↦ absurd (omega arith)
          ]))
    ]
