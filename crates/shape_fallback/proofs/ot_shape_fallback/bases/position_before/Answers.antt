use Rattle.std.proofs.Common.{◌≡◌, ◌<◌, ◌+◌, ◌-◌, ◌∙◌, false, sym, ap, drop, length, arith}
use Rattle.shape_fallback.specs.Bases.{begins_with_mark, marks_from}
use Rattle.shape_fallback.proofs.BasesLemmas.{at_counted, at_unfollowed, marks_from_next}
use Rattle.shape_fallback.proofs.ot_shape_fallback.bases.position_before.Goals as goal

pub returns-then-i-done-clause-placed : goal.returns-then-i-done-clause-placed
returns-then-i-done-clause-placed g c =
    let base = c.args.i - 1 in
    let within : base < length c.args.buffer.now.items = omega arith in
    let some : 0 < marks_from base c.args.buffer.now = omega arith in
    sym (at_counted (g.F.hb_font_t.face c.args.face.now) c.args.frame base c.args.buffer.now within some)

pub returns-then-i-done-clause-end : goal.returns-then-i-done-clause-end
returns-then-i-done-clause-end g c =
    let base = c.args.i - 1 in
    let some : 0 < marks_from base c.args.buffer.now = omega arith in
    let here : base + 1 ≡ c.args.i = omega arith in
    let next = marks_from_next base c.args.buffer.now some in
    let behind = ap (λ n. marks_from n c.args.buffer.now) here in
    omega (arith, next, behind)

pub returns-then-not-is_mark_at-clause-placed : goal.returns-then-not-is_mark_at-clause-placed
returns-then-not-is_mark_at-clause-placed g c =
    let base = c.args.i - 1 in
    let within : base < length c.args.buffer.now.items = omega arith in
    let here : base + 1 ≡ c.args.i = omega arith in
    let first : begins_with_mark (drop c.args.i c.args.buffer.now.items) ≡ false = cc in
    sym (at_unfollowed (g.F.hb_font_t.face c.args.face.now) c.args.frame base c.args.buffer.now within
    (ap (λ n. begins_with_mark (drop n c.args.buffer.now.items)) here ∙ first))

pub returns-clause-end : goal.returns-clause-end
returns-clause-end g c =
    let here : c.args.i - 1 + 1 ≡ c.args.i = omega arith in
    let behind = ap (λ n. marks_from n c.args.buffer.now) here in
    omega (arith, c.position_at.ensures.end, behind)
