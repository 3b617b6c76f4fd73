use Rattle.std.proofs.Common.{rules, false, take, ◌≡◌, ◌<◌, ◌≤◌, ◌+◌, ◌-◌, List, Bool, ◌∙◌, ap, sym, length, drop, refl, arith}
use Rattle.std.specs.Prelude.{unwrap_or, fold}
use Rattle.std.specs.List.{list_any, prefix_len}
use Rattle.shape_items.specs.Items.{Item, is_mark_item}
use Rattle.std.proofs.lemmas.Grind.{common_steps}
use Rattle.shape_fallback.specs.Bases.{bases_positioned, position_span, bases, marks_of, marks_from, positioned_at}
use Rattle.shape_fallback.proofs.BasesLemmas.{bases_step, bases_passed, bases_last, length-positioned_at, limit-positioned_at, marks_of-positioned_at}
use Rattle.shape_fallback.proofs.ot_shape_fallback.bases.position_bases.Goals as goal

pub loop-i-init : goal.loop-i-init
unfolding bases_positioned
loop-i-init g c =
    let face = g.F.hb_font_t.face c.args.face.now in
    let b = c.args.buffer.now in
    let first = c.passed_over-first.result in
    let none : list_any is_mark_item (take first b.items) ≡ false =
    ap (λ (xs : List Item). list_any is_mark_item (take first xs)) (sym c.infos.ensures)
    ∙ c.passed_over-first.ensures.none is_mark_item (λ x y said. search rules) in
    let within : first ≤ length b.items = grind (arith, common_steps) in
    let after : 0 < c.max-i.result = omega (arith, c.max-i.ensures) in
    let before : c.max-i.result - 1 ≤ first - 1 = omega (arith, c.max-i.ensures) in
    record {
      after = after;
      as_many = refl;
      same_limit = refl;
      marks = omega arith;
      rest = bases_passed face c.args.frame b (c.max-i.result - 1) first before within none;
    }

pub loop-i-preserved : goal.loop-i-preserved
loop-i-preserved g c =
    let face = g.F.hb_font_t.face c.args.face.now in
    let s = c.args.frame in
    let b = c.loop-i.buffer in
    let i = c.loop-i.i in
    let base = i - 1 in
    let placed = positioned_at face s base b in
    let within : base < length b.items = grind (arith, common_steps) in
    let here : base + 1 ≡ i = omega arith in
    let next : i + 1 - 1 ≡ i = omega arith in
    let made = c.position_before-done.ensures.placed in
    let step : fold (position_span face s) b (bases base (drop base (marks_of b)))
    ≡ fold (position_span face s) placed (bases i (drop i (marks_of placed))) = bases_step face s base b within
    ∙ ap (λ n. fold (position_span face s) placed (bases n (drop n (marks_of placed)))) here in
    let many = length-positioned_at face s base b in
    let limit = limit-positioned_at face s base b in
    let kept : marks_from i placed ≡ marks_from i b =
    ap (λ (ms : List Bool). prefix_len (λ mark. mark) (drop i ms)) (marks_of-positioned_at face s base b) in
    rw (made, next) (record {
      after = omega arith;
      as_many = many ∙ c.loop-i.invariant.as_many;
      same_limit = limit ∙ c.loop-i.invariant.same_limit;
      marks = omega (arith, c.position_before-done.ensures.end, kept);
      rest = sym step ∙ c.loop-i.invariant.rest;
    })

pub returns : goal.returns
returns g c =
    let over : length c.loop-i.buffer.items ≤ c.loop-i.i - 1 + 1 = grind (arith, common_steps) in
    let end = bases_last (g.F.hb_font_t.face c.args.face.now) c.args.frame (c.loop-i.i - 1) c.loop-i.buffer over in
    record {
      made = sym end ∙ c.loop-i.invariant.rest;
      no_longer = grind (arith, common_steps);
      same_limit = ap (λ limit. unwrap_or limit 18446744073709551615) c.loop-i.invariant.same_limit;
    }
