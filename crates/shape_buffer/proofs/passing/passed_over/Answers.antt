use Rattle.std.proofs.Common.{◌≡◌, ◌<◌, ◌≤◌, ◌+◌, ◌-◌, ◌*◌, ◌∙◌, ap, sym, take, length, arith}
use Rattle.std.specs.List.{list_any}
use Rattle.shape_items.specs.Items.{new_item}
use Rattle.shape_buffer.proofs.Loops.PassingLemmas.{four_more, fewer}
use Rattle.shape_buffer.proofs.passing.passed_over.Goals as goal

pub loop-k-preserved : goal.loop-k-preserved
loop-k-preserved g c = λ p tells.
    let items = c.args.infos.now in
    let k = c.loop-k.k in
    let within : 4 * k + 3 < length items = omega (arith, c.loop-k-test.true, c.if-len-lt4.false) in
    let next : 4 * k + 4 ≡ 4 * (k + 1) = omega arith in
    let these = sym (c.is_in_four.ensures p tells (new_item 0 0)) ∙ c.if-is_in_four.false in
    ap (λ n. list_any p (take n items)) (sym next)
    ∙ four_more p items (4 * k) (new_item 0 0) within (c.loop-k.invariant p tells) these

pub returns : goal.returns
returns g c = record {
  none = λ p tells.
      let items = c.args.infos.now in
      let last = length items - 4 in
      let within : last + 3 < length items = omega (arith, c.if-len-lt4.false) in
      let end : last + 4 ≡ length items = omega (arith, c.if-len-lt4.false) in
      let met : last ≤ 4 * c.loop-k.k = omega (arith, c.loop-k-test.false, c.if-len-lt4.false) in
      let before = fewer p items last (4 * c.loop-k.k) met (c.loop-k.invariant p tells) in
      let these = sym (c.is_in_four-2.ensures p tells (new_item 0 0)) ∙ c.if-is_in_four-2.false in
      ap (λ n. list_any p (take n items)) (sym end) ∙ four_more p items last (new_item 0 0) within before these;
  within = omega arith;
}
