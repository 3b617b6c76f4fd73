use Rattle.std.proofs.Common.{◌≡◌, ◌+◌, ◌++◌, ◌∷◌, [], length, ap, sym, subst, ◌∙◌, arith}
use Rattle.std.proofs.lemmas.List.{length-append}
use Rattle.layout_digests.specs.WholeRules.{AreWholesOf}
use Rattle.layout_digests.proofs.WholeRuleLemmas.{one_whole}
use Rattle.layout_digests.proofs.whole_rules.wholes_of.Goals as goal

pub loop-i-preserved : goal.loop-i-preserved
loop-i-preserved c =
    let t = c.args.lookups.table.now in
    let positioning = c.args.lookups.positioning in
    let ws = c.loop-i.wholes.items in
    let w = c.whole_at.result in
    let made : c.push.new.self.items ≡ ws ++ w ∷ [] = c.in_ok-push.ensures.items in
    let more : length (ws ++ w ∷ []) ≡ length ws + 1 = length-append ws (w ∷ []) in
    let longer : length (ws ++ w ∷ []) ≡ c.loop-i.i + 1 = omega (arith, more, c.loop-i.invariant.count) in
    record {
      held = subst (AreWholesOf t positioning c.args.place) (sym made)
          (one_whole t positioning c.args.place c.loop-i.i ws w c.loop-i.invariant.held c.loop-i.invariant.count c.whole_at.ensures);
      count = ap length made ∙ longer;
    }
