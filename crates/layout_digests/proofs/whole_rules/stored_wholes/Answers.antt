use Rattle.std.proofs.Common.{◌≡◌, ◌+◌, ◌++◌, ◌∷◌, [], length, ap, sym, subst, ◌∙◌, arith}
use Rattle.std.proofs.lemmas.List.{length-append}
use Rattle.layout_digests.specs.WholeRules.{HoldWholes}
use Rattle.layout_digests.proofs.WholeRuleLemmas.{one_lookup}
use Rattle.layout_digests.proofs.whole_rules.stored_wholes.Goals as goal

pub loop-index-preserved : goal.loop-index-preserved
loop-index-preserved c =
    let t = c.args.lookups.table.now in
    let positioning = c.args.lookups.positioning in
    let all = c.loop-index.all.items in
    let ws = c.in_ok-wholes.wholes in
    let made : c.push.new.self.items ≡ all ++ ws ∷ [] = c.in_ok-push.ensures.items in
    let more : length (all ++ ws ∷ []) ≡ length all + 1 = length-append all (ws ∷ []) in
    let longer : length (all ++ ws ∷ []) ≡ c.loop-index.index + 1 = omega (arith, more, c.loop-index.invariant.count) in
    record {
      held = subst (HoldWholes t positioning) (sym made)
          (one_lookup t positioning c.loop-index.index all ws c.loop-index.invariant.held c.loop-index.invariant.count c.in_ok-wholes.ensures.ok);
      count = ap length made ∙ longer;
    }
