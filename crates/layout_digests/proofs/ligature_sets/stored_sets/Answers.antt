use Rattle.std.proofs.Common.{◌≡◌, ◌+◌, ◌++◌, ◌∷◌, [], length, ap, sym, subst, ◌∙◌, arith}
use Rattle.std.proofs.lemmas.List.{length-append}
use Rattle.layout_digests.specs.LigatureSets.{HoldSets}
use Rattle.layout_digests.proofs.LigatureSetLemmas.{one_lookup}
use Rattle.layout_digests.proofs.ligature_sets.stored_sets.Goals as goal

pub loop-index-preserved : goal.loop-index-preserved
loop-index-preserved c =
    let t = c.args.table.now in
    let all = c.loop-index.all.items in
    let sets = c.in_ok-sets.sets in
    let made : c.push.new.self.items ≡ all ++ sets ∷ [] = c.in_ok-push.ensures.items in
    let more : length (all ++ sets ∷ []) ≡ length all + 1 = length-append all (sets ∷ []) in
    let longer : length (all ++ sets ∷ []) ≡ c.loop-index.index + 1 = omega (arith, more, c.loop-index.invariant.count) in
    record {
      held = subst (HoldSets t) (sym made)
          (one_lookup t c.loop-index.index all sets c.loop-index.invariant.held c.loop-index.invariant.count c.in_ok-sets.ensures.ok);
      count = ap length made ∙ longer;
    }
