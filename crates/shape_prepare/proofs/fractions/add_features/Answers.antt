use Rattle.std.proofs.Common.{◌≡◌, List, get_or, set, refl, ap, sym, ◌∙◌, arith}
use Rattle.std.proofs.lemmas.Grind.{common_steps}
use Rattle.shape_items.specs.Buffer.{Buffer}
use Rattle.shape_items.specs.Items.{Item}
use Rattle.shape_items.specs.Clusters.{map_range}
use Rattle.shape_prepare.specs.Fractions.{features_added, with_features}
use Rattle.shape_prepare.proofs.Masking.RangeLemmas.{map_range_none, map_range_more}
use Rattle.shape_prepare.proofs.fractions.add_features.Goals as goal

pub loop-i-init : goal.loop-i-init
loop-i-init c = record {
  same_length = refl;
  added = ap (λ (items : List Item). record c.args.buffer.now { items = items })
      (sym (map_range_none (with_features c.args.mask) c.args.start c.args.buffer.now.items));
}

pub loop-i-preserved : goal.loop-i-preserved
loop-i-preserved c =
    let f = with_features c.args.mask in
    let old = c.args.buffer.now in
    let i = c.loop-i.i in
    let item = c.index-infos-i.result in
    let added = c.loop-i.invariant.added in
    let as_many = c.loop-i.invariant.same_length in
    let more = map_range_more f c.args.start i old.items item (omega arith) (omega arith)
    (c.index-infos-i.is ∙ ap (λ (xs : List Item). get_or xs i item) (c.infos.ensures ∙ ap (λ (b : Buffer). b.items) added)) in
    record {
      same_length = grind (arith, common_steps);
      added = c.set_info.ensures ∙ ap (λ (b : Buffer). record b { items = set b.items i (f item) }) added
          ∙ ap (λ (items : List Item). record old { items = items }) more;
    }

pub returns-clause-added : goal.returns-clause-added
unfolding features_added
returns-clause-added c =
    let end : c.loop-i.i ≡ c.args.end = omega arith in
    let made = c.loop-i.invariant.added
    ∙ ap (λ n. record c.args.buffer.now { items = map_range (with_features c.args.mask) c.args.start n c.args.buffer.now.items }) end in
    record { made = made; no_longer = grind (arith, common_steps); same_limit = grind (arith, common_steps) }
