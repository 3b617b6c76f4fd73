use Rattle.std.proofs.Common.{◌≡◌, ◌+◌, ◌-◌, ℕ, List, length, get_or, set, ap, ap₂, ◌∙◌, arith}
use Rattle.std.proofs.lemmas.Grind.{common_steps}
use Rattle.std.proofs.lemmas.List.{length-set, get_or_default}
use Rattle.std.specs.List.{remove}
use Rattle.shape_items.specs.Buffer.{Buffer}
use Rattle.shape_items.specs.BufferClusters.{merge_clusters}
use Rattle.shape_items.specs.Items.{Item, new_item}
use Rattle.test_fixtures.specs.Rules.{with_glyph, made_one}
use Rattle.shape_items.proofs.Merging.KeyLemmas.{length-merge_clusters}
use Rattle.test_fixtures.proofs.RuleLemmas.{Made-made_one}
use Rattle.test_fixtures.proofs.lookups.make_one.Goals as goal

pub offset_bounds-infos-start : goal.offset_bounds-infos-start
offset_bounds-infos-start c =
    let as_many = ap (λ (b : Buffer). length b.items) c.merge_clusters.ensures.merged
    ∙ length-merge_clusters c.args.start c.args.end c.args.buffer.now in
    let shown = ap length c.infos.ensures in
    grind (arith, common_steps)

pub bounds-infos-start : goal.bounds-infos-start
bounds-infos-start c =
    let as_many = ap (λ (b : Buffer). length b.items) c.merge_clusters.ensures.merged
    ∙ length-merge_clusters c.args.start c.args.end c.args.buffer.now in
    let shown = ap length c.infos.ensures in
    grind (arith, common_steps)

pub set_info-requires : goal.set_info-requires
set_info-requires c =
    let as_many = ap (λ (b : Buffer). length b.items) c.merge_clusters.ensures.merged
    ∙ length-merge_clusters c.args.start c.args.end c.args.buffer.now in
    omega arith

pub remove-requires : goal.remove-requires
remove-requires c =
    let as_many = ap (λ (b : Buffer). length b.items) c.merge_clusters.ensures.merged
    ∙ length-merge_clusters c.args.start c.args.end c.args.buffer.now in
    let set = ap (λ (b : Buffer). length b.items) c.set_info.ensures ∙ length-set _ _ _ in
    omega arith

pub returns : goal.returns
unfolding made_one
returns c =
    let rule = c.args.rule.now in
    let start = c.args.start in
    let old = c.args.buffer.now in
    let merged : Buffer = merge_clusters start (start + 2) old in
    let item = c.index-infos-start.result in
    let at_end = ap (λ end. merge_clusters start end old) c.requires.two in
    let is_merged = c.merge_clusters.ensures.merged ∙ at_end in
    let as_many = length-merge_clusters start (start + 2) old in
    let found = c.index-infos-start.is
    ∙ ap (λ (xs : List Item). get_or xs start item) (c.infos.ensures ∙ ap (λ (b : Buffer). b.items) is_merged)
    ∙ get_or_default merged.items start item (new_item 0 0) (omega arith) in
    let made_item = c.with_glyph-info.ensures ∙ ap (with_glyph rule.into) found in
    let set_there = c.set_info.ensures ∙ ap₂ (λ (b : Buffer) (x : Item). record b { items = set b.items start x }) is_merged made_item in
    let last : c.args.end - 1 ≡ start + 1 = omega (arith, c.requires.two) in
    let removed = c.remove.ensures
    ∙ ap₂ (λ (b : Buffer) (i : ℕ). record b { items = remove b.items i; positions = remove b.positions i }) set_there last in
    Made-made_one rule start old c.remove.new.self removed (omega (arith, c.requires.two, c.requires.within))
