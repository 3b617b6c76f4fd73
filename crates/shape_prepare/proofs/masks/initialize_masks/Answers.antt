use Rattle.std.proofs.Common.{ap, ◌∙◌, rules, subst}
use Rattle.shape_items.specs.Flags.{with_mask}
use Rattle.shape_buffer.specs.Outcome.{Made}
use Rattle.shape_prepare.specs.Begun.{begun}
use Rattle.shape_prepare.proofs.StepLemmas.{Made-begun}
use Rattle.shape_prepare.proofs.masks.initialize_masks.Goals as goal

pub returns : goal.returns
returns g c =
    let masked = c.update_items.ensures (with_mask c.global_mask-mask.result) (λ x y said. search rules) in
    let whole = Made-begun c.global_mask-mask.result c.args.buffer.now c.update_items.new.buffer c.clear_positions.new.self masked c.clear_positions.ensures in
    let mask = c.global_mask-mask.ensures ∙ ap (λ map. (g.T.Engine.hb_ot_layout_t.masks map).global_mask) c.ot_map.ensures in
    subst (λ m. Made (begun m) c.args.buffer.now c.clear_positions.new.self) mask whole
