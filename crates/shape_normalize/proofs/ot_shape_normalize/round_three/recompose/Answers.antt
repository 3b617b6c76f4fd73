use Rattle.std.proofs.Common.{ap, ◌∙◌}
use Rattle.shape_items.specs.Spans.{spans_merged_out}
use Rattle.shape_plan.specs.Rules.{rules_of}
use Rattle.shape_normalize.specs.RoundThree.{ends_taken_out}
use Rattle.shape_normalize.proofs.RoundThree.RoundThreeLemmas.{walked_spans_in_order, is_round_three, settings_are}
use Rattle.shape_normalize.proofs.ot_shape_normalize.round_three.recompose.Goals as goal

pub merge_composed-requires : goal.merge_composed-requires
merge_composed-requires g c =
    let shaper = g.T.Shaper.hb_ot_shaper_t in
    let rules = rules_of g.T.Unicode.hb_unicode_funcs_t.unicode shaper.constants shaper.hooks g.T.Face.hb_font_t.face c.args.plan.now c.args.face.now in
    let walked = c.in_ok-spans.ensures in
    walked_spans_in_order rules c.args.buffer.now.items c.compose_in_place.new.buffer.items c.deref.result.now walked.items
    (c.deref.ensures.value ∙ walked.spans)

pub returns-clause-ok : goal.returns-clause-ok
returns-clause-ok g c =
    let shaper = g.T.Shaper.hb_ot_shaper_t in
    let rules = rules_of g.T.Unicode.hb_unicode_funcs_t.unicode shaper.constants shaper.hooks g.T.Face.hb_font_t.face c.args.plan.now c.args.face.now in
    let walked = c.in_ok-spans.ensures in
    is_round_three rules c.args.buffer.now c.compose_in_place.new.buffer c.merge_composed.new.buffer c.take_out_ends.new.buffer
    c.in_ok-spans.spans.items walked.spans walked.items walked.flags walked.rest
    (c.merge_composed.ensures ∙ ap (λ s. spans_merged_out s c.compose_in_place.new.buffer) c.deref.ensures.value)
    (c.take_out_ends.ensures ∙ ap (λ s. ends_taken_out s c.merge_composed.new.buffer) c.deref-2.ensures.value)

pub returns-clause-settings : goal.returns-clause-settings
returns-clause-settings g c =
    let shaper = g.T.Shaper.hb_ot_shaper_t in
    let rules = rules_of g.T.Unicode.hb_unicode_funcs_t.unicode shaper.constants shaper.hooks g.T.Face.hb_font_t.face c.args.plan.now c.args.face.now in
    let walked = c.in_ok-spans.ensures in
    settings_are rules c.args.buffer.now c.compose_in_place.new.buffer c.merge_composed.new.buffer c.take_out_ends.new.buffer
    c.in_ok-spans.spans.items walked.spans walked.items walked.flags walked.rest
    (c.merge_composed.ensures ∙ ap (λ s. spans_merged_out s c.compose_in_place.new.buffer) c.deref.ensures.value)
    (c.take_out_ends.ensures ∙ ap (λ s. ends_taken_out s c.merge_composed.new.buffer) c.deref-2.ensures.value)
