use Rattle.std.proofs.Common.{◌≡◌, not, List, OnOk, None, is_some, map, subst, ap, ◌∙◌}
use Rattle.std.proofs.lemmas.Result.{on_ok_weaker}
use Rattle.shape_items.specs.Items.{Item, ccc_of_item}
use Rattle.shape_plan.specs.Rules.{rules_of}
use Rattle.shape_normalize.specs.OneWalk.{FollowsRuns}
use Rattle.shape_normalize.proofs.ot_shape_normalize.expand_and_order.expand_then_follow.Goals as goal

pub returns-clause-runs : goal.returns-clause-runs
returns-clause-runs g c =
    let shaper = g.T.Shaper.hb_ot_shaper_t in
    let planned = rules_of g.T.Unicode.hb_unicode_funcs_t.unicode shaper.constants shaper.hooks g.T.Face.hb_font_t.face c.args.plan.now c.args.face.now in
    subst (λ (xs : List Item). OnOk c.follow_from.result (planned.reorder ≡ None → FollowsRuns (map ccc_of_item xs) c.follow_from.new.self))
    c.infos.ensures
    (on_ok_weaker c.follow_from.result
    (λ followed none. followed (ap not (c.reorders_marks-follows.ensures c.args.face.now ∙ ap is_some none))) c.follow_from.ensures.runs)
