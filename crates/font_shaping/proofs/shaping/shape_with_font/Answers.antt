use Rattle.std.proofs.lemmas.Result.{IfOk-weaker}
use Rattle.font_shaping.proofs.ScriptLemmas.{comes-by}
use Rattle.font_shaping.proofs.shaping.shape_with_font.Goals as goal

pub returns-clause-canonical_by_script : goal.returns-clause-canonical_by_script
returns-clause-canonical_by_script g c = λ is.
    IfOk-weaker c.shape_by_script.result _ _
    (λ glyphs are. are.canonical (c.script_runs_preserve.ensures.equivalence c.args.face.now c.args.features.now c.args.text is))
    c.shape_by_script.ensures.ok

pub returns-clause-clusters : goal.returns-clause-clusters
returns-clause-clusters g c = λ level rising.
    IfOk-weaker c.shape_by_script.result _ _
    (λ glyphs are. comes-by c.args.text c.shape_by_script.ensures.unicode
    (are.clusters (c.script_runs_preserve.ensures.clusters c.args.face.now c.args.features.now c.args.text) level rising))
    c.shape_by_script.ensures.ok

pub returns-clause-flags : goal.returns-clause-flags
returns-clause-flags g c =
    IfOk-weaker c.shape_by_script.result _ _
    (λ glyphs are. are.flags (c.script_runs_preserve.ensures.flags c.args.face.now c.args.features.now c.args.text))
    c.shape_by_script.ensures.ok

pub returns-clause-cut : goal.returns-clause-cut
returns-clause-cut g c = λ level rising text_end below.
    let preserves = c.script_runs_preserve.ensures.clusters c.args.face.now c.args.features.now c.args.text in
    let preserves_flags = c.script_runs_preserve.ensures.flags c.args.face.now c.args.features.now c.args.text in
    IfOk-weaker c.shape_by_script.result _ _
    (λ glyphs are. c.glyphs_can_be_cut.ensures _ _ c.args.text glyphs text_end are.clusters are.flags preserves preserves_flags level rising
    below)
    c.shape_by_script.ensures.ok
