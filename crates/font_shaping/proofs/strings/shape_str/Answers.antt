use Rattle.std.proofs.Common.{◌∙◌, inr, subst}
use Rattle.std.specs.Prelude.{IfOk}
use Rattle.std.proofs.lemmas.Result.{IfOk-weaker, IfErr-weaker}
use Rattle.shape_common.specs.Unicode.{UnicodeMeaning}
use Rattle.shape_pipeline.specs.Strings.{AreGlyphsOfString, string_text}
use Rattle.font_shaping.proofs.CutLemmas.{can-cut}
use Rattle.font_shaping.proofs.strings.shape_str.Goals as goal

pub returns-in-Ok-clause-glyphs : goal.returns-in-Ok-clause-glyphs
returns-in-Ok-clause-glyphs g c =
    IfOk-weaker c.shape_with_font.result _ _ (λ glyphs are. (c.in-Ok.text, c.in-Ok.ensures.text, are)) c.shape_with_font.ensures.shaped.ok

pub returns-in-Ok-clause-length : goal.returns-in-Ok-clause-length
returns-in-Ok-clause-length g c =
    IfErr-weaker c.shape_with_font.result _ _ (λ fault passes is. inr (c.in-Ok.text, c.in-Ok.ensures.text, passes is))
    c.shape_with_font.ensures.shaped.length

pub returns-in-Ok-clause-of_string : goal.returns-in-Ok-clause-of_string
returns-in-Ok-clause-of_string g c =
    let text = c.in-Ok.text in
    let preserves = c.script_runs_preserve.ensures.clusters c.args.face.now c.args.features.now text in
    let preserves_flags = c.script_runs_preserve.ensures.flags c.args.face.now c.args.features.now text in
    subst (λ (u : UnicodeMeaning). IfOk c.shape_with_font.result (AreGlyphsOfString u c.args.string.now)) c.shape_with_font.ensures.shaped.unicode
    (IfOk-weaker c.shape_with_font.result _ _
    (λ glyphs are. c.strings_keep_promises.ensures.glyphs _ c.args.string.now text glyphs c.in-Ok.ensures.ok are preserves preserves_flags)
    c.shape_with_font.ensures.shaped.ok)

pub returns-in-Ok-clause-refused : goal.returns-in-Ok-clause-refused
returns-in-Ok-clause-refused g c =
    IfErr-weaker c.shape_with_font.result _ _
    (λ fault is. is ∙ c.strings_keep_promises.ensures.cleared c.args.string.now c.in-Ok.text c.in-Ok.ensures.ok)
    c.shape_with_font.ensures.shaped.cleared

pub returns-in-Ok-clause-cut : goal.returns-in-Ok-clause-cut
returns-in-Ok-clause-cut g c =
    let text = c.in-Ok.text in
    let preserves = c.script_runs_preserve.ensures.clusters c.args.face.now c.args.features.now text in
    let preserves_flags = c.script_runs_preserve.ensures.flags c.args.face.now c.args.features.now text in
    IfOk-weaker c.shape_with_font.result _ _
    (λ glyphs are. can-cut (c.strings_keep_promises.ensures.glyphs _ c.args.string.now text glyphs c.in-Ok.ensures.ok are preserves
    preserves_flags))
    c.shape_with_font.ensures.shaped.ok

pub returns-in-Ok-clause-tries : goal.returns-in-Ok-clause-tries
returns-in-Ok-clause-tries g c =
    c.script_runs_try_no_more_than_they_may.ensures c.args.face.now c.args.features.now (string_text c.args.string.now)
