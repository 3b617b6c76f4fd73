use Rattle.std.proofs.Common.{List, [], ◌∷◌, sym, subst, ◌∙◌}
use Rattle.shape_buffer.specs.Outcome.{Outcome, Ran, step}
use Rattle.layout_context.specs.Stages.{substituted}
use Rattle.layout_map.specs.declared.lookups.LookupMap.{LookupMap}
use Rattle.opentype_layout.specs.Engine.{gsub_tables}
use Rattle.opentype_layout.specs.Lookups.{lookups_of}
use Rattle.opentype_layout.proofs.StageLemmas.{nothing_substituted}
use Rattle.opentype_layout.proofs.opened_engine.OpenTypeLayouthb_ot_layout_tOpenedOpenTypeFace.substitute_stage.Goals as goal

pub returns-then-is_empty : goal.returns-then-is_empty
returns-then-is_empty c =
    let b = c.args.buffer.now in
    subst (λ (maps : List LookupMap). Ran (step (substituted (lookups_of (gsub_tables c.args.face.now) maps)) ∷ []) b b)
    c.gsub_lookups-maps.ensures
    (nothing_substituted (gsub_tables c.args.face.now) c.gsub_lookups-maps.result.now b (sym c.is_empty.ensures ∙ c.if-is_empty.true)
    c.requires)

pub returns : goal.returns
returns c =
    subst (λ (maps : List LookupMap). Outcome (step (substituted (lookups_of (gsub_tables c.args.face.now) maps))) c.args.buffer.now
    c.substitute_opened.new.buffer c.substitute_opened.result) c.gsub_lookups-maps.ensures c.substitute_opened.ensures
