use Rattle.std.proofs.Common.{sym, ◌∙◌}
use Rattle.opentype_layout.proofs.StageLemmas.{nothing_substituted, stage_outcome, stage_refused}
use Rattle.opentype_layout.proofs.stage.substitute_by.Goals as goal

pub returns-then-is_empty : goal.returns-then-is_empty
returns-then-is_empty c =
    nothing_substituted c.args.tables c.args.maps.now c.args.buffer.now (sym c.is_empty.ensures ∙ c.if-is_empty.true) c.requires.within

pub returns-in-Err : goal.returns-in-Err
returns-in-Err c = stage_refused c.args.tables c.args.maps.now c.args.buffer.now c.in-Err.error c.in-Err.ensures.length

pub returns-in-Ok : goal.returns-in-Ok
returns-in-Ok c =
    stage_outcome c.args.tables c.args.maps.now c.args.buffer.now c.apply_stage.new.buffer c.within_limit.result c.in-Ok.ensures.ok
    c.within_limit.ensures.ok c.within_limit.ensures.length
