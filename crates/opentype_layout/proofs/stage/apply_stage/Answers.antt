use Rattle.std.proofs.Common.{◌≡◌, refl, sym, ap, subst, ◌∙◌}
use Rattle.std.specs.Prelude.{OnOk}
use Rattle.layout_substitution.specs.Edits.{is_past}
use Rattle.layout_substitution.specs.declared.apply.Spot.{Spot}
use Rattle.opentype_layout.proofs.StageLemmas.{stage_over}
use Rattle.opentype_layout.proofs.stage.apply_stage.Goals as goal

abbrev begun : Spot
begun = record { at = 0; random = 1; left = 0; whole = 0 }

pub returns-then-met-stage-clause-ok : goal.returns-then-met-stage-clause-ok
returns-then-met-stage-clause-ok c =
    let b = c.args.buffer.now in
    subst (λ made. OnOk c.apply_opened.result (c.apply_opened.new.buffer ≡ made)) (c.first_met-met.ensures.skipped b begun refl)
    c.apply_opened.ensures.ok

pub returns-then-met-stage-clause-length : goal.returns-then-met-stage-clause-length
returns-then-met-stage-clause-length c = λ is.
    sym (ap is_past (c.first_met-met.ensures.skipped c.args.buffer.now begun refl)) ∙ c.apply_opened.ensures.length is

pub returns-clause-ok : goal.returns-clause-ok
returns-clause-ok c =
    let b = c.args.buffer.now in
    let met = c.first_met-met.result in
    c.set_max_ops.ensures
    ∙ sym (stage_over c.args.stage.now.tables c.args.stage.now.maps.now met.next b (record begun { left = met.left }) c.if-met-stage.false)
    ∙ c.first_met-met.ensures.skipped b begun refl
