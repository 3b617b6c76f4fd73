use Rattle.std.proofs.Common.{◌∙◌, refl, sym, ap, subst, arith}
use Rattle.shape_items.specs.Buffer.{Buffer}
use Rattle.shape_buffer.specs.declared.buffer.error.ShapeError.TheVariants.{Length}
use Rattle.layout_substitution.proofs.KindLemmas.{same_error}
use Rattle.layout_substitution.specs.Edits.{is_past}
use Rattle.layout_context.specs.Digested.{HoldsGlyphs}
use Rattle.opentype_layout.proofs.StageLemmas.{one_on, one_past, stage_over}
use Rattle.opentype_layout.proofs.stage.apply_from.Goals as goal

pub loop-next-smaller : goal.loop-next-smaller
loop-next-smaller c = omega (arith, c.loop-next-test.true, c.skip-on.ensures.further, c.skip-on.ensures.inside)

pub renew-requires : goal.renew-requires
renew-requires c = λ is.
    subst (HoldsGlyphs c.loop-next.run) (ap (λ (b : Buffer). b.items) (sym (c.in-Ok.ensures.kept is)) ∙ sym c.items.ensures)
    c.loop-next.invariant.held

pub loop-next-preserved : goal.loop-next-preserved
loop-next-preserved c =
    let t = c.args.stage.now.tables in
    let maps = c.args.stage.now.maps.now in
    let b = c.apply_one.new.buffer in
    let there = c.in-Ok.there.spot in
    let held = subst (HoldsGlyphs c.renew.new.run) c.items.ensures c.renew.ensures in
    record {
      inside = c.skip-on.ensures.inside;
      held = held;
      made = c.skip-on.ensures.skipped b.items held (sym c.len.ensures.items) b there refl
          ∙ one_on t maps c.loop-next.next _ c.loop-next.buffer b c.loop-next.spot there c.loop-next-test.true c.in-Ok.ensures.ok
          ∙ c.loop-next.invariant.made;
    }

pub returns-in-Err-clause-length : goal.returns-in-Err-clause-length
returns-in-Err-clause-length c = λ is.
    sym (ap is_past c.loop-next.invariant.made)
    ∙ one_past c.args.stage.now.tables c.args.stage.now.maps.now c.loop-next.next _ c.loop-next.buffer c.loop-next.spot c.loop-next-test.true
    (c.in-Err.ensures.length (same_error c.in-Err.error Length is))

pub returns-clause-ok : goal.returns-clause-ok
returns-clause-ok c =
    c.set_max_ops.ensures
    ∙ sym (stage_over c.args.stage.now.tables c.args.stage.now.maps.now c.loop-next.next c.loop-next.buffer c.loop-next.spot c.loop-next-test.false)
    ∙ c.loop-next.invariant.made
