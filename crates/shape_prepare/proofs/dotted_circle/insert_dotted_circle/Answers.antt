use Rattle.std.proofs.Common.{sym, ap, ◌∙◌}
use Rattle.shape_buffer.proofs.Steps.Runs.{Ran-made}
use Rattle.shape_prepare.specs.DottedCircle.{dotted_circled, with_circle}
use Rattle.canonical_form.specs.Expanded.{begins_with_mark}
use Rattle.shape_items.specs.Items.{is_mark_item}
use Rattle.shape_prepare.proofs.StepLemmas.{Made-same, Outcome-alike, dotted_circled-put, dotted_circled-none, dotted_circled-no_mark}
use Rattle.shape_prepare.proofs.dotted_circle.insert_dotted_circle.Goals as goal
use Rattle.shape_prepare.proofs.dotted_circle.insert_dotted_circle.Goals.{else-takes_circle-via-then-takes_circle+else-begins_with_mark, else-takes_circle-via-else-takes_circle}

pub returns-then-begins_with_mark : goal.returns-then-begins_with_mark
returns-then-begins_with_mark g c =
    let unicode = g.U.hb_unicode_funcs_t.unicode in
    let face = g.F.hb_font_t.face c.args.face.now in
    let b = c.args.buffer.now in
    let takes = sym c.takes_circle.ensures ∙ c.if-takes_circle.true in
    let mark = ap (begins_with_mark is_mark_item) (sym c.infos.ensures) ∙ sym c.begins_with_mark.ensures.mark ∙ c.if-begins_with_mark.true in
    Outcome-alike (dotted_circled unicode face) (λ b. with_circle unicode b.items b) b c.insert_circle.new.buffer c.insert_circle.result
    (dotted_circled-put unicode face b takes mark) c.insert_circle.ensures

pub returns : goal.returns
returns g c =
    let unicode = g.U.hb_unicode_funcs_t.unicode in
    let face = g.F.hb_font_t.face c.args.face.now in
    let b = c.args.buffer.now in
    elim c.else-takes_circle.branch [
      | else-takes_circle-via-then-takes_circle+else-begins_with_mark w ↦
          let takes = sym c.takes_circle.ensures ∙ w.if-takes_circle.true in
          let mark = ap (begins_with_mark is_mark_item) (sym w.infos.ensures) ∙ sym w.begins_with_mark.ensures.mark ∙ w.if-begins_with_mark.false in
          Ran-made c.requires (Made-same (dotted_circled unicode face) b (dotted_circled-no_mark unicode face b takes mark))
      | else-takes_circle-via-else-takes_circle w ↦
          let takes = sym c.takes_circle.ensures ∙ w.if-takes_circle.false in
          Ran-made c.requires (Made-same (dotted_circled unicode face) b (dotted_circled-none unicode face b takes))
    ]
