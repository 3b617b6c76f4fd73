use Rattle.std.proofs.Common.{subst}
use Rattle.shape_items.specs.Buffer.{Buffer}
use Rattle.shape_plan.specs.Run.{Run}
use Rattle.c_runs.specs.Refusals.{TextPasses}
use Rattle.c_runs.specs.Texts.{text_of_run, units_of}
use Rattle.c_runs.proofs.RefusalLemmas.{refused-by}
use Rattle.c_runs.proofs.runs.shape_run.Goals as goal

pub returns-in_err-glyphs-clause-err : goal.returns-in_err-glyphs-clause-err
returns-in_err-glyphs-clause-err g c =
    let runs = g.S.TextShaper.runs c.args.shaper.now in
    let text = text_of_run (units_of c.args.text) c.args.run.now in
    refused-by (TextPasses runs text) (units_of c.args.text) c.args.run.now c.in_err-glyphs.field-0.0
    c.from_residual-in_err-glyphs.result
    (λ is. subst (λ (r : Buffer → Run). TextPasses r text) c.empty-buffer.ensures.same
    (subst (λ (b : Buffer). TextPasses (g.S.TextShaper.runs c.empty-buffer.new.self) b) c.in_ok-fill.ensures.ok
    (c.in_err-glyphs.ensures.length is)))
    c.from_residual-in_err-glyphs.ensures.1
