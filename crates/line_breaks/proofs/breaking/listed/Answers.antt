use Rattle.std.proofs.Common.{[], length, sym, ap, ◌∙◌}
use Rattle.line_breaks.proofs.BreakLemmas.{length-verdicts}
use Rattle.line_breaks.proofs.breaking.listed.Goals as goal

pub offsets-requires : goal.offsets-requires
offsets-requires c =
    ap length (c.deref-3.ensures.value ∙ c.in_ok-verdicts.ensures) ∙ length-verdicts [] c.deref.result.now
    ∙ ap length (c.deref.ensures.value ∙ sym c.deref-2.ensures.value)

pub offsets-requires-2 : goal.offsets-requires-2
offsets-requires-2 c =
    ap length (c.deref-5.ensures.value ∙ c.in_ok-verdicts.ensures) ∙ length-verdicts [] c.deref.result.now
    ∙ ap length (c.deref.ensures.value ∙ sym c.deref-4.ensures.value)
