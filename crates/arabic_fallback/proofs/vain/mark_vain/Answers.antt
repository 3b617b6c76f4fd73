use Rattle.std.proofs.Common.{ap, ◌∙◌}
use Rattle.arabic_fallback.specs.Vain.{concat_marked, vain_end}
use Rattle.arabic_fallback.proofs.VainLemmas.{unasked}
use Rattle.arabic_fallback.proofs.vain.mark_vain.Goals as goal

pub returns-clause-made : goal.returns-clause-made
returns-clause-made c =
    let by_items = ap (λ items. vain_end c.args.rule c.args.rows.now items c.args.at) c.infos.ensures in
    c.mark_concat.ensures.made ∙ ap (λ end. concat_marked c.args.at end c.args.buffer.now) (c.vain_end-end.ensures ∙ by_items)

pub returns-then-not-asks_concat-clause-made : goal.returns-then-not-asks_concat-clause-made
returns-then-not-asks_concat-clause-made c =
    unasked c.args.at (vain_end c.args.rule c.args.rows.now c.args.buffer.now.items c.args.at) c.args.buffer.now cc
