use Rattle.std.proofs.Common.{◌∙◌, ℕ, List, ◌-◌, length, drop, ap}
use Rattle.std.specs.Str.{chars}
use Rattle.utf16_text.proofs.set_utf16_pre_context.Goals as goal

pub returns-clause-ok : goal.returns-clause-ok
returns-clause-ok c =
    let spelled = ap chars c.as_str.ensures.value ∙ c.in_ok-text.ensures in
    c.set_pre_context.ensures ∙ ap (λ (cs : List ℕ). record c.args.buffer.now { pre_context = drop (length cs - 5) cs }) spelled
    ∙ ap (λ (cs : List ℕ). record c.args.buffer.now { pre_context = cs }) c.last_units.ensures
