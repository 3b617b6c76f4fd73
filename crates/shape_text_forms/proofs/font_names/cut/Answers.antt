use Rattle.std.proofs.Common.{sym, arith}
use Rattle.std.proofs.lemmas.List.{take_all, length-take-le}
use Rattle.shape_text_forms.proofs.font_names.cut.Goals as goal

pub slice_bounds-result-end : goal.slice_bounds-result-end
slice_bounds-result-end c = sym (length-take-le 127 c.args.name.now (omega (arith, c.if-name-le127.false)))

pub returns-then-name-le127 : goal.returns-then-name-le127
returns-then-name-le127 c = sym (take_all 127 c.args.name.now c.if-name-le127.true)
