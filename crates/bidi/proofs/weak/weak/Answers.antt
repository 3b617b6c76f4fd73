use Rattle.std.proofs.Common.{◌∙◌, sym, ap}
use Rattle.std.specs.List.{list_any}
use Rattle.std.proofs.lemmas.Bool.{or_parts}
use Rattle.bidi.specs.Classes.{is_number}
use Rattle.bidi.specs.Weak.{w2, w3, w4, w5, w6, w7}
use Rattle.bidi.proofs.NumberLemmas.{no_numbers}
use Rattle.bidi.proofs.weak.weak.Goals as goal

pub returns-else-meets_number : goal.returns-else-meets_number
returns-else-meets_number c =
    let sos = c.args.sos in
    let cs = c.w1.new.classes in
    let none = or_parts (is_number sos) (list_any is_number cs) (sym c.meets_number.ensures ∙ c.if-meets_number.false) in
    c.w6.ensures ∙ ap w6 c.w3.ensures ∙ no_numbers sos cs none.0 none.1
    ∙ ap (λ l. w7 sos (w6 (w5 sos (w4 sos (w3 (w2 sos l)))))) c.w1.ensures
