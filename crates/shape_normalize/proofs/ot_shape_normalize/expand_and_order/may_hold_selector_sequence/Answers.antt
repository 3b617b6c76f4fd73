use Rattle.std.proofs.Common.{sym, ◌∙◌}
use Rattle.shape_normalize.proofs.RoundOne.OneWalkLemmas.{none-unmarked, none-unselected}
use Rattle.shape_normalize.proofs.ot_shape_normalize.expand_and_order.may_hold_selector_sequence.Goals as goal

pub returns-then-has_marks : goal.returns-then-has_marks
returns-then-has_marks g c unfound =
    none-unselected g.U.hb_unicode_funcs_t.unicode c.args.infos.now (sym c.holds_selector.ensures ∙ unfound)

pub returns-else-has_marks : goal.returns-else-has_marks
returns-else-has_marks g c unfound =
    none-unmarked g.U.hb_unicode_funcs_t.unicode c.args.infos.now (sym c.requires ∙ c.if-has_marks.false)
