use Rattle.std.proofs.Common.{◌≡◌, true, false, sym, rules}
use Rattle.shape_prepare.proofs.GraphemeLemmas.{with_continuation-settled, is_to_next-settled, with_continuation-left_alone, is_to_next-left_alone, with_continuation-fits_none, is_to_next-fits_none}
use Rattle.shape_prepare.proofs.graphemes.mark_continuation.Goals as goal

pub returns-then-is_left_alone-clause-item : goal.returns-then-is_left_alone-clause-item
returns-then-is_left_alone-clause-item g c =
    with_continuation-left_alone g.U.hb_unicode_funcs_t.unicode c.args.before c.args.info.now (sym c.if-is_left_alone.ensures)

pub returns-then-is_left_alone-clause-next : goal.returns-then-is_left_alone-clause-next
returns-then-is_left_alone-clause-next g c =
    is_to_next-left_alone g.U.hb_unicode_funcs_t.unicode c.args.before c.args.info.now (sym c.if-is_left_alone.ensures)

pub returns-then-is_settled-clause-item : goal.returns-then-is_settled-clause-item
returns-then-is_settled-clause-item g c =
    let continuing : c.args.info.now.properties.continuation ≡ true = search rules in
    with_continuation-settled g.U.hb_unicode_funcs_t.unicode c.args.before c.args.info.now continuing

pub returns-then-is_settled-clause-next : goal.returns-then-is_settled-clause-next
returns-then-is_settled-clause-next g c =
    let continuing : c.args.info.now.properties.continuation ≡ true = search rules in
    let no_joiner : c.args.info.now.properties.zwj ≡ false = search rules in
    is_to_next-settled g.U.hb_unicode_funcs_t.unicode c.args.before c.args.info.now continuing no_joiner

pub returns-then-fits_no_rule-clause-item : goal.returns-then-fits_no_rule-clause-item
returns-then-fits_no_rule-clause-item g c =
    with_continuation-fits_none g.U.hb_unicode_funcs_t.unicode c.args.before c.args.info.now (sym c.if-fits_no_rule.ensures)

pub returns-then-fits_no_rule-clause-next : goal.returns-then-fits_no_rule-clause-next
returns-then-fits_no_rule-clause-next g c =
    is_to_next-fits_none g.U.hb_unicode_funcs_t.unicode c.args.before c.args.info.now (sym c.if-fits_no_rule.ensures)
