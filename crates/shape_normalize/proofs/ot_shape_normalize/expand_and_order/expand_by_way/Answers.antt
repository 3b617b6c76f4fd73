use Rattle.std.proofs.Common.{sym, ◌∙◌}
use Rattle.std.proofs.lemmas.Result.{on_ok_weaker}
use Rattle.shape_normalize.proofs.RoundOne.OneWalkLemmas.{none-unmarked}
use Rattle.shape_normalize.proofs.ot_shape_normalize.expand_and_order.expand_by_way.Goals as goal

pub returns-then-takes_two_rounds-clause-runs : goal.returns-then-takes_two_rounds-clause-runs
returns-then-takes_two_rounds-clause-runs g c =
    on_ok_weaker c.expand_then_follow.result (λ followed marks none. followed none) c.expand_then_follow.ensures.runs

-- without a mark past the first item each sequence is one item
pub expand_in_one_walk-requires-clause-expands : goal.expand_in_one_walk-requires-clause-expands
expand_in_one_walk-requires-clause-expands g c =
    none-unmarked g.T.Unicode.hb_unicode_funcs_t.unicode c.args.buffer.now.items (sym c.requires.marks ∙ c.if-not-has_marks.true)
