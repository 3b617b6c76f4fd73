use Rattle.std.proofs.Common.{sym, arith}
use Rattle.shape_common.proofs.CategoryLemmas.{category_of-last}
use Rattle.shape_common.proofs.general_category.hb_unicode_general_category_t.of_number.Goals as goal

pub returns-in_default : goal.returns-in_default
returns-in_default c = let last = c.in_default in sym (category_of-last c.args.number (omega (arith, last)))
