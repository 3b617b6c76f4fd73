use Rattle.std.proofs.Common.{rules}
use Rattle.indic_shaper.specs.Categories.{with_sort}
use Rattle.indic_shaper.proofs.categories.categorize.Goals as goal

pub returns : goal.returns
returns c = c.update_items.ensures with_sort (λ x y said. search rules)
