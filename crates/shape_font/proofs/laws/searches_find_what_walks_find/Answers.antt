use Rattle.std.proofs.Common.{refl}
use Rattle.shape_font.specs.Bytes.{fitting}
use Rattle.shape_font.specs.Search.{side_of, side_from_end}
use Rattle.shape_font.specs.Cmap.{side_of_segment, side_of_group, groups_of}
use Rattle.shape_font.proofs.RangeLemmas.{found_by-walked, side_from_end-whole}
use Rattle.shape_font.proofs.laws.searches_find_what_walks_find.Goals as goal

pub returns-clause-ranges : goal.returns-clause-ranges
returns-clause-ranges c = λ start end count n order.
    found_by-walked (λ i. side_of n (start i) (end i)) start end count n order (λ i inside. refl)

pub returns-clause-by_end : goal.returns-clause-by_end
returns-clause-by_end c = λ start end count n order.
    found_by-walked (λ i. side_from_end n (start i) (end i)) start end count n order
    (λ i inside. side_from_end-whole n (start i) (end i) (order.whole i inside))

pub returns-clause-segments : goal.returns-clause-segments
returns-clause-segments c = λ t count n order.
    found_by-walked (side_of_segment t count n) _ _ (fitting t count 14 2) n order
    (λ i inside. side_from_end-whole n _ _ (order.whole i inside))

pub returns-clause-groups : goal.returns-clause-groups
returns-clause-groups c = λ t n order. found_by-walked (side_of_group t n) _ _ (groups_of t) n order (λ i inside. refl)
