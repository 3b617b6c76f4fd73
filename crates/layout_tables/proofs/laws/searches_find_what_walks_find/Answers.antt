use Rattle.std.proofs.Common.{refl}
use Rattle.layout_tables.specs.Coverage.{side_of_listed, side_of_range}
use Rattle.layout_tables.specs.Scripts.{side_of_tag}
use Rattle.layout_tables.specs.Order.{glyph_at, glyphs_of, range_start, range_end, ranges_of, record_tag, records_of}
use Rattle.shape_font.proofs.RangeLemmas.{found_by-walked}
use Rattle.layout_tables.proofs.laws.searches_find_what_walks_find.Goals as goal

pub returns-clause-glyphs : goal.returns-clause-glyphs
returns-clause-glyphs c = λ t start glyph order.
    found_by-walked (side_of_listed t start glyph) (glyph_at t start) (glyph_at t start) (glyphs_of t start) glyph order (λ i inside. refl)

pub returns-clause-ranges : goal.returns-clause-ranges
returns-clause-ranges c = λ t start glyph order.
    found_by-walked (side_of_range t start glyph) (range_start t start) (range_end t start) (ranges_of t start) glyph order
    (λ i inside. refl)

pub returns-clause-tags : goal.returns-clause-tags
returns-clause-tags c = λ t start tag order.
    found_by-walked (side_of_tag t start tag) (record_tag t start) (record_tag t start) (records_of t start) tag order
    (λ i inside. refl)
