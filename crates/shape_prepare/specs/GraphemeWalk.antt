-- What is done with each grapheme.
use Rattle.std.specs.Prelude.{ℕ}
use Rattle.shape_items.specs.Buffer.{Buffer}
use Rattle.shape_items.specs.BufferClusters.{unsafe_to_break}
use Rattle.shape_buffer.specs.Ranges.{reversed_range}
use Rattle.shape_prepare.specs.declared.grapheme_walk.GraphemeChange.{GraphemeChange}
use Rattle.shape_prepare.specs.declared.grapheme_walk.GraphemeChange.TheVariants.{Mark, Reverse}

-- the items of a span, with their positions, from the last to the first
abbrev pub reverse_span : ℕ → ℕ → Buffer → Buffer
reverse_span start end b = record b { items = reversed_range start end b.items; positions = reversed_range start end b.positions }

-- what is done with the span of a grapheme
abbrev pub changed : GraphemeChange → ℕ → ℕ → Buffer → Buffer
changed Mark = unsafe_to_break
changed Reverse = reverse_span
