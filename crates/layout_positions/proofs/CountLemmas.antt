-- marking a span preserves the number of items
use Rattle.std.proofs.Common.{◌≡◌, ℕ, ◌≤◌, ◌==◌, Bool, true, false, min, length, nat_le, nat_lt, slice_set, refl, arith, if◌then◌else◌}
use Rattle.std.proofs.lemmas.Bool.Decides.{nat_tests}
use Rattle.std.specs.Int.RustNames.{bit_and}
use Rattle.shape_common.specs.FlagNames.{PRODUCE_UNSAFE_TO_CONCAT}
use Rattle.shape_items.specs.Buffer.{Buffer}
use Rattle.shape_items.specs.BufferClusters.{unsafe_to_break, unsafe_to_concat, with_glyph_flags}
use Rattle.shape_items.specs.Clusters.{map_range, mark_concat}
use Rattle.shape_items.proofs.Merging.KeyLemmas.{length-map_range, length-unsafe_to_break}
use Rattle.shape_common.specs.declared.positions.GlyphPosition.{GlyphPosition}
use Rattle.layout_positions.specs.Edits.{position_put, broken, concat_marked}

length_if : (t : Bool) (b c d : Buffer) → (t ≡ true → length c.items ≡ length b.items) → length d.items ≡ length b.items
    → length (if t then c else d).items ≡ length b.items
length_if true b c d x y = x refl
length_if false b c d x y = y

pub length_broken : (start end : ℕ) (b : Buffer) → length (broken start end b).items ≡ length b.items
length_broken start end b =
    let last = min end (length b.items) in
    length_if (nat_le start last) b (unsafe_to_break start last b) b (λ t. length-unsafe_to_break start last b) refl

length_concat : (start end : ℕ) (b : Buffer) → start ≤ end → length (unsafe_to_concat start end b).items ≡ length b.items
length_concat start end b ordered =
    length_if (bit_and b.flags.0 PRODUCE_UNSAFE_TO_CONCAT == PRODUCE_UNSAFE_TO_CONCAT) b
    (record (with_glyph_flags b) { items = map_range mark_concat start end b.items }) b
    (λ t. length-map_range mark_concat start end b.items ordered) refl

pub length_concat_marked : (start end : ℕ) (b : Buffer) → length (concat_marked start end b).items ≡ length b.items
length_concat_marked start end b =
    let last = min end (length b.items) in
    length_if (nat_le start last) b (unsafe_to_concat start last b) b
    (λ t. length_concat start last b (grind (arith, nat_tests, t))) refl

pub length_put : (i : ℕ) (p : GlyphPosition) (b : Buffer) → length (position_put i p b).items ≡ length b.items
length_put i p b = length_if (nat_lt i (length b.items)) b (record b { positions = slice_set b.positions i p }) b (λ t. refl) refl
