-- Value records (OpenType, `GPOS`, "Value record").
use Rattle.std.specs.Prelude.{ℕ, ℤ, pos, List, Bool, true, false, Option, Some, None, ◌+◌, ◌-◌, ◌*◌, ◌&&◌, ◌||◌, not, length, nat_eq, nat_le, if◌then◌else◌}
use Rattle.std.specs.Int.RustNames.{bit_and, count_ones}
use Rattle.std.specs.Option.{option_map_or}
use Rattle.std.specs.Ordering.{int_eq}
use Rattle.font_sizes.specs.Scales.{times}
use Rattle.font_sizes.specs.declared.scales.Axis.{Axis}
use Rattle.font_sizes.specs.declared.scales.Scale.{Scale}
use Rattle.shape_common.specs.Wrapping.{◌+ʷ◌, ◌-ʷ◌}
use Rattle.shape_common.specs.declared.positions.GlyphPosition.{GlyphPosition}
use Rattle.shape_font.specs.Bytes.{u16_of, i16_of}
use Rattle.layout_matching.specs.declared.lookup.Lookup.{Lookup}
use Rattle.layout_positions.specs.Devices.{is_default, delta_by}
use Rattle.layout_positions.specs.Sizes.{axis_across, axis_up}
use Rattle.layout_positions.specs.declared.values.Adjustment.{Adjustment}
use Rattle.layout_positions.specs.declared.values.Counted.{Counted}

-- a record has a number of two bytes for each bit of its format, those of the lower bits first
abbrev pub value_size : ℕ → ℕ
value_size format = 2 * count_ones format

-- the number for a bit of the format; 0 if the format doesn't have it
abbrev pub number_for : List ℕ → ℕ → ℕ → ℕ → ℤ
number_for t format at bit = if nat_eq (bit_and format bit) 0 then pos 0 else i16_of t (at + 2 * count_ones (bit_and format (bit - 1)))

-- no number counts that is 0
abbrev pub none_counted : Counted
none_counted = record { placement = false; x_advance = false; y_advance = false }

-- bits 1 and 2 move the glyph, 4 and 8 change its advance
abbrev pub plain_value : List ℕ → ℕ → ℕ → Adjustment
plain_value t format at = record {
  x_placement = number_for t format at 1;
  y_placement = number_for t format at 2;
  x_advance = number_for t format at 4;
  y_advance = number_for t format at 8;
  counted = none_counted;
}

-- the advance along a horizontal line alone
abbrev pub advance_only : ℤ → Adjustment
advance_only x = record { x_placement = pos 0; y_placement = pos 0; x_advance = x; y_advance = pos 0; counted = none_counted }

-- bits 0x10 to 0x80 are offsets of devices for these four, which count from `base`
abbrev pub device_for : List ℕ → ℕ → ℕ → ℕ → ℕ
device_for t format at bit = if nat_eq (bit_and format bit) 0 then 0 else u16_of t (at + 2 * count_ones (bit_and format (bit - 1)))

abbrev pub delta_for : Lookup → Option Axis → ℕ → ℕ → ℕ → ℕ → ℤ
delta_for l axis format base at bit = delta_by l axis base (device_for l.table.now format at bit)

abbrev pub has_device : List ℕ → ℕ → ℕ → ℕ → Bool
has_device t format at bit = not (nat_eq (device_for t format at bit) 0)

-- a number with a device counts
abbrev pub counted_with : List ℕ → ℕ → ℕ → Counted → Counted
counted_with t format at c = record {
  placement = c.placement || (has_device t format at 0x10 || has_device t format at 0x20);
  x_advance = c.x_advance || has_device t format at 0x40;
  y_advance = c.y_advance || has_device t format at 0x80;
}

abbrev pub varied_value : Lookup → ℕ → ℕ → ℕ → Adjustment → Adjustment
varied_value l format base at v = record {
  x_placement = v.x_placement +ʷ delta_for l (axis_across l) format base at 0x10;
  y_placement = v.y_placement +ʷ delta_for l (axis_up l) format base at 0x20;
  x_advance = v.x_advance +ʷ delta_for l (axis_across l) format base at 0x40;
  y_advance = v.y_advance +ʷ delta_for l (axis_up l) format base at 0x80;
  counted = counted_with l.table.now format at v.counted;
}

-- at a size each number is rounded by itself; one that becomes 0 there counts all the same
abbrev pub vanishes : Axis → ℤ → Bool
vanishes a n = not (int_eq n (pos 0)) && int_eq (times a n) (pos 0)

abbrev pub sized_at : Scale → Adjustment → Adjustment
sized_at s v = record {
  x_placement = times s.across v.x_placement;
  y_placement = times s.up v.y_placement;
  x_advance = times s.across v.x_advance;
  y_advance = times s.up v.y_advance;
  counted = record {
    placement = vanishes s.across v.x_placement || vanishes s.up v.y_placement;
    x_advance = vanishes s.across v.x_advance;
    y_advance = vanishes s.up v.y_advance;
  };
}

abbrev pub sized : Lookup → Adjustment → Adjustment
sized l v = option_map_or (λ (s : Scale). sized_at s v) l.scale v

abbrev pub value_at : Lookup → ℕ → ℕ → ℕ → Adjustment
value_at l format base at = let v = sized l (plain_value l.table.now format at) in
    (if nat_eq (bit_and format 0xF0) 0 || is_default l then v else varied_value l format base at v)

-- a record that leads past the end of the table is none
abbrev pub has_bytes : List ℕ → ℕ → ℕ → Bool
has_bytes t at size = nat_le (at + size) (length t)

abbrev pub value_in : Lookup → ℕ → ℕ → ℕ → Option Adjustment
value_in l format base at = if has_bytes l.table.now at (value_size format) then Some (value_at l format base at) else None

-- the advance along the line alone changes; down a vertical line an advance is negative
abbrev pub adjusted : Bool → Adjustment → GlyphPosition → GlyphPosition
adjusted true v p = record p {
  x_offset = p.x_offset +ʷ v.x_placement;
  y_offset = p.y_offset +ʷ v.y_placement;
  x_advance = p.x_advance +ʷ v.x_advance;
}
adjusted false v p = record p {
  x_offset = p.x_offset +ʷ v.x_placement;
  y_offset = p.y_offset +ʷ v.y_placement;
  y_advance = p.y_advance -ʷ v.y_advance;
}

abbrev pub advance_along : Bool → Adjustment → ℤ
advance_along horizontal v = if horizontal then v.x_advance else v.y_advance

abbrev pub has_number : Bool → Adjustment → Bool
has_number horizontal v = not (int_eq v.x_placement (pos 0)) || not (int_eq v.y_placement (pos 0))
    || not (int_eq (advance_along horizontal v) (pos 0))

-- a number may count though it is 0
abbrev pub counts : Bool → Counted → Bool
counts horizontal c = c.placement || (if horizontal then c.x_advance else c.y_advance)

-- whether an adjustment changes something
abbrev pub has_effect : Bool → Adjustment → Bool
has_effect horizontal v = has_number horizontal v || counts horizontal v.counted
