-- A run of one subtable of `kerx` or `kern` over a line (TrueType Reference Manual, "The 'kerx' table", "Kerning subtables"): for which lines it
-- is, in which order its glyphs are processed, and what its format does.
use Rattle.std.specs.Prelude.{None, ◌&&◌, replicate, Bool, not, nat_eq, if◌then◌else◌}
use Rattle.shape_common.specs.Direction.{is_backward, is_horizontal}
use Rattle.shape_common.specs.declared.text_types.Direction.{Direction}
use Rattle.shape_items.specs.Buffer.{Buffer}
use Rattle.kern_table.specs.Tables.{reversed}
use Rattle.apple_positioning.specs.Attaching as attaching_rules
use Rattle.apple_positioning.specs.Driver.{driven}
use Rattle.apple_positioning.specs.Layouts.{attaches, has_pairs}
use Rattle.apple_positioning.specs.Pairs.{run_kerned}
use Rattle.apple_positioning.specs.Runs.{Source, header}
use Rattle.apple_positioning.specs.Stacking as stacking_rules
use Rattle.apple_positioning.specs.declared.chains.Header.{Header}

-- a subtable is for horizontal lines, or for vertical ones
abbrev pub is_for : Header → Bool → Bool
is_for h horizontal = if horizontal then not h.is_vertical else h.is_vertical

-- a list is in the order of the text. The glyphs are processed along the line from its left or its top, or the other way round if the
-- subtable says so
abbrev pub is_reversed : Header → Direction → Bool
is_reversed h direction = if is_backward direction then not h.is_backward else h.is_backward

-- format 1 has a state table that pushes glyphs and pops them. Along the line it does nothing if kerning is off everywhere
abbrev pub stacked : Source → Buffer → Buffer
stacked s b = if nat_eq s.mask 0 && not (header s).is_cross_stream then b
    else driven s (stacking_rules.deeds s) (record { depth = 0; places = replicate 8 0 }) b

-- another one attaches glyphs to others, whether kerning is on or not. None is marked at first
abbrev pub attached : Source → Buffer → Buffer
attached s b = driven s (attaching_rules.deeds s) None b

-- a subtable of another format does nothing
unfoldable pub acted : Source → Buffer → Buffer
acted s b = let h = header s in
    (if has_pairs s.layout h.format then run_kerned s b
    else (if nat_eq h.format 1 then stacked s b
    else (if attaches s.layout h.format then attached s b
    else b)))

unfoldable pub acted_in_order : Source → Buffer → Buffer
acted_in_order s b = if is_reversed (header s) b.direction then reversed (acted s (reversed b)) else acted s b

abbrev pub subtable_run : Source → Buffer → Buffer
subtable_run s b = if is_for (header s) (is_horizontal b.direction) then acted_in_order s b else b
