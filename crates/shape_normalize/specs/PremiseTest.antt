-- The premises of canonical form as a test on items; what is known of a text is found from its end to its beginning.
use Rattle.std.specs.Prelude.{ℕ, ◌+◌, ◌==◌, ◌&&◌, ◌||◌, nat_le, nat_lt, not, Bool, true, false, if◌then◌else◌, List, [], ◌∷◌, map, Option, None, Some, is_some}
use Rattle.std.specs.List.{list_all}
use Rattle.std.specs.Option.{option_map_or}
use Rattle.canonical_form.specs.Chain.{full_text}
use Rattle.shape_items.specs.Items.{Item, char_of, ccc_of_item, is_mark_item}
use Rattle.shape_common.specs.Unicode.{UnicodeMeaning, is_mark}
use Rattle.shape_normalize.specs.RoundTwo.{max_run, has_mark_past_first}
use Rattle.shape_normalize.specs.declared.ot_shape_normalize.premises.Front.{Front}
use Rattle.shape_plan.specs.Rules.{Rules, decompositions, has_glyph}

-- how a list begins once one more character came in front: with how many marks, with which ccc, and whether no
-- neighbours have ccc x > y > 0; none if a run is longer than 32, or a character has no glyph
abbrev pub front_with : (ℕ → ℕ) → (ℕ → Bool) → ℕ → Option Front → Option Front
front_with ccc glyph c None = None
front_with ccc glyph c (Some front) =
    let ordered = front.ordered && (front.ccc == 0 || nat_le (ccc c) front.ccc) in
    if glyph c then
    (if ccc c == 0 then Some (record { row = 0; ccc = ccc c; ordered = ordered })
    else if nat_lt front.row max_run then Some (record { row = front.row + 1; ccc = ccc c; ordered = ordered })
    else None)
    else None

-- the same once all characters of a list came in front, the last one first
abbrev pub front_before : (ℕ → ℕ) → (ℕ → Bool) → List ℕ → Option Front → Option Front
front_before ccc glyph [] front = front
front_before ccc glyph (c ∷ cs) front = front_with ccc glyph c (front_before ccc glyph cs front)

-- how a list without characters begins
abbrev pub no_front : Front
no_front = record { row = 0; ccc = 0; ordered = true }

-- the item's mark and ccc are those of its character, which is no variation selector
abbrev pub is_plain_item : UnicodeMeaning → Item → Bool
is_plain_item unicode item =
    (if is_mark unicode item.codepoint then is_mark_item item else not (is_mark_item item))
    && ccc_of_item item == unicode.ccc item.codepoint && not (unicode.selector item.codepoint)

-- the mode decomposes fully, in sequences with marks and without
abbrev pub is_full_mode : (Bool → Bool) → Bool
is_full_mode short = not (short true) && not (short false)

-- how Full of a text begins; none if one of its characters has no glyph, or a run of marks in it is longer than 32
abbrev pub front_of : Rules → List Item → Option Front
front_of rules items =
    front_before rules.unicode.ccc (has_glyph rules.face.nominal_glyph) (full_text (decompositions rules) (map char_of items))
    (Some no_front)

-- each character of Full has a glyph, no run of marks in it is longer than 32, and the marks end in order
abbrev pub is_supported_text : Rules → List Item → Bool
is_supported_text rules items =
    option_map_or (λ front. has_mark_past_first items || not rules.recomposes && front.ordered) (front_of rules items) false

-- what canonical form asks of a text, a shaper and a face, except for lawful hooks
abbrev pub meets_premises : Rules → List Item → Bool
meets_premises rules items =
    is_full_mode rules.short && not (is_some rules.reorder) && list_all (is_plain_item rules.unicode) items
    && is_supported_text rules items
