-- What a ligature makes of a buffer at a place (kind 4).
use Rattle.std.specs.Prelude.{ℕ, List, Bool, true, Option, Some, None, ◌+◌, ◌-◌, ◌*◌, ◌%◌, ◌&&◌, ◌||◌, not, length, min, nat_eq, nat_lt, if◌then◌else◌}
use Rattle.std.specs.Option.{option_and_then, option_map, option_map_or}
use Rattle.shape_font.specs.Bytes.{u16_of}
use Rattle.shape_items.specs.Buffer.{Buffer, next_ligature_id}
use Rattle.shape_items.specs.Items.{Item}
use Rattle.shape_items.specs.Merging.{merged_beside}
use Rattle.layout_tables.specs.Offsets.{offset16_of}
use Rattle.layout_matching.specs.Input.{input_matched, is_mark_glyph, seek_input}
use Rattle.layout_matching.specs.Loops.{times, first_some}
use Rattle.layout_matching.specs.Rules.{row}
use Rattle.layout_matching.specs.Seeking.{fits, next_place}
use Rattle.layout_matching.specs.Sifted as sifted
use Rattle.layout_matching.specs.Skipping.{nth, shares, is_skipped, is_transparent, syllable_of}
use Rattle.layout_matching.specs.Tried.{untried, match_at, vain, until_matched, input_end}
use Rattle.layout_matching.specs.declared.glance.Glance.{Glance}
use Rattle.layout_matching.specs.declared.input.Matched.{Matched}
use Rattle.layout_matching.specs.declared.lookup.Lookup.{Lookup}
use Rattle.layout_matching.specs.declared.rules.Row.{Row}
use Rattle.layout_matching.specs.declared.tried.Reach.{Reach}
use Rattle.layout_matching.specs.declared.rules.Test.TheVariants.{Glyph, Any}
use Rattle.layout_matching.specs.declared.seeking.Seek.{Seek}
use Rattle.layout_substitution.specs.Applied.{Applied, unapplied, put_one, with_as_many_after}
use Rattle.layout_substitution.specs.Edits.{item_at, is_inside, put_at, taken_out, merged, concat_marked}
use Rattle.layout_substitution.specs.Replaced.{as_component, as_ligature, components_of}
use Rattle.layout_substitution.specs.Substitutes.{set_of, listed_count, ligature_glyph, component_count, has_components}
use Rattle.layout_substitution.specs.declared.apply.Spot.{Spot}
use Rattle.layout_substitution.specs.declared.ligature.Components.{Components}
use Rattle.layout_substitution.specs.declared.ligature.Joining.{Joining}
use Rattle.layout_substitution.specs.declared.ligature.Ligation.{Ligation}

-- the components of a ligature, as a row of glyphs whose count has the first one too
abbrev pub component_row : Lookup → ℕ → Row
component_row l ligature = row Glyph 0 (component_count l.table.now ligature) (ligature + 4)

abbrev pub components_at : ℕ → Matched → Components
components_at ligature m = record { ligature = ligature; last = m.last; all_marks = m.all_marks }

-- a ligature of no component stands nowhere, nor does one that leads past the end of the table
abbrev pub ligature_matched : Lookup → Buffer → ℕ → ℕ → Option Components
ligature_matched l b at ligature = if has_components l.table.now ligature
    then option_map (components_at ligature) (input_matched l b.items at (component_row l ligature)) else None

abbrev pub ligature_in : Lookup → Buffer → ℕ → ℕ → ℕ → Option Components
ligature_in l b at set i = option_and_then (ligature_matched l b at) (offset16_of l.table.now set (set + 2 + 2 * i))

-- what the next glyph says of the second component of all ligatures
abbrev pub second_glance : Lookup → Buffer → ℕ → Glance
second_glance l b at = sifted.second_glance l b.items at

-- the first ligature of the set whose components stand there
abbrev pub ligature_found : Lookup → Buffer → ℕ → ℕ → Option Components
ligature_found l b at set = first_some (ligature_in l b at set) (listed_count l.table.now set) 0

-- what the search for the components of a ligature looked at in vain
abbrev pub ligature_reach : Lookup → Buffer → ℕ → ℕ → Reach
ligature_reach l b at ligature = let components = component_row l ligature in
    (if has_components l.table.now ligature
    then option_map_or (λ m. match_at at) (input_matched l b.items at components) (vain at at (input_end l b.items at components))
    else untried at)

abbrev pub ligature_reach_in : Lookup → Buffer → ℕ → ℕ → ℕ → Reach
ligature_reach_in l b at set i = option_map_or (ligature_reach l b at) (offset16_of l.table.now set (set + 2 + 2 * i)) (untried at)

abbrev pub all_reach : Lookup → Buffer → ℕ → ℕ → Reach
all_reach l b at set = until_matched (ligature_reach_in l b at set) (listed_count l.table.now set) 0 (untried at)

-- the next glyph that the lookup sees, unless it may be passed over
abbrev pub seek_any : Lookup → Item → Seek
seek_any l first = record { row = row Any 0 1 0; is_input = true; syllable = syllable_of l first }

abbrev pub seen_glyph : Lookup → Buffer → ℕ → Option ℕ
seen_glyph l b j = let item = item_at b j in (if is_transparent l true item then None else Some item.glyph_id)

abbrev pub next_glyph : Lookup → Buffer → ℕ → Option ℕ
next_glyph l b at = option_and_then (seen_glyph l b) (next_place l (seek_any l (item_at b at)) b.items 0 at)

-- the same without the ligatures whose second component isn't the next glyph
abbrev pub begins_otherwise : Lookup → ℕ → ℕ → Bool
begins_otherwise l glyph ligature =
    nat_lt 1 (component_count l.table.now ligature) && not (nat_eq (u16_of l.table.now (ligature + 4)) glyph)

abbrev pub quick_reach : Lookup → Buffer → ℕ → ℕ → ℕ → Reach
quick_reach l b at glyph ligature = if begins_otherwise l glyph ligature then untried at else ligature_reach l b at ligature

abbrev pub quick_reach_in : Lookup → Buffer → ℕ → ℕ → ℕ → ℕ → Reach
quick_reach_in l b at set glyph i =
    option_map_or (quick_reach l b at glyph) (offset16_of l.table.now set (set + 2 + 2 * i)) (untried at)

abbrev pub quickly_reached : Lookup → Buffer → ℕ → ℕ → ℕ → Reach
quickly_reached l b at set glyph = until_matched (quick_reach_in l b at set glyph) (listed_count l.table.now set) 0 (untried at)

-- up to the first ligature of the set that stands there; of a set of more than four HarfBuzz compares the second components
-- first, and doesn't mark that if a ligature is made
abbrev pub ligatures_reach : Lookup → Buffer → ℕ → ℕ → Reach
ligatures_reach l b at set = let all = all_reach l b at set in
    (if all.matched && nat_lt 4 (listed_count l.table.now set)
    then option_map_or (quickly_reached l b at set) (next_glyph l b at) all else all)

-- a mark on component `component` of so many, of a ligature that becomes components of another one
abbrev pub component_among : Joining → Item → ℕ
component_among s item = let component = item.properties.ligature_component in
    s.so_far - s.components + (if nat_eq component 0 then s.components else min component s.components)

-- one item after the first component: a component goes, and what stands between is a mark on the ligature
pub record Joined : Type 0 where
  pub buffer : Buffer
  pub walk : Joining

abbrev pub between_stays : Bool → ℕ → Joined → Joined
between_stays own id s = let item = item_at s.buffer s.walk.at in record {
  buffer = if own then put_at s.walk.at (as_component id (component_among s.walk item) item) s.buffer else s.buffer;
  walk = record s.walk { at = s.walk.at + 1 };
}

abbrev pub component_gone : Joined → Joined
component_gone s = let item = item_at s.buffer s.walk.at in record {
  buffer = taken_out s.walk.at s.buffer;
  walk = record s.walk {
    left = s.walk.left - 1;
    id = item.properties.ligature_id;
    components = components_of item;
    so_far = (s.walk.so_far + components_of item) % 65536;
  };
}

-- the component that is looked for next: number 0 is the one after the first
abbrev pub looked_for : Ligation → Joining → ℕ
looked_for made walk = made.seek.row.count - 1 - walk.left

-- an item that isn't that component, or that the lookup skips, stays
abbrev pub stays : Lookup → Ligation → Joined → Bool
stays l made s = let item = item_at s.buffer s.walk.at in
    is_skipped l item || not (fits l made.seek (looked_for made s.walk) item)

abbrev pub join_step : Lookup → Ligation → Joined → Joined
join_step l made s =
    if is_inside s.walk.at s.buffer then (if stays l made s then between_stays made.own made.id s else component_gone s)
    else s

-- marks after the last component, which stood on its components, stand on the ligature
abbrev pub follows : Joined → Bool
follows s = let item = (item_at s.buffer s.walk.at).properties in
    is_inside s.walk.at s.buffer && nat_eq item.ligature_id s.walk.id && nat_lt 0 item.ligature_component

abbrev pub follow_step : ℕ → Joined → Joined
follow_step id s = if follows s then between_stays true id s else s

-- of a ligature of marks alone, and if the last component belonged to no ligature, nothing follows
abbrev pub followed : Ligation → Joined → Joined
followed made s = if made.marks || nat_eq s.walk.id 0 then s else times (follow_step made.id) (length s.buffer.items) s

abbrev pub first_joined : Lookup → Components → ℕ → Buffer → Joined
first_joined l m at b = let item = item_at b at in record {
  buffer = merged at (m.last + 1) b;
  walk = record {
    at = at + 1;
    left = component_count l.table.now m.ligature - 1;
    id = item.properties.ligature_id;
    components = components_of item;
    so_far = components_of item;
  };
}

-- all components in one: their clusters are merged first
abbrev pub joined : Lookup → Ligation → Components → ℕ → Buffer → Joined
joined l made m at b = followed made (times (join_step l made) (m.last - at) (first_joined l m at b))

-- a ligature that isn't one of marks, or of a base and marks, has an id of its own, which the run counts
abbrev pub is_own : Components → Item → Bool
is_own m first = not (m.all_marks && shares first.properties.glyph_class.0 10)

abbrev pub id_of : Bool → Buffer → ℕ
id_of own b = if own then next_ligature_id b.serial else 0

abbrev pub ligation_of : Lookup → ℕ → Buffer → Components → Ligation
ligation_of l at b m = let first = item_at b at in record {
  seek = seek_input l first (component_row l m.ligature);
  own = is_own m first;
  marks = m.all_marks && is_mark_glyph first;
  id = id_of (is_own m first) b;
}

abbrev pub id_given : Bool → Buffer → Buffer
id_given own b = if own then record b { serial = next_ligature_id b.serial } else b

-- the ligature stands in place of its first component, and the lookup goes on where so many items are left
abbrev pub ligature_over : Lookup → Ligation → Components → ℕ → Joined → Buffer
ligature_over l made m at s = put_at at
    (as_ligature l made.own made.id s.walk.so_far (ligature_glyph l.table.now m.ligature) (item_at s.buffer at)) s.buffer

-- what an item costs that follows a ligature, since it is written anew
abbrev pub FOLLOWED : ℕ
FOLLOWED = 4

-- so much for each that followed it, up to a place; if what is left doesn't suffice, nothing is left
abbrev pub following_charged : ℕ → Spot → Spot
following_charged end spot = record spot { left = spot.left - (end - spot.at) * FOLLOWED }

-- one for each item beside the components that their merging writes; if what is left doesn't suffice, nothing is left
abbrev pub merging_charged : ℕ → Buffer → Spot → Spot
merging_charged last b spot = record spot { left = spot.left - merged_beside spot.at last b }

abbrev pub ligated : Lookup → Spot → Ligation → Components → ℕ → Buffer → Applied
ligated l spot made m left b = let s = joined l made m spot.at b in
    let c = ligature_over l made m spot.at s in
    let paid = merging_charged m.last b spot in
    record { buffer = c; next = Some (following_charged s.walk.at (with_as_many_after left paid c)) }

abbrev pub ligature_put : Lookup → Spot → Buffer → Components → Applied
ligature_put l spot b m = let made = ligation_of l spot.at b m in
    ligated l spot made m (length b.items - (m.last + 1)) (id_given made.own b)

-- a ligature of one component replaces it
abbrev pub ligature_made : Lookup → Spot → Buffer → Components → Applied
ligature_made l spot b m = if nat_eq (component_count l.table.now m.ligature) 1
    then put_one l spot b (ligature_glyph l.table.now m.ligature)
    else ligature_put l spot b m

-- the first ligature of the set that stands there
abbrev pub one_ligated : Lookup → Spot → ℕ → Buffer → Applied
one_ligated l spot set b = option_map_or (ligature_made l spot b) (ligature_found l b spot.at set) (unapplied b)

abbrev pub set_ligated : Lookup → Spot → Buffer → ℕ → Applied
set_ligated l spot b set = one_ligated l spot set (concat_marked (ligatures_reach l b spot.at set) b)

abbrev pub ligature_applied : Lookup → ℕ → Spot → Buffer → Applied
ligature_applied l start spot b =
    option_map_or (set_ligated l spot b) (set_of l.table.now start (item_at b spot.at).glyph_id) (unapplied b)
