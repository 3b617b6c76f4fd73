-- How a ligature is made: its components become one glyph, and marks between and after them stand on it.
use Rattle.std.specs.Prelude.{ℕ, zero, suc, Bool, true, false, ◌+◌, ◌-◌, ◌*◌, ◌==◌, ◌&&◌, ◌||◌, not, min, nat_lt, nat_le, Option, Some, None, List}
use Rattle.std.specs.Prelude.{[], ◌∷◌, ◌++◌, fold, replicate, length, drop, set, if◌then◌else◌}
use Rattle.std.specs.List.{prefix_len}
use Rattle.std.specs.Option.{option_map_or}
use Rattle.shape_items.specs.Buffer.{Buffer, next_ligature_id}
use Rattle.shape_items.specs.BufferClusters.{merge_clusters}
use Rattle.shape_common.specs.Positions.{zero_position}
use Rattle.shape_items.specs.Items.{Item}
use Rattle.arabic_fallback.specs.Ligatures.{found_in}
use Rattle.arabic_fallback.specs.Merging.{merging_charged}
use Rattle.arabic_fallback.specs.Replaced.{shares, as_component, as_ligature, components_of, gone, is_gone}
use Rattle.arabic_fallback.specs.Seeking.{nth, is_mark, is_on}
use Rattle.arabic_fallback.specs.Vain.{vain_marked}
use Rattle.arabic_fallback.specs.Work.{search_charged}
use Rattle.arabic_fallback.specs.declared.ligating.Counts.{Counts}
use Rattle.arabic_fallback.specs.declared.ligating.Ligation.{Ligation}
use Rattle.arabic_fallback.specs.declared.ligatures.Found.{Found}
use Rattle.arabic_fallback.specs.declared.ligatures.LigatureGlyphs.{LigatureGlyphs}
use Rattle.arabic_fallback.specs.declared.seeking.Rule.{Rule}

-- all components after the first one are marks
abbrev pub all_marks : List Item → Found → Bool
all_marks items found = is_mark (nth items found.second) && option_map_or (λ third. is_mark (nth items third)) found.third true

abbrev pub counts_of : List Item → ℕ → Found → Counts
counts_of items at found = record {
  first = components_of (nth items at);
  second = components_of (nth items found.second);
  third = option_map_or (λ third. components_of (nth items third)) found.third 0;
}

abbrev pub id_of : Bool → Buffer → ℕ
id_of own b = if own then next_ligature_id b.serial else 0

abbrev pub id_given : Bool → Buffer → Buffer
id_given own b = if own then record b { serial = next_ligature_id b.serial } else b

-- a ligature that isn't one of marks, or of a base and marks, has an id of its own, which the run counts
abbrev pub is_own : List Item → ℕ → Found → Bool
is_own items at found = not (all_marks items found && shares (nth items at).properties.glyph_class.0 10)

abbrev pub ligation_of : ℕ → Found → Buffer → Ligation
ligation_of at found b = record {
  at = at;
  found = found;
  counts = counts_of b.items at found;
  own = is_own b.items at found;
  marks = all_marks b.items found && is_mark (nth b.items at);
  id = id_of (is_own b.items at found) b;
  last_id = (nth b.items found.last).properties.ligature_id;
}

-- the third component stands before a place
abbrev pub is_after_third : Found → ℕ → Bool
is_after_third found k = option_map_or (λ third. nat_lt third k) found.third false

-- how many components come before those of the component that stands last before a place, and how many that one has
abbrev pub before_of : Ligation → ℕ → ℕ
before_of made k = if nat_le k made.found.second then 0
    else (if is_after_third made.found k then made.counts.first + made.counts.second else made.counts.first)

abbrev pub count_at : Ligation → ℕ → ℕ
count_at made k = if nat_le k made.found.second then made.counts.first
    else (if is_after_third made.found k then made.counts.third else made.counts.second)

-- the component of the new ligature that a mark at a place stands on
abbrev pub component_among : Ligation → ℕ → Item → ℕ
component_among made k item = let component = item.properties.ligature_component in
    before_of made k + (if component == 0 then count_at made k else min component (count_at made k))

abbrev pub is_component : Found → ℕ → Bool
is_component found k = k == found.second || option_map_or (λ third. third == k) found.third false

-- a component is to go; what stands between components is a mark on the ligature if that has an id of its own, and what follows
-- always is
abbrev pub joined_item : Ligation → ℕ → Item → Item
joined_item made k item = if is_component made.found k then gone item
    else (if made.own || nat_lt made.found.last k then as_component made.id (component_among made k item) item else item)

abbrev pub put_at : ℕ → Item → Buffer → Buffer
put_at i item b = if nat_lt i (length b.items) then record b { items = set b.items i item } else b

abbrev pub merged : ℕ → ℕ → Buffer → Buffer
merged start end b = if nat_le start end && nat_le end (length b.items) then merge_clusters start end b else b

-- a mark on a component of the ligature that the last component was
abbrev pub follows : ℕ → Item → Bool
follows id item = item.properties.ligature_id == id && nat_lt 0 item.properties.ligature_component

-- how many follow the last component: none follow a ligature of marks, or a component that was no ligature
abbrev pub followers : Ligation → List Item → ℕ
followers made items = if made.marks || made.last_id == 0 then 0
    else prefix_len (follows made.last_id) (drop (made.found.last + 1) items)

abbrev pub joined_at : Ligation → ℕ → Buffer → Buffer
joined_at made k b = put_at k (joined_item made k (nth b.items k)) b

abbrev pub joined_to : Ligation → ℕ → Buffer → Buffer
joined_to made zero b = b
joined_to made (suc i) b = joined_at made (made.at + 1 + i) (joined_to made i b)

abbrev pub total_of : Counts → ℕ
total_of counts = counts.first + counts.second + counts.third

abbrev pub put_over : Ligation → Buffer → Buffer
put_over made b = put_at made.at (as_ligature made.own made.id (total_of made.counts) made.found.ligature (nth b.items made.at)) b

-- all components in one cluster; those after the first one are marked, to go when the lookup is done
abbrev pub ligature_made : Ligation → Buffer → Buffer
ligature_made made b = put_over made
    (joined_to made (made.found.last - made.at + followers made b.items) (merged made.at (made.found.last + 1) b))

-- what an item costs that follows a ligature, since it is written anew
abbrev pub FOLLOWED : ℕ
FOLLOWED = 4

-- so much for each of those; if what is left doesn't suffice, nothing is left
abbrev pub following_charged : Ligation → Buffer → Buffer
following_charged made b = record b { max_ops = b.max_ops - followers made b.items * FOLLOWED }

abbrev pub ligature_given : Ligation → Buffer → Buffer
ligature_given made b = ligature_made made (following_charged made (id_given made.own b))

abbrev pub ligature_of : ℕ → Found → Buffer → Buffer
ligature_of at found b = ligature_given (ligation_of at found b) b

-- it is made whatever is left
abbrev pub ligature_put : ℕ → Found → Buffer → Buffer
ligature_put at found b = ligature_of at found (merging_charged at found.last b)

-- a buffer, and the place that the lookup goes on at
pub record Walked : Type 0 where
  pub buffer : Buffer
  pub next : ℕ

-- after a ligature it goes on after its last component, else at the next place
abbrev pub tried_at : ℕ → Option Found → Buffer → Walked
tried_at at (Some found) b = record { buffer = ligature_put at found b; next = found.last + 1 }
tried_at at None b = record { buffer = b; next = at + 1 }

abbrev pub with_left : ℕ → Buffer → Buffer
with_left left b = record b { max_ops = left }

-- what is looked at in vain is marked before the ligature is made; if what is left doesn't suffice for the search, nothing is left
abbrev pub tried_with : Rule → List LigatureGlyphs → ℕ → Buffer → Option ℕ → Walked
tried_with rule rows at b None = tried_at at None (with_left 0 b)
tried_with rule rows at b (Some left) =
    tried_at at (found_in rule rows b.items at) (vain_marked rule rows at (with_left left b))

abbrev pub searched_at : Rule → List LigatureGlyphs → ℕ → Buffer → Walked
searched_at rule rows at b = tried_with rule rows at b (search_charged rule rows b.items at b.max_ops)

abbrev pub ligated_at : Rule → List LigatureGlyphs → ℕ → Walked → Walked
ligated_at rule rows at s = if not (nat_lt at s.next) && is_on rule (nth s.buffer.items at)
    then searched_at rule rows at s.buffer else s

abbrev pub ligated_to : Rule → List LigatureGlyphs → ℕ → Buffer → Walked
ligated_to rule rows zero b = record { buffer = b; next = 0 }
ligated_to rule rows (suc at) b = ligated_at rule rows at (ligated_to rule rows at b)

abbrev pub each_ligated : Rule → List LigatureGlyphs → Buffer → Buffer
each_ligated rule rows b = (ligated_to rule rows (length b.items) b).buffer

abbrev pub with_kept : List Item → Item → List Item
with_kept items item = if is_gone item then items else items ++ item ∷ []

-- the items that stay
abbrev pub kept : List Item → List Item
kept items = fold with_kept [] items

-- without the components that are to go
abbrev pub cleared_away : Buffer → Buffer
cleared_away b = record b { items = kept b.items; positions = replicate (length (kept b.items)) zero_position }

-- from left to right
abbrev pub ligated : Rule → List LigatureGlyphs → Buffer → Buffer
ligated rule rows b = cleared_away (each_ligated rule rows b)
