-- The list that a ligature makes (OpenType, "Ligature Substitution Subtable"): the ligature in place of its first component; each glyph that
-- stood between components, a mark on the component before it; marks behind the last component that stood on its components; the rest.
use Rattle.std.specs.Prelude.{ℕ, Bool, true, false, List, [], ◌∷◌, ◌++◌, ◌+◌, ◌-◌, ◌%◌, ◌&&◌, ◌||◌, not, take, drop, nat_eq, nat_lt, if◌then◌else◌}
use Rattle.shape_items.specs.Buffer.{Buffer}
use Rattle.shape_items.specs.Items.{Item}
use Rattle.layout_matching.specs.Seeking.{fits}
use Rattle.layout_matching.specs.Skipping.{is_skipped}
use Rattle.layout_matching.specs.declared.lookup.Lookup.{Lookup}
use Rattle.layout_substitution.specs.Edits.{item_at, merged}
use Rattle.layout_substitution.specs.Ligatures.{component_among, looked_for}
use Rattle.layout_substitution.specs.Replaced.{as_component, as_ligature, components_of}
use Rattle.layout_substitution.specs.Substitutes.{ligature_glyph, component_count}
use Rattle.layout_substitution.specs.declared.ligature.Components.{Components}
use Rattle.layout_substitution.specs.declared.ligature.Joining.{Joining}
use Rattle.layout_substitution.specs.declared.ligature.Ligation.{Ligation}

-- a mark on the ligature, on the component that it stood on, or on the last one before it
abbrev pub mark_on : Ligation → Joining → Item → Item
mark_on made s item = as_component made.id (component_among s item) item

-- after one component more
abbrev pub with_component : Joining → Item → Joining
with_component s item = record s {
  left = s.left - 1;
  id = item.properties.ligature_id;
  components = components_of item;
  so_far = (s.so_far + components_of item) % 65536;
}

-- not the component that is looked for next
abbrev pub stands_between : Lookup → Ligation → Joining → Item → Bool
stands_between l made s item = is_skipped l item || not (fits l made.seek (looked_for made s) item)

-- of the items behind the first component: components go, the others stay
abbrev pub between_of : Lookup → Ligation → Joining → List Item → List Item
between_of l made s [] = []
between_of l made s (x ∷ xs) = if stands_between l made s x
    then (if made.own then mark_on made s x else x) ∷ between_of l made s xs
    else between_of l made (with_component s x) xs

-- what is known after the last one
abbrev pub after_last : Lookup → Ligation → Joining → List Item → Joining
after_last l made s [] = s
after_last l made s (x ∷ xs) =
    if stands_between l made s x then after_last l made s xs else after_last l made (with_component s x) xs

-- marks on components of the glyph that was the last component stand on the ligature, up to the first glyph that doesn't
abbrev pub behind_of : Ligation → Joining → List Item → List Item
behind_of made s [] = []
behind_of made s (x ∷ xs) = if nat_eq x.properties.ligature_id s.id && nat_lt 0 x.properties.ligature_component
    then mark_on made s x ∷ behind_of made s xs else x ∷ xs

-- none do if the ligature is one of marks, or the last component belonged to no ligature
abbrev pub rest_of : Ligation → Joining → List Item → List Item
rest_of made s xs = if made.marks || nat_eq s.id 0 then xs else behind_of made s xs

-- before the second component
abbrev pub after_first : Lookup → Components → Item → Joining
after_first l m item = record {
  at = 0;
  left = component_count l.table.now m.ligature - 1;
  id = item.properties.ligature_id;
  components = components_of item;
  so_far = components_of item;
}

-- the components' clusters are merged first
abbrev pub ligature_list : Lookup → Ligation → Components → ℕ → Buffer → List Item
ligature_list l made m at b =
    let items = (merged at (m.last + 1) b).items in
    let behind = drop (at + 1) items in
    let first = after_first l m (item_at b at) in
    let end = after_last l made first (take (m.last - at) behind) in
    take at items
    ++ as_ligature l made.own made.id end.so_far (ligature_glyph l.table.now m.ligature) (item_at (merged at (m.last + 1) b) at)
    ∷ (between_of l made first (take (m.last - at) behind) ++ rest_of made end (drop (m.last - at) behind))
