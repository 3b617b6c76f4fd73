-- a lookup leaves no more than there was, and one that doesn't apply leaves the glyph
use Prim.Native.Nat.{zero}
use Rattle.std.proofs.Common.{◌≡◌, ℕ, suc, ◌≤◌, ◌+◌, ◌-◌, ◌*◌, ◌%◌, ◌&&◌, ◌||◌, not, Bool, true, false, List, [], ◌∷◌, Option, Some, None, is_some}
use Rattle.std.proofs.Common.{length, map, nat_eq, nat_le, nat_lt, slice_index_or, refl, sym, ap, ◌∙◌, arith, if◌then◌else◌}
use Rattle.std.proofs.lemmas.Bool.Decides.{nat_tests}
use Rattle.std.specs.Option.{option_map_or}
use Rattle.shape_items.specs.Buffer.{Buffer}
use Rattle.shape_items.specs.BufferClusters.{unsafe_to_concat, with_glyph_flags}
use Rattle.shape_items.specs.Clusters.{map_range, mark_concat}
use Rattle.shape_items.specs.Items.{Item, new_item}
use Rattle.shape_items.proofs.Merging.KeyLemmas.{keys-map_range}
use Rattle.layout_tables.specs.Lookups.{subtable_count_of, subtable_of}
use Rattle.layout_tables.specs.declared.lookups.LookupSubtable.{LookupSubtable}
use Rattle.layout_matching.specs.Skipping.{nth}
use Rattle.layout_matching.specs.declared.lookup.Lookup.{Lookup}
use Rattle.layout_matching.specs.declared.tried.Reach.{Reach}
use Rattle.layout_substitution.specs.Applied.{Applied, unapplied, put_one, single_applied, is_random, next_random, random_put, random_applied, value_of, alternate_applied, taken_away, deleted, glyphs_put, sequence_put, multiple_applied}
use Rattle.layout_substitution.specs.Edits.{asks_for_concat, item_at, is_past, broken, concat_marked}
use Rattle.layout_substitution.specs.Kinds.{kind_applied, subtable_applied, or_else, or_next, subtables_applied, lookup_applied}
use Rattle.layout_substitution.specs.Ligatures.{ligatures_reach, ligature_found, ligature_put, ligature_made, one_ligated, set_ligated, ligature_applied}
use Rattle.layout_substitution.specs.Substitutes.{single_of, set_of, alternate_of, listed_count, listed_at, ligature_glyph, component_count}
use Rattle.layout_substitution.specs.declared.apply.Spot.{Spot}
use Rattle.layout_substitution.specs.declared.ligature.Components.{Components}

-- what is left after a lookup at a place
abbrev pub left_after : Spot → Applied → ℕ
left_after spot made = option_map_or (λ (s : Spot). s.left) made.next spot.left

-- ---- marks leave the glyphs

glyph_at : (xs : List Item) (i : ℕ) → (nth xs i).glyph_id ≡ slice_index_or (map (λ (x : Item). x.glyph_id) xs) i 0
glyph_at [] i = refl
glyph_at (x ∷ xs) zero = refl
glyph_at (x ∷ xs) (suc i) = glyph_at xs i

glyphs-same : (xs ys : List Item) (i : ℕ) → map (λ (x : Item). x.glyph_id) xs ≡ map (λ (x : Item). x.glyph_id) ys
    → (nth xs i).glyph_id ≡ (nth ys i).glyph_id
glyphs-same xs ys i same = glyph_at xs i ∙ ap (λ gs. slice_index_or gs i 0) same ∙ sym (glyph_at ys i)

marked-glyphs : (r : Reach) (b : Buffer) → map (λ (x : Item). x.glyph_id) (concat_marked r b).items ≡ map (λ (x : Item). x.glyph_id) b.items
marked-glyphs r b = by_span (nat_lt r.from r.to && nat_le r.to (length b.items)) refl
  where
    by_ask : (t : Bool) → r.from ≤ r.to
        → map (λ (x : Item). x.glyph_id)
        (if t then record (with_glyph_flags b) { items = map_range mark_concat r.from r.to b.items } else b).items
        ≡ map (λ (x : Item). x.glyph_id) b.items
    by_ask true ordered = keys-map_range (λ (x : Item). x.glyph_id) mark_concat (λ x. refl) r.from r.to b.items ordered
    by_ask false ordered = refl

    by_span : (t : Bool) → (nat_lt r.from r.to && nat_le r.to (length b.items)) ≡ t
        → map (λ (x : Item). x.glyph_id) (if t then unsafe_to_concat r.from r.to b else b).items ≡ map (λ (x : Item). x.glyph_id) b.items
    by_span true is = by_ask (asks_for_concat b) (grind (arith, nat_tests, is))
    by_span false is = refl

pub marked-glyph : (r : Reach) (b : Buffer) (i : ℕ) → (item_at (concat_marked r b) i).glyph_id ≡ (item_at b i).glyph_id
marked-glyph r b i = glyphs-same (concat_marked r b).items b.items i (marked-glyphs r b)

-- ---- a subtable

-- what is left doesn't rise; and if it doesn't apply, the glyph at the place stays
pub record Leaves (spot : Spot) (b : Buffer) (made : Applied) : Type 0 where
  pub less : left_after spot made ≤ spot.left
  pub glyph : is_some made.next ≡ false → (item_at made.buffer spot.at).glyph_id ≡ (item_at b spot.at).glyph_id

pub none-leaves : (spot : Spot) (b : Buffer) → Leaves spot b (unapplied b)
none-leaves spot b = record { less = omega arith; glyph = λ none. refl }

never-none : {P : Type 0} → true ≡ false → P
never-none e = absurd (let bad : true ≡ false = e in cc)

put-leaves : (l : Lookup) (spot from : Spot) (b c : Buffer) (glyph : ℕ) → from.left ≤ spot.left → Leaves spot b (put_one l from c glyph)
put-leaves l spot from b c glyph less = record { less = less; glyph = λ none. never-none none }

gone-leaves : (after : ℕ) (spot : Spot) (b : Buffer) → Leaves spot b (taken_away after spot b)
gone-leaves after spot b = record { less = omega arith; glyph = λ none. never-none none }

several-leaves : (l : Lookup) (spot : Spot) (b : Buffer) (list : ℕ) → Leaves spot b (glyphs_put l spot b list)
several-leaves l spot b list = record { less = omega arith; glyph = λ none. never-none none }

joined-leaves : (l : Lookup) (spot : Spot) (b c : Buffer) (m : Components) → Leaves spot b (ligature_put l spot c m)
joined-leaves l spot b c m = record { less = omega arith; glyph = λ none. never-none none }

or-none : {X : Type 0} (spot : Spot) (b : Buffer) (f : X → Applied) → ((x : X) → Leaves spot b (f x)) → (o : Option X)
    → Leaves spot b (option_map_or f o (unapplied b))
or-none spot b f each None = none-leaves spot b
or-none spot b f each (Some x) = each x

if-leaves : (spot : Spot) (b : Buffer) (t : Bool) (x y : Applied) → Leaves spot b x → Leaves spot b y → Leaves spot b (if t then x else y)
if-leaves spot b true x y first second = first
if-leaves spot b false x y first second = second

single-leaves : (l : Lookup) (start : ℕ) (spot : Spot) (b : Buffer) → Leaves spot b (single_applied l start spot b)
single-leaves l start spot b =
    or-none spot b (put_one l spot b) (λ glyph. put-leaves l spot spot b b glyph (omega arith)) (single_of l.table.now start (item_at b spot.at).glyph_id)

random-leaves : (l : Lookup) (spot : Spot) (b : Buffer) (set : ℕ) → Leaves spot b (random_put l spot b set)
random-leaves l spot b set =
    if-leaves spot b (nat_eq (listed_count l.table.now set) 0) (unapplied b)
    (put_one l (record spot { random = next_random spot.random }) (broken 0 (length b.items) b)
    (listed_at l.table.now set (next_random spot.random % listed_count l.table.now set)))
    (none-leaves spot b)
    (put-leaves l spot (record spot { random = next_random spot.random }) b (broken 0 (length b.items) b)
    (listed_at l.table.now set (next_random spot.random % listed_count l.table.now set)) (omega arith))

alternate-leaves : (l : Lookup) (start : ℕ) (spot : Spot) (b : Buffer) → Leaves spot b (alternate_applied l start spot b)
alternate-leaves l start spot b =
    let item = item_at b spot.at in
    if-leaves spot b (is_random l item) (random_applied l start spot b)
    (option_map_or (put_one l spot b) (alternate_of l.table.now start item.glyph_id (value_of l item)) (unapplied b))
    (or-none spot b (random_put l spot b) (random-leaves l spot b) (set_of l.table.now start item.glyph_id))
    (or-none spot b (put_one l spot b) (λ glyph. put-leaves l spot spot b b glyph (omega arith))
    (alternate_of l.table.now start item.glyph_id (value_of l item)))

sequence-leaves : (l : Lookup) (spot : Spot) (b : Buffer) (list : ℕ) → Leaves spot b (sequence_put l spot b list)
sequence-leaves l spot b list =
    if-leaves spot b (nat_eq (listed_count l.table.now list) 0) (deleted spot b) (glyphs_put l spot b list)
    (if-leaves spot b (nat_eq spot.left 0) (unapplied b) (taken_away (length b.items - (spot.at + 1)) spot b)
    (none-leaves spot b) (gone-leaves (length b.items - (spot.at + 1)) spot b))
    (several-leaves l spot b list)

made-leaves : (l : Lookup) (spot : Spot) (b c : Buffer) (m : Components) → Leaves spot b (ligature_made l spot c m)
made-leaves l spot b c m =
    if-leaves spot b (nat_eq (component_count l.table.now m.ligature) 1) (put_one l spot c (ligature_glyph l.table.now m.ligature))
    (ligature_put l spot c m) (put-leaves l spot spot b c (ligature_glyph l.table.now m.ligature) (omega arith))
    (joined-leaves l spot b c m)

set-leaves : (l : Lookup) (spot : Spot) (b : Buffer) (set : ℕ) → Leaves spot b (set_ligated l spot b set)
set-leaves l spot b set = by_found (ligature_found l marked spot.at set)
  where
    marked : Buffer
    marked = concat_marked (ligatures_reach l b spot.at set) b

    by_found : (o : Option Components) → Leaves spot b (option_map_or (ligature_made l spot marked) o (unapplied marked))
    by_found None = record { less = omega arith; glyph = λ none. marked-glyph (ligatures_reach l b spot.at set) b spot.at }
    by_found (Some m) = made-leaves l spot b marked m

kind-leaves : (l : Lookup) (spot : Spot) (b : Buffer) (subtable : LookupSubtable) → Leaves spot b (kind_applied l spot b subtable)
kind-leaves l spot b subtable =
    let start = subtable.start in
    if-leaves spot b (nat_eq subtable.kind 1) (single_applied l start spot b) _ (single-leaves l start spot b)
    (if-leaves spot b (nat_eq subtable.kind 2) (multiple_applied l start spot b) _
    (or-none spot b (sequence_put l spot b) (sequence-leaves l spot b) (set_of l.table.now start (item_at b spot.at).glyph_id))
    (if-leaves spot b (nat_eq subtable.kind 3) (alternate_applied l start spot b) _ (alternate-leaves l start spot b)
    (if-leaves spot b (nat_eq subtable.kind 4) (ligature_applied l start spot b) (unapplied b)
    (or-none spot b (set_ligated l spot b) (set-leaves l spot b) (set_of l.table.now start (item_at b spot.at).glyph_id))
    (none-leaves spot b))))

pub subtable-leaves : (l : Lookup) (i : ℕ) (spot : Spot) (b : Buffer) → Leaves spot b (subtable_applied l i spot b)
subtable-leaves l i spot b = or-none spot b (kind_applied l spot b) (kind-leaves l spot b) (subtable_of l.table.now 7 l.place i)

-- ---- a lookup

subtables-less : (l : Lookup) (spot : Spot) (n i : ℕ) (b : Buffer) → left_after spot (subtables_applied l spot n i b) ≤ spot.left
subtables-less l spot zero i b = omega arith
subtables-less l spot (suc n) i b =
    by_past (is_past made.buffer) made (subtable-leaves l i spot b).less (subtables-less l spot n (suc i) made.buffer)
  where
    made : Applied
    made = subtable_applied l i spot b

    by_next : (c : Buffer) (o : Option Spot) → left_after spot (record { buffer = c; next = o }) ≤ spot.left
        → left_after spot (subtables_applied l spot n (suc i) c) ≤ spot.left
        → left_after spot (or_else (subtables_applied l spot n (suc i)) (record { buffer = c; next = o }) o) ≤ spot.left
    by_next c None first later = later
    by_next c (Some next) first later = first

    by_past : (t : Bool) (a : Applied) → left_after spot a ≤ spot.left → left_after spot (subtables_applied l spot n (suc i) a.buffer) ≤ spot.left
        → left_after spot (if t then a else or_else (subtables_applied l spot n (suc i)) a a.next) ≤ spot.left
    by_past true a first later = first
    by_past false a first later = by_next a.buffer a.next first later

pub lookup-less : (l : Lookup) (spot : Spot) (b : Buffer) → left_after spot (lookup_applied l spot b) ≤ spot.left
lookup-less l spot b = subtables-less l spot (subtable_count_of l.table.now l.place) 0 b
