-- a subtable makes the same of a buffer whatever is left, if anything is
use Prim.Native.Nat.{zero}
use Rattle.std.proofs.Common.{◌≡◌, ℕ, suc, ◌<◌, ◌≤◌, ◌+◌, ◌-◌, ◌%◌, Bool, true, false, Option, Some, None, is_some, length, nat_eq, nat_lt, refl, sym, ap, ◌∙◌, subst, arith, if◌then◌else◌}
use Rattle.std.proofs.lemmas.Bool.Decides.{nat_tests}
use Rattle.std.specs.Option.{option_map, option_map_or}
use Rattle.shape_items.specs.Buffer.{Buffer}
use Rattle.layout_tables.specs.Lookups.{subtable_count_of, subtable_of}
use Rattle.layout_tables.specs.declared.lookups.LookupSubtable.{LookupSubtable}
use Rattle.layout_matching.specs.declared.lookup.Lookup.{Lookup}
use Rattle.layout_substitution.specs.Applied.{Applied, unapplied, put_one, single_applied, is_random, next_random, random_put, random_applied, value_of, alternate_applied, taken_away, deleted, glyphs_put, sequence_put, multiple_applied}
use Rattle.layout_substitution.specs.Edits.{item_at, is_past, broken, concat_marked}
use Rattle.layout_substitution.specs.Kinds.{kind_applied, subtable_applied, or_else, or_next, subtables_applied, lookup_applied}
use Rattle.layout_substitution.specs.Ligatures.{ligatures_reach, ligature_found, ligature_put, ligature_made, set_ligated, ligature_applied}
use Rattle.layout_substitution.specs.Substitutes.{single_of, set_of, alternate_of, listed_count, listed_at, ligature_glyph, component_count}
use Rattle.layout_substitution.specs.declared.apply.Spot.{Spot}
use Rattle.layout_substitution.specs.declared.ligature.Components.{Components}
use Rattle.layout_substitution.proofs.LeftLemmas.{left_after, subtable-leaves}
use Rattle.layout_context.specs.Stage.{Made, unmade, standing_of, made_of, paid_at, by_subtable, unless_made, by_subtables}

-- where nothing is left it may be another one
abbrev Frees : (Spot → Buffer → Applied) → Type 0
Frees f = (spot : Spot) (b : Buffer) → 0 < spot.left → made_of (f spot b) ≡ made_of (f (paid_at (standing_of spot)) b)

map-frees : {X : Type 0} (f g : X → Applied) (b : Buffer) → ((x : X) → made_of (f x) ≡ made_of (g x)) → (o : Option X)
    → made_of (option_map_or f o (unapplied b)) ≡ made_of (option_map_or g o (unapplied b))
map-frees f g b each None = refl
map-frees f g b each (Some x) = each x

if-frees : (t : Bool) (x y u v : Applied) → made_of x ≡ made_of u → made_of y ≡ made_of v
    → made_of (if t then x else y) ≡ made_of (if t then u else v)
if-frees true x y u v first second = first
if-frees false x y u v first second = second

single-frees : (l : Lookup) (start : ℕ) → Frees (single_applied l start)
single-frees l start spot b some =
    map-frees (put_one l spot b) (put_one l (paid_at (standing_of spot)) b) b (λ glyph. refl)
    (single_of l.table.now start (item_at b spot.at).glyph_id)

random-frees : (l : Lookup) (spot : Spot) (b : Buffer) (set : ℕ) → made_of (random_put l spot b set) ≡ made_of (random_put l (paid_at (standing_of spot)) b set)
random-frees l spot b set = by_count (nat_eq (listed_count l.table.now set) 0)
  where
    glyph : ℕ
    glyph = listed_at l.table.now set (next_random spot.random % listed_count l.table.now set)

    all : Buffer
    all = broken 0 (length b.items) b

    by_count : (t : Bool) → made_of (if t then unapplied b else put_one l (record spot { random = next_random spot.random }) all glyph)
        ≡ made_of (if t then unapplied b else put_one l (record (paid_at (standing_of spot)) { random = next_random spot.random }) all glyph)
    by_count true = refl
    by_count false = refl

alternate-frees : (l : Lookup) (start : ℕ) → Frees (alternate_applied l start)
alternate-frees l start spot b some =
    let item = item_at b spot.at in
    let paid = paid_at (standing_of spot) in
    if-frees (is_random l item) (random_applied l start spot b)
    (option_map_or (put_one l spot b) (alternate_of l.table.now start item.glyph_id (value_of l item)) (unapplied b))
    (random_applied l start paid b)
    (option_map_or (put_one l paid b) (alternate_of l.table.now start item.glyph_id (value_of l item)) (unapplied b))
    (map-frees (random_put l spot b) (random_put l paid b) b (random-frees l spot b) (set_of l.table.now start item.glyph_id))
    (map-frees (put_one l spot b) (put_one l paid b) b (λ glyph. refl) (alternate_of l.table.now start item.glyph_id (value_of l item)))

sequence-frees : (l : Lookup) (spot : Spot) (b : Buffer) → 0 < spot.left → (list : ℕ)
    → made_of (sequence_put l spot b list) ≡ made_of (sequence_put l (paid_at (standing_of spot)) b list)
sequence-frees l spot b some list =
    by_count (nat_eq (listed_count l.table.now list) 0) (nat_eq spot.left 0) (grind (arith, nat_tests, some))
  where
    gone : Spot → Applied
    gone s = taken_away (length b.items - (s.at + 1)) s b

    by_count : (t u : Bool) → u ≡ false
        → made_of (if t then (if u then unapplied b else gone spot) else glyphs_put l spot b list)
        ≡ made_of (if t then gone (paid_at (standing_of spot)) else glyphs_put l (paid_at (standing_of spot)) b list)
    by_count true true never = absurd (let bad : true ≡ false = never in cc)
    by_count true false some = refl
    by_count false u some = refl

made-frees : (l : Lookup) (spot : Spot) (b : Buffer) (m : Components)
    → made_of (ligature_made l spot b m) ≡ made_of (ligature_made l (paid_at (standing_of spot)) b m)
made-frees l spot b m =
    let paid = paid_at (standing_of spot) in
    if-frees (nat_eq (component_count l.table.now m.ligature) 1) (put_one l spot b (ligature_glyph l.table.now m.ligature))
    (ligature_put l spot b m) (put_one l paid b (ligature_glyph l.table.now m.ligature)) (ligature_put l paid b m) refl refl

set-frees : (l : Lookup) (spot : Spot) (b : Buffer) (set : ℕ)
    → made_of (set_ligated l spot b set) ≡ made_of (set_ligated l (paid_at (standing_of spot)) b set)
set-frees l spot b set =
    let marked = concat_marked (ligatures_reach l b spot.at set) b in
    map-frees (ligature_made l spot marked) (ligature_made l (paid_at (standing_of spot)) marked) marked (made-frees l spot marked)
    (ligature_found l marked spot.at set)

kind-frees : (l : Lookup) (spot : Spot) (b : Buffer) → 0 < spot.left → (subtable : LookupSubtable)
    → made_of (kind_applied l spot b subtable) ≡ made_of (kind_applied l (paid_at (standing_of spot)) b subtable)
kind-frees l spot b some subtable =
    let start = subtable.start in
    let paid = paid_at (standing_of spot) in
    let sets = set_of l.table.now start (item_at b spot.at).glyph_id in
    if-frees (nat_eq subtable.kind 1) (single_applied l start spot b) _ (single_applied l start paid b) _ (single-frees l start spot b some)
    (if-frees (nat_eq subtable.kind 2) (multiple_applied l start spot b) _ (multiple_applied l start paid b) _
    (map-frees (sequence_put l spot b) (sequence_put l paid b) b (sequence-frees l spot b some) sets)
    (if-frees (nat_eq subtable.kind 3) (alternate_applied l start spot b) _ (alternate_applied l start paid b) _
    (alternate-frees l start spot b some)
    (if-frees (nat_eq subtable.kind 4) (ligature_applied l start spot b) (unapplied b) (ligature_applied l start paid b) (unapplied b)
    (map-frees (set_ligated l spot b) (set_ligated l paid b) b (set-frees l spot b) sets) refl)))

pub subtable-frees : (l : Lookup) (i : ℕ) (spot : Spot) (b : Buffer) → 0 < spot.left
    → made_of (subtable_applied l i spot b) ≡ by_subtable l i (standing_of spot) b
subtable-frees l i spot b some =
    map-frees (kind_applied l spot b) (kind_applied l (paid_at (standing_of spot)) b) b (kind-frees l spot b some)
    (subtable_of l.table.now 7 l.place i)

-- ---- a lookup: its first subtable that applies

subtables-frees : (l : Lookup) (spot : Spot) → 0 < spot.left → (n i : ℕ) (b : Buffer)
    → is_past (subtables_applied l spot n i b).buffer ≡ false
    → made_of (subtables_applied l spot n i b) ≡ by_subtables l (standing_of spot) n i b
subtables-frees l spot some zero i b within = refl
subtables-frees l spot some (suc n) i b within =
    by_past (subtables-frees l spot some n (suc i) (subtable_applied l i spot b).buffer) (is_past made.buffer) refl within ∙ ap (unless_made (by_subtables l (standing_of spot) n (suc i))) (subtable-frees l i spot b some)
  where
    made : Applied
    made = subtable_applied l i spot b

    later : Buffer → Applied
    later = subtables_applied l spot n (suc i)

    Below : Type 0
    Below = is_past (later made.buffer).buffer ≡ false
        → made_of (later made.buffer) ≡ by_subtables l (standing_of spot) n (suc i) made.buffer

    by_next : Below → (o : Option Spot) → is_past (or_else later made o).buffer ≡ false
        → (o ≡ None → is_past (later made.buffer).buffer ≡ false)
        → made.next ≡ o
        → made_of (or_else later made o) ≡ unless_made (by_subtables l (standing_of spot) n (suc i)) (made_of made)
    by_next rest None fits below is =
        rest (below refl)
        ∙ sym (ap (λ (p : Option Spot). if is_some (option_map standing_of p) then made_of made
        else by_subtables l (standing_of spot) n (suc i) made.buffer) is)
    by_next rest (Some next) fits below is =
        sym (ap (λ (p : Option Spot). if is_some (option_map standing_of p) then made_of made
        else by_subtables l (standing_of spot) n (suc i) made.buffer) is)

    by_past : Below → (t : Bool) → is_past made.buffer ≡ t → is_past (if t then made else or_else later made made.next).buffer ≡ false
        → made_of (if t then made else or_else later made made.next) ≡ unless_made (by_subtables l (standing_of spot) n (suc i)) (made_of made)
    by_past rest true past fits = absurd (let bad : true ≡ false = sym past ∙ fits in cc)
    by_past rest false past fits = by_next rest made.next fits (λ none. sym (ap (λ o. is_past (or_else later made o).buffer) none) ∙ fits) refl

pub lookup-frees : (l : Lookup) (spot : Spot) → 0 < spot.left → (b : Buffer) → is_past (lookup_applied l spot b).buffer ≡ false
    → made_of (lookup_applied l spot b) ≡ by_subtables l (standing_of spot) (subtable_count_of l.table.now l.place) 0 b
lookup-frees l spot some b within = subtables-frees l spot some (subtable_count_of l.table.now l.place) 0 b within
