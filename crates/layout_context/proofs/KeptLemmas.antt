-- a lookup that isn't applied at a place leaves the buffer as it was, unless marks are asked for of what it looked at in vain
use Prim.Native.Nat.{zero}
use Rattle.std.proofs.Common.{◌≡◌, ℕ, suc, ◌+◌, ◌-◌, ◌%◌, Bool, true, false, Option, Some, None, is_some, length, nat_eq, refl, sym, ap, subst, ◌∙◌, if◌then◌else◌}
use Rattle.std.specs.Option.{option_map_or}
use Rattle.shape_items.specs.Buffer.{Buffer}
use Rattle.layout_tables.specs.Lookups.{subtable_count_of, subtable_of}
use Rattle.layout_tables.specs.declared.lookups.LookupSubtable.{LookupSubtable}
use Rattle.layout_matching.specs.Found.{is_context, found_of}
use Rattle.layout_matching.specs.Tried.{reach_of}
use Rattle.layout_matching.specs.declared.found.Found.{Found}
use Rattle.layout_matching.specs.declared.lookup.Lookup.{Lookup}
use Rattle.layout_substitution.specs.Applied.{Applied, unapplied, put_one, single_applied, is_random, next_random, random_put, random_applied, value_of}
use Rattle.layout_substitution.specs.Applied.{alternate_applied, taken_away, deleted, glyphs_put, sequence_put, multiple_applied}
use Rattle.layout_substitution.specs.Edits.{asks_for_concat, item_at, is_inside, is_past, broken, concat_marked}
use Rattle.layout_substitution.specs.Kinds.{kind_applied, subtable_applied, or_else, subtables_applied, lookup_applied}
use Rattle.layout_substitution.specs.Ligatures.{ligatures_reach, ligature_found, ligature_put, ligature_made, set_ligated, ligature_applied}
use Rattle.layout_substitution.specs.Substitutes.{single_of, set_of, alternate_of, listed_count, listed_at, ligature_glyph, component_count}
use Rattle.layout_substitution.specs.declared.apply.Spot.{Spot}
use Rattle.layout_substitution.specs.declared.ligature.Components.{Components}
use Rattle.layout_substitution.proofs.EditLemmas.{concat_marked_unasked}
use Rattle.layout_context.specs.Nested.{Attempt, attempt_by, place_attempt, place_charged, origin_of}
use Rattle.layout_context.specs.Nested.{rule_applied, tried_marked, first_rule_applied, level_applied, nested_applied}
use Rattle.layout_context.specs.declared.nested.Tried.{Tried}

abbrev Keeps : Buffer → Applied → Type 0
Keeps b made = is_some made.next ≡ false → made.buffer ≡ b

never : {P : Type 0} → true ≡ false → P
never e = absurd (let bad : true ≡ false = e in cc)

keeps-or : {X : Type 0} (b : Buffer) (f : X → Applied) → ((x : X) → Keeps b (f x)) → (o : Option X) → Keeps b (option_map_or f o (unapplied b))
keeps-or b f each None = λ e. refl
keeps-or b f each (Some x) = each x

keeps-if : (b : Buffer) (t : Bool) (x y : Applied) → Keeps b x → Keeps b y → Keeps b (if t then x else y)
keeps-if b true x y first second = first
keeps-if b false x y first second = second

-- ---- one subtable

put-keeps : (l : Lookup) (spot : Spot) (b c : Buffer) (glyph : ℕ) → Keeps b (put_one l spot c glyph)
put-keeps l spot b c glyph = λ e. never e

random-keeps : (l : Lookup) (spot : Spot) (b : Buffer) (set : ℕ) → Keeps b (random_put l spot b set)
random-keeps l spot b set =
    let count = listed_count l.table.now set in
    let next : Spot = record spot { random = next_random spot.random } in
    let glyph = listed_at l.table.now set (next_random spot.random % count) in
    keeps-if b (nat_eq count 0) (unapplied b) (put_one l next (broken 0 (length b.items) b) glyph) (λ e. refl)
    (put-keeps l next b (broken 0 (length b.items) b) glyph)

alternate-keeps : (l : Lookup) (start : ℕ) (spot : Spot) (b : Buffer) → Keeps b (alternate_applied l start spot b)
alternate-keeps l start spot b =
    let item = item_at b spot.at in
    let alternate = alternate_of l.table.now start item.glyph_id (value_of l item) in
    keeps-if b (is_random l item) (random_applied l start spot b) (option_map_or (put_one l spot b) alternate (unapplied b))
    (keeps-or b (random_put l spot b) (random-keeps l spot b) (set_of l.table.now start item.glyph_id))
    (keeps-or b (put_one l spot b) (put-keeps l spot b b) alternate)

deleted-keeps : (spot : Spot) (b : Buffer) → Keeps b (deleted spot b)
deleted-keeps spot b =
    keeps-if b (nat_eq spot.left 0) (unapplied b) (taken_away (length b.items - (spot.at + 1)) spot b) (λ e. refl) (λ e. never e)

sequence-keeps : (l : Lookup) (spot : Spot) (b : Buffer) (list : ℕ) → Keeps b (sequence_put l spot b list)
sequence-keeps l spot b list =
    keeps-if b (nat_eq (listed_count l.table.now list) 0) (deleted spot b) (glyphs_put l spot b list) (deleted-keeps spot b) (λ e. never e)

made-keeps : (l : Lookup) (spot : Spot) (b c : Buffer) (m : Components) → Keeps b (ligature_made l spot c m)
made-keeps l spot b c m =
    let glyph = ligature_glyph l.table.now m.ligature in
    keeps-if b (nat_eq (component_count l.table.now m.ligature) 1) (put_one l spot c glyph) (ligature_put l spot c m)
    (put-keeps l spot b c glyph) (λ e. never e)

set-keeps : (l : Lookup) (spot : Spot) (b : Buffer) → asks_for_concat b ≡ false → (set : ℕ) → Keeps b (set_ligated l spot b set)
set-keeps l spot b unasked set = by_found (ligature_found l marked spot.at set)
  where
    marked : Buffer
    marked = concat_marked (ligatures_reach l b spot.at set) b

    by_found : (o : Option Components) → Keeps b (option_map_or (ligature_made l spot marked) o (unapplied marked))
    by_found None = λ e. concat_marked_unasked (ligatures_reach l b spot.at set) b unasked
    by_found (Some m) = made-keeps l spot b marked m

kind-keeps : (l : Lookup) (spot : Spot) (b : Buffer) → asks_for_concat b ≡ false → (subtable : LookupSubtable)
    → Keeps b (kind_applied l spot b subtable)
kind-keeps l spot b unasked subtable =
    let start = subtable.start in
    let glyph = (item_at b spot.at).glyph_id in
    keeps-if b (nat_eq subtable.kind 1) (single_applied l start spot b) _
    (keeps-or b (put_one l spot b) (put-keeps l spot b b) (single_of l.table.now start glyph))
    (keeps-if b (nat_eq subtable.kind 2) (multiple_applied l start spot b) _
    (keeps-or b (sequence_put l spot b) (sequence-keeps l spot b) (set_of l.table.now start glyph))
    (keeps-if b (nat_eq subtable.kind 3) (alternate_applied l start spot b) _ (alternate-keeps l start spot b)
    (keeps-if b (nat_eq subtable.kind 4) (ligature_applied l start spot b) (unapplied b)
    (keeps-or b (set_ligated l spot b) (set-keeps l spot b unasked) (set_of l.table.now start glyph)) (λ e. refl))))

-- ---- a lookup

subtables-keeps : (l : Lookup) (spot : Spot) (n i : ℕ) (b : Buffer) → asks_for_concat b ≡ false → Keeps b (subtables_applied l spot n i b)
subtables-keeps l spot zero i b unasked = λ e. refl
subtables-keeps l spot (suc n) i b unasked =
    by_past (is_past made.buffer) made
    (keeps-or b (kind_applied l spot b) (kind-keeps l spot b unasked) (subtable_of l.table.now 7 l.place i))
    (subtables-keeps l spot n (suc i) b unasked)
  where
    made : Applied
    made = subtable_applied l i spot b

    by_next : (c : Buffer) (o : Option Spot) → Keeps b (record { buffer = c; next = o }) → Keeps b (subtables_applied l spot n (suc i) b)
        → Keeps b (or_else (subtables_applied l spot n (suc i)) (record { buffer = c; next = o }) o)
    by_next c None first later =
        subst (λ (d : Buffer). Keeps b (subtables_applied l spot n (suc i) d)) (sym (first refl)) later
    by_next c (Some next) first later = first

    by_past : (t : Bool) (a : Applied) → Keeps b a → Keeps b (subtables_applied l spot n (suc i) b)
        → Keeps b (if t then a else or_else (subtables_applied l spot n (suc i)) a a.next)
    by_past true a first later = first
    by_past false a first later = by_next a.buffer a.next first later

level-keeps : (next : Lookup → Spot → Buffer → Applied) (l : Lookup) (spot : Spot) (b : Buffer) → asks_for_concat b ≡ false
    → Keeps b (level_applied next l spot b)
level-keeps next l spot b unasked =
    keeps-if b (is_context l) (first_rule_applied next l spot marked) (lookup_applied l spot b)
    (by_found (found_of l marked.items (origin_of spot marked)))
    (subtables-keeps l spot (subtable_count_of l.table.now l.place) 0 b unasked)
  where
    marked : Buffer
    marked = tried_marked l spot b

    by_found : (o : Option Found) → Keeps b (option_map_or (rule_applied next l spot marked) o (unapplied marked))
    by_found None = λ e. concat_marked_unasked (reach_of l b.items (origin_of spot b)) b unasked
    by_found (Some found) = λ e. never e

nested-keeps : (level : ℕ) (l : Lookup) (spot : Spot) (b : Buffer) → asks_for_concat b ≡ false → Keeps b (nested_applied level l spot b)
nested-keeps zero l spot b unasked = λ e. refl
nested-keeps (suc level) l spot b unasked =
    keeps-if b (is_past b) (unapplied b) _ (λ e. refl)
    (keeps-if b (is_inside spot.at b) (level_applied (nested_applied level) l spot b) (unapplied b)
    (level-keeps (nested_applied level) l spot b unasked) (λ e. refl))

-- ---- at a place of a walk

pub attempt_unpaid : (level : ℕ) (l : Lookup) (spot : Spot) (b c : Buffer)
    → record { buffer = c; tried = None } ≡ place_attempt level l spot b → c ≡ b
attempt_unpaid level l spot b c is = by_charge (place_charged l b.items (origin_of spot b) spot.left) is
  where
    by_charge : (o : Option ℕ) → record { buffer = c; tried = None } ≡ attempt_by level l spot b o → c ≡ b
    by_charge None e = ap (λ (a : Attempt). a.buffer) e
    by_charge (Some left) e = never (sym (ap (λ (a : Attempt). is_some a.tried) e))

pub attempt_kept : (level : ℕ) (l : Lookup) (spot : Spot) (b c : Buffer) (o : Option Tried) (t : Tried)
    → record { buffer = c; tried = o } ≡ place_attempt level l spot b → o ≡ Some t → t.next ≡ None → asks_for_concat b ≡ false → c ≡ b
attempt_kept level l spot b c o t is some none unasked =
    by_charge (place_charged l b.items (origin_of spot b) spot.left)
    (subst (λ (p : Option Tried). record { buffer = c; tried = p } ≡ place_attempt level l spot b) some is)
  where
    by_charge : (charge : Option ℕ) → record { buffer = c; tried = Some t } ≡ attempt_by level l spot b charge → c ≡ b
    by_charge None e = never (ap (λ (a : Attempt). is_some a.tried) e)
    by_charge (Some left) e =
        let there : Spot = record spot { left = left } in
        let next : t.next ≡ (nested_applied level l there b).next = ap (λ (a : Attempt). option_map_or (λ (u : Tried). u.next) a.tried None) e in
        ap (λ (a : Attempt). a.buffer) e ∙ nested-keeps level l there b unasked (ap is_some (sym next ∙ none))
