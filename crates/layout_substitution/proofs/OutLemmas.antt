-- a subtable that doesn't begin at the glyph of a place isn't applied there
use Rattle.std.proofs.Common.{◌≡◌, ℕ, ◌<◌, Bool, true, false, List, Option, Some, None, is_some, nat_eq, refl, ap, ◌∙◌, subst, arith, if◌then◌else◌, ◌||◌}
use Rattle.std.proofs.lemmas.Bool.Decides.{nat_tests}
use Rattle.std.specs.Option.{option_and_then, option_map_or}
use Rattle.shape_font.specs.Bytes.{u16_of}
use Rattle.shape_items.specs.Buffer.{Buffer}
use Rattle.layout_tables.specs.Lookups.{subtable_of}
use Rattle.layout_tables.specs.declared.lookups.LookupSubtable.{LookupSubtable}
use Rattle.layout_matching.specs.Firsts.{begins, IsOut}
use Rattle.layout_matching.specs.Found.{is_context_subtable, is_chained, whole_rule, is_first, number_of}
use Rattle.layout_matching.specs.declared.lookup.Lookup.{Lookup}
use Rattle.layout_substitution.specs.Applied.{unapplied, put_one, single_applied, value_of, is_random, random_put, random_applied, alternate_applied, sequence_put, multiple_applied}
use Rattle.layout_substitution.specs.Edits.{item_at}
use Rattle.layout_substitution.specs.Kinds.{kind_applied, subtable_applied}
use Rattle.layout_substitution.specs.Ligatures.{set_ligated, ligature_applied}
use Rattle.layout_substitution.specs.Substitutes.{single_by, set_number, set_of, alternate_in}
use Rattle.layout_substitution.specs.declared.apply.Spot.{Spot}

none_of : {A : Type 0} (o : Option A) → is_some o ≡ false → o ≡ None
none_of None e = refl
none_of (Some x) e = cc

and_then_none : {A B : Type 0} (f : A → Option B) (o : Option A) → o ≡ None → option_and_then f o ≡ None
and_then_none f o e = ap (option_and_then f) e

map_or_none : {A B : Type 0} (f : A → B) (d : B) (o : Option A) → o ≡ None → option_map_or f o d ≡ d
map_or_none f d o e = ap (λ p. option_map_or f p d) e

if_same : {A : Type 0} (t : Bool) (x y z : A) → x ≡ z → y ≡ z → (if t then x else y) ≡ z
if_same true x y z a b = a
if_same false x y z a b = b

set_none : (t : List ℕ) (start glyph : ℕ) → number_of t start glyph ≡ None → set_of t start glyph ≡ None
set_none t start glyph e = if_same (nat_eq (u16_of t start) 1) _ _ None (and_then_none (set_number t start) _ e) refl

kind-uncovered : (l : Lookup) (spot : Spot) (b : Buffer) (subtable : LookupSubtable)
    → number_of l.table.now subtable.start (item_at b spot.at).glyph_id ≡ None → kind_applied l spot b subtable ≡ unapplied b
kind-uncovered l spot b subtable none =
    let glyph = (item_at b spot.at).glyph_id in
    let t = l.table.now in
    let set = set_none t subtable.start glyph none in
    if_same (nat_eq subtable.kind 1) (single_applied l subtable.start spot b) _ (unapplied b)
    (map_or_none (put_one l spot b) (unapplied b) _ (and_then_none (single_by t subtable.start glyph) _ none))
    (if_same (nat_eq subtable.kind 2) (multiple_applied l subtable.start spot b) _ (unapplied b)
    (map_or_none (sequence_put l spot b) (unapplied b) _ set)
    (if_same (nat_eq subtable.kind 3) (alternate_applied l subtable.start spot b) _ (unapplied b)
    (if_same (is_random l (item_at b spot.at)) (random_applied l subtable.start spot b) _ (unapplied b)
    (map_or_none (random_put l spot b) (unapplied b) _ set)
    (map_or_none (put_one l spot b) (unapplied b) _ (and_then_none (alternate_in t (value_of l (item_at b spot.at))) _ set)))
    (if_same (nat_eq subtable.kind 4) (ligature_applied l subtable.start spot b) _ (unapplied b)
    (map_or_none (set_ligated l spot b) (unapplied b) _ set) refl)))

-- a subtable of context has none of the kinds below 5
not_kind : (l : Lookup) (subtable : LookupSubtable) (n : ℕ) → l.positioning ≡ false → is_context_subtable l subtable ≡ true → n < 5
    → nat_eq subtable.kind n ≡ false
not_kind l subtable n gsub is few =
    let kinds : (nat_eq subtable.kind 5 || nat_eq subtable.kind 6) ≡ true =
    subst (λ t. (nat_eq subtable.kind (if t then 7 else 5) || nat_eq subtable.kind (if t then 8 else 6)) ≡ true) gsub is in
    grind (arith, nat_tests, kinds, few)

kind-context : (l : Lookup) (spot : Spot) (b : Buffer) (subtable : LookupSubtable) → l.positioning ≡ false → is_context_subtable l subtable ≡ true
    → kind_applied l spot b subtable ≡ unapplied b
kind-context l spot b subtable gsub is =
    let one = not_kind l subtable 1 gsub is (omega arith) in
    let two = not_kind l subtable 2 gsub is (omega arith) in
    let three = not_kind l subtable 3 gsub is (omega arith) in
    let four = not_kind l subtable 4 gsub is (omega arith) in
    rw one (rw two (rw three (rw four refl)))

kind_out : (l : Lookup) (spot : Spot) (b : Buffer) (subtable : LookupSubtable) → l.positioning ≡ false
    → begins l subtable (item_at b spot.at).glyph_id ≡ false → kind_applied l spot b subtable ≡ unapplied b
kind_out l spot b subtable gsub out = by_kind (is_context_subtable l subtable) refl
  where
    glyph : ℕ
    glyph = (item_at b spot.at).glyph_id

    by_kind : (t : Bool) → is_context_subtable l subtable ≡ t → kind_applied l spot b subtable ≡ unapplied b
    by_kind true is = kind-context l spot b subtable gsub is
    by_kind false is = kind-uncovered l spot b subtable (none_of (number_of l.table.now subtable.start glyph)
        (subst (λ t. (if t then (if nat_eq (u16_of l.table.now subtable.start) 3
        then is_first l.table.now subtable.start (whole_rule l.table.now (is_chained l subtable) subtable.start) glyph
        else is_some (number_of l.table.now subtable.start glyph)) else is_some (number_of l.table.now subtable.start glyph)) ≡ false) is out))

pub subtable_out : (l : Lookup) (i : ℕ) (spot : Spot) (b : Buffer) → l.positioning ≡ false → IsOut l i (item_at b spot.at).glyph_id
    → subtable_applied l i spot b ≡ unapplied b
subtable_out l i spot b gsub out = by_subtable (subtable_of l.table.now 7 l.place i) refl
  where
    by_subtable : (o : Option LookupSubtable) → subtable_of l.table.now 7 l.place i ≡ o
        → option_map_or (kind_applied l spot b) o (unapplied b) ≡ unapplied b
    by_subtable None e = refl
    by_subtable (Some subtable) e =
        let there = ap (λ t. subtable_of l.table.now (if t then 9 else 7) l.place i) gsub ∙ e in
        kind_out l spot b subtable gsub (out subtable there)
