-- a lookup of kinds 1 to 4 tries no more than it is charged for
use Prim.Native.Nat.{zero}
use Rattle.std.proofs.Common.{◌≡◌, ℕ, suc, ◌<◌, ◌≤◌, ◌+◌, ◌-◌, ◌*◌, ◌&&◌, ◌||◌, not, Bool, true, false, List, Option, Some, None, is_some, nat_eq, nat_lt, refl, sym, ap, ◌∙◌, subst, arith, if◌then◌else◌}
use Rattle.std.proofs.lemmas.Bool.Decides.{nat_tests}
use Rattle.std.specs.Option.{option_and_then, option_map_or}
use Rattle.shape_font.specs.Bytes.{u16_of, fitting}
use Rattle.shape_items.specs.Buffer.{Buffer}
use Rattle.shape_items.specs.Items.{Item}
use Rattle.layout_tables.specs.Lookups.{lookup_type_of, subtable_count_of, resolved, subtable_of}
use Rattle.layout_tables.specs.Offsets.{offset16_of}
use Rattle.layout_tables.specs.declared.lookups.LookupSubtable.{LookupSubtable}
use Rattle.layout_matching.specs.Found.{is_context, is_context_subtable, is_chained, set_for, number_of}
use Rattle.layout_matching.specs.Loops.{steps}
use Rattle.layout_matching.specs.Rules.{rules_at}
use Rattle.layout_matching.specs.Skipping.{nth}
use Rattle.layout_matching.specs.Work.{is_ligature, is_backward, is_whole, parts_for, numbered_charged, whole_charged, subtable_charged, charged_at_subtable, subtables_charged, is_plain, is_paid, lookup_charged}
use Rattle.layout_matching.specs.declared.lookup.Lookup.{Lookup}
use Rattle.layout_matching.proofs.ChargeLemmas.{clash, stays, steps-lessen, subtable_charged-lessens, charged_at-lessens}
use Rattle.layout_matching.proofs.TriesLemmas.{to-first-few, rules_if, numbered-pays}
use Rattle.layout_substitution.specs.Applied.{Applied}
use Rattle.layout_substitution.specs.Edits.{item_at, is_past}
use Rattle.layout_substitution.specs.Kinds.{subtable_applied}
use Rattle.layout_substitution.specs.Ligatures.{ligature_in}
use Rattle.layout_substitution.specs.Substitutes.{set_number, set_of, listed_count}
use Rattle.layout_substitution.specs.Tries.{ligatures_of_set, ligatures_of, ligatures_at, counted_after, counted_subtables, each_subtable, subtables_asked, ligatures_tried}
use Rattle.layout_substitution.specs.declared.apply.Spot.{Spot}
use Rattle.layout_substitution.proofs.LeftLemmas.{subtable-leaves}

-- ---- subtables

subtables-few : (l : Lookup) (spot : Spot) (n i : ℕ) (b : Buffer) → counted_subtables each_subtable l spot n i b ≤ n
subtables-few l spot zero i b = omega arith
subtables-few l spot (suc n) i b =
    by_next (is_past (subtable_applied l i spot b).buffer || is_some (subtable_applied l i spot b).next)
    (subtables-few l spot n (suc i) (subtable_applied l i spot b).buffer)
  where
    by_next : (t : Bool) → counted_subtables each_subtable l spot n (suc i) (subtable_applied l i spot b).buffer ≤ n
        → 1 + (if t then 0 else counted_subtables each_subtable l spot n (suc i) (subtable_applied l i spot b).buffer) ≤ suc n
    by_next true few = omega arith
    by_next false few = omega (arith, few)

pub asked-few : (l : Lookup) (spot : Spot) (b : Buffer) → subtables_asked l spot b ≤ subtable_count_of l.table.now l.place
asked-few l spot b = subtables-few l spot (subtable_count_of l.table.now l.place) 0 b

-- ---- ligatures

-- the set of a glyph is the one that is charged for
set-same : (t : List ℕ) (start : ℕ) (number : ℕ) → rules_at t start 4 number ≡ set_number t start number
set-same t start number =
    let head : start + 4 + 2 ≡ start + 6 = omega arith in
    ap (λ (place : ℕ). if nat_lt number (fitting t (u16_of t (start + 4)) place 2) then offset16_of t start (place + 2 * number) else None) head

module _ (l : Lookup) (gsub : l.positioning ≡ false) (items : List Item) (at : ℕ) where
  -- a subtable of ligatures looks for no context, and not backwards
  record IsPlainLigature (subtable : LookupSubtable) : Type 0 where
    context : is_context_subtable l subtable ≡ false
    ligature : is_ligature l subtable ≡ true
    forward : is_backward l subtable ≡ false

  plain-ligature : (subtable : LookupSubtable) → nat_eq subtable.kind 4 ≡ true → IsPlainLigature subtable
  plain-ligature subtable is = record {
    context = ap (λ t. nat_eq subtable.kind (if t then 7 else 5) || nat_eq subtable.kind (if t then 8 else 6)) gsub
        ∙ (let kind : (nat_eq subtable.kind 5 || nat_eq subtable.kind 6) ≡ false = grind (arith, nat_tests, is) in kind);
    ligature = ap (λ t. not t && nat_eq subtable.kind 4) gsub ∙ is;
    forward = ap (λ t. not t && nat_eq subtable.kind 8) gsub
        ∙ (let kind : nat_eq subtable.kind 8 ≡ false = grind (arith, nat_tests, is) in kind);
  }

  abbrev glyph : ℕ
  glyph = (nth items at).glyph_id

  parts-same : (subtable : LookupSubtable) (number : ℕ) → IsPlainLigature subtable
      → parts_for l subtable glyph number ≡ set_number l.table.now subtable.start number
  parts-same subtable number plain =
      ap (λ t. if t then set_for l.table.now (is_chained l subtable) subtable.start glyph number
      else (if is_ligature l subtable then rules_at l.table.now subtable.start 4 number else None)) plain.context
      ∙ ap (λ t. if t then rules_at l.table.now subtable.start 4 number else None) plain.ligature
      ∙ set-same l.table.now subtable.start number

  set-few : (b : Buffer) (o : Option ℕ) → option_map_or (ligatures_of_set l b at) o 0 ≤ rules_if l o
  set-few b None = omega arith
  set-few b (Some set) = to-first-few (ligature_in l b at set) (listed_count l.table.now set) 0

  -- a subtable of ligatures
  ligature-pays : (b : Buffer) (subtable : LookupSubtable) (left rest : ℕ) → nat_eq subtable.kind 4 ≡ true
      → subtable_charged l items at left subtable ≡ Some rest
      → option_map_or (ligatures_of_set l b at) (set_of l.table.now subtable.start glyph) 0 + rest ≤ left
  ligature-pays b subtable left rest kind is =
      by_format (nat_eq (u16_of l.table.now subtable.start) 1) (by_whole (is_context_subtable l subtable) plain.context is)
    where
      plain : IsPlainLigature subtable
      plain = plain-ligature subtable kind

      -- it is charged for by its number
      by_whole : (t : Bool) → t ≡ false
          → (if t && nat_eq (u16_of l.table.now subtable.start) 3 then whole_charged l items at subtable left
          else option_map_or (numbered_charged l items at subtable left) (number_of l.table.now subtable.start glyph) (Some left)) ≡ Some rest
          → option_map_or (numbered_charged l items at subtable left) (number_of l.table.now subtable.start glyph) (Some left) ≡ Some rest
      by_whole true never e = absurd (let bad : true ≡ false = never in cc)
      by_whole false never e = e

      by_number : (o : Option ℕ) → option_map_or (numbered_charged l items at subtable left) o (Some left) ≡ Some rest
          → option_map_or (ligatures_of_set l b at) (option_and_then (set_number l.table.now subtable.start) o) 0 + rest ≤ left
      by_number None e = let same = stays left rest e in omega (arith, same)
      by_number (Some number) e =
          let paid = numbered-pays l items at subtable number left rest plain.forward e in
          let few = set-few b (set_number l.table.now subtable.start number) in
          let same : rules_if l (parts_for l subtable glyph number) ≡ rules_if l (set_number l.table.now subtable.start number) =
          ap (rules_if l) (parts-same subtable number plain) in
          omega (arith, paid, few, same)

      by_format : (t : Bool)
          → option_map_or (numbered_charged l items at subtable left) (number_of l.table.now subtable.start glyph) (Some left) ≡ Some rest
          → option_map_or (ligatures_of_set l b at)
          (if t then option_and_then (set_number l.table.now subtable.start) (number_of l.table.now subtable.start glyph) else None) 0
          + rest ≤ left
      by_format true e = by_number (number_of l.table.now subtable.start glyph) e
      by_format false e = let less = subtable_charged-lessens l items at subtable left rest is in omega (arith, less)

  -- any of the lookup's, in a list that has the same glyph at the place
  at-pays : (b : Buffer) → (item_at b at).glyph_id ≡ glyph → (i left rest : ℕ) → charged_at_subtable l items at i left ≡ Some rest
      → ligatures_at l at i b + rest ≤ left
  at-pays b same i left rest is = by_table l.positioning gsub is
    where
      by_kind : (subtable : LookupSubtable) (t : Bool) → nat_eq subtable.kind 4 ≡ t → subtable_charged l items at left subtable ≡ Some rest
          → (if t then option_map_or (ligatures_of_set l b at) (set_of l.table.now subtable.start glyph) 0 else 0) + rest ≤ left
      by_kind subtable true kind e = ligature-pays b subtable left rest kind e
      by_kind subtable false kind e = let less = subtable_charged-lessens l items at subtable left rest e in omega (arith, less)

      by_subtable : (o : Option LookupSubtable) → option_map_or (subtable_charged l items at left) o (Some left) ≡ Some rest
          → option_map_or (ligatures_of l b at) o 0 + rest ≤ left
      by_subtable None e = let here = stays left rest e in omega (arith, here)
      by_subtable (Some subtable) e =
          let paid = by_kind subtable (nat_eq subtable.kind 4) refl e in
          subst (λ g. (if nat_eq subtable.kind 4 then option_map_or (ligatures_of_set l b at) (set_of l.table.now subtable.start g) 0
          else 0) + rest ≤ left) (sym same) paid

      by_table : (t : Bool) → t ≡ false
          → option_map_or (subtable_charged l items at left) (subtable_of l.table.now (if t then 9 else 7) l.place i) (Some left) ≡ Some rest
          → ligatures_at l at i b + rest ≤ left
      by_table true never e = absurd (let bad : true ≡ false = never in cc)
      by_table false never e = by_subtable (subtable_of l.table.now 7 l.place i) e

  -- those up to the first that applies
  tried-pays : (spot : Spot) → spot.at ≡ at → (n i : ℕ) (b : Buffer) → (item_at b at).glyph_id ≡ glyph → (left rest : ℕ)
      → steps (charged_at_subtable l items at) n i left ≡ Some rest → counted_subtables (ligatures_at l at) l spot n i b + rest ≤ left
  tried-pays spot there zero i b same left rest is = let here = stays left rest is in omega (arith, here)
  tried-pays spot there (suc n) i b same left rest is =
      by_step (λ mid none. tried-pays spot there n (suc i) (subtable_applied l i spot b).buffer
      (subst (λ k. (item_at (subtable_applied l i spot b).buffer k).glyph_id ≡ (item_at b k).glyph_id) there
      ((subtable-leaves l i spot b).glyph none) ∙ same) mid rest)
      (charged_at_subtable l items at i left) (at-pays b same i left) is
    where
      made : Applied
      made = subtable_applied l i spot b

      by_past : (t u : Bool) (mid : ℕ) → ligatures_at l at i b + mid ≤ left
          → (u ≡ false → counted_subtables (ligatures_at l at) l spot n (suc i) made.buffer + rest ≤ mid) → rest ≤ mid
          → ligatures_at l at i b + (if t || u then 0 else counted_subtables (ligatures_at l at) l spot n (suc i) made.buffer) + rest ≤ left
      by_past true u mid first later less = omega (arith, first, less)
      by_past false true mid first later less = omega (arith, first, less)
      by_past false false mid first later less = let more = later refl in omega (arith, first, more)

      by_step : ((mid : ℕ) → is_some made.next ≡ false → steps (charged_at_subtable l items at) n (suc i) mid ≡ Some rest
          → counted_subtables (ligatures_at l at) l spot n (suc i) made.buffer + rest ≤ mid)
          → (o : Option ℕ) → ((mid : ℕ) → o ≡ Some mid → ligatures_at l at i b + mid ≤ left)
          → option_and_then (steps (charged_at_subtable l items at) n (suc i)) o ≡ Some rest
          → ligatures_at l at i b + counted_after (counted_subtables (ligatures_at l at) l spot n (suc i)) made + rest ≤ left
      by_step later None first e = clash rest e
      by_step later (Some mid) first e =
          by_past (is_past made.buffer) (is_some made.next) mid (first mid refl) (λ none. later mid none e)
          (steps-lessen (λ m. m) (charged_at_subtable l items at) (λ k. charged_at-lessens l items at k) n (suc i) mid rest e)

-- what a lookup is charged for at a place pays for the ligatures that it tries there
pub ligatures-pay : (l : Lookup) → l.positioning ≡ false → (spot : Spot) (b : Buffer) (left rest : ℕ)
    → subtables_charged l b.items spot.at left ≡ Some rest → ligatures_tried l spot b + rest ≤ left
ligatures-pay l gsub spot b left rest is =
    tried-pays l gsub b.items spot.at spot refl (subtable_count_of l.table.now l.place) 0 b refl left rest is

-- ---- lookups that have no ligature

none-tried : (l : Lookup) (at : ℕ) → ((i : ℕ) (b : Buffer) → ligatures_at l at i b ≡ 0) → (spot : Spot) (n i : ℕ) (b : Buffer)
    → counted_subtables (ligatures_at l at) l spot n i b ≡ 0
none-tried l at none spot zero i b = refl
none-tried l at none spot (suc n) i b =
    by_next (is_past (subtable_applied l i spot b).buffer || is_some (subtable_applied l i spot b).next)
    (none-tried l at none spot n (suc i) (subtable_applied l i spot b).buffer)
  where
    by_next : (t : Bool) → counted_subtables (ligatures_at l at) l spot n (suc i) (subtable_applied l i spot b).buffer ≡ 0
        → ligatures_at l at i b + (if t then 0 else counted_subtables (ligatures_at l at) l spot n (suc i) (subtable_applied l i spot b).buffer) ≡ 0
    by_next true rest = let here = none i b in omega (arith, here)
    by_next false rest = let here = none i b in omega (arith, here, rest)

-- by its type
type-none : (l : Lookup) (at : ℕ) → lookup_type_of l.table.now l.place < 4 → (i : ℕ) (b : Buffer) → ligatures_at l at i b ≡ 0
type-none l at least i b = by_offset (offset16_of l.table.now l.place (l.place + 6 + 2 * i))
  where
    type : ℕ
    type = lookup_type_of l.table.now l.place

    far : nat_eq type 7 ≡ false
    far = grind (arith, nat_tests, least)

    other : nat_eq type 4 ≡ false
    other = grind (arith, nat_tests, least)

    by_offset : (o : Option ℕ) → option_map_or (ligatures_of l b at) (option_and_then (resolved l.table.now 7 type) o) 0 ≡ 0
    by_offset None = refl
    by_offset (Some start) = rw far (rw other refl)

-- a plain lookup has none
pub plain-tries-none : (l : Lookup) → l.positioning ≡ false → is_plain l ≡ true → (spot : Spot) (b : Buffer) → ligatures_tried l spot b ≡ 0
plain-tries-none l gsub plain spot b =
    none-tried l spot.at (type-none l spot.at (by_table l.positioning gsub plain)) spot (subtable_count_of l.table.now l.place) 0 b
  where
    type : ℕ
    type = lookup_type_of l.table.now l.place

    by_table : (t : Bool) → t ≡ false → (if t then not (is_context l) else nat_eq type 1 || nat_eq type 2 || (nat_eq type 3 && not l.random)) ≡ true
        → type < 4
    by_table true never is = absurd (let bad : true ≡ false = never in cc)
    by_table false never is = grind (arith, nat_tests, is)
