-- what glyphs a mark may stand on is the same after a lookup as before it, since flags alone change
use Rattle.std.proofs.Common.{◌≡◌, ℕ, ◌≤◌, ◌+◌, ◌-◌, ◌==◌, ◌&&◌, ◌||◌, not, Bool, true, false, List, map, Option, Some, None, min, length, nat_eq, nat_le, nat_lt, slice_set, refl, sym, ap, ◌∙◌, arith, if◌then◌else◌}
use Rattle.std.proofs.lemmas.Bool.Decides.{nat_tests}
use Rattle.std.proofs.lemmas.Nat.{and_assoc, and_or_apart}
use Rattle.std.specs.Int.RustNames.{bit_and, bit_or}
use Rattle.shape_common.specs.FlagNames.{PRODUCE_UNSAFE_TO_CONCAT, UNSAFE, UNSAFE_TO_CONCAT}
use Rattle.shape_common.specs.declared.positions.GlyphPosition.{GlyphPosition}
use Rattle.shape_items.specs.Buffer.{Buffer}
use Rattle.shape_items.specs.BufferClusters.{unsafe_to_break, unsafe_to_concat, with_glyph_flags}
use Rattle.shape_items.specs.Clusters.{map_range, mark_concat}
use Rattle.shape_items.specs.Items.{Item}
use Rattle.shape_items.proofs.Merging.KeyLemmas.{keys-map_range, keys-unsafe_to_break}
use Rattle.layout_tables.specs.declared.lookups.LookupSubtable.{LookupSubtable}
use Rattle.layout_matching.specs.Skipping.{nth, shares, is_transparent}
use Rattle.layout_matching.specs.declared.lookup.Lookup.{Lookup}
use Rattle.layout_positions.specs.Edits.{position_put, broken, concat_marked}
use Rattle.layout_positions.specs.Marks.{is_base_seen, is_base_at, is_listed_base}
use Rattle.layout_positions.specs.NearestBase.{IsNearestOf}
use Rattle.layout_positions.specs.Stage.{HasNoLaterComponents, LeavesFlags}
use Rattle.layout_positions.specs.Subtables.{Trial, trial_step}
use Rattle.layout_positions.specs.declared.bases.BaseSeen.{BaseSeen}
use Rattle.layout_positions.proofs.GlyphLemmas.{key_by_keys}
use Rattle.layout_positions.proofs.KeyLemmas.{SameKeys}
use Rattle.layout_positions.proofs.StepLemmas.{step-trial}

-- ---- what flags don't change

module _ {B : Type 0} (key : Item → B) (by_break : (item : Item) → key (record item { mask = bit_or item.mask UNSAFE }) ≡ key item)
    (by_concat : (item : Item) → key (record item { mask = bit_or item.mask UNSAFE_TO_CONCAT }) ≡ key item) where
  flags-if : (t : Bool) (b c d : Buffer) → (t ≡ true → SameKeys key b c) → SameKeys key b d → SameKeys key b (if t then c else d)
  flags-if true b c d x y = x refl
  flags-if false b c d x y = y

  pub flags-broken : (start end : ℕ) (b : Buffer) → SameKeys key b (broken start end b)
  flags-broken start end b =
      let last = min end (length b.items) in
      flags-if (nat_le start last) b (unsafe_to_break start last b) b (λ t. keys-unsafe_to_break key by_break start last b) refl

  flags-concat : (start end : ℕ) (b : Buffer) → start ≤ end → SameKeys key b (unsafe_to_concat start end b)
  flags-concat start end b ordered =
      flags-if (bit_and b.flags.0 PRODUCE_UNSAFE_TO_CONCAT == PRODUCE_UNSAFE_TO_CONCAT) b
      (record (with_glyph_flags b) { items = map_range mark_concat start end b.items }) b
      (λ t. keys-map_range key mark_concat by_concat start end b.items ordered) refl

  pub flags-marked : (start end : ℕ) (b : Buffer) → SameKeys key b (concat_marked start end b)
  flags-marked start end b =
      let last = min end (length b.items) in
      flags-if (nat_le start last) b (unsafe_to_concat start last b) b
      (λ t. flags-concat start last b (grind (arith, nat_tests, t))) refl

  flags-put : (i : ℕ) (p : GlyphPosition) (b : Buffer) → SameKeys key b (position_put i p b)
  flags-put i p b = flags-if (nat_lt i (length b.items)) b (record b { positions = slice_set b.positions i p }) b (λ t. refl) refl

  flags-after : (a b c : Buffer) → SameKeys key a b → SameKeys key b c → SameKeys key a c
  flags-after a b c first later = later ∙ first

  pub flags-trial : (l : Lookup) (i : ℕ) (s : Trial) → SameKeys key s.buffer (trial_step l i s).buffer
  flags-trial = step-trial (SameKeys key) (λ b. refl) flags-after flags-broken flags-marked flags-put

-- ---- whether a mark may stand on a glyph

on-same : (l : Lookup) → LeavesFlags l → (item : Item) (flag : ℕ) → bit_and flag l.mask ≡ 0
    → is_base_seen l (record item { mask = bit_or item.mask flag }) ≡ is_base_seen l item
on-same l leaves item flag apart =
    ap (λ n. not (shares item.properties.glyph_class.0 8) && not (is_transparent l true item) && not (nat_eq n 0))
    (and_or_apart l.mask item.mask flag apart)

concat-apart : (n : ℕ) → bit_and UNSAFE n ≡ 0 → bit_and UNSAFE_TO_CONCAT n ≡ 0
concat-apart n apart = and_assoc n UNSAFE_TO_CONCAT UNSAFE ∙ ap (bit_and UNSAFE_TO_CONCAT) apart

pub break-same : (l : Lookup) → LeavesFlags l → (item : Item)
    → is_base_seen l (record item { mask = bit_or item.mask UNSAFE }) ≡ is_base_seen l item
break-same l leaves item = on-same l leaves item UNSAFE leaves

pub concat-same : (l : Lookup) → LeavesFlags l → (item : Item)
    → is_base_seen l (record item { mask = bit_or item.mask UNSAFE_TO_CONCAT }) ≡ is_base_seen l item
concat-same l leaves item = on-same l leaves item UNSAFE_TO_CONCAT (concat-apart l.mask leaves)

abbrev pub IsSight : Lookup → List Item → BaseSeen → Type 0
IsSight l items seen = IsNearestOf (λ j. is_base_seen l (nth items j)) seen.until seen.place

pub nearest-same : (p q : ℕ → Bool) → ((j : ℕ) → p j ≡ q j) → (i : ℕ) (o : Option ℕ) → IsNearestOf p i o → IsNearestOf q i o
nearest-same p q same i None none = λ k less. sym (same k) ∙ none k less
nearest-same p q same i (Some j) near = record {
  before = near.before;
  passes = sym (same j) ∙ near.passes;
  none_between = λ k low high. sym (same k) ∙ near.none_between k low high;
}

-- where no glyph is a later component a subtable takes each glyph that the lookup sees
pub base-at-seen : (l : Lookup) (subtable : LookupSubtable) (items : List Item) → HasNoLaterComponents items → (j : ℕ)
    → is_base_seen l (nth items j) ≡ is_base_at l subtable items j
base-at-seen l subtable items none j =
    by_test (is_base_seen l (nth items j)) (nat_eq subtable.kind 4) (is_listed_base l subtable.start (nth items j))
    ∙ ap (λ t. is_base_seen l (nth items j) && (not (nat_eq subtable.kind 4) || not t || is_listed_base l subtable.start (nth items j)))
    (sym (none j))
  where
    by_test : (s k listed : Bool) → s ≡ (s && (not k || not false || listed))
    by_test true true listed = refl
    by_test true false listed = refl
    by_test false true listed = refl
    by_test false false listed = refl

-- ---- what each lookup leaves as it was

pub record IsReady (l : Lookup) (items : List Item) (seen : BaseSeen) : Type 0 where
  pub components : HasNoLaterComponents items
  pub sight : IsSight l items seen

pub components-same : (xs ys : List Item) → map (λ (x : Item). x.properties) xs ≡ map (λ (x : Item). x.properties) ys
    → HasNoLaterComponents ys → HasNoLaterComponents xs
components-same xs ys same none j =
    let key = λ (x : Item). x.properties in
    ap (λ p. nat_lt 0 j && (p.multiplied && (nth xs (j - 1)).properties.multiplied
    && not (shares (nth xs (j - 1)).properties.glyph_class.0 8) && nat_eq p.ligature_id (nth xs (j - 1)).properties.ligature_id
    && nat_eq p.ligature_component ((nth xs (j - 1)).properties.ligature_component + 1)))
    (key_by_keys key xs ys j same)
    ∙ ap (λ p. nat_lt 0 j && ((nth ys j).properties.multiplied && p.multiplied
    && not (shares p.glyph_class.0 8) && nat_eq (nth ys j).properties.ligature_id p.ligature_id
    && nat_eq (nth ys j).properties.ligature_component (p.ligature_component + 1)))
    (key_by_keys key xs ys (j - 1) same)
    ∙ none j
