-- The steps of preparing that go item by item, and the dotted circle, preserve the order of clusters and the flags of
-- glyphs, stated at once; and what they leave if no character past ASCII was seen.
use Rattle.std.proofs.Common.{◌≡◌, ℕ, ◌==◌, ◌||◌, ◌&&◌, Bool, true, false, inl, inr, List, [], ◌∷◌, map, fold, Option, Some, None, refl, sym, ap, ap₂, ◌∙◌, subst, bit_and, bit_or, nat_lt, ◌-◌, ◌<◌, not, arith, ◌/◌}
use Rattle.std.proofs.lemmas.Bool.{cases_Bool, eq-eqb}
use Rattle.std.proofs.lemmas.Nat.{and_assoc, and_or_apart, and_or_self, or_shr}
use Rattle.std.proofs.lemmas.Bool.Decides.{nat_tests}
use Rattle.std.proofs.Math.Arith.{bin_ind}
use Rattle.std.specs.List.{list_any}
use Rattle.std.specs.Int.Bits.{and_step, or_step, and_zero_r}
use Rattle.shape_common.specs.Face.{FaceMeaning}
use Rattle.shape_common.specs.declared.positions.GlyphPosition.{GlyphPosition}
use Rattle.shape_common.specs.Unicode.{UnicodeMeaning, is_mark}
use Rattle.shape_common.specs.declared.flags.ScratchFlags.{ScratchFlags}
use Rattle.shape_common.specs.declared.text_types.Direction.{Direction}
use Rattle.shape_common.specs.Direction.{is_backward}
use Rattle.shape_items.specs.Buffer.{Buffer}
use Rattle.shape_items.specs.Flags.{with_mask}
use Rattle.shape_items.specs.Items.{Item}
use Rattle.shape_items.specs.Clusters.{clusters}
use Rattle.shape_items.specs.ClusterOrder.{PreservesClusters}
use Rattle.shape_items.specs.Properties.{Properties}
use Rattle.shape_items.specs.PreservesFlags.{PreservesFlags, IsDefinedFlag, has_flag, some_has, has_glyph_flags}
use Rattle.shape_items.specs.UnicodeProps.{with_unicode_props, with_scratch_of, flag_if, beyond_ascii}
use Rattle.shape_items.proofs.Flags.FlagLemmas.{PreservesFlags-same}
use Rattle.shape_items.proofs.Order.DrawsInOrder.{PreservesClusters-from_draws, DrawsInOrder-same, DrawsInOrder-again}
use Rattle.shape_items.proofs.Merging.KeyLemmas.{keys-map}
use Rattle.shape_buffer.specs.Preservation.{PreservesOrder, IsFlagPreserving}
use Rattle.shape_buffer.specs.Layout.{HasNoDefinedFlag}
use Rattle.shape_buffer.specs.Walks.{items_mapped}
use Rattle.shape_buffer.proofs.Steps.PreservationLemmas.{PreservesOrder-same, PreservesClusters-equal, clusters-map}
use Rattle.shape_buffer.proofs.Flags.HonestLemmas.{IsHonest}
use Rattle.shape_plan.specs.declared.decisions.Decisions.{Decisions}
use Rattle.shape_prepare.specs.Begun.{begun}
use Rattle.shape_prepare.specs.DottedCircle.{dotted_circled}
use Rattle.shape_prepare.specs.Graphemes.{graphemes_marked, continuations_marked, seen_item, is_to_next, continues, is_skin_tone, is_regional_indicator, is_extender, is_unasked, is_modifier_symbol}
use Rattle.shape_prepare.specs.Rotated.{rotated, rotated_item, in_forms, mirrored_or_masked, mirrored_item, form_in}
use Rattle.shape_prepare.specs.declared.graphemes.Before.{Before}
use Rattle.shape_prepare.specs.declared.graphemes.Before.TheVariants.{Plain}
use Rattle.shape_prepare.proofs.StepLemmas.{dotted_circled-cases}
use Rattle.shape_prepare.proofs.Spans.GraphemeClusterLemmas.{NoneContinues}

-- ---- both at once

-- clusters keep their order, and flags are kept if this mask has none
pub record Preserves (mask : ℕ) (b c : Buffer) : Type 0 where
  pub order : PreservesOrder b c
  pub flags : HasNoDefinedFlag mask → PreservesFlags b c

Preserves-same : (mask : ℕ) (b : Buffer) → Preserves mask b b
Preserves-same mask b = record { order = PreservesOrder-same b; flags = λ none. PreservesFlags-same b }

-- a mask without a defined flag
no_flag_in : (mask flag : ℕ) → IsDefinedFlag flag → HasNoDefinedFlag mask → bit_and mask flag ≡ 0
no_flag_in mask flag (inl e) none = rw e (sym (and_assoc 1 mask 7) ∙ ap (λ n. bit_and n 1) none)
no_flag_in mask flag (inr (inl e)) none = rw e (sym (and_assoc 2 mask 7) ∙ ap (λ n. bit_and n 2) none)
no_flag_in mask flag (inr (inr e)) none = rw e (sym (and_assoc 4 mask 7) ∙ ap (λ n. bit_and n 4) none)

-- other items, positions and scratch flags, and nothing else
Preserves-written : (mask : ℕ) (b : Buffer) {ys : List Item} {positions : List GlyphPosition} {scratch : ScratchFlags}
    → PreservesClusters (clusters b.items) (clusters ys)
    → ((flag : ℕ) → bit_and mask flag ≡ 0 → some_has flag ys ≡ true → some_has flag b.items ≡ true)
    → (has_glyph_flags b ≡ true → (bit_and scratch.0 32 == 32) ≡ true)
    → Preserves mask b (record b { items = ys; positions = positions; scratch_flags = scratch })
Preserves-written mask b order flags stays = record {
  order = record { clusters = order; direction = refl; flags = refl; level = refl };
  flags = λ none. record {
    flags = refl;
    stays_set = stays;
    none_new = λ flag d some. inl (flags flag (no_flag_in mask flag d none) some);
  };
}

any-keys : (p : Item → Bool) (xs : List Item) → list_any (λ t. t) (map p xs) ≡ list_any p xs
any-keys p [] = refl
any-keys p (x ∷ xs) = ap (λ t. p x || t) (any-keys p xs)

none-brought : (p : Item → Bool) (xs ys : List Item) → map p ys ≡ map p xs → list_any p ys ≡ true → list_any p xs ≡ true
none-brought p xs ys same some = sym (any-keys p xs) ∙ ap (list_any (λ t. t)) (sym same) ∙ any-keys p ys ∙ some

-- ---- the beginning

begun-bare : (mask flag : ℕ) (items : List Item) → bit_and mask flag ≡ 0 → some_has flag (map (with_mask mask) items) ≡ false
begun-bare mask flag [] none = refl
begun-bare mask flag (item ∷ items) none = rw none (begun-bare mask flag items none)

pub begun-preserves : (mask : ℕ) (b : Buffer) → Preserves mask b (begun mask b)
unfolding begun
begun-preserves mask b =
    Preserves-written mask b (PreservesClusters-equal (clusters b.items) _ (clusters-map (with_mask mask) (λ item. refl) b.items))
    (λ flag none some. absurd (let e : false ≡ true = sym (begun-bare mask flag b.items none) ∙ some in cc)) (λ set. set)

pub begun-preserves_flags : (mask : ℕ) → HasNoDefinedFlag mask → IsFlagPreserving (begun mask)
begun-preserves_flags mask none b = (begun-preserves mask b).flags none

-- as a run begins no item has a flag, whatever the buffer was
pub begun-honest : (mask : ℕ) (b : Buffer) → HasNoDefinedFlag mask → IsHonest (begun mask b)
unfolding begun
begun-honest mask b none = record { honest = λ unseen flag d. begun-bare mask flag b.items (no_flag_in mask flag d none) }

-- ---- properties, and forms: a part of each item that these steps leave

module _ {B : Type 0} (key : Item → B)
    (by_char : (item : Item) (c : ℕ) (properties : Properties) → key (record item { codepoint = c; properties = properties }) ≡ key item)
  where
    keys-marked : (unicode : UnicodeMeaning) (items : List Item) (before : Before)
        → map key (continuations_marked unicode before (map (with_unicode_props unicode) items)) ≡ map key items
    keys-marked unicode [] before = refl
    keys-marked unicode (item ∷ items) before =
        ap₂ ◌∷◌ (by_char item item.codepoint _) (keys-marked unicode items (is_to_next unicode before (with_unicode_props unicode item)))

    module _ (mask : ℕ) (by_mask : (item : Item) → key (record item { mask = bit_or item.mask mask }) ≡ key item) where
      key-masked : (item : Item) (form : Option ℕ) → key (mirrored_or_masked mask item form) ≡ key item
      key-masked item None = by_mask item
      key-masked item (Some c) = by_char item c item.properties

      key-forms : (unicode : UnicodeMeaning) (face : FaceMeaning) (item : Item) (mirrors is_upright : Bool)
          → key (in_forms unicode face mirrors mask is_upright item) ≡ key item
      key-forms unicode face item true true =
          by_char (mirrored_item unicode face mask item) _ _ ∙ key-masked item (form_in face (unicode.mirrored item.codepoint))
      key-forms unicode face item true false = key-masked item (form_in face (unicode.mirrored item.codepoint))
      key-forms unicode face item false true = by_char item _ item.properties
      key-forms unicode face item false false = refl

-- ---- scratch flags: one that is set stays set

or-preserves : (bit flags flag : ℕ) → bit_and flags bit ≡ bit → bit_and (bit_or flags flag) bit ≡ bit
or-preserves =
    bin_ind (λ (bit : ℕ). (flags flag : ℕ) → bit_and flags bit ≡ bit → bit_and (bit_or flags flag) bit ≡ bit)
    (λ flags flag set. and_zero_r (bit_or flags flag))
    (λ bit ih flags flag set.
    let s = and_step flags bit in
    let p : bit_and (bit_or flags flag / 2) (bit / 2) ≡ bit / 2 = ap (λ n. bit_and n (bit / 2)) (or_shr flags flag 1)
    ∙ ih (flags / 2) (flag / 2) (omega arith) in
    omega (arith, and_step (bit_or flags flag) bit, p, or_step flags flag))

flag_if-preserves : (t : Bool) (bit flag flags : ℕ) → (bit_and flags bit == bit) ≡ true → (bit_and (flag_if t flag flags) bit == bit) ≡ true
flag_if-preserves true bit flag flags set =
    let e : bit_and flags bit ≡ bit = grind (arith, nat_tests) in eq-eqb _ _ (or-preserves bit flags flag e)
flag_if-preserves false bit flag flags set = set

scratch-preserves : (unicode : UnicodeMeaning) (c bit : ℕ) (flags : ScratchFlags)
    → (bit_and (flag_if (beyond_ascii c) 1 flags.0) bit == bit) ≡ true
    → (bit_and (with_scratch_of unicode c flags).0 bit == bit) ≡ true
scratch-preserves unicode c bit flags set =
    flag_if-preserves (c == 0x34F) bit 8 _ (flag_if-preserves (beyond_ascii c && unicode.ignorable c) bit 2 _ set)

all-preserve : (unicode : UnicodeMeaning) (items : List Item) (bit : ℕ) (flags : ScratchFlags) → (bit_and flags.0 bit == bit) ≡ true
    → (bit_and (fold (seen_item unicode) flags items).0 bit == bit) ≡ true
all-preserve unicode [] bit flags set = set
all-preserve unicode (item ∷ items) bit flags set =
    all-preserve unicode items bit (seen_item unicode flags item)
    (scratch-preserves unicode item.codepoint bit flags (flag_if-preserves (beyond_ascii item.codepoint) bit 1 flags.0 set))

-- ---- the steps

pub graphemes_marked-preserves : (unicode : UnicodeMeaning) (b : Buffer) → Preserves 0 b (graphemes_marked unicode b)
unfolding graphemes_marked
graphemes_marked-preserves unicode b =
    Preserves-written 0 b (PreservesClusters-equal _ _ (keys-marked (λ item. item.cluster) (λ item c p. refl) unicode b.items Plain))
    (λ flag apart. none-brought (has_flag flag) b.items _ (keys-marked (has_flag flag) (λ item c p. refl) unicode b.items Plain))
    (all-preserve unicode b.items 32 b.scratch_flags)

once : (p q : Bool) → (p || (p || q)) ≡ true → (p || q) ≡ true
once true q e = refl
once false q e = e

pub dotted_circled-preserves : (unicode : UnicodeMeaning) (face : FaceMeaning) (b : Buffer) → Preserves 0 b (dotted_circled unicode face b)
dotted_circled-preserves unicode face b = dotted_circled-cases (Preserves 0 b) unicode face b (Preserves-same 0 b) (λ first rest is.
    let cs = clusters (first ∷ rest) in
    let again : PreservesClusters cs (first.cluster ∷ cs) = PreservesClusters-from_draws cs (first.cluster ∷ cs)
    (DrawsInOrder-again first.cluster (clusters rest) cs (DrawsInOrder-same cs)) in
    Preserves-written 0 b (subst (λ (l : List Item). PreservesClusters (clusters l) (first.cluster ∷ clusters l)) (sym is) again)
    (λ flag none some. ap (some_has flag) is
    ∙ once (has_flag flag first) (some_has flag rest) (ap (λ (l : List Item). has_flag flag first || some_has flag l) (sym is) ∙ some))
    (λ set. scratch-preserves unicode 0x25CC 32 b.scratch_flags (flag_if-preserves true 32 1 b.scratch_flags.0 set)))

pub rotated-preserves : (unicode : UnicodeMeaning) (face : FaceMeaning) (decisions : Decisions) (target : Direction) (b : Buffer)
    → Preserves decisions.rtlm_mask b (rotated unicode face decisions target b)
unfolding rotated items_mapped
rotated-preserves unicode face decisions target b =
    let mask = decisions.rtlm_mask in
    let form = rotated_item unicode face decisions target in
    Preserves-written mask b
    (PreservesClusters-equal _ _ (clusters-map form
    (λ item. key-forms (λ item. item.cluster) (λ item c p. refl) mask (λ item. refl) unicode face item (is_backward target) _) b.items))
    (λ flag apart. none-brought (has_flag flag) b.items _ (keys-map (has_flag flag) form
    (λ item. key-forms (has_flag flag) (λ item c p. refl) mask (λ item. ap (nat_lt 0) (and_or_apart flag item.mask mask apart))
    unicode face item (is_backward target) _) b.items))
    (λ set. set)

-- ---- graphemes of one item, if no character past ASCII was seen

abbrev pub seen_past : ScratchFlags → Bool
seen_past flags = bit_and flags.0 1 == 1

shows-past : (unicode : UnicodeMeaning) (c : ℕ) (flags : ScratchFlags) → beyond_ascii c ≡ true
    → seen_past (with_scratch_of unicode c flags) ≡ true
shows-past unicode c flags past =
    scratch-preserves unicode c 1 flags (ap (λ t. bit_and (flag_if t 1 flags.0) 1 == 1) past ∙ eq-eqb _ _ (and_or_self 1 flags.0))

no_rule : (unasked symbol mark skin regional zwj extender : Bool) (t : Bool) → mark ≡ false → skin ≡ false → regional ≡ false
    → zwj ≡ false → extender ≡ false
    → (mark && t || false || (not unasked && ((symbol && skin) || (regional && false) || zwj || extender))) ≡ false
no_rule true symbol mark skin regional zwj extender t m s r j e = rw m refl
no_rule false true mark skin regional zwj extender t m s r j e = rw (m, s, r, j, e) refl
no_rule false false mark skin regional zwj extender t m s r j e = rw (m, r, j, e) refl

ascii-continues : (unicode : UnicodeMeaning) (item : Item) → beyond_ascii item.codepoint ≡ false
    → continues unicode Plain (with_unicode_props unicode item) ≡ false
ascii-continues unicode item within =
    let c = item.codepoint in
    let small : c < 128 = grind (arith, nat_tests) in
    no_rule (is_unasked (unicode.category c)) (is_modifier_symbol (unicode.category c)) (beyond_ascii c) (is_skin_tone c)
    (is_regional_indicator c) (c == 0x200D) (is_extender c) (is_mark unicode c) within
    (grind (arith, nat_tests)) (grind (arith, nat_tests)) (grind (arith, nat_tests)) (grind (arith, nat_tests))

-- if no character past ASCII was seen no item continues a grapheme
none-marked : (unicode : UnicodeMeaning) (items : List Item) (flags : ScratchFlags)
    → seen_past (fold (seen_item unicode) flags items) ≡ false
    → NoneContinues (continuations_marked unicode Plain (map (with_unicode_props unicode) items))
none-marked unicode [] flags unseen = tt
none-marked unicode (item ∷ items) flags unseen = elim (cases_Bool (beyond_ascii item.codepoint)) [
  | inl past ↦ absurd (let seen = all-preserve unicode items 1 (seen_item unicode flags item)
      (shows-past unicode item.codepoint flags past) in let e : true ≡ false = sym seen ∙ unseen in cc)
  | inr within ↦
      let stays = ascii-continues unicode item within in
      let small : item.codepoint < 128 = grind (arith, nat_tests) in
      let no_indicator : is_regional_indicator item.codepoint ≡ false = grind (arith, nat_tests) in
      let no_zwj : (item.codepoint == 0x200D) ≡ false = grind (arith, nat_tests) in
      let plain : is_to_next unicode Plain (with_unicode_props unicode item) ≡ Plain = rw (no_indicator, no_zwj) refl in
      (stays, rw plain (none-marked unicode items (seen_item unicode flags item) unseen))
]

-- a circle is a character past ASCII: if none was seen, no circle went in
pub circled-unseen : (unicode : UnicodeMeaning) (face : FaceMeaning) (b : Buffer)
    → seen_past (dotted_circled unicode face b).scratch_flags ≡ false → dotted_circled unicode face b ≡ b
circled-unseen unicode face b =
    dotted_circled-cases (λ c. seen_past c.scratch_flags ≡ false → c ≡ b) unicode face b (λ unseen. refl) (λ first rest is unseen.
    absurd (let e : true ≡ false = sym (shows-past unicode 0x25CC b.scratch_flags refl) ∙ unseen in cc))

pub marked-unseen : (unicode : UnicodeMeaning) (b : Buffer) → seen_past (graphemes_marked unicode b).scratch_flags ≡ false
    → NoneContinues (graphemes_marked unicode b).items
unfolding graphemes_marked
marked-unseen unicode b unseen = none-marked unicode b.items b.scratch_flags unseen
