-- What is promised of a normalised list and of two that are compared, and what canonical form asks, on lists that are worked
-- out by hand.
use Rattle.std.specs.Prelude.{◌≡◌, ◌↔◌, ◌++◌, ◌==◌, if◌then◌else◌, ℕ, Bool, true, false, IsTrue, List, [], ◌∷◌, map, drop, replicate, Some, None, refl}
use Rattle.std.specs.List.{list_any}
use Rattle.canonical_form.specs.Expanded.{begins_with_mark}
use Rattle.shape_items.specs.Buffer.{Buffer}
use Rattle.shape_items.specs.Items.{Item, char_of, is_mark_item}
use Rattle.shape_items.specs.Prepared.{IsPrepared}
use Rattle.shape_common.specs.Unicode.{is_mark}
use Rattle.shape_plan.specs.Rules.{Rules}
use Rattle.shape_normalize.specs.CanonicalForm.{text_of, AreEquivalent, HasNoSelector, HasLawfulHooks, IsSupported, EndsInOrder, TextPremises}
use Rattle.shape_normalize.specs.CanonicalForm.{EquivalencePremises, CanonicalTextPremises, CanonicalFormPremises, PlainPremises, CutPremises}
use Rattle.shape_normalize.specs.NormalForm.{NormalForm, Normalizes, AreCompared}
use Rattle.shape_normalize.specs.Normalized.{BroughtInHaveGlyphs, content, without_cluster, HasItemGlyph, HasShortRuns, PreservesHidden}
use Rattle.shape_normalize.specs.Normalized.{OrdersExpanded, Recomposes}
use Rattle.shape_normalize.specs.PremiseTest.{meets_premises}
use Rattle.shape_normalize.specs.RoundOne.{round_one}
use Rattle.shape_normalize.specs.RoundTwo.{has_mark_past_first, OrdersMarks}
use Rattle.shape_normalize.specs.Worked.Fixture.{fixture, face_of, rules_in, item, buffer_of}

-- ---- glyphs

-- the characters after are in the text before, or have one of these glyphs
abbrev pub BroughtIn : List ℕ → List ℕ → List ℕ → Type 0
BroughtIn glyphs before after = BroughtInHaveGlyphs (face_of glyphs).nominal_glyph before after

pub record GlyphsBroughtIn : Type 0 where
  pub with_glyph : BroughtIn (0x61 ∷ []) [] (0x61 ∷ [])
  pub of_the_text : BroughtIn [] (0x62 ∷ 0x61 ∷ []) (0x61 ∷ [])
  pub without_glyph : BroughtIn (0x61 ∷ []) (0x63 ∷ []) (0x62 ∷ []) → ⊥

-- an item with this glyph index, in another cluster and with another mask than the text's
abbrev pub placed : ℕ → ℕ → Item
placed c index = record (item c 5) { glyph_index = index; mask = 8 }

abbrev pub variant_text : Buffer
variant_text = buffer_of (item 0x61 0 ∷ item 0xFE00 1 ∷ [])

abbrev pub HasGlyph : List ℕ → Buffer → Item → Type 0
HasGlyph glyphs text one = HasItemGlyph (rules_in 4 glyphs) text one

pub record GlyphsOfItems : Type 0 where
  pub own : HasGlyph (0x61 ∷ []) (buffer_of (item 0x61 0 ∷ [])) (placed 0x61 0x61)
  pub none : HasGlyph [] (buffer_of (item 0x61 0 ∷ [])) (placed 0x61 0)
  pub of_another : HasGlyph (0x61 ∷ 0x62 ∷ []) (buffer_of (item 0x61 0 ∷ [])) (placed 0x61 0x62) → ⊥
  -- glyph 7, of U+0061 with its selector
  pub of_the_sequence : HasGlyph (0x61 ∷ 0xFE00 ∷ []) variant_text (placed 0x61 7)
  pub not_of_the_sequence : HasGlyph (0x61 ∷ 0xFE00 ∷ []) variant_text (placed 0x61 8) → ⊥

-- ---- what items have in common

abbrev pub all_set : Item
all_set =
    let one = placed 0x301 9 in
    record one { glyph_id = 3; properties = record one.properties { hidden = true; ligature_id = 4; syllable = 2 } }

abbrev pub with_reordering : Rules
with_reordering = record (rules_in 4 []) { reorder = Some (λ b _ _. b) }

pub record ItemsCompared : Type 0 where
  pub content_of : content (rules_in 4 []) all_set ≡ record all_set {
    cluster = 0;
    mask = 0;
    glyph_id = 0;
    properties = record all_set.properties { hidden = false };
  }
  -- a reorder hook may set ccc
  pub under_reordering : content with_reordering all_set ≡ record all_set {
    cluster = 0;
    mask = 0;
    glyph_id = 0;
    properties = record all_set.properties { hidden = false; modified_ccc = 0 };
  }
  pub cluster_aside : without_cluster all_set ≡ record all_set { cluster = 0; mask = 0 }

pub items_compared : ItemsCompared
items_compared = record { content_of = refl; under_reordering = refl; cluster_aside = refl }

-- ---- hidden items

abbrev pub with_hidden : Bool → ℕ → Item
with_hidden hidden c =
    let one = item c 0 in
    record one { properties = record one.properties { hidden = hidden } }

abbrev pub PreservesHiddenOf : Item → Item → Type 0
PreservesHiddenOf old new = PreservesHidden (rules_in 4 (0x61 ∷ 0x34F ∷ [])) (buffer_of (old ∷ [])) (buffer_of (new ∷ []))

pub record HiddenItems : Type 0 where
  pub in_sight : PreservesHiddenOf (with_hidden true 0x61) (with_hidden false 0x61)
  pub as_it_was : PreservesHiddenOf (with_hidden true 0x61) (with_hidden true 0x61)
  pub of_another : PreservesHiddenOf (with_hidden true 0x62) (with_hidden true 0x61) → ⊥
  pub hidden_anew : PreservesHiddenOf (with_hidden false 0x61) (with_hidden true 0x61) → ⊥

-- ---- runs, order and what recomposing leaves

pub record ShortRuns : Type 0 where
  pub longest : HasShortRuns (replicate 32 (item 0x301 0))
  pub one_more : HasShortRuns (replicate 33 (item 0x301 0)) → ⊥

-- U+0061 with an acute, and with a dot below after it
abbrev pub acute : Buffer
acute = buffer_of (item 0x61 0 ∷ item 0x301 1 ∷ [])

abbrev pub acute_and_dot : Buffer
acute_and_dot = buffer_of (item 0x61 0 ∷ item 0x301 1 ∷ item 0x323 2 ∷ [])

abbrev pub all_glyphs : List ℕ
all_glyphs = 0x61 ∷ 0x301 ∷ 0x323 ∷ 0xE1 ∷ 0x1EA1 ∷ []

-- the characters of a list, clusters and masks aside
abbrev pub chars_in : Buffer → List ℕ
chars_in b = map char_of (map without_cluster b.items)

pub record MarksOfLists : Type 0 where
  pub composed : (new : Buffer) → Recomposes (rules_in 2 all_glyphs) acute new → chars_in new ≡ 0xE1 ∷ []
  pub first_in_order : (new : Buffer) → Recomposes (rules_in 2 all_glyphs) acute_and_dot new → chars_in new ≡ 0x1EA1 ∷ 0x301 ∷ []
  pub without_glyph : (new : Buffer) → Recomposes (rules_in 2 (0x61 ∷ [])) acute new → chars_in new ≡ 0x61 ∷ 0x301 ∷ []
  pub in_order : (new : Buffer) → OrdersExpanded (rules_in 1 all_glyphs) acute_and_dot new
      → OrdersMarks (round_one (rules_in 1 all_glyphs) acute_and_dot).items new.items

-- ---- what normalising and comparing promise

-- U+00E1 with a dot below, in a buffer for two items. Mode 3 makes three of them before it composes two again
abbrev pub in_room_of_two : Buffer
in_room_of_two = record (buffer_of (item 0xE1 0 ∷ item 0x323 1 ∷ [])) { length_limit = Some 2 }

-- one list alone is normalised, in its form, and no longer than the limit on the way
pub record ListsNormalized : Type 0 where
  pub one_list : (new : Buffer) → Normalizes (rules_in 2 all_glyphs) acute new → text_of new ≡ 0xE1 ∷ []
  pub as_it_was : Normalizes (rules_in 2 all_glyphs) acute acute → ⊥
  pub in_its_form : (new : Buffer) → Normalizes (rules_in 2 all_glyphs) acute new → NormalForm (rules_in 2 all_glyphs) acute new
  pub past_on_the_way : (new : Buffer) → Normalizes (rules_in 3 all_glyphs) in_room_of_two new → ⊥

-- both spellings of U+00E1 by mode 1
abbrev pub SpellingsCompared : Buffer → Buffer → Bool → Type 0
SpellingsCompared new_a new_b same = AreCompared (rules_in 1 all_glyphs) acute (buffer_of (item 0xE1 7 ∷ [])) new_a new_b same

-- two spellings are the same, and a further mark makes another text; where canonical form is asked, equivalence decides
pub record TextsCompared : Type 0 where
  pub called_other : (new_a new_b : Buffer) → SpellingsCompared new_a new_b false → ⊥
  pub called_same : (new_a new_b : Buffer) → AreCompared (rules_in 1 all_glyphs) acute acute_and_dot new_a new_b true → ⊥
  pub by_equivalence : (rules : Rules) (a b new_a new_b : Buffer) (same : Bool) → AreCompared rules a b new_a new_b same
      → CanonicalFormPremises rules a → CanonicalFormPremises rules b → IsTrue same ↔ AreEquivalent rules (text_of a) (text_of b)

-- ---- premises

pub record SelectorsAsked : Type 0 where
  pub none : HasNoSelector (rules_in 4 []) (0x61 ∷ 0x301 ∷ [])
  pub one : HasNoSelector (rules_in 4 []) (0x61 ∷ 0xFE00 ∷ []) → ⊥

-- mode 1 over a character of private use that splits into U+00E1 and a dot below, which goes before the acute
abbrev pub falling_rules : Rules
falling_rules = record (rules_in 1 []) {
  split = λ c. if c == 0xE002 then Some (0xE1, 0x323) else fixture.split c;
  height = λ c. if c == 0xE002 then 2 else fixture.height c;
}

-- mode 1 decomposes, mode 3 composes
pub record OrderAsked : Type 0 where
  pub composed_alone : EndsInOrder (rules_in 1 []) (0xE1 ∷ [])
  pub after_a_starter : EndsInOrder (rules_in 1 []) (0xE1 ∷ 0x1EA1 ∷ [])
  pub marked : EndsInOrder (rules_in 3 []) (0x61 ∷ 0x301 ∷ 0x323 ∷ [])
  pub composing : EndsInOrder (rules_in 3 []) (0xE1 ∷ []) → ⊥
  pub falling : EndsInOrder falling_rules (0xE002 ∷ []) → ⊥

-- the test of both spellings of U+00E1 in mode 1, and in mode 3 of the one that is decomposed alone
pub record SpellingsTested : Type 0 where
  pub composed : meets_premises (rules_in 1 all_glyphs) (item 0xE1 0 ∷ []) ≡ true
  pub decomposed : meets_premises (rules_in 1 all_glyphs) acute.items ≡ true
  pub composing : meets_premises (rules_in 3 all_glyphs) (item 0xE1 0 ∷ []) ≡ false
  pub composing_decomposed : meets_premises (rules_in 3 all_glyphs) acute.items ≡ true
  pub falling : meets_premises (record falling_rules { face = face_of all_glyphs }) (item 0xE002 0 ∷ []) ≡ false

-- canonical form asks no more than this
pub record PremisesAsked (rules : Rules) : Type 0 where
  pub of_a_text : (text : List ℕ) → HasLawfulHooks rules → HasNoSelector rules text → rules.reorder ≡ None → TextPremises rules text
  pub of_a_buffer : (b : Buffer) → TextPremises rules (text_of b) → IsPrepared rules.unicode b.items → EquivalencePremises rules b
  pub of_characters : (text : List ℕ) → ((with_marks : Bool) → rules.short with_marks ≡ false) → IsSupported rules text
      → EndsInOrder rules text → CanonicalTextPremises rules text
  pub of_marks : (text : List ℕ) → list_any (is_mark rules.unicode) (drop 1 text) ≡ true → EndsInOrder rules text
  pub of_both : (b : Buffer) → EquivalencePremises rules b → CanonicalTextPremises rules (text_of b) → CanonicalFormPremises rules b
  pub of_a_plain_text : (b : Buffer) → IsPrepared rules.unicode b.items → HasNoSelector rules (text_of b) → rules.reorder ≡ None
      → PlainPremises rules b
  pub of_a_cut : (old front back : Buffer) → text_of old ≡ text_of front ++ text_of back
      → PlainPremises rules old → PlainPremises rules front → PlainPremises rules back
      → begins_with_mark is_mark_item back.items ≡ false
      → begins_with_mark (is_mark rules.unicode) (text_of (round_one rules back)) ≡ false
      → has_mark_past_first front.items ≡ true → has_mark_past_first back.items ≡ true → CutPremises rules old front back

pub record FormWorked : Type 0 where
  pub brought_in : GlyphsBroughtIn
  pub item_glyphs : GlyphsOfItems
  pub compared : ItemsCompared
  pub hidden : HiddenItems
  pub short_runs : ShortRuns
  pub marks : MarksOfLists
  pub normalized : ListsNormalized
  pub texts : TextsCompared
  pub selectors : SelectorsAsked
  pub order : OrderAsked
  pub tested : SpellingsTested
  pub premises : (rules : Rules) → PremisesAsked rules
