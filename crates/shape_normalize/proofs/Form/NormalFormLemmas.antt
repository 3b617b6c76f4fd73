-- The rounds of a text without variation selectors and without a hook that reorders, by its characters: choices,
-- settled runs, recomposed.
use Rattle.std.proofs.Common.{◌≡◌, ℕ, Bool, true, false, if◌then◌else◌, ◌&&◌, ◌||◌, List, [], ◌∷◌, map, drop, Option, None, refl, sym, ◌∙◌, ap, ap₂, subst, inl, inr}
use Rattle.std.proofs.lemmas.Bool.{cases_Bool, cond-true, cond-false, and_from, and_left, and_right}
use Rattle.std.proofs.lemmas.List.Elements.{recursion_from_All}
use Rattle.std.specs.List.{list_any}
use Rattle.canonical_form.proofs.MapLemmas.{AreRunsSettled-map}
use Rattle.canonical_form.proofs.Ordering.RunLemmas.{AreRunsSettled-swaps, AreRunsSettled-unique}
use Rattle.canonical_form.proofs.Ordering.SwapLemmas.{all-swaps}
use Rattle.shape_items.specs.Buffer.{Buffer}
use Rattle.canonical_form.specs.Expanded.{expanded_text}
use Rattle.shape_items.specs.Items.{Item, char_of, is_mark_item}
use Rattle.canonical_form.specs.Runs.{AreRunsSettled}
use Rattle.shape_common.specs.Unicode.{UnicodeMeaning, LawfulUnicode, is_mark}
use Rattle.shape_normalize.specs.CanonicalForm.{text_of, HasNoSelector, PlainPremises, recomposed_text}
use Rattle.shape_normalize.specs.Normalized.{ordered, normalized}
use Rattle.shape_items.specs.Prepared.{IsPrepared, IsPreparedItem}
use Rattle.shape_normalize.specs.RoundOne.{round_one}
use Rattle.shape_normalize.specs.RoundThree.{round_three}
use Rattle.shape_normalize.specs.RoundTwo.{max_run, has_mark_past_first, marks_ordered, cgj_unhidden_where_seen}
use Rattle.shape_plan.specs.Rules.{Rules, decompositions, has_glyph}
use Rattle.shape_normalize.proofs.RoundTwo.CgjLemmas.{chars-cgj_unhidden_where_seen}
use Rattle.shape_normalize.proofs.RoundTwo.OrderedLemmas.{marks_ordered_settles}
use Rattle.shape_normalize.proofs.Form.PreparedLemmas.{ArePrepared, PreparedKey, prepared_key, IsKey-prepared_key, IsPreparedKey, chars_of_keys, prepared_keys, prepared_from_keys, prepared-round_one, prepared-cgj_unhidden_where_seen}
use Rattle.shape_normalize.proofs.RoundThree.RecomposedCharsLemmas.{chars-round_three}
use Rattle.shape_normalize.proofs.RoundOne.RoundOneLemmas.{HasNoSelectorItem, chars-round_one}
use Rattle.shape_normalize.proofs.RoundOne.SequenceLemmas.{each_of_values}

abbrev ccc_of_key : PreparedKey → ℕ
ccc_of_key key = key.1.0

keys_settled : (b : Buffer)
    → AreRunsSettled ccc_of_key max_run [] (map prepared_key b.items) (map prepared_key (marks_ordered None b).items)
keys_settled b = marks_ordered_settles prepared_key IsKey-prepared_key ccc_of_key (λ item. refl) b

-- the marks of a prepared buffer in order: the runs of its characters are settled
pub ordered_chars : (unicode : UnicodeMeaning) (b : Buffer) → ArePrepared unicode b.items
    → AreRunsSettled unicode.ccc max_run [] (text_of b) (text_of (marks_ordered None b))
ordered_chars unicode b h =
    let settled = AreRunsSettled-map (IsPreparedKey unicode) (λ (key : PreparedKey). key.0) ccc_of_key unicode.ccc
    (λ key prepared. sym prepared.1)
    max_run [] (map prepared_key b.items) (map prepared_key (marks_ordered None b).items) tt (prepared_keys unicode b.items h)
    (keys_settled b) in
    subst (λ l. AreRunsSettled unicode.ccc max_run [] l (text_of (marks_ordered None b))) (chars_of_keys b.items)
    (subst (AreRunsSettled unicode.ccc max_run [] (map (λ (key : PreparedKey). key.0) (map prepared_key b.items)))
    (chars_of_keys (marks_ordered None b).items) settled)

-- and the buffer stays prepared
pub prepared-ordered : (unicode : UnicodeMeaning) (b : Buffer) → ArePrepared unicode b.items
    → ArePrepared unicode (marks_ordered None b).items
prepared-ordered unicode b h =
    prepared_from_keys unicode (marks_ordered None b).items
    (all-swaps (IsPreparedKey unicode) (AreRunsSettled-swaps ccc_of_key max_run [] (map prepared_key b.items)
    (map prepared_key (marks_ordered None b).items) (keys_settled b)) (prepared_keys unicode b.items h))

-- the marks of a prepared list are those of its characters
marks_of_chars : (unicode : UnicodeMeaning) (items : List Item) → ArePrepared unicode items
    → list_any is_mark_item items ≡ list_any (is_mark unicode) (map char_of items)
marks_of_chars unicode [] h = refl
marks_of_chars unicode (item ∷ items) h = ap₂ (λ s t. s || t) h.0.mark (marks_of_chars unicode items h.1)

pub mark_past_first_char : (unicode : UnicodeMeaning) (items : List Item) → ArePrepared unicode items
    → has_mark_past_first items ≡ list_any (is_mark unicode) (drop 1 (map char_of items))
mark_past_first_char unicode [] h = refl
mark_past_first_char unicode (item ∷ items) h = marks_of_chars unicode items h.1

-- a prepared text without variation selectors, and no hook that reorders
pub record IsPlain (rules : Rules) (b : Buffer) : Type 0 where
  pub prepared : ArePrepared rules.unicode b.items
  pub no_selector : HasNoSelectorItem rules b.items
  pub no_reordering : rules.reorder ≡ None

pub IsPlain-from : (rules : Rules) (b : Buffer) → IsPrepared rules.unicode b.items → HasNoSelector rules (text_of b) → rules.reorder ≡ None
    → IsPlain rules b
IsPlain-from rules b prepared no_selector no_reordering = record {
  prepared = recursion_from_All (IsPreparedItem rules.unicode) b.items prepared;
  no_selector = each_of_values char_of (λ c. rules.unicode.selector c ≡ false) b.items
      (recursion_from_All (λ c. rules.unicode.selector c ≡ false) (text_of b) no_selector);
  no_reordering = no_reordering;
}

-- what is asked of such a text, as callers bring it
pub IsPlain-premises : (rules : Rules) (b : Buffer) → PlainPremises rules b → IsPlain rules b
IsPlain-premises rules b premises = IsPlain-from rules b premises.prepared premises.no_selector premises.no_reordering

module _ (rules : Rules) where
  -- the choices of the characters of a text
  abbrev pub choices : List ℕ → List ℕ
  choices text = expanded_text (decompositions rules) (has_glyph rules.face.nominal_glyph) (is_mark rules.unicode) rules.short text

  abbrev ordered_if : Bool → Option (Buffer → ℕ → ℕ → Buffer) → Buffer → Buffer
  ordered_if test reorder one = cgj_unhidden_where_seen (if test then marks_ordered reorder one else one)

  ordered-marked : (b : Buffer) → IsPlain rules b → has_mark_past_first b.items ≡ true
      → ordered rules b ≡ cgj_unhidden_where_seen (marks_ordered None (round_one rules b))
  ordered-marked b plain marked = ap₂ (λ test reorder. ordered_if test reorder (round_one rules b)) marked plain.no_reordering

  ordered-unmarked : (b : Buffer) → has_mark_past_first b.items ≡ false → ordered rules b ≡ cgj_unhidden_where_seen (round_one rules b)
  ordered-unmarked b unmarked = ap (λ test. ordered_if test rules.reorder (round_one rules b)) unmarked

  -- without recomposing the normalised list is the ordered one
  normalized-ordered : (b : Buffer) → (has_mark_past_first b.items && rules.recomposes) ≡ false
      → text_of (normalized rules b) ≡ text_of (ordered rules b)
  normalized-ordered b stays = ap text_of (cond-false _ (round_three rules (ordered rules b)) (ordered rules b) stays)

  pub normalized_is_ordered : (b : Buffer) → rules.recomposes ≡ false → text_of (normalized rules b) ≡ text_of (ordered rules b)
  normalized_is_ordered b leaves = normalized-ordered b (and_right (has_mark_past_first b.items) rules.recomposes leaves)

  -- without a mark past the first item the ordered list is the choices alone
  pub ordered_is_choices : (b : Buffer) → IsPlain rules b → has_mark_past_first b.items ≡ false
      → text_of (ordered rules b) ≡ choices (text_of b)
  ordered_is_choices b plain unmarked =
      ap text_of (ordered-unmarked b unmarked) ∙ chars-cgj_unhidden_where_seen (round_one rules b)
      ∙ chars-round_one rules b plain.prepared plain.no_selector

  -- and so is the normalised one
  pub normalized_is_choices : (b : Buffer) → IsPlain rules b → has_mark_past_first b.items ≡ false
      → text_of (normalized rules b) ≡ choices (text_of b)
  normalized_is_choices b plain unmarked =
      normalized-ordered b (and_left (has_mark_past_first b.items) rules.recomposes unmarked) ∙ ordered_is_choices b plain unmarked

  module _ (lawful : LawfulUnicode rules.unicode) where
    -- with one, the runs of the ordered list are settled
    pub ordered_settles : (b : Buffer) → IsPlain rules b → has_mark_past_first b.items ≡ true
        → AreRunsSettled rules.unicode.ccc max_run [] (choices (text_of b)) (text_of (ordered rules b))
    ordered_settles b plain marked =
        let one : Buffer = round_one rules b in
        subst (AreRunsSettled rules.unicode.ccc max_run [] (choices (text_of b)))
        (sym (ap text_of (ordered-marked b plain marked) ∙ chars-cgj_unhidden_where_seen (marks_ordered None one)))
        (subst (λ l. AreRunsSettled rules.unicode.ccc max_run [] l (text_of (marks_ordered None one)))
        (chars-round_one rules b plain.prepared plain.no_selector)
        (ordered_chars rules.unicode one (prepared-round_one rules lawful b plain.prepared)))

    prepared-ordered_list : (b : Buffer) → IsPlain rules b → has_mark_past_first b.items ≡ true
        → ArePrepared rules.unicode (ordered rules b).items
    prepared-ordered_list b plain marked =
        let one : Buffer = round_one rules b in
        subst (λ (c : Buffer). ArePrepared rules.unicode c.items) (sym (ordered-marked b plain marked))
        (prepared-cgj_unhidden_where_seen rules.unicode (marks_ordered None one)
        (prepared-ordered rules.unicode one (prepared-round_one rules lawful b plain.prepared)))

    -- and in the modes that compose that list is recomposed
    pub normalized_is_recomposed : (b : Buffer) → IsPlain rules b → has_mark_past_first b.items ≡ true → rules.recomposes ≡ true
        → text_of (normalized rules b) ≡ recomposed_text rules (text_of (ordered rules b))
    normalized_is_recomposed b plain marked composes =
        let both = and_from (has_mark_past_first b.items) rules.recomposes marked composes in
        ap text_of (cond-true _ (round_three rules (ordered rules b)) (ordered rules b) both)
        ∙ chars-round_three rules lawful (ordered rules b) (prepared-ordered_list b plain marked)

    -- the ordered lists of texts with the same characters have the same characters
    ordered_by_characters : (b c : Buffer) → IsPlain rules b → IsPlain rules c → has_mark_past_first b.items ≡ true → text_of b ≡ text_of c
        → text_of (ordered rules b) ≡ text_of (ordered rules c)
    ordered_by_characters b c of_b of_c marked same =
        AreRunsSettled-unique rules.unicode.ccc max_run [] (choices (text_of b)) (text_of (ordered rules b)) (text_of (ordered rules c))
        (ordered_settles b of_b marked)
        (subst (λ l. AreRunsSettled rules.unicode.ccc max_run [] l (text_of (ordered rules c))) (ap choices (sym same))
        (ordered_settles c of_c (marked_alike b c of_b of_c same ∙ marked)))
      where
        marked_alike : (b c : Buffer) → IsPlain rules b → IsPlain rules c → text_of b ≡ text_of c
            → has_mark_past_first c.items ≡ has_mark_past_first b.items
        marked_alike b c of_b of_c same =
            mark_past_first_char rules.unicode c.items of_c.prepared ∙ ap (λ l. list_any (is_mark rules.unicode) (drop 1 l)) (sym same)
            ∙ sym (mark_past_first_char rules.unicode b.items of_b.prepared)

    -- and so have the normalised ones
    pub normalized_by_characters : (b c : Buffer) → IsPlain rules b → IsPlain rules c → text_of b ≡ text_of c
        → text_of (normalized rules b) ≡ text_of (normalized rules c)
    normalized_by_characters b c of_b of_c same =
        let alike : has_mark_past_first c.items ≡ has_mark_past_first b.items =
        mark_past_first_char rules.unicode c.items of_c.prepared ∙ ap (λ l. list_any (is_mark rules.unicode) (drop 1 l)) (sym same)
        ∙ sym (mark_past_first_char rules.unicode b.items of_b.prepared) in
        elim (cases_Bool (has_mark_past_first b.items)) [
          | inr unmarked ↦ normalized_is_choices b of_b unmarked ∙ ap choices same ∙ sym (normalized_is_choices c of_c (alike ∙ unmarked))
          | inl marked ↦
              elim (cases_Bool rules.recomposes) [
                | inr leaves ↦ normalized_is_ordered b leaves ∙ ordered_by_characters b c of_b of_c marked same
                    ∙ sym (normalized_is_ordered c leaves)
                | inl composes ↦
                    normalized_is_recomposed b of_b marked composes
                    ∙ ap (recomposed_text rules) (ordered_by_characters b c of_b of_c marked same)
                    ∙ sym (normalized_is_recomposed c of_c (alike ∙ marked) composes)
              ]
        ]
