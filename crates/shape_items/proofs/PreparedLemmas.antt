-- Prepared items: what being prepared depends on, and that properties of characters are enough for it.
use Rattle.std.proofs.Common.{◌≡◌, ℕ, ◌<◌, true, false, if◌then◌else◌, ◌&&◌, List, [], ◌∷◌, map, refl, sym, ◌∙◌, ap, subst, arith, inl, inr}
use Rattle.std.proofs.lemmas.Bool.{cases_Bool, cases_eq, cond-true, both_ways, and_from, and_right}
use Rattle.std.proofs.lemmas.Bool.Decides.{nat_tests}
use Rattle.std.specs.List.{AllByRecursion}
use Rattle.shape_common.specs.Category.{is_mark_category}
use Rattle.shape_items.specs.Items.{Item, char_of}
use Rattle.shape_items.specs.Prepared.{IsPreparedItem}
use Rattle.shape_common.specs.Unicode.{UnicodeMeaning, LawfulUnicode, is_mark}
use Rattle.shape_items.specs.UnicodeProps.{with_unicode_props, beyond_ascii}
use Rattle.shape_common.specs.declared.general_category.hb_unicode_general_category_t.{hb_unicode_general_category_t}
use Rattle.shape_items.proofs.Merging.KeyLemmas.{IsKey}

-- the same by recursion on the list, for proofs that go along it
abbrev pub ArePrepared : UnicodeMeaning → List Item → Type 0
ArePrepared unicode items = AllByRecursion (IsPreparedItem unicode) items

module _ (unicode : UnicodeMeaning) (lawful : LawfulUnicode unicode) where
  beyond : (c : ℕ) → is_mark unicode c ≡ true → beyond_ascii c ≡ true
  beyond c mark =
      elim (cases_Bool (beyond_ascii c)) [
        | inl past ↦ past
        | inr low ↦ let below : c < 128 = grind (arith, nat_tests) in absurd (both_ways _ (lawful.ascii_is_no_mark c below) mark)
      ]

  pub unmarked_ccc : (c : ℕ) → is_mark unicode c ≡ false → unicode.ccc c ≡ 0
  unmarked_ccc c no_mark =
      elim (cases_eq (unicode.ccc c) 0) [
        | inl none ↦ none
        | inr some ↦ absurd (both_ways _ no_mark (lawful.only_marks_have_ccc c some))
      ]

  -- an item that takes the properties of its character has its ccc
  pub ccc_with_props : (c : ℕ) → (if beyond_ascii c && is_mark unicode c then unicode.ccc c else 0) ≡ unicode.ccc c
  ccc_with_props c =
      elim (cases_Bool (is_mark unicode c)) [
        | inl mark ↦ cond-true _ (unicode.ccc c) 0 (and_from _ _ (beyond c mark) mark)
        | inr no_mark ↦
            ap (λ t. if t then unicode.ccc c else 0) (ap (λ t. beyond_ascii c && t) no_mark ∙ and_right (beyond_ascii c) false refl)
            ∙ sym (unmarked_ccc c no_mark)
      ]

  -- an item that takes the properties of its character is prepared
  pub prepared-with_props : (item : Item) → IsPreparedItem unicode (with_unicode_props unicode item)
  prepared-with_props item = record { mark = refl; ccc = ccc_with_props item.codepoint }

-- what being prepared depends on: the character, the ccc and the category
abbrev pub PreparedKey : Type 0
PreparedKey = ℕ × (ℕ × hb_unicode_general_category_t)

abbrev pub prepared_key : Item → PreparedKey
prepared_key item = (item.codepoint, (item.properties.modified_ccc, item.properties.general_category))

pub IsKey-prepared_key : IsKey prepared_key
IsKey-prepared_key = record { by_cluster = λ item cluster. refl; by_break = λ item. refl }

abbrev pub IsPreparedKey : UnicodeMeaning → PreparedKey → Type 0
IsPreparedKey unicode key = (is_mark_category key.1.1 ≡ is_mark unicode key.0) × (key.1.0 ≡ unicode.ccc key.0)

pub chars_of_keys : (items : List Item) → map (λ (key : PreparedKey). key.0) (map prepared_key items) ≡ map char_of items
chars_of_keys [] = refl
chars_of_keys (item ∷ items) = ap (λ l. item.codepoint ∷ l) (chars_of_keys items)

pub prepared_keys : (unicode : UnicodeMeaning) (items : List Item) → ArePrepared unicode items
    → AllByRecursion (IsPreparedKey unicode) (map prepared_key items)
prepared_keys unicode [] h = tt
prepared_keys unicode (item ∷ items) h = ((h.0.mark, h.0.ccc), prepared_keys unicode items h.1)

pub prepared_from_keys : (unicode : UnicodeMeaning) (items : List Item) → AllByRecursion (IsPreparedKey unicode) (map prepared_key items)
    → ArePrepared unicode items
prepared_from_keys unicode [] h = tt
prepared_from_keys unicode (item ∷ items) h = (record { mark = h.0.0; ccc = h.0.1 }, prepared_from_keys unicode items h.1)

-- what keeps these keys keeps a list prepared
pub prepared_by_keys : (unicode : UnicodeMeaning) (old new : List Item) → map prepared_key new ≡ map prepared_key old
    → ArePrepared unicode old → ArePrepared unicode new
prepared_by_keys unicode old new same h =
    prepared_from_keys unicode new (subst (AllByRecursion (IsPreparedKey unicode)) (sym same) (prepared_keys unicode old h))
