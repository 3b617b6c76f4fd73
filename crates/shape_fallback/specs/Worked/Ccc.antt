-- Ccc that marks are placed by, worked out by hand.
use Rattle.std.specs.Prelude.{◌≡◌, ℕ, [], ◌∷◌, map, refl}
use Rattle.shape_items.specs.Items.{Item, new_item}
use Rattle.shape_common.specs.declared.general_category.hb_unicode_general_category_t.{hb_unicode_general_category_t}
use Rattle.shape_common.specs.declared.general_category.hb_unicode_general_category_t.TheVariants.{NonspacingMark, SpacingMark, EnclosingMark}
use Rattle.shape_fallback.specs.Ccc.{ccc_in_thai_or_lao, recategorized_ccc, fallback_ccc}
use Rattle.shape_fallback.specs.Recategorized.{is_nonspacing, recategorized_item}

-- what marks of ccc 0 become, by their characters: rows of the two scripts, and the characters beside them
pub record CccInThaiAndLao : Type 0 where
  pub thai : map (λ c. ccc_in_thai_or_lao c 0) (0xE31 ∷ 0xE34 ∷ 0xE35 ∷ 0xE36 ∷ 0xE37 ∷ 0xE47 ∷ 0xE4C ∷ 0xE4D ∷ 0xE4E ∷ [])
      ≡ 232 ∷ 232 ∷ 232 ∷ 232 ∷ 232 ∷ 232 ∷ 232 ∷ 232 ∷ 232 ∷ []
  pub beside_thai : map (λ c. ccc_in_thai_or_lao c 0) (0xE30 ∷ 0xE32 ∷ 0xE33 ∷ 0xE38 ∷ 0xE3A ∷ 0xE46 ∷ 0xE48 ∷ 0xE4B ∷ 0xE4F ∷ [])
      ≡ 0 ∷ 0 ∷ 0 ∷ 0 ∷ 0 ∷ 0 ∷ 0 ∷ 0 ∷ 0 ∷ []
  pub lao : map (λ c. ccc_in_thai_or_lao c 0) (0xEB1 ∷ 0xEB4 ∷ 0xEB5 ∷ 0xEB6 ∷ 0xEB7 ∷ 0xEBB ∷ 0xECC ∷ 0xECD ∷ 0xEBC ∷ [])
      ≡ 230 ∷ 230 ∷ 230 ∷ 230 ∷ 230 ∷ 230 ∷ 230 ∷ 230 ∷ 220 ∷ []
  pub beside_lao : map (λ c. ccc_in_thai_or_lao c 0) (0xEB0 ∷ 0xEB2 ∷ 0xEB3 ∷ 0xEB8 ∷ 0xEBA ∷ 0xEBD ∷ 0xECB ∷ 0xECE ∷ 0x301 ∷ [])
      ≡ 0 ∷ 0 ∷ 0 ∷ 0 ∷ 0 ∷ 0 ∷ 0 ∷ 0 ∷ 0 ∷ []
  -- U+0E3A gets another ccc unless its own is 0, the other characters only if theirs is
  pub virama : map (ccc_in_thai_or_lao 0xE3A) (1 ∷ 3 ∷ 9 ∷ []) ≡ 222 ∷ 222 ∷ 222 ∷ []
  pub with_cccs : map (λ c. ccc_in_thai_or_lao c 107) (0xE31 ∷ 0xEB1 ∷ 0xEBC ∷ 0xE39 ∷ 0xE3B ∷ []) ≡ 107 ∷ 107 ∷ 107 ∷ 107 ∷ 107 ∷ []

cccs_in_thai_and_lao : CccInThaiAndLao
cccs_in_thai_and_lao = record { thai = refl; beside_thai = refl; lao = refl; beside_lao = refl; virama = refl; with_cccs = refl }

-- what each modified ccc becomes, and the numbers beside them
pub record CccOfOtherScripts : Type 0 where
  pub first : map recategorized_ccc (0 ∷ 1 ∷ 2 ∷ 3 ∷ 4 ∷ 8 ∷ 9 ∷ []) ≡ 0 ∷ 1 ∷ 2 ∷ 222 ∷ 4 ∷ 8 ∷ 9 ∷ []
  pub from_10 : map recategorized_ccc (10 ∷ 11 ∷ 12 ∷ 13 ∷ 14 ∷ []) ≡ 232 ∷ 228 ∷ 12 ∷ 214 ∷ 228 ∷ []
  pub from_15 : map recategorized_ccc (15 ∷ 16 ∷ 17 ∷ 18 ∷ 19 ∷ 20 ∷ 21 ∷ 22 ∷ 23 ∷ 24 ∷ 25 ∷ [])
      ≡ 220 ∷ 220 ∷ 220 ∷ 220 ∷ 220 ∷ 220 ∷ 220 ∷ 220 ∷ 220 ∷ 220 ∷ 220 ∷ []
  pub from_26 : map recategorized_ccc (26 ∷ 27 ∷ 28 ∷ 29 ∷ 30 ∷ 31 ∷ 32 ∷ 33 ∷ 34 ∷ 35 ∷ 36 ∷ 37 ∷ [])
      ≡ 230 ∷ 230 ∷ 230 ∷ 230 ∷ 220 ∷ 230 ∷ 230 ∷ 220 ∷ 230 ∷ 230 ∷ 230 ∷ 37 ∷ []
  pub from_103 : map recategorized_ccc (103 ∷ 106 ∷ 107 ∷ 108 ∷ 117 ∷ 118 ∷ 119 ∷ 121 ∷ 122 ∷ 123 ∷ [])
      ≡ 103 ∷ 106 ∷ 232 ∷ 108 ∷ 117 ∷ 220 ∷ 119 ∷ 121 ∷ 230 ∷ 123 ∷ []
  pub from_128 : map recategorized_ccc (128 ∷ 129 ∷ 130 ∷ 131 ∷ 132 ∷ 133 ∷ 199 ∷ []) ≡ 128 ∷ 220 ∷ 130 ∷ 220 ∷ 230 ∷ 133 ∷ 199 ∷ []

cccs_of_other_scripts : CccOfOtherScripts
cccs_of_other_scripts = record { first = refl; from_10 = refl; from_15 = refl; from_26 = refl; from_103 = refl; from_128 = refl }

-- both rules, and the bound 200
pub record FallbackCcc : Type 0 where
  pub sara_i : fallback_ccc 0xE34 0 ≡ 232
  pub phinthu : fallback_ccc 0xE3A 3 ≡ 222
  pub other_3 : fallback_ccc 0x301 3 ≡ 222
  pub ccc_13 : fallback_ccc 0x5BF 13 ≡ 214
  pub ccc_12 : fallback_ccc 0x5BC 12 ≡ 12
  pub ccc_199 : fallback_ccc 0x301 199 ≡ 199
  pub from_200 : map (fallback_ccc 0xE3A) (200 ∷ 202 ∷ 214 ∷ 230 ∷ 234 ∷ 255 ∷ []) ≡ 200 ∷ 202 ∷ 214 ∷ 230 ∷ 234 ∷ 255 ∷ []

fallback_cccs : FallbackCcc
fallback_cccs = record { sara_i = refl; phinthu = refl; other_3 = refl; ccc_13 = refl; ccc_12 = refl; ccc_199 = refl; from_200 = refl }

-- a character of a category and a ccc
abbrev pub worked_mark : ℕ → hb_unicode_general_category_t → ℕ → Item
worked_mark c category ccc =
    let item = new_item c 0 in
    record item { properties = record item.properties { general_category = category; modified_ccc = ccc } }

-- only nonspacing marks change
pub record RecategorizedItems : Type 0 where
  pub nonspacing : recategorized_item (worked_mark 0xE34 NonspacingMark 0) ≡ worked_mark 0xE34 NonspacingMark 232
  pub spacing : recategorized_item (worked_mark 0xE34 SpacingMark 0) ≡ worked_mark 0xE34 SpacingMark 0
  pub enclosing : recategorized_item (worked_mark 0x20DD EnclosingMark 13) ≡ worked_mark 0x20DD EnclosingMark 13

recategorized_items : RecategorizedItems
unfolding recategorized_item is_nonspacing
recategorized_items = record { nonspacing = refl; spacing = refl; enclosing = refl }

pub record WorkedCcc : Type 0 where
  pub thai_and_lao : CccInThaiAndLao
  pub other_scripts : CccOfOtherScripts
  pub both : FallbackCcc
  pub items : RecategorizedItems

pub worked_cccs : WorkedCcc
worked_cccs =
    record { thai_and_lao = cccs_in_thai_and_lao; other_scripts = cccs_of_other_scripts; both = fallback_cccs; items = recategorized_items }
