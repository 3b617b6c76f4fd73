-- Capitals that a feature is switched on for, worked out by hand.
use Rattle.std.specs.Prelude.{◌≡◌, ℕ, List, [], ◌∷◌, map, refl}
use Rattle.shape_buffer.specs.Walks.{items_mapped}
use Rattle.shape_items.specs.Buffer.{Buffer, new_buffer}
use Rattle.shape_items.specs.Items.{Item, new_item}
use Rattle.shape_users.specs.Capitals.{capitals_marked}
use Rattle.shape_users.specs.declared.capitals.TheConstants.{C2SC}

-- items of these characters, each with the mask 1
abbrev pub text : List ℕ → Buffer
text characters = record new_buffer { items = map (λ c. record (new_item c 0) { mask = 1 }) characters }

-- their masks once the bit 16 is set for capitals
abbrev pub masks : List ℕ → List ℕ
masks characters = map (λ (x : Item). x.mask) (capitals_marked 16 (text characters)).items

pub record WorkedCapitals : Type 0 where
  pub first_and_last : masks (0x41 ∷ 0x5A ∷ []) ≡ 17 ∷ 17 ∷ []
  pub beside_them : masks (0x40 ∷ 0x5B ∷ []) ≡ 1 ∷ 1 ∷ []
  pub small : masks (0x61 ∷ 0x7A ∷ []) ≡ 1 ∷ 1 ∷ []
  pub of_other_scripts : masks (0xC0 ∷ 0x391 ∷ []) ≡ 1 ∷ 1 ∷ []
  pub one_of_two : masks (0x61 ∷ 0x42 ∷ []) ≡ 1 ∷ 17 ∷ []
  -- `c2sc`
  pub feature : C2SC.0 ≡ 0x63327363

pub worked_capitals : WorkedCapitals
unfolding items_mapped
worked_capitals = record {
  first_and_last = refl;
  beside_them = refl;
  small = refl;
  of_other_scripts = refl;
  one_of_two = refl;
  feature = refl;
}
