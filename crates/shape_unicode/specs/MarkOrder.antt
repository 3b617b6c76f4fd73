-- The order that shaping puts marks in, if it is not that of combining classes: by the marks themselves.
use Rattle.std.specs.Prelude.{◌≡◌, ◌≢◌, ◌<◌, ℕ, nat_lt, ◌&&◌, Bool, true, List, [], ◌∷◌}
use Rattle.shape_unicode.specs.Ccc.{modified_ccc_of}

-- the ccc of each is above n and the ccc of the one before it
abbrev pub rises_above : (ℕ → ℕ) → ℕ → List ℕ → Bool
rises_above ccc n [] = true
rises_above ccc n (c ∷ rest) = nat_lt n (ccc c) && rises_above ccc (ccc c) rest

-- the dots of shin and sin, dagesh, rafe, holam; hataf segol, patah and qamats, tsere, segol, patah, qamats, sheva,
-- hiriq, qubuts; meteg
abbrev pub hebrew_marks : List ℕ
hebrew_marks =
    0x5C1 ∷ 0x5C2 ∷ 0x5BC ∷ 0x5BF ∷ 0x5B9
    ∷ 0x5B1 ∷ 0x5B2 ∷ 0x5B3 ∷ 0x5B5 ∷ 0x5B6 ∷ 0x5B7 ∷ 0x5B8 ∷ 0x5B0 ∷ 0x5B4 ∷ 0x5BB ∷ 0x5BD ∷ []

-- shadda; fathatan, dammatan, kasratan, fatha, damma, kasra; sukun, superscript alef
abbrev pub arabic_marks : List ℕ
arabic_marks = 0x651 ∷ 0x64B ∷ 0x64C ∷ 0x64D ∷ 0x64E ∷ 0x64F ∷ 0x650 ∷ 0x652 ∷ 0x670 ∷ []

-- the two length marks, then the halant
abbrev pub telugu_marks : List ℕ
telugu_marks = 0xC55 ∷ 0xC56 ∷ 0xC4D ∷ []

-- the vowel sign u, then the phinthu
abbrev pub thai_marks : List ℕ
thai_marks = 0xE38 ∷ 0xE3A ∷ []

-- the tsa phru, then the vowel signs aa, u and i
abbrev pub tibetan_marks : List ℕ
tibetan_marks = 0xF39 ∷ 0xF71 ∷ 0xF74 ∷ 0xF72 ∷ []

-- the marks of each script have ccc, in that order; U+0FC6 and U+1A60 come after every other mark
pub record MarksAreInOrder : Type 0 where
  pub hebrew : rises_above modified_ccc_of 0 hebrew_marks ≡ true
  pub arabic : rises_above modified_ccc_of 0 arabic_marks ≡ true
  pub telugu : rises_above modified_ccc_of 0 telugu_marks ≡ true
  pub thai : rises_above modified_ccc_of 0 thai_marks ≡ true
  pub tibetan : rises_above modified_ccc_of 0 tibetan_marks ≡ true
  pub last : (c : ℕ) → c ≢ 0xFC6 → c ≢ 0x1A60 → (modified_ccc_of c < modified_ccc_of 0xFC6) × (modified_ccc_of c < modified_ccc_of 0x1A60)
