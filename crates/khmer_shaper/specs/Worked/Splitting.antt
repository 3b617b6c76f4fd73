-- Vowels of two parts, and what is composed.
use Rattle.std.specs.Prelude.{◌≡◌, ◌==◌, ◌||◌, Some, None, if◌then◌else◌, [], ◌∷◌, map, refl}
use Rattle.shape_common.specs.PlainUnicode.{plain_unicode}
use Rattle.shape_common.specs.Unicode.{UnicodeMeaning}
use Rattle.shape_common.specs.declared.general_category.hb_unicode_general_category_t.TheVariants.{NonspacingMark, OtherLetter}
use Rattle.khmer_shaper.specs.Splitting.{split, height, compose_letters}

-- a and acute make one character, and so do grave and acute, which are marks; the first splits, and U+17C1
abbrev unicode : UnicodeMeaning
unicode = record plain_unicode {
  category = λ c. if (c == 0x300) || (c == 0x301) then NonspacingMark else OtherLetter;
  compose = λ a b. if b == 0x301 then (if a == 0x61 then Some 0xE1 else if a == 0x300 then Some 0x302 else None) else None;
  split = λ c. if c == 0xE1 then Some (0x61, 0x301) else if c == 0x17C1 then Some (0x61, 0x62) else None;
}

pub record WorkedSplitting : Type 0 where
  -- OE, YA, IE, OO and AU begin with E; the second part is the vowel itself
  pub of_two : map (split unicode) (0x17BE ∷ 0x17BF ∷ 0x17C0 ∷ 0x17C4 ∷ 0x17C5 ∷ [])
      ≡ Some (0x17C1, 0x17BE) ∷ Some (0x17C1, 0x17BF) ∷ Some (0x17C1, 0x17C0) ∷ Some (0x17C1, 0x17C4) ∷ Some (0x17C1, 0x17C5) ∷ []
  -- AE, AI and E itself don't, and others split as Unicode has it
  pub whole : map (split unicode) (0x17C2 ∷ 0x17C3 ∷ 0x17C1 ∷ 0xE1 ∷ []) ≡ None ∷ None ∷ None ∷ Some (0x61, 0x301) ∷ []
  -- a letter and a mark are composed as Unicode has it, two marks aren't
  pub composed : compose_letters unicode 0x61 0x301 ≡ Some 0xE1
  pub other : compose_letters unicode 0x62 0x301 ≡ None
  pub marks : compose_letters unicode 0x300 0x301 ≡ None
  -- what splitting falls along: E, the five vowels, all others
  pub heights : map (height unicode) (0x17C1 ∷ 0x17BE ∷ 0x17C5 ∷ 0x61 ∷ []) ≡ 0 ∷ 1 ∷ 1 ∷ 2 ∷ []

pub worked_splitting : WorkedSplitting
worked_splitting = record {
  of_two = refl;
  whole = refl;
  composed = refl;
  other = refl;
  marks = refl;
  heights = refl;
}
