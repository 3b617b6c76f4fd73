-- Syllables numbered by hand. A byte is 16 times the number, and the kind.
use Rattle.std.specs.Prelude.{◌≡◌, ℕ, List, [], ◌∷◌, map, replicate, refl}
use Rattle.syllables.specs.Grammar.{first_syllable}
use Rattle.syllables.specs.IndicCategories.{C, H, VAbv, X}
use Rattle.syllables.specs.KhmerGrammar.{khmer_grammar}
use Rattle.syllabic.specs.Scanning.{Cut, syllables_numbered}
use Rattle.syllabic.specs.Walking.{syllable_of}
use Rattle.syllabic.specs.Worked.Items.{of_category, buffer}

-- the bytes of a text of these categories
abbrev bytes : Cut → ℕ → List ℕ → List ℕ
bytes cut skipped categories = map syllable_of (syllables_numbered cut skipped (buffer (map of_category categories))).items

-- syllables of one kind, two or one at a time
abbrev by_two : Cut
by_two xs = record { kind = 3; count = 2 }

abbrev by_one : Cut
by_one xs = record { kind = 1; count = 1 }

-- consonants with their signs, and broken and other syllables
abbrev khmer : Cut
khmer = first_syllable khmer_grammar 2

pub record WorkedNumbering : Type 0 where
  -- the last syllable has what is there
  pub two : bytes by_two 0 (replicate 5 0) ≡ 0x13 ∷ 0x13 ∷ 0x23 ∷ 0x23 ∷ 0x33 ∷ []
  -- those at the beginning that are in no syllable
  pub skipped : bytes by_two 1 (replicate 4 0) ≡ 0 ∷ 0x13 ∷ 0x13 ∷ 0x23 ∷ []
  pub all_skipped : bytes by_two 3 (replicate 2 0) ≡ 0 ∷ 0 ∷ []
  pub none : bytes by_two 0 [] ≡ []
  -- 1 comes after 15
  pub round : bytes by_one 0 (replicate 17 0)
      ≡ 0x11 ∷ 0x21 ∷ 0x31 ∷ 0x41 ∷ 0x51 ∷ 0x61 ∷ 0x71 ∷ 0x81 ∷ 0x91 ∷ 0xA1 ∷ 0xB1 ∷ 0xC1 ∷ 0xD1 ∷ 0xE1 ∷ 0xF1 ∷ 0x11 ∷ 0x21 ∷ []
  -- by a grammar: each is the first one of what is left
  pub by_grammar : bytes khmer 0 (C ∷ H ∷ C ∷ VAbv ∷ VAbv ∷ X ∷ C ∷ []) ≡ 0x10 ∷ 0x10 ∷ 0x10 ∷ 0x10 ∷ 0x21 ∷ 0x32 ∷ 0x40 ∷ []

pub worked_numbering : WorkedNumbering
worked_numbering = record {
  two = refl;
  skipped = refl;
  all_skipped = refl;
  none = refl;
  round = refl;
  by_grammar = refl;
}
