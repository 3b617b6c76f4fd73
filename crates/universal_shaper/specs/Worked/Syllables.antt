-- The first syllables of texts, of each kind.
use Rattle.std.specs.Prelude.{◌≡◌, ℕ, List, [], ◌∷◌, map, refl}
use Rattle.syllables.specs.Grammar.{first_syllable}
use Rattle.syllables.specs.UniversalGrammar.{universal_grammar}
use Rattle.syllables.specs.declared.scanner.Syllable.{Syllable}
use Rattle.universal_shaper.specs.Categories.{category}

abbrev first : List ℕ → Syllable
first text = first_syllable universal_grammar 8 (map category text)

abbrev found : (count kind : ℕ) → Syllable
found count kind = record { count = count; kind = kind }

pub record WorkedSyllables : Type 0 where
  -- standard: KA of Javanese, with vowels, with a consonant below it, with a halant; the next letter begins another one
  pub base : first (0xA98F ∷ []) ≡ found 1 2
  pub vowels : first (0xA98F ∷ 0xA9BA ∷ 0xA9B8 ∷ 0xA98F ∷ []) ≡ found 3 2
  pub conjunct : first (0xA98F ∷ 0xA9C0 ∷ 0xA9A0 ∷ 0xA9B6 ∷ 0xA98F ∷ []) ≡ found 4 2
  pub halant : first (0xA98F ∷ 0xA9C0 ∷ []) ≡ found 2 2
  -- Tibetan, with a consonant below and a vowel; a repha before its base
  pub subjoined : first (0xF40 ∷ 0xF90 ∷ 0xF74 ∷ []) ≡ found 3 2
  pub repha : first (0x11D46 ∷ 0x11D0C ∷ 0x11D0C ∷ []) ≡ found 2 2
  -- ended by an invisible stacker of Chakma, or by a killer of Batak; before a letter the stacker joins
  pub stacker : first (0x11107 ∷ 0x11133 ∷ []) ≡ found 2 0
  pub killer : first (0x1BC2 ∷ 0x1BF2 ∷ []) ≡ found 2 0
  pub stacked : first (0x11107 ∷ 0x11133 ∷ 0x11107 ∷ []) ≡ found 3 2
  -- ended by sakot, of Tai Tham; before a letter it joins
  pub sakot : first (0x1A20 ∷ 0x1A60 ∷ []) ≡ found 2 1
  pub sakot_joins : first (0x1A20 ∷ 0x1A60 ∷ 0x1A20 ∷ []) ≡ found 3 2
  -- numbers of Brahmi: one, joined ones, and ended by a joiner
  pub number : first (0x11052 ∷ []) ≡ found 1 4
  pub numbers : first (0x11052 ∷ 0x1107F ∷ 0x11052 ∷ []) ≡ found 3 4
  pub number_joiner : first (0x11052 ∷ 0x1107F ∷ []) ≡ found 2 3
  -- a symbol of Balinese music with its mark; a Latin letter by itself; a space with a vowel sign
  pub symbol : first (0x1B61 ∷ 0x1B6B ∷ []) ≡ found 2 5
  pub latin : first (0x61 ∷ 0x62 ∷ []) ≡ found 1 5
  pub space : first (0xA0 ∷ 0xA9B8 ∷ []) ≡ found 2 2
  -- hieroglyphs: one, joined ones, one in a segment
  pub hieroglyph : first (0x13000 ∷ []) ≡ found 1 6
  pub hieroglyphs : first (0x13000 ∷ 0x13430 ∷ 0x13000 ∷ 0x13000 ∷ []) ≡ found 3 6
  pub segment : first (0x13437 ∷ 0x13000 ∷ 0x13438 ∷ 0x13000 ∷ []) ≡ found 3 6
  -- without a base: a vowel sign, a repha, a joiner of numbers
  pub broken : first (0xA9B8 ∷ 0xA98F ∷ []) ≡ found 1 7
  pub broken_repha : first (0x11D46 ∷ 0xA9B8 ∷ []) ≡ found 2 7
  pub broken_number : first (0x1107F ∷ 0x11052 ∷ []) ≡ found 2 7
  -- no cluster: a digit above the line alone, and what can't be seen
  pub final : first (0xB2 ∷ 0xA98F ∷ []) ≡ found 1 8
  pub unseen : first (0x2060 ∷ 0xA98F ∷ []) ≡ found 1 8
  -- ZWNJ ends a syllable, and alone is a broken one; ZWJ is passed inside of one, and goes with what stands before it
  pub zwnj : first (0xA98F ∷ 0x200C ∷ 0xA98F ∷ []) ≡ found 2 2
  pub zwnj_alone : first (0x200C ∷ 0xA98F ∷ []) ≡ found 1 7
  pub joiners : first (0xA98F ∷ 0x200D ∷ 0xA9C0 ∷ 0x200D ∷ 0xA9A0 ∷ 0x200D ∷ 0xA98F ∷ []) ≡ found 6 2

pub worked_syllables : WorkedSyllables
worked_syllables = record {
  base = refl;
  vowels = refl;
  conjunct = refl;
  halant = refl;
  subjoined = refl;
  repha = refl;
  stacker = refl;
  killer = refl;
  stacked = refl;
  sakot = refl;
  sakot_joins = refl;
  number = refl;
  numbers = refl;
  number_joiner = refl;
  symbol = refl;
  latin = refl;
  space = refl;
  hieroglyph = refl;
  hieroglyphs = refl;
  segment = refl;
  broken = refl;
  broken_repha = refl;
  broken_number = refl;
  final = refl;
  unseen = refl;
  zwnj = refl;
  zwnj_alone = refl;
  joiners = refl;
}
