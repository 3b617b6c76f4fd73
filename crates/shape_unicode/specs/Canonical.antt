-- When equivalence by shaping's ccc is canonical equivalence (UAX 15), which is by combining classes.
use Rattle.std.specs.Prelude.{◌≡◌, ℕ, ◌↔◌, not, is_some, Bool, true, List}
use Rattle.std.specs.List.{list_all}
use Rattle.ucd_normal.specs.CanonicalCombiningClass.{canonical_combining_class as ccc}
use Rattle.canonical_form.specs.Chain.{full_text}
use Rattle.canonical_form.specs.Decompositions.{Decompositions}
use Rattle.canonical_form.specs.Equivalent.{IsEquivalent}
use Rattle.shape_common.specs.Unicode.{decompositions_of}
use Rattle.shape_unicode.specs.Ccc.{ccc_by_character}
use Rattle.shape_unicode.specs.Meaning.{unicode_database}

-- the splits of the database, with shaping's combining classes
abbrev pub by_shaping : Decompositions
by_shaping = decompositions_of unicode_database

-- and with the combining classes of the database
abbrev pub by_database : Decompositions
by_database = record by_shaping { ccc = ccc }

-- a mark that has a ccc of its own
abbrev pub moves_otherwise : ℕ → Bool
moves_otherwise c = is_some (ccc_by_character c)

-- the text, once it is decomposed, has no such mark
abbrev pub HasUsualMarks : List ℕ → Type 0
HasUsualMarks text = list_all (λ c. not (moves_otherwise c)) (full_text by_shaping text) ≡ true

-- what is equivalent to such a text by shaping's ccc is canonically equivalent to it, and the other way round
abbrev pub EquivalenceIsCanonical : Type 0
EquivalenceIsCanonical = (s t : List ℕ) → HasUsualMarks s → IsEquivalent by_shaping s t ↔ IsEquivalent by_database s t
