-- Brackets and quotation marks that pair. UAX 24, 5.1: "opening and closing elements of a pair resolve to the same Script property
-- values, where possible".
use Rattle.std.specs.Prelude.{ℕ, ◌==◌, ◌||◌, Bool, List, [], ◌∷◌, Option, None, Some, option_map, if◌then◌else◌}
use Rattle.std.specs.List.{find, list_any}
use Rattle.bidi.specs.Brackets.{opening_bracket, closing_bracket}
use Rattle.text_items.specs.declared.pairs.TheConstants.{MARK_PAIRS}
use Rattle.text_items.specs.declared.pairs.Open.{Open}
use Rattle.text_items.specs.declared.pairs.Side.{Side}
use Rattle.text_items.specs.declared.pairs.Side.TheVariants.{Opens, Closes, Neither}

-- quotation marks, and the signs < and >
abbrev pub closing_mark : ℕ → Option ℕ
closing_mark c = option_map (λ (pair : ℕ × ℕ). pair.1) (find (λ (pair : ℕ × ℕ). pair.0 == c) MARK_PAIRS)

abbrev pub closes_mark : ℕ → Bool
closes_mark c = list_any (λ (pair : ℕ × ℕ). pair.1 == c) MARK_PAIRS

abbrev pub mark_side : ℕ → Side
mark_side c = elim (closing_mark c) [
  | Some closing ↦ Opens closing
  | None ↦ if closes_mark c then Closes c else Neither
]

-- the characters of ASCII that are of pairs
abbrev pub is_ascii_pair : ℕ → Bool
is_ascii_pair c = (c == 0x28) || ((c == 0x29) || ((c == 0x3C) || ((c == 0x3E) || ((c == 0x5B) || ((c == 0x5D) || ((c == 0x7B) || (c == 0x7D)))))))

-- what a character is to the pairing: brackets are those of UAX 9 (BD14, BD15), canonical equivalents one
abbrev pub side_of : ℕ → Side
side_of c = elim (opening_bracket c) [
  | Some closing ↦ Opens closing
  | None ↦ elim (closing_bracket c) [
    | Some closing ↦ Closes closing
    | None ↦ mark_side c
  ]
]

-- from the last bracket that is closed on down, the last one first
abbrev pub from_match : ℕ → List Open → List Open
from_match closing [] = []
from_match closing (entry ∷ below) = if entry.closing == closing then entry ∷ below else from_match closing below
