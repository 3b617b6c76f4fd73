-- The rows of texts by hand.
use Rattle.std.proofs.Common.{refl}
use Rattle.std.specs.Char.Utf16.{utf16_chars}
use Rattle.utf16_text.specs.Worked.Units.{WorkedItems, WorkedContexts, WorkedUnits}

items : WorkedItems
unfolding utf16_chars
items = record {
  none = refl;
  letters = refl;
  pair = refl;
  least_pair = refl;
  greatest_pair = refl;
  high_alone = refl;
  high_at_the_end = refl;
  low_at_the_end = refl;
  reversed = refl;
  two_high = refl;
  beside_surrogates = refl;
}

contexts : WorkedContexts
unfolding utf16_chars
contexts = record { before = refl; after = refl }

pub worked_units : WorkedUnits
worked_units = record { items = items; contexts = contexts }
