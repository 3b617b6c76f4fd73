-- Characters that no table has to be searched for.
use Rattle.std.proofs.Common.{◌≡◌, ℕ, ◌<◌, ◌&&◌, ◌||◌, Bool, true, false, List, [], ◌∷◌, refl, ap, ◌∙◌, arith, leb-true}
use Rattle.std.specs.Prelude.{nat_le}
use Rattle.std.specs.List.{list_all}
use Rattle.std.proofs.lemmas.Bool.{and_parts, lt-leb}
use Rattle.ucd_bidi.proofs.Computing.{ucd_bidi}
use Rattle.ucd_emoji.specs.Binary.{is_emoji_presentation}
use Rattle.ucd_emoji.specs.Ranges.{emoji_presentation_ranges}
use Rattle.ucd_table.specs.Rows.{Range, in_ranges}
use Rattle.ucd_table.proofs.Computing.{tables}
use Rattle.ucd_table.proofs.TrieCheck.{all_below, all_below-at}
use Rattle.text_items.specs.Pairs.{is_ascii_pair, side_of}
use Rattle.text_items.specs.declared.pairs.Side.{Side}
use Rattle.text_items.specs.declared.pairs.Side.TheVariants.{Closes, Neither, Opens}

abbrev is_neither : Side → Bool
is_neither (Opens c) = false
is_neither (Closes c) = false
is_neither Neither = true

neither_is : (side : Side) → is_neither side ≡ true → side ≡ Neither
neither_is (Opens c) h = cc
neither_is (Closes c) h = cc
neither_is Neither h = refl

or_other : (a b : Bool) → a ≡ false → (a || b) ≡ true → b ≡ true
or_other true b off h = cc
or_other false b off h = h

-- the other characters of ASCII are of no pair
all_ascii : all_below (λ c. is_ascii_pair c || is_neither (side_of c)) 128 ≡ true
unfolding ucd_bidi tables
all_ascii = refl

pub ascii_neither : (c : ℕ) → c < 128 → is_ascii_pair c ≡ false → side_of c ≡ Neither
ascii_neither c lt off =
    neither_is (side_of c) (or_other (is_ascii_pair c) (is_neither (side_of c)) off (all_below-at (λ x. is_ascii_pair x || is_neither (side_of x)) 128 c all_ascii lt))

none_below : (ranges : List Range) (n c : ℕ) → list_all (λ (r : Range). nat_le n r.0) ranges ≡ true → c < n → in_ranges ranges c ≡ false
unfolding in_ranges
none_below [] n c h lt = refl
none_below (r ∷ ranges) n c h lt =
    let parts = and_parts (nat_le n r.0) (list_all (λ (q : Range). nat_le n q.0) ranges) h in
    let from = leb-true n r.0 parts.0 in
    ap (λ b. (b && nat_le c r.1) || in_ranges ranges c) (lt-leb r.0 c (omega arith)) ∙ none_below ranges n c parts.1 lt

from_the_first : list_all (λ (r : Range). nat_le 0x231A r.0) emoji_presentation_ranges ≡ true
unfolding emoji_presentation_ranges
from_the_first = refl

-- WATCH is the first emoji that is one by default
pub no_emoji : (c : ℕ) → c < 0x231A → is_emoji_presentation c ≡ false
unfolding is_emoji_presentation
no_emoji c lt = none_below emoji_presentation_ranges 0x231A c from_the_first lt
