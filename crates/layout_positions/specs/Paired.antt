-- What a walk knows of pairs of glyphs: what the lookup has for them.
use Rattle.std.specs.Prelude.{◌≡◌, ℕ, ℤ, Bool, true, false, Option, Some, None, ◌+◌, nat_eq, if◌then◌else◌}
use Rattle.std.specs.Option.{option_and_then, option_map, option_map_or}
use Rattle.shape_font.specs.Bytes.{u16_of}
use Rattle.shape_items.specs.Buffer.{Buffer}
use Rattle.layout_matching.specs.Skipping.{nth}
use Rattle.layout_matching.specs.declared.lookup.Lookup.{Lookup}
use Rattle.layout_positions.specs.Anchors.{number_at}
use Rattle.layout_positions.specs.Edits.{asks_for_concat}
use Rattle.layout_positions.specs.Lookups.{Applied, unapplied, glyph_after}
use Rattle.layout_positions.specs.Pairs.{has_pairs, pair_of, pair_put, values_of, advance_values}
use Rattle.layout_positions.specs.Subtables.{Placing, Trial, trial_of, trial_step, lookup_placed}
use Rattle.layout_positions.specs.declared.bases.BaseSeen.{BaseSeen}
use Rattle.layout_positions.specs.declared.paired.FoundPair.{FoundPair}
use Rattle.layout_positions.specs.declared.paired.KnownPair.{KnownPair}
use Rattle.layout_positions.specs.declared.paired.PairFound.{PairFound}
use Rattle.layout_positions.specs.declared.paired.PairFound.TheVariants.{Plain, Other}
use Rattle.layout_positions.specs.declared.paired.PlainPair.{PlainPair}
use Rattle.layout_positions.specs.declared.pairs.PairRecords.{PairRecords}

-- what a subtable has for two glyphs, of which it lists the first one
abbrev pub pair_in : Lookup → ℕ → ℕ → ℕ → Option FoundPair
pair_in l start left right = if has_pairs l.table.now start
    then option_map (λ values. record { listed = nat_eq (u16_of l.table.now start) 1; values = values })
    (option_and_then (λ number. pair_of l start number left right) (number_at l.table.now start (start + 2) left))
    else None

-- the same, by the number of the first one
abbrev pub pair_numbered : Lookup → ℕ → ℕ → ℕ → ℕ → Option FoundPair
pair_numbered l start left right number =
    option_map (λ values. record { listed = nat_eq (u16_of l.table.now start) 1; values = values }) (pair_of l start number left right)

-- what the records of a pair say
abbrev pub found_there : Lookup → Bool → PairRecords → FoundPair
found_there l listed r = record { listed = listed; values = values_of l r }

-- two glyphs adjusted as it was found for them
abbrev pub found_put : ℕ → ℕ → Buffer → Option FoundPair → Applied
found_put i j b found = option_map_or (λ f. pair_put f.listed i j b f.values) found (unapplied b)

abbrev pub placed_as : BaseSeen → ℕ → Applied → Placing
placed_as seen left made = record { buffer = made.buffer; next = made.next; seen = seen; left = left }

-- the lookup sees the two glyphs beside each other, and nothing that it looks at is marked
pub record AreBeside (l : Lookup) (left right : ℕ) (b : Buffer) (i j : ℕ) : Type 0 where
  pub unasked : asks_for_concat b ≡ false
  pub left_is : (nth b.items i).glyph_id ≡ left
  pub next : glyph_after l b.items i ≡ Some j
  pub right_is : (nth b.items j).glyph_id ≡ right

-- the subtables before number `k` did nothing
abbrev pub untried : Buffer → BaseSeen → ℕ → ℕ → Trial
untried b seen rest k = record { buffer = b; next = None; seen = seen; left = rest; subtable = k }

-- this is what subtable `k` makes of the two glyphs
abbrev pub HasAt : Lookup → ℕ → ℕ → ℕ → Option FoundPair → Type 0
HasAt l left right k found = (b : Buffer) (i j : ℕ) (seen : BaseSeen) (rest : ℕ) → AreBeside l left right b i j
    → trial_step l i (untried b seen rest k) ≡ trial_of (untried b seen rest k) (placed_as seen rest (found_put i j b found))

-- and this the lookup
abbrev pub HasFor : Lookup → ℕ → ℕ → Option FoundPair → Type 0
HasFor l left right found = (b : Buffer) (i j : ℕ) (seen : BaseSeen) (rest : ℕ) → AreBeside l left right b i j
    → placed_as seen rest (found_put i j b found) ≡ lookup_placed l i rest seen b

-- a pair that changes the advance of its first glyph alone
abbrev pub advance_pair : Bool → ℤ → FoundPair
advance_pair listed x = record { listed = listed; values = advance_values x }

-- such a pair, or none
abbrev pub plain_found : PlainPair → Option FoundPair
plain_found p = if p.is_found then Some (advance_pair p.listed p.advance) else None

-- what was found for two glyphs
abbrev pub found_in : PairFound → Option FoundPair
found_in (Plain p) = plain_found p
found_in (Other f) = Some f

abbrev pub found_of : KnownPair → Option FoundPair
found_of known = if known.is_found then Some (advance_pair known.listed known.advance) else None

abbrev pub IsKnownPair : Lookup → KnownPair → Type 0
IsKnownPair l known = known.is_sought ≡ true → HasFor l known.left known.right (found_of known)
