-- What a kind of subtable with a state table does by an entry at a place of a list.
use Rattle.std.specs.Prelude.{ℕ}
use Rattle.shape_items.specs.Buffer.{Buffer}
use Rattle.apple_tables.specs.declared.states.Entry.{Entry}

-- a list, and what the kind of subtable remembers from glyph to glyph
pub record Spot (T : Type 0) : Type 0 where
  pub buffer : Buffer
  pub memory : T

pub record Deeds (T : Type 0) : Type 0 where
  pub transition : Entry → ℕ → Spot T → Spot T
