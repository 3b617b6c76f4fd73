-- What a driver of a state table goes by: where it stands, what a kind of subtable does there, and what the table says.
use Rattle.std.specs.Prelude.{ℕ, Bool}
use Rattle.shape_items.specs.Buffer.{Buffer}
use Rattle.apple_tables.specs.declared.states.Entry.{Entry}

-- a list, the place of the current glyph in it, which is the length of the list at the end of the text, and what the kind of
-- subtable remembers
pub record Spot (T : Type 0) : Type 0 where
  pub buffer : Buffer
  pub at : ℕ
  pub memory : T

-- a kind of subtable: whether an entry does anything, at the end of the text or before it, and what it does
pub record Actions (T : Type 0) : Type 0 where
  pub is_actionable : Bool → T → Entry → Bool
  pub transition : Entry → Spot T → Spot T

-- what a state table says: the class of a glyph, and the entry for a class in a state; and whether features have the subtable on in
-- a cluster
pub record Rules : Type 0 where
  pub class : ℕ → ℕ
  pub entry : ℕ → ℕ → Entry
  pub is_on : ℕ → Bool
