-- A string as a text, and what is known of its glyphs.
use Rattle.std.specs.Prelude.{◌≡◌, ◌<◌, ◌≤◌, ◌*◌, ℕ, false, List, [], length, replicate, Contains}
use Rattle.std.specs.List.Sorted.{IsNonDecreasing}
use Rattle.std.specs.Str.{IsCharBoundary, chars}
use Rattle.shape_items.specs.Buffer.{Buffer, new_buffer}
use Rattle.shape_items.specs.ClusterOrder.{IsOrderedFor}
use Rattle.shape_items.specs.Clusters.{clusters}
use Rattle.shape_items.specs.Flags.{HasOneSetOfFlags}
use Rattle.shape_items.specs.PreservesFlags.{some_has}
use Rattle.shape_common.specs.Direction.{is_backward}
use Rattle.shape_common.specs.FlagNames.{UNSAFE_TO_CONCAT}
use Rattle.shape_common.specs.Positions.{zero_position}
use Rattle.shape_common.specs.Unicode.{UnicodeMeaning}
use Rattle.shape_buffer.specs.Guess.{first_script, script_or_ltr}
use Rattle.shape_buffer.specs.Text.{text_items}

-- a place of a string: below its end, and there it may be cut
pub record IsPlaceIn (bytes : List ℕ) (place : ℕ) : Type 0 where
  pub within : place < length bytes
  pub boundary : IsCharBoundary bytes place

-- a buffer has the characters of a string, in clusters that are their places and never fall, and all else as a new one
-- has it
pub record IsTextOf (bytes : List ℕ) (text : Buffer) : Type 0 where
  pub items : text.items ≡ text_items bytes
  pub rest : record text { items = []; positions = [] } ≡ new_buffer
  pub rising : IsNonDecreasing (clusters text.items)
  pub places : (k : ℕ) → Contains (clusters text.items) k → IsPlaceIn bytes k

-- the text of a string: its characters, nothing else set
unfoldable pub string_text : List ℕ → Buffer
string_text bytes = record new_buffer { items = text_items bytes; positions = replicate (length (text_items bytes)) zero_position }

-- the glyphs of a string run in the direction of its script, their clusters are places of the string in the order in which
-- they run, each with one set of flags, none is unsafe to concat, and there are at most 64 for each character, or 16384
pub record AreGlyphsOfString (unicode : UnicodeMeaning) (bytes : List ℕ) (glyphs : Buffer) : Type 0 where
  pub direction : glyphs.direction ≡ script_or_ltr unicode (first_script unicode (text_items bytes))
  pub places : (k : ℕ) → Contains (clusters glyphs.items) k → IsPlaceIn bytes k
  pub ordered : IsOrderedFor (is_backward glyphs.direction) (clusters glyphs.items)
  pub one_set : HasOneSetOfFlags glyphs.items
  pub concat : some_has UNSAFE_TO_CONCAT glyphs.items ≡ false
  pub few : length (chars bytes) ≤ 256 → length glyphs.items ≤ 16384
  pub many : 256 ≤ length (chars bytes) → length glyphs.items ≤ length (chars bytes) * 64
