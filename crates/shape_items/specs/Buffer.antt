-- A buffer as its callers see it.
use Rattle.std.specs.Prelude.{ℕ, ◌+◌, ◌*◌, ◌%◌, min, max, List, [], Option, None, unwrap_or}
use Rattle.shape_items.specs.Items.{Item}
use Rattle.shape_common.specs.declared.positions.GlyphPosition.{GlyphPosition}
use Rattle.shape_common.specs.declared.text_types.Direction.{Direction}
use Rattle.shape_common.specs.declared.text_types.Direction.TheVariants.{Invalid}
use Rattle.shape_common.specs.declared.text_types.BufferClusterLevel.{BufferClusterLevel}
use Rattle.shape_common.specs.declared.text_types.BufferClusterLevel.TheVariants.{MonotoneGraphemes}
use Rattle.shape_common.specs.declared.text_types.Script.{Script}
use Rattle.shape_common.specs.declared.text_types.GlyphId.{GlyphId}
use Rattle.shape_common.specs.declared.flags.BufferFlags.{BufferFlags}
use Rattle.shape_common.specs.declared.flags.ScratchFlags.{ScratchFlags}

-- the items with their positions, and the settings; a language is the bytes of its name
pub record Buffer : Type 0 where
  pub items : List Item
  pub positions : List GlyphPosition
  pub direction : Direction
  pub script : Option Script
  pub language : Option (List ℕ)
  pub flags : BufferFlags
  pub cluster_level : BufferClusterLevel
  pub invisible_glyph : Option GlyphId
  pub not_found_variation_selector_glyph : Option GlyphId
  pub scratch_flags : ScratchFlags
  pub length_limit : Option ℕ
  -- what lookups may still ask for, in units of about one look at a glyph
  pub max_ops : ℕ
  -- the ligature id that was given last, 0 for none
  pub serial : ℕ
  pub pre_context : List ℕ
  pub post_context : List ℕ

-- the greatest number that can be counted
abbrev pub most_countable : ℕ
most_countable = 18446744073709551615

-- a buffer as it is made
abbrev pub new_buffer : Buffer
new_buffer = record {
  items = [];
  positions = [];
  direction = Invalid;
  script = None;
  language = None;
  flags = record { 0 = 0 };
  cluster_level = MonotoneGraphemes;
  invisible_glyph = None;
  not_found_variation_selector_glyph = None;
  scratch_flags = record { 0 = 0 };
  length_limit = None;
  max_ops = most_countable;
  serial = 0;
  pre_context = [];
  post_context = [];
}

-- the buffer without its text: flags, level and the two glyph settings stay
abbrev pub cleared : Buffer → Buffer
cleared b = record b {
  items = [];
  positions = [];
  direction = Invalid;
  script = None;
  language = None;
  scratch_flags = record { 0 = 0 };
  length_limit = None;
  max_ops = most_countable;
  serial = 0;
  pre_context = [];
  post_context = [];
}

-- the ligature id after that one: from 1 to 7, and from 1 again
abbrev pub next_ligature_id : ℕ → ℕ
next_ligature_id serial = serial % 7 + 1

-- a run may make so many items of each that it began with
abbrev pub MAX_LEN_FACTOR : ℕ
MAX_LEN_FACTOR = 64

-- and so many, however few it began with
abbrev pub MAX_LEN_MIN : ℕ
MAX_LEN_MIN = 16384

-- the most items that a buffer takes: all that can be counted if there is no limit
abbrev pub limit_of : Buffer → ℕ
limit_of b = unwrap_or b.length_limit most_countable

-- the limit of a run that begins with n items; the product stays at the greatest number that can be counted
abbrev pub run_limit : ℕ → ℕ
run_limit n = max (min (n * MAX_LEN_FACTOR) most_countable) MAX_LEN_MIN

-- the lookups of a run may ask for so much for each item that it began with
abbrev pub MAX_OPS_FACTOR : ℕ
MAX_OPS_FACTOR = 40960

-- and for so much, however few it began with
abbrev pub MAX_OPS_MIN : ℕ
MAX_OPS_MIN = 2621440

-- the work of a run that begins with n items; the product stays at the greatest number that can be counted
abbrev pub run_ops : ℕ → ℕ
run_ops n = max (min (n * MAX_OPS_FACTOR) most_countable) MAX_OPS_MIN
