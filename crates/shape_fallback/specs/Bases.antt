-- All bases of a buffer, and their marks.
use Rattle.std.specs.Prelude.{ℕ, pos, zero, suc, ◌+◌, int_div, Bool, true, false, List, [], ◌∷◌, ◌++◌, Option, map, fold, drop, if◌then◌else◌}
use Rattle.std.specs.List.{prefix_len}
use Rattle.shape_items.specs.Buffer.{Buffer}
use Rattle.shape_items.specs.BufferClusters.{unsafe_to_break}
use Rattle.shape_common.specs.Direction.{is_horizontal, is_forward}
use Rattle.shape_common.specs.Face.{FaceMeaning}
use Rattle.shape_buffer.specs.Guess.{script_or_ltr}
use Rattle.shape_items.specs.Items.{Item}
use Rattle.shape_items.specs.Items.{is_mark_item}
use Rattle.shape_common.specs.Unicode.{UnicodeMeaning}
use Rattle.shape_common.specs.declared.text_types.Direction.{Direction}
use Rattle.shape_common.specs.declared.text_types.Direction.TheVariants.{LeftToRight}
use Rattle.shape_common.specs.declared.text_types.Script.{Script}
use Rattle.shape_fallback.specs.Marks.{around_base}
use Rattle.shape_fallback.specs.Positions.{with_positions}
use Rattle.shape_fallback.specs.declared.ot_shape_fallback.marks.MarkFrame.{MarkFrame}

-- a base with its marks
pub record Span : Type 0 where
  pub start : ℕ
  pub end : ℕ

-- the span of one base
unfoldable pub position_span : FaceMeaning → MarkFrame → Buffer → Span → Buffer
position_span face s b span = with_positions (around_base face s) span.start span.end (unsafe_to_break span.start span.end b)

-- the base at place i, if it has n marks
abbrev pub with_marks : ℕ → ℕ → List Span
with_marks i zero = []
with_marks i (suc n) = record { start = i; end = i + 1 + suc n } ∷ []

-- the base at place i, if it has marks; the list says of each item from there on whether it is a mark
unfoldable pub base_at : ℕ → List Bool → List Span
base_at i [] = []
base_at i (true ∷ marks) = []
base_at i (false ∷ marks) = with_marks i (prefix_len (λ mark. mark) marks)

-- the bases from place i on
unfoldable pub bases : ℕ → List Bool → List Span
bases i [] = []
bases i (mark ∷ marks) = base_at i (mark ∷ marks) ++ bases (i + 1) marks

-- whether some items begin with a mark
abbrev pub begins_with_mark : List Item → Bool
begins_with_mark [] = false
begins_with_mark (item ∷ items) = is_mark_item item

-- which items are marks
abbrev pub marks_of : Buffer → List Bool
marks_of b = map is_mark_item b.items

-- how many items from place i on are marks, up to the first that isn't
abbrev pub marks_from : ℕ → Buffer → ℕ
marks_from i b = prefix_len (λ mark. mark) (drop i (marks_of b))

-- the buffer with the marks of the base at place i placed, if there is one with marks
unfoldable pub positioned_at : FaceMeaning → MarkFrame → ℕ → Buffer → Buffer
positioned_at face s i b = fold (position_span face s) b (base_at i (drop i (marks_of b)))

-- the buffer with the marks of all its bases placed
unfoldable pub bases_positioned : FaceMeaning → MarkFrame → Buffer → Buffer
bases_positioned face s b = fold (position_span face s) b (bases 0 (marks_of b))

-- the spans of all bases marked unsafe to break, and nothing else
unfoldable pub bases_marked : Buffer → Buffer
bases_marked b = fold (λ c span. unsafe_to_break span.start span.end c) b (bases 0 (marks_of b))

-- a buffer except for its positions
abbrev pub without_positions : Buffer → Buffer
without_positions b = record b { positions = [] }

-- ---- what the marks are placed by

abbrev pub is_left_to_right : Direction → Bool
is_left_to_right LeftToRight = true
is_left_to_right _ = false

-- the components of a ligature run to the right: asked of the plan's direction if that is horizontal, else of its
-- script's, left to right if none is known
unfoldable pub runs_to_right : UnicodeMeaning → Direction → Option Script → Bool
runs_to_right unicode direction script =
    is_left_to_right (if is_horizontal direction then direction else script_or_ltr unicode script)

-- the gap between marks is a sixteenth of the height of the em square; the line's direction is the buffer's
unfoldable pub frame_of : UnicodeMeaning → FaceMeaning → Direction → Option Script → Bool → Buffer → MarkFrame
frame_of unicode face direction script adjust b = record {
  surroundings = record {
    horizontal = is_horizontal b.direction;
    forward = is_forward b.direction;
    gap = int_div face.y_scale (pos 16);
  };
  left_to_right = runs_to_right unicode direction script;
  adjust = adjust;
}

-- every mark of the buffer, under a plan of this direction and script
unfoldable pub marks_positioned : UnicodeMeaning → FaceMeaning → Direction → Option Script → Bool → Buffer → Buffer
marks_positioned unicode face direction script adjust b =
    bases_positioned face (frame_of unicode face direction script adjust b) b
