-- Directions of text.
use Rattle.std.specs.Prelude.{Bool, true, false}
use Rattle.shape_common.specs.declared.text_types.Direction.{Direction}
use Rattle.shape_common.specs.declared.text_types.Direction.TheVariants.{Invalid, LeftToRight, RightToLeft, TopToBottom, BottomToTop}

-- lines of text run to the right or to the left
abbrev pub is_horizontal : Direction → Bool
is_horizontal LeftToRight = true
is_horizontal RightToLeft = true
is_horizontal _ = false

abbrev pub is_vertical : Direction → Bool
is_vertical TopToBottom = true
is_vertical BottomToTop = true
is_vertical _ = false

-- text runs to the right or to the bottom
abbrev pub is_forward : Direction → Bool
is_forward LeftToRight = true
is_forward TopToBottom = true
is_forward _ = false

-- text runs to the left or to the top
abbrev pub is_backward : Direction → Bool
is_backward RightToLeft = true
is_backward BottomToTop = true
is_backward _ = false

abbrev pub reverse_of : Direction → Direction
reverse_of Invalid = Invalid
reverse_of LeftToRight = RightToLeft
reverse_of RightToLeft = LeftToRight
reverse_of TopToBottom = BottomToTop
reverse_of BottomToTop = TopToBottom
