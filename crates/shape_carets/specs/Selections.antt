-- What a selection covers of a line.
use Rattle.std.specs.Prelude.{ℕ, Bool, nat_lt, max, min, ℤ, List, [], ◌∷◌, Option, None, Some, if◌then◌else◌}
use Rattle.std.specs.Int.{int_min, int_max}
use Rattle.shape_carets.specs.declared.caret.Caret.{Caret}
use Rattle.shape_carets.specs.declared.selecting.Span.{Span}

abbrev pub span : ℤ → ℤ → Span
span start end = record { start = start; end = end }

-- a piece of text has some of a range: what is in both isn't empty
abbrev pub is_selected : ℕ → ℕ → ℕ → ℕ → Bool
is_selected from to start end = nat_lt (max from start) (min to end)

-- the piece of a line between two carets
abbrev pub span_between : ℤ → ℤ → Span
span_between a b = span (int_min a b) (int_max a b)

-- the least span that has both
abbrev pub united : Span → Option Span → Span
united s None = s
united s (Some t) = span (int_min s.start t.start) (int_max s.end t.end)

-- what is covered from a caret on, given what is from the next one on
abbrev pub covered : Caret → Caret → ℕ → ℕ → Option Span → Option Span
covered a b start end rest = if is_selected a.offset b.offset start end then Some (united (span_between a.x b.x) rest) else rest

-- the span of the pieces between carets that have some of a range
abbrev pub selection_of : List Caret → ℕ → ℕ → Option Span
selection_of [] start end = None
selection_of (a ∷ []) start end = None
selection_of (a ∷ b ∷ carets) start end = covered a b start end (selection_of (b ∷ carets) start end)
