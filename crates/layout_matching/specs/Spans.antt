-- Where a rule of context stands: what it matches, and what is before and after that.
use Rattle.std.specs.Prelude.{ℕ, Bool, false, List, Option, ◌+◌, nat_eq, if◌then◌else◌}
use Rattle.std.specs.Option.{option_and_then, option_map}
use Rattle.shape_items.specs.Items.{Item}
use Rattle.layout_matching.specs.Input.{input_matched}
use Rattle.layout_matching.specs.Seeking.{last_after, last_before}
use Rattle.layout_matching.specs.Skipping.{nth, syllable_of}
use Rattle.layout_matching.specs.declared.input.Matched.{Matched}
use Rattle.layout_matching.specs.declared.lookup.Lookup.{Lookup}
use Rattle.layout_matching.specs.declared.rules.Row.{Row}
use Rattle.layout_matching.specs.declared.rules.Rule.{Rule}
use Rattle.layout_matching.specs.declared.seeking.Seek.{Seek}
use Rattle.layout_matching.specs.declared.spans.Origin.{Origin}
use Rattle.layout_matching.specs.declared.spans.Span.{Span}

-- around what is matched, in the syllable of the first glyph or in any
abbrev pub seek_around : Lookup → Item → Bool → Row → Seek
seek_around l first stays row = record { row = row; is_input = false; syllable = if stays then syllable_of l first else 0 }

-- what stands after keeps to the syllable of what is matched only if that is one glyph
abbrev pub span_to : Lookup → List Item → Origin → Rule → ℕ → ℕ → Option Span
span_to l items origin rule last start = option_map (λ far. record { start = start; last = last; end = far + 1 })
    (last_after l (seek_around l (nth items origin.at) (nat_eq last origin.at) rule.after) items rule.after.count last)

-- what stands before keeps to it only in a list as long as the lookup found it
abbrev pub span_from : Lookup → List Item → Origin → Rule → Matched → Option Span
span_from l items origin rule m = option_and_then (span_to l items origin rule m.last)
    (last_before l (seek_around l (nth items origin.at) origin.is_steady rule.before) items rule.before.count origin.at)

abbrev pub span_of : Lookup → List Item → Origin → Rule → Option Span
span_of l items origin rule = option_and_then (span_from l items origin rule) (input_matched l items origin.at rule.input)
