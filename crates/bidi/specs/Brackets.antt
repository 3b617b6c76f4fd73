-- The rule N0: pairs of brackets, over an isolating run sequence.
use Rattle.std.specs.Prelude.{ℕ, ◌+◌, ◌-◌, ◌==◌, ◌&&◌, not, nat_lt, Bool, true, false, List, [], ◌∷◌, length, take, drop, replicate, slice_set}
use Rattle.std.specs.Prelude.{Option, None, Some, option_map, if◌then◌else◌}
use Rattle.std.specs.List.{find, list_any}
use Rattle.ucd_bidi.specs.Binary.{is_bidi_mirrored}
use Rattle.ucd_bidi.specs.declared.BidiClass.{BidiClass}
use Rattle.ucd_bidi.specs.declared.BidiClass.TheVariants.{NonspacingMark, OtherNeutral}
use Rattle.bidi.specs.Classes.{direction, is, is_directed}
use Rattle.bidi.specs.Weak.{next_class}
use Rattle.bidi.specs.declared.bracket_pairs.TheConstants.{BRACKET_PAIRS}
use Rattle.bidi.specs.declared.brackets.Open.{Open}
use Rattle.bidi.specs.declared.members.Member.{Member}

-- BD16: U+232A is canonically equivalent to U+3009, as U+2329 is to U+3008
abbrev pub canonical : ℕ → ℕ
canonical closing = if closing == 0x232A then 0x3009 else closing

-- what closes an opening bracket, and a closing one, by the table
abbrev pub opened_by : ℕ → Option ℕ
opened_by c = option_map (λ (pair : ℕ × ℕ). canonical pair.1) (find (λ (pair : ℕ × ℕ). pair.0 == c) BRACKET_PAIRS)

abbrev pub closed_by : ℕ → Option ℕ
closed_by c = option_map (λ (pair : ℕ × ℕ). canonical pair.1) (find (λ (pair : ℕ × ℕ). pair.1 == c) BRACKET_PAIRS)

-- BD14, BD15: an opening bracket by what closes it, and a closing one; all brackets are mirrored
abbrev pub opening_bracket : ℕ → Option ℕ
opening_bracket c = if is_bidi_mirrored c then opened_by c else None

abbrev pub closing_bracket : ℕ → Option ℕ
closing_bracket c = if is_bidi_mirrored c then closed_by c else None

-- BD14, BD15: only characters whose class is ON at this time are brackets
abbrev pub opening : BidiClass → ℕ → Option ℕ
opening class c = if is class OtherNeutral then opening_bracket c else None

abbrev pub closing : BidiClass → ℕ → Option ℕ
closing class c = if is class OtherNeutral then closing_bracket c else None

-- BD16: the stack of 63 with the last bracket first, for the place of each opening bracket that is paired that of the closing
-- one, else 0, and whether there was no room
pub record Pairs : Type 0 where
  pub stack : List Open
  pub closes : List ℕ
  pub full : Bool

abbrev pub no_pairs : ℕ → Pairs
no_pairs count = record { stack = []; closes = replicate count 0; full = false }

abbrev pub opened : ℕ → ℕ → Pairs → Pairs
opened closing place pairs =
    if nat_lt (length pairs.stack) 63 then record pairs { stack = record { closing = closing; place = place } ∷ pairs.stack }
    else record pairs { full = true }

-- from the last bracket that is closed on down
abbrev pub from_match : ℕ → List Open → List Open
from_match closing [] = []
from_match closing (entry ∷ below) = if entry.closing == closing then entry ∷ below else from_match closing below

abbrev pub closed_at : List Open → ℕ → Pairs → Pairs
closed_at [] place pairs = pairs
closed_at (entry ∷ below) place pairs = record pairs { stack = below; closes = slice_set pairs.closes entry.place place }

abbrev pub closed : ℕ → ℕ → Pairs → Pairs
closed closing place pairs = closed_at (from_match closing pairs.stack) place pairs

abbrev pub pairs_step : ℕ → BidiClass → ℕ → Pairs → Pairs
pairs_step place class c pairs =
    if pairs.full then pairs
    else elim (opening class c) [
      | Some closing ↦ opened closing place pairs
      | None ↦ elim (closing class c) [
        | Some closing ↦ closed closing place pairs
        | None ↦ pairs
      ]
    ]

abbrev pub pairs_from : ℕ → Pairs → List Member → List BidiClass → Pairs
pairs_from place pairs [] classes = pairs
pairs_from place pairs (member ∷ members) [] = pairs
pairs_from place pairs (member ∷ members) (class ∷ classes) =
    pairs_from (place + 1) (pairs_step place class member.character pairs) members classes

abbrev pub closes_of : List Member → List BidiClass → List ℕ
closes_of members classes = (pairs_from 0 (no_pairs (length members)) members classes).closes

-- whether a bracket is paired, by the place that closes it
abbrev pub is_paired : ℕ → Bool
is_paired close = not (close == 0)

abbrev pub has_directed : List BidiClass → Bool
has_directed classes = list_any is_directed classes

abbrev pub has_direction : BidiClass → List BidiClass → Bool
has_direction wanted classes = list_any (λ class. is_directed class && is (direction class) wanted) classes

-- N0 b: a pair takes the direction of the embedding if it is found between the brackets; N0 c: if only the other one is, it
-- takes that other one if it is before the pair too, else that of the embedding: so in both cases that before the pair; N0 d:
-- if none is, it takes none
abbrev pub pair_direction : BidiClass → BidiClass → List BidiClass → Option BidiClass
pair_direction embedding before between =
    if has_direction embedding between then Some embedding
    else if has_directed between then Some before
    else None

-- N0: what was NSM before W1 and follows a bracket that is set takes its direction
abbrev pub with_marks : BidiClass → ℕ → List Member → List BidiClass → List BidiClass
with_marks direction place [] classes = classes
with_marks direction place (member ∷ members) classes =
    if is member.class NonspacingMark then with_marks direction (place + 1) members (slice_set classes place direction)
    else classes

abbrev pub with_bracket : BidiClass → List Member → ℕ → List BidiClass → List BidiClass
with_bracket direction members place classes =
    with_marks direction (place + 1) (drop (place + 1) members) (slice_set classes place direction)

abbrev pub with_brackets : Option BidiClass → List Member → ℕ → ℕ → List BidiClass → List BidiClass
with_brackets None members place close classes = classes
with_brackets (Some direction) members place close classes =
    with_bracket direction members close (with_bracket direction members place classes)

-- N0 for a place, and the place that closes the bracket there
abbrev pub with_pair : BidiClass → BidiClass → List Member → ℕ → ℕ → List BidiClass → List BidiClass
with_pair embedding before members place close classes =
    if nat_lt place close && nat_lt close (length classes) then
    with_brackets (pair_direction embedding before (take (close - (place + 1)) (drop (place + 1) classes))) members place close classes
    else classes

abbrev pub directed_then : BidiClass → BidiClass → BidiClass
directed_then before class = if is_directed class then direction class else before

-- N0: the pairs in the order of their opening brackets
abbrev pub n0_from : BidiClass → List Member → ℕ → BidiClass → List ℕ → List BidiClass → List BidiClass
n0_from embedding members place before [] classes = classes
n0_from embedding members place before (close ∷ closes) classes =
    n0_from embedding members (place + 1)
    (directed_then before (next_class (drop place (with_pair embedding before members place close classes)))) closes
    (with_pair embedding before members place close classes)

abbrev pub n0 : BidiClass → BidiClass → List Member → List BidiClass → List BidiClass
n0 embedding sos members classes = n0_from embedding members 0 sos (closes_of members classes) classes
