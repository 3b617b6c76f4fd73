-- A subtable of a chain of the table morx (TrueType Reference Manual, "The 'morx' table", "Metamorphosis Subtables"): its header says
-- how it runs and of which kind it is, and which flags have it on.
use Rattle.std.specs.Prelude.{ℕ, List, Bool, false, ◌+◌, ◌%◌, ◌&&◌, length, nat_eq, replicate, reverse, if◌then◌else◌}
use Rattle.std.specs.List.{list_any}
use Rattle.shape_common.specs.declared.text_types.Direction.{Direction}
use Rattle.shape_font.specs.Bytes.{u32_of}
use Rattle.shape_items.specs.Buffer.{Buffer}
use Rattle.apple_tables.specs.States.{class_of, entry_of}
use Rattle.apple_substitution.specs.Chains.{covers, is_reversed}
use Rattle.apple_substitution.specs.Contextual as contextual_rules
use Rattle.apple_substitution.specs.Driver.{Actions, Rules}
use Rattle.apple_substitution.specs.Drives.{driven_by}
use Rattle.apple_substitution.specs.Insertion as insertion_rules
use Rattle.apple_substitution.specs.Ligature as ligature_rules
use Rattle.apple_substitution.specs.Noncontextual.{all_substituted_by}
use Rattle.apple_substitution.specs.Ranges.{is_on, shares}
use Rattle.apple_substitution.specs.Rearrangement as rearrangement_rules
use Rattle.apple_substitution.specs.declared.driver.Machine.{Machine}
use Rattle.apple_substitution.specs.declared.ranges.FlagRange.{FlagRange}
use Rattle.apple_substitution.specs.declared.ranges.Ranges.{Ranges}
use Rattle.apple_substitution.specs.declared.subtables.Chain.{Chain}

-- what the subtables of a chain read: the tables morx and GDEF, how many glyphs the font has, and the flags of the chain in ranges
-- of the text
pub record Source : Type 0 where
  pub morx : List ℕ
  pub gdef : List ℕ
  pub glyphs : ℕ
  pub ranges : List FlagRange

abbrev pub source_of : Chain → Source
source_of c = record {
  morx = c.tables.morx.now;
  gdef = c.tables.gdef.now;
  glyphs = c.tables.glyphs;
  ranges = c.ranges.now;
}

-- ---- the header: how long the subtable is, its coverage with its kind, and the flags that have it on. What the kind has follows

abbrev pub coverage_of : List ℕ → ℕ → ℕ
coverage_of t at = u32_of t (at + 4)

abbrev pub kind_of : List ℕ → ℕ → ℕ
kind_of t at = coverage_of t at % 256

abbrev pub wanted_of : List ℕ → ℕ → ℕ
wanted_of t at = u32_of t (at + 8)

abbrev pub HEADER : ℕ
HEADER = 12

-- ---- when it runs: some range of the text has a flag on that has the subtable on, and it covers text of that direction

abbrev pub is_on_in : ℕ → FlagRange → Bool
is_on_in wanted range = shares range.flags wanted

abbrev pub is_wanted : List FlagRange → ℕ → Bool
is_wanted ranges wanted = list_any (is_on_in wanted) ranges

abbrev pub runs : Source → ℕ → Direction → Bool
runs s at direction = is_wanted s.ranges (wanted_of s.morx at) && covers (coverage_of s.morx at) direction

-- ---- what it does, by its kind

-- an entry of its state table has four bytes, and those of its kind
abbrev pub rules_at : Source → ℕ → ℕ → Rules
rules_at s at size = record {
  class = class_of s.morx (at + HEADER) s.glyphs;
  entry = entry_of s.morx (at + HEADER) size;
  is_on = is_on s.ranges (wanted_of s.morx at);
}

abbrev pub driven_at : {T : Type 0} → Source → ℕ → ℕ → Actions T → T → Buffer → Buffer
driven_at s at size a memory b = driven_by (rules_at s at size) (length s.ranges) a memory b

abbrev pub rearranged : Source → ℕ → Buffer → Buffer
rearranged s at b = driven_at s at 4 rearrangement_rules.actions (record { first = 0; end = 0 }) b

abbrev pub substituted_in_context : Source → ℕ → Buffer → Buffer
substituted_in_context s at b = driven_at s at 8
    (contextual_rules.actions (record { morx = s.morx; gdef = s.gdef; start = at + HEADER; glyphs = s.glyphs }))
    (record { place = 0; is_set = false }) b

abbrev pub joined : Source → ℕ → Buffer → Buffer
joined s at b = driven_at s at 6 (ligature_rules.actions s.morx (at + HEADER)) (record { count = 0; places = replicate 64 0 }) b

abbrev pub substituted : Source → ℕ → Buffer → Buffer
substituted s at b = all_substituted_by (record { morx = s.morx; gdef = s.gdef; start = at + HEADER; glyphs = s.glyphs })
    s.ranges (wanted_of s.morx at) b

abbrev pub inserted : Source → ℕ → Buffer → Buffer
inserted s at b = driven_at s at 8 (insertion_rules.actions s.morx (at + HEADER)) 0 b

-- a subtable of another kind does nothing
unfoldable pub acted : Source → ℕ → Buffer → Buffer
acted s at b = let kind = kind_of s.morx at in
    (if nat_eq kind 0 then rearranged s at b
    else (if nat_eq kind 1 then substituted_in_context s at b
    else (if nat_eq kind 2 then joined s at b
    else (if nat_eq kind 4 then substituted s at b
    else (if nat_eq kind 5 then inserted s at b
    else b)))))

-- ---- a run over a text, whose list is reversed before it and after it if the coverage says so

abbrev pub reversed : Buffer → Buffer
reversed b = record b { items = reverse b.items; positions = reverse b.positions }

unfoldable pub acted_in_order : Source → ℕ → Buffer → Buffer
acted_in_order s at b = if is_reversed (coverage_of s.morx at) b.direction
    then reversed (acted s at (reversed b))
    else acted s at b

unfoldable pub ran : Source → ℕ → Buffer → Buffer
ran s at b = if runs s at b.direction then acted_in_order s at b else b

-- ---- what a driver takes of a chain

abbrev pub ranges_at : Chain → ℕ → Ranges
ranges_at c at = record { list = c.ranges; wanted = wanted_of c.tables.morx.now at }

abbrev pub machine_at : Chain → ℕ → ℕ → Machine
machine_at c at size = record {
  states = record { table = c.tables.morx; start = at + HEADER; entry_size = size; glyphs = c.tables.glyphs };
  ranges = ranges_at c at;
}
