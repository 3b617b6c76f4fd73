-- Reading a text syllable by syllable, where places are remembered behind which reading on was in vain.
use Rattle.std.specs.Prelude.{◌≡◌, ℕ, ◌+◌, ◌-◌, ◌≤◌, ◌==◌, ◌&&◌, nat_le, nat_lt, Bool, true, false, if◌then◌else◌, List, [], ◌∷◌, drop}
use Rattle.syllables.specs.Grammar.{better}
use Rattle.syllables.specs.Machines.{next_state, kind_at, kind_or_none, read_on}
use Rattle.syllables.specs.declared.reading.Scan.{Scan}
use Rattle.syllables.specs.declared.reading.Stretch.{Stretch}
use Rattle.syllables.specs.declared.scanner.Machine.{Machine}
use Rattle.syllables.specs.declared.scanner.Syllable.{Syllable}

abbrev pub nowhere : Stretch
nowhere = record { state = 0; from = 1; to = 0 }

abbrev pub only : (state place : ℕ) → Stretch
only state place = record { state = state; from = place; to = place }

abbrev pub is_at : Stretch → (state place : ℕ) → Bool
is_at stretch state place = (state == stretch.state) && (nat_le stretch.from place && nat_le place stretch.to)

-- the stretch once nothing was found at a place
abbrev pub followed : Stretch → (state place : ℕ) → Stretch
followed stretch state place =
    if (stretch.state == state) && (stretch.to == place - 1) then record { state = state; from = stretch.from; to = place }
    else if nat_lt stretch.from stretch.to then stretch
    else only state place

abbrev pub stretch_at : Stretch → (state place kind : ℕ) → Stretch
stretch_at stretch state place kind = if kind == 255 then followed stretch state place else only state place

abbrev pub begun : Machine → ℕ → Scan
begun m place = record {
  state = 1;
  start = place;
  found = record { kind = m.other; count = 1 };
  stretch = only 1 place;
  over = false;
}

-- the scan in its next state, which is not 0
abbrev pub read_to : Machine → Stretch → Scan → (state place : ℕ) → Scan
read_to m vain scan state place = record {
  state = state;
  start = scan.start;
  found = better (kind_or_none (kind_at m state)) (place - scan.start) scan.found;
  stretch = stretch_at scan.stretch state place (kind_at m state);
  over = is_at vain state place;
}

-- the scan once it has read a character more, up to a place
abbrev pub read_one : Machine → Stretch → Scan → (category place : ℕ) → Scan
read_one m vain scan c place =
    if next_state m scan.state c == 0 then record scan { over = true } else read_to m vain scan (next_state m scan.state c) place

-- the scan once it has read a text from a place on, or what of it it needs
abbrev pub read_all : Machine → Stretch → Scan → ℕ → List ℕ → Scan
read_all m vain scan place [] = scan
read_all m vain scan place (c ∷ cs) =
    if scan.over then scan else read_all m vain (read_one m vain scan c (place + 1)) (place + 1) cs

-- the scan for the syllable at a place of a text
abbrev pub scan_at : Machine → Stretch → ℕ → List ℕ → Scan
scan_at m vain place xs = read_all m vain (begun m place) place (drop place xs)

abbrev pub remembered : Scan → Stretch → Stretch
remembered scan before = if nat_lt scan.stretch.from scan.stretch.to then scan.stretch else before

-- whoever gets to one of these places of a text in this state finds nothing more
abbrev pub IsVain : Machine → List ℕ → Stretch → Type 0
IsVain m xs v = (p : ℕ) → v.from ≤ p → p ≤ v.to → (n : ℕ) (found : Syllable) → read_on m v.state n found (drop p xs) ≡ found
