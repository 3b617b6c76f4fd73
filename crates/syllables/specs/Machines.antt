-- Tables of states, and of which grammar a table is.
use Rattle.std.specs.Prelude.{◌≡◌, ℕ, ◌+◌, ◌*◌, ◌<◌, ◌==◌, nat_le, if◌then◌else◌, List, [], ◌∷◌, Option, None, Some, slice_get}
use Rattle.syllables.specs.Grammar.{Grammar, step, kind_of, better}
use Rattle.syllables.specs.declared.scanner.Machine.{Machine}
use Rattle.syllables.specs.declared.scanner.Syllable.{Syllable}

abbrev pub or_zero : Option ℕ → ℕ
or_zero None = 0
or_zero (Some n) = n

abbrev pub or_none : Option ℕ → ℕ
or_none None = 255
or_none (Some k) = k

-- 255 stands for no kind
abbrev pub kind_or_none : ℕ → Option ℕ
kind_or_none k = if k == 255 then None else Some k

-- the state after a character; 0 past the table
abbrev pub next_state : Machine → ℕ → ℕ → ℕ
next_state m s c = if nat_le m.columns c then 0 else or_zero (slice_get m.rows.now (s * m.columns + c))

-- the kind of what has been read
abbrev pub kind_at : Machine → ℕ → ℕ
kind_at m s = or_none (slice_get m.kinds.now s)

-- the longest syllable that the table finds from a state on
abbrev pub read_on : Machine → ℕ → ℕ → Syllable → List ℕ → Syllable
read_on m s n found [] = found
read_on m s n found (c ∷ cs) =
    if next_state m s c == 0 then found
    else read_on m (next_state m s c) (n + 1) (better (kind_or_none (kind_at m (next_state m s c))) (n + 1) found) cs

abbrev pub by_table : Machine → List ℕ → Syllable
by_table m xs = read_on m 1 0 (record { kind = m.other; count = 1 }) xs

-- each state stands for what the grammar leaves to match: `rests` of its number
pub record IsMachineOf (m : Machine) (g : Grammar) : Type 0 where
  pub rests : ℕ → Grammar
  pub states : ℕ
  pub some : 1 < states
  pub start : rests 1 ≡ g
  pub dead : rests 0 ≡ []
  pub next : (s c : ℕ) → s < states → step c (rests s) ≡ rests (next_state m s c)
  pub closed : (s c : ℕ) → s < states → next_state m s c < states
  pub kinds : (s : ℕ) → s < states → kind_of (rests s) ≡ kind_or_none (kind_at m s)
