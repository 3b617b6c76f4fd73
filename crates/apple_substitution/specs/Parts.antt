-- Parts of the table morx that stand one after the other (TrueType Reference Manual, "The 'morx' table"): its chains, and the
-- subtables of a chain. Each says how long it is.
use Prim.Native.Nat.{zero}
use Rattle.std.specs.Prelude.{ℕ, suc, List, [], ◌∷◌, Bool, ◌+◌, ◌&&◌, ◌||◌, not, length, min, nat_le, nat_lt, if◌then◌else◌}
use Rattle.shape_font.specs.Bytes.{u32_of}
use Rattle.shape_items.specs.Buffer.{Buffer}
use Rattle.apple_substitution.specs.Edits.{charged, is_past}
use Rattle.apple_substitution.specs.declared.parts.Header.{Header}

-- ---- where they stand

abbrev pub size_of : List ℕ → Header → ℕ → ℕ
size_of t header at = u32_of t (at + header.size_at)

-- the most bytes that a table can have: its length is a number of 32 bits
abbrev pub MOST_BYTES : ℕ
MOST_BYTES = 0xFFFFFFFF

-- the length of a part has room for its header, and the table for the part
abbrev pub is_part : List ℕ → Header → ℕ → Bool
is_part t header at = nat_le header.bytes (size_of t header at)
    && nat_le (at + size_of t header at) (min (length t) MOST_BYTES)

-- the places of n parts, as far as each is one
abbrev pub places_from : List ℕ → Header → ℕ → ℕ → List ℕ
places_from t header zero at = []
places_from t header (suc n) at = if is_part t header at
    then at ∷ places_from t header n (at + size_of t header at)
    else []

-- ---- how they run, one after the other

-- no part runs past the limit of the run, or if what is left doesn't suffice for it
abbrev pub is_spent : ℕ → Buffer → Bool
is_spent work b = is_past b || nat_lt b.max_ops work

-- each part costs some work; the first one that doesn't run is the end
abbrev pub all_run : (ℕ → ℕ) → (ℕ → Buffer → Buffer) → List ℕ → Buffer → Buffer
all_run work run [] b = b
all_run work run (at ∷ places) b = if is_spent (work at) b then b
    else all_run work run places (run at (charged (work at) b))

-- where a walk over parts ends
abbrev pub is_end : List ℕ → Header → ℕ → ℕ → Buffer → Bool
is_end t header at work b = not (is_part t header at) || is_spent work b
