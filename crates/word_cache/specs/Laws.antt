-- Laws of caches of words.
use Rattle.std.specs.Prelude.{◌≡◌, ℕ, List, slice_get, Some}
use Rattle.shape_plan.specs.Run.{Run}
use Rattle.word_cache.specs.Keys.{key_of, spelled}
use Rattle.word_cache.specs.Shaping.{HoldsShaped, IsFresh, IsShapedTo}
use Rattle.word_cache.specs.Words.{Entry, Words, made, brought_first, HasKey}

-- a word that is found leaves words that were shaped
abbrev pub FoundStayShaped : Type 0
FoundStayShaped = (runs : ℕ → Run) (key : List ℕ) (cache : Words) → HoldsShaped runs cache
    → HoldsShaped runs (made (brought_first key cache.entries) cache.limit)

-- so does one that is shaped by the plan of its number
abbrev pub FreshAreShaped : Type 0
FreshAreShaped = (runs : ℕ → Run) (number : ℕ) (spelling : List ℕ) (old new : Words) → HoldsShaped runs old
    → IsFresh (runs number) number spelling old new → HoldsShaped runs new

-- the first entry has a key
abbrev pub IsFirst : List ℕ → List Entry → Entry → Type 0
IsFirst key es e = (slice_get es 0 ≡ Some e) × (e.key ≡ key)

abbrev pub FoundIsFirst : Type 0
FoundIsFirst = (key : List ℕ) (es : List Entry) → HasKey key es → (e : Entry) × IsFirst key (brought_first key es) e

abbrev pub FreshIsFirst : Type 0
FreshIsFirst = (run : Run) (number : ℕ) (spelling : List ℕ) (old new : Words) → IsFresh run number spelling old new
    → (e : Entry) × IsFirst (key_of run number (spelled spelling)) new.entries e × IsShapedTo run spelling e.word
