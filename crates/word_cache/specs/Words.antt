-- Words that are kept under their keys.
use Rattle.std.specs.Prelude.{◌≡◌, ◌⊎◌, ℕ, ◌+◌, ◌*◌, ◌<◌, ◌≤◌, Bool, nat_eq, List, [], ◌∷◌, length, map, take, string_bytes, Vec, Option, None, Some}
use Rattle.std.specs.Prelude.{if◌then◌else◌}
use Rattle.std.specs.Cmp.Lexicographic.{pointwise}
use Rattle.std.specs.Global.{Global}
use Rattle.std.specs.Option.{option_map_or}
use Rattle.word_cache.specs.declared.words.Word.{Word}

-- a word under its key
pub record Entry : Type 0 where
  pub key : List ℕ
  pub word : Word

abbrev pub entry : List ℕ → Word → Entry
entry key word = record { key = key; word = word }

-- the entries of a cache, the most recently used first, and how many bytes they may take
pub record Words : Type 0 where
  pub entries : List Entry
  pub limit : ℕ

abbrev pub made : List Entry → ℕ → Words
made entries limit = record { entries = entries; limit = limit }

abbrev pub shown : List (Vec ℕ Global × Word) → List Entry
shown es = map (λ e. entry e.0.items e.1) es

abbrev pub has_key : List ℕ → Entry → Bool
has_key key e = pointwise nat_eq key e.key

-- one of the entries has the key
abbrev pub HasKey : List ℕ → List Entry → Type 0
HasKey key [] = ⊥
HasKey key (e ∷ es) = (e.key ≡ key) ⊎ HasKey key es

abbrev pub found_entry : List ℕ → List Entry → Option Entry
found_entry key [] = None
found_entry key (e ∷ es) = if has_key key e then Some e else found_entry key es

abbrev pub without : List ℕ → List Entry → List Entry
without key [] = []
without key (e ∷ es) = if has_key key e then es else e ∷ without key es

-- the entry with the key goes first
abbrev pub brought_first : List ℕ → List Entry → List Entry
brought_first key es = option_map_or (λ e. e ∷ without key es) (found_entry key es) es

-- 4 bytes for each number of the key, those of the spelling, and 40 for each glyph
abbrev pub entry_bytes : Entry → ℕ
entry_bytes e = 4 * length e.key + length (string_bytes e.word.spelling) + 40 * length e.word.glyphs.items

abbrev pub total : List Entry → ℕ
total [] = 0
total (e ∷ es) = entry_bytes e + total es

-- the first of some entries: as many as may be with at most so many bytes, or the first alone
pub record IsFront (limit : ℕ) (all kept : List Entry) : Type 0 where
  pub count : ℕ
  pub within : count ≤ length all
  pub is : kept ≡ take count all
  pub fit : (count ≤ 1) ⊎ (total kept ≤ limit)
  pub most : count < length all → (1 ≤ count) × (limit < total (take (count + 1) all))

-- after an entry was put first
pub record Keeps (e : Entry) (old new : Words) : Type 0 where
  pub front : IsFront old.limit (e ∷ old.entries) new.entries
  pub limit : new.limit ≡ old.limit
