-- The expansions of a character along its chain, and which of them is chosen.
use Rattle.std.specs.Prelude.{ℕ, zero, suc, Bool, true, false, if◌then◌else◌, List, [], ◌∷◌, ◌++◌, Option, None, Some, unwrap_or}
use Rattle.std.specs.Option.{option_map, option_map_or, option_or}
use Rattle.std.specs.List.{list_all}
use Rattle.canonical_form.specs.Chain.{kept_part, chain_point, second_part}
use Rattle.canonical_form.specs.Decompositions.{Decompositions}

-- the second parts k down to 1 of the chain of c; U+0000 is dropped
abbrev pub seconds : (ℕ → Option (ℕ × ℕ)) → ℕ → ℕ → List ℕ
seconds split zero c = []
seconds split (suc k) c = option_map_or kept_part (second_part split (suc k) c) [] ++ seconds split k c

-- the expansion of length k: chain point k, then the second parts k down to 1; none if the chain ends before point k
abbrev pub expansion : (ℕ → Option (ℕ × ℕ)) → ℕ → ℕ → Option (List ℕ)
expansion split k c = option_map (λ point. point ∷ seconds split k c) (chain_point split k c)

-- an expansion is supported when all its characters have glyphs
abbrev pub is_supported : (ℕ → Bool) → Option (List ℕ) → Bool
is_supported has_glyph None = false
is_supported has_glyph (Some parts) = list_all has_glyph parts

-- the expansion of length k, if it is supported
abbrev pub supported : (ℕ → Option (ℕ × ℕ)) → (ℕ → Bool) → ℕ → ℕ → Option (List ℕ)
supported split has_glyph k c = if is_supported has_glyph (expansion split k c) then expansion split k c else None

-- the supported expansion of least length from 1 to n
abbrev pub least_supported : (ℕ → Option (ℕ × ℕ)) → (ℕ → Bool) → ℕ → ℕ → Option (List ℕ)
least_supported split has_glyph zero c = None
least_supported split has_glyph (suc n) c = option_or (least_supported split has_glyph n c) (supported split has_glyph (suc n) c)

-- the supported expansion of greatest length from 1 to n
abbrev pub greatest_supported : (ℕ → Option (ℕ × ℕ)) → (ℕ → Bool) → ℕ → ℕ → Option (List ℕ)
greatest_supported split has_glyph zero c = None
greatest_supported split has_glyph (suc n) c =
    option_or (supported split has_glyph (suc n) c) (greatest_supported split has_glyph n c)

-- the expansion that is chosen for c, where `true` asks for the shortest: none if c has a glyph;
-- no chain is longer than the height of its character
abbrev pub chosen_expansion : Decompositions → (ℕ → Bool) → Bool → ℕ → Option (List ℕ)
chosen_expansion D has_glyph true c = if has_glyph c then None else least_supported D.split has_glyph (D.height c) c
chosen_expansion D has_glyph false c = greatest_supported D.split has_glyph (D.height c) c

-- what c becomes: its chosen expansion, or itself
abbrev pub choice : Decompositions → (ℕ → Bool) → Bool → ℕ → List ℕ
choice D has_glyph short c = unwrap_or (chosen_expansion D has_glyph short c) (c ∷ [])
