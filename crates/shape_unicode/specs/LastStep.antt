-- How one step is found from full decompositions and composites.
use Rattle.std.specs.Prelude.{ℕ, ◌==◌, ◌&&◌, List, [], ◌∷◌, Option, Some, None, option_map, option_and_then, if◌then◌else◌}
use Rattle.std.specs.List.{find}
use Rattle.std.specs.Option.{option_map_or}
use Rattle.unicode_normalization.specs.Compose.{or_else}
use Rattle.shape_unicode.specs.declared.split.TheConstants.{EXCLUDED_HEADS}

-- the last step that leads to `first` and `second`: if these compose to another character, c is a singleton of that one
abbrev pub last_step : (ℕ → ℕ → Option ℕ) → ℕ → ℕ → ℕ → ℕ × ℕ
last_step compose c first second = option_map_or (λ d. if d == c then (first, second) else (d, 0)) (compose first second) (first, second)

-- the character that splits into two that don't compose
abbrev pub excluded_head : ℕ → ℕ → Option ℕ
excluded_head a b = option_map (λ entry. entry.2) (find (λ entry. entry.0 == a && entry.1 == b) EXCLUDED_HEADS)

-- the character that two characters at the head of a full decomposition come from
abbrev pub head_of : (ℕ → ℕ → Option ℕ) → ℕ → ℕ → Option ℕ
head_of compose a b = or_else (compose a b) (excluded_head a b)

-- the last step of the decomposition of c, by its full decomposition, which is empty if it is c
abbrev pub split_by : (ℕ → ℕ → Option ℕ) → ℕ → List ℕ → Option (ℕ × ℕ)
split_by compose c [] = None
split_by compose c (a ∷ []) = Some (a, 0)
split_by compose c (a ∷ b ∷ []) = Some (last_step compose c a b)
split_by compose c (a ∷ b ∷ d ∷ []) = option_map (λ p. last_step compose c p d) (head_of compose a b)
split_by compose c (a ∷ b ∷ d ∷ e ∷ []) =
    option_and_then (λ p. option_map (λ q. last_step compose c q e) (head_of compose p d)) (head_of compose a b)
split_by compose c _ = None
