-- what one step over coordinates does
use Rattle.std.proofs.Common.{◌≡◌, ℕ, ℤ, ◌<◌, ◌≤◌, ◌+◌, List, [], ◌∷◌, ◌++◌, Option, Some, None, true, false, nat_le, length, get_or, drop, refl, ap, ◌∙◌, append_assoc, arith}
use Rattle.std.proofs.lemmas.Bool.Decides.{nat_tests}
use Rattle.std.proofs.lemmas.List.{append-nil, at_drop_more, at_drop_all}
use Rattle.std.specs.Option.{option_map}
use Rattle.glyf_points.specs.Axes.{Read, read, with_value, values_of, next_value, step_size}
use Rattle.glyf_points.specs.declared.axes.Axis.{Axis}

-- coordinates before those that are read
abbrev pub after : List ℤ → Read → Read
after before r = record r { values = before ++ r.values }

pub values_begun : (found : Option Read) → option_map (after []) found ≡ found
values_begun None = refl
values_begun (Some r) = refl

pub values_step : (t : List ℕ) (axis : Axis) (flags : List ℕ) (i : ℕ) (d at : ℕ) (value : ℤ) (before : List ℤ) → i < length flags
    → at + step_size axis (get_or flags i d) ≤ length t
    → option_map (after before) (values_of t axis (drop i flags) at value)
    ≡ option_map (after (before ++ next_value t at axis (get_or flags i d) value ∷ []))
    (values_of t axis (drop (i + 1) flags) (at + step_size axis (get_or flags i d)) (next_value t at axis (get_or flags i d) value))
values_step t axis flags i d at value before h fits =
    let yes : nat_le (at + step_size axis (get_or flags i d)) (length t) ≡ true = grind (arith, nat_tests, fits) in
    ap (option_map (after before)) (at_drop_more (λ rest. values_of t axis rest at value) flags i d h)
    ∙ rw yes (moved (values_of t axis (drop (i + 1) flags) (at + step_size axis (get_or flags i d)) (next_value t at axis (get_or flags i d) value)))
  where
    moved : (found : Option Read)
        → option_map (after before) (option_map (with_value (next_value t at axis (get_or flags i d) value)) found)
        ≡ option_map (after (before ++ next_value t at axis (get_or flags i d) value ∷ [])) found
    moved None = refl
    moved (Some r) = ap (λ values. Some (read values r.end)) (rw append_assoc refl)

pub values_cut : (t : List ℕ) (axis : Axis) (flags : List ℕ) (i : ℕ) (d at : ℕ) (value : ℤ) (before : List ℤ) → i < length flags
    → length t < at + step_size axis (get_or flags i d)
    → option_map (after before) (values_of t axis (drop i flags) at value) ≡ None
values_cut t axis flags i d at value before h past =
    let no : nat_le (at + step_size axis (get_or flags i d)) (length t) ≡ false = grind (arith, nat_tests, past) in
    ap (option_map (after before)) (at_drop_more (λ rest. values_of t axis rest at value) flags i d h) ∙ rw no refl

pub values_end : (t : List ℕ) (axis : Axis) (flags : List ℕ) (i at : ℕ) (value : ℤ) (before : List ℤ) → length flags ≤ i
    → option_map (after before) (values_of t axis (drop i flags) at value) ≡ Some (read before at)
values_end t axis flags i at value before h =
    ap (option_map (after before)) (at_drop_all (λ rest. values_of t axis rest at value) flags i h) ∙ rw append-nil refl
