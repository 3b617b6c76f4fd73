-- The number at an offset, one range on.
use Rattle.std.proofs.Common.{◌≡◌, ℕ, ◌+◌, ◌<◌, ◌≤◌, List, ◌∷◌, length, get_or, drop, ap, ◌∙◌, if◌then◌else◌}
use Rattle.std.specs.Prelude.{nat_le}
use Rattle.std.proofs.lemmas.Bool.{cond-true, cond-false, le-leb, lt-leb}
use Rattle.std.proofs.lemmas.List.{drop_more}
use Rattle.text_items.specs.Ranges.{number_at}
use Rattle.text_items.specs.declared.ranges.NumberedRange.{NumberedRange}

-- what is read past the end of a list
abbrev pub no_range : NumberedRange
no_range = record { start = 0; end = 0; number = 0 }

module _ (rs : List NumberedRange) (n at : ℕ) (lt : n < length rs) where
  at_range : number_at (drop n rs) at ≡ number_at (get_or rs n no_range ∷ drop (n + 1) rs) at
  at_range = ap (λ l. number_at l at) (drop_more rs n no_range lt)

  -- a range that ended
  pub range_ended : (get_or rs n no_range).end ≤ at → number_at (drop n rs) at ≡ number_at (drop (n + 1) rs) at
  range_ended le = at_range ∙ cond-true (nat_le (get_or rs n no_range).end at) _ _ (le-leb _ _ le)

  -- one that goes on
  pub range_here : at < (get_or rs n no_range).end
      → number_at (drop n rs) at ≡ (if nat_le (get_or rs n no_range).start at then (get_or rs n no_range).number else 0)
  range_here lt' = at_range ∙ cond-false (nat_le (get_or rs n no_range).end at) _ _ (lt-leb _ _ lt')
