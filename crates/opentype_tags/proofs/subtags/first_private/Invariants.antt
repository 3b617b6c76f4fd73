-- none of the places before passes
use Rattle.std.specs.Prelude.{◌≡◌, ℕ, ◌-◌, Bool, length}
use Rattle.shape_font.specs.Search.{first_at}
use Rattle.opentype_tags.specs.Subtags.{is_before_private}
use Rattle.opentype_tags.proofs.subtags.first_private.Given as goal

abbrev pub invariant-loop-at : goal.invariant-loop-at
invariant-loop-at l = let p : ℕ → Bool = is_before_private l.name in first_at p (length l.name) 0 ≡ first_at p (length l.name - l.at) l.at
