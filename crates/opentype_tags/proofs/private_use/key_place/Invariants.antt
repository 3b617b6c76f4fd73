-- none of the places before passes
use Rattle.std.specs.Prelude.{◌≡◌, ℕ, ◌-◌, Bool, length}
use Rattle.shape_font.specs.Search.{first_at}
use Rattle.opentype_tags.specs.Subtags.{begins_at}
use Rattle.opentype_tags.proofs.private_use.key_place.Given as goal

abbrev pub invariant-loop-at : goal.invariant-loop-at
invariant-loop-at l = let p : ℕ → Bool = begins_at l.subtags l.key in first_at p (length l.subtags) 0 ≡ first_at p (length l.subtags - l.at) l.at
