-- The rule X9: what is left of a paragraph.
use Rattle.std.specs.Prelude.{ℕ, ◌+◌, List, [], ◌∷◌, if◌then◌else◌}
use Rattle.ucd_bidi.specs.declared.BidiClass.{BidiClass}
use Rattle.bidi.specs.Classes.{is_removed}
use Rattle.bidi.specs.declared.explicit.Placed.{Placed}
use Rattle.bidi.specs.declared.members.Member.{Member}

-- the level of the first member, or that of the paragraph
abbrev pub level_after : ℕ → List BidiClass → List Placed → ℕ
level_after base [] placed = base
level_after base (class ∷ classes) [] = base
level_after base (class ∷ classes) (p ∷ placed) = if is_removed class then level_after base classes placed else p.level

-- X9: the members from a place on, given the level of the last one before it; each knows the levels beside it, for X10
abbrev pub members_from : ℕ → ℕ → ℕ → List ℕ → List BidiClass → List Placed → List Member
members_from base before place [] classes placed = []
members_from base before place (c ∷ text) [] placed = []
members_from base before place (c ∷ text) (class ∷ classes) [] = []
members_from base before place (c ∷ text) (class ∷ classes) (p ∷ placed) =
    if is_removed class then members_from base before (place + 1) text classes placed
    else record {
      place = place;
      character = c;
      original = class;
      class = p.class;
      level = p.level;
      before = before;
      after = level_after base classes placed;
    } ∷ members_from base p.level (place + 1) text classes placed

abbrev pub members : ℕ → List ℕ → List BidiClass → List Placed → List Member
members base text classes placed = members_from base base 0 text classes placed
