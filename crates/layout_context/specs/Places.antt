-- The places of the matched glyphs after a lookup that was applied to glyph number `index` of them, at `place`.
use Rattle.std.specs.Prelude.{ℕ, Bool, List, ◌+◌, ◌-◌, ◌&&◌, map, max, length, remove, insert, nat_lt, if◌then◌else◌}
use Rattle.layout_matching.specs.Loops.{times}

-- the places after it have as many items after them as before
abbrev pub shifted : ℕ → ℕ → ℕ → ℕ → ℕ
shifted place before after j = if nat_lt place j then after - (before - j) else j

-- if items went, so many of the glyphs after it went
abbrev pub one_dropped : ℕ → List ℕ → List ℕ
one_dropped index places = if nat_lt (index + 1) (length places) then remove places (index + 1) else places

-- if items came, they stand right after it: the last one is put in first
pub record Growing : Type 0 where
  pub places : List ℕ
  pub next : ℕ

abbrev pub one_grown : ℕ → Growing → Growing
one_grown index s = record {
  places = if nat_lt index (length s.places) then insert s.places (index + 1) s.next else s.places;
  next = s.next - 1;
}

abbrev pub grown : ℕ → ℕ → ℕ → List ℕ → List ℕ
grown place index n places = (times (one_grown index) n (record { places = places; next = place + n })).places

abbrev pub renumbered : ℕ → ℕ → ℕ → ℕ → List ℕ → List ℕ
renumbered place index before after places =
    grown place index (after - before) (map (shifted place before after) (times (one_dropped index) (before - after) places))

-- where the rule goes on: with as many items after it as before, and never before the glyph that the lookup was applied to
abbrev pub moved_end : ℕ → ℕ → ℕ → ℕ → ℕ
moved_end place before after end = max (after - (before - end)) place

-- a rule whose glyphs become more than 64 goes no further
abbrev pub is_too_long : ℕ → ℕ → List ℕ → Bool
is_too_long before after places = nat_lt before after && nat_lt (64 - (after - before)) (length places)
