-- digests say where a lookup does nothing
use Rattle.std.proofs.Common.{◌≡◌, Bool, true, false, List, All, refl, sym, ap, ◌∙◌, slice_index_or}
use Rattle.layout_digests.specs.Digests.{has}
use Rattle.layout_digests.specs.Lookups.{begins_at}
use Rattle.layout_digests.specs.declared.digested.Digested.{Digested}
use Rattle.layout_context.specs.Covered.{subtable_covers}
use Rattle.layout_context.specs.Digested as substitution
use Rattle.layout_positions.specs.Uncovered.{subtable_lists}
use Rattle.layout_positions.specs.Digested as positions
use Rattle.opentype_layout.specs.Digested.{IsSaid}

-- what is true of no glyph out of the set is false of a glyph out of it
out-of : (t h : Bool) → (t ≡ true → h ≡ true) → h ≡ false → t ≡ false
out-of false h held none = refl
out-of true true held none = cc
out-of true false held none = sym (held refl)

pub substitutes-one : (d : Digested) → IsSaid false d → substitution.IsDigested d
substitutes-one d said = record {
  near = said.near;
  out = λ glyph none. record {
    substitutes = said.kind;
    uncovered = λ i s below there. out-of (subtable_covers d.lookup s glyph) (has d.digest glyph)
        (λ covers. said.digest i below s glyph there (sym (ap (λ p. begins_at d.lookup.table.now p s glyph) said.kind) ∙ covers)) none;
  };
  firsts = said.firsts;
  wholes = said.wholes;
}

pub substitutes : (ds : List Digested) → All (IsSaid false) ds → All substitution.IsDigested ds
substitutes ds all = λ k x inside. substitutes-one (slice_index_or ds k x) (all k x inside)

pub positions-one : (d : Digested) → IsSaid true d → positions.IsDigested d
positions-one d said = record {
  near = said.near;
  out = λ glyph none. record {
    positions = said.kind;
    unlisted = λ i s below there. out-of (subtable_lists d.lookup s glyph) (has d.digest glyph)
        (λ lists. said.digest i below s glyph there (sym (ap (λ p. begins_at d.lookup.table.now p s glyph) said.kind) ∙ lists)) none;
  };
  firsts = said.firsts;
  wholes = said.wholes;
}
