-- which list has the glyphs that a subtable begins at
use Rattle.std.proofs.Common.{◌≡◌, ℕ, Bool, true, false, List, Option, Some, None, ◌+◌, ◌&&◌, nat_eq, is_some, refl, sym, ap, subst, ◌∙◌, arith, if◌then◌else◌}
use Rattle.std.proofs.lemmas.Bool.Decides.{nat_tests}
use Rattle.std.specs.Option.{option_map_or, option_and_then}
use Rattle.shape_font.specs.Bytes.{u16_of}
use Rattle.layout_tables.specs.Coverage.{coverage_index, covers}
use Rattle.layout_tables.specs.Offsets.{offset16_of}
use Rattle.layout_tables.specs.declared.lookups.LookupSubtable.{LookupSubtable}
use Rattle.layout_matching.specs.Found.{whole_rule, first_list, is_first, number_of}
use Rattle.layout_digests.specs.declared.digest.Digest.{Digest}
use Rattle.layout_digests.specs.Digests.{IsWithin}
use Rattle.layout_digests.specs.Lookups.{is_chained_kind, is_context_kind, begins_at, HasFirst, HasFirsts}

some_in : (t : List ℕ) (glyph : ℕ) (o : Option ℕ)
    → is_some (option_and_then (λ list. coverage_index t list glyph) o) ≡ option_map_or (λ list. covers t list glyph) o false
some_in t glyph None = refl
some_in t glyph (Some list) = refl

-- a subtable with one list for its first glyphs
listed : (t : List ℕ) (positioning : Bool) (subtable : LookupSubtable) (glyph : ℕ)
    → (is_context_kind positioning subtable.kind && nat_eq (u16_of t subtable.start) 3) ≡ false
    → begins_at t positioning subtable glyph ≡ is_some (number_of t subtable.start glyph)
listed t positioning subtable glyph other = by_kind (is_context_kind positioning subtable.kind) (nat_eq (u16_of t subtable.start) 3) other
  where
    by_kind : (k f : Bool) → (k && f) ≡ false
        → (if k then (if f then is_first t subtable.start (whole_rule t (is_chained_kind positioning subtable.kind) subtable.start) glyph
        else is_some (number_of t subtable.start glyph)) else is_some (number_of t subtable.start glyph)) ≡ is_some (number_of t subtable.start glyph)
    by_kind true true is = cc
    by_kind true false is = refl
    by_kind false f is = refl

pub numbered : (t : List ℕ) (positioning : Bool) (subtable : LookupSubtable) (o : Option ℕ)
    → (is_context_kind positioning subtable.kind && nat_eq (u16_of t subtable.start) 3) ≡ false
    → o ≡ offset16_of t subtable.start (subtable.start + 2)
    → (glyph : ℕ) → begins_at t positioning subtable glyph ≡ option_map_or (λ list. covers t list glyph) o false
numbered t positioning subtable o other is glyph =
    listed t positioning subtable glyph other ∙ some_in t glyph (offset16_of t subtable.start (subtable.start + 2))
    ∙ ap (λ o. option_map_or (λ list. covers t list glyph) o false) (sym is)

pub ruled : (t : List ℕ) (positioning : Bool) (subtable : LookupSubtable) (o : Option ℕ)
    → is_context_kind positioning subtable.kind ≡ true → nat_eq (u16_of t subtable.start) 3 ≡ true
    → o ≡ first_list t subtable.start (whole_rule t (is_chained_kind positioning subtable.kind) subtable.start)
    → (glyph : ℕ) → begins_at t positioning subtable glyph ≡ option_map_or (λ list. covers t list glyph) o false
ruled t positioning subtable o context third is glyph =
    ap (λ k. if k then (if nat_eq (u16_of t subtable.start) 3
    then is_first t subtable.start (whole_rule t (is_chained_kind positioning subtable.kind) subtable.start) glyph
    else is_some (number_of t subtable.start glyph)) else is_some (number_of t subtable.start glyph)) context
    ∙ ap (λ f. if f then is_first t subtable.start (whole_rule t (is_chained_kind positioning subtable.kind) subtable.start) glyph
    else is_some (number_of t subtable.start glyph)) third
    ∙ ap (λ o. option_map_or (λ list. covers t list glyph) o false) (sym is)

pub one_more : (t : List ℕ) (positioning : Bool) (place : ℕ) (d e : Digest) (i : ℕ) → HasFirsts t positioning place d i → IsWithin d e
    → HasFirst t positioning place i e → HasFirsts t positioning place e (i + 1)
one_more t positioning place d e i before kept new j below = by_last (nat_eq j i) refl
  where
    by_last : (t' : Bool) → nat_eq j i ≡ t' → HasFirst t positioning place j e
    by_last true is = let same : i ≡ j = grind (arith, nat_tests, is) in subst (λ k. HasFirst t positioning place k e) same new
    by_last false is = λ subtable glyph there begins. kept glyph (before j (grind (arith, nat_tests, is, below)) subtable glyph there begins)
