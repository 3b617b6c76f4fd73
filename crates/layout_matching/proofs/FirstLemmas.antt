-- a subtable that doesn't begin at the glyph of a place does nothing there, and costs nothing
use Rattle.std.proofs.Common.{◌≡◌, ℕ, Bool, true, false, List, Option, Some, None, ◌/◌, ◌%◌, ◌^◌, ◌<◌, ◌≤◌, ◌+◌, ◌-◌, min, ◌&&◌, bit_and, bit_or, is_some, nat_eq, refl, ap, ◌∙◌, subst, arith, if◌then◌else◌}
use Rattle.std.proofs.lemmas.Bool.Decides.{nat_tests}
use Rattle.std.proofs.lemmas.Nat.Bits.{shr_and_one, bit_at_or, bit_at-pow_same, bit_at_ones, bit_at-lt}
use Rattle.std.specs.Int.{bit_at}
use Rattle.std.specs.Option.{option_and_then, option_map_or}
use Rattle.shape_font.specs.Bytes.{u16_of}
use Rattle.shape_items.specs.Items.{Item}
use Rattle.layout_tables.specs.Lookups.{subtable_count_of}
use Rattle.layout_tables.specs.declared.lookups.LookupSubtable.{LookupSubtable}
use Rattle.layout_matching.specs.Firsts.{has_bit, KeepsBits, may_begin, begins, IsOut, AreOut}
use Rattle.layout_matching.specs.Found.{is_chained, is_context_subtable, whole_rule, is_first, number_of, subtable_at, found_by_number, found_in_subtable, found_at_subtable, found_of}
use Rattle.layout_matching.specs.Loops.{first_some, steps}
use Rattle.layout_matching.specs.Rules.{FAR}
use Rattle.layout_matching.specs.Skipping.{nth}
use Rattle.layout_matching.specs.Work.{subtable_charged, charged_at_subtable, subtables_charged}
use Rattle.layout_matching.specs.declared.firsts.First.{First}
use Rattle.layout_matching.specs.declared.found.Found.{Found}
use Rattle.layout_matching.specs.declared.lookup.Lookup.{Lookup}
use Rattle.layout_matching.specs.declared.spans.Origin.{Origin}
use Rattle.layout_matching.proofs.LoopLemmas.{first_some_next, first_some_to, steps_next, steps_to}
use Rattle.layout_matching.proofs.WorkLemmas.{subtable_free}

pub near_values : (values : ℕ) → values < 2 ^ 37 → min values FAR ≡ values
near_values values near = omega (arith, near)

pub tested : (word n : ℕ) → nat_eq (bit_and (word / 2 ^ (n % 64)) 1) 1 ≡ has_bit word n
unfolding has_bit
tested word n = ap (λ x. nat_eq x 1) (shr_and_one word (n % 64))

-- ---- bits of words, and glyphs of three of them

pub bit_of : (word n : ℕ) → has_bit word n ≡ true → bit_at word (n % 64) ≡ 1
unfolding has_bit
bit_of word n is = grind (arith, nat_tests, is)

pub has_of : (word n : ℕ) → bit_at word (n % 64) ≡ 1 → has_bit word n ≡ true
unfolding has_bit
has_of word n is = ap (λ x. nat_eq x 1) is

pub all_set : (n : ℕ) → has_bit 18446744073709551615 n ≡ true
all_set n = has_of _ n (bit_at_ones 64 (n % 64) (omega arith))

pub set_before : (a b n : ℕ) → has_bit a n ≡ true → has_bit (bit_or a b) n ≡ true
set_before a b n x =
    let i = bit_of a n x in
    let j = bit_at-lt b (n % 64) in
    has_of (bit_or a b) n (bit_at_or a b (n % 64) ∙ omega (arith, i, j))

pub set_after : (a b n : ℕ) → has_bit b n ≡ true → has_bit (bit_or a b) n ≡ true
set_after a b n y =
    let i = bit_at-lt a (n % 64) in
    let j = bit_of b n y in
    has_of (bit_or a b) n (bit_at_or a b (n % 64) ∙ omega (arith, i, j))

pub bit_set : (word n : ℕ) → has_bit (bit_or word (2 ^ (n % 64))) n ≡ true
bit_set word n = set_after word (2 ^ (n % 64)) n (has_of (2 ^ (n % 64)) n (bit_at-pow_same (n % 64)))

pub glyph_in : (f : First) (g : ℕ) → has_bit f.fine g ≡ true → has_bit f.middle (g / 16) ≡ true → has_bit f.coarse (g / 512) ≡ true
    → may_begin f g ≡ true
glyph_in f g fine middle coarse = rw (fine, middle, coarse) refl

pub glyphs_kept : (f more : First) (g : ℕ) → KeepsBits f.fine more.fine → KeepsBits f.middle more.middle → KeepsBits f.coarse more.coarse
    → may_begin f g ≡ true → may_begin more g ≡ true
glyphs_kept f more g fine middle coarse = all_three (has_bit f.fine g) (has_bit f.middle (g / 16)) (has_bit f.coarse (g / 512)) refl refl refl
  where
    all_three : (x y z : Bool) → has_bit f.fine g ≡ x → has_bit f.middle (g / 16) ≡ y → has_bit f.coarse (g / 512) ≡ z
        → (x && y && z) ≡ true → may_begin more g ≡ true
    all_three true true true a b c is = glyph_in more g (fine g a) (middle (g / 16) b) (coarse (g / 512) c)
    all_three true true false a b c is = cc
    all_three true false z a b c is = cc
    all_three false y z a b c is = cc

-- ---- subtables

pub one_out : (l : Lookup) (i j glyph : ℕ) → AreOut l i j glyph → IsOut l j glyph → AreOut l i (j + 1) glyph
one_out l i j glyph before new k from below = by_last (nat_eq k j) refl
  where
    by_last : (t : Bool) → nat_eq k j ≡ t → IsOut l k glyph
    by_last true is = let same : j ≡ k = grind (arith, nat_tests, is) in subst (λ n. IsOut l n glyph) same new
    by_last false is = before k from (grind (arith, nat_tests, is, below))

-- no rule of the subtable is found
pub found_unbegun : (l : Lookup) (items : List Item) (origin : Origin) (subtable : LookupSubtable)
    → begins l subtable (nth items origin.at).glyph_id ≡ false → found_in_subtable l items origin subtable ≡ None
found_unbegun l items origin subtable =
    by_kind (is_context_subtable l subtable) (nat_eq (u16_of l.table.now subtable.start) 3)
    (is_first l.table.now subtable.start (whole_rule l.table.now (is_chained l subtable) subtable.start) (nth items origin.at).glyph_id)
    (number_of l.table.now subtable.start (nth items origin.at).glyph_id) _
  where
    by_number : (o : Option ℕ) → is_some o ≡ false → option_and_then (found_by_number l items origin subtable) o ≡ None
    by_number None none = refl
    by_number (Some number) none = cc

    by_kind : (t u first : Bool) (o : Option ℕ) (x : Option Found)
        → (if t then (if u then first else is_some o) else is_some o) ≡ false
        → (if t then (if u then (if first then x else None) else option_and_then (found_by_number l items origin subtable) o) else None) ≡ None
    by_kind true true true o x not = cc
    by_kind true true false o x not = refl
    by_kind true false first o x not = by_number o not
    by_kind false u first o x not = refl

pub found_out : (l : Lookup) (items : List Item) (origin : Origin) (i : ℕ) → IsOut l i (nth items origin.at).glyph_id
    → found_at_subtable l items origin i ≡ None
found_out l items origin i out = by_subtable (subtable_at l i) refl
  where
    by_subtable : (o : Option LookupSubtable) → subtable_at l i ≡ o → option_and_then (found_in_subtable l items origin) o ≡ None
    by_subtable None e = refl
    by_subtable (Some subtable) e = found_unbegun l items origin subtable (out subtable e)

-- nothing is charged
pub charged_out : (l : Lookup) (items : List Item) (at i left : ℕ) → IsOut l i (nth items at).glyph_id
    → charged_at_subtable l items at i left ≡ Some left
charged_out l items at i left out = by_subtable (subtable_at l i) refl
  where
    by_subtable : (o : Option LookupSubtable) → subtable_at l i ≡ o → option_map_or (subtable_charged l items at left) o (Some left) ≡ Some left
    by_subtable None e = refl
    by_subtable (Some subtable) e = subtable_free l items at left subtable (out subtable e)

-- so none of those that don't begin there is
none_found : (l : Lookup) (items : List Item) (origin : Origin) (n i j : ℕ) → i ≤ j → j ≤ n → AreOut l i j (nth items origin.at).glyph_id
    → first_some (found_at_subtable l items origin) (n - i) i ≡ first_some (found_at_subtable l items origin) (n - j) j
none_found l items origin n i j from within out =
    first_some_to (found_at_subtable l items origin) n i j from within (λ k low below. found_out l items origin k (out k low below))

none_charged : (l : Lookup) (items : List Item) (at n i j left : ℕ) → i ≤ j → j ≤ n → AreOut l i j (nth items at).glyph_id
    → steps (charged_at_subtable l items at) (n - i) i left ≡ steps (charged_at_subtable l items at) (n - j) j left
none_charged l items at n i j left from within out =
    steps_to (charged_at_subtable l items at) n i j left from within (λ k low below. charged_out l items at k left (out k low below))

-- from the first that begins there to the next
pub find_begun : (l : Lookup) (items : List Item) (origin : Origin) (n j : ℕ) → n ≡ subtable_count_of l.table.now l.place → j ≤ n
    → AreOut l 0 j (nth items origin.at).glyph_id
    → found_of l items origin ≡ first_some (found_at_subtable l items origin) (n - j) j
find_begun l items origin n j count within out =
    let e : subtable_count_of l.table.now l.place ≡ n - 0 = omega (arith, count) in
    ap (λ m. first_some (found_at_subtable l items origin) m 0) e ∙ none_found l items origin n 0 j (omega arith) within out

pub find_next : (l : Lookup) (items : List Item) (origin : Origin) (n i j : ℕ) → i < n → i + 1 ≤ j → j ≤ n
    → AreOut l (i + 1) j (nth items origin.at).glyph_id → found_at_subtable l items origin i ≡ None
    → found_of l items origin ≡ first_some (found_at_subtable l items origin) (n - i) i
    → found_of l items origin ≡ first_some (found_at_subtable l items origin) (n - j) j
find_next l items origin n i j more from within out none before =
    before ∙ first_some_next (found_at_subtable l items origin) n i more none ∙ none_found l items origin n (i + 1) j from within out

pub charge_begun : (l : Lookup) (items : List Item) (at n j left : ℕ) → n ≡ subtable_count_of l.table.now l.place → j ≤ n
    → AreOut l 0 j (nth items at).glyph_id
    → subtables_charged l items at left ≡ steps (charged_at_subtable l items at) (n - j) j left
charge_begun l items at n j left count within out =
    let e : subtable_count_of l.table.now l.place ≡ n - 0 = omega (arith, count) in
    ap (λ m. steps (charged_at_subtable l items at) m 0 left) e ∙ none_charged l items at n 0 j left (omega arith) within out

pub charge_next : (l : Lookup) (items : List Item) (at n i j first left rest : ℕ) → i < n → i + 1 ≤ j → j ≤ n
    → AreOut l (i + 1) j (nth items at).glyph_id → charged_at_subtable l items at i left ≡ Some rest
    → subtables_charged l items at first ≡ steps (charged_at_subtable l items at) (n - i) i left
    → subtables_charged l items at first ≡ steps (charged_at_subtable l items at) (n - j) j rest
charge_next l items at n i j first left rest more from within out made before =
    before ∙ steps_next (charged_at_subtable l items at) n i left rest more made ∙ none_charged l items at n (i + 1) j rest from within out
