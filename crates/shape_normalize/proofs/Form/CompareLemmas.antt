-- Two lists of items with the same characters.
use Rattle.std.proofs.Common.{◌≡◌, Bool, true, ◌==◌, List, [], ◌∷◌, length, map, refl, sym, ap, ap₂, ◌∙◌, arith, eq-eqb}
use Rattle.std.proofs.lemmas.Bool.{and_parts}
use Rattle.std.proofs.lemmas.Bool.Decides.{nat_tests}
use Rattle.std.proofs.lemmas.List.{length-map}
use Rattle.std.specs.List.{list_all, zip}
use Rattle.shape_items.specs.Items.{Item, char_of}

abbrev alike : Item × Item → Bool
alike pair = pair.0.codepoint == pair.1.codepoint

pub same_where_alike : (xs ys : List Item) → length xs ≡ length ys → list_all alike (zip xs ys) ≡ true → map char_of xs ≡ map char_of ys
same_where_alike [] [] long all = refl
same_where_alike [] (y ∷ ys) long all = absurd (omega (arith, long))
same_where_alike (x ∷ xs) [] long all = absurd (omega (arith, long))
same_where_alike (x ∷ xs) (y ∷ ys) long all =
    let both = and_parts (alike (x, y)) (list_all alike (zip xs ys)) all in
    let same : x.codepoint ≡ y.codepoint = grind (arith, nat_tests) in
    ap₂ ◌∷◌ same (same_where_alike xs ys (omega (arith, long)) both.1)

-- lists with the same characters are alike as far as both go
pub alike_where_same : (xs ys : List Item) → map char_of xs ≡ map char_of ys → list_all alike (zip xs ys) ≡ true
alike_where_same [] ys same = refl
alike_where_same (x ∷ xs) [] same = refl
alike_where_same (x ∷ xs) (y ∷ ys) same =
    let first : x.codepoint ≡ y.codepoint = cc in
    let rest : map char_of xs ≡ map char_of ys = cc in
    rw (eq-eqb x.codepoint y.codepoint first) (alike_where_same xs ys rest)

pub as_long_where_same : (xs ys : List Item) → map char_of xs ≡ map char_of ys → length xs ≡ length ys
as_long_where_same xs ys same = sym (length-map xs char_of) ∙ ap length same ∙ length-map ys char_of
