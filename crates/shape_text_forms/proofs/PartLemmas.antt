-- lists of glyphs in parts
use Rattle.std.proofs.Common.{◌≡◌, ℕ, suc, ◌+◌, ◌<◌, ◌≤◌, List, [], ◌∷◌, ◌++◌, length, get_or, drop, true, refl, ap, ap₂, append_assoc, arith}
use Rattle.std.proofs.Math.Seq.{drop-cons}
use Rattle.std.proofs.lemmas.List.{drop_all}
use Rattle.shape_items.specs.Items.{Item}
use Rattle.shape_common.specs.declared.positions.GlyphPosition.{GlyphPosition}
use Rattle.shape_text_forms.specs.Serialize.{Form}
use Rattle.shape_text_forms.specs.Lists.{entry_in, glyphs_from, listed, part_text, next_spot, spot_after, start, PartsMakeLists}
use Rattle.shape_text_forms.specs.declared.content.ListForm.{ListForm}
use Rattle.shape_text_forms.specs.declared.content.Spot.{Spot}

-- the next glyph of those that are left
pub part_text-next : (list : ListForm) (form : Form) (spot : Spot) (xs : List Item) (ps : List GlyphPosition) (i : ℕ) (x : Item) (p : GlyphPosition)
    → get_or xs i x ≡ x → get_or ps i p ≡ p → i < length xs → i < length ps
    → part_text list form spot (drop i xs) (drop i ps)
    ≡ entry_in list form spot.first spot.pen x p ++ part_text list form (next_spot form.flags spot p) (drop (i + 1) xs) (drop (i + 1) ps)
part_text-next list form spot xs ps i x p hx hp lx lp =
    let s : suc i ≡ i + 1 = omega arith in
    let ex : drop i xs ≡ x ∷ drop (i + 1) xs = rw (drop-cons xs i x lx, hx, s) refl in
    let ep : drop i ps ≡ p ∷ drop (i + 1) ps = rw (drop-cons ps i p lp, hp, s) refl in
    ap₂ (part_text list form spot) ex ep

-- no glyph is left
pub part_text-end : (list : ListForm) (form : Form) (spot : Spot) (xs : List Item) (ps : List GlyphPosition) (i : ℕ)
    → length xs ≤ i → part_text list form spot (drop i xs) ps ≡ []
part_text-end list form spot xs ps i h = rw (drop_all i xs h) refl

pub spot_after-next : (flags : ℕ) (spot : Spot) (ps : List GlyphPosition) (i : ℕ) (p : GlyphPosition)
    → get_or ps i p ≡ p → i < length ps
    → spot_after flags spot (drop i ps) ≡ spot_after flags (next_spot flags spot p) (drop (i + 1) ps)
spot_after-next flags spot ps i p hp lp =
    let s : suc i ≡ i + 1 = omega arith in
    let ep : drop i ps ≡ p ∷ drop (i + 1) ps = rw (drop-cons ps i p lp, hp, s) refl in
    ap (spot_after flags spot) ep

pub spot_after-end : (flags : ℕ) (spot : Spot) (ps : List GlyphPosition) (i : ℕ) → length ps ≤ i → spot_after flags spot (drop i ps) ≡ spot
spot_after-end flags spot ps i h = rw (drop_all i ps h) refl

-- two parts are one
joined : (list : ListForm) (form : Form) (spot : Spot) (xs ys : List Item) (ps qs : List GlyphPosition) → length ps ≡ length xs
    → part_text list form spot (xs ++ ys) (ps ++ qs) ≡ part_text list form spot xs ps ++ part_text list form (spot_after form.flags spot ps) ys qs
joined list form spot [] ys [] qs same = refl
joined list form spot [] ys (p ∷ ps) qs same = absurd (omega (arith, same))
joined list form spot (x ∷ xs) ys [] qs same = absurd (omega (arith, same))
joined list form spot (x ∷ xs) ys (p ∷ ps) qs same =
    let rest = joined list form (next_spot form.flags spot p) xs ys ps qs (omega (arith, same)) in
    rw rest (simp append_assoc refl)

-- a part and the end of the list are the rest of it
ended : (list : ListForm) (form : Form) (spot : Spot) (xs : List Item) (ps : List GlyphPosition) → length ps ≡ length xs
    → glyphs_from list form spot.first spot.pen xs ps ≡ part_text list form spot xs ps ++ 93 ∷ []
ended list form spot [] ps same = refl
ended list form spot (x ∷ xs) [] same = absurd (omega (arith, same))
ended list form spot (x ∷ xs) (p ∷ ps) same =
    let rest = ended list form (next_spot form.flags spot p) xs ps (omega (arith, same)) in
    rw rest (simp append_assoc refl)

pub list_ended : (list : ListForm) (form : Form) (x : Item) (xs : List Item) (ps : List GlyphPosition) → length ps ≡ length (x ∷ xs)
    → listed list form (x ∷ xs) ps ≡ part_text list form start (x ∷ xs) ps ++ 93 ∷ []
list_ended list form x xs ps same = ended list form start (x ∷ xs) ps same

-- a list that is appended as one part and an end
pub appended_list : (list : ListForm) (form : Form) (o : List ℕ) {m n : List ℕ} (xs : List Item) (ps : List GlyphPosition) → length ps ≡ length xs
    → m ≡ o ++ part_text list form start xs ps → n ≡ m ++ 93 ∷ [] → n ≡ o ++ glyphs_from list form true start.pen xs ps
appended_list list form o xs ps same part end = rw (end, part, ended list form start xs ps same) (simp append_assoc refl)

pub parts_make_lists : PartsMakeLists
parts_make_lists = record { joined = joined; ended = list_ended }
