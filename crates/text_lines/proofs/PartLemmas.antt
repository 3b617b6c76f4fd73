-- Parts of a line, lines of a text, one after another.
use Rattle.std.proofs.Common.{◌≡◌, ℕ, zero, suc, ◌≤◌, ℤ, List, [], ◌∷◌, ◌++◌, map, get_or, refl, sym, ap, ap₂, subst, ◌∙◌, arith}
use Rattle.text_lines.specs.Lines.{Shown, AreParts, AreLines, Follow, IsInOrder, IsMeasured, LeadsBack, in_order, level_of, nothing, pen_after}
use Rattle.text_lines.specs.Pieces.{level_in, no_piece, shown_of}
use Rattle.text_lines.specs.declared.pieces.Piece.{Piece}
use Rattle.text_lines.specs.declared.lines.TextRun.{TextRun}
use Rattle.text_lines.specs.declared.lines.TextLine.{TextLine}
use Rattle.bidi.specs.Lines.{visual_order}

pub AreParts-push : (start middle end : ℕ) (parts : List Shown) (part : Shown) → AreParts start middle parts → part.start ≡ middle
    → middle ≤ part.end → part.end ≡ end → AreParts start end (parts ++ part ∷ [])
AreParts-push start middle end [] part same begins le ends = (begins ∙ sym same, omega (arith, same), ends)
AreParts-push start middle end (first ∷ parts) part are begins le ends =
    (are.0, are.1, AreParts-push first.end middle end parts part are.2 begins le ends)

pub AreLines-push : (start middle : ℕ) (lines : List TextLine) (line : TextLine) → AreLines start middle lines → line.start ≡ middle
    → middle ≤ line.end → IsInOrder line → IsMeasured line → AreLines start line.end (lines ++ line ∷ [])
AreLines-push start middle [] line same begins le order measured = (begins ∙ sym same, omega (arith, same), order, measured, refl)
AreLines-push start middle (first ∷ lines) line are begins le order measured =
    (are.0, are.1, are.2, are.3, AreLines-push first.end middle lines line are.4 begins le order measured)

follow_on : (x middle : ℤ) (runs : List TextRun) (run : TextRun) → Follow x middle runs → run.x ≡ middle → LeadsBack run
    → Follow x (pen_after 0 middle run.glyphs.items) (runs ++ run ∷ [])
follow_on x middle [] run same begins leads = (begins ∙ sym same, leads, ap (λ m. pen_after 0 m run.glyphs.items) same)
follow_on x middle (first ∷ runs) run are begins leads =
    (are.0, are.1, follow_on (pen_after 0 x first.glyphs.items) middle runs run are.2 begins leads)

-- runs with one more at the right, which begins where they end
pub follow_pushed : (x middle end : ℤ) (runs after : List TextRun) (run : TextRun) → Follow x middle runs → run.x ≡ middle
    → LeadsBack run → after ≡ runs ++ run ∷ [] → end ≡ pen_after 0 middle run.glyphs.items → Follow x end after
follow_pushed x middle end runs after run follow begins leads pushed ends =
    subst (Follow x end) (sym pushed)
    (subst (λ e. Follow x e (runs ++ run ∷ [])) (sym ends) (follow_on x middle runs run follow begins leads))

get_shown : (pieces : List Piece) (k : ℕ) → get_or (map shown_of pieces) k nothing ≡ shown_of (get_or pieces k no_piece)
get_shown [] k = refl
get_shown (piece ∷ pieces) zero = refl
get_shown (piece ∷ pieces) (suc k) = get_shown pieces k

map_same : {A B : Type 0} (f g : A → B) (xs : List A) → ((x : A) → f x ≡ g x) → map f xs ≡ map g xs
map_same f g [] same = refl
map_same f g (x ∷ xs) same = ap₂ (λ y ys. y ∷ ys) (same x) (map_same f g xs same)

pub levels_shown : (pieces : List Piece) → map level_of (map shown_of pieces) ≡ map level_in pieces
levels_shown [] = refl
levels_shown (piece ∷ pieces) = ap (λ ls. piece.level ∷ ls) (levels_shown pieces)

-- pieces by their order are their parts by theirs
pub in_order-shown : (pieces : List Piece)
    → map (λ k. shown_of (get_or pieces k no_piece)) (visual_order (map level_in pieces)) ≡ in_order (map shown_of pieces)
in_order-shown pieces =
    map_same (λ k. shown_of (get_or pieces k no_piece)) (λ k. get_or (map shown_of pieces) k nothing) (visual_order (map level_in pieces))
    (λ k. sym (get_shown pieces k))
    ∙ ap (λ ls. map (λ k. get_or (map shown_of pieces) k nothing) (visual_order ls)) (sym (levels_shown pieces))
