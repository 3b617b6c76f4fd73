-- The carets of a cell and of cells, one after the other.
use Rattle.std.proofs.Common.{◌≡◌, ℕ, zero, suc, ◌+◌, ◌<◌, ℤ, List, [], ◌∷◌, ◌++◌, length, drop, get_or, sym, ap, ap₂, subst, ◌∙◌, append_assoc}
use Rattle.std.proofs.lemmas.List.{drop_more}
use Rattle.std.specs.List.{filter}
use Rattle.shape_common.specs.Wrapping.{◌+ʷ◌}
use Rattle.shape_carets.specs.Carets.{caret, spread, cell_carets, carets_from, is_inside}
use Rattle.shape_carets.specs.Cells.{start_of, Rises}
use Rattle.shape_carets.specs.declared.caret.Caret.{Caret}
use Rattle.shape_carets.specs.declared.cells.Cell.{Cell}

spread-more : (x step : ℤ) (stops : List ℕ) (i : ℕ) → i < length stops
    → spread x step (drop i stops) ≡ caret (get_or stops i 0) (x +ʷ step) ∷ spread (x +ʷ step) step (drop (i + 1) stops)
spread-more x step stops i lt = ap (spread x step) (drop_more stops i 0 lt)

pub push-spread : (x next step : ℤ) (stops : List ℕ) (i : ℕ) (items new whole : List Caret) → i < length stops → next ≡ x +ʷ step
    → new ≡ items ++ caret (get_or stops i 0) next ∷ [] → items ++ spread x step (drop i stops) ≡ whole
    → new ++ spread next step (drop (i + 1) stops) ≡ whole
push-spread x next step stops i items new whole lt is pushed so_far =
    ap (λ l. l ++ spread next step (drop (i + 1) stops)) pushed
    ∙ append_assoc items _ _
    ∙ ap (λ z. items ++ caret (get_or stops i 0) z ∷ spread z step (drop (i + 1) stops)) is
    ∙ ap (λ l. items ++ l) (sym (spread-more x step stops i lt))
    ∙ so_far

-- ---- cells

pub start-at : (end : ℕ) (cells : List Cell) (k : ℕ) (d : Cell) → k < length cells → start_of end (drop k cells) ≡ (get_or cells k d).offset
start-at end cells k d lt = ap (start_of end) (drop_more cells k d lt)

rises-drop : (end : ℕ) (cells : List Cell) (k : ℕ) → Rises end cells → Rises end (drop k cells)
rises-drop end cells zero rise = rise
rises-drop end [] (suc k) rise = tt
rises-drop end (c ∷ cells) (suc k) rise = rises-drop end cells k rise.1

pub rises-at : (end : ℕ) (cells : List Cell) (k : ℕ) (d : Cell) → Rises end cells → k < length cells
    → (get_or cells k d).offset < start_of end (drop (k + 1) cells)
rises-at end cells k d rise lt = (subst (Rises end) (drop_more cells k d lt) (rises-drop end cells k rise)).0

carets-more : (end : ℕ) (stops : List ℕ) (x : ℤ) (cells : List Cell) (k : ℕ) (d : Cell) → k < length cells
    → carets_from end stops x (drop k cells)
    ≡ cell_carets (get_or cells k d) x (filter (is_inside (get_or cells k d).offset (start_of end (drop (k + 1) cells))) stops)
    ++ carets_from end stops (x +ʷ (get_or cells k d).advance) (drop (k + 1) cells)
carets-more end stops x cells k d lt = ap (carets_from end stops x) (drop_more cells k d lt)

pub push-cell : (end : ℕ) (stops : List ℕ) (x next : ℤ) (cells : List Cell) (k : ℕ) (d : Cell) (inside : List ℕ) (items new whole : List Caret)
    → k < length cells → next ≡ x +ʷ (get_or cells k d).advance
    → filter (is_inside (get_or cells k d).offset (start_of end (drop (k + 1) cells))) stops ≡ inside
    → new ≡ items ++ cell_carets (get_or cells k d) x inside → items ++ carets_from end stops x (drop k cells) ≡ whole
    → new ++ carets_from end stops next (drop (k + 1) cells) ≡ whole
push-cell end stops x next cells k d inside items new whole lt is inside_is pushed so_far =
    let c = get_or cells k d in
    ap₂ (λ l z. l ++ carets_from end stops z (drop (k + 1) cells)) pushed is
    ∙ append_assoc items _ _
    ∙ ap (λ l. items ++ (cell_carets c x l ++ carets_from end stops (x +ʷ c.advance) (drop (k + 1) cells))) (sym inside_is)
    ∙ ap (λ l. items ++ l) (sym (carets-more end stops x cells k d lt))
    ∙ so_far
