-- What is covered from a caret on.
use Rattle.std.proofs.Common.{◌≡◌, ℕ, ◌+◌, ◌<◌, ◌≤◌, List, length, drop, get_or, arith, sym, ap, ◌∷◌, ◌∙◌}
use Rattle.std.proofs.lemmas.List.{drop_more, drop_all}
use Rattle.shape_carets.specs.Selections.{covered, selection_of}
use Rattle.shape_carets.specs.declared.caret.Caret.{Caret}

pub selection-more : (carets : List Caret) (n start end : ℕ) (d : Caret) → n + 1 < length carets
    → selection_of (drop n carets) start end
    ≡ covered (get_or carets n d) (get_or carets (n + 1) d) start end (selection_of (drop (n + 1) carets) start end)
selection-more carets n start end d lt =
    let next = drop_more carets (n + 1) d lt in
    ap (λ l. selection_of l start end) (drop_more carets n d (omega arith) ∙ ap (λ l. get_or carets n d ∷ l) next)
    ∙ ap (λ l. covered (get_or carets n d) (get_or carets (n + 1) d) start end (selection_of l start end)) (sym next)

pub selection-last : (carets : List Caret) (n start end : ℕ) (d : Caret) → n < length carets → length carets ≤ n + 1
    → selection_of (drop n carets) start end ≡ selection_of (drop (n + 1) carets) start end
selection-last carets n start end d lt le =
    let none = drop_all (n + 1) carets le in
    ap (λ l. selection_of l start end) (drop_more carets n d lt ∙ ap (λ l. get_or carets n d ∷ l) none)
    ∙ ap (λ l. selection_of l start end) (sym none)
