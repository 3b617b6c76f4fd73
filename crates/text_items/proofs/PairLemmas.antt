-- Brackets that are open, and the one that another closes.
use Rattle.std.proofs.Common.{◌≡◌, ℕ, ◌+◌, ◌<◌, ◌==◌, true, false, List, [], ◌∷◌, length, get_or, reverse, take, ap, sym, ◌∙◌}
use Rattle.std.proofs.lemmas.Bool.{cond-true, cond-false}
use Rattle.std.proofs.lemmas.List.{reverse-append, take_more}
use Rattle.ucd_script.specs.declared.Script.TheVariants.{Adlam}
use Rattle.text_items.specs.Pairs.{from_match}
use Rattle.text_items.specs.Scripts.{Context, closed, closed_at}
use Rattle.text_items.specs.declared.pairs.Open.{Open}

-- what is read past the end of a list
abbrev pub no_open : Open
no_open = record { closing = 0; script = Adlam }

reverse_more : (es : List Open) (n : ℕ) → n < length es → reverse (take (n + 1) es) ≡ get_or es n no_open ∷ reverse (take n es)
reverse_more es n lt = ap reverse (take_more es n no_open lt) ∙ reverse-append (take n es) (get_or es n no_open ∷ [])

module _ (closing count n : ℕ) (es : List Open) (is_next : count ≡ n + 1) (lt : n < length es) where
  top : reverse (take count es) ≡ get_or es n no_open ∷ reverse (take n es)
  top = ap (λ k. reverse (take k es)) is_next ∙ reverse_more es n lt

  pub match_found : ((get_or es n no_open).closing == closing) ≡ true → from_match closing (reverse (take count es)) ≡ reverse (take count es)
  match_found on = ap (from_match closing) top ∙ cond-true ((get_or es n no_open).closing == closing) _ _ on ∙ sym top

  pub match_below : ((get_or es n no_open).closing == closing) ≡ false → from_match closing (reverse (take count es)) ≡ from_match closing (reverse (take n es))
  match_below off = ap (from_match closing) top ∙ cond-false ((get_or es n no_open).closing == closing) _ _ off

  pub closed_some : (context : Context) → context.brackets ≡ reverse es → reverse (take count es) ≡ from_match closing (reverse es)
      → closed closing context ≡ record { current = (get_or es n no_open).script; brackets = reverse (take n es) }
  closed_some context is found =
      ap (λ l. closed_at (from_match closing l) context) is ∙ ap (λ l. closed_at l context) (sym found ∙ top)

pub closed_none : (closing : ℕ) (es : List Open) (context : Context) → context.brackets ≡ reverse es → reverse (take 0 es) ≡ from_match closing (reverse es)
    → closed closing context ≡ context
closed_none closing es context is found =
    ap (λ l. closed_at (from_match closing l) context) is ∙ ap (λ l. closed_at l context) (sym found)
