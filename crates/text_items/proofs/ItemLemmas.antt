-- The runs of a text, one cluster on.
use Rattle.std.proofs.Common.{◌≡◌, ℕ, ◌+◌, ◌<◌, true, false, List, [], ◌∷◌, ◌++◌, length, get_or, drop, ap, ap₂, sym, ◌∙◌, append_assoc}
use Rattle.std.proofs.lemmas.Bool.{cond-true, cond-false}
use Rattle.std.proofs.lemmas.List.{drop_more}
use Rattle.text_items.specs.Items.{is_same, joined_from, single, singles_from}
use Rattle.text_items.specs.Scripts.{Context, stepped}
use Rattle.text_items.specs.declared.clusters.Cluster.{Cluster}
use Rattle.text_items.specs.declared.items.Item.{Item}
use Rattle.ucd_script.specs.declared.Script.TheVariants.{Adlam}
use Rattle.text_items.specs.declared.presentation.Presentation.TheVariants.{Text}

-- what is read past the end of a list
abbrev pub no_cluster : Cluster
no_cluster = record { start = 0; end = 0; first = 0; script = Adlam; next = Adlam; level = 0; presentation = Text; language = 0; features = 0 }

module _ (n : ℕ) (clusters : List Cluster) (none : Cluster) (context after : Context) (item next : Item) (lt : n < length clusters)
    (is_after : after ≡ stepped (get_or clusters n none) context) (is_next : next ≡ single (get_or clusters n none) after) where
  one_on : joined_from item (singles_from context (drop n clusters)) ≡ joined_from item (next ∷ singles_from after (drop (n + 1) clusters))
  one_on =
      ap (λ l. joined_from item (singles_from context l)) (drop_more clusters n none lt)
      ∙ ap₂ (λ i k. joined_from item (i ∷ singles_from k (drop (n + 1) clusters)))
      (ap (single (get_or clusters n none)) (sym is_after) ∙ sym is_next) (sym is_after)

  -- a cluster that agrees with the run
  pub run_goes_on : (done : List Item) → is_same item.properties next.properties ≡ true
      → done ++ joined_from (record item { end = next.end }) (singles_from after (drop (n + 1) clusters))
      ≡ done ++ joined_from item (singles_from context (drop n clusters))
  run_goes_on done on = ap (λ l. done ++ l) (sym (one_on ∙ cond-true (is_same item.properties next.properties) _ _ on))

  -- one that doesn't
  pub run_ends : (done : List Item) → is_same item.properties next.properties ≡ false
      → (done ++ item ∷ []) ++ joined_from next (singles_from after (drop (n + 1) clusters))
      ≡ done ++ joined_from item (singles_from context (drop n clusters))
  run_ends done off =
      append_assoc done (item ∷ []) _
      ∙ ap (λ l. done ++ l) (sym (one_on ∙ cond-false (is_same item.properties next.properties) _ _ off))
