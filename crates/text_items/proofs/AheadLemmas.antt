-- The script after each cluster, one cluster back.
use Rattle.std.proofs.Common.{◌≡◌, ℕ, ◌+◌, ◌<◌, true, false, List, ◌∷◌, length, get_or, drop, set, ap, ap₂, sym, ◌∙◌}
use Rattle.std.proofs.lemmas.Bool.{cond-true, cond-false}
use Rattle.std.proofs.lemmas.List.{drop_more, drop-set}
use Rattle.ucd_script.specs.declared.Script.{Script}
use Rattle.text_items.specs.Scripts.{first_script, is_explicit, with_next}
use Rattle.text_items.specs.declared.clusters.Cluster.{Cluster}
use Rattle.text_items.proofs.ItemLemmas.{no_cluster}

module _ (old now : List Cluster) (n : ℕ) (lt : n < length old) (lt' : n < length now) where
  pub ahead_set : (next : Script) → next ≡ first_script (drop (n + 1) old) → get_or now n no_cluster ≡ get_or old n no_cluster
      → drop (n + 1) now ≡ with_next (drop (n + 1) old)
      → drop n (set now n (record (get_or now n no_cluster) { next = next })) ≡ with_next (drop n old)
  ahead_set next is_next same rest =
      drop-set now n (record (get_or now n no_cluster) { next = next }) lt'
      ∙ ap₂ (λ (c : Cluster) l. record c { next = next } ∷ l) same rest
      ∙ ap (λ s. record (get_or old n no_cluster) { next = s } ∷ with_next (drop (n + 1) old)) is_next
      ∙ ap with_next (sym (drop_more old n no_cluster lt))

  pub first_is_here : is_explicit (get_or old n no_cluster).script ≡ true → (get_or old n no_cluster).script ≡ first_script (drop n old)
  first_is_here on = sym (ap first_script (drop_more old n no_cluster lt) ∙ cond-true (is_explicit (get_or old n no_cluster).script) _ _ on)

  pub first_is_later : is_explicit (get_or old n no_cluster).script ≡ false → first_script (drop (n + 1) old) ≡ first_script (drop n old)
  first_is_later off = sym (ap first_script (drop_more old n no_cluster lt) ∙ cond-false (is_explicit (get_or old n no_cluster).script) _ _ off)
