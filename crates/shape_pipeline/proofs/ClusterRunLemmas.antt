-- The clusters of what a run hands out, whichever way its calls keep their order.
use Rattle.std.proofs.Common.{◌≡◌, ◌≢◌, inl, inr, ℕ, Bool, true, false, List, [], ◌∷◌, length, refl, ap, arith}
use Rattle.std.specs.Prelude.{Contains}
use Rattle.shape_items.specs.Buffer.{Buffer}
use Rattle.shape_items.specs.ClusterOrder.{IsOrderedFor}
use Rattle.shape_items.specs.Clusters.{clusters}
use Rattle.shape_items.specs.Items.{Item}
use Rattle.shape_buffer.specs.Outcome.{run_steps}
use Rattle.shape_common.specs.Direction.{is_backward}
use Rattle.shape_common.specs.declared.text_types.BufferClusterLevel.TheVariants.{MonotoneGraphemes}
use Rattle.shape_common.specs.declared.text_types.Direction.{Direction}
use Rattle.shape_common.specs.declared.text_types.Direction.TheVariants.{Invalid}
use Rattle.shape_normalize.proofs.Hooks.ReorderLemmas.{LawfulReorder}
use Rattle.shape_plan.specs.Run.{Run}
use Rattle.shape_prepare.specs.PrepareSteps.{prepare_steps}
use Rattle.shape_prepare.proofs.Preservation.FirstLemmas.{preparing_preserves_firsts}
use Rattle.shape_prepare.proofs.Preservation.PreservationLemmas.{preparing_preserves_order}
use Rattle.shape_pipeline.specs.Order.{RunPreservesClusters, EndsInOrder, ComesInOrder, OrderIsKept, ClustersComeInOrder, grapheme_clusters}
use Rattle.shape_pipeline.specs.Shaped.{all_steps, entered, finished, run_made}
use Rattle.shape_pipeline.proofs.EndOrderLemmas.{quiet, quiet-calls, shown-in_the_end}
use Rattle.shape_pipeline.proofs.OrderLemmas.{IsShown, shown-all}

-- a list without items is in order
ordered-none : (backward : Bool) (xs : List ℕ) → xs ≡ [] → IsOrderedFor backward xs
ordered-none true xs none = λ i j d first second. absurd (omega (arith, second, ap length none))
ordered-none false xs none = λ i j d first second. absurd (omega (arith, second, ap length none))

-- and has no cluster
none_in : (xs : List ℕ) (k : ℕ) → xs ≡ [] → Contains xs k → ⊥
none_in xs k none is = omega (arith, is.1, ap length none)

-- the clusters of the prepared text are the text's, at MONOTONE_GRAPHEMES those of its graphemes' first characters
record IsPreparedFrom (run : Run) (target : Direction) (text : Buffer) : Type 0 where
  of_text : (k : ℕ) → Contains (clusters (run_steps (prepare_steps run target) (entered text)).items) k → Contains (clusters text.items) k
  of_firsts : text.cluster_level ≡ MonotoneGraphemes
      → (k : ℕ) → Contains (clusters (run_steps (prepare_steps run target) (entered text)).items) k → Contains (grapheme_clusters run text) k

-- a whole run, with each cluster from where preparing takes it
abbrev Shows : Run → Direction → Buffer → Type 1
Shows run target text =
    (From : ℕ → Type 0) → ((k : ℕ) → Contains (clusters (run_steps (prepare_steps run target) (entered text)).items) k → From k)
    → IsShown From target (run_steps (all_steps run target) (entered text))

come-made : (run : Run) (target : Direction) (text : Buffer) → IsPreparedFrom run target text → Shows run target text
    → ComesInOrder run target text (run_made run target text)
come-made run target text prepared shown = from text.items refl
  where
    of_text : IsShown (λ k. Contains (clusters text.items) k) target (run_steps (all_steps run target) (entered text))
    of_text = shown (λ k. Contains (clusters text.items) k) prepared.of_text

    of_firsts : text.cluster_level ≡ MonotoneGraphemes
        → IsShown (λ k. Contains (grapheme_clusters run text) k) target (run_steps (all_steps run target) (entered text))
    of_firsts level = shown (λ k. Contains (grapheme_clusters run text) k) (prepared.of_firsts level)

    from : (items : List Item) → text.items ≡ items
        → ComesInOrder run target text (elim items [
          | [] ↦ text
          | _
              ∷ _ ↦ finished target (run_steps (all_steps run target) (entered text))
        ])
    from [] is =
        let none : clusters text.items ≡ [] = rw is refl in
        record {
          from_text = λ k has. has;
          from_firsts = λ level k has. absurd (none_in (clusters text.items) k none has);
          ordered = ordered-none (is_backward target) (clusters text.items) none;
        }
    from (x ∷ xs) is = record {
      from_text = of_text.comes.from;
      from_firsts = λ level. (of_firsts level).comes.from;
      ordered = of_text.ordered;
    }

-- they come in order if each call preserves clusters
pub made-by_calls : (run : Run) (target : Direction) → target ≢ Invalid → LawfulReorder run.rules.reorder
    → (text : Buffer) → text.direction ≡ target → RunPreservesClusters run → OrderIsKept run target text (run_made run target text)
made-by_calls run target valid lawful text towards preserves monotone rising =
    let calls = preserves.calls in
    come-made run target text (record {
      of_text = (preparing_preserves_order run target (entered text) calls monotone rising).none_new;
      of_firsts = λ level. preparing_preserves_firsts run target (entered text) calls level rising;
    })
    (λ From taken. shown-all run target valid From lawful preserves.reordering calls (entered text) towards monotone rising taken)

-- and if the run ends in order, by a plan for its direction
pub made-in_the_end : (run : Run) (target : Direction) → LawfulReorder run.rules.reorder
    → (text : Buffer) → run.direction ≡ target → EndsInOrder run → OrderIsKept run target text (run_made run target text)
made-in_the_end run target lawful text planned ends monotone rising =
    let calls = quiet-calls run ends in
    come-made run target text (record {
      of_text = (preparing_preserves_order (quiet run) target (entered text) calls monotone rising).none_new;
      of_firsts = λ level. preparing_preserves_firsts (quiet run) target (entered text) calls level rising;
    })
    (λ From taken. shown-in_the_end run ends target planned lawful ends.reordering From (entered text) monotone rising taken)

-- so they do by a plan for the direction of the text
pub clusters-run_made : (run : Run) (target : Direction) → target ≢ Invalid → LawfulReorder run.rules.reorder → (text : Buffer)
    → text.direction ≡ target → run.direction ≡ target → ClustersComeInOrder run target text (run_made run target text)
clusters-run_made run target valid lawful text towards planned (inl preserves) = made-by_calls run target valid lawful text towards preserves
clusters-run_made run target valid lawful text towards planned (inr ends) = made-in_the_end run target lawful text planned ends
