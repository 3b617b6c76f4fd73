-- A rule that makes one item of two preserves the limit, and makes no list longer.
use Rattle.std.proofs.Common.{◌≡◌, ℕ, ◌+◌, ◌≤◌, List, length, get_or, set, ap, sym, subst, ◌∙◌, arith}
use Rattle.std.proofs.lemmas.List.{length-set}
use Rattle.std.proofs.lemmas.List.Edits.{length-remove}
use Rattle.std.specs.List.{remove}
use Rattle.shape_items.specs.Buffer.{Buffer, limit_of}
use Rattle.shape_items.specs.BufferClusters.{merge_clusters}
use Rattle.shape_items.specs.Items.{Item, new_item}
use Rattle.shape_buffer.specs.Outcome.{Made}
use Rattle.shape_items.proofs.Merging.KeyLemmas.{length-merge_clusters, without_items-merge_clusters}
use Rattle.test_fixtures.specs.Rules.{with_glyph, made_one}
use Rattle.test_fixtures.specs.declared.rules.Ligature.{Ligature}

-- one of the two items goes
shorter : (xs : List Item) (i : ℕ) (item : Item) (n : ℕ) → length xs ≡ n → i + 2 ≤ n → length (remove (set xs i item) (i + 1)) ≤ n
shorter xs i item n as_many within =
    let long = length-set xs i item in
    let one = length-remove (set xs i item) (i + 1) (omega arith) in
    omega arith

pub Made-made_one : (rule : Ligature) (i : ℕ) (b new : Buffer) → new ≡ made_one rule i b → i + 2 ≤ length b.items → Made (made_one rule i) b new
unfolding made_one
Made-made_one rule i b new made within =
    let merged = merge_clusters i (i + 2) b in
    let glyph = with_glyph rule.into (get_or merged.items i (new_item 0 0)) in
    let fewer = shorter merged.items i glyph (length b.items) (length-merge_clusters i (i + 2) b) within in
    record {
      made = made;
      no_longer = (let P : Buffer → Type 0 = λ x. length x.items ≤ length b.items in subst P (sym made) fewer);
      same_limit = ap limit_of made ∙ ap limit_of (without_items-merge_clusters i (i + 2) b);
    }
