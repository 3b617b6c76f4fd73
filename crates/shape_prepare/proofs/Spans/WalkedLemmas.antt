-- The code's walk over the graphemes of a buffer, whatever it does with each.
use Rattle.std.proofs.Common.{◌≡◌, ℕ, ◌+◌, ◌<◌, ◌≤◌, true, false, Bool, List, length, drop, map, refl, sym, ap, ◌∙◌, arith}
use Rattle.std.proofs.lemmas.List.{length-map, drop_all, drop-drop, drop-map}
use Rattle.shape_items.specs.Buffer.{Buffer, limit_of}
use Rattle.shape_items.specs.BufferClusters.{unsafe_to_break}
use Rattle.shape_buffer.specs.Outcome.{Made}
use Rattle.shape_items.proofs.Merging.KeyLemmas.{keys-unsafe_to_break, length-unsafe_to_break, without_items-unsafe_to_break}
use Rattle.shape_prepare.specs.ClustersFormed.{over_graphemes}
use Rattle.shape_items.specs.GraphemeSpans.{is_continuation, ends}
use Rattle.shape_prepare.specs.GraphemeWalk.{reverse_span, changed}
use Rattle.shape_prepare.specs.declared.grapheme_walk.GraphemeChange.{GraphemeChange}
use Rattle.shape_prepare.specs.declared.grapheme_walk.GraphemeChange.TheVariants.{Mark, Reverse}
use Rattle.shape_items.proofs.MergingInOrder.GraphemeWalkLemmas.{walk-spans, walk_ends, walk_goes_on, left_to_do, IsKey-continuation}
use Rattle.shape_prepare.proofs.Spans.ReversalLemmas.{after-reversed, length-reversed_range}

-- what is done with a span changes no bit after it, nor how many items there are, nor the limit
pub record LeavesRest (f : ℕ → ℕ → Buffer → Buffer) : Type 0 where
  pub bits : (start end : ℕ) (b : Buffer) → start ≤ end → end ≤ length b.items
      → drop end (map is_continuation (f start end b).items) ≡ drop end (map is_continuation b.items)
  pub as_many : (start end : ℕ) (b : Buffer) → start ≤ end → end ≤ length b.items → length (f start end b).items ≡ length b.items
  pub limit : (start end : ℕ) (b : Buffer) → limit_of (f start end b) ≡ limit_of b

-- the walk over a text has come to `last`, and the open grapheme began at `start`
pub record Walked (f : ℕ → ℕ → Buffer → Buffer) (text : Buffer) (start last : ℕ) (b : Buffer) : Type 0 where
  pub whole : left_to_do f start last (drop last (map is_continuation text.items)) b ≡ over_graphemes f text
  pub bits : drop last (map is_continuation b.items) ≡ drop last (map is_continuation text.items)
  pub as_many : length b.items ≡ length text.items
  pub limit : limit_of b ≡ limit_of text
  pub ordered : start ≤ last

module _ (f : ℕ → ℕ → Buffer → Buffer) (text : Buffer) where
  pub Walked-begun : Walked f text 0 0 text
  Walked-begun = record {
    whole = walk-spans is_continuation f text.items text;
    bits = refl;
    as_many = refl;
    limit = refl;
    ordered = omega arith;
  }

  module _ (start last : ℕ) (b : Buffer) (so_far : Walked f text start last b) where
    further : drop (last + 1) (map is_continuation b.items) ≡ drop (last + 1) (map is_continuation text.items)
    further =
        sym (drop-drop 1 last (map is_continuation b.items)) ∙ ap (λ (l : List Bool). drop 1 l) so_far.bits
        ∙ drop-drop 1 last (map is_continuation text.items)

    -- a grapheme ends in the buffer at hand where it ends in the text
    told : ends (map is_continuation (drop (last + 1) b.items)) ≡ ends (drop (last + 1) (map is_continuation text.items))
    told = ap ends (sym (drop-map is_continuation (last + 1) b.items) ∙ further)

    inside : last < length text.items → last < length (map is_continuation text.items)
    inside within = rw (length-map text.items is_continuation) within

    pub Walked-ends : LeavesRest f → last < length text.items → ends (map is_continuation (drop (last + 1) b.items)) ≡ true
        → Walked f text (last + 1) (last + 1) (f start (last + 1) b)
    Walked-ends leaves within ending =
        let ordered : start ≤ last + 1 = omega (arith, so_far.ordered) in
        let reach : last + 1 ≤ length b.items = omega (arith, within, so_far.as_many) in
        record {
          whole = walk_ends f start last (map is_continuation text.items) b (inside within) (sym told ∙ ending) ∙ so_far.whole;
          bits = leaves.bits start (last + 1) b ordered reach ∙ further;
          as_many = leaves.as_many start (last + 1) b ordered reach ∙ so_far.as_many;
          limit = leaves.limit start (last + 1) b ∙ so_far.limit;
          ordered = omega arith;
        }

    pub Walked-goes_on : last < length text.items → ends (map is_continuation (drop (last + 1) b.items)) ≡ false
        → Walked f text start (last + 1) b
    Walked-goes_on within ending = record {
      whole = walk_goes_on f start last (map is_continuation text.items) b (inside within) (sym told ∙ ending) ∙ so_far.whole;
      bits = further;
      as_many = so_far.as_many;
      limit = so_far.limit;
      ordered = omega (arith, so_far.ordered);
    }

    pub Walked-made : length text.items ≤ last → Made (over_graphemes f) text b
    Walked-made over =
        let past : length (map is_continuation text.items) ≤ last = rw (length-map text.items is_continuation) over in
        record {
          made = sym (ap (λ l. left_to_do f start last l b) (drop_all last (map is_continuation text.items) past)) ∙ so_far.whole;
          no_longer = omega (arith, so_far.as_many);
          same_limit = so_far.limit;
        }

-- ---- what the code does with a span

marking_leaves : LeavesRest unsafe_to_break
marking_leaves = record {
  bits = λ start end b ordered within. ap (drop end) (keys-unsafe_to_break is_continuation IsKey-continuation.by_break start end b);
  as_many = λ start end b ordered within. length-unsafe_to_break start end b;
  limit = λ start end b. ap limit_of (without_items-unsafe_to_break start end b);
}

reversal_leaves : LeavesRest reverse_span
reversal_leaves = record {
  bits = λ start end b ordered within. after-reversed is_continuation start end b.items ordered within;
  as_many = λ start end b ordered within. length-reversed_range start end b.items ordered within;
  limit = λ start end b. refl;
}

pub change_leaves : (change : GraphemeChange) → LeavesRest (changed change)
change_leaves Mark = marking_leaves
change_leaves Reverse = reversal_leaves
