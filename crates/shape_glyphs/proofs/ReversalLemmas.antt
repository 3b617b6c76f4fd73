-- What the reversal of a list does to the order of its clusters and to its flags.
use Rattle.std.proofs.Common.{◌≡◌, ℕ, Bool, true, false, List, length, reverse, refl, sym, ◌∙◌, subst, inl}
use Rattle.std.specs.Prelude.{Contains, if◌then◌else◌, not}
use Rattle.std.specs.List.Sorted.{IsNonDecreasing}
use Rattle.std.proofs.lemmas.List.{length-reverse}
use Rattle.shape_items.specs.Buffer.{Buffer}
use Rattle.shape_items.specs.ClusterOrder.{IsNonIncreasing, IsOrderedFor}
use Rattle.shape_items.specs.Clusters.{clusters}
use Rattle.shape_common.specs.Direction.{is_backward}
use Rattle.shape_buffer.specs.Preservation.{IsFlagPreserving}
use Rattle.shape_items.specs.PreservesFlags.{PreservesFlags}
use Rattle.shape_items.proofs.Flags.FlagLemmas.{PreservesFlags-same}
use Rattle.shape_items.proofs.Order.ReversedLemmas.{clusters-reverse, falls-reverse, rises-reverse, Contains-reverse, some_has-reverse}
use Rattle.shape_glyphs.specs.StepEffects.{ReversesOrder, PreservesLengths}
use Rattle.shape_glyphs.specs.Reversal.{reversed}

abbrev reversed_if : Bool → Buffer → Buffer
reversed_if backward b = if backward then record b { items = reverse b.items; positions = reverse b.positions } else b

-- the reversal inverts the order of clusters exactly when the text runs backward
pub reversal-reverses : (b : Buffer) → ReversesOrder b (reversed b)
unfolding reversed
reversal-reverses b = record {
  reversed = reversed_clusters (is_backward b.direction);
  rising = λ rising. reversed_rising (is_backward b.direction) rising;
  falling = λ falling. reversed_falling (is_backward b.direction) falling;
  none_new = λ k is. reversed_none_new (is_backward b.direction) k is;
  direction = reversed_direction (is_backward b.direction);
  flags = reversed_flags (is_backward b.direction);
  level = reversed_level (is_backward b.direction);
}
  where
    reversed_clusters : (backward : Bool)
        → clusters (reversed_if backward b).items ≡ (if backward then reverse (clusters b.items) else clusters b.items)
    reversed_clusters true = clusters-reverse b.items
    reversed_clusters false = refl

    reversed_rising : (backward : Bool) → IsNonDecreasing (clusters b.items) → IsOrderedFor backward (clusters (reversed_if backward b).items)
    reversed_rising true rising =
        let P : List ℕ
        → Type 0 = λ xs. IsNonIncreasing xs in subst P (sym (clusters-reverse b.items)) (falls-reverse (clusters b.items) rising)
    reversed_rising false rising = rising

    reversed_falling : (backward : Bool) → IsNonIncreasing (clusters b.items)
        → IsOrderedFor (not backward) (clusters (reversed_if backward b).items)
    reversed_falling true falling =
        let P : List ℕ
        → Type 0 = λ xs. IsNonDecreasing xs in subst P (sym (clusters-reverse b.items)) (rises-reverse (clusters b.items) falling)
    reversed_falling false falling = falling

    reversed_none_new : (backward : Bool) (k : ℕ) → Contains (clusters (reversed_if backward b).items) k → Contains (clusters b.items) k
    reversed_none_new true k is =
        Contains-reverse (clusters b.items) k (let P : List ℕ → Type 0 = λ xs. Contains xs k in subst P (clusters-reverse b.items) is)
    reversed_none_new false k is = is

    reversed_direction : (backward : Bool) → (reversed_if backward b).direction ≡ b.direction
    reversed_direction true = refl
    reversed_direction false = refl

    reversed_flags : (backward : Bool) → (reversed_if backward b).flags ≡ b.flags
    reversed_flags true = refl
    reversed_flags false = refl

    reversed_level : (backward : Bool) → (reversed_if backward b).cluster_level ≡ b.cluster_level
    reversed_level true = refl
    reversed_level false = refl

flags-reversed_if : (backward : Bool) (b : Buffer) → PreservesFlags b (reversed_if backward b)
flags-reversed_if true b =
    record { flags = refl; stays_set = λ set. set; none_new = λ flag defined some. inl (sym (some_has-reverse flag b.items) ∙ some) }
flags-reversed_if false b = PreservesFlags-same b

pub flags-reversed : IsFlagPreserving reversed
unfolding reversed
flags-reversed b = flags-reversed_if (is_backward b.direction) b

as_many-reversed_if : (backward : Bool) (b : Buffer) → length b.positions ≡ length b.items
    → length (reversed_if backward b).positions ≡ length (reversed_if backward b).items
as_many-reversed_if true b as_many = length-reverse b.positions ∙ as_many ∙ sym (length-reverse b.items)
as_many-reversed_if false b as_many = as_many

pub as_many-reversed : PreservesLengths reversed
unfolding reversed
as_many-reversed b as_many = as_many-reversed_if (is_backward b.direction) b as_many
