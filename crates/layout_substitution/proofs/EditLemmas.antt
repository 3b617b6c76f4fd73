-- Marks leave as many items as there were, and the limit of the run.
use Rattle.std.proofs.Common.{◌≡◌, ℕ, ◌≤◌, Bool, true, false, ◌&&◌, length, nat_le, nat_lt, refl, arith, if◌then◌else◌}
use Rattle.std.proofs.lemmas.Bool.Decides.{nat_tests}
use Rattle.shape_items.specs.Buffer.{Buffer, limit_of}
use Rattle.shape_items.specs.BufferClusters.{unsafe_to_break, unsafe_to_concat, with_glyph_flags}
use Rattle.shape_items.specs.Clusters.{map_range, mark_concat}
use Rattle.shape_items.proofs.Merging.KeyLemmas.{length-map_range, length-unsafe_to_break}
use Rattle.layout_matching.specs.Tried.{untried}
use Rattle.layout_matching.specs.declared.tried.Reach.{Reach}
use Rattle.layout_substitution.specs.Edits.{asks_for_concat, broken, concat_marked}

pub length-if : (t : Bool) (n : ℕ) (x y : Buffer) → length x.items ≡ n → length y.items ≡ n
    → length (if t then x else y).items ≡ n
length-if true n x y k m = k
length-if false n x y k m = m

limit-if : (t : Bool) (n : ℕ) (x y : Buffer) → limit_of x ≡ n → limit_of y ≡ n → limit_of (if t then x else y) ≡ n
limit-if true n x y k m = k
limit-if false n x y k m = m

pub length_broken : (start end : ℕ) (b : Buffer) → length (broken start end b).items ≡ length b.items
length_broken start end b =
    length-if (nat_le start end && nat_le end (length b.items)) (length b.items) (unsafe_to_break start end b) b
    (length-unsafe_to_break start end b) refl

length-concat : (start end : ℕ) (b : Buffer) → start ≤ end → length (unsafe_to_concat start end b).items ≡ length b.items
length-concat start end b ordered =
    length-if (asks_for_concat b) (length b.items) (record (with_glyph_flags b) { items = map_range mark_concat start end b.items }) b
    (length-map_range mark_concat start end b.items ordered) refl

pub length_concat_marked : (r : Reach) (b : Buffer) → length (concat_marked r b).items ≡ length b.items
length_concat_marked r b =
    let P : Bool → Type 0 = λ t. (nat_lt r.from r.to && nat_le r.to (length b.items)) ≡ t
    → length (if t then unsafe_to_concat r.from r.to b else b).items ≡ length b.items in
    let cases : P (nat_lt r.from r.to && nat_le r.to (length b.items)) = elim (nat_lt r.from r.to && nat_le r.to (length b.items)) as P [
      | true ↦ λ t. length-concat r.from r.to b (grind (arith, nat_tests, t))
      | false ↦ λ t. refl
    ] in
    cases refl

pub limit_concat_marked : (r : Reach) (b : Buffer) → limit_of (concat_marked r b) ≡ limit_of b
limit_concat_marked r b =
    limit-if (nat_lt r.from r.to && nat_le r.to (length b.items)) (limit_of b) (unsafe_to_concat r.from r.to b) b
    (limit-if (asks_for_concat b) (limit_of b)
    (record (with_glyph_flags b) { items = map_range mark_concat r.from r.to b.items }) b refl refl) refl

-- nothing that was looked at leaves no mark
pub concat_marked_untried : (at : ℕ) (b : Buffer) → concat_marked (untried at) b ≡ b
concat_marked_untried at b =
    let none : nat_lt at at ≡ false = grind (arith, nat_tests) in
    rw none refl

-- a buffer that doesn't ask for marks gets none
pub concat_marked_unasked : (r : Reach) (b : Buffer) → asks_for_concat b ≡ false → concat_marked r b ≡ b
concat_marked_unasked r b unasked = elim (nat_lt r.from r.to && nat_le r.to (length b.items)) as
    (λ t. (if t then unsafe_to_concat r.from r.to b else b) ≡ b) [
      | true ↦ rw unasked refl
      | false ↦ refl
    ]
