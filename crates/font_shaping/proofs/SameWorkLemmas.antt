-- steps that leave what lookups may ask for as it is
use Rattle.std.proofs.Common.{◌≡◌, ℕ, List, [], ◌∷◌, Bool, true, false, ◌==◌, ◌≤◌, fold, if◌then◌else◌, refl, ap, ◌∙◌, arith, bit_and, inl, inr}
use Rattle.std.proofs.lemmas.Bool.{cases_Bool}
use Rattle.shape_common.specs.FlagNames.{PRODUCE_UNSAFE_TO_CONCAT}
use Rattle.shape_common.specs.declared.text_types.BufferClusterLevel.{BufferClusterLevel}
use Rattle.shape_common.specs.declared.text_types.BufferClusterLevel.TheVariants.{MonotoneGraphemes, MonotoneCharacters, Characters}
use Rattle.shape_items.proofs.Merging.KeyLemmas.{without_items-unsafe_to_break, without_items-merge_clusters}
use Rattle.shape_items.specs.Buffer.{Buffer}
use Rattle.shape_items.specs.BufferClusters.{unsafe_to_break, unsafe_to_concat, merge_clusters, merge_out_clusters, merge_at}
use Rattle.shape_items.specs.Items.{Item}
use Rattle.shape_buffer.specs.Walks.{items_mapped}
use Rattle.opentype_layout.specs.Tries.{NeverRaises}

abbrev pub Same : Buffer → Buffer → Type 0
Same b c = c.max_ops ≡ b.max_ops

abbrev pub Stays : (Buffer → Buffer) → Type 0
Stays f = (b : Buffer) → Same b (f b)

pub same-unchanged : Stays (λ b. b)
same-unchanged b = refl

pub same-less : (b c : Buffer) → Same b c → c.max_ops ≤ b.max_ops
same-less b c is = let same : c.max_ops ≡ b.max_ops = is in omega (arith, same)

pub never : (f : Buffer → Buffer) → Stays f → NeverRaises f
never f stays b = same-less b (f b) (stays b)

pub same-if : (t : Bool) (b x y : Buffer) → Same b x → Same b y → Same b (if t then x else y)
same-if true b x y one two = one
same-if false b x y one two = two

pub stays-if : (t : Bool) (f g : Buffer → Buffer) → Stays f → Stays g → Stays (if t then f else g)
stays-if true f g one two b = one b
stays-if false f g one two b = two b

pub same-fold : {X : Type 0} (g : Buffer → X → Buffer) → ((b : Buffer) (x : X) → Same b (g b x)) → (xs : List X) (b : Buffer)
    → Same b (fold g b xs)
same-fold g each [] b = refl
same-fold g each (x ∷ xs) b = same-fold g each xs (g b x) ∙ each b x

pub same-break : (start end : ℕ) → Stays (unsafe_to_break start end)
same-break start end b = ap (λ (c : Buffer). c.max_ops) (without_items-unsafe_to_break start end b)

pub same-merge : (start end : ℕ) → Stays (merge_clusters start end)
same-merge start end b = ap (λ (c : Buffer). c.max_ops) (without_items-merge_clusters start end b)

pub same-merge_out : (start end : ℕ) → Stays (merge_out_clusters start end)
same-merge_out start end b = at_level b.cluster_level
  where
    at_level : (level : BufferClusterLevel) → Same b (elim level as (λ v. Buffer) [
      | MonotoneGraphemes ↦ merge_at start end b
      | MonotoneCharacters ↦ merge_at start end b
      | Characters ↦ b
    ])
    at_level MonotoneGraphemes = refl
    at_level MonotoneCharacters = refl
    at_level Characters = refl

pub same-concat : (start end : ℕ) → Stays (unsafe_to_concat start end)
same-concat start end b = elim (cases_Bool (bit_and b.flags.0 PRODUCE_UNSAFE_TO_CONCAT == PRODUCE_UNSAFE_TO_CONCAT)) [
  | inl asked ↦ rw asked refl
  | inr unasked ↦ rw unasked refl
]

pub same-mapped : (f : Item → Item) → Stays (items_mapped f)
unfolding items_mapped
same-mapped f b = refl
