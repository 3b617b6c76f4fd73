-- The fallback steps preserve clusters and flags: besides changing ccc, all that they do to items is to mark spans unsafe
-- to break.
use Rattle.std.proofs.Common.{◌≡◌, ℕ, ◌+◌, Bool, true, false, nat_lt, List, [], ◌∷◌, map, refl, ap, sym, ◌∙◌, inl, inr}
use Rattle.std.specs.Prelude.{Option, fold}
use Rattle.std.proofs.lemmas.Bool.{cases_Bool}
use Rattle.shape_items.specs.Buffer.{Buffer}
use Rattle.shape_items.specs.BufferClusters.{unsafe_to_break}
use Rattle.shape_items.specs.Clusters.{clusters}
use Rattle.shape_common.specs.Face.{FaceMeaning}
use Rattle.shape_items.specs.Items.{Item}
use Rattle.shape_buffer.specs.Preservation.{PreservesOrder, IsClusterPreserving, IsFlagPreserving}
use Rattle.shape_items.specs.PreservesFlags.{PreservesFlags, has_flag, some_has}
use Rattle.shape_buffer.specs.PositionWalks.{positions_mapped}
use Rattle.shape_common.specs.Unicode.{UnicodeMeaning}
use Rattle.shape_buffer.specs.Walks.{items_mapped}
use Rattle.shape_common.specs.declared.text_types.Direction.{Direction}
use Rattle.shape_common.specs.declared.text_types.Script.{Script}
use Rattle.shape_items.proofs.Flags.FlagLemmas.{PreservesFlags-same, PreservesFlags-then, PreservesFlags-items, unsafe_to_break_preserves}
use Rattle.shape_buffer.proofs.Steps.PreservationLemmas.{PreservesClusters-equal}
use Rattle.shape_plan.specs.Run.{step_if}
use Rattle.shape_plan.specs.declared.decisions.Decisions.{Decisions}
use Rattle.shape_fallback.specs.Bases.{Span, position_span, bases, marks_of, bases_positioned, bases_marked, without_positions, marks_positioned}
use Rattle.shape_fallback.specs.Preservation.{EachFallback}
use Rattle.shape_fallback.specs.Recategorized.{recategorized, recategorized_item, is_nonspacing}
use Rattle.shape_fallback.specs.Spaces.{spaces_placed}
use Rattle.shape_fallback.specs.DueSteps.{spaces_step, marks_adjusted}
use Rattle.shape_fallback.specs.declared.ot_shape_fallback.marks.MarkFrame.{MarkFrame}
use Rattle.shape_items.proofs.Merging.KeyLemmas.{keys-unsafe_to_break, without_items-unsafe_to_break}

-- ---- what leaves clusters, settings and flags alone

-- clusters, direction and level are the same, and flags are kept
record Leaves (before after : Buffer) : Type 0 where
  same_clusters : clusters after.items ≡ clusters before.items
  direction : after.direction ≡ before.direction
  level : after.cluster_level ≡ before.cluster_level
  kept : PreservesFlags before after

PreservesOrder-left : (b c : Buffer) → Leaves b c → PreservesOrder b c
PreservesOrder-left b c left = record {
  clusters = PreservesClusters-equal (clusters b.items) (clusters c.items) left.same_clusters;
  direction = left.direction;
  flags = left.kept.flags;
  level = left.level;
}

Leaves-same : (b : Buffer) → Leaves b b
Leaves-same b = record { same_clusters = refl; direction = refl; level = refl; kept = PreservesFlags-same b }

Leaves-then : (b c d : Buffer) → Leaves b c → Leaves c d → Leaves b d
Leaves-then b c d first second = record {
  same_clusters = second.same_clusters ∙ first.same_clusters;
  direction = second.direction ∙ first.direction;
  level = second.level ∙ first.level;
  kept = PreservesFlags-then b c d first.kept second.kept;
}

-- ---- the marks

leaves-break : (start end : ℕ) (b : Buffer) → Leaves b (unsafe_to_break start end b)
leaves-break start end b =
    let rest = without_items-unsafe_to_break start end b in
    record {
      same_clusters = keys-unsafe_to_break (λ x. x.cluster) (λ x. refl) start end b;
      direction = ap (λ c. c.direction) rest;
      level = ap (λ c. c.cluster_level) rest;
      kept = unsafe_to_break_preserves start end b;
    }

leaves-span : (face : FaceMeaning) (s : MarkFrame) (b : Buffer) (span : Span) → Leaves b (position_span face s b span)
unfolding position_span
leaves-span face s b span =
    let break = leaves-break span.start span.end b in
    let kept = break.kept in
    record {
      same_clusters = break.same_clusters;
      direction = break.direction;
      level = break.level;
      kept = record { flags = kept.flags; stays_set = kept.stays_set; none_new = kept.none_new };
    }

leaves-spans : (face : FaceMeaning) (s : MarkFrame) (spans : List Span) (b : Buffer) → Leaves b (fold (position_span face s) b spans)
leaves-spans face s [] b = Leaves-same b
leaves-spans face s (span ∷ spans) b =
    Leaves-then b (position_span face s b span) _ (leaves-span face s b span) (leaves-spans face s spans (position_span face s b span))

-- marking a span looks at no position
break-without_positions : (start end : ℕ) (b : Buffer)
    → without_positions (unsafe_to_break start end b) ≡ unsafe_to_break start end (without_positions b)
break-without_positions start end b = elim (cases_Bool (nat_lt (start + 1) end)) [ inl long ↦ rw long refl | inr short ↦ rw short refl ]

spans-marked : (face : FaceMeaning) (s : MarkFrame) (spans : List Span) (b c : Buffer) → without_positions b ≡ without_positions c
    → without_positions (fold (position_span face s) b spans)
    ≡ without_positions (fold (λ d span. unsafe_to_break span.start span.end d) c spans)
unfolding position_span
spans-marked face s [] b c same = same
spans-marked face s (span ∷ spans) b c same =
    spans-marked face s spans (position_span face s b span) (unsafe_to_break span.start span.end c)
    (break-without_positions span.start span.end b ∙ ap (unsafe_to_break span.start span.end) same
    ∙ sym (break-without_positions span.start span.end c))

-- positions aside, to place the marks of all bases is to mark their spans
pub bases-marked : (face : FaceMeaning) (s : MarkFrame) (b : Buffer)
    → without_positions (bases_positioned face s b) ≡ without_positions (bases_marked b)
unfolding bases_positioned bases_marked
bases-marked face s b = spans-marked face s (bases 0 (marks_of b)) b b refl

leaves-marks : (unicode : UnicodeMeaning) (face : FaceMeaning) (direction : Direction) (script : Option Script) (adjust : Bool) (b : Buffer)
    → Leaves b (marks_positioned unicode face direction script adjust b)
unfolding marks_positioned bases_positioned
leaves-marks unicode face direction script adjust b = leaves-spans face _ (bases 0 (marks_of b)) b

leaves-adjusted : (unicode : UnicodeMeaning) (face : FaceMeaning) (direction : Direction) (script : Option Script)
    (decisions : Decisions) (b : Buffer)
    → Leaves b (marks_adjusted unicode face direction script decisions b)
unfolding marks_adjusted
leaves-adjusted unicode face direction script decisions b = leaves-marks unicode face direction script _ b

-- ---- spaces move along their line alone

leaves-spaces : (face : FaceMeaning) (b : Buffer) → Leaves b (spaces_placed face b)
unfolding spaces_placed positions_mapped
leaves-spaces face b = record {
  same_clusters = refl;
  direction = refl;
  level = refl;
  kept = record { flags = refl; stays_set = λ e. e; none_new = λ flag d some. inl some };
}

-- ---- ccc are neither clusters nor masks

recategorized-cluster : (x : Item) → (recategorized_item x).cluster ≡ x.cluster
unfolding recategorized_item
recategorized-cluster x = elim (cases_Bool (is_nonspacing x)) [ inl mark ↦ rw mark refl | inr other ↦ rw other refl ]

recategorized-mask : (x : Item) → (recategorized_item x).mask ≡ x.mask
unfolding recategorized_item
recategorized-mask x = elim (cases_Bool (is_nonspacing x)) [ inl mark ↦ rw mark refl | inr other ↦ rw other refl ]

recategorized-clusters : (xs : List Item) → clusters (map recategorized_item xs) ≡ clusters xs
recategorized-clusters [] = refl
recategorized-clusters (x ∷ xs) = λ k. recategorized-cluster x k ∷ recategorized-clusters xs k

recategorized-flag : (flag : ℕ) (x : Item) → has_flag flag (recategorized_item x) ≡ has_flag flag x
recategorized-flag flag x = rw (recategorized-mask x) refl

recategorized-flags : (flag : ℕ) (xs : List Item) → some_has flag (map recategorized_item xs) ≡ some_has flag xs
recategorized-flags flag [] = refl
recategorized-flags flag (x ∷ xs) = rw (recategorized-flag flag x, recategorized-flags flag xs) refl

leaves-recategorized : (b : Buffer) → Leaves b (recategorized b)
unfolding items_mapped
leaves-recategorized b = record {
  same_clusters = recategorized-clusters b.items;
  direction = refl;
  level = refl;
  kept = PreservesFlags-items b (map recategorized_item b.items) (λ flag d some. sym (recategorized-flags flag b.items) ∙ some);
}

-- ---- the steps, which may not be due

leaves-if : (test : Bool) (f : Buffer → Buffer) → ((b : Buffer) → Leaves b (f b)) → (b : Buffer) → Leaves b (step_if test f b)
leaves-if true f leaves = leaves
leaves-if false f leaves = Leaves-same

leaves-spaces_step : (face : FaceMeaning) (b : Buffer) → Leaves b (spaces_step face b)
unfolding spaces_step
leaves-spaces_step face b = leaves-if _ (spaces_placed face) (leaves-spaces face) b

each_leaves : (unicode : UnicodeMeaning) (face : FaceMeaning) (direction : Direction) (script : Option Script) (decisions : Decisions)
    → EachFallback (λ f. (b : Buffer) → Leaves b (f b)) unicode face direction script decisions
each_leaves unicode face direction script decisions = record {
  recategorize = leaves-if _ recategorized leaves-recategorized;
  spaces = leaves-spaces_step face;
  marks = leaves-if _ _ (leaves-adjusted unicode face direction script decisions);
}

pub fallback-preserves_clusters : (unicode : UnicodeMeaning) (face : FaceMeaning) (direction : Direction) (script : Option Script)
    (decisions : Decisions)
    → EachFallback IsClusterPreserving unicode face direction script decisions
fallback-preserves_clusters unicode face direction script decisions =
    let each = each_leaves unicode face direction script decisions in
    record {
      recategorize = λ b monotone. PreservesOrder-left b _ (each.recategorize b);
      spaces = λ b monotone. PreservesOrder-left b _ (each.spaces b);
      marks = λ b monotone. PreservesOrder-left b _ (each.marks b);
    }

pub fallback-preserves_flags : (unicode : UnicodeMeaning) (face : FaceMeaning) (direction : Direction) (script : Option Script)
    (decisions : Decisions)
    → EachFallback IsFlagPreserving unicode face direction script decisions
fallback-preserves_flags unicode face direction script decisions =
    let each = each_leaves unicode face direction script decisions in
    record {
      recategorize = λ b. (each.recategorize b).kept;
      spaces = λ b. (each.spaces b).kept;
      marks = λ b. (each.marks b).kept;
    }
