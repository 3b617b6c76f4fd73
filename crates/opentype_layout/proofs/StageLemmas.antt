-- stages of lookups, one after the other
use Prim.Native.Nat.{zero}
use Rattle.std.proofs.Common.{◌≡◌, ◌++◌, ◌+◌, ◌-◌, ◌≤◌, ◌<◌, ℕ, suc, true, false, List, [], ◌∷◌, Option, Some, None, Err, Result, drop, fold, length, nat_eq, refl, sym, ap, subst, ◌∙◌, append_assoc, append-nil, slice_index_or, arith}
use Rattle.std.proofs.lemmas.Bool.Decides.{nat_tests}
use Rattle.std.proofs.lemmas.List.{drop_more}
use Rattle.std.specs.Option.{option_map_or}
use Rattle.std.specs.Prelude.{IsErrOf, OnOk}
use Rattle.shape_items.specs.Buffer.{Buffer}
use Rattle.shape_items.specs.Items.{Item}
use Rattle.shape_buffer.specs.Outcome.{IsWithinLimit, Outcome, Ran, Refused, step}
use Rattle.shape_buffer.specs.declared.buffer.error.ShapeError.{ShapeError}
use Rattle.shape_buffer.specs.declared.buffer.error.ShapeError.TheVariants.{Length}
use Rattle.layout_map.specs.declared.lookups.LookupMap.{LookupMap}
use Rattle.layout_matching.specs.Work.{walk_work}
use Rattle.layout_matching.specs.declared.lookup.Lookup.{Lookup}
use Rattle.layout_digests.specs.declared.digest.Digest.{Digest}
use Rattle.layout_digests.specs.declared.digested.Digested.{Digested}
use Rattle.layout_substitution.specs.Edits.{is_past}
use Rattle.layout_substitution.specs.declared.apply.Spot.{Spot}
use Rattle.layout_context.specs.Digested.{IsDigested, IsApart, HoldsGlyphs, MeetsNone}
use Rattle.layout_context.specs.Reverse.{is_reverse}
use Rattle.layout_context.specs.Stages.{Walk, all_looked_up, looked_up, most_levels, stage_ended, substituted}
use Rattle.layout_context.proofs.DigestLemmas.{skipped_over, unmet_over}
use Rattle.layout_context.proofs.StageLemmas.{outcome_of, past_all, refused_by}
use Rattle.opentype_layout.specs.Lookups.{lookup_of, with_lookup, lookups_of}
use Rattle.opentype_layout.specs.Stage.{made_by, made_from, after, Skips, SkipsTo}
use Rattle.opentype_layout.specs.declared.lookups.LookupTables.{LookupTables}
use Rattle.opentype_layout.specs.declared.stage.Progress.{Progress}

-- without lookups a stage makes nothing
idle : (b : Buffer) → IsWithinLimit b → Ran (step (substituted []) ∷ []) b b
unfolding substituted
idle b within = record {
  made = refl;
  each_within = (within, tt);
  within = within;
  same_limit = refl;
}

pub nothing_substituted : (t : LookupTables) (maps : List LookupMap) (b : Buffer) → nat_eq (length maps) 0 ≡ true → IsWithinLimit b
    → Ran (step (substituted (lookups_of t maps)) ∷ []) b b
nothing_substituted t [] b none within = idle b within
nothing_substituted t (m ∷ ms) b none within =
    let zero : length (m ∷ ms) ≡ 0 = grind (arith, nat_tests, none) in absurd (omega (arith, zero))

-- ---- the lookups of a stage, one by one

with_one : (t : LookupTables) (m : LookupMap) (acc rest : List Lookup) → with_lookup t acc m ++ rest ≡ acc ++ after (lookup_of t m) rest
with_one t m acc rest = by_lookup (lookup_of t m)
  where
    by_lookup : (o : Option Lookup) → option_map_or (λ l. acc ++ l ∷ []) o acc ++ rest ≡ acc ++ after o rest
    by_lookup None = refl
    by_lookup (Some l) = append_assoc acc (l ∷ []) rest

from_first : (t : LookupTables) (acc : List Lookup) (ms : List LookupMap) → fold (with_lookup t) acc ms ≡ acc ++ lookups_of t ms
from_first t acc [] = sym (append-nil acc)
from_first t acc (m ∷ ms) =
    from_first t (with_lookup t acc m) ms ∙ with_one t m acc (lookups_of t ms)
    ∙ ap (λ ls. acc ++ ls) (sym (from_first t (with_lookup t [] m) ms ∙ with_one t m [] (lookups_of t ms)))

first_lookup : (t : LookupTables) (m : LookupMap) (ms : List LookupMap) → lookups_of t (m ∷ ms) ≡ after (lookup_of t m) (lookups_of t ms)
first_lookup t m ms = from_first t (with_lookup t [] m) ms ∙ with_one t m [] (lookups_of t ms)

pub next_lookup : (t : LookupTables) (maps : List LookupMap) (k : ℕ) (x : LookupMap) → k < length maps
    → lookups_of t (drop k maps) ≡ after (lookup_of t (slice_index_or maps k x)) (lookups_of t (drop (k + 1) maps))
next_lookup t maps k x more =
    ap (lookups_of t) (drop_more maps k x more) ∙ first_lookup t (slice_index_or maps k x) (drop (k + 1) maps)

pub skips_on : (t : LookupTables) (maps : List LookupMap) (items : List Item) (from : Progress) (k left rest : ℕ) (x : LookupMap) → k < length maps
    → Skips t (slice_index_or maps k x) items left rest → SkipsTo t maps items from (record { next = k; left = left })
    → SkipsTo t maps items from (record { next = k + 1; left = rest })
skips_on t maps items from k left rest x more skips before b spot is =
    skips b spot (lookups_of t (drop (k + 1) maps)) is
    ∙ sym (ap (λ ls. made_by ls b (record spot { left = left })) (next_lookup t maps k x more)) ∙ before b spot is

pub skips_further : (t : LookupTables) (maps : List LookupMap) (items : List Item) (from here to : Progress) → SkipsTo t maps items from here
    → SkipsTo t maps items here to → SkipsTo t maps items from to
skips_further t maps items from here to before on b spot is = on b spot is ∙ before b spot is

pub one_on : (t : LookupTables) (maps : List LookupMap) (k : ℕ) (x : LookupMap) (b c : Buffer) (spot next : Spot) → k < length maps
    → ((ls : List Lookup) → made_by ls c next ≡ made_by (after (lookup_of t (slice_index_or maps k x)) ls) b spot)
    → made_from t maps (k + 1) c next ≡ made_from t maps k b spot
one_on t maps k x b c spot next more made =
    made (lookups_of t (drop (k + 1) maps)) ∙ sym (ap (λ ls. made_by ls b spot) (next_lookup t maps k x more))

pub one_past : (t : LookupTables) (maps : List LookupMap) (k : ℕ) (x : LookupMap) (b : Buffer) (spot : Spot) → k < length maps
    → ((ls : List Lookup) → is_past (made_by (after (lookup_of t (slice_index_or maps k x)) ls) b spot) ≡ true)
    → is_past (made_from t maps k b spot) ≡ true
one_past t maps k x b spot more past =
    ap (λ ls. is_past (made_by ls b spot)) (next_lookup t maps k x more) ∙ past (lookups_of t (drop (k + 1) maps))

pub none_left : {X : Type 0} (xs : List X) (n : ℕ) → length xs ≤ n → drop n xs ≡ []
none_left [] zero over = refl
none_left [] (suc n) over = refl
none_left (x ∷ xs) zero over = absurd (omega (arith, over))
none_left (x ∷ xs) (suc n) over = none_left xs n (omega (arith, over))

pub stage_over : (t : LookupTables) (maps : List LookupMap) (k : ℕ) (b : Buffer) (spot : Spot) → length maps ≤ k
    → made_from t maps k b spot ≡ record b { max_ops = spot.left }
stage_over t maps k b spot over = ap (λ ms. made_by (lookups_of t ms) b spot) (none_left maps k over)

-- ---- lookups that do nothing

pub none_skips : (t : LookupTables) (m : LookupMap) (items : List Item) (left : ℕ) → None ≡ lookup_of t m → Skips t m items left left
none_skips t m items left none b spot ls is = ap (λ o. made_by (after o ls) b (record spot { left = left })) none

pub idle_skips : (t : LookupTables) (m : LookupMap) (d : Digested) (run : Digest) (items : List Item) (count left work rest : ℕ)
    → Some d.lookup ≡ lookup_of t m → IsDigested d → HoldsGlyphs run items → length items ≡ count → work ≡ walk_work d.lookup count
    → (work ≤ left → IsApart run d) → rest ≡ left - work → Skips t m items left rest
idle_skips t m d run items count left work rest there said held many cost apart less b spot ls is =
    let same : work ≡ walk_work d.lookup (length b.items) = cost ∙ ap (walk_work d.lookup) (sym (ap length is ∙ many)) in
    let here : Spot = record spot { left = left } in
    ap (λ n. made_by ls b (record spot { left = n })) (less ∙ ap (λ n. left - n) same)
    ∙ sym (skipped_over most_levels d ls b here run said (subst (HoldsGlyphs run) (sym is) held)
    (subst (λ n. n ≤ left → IsApart run d) same apart))
    ∙ ap (λ o. made_by (after o ls) b here) there

pub unmet_skips : (t : LookupTables) (m : LookupMap) (d : Digested) (items : List Item) (left work rest : ℕ)
    → Some d.lookup ≡ lookup_of t m → IsDigested d → work ≡ walk_work d.lookup (length items) → is_reverse d.lookup ≡ false
    → MeetsNone d items (length items) → rest ≡ left - work → Skips t m items left rest
unmet_skips t m d items left work rest there said cost forwards none less b spot ls is =
    let same : work ≡ walk_work d.lookup (length b.items) = cost ∙ ap (λ xs. walk_work d.lookup (length xs)) (sym is) in
    let here : Spot = record spot { left = left } in
    ap (λ n. made_by ls b (record spot { left = n })) (less ∙ ap (λ n. left - n) same)
    ∙ sym (unmet_over most_levels d ls b here said forwards (subst (λ xs. MeetsNone d xs (length xs)) (sym is) none))
    ∙ ap (λ o. made_by (after o ls) b here) there

-- ---- the outcome

pub one_made : (t : LookupTables) (m : LookupMap) (l : Lookup) (b c : Buffer) (spot next : Spot) → Some l ≡ lookup_of t m
    → record { buffer = c; spot = next } ≡ looked_up most_levels l (record { buffer = b; spot = spot })
    → (ls : List Lookup) → made_by ls c next ≡ made_by (after (lookup_of t m) ls) b spot
one_made t m l b c spot next there is ls =
    ap (λ (w : Walk). stage_ended (all_looked_up most_levels ls w)) is ∙ ap (λ o. made_by (after o ls) b spot) there

pub one_past_limit : (t : LookupTables) (m : LookupMap) (l : Lookup) (b : Buffer) (spot : Spot) → Some l ≡ lookup_of t m
    → is_past (looked_up most_levels l (record { buffer = b; spot = spot })).buffer ≡ true
    → (ls : List Lookup) → is_past (made_by (after (lookup_of t m) ls) b spot) ≡ true
one_past_limit t m l b spot there past ls =
    sym (ap (λ o. is_past (made_by (after o ls) b spot)) there)
    ∙ past_all most_levels ls (looked_up most_levels l (record { buffer = b; spot = spot })) past

pub stage_refused : {T : Type 0} (t : LookupTables) (maps : List LookupMap) (b : Buffer) (error : ShapeError)
    → (IsErrOf {T = T} (Err error) Length → is_past (made_from t maps 0 b (record { at = 0; random = 1; left = b.max_ops; whole = 0 })) ≡ true)
    → Refused (step (substituted (lookups_of t maps)) ∷ []) b error
unfolding substituted
stage_refused {T} t maps b error past = refused_by {T = T} most_levels (lookups_of t maps) b error past

pub stage_outcome : {T : Type 0} (t : LookupTables) (maps : List LookupMap) (b c : Buffer) (result : Result T ShapeError)
    → c ≡ made_from t maps 0 b (record { at = 0; random = 1; left = b.max_ops; whole = 0 })
    → OnOk result (IsWithinLimit c) → (IsErrOf result Length → is_past c ≡ true)
    → Outcome (step (substituted (lookups_of t maps))) b c result
unfolding substituted
stage_outcome t maps b c result is within past = outcome_of most_levels (lookups_of t maps) b c result is within past
