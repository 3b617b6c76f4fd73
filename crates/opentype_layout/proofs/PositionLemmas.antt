-- lookups of positioning, each made ready where it is its turn
use Rattle.std.proofs.Common.{◌≡◌, ◌+◌, ◌-◌, ◌≤◌, ◌<◌, ℕ, Bool, true, false, List, ◌∷◌, Some, None, drop, fold, length, sym, ap, subst, ◌∙◌, slice_index_or}
use Rattle.shape_items.specs.Buffer.{Buffer}
use Rattle.layout_digests.specs.Digests.{has}
use Rattle.layout_digests.specs.Stored.{IsStoredAt}
use Rattle.layout_digests.specs.WholeRules.{HoldWholes}
use Rattle.layout_digests.specs.declared.digest.Digest.{Digest}
use Rattle.layout_digests.specs.declared.digested.Digested.{Digested}
use Rattle.layout_digests.specs.declared.stored.Head.{Head}
use Rattle.layout_digests.specs.declared.stored.StoredLookup.{StoredLookup}
use Rattle.layout_map.specs.declared.lookups.LookupMap.{LookupMap}
use Rattle.layout_matching.specs.Work.{walk_work}
use Rattle.layout_matching.specs.declared.lookup.Lookup.{Lookup}
use Rattle.layout_positions.specs.Digested.{HoldsGlyphs}
use Rattle.layout_positions.specs.Walk.{Budgeted, lookup_applied}
use Rattle.layout_positions.proofs.DigestLemmas.{passed_over}
use Rattle.opentype_layout.specs.Digested.{IsSaid}
use Rattle.opentype_layout.specs.Lookups.{lookup_by, lookup_of, lookups_of}
use Rattle.opentype_layout.specs.Stage.{after}
use Rattle.opentype_layout.specs.declared.lookups.LookupTables.{LookupTables}
use Rattle.opentype_layout.specs.declared.lookups.Stored.{Stored}
use Rattle.opentype_layout.proofs.DigestLemmas.{positions-one}
use Rattle.opentype_layout.proofs.StageLemmas.{next_lookup, none_left}
use Rattle.opentype_layout.proofs.StoredLemmas.{known_said, known_some}

pub placed_on : (t : LookupTables) (maps : List LookupMap) (k : ℕ) (x : LookupMap) (l : Lookup) (here next made : Budgeted) → k < length maps
    → Some l ≡ lookup_of t (slice_index_or maps k x) → next ≡ lookup_applied here l
    → fold lookup_applied here (lookups_of t (drop k maps)) ≡ made → fold lookup_applied next (lookups_of t (drop (k + 1) maps)) ≡ made
placed_on t maps k x l here next made more there is before =
    let rest = lookups_of t (drop (k + 1) maps) in
    let first : lookups_of t (drop k maps) ≡ l ∷ rest = next_lookup t maps k x more ∙ ap (λ o. after o rest) (sym there) in
    ap (λ s. fold lookup_applied s rest) is ∙ sym (ap (fold lookup_applied here) first) ∙ before

pub none_placed : (t : LookupTables) (maps : List LookupMap) (k : ℕ) (x : LookupMap) (here made : Budgeted) → k < length maps
    → None ≡ lookup_of t (slice_index_or maps k x)
    → fold lookup_applied here (lookups_of t (drop k maps)) ≡ made → fold lookup_applied here (lookups_of t (drop (k + 1) maps)) ≡ made
none_placed t maps k x here made more there before =
    let rest = lookups_of t (drop (k + 1) maps) in
    let first : lookups_of t (drop k maps) ≡ rest = next_lookup t maps k x more ∙ ap (λ o. after o rest) (sym there) in
    sym (ap (fold lookup_applied here) first) ∙ before

pub placed_over : (t : LookupTables) (maps : List LookupMap) (k : ℕ) (here made : Budgeted) → length maps ≤ k
    → fold lookup_applied here (lookups_of t (drop k maps)) ≡ made → here ≡ made
placed_over t maps k here made over before =
    sym (ap (λ ms. fold lookup_applied here (lookups_of t ms)) (none_left maps k over)) ∙ before

-- a lookup whose digest holds no glyph of the list is charged for its walk, and does nothing more
idle_placed : (t : LookupTables) (m : LookupMap) (stored : Stored) (s : StoredLookup) (h : Head) (run : Digest) (b : Buffer)
    (left next count work : ℕ) → t.positioning ≡ true → IsStoredAt t.table.now t.positioning m.index stored.firsts.now s
    → HoldWholes t.table.now t.positioning stored.wholes.now → s.head ≡ Some h → HoldsGlyphs run b.items
    → ((glyph : ℕ) → has run glyph ≡ true → has s.digest glyph ≡ false) → work ≡ walk_work (lookup_by t m h) count
    → next ≡ left - work → count ≡ length b.items
    → record { buffer = b; left = next } ≡ lookup_applied (record { buffer = b; left = left }) (lookup_by t m h)
idle_placed t m stored s h run b left next count work gpos known wholes is held apart cost less many =
    let d : Digested = record {
      lookup = lookup_by t m h;
      digest = s.digest;
      firsts = record { all = stored.firsts; from = s.from; count = s.count; wholes = stored.wholes; index = m.index };
    } in
    let said : IsSaid t.positioning d = known_said t m stored s h known wholes is in
    passed_over d b left next count run (positions-one d (subst (λ (p : Bool). IsSaid p d) gpos said)) held apart
    (less ∙ ap (λ n. left - n) cost) many

pub idle_on : (t : LookupTables) (maps : List LookupMap) (k : ℕ) (x : LookupMap) (stored : Stored) (s : StoredLookup) (h : Head) (run : Digest)
    (b : Buffer) (left next count work : ℕ) (made : Budgeted) → k < length maps → t.positioning ≡ true
    → IsStoredAt t.table.now t.positioning (slice_index_or maps k x).index stored.firsts.now s
    → HoldWholes t.table.now t.positioning stored.wholes.now → s.head ≡ Some h → HoldsGlyphs run b.items
    → ((glyph : ℕ) → has run glyph ≡ true → has s.digest glyph ≡ false)
    → ((m : LookupMap) → work ≡ walk_work (lookup_by t m h) count) → next ≡ left - work → count ≡ length b.items
    → fold lookup_applied (record { buffer = b; left = left }) (lookups_of t (drop k maps)) ≡ made
    → fold lookup_applied (record { buffer = b; left = next }) (lookups_of t (drop (k + 1) maps)) ≡ made
idle_on t maps k x stored s h run b left next count work made more gpos known wholes is held apart cost less many before =
    let m = slice_index_or maps k x in
    let l : Lookup = lookup_by t m h in
    placed_on t maps k x l (record { buffer = b; left = left }) (record { buffer = b; left = next }) made more
    (known_some t m stored.firsts.now s h known is)
    (idle_placed t m stored s h run b left next count work gpos known wholes is held apart (cost m) less many) before
